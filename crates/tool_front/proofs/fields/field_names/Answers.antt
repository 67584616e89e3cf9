use Rattle.std.proofs.Common.{map}
use Rattle.syntax_means.specs.Declares.{own_fields, spelled}
use Rattle.tool_front.specs.Judging.{field_names_in}
use Rattle.tool_front.proofs.Spelling.{mapped_more}
use Rattle.tool_front.proofs.fields.field_names.Goals as goal

pub loop-class-preserved : goal.loop-class-preserved
loop-class-preserved c =
    let tree = c.args.tree.now in
    mapped_more (λ class. map (λ field. spelled tree field.name) (own_fields class)) c.as_slice-class-items.result.now c.loop-class.class-index c.class-item.result c.in_ok-own_names.field-0
    c.loop-class.fields c.push.new.self (field_names_in tree) c.loop-class-test.true c.class-item.is c.in_ok-own_names.ensures c.in_ok-push.ensures.ok c.loop-class.invariant
