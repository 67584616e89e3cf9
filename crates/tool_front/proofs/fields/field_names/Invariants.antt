use Rattle.std.proofs.Common.{◌≡◌, ◌++◌, drop, map}
use Rattle.syntax_means.specs.Declares.{own_fields, spelled}
use Rattle.tool_front.specs.Judging.{field_names_in}
use Rattle.tool_front.proofs.fields.field_names.Given as goal

abbrev pub invariant-loop-class : goal.invariant-loop-class
invariant-loop-class l =
    l.fields ++ map (λ class. map (λ field. spelled l.tree field.name) (own_fields class)) (drop l.class-index l.class-items) ≡ field_names_in l.tree
