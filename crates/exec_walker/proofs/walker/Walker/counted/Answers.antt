use Rattle.std.proofs.Common.{◌∙◌, ◌+◌, ap, subst, map}
use Rattle.lang_typed.specs.declared.stmt.Stmt.{Stmt}
use Rattle.lang_typed.specs.Plain.{plain_expr, plain_stmt}
use Rattle.lang_meaning.specs.Counts.{slot_value}
use Rattle.lang_meaning.specs.Statements.{with_value}
use Rattle.exec_walker.specs.Walk.{without}
use Rattle.exec_walker.specs.Walk.{Level as Body}
use Rattle.exec_walker.specs.Forms.{parts_from}
use Rattle.exec_walker.specs.States.{ComesTo, plain_level, plain_waiting}
use Rattle.exec_walker.proofs.Parting.{counts_at}
use Rattle.exec_walker.proofs.walker.Walker.counted.Goals as goal

pub returns : goal.returns
returns c = λ P L w h.
    let l = c.args.parts in
    let k = l.part.number in
    let s = plain_stmt l.body.now in
    let g = plain_level c.args.self.now.level in
    let ws = map plain_waiting c.args.self.now.waiting in
    subst (λ x. ComesTo L c.parts_from.result c.parts_from.new.self x)
    (ap (λ (b : Body). parts_from l.place k l.source.now (plain_stmt c.get.result.now) b ws w) c.take_count.ensures
    ∙ ap (λ (b : Stmt). parts_from l.place k l.source.now (plain_stmt b) (record (without 1 g) { frame = with_value g.frame (k + 3) (slot_value g.operands 0) }) ws w) c.get.ensures
    ∙ counts_at P l.place k (plain_expr l.count.now) s g ws w l.source.now)
    (c.parts_from.ensures L w h)
