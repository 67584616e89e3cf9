use Rattle.std.proofs.Common.{◌∙◌, ap, subst, map}
use Rattle.lang_typed.specs.Plain.{plain_expr, plain_stmt}
use Rattle.exec_walker.specs.Agenda.{counted, evaluate}
use Rattle.exec_walker.specs.Walk.{At, doing}
use Rattle.exec_walker.specs.Walk.{Level as Body}
use Rattle.exec_walker.specs.States.{ComesTo, plain_level, plain_parts, plain_waiting}
use Rattle.exec_walker.proofs.Parting.{begins_at}
use Rattle.exec_walker.proofs.walker.Walker.begin_parts.Goals as goal

pub returns : goal.returns
returns c = λ P L w h.
    let l = c.args.parts in
    let many = plain_expr l.count.now in
    let ws = map plain_waiting c.args.self.now.waiting in
    subst (λ x. ComesTo L c.next.result c.next.new.self x)
    (ap (λ (b : Body). At (doing (evaluate many) b) ws w) (ap plain_level c.in_ok-will.ensures)
    ∙ ap (λ (b : Body). At (doing (evaluate many) (doing (counted (plain_parts l)) b)) ws w) c.start_parts.ensures
    ∙ begins_at P l.place l.part.number many (plain_stmt l.body.now) (plain_level c.args.self.now.level) ws w l.source.now)
    (c.next.ensures L w h)
