-- Below the number of the next task stand all that are ready.
use Rattle.std.proofs.Common.{ℕ, ◌≤◌, sym, subst}
use Rattle.exec_world.specs.Ready.{IsReady}
use Rattle.exec_world.specs.declared.world.World.{World}
use Rattle.exec_world.proofs.Freely.{none_yet, greatest_of}
use Rattle.exec_world.proofs.queued.QueuedWorld.next_ready.Goals as goal

pub returns-clause-next : goal.returns-clause-next
returns-clause-next c =
    greatest_of c.args.self.now c.begun-begun.result
    (subst (λ (w : World). (q : ℕ) → c.begun-begun.result ≤ q → IsReady w q → ⊥) c.self.view_is
    (subst (λ n. (q : ℕ) → n ≤ q → IsReady c.self.inside.world q → ⊥) (sym c.begun-begun.ensures.number)
    (none_yet c.self.inside.world c.begun-begun.ensures.all)))
    c.ready_below.result c.ready_below.ensures.next
