-- One task more in the map.
use Rattle.std.proofs.Common.{subst, sym}
use Rattle.exec_locks.specs.Locks.{AllRoot}
use Rattle.exec_world.specs.Waits.{wanted, AllWantRoots}
use Rattle.exec_world.proofs.Maps.{each_put}
use Rattle.exec_world.proofs.waits.Waits.insert.Goals as goal

pub invariant_of-self-2 : goal.invariant_of-self-2
invariant_of-self-2 c =
    subst AllWantRoots (sym c.in_ok-insert.ensures.ok) (each_put (λ o. AllRoot (wanted o)) c.self.inside.map c.args.task c.args.effects c.self.invariant c.requires)
