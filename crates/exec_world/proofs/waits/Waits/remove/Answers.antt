-- One task fewer in the map.
use Rattle.std.proofs.Common.{subst, sym}
use Rattle.exec_locks.specs.Locks.{AllRoot}
use Rattle.exec_world.specs.Waits.{wanted, AllWantRoots}
use Rattle.exec_world.proofs.Maps.{each_taken}
use Rattle.exec_world.proofs.waits.Waits.remove.Goals as goal

pub invariant_of-self : goal.invariant_of-self
invariant_of-self c = subst AllWantRoots (sym c.remove.ensures.removed) (each_taken (λ o. AllRoot (wanted o)) c.self.inside.map c.args.task c.self.invariant tt)
