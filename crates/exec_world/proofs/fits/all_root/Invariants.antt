use Rattle.std.proofs.Common.{◌↔◌, drop}
use Rattle.exec_locks.specs.Locks.{AllRoot}
use Rattle.exec_world.proofs.fits.all_root.Given as goal

abbrev pub invariant-loop-effect : goal.invariant-loop-effect
invariant-loop-effect l = AllRoot l.effects ↔ AllRoot (drop l.effect-index l.effects)
