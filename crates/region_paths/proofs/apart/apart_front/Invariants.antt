use Rattle.std.proofs.Common.{◌≡◌, drop}
use Rattle.lang_base.specs.Apart.{apart_front}
use Rattle.region_paths.proofs.apart.apart_front.Given as goal

abbrev pub invariant-loop-i : goal.invariant-loop-i
invariant-loop-i l = apart_front (drop l.i l.a) (drop l.i l.b) ≡ apart_front l.a l.b
