use Rattle.std.proofs.Common.{◌≡◌, drop, reverse}
use Rattle.lang_base.specs.Apart.{apart_front}
use Rattle.region_paths.proofs.apart.apart_back.Given as goal

abbrev pub invariant-loop-i : goal.invariant-loop-i
invariant-loop-i l = apart_front (drop l.i (reverse l.a)) (drop l.i (reverse l.b)) ≡ apart_front (reverse l.a) (reverse l.b)
