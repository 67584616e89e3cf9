use Rattle.std.proofs.Common.{◌≡◌, drop}
use Rattle.lang_base.specs.Apart.{apart_by_some}
use Rattle.region_paths.proofs.apart.apart_by_some.Given as goal

abbrev pub invariant-loop-c : goal.invariant-loop-c
invariant-loop-c l = apart_by_some (drop l.c-index l.given) l.a l.b ≡ apart_by_some l.given l.a l.b
