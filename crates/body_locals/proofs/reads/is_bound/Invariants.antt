use Rattle.std.proofs.Common.{◌≡◌, drop}
use Rattle.body_locals.specs.Touches.{is_bound}
use Rattle.body_locals.proofs.reads.is_bound.Given as goal

abbrev pub invariant-loop-suffix : goal.invariant-loop-suffix
invariant-loop-suffix l = is_bound l.name (drop l.suffix-index l.suffixes) ≡ is_bound l.name l.suffixes
