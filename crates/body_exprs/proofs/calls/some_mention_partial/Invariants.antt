use Rattle.std.proofs.Common.{◌≡◌, drop}
use Rattle.body_exprs.specs.Partial.{some_mention_partial}
use Rattle.body_exprs.proofs.calls.some_mention_partial.Given as goal

abbrev pub invariant-loop-ty : goal.invariant-loop-ty
invariant-loop-ty l = some_mention_partial l.owned (drop l.ty-index l.types) ≡ some_mention_partial l.owned l.types
