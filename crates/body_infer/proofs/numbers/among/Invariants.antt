use Rattle.std.proofs.Common.{◌≡◌, ◌==◌, drop}
use Rattle.std.specs.List.{list_any}
use Rattle.body_infer.proofs.numbers.among.Given as goal

abbrev pub invariant-loop-n : goal.invariant-loop-n
invariant-loop-n l = list_any (λ n. n == l.number) (drop l.n-index l.numbers) ≡ list_any (λ n. n == l.number) l.numbers
