use Rattle.code_scheme.specs.Whole.{number_in, compiled}
use Rattle.code_scheme.proofs.Theorems.{one_reply, never_stuck}
use Rattle.code_scheme.proofs.Whole.{laid_out}
use Rattle.code_scheme.proofs.laws.law_solo.Goals as goal

pub returns-clause-one : goal.returns-clause-one
returns-clause-one g c = λ names C b got r s x y. one_reply names C b got r s x y

pub returns-clause-never : goal.returns-clause-never
returns-clause-never g c = λ names P resolved b t h got. never_stuck names (compiled P) P (number_in P) (laid_out P) resolved b t h got
