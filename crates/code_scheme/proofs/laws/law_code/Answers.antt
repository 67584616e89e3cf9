use Rattle.code_scheme.specs.Whole.{number_in, compiled}
use Rattle.code_scheme.proofs.Theorems.{code_is_right}
use Rattle.code_scheme.proofs.Bodies.{bodies_are_compiled}
use Rattle.code_scheme.proofs.Whole.{laid_out, members_are_compiled}
use Rattle.code_scheme.proofs.laws.law_code.Goals as goal

pub returns-clause-right : goal.returns-clause-right
returns-clause-right g c = λ names P resolved b t h got. code_is_right names (compiled P) P (number_in P) (laid_out P) resolved b t h got

pub returns-clause-members : goal.returns-clause-members
returns-clause-members g c = λ P resolved n m e f. members_are_compiled P resolved n m e f

pub returns-clause-bodies : goal.returns-clause-bodies
returns-clause-bodies g c = λ P resolved j l. bodies_are_compiled P resolved j l
