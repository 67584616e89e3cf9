use Rattle.code_fit.proofs.Typed.{typed_is_roomy}
use Rattle.code_fit.proofs.Theorems.{code_is_fit, typed_is_closed}
use Rattle.code_fit.proofs.laws.law_fit.Goals as goal

pub returns-clause-compiled : goal.returns-clause-compiled
returns-clause-compiled g P = λ resolved roomy. code_is_fit P resolved roomy

pub returns-clause-roomy : goal.returns-clause-roomy
returns-clause-roomy g P = λ W. typed_is_roomy P W

pub returns-clause-closed : goal.returns-clause-closed
returns-clause-closed g P = λ W. typed_is_closed P W
