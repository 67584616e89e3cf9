use Rattle.code_listing.proofs.Plain.{reported_plainly}
use Rattle.code_listing.proofs.laws.law_plain.Goals as goal

pub returns : goal.returns
returns c = λ code placed. reported_plainly code.bodies placed
