use Rattle.runs_theory.proofs.Theorems.{blocks_by_standing}
use Rattle.runs_theory.proofs.runs.Written.{legal_faithful}
use Rattle.runs_theory.proofs.laws.law_blocks.Goals as goal

pub returns : goal.returns
returns c = record { by_standing = blocks_by_standing; faithful = legal_faithful }
