use Rattle.exec_run.proofs.Seeded.{one_draw}
use Rattle.exec_run.proofs.laws.law_one_draw.Goals as goal

pub returns : goal.returns
returns c = one_draw
