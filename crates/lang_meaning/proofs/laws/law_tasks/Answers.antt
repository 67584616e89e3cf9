use Rattle.lang_meaning.proofs.Coherent.{each_coherent}
use Rattle.lang_meaning.proofs.Tasks.{asks_disciplined, asks_lively, asks_in_turn, asks_paced}
use Rattle.lang_meaning.proofs.Ticks.{loops_again}
use Rattle.lang_meaning.proofs.laws.law_tasks.Goals as goal

pub returns : goal.returns
returns g c = record {
  disciplined = asks_disciplined;
  lively = asks_lively;
  in_turn = asks_in_turn;
  paced = asks_paced;
  loops = loops_again;
  coherent = each_coherent;
}
