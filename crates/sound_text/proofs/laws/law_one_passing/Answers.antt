use Rattle.sound_text.proofs.Alone.{one_verdict, one_passing, one_naming}
use Rattle.sound_text.proofs.Every.{some_verdict}
use Rattle.sound_text.proofs.laws.law_one_passing.Goals as goal

pub returns : goal.returns
returns c = record {
  one = one_passing c.one_cutting.ensures c.one_program.ensures;
  naming = one_naming c.one_cutting.ensures c.one_program.ensures;
  verdict = one_verdict
      (some_verdict c.law_each_text.ensures.some c.law_each_reading.ensures.some)
      c.one_cutting.ensures c.one_program.ensures c.one_refusal.ensures;
}
