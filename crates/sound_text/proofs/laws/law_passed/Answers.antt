use Rattle.sound_text.proofs.Keeping.{passed_keeps}
use Rattle.sound_text.proofs.laws.law_passed.Goals as goal

pub returns : goal.returns
returns c = record {
  keeps = passed_keeps c.law_well_typed.ensures.well_typed c.law_resolved.ensures c.law_written.ensures.written c.law_width.ensures.narrow
      c.law_has_rows.ensures.has_rows;
}
