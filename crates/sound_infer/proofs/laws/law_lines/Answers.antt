use Rattle.sound_infer.proofs.reading.Lines.{lines_accepted, lines_read, lines_say}
use Rattle.sound_infer.proofs.laws.law_lines.Goals as goal

pub returns : goal.returns
returns c = record {
  read = λ text tree P S accepted. lines_read text tree P S accepted;
  say = λ text tree new P S accepted h. lines_say text tree P S accepted new h;
  accepted = lines_accepted;
}
