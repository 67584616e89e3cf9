use Rattle.sound_bodies.proofs.table.Lineage.{supers_agree}
use Rattle.sound_bodies.proofs.table.Reported.{table_tells}
use Rattle.sound_bodies.proofs.scope.Unnamed.{all_signed}
use Rattle.sound_bodies.proofs.laws.law_table.Goals as goal

pub returns : goal.returns
returns c = record {
  tells = λ program table bodies written accepted. table_tells program table bodies written accepted;
  supers = λ program table bodies written accepted. supers_agree program table bodies accepted;
  signed = λ program table bodies written accepted. all_signed program table bodies accepted;
}
