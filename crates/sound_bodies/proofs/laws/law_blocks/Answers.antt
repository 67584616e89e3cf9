use Rattle.sound_lemmas.proofs.StatementSteps.{in_block_of}
use Rattle.sound_bodies.proofs.statements.Bodies.{block_agrees}
use Rattle.sound_bodies.proofs.laws.law_blocks.Goals as goal

pub returns : goal.returns
returns c = record {
  blocks = λ P signed L params around reads assigns w ready all fits all_reads all_writes made u d room nd_free.
      block_agrees P signed L params around reads assigns w ready all fits all_reads all_writes made u (in_block_of d) room nd_free;
}
