use Rattle.lang_meaning.proofs.Samples.{branches_in_order, counts_from_five, reads_written, runs_loops}
use Rattle.lang_meaning.proofs.laws.law_elision.Goals as goal

pub returns : goal.returns
returns c = record { branches = branches_in_order; counts = counts_from_five; reads = reads_written; loops = runs_loops }
