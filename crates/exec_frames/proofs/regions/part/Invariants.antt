use Rattle.exec_frames.proofs.regions.part.Given as goal

abbrev pub ghost-index_in : goal.ghost-index_in
ghost-index_in g a = g.reading

abbrev pub ghost-local : goal.ghost-local
ghost-local g a = g.reading
