use Rattle.exec_frames.proofs.entries.fresh_frame.Given as goal

abbrev pub ghost-unmade : goal.ghost-unmade
ghost-unmade g a = g.reading
