use Rattle.exec_frames.proofs.classes.handed_up.Given as goal

abbrev pub ghost-concrete_all : goal.ghost-concrete_all
ghost-concrete_all g a = g.reading
