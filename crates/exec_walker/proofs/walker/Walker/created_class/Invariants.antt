use Rattle.exec_frames.specs.Names.{In_order}
use Rattle.exec_walker.proofs.walker.Walker.created_class.Given as goal

abbrev pub ghost-concrete_all : goal.ghost-concrete_all
ghost-concrete_all a = In_order
