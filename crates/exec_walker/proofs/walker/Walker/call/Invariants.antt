use Rattle.exec_frames.specs.Names.{In_order}
use Rattle.exec_walker.proofs.walker.Walker.call.Given as goal

abbrev pub ghost-concrete_all : goal.ghost-concrete_all
ghost-concrete_all a = In_order

abbrev pub ghost-some_long : goal.ghost-some_long
ghost-some_long a = In_order

abbrev pub ghost-class_entered : goal.ghost-class_entered
ghost-class_entered a = In_order
