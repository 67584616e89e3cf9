use Rattle.exec_frames.specs.Names.{In_order}
use Rattle.exec_walker.proofs.walker.Walker.create_array.Given as goal

abbrev pub ghost-concrete : goal.ghost-concrete
ghost-concrete a = In_order

abbrev pub ghost-is_long : goal.ghost-is_long
ghost-is_long a = In_order
