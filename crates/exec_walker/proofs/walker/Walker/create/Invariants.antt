use Rattle.exec_frames.specs.Names.{In_order}
use Rattle.exec_walker.proofs.walker.Walker.create.Given as goal

abbrev pub ghost-some_long : goal.ghost-some_long
ghost-some_long a = In_order
