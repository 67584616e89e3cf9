use Rattle.exec_frames.specs.Names.{In_order}
use Rattle.exec_walker.proofs.walker.Walker.enter_row.Given as goal

abbrev pub ghost-regions_above : goal.ghost-regions_above
ghost-regions_above a = In_order
