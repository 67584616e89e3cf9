use Rattle.exec_frames.specs.Names.{In_order}
use Rattle.exec_frames.proofs.entries.entered.Given as goal

abbrev pub ghost-fresh_frame : goal.ghost-fresh_frame
ghost-fresh_frame a = In_order
