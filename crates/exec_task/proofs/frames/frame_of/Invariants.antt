use Rattle.exec_frames.specs.Names.{Of_task}
use Rattle.exec_task.proofs.frames.frame_of.Given as goal

abbrev pub ghost-fresh_frame : goal.ghost-fresh_frame
ghost-fresh_frame a = Of_task 0
