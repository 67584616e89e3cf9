use Rattle.exec_frames.specs.Names.{Of_task}
use Rattle.exec_task.proofs.calls.after_call.Given as goal

abbrev pub ghost-class_entered : goal.ghost-class_entered
ghost-class_entered a = Of_task 0
