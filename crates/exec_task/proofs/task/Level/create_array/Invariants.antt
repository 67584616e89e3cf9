use Rattle.exec_frames.specs.Names.{Of_task}
use Rattle.exec_task.proofs.task.Level.create_array.Given as goal

abbrev pub ghost-concrete : goal.ghost-concrete
ghost-concrete a = Of_task 0

abbrev pub ghost-is_long : goal.ghost-is_long
ghost-is_long a = Of_task 0
