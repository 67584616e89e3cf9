use Rattle.exec_frames.specs.Names.{Of_task}
use Rattle.exec_task.proofs.task.Level.takes_long.Given as goal

abbrev pub ghost-concrete_all : goal.ghost-concrete_all
ghost-concrete_all a = Of_task 0

abbrev pub ghost-some_long : goal.ghost-some_long
ghost-some_long a = Of_task 0
