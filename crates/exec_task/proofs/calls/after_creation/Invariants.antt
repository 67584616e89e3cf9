use Rattle.exec_frames.specs.Names.{Of_task}
use Rattle.exec_task.proofs.calls.after_creation.Given as goal

abbrev pub ghost-concrete_all : goal.ghost-concrete_all
ghost-concrete_all a = Of_task 0
