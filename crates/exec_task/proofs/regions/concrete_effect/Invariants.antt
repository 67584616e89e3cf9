use Rattle.exec_frames.specs.Names.{Of_task}
use Rattle.exec_task.proofs.regions.concrete_effect.Given as goal

abbrev pub ghost-concrete : goal.ghost-concrete
ghost-concrete a = Of_task 0
