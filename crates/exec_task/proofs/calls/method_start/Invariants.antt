use Rattle.exec_frames.specs.Names.{Of_task}
use Rattle.exec_task.proofs.calls.method_start.Given as goal

abbrev pub ghost-regions_above : goal.ghost-regions_above
ghost-regions_above a = Of_task 0
