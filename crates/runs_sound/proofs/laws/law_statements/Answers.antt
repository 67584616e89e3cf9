use Rattle.runs_sound.proofs.kinds.Meant.{branches_in_order, forking_in_order, root_in_order, tasks_in_order}
use Rattle.runs_sound.proofs.laws.law_statements.Goals as goal

pub returns : goal.returns
returns c = record { statements = forking_in_order; tasks = tasks_in_order; branches = branches_in_order; root = root_in_order }
