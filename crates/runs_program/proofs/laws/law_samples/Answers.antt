use Rattle.runs_program.proofs.Samples.{divides_runs, fills_run, schedules_need_free}
use Rattle.runs_program.proofs.laws.law_samples.Goals as goal

pub returns : goal.returns
returns c = record { divides = divides_runs; fills = fills_run; race = schedules_need_free }
