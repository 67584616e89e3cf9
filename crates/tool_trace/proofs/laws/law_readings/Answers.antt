use Rattle.tool_trace.proofs.Once.{one-misfit}
use Rattle.tool_trace.proofs.Whole.{one-reading, no-misfit}
use Rattle.tool_trace.proofs.laws.law_readings.Goals as goal

pub returns : goal.returns
returns c = record { one_reading = one-reading; one_misfit = one-misfit; apart = no-misfit }
