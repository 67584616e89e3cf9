use Rattle.runs_sound.proofs.classes.Looking.{calls_enter_what_they_see}
use Rattle.runs_sound.proofs.kinds.Meant.{expressions_in_order}
use Rattle.runs_sound.proofs.laws.law_expressions.Goals as goal

pub returns : goal.returns
returns c = record { expressions = expressions_in_order; calls = calls_enter_what_they_see }
