use Rattle.lang_base.proofs.Cutting.{ends_at_length, no_common_place}
use Rattle.lang_base.proofs.parting.law_parts.Goals as goal

pub returns-clause-last : goal.returns-clause-last
returns-clause-last c = ends_at_length

pub returns-clause-apart : goal.returns-clause-apart
returns-clause-apart c = no_common_place
