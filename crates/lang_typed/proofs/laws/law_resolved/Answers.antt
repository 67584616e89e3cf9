use Rattle.lang_typed.proofs.Resolved.{typed_is_resolved}
use Rattle.lang_typed.proofs.laws.law_resolved.Goals as goal

pub returns : goal.returns
returns c P typed = (typed_is_resolved P typed, (typed.main.member, typed.main.member_is))
