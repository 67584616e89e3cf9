-- Faults that are noted one after the other.
use Rattle.std.proofs.Common.{◌≡◌, List, ◌++◌, ap, ◌∙◌}
use Rattle.lang_base.specs.declared.refusal.Refusal.{Refusal}
use Rattle.decl_headers.specs.declared.faults.Faults.{Faults}
use Rattle.decl_headers.specs.Faults.{all_noted}
use Rattle.decl_headers.proofs.Noting.{noted_append}

pub noted_three : (faults : Faults) (a b c : List Refusal) → all_noted faults (a ++ b ++ c) ≡ all_noted (all_noted (all_noted faults a) b) c
noted_three faults a b c = noted_append faults (a ++ b) c ∙ ap (λ f. all_noted f c) (noted_append faults a b)
