-- What becomes of what is kept, where the items of one member are raised.
use Rattle.std.proofs.Common.{◌≡◌, ◌∙◌, ℕ, zero, suc, List, [], ◌∷◌, Option, Some, None, refl, ap, slice_get, slice_set, append_assoc}
use Rattle.std.proofs.lemmas.List.{append-nil}
use Rattle.lang_base.specs.declared.effect.Effect.{Effect}
use Rattle.lang_typed.specs.declared.ids.Slot.{Slot}
use Rattle.lang_typed.specs.Effects.{effect_of}
use Rattle.body_infer.specs.declared.kept.Kept.{Kept}
use Rattle.body_infer.specs.Kept.{Keeping}
use Rattle.body_infer.specs.Walked.{through}

pub set_same : (S : Keeping) (at : ℕ) (old : List Kept) → slice_get S at ≡ Some old → slice_set S at old ≡ S
set_same [] at old e = cc
set_same (first ∷ rest) zero old e = cc
set_same (first ∷ rest) (suc at) old e = ap (λ more. first ∷ more) (set_same rest at old e)

-- where another list in the place of one changes nothing, it is that one
pub same_set : (S : Keeping) (at : ℕ) (old new : List Kept) → slice_get S at ≡ Some old → slice_set S at new ≡ S → new ≡ old
same_set [] at old new e h = cc
same_set (first ∷ rest) zero old new e h =
    let is : first ≡ old = cc in
    let same : new ≡ first = cc in
    same ∙ is
same_set (first ∷ rest) (suc at) old new e h =
    let more : slice_set rest at new ≡ rest = cc in
    same_set rest at old new e more

-- each effect as it was written
pub effect_is : (part : Option Slot) (e : Effect) → effect_of (through part e) ≡ e
effect_is None e = refl
effect_is (Some slot) e = refl

pub ruleset effects = (effect_is, append_assoc, append-nil)
