-- What lies in written summaries lies in what is kept of them.
use Rattle.std.specs.Prelude.{◌≡◌, ℕ, false, IsTrue, List, map, Some, slice_get}
use Rattle.lang_base.specs.declared.effect.Effect.{Effect}
use Rattle.lang_base.specs.Effects.{set_covers}
use Rattle.lang_typed.specs.Plain.{PlainProgram, PlainClass, PlainMember}
use Rattle.lang_typed.specs.Scope.{class_at, member_at}
use Rattle.lang_typed.specs.Effects.{as_effects, effect_with}
use Rattle.lang_typed.specs.Table.{body_scope}
use Rattle.body_infer.specs.declared.kept.Kept.{Kept}
use Rattle.body_infer.specs.Kept.{Keeping, summary_kept}
use Rattle.body_infer.specs.Doing.{effects_of_all}
use Rattle.body_infer.specs.PostFixpoint.{done_in, seen_below}
use Rattle.body_infer.specs.Passes.{IsOverride}

-- what a body does by the written summaries
abbrev pub done_written : PlainProgram → PlainClass → PlainMember → List Effect
done_written P k m = as_effects (effects_of_all P (body_scope k (λ x. false) 0 m) m.body)

-- a body that does no more than its summary says does no more than what is kept of that, where all members do what is kept
abbrev pub BodiesCovered : PlainProgram → Keeping → Type 0
BodiesCovered P S =
    (n : ℕ) (m : PlainMember) (k : PlainClass) (ks : List Kept) → member_at P n ≡ Some m → class_at P m.class ≡ Some k → slice_get S n ≡ Some ks →
    IsTrue (set_covers m.summary (done_written P k m)) → IsTrue (set_covers (summary_kept ks m.summary) (done_in P S k m))

-- where a summary lies in that of the member that is overridden, so does what is kept
abbrev pub OverridesCovered : PlainProgram → Keeping → Type 0
OverridesCovered P S =
    (c r n j : ℕ) (k : PlainClass) (m over : PlainMember) (ks ls : List Kept) → IsOverride P c r n j k m over → slice_get S n ≡ Some ks → slice_get S j ≡ Some ls →
    IsTrue (set_covers (map (effect_with (seen_below P c k m)) m.summary) over.summary) →
    IsTrue (set_covers (map (effect_with (seen_below P c k m)) (summary_kept ks m.summary)) (summary_kept ls over.summary))
