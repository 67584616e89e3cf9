-- The least of what summaries may keep.
use Rattle.std.specs.Prelude.{◌≡◌, ◌≤◌, ◌&&◌, ◌||◌, ℕ, Bool, false, not, IsTrue, min, List, ◌++◌, Contains, Some, slice_get}
use Rattle.lang_base.specs.declared.effect.Effect.{Effect}
use Rattle.lang_base.specs.declared.region.Rpl.{Rpl}
use Rattle.lang_base.specs.Regions.{within}
use Rattle.lang_typed.specs.Plain.{PlainProgram, PlainClass, PlainMember, PlainParent}
use Rattle.lang_typed.specs.Scope.{class_at, member_at, row_at}
use Rattle.lang_typed.specs.Effects.{as_effects, effect_with}
use Rattle.lang_typed.specs.Table.{body_scope, own_paths, method_paths}
use Rattle.body_infer.specs.declared.kept.Kept.{Kept}
use Rattle.body_infer.specs.Kept.{Keeping, SaysOfEach, strength_of, strength_kept, summary_kept, program_kept}
use Rattle.body_infer.specs.Doing.{effects_of_all, seen_as}

-- an item takes a demand: it has the place, and it isn't marked, or the demand is marked too
abbrev pub takes : Effect → Effect → Bool
takes item demand = within demand.rpl item.rpl && (not item.atomic || demand.atomic)

-- what a body does, where all members do what is kept of their summaries
abbrev pub done_in : PlainProgram → Keeping → PlainClass → PlainMember → List Effect
done_in P S k m = as_effects (effects_of_all (program_kept S P) (body_scope k (λ x. false) 0 m) m.body)

-- the region parameters of a member, as a class right below sees them
abbrev pub seen_below : PlainProgram → ℕ → PlainClass → PlainMember → List Rpl
seen_below P c k m = seen_as P c (own_paths k) m.class ++ method_paths k m

-- what is asked of a member: an effect of its body, or an item that is kept of a member that overrides it in a class right below,
-- which sees the items of the member so
pub data IsAsked (P : PlainProgram) (S : Keeping) (n : ℕ) (m : PlainMember) : (Effect → Effect) → Effect → Type 0 where
  by_body : (k : PlainClass) (d : Effect) → class_at P m.class ≡ Some k → Contains (done_in P S k m) d → IsAsked P S n m (λ e. e) d
  by_override : (c r j : ℕ) (k : PlainClass) (p : PlainParent) (over : PlainMember) (ks : List Kept) (d : Effect) →
      class_at P c ≡ Some k → k.parent ≡ Some p → row_at P p.class r ≡ Some n → row_at P c r ≡ Some j → member_at P j ≡ Some over → over.class ≡ c →
      slice_get S j ≡ Some ks → Contains (summary_kept ks over.summary) d →
      IsAsked P S n m (effect_with (seen_below P c k m)) d

-- each item that takes what is asked keeps at least as much as that is, as far as it was written
abbrev pub IsPostFixpoint : PlainProgram → Keeping → Type 0
IsPostFixpoint P S =
    (n i : ℕ) (m : PlainMember) (ks : List Kept) (item d : Effect) (kept : Kept) (seen : Effect → Effect) → member_at P n ≡ Some m → slice_get S n ≡ Some ks →
    IsAsked P S n m seen d → slice_get m.summary i ≡ Some item → slice_get ks i ≡ Some kept → IsTrue (takes (seen item) d) →
    min (strength_of d.access) (strength_of item.access) ≤ strength_kept kept item

-- the first keeps no more of any item than the second
abbrev pub KeepsNoMore : PlainProgram → Keeping → Keeping → Type 0
KeepsNoMore P S T =
    (n i : ℕ) (m : PlainMember) (ks ls : List Kept) (item : Effect) (k l : Kept) → member_at P n ≡ Some m → slice_get S n ≡ Some ks → slice_get T n ≡ Some ls →
    slice_get m.summary i ≡ Some item → slice_get ks i ≡ Some k → slice_get ls i ≡ Some l → strength_kept k item ≤ strength_kept l item

-- the inferred summaries: the least that are post_fixpoint
pub record IsInferred (P : PlainProgram) (S : Keeping) : Type 0 where
  pub says : SaysOfEach P S
  pub post_fixpoint : IsPostFixpoint P S
  pub least : (T : Keeping) → SaysOfEach P T → IsPostFixpoint P T → KeepsNoMore P S T
