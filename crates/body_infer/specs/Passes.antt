-- What asking members does to what is kept.
use Rattle.std.specs.Prelude.{◌≡◌, ◌+◌, ◌<◌, ◌≤◌, ℕ, Bool, true, false, IsTrue, min, List, [], ◌∷◌, Contains, Some, slice_get}
use Rattle.lang_base.specs.declared.effect.Effect.{Effect}
use Rattle.lang_typed.specs.Plain.{PlainProgram, PlainClass, PlainMember, PlainParent}
use Rattle.lang_typed.specs.Scope.{class_at, member_at, row_at}
use Rattle.lang_typed.specs.Effects.{effect_with}
use Rattle.body_infer.specs.declared.kept.Kept.{Kept}
use Rattle.body_infer.specs.declared.kept.Kept.TheVariants as kept
use Rattle.body_infer.specs.Kept.{Keeping, SaysOfEach, SayOfTheSame, strength_of, strength_kept}
use Rattle.body_infer.specs.PostFixpoint.{takes, done_in, seen_below, IsPostFixpoint, KeepsNoMore}
use Rattle.body_infer.specs.Asked.{all_kept}

-- the items of a member, seen so, keep at least as much as these demands ask for, as far as they were written
abbrev pub Meets : Keeping → ℕ → PlainMember → (Effect → Effect) → List Effect → Type 0
Meets S n m seen demands =
    (i : ℕ) (ks : List Kept) (item d : Effect) (kept : Kept) → slice_get S n ≡ Some ks → slice_get m.summary i ≡ Some item → slice_get ks i ≡ Some kept →
    Contains demands d → IsTrue (takes (seen item) d) → min (strength_of d.access) (strength_of item.access) ≤ strength_kept kept item

-- a member keeps what its body asks for
abbrev pub MeetsBody : PlainProgram → Keeping → ℕ → Type 0
MeetsBody P S n = (m : PlainMember) (k : PlainClass) → member_at P n ≡ Some m → class_at P m.class ≡ Some k → Meets S n m (λ e. e) (done_in P S k m)

-- in a row of a class a member of it stands, by its number, in the place of that of its superclass
pub record IsOverride (P : PlainProgram) (c r n j : ℕ) (k : PlainClass) (m over : PlainMember) : Type 0 where
  pub class : class_at P c ≡ Some k
  pub parent : PlainParent
  pub extends : k.parent ≡ Some parent
  pub above : row_at P parent.class r ≡ Some n
  pub row : row_at P c r ≡ Some j
  pub member : member_at P n ≡ Some m
  pub own : member_at P j ≡ Some over
  pub here : over.class ≡ c

abbrev pub NoOverride : PlainProgram → ℕ → ℕ → Type 0
NoOverride P c r = (n j : ℕ) (k : PlainClass) (m over : PlainMember) → IsOverride P c r n j k m over → ⊥

-- a member keeps what one that overrides it in this row of this class keeps
abbrev pub MeetsRow : PlainProgram → Keeping → ℕ → ℕ → Type 0
MeetsRow P S c r =
    (n j : ℕ) (k : PlainClass) (m over : PlainMember) → IsOverride P c r n j k m over → Meets S n m (effect_with (seen_below P c k m)) (all_kept S P j)

-- how often what is kept can rise
abbrev pub room_of : Kept → ℕ
room_of kept.Nothing = 2
room_of kept.Read = 1
room_of kept.Whole = 0

abbrev pub room_in : List Kept → ℕ
room_in [] = 0
room_in (k ∷ ks) = room_of k + room_in ks

abbrev pub room : Keeping → ℕ
room [] = 0
room (ks ∷ kss) = room_in ks + room kss

-- the second says something of the same items, and has raised none above what a post_fixpoint keeping has of it
pub record Climbs (P : PlainProgram) (S T : Keeping) : Type 0 where
  pub same : SayOfTheSame T S
  pub below : (L : Keeping) → SaysOfEach P L → IsPostFixpoint P L → KeepsNoMore P S L → KeepsNoMore P T L

-- the same, where it is known whether an item rose
pub record Rises (P : PlainProgram) (S T : Keeping) (risen : Bool) : Type 0 where
  pub climbs : Climbs P S T
  pub still : risen ≡ false → T ≡ S
  pub less : risen ≡ true → room T < room S
