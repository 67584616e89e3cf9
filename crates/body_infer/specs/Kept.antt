-- What is kept of written summaries.
use Rattle.std.specs.Prelude.{◌≡◌, ℕ, List, [], ◌∷◌, ◌++◌, map, length}
use Rattle.lang_base.specs.declared.effect.Access.{Access}
use Rattle.lang_base.specs.declared.effect.Access.TheVariants.{Read, Write}
use Rattle.lang_base.specs.declared.effect.Effect.{Effect}
use Rattle.lang_typed.specs.Plain.{PlainProgram, PlainMember}
use Rattle.body_infer.specs.declared.kept.Kept.{Kept}
use Rattle.body_infer.specs.declared.kept.Kept.TheVariants as kept

-- of each member, by number, how much is kept of each item of its summary
abbrev pub Keeping : Type 0
Keeping = List (List Kept)

-- of each member something is said of each item
abbrev pub SaysOfEach : PlainProgram → Keeping → Type 0
SaysOfEach P S = map length S ≡ map (λ m. length m.summary) P.members

-- something is said of the same items of the same members
abbrev pub SayOfTheSame : Keeping → Keeping → Type 0
SayOfTheSame S T = map length S ≡ map length T

-- nothing is less than a read, and a read less than a write
abbrev pub strength_of : Access → ℕ
strength_of Read = 1
strength_of Write = 2

-- how strong what is kept of an item is
abbrev pub strength_kept : Kept → Effect → ℕ
strength_kept kept.Nothing e = 0
strength_kept kept.Read e = 1
strength_kept kept.Whole e = strength_of e.access

abbrev pub item_kept : Kept → Effect → List Effect
item_kept kept.Nothing e = []
item_kept kept.Read e = record e { access = Read } ∷ []
item_kept kept.Whole e = e ∷ []

-- the summary that is left of a written one; an item of which nothing is said goes
abbrev pub summary_kept : List Kept → List Effect → List Effect
summary_kept (k ∷ ks) (e ∷ es) = item_kept k e ++ summary_kept ks es
summary_kept ks es = []

abbrev pub members_kept : Keeping → List PlainMember → List PlainMember
members_kept (ks ∷ kss) (m ∷ ms) = record m { summary = summary_kept ks m.summary } ∷ members_kept kss ms
members_kept kss ms = []

-- the program with what is left of its summaries
abbrev pub program_kept : Keeping → PlainProgram → PlainProgram
program_kept S P = record P { members = members_kept S P.members }
