-- Atomic blocks: who stands inside one, how long it is open, when it may be entered; and with them the legal runs.
use Rattle.std.specs.Prelude.{ℕ, zero, suc, ◌≡◌, ◌⊎◌, Bool, true, false, List, [], ◌∷◌}
use Rattle.runs_theory.specs.Objects.{Path, Region, Region_name, Number, Local, Own_index, Any_index, Any_parts, Effect}
use Rattle.runs_theory.specs.Actions.{Branches, Own, Rest, Read, Write, Look, New, Print, Enter, Exit, Action, Do, Fork, Begin, Join, End, Rule, Program}
use Rattle.runs_theory.specs.Runs.{Event, Run, Upto, mine, count, Follows}

-- whether a task is inside an entry of its own: how many but the outermost, and the effects of the outermost
pub data Hold : Type 0 where
  Out_of : Hold
  In_block : (inner : ℕ) (effects : List Effect) → Hold

abbrev pub own_hold : Own → Hold → Hold
own_hold (Enter E) Out_of = In_block 0 E
own_hold (Enter F) (In_block n E) = In_block (suc n) E
own_hold Exit Out_of = Out_of
own_hold Exit (In_block zero E) = Out_of
own_hold Exit (In_block (suc n) E) = In_block n E
own_hold Rest h = h
own_hold (Read n i) h = h
own_hold (Write n i v) h = h
own_hold (Look n) h = h
own_hold (New t c) h = h
own_hold (Print bytes) h = h

-- an end leaves all entries of its task
abbrev pub hold_after : Action → Hold → Hold
hold_after (Do o) h = own_hold o h
hold_after (Fork ts) h = h
hold_after (Begin b) h = h
hold_after Join h = h
hold_after (End x) h = Out_of

-- after these events of one task
abbrev pub hold : Run → Hold
hold [] = Out_of
hold (e ∷ es) = hold_after e.act (hold es)

-- A block is named by its entry a, with the run A before it. A task stands inside it where it opened it, or where it was begun
-- by a task that stood inside it at the fork
pub data StandsIn (A : Run) (a : Event) : Run → Path → Type 0 where
  opened : {R : Run} {p : Path} → Upto (a ∷ A) R → a.path ≡ p → StandsIn A a R p
  begun_in : {R : Run} {p : Path} (q : Path) (u : ℕ × ℕ) (F : Run) (f : Event) (ts : Branches) → p ≡ u ∷ q
      → Upto (f ∷ F) R → f.path ≡ q → count F q ≡ u.0 → f.act ≡ Fork ts → StandsIn A a F q → StandsIn A a R p

-- a block is open from its entry to its opener's matching exit or end
pub record IsOpen (A : Run) (a : Event) (E : List Effect) (R : Run) : Type 0 where
  pub still : (Z : Run) → Upto Z R → Upto (a ∷ A) Z → (n : ℕ) × (hold (mine Z a.path) ≡ In_block n E)

-- an entry is outermost, and makes a block with its effects, where its task stands inside no open block
abbrev pub IsBlock : Run → Run → Event → List Effect → Type 0
IsBlock [] A a E = ⊥
IsBlock (e ∷ R) A a E = ((e ≡ a) × (R ≡ A) × (a.act ≡ Do (Enter E))
    × ((B : Run) (b : Event) (F : List Effect) → IsBlock R B b F → IsOpen B b F R → StandsIn B b R e.path → ⊥)) ⊎ IsBlock R A a E

abbrev pub Outermost : Run → Path → Type 0
Outermost R p = (B : Run) (b : Event) (F : List Effect) → IsBlock R B b F → IsOpen B b F R → StandsIn B b R p → ⊥

-- an outermost entry may come where the rule lets it by each open block
pub record MayEnter (rule : Rule) (R : Run) (p : Path) (E : List Effect) : Type 0 where
  pub clear : Outermost R p → (B : Run) (b : Event) (F : List Effect) → IsBlock R B b F → IsOpen B b F R → rule F E ≡ true

-- this event may come next
pub record Allowed (P : Program) (R : Run) (e : Event) : Type 0 where
  pub follows : Follows P R e
  pub enters : (E : List Effect) → e.act ≡ Do (Enter E) → MayEnter P.rule R e.path E

-- each event of the run was allowed where it came
abbrev pub Legal : Program → Run → Type 0
Legal P [] = Unit {0}
Legal P (e ∷ R) = Allowed P R e × Legal P R

-- a rule read more weakly: it leaves aside effects on regions that begin with a made local region
abbrev pub begins_local : Region → Bool
begins_local (Local r ∷ rest) = true
begins_local (Region_name n ∷ rest) = false
begins_local (Number k ∷ rest) = false
begins_local (Own_index ∷ rest) = false
begins_local (Any_index ∷ rest) = false
begins_local (Any_parts ∷ rest) = false
begins_local [] = false

abbrev pub is_local : Effect → Bool
is_local E = begins_local E.region

abbrev pub kept_if : Bool → Effect → List Effect → List Effect
kept_if true E rest = rest
kept_if false E rest = E ∷ rest

abbrev pub without_locals : List Effect → List Effect
without_locals [] = []
without_locals (E ∷ Es) = kept_if (is_local E) E (without_locals Es)

abbrev pub leaving_locals : Rule → Rule
leaving_locals rule F E = rule (without_locals F) (without_locals E)

-- a program with another rule of open blocks
abbrev pub with_rule : Rule → Program → Program
with_rule rule P = record { meaning = P.meaning; root = P.root; object = P.object; rule = rule }
