-- What a program declares, and what is in scope at a place of a body.
use Rattle.std.specs.Prelude.{◌≡◌, ℕ, ◌==◌, Bool, true, cond, List, map, Option, Some, None, option_and_then, option_map, slice_get}
use Rattle.std.specs.List.{list_any}
use Rattle.lang_base.specs.declared.effect.Constraint.{Constraint}
use Rattle.lang_base.specs.declared.region.Rpl.{Rpl}
use Rattle.lang_base.specs.Branches.{Atomic}
use Rattle.lang_base.specs.Regions.{substituted}
use Rattle.lang_base.specs.Types.{PlainType}
use Rattle.lang_typed.specs.declared.stmt.Forking.{Forking}
use Rattle.lang_typed.specs.declared.stmt.Forking.TheVariants.{Deterministic, Nondeterministic}
use Rattle.lang_typed.specs.Plain.{PlainProgram, PlainClass, PlainField, PlainMember, PlainParent}

abbrev pub class_at : PlainProgram → ℕ → Option PlainClass
class_at P c = slice_get P.classes c

abbrev pub member_at : PlainProgram → ℕ → Option PlainMember
member_at P m = slice_get P.members m

abbrev pub field_at : PlainProgram → ℕ → ℕ → Option PlainField
field_at P c k = option_and_then (λ class. slice_get class.fields k) (class_at P c)

-- the member in a row of a class, and the constructor of a class
abbrev pub row_at : PlainProgram → ℕ → ℕ → Option ℕ
row_at P c r = option_and_then (λ class. slice_get class.rows r) (class_at P c)

abbrev pub constructor_of : PlainProgram → ℕ → Option ℕ
constructor_of P c = option_and_then (λ class. class.constructor) (class_at P c)

abbrev pub parent_of : PlainProgram → ℕ → Option PlainParent
parent_of P c = option_and_then (λ class. class.parent) (class_at P c)

-- a class with these arguments is, as a class at or above it, that one with those
pub data Above (P : PlainProgram) : ℕ → List Rpl → ℕ → List Rpl → Type 0 where
  itself : {c : ℕ} {args : List Rpl} → Above P c args c args
  through_parent : {c d : ℕ} {args above : List Rpl} {p : PlainParent} →
      parent_of P c ≡ Some p → Above P p.class (map (substituted args) p.args) d above → Above P c args d above

-- the first class is the second or stands below it
pub data IsBelow (P : PlainProgram) : ℕ → ℕ → Type 0 where
  same : {c : ℕ} → IsBelow P c c
  below : {c d : ℕ} {p : PlainParent} → parent_of P c ≡ Some p → IsBelow P p.class d → IsBelow P c d

-- what a slot holds: a variable; one that is read alone; one that keeps its value, and may stand in an index where it is
-- an int; a part of an array of such elements in that region; or what a part needs beside it
pub data Local : Type 0 where
  variable : PlainType → Local
  frozen : PlainType → Local
  constant : PlainType → Local
  part : PlainType → Rpl → Local
  reserved : Local

pub record Scope : Type 0 where
  -- the constraints in force, and of each region parameter whether it is declared atomic
  pub given : List Constraint
  pub atomic : List Bool
  pub local : ℕ → Option Local
  -- the local regions in scope
  pub regions : ℕ → Bool
  -- how many slots and local regions the member has
  pub slots : ℕ
  pub local_regions : ℕ
  -- the type of what a `return` here gives, where one may stand: `void` for one without a value
  pub result : Option PlainType
  -- nothing here may reach a `cobegin_nd` or a `foreach_nd`, and the members that never do
  pub nd_free : Bool
  pub member_nd_free : ℕ → Bool

abbrev pub with_local : ℕ → Local → Scope → Scope
with_local x l L = record L { local = λ y. cond (y == x) (Some l) (L.local y) }

abbrev pub with_regions : List ℕ → Scope → Scope
with_regions rs L = record L { regions = λ r. cond (list_any (λ q. r == q) rs) true (L.regions r) }

-- in a branch or an atomic block no `return` stands
abbrev pub without_return : Scope → Scope
without_return L = record L { result = None }

abbrev pub in_atomic_block : Scope → Scope
in_atomic_block L = record L { result = None; nd_free = true }

-- a local that is seen from a branch, where it may not be assigned
abbrev pub read_alone : Local → Local
read_alone (variable t) = frozen t
read_alone l = l

-- in a branch of a loop no outer local is assigned
abbrev pub in_loop_branch : Scope → Scope
in_loop_branch L = record L { result = None; local = λ x. option_map read_alone (L.local x) }

-- in a branch of a `cobegin` the outer locals that are its own may be assigned, and those of its siblings aren't seen
abbrev pub seen_in_branch : List ℕ → List ℕ → ℕ → Option Local → Option Local
seen_in_branch own others x l =
    cond (list_any (λ y. x == y) others) (option_map (λ k. reserved) l) (cond (list_any (λ y. x == y) own) l (option_map read_alone l))

abbrev pub in_branch : List ℕ → List ℕ → Scope → Scope
in_branch own others L = record L { result = None; local = λ x. seen_in_branch own others x (L.local x) }

-- what is declared atomic, where the construct is nd
abbrev pub atomic_in : PlainProgram → Scope → Atomic
atomic_in P L = record { names = P.region_names; params = L.atomic }

abbrev pub atomic_for : Forking → PlainProgram → Scope → Option Atomic
atomic_for Deterministic P L = None
atomic_for Nondeterministic P L = Some (atomic_in P L)
