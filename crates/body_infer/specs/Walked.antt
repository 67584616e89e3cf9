-- The code's lists as the definitions see them.
use Rattle.std.specs.Prelude.{◌≡◌, ℕ, ◌==◌, Bool, true, false, cond, if◌then◌else◌, List, [], ◌∷◌, map, fold, Option, Some, None, slice_get}
use Rattle.std.specs.List.{list_any}
use Rattle.lang_base.specs.declared.effect.Access.{Access}
use Rattle.lang_base.specs.declared.effect.Effect.{Effect}
use Rattle.lang_base.specs.declared.elems.Elem.{Elem}
use Rattle.lang_base.specs.declared.elems.Elem.TheVariants.{At, Any}
use Rattle.lang_base.specs.declared.elems.Index.TheVariants.{Variable}
use Rattle.lang_base.specs.declared.region.Rpl.{Rpl}
use Rattle.lang_base.specs.Types.{PlainType, int, class}
use Rattle.lang_typed.specs.declared.ids.Slot.{Slot}
use Rattle.lang_typed.specs.declared.stmt.Branch.{Branch}
use Rattle.lang_typed.specs.declared.stmt.PartSource.{PartSource}
use Rattle.lang_typed.specs.declared.stmt.PartSource.TheVariants as source
use Rattle.lang_typed.specs.Plain.{PlainProgram, PlainParent, TypedStmt, statement, TypedBranch, plain_stmt}
use Rattle.lang_typed.specs.Plain.{StmtForm as form}
use Rattle.lang_typed.specs.Effects.{does, uses, effect_of, begins_in, mapped, summary_with}
use Rattle.lang_typed.specs.Effects.{Own as Done}
use Rattle.lang_typed.specs.Scope.{Scope, Local, constant, part, reserved, parent_of, with_local}
use Rattle.body_infer.specs.declared.kept.Kept.{Kept}
use Rattle.body_infer.specs.declared.own.Own.{Own}
use Rattle.body_infer.specs.declared.scope.Known.{Known}
use Rattle.body_infer.specs.declared.scope.Known.TheVariants as known
use Rattle.body_infer.specs.declared.scope.Placed.{Placed}
use Rattle.body_infer.specs.Kept.{Keeping, summary_kept}

abbrev pub through : Option Slot → Effect → Done
through None e = does e
through (Some slot) e = uses slot.number e

abbrev pub done_of : Own → Done
done_of o = through o.part o.effect

abbrev pub all_done : List Own → List Done
all_done os = map done_of os

abbrev pub access_to : Access → Rpl → Effect
access_to access a = record { access = access; atomic = false; rpl = a }

abbrev pub at_most_one : Option Effect → List Effect
at_most_one None = []
at_most_one (Some e) = e ∷ []

abbrev pub class_parts : PlainType → Option (ℕ × List Rpl)
class_parts (class c args) = Some (c, args)
class_parts t = None

-- the superclass of a class that isn't that one yet
abbrev pub parent_below : PlainProgram → ℕ → ℕ → Option PlainParent
parent_below P c d = if c == d then None else parent_of P c

-- what is in scope, as far as effects depend on it
abbrev pub local_of : Known → Local
local_of known.Hidden = reserved
local_of known.Constant = constant int
local_of (known.Part a) = part int a

abbrev pub nowhere : Scope
nowhere = record {
  given = [];
  atomic = [];
  local = λ x. None;
  regions = λ r. false;
  slots = 0;
  local_regions = 0;
  result = None;
  nd_free = false;
  member_nd_free = λ m. false;
}

abbrev pub with_placed : Scope → Placed → Scope
with_placed L p = with_local p.slot (local_of p.known) L

abbrev pub scope_of : List Placed → Scope
scope_of ps = fold with_placed nowhere ps

-- what is in scope last under a slot
abbrev pub last_of : ℕ → Option Known → List Placed → Option Known
last_of x k [] = k
last_of x k (p ∷ ps) = last_of x (if x == p.slot then Some p.known else k) ps

abbrev pub is_constant : Option Local → Bool
is_constant (Some (constant int)) = true
is_constant l = false

abbrev pub is_constant_in : Scope → ℕ → Bool
is_constant_in L x = is_constant (L.local x)

abbrev pub part_path : Option Local → Option Rpl
part_path (Some (part t a)) = Some a
part_path l = None

abbrev pub path_in : Scope → ℕ → Option Rpl
path_in L x = part_path (L.local x)

abbrev pub known_of : Option Known → Known
known_of (Some k) = k
known_of None = known.Hidden

-- what is left of a member's summary, with arguments put in
abbrev pub summary_of : Option (List Kept) → List Effect → List Rpl → List Done
summary_of (Some ks) es args = summary_with args (summary_kept ks es)
summary_of None es args = []

abbrev pub summary_in : Keeping → ℕ → List Effect → List Rpl → List Done
summary_in S n es args = summary_of (slice_get S n) es args

-- what is seen outside the scope of these variables and local regions
abbrev pub outside_elem : List ℕ → Elem → Elem
outside_elem vs (At (Variable w)) = cond (list_any (λ v. v == w) vs) Any (At (Variable w))
outside_elem vs x = x

abbrev pub outside : List ℕ → Effect → Effect
outside vs e = record e { rpl = record { head = e.rpl.head; elems = map (outside_elem vs) e.rpl.elems } }

abbrev pub outside_all : List ℕ → List ℕ → List Done → List Done
outside_all vs rs [] = []
outside_all vs rs (o ∷ os) = cond (begins_in rs (effect_of o).rpl.elems) (outside_all vs rs os) (mapped (outside vs) o ∷ outside_all vs rs os)

abbrev pub handed_to : PartSource → Option Slot
handed_to (source.Array cut) = None
handed_to (source.Part slot) = Some slot

-- what a statement brings into scope up to the end of its block
abbrev pub known_as : Bool → PlainType → Known
known_as true int = known.Constant
known_as is_final t = known.Hidden

abbrev pub placed_by : TypedStmt → List Placed
placed_by (statement at (form.declare x t is_final e)) = record { slot = x; known = known_as is_final t } ∷ []
placed_by s = []

abbrev pub variables_by : TypedStmt → List ℕ
variables_by (statement at (form.declare x t is_final e)) = x ∷ []
variables_by s = []

abbrev pub regions_by : TypedStmt → List ℕ
regions_by (statement at (form.local_regions rs)) = rs
regions_by s = []

-- a branch as the rules see it
abbrev pub plain_branch : Branch → TypedBranch
plain_branch b = record { copies = map (λ slot. slot.number) b.copies; body = plain_stmt b.body }

-- effects depend on two locals alike
pub record SameUse (l k : Option Local) : Type 0 where
  pub constant : is_constant l ≡ is_constant k
  pub path : part_path l ≡ part_path k

pub record Agree (L K : Scope) : Type 0 where
  pub local : (x : ℕ) → SameUse (L.local x) (K.local x)
