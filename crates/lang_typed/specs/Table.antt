-- Classes and members: when they are in order.
use Rattle.std.specs.Prelude.{◌≡◌, ℕ, zero, suc, ◌<◌, ◌⊎◌, Bool, false, IsTrue, List, [], ◌∷◌, ◌++◌, All, map, length, Option, Some, None, option_map, slice_get}
use Rattle.std.specs.List.{AllZip}
use Rattle.lang_base.specs.declared.effect.Constraint.{Constraint}
use Rattle.lang_base.specs.declared.region.Head.TheVariants.{Param}
use Rattle.lang_base.specs.declared.region.Rpl.{Rpl}
use Rattle.lang_base.specs.Effects.{set_covers}
use Rattle.lang_base.specs.Regions.{substituted, fully_specified}
use Rattle.lang_base.specs.Types.{void, class, type_with, SameType}
use Rattle.lang_typed.specs.Plain.{PlainProgram, PlainClass, PlainField, PlainMember, PlainParent}
pub use Rattle.lang_typed.specs.Plain.{field_with}
use Rattle.lang_typed.specs.Scope.{Scope, Local, variable, frozen, Above, IsBelow, class_at, member_at}
use Rattle.lang_typed.specs.Effects.{Own, effect_with, as_effects}
use Rattle.lang_typed.specs.Types.{GoodPath, GoodArgs, GoodType}
use Rattle.lang_typed.specs.Statements.{AllPass, all_complete}

-- so many region parameters from one on, each as a path
abbrev pub params_from : ℕ → ℕ → List Rpl
params_from p zero = []
params_from p (suc n) = record { head = Param p; elems = [] } ∷ params_from (suc p) n

-- the region parameters of a class, and of a member after those of its class
abbrev pub own_paths : PlainClass → List Rpl
own_paths k = params_from 0 (length k.params)

abbrev pub method_paths : PlainClass → PlainMember → List Rpl
method_paths k m = params_from (length k.params) (length m.params)

-- a class, and a member of it, where nothing is in scope but their region parameters
abbrev pub class_scope : PlainClass → Scope
class_scope k = record {
  given = k.given;
  atomic = k.params;
  local = λ x. None;
  regions = λ r. false;
  slots = 0;
  local_regions = 0;
  result = None;
  nd_free = false;
  member_nd_free = λ m. false;
}

abbrev pub member_scope : PlainClass → PlainMember → Scope
member_scope k m = record (class_scope k) { given = k.given ++ m.given; atomic = k.params ++ m.params }

-- at the begin of a body: `this`, which isn't assigned, and the formals
abbrev pub first_locals : PlainClass → PlainMember → ℕ → Option Local
first_locals k m zero = Some (frozen (class m.class (own_paths k)))
first_locals k m (suc x) = option_map variable (slice_get m.formals x)

abbrev pub body_scope : PlainClass → (ℕ → Bool) → ℕ → PlainMember → Scope
body_scope k member_nd_free n m = record (member_scope k m) {
  local = first_locals k m;
  slots = m.slots;
  local_regions = m.local_regions;
  result = Some m.result;
  nd_free = member_nd_free n;
  member_nd_free = member_nd_free;
}

abbrev pub GoodConstraint : PlainProgram → Scope → Constraint → Type 0
GoodConstraint P L g = GoodPath P L 0 g.left × GoodPath P L 0 g.right

abbrev pub constraint_with : List Rpl → Constraint → Constraint
constraint_with args g = record { left = substituted args g.left; right = substituted args g.right }

-- a field lies in a region that is fully specified
pub record GoodField (P : PlainProgram) (k : PlainClass) (f : PlainField) : Type 0 where
  pub ty : GoodType P (class_scope k) 0 f.ty
  pub path : GoodPath P (class_scope k) 0 f.region
  pub full : IsTrue (fully_specified f.region)

-- the first member, of this class, stands in for the second: it has the same types, and does no more
pub record Overrides (P : PlainProgram) (c : ℕ) (k : PlainClass) (m above : PlainMember) : Type 0 where
  pub own : m.class ≡ c
  -- the region parameters of the second, as the class sees them
  pub seen : List Rpl
  pub sees : Above P c (own_paths k) above.class seen
  pub params : m.params ≡ above.params
  pub given : m.given ≡ map (constraint_with (seen ++ method_paths k above)) above.given
  pub formals : AllZip SameType m.formals (map (type_with (seen ++ method_paths k above)) above.formals)
  pub result : SameType m.result (type_with (seen ++ method_paths k above) above.result)
  pub covered : IsTrue (set_covers (map (effect_with (seen ++ method_paths k above)) above.summary) m.summary)

-- a class keeps the rows of its superclass, but for members of its own that override
abbrev pub KeepsRow : PlainProgram → ℕ → PlainClass → ℕ → ℕ → Type 0
KeepsRow P c k n m = (m ≡ n) ⊎ ((member above : PlainMember) × (member_at P m ≡ Some member) × (member_at P n ≡ Some above) × Overrides P c k member above)

-- a class extends one before it in some order, which has no constructor; it has that one's fields, with arguments put in,
-- and rows, and then its own
pub record Extends (P : PlainProgram) (rank : ℕ → ℕ) (c : ℕ) (k : PlainClass) (p : PlainParent) : Type 0 where
  pub above : PlainClass
  pub is : class_at P p.class ≡ Some above
  pub before : rank p.class < rank c
  pub args : GoodArgs P (class_scope k) 0 above.params above.given [] p.args
  pub full : All (λ a. IsTrue (fully_specified a)) p.args
  pub no_constructor : above.constructor ≡ None
  pub own_fields : List PlainField
  pub fields : k.fields ≡ map (field_with p.args) above.fields ++ own_fields
  pub rows : (r n : ℕ) → slice_get above.rows r ≡ Some n → (m : ℕ) × (slice_get k.rows r ≡ Some m) × KeepsRow P c k n m

-- the member in a row stands in this class or above it
abbrev pub RowIsThere : PlainProgram → ℕ → ℕ → Type 0
RowIsThere P c n = (m : PlainMember) × (member_at P n ≡ Some m) × IsBelow P c m.class

pub record IsConstructor (P : PlainProgram) (c n : ℕ) : Type 0 where
  pub member : PlainMember
  pub is : member_at P n ≡ Some member
  pub own : member.class ≡ c
  pub params : member.params ≡ []
  pub given : member.given ≡ []
  pub result : member.result ≡ void

pub record GoodClass (P : PlainProgram) (rank : ℕ → ℕ) (c : ℕ) (k : PlainClass) : Type 0 where
  pub given : All (GoodConstraint P (class_scope k)) k.given
  pub parent : (p : PlainParent) → k.parent ≡ Some p → Extends P rank c k p
  pub fields : All (GoodField P k) k.fields
  pub rows : All (RowIsThere P c) k.rows
  pub constructor : (n : ℕ) → k.constructor ≡ Some n → IsConstructor P c n

-- a member: its signature is over its region parameters, its body passes and does no more than its summary says, and it
-- gives a value where it should
pub record GoodMember (P : PlainProgram) (member_nd_free : ℕ → Bool) (n : ℕ) (m : PlainMember) : Type 0 where
  pub class : PlainClass
  pub is : class_at P m.class ≡ Some class
  pub given : All (GoodConstraint P (member_scope class m)) m.given
  pub formals : All (GoodType P (member_scope class m) 0) m.formals
  pub result : (m.result ≡ void) ⊎ GoodType P (member_scope class m) 0 m.result
  pub summary : All (λ e. GoodPath P (member_scope class m) 0 e.rpl) m.summary
  pub room : length m.formals < m.slots
  pub effects : List Own
  pub passes : AllPass P (body_scope class member_nd_free n m) m.body effects
  pub covered : IsTrue (set_covers m.summary (as_effects effects))
  pub ends : (m.result ≡ void) ⊎ (all_complete m.body ≡ false)
