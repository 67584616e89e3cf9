-- What the declarations of an accepted program say is well formed where they are; what its classes have from their superclasses, and
-- the class with which a run begins.
use Rattle.std.specs.Prelude.{◌≡◌, ◌⊎◌, ℕ, IsTrue, List, [], All, Some, ◌<◌, ◌++◌, map, None, slice_get}
use Rattle.lang_base.specs.Regions.{fully_specified}
use Rattle.lang_base.specs.Types.{void}
use Rattle.syntax_tree.specs.Nd.{program_uses_nd}
use Rattle.syntax_tree.specs.declared.class.Program.{Program}
use Rattle.decl_table.specs.declared.table.Table.{Table}
use Rattle.lang_typed.specs.Plain.{PlainProgram, PlainClass, PlainMember, PlainParent, PlainField}
use Rattle.lang_typed.specs.Scope.{class_at, member_at}
use Rattle.lang_typed.specs.Table.{GoodConstraint, GoodField, class_scope, member_scope, KeepsRow, RowIsThere, IsConstructor, field_with}
use Rattle.lang_typed.specs.Types.{GoodArgs, GoodPath, GoodType}
use Rattle.body_assembly.specs.Assembled.{PlainBody, program_of}
use Rattle.sound_lemmas.specs.Accepted.{IsAccepted}
use Rattle.syntax_grammar.specs.Written.{IsWritten}
use Rattle.lang_typed.specs.WellTyped.{GoodMain}

-- a superclass is there, and its region arguments fit: they are fully specified
pub record GoodParent (P : PlainProgram) (k : PlainClass) (p : PlainParent) : Type 0 where
  pub above : PlainClass
  pub is : class_at P p.class ≡ Some above
  pub args : GoodArgs P (class_scope k) 0 above.params above.given [] p.args
  pub full : All (λ a. IsTrue (fully_specified a)) p.args

-- a member stands in a class, and its signature is over the region parameters of both
pub record GoodSignature (P : PlainProgram) (m : PlainMember) : Type 0 where
  pub class : PlainClass
  pub is : class_at P m.class ≡ Some class
  pub given : All (GoodConstraint P (member_scope class m)) m.given
  pub formals : All (GoodType P (member_scope class m) 0) m.formals
  pub result : (m.result ≡ void) ⊎ GoodType P (member_scope class m) 0 m.result
  pub summary : All (λ e. GoodPath P (member_scope class m) 0 e.rpl) m.summary

-- the declarations of a program, inherited fields included
pub record Declared (P : PlainProgram) : Type 0 where
  pub given : (c : ℕ) (k : PlainClass) → class_at P c ≡ Some k → All (GoodConstraint P (class_scope k)) k.given
  pub parents : (c : ℕ) (k : PlainClass) (p : PlainParent) → class_at P c ≡ Some k → k.parent ≡ Some p → GoodParent P k p
  pub fields : (c : ℕ) (k : PlainClass) → class_at P c ≡ Some k → All (GoodField P k) k.fields
  pub members : (n : ℕ) (m : PlainMember) → member_at P n ≡ Some m → GoodSignature P m

abbrev pub AcceptedIsDeclared : Type 0
AcceptedIsDeclared =
    (program : Program) (table : Table) (bodies : List PlainBody) → IsWritten program → IsAccepted program table bodies →
    Declared (program_of table program.names (program_uses_nd program) bodies)

-- a class stands after its superclass in some order, which has no constructor; it has that one's fields with the region
-- arguments put in, and its rows, but for members that override; and then its own
pub record KeepsSuper (P : PlainProgram) (rank : ℕ → ℕ) (c : ℕ) (k : PlainClass) (p : PlainParent) : Type 0 where
  pub above : PlainClass
  pub is : class_at P p.class ≡ Some above
  pub before : rank p.class < rank c
  pub no_constructor : above.constructor ≡ None
  pub own_fields : List PlainField
  pub fields : k.fields ≡ map (field_with p.args) above.fields ++ own_fields
  pub rows : (r n : ℕ) → slice_get above.rows r ≡ Some n → (m : ℕ) × (slice_get k.rows r ≡ Some m) × KeepsRow P c k n m

pub record Inherits (P : PlainProgram) : Type 0 where
  pub rank : ℕ → ℕ
  pub supers : (c : ℕ) (k : PlainClass) (p : PlainParent) → class_at P c ≡ Some k → k.parent ≡ Some p → KeepsSuper P rank c k p
  pub rows : (c : ℕ) (k : PlainClass) → class_at P c ≡ Some k → All (RowIsThere P c) k.rows
  pub constructors : (c : ℕ) (k : PlainClass) → class_at P c ≡ Some k → (n : ℕ) → k.constructor ≡ Some n → IsConstructor P c n

abbrev pub AcceptedInherits : Type 0
AcceptedInherits =
    (program : Program) (table : Table) (bodies : List PlainBody) → IsWritten program → IsAccepted program table bodies →
    Inherits (program_of table program.names (program_uses_nd program) bodies)

abbrev pub AcceptedHasMain : Type 0
AcceptedHasMain =
    (program : Program) (table : Table) (bodies : List PlainBody) → IsWritten program → IsAccepted program table bodies →
    GoodMain (program_of table program.names (program_uses_nd program) bodies)
