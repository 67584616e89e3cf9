-- Two programs of one tree whose classes and signatures are known to be the same: what names mean in both, and rows and fields.
use Rattle.std.proofs.Common.{◌≡◌, ◌∙◌, ℕ, ◌+◌, List, Some, ap, sym}
use Rattle.lang_base.specs.declared.region.Rpl.{Rpl}
use Rattle.syntax_tree.specs.declared.class.Program.{Program}
use Rattle.lang_typed.specs.Plain.{PlainProgram, PlainClass, PlainMember}
use Rattle.lang_typed.specs.Scope.{Above, field_at, member_at, parent_of, row_at}
use Rattle.syntax_means.specs.Declares.{DeclaresField, MeansIn, inherited_fields, method_name}
use Rattle.syntax_means.proofs.unique.Paths.{SameClasses, means_one}

-- a member stands in the same class in both, over as many region parameters, and gives the same
pub record SameSignature (m k : PlainMember) : Type 0 where
  pub class : m.class ≡ k.class
  pub params : m.params ≡ k.params
  pub result : m.result ≡ k.result

pub record Agreed (tree : Program) (P Q : PlainProgram) : Type 0 where
  pub classes : P.classes ≡ Q.classes
  pub same : SameClasses P Q
  pub signatures : (n : ℕ) (m k : PlainMember) → member_at P n ≡ Some m → member_at Q n ≡ Some k → SameSignature m k
  pub fields : (name c j k : ℕ) → DeclaresField tree P name c j → DeclaresField tree P name c k → j ≡ k
  -- a class stands above another in one way
  pub above : (c d : ℕ) (args a b : List Rpl) → Above P c args d a → Above P c args d b → a ≡ b
  -- and has one row of a name
  pub rows : (c r q m n name : ℕ) → row_at P c r ≡ Some m → row_at P c q ≡ Some n → method_name tree m ≡ Some name → method_name tree n ≡ Some name → r ≡ q

abbrev with_classes : PlainProgram → List PlainClass → PlainProgram
with_classes P classes = record P { classes = classes }

module _ {tree : Program} {P Q : PlainProgram} (agreed : Agreed tree P Q)
  where
    pub row_same : (c r : ℕ) → row_at P c r ≡ row_at Q c r
    row_same c r = ap (λ classes. row_at (with_classes P classes) c r) agreed.classes

    pub field_same : (c k : ℕ) → field_at P c k ≡ field_at Q c k
    field_same c k = ap (λ classes. field_at (with_classes P classes) c k) agreed.classes

    parent_same : (c : ℕ) → parent_of P c ≡ parent_of Q c
    parent_same c = ap (λ classes. parent_of (with_classes P classes) c) agreed.classes

    inherited_same : (c : ℕ) → inherited_fields P c ≡ inherited_fields Q c
    inherited_same c = ap (λ classes. inherited_fields (with_classes P classes) c) agreed.classes

    above_in : {c d : ℕ} {args a : List Rpl} → Above Q c args d a → Above P c args d a
    above_in Above.itself = Above.itself
    above_in (Above.through_parent {c = c} e rest) = Above.through_parent (parent_same c ∙ e) (above_in rest)

    pub above_one : (c d : ℕ) (args a b : List Rpl) → Above P c args d a → Above Q c args d b → a ≡ b
    above_one c d args a b h i = agreed.above c d args a b h (above_in i)

    pub row_one : (c r q m n name : ℕ) → row_at P c r ≡ Some m → row_at Q c q ≡ Some n → method_name tree m ≡ Some name → method_name tree n ≡ Some name → r ≡ q
    row_one c r q m n name e d = agreed.rows c r q m n name e (row_same c q ∙ d)

    declared_to : (name c slot : ℕ) → DeclaresField tree P name c slot → DeclaresField tree Q name c slot
    declared_to name c slot h = (h.0, h.1, h.2, h.3, h.4, h.5, h.6 ∙ ap (λ z. z + h.2) (inherited_same c))

    declared_from : (name c slot : ℕ) → DeclaresField tree Q name c slot → DeclaresField tree P name c slot
    declared_from name c slot h = (h.0, h.1, h.2, h.3, h.4, h.5, h.6 ∙ ap (λ z. z + h.2) (sym (inherited_same c)))

    pub slot_one : (name c j k : ℕ) → MeansIn P (DeclaresField tree P name) c j → MeansIn Q (DeclaresField tree Q name) c k → j ≡ k
    slot_one name c j k d e =
        means_one agreed.same (DeclaresField tree P name) (DeclaresField tree Q name) (λ b i l h o. agreed.fields name b i l h (declared_from name b l o)) (declared_to name) (declared_from name) d e
