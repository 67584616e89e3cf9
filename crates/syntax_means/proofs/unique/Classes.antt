-- The classes that a tree means are one list.
use Rattle.std.proofs.Common.{◌≡◌, ◌∙◌, ℕ, zero, suc, ◌<◌, List, [], ◌++◌, length, map, Option, Some, None, option_map, option_and_then, refl, ap, sym, subst, arith}
use Rattle.std.proofs.lemmas.List.{length-map}
use Rattle.std.proofs.lemmas.Option.{slice_get_within}
use Rattle.std.specs.Option.{option_map_or}
use Rattle.std.specs.Prelude.{slice_get}
use Rattle.lang_base.specs.declared.effect.Constraint.{Constraint}
use Rattle.syntax_tree.specs.declared.class.Class.{Class}
use Rattle.syntax_tree.specs.declared.class.Field.{Field}
use Rattle.syntax_tree.specs.declared.class.Parent.{Parent}
use Rattle.syntax_tree.specs.declared.class.Program.{Program}
use Rattle.syntax_tree.specs.declared.region.ConstrTree.{ConstrTree}
use Rattle.lang_typed.specs.Plain.{PlainProgram, PlainClass, PlainField, PlainParent}
use Rattle.lang_typed.specs.Scope.{class_at, parent_of}
use Rattle.lang_typed.specs.Table.{field_with}
use Rattle.lang_typed.specs.WellTyped.{WellTyped}
use Rattle.syntax_means.specs.Declares.{ClassNamed, all_methods, inherited_fields, own_fields}
use Rattle.syntax_means.specs.Means.{ClassMeans, ConstraintMeans, ConstructorMeans, FieldMeans, Means, ParentMeans, in_class, param_names, rows_above, with_methods}
use Rattle.syntax_means.specs.Paths.{Around}
use Rattle.syntax_means.specs.Unambiguous.{IsUnambiguous}
use Rattle.syntax_means.proofs.unique.Apart.{IsApart}
use Rattle.syntax_means.proofs.unique.Lists.{there, zip_one, same_elements, same_first}
use Rattle.syntax_means.proofs.unique.Paths.{SameClasses, OneNumber, path_one, path_or_root_one, class_one, type_one}

same_class : (k l : PlainClass) → k.params ≡ l.params → k.given ≡ l.given → k.parent ≡ l.parent → k.fields ≡ l.fields → k.rows ≡ l.rows → k.constructor ≡ l.constructor → k ≡ l
same_class k l params given parent fields rows constructor =
    ap (λ z. record k { params = z }) params ∙ ap (λ z. record k { params = l.params; given = z }) given
    ∙ ap (λ z. record k { params = l.params; given = l.given; parent = z }) parent
    ∙ ap (λ z. record k { params = l.params; given = l.given; parent = l.parent; fields = z }) fields
    ∙ ap (λ z. record l { rows = z; constructor = k.constructor }) rows ∙ ap (λ z. record l { constructor = z }) constructor

module _ (A : Around) (Q : PlainProgram) (same : SameClasses A.typed Q) (one : OneNumber A.tree A.params)
  where
    abbrev B : Around
    B = record A { typed = Q }

    pub constraint_one : (written : ConstrTree) (g h : Constraint) → ConstraintMeans A written g → ConstraintMeans B written h → g ≡ h
    constraint_one written g h m n =
        ap (λ z. record g { left = z }) (path_one A Q same one [] written.left g.left h.left m.left n.left)
        ∙ ap (λ z. record h { right = z }) (path_one A Q same one [] written.right g.right h.right m.right n.right)

    field_one : (written : Field) (f g : PlainField) → FieldMeans A written f → FieldMeans B written g → f ≡ g
    field_one written f g m n =
        ap (λ z. record f { ty = z }) (type_one A Q same one written.ty f.ty g.ty m.ty n.ty)
        ∙ ap (λ z. record g { region = z }) (path_or_root_one A Q same one [] written.region f.region g.region m.region n.region)

    parent_one : (written : Option Parent) (p q : Option PlainParent) → ParentMeans A written p → ParentMeans B written q → p ≡ q
    parent_one written p q ParentMeans.no_parent ParentMeans.no_parent = refl
    parent_one written p q (ParentMeans.a_parent {written = w} {p = x} m) (ParentMeans.a_parent {p = y} n) =
        let both = class_one A Q same one [] w.name w.args x.class y.class x.args y.args m n in
        ap (λ z. Some (record x { class = z })) both.0 ∙ ap (λ z. Some (record y { args = z })) both.1

module _ (tree : Program) (P Q : PlainProgram) (clear : IsUnambiguous tree P) (apart : IsApart tree) (m : Means tree P) (n : Means tree Q)
  where
    class_there : (R : PlainProgram) → length R.classes ≡ length tree.classes → (c : ℕ) (k : PlainClass) → class_at R c ≡ Some k → (class : Class) × (slice_get tree.classes c ≡ Some class)
    class_there R long c k e = let less = slice_get_within R.classes c k e in there tree.classes c (omega (arith, less, long))

    none_there : (R S : PlainProgram) → length R.classes ≡ length S.classes → (c : ℕ) (k : PlainClass) → class_at R c ≡ Some k → class_at S c ≡ None → ⊥
    none_there R S long c k e d =
        let less = slice_get_within R.classes c k e in
        let w = there S.classes c (omega (arith, less, long)) in
        let other = w.1 in
        cc (other, d)

    pointwise : {X : Type 0} (F : Option PlainClass → X) (c : ℕ) →
        ((class : Class) (k l : PlainClass) → slice_get tree.classes c ≡ Some class → class_at P c ≡ Some k → class_at Q c ≡ Some l → F (Some k) ≡ F (Some l)) → F (class_at P c) ≡ F (class_at Q c)
    pointwise F c each = by (class_at P c) (class_at Q c) refl refl
      where
        by : (o p : Option PlainClass) → class_at P c ≡ o → class_at Q c ≡ p → F o ≡ F p
        by None None e d = refl
        by None (Some l) e d = absurd (none_there Q P (n.as_many_classes ∙ sym m.as_many_classes) c l d e)
        by (Some k) None e d = absurd (none_there P Q (m.as_many_classes ∙ sym n.as_many_classes) c k e d)
        by (Some k) (Some l) e d = let w = class_there P m.as_many_classes c k e in each w.0 k l w.1 e d

    superclass_one : (A B : Around) → A.tree ≡ tree → B.tree ≡ tree → (written : Option Parent) (p q : Option PlainParent) → ParentMeans A written p → ParentMeans B written q →
        option_map (λ (x : PlainParent). x.class) p ≡ option_map (λ (x : PlainParent). x.class) q
    superclass_one A B a b written p q ParentMeans.no_parent ParentMeans.no_parent = refl
    superclass_one A B a b written p q (ParentMeans.a_parent {written = w} {p = x} c) (ParentMeans.a_parent {p = y} d) =
        ap Some (clear.classes w.name.name x.class y.class (subst (λ t. ClassNamed t w.name.name x.class) a c.named) (subst (λ t. ClassNamed t w.name.name y.class) b d.named))

    pub same_classes : SameClasses P Q
    same_classes = record {
      parents = λ c. pointwise (λ o. option_map (λ (p : PlainParent). p.class) (option_and_then (λ (k : PlainClass). k.parent) o)) c (λ class k l t e d.
          superclass_one (in_class tree P c class) (in_class tree Q c class) refl refl class.parent k.parent l.parent (m.classes c class k t e).parent (n.classes c class l t d).parent);
      params = λ c. pointwise (option_map (λ (k : PlainClass). k.params)) c (λ class k l t e d. ap Some ((m.classes c class k t e).params ∙ sym (n.classes c class l t d).params));
    }

    pub class_names : (c : ℕ) (class : Class) → slice_get tree.classes c ≡ Some class → OneNumber tree (param_names class.params)
    class_names c class t = record { classes = clear.classes; regions = clear.regions; params = λ p q name e d. apart.class_params c p q name class t e d }

    constructor_one : (c : ℕ) (o p : Option ℕ) → ConstructorMeans tree c o → ConstructorMeans tree c p → o ≡ p
    constructor_one c None None a b = refl
    constructor_one c None (Some j) a b = absurd (a j b)
    constructor_one c (Some i) None a b = absurd (b i a)
    constructor_one c (Some i) (Some j) a b = ap Some (clear.constructors c i j a b)

    -- what a class has from its superclass
    record FromAbove (R : PlainProgram) (typed : WellTyped R) (c : ℕ) (p : PlainParent) (above : List PlainField) : Type 0 where
      class : PlainClass
      is : class_at R p.class ≡ Some class
      before : typed.rank p.class < typed.rank c
      fields : above ≡ map (field_with p.args) class.fields

    parent_is : (R : PlainProgram) (c : ℕ) (k : PlainClass) → class_at R c ≡ Some k → parent_of R c ≡ k.parent
    parent_is R c k e = ap (option_and_then (λ (z : PlainClass). z.parent)) e

    from_above : (R : PlainProgram) (typed : WellTyped R) (c : ℕ) (class : Class) (k : PlainClass) → class_at R c ≡ Some k → (w : ClassMeans tree R c class k) → (p : PlainParent) → k.parent ≡ Some p →
        FromAbove R typed c p w.above
    from_above R typed c class k e w p up =
        let x = (typed.classes c k e).parent p up in
        let parent : parent_of R c ≡ Some p = parent_is R c k e ∙ up in
        let inherited : inherited_fields R c ≡ length x.above.fields =
        ap (λ (o : Option PlainParent). option_map_or (λ (p : PlainParent). option_map_or (λ (k : PlainClass). length k.fields) (class_at R p.class) 0) o 0) parent
        ∙ ap (λ (o : Option PlainClass). option_map_or (λ (k : PlainClass). length k.fields) o 0) x.is in
        record {
          class = x.above;
          is = x.is;
          before = x.before;
          fields = same_first w.above (map (field_with p.args) x.above.fields) w.own x.own_fields (w.inherited ∙ inherited ∙ sym (length-map x.above.fields (field_with p.args))) (sym w.fields ∙ x.fields);
        }

    none_above : (R : PlainProgram) (c : ℕ) (class : Class) (k : PlainClass) → class_at R c ≡ Some k → (w : ClassMeans tree R c class k) → k.parent ≡ None → w.above ≡ []
    none_above R c class k e w up =
        let none = ap (λ (o : Option PlainParent). option_map_or (λ (p : PlainParent). option_map_or (λ (k : PlainClass). length k.fields) (class_at R p.class) 0) o 0) (parent_is R c k e ∙ up) in
        same_first w.above [] w.own (w.above ++ w.own) (w.inherited ∙ none) refl

    module _ (typed : WellTyped P) (other : WellTyped Q)
      where
        -- with what stands above it the same, a class is the same
        same_here : (c : ℕ) (class : Class) (k l : PlainClass) → slice_get tree.classes c ≡ Some class → (v : ClassMeans tree P c class k) → (w : ClassMeans tree Q c class l) → k.parent ≡ l.parent →
            v.above ≡ w.above → rows_above P k.parent ≡ rows_above Q l.parent → k ≡ l
        same_here c class k l t v w parent above rows =
            let A = in_class tree P c class in
            let one = class_names c class t in
            let given = zip_one (ConstraintMeans A) (ConstraintMeans (in_class tree Q c class)) (constraint_one A Q same_classes one) class.params.given k.given l.given v.given w.given in
            let own = zip_one (FieldMeans A) (FieldMeans (in_class tree Q c class)) (field_one A Q same_classes one) (own_fields class) v.own w.own v.declared w.declared in
            same_class k l (v.params ∙ sym w.params) given parent (v.fields ∙ ap (λ z. z ++ v.own) above ∙ ap (λ z. w.above ++ z) own ∙ sym w.fields)
            (v.rows ∙ ap (with_methods tree c 0 (all_methods tree)) rows ∙ sym w.rows) (constructor_one c k.constructor l.constructor v.constructor w.constructor)

        class_same : (fuel c : ℕ) → typed.rank c < fuel → (class : Class) (k l : PlainClass) → slice_get tree.classes c ≡ Some class → class_at P c ≡ Some k → class_at Q c ≡ Some l → k ≡ l
        class_same zero c less class k l t e d = absurd (omega (arith, less))
        class_same (suc fuel) c less class k l t e d =
            let v = m.classes c class k t e in
            let w = n.classes c class l t d in
            let parent = parent_one (in_class tree P c class) Q same_classes (class_names c class t) class.parent k.parent l.parent v.parent w.parent in
            by v w parent l.parent parent refl (class_same fuel)
          where
            by : (v : ClassMeans tree P c class k) → (w : ClassMeans tree Q c class l) → k.parent ≡ l.parent → (o : Option PlainParent) → k.parent ≡ o → l.parent ≡ o →
                ((b : ℕ) → typed.rank b < fuel → (upper : Class) (x y : PlainClass) → slice_get tree.classes b ≡ Some upper → class_at P b ≡ Some x → class_at Q b ≡ Some y → x ≡ y) → k ≡ l
            by v w parent None a b more =
                same_here c class k l t v w parent (none_above P c class k e v a ∙ sym (none_above Q c class l d w b)) (ap (rows_above P) a ∙ sym (ap (rows_above Q) b))
            by v w parent (Some p) a b more =
                let x = from_above P typed c class k e v p a in
                let y = from_above Q other c class l d w p b in
                let there = class_there P m.as_many_classes p.class x.class x.is in
                let first = x.before in
                let same = more p.class (omega (arith, first, less)) there.0 x.class y.class there.1 x.is y.is in
                let rows_of = λ (z : Option PlainClass). option_map_or (λ (k : PlainClass). k.rows) z [] in
                let rows = ap (rows_above P) a ∙ ap rows_of x.is ∙ ap (λ (z : PlainClass). z.rows) same ∙ sym (ap rows_of y.is) ∙ sym (ap (rows_above Q) b) in
                same_here c class k l t v w parent (x.fields ∙ ap (λ (z : PlainClass). map (field_with p.args) z.fields) same ∙ sym y.fields) rows

        pub classes_same : P.classes ≡ Q.classes
        classes_same = same_elements P.classes Q.classes (m.as_many_classes ∙ sym n.as_many_classes) (λ c k l e d.
            (let w = class_there P m.as_many_classes c k e in class_same (suc (typed.rank c)) c (omega arith) w.0 k l w.1 e d))
