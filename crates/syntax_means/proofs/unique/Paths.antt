-- What region paths, region arguments and types mean is one thing, in two programs whose classes have the same superclasses and as
-- many region parameters.
use Rattle.std.proofs.Common.{◌≡◌, ◌∙◌, ℕ, Bool, List, [], ◌∷◌, ◌++◌, is_some, map, Option, Some, option_map, refl, ap, sym, subst}
use Rattle.std.specs.Prelude.{slice_get}
use Rattle.lang_base.specs.declared.elems.Elem.{Elem}
use Rattle.lang_base.specs.declared.elems.Elem.TheVariants.{Name, Local}
use Rattle.lang_base.specs.declared.elems.Elem.TheVariants.{At}
use Rattle.lang_base.specs.declared.elems.Index.TheVariants.{Variable, Own}
use Rattle.lang_base.specs.declared.region.Head.TheVariants.{Root, Param}
use Rattle.lang_base.specs.declared.region.Rpl.{Rpl}
use Rattle.lang_base.specs.Regions.{following}
use Rattle.lang_base.specs.Types.{PlainType, array}
use Rattle.syntax_tree.specs.declared.class.Program.{Program}
use Rattle.syntax_tree.specs.declared.region.BaseTree.{BaseTree}
use Rattle.syntax_tree.specs.declared.region.ElemTree.{ElemTree}
use Rattle.syntax_tree.specs.declared.region.Named.{Named}
use Rattle.syntax_tree.specs.declared.region.RName.{RName}
use Rattle.syntax_tree.specs.declared.region.RplHead.{RplHead}
use Rattle.syntax_tree.specs.declared.region.RplTree.{RplTree}
use Rattle.syntax_tree.specs.declared.region.Suffix.{Suffix}
use Rattle.syntax_tree.specs.declared.region.TypeTree.{TypeTree}
use Rattle.lang_typed.specs.Plain.{PlainProgram, PlainClass, PlainParent}
use Rattle.lang_typed.specs.Scope.{class_at, parent_of}
use Rattle.syntax_means.specs.Declares.{ClassNamed, DeclaresRegion, MeansIn}
use Rattle.syntax_means.specs.Declares.MeansIn.{its_own, inherited}
use Rattle.syntax_means.specs.Paths.{Around, ArgsMean, ArraysMean, BaseMeans, ElemMeans, FormMeans, HeadMeans, NamesClass, PathMeans, PathOrRoot, RegionMeans, TypeMeans, index_names, root_path}
use Rattle.syntax_means.proofs.unique.Lists.{some_same, both_some, zip_one}

-- classes of two programs have the same superclasses, and region parameters
pub record SameClasses (P Q : PlainProgram) : Type 0 where
  pub parents : (c : ℕ) → option_map (λ p. p.class) (parent_of P c) ≡ option_map (λ p. p.class) (parent_of Q c)
  pub params : (c : ℕ) → option_map (λ k. k.params) (class_at P c) ≡ option_map (λ k. k.params) (class_at Q c)

-- a name of a class, of a region in a class or of these region parameters has one number
pub record OneNumber (tree : Program) (around : List ℕ) : Type 0 where
  pub classes : (name c d : ℕ) → ClassNamed tree name c → ClassNamed tree name d → c ≡ d
  pub regions : (name c m n : ℕ) → DeclaresRegion tree name c m → DeclaresRegion tree name c n → m ≡ n
  pub params : (p q name : ℕ) → slice_get around p ≡ Some name → slice_get around q ≡ Some name → p ≡ q

module _ {P Q : PlainProgram} (same : SameClasses P Q)
  where
    pub same_parent : (c : ℕ) {p q : PlainParent} → parent_of P c ≡ Some p → parent_of Q c ≡ Some q → p.class ≡ q.class
    same_parent c e d = some_same (sym (ap (option_map (λ (p : PlainParent). p.class)) e) ∙ same.parents c ∙ ap (option_map (λ (p : PlainParent). p.class)) d)

    pub same_params : (c : ℕ) {k l : PlainClass} → class_at P c ≡ Some k → class_at Q c ≡ Some l → k.params ≡ l.params
    same_params c e d = some_same (sym (ap (option_map (λ (k : PlainClass). k.params)) e) ∙ same.params c ∙ ap (option_map (λ (k : PlainClass). k.params)) d)

    -- what a name means in a class, where both programs declare the same by it
    pub means_one : (D E : ℕ → ℕ → Type 0) → ((c m n : ℕ) → D c m → E c n → m ≡ n) → ((c n : ℕ) → D c n → E c n) → ((c n : ℕ) → E c n → D c n) →
        {c m n : ℕ} → MeansIn P D c m → MeansIn Q E c n → m ≡ n
    means_one D E one to from (its_own d) (its_own e) = one _ _ _ d e
    means_one D E one to from (its_own d) (inherited none up rest) = absurd (none _ (to _ _ d))
    means_one D E one to from (inherited none up rest) (its_own e) = absurd (none _ (from _ _ e))
    means_one D E one to from {n = n} (inherited none up rest) (inherited no_other other more) =
        means_one D E one to from rest (subst (λ k. MeansIn Q E k n) (sym (same_parent _ up other)) more)

module _ (A : Around) (Q : PlainProgram) (same : SameClasses A.typed Q) (one : OneNumber A.tree A.params)
  where
    abbrev B : Around
    B = record A { typed = Q }

    pub region_one : (written : RName) (m n : ℕ) → RegionMeans A written m → RegionMeans B written n → m ≡ n
    region_one written m n (RegionMeans.in_class alone d) (RegionMeans.in_class other e) =
        means_one same (DeclaresRegion A.tree written.first.name) (DeclaresRegion A.tree written.first.name) (one.regions written.first.name) (λ c k h. h) (λ c k h. h) d e
    region_one written m n (RegionMeans.in_class alone d) (RegionMeans.in_other second named e) = cc (alone, second)
    region_one written m n (RegionMeans.in_other second named d) (RegionMeans.in_class alone e) = cc (alone, second)
    region_one written m n (RegionMeans.in_other {second = x} {c = c} second named d) (RegionMeans.in_other {second = y} {c = k} other called e) =
        let named_so : x ≡ y = both_some second other in
        let class : k ≡ c = one.classes written.first.name k c called named in
        means_one same (DeclaresRegion A.tree x.name) (DeclaresRegion A.tree x.name) (one.regions x.name) (λ i j h. h) (λ i j h. h) d
        (subst (λ (z : Named). MeansIn Q (DeclaresRegion A.tree z.name) c n) (sym named_so) (subst (λ i. MeansIn Q (DeclaresRegion A.tree y.name) i n) class e))

    pub head_one : (h : RplHead) (a b : Rpl) → HeadMeans A h a → HeadMeans B h b → a ≡ b
    head_one h a b HeadMeans.at_root HeadMeans.at_root = refl
    head_one h a b (HeadMeans.at_param {written = w} {p = p} d) (HeadMeans.at_param {p = q} e) =
        ap (λ (i : ℕ). let path : Rpl = record { head = Param i; elems = [] } in path) (one.params p q w.first.name d.1 e.1)
    head_one h a b (HeadMeans.at_param d) (HeadMeans.at_local none e) = absurd (none _ d)
    head_one h a b (HeadMeans.at_param d) (HeadMeans.at_region none no_local e) = absurd (none _ d)
    head_one h a b (HeadMeans.at_local none d) (HeadMeans.at_param e) = absurd (none _ e)
    head_one h a b (HeadMeans.at_local none d) (HeadMeans.at_local nor e) =
        ap (λ (i : ℕ). let path : Rpl = record { head = Root; elems = Local i 0 ∷ [] } in path) (both_some d.1 e.1)
    head_one h a b (HeadMeans.at_local none d) (HeadMeans.at_region nor no_local e) = absurd (no_local _ d)
    head_one h a b (HeadMeans.at_region none no_local d) (HeadMeans.at_param e) = absurd (none _ e)
    head_one h a b (HeadMeans.at_region none no_local d) (HeadMeans.at_local nor e) = absurd (no_local _ e)
    head_one h a b (HeadMeans.at_region {written = w} {n = m} none no_local d) (HeadMeans.at_region {n = n} nor none_local e) =
        ap (λ (i : ℕ). let path : Rpl = record { head = Root; elems = Name i ∷ [] } in path) (region_one w m n d e)

    module _ (indices : List (Option Named))
      where
        pub elem_one : (e : ElemTree) (x y : Elem) → ElemMeans A indices e x → ElemMeans B indices e y → x ≡ y
        elem_one e x y (ElemMeans.a_region {written = w} {n = m} c) (ElemMeans.a_region {n = n} d) = ap Name (region_one w m n c d)
        elem_one e x y ElemMeans.a_star ElemMeans.a_star = refl
        elem_one e x y ElemMeans.any_index ElemMeans.any_index = refl
        elem_one e x y ElemMeans.a_literal ElemMeans.a_literal = refl
        elem_one e x y (ElemMeans.an_index c) (ElemMeans.an_index d) = ap (λ i. At (Own i)) (both_some c d)
        elem_one e x y (ElemMeans.an_index c) (ElemMeans.a_variable none d) = cc (c, none)
        elem_one e x y (ElemMeans.a_variable none c) (ElemMeans.an_index d) = cc (d, none)
        elem_one e x y (ElemMeans.a_variable none c) (ElemMeans.a_variable nor d) = ap (λ i. At (Variable i)) (both_some c d)

        pub path_one : (path : RplTree) (a b : Rpl) → PathMeans A indices path a → PathMeans B indices path b → a ≡ b
        path_one path a b m n =
            let start = head_one path.head m.start n.start m.begins n.begins in
            let elems = zip_one (ElemMeans A indices) (ElemMeans B indices) elem_one path.elems m.elems n.elems m.goes_on n.goes_on in
            m.is ∙ ap (λ (s : Rpl). following s m.elems) start ∙ ap (following n.start) elems ∙ sym n.is

        pub path_or_root_one : (path : Option RplTree) (a b : Rpl) → PathOrRoot A indices path a → PathOrRoot B indices path b → a ≡ b
        path_or_root_one path a b PathOrRoot.left_out PathOrRoot.left_out = refl
        path_or_root_one path a b (PathOrRoot.written {path = written} m) (PathOrRoot.written n) = path_one written a b m n

        pub args_one : (params others : List Bool) (paths : List RplTree) (a b : List Rpl) → params ≡ others → ArgsMean A indices params paths a → ArgsMean B indices others paths b → a ≡ b
        args_one params others paths a b so (ArgsMean.all_left_out d) (ArgsMean.all_left_out e) = d ∙ ap (λ (ps : List Bool). map (λ p. root_path) ps) so ∙ sym e
        args_one params others paths a b so (ArgsMean.all_written {path = path} {paths = more} d) (ArgsMean.all_written e) =
            zip_one (PathMeans A indices) (PathMeans B indices) path_one (path ∷ more) a b d e

        pub class_one : (name : Named) (paths : List RplTree) (c d : ℕ) (a b : List Rpl) → NamesClass A indices name paths c a → NamesClass B indices name paths d b → (c ≡ d) × (a ≡ b)
        class_one name paths c d a b m n =
            let class = one.classes name.name c d m.named n.named in
            let params = same_params same c m.is (ap (class_at Q) class ∙ n.is) in
            (class, args_one m.class.params n.class.params paths a b params m.given n.given)

        pub base_one : (base : BaseTree) (t u : PlainType) → BaseMeans A indices base t → BaseMeans B indices base u → t ≡ u
        base_one base t u BaseMeans.an_int BaseMeans.an_int = refl
        base_one base t u BaseMeans.a_boolean BaseMeans.a_boolean = refl
        base_one base t u (BaseMeans.a_class {name = name} {paths = paths} m) (BaseMeans.a_class n) =
            let w = class_one name paths _ _ _ _ m n in
            cc (w.0, w.1)

    pub arrays_one : (outside : List (Option Named)) (suffixes : List Suffix) (t s u v : PlainType) → t ≡ s → ArraysMean A outside suffixes t u → ArraysMean B outside suffixes s v → u ≡ v
    arrays_one outside suffixes t s u v so ArraysMean.no_suffix ArraysMean.no_suffix = so
    arrays_one outside suffixes t s u v so (ArraysMean.one_suffix {s = suffix} {ss = more} {a = a} m ms) (ArraysMean.one_suffix {a = b} n ns) =
        let path = path_or_root_one (index_names (suffix ∷ more) ++ outside) suffix.rpl a b m n in
        arrays_one outside more _ _ u v (ap (λ (x : PlainType). array x a (is_some suffix.index)) so ∙ ap (λ (x : Rpl). array s x (is_some suffix.index)) path) ms ns

    pub form_one : (outside : List (Option Named)) (base : BaseTree) (suffixes : List Suffix) (t u : PlainType) →
        FormMeans A outside base suffixes t → FormMeans B outside base suffixes u → t ≡ u
    form_one outside base suffixes t u m n =
        arrays_one outside suffixes m.inside n.inside t u (base_one (index_names suffixes ++ outside) base m.inside n.inside m.begins n.begins) m.arrays n.arrays

    pub type_one : (written : TypeTree) (t u : PlainType) → TypeMeans A written t → TypeMeans B written u → t ≡ u
    type_one written t u m n = form_one [] written.base written.suffixes t u m n
