-- What is picked in a typed program that the small tree means.
use Rattle.std.proofs.Common.{◌≡◌, ◌∙◌, ℕ, zero, suc, List, [], ◌∷◌, ◌++◌, length, Option, Some, None, codes, refl, sym, subst, ap, arith, slice_get, slice_index_or}
use Rattle.std.specs.List.{AllZip}
use Rattle.lang_base.specs.declared.elems.Elem.{Elem}
use Rattle.lang_base.specs.declared.elems.Elem.TheVariants.{Name}
use Rattle.lang_base.specs.declared.region.Rpl.{Rpl}
use Rattle.lang_base.specs.Regions.{following}
use Rattle.syntax_tree.specs.declared.region.ElemTree.TheVariants as elem
use Rattle.syntax_tree.specs.declared.class.Parent.{Parent}
use Rattle.syntax_tree.specs.declared.region.ElemTree.{ElemTree}
use Rattle.syntax_tree.specs.declared.region.Named.{Named}
use Rattle.syntax_tree.specs.declared.region.RplHead.{RplHead}
use Rattle.lang_typed.specs.Plain.{PlainProgram, PlainField}
use Rattle.lang_typed.specs.Scope.{parent_of}
use Rattle.syntax_means.specs.Declares.{method_name, spelled, DeclaresRegion, MeansIn, all_regions, its_own, inherited, own_fields}
use Rattle.syntax_means.specs.Means.{ClassMeans, FieldMeans, Means, ParentMeans, in_class}
use Rattle.syntax_means.specs.Paths.{ArgsMean, Around, ElemMeans, HeadMeans, PathMeans, PathOrRoot, RegionMeans}
use Rattle.trial_samples.specs.trees.Cells.{names, Picks, right, program, tree, cell_tree, sub_tree, cell_made, sub_made, below_param, region_at, path}
use Rattle.trial_samples.proofs.trees.Each.{some_is, nothing_there, each_of, each_at}

-- a path at the only parameter begins there
at_one : {A : Around} {name : ℕ} {start : Rpl} → A.params ≡ name ∷ [] → HeadMeans A (RplHead.Name (region_at name)) start → start ≡ below_param []
at_one {name = name} e (HeadMeans.at_param {p = zero} h) = refl
at_one {name = name} e (HeadMeans.at_param {p = suc p} h) = nothing_there name (subst (λ z. slice_get z (suc p) ≡ Some name) e h.1)
at_one {name = name} e (HeadMeans.at_local never h) = absurd (never 0 (refl, subst (λ z. slice_get z 0 ≡ Some name) (sym e) refl))
at_one {name = name} e (HeadMeans.at_region never other h) = absurd (never 0 (refl, subst (λ z. slice_get z 0 ≡ Some name) (sym e) refl))

-- the path of a parameter alone
no_more : (A : Around) (indices : List (Option Named)) (start : Rpl) {a : Rpl} (elems : List Elem) → AllZip (ElemMeans A indices) [] elems → a ≡ following start elems → a ≡ following start []
no_more A indices start [] g i = i
no_more A indices start (x ∷ xs) g i = absurd g

pub alone : {A : Around} {indices : List (Option Named)} {name : ℕ} {a : Rpl} → A.params ≡ name ∷ [] → PathMeans A indices (path name []) a → a ≡ below_param []
alone {A = A} {indices = indices} e h = no_more A indices h.start h.elems h.goes_on h.is ∙ ap (λ s. following s []) (at_one e h.begins)

-- the path of a parameter and one element after it
one_more : {A : Around} {indices : List (Option Named)} (start : Rpl) {a : Rpl} {x : ElemTree} (elems : List Elem) → AllZip (ElemMeans A indices) (x ∷ []) elems → a ≡ following start elems →
    (y : Elem) × ElemMeans A indices x y × (a ≡ following start (y ∷ []))
one_more start [] g i = absurd g
one_more start (y ∷ []) g i = (y, g.0, i)
one_more start (y ∷ z ∷ ys) g i = absurd g.1

pub at_param_and : {A : Around} {indices : List (Option Named)} {name : ℕ} {a : Rpl} {x : ElemTree} → A.params ≡ name ∷ [] → PathMeans A indices (path name (x ∷ [])) a →
    (y : Elem) × ElemMeans A indices x y × (a ≡ below_param (y ∷ []))
at_param_and e h =
    let k = one_more h.start h.elems h.goes_on h.is in
    (k.0, k.1, k.2 ∙ ap (λ s. following s (k.0 ∷ [])) (at_one e h.begins))

-- `A` in Cell
a_in_cell : {P : PlainProgram} (n : ℕ) → parent_of P 0 ≡ None → MeansIn P (DeclaresRegion tree 2) 0 n → n ≡ 0
a_in_cell n e (its_own (is_atomic, is)) =
    each_of (λ m own. own.class ≡ 0 → m ≡ 0) (all_regions tree) ((λ z. refl), ((λ z. absurd (omega arith)), tt)) n (record { class = 0; name = 2; is_atomic = is_atomic }) is refl
a_in_cell n e (inherited {p = p} never above h) = nothing_there p (sym e ∙ above)

a_elem : {A : Around} {indices : List (Option Named)} {y : Elem} → A.tree ≡ tree → A.class ≡ 0 → parent_of A.typed 0 ≡ None → ElemMeans A indices (elem.Name (region_at 2)) y → y ≡ Name 0
a_elem {A = A} t c e (ElemMeans.a_region {n = n} (RegionMeans.in_class flat h)) =
    ap (λ m. Name m) (a_in_cell {P = A.typed} n e (subst (λ z. MeansIn A.typed (DeclaresRegion z 2) 0 n) t (subst (λ z. MeansIn A.typed (DeclaresRegion A.tree 2) z n) c h)))
a_elem t c e (ElemMeans.a_region (RegionMeans.in_other {second = second} both named h)) = nothing_there second both

-- what is given for the region of y
fields_are : (above own fields : List PlainField) → fields ≡ above ++ own → length above ≡ 0 → own ≡ fields
fields_are [] own fields e z = sym e
fields_are (x ∷ above) own fields e z = absurd (omega arith)

y_written : {A : Around} {r : Rpl} → A.params ≡ 1 ∷ [] → A.tree ≡ tree → A.class ≡ 0 → parent_of A.typed 0 ≡ None →
    PathOrRoot A [] (Some (path 1 (elem.Name (region_at 2) ∷ []))) r → r ≡ below_param (Name 0 ∷ [])
y_written o t c e (PathOrRoot.written h) =
    let k = at_param_and o h in
    k.2 ∙ ap (λ y. below_param (y ∷ [])) (a_elem t c e k.1)

pub region_is : (q : Picks) → Means tree (program q) → q.region ≡ right.region
region_is q m =
    let k : ClassMeans tree (program q) 0 cell_tree (cell_made q) = m.classes 0 cell_tree (cell_made q) refl refl in
    let d : AllZip (FieldMeans (in_class tree (program q) 0 cell_tree)) (own_fields cell_tree) (cell_made q).fields =
    subst (λ fs. AllZip (FieldMeans (in_class tree (program q) 0 cell_tree)) (own_fields cell_tree) fs) (fields_are k.above k.own (cell_made q).fields k.fields k.inherited) k.declared in
    y_written refl refl refl refl d.1.0.region

-- what Sub gives to Cell
parent_given : {A : Around} {r : Rpl} {w : Parent} → A.params ≡ 8 ∷ [] → w.args ≡ path 8 [] ∷ [] →
    ParentMeans A (Some w) (Some (record { class = 0; args = r ∷ [] })) → r ≡ below_param []
parent_given {A = A} {r = r} e is (ParentMeans.a_parent h) = one_arg (subst (λ ps. ArgsMean A [] h.class.params ps (r ∷ [])) is h.given)
  where
    one_arg : ArgsMean A [] h.class.params (path 8 [] ∷ []) (r ∷ []) → r ≡ below_param []
    one_arg (ArgsMean.all_written g) = alone e g.0

pub parent_is : (q : Picks) → Means tree (program q) → q.parent ≡ right.parent
parent_is q m = parent_given refl refl (m.classes 1 sub_tree (sub_made q) refl refl).parent

-- the member in the row of Sub
one_row : (a b : ℕ) → a ∷ [] ≡ b ∷ [] → a ≡ b
one_row a b e = cc

pub row_is : (q : Picks) → Means tree (program q) → q.row ≡ right.row
row_is q m = one_row q.row right.row (m.classes 1 sub_tree (sub_made q) refl refl).rows

-- where a run begins
-- (no other name begins so)
spelled_main : (name : ℕ) → spelled tree name ≡ codes "main" → name ≡ 12
spelled_main name e =
    each_at (λ n text. slice_index_or text 0 0 ≡ 109 → n ≡ 12) names [] (
      (λ e. absurd (let z : 67 ≡ 109 = e in omega arith)),
      (
        (λ e. absurd (let z : 80 ≡ 109 = e in omega arith)),
        (
          (λ e. absurd (let z : 65 ≡ 109 = e in omega arith)),
          (
            (λ e. absurd (let z : 120 ≡ 109 = e in omega arith)),
            (
              (λ e. absurd (let z : 121 ≡ 109 = e in omega arith)),
              (
                (λ e. absurd (let z : 103 ≡ 109 = e in omega arith)),
                (
                  (λ e. absurd (let z : 110 ≡ 109 = e in omega arith)),
                  (
                    (λ e. absurd (let z : 83 ≡ 109 = e in omega arith)),
                    (
                      (λ e. absurd (let z : 81 ≡ 109 = e in omega arith)),
                      (
                        (λ e. absurd (let z : 122 ≡ 109 = e in omega arith)),
                        (
                          (λ e. absurd (let z : 77 ≡ 109 = e in omega arith)),
                          (
                            (λ e. absurd (let z : 66 ≡ 109 = e in omega arith)),
                            (
                              (λ e. refl),
                              (
                                (λ e. absurd (let z : 82 ≡ 109 = e in omega arith)),
                                (
                                  (λ e. absurd (let z : 99 ≡ 109 = e in omega arith)),
                                  (
                                    (λ e. absurd (let z : 107 ≡ 109 = e in omega arith)),
                                    (
                                      (λ e. absurd (let z : 97 ≡ 109 = e in omega arith)),
                                      (
                                        (λ e. absurd (let z : 105 ≡ 109 = e in omega arith)),
                                        (
                                          (λ e. absurd (let z : 106 ≡ 109 = e in omega arith)),
                                          tt,
                                        ),
                                      ),
                                    ),
                                  ),
                                ),
                              ),
                            ),
                          ),
                        ),
                      ),
                    ),
                  ),
                ),
              ),
            ),
          ),
        ),
      ),
    )
    (λ n e. absurd (let z : 0 ≡ 109 = e in omega arith)) name (ap (λ z. slice_index_or z 0 0) e)

named_main : (n : ℕ) → method_name tree n ≡ Some 12 → n ≡ 2
named_main zero e = absurd (let z : 5 ≡ 12 = some_is 5 12 e in omega arith)
named_main (suc zero) e = absurd (let z : 5 ≡ 12 = some_is 5 12 e in omega arith)
named_main (suc (suc zero)) e = refl
named_main (suc (suc (suc n))) e = nothing_there 12 e

pub main_is : (q : Picks) → Means tree (program q) → q.main ≡ right.main
main_is q m =
    let e : m.entry_name ≡ 12 = spelled_main m.entry_name m.entry_spelled in
    named_main q.main (subst (λ z. method_name tree q.main ≡ Some z) e m.main_member)
