-- What the small tree means.
use Rattle.std.proofs.Common.{◌≡◌, ℕ, false, List, [], ◌∷◌, Option, Some, None, refl, sym, subst, arith, rules, slice_get}
use Rattle.lang_base.specs.declared.effect.Access.TheVariants.{Read}
use Rattle.lang_base.specs.declared.elems.Elem.TheVariants.{Name, At, Star, Local}
use Rattle.lang_base.specs.declared.elems.Index.TheVariants.{Own}
use Rattle.lang_base.specs.declared.region.Head.TheVariants.{Root}
use Rattle.lang_base.specs.declared.region.Rpl.{Rpl}
use Rattle.lang_base.specs.Types.{PlainType as ty}
use Rattle.syntax_tree.specs.declared.expr.ExprKind.{the_lemmas as expr_lemmas}
use Rattle.syntax_tree.specs.declared.region.BaseTree.TheVariants as base
use Rattle.syntax_tree.specs.declared.region.Named.{Named}
use Rattle.syntax_tree.specs.declared.region.RplHead.{RplHead}
use Rattle.syntax_tree.specs.declared.region.RplTree.{RplTree}
use Rattle.syntax_tree.specs.declared.class.MethodResult.TheVariants as outcome
use Rattle.syntax_tree.specs.declared.stmt.StmtKind.{the_lemmas}
use Rattle.syntax_tree.specs.Nd.{program_uses_nd}
use Rattle.syntax_tree.specs.declared.region.ElemTree.TheVariants as elem
use Rattle.syntax_means.specs.Bodies.{AllMean, BranchesMean, ExprMeans, ExprsMean, PartMeans, StmtMeans, with_local, with_regions}
use Rattle.syntax_tree.specs.Plain.{create, create_array, local, no_exprs, PlainStmt, more_stmts, no_stmts}
use Rattle.lang_typed.specs.Plain.{typed, TypedStmt}
use Rattle.lang_typed.specs.Plain as made
use Rattle.syntax_means.specs.Declares.{DeclaresConstructor, DeclaresRegion, OwnMethod, all_methods, all_regions, its_own, inherited}
use Rattle.syntax_means.specs.Means.{ClassMeans, FieldMeans, MemberMeans, Means, SummaryMeans, ParentMeans, ResultMeans, in_class, in_method}
use Rattle.syntax_means.specs.Paths.{beside, ArgsMean, ArraysMean, Around, BaseMeans, ElemMeans, FormMeans, HeadMeans, PathMeans, PathOrRoot, RegionMeans, TypeMeans}
use Rattle.trial_samples.specs.trees.Cells.{here, plain_kind, int_local, right, program, tree, cell_tree, sub_tree, main_tree, main_method, main_does, main_made, cell_made, sub_made, getter, main_member, below_param, in_b, int_method, int_field, reads_below, gives_field, region_at, path, name_at, int_in, by_index, arrays_in, array_kind, prints, stores}
use Rattle.trial_samples.proofs.trees.Each.{nothing_there, each_of, both_of}
use Rattle.trial_samples.proofs.trees.CellBodies.{at, gives_is, main_is, main_plain, prints_plain, sets_plain}

-- the methods
abbrev pub get_of_cell : OwnMethod
get_of_cell = record { class = 0; method = int_method 5 (reads_below 1) (gives_field 3) }

abbrev pub get_of_sub : OwnMethod
get_of_sub = record { class = 1; method = int_method 5 (reads_below 8) (gives_field 9) }

abbrev pub main_of_main : OwnMethod
main_of_main = record { class = 2; method = main_method }

-- what is around the signatures, and around the bodies
abbrev pub in_cell : Around
in_cell = in_class tree (program right) 0 cell_tree

abbrev pub in_sub : Around
in_sub = in_class tree (program right) 1 sub_tree

abbrev pub in_main : Around
in_main = in_method tree (program right) main_tree main_of_main

-- no constructor is declared
pub no_constructor : (c n : ℕ) → DeclaresConstructor tree c n → ⊥
no_constructor c n (method, is, made) =
    each_of (λ n own. own.method.result ≡ outcome.Constructor → ⊥) (all_methods tree)
    ((λ e. absurd (cc)), ((λ e. absurd (cc)), ((λ e. absurd (cc)), tt))) n (record { class = c; method = method }) is made

-- `A` isn't of Sub
pub none_of_sub : (n : ℕ) → DeclaresRegion tree 2 1 n → ⊥
none_of_sub n (is_atomic, is) =
    each_of (λ n own. own.class ≡ 1 → ⊥) (all_regions tree) ((λ e. absurd (omega arith)), ((λ e. absurd (omega arith)), tt)) n (record { class = 1; name = 2; is_atomic = is_atomic }) is refl

-- paths at a parameter
at_cell : {A : Around} → A.params ≡ 1 ∷ [] → HeadMeans A (RplHead.Name (region_at 1)) (below_param [])
at_cell e = HeadMeans.at_param (refl, subst (λ z. slice_get z 0 ≡ Some 1) (sym e) refl)

at_sub : {A : Around} → A.params ≡ 8 ∷ [] → HeadMeans A (RplHead.Name (region_at 8)) (below_param [])
at_sub e = HeadMeans.at_param (refl, subst (λ z. slice_get z 0 ≡ Some 8) (sym e) refl)

x_region : PathMeans in_cell [] (path 1 []) (below_param [])
x_region = record { start = below_param []; begins = at_cell refl; elems = []; goes_on = tt; is = refl }

y_region : PathMeans in_cell [] (path 1 (elem.Name (region_at 2) ∷ [])) (below_param (Name 0 ∷ []))
y_region = record {
  start = below_param [];
  begins = at_cell refl;
  elems = Name 0 ∷ [];
  goes_on = (ElemMeans.a_region (RegionMeans.in_class refl (its_own (false, refl))), tt);
  is = refl;
}

z_region : PathMeans in_sub [] (path 8 (elem.Name (region_at 2) ∷ [])) (below_param (Name 0 ∷ []))
z_region = record {
  start = below_param [];
  begins = at_sub refl;
  elems = Name 0 ∷ [];
  goes_on = (ElemMeans.a_region (RegionMeans.in_class refl (inherited none_of_sub refl (its_own (false, refl)))), tt);
  is = refl;
}

an_int : {A : Around} {outside : List (Option Named)} → FormMeans A outside base.Int [] ty.int
an_int = record { inside = ty.int; begins = BaseMeans.an_int; arrays = ArraysMean.no_suffix }

-- the regions of the fields, from the place in the class on
int_field_means : {A : Around} {region : Rpl} (name : ℕ) {written : RplTree} → PathMeans A [] written region → FieldMeans A (int_field name written) (int_in region)
int_field_means name h = record { ty = an_int; region = PathOrRoot.written h }

summary_of : {A : Around} (name : ℕ) → HeadMeans A (RplHead.Name (region_at name)) (below_param []) →
    SummaryMeans A (Some (reads_below name)) (record { access = Read; atomic = false; rpl = below_param (Star ∷ []) } ∷ [])
summary_of name h =
    SummaryMeans.written (record { access = Read; atomic = false; rpl = below_param (Star ∷ []) } ∷ []) []
    (record { path = record { start = below_param []; begins = h; elems = Star ∷ []; goes_on = (ElemMeans.a_star, tt); is = refl }; is = refl }, tt) tt (λ e. ((λ h. h), (λ h. h)))

-- the classes
sub_parent : ParentMeans in_sub (Some (record { name = name_at 0; args = path 8 [] ∷ [] })) (Some (record { class = 0; args = below_param [] ∷ [] }))
sub_parent = ParentMeans.a_parent (record {
  class = cell_made right;
  named = (cell_tree, refl, refl);
  is = refl;
  given = ArgsMean.all_written (record { start = below_param []; begins = at_sub refl; elems = []; goes_on = tt; is = refl }, tt);
})

cell_means : ClassMeans tree (program right) 0 cell_tree (cell_made right)
cell_means = record {
  params = refl;
  given = tt;
  parent = ParentMeans.no_parent;
  above = [];
  own = int_in (below_param []) ∷ int_in (below_param (Name 0 ∷ [])) ∷ [];
  fields = refl;
  inherited = refl;
  declared = (int_field_means 3 x_region, (int_field_means 4 y_region, tt));
  rows = refl;
  constructor = no_constructor 0;
}

sub_means : ClassMeans tree (program right) 1 sub_tree (sub_made right)
sub_means = record {
  params = refl;
  given = tt;
  parent = sub_parent;
  above = int_in (below_param []) ∷ int_in (below_param (Name 0 ∷ [])) ∷ [];
  own = int_in (below_param (Name 0 ∷ [])) ∷ [];
  fields = refl;
  inherited = refl;
  declared = (int_field_means 9 z_region, tt);
  rows = refl;
  constructor = no_constructor 1;
}

main_class_means : ClassMeans tree (program right) 2 main_tree main_made
main_class_means = record {
  params = refl;
  given = tt;
  parent = ParentMeans.no_parent;
  above = [];
  own = [];
  fields = refl;
  inherited = refl;
  declared = tt;
  rows = refl;
  constructor = no_constructor 2;
}

-- the methods that give a field
get_of_cell_means : MemberMeans tree (program right) get_of_cell (getter 0 0 (below_param (Star ∷ [])))
get_of_cell_means = record {
  class = cell_tree;
  stands = refl;
  of_class = refl;
  params = refl;
  given = tt;
  formals = (an_int, tt);
  result = ResultMeans.a_value an_int;
  summary = summary_of 1 (HeadMeans.at_param (refl, refl));
  body = subst (λ z. AllMean (in_method tree (program right) cell_tree get_of_cell) z (getter 0 0 (below_param (Star ∷ []))).body) (sym (gives_is 3))
      (AllMean.more_stmts (StmtMeans.a_return_value (ExprMeans.a_field ExprMeans.itself (its_own (cell_tree, int_field 3 (path 1 []), 0, refl, refl, refl, refl)))) AllMean.no_stmts);
  slots = refl;
  regions = refl;
}

get_of_sub_means : MemberMeans tree (program right) get_of_sub (getter 1 2 (below_param (Star ∷ [])))
get_of_sub_means = record {
  class = sub_tree;
  stands = refl;
  of_class = refl;
  params = refl;
  given = tt;
  formals = (an_int, tt);
  result = ResultMeans.a_value an_int;
  summary = summary_of 8 (HeadMeans.at_param (refl, refl));
  body = subst (λ z. AllMean (in_method tree (program right) sub_tree get_of_sub) z (getter 1 2 (below_param (Star ∷ []))).body) (sym (gives_is 9))
      (AllMean.more_stmts (StmtMeans.a_return_value (ExprMeans.a_field ExprMeans.itself
      (its_own (sub_tree, int_field 9 (path 8 (elem.Name (region_at 2) ∷ [])), 0, refl, refl, refl, refl)))) AllMean.no_stmts);
  slots = refl;
  regions = refl;
}

-- the body of `main`
b_path : {A : Around} → A.params ≡ [] → beside A.regions 11 ≡ None → A.class ≡ 2 → A.tree ≡ tree → PathMeans A [] (path 11 []) in_b
b_path {A = A} no_params no_local is_main is_tree = record {
  start = in_b;
  begins = HeadMeans.at_region (λ p h. nothing_there 11 (subst (λ z. slice_get z p ≡ Some 11) no_params h.1))
      (λ r h. nothing_there r (subst (λ z. z ≡ Some r) no_local h.1))
      (RegionMeans.in_class refl (its_own (
        false,
        subst (λ c. slice_get (all_regions A.tree) 1 ≡ Some (record { class = c; name = 11; is_atomic = false })) (sym is_main)
            (subst (λ t. slice_get (all_regions t) 1 ≡ Some (record { class = 2; name = 11; is_atomic = false })) (sym is_tree) refl),
      )));
  elems = [];
  goes_on = tt;
  is = refl;
}

-- around the statements after the local region, after c and after a
abbrev after_region : Around
after_region = with_regions (name_at 13 ∷ []) (0 ∷ []) in_main

abbrev after_cell : Around
after_cell = with_local 14 2 after_region

abbrev after_array : Around
after_array = with_local 16 5 after_cell

is_cell : TypeMeans after_region (plain_kind (base.Class (name_at 0) (path 11 [] ∷ []))) (ty.class 0 (in_b ∷ []))
is_cell = record {
  inside = ty.class 0 (in_b ∷ []);
  begins = BaseMeans.a_class (record { class = cell_made right; named = (cell_tree, refl, refl); is = refl; given = ArgsMean.all_written (b_path refl refl refl refl, tt) });
  arrays = ArraysMean.no_suffix;
}

new_sub : ExprMeans after_region (at (create (name_at 7) (path 11 [] ∷ []) no_exprs)) (typed here (ty.class 1 (in_b ∷ [])) (made.create made.no_exprs))
new_sub = ExprMeans.a_creation (record { class = sub_made right; named = (sub_tree, refl, refl); is = refl; given = ArgsMean.all_written (b_path refl refl refl refl, tt) }) ExprsMean.no_exprs

prints_means : {A : Around} (x n : ℕ) → StmtMeans A (prints_plain n) (prints x n x)
prints_means x n = StmtMeans.a_block (AllMean.a_declaration an_int ExprMeans.an_int (AllMean.more_stmts (StmtMeans.print_int (ExprMeans.a_local refl)) AllMean.no_stmts))

-- `R:[i]`, inside an array type with that index name
r_path : PathMeans after_cell (Some (name_at 17) ∷ []) by_index (record { head = Root; elems = Local 0 0 ∷ At (Own 0) ∷ [] })
r_path = record {
  start = record { head = Root; elems = Local 0 0 ∷ [] };
  begins = HeadMeans.at_local (λ p h. nothing_there 13 h.1) (refl, refl);
  elems = At (Own 0) ∷ [];
  goes_on = (ElemMeans.an_index refl, tt);
  is = refl;
}

is_array : TypeMeans after_cell array_kind (arrays_in 0)
is_array = record { inside = ty.int; begins = BaseMeans.an_int; arrays = ArraysMean.one_suffix (PathOrRoot.written r_path) ArraysMean.no_suffix }

new_array : ExprMeans after_cell (at (create_array base.Int [] (at (local 6)) (Some by_index) (Some (name_at 17)))) (typed here (arrays_in 0) (made.create_array (int_local 1)))
new_array = ExprMeans.an_array an_int (PathOrRoot.written r_path) refl (ExprMeans.a_local refl)

stores_x : (n : ℕ) → StmtMeans after_array (sets_plain 3 n) (stores 0 n)
stores_x n = StmtMeans.to_field (ExprMeans.a_local refl) (its_own (cell_tree, int_field 3 (path 1 []), 0, refl, refl, refl, refl)) ExprMeans.an_int

stores_y : (n : ℕ) → StmtMeans after_array (sets_plain 4 n) (stores 1 n)
stores_y n = StmtMeans.to_field (ExprMeans.a_local refl) (its_own (cell_tree, int_field 4 (path 1 (elem.Name (region_at 2) ∷ [])), 1, refl, refl, refl, refl)) ExprMeans.an_int

one : {A : Around} {d : PlainStmt} {s : TypedStmt} → StmtMeans A d s → AllMean A (more_stmts d no_stmts) (made.more_stmts s made.no_stmts)
one h = AllMean.more_stmts h AllMean.no_stmts

body_means : AllMean in_main main_plain (main_does right)
body_means =
    AllMean.new_regions refl
    (AllMean.a_declaration is_cell new_sub
    (AllMean.more_stmts (prints_means 3 1)
    (AllMean.more_stmts (prints_means 4 2)
    (AllMean.a_declaration is_array new_array
    (AllMean.more_stmts (StmtMeans.a_cobegin refl (BranchesMean.more_branches (PartMeans.a_part (one (stores_x 1))) (BranchesMean.more_branches (PartMeans.a_part (one (stores_y 2))) BranchesMean.no_branches)))
    (AllMean.more_stmts (StmtMeans.a_foreach refl ExprMeans.an_int (ExprMeans.a_local refl)
    (PartMeans.a_part (one (StmtMeans.a_block (one (StmtMeans.to_element (ExprMeans.a_local refl) (ExprMeans.a_local refl) (ExprMeans.a_local refl)))))))
    (AllMean.more_stmts (StmtMeans.an_atomic (one (stores_x 3)))
    (one (StmtMeans.a_return_value (ExprMeans.a_call (ExprMeans.a_local refl) refl refl refl (ArgsMean.all_left_out refl) (ExprsMean.more_exprs (ExprMeans.a_local refl) ExprsMean.no_exprs)))))))))))

main_means : MemberMeans tree (program right) main_of_main (main_member right)
main_means = record {
  class = main_tree;
  stands = refl;
  of_class = refl;
  params = refl;
  given = tt;
  formals = (an_int, tt);
  result = ResultMeans.a_value an_int;
  summary = SummaryMeans.left_out;
  body = subst (λ z. AllMean in_main z (main_does right)) (sym main_is) body_means;
  slots = (refl, (refl, (refl, (refl, (refl, refl)))));
  regions = (refl, refl);
}

no_nd : false ≡ program_uses_nd tree
no_nd = search (rules, the_lemmas, expr_lemmas)

pub means : Means tree (program right)
means = record {
  as_many_classes = refl;
  classes = both_of (ClassMeans tree (program right)) tree.classes (program right).classes (cell_means, (sub_means, (main_class_means, tt)));
  as_many_members = refl;
  members = both_of (λ n own m. MemberMeans tree (program right) own m) (all_methods tree) (program right).members (get_of_cell_means, (get_of_sub_means, (main_means, tt)));
  region_names = refl;
  main_name = 10;
  main_class = (main_tree, refl, refl);
  main_spelled = refl;
  entry_name = 12;
  main_member = refl;
  entry_spelled = refl;
  uses_nd = no_nd;
}
