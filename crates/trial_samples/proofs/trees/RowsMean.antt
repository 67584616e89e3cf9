-- The rows of a class with a superclass.
use Rattle.std.proofs.Common.{◌≡◌, ◌∙◌, ℕ, pos, false, List, [], ◌∷◌, Option, refl, sym, subst, ap, arith, map, rules}
use Rattle.lang_base.specs.Types.{PlainType as ty}
use Rattle.syntax_tree.specs.declared.class.MethodResult.TheVariants as outcome
use Rattle.syntax_tree.specs.declared.expr.ExprKind.{the_lemmas as expr_lemmas}
use Rattle.syntax_tree.specs.declared.region.BaseTree.TheVariants as base
use Rattle.syntax_tree.specs.declared.region.Named.{Named}
use Rattle.syntax_tree.specs.declared.stmt.StmtKind.{the_lemmas}
use Rattle.syntax_tree.specs.Nd.{program_uses_nd}
use Rattle.syntax_tree.specs.Plain.{int, return_value, more_stmts, no_stmts, plain_stmt, plain_stmts}
use Rattle.lang_typed.specs.Plain.{PlainProgram}
use Rattle.syntax_means.specs.Bodies.{AllMean, ExprMeans, StmtMeans}
use Rattle.syntax_means.specs.Declares.{DeclaresConstructor, all_methods}
use Rattle.trial_samples.specs.trees.Laws.{RowsMean}
use Rattle.syntax_means.specs.Means.{ClassMeans, MemberMeans, Means, ParentMeans, ResultMeans, SummaryMeans, in_method, with_methods}
use Rattle.syntax_means.specs.Paths.{ArgsMean, ArraysMean, Around, BaseMeans, FormMeans}
use Rattle.trial_samples.specs.trees.Rows.{does_nothing, empty_of, gives_zero, high_made, high_tree, low_made, low_tree, main_made, main_member, main_method, main_tree, rows_program, tree}
use Rattle.trial_samples.proofs.trees.Each.{each_of, both_of}
use Rattle.trial_samples.proofs.trees.CellBodies.{at, does}

no_constructor : (c n : ℕ) → DeclaresConstructor tree c n → ⊥
no_constructor c n (method, is, made) =
    each_of (λ n own. own.method.result ≡ outcome.Constructor → ⊥) (all_methods tree)
    ((λ e. absurd (cc)), ((λ e. absurd (cc)), ((λ e. absurd (cc)), ((λ e. absurd (cc)), tt)))) n (record { class = c; method = method }) is made

an_int : {A : Around} {outside : List (Option Named)} → FormMeans A outside base.Int [] ty.int
an_int = record { inside = ty.int; begins = BaseMeans.an_int; arrays = ArraysMean.no_suffix }

abbrev right_rows : PlainProgram
right_rows = rows_program (0 ∷ 1 ∷ []) (0 ∷ 2 ∷ [])

low_means : ClassMeans tree right_rows 0 low_tree (low_made (0 ∷ 1 ∷ []))
low_means = record {
  params = refl;
  given = tt;
  parent = ParentMeans.no_parent;
  above = [];
  own = [];
  fields = refl;
  inherited = refl;
  declared = tt;
  rows = refl;
  constructor = no_constructor 0;
}

main_class_means : ClassMeans tree right_rows 2 main_tree main_made
main_class_means = record {
  params = refl;
  given = tt;
  parent = ParentMeans.no_parent;
  above = [];
  own = [];
  fields = refl;
  inherited = refl;
  declared = tt;
  rows = refl;
  constructor = no_constructor 2;
}

high_means : ClassMeans tree right_rows 1 high_tree (high_made (0 ∷ 2 ∷ []))
high_means = record {
  params = refl;
  given = tt;
  parent = ParentMeans.a_parent (record { class = low_made (0 ∷ 1 ∷ []); named = (low_tree, refl, refl); is = refl; given = ArgsMean.all_left_out refl });
  above = [];
  own = [];
  fields = refl;
  inherited = refl;
  declared = tt;
  rows = refl;
  constructor = no_constructor 1;
}

empty_means : (name : ℕ) → MemberMeans tree right_rows (record { class = 0; method = does_nothing name }) (empty_of 0)
empty_means name = record {
  class = low_tree;
  stands = refl;
  of_class = refl;
  params = refl;
  given = tt;
  formals = tt;
  result = ResultMeans.nothing;
  summary = SummaryMeans.left_out;
  body = AllMean.no_stmts;
  slots = refl;
  regions = refl;
}

high_g_means : MemberMeans tree right_rows (record { class = 1; method = does_nothing 2 }) (empty_of 1)
high_g_means = record {
  class = high_tree;
  stands = refl;
  of_class = refl;
  params = refl;
  given = tt;
  formals = tt;
  result = ResultMeans.nothing;
  summary = SummaryMeans.left_out;
  body = AllMean.no_stmts;
  slots = refl;
  regions = refl;
}

zero_is : plain_stmts (map plain_stmt main_method.body) ≡ more_stmts (does (return_value (at (int (pos 0))))) no_stmts
zero_is = search (rules, the_lemmas, expr_lemmas)

main_means : MemberMeans tree right_rows (record { class = 2; method = main_method }) main_member
main_means = record {
  class = main_tree;
  stands = refl;
  of_class = refl;
  params = refl;
  given = tt;
  formals = (an_int, tt);
  result = ResultMeans.a_value an_int;
  summary = SummaryMeans.left_out;
  body = subst (λ z. AllMean (in_method tree right_rows main_tree (record { class = 2; method = main_method })) z gives_zero) (sym zero_is)
      (AllMean.more_stmts (StmtMeans.a_return_value ExprMeans.an_int) AllMean.no_stmts);
  slots = refl;
  regions = refl;
}

no_nd : false ≡ program_uses_nd tree
no_nd = search (rules, the_lemmas, expr_lemmas)

rows_mean : Means tree right_rows
rows_mean = record {
  as_many_classes = refl;
  classes = both_of (ClassMeans tree right_rows) tree.classes right_rows.classes (low_means, (high_means, (main_class_means, tt)));
  as_many_members = refl;
  members = both_of (λ n own m. MemberMeans tree right_rows own m) (all_methods tree) right_rows.members
      (empty_means 1, (empty_means 2, (high_g_means, (main_means, tt))));
  region_names = refl;
  main_name = 4;
  main_class = (main_tree, refl, refl);
  main_spelled = refl;
  entry_name = 5;
  main_member = refl;
  entry_spelled = refl;
  uses_nd = no_nd;
}

-- the rows of the lower class come of those of the upper one
rows_only : (low high : List ℕ) → Means tree (rows_program low high) → (low ≡ 0 ∷ 1 ∷ []) × (high ≡ 0 ∷ 2 ∷ [])
rows_only low high m =
    let first : low ≡ 0 ∷ 1 ∷ [] = (m.classes 0 low_tree (low_made low) refl refl).rows in
    let second : high ≡ with_methods tree 1 0 (all_methods tree) low = (m.classes 1 high_tree (high_made high) refl refl).rows in
    (first, second ∙ ap (with_methods tree 1 0 (all_methods tree)) first)

first_is : (a b : ℕ) (xs ys : List ℕ) → a ∷ xs ≡ b ∷ ys → a ≡ b
first_is a b xs ys e = cc

pub rows : RowsMean
rows = record { means = rows_mean; only = rows_only; other_order = λ m. absurd (let z : 1 ≡ 0 = first_is 1 0 (0 ∷ []) (1 ∷ []) (rows_only (1 ∷ 0 ∷ []) (2 ∷ 0 ∷ []) m).0 in omega arith) }
