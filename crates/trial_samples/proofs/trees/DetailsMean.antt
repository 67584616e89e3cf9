-- What `final`, constraints, a call of an inherited method and a branch mean.
use Rattle.std.proofs.Common.{◌≡◌, ℕ, Bool, true, [], ◌∷◌, Some, refl, arith}
use Rattle.syntax_means.specs.Bodies.{AllMean, BranchesMean, ExprMeans, ExprsMean, PartMeans, StmtMeans}
use Rattle.syntax_means.specs.Declares.{method_name}
use Rattle.syntax_means.specs.Paths.{ArgsMean, ArraysMean, BaseMeans}
use Rattle.lang_base.specs.Types.{PlainType as ty}
use Rattle.trial_samples.specs.trees.Paths.{around}
use Rattle.trial_samples.specs.trees.Rows.{tree as rows_tree}
use Rattle.trial_samples.specs.trees.Details.{DetailsMean, called, calls_f, declared, declares_final, in_high}
use Rattle.trial_samples.proofs.trees.Each.{some_is, each_of}
use Rattle.trial_samples.proofs.trees.PathsMean.{paths_mean}

final_only : (is_final : Bool) → AllMean around declares_final (declared is_final) → is_final ≡ true
final_only is_final (AllMean.more_stmts x r) = elim x [ ]
final_only is_final (AllMean.a_declaration t e r) = refl

inherited_only : (row : ℕ) → ExprMeans in_high calls_f (called row) → row ≡ 0
inherited_only row (ExprMeans.a_call {n = n} o at name m args actuals) =
    each_of (λ r k. method_name rows_tree k ≡ Some 1 → r ≡ 0) (0 ∷ 2 ∷ []) ((λ e. refl), ((λ e. absurd (let two : 2 ≡ 1 = some_is 2 1 e in omega arith)), tt)) row n at name

pub details_mean : DetailsMean
details_mean = record {
  final_means = AllMean.a_declaration (record { inside = ty.int; begins = BaseMeans.an_int; arrays = ArraysMean.no_suffix }) ExprMeans.an_int AllMean.no_stmts;
  final_only = final_only;
  constraint_only = λ g h. (paths_mean.parameter.only g.left h.left, paths_mean.inherited.only g.right h.right);
  copies_open = λ copies. BranchesMean.more_branches (PartMeans.a_part (AllMean.more_stmts (StmtMeans.to_local refl ExprMeans.an_int) AllMean.no_stmts)) BranchesMean.no_branches;
  inherited_means = ExprMeans.a_call (ExprMeans.a_local refl) refl refl refl (ArgsMean.all_left_out refl) ExprsMean.no_exprs;
  inherited_only = inherited_only;
}
