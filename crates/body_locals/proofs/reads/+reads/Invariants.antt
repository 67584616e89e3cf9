use Rattle.std.proofs.Common.{◌≡◌, ◌||◌, ℕ, map, drop}
use Rattle.std.specs.List.{list_any}
use Rattle.syntax_tree.specs.Plain.{plain_expr, plain_exprs}
use Rattle.body_locals.specs.Gains.{gained}
use Rattle.body_locals.specs.Touches.{exprs_read, path_reads}
use Rattle.body_locals.proofs.reads.+reads.Given as goal

abbrev pub invariant-read_passed-loop-e : goal.invariant-read_passed-loop-e
invariant-read_passed-loop-e l =
    (x : ℕ) → gained l.inside l.reads (λ x. exprs_read x (plain_exprs (map plain_expr (drop l.e-index l.actuals)))) x
    ≡ gained l.fn.inside l.fn.reads (λ x. list_any (path_reads x) l.regions || exprs_read x (plain_exprs (map plain_expr l.actuals))) x
