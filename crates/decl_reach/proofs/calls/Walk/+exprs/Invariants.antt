use Rattle.std.proofs.Common.{◌≡◌, ◌++◌, map, drop}
use Rattle.syntax_tree.specs.Plain.{plain_expr, plain_exprs}
use Rattle.decl_reach.specs.Calls.{all_calls}
use Rattle.decl_reach.proofs.calls.Walk.+exprs.Given as goal

abbrev pub invariant-exprs-loop-e : goal.invariant-exprs-loop-e
invariant-exprs-loop-e l =
    l.called ++ all_calls l.self.table.now l.self.class l.locals (plain_exprs (map plain_expr (drop l.e-index l.all)))
    ≡ l.initial.called ++ all_calls l.self.table.now l.self.class l.locals (plain_exprs (map plain_expr l.all))
