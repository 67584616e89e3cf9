use Rattle.std.proofs.Common.{◌≡◌, map, drop}
use Rattle.syntax_tree.specs.Nd.{some_holds_nd}
use Rattle.syntax_tree.specs.Plain.{plain_stmt, plain_stmts}
use Rattle.syntax_tree.proofs.nd.+nd.Given as goal

abbrev pub invariant-some_holds_nd-loop-stmt : goal.invariant-some_holds_nd-loop-stmt
invariant-some_holds_nd-loop-stmt l =
    some_holds_nd (plain_stmts (map plain_stmt (drop l.stmt-index l.stmts))) ≡ some_holds_nd (plain_stmts (map plain_stmt l.stmts))
