use Rattle.std.proofs.Common.{◌≡◌, map, drop}
use Rattle.lang_typed.specs.Plain.{plain_stmt, stmts_of}
use Rattle.lang_typed.specs.Statements.{all_complete}
use Rattle.code_compile.proofs.bodies.+completes.Given as goal

abbrev pub invariant-all_complete-loop-s : goal.invariant-all_complete-loop-s
invariant-all_complete-loop-s l =
    all_complete (stmts_of (map plain_stmt (drop l.s-index l.s-items))) ≡ all_complete (stmts_of (map plain_stmt l.s-items))
