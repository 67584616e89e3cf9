use Rattle.std.proofs.Common.{◌≡◌, ◌++◌, map, drop}
use Rattle.code_compile.proofs.classes.methods.Given as goal

abbrev pub invariant-loop-row : goal.invariant-loop-row
invariant-loop-row l = l.made ++ map (λ row. row.number) (drop l.row-index l.row-items) ≡ map (λ row. row.number) l.row-items
