use Rattle.std.proofs.Common.{◌≡◌, take, map}
use Rattle.decl_headers.specs.Gathered.{param_row}
use Rattle.decl_headers.proofs.gather.param_rows.Given as goal

abbrev pub invariant-loop-param : goal.invariant-loop-param
invariant-loop-param l = l.rows ≡ map param_row (take l.param-index l.params)
