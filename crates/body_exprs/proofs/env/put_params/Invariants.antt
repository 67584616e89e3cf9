use Rattle.std.proofs.Common.{◌≡◌, drop, fold}
use Rattle.decl_resolve.specs.Scoped.{with_name}
use Rattle.body_exprs.proofs.env.put_params.Given as goal

abbrev pub invariant-loop-row : goal.invariant-loop-row
invariant-loop-row l = fold (λ names row. with_name names row.name row.atomic) l.params (drop l.row-index l.rows) ≡ fold (λ names row. with_name names row.name row.atomic) l.initial.params l.rows
