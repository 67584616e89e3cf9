use Rattle.std.proofs.Common.{◌≡◌, ◌++◌, map, drop}
use Rattle.body_assembly.specs.Named.{params_named}
use Rattle.body_assembly.proofs.texts.params.Given as goal

abbrev pub invariant-loop-row : goal.invariant-loop-row
invariant-loop-row l = record {
  atomic : map (λ param. param.atomic) l.made ++ map (λ row. row.atomic) (drop l.row-index l.rows) ≡ map (λ row. row.atomic) l.rows;
  named : map (λ param. param.text) l.made ++ params_named l.names (drop l.row-index l.rows) ≡ params_named l.names l.rows;
}
