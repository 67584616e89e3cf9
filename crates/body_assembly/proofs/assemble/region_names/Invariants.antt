use Rattle.std.proofs.Common.{◌≡◌, ◌++◌, map, drop}
use Rattle.lang_typed.specs.Names.{named_region}
use Rattle.body_assembly.specs.Named.{region_named}
use Rattle.body_assembly.proofs.assemble.region_names.Given as goal

abbrev pub invariant-loop-row : goal.invariant-loop-row
invariant-loop-row l = record {
  atomic : map (λ name. name.atomic) l.made ++ map (λ row. row.is_atomic) (drop l.row-index l.rows) ≡ map (λ row. row.is_atomic) l.rows;
  named : map named_region l.made ++ map (region_named l.names) (drop l.row-index l.rows) ≡ map (region_named l.names) l.rows;
}
