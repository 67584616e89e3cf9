use Rattle.std.proofs.Common.{◌≡◌, ◌++◌, map, drop}
use Rattle.lang_typed.specs.Plain.{plain_field as typed_field}
use Rattle.decl_table.specs.Plain.{plain_field}
use Rattle.body_assembly.specs.Assembled.{field_of}
use Rattle.body_assembly.proofs.classes.fields_of.Given as goal

abbrev pub invariant-loop-row : goal.invariant-loop-row
invariant-loop-row l = map typed_field l.made ++ map field_of (map plain_field (drop l.row-index l.row-items)) ≡ map field_of (map plain_field l.row-items)
