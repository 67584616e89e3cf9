use Rattle.std.proofs.Common.{◌≡◌, ◌++◌, ◌-◌, map}
use Rattle.std.specs.List.{range_with_len}
use Rattle.decl_headers.specs.Numbers.{as_number}
use Rattle.lang_typed.specs.Names.{named_class}
use Rattle.body_assembly.specs.Assembled.{own_class, own_class_of}
use Rattle.body_assembly.specs.Named.{class_named}
use Rattle.body_assembly.proofs.classes.classes.Given as goal

abbrev pub invariant-loop-at : goal.invariant-loop-at
invariant-loop-at l = record {
  made : map own_class l.made ++ map (own_class_of l.table) (range_with_len l.at (l.at-end - l.at)) ≡ map (own_class_of l.table) (range_with_len 0 l.at-end);
  named : map named_class l.made ++ map (λ at. class_named l.table l.names (as_number at)) (range_with_len l.at (l.at-end - l.at))
      ≡ map (λ at. class_named l.table l.names (as_number at)) (range_with_len 0 l.at-end);
}
