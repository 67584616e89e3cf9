use Rattle.std.proofs.Common.{◌≡◌, take, drop, map}
use Rattle.decl_headers.specs.Faults.{all_noted}
use Rattle.decl_headers.specs.Numbers.{number_of}
use Rattle.decl_headers.specs.Passes.{named_parent, unknown_parents}
use Rattle.decl_headers.proofs.supers.find_parents.Given as goal

abbrev pub invariant-loop-class : goal.invariant-loop-class
invariant-loop-class l = record {
  faults : all_noted l.faults (unknown_parents (number_of l.numbers) (drop l.class-index l.classes)) ≡ all_noted l.initial.faults (unknown_parents (number_of l.numbers) l.classes);
  found : l.parents ≡ map (named_parent (number_of l.numbers)) (take l.class-index l.classes);
}
