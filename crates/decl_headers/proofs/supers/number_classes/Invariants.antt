use Rattle.std.proofs.Common.{◌≡◌, ℕ, [], take, drop}
use Rattle.decl_headers.specs.Faults.{all_noted}
use Rattle.decl_headers.specs.Numbers.{number_of}
use Rattle.decl_headers.specs.Passes.{first_named, second_classes}
use Rattle.decl_headers.proofs.supers.number_classes.Given as goal

abbrev pub invariant-loop-at : goal.invariant-loop-at
invariant-loop-at l = record {
  faults : all_noted l.faults (second_classes (take l.at l.classes) (drop l.at l.classes)) ≡ all_noted l.initial.faults (second_classes [] l.classes);
  first : (name : ℕ) → number_of l.numbers name ≡ first_named name 0 (take l.at l.classes);
}
