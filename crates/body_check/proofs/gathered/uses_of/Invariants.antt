use Rattle.std.proofs.Common.{◌≡◌, ◌++◌, filter, drop, not, true, false}
use Rattle.region_interfere.specs.Uses.{is_use_of}
use Rattle.body_check.proofs.gathered.uses_of.Given as goal

abbrev pub invariant-loop-part_use : goal.invariant-loop-part_use
invariant-loop-part_use l = record {
  own : l.own ≡ true → l.found ++ filter (is_use_of l.view) (drop l.part_use-index l.uses) ≡ filter (is_use_of l.view) l.uses;
  others : l.own ≡ false → l.found ++ filter (λ u. not (is_use_of l.view u)) (drop l.part_use-index l.uses) ≡ filter (λ u. not (is_use_of l.view u)) l.uses;
}
