use Rattle.std.proofs.Common.{◌≡◌, ℕ, ◌+◌}
use Rattle.lang_meaning.specs.Counts.{is_below}
use Rattle.exec_frames.proofs.classes.is_below.Given as goal

abbrev pub invariant-loop-up : goal.invariant-loop-up
invariant-loop-up g l =
    let parent_of = g.C.Classes.parent_of l.classes in
    let count = g.C.Classes.count l.classes in
    (k : ℕ) → k + l.up ≡ count → is_below parent_of k l.at l.above ≡ is_below parent_of count l.class l.above
