use Rattle.std.proofs.Common.{◌≡◌, ℕ, ◌+◌, map}
use Rattle.lang_meaning.specs.Regions.{regions_above}
use Rattle.exec_frames.specs.Names.{names_by, region_by}
use Rattle.exec_frames.proofs.classes.regions_above.Given as goal

abbrev pub invariant-loop-up : goal.invariant-loop-up
invariant-loop-up g l =
    let parent_of = g.C.Classes.parent_of l.classes in
    let count = g.C.Classes.count l.classes in
    let plain = map (region_by g.reading) in
    (k : ℕ) → k + l.up ≡ count
    → regions_above (names_by g.reading) parent_of k l.at (plain l.regions) l.above
    ≡ regions_above (names_by g.reading) parent_of count l.class (plain l.fn.regions) l.above

abbrev pub ghost-handed_up : goal.ghost-handed_up
ghost-handed_up g a = g.reading
