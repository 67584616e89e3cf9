use Rattle.std.proofs.Common.{◌≡◌, map, take}
use Rattle.lang_meaning.specs.Regions.{around, concrete}
use Rattle.exec_frames.specs.Names.{names_by, frame_by, region_by}
use Rattle.exec_frames.proofs.regions.concrete_all.Given as goal

abbrev pub invariant-loop-path : goal.invariant-loop-path
invariant-loop-path g l =
    map (region_by g.reading) l.regions
    ≡ map (concrete (names_by g.reading) (around (frame_by g.reading l.frame))) (take l.path-index l.path-items)

abbrev pub ghost-concrete : goal.ghost-concrete
ghost-concrete g a = g.reading
