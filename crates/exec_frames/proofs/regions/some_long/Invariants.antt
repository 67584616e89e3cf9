use Rattle.std.proofs.Common.{◌≡◌, map, drop}
use Rattle.lang_meaning.specs.Regions.{some_long}
use Rattle.exec_frames.specs.Names.{region_by}
use Rattle.exec_frames.proofs.regions.some_long.Given as goal

abbrev pub invariant-loop-region : goal.invariant-loop-region
invariant-loop-region g l = some_long (map (region_by g.reading) (drop l.region-index l.region-items)) ≡ some_long (map (region_by g.reading) l.region-items)

abbrev pub ghost-is_long : goal.ghost-is_long
ghost-is_long g a = g.reading
