use Rattle.std.proofs.Common.{◌≡◌, ◌++◌, map, drop}
use Rattle.lang_meaning.specs.Regions.{around, concrete, part_of}
use Rattle.exec_frames.specs.Names.{names_by, frame_by, part_by}
use Rattle.exec_frames.proofs.regions.concrete.Given as goal

abbrev pub invariant-loop-elem : goal.invariant-loop-elem
invariant-loop-elem g l =
    map (part_by g.reading) l.elems ++ map (part_of (names_by g.reading) (around (frame_by g.reading l.frame))) (drop l.elem-index l.elem-items)
    ≡ concrete (names_by g.reading) (around (frame_by g.reading l.frame)) l.path

abbrev pub ghost-head_elems : goal.ghost-head_elems
ghost-head_elems g a = g.reading

abbrev pub ghost-part : goal.ghost-part
ghost-part g a = g.reading
