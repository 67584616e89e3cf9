use Rattle.std.proofs.Common.{◌≡◌, take, fold}
use Rattle.std.specs.List.{flat_map}
use Rattle.exec_heap.specs.Keys.{region_input}
use Rattle.exec_heap.proofs.row.RowHash.hash.Given as goal

abbrev pub invariant-loop-region : goal.invariant-loop-region
invariant-loop-region g l = l.state ≡ fold g.H.Hasher.write l.initial.state (flat_map region_input (take l.region-index l.region-items))
