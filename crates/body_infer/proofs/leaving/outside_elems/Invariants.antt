use Rattle.std.proofs.Common.{◌≡◌, ◌++◌, map, drop}
use Rattle.body_infer.specs.Walked.{outside_elem}
use Rattle.body_infer.proofs.leaving.outside_elems.Given as goal

abbrev pub invariant-loop-elem : goal.invariant-loop-elem
invariant-loop-elem l = l.all ++ map (outside_elem l.opened.variables) (drop l.elem-index l.elem-items) ≡ map (outside_elem l.opened.variables) l.elem-items
