use Rattle.std.proofs.Common.{◌≡◌, ◌↔◌, map, drop}
use Rattle.body_check.specs.Leaving.{left_elem}
use Rattle.body_check.proofs.leaving.Leaving.keeps_path.Given as goal

abbrev pub invariant-loop-elem : goal.invariant-loop-elem
invariant-loop-elem l =
    let left = map (left_elem l.self.first_slot) in
    (left (drop l.elem-index l.elems) ≡ drop l.elem-index l.elems) ↔ (left l.elems ≡ l.elems)
