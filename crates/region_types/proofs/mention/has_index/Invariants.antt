use Rattle.std.proofs.Common.{◌≡◌, ℕ, drop}
use Rattle.std.specs.List.{list_any}
use Rattle.lang_base.specs.declared.elems.Elem.TheVariants.{At}
use Rattle.lang_base.specs.declared.elems.Index.TheVariants.{Own}
use Rattle.lang_base.specs.Regions.{same_elem}
use Rattle.region_types.specs.Depth.{IsDepth}
use Rattle.region_types.proofs.mention.has_index.Given as goal

abbrev pub invariant-loop-elem : goal.invariant-loop-elem
invariant-loop-elem l =
    (n : ℕ) → IsDepth l.depth n → list_any (λ x. same_elem x (At (Own n))) (drop l.elem-index l.elem-items) ≡ list_any (λ x. same_elem x (At (Own n))) l.elem-items
