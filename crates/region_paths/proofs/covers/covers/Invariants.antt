use Rattle.std.proofs.Common.{◌≡◌, ◌∷◌, length}
use Rattle.lang_base.specs.declared.elems.Elem.TheVariants.{Star}
use Rattle.lang_base.specs.Regions.{covers_elems}
use Rattle.region_paths.proofs.covers.covers.Given as goal

abbrev pub invariant-loop-segment : goal.invariant-loop-segment
invariant-loop-segment l = covers_elems (Star ∷ l.pattern) l.list ≡ covers_elems l.fn.outer l.fn.inner

abbrev pub decreases-loop-segment : goal.decreases-loop-segment
decreases-loop-segment l = length l.pattern
