use Rattle.std.proofs.Common.{sym, ◌∙◌}
use Rattle.lang_base.specs.declared.elems.Elem.TheVariants.{Name}
use Rattle.region_paths.proofs.Segments.{NoStar-push}
use Rattle.region_paths.proofs.covers.at_star.Goals as goal

pub loop-at-preserved : goal.loop-at-preserved
loop-at-preserved c = NoStar-push c.args.path.now c.loop-at.at (Name 0) c.loop-at-test.true c.loop-at.invariant (sym c.is_star.ensures ∙ c.if-is_star.false)
