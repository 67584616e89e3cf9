use Rattle.std.proofs.Common.{ℕ, suc, ◌-◌, map, arith, sym, ◌∙◌, ap}
use Rattle.std.specs.Prelude.{option_map}
use Rattle.lang_meaning.specs.Regions.{regions_above}
use Rattle.exec_frames.specs.Names.{names_by, region_by}
use Rattle.exec_frames.specs.Classes.{plain_superclass}
use Rattle.exec_frames.proofs.Above.{here_above, top_above, up_above}
use Rattle.exec_frames.proofs.classes.regions_above.Goals as goal

pub returns-then-at-above : goal.returns-then-at-above
returns-then-at-above g c =
    let k : ℕ = g.C.Classes.count c.args.classes.now - c.loop-up.up in
    sym (here_above (g.C.Classes.parent_of c.args.classes.now) (names_by g.reading) c.args.above k c.loop-up.at (map (region_by g.reading) c.loop-up.regions) c.if-at-above.true)
    ∙ c.loop-up.invariant k (omega arith)

pub returns-in_default : goal.returns-in_default
returns-in_default g c =
    let k : ℕ = g.C.Classes.count c.args.classes.now - c.loop-up.up in
    sym (top_above (g.C.Classes.parent_of c.args.classes.now) (names_by g.reading) c.args.above k c.loop-up.at (map (region_by g.reading) c.loop-up.regions)
    (sym c.superclass.ensures ∙ ap (option_map plain_superclass) c.in_default.is))
    ∙ c.loop-up.invariant k (omega arith)

pub loop-up-preserved : goal.loop-up-preserved
loop-up-preserved g c = λ k e.
    let parent_of = g.C.Classes.parent_of c.args.classes.now in
    ap (λ rs. regions_above (names_by g.reading) parent_of k c.in-Some.parent.class rs c.args.above) (c.in_ok-regions.ensures)
    ∙ sym (up_above parent_of (names_by g.reading) c.args.above k c.loop-up.at (map (region_by g.reading) c.loop-up.regions)
    (plain_superclass c.in-Some.parent) c.if-at-above.false (sym c.superclass.ensures ∙ ap (option_map plain_superclass) c.in-Some.is))
    ∙ c.loop-up.invariant (suc k) (omega (arith, e))

pub returns : goal.returns
returns g c = c.loop-up.invariant 0 (omega arith)
