use Rattle.std.proofs.Common.{ℕ, suc, ◌-◌, arith, sym, ap, ◌∙◌}
use Rattle.std.specs.Prelude.{option_map}
use Rattle.exec_frames.specs.Classes.{plain_superclass}
use Rattle.exec_frames.proofs.Above.{here_below, top_below, up_below}
use Rattle.exec_frames.proofs.classes.is_below.Goals as goal

pub returns-then-at-above : goal.returns-then-at-above
returns-then-at-above g c =
    let k : ℕ = g.C.Classes.count c.args.classes.now - c.loop-up.up in
    sym (here_below (g.C.Classes.parent_of c.args.classes.now) k c.loop-up.at c.args.above c.if-at-above.true) ∙ c.loop-up.invariant k (omega arith)

pub returns-in_default : goal.returns-in_default
returns-in_default g c =
    let k : ℕ = g.C.Classes.count c.args.classes.now - c.loop-up.up - 1 in
    sym (top_below (g.C.Classes.parent_of c.args.classes.now) k c.loop-up.at c.args.above c.if-at-above.false
    (sym c.superclass.ensures ∙ ap (option_map plain_superclass) c.in_default.is))
    ∙ c.loop-up.invariant (suc k) (omega arith)

pub loop-up-preserved : goal.loop-up-preserved
loop-up-preserved g c = λ k e.
    sym (up_below (g.C.Classes.parent_of c.args.classes.now) k c.loop-up.at c.args.above (plain_superclass c.in-Some.parent) c.if-at-above.false
    (sym c.superclass.ensures ∙ ap (option_map plain_superclass) c.in-Some.is))
    ∙ c.loop-up.invariant (suc k) (omega (arith, e))

pub returns : goal.returns
returns g c = c.loop-up.invariant 0 (omega arith)
