use Rattle.std.proofs.Common.{◌≡◌, ◌+◌, ◌-◌, suc, length, Some, option_map, sym, ap, ◌∙◌, arith}
use Rattle.lang_base.specs.Types.{plain_type, parent_of, below_class}
use Rattle.region_types.proofs.Up.{below-up}
use Rattle.region_types.proofs.subtyping.below_class.Goals as goal

pub loop-step-preserved : goal.loop-step-preserved
loop-step-preserved c =
    let left = length c.args.supers.now - (c.loop-step.step + 1) in
    let more : suc left ≡ length c.args.supers.now - c.loop-step.step = omega arith in
    let parent : parent_of c.args.supers.now (plain_type c.loop-step.above) ≡ Some (plain_type c.in-Some.parent) =
    sym c.in_ok-parent_of.ensures ∙ ap (option_map plain_type) c.in-Some.is in
    sym (below-up c.args.supers.now left (plain_type c.loop-step.above) (plain_type c.args.b.now) (plain_type c.in-Some.parent) (sym c.class_within.ensures ∙ c.if-class_within.false) parent)
    ∙ ap (λ n. below_class c.args.supers.now n (plain_type c.loop-step.above) (plain_type c.args.b.now)) more
    ∙ c.loop-step.invariant

pub returns : goal.returns
returns c =
    let done : 0 ≡ length c.args.supers.now - c.loop-step.step = omega arith in
    c.class_within-2.ensures ∙ ap (λ n. below_class c.args.supers.now n (plain_type c.loop-step.above) (plain_type c.args.b.now)) done ∙ c.loop-step.invariant
