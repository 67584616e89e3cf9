use Rattle.std.proofs.Common.{◌≡◌, ◌+◌, ◌≤◌, [], length, get_or, subst, sym, ap, ◌∙◌, arith}
use Rattle.decl_reach.specs.Marking.{sources, all_marked, all_added}
use Rattle.decl_reach.proofs.Marking.{Marking, begun, turn, turn_within, done, all_taken}
use Rattle.decl_reach.proofs.reach.mark_reaching.Goals as goal

pub loop-step-init : goal.loop-step-init
loop-step-init c =
    let marks = c.args.marks.now in
    let edges = c.args.edges.now in
    subst (λ p. Marking marks edges marks p 0 0 []) (sym c.in_ok-pending.ensures) (begun marks edges)

pub returns-in_default : goal.returns-in_default
returns-in_default c =
    done (subst (λ p. Marking c.args.marks.now c.args.edges.now c.loop-step.marks p c.loop-step._step 0 []) c.in_default.ensures.0 c.loop-step.invariant)

pub loop-step-preserved : goal.loop-step-preserved
loop-step-preserved c =
    let first = c.args.marks.now in
    let edges = c.args.edges.now in
    let marks = c.loop-step.marks in
    let step = c.loop-step._step in
    let reached = c.in-Some.reached in
    let popped = c.pop.new.self in
    let before = subst (λ p. Marking first edges marks p step 0 []) c.in-Some.ensures c.loop-step.invariant in
    let same : c.sources_of.result.now ≡ sources edges reached =
    c.sources_of.ensures
    ∙ ap (λ s. get_or s reached []) c.as_slice.ensures
    ∙ c.in_ok-sources.ensures reached (turn_within popped reached before) in
    let marked : c.mark_all.new.marks ≡ all_marked marks (sources edges reached) = c.in_ok-mark_all.ensures.marks ∙ ap (all_marked marks) same in
    let added : c.mark_all.new.pending ≡ all_added marks popped (sources edges reached) = c.in_ok-mark_all.ensures.pending ∙ ap (all_added marks popped) same in
    subst (λ m. Marking first edges m c.mark_all.new.pending (step + 1) 0 []) (sym marked)
    (subst (λ p. Marking first edges (all_marked marks (sources edges reached)) p (step + 1) 0 []) (sym added) (turn popped reached before))

pub returns : goal.returns
returns c =
    let all : length c.args.marks.now ≤ c.loop-step._step = omega (arith, c.loop-step.invariant.same_length) in
    let none = all_taken c.loop-step.invariant all in
    done (subst (λ p. Marking c.args.marks.now c.args.edges.now c.loop-step.marks p c.loop-step._step 0 []) none c.loop-step.invariant)
