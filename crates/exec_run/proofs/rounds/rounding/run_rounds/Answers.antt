-- Each round brings the machine nearer to its end, and the last changes nothing.
use Rattle.std.proofs.Common.{arith, sym, subst}
use Rattle.std.proofs.lemmas.Bool.{iff_false}
use Rattle.std.proofs.lemmas.Result.{err_from_is_err_and}
use Rattle.exec_run.specs.rounds.Rounds.{RoundsOn, here, further}
use Rattle.exec_run.proofs.rounds.Whole.{grows, nearer, goes_on, idle, unchanged, ended_idle}
use Rattle.exec_run.proofs.rounds.rounding.run_rounds.Goals as goal

pub loop-alloc-init : goal.loop-alloc-init
loop-alloc-init g c = (here, omega arith)

pub loop-alloc-smaller : goal.loop-alloc-smaller
loop-alloc-smaller g c =
    let goes = goes_on c.loop-alloc.machine c.round.new.machine c.in_ok-made.made (iff_false c.is_over.ensures c.loop-alloc-test.true) c.in_ok-made.ensures.round
    c.in_ok-made.ensures.length (λ none. omega (arith, none, c.if-made-eq0.false)) in
    nearer c.loop-alloc.machine goes c.round.new.machine c.in_ok-made.ensures.round

pub loop-alloc-preserved : goal.loop-alloc-preserved
loop-alloc-preserved g c =
    let round = c.in_ok-made.ensures.round in
    let goes = goes_on c.loop-alloc.machine c.round.new.machine c.in_ok-made.made (iff_false c.is_over.ensures c.loop-alloc-test.true) round
    c.in_ok-made.ensures.length (λ none. omega (arith, none, c.if-made-eq0.false)) in (
      further c.loop-alloc.rounds c.loop-alloc.machine c.round.new.machine c.loop-alloc.invariant.0 goes round,
      omega (arith, c.loop-alloc.invariant.1, grows c.loop-alloc.machine goes c.round.new.machine round),
    )

pub returns-then-made-eq0-clause-rounds : goal.returns-then-made-eq0-clause-rounds
returns-then-made-eq0-clause-rounds g c =
    let round = c.in_ok-made.ensures.round in
    subst (RoundsOn c.args.machine.now c.loop-alloc.rounds)
    (sym (unchanged c.loop-alloc.machine c.round.new.machine round
    (idle c.loop-alloc.machine c.round.new.machine c.in_ok-made.made round c.in_ok-made.ensures.length (omega (arith, c.if-made-eq0.true)))))
    c.loop-alloc.invariant.0

pub returns-then-made-eq0-clause-done : goal.returns-then-made-eq0-clause-done
returns-then-made-eq0-clause-done g c =
    ended_idle c.loop-alloc.machine c.round.new.machine c.in_ok-made.made c.in_ok-made.ensures.round c.in_ok-made.ensures.length (omega (arith, c.if-made-eq0.true))

pub returns-in_err-made-clause-why : goal.returns-in_err-made-clause-why
returns-in_err-made-clause-why g c =
    let q = err_from_is_err_and c.from_residual.result c.from_residual.ensures.1 in
    rw (q.1, q.2) (record {
      middle = c.loop-alloc.machine;
      count = c.loop-alloc.rounds;
      rounds = c.loop-alloc.invariant.0;
      breaks = c.in_err-made.ensures.why;
    })
