-- A machine on the code of a well-typed program goes on until it has come out: it is never stuck, always has a ready task, and comes
-- out before it is given up.
use Rattle.std.proofs.Common.{◌≡◌, ◌≤◌, ⊎_elim, length, reverse, sym, ◌∙◌, subst, None, arith}
use Rattle.std.specs.Prelude.{IsSome}
use Rattle.std.proofs.lemmas.Bool.{false≢true}
use Rattle.std.proofs.lemmas.List.{length-reverse}
use Rattle.runs_theory.proofs.runs.Bound.{ran_bounded}
use Rattle.runs_program.specs.Laws.{EachKeeps}
use Rattle.runs_program.specs.Steps.{stepped}
use Rattle.runs_elision.specs.Laws.{NamesAreKnown}
use Rattle.exec_progress.specs.Progress.{CodeMakesProgress}
use Rattle.exec_world.specs.Ready.{NoneReady}
use Rattle.exec_machine.specs.Keeping.{HasEnded, most_events}
use Rattle.runs_simulation.specs.Laws.{MachinesRecord, Records, SomeTaskIsReady}
use Rattle.runs_simulation.proofs.ready.Lively.{stuck_run}
use Rattle.runs_sound.proofs.moments.Never.{exits_a_block, forks_few}
use Rattle.runs_theorem.specs.Guarantee.{MachinesAreNotStuck, MachinesMakeProgress}
use Rattle.runs_theorem.proofs.Few.{has_few}

module _ (keeps : EachKeeps) (known : NamesAreKnown) (going : CodeMakesProgress) where
  -- where a machine is stuck its run leaves a block that isn't open, or has a wide fork; a well-typed program's does neither
  pub not_stuck : MachinesAreNotStuck
  not_stuck P code L arg wt resolved main is few steps cells fits ks m leads k s =
      let S = stuck_run keeps known going code P L arg is resolved main steps cells ks m leads k s in
      ⊎_elim (λ h. exits_a_block P wt arg fits S.run S.event S.legal h.0 h.1)
      (λ h. (let l = forks_few P wt arg fits S.run S.event S.legal (has_few P code is few) h.0 h.1 in let w = h.2 in omega (arith, l, w))) S.what

  pub goes_on : MachinesRecord → SomeTaskIsReady → MachinesMakeProgress
  goes_on records ready P p wt resolved main is few steps cells fits replayed = (
    λ halts. not_stuck P p.code p.limits p.argument wt resolved main is few steps cells fits (reverse p.schedule) halts.why.replayed.moment halts.why.replayed.leads halts.task
        halts.why.stuck,
    unended,
  )
    where
      unended : p.outcome ≡ None → HasEnded p → ⊥
      unended none = ⊎_elim (λ some. absurd (false≢true (subst IsSome none some))) (λ h. ⊎_elim no_more too_many h)
        where
          unfinished : replayed.moment.outcome ≡ None
          unfinished = sym replayed.outcome ∙ none

          no_more : NoneReady p.world → ⊥
          no_more nothing =
              let r = ready p.code P p.limits p.argument is resolved main steps (reverse p.schedule) replayed.moment replayed.leads unfinished in
              subst NoneReady replayed.world nothing r.0 r.1

          too_many : most_events ≤ length p.schedule → ⊥
          too_many many =
              let R = subst (λ o. Records (stepped P p.argument) p.limits (reverse p.schedule) o) unfinished
              (records p.code P p.limits p.argument is resolved main steps (reverse p.schedule) replayed.moment replayed.leads) in
              let b = ran_bounded (stepped P p.argument) (keeps P p.argument).disciplined (keeps P p.argument).paced p.limits (reverse p.schedule) R.0 R.1 in
              let n = length-reverse p.schedule in omega (arith, many, b, n, steps)
