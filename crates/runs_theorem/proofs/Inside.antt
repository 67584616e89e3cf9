-- The machine's records and moving, joined.
use Rattle.std.proofs.Common.{◌≡◌, refl, ◌⊎◌, inl, inr, ℕ, ℤ, Some, List, ap, subst, sym, ◌∙◌, reverse}
use Rattle.lang_base.specs.declared.outcome.Ending.TheVariants as came
use Rattle.lang_base.specs.declared.outcome.Outcome.{Outcome as Declared}
use Rattle.lang_typed.specs.Plain.{PlainProgram}
use Rattle.runs_theorem.specs.Laws.{RunsAreArranged, RunsAreMoved, stepped_inside}
use Rattle.runs_simulation.specs.Laws.{MachinesRecord, Records}
use Rattle.runs_theory.specs.Order.{Comes, Outcome}
use Rattle.runs_theory.specs.Runs.{Run}
use Rattle.runs_theory.specs.Schedules.{Finished, Ran, ended, over, no_room}
use Rattle.runs_theory.proofs.runs.Schedules.{ran_legal}
use Rattle.runs_program.specs.Steps.{stepped}
use Rattle.runs_theorem.specs.Inside.{ElidedInside, MachinesElideInside}
use Rattle.lang_meaning.specs.Reported.{reported}

-- the outcome doesn't depend on the rule of blocks
comes_inside : (P : PlainProgram) (argument : ℤ) (R : Run) (o : Outcome) → Comes (stepped P argument) R o → Comes (stepped_inside P argument) R o
comes_inside P argument R o c = record { end = c.end; ended = c.ended; sorted = c.sorted; in_order = c.in_order; events = c.events; outcome = c.outcome }

pub machines_elide_inside : MachinesRecord → RunsAreMoved → RunsAreArranged → MachinesElideInside
machines_elide_inside records moved arranged P p o wt resolved main code_is small fits replayed came_out = go finished.0 (reverse p.schedule) refl finished.1 finished.2
  where
    finished : Records (stepped P p.argument) p.limits (reverse p.schedule) (Some o)
    finished = subst (λ z. Records (stepped P p.argument) p.limits (reverse p.schedule) z) (sym replayed.outcome ∙ came_out)
        (records p.code P p.limits p.argument code_is resolved main small (reverse p.schedule) replayed.moment replayed.leads)

    go : (q : Outcome) (ks : List ℕ) → ks ≡ reverse p.schedule → Finished (stepped P p.argument) p.limits ks q → o ≡ reported q → (o.ending ≡ came.Limited) ⊎ ElidedInside P p.limits p.argument p.schedule o
    go q ks e (ended R ran c) t =
        let legal = ran_legal (stepped P p.argument) p.limits ks R ran in
        let m = moved P wt p.argument fits R c.end legal c.ended in
        let a = arranged P wt p.argument fits R c.end legal c.ended in
        inr (record {
          run = R;
          ran = subst (λ z. Ran (stepped P p.argument) p.limits z R) e ran;
          outcome = q;
          comes = c;
          is_reported = t;
          moved = m;
          comes_moved = m.rearranges.outcome q (comes_inside P p.argument R q c);
          arranged = a;
          comes_arranged = a.rearranges.outcome q (comes_inside P p.argument R q c);
        })
    go _ _ e (over k ks R f ran ready too_much) t = inl (ap (λ (z : Declared). z.ending) t)
    go _ _ e (no_room too_much) t = inl (ap (λ (z : Declared). z.ending) t)
