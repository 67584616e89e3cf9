-- The machine's records, soundness and gathering, joined.
use Rattle.std.proofs.Common.{◌∙◌, sym, subst, reverse}
use Rattle.runs_theorem.specs.Laws.{RunsAreGathered}
use Rattle.runs_simulation.specs.Laws.{MachinesRecord, Records}
use Rattle.runs_theory.proofs.runs.Schedules.{ran_legal}
use Rattle.runs_sound.specs.RunLaws.{RunsAreSound}
use Rattle.runs_program.specs.Interfering.{lets}
use Rattle.runs_program.specs.Steps.{stepped}
use Rattle.runs_theorem.specs.Reduced.{MachinesAreReduced}

pub machines_are_reduced : MachinesRecord → RunsAreSound → RunsAreGathered → MachinesAreReduced
machines_are_reduced records sound gathered P wt p o resolved main code_is small fits replayed came =
    let ks = reverse p.schedule in
    let finished = subst (λ z. Records (stepped P p.argument) p.limits ks z) (sym replayed.outcome ∙ came)
    (records p.code P p.limits p.argument code_is resolved main small ks replayed.moment replayed.leads) in
    record {
      outcome = finished.0;
      finished = finished.1;
      is_reported = finished.2;
      runs = λ ls R ran.
          let legal = ran_legal (stepped P p.argument) p.limits ls R ran in
          record { legal = legal; sound = sound P wt p.argument fits lets R legal; gathered = gathered P wt p.argument fits R legal };
    }
