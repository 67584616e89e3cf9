-- A machine and its run have the same ready tasks: both ways of it, joined.
use Rattle.std.proofs.Common.{◌≡◌, ◌∙◌, sym, subst, None, reverse}
use Rattle.exec_world.specs.Ready.{IsReady}
use Rattle.exec_world.specs.declared.world.World.{World}
use Rattle.runs_program.specs.Steps.{stepped}
use Rattle.runs_simulation.specs.Laws.{MachinesRecord, NoOthersAreReady, ReadyTasksAreReady, Records}
use Rattle.runs_theorem.specs.Readiness.{MachinesAreReadyAsTheirRuns}

pub machines_are_ready : MachinesRecord → ReadyTasksAreReady → NoOthersAreReady → MachinesAreReadyAsTheirRuns
machines_are_ready records all no_others P p resolved main code_is small replayed unfinished =
    let ks = reverse p.schedule in
    let m = replayed.moment in
    let goes_on : m.outcome ≡ None = sym replayed.outcome ∙ unfinished in
    let recorded = subst (λ z. Records (stepped P p.argument) p.limits ks z) goes_on (records p.code P p.limits p.argument code_is resolved main small ks m replayed.leads) in
    record {
      run = recorded.0;
      ran = recorded.1;
      ready = λ k. (
        λ here. no_others p.code P p.limits p.argument code_is resolved main small ks m replayed.leads goes_on recorded.0 recorded.1 k
            (subst (λ (w : World). IsReady w k) replayed.world here),
        λ there. subst (λ (w : World). IsReady w k) (sym replayed.world)
            (all p.code P p.limits p.argument code_is resolved main small ks m replayed.leads goes_on recorded.0 recorded.1 k there.0 there.1),
      );
    }
