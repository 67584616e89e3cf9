-- A machine at its start.
use mir.Val.{SFits}
use Rattle.std.proofs.Common.{rules, sym, subst, to_z, of_z}
use Rattle.std.proofs.lemmas.Int.{to_z-of_z}
use Rattle.std.specs.Int.{w32}
use Rattle.exec_machine.specs.Premise.{CanProgress}
use Rattle.exec_machine.proofs.Playing.{plays_first, is_replayed}
use Rattle.exec_machine.proofs.machine.Machine.open.Goals as goal

pub invariant_of-result : goal.invariant_of-result
invariant_of-result c =
    let fits : SFits w32 c.args.argument = search rules in
    plays_first c.args.code c.args.limits (to_z w32 (of_z w32 c.args.argument)) c.in_ok-run.run' c.in_ok-run.ensures.opens.0 c.in_ok-run.ensures.opens.1
    c.in_ok-run.ensures.opens.2 c.in_ok-run.ensures.nothing
    (subst (λ a. CanProgress c.args.code c.args.limits a) (sym (to_z-of_z w32 c.args.argument fits)) c.requires.goes_on) c.requires.few

pub returns-clause-replayed : goal.returns-clause-replayed
returns-clause-replayed c =
    let fits : SFits w32 c.args.argument = search rules in
    is_replayed c.args.code c.args.limits (to_z w32 (of_z w32 c.args.argument)) c.in_ok-run.run'
    (plays_first c.args.code c.args.limits (to_z w32 (of_z w32 c.args.argument)) c.in_ok-run.run' c.in_ok-run.ensures.opens.0 c.in_ok-run.ensures.opens.1
    c.in_ok-run.ensures.opens.2 c.in_ok-run.ensures.nothing
    (subst (λ a. CanProgress c.args.code c.args.limits a) (sym (to_z-of_z w32 c.args.argument fits)) c.requires.goes_on) c.requires.few)
