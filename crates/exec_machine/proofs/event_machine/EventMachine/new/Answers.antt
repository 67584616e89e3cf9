-- A machine that has made no event keeps none.
use mir.Val.{SFits}
use Rattle.std.proofs.Common.{rules, sym, subst}
use Rattle.std.proofs.lemmas.Int.{to_z-of_z}
use Rattle.std.specs.Int.{w32}
use Rattle.exec_machine.specs.MadeEvents.{PlaysEvents}
use Rattle.exec_machine.proofs.MadeEvents.{no_events}
use Rattle.exec_machine.proofs.event_machine.EventMachine.new.Goals as goal

pub invariant_of-result : goal.invariant_of-result
invariant_of-result c =
    let fits : SFits w32 c.args.argument = search rules in
    subst (λ a. PlaysEvents c.args.code c.args.limits a c.args.run c.new.result) (sym (to_z-of_z w32 c.args.argument fits))
    (no_events c.args.code c.args.limits c.args.argument c.args.run c.new.result c.requires.plays c.requires.nothing c.new.ensures)
