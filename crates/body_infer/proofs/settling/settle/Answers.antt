use Rattle.lang_typed.specs.Plain.{plain_program}
use Rattle.body_infer.proofs.Passing.{climbs_then}
use Rattle.body_infer.proofs.settling.settle.Goals as goal

pub loop-round-preserved : goal.loop-round-preserved
loop-round-preserved c =
    let P = plain_program c.args.program.now in
    climbs_then P c.args.kept.now c.ask_bodies.new.kept c.ask_rows.new.kept
    (climbs_then P c.args.kept.now c.loop-round.kept c.ask_bodies.new.kept c.loop-round.invariant c.in_ok-ask_bodies.ensures) c.in_ok-ask_rows.ensures

pub returns-then-is_empty : goal.returns-then-is_empty
returns-then-is_empty c =
    let P = plain_program c.args.program.now in
    climbs_then P c.args.kept.now c.ask_bodies.new.kept c.ask_rows.new.kept
    (climbs_then P c.args.kept.now c.loop-round.kept c.ask_bodies.new.kept c.loop-round.invariant c.in_ok-ask_bodies.ensures) c.in_ok-ask_rows.ensures
