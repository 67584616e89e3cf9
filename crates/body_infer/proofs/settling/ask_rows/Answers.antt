use Rattle.lang_typed.specs.Plain.{plain_program}
use Rattle.body_infer.proofs.Passing.{climbs_then}
use Rattle.body_infer.proofs.settling.ask_rows.Goals as goal

pub loop-member-preserved : goal.loop-member-preserved
loop-member-preserved c =
    climbs_then (plain_program c.args.program.now) c.args.kept.now c.loop-member.kept c.ask_member.new.kept c.loop-member.invariant c.in_ok-ask_member.ensures
