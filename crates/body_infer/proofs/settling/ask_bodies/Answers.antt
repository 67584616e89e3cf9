use Rattle.lang_typed.specs.Plain.{plain_program}
use Rattle.body_infer.proofs.Passing.{climbs_rising}
use Rattle.body_infer.proofs.settling.ask_bodies.Goals as goal

pub loop-member-preserved : goal.loop-member-preserved
loop-member-preserved c =
    climbs_rising (plain_program c.args.program.now) c.args.kept.now c.loop-member.kept c.ask_body.new.kept c.in_ok-ask_body.field-0 c.loop-member.invariant c.in_ok-ask_body.ensures.rises
