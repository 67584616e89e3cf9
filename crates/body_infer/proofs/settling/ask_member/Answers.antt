use Rattle.lang_typed.specs.Plain.{plain_program}
use Rattle.body_infer.proofs.Passing.{climbs_rising}
use Rattle.body_infer.proofs.settling.ask_member.Goals as goal

pub loop-standing-preserved : goal.loop-standing-preserved
loop-standing-preserved c =
    climbs_rising (plain_program c.args.program.now) c.args.kept.now c.loop-standing.kept c.ask_row.new.kept c.in_ok-ask_row.field-0 c.loop-standing.invariant c.in_ok-ask_row.ensures.rises
