use Rattle.std.proofs.Common.{Err, ap, option_map}
use Rattle.std.specs.Vec.{vec_items}
use Rattle.tool_top.specs.declared.call.Reply.{Reply}
use Rattle.tool_top.proofs.Sources.{answers-no-usage, read-to-end, source-too-long}
use Rattle.tool_top.proofs.call.answer_source.Goals as goal

pub returns-in_ok-answered-in-Ok-clause-no_usage : goal.returns-in_ok-answered-in-Ok-clause-no_usage
returns-in_ok-answered-in-Ok-clause-no_usage g c reported = answers-no-usage _ _ _ c.in_ok-answered-in-Ok.ensures reported

pub returns-in-Err-TooLong-clause-ok : goal.returns-in-Err-TooLong-clause-ok
returns-in-Err-TooLong-clause-ok g c =
    source-too-long c.args.job.now (option_map vec_items c.unread.result.read) (g.S.Source.left c.args.source.now) c.most_bytes.result _ _ c.requires.read
    (ap (λ (r : Reply). option_map vec_items r.read) c.unread.ensures) (ap (λ (r : Reply). r.answered) c.unread.ensures) c.most_bytes.ensures c.refused_at.ensures
    (c.in-Err-TooLong.ensures.too_long (ap Err c.in-Err-TooLong.field-0-is))

pub returns-in_ok-answered-in-Ok-clause-read_to_end : goal.returns-in_ok-answered-in-Ok-clause-read_to_end
returns-in_ok-answered-in-Ok-clause-read_to_end g c = read-to-end (g.S.Source.left c.args.source.now) _ _ c.in-Ok.ensures.ended
