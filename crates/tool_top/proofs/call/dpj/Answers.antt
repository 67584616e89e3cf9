use Rattle.std.proofs.Common.{Global, map, option_map, subst, sym}
use Rattle.std.specs.String.{string_bytes}
use Rattle.std.specs.Vec.{vec_items}
use Rattle.tool_top.specs.Call.{IsAnswered, IsVerdictStatus}
use Rattle.tool_top.proofs.Owed.{owed, owed_show, program_verdict, verdict-has-memory}
use Rattle.tool_top.proofs.Replayed.{owed_refusal, owed_replay}
use Rattle.tool_top.proofs.call.dpj.Goals as goal

pub returns-in-Ok-clause-answered : goal.returns-in-Ok-clause-answered
returns-in-Ok-clause-answered g c reported =
    let whole = c.write_reply.ensures.whole reported in
    let kept = c.write_reply.ensures.kept (verdict-has-memory c.write_reply.result.status reported) in
    record {
      answered = c.in-Ok.reply.answered;
      is_answered = subst (λ r. IsAnswered (map (string_bytes {Z = Global}) c.args.words.now) (option_map vec_items r) (g.S.Source.left c.args.source.now) c.in-Ok.reply.answered) (sym kept.1) c.in-Ok.ensures.ok;
      status_reported = whole.0;
      report_reported = whole.1;
      run_recorded = kept.0;
    }

pub returns-in-Ok-clause-promised : goal.returns-in-Ok-clause-promised
returns-in-Ok-clause-promised g c reported =
    owed c.promise.ensures (map (string_bytes {Z = Global}) c.args.words.now)
    (option_map vec_items c.write_reply.result.read) (g.S.Source.left c.args.source.now) (g.K.Sink.held c.args.sink.now) (g.K.Sink.held c.write_reply.new.sink) c.write_reply.result.status
    c.write_reply.result.recorded (returns-in-Ok-clause-answered g c (program_verdict c.write_reply.result.status reported)) reported

pub returns-in-Ok-clause-replayed : goal.returns-in-Ok-clause-replayed
returns-in-Ok-clause-replayed g c reported =
    owed_replay c.promise.ensures (map (string_bytes {Z = Global}) c.args.words.now) (option_map vec_items c.write_reply.result.read) (g.S.Source.left c.args.source.now)
    (g.K.Sink.held c.args.sink.now) (g.K.Sink.held c.write_reply.new.sink) c.write_reply.result.status c.write_reply.result.recorded
    (returns-in-Ok-clause-answered g c (program_verdict c.write_reply.result.status reported))

pub returns-in-Ok-clause-events : goal.returns-in-Ok-clause-events
returns-in-Ok-clause-events g c reported =
    owed_show c.promise.ensures (map (string_bytes {Z = Global}) c.args.words.now)
    (option_map vec_items c.write_reply.result.read) (g.S.Source.left c.args.source.now) (g.K.Sink.held c.args.sink.now) (g.K.Sink.held c.write_reply.new.sink) c.write_reply.result.status
    c.write_reply.result.recorded (returns-in-Ok-clause-answered g c (program_verdict c.write_reply.result.status reported)) reported

pub returns-in-Ok-clause-refused : goal.returns-in-Ok-clause-refused
returns-in-Ok-clause-refused g c is =
    owed_refusal c.promise.ensures (map (string_bytes {Z = Global}) c.args.words.now) (option_map vec_items c.write_reply.result.read) (g.S.Source.left c.args.source.now)
    (g.K.Sink.held c.args.sink.now) (g.K.Sink.held c.write_reply.new.sink) c.write_reply.result.status c.write_reply.result.recorded
    (returns-in-Ok-clause-answered g c (subst IsVerdictStatus (sym is) tt)) is
