use Rattle.std.proofs.Common.{◌∙◌, ap, map, option_map, subst, sym}
use Rattle.std.specs.Vec.{vec_items}
use Rattle.std.specs.String.{string_bytes}
use Rattle.tool_words.specs.Reports.{status_of}
use Rattle.tool_top.specs.declared.call.Reply.{Reply}
use Rattle.tool_top.specs.Call.{IsAnswered}
use Rattle.tool_top.proofs.Sources.{asked-so, demo-answered, never-untouched, no-usage-so, not-made, on-source, read-to-end-so}
use Rattle.tool_top.proofs.Verdicts.{answer-no-usage}
use Rattle.tool_top.proofs.call.answer_to.Goals as goal

pub returns-in_ok-demonstrate-in-Demo-clause-usage : goal.returns-in_ok-demonstrate-in-Demo-clause-usage
returns-in_ok-demonstrate-in-Demo-clause-usage g c reported =
    absurd (answer-no-usage _ _ _ c.in_ok-demonstrate-in-Demo.ensures (ap (λ (r : Reply). status_of r.answered.verdict) (sym c.unread-in-Demo.ensures) ∙ reported))

pub returns-in_ok-demonstrate-in-Demo-clause-ok : goal.returns-in_ok-demonstrate-in-Demo-clause-ok
returns-in_ok-demonstrate-in-Demo-clause-ok g c =
    subst (λ (r : Reply). IsAnswered (map string_bytes c.args.words.now) (option_map vec_items r.read) (g.S.Source.left c.args.source.now) r.answered)
    (sym c.unread-in-Demo.ensures)
    (demo-answered (map string_bytes c.args.words.now) c.in-Ok.job c.in-Ok.ensures.given (g.S.Source.left c.args.source.now) _ c.in-Demo.is
    c.in_ok-demonstrate-in-Demo.ensures)

pub returns-in_default-command : goal.returns-in_default-command
returns-in_default-command g c =
    let words = map string_bytes c.args.words.now in
    let read = not-made c.in-Ok.job.command c.in_default-command.not-Demo in
    record {
      ok = on-source words c.in-Ok.job c.in-Ok.ensures.given read (g.S.Source.left c.args.source.now) c.answer_source.result c.answer_source.ensures.ok;
      known = c.answer_source.ensures.known;
      usage = no-usage-so words c.in-Ok.job c.in-Ok.ensures.given read c.answer_source.result c.answer_source.ensures.no_usage;
      asked = asked-so words c.in-Ok.job c.in-Ok.ensures.given read c.answer_source.result;
      read_fault = c.answer_source.ensures.read_fault;
      untouched = never-untouched words c.in-Ok.job c.in-Ok.ensures.given read;
      read_to_end = read-to-end-so words c.in-Ok.job c.in-Ok.ensures.given read c.answer_source.result (g.S.Source.left c.args.source.now) _ c.answer_source.ensures.read_to_end;
      count = c.answer_source.ensures.count;
    }
