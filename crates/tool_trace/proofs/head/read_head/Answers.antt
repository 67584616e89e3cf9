use Rattle.std.proofs.Common.{refl}
use Rattle.std.proofs.lemmas.Bool.{iff_false}
use Rattle.tool_trace.specs.Reading.{nothing, begun, settings, start, next}
use Rattle.tool_trace.proofs.Leading.{misfit-missing, misfit-line}
use Rattle.tool_trace.proofs.head.read_head.Goals as goal

pub returns-in_default : goal.returns-in_default
returns-in_default c = misfit-missing c.args.bytes.now 0 nothing c.args.bytes.now start tt c.in_default.ensures

pub returns-then-not-is : goal.returns-then-not-is
returns-then-not-is c =
    misfit-line c.args.bytes.now 0 nothing c.args.bytes.now c.in-Some.first.now c.in-Some.rest.now start tt c.in-Some.ensures
    (λ after f. iff_false c.is.ensures c.if-not-is.true f.0)

pub returns-in_default-cut : goal.returns-in_default-cut
returns-in_default-cut c =
    misfit-missing c.args.bytes.now 1 begun c.in-Some.rest.now (next start c.in-Some.ensures (c.is.ensures.0 c.if-not-is.false, refl)) tt c.in_default-cut.ensures

pub returns-in_default-read_settings : goal.returns-in_default-read_settings
returns-in_default-read_settings c =
    misfit-line c.args.bytes.now 1 begun c.in-Some.rest.now c.in-Some-cut.second.now c.in-Some-cut.rest.now
    (next start c.in-Some.ensures (c.is.ensures.0 c.if-not-is.false, refl)) tt c.in-Some-cut.ensures
    (λ after f. c.in_default-read_settings.ensures f.0 f.1 f.2)

pub returns-in_default-cut-2 : goal.returns-in_default-cut-2
returns-in_default-cut-2 c =
    let s = c.in-Some-read_settings.settings in
    misfit-missing c.args.bytes.now 2 (settings s.arg s.limits) c.in-Some-cut.rest.now
    (next (next start c.in-Some.ensures (c.is.ensures.0 c.if-not-is.false, refl)) c.in-Some-cut.ensures (s.arg, s.limits, c.in-Some-read_settings.ensures, refl))
    tt c.in_default-cut-2.ensures

pub returns-in_default-read_events : goal.returns-in_default-read_events
returns-in_default-read_events c =
    let s = c.in-Some-read_settings.settings in
    misfit-line c.args.bytes.now 2 (settings s.arg s.limits) c.in-Some-cut.rest.now c.in-Some-cut-2.third.now c.in-Some-cut-2.rest.now
    (next (next start c.in-Some.ensures (c.is.ensures.0 c.if-not-is.false, refl)) c.in-Some-cut.ensures (s.arg, s.limits, c.in-Some-read_settings.ensures, refl))
    tt c.in-Some-cut-2.ensures (λ after f. c.in_default-read_events.ensures f.0 f.1)

pub returns : goal.returns
returns c =
    let s = c.in-Some-read_settings.settings in record {
      limits = c.in-Some-read_settings.ensures.limits_allowed;
      few = c.in-Some-read_events.ensures.few;
      leads = next
          (next (next start c.in-Some.ensures (c.is.ensures.0 c.if-not-is.false, refl)) c.in-Some-cut.ensures (s.arg, s.limits, c.in-Some-read_settings.ensures, refl))
          c.in-Some-cut-2.ensures (c.in-Some-read_events.events, c.in-Some-read_events.ensures, refl);
    }
