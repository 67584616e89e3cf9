use Rattle.std.proofs.Common.{rules, suc, [], inl, refl, ◌∙◌, arith}
use mir.Val.{SFits}
use Rattle.std.specs.Int.{w32}
use Rattle.std.proofs.Math.Facts.{to_z-of_z}
use Rattle.std.proofs.lemmas.Bool.{iff_false}
use Rattle.tool_trace.specs.Reading.{next}
use Rattle.tool_trace.proofs.Leading.{leads-less}
use Rattle.tool_trace.proofs.Ending.{following-less, cut-less, read-whole, read-misfit, taken, not-taken}
use Rattle.tool_trace.proofs.reading.read_schedule.Goals as goal

pub loop-text-init : goal.loop-text-init
loop-text-init c =
    let less = leads-less c.args.bytes.now 3 _ c.args.head.rest.now c.requires.head.leads in record {
      before = 3;
      schedule = [];
      number = refl;
      limits = c.requires.head.limits;
      few = c.requires.head.few;
      leads = c.requires.head.leads;
      lists = c.new-listed.ensures.lists;
      events = c.new-listed.ensures.events;
      bound = omega (arith, less);
    }

pub overflow_sub-result : goal.overflow_sub-result
overflow_sub-result c =
    let v = c.loop-text.invariant in (following-less c.args.bytes.now v.before _ c.loop-text.rest.now c.in-Some.text.now c.in-Some.following.now v.leads c.in-Some.ensures).0

pub returns-then-is_program-clause-trace : goal.returns-then-is_program-clause-trace
returns-then-is_program-clause-trace c =
    let v = c.loop-text.invariant in
    let s = c.args.head.settings in
    let fits : SFits w32 c.args.head.settings.arg = search rules in
    let reported = c.is_program.ensures.0 c.if-is_program.true in
    rw (to_z-of_z fits)
    (read-whole c.args.head.events s.limits v.limits v.few v.schedule c.loop-text.listed v.lists v.events c.args.bytes.now v.before s.arg c.loop-text.rest.now
    c.in-Some.text.now c.in-Some.following.now v.leads c.in-Some.ensures reported.0 reported.1)

pub returns-then-not-branch-clause-why : goal.returns-then-not-branch-clause-why
returns-then-not-branch-clause-why c =
    let v = c.loop-text.invariant in
    let s = c.args.head.settings in
    read-misfit c.args.head.events s.limits v.limits v.few v.schedule c.loop-text.listed v.lists v.events c.args.bytes.now v.before c.loop-text.line s.arg
    c.loop-text.rest.now c.in-Some.text.now c.in-Some.following.now v.number v.leads c.in-Some.ensures (iff_false c.is_program.ensures c.if-is_program.false)
    (not-taken c.in_ok-take.field-0 c.in-Some.text.now v.schedule c.take.new.self c.if-not-branch.true (c.in_ok-take.ensures.takes v.schedule v.lists))

pub loop-text-preserved : goal.loop-text-preserved
loop-text-preserved c =
    let v = c.loop-text.invariant in
    let t = taken c.in_ok-take.field-0 c.in-Some.text.now v.schedule c.take.new.self c.if-not-branch.false (c.in_ok-take.ensures.takes v.schedule v.lists) in
    let less = cut-less 10 c.loop-text.rest.now c.in-Some.text.now c.in-Some.following.now c.in-Some.ensures in record {
      before = suc v.before;
      schedule = t.0;
      number = omega (arith, v.number);
      limits = v.limits;
      few = v.few;
      leads = next v.leads c.in-Some.ensures (inl (t.0, t.1, refl));
      lists = t.2;
      events = c.in_ok-take.ensures.events ∙ v.events;
      bound = omega (arith, less, v.bound);
    }
