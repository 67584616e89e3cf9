use Rattle.std.proofs.Common.{rules, Some, ◌≡◌, ◌∙◌, None, length, ap, sym, subst, arith}
use Rattle.std.specs.Prelude.{slice_get}
use Rattle.std.proofs.lemmas.Option.{slice_get_past}
use Rattle.code_instrs.specs.Plain.{plain_code, body_at}
use Rattle.exec_task.specs.StepsLocally.{IsAtOther}
use Rattle.exec_task.specs.Steps.{plain_line}
use Rattle.exec_task.proofs.Bodies.{without_instr}
use Rattle.exec_task.proofs.RunningLocally.{stays, goes, ticks, divides, never_stuck, never_short, other, no_line, nearer_by, kept_by}
use Rattle.exec_task.proofs.run_local.run_local.Goals as goal

pub invariant_of-running : goal.invariant_of-running
invariant_of-running c =
    let w = c.loop-running.running in
    let i = c.loop-running.invariant in
    let x = c.in-Some-get.ensures.value in
    let is = rw c.in-Goes.is at c.local_step.ensures.local_step w.task.number (plain_code w.code.now) in
    record { ends = (goes w.code.now c.args.running.now.code.now i.code c.args.running.now.task w.task i.reaches w.ends c.in-Some.body.now c.in-Some-get.instr.now i.at i.going i.body c.in-Some.ensures.value x c.local_step.new.self is).least }

pub loop-running-smaller-in-Goes : goal.loop-running-smaller-in-Goes
loop-running-smaller-in-Goes c =
    let w = c.loop-running.running in
    let i = c.loop-running.invariant in
    let x = c.in-Some-get.ensures.value in
    let is = rw c.in-Goes.is at c.local_step.ensures.local_step w.task.number (plain_code w.code.now) in
    let s = goes w.code.now c.args.running.now.code.now i.code c.args.running.now.task w.task i.reaches w.ends c.in-Some.body.now c.in-Some-get.instr.now i.at i.going i.body c.in-Some.ensures.value x c.local_step.new.self is in
    let less = s.less in search (rules, less)

pub loop-running-preserved-in-Goes : goal.loop-running-preserved-in-Goes
loop-running-preserved-in-Goes c =
    let w = c.loop-running.running in
    let i = c.loop-running.invariant in
    let x = c.in-Some-get.ensures.value in
    let is = rw c.in-Goes.is at c.local_step.ensures.local_step w.task.number (plain_code w.code.now) in
    let s = goes w.code.now c.args.running.now.code.now i.code c.args.running.now.task w.task i.reaches w.ends c.in-Some.body.now c.in-Some-get.instr.now i.at i.going i.body c.in-Some.ensures.value x c.local_step.new.self is in
    record {
      reaches = s.reaches;
      code = i.code;
      at = i.at;
      body = c.local_step.ensures.body ∙ i.body;
      going = i.going;
      nearer = let near = nearer_by s i.nearer in search (rules, near);
    }

pub invariant_of-running-in-Ticks : goal.invariant_of-running-in-Ticks
invariant_of-running-in-Ticks c =
    let w = c.loop-running.running in
    let i = c.loop-running.invariant in
    let x = c.in-Some-get.ensures.value in
    let is = rw c.in-Ticks.is at c.local_step.ensures.local_step w.task.number (plain_code w.code.now) in
    record { ends = (ticks w.code.now c.args.running.now.code.now i.code c.args.running.now.task w.task i.reaches w.ends c.in-Some.body.now c.in-Some-get.instr.now i.at i.going i.body c.in-Some.ensures.value x c.local_step.new.self is).least }

pub returns-then-running-eq4096-clause-reaches : goal.returns-then-running-eq4096-clause-reaches
returns-then-running-eq4096-clause-reaches c =
    let w = c.loop-running.running in
    let i = c.loop-running.invariant in
    let x = c.in-Some-get.ensures.value in
    let is = rw c.in-Ticks.is at c.local_step.ensures.local_step w.task.number (plain_code w.code.now) in
    (ticks w.code.now c.args.running.now.code.now i.code c.args.running.now.task w.task i.reaches w.ends c.in-Some.body.now c.in-Some-get.instr.now i.at i.going i.body c.in-Some.ensures.value x c.local_step.new.self is).reaches

pub returns-then-running-eq4096-clause-nearer : goal.returns-then-running-eq4096-clause-nearer
returns-then-running-eq4096-clause-nearer c =
    let w = c.loop-running.running in
    let i = c.loop-running.invariant in
    let x = c.in-Some-get.ensures.value in
    let is = rw c.in-Ticks.is at c.local_step.ensures.local_step w.task.number (plain_code w.code.now) in
    let near = nearer_by (ticks w.code.now c.args.running.now.code.now i.code c.args.running.now.task w.task i.reaches w.ends c.in-Some.body.now c.in-Some-get.instr.now i.at i.going i.body c.in-Some.ensures.value x c.local_step.new.self is) i.nearer in search (rules, near)

pub loop-running-smaller : goal.loop-running-smaller
loop-running-smaller c =
    let w = c.loop-running.running in
    let i = c.loop-running.invariant in
    let x = c.in-Some-get.ensures.value in
    let is = rw c.in-Ticks.is at c.local_step.ensures.local_step w.task.number (plain_code w.code.now) in
    let s = ticks w.code.now c.args.running.now.code.now i.code c.args.running.now.task w.task i.reaches w.ends c.in-Some.body.now c.in-Some-get.instr.now i.at i.going i.body c.in-Some.ensures.value x c.local_step.new.self is in
    let less = s.less in search (rules, less)

pub loop-running-preserved : goal.loop-running-preserved
loop-running-preserved c =
    let w = c.loop-running.running in
    let i = c.loop-running.invariant in
    let x = c.in-Some-get.ensures.value in
    let is = rw c.in-Ticks.is at c.local_step.ensures.local_step w.task.number (plain_code w.code.now) in
    let s = ticks w.code.now c.args.running.now.code.now i.code c.args.running.now.task w.task i.reaches w.ends c.in-Some.body.now c.in-Some-get.instr.now i.at i.going i.body c.in-Some.ensures.value x c.local_step.new.self is in
    record {
      reaches = s.reaches;
      code = i.code;
      at = i.at;
      body = c.local_step.ensures.body ∙ i.body;
      going = omega (arith, i.going, c.if-running-eq4096.false);
      nearer = let near = nearer_by s i.nearer in search (rules, near);
    }

pub invariant_of-running-in-Divides : goal.invariant_of-running-in-Divides
invariant_of-running-in-Divides c =
    let w = c.loop-running.running in
    let i = c.loop-running.invariant in
    let x = c.in-Some-get.ensures.value in
    let is = rw c.in-Divides.is at c.local_step.ensures.local_step w.task.number (plain_code w.code.now) in
    record { ends = (divides w.code.now c.args.running.now.code.now i.code c.args.running.now.task w.task i.reaches w.ends c.in-Some.body.now c.in-Some-get.instr.now i.at i.going i.body c.in-Some.ensures.value x c.local_step.new.self (plain_line c.in-Some-line.line) (subst (λ D. Some (plain_line c.in-Some-line.line) ≡ slice_get (body_at (plain_code D) w.task.level.body).lines w.task.level.at) (sym i.code) (subst (λ g. Some (plain_line c.in-Some-line.line) ≡ slice_get (body_at (plain_code c.args.running.now.code.now) g.body).lines g.at) is.1 c.in-Some-line.ensures.line)) is.0).least }

pub returns-in-Divides-clause-reaches : goal.returns-in-Divides-clause-reaches
returns-in-Divides-clause-reaches c =
    let w = c.loop-running.running in
    let i = c.loop-running.invariant in
    let x = c.in-Some-get.ensures.value in
    let is = rw c.in-Divides.is at c.local_step.ensures.local_step w.task.number (plain_code w.code.now) in
    (divides w.code.now c.args.running.now.code.now i.code c.args.running.now.task w.task i.reaches w.ends c.in-Some.body.now c.in-Some-get.instr.now i.at i.going i.body c.in-Some.ensures.value x c.local_step.new.self (plain_line c.in-Some-line.line) (subst (λ D. Some (plain_line c.in-Some-line.line) ≡ slice_get (body_at (plain_code D) w.task.level.body).lines w.task.level.at) (sym i.code) (subst (λ g. Some (plain_line c.in-Some-line.line) ≡ slice_get (body_at (plain_code c.args.running.now.code.now) g.body).lines g.at) is.1 c.in-Some-line.ensures.line)) is.0).reaches

pub returns-in-Divides-clause-nearer : goal.returns-in-Divides-clause-nearer
returns-in-Divides-clause-nearer c =
    let w = c.loop-running.running in
    let i = c.loop-running.invariant in
    let x = c.in-Some-get.ensures.value in
    let is = rw c.in-Divides.is at c.local_step.ensures.local_step w.task.number (plain_code w.code.now) in
    let near = nearer_by (divides w.code.now c.args.running.now.code.now i.code c.args.running.now.task w.task i.reaches w.ends c.in-Some.body.now c.in-Some-get.instr.now i.at i.going i.body c.in-Some.ensures.value x c.local_step.new.self (plain_line c.in-Some-line.line) (subst (λ D. Some (plain_line c.in-Some-line.line) ≡ slice_get (body_at (plain_code D) w.task.level.body).lines w.task.level.at) (sym i.code) (subst (λ g. Some (plain_line c.in-Some-line.line) ≡ slice_get (body_at (plain_code c.args.running.now.code.now) g.body).lines g.at) is.1 c.in-Some-line.ensures.line)) is.0) i.nearer in search (rules, near)

pub unreachable-requires : goal.unreachable-requires
unreachable-requires c =
    let w = c.loop-running.running in
    let i = c.loop-running.invariant in
    let x = c.in-Some-get.ensures.value in
    let is = rw c.in-Divides.is at c.local_step.ensures.local_step w.task.number (plain_code w.code.now) in
    let e = subst (λ D. None ≡ slice_get (body_at (plain_code D) w.task.level.body).lines w.task.level.at) (sym i.code) (subst (λ g. None ≡ slice_get (body_at (plain_code c.args.running.now.code.now) g.body).lines g.at) is.1 c.in_default-line.ensures.line) in
    never_short w.code.now c.args.running.now.code.now i.code c.args.running.now.task w.task i.reaches w.ends c.in-Some.body.now c.in-Some-get.instr.now i.at i.going i.body c.in-Some.ensures.value x e

pub unreachable-requires-in-Stuck : goal.unreachable-requires-in-Stuck
unreachable-requires-in-Stuck c =
    let w = c.loop-running.running in
    let i = c.loop-running.invariant in
    let x = c.in-Some-get.ensures.value in
    let is = rw c.in-Stuck.is at c.local_step.ensures.local_step w.task.number (plain_code w.code.now) in
    never_stuck w.code.now c.args.running.now.code.now i.code c.args.running.now.task w.task i.reaches w.ends c.in-Some.body.now c.in-Some-get.instr.now i.at i.going i.body c.in-Some.ensures.value x is.0

pub invariant_of-running-in-Full : goal.invariant_of-running-in-Full
invariant_of-running-in-Full c =
    let w = c.loop-running.running in
    let i = c.loop-running.invariant in
    let x = c.in-Some-get.ensures.value in
    let is = rw c.in-Full.is at c.local_step.ensures.local_step w.task.number (plain_code w.code.now) in
    record { ends = (stays w.code.now c.args.running.now.code.now i.code c.args.running.now.task w.task i.reaches w.ends c.local_step.new.self is).least }

pub returns-in-Full-clause-reaches : goal.returns-in-Full-clause-reaches
returns-in-Full-clause-reaches c =
    let w = c.loop-running.running in
    let i = c.loop-running.invariant in
    let x = c.in-Some-get.ensures.value in
    let is = rw c.in-Full.is at c.local_step.ensures.local_step w.task.number (plain_code w.code.now) in
    (stays w.code.now c.args.running.now.code.now i.code c.args.running.now.task w.task i.reaches w.ends c.local_step.new.self is).reaches

pub returns-in-Full-clause-nearer : goal.returns-in-Full-clause-nearer
returns-in-Full-clause-nearer c =
    let w = c.loop-running.running in
    let i = c.loop-running.invariant in
    let x = c.in-Some-get.ensures.value in
    let is = rw c.in-Full.is at c.local_step.ensures.local_step w.task.number (plain_code w.code.now) in
    let near = kept_by (stays w.code.now c.args.running.now.code.now i.code c.args.running.now.task w.task i.reaches w.ends c.local_step.new.self is) i.nearer in search (rules, near)

pub invariant_of-running-in-Other : goal.invariant_of-running-in-Other
invariant_of-running-in-Other c =
    let w = c.loop-running.running in
    let i = c.loop-running.invariant in
    let x = c.in-Some-get.ensures.value in
    let is = rw c.in-Other.is at c.local_step.ensures.local_step w.task.number (plain_code w.code.now) in
    record { ends = (stays w.code.now c.args.running.now.code.now i.code c.args.running.now.task w.task i.reaches w.ends c.local_step.new.self is).least }

pub returns-in-Other-clause-reaches : goal.returns-in-Other-clause-reaches
returns-in-Other-clause-reaches c =
    let w = c.loop-running.running in
    let i = c.loop-running.invariant in
    let x = c.in-Some-get.ensures.value in
    let is = rw c.in-Other.is at c.local_step.ensures.local_step w.task.number (plain_code w.code.now) in
    (stays w.code.now c.args.running.now.code.now i.code c.args.running.now.task w.task i.reaches w.ends c.local_step.new.self is).reaches

pub returns-in-Other-clause-nearer : goal.returns-in-Other-clause-nearer
returns-in-Other-clause-nearer c =
    let w = c.loop-running.running in
    let i = c.loop-running.invariant in
    let x = c.in-Some-get.ensures.value in
    let is = rw c.in-Other.is at c.local_step.ensures.local_step w.task.number (plain_code w.code.now) in
    let near = kept_by (stays w.code.now c.args.running.now.code.now i.code c.args.running.now.task w.task i.reaches w.ends c.local_step.new.self is) i.nearer in search (rules, near)

pub returns-in-Other-clause-other : goal.returns-in-Other-clause-other
returns-in-Other-clause-other c =
    let w = c.loop-running.running in
    let i = c.loop-running.invariant in
    let x = c.in-Some-get.ensures.value in
    let is = rw c.in-Other.is at c.local_step.ensures.local_step w.task.number (plain_code w.code.now) in
    λ h. subst (λ g. IsAtOther (plain_code c.args.running.now.code.now) (record w.task { level = g })) (sym is)
    (other w.code.now c.args.running.now.code.now i.code c.args.running.now.task w.task i.reaches w.ends c.in-Some.body.now c.in-Some-get.instr.now i.at i.going i.body c.in-Some.ensures.value x (c.local_step.ensures.other c.in-Other.is))

pub returns-clause-other : goal.returns-clause-other
returns-clause-other c =
    let w = c.loop-running.running in
    let i = c.loop-running.invariant in
    λ h. no_line (plain_code c.args.running.now.code.now) w.task
    (without_instr c.args.running.now.code.now w.task.level.body w.task.level.at c.in-Some.body.now
    (c.in-Some.ensures.value ∙ ap (λ j. slice_get c.args.running.now.code.now.bodies j) (sym i.body))
    (sym (slice_get_past c.in-Some.body.now.instrs w.task.level.at (omega (arith, ap length c.as_slice-instrs.ensures, c.loop-running-test.false)))))

pub returns-in_default-get-2-clause-other : goal.returns-in_default-get-2-clause-other
returns-in_default-get-2-clause-other c =
    let w = c.loop-running.running in
    let i = c.loop-running.invariant in
    λ h. no_line (plain_code c.args.running.now.code.now) w.task
    (without_instr c.args.running.now.code.now w.task.level.body w.task.level.at c.in-Some.body.now
    (c.in-Some.ensures.value ∙ ap (λ j. slice_get c.args.running.now.code.now.bodies j) (sym i.body)) c.in_default-get-2.ensures.value)
