-- The end goes where the branch runs, and nowhere else.
use Rattle.std.proofs.Common.{ap, ◌∙◌, sym, arith, Option}
use Rattle.std.proofs.Math.ListN.{length-set}
use Rattle.exec_tasks.specs.declared.end.TaskEnd.{TaskEnd}
use Rattle.exec_tasks.specs.Scope.{Branches, with_end}
use Rattle.exec_tasks.proofs.Scopes.{put_running, put_past, put_ended, running_less}
use Rattle.exec_tasks.proofs.scope.Scope.end.Goals as goal
use Rattle.exec_tasks.proofs.scope.Scope.end.Goals.{then-at-len-via-then-at-len, then-at-len-via-else-at-len+then-is_some}

pub returns-then-at-len : goal.returns-then-at-len
returns-then-at-len c =
    elim c.then-at-len.branch [
      | then-at-len-via-then-at-len w ↦
          sym c.self.view_is
          ∙ ap (λ es. record { count = c.self.inside.count; ends = es })
          (put_past c.self.inside.ends.items c.args.branch c.args.how (omega (arith, c.self.inside.ends.ok.0)))
          ∙ ap (λ (s : Branches). with_end s c.args.branch c.args.how) c.self.view_is
      | then-at-len-via-else-at-len+then-is_some w ↦
          sym c.self.view_is
          ∙ ap (λ es. record { count = c.self.inside.count; ends = es })
          (put_ended c.self.inside.ends.items c.args.branch c.args.how w.index.result.now (omega (arith, c.self.inside.ends.ok.0)) w.index.ensures
          (sym w.is_some.ensures ∙ w.if-is_some.true))
          ∙ ap (λ (s : Branches). with_end s c.args.branch c.args.how) c.self.view_is
    ]

pub returns : goal.returns
returns c =
    ap (λ es. record { count = c.self.inside.count; ends = es })
    (put_running c.self.inside.ends.items c.args.branch c.args.how c.index.result.now (omega (arith, c.self.inside.ends.ok.0)) c.index.ensures
    (sym c.is_some.ensures ∙ c.if-is_some.false))
    ∙ ap (λ (s : Branches). with_end s c.args.branch c.args.how) c.self.view_is

pub overflow_sub-self : goal.overflow_sub-self
overflow_sub-self c =
    let less = running_less c.self.inside.ends.items c.args.branch c.args.how c.index.result.now (omega (arith, c.self.inside.ends.ok.0)) c.index.ensures
    (sym c.is_some.ensures ∙ c.if-is_some.false) in
    omega (arith, c.self.invariant.running)

pub invariant_of-self : goal.invariant_of-self
invariant_of-self c =
    let less = running_less c.self.inside.ends.items c.args.branch c.args.how c.index.result.now (omega (arith, c.self.inside.ends.ok.0)) c.index.ensures
    (sym c.is_some.ensures ∙ c.if-is_some.false) in
    record {
      running = omega (arith, c.self.invariant.running, less);
      within = omega (arith, length-set {A = Option TaskEnd}, c.self.invariant.within);
      small = c.self.invariant.small;
    }
