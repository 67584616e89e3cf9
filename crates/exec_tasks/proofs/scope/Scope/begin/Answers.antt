-- One branch more runs.
use Rattle.std.proofs.Common.{◌+◌, ◌∷◌, [], length, ap, sym, ◌∙◌, arith, None, length-append}
use Rattle.exec_tasks.specs.Scope.{Branches, running_in}
use Rattle.exec_tasks.proofs.Scopes.{running_more, running_within}
use Rattle.exec_tasks.proofs.scope.Scope.begin.Goals as goal

pub overflow_add-self : goal.overflow_add-self
overflow_add-self c =
    let room = ap (λ (s : Branches). length s.ends) c.self.view_is in
    let limit = ap (λ (s : Branches). s.count) c.self.view_is in
    omega (arith, running_within c.self.inside.ends.items, c.self.invariant.running, c.self.invariant.small, c.requires, room, limit)

pub invariant_of-self-2 : goal.invariant_of-self-2
invariant_of-self-2 c =
    let items = c.in_ok-push.ensures.items in
    let room = ap (λ (s : Branches). length s.ends) c.self.view_is in
    let limit = ap (λ (s : Branches). s.count) c.self.view_is in
    record {
      running = ap (λ n. n + 1) c.self.invariant.running ∙ sym (ap running_in items ∙ running_more c.self.inside.ends.items);
      within = omega (arith, ap length items, length-append c.self.inside.ends.items (None ∷ []), c.requires, room, limit);
      small = c.self.invariant.small;
    }
