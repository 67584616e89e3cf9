-- Where no branch is left that could begin, none that has begun may run.
use Rattle.std.proofs.Common.{ap, ◌∙◌, ◌&&◌, arith}
use Rattle.exec_tasks.specs.Scope.{Branches, all_begun, all_ended}
use Rattle.exec_tasks.proofs.Scopes.{joins}
use Rattle.exec_tasks.proofs.scope.Scope.can_join.Goals as goal

pub returns-then-len-self : goal.returns-then-len-self
returns-then-len-self c =
    joins c.self.inside.count c.self.inside.left c.self.inside.ends.items c.self.invariant.running (omega (arith, c.len.ensures, c.self.inside.ends.ok.0))
    ∙ ap (λ (s : Branches). all_begun s && all_ended s) c.self.view_is
