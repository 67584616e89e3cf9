-- Where no branch is left that could begin, none that has begun may run.
use Rattle.std.proofs.Common.{ap, ◌∙◌, arith}
use Rattle.exec_tasks.specs.Scope.{Branches, can_go_on}
use Rattle.exec_tasks.proofs.Scopes.{goes_on}
use Rattle.exec_tasks.proofs.scope.Scope.can_go_on.Goals as goal

pub returns-else-len-self : goal.returns-else-len-self
returns-else-len-self c =
    goes_on c.self.inside.count c.self.inside.left c.self.inside.ends.items c.self.invariant.running (omega (arith, c.len.ensures, c.self.inside.ends.ok.0))
    ∙ ap (λ (s : Branches). can_go_on s) c.self.view_is
