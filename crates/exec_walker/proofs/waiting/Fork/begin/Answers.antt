use Rattle.std.proofs.Common.{sym, subst}
use Rattle.std.specs.Prelude.{IfOk}
use Rattle.exec_walker.specs.Falls.{Begins}
use Rattle.exec_walker.specs.States.{plain_level}
use Rattle.exec_walker.proofs.waiting.Fork.begin.Goals as goal

pub returns-in-Branches : goal.returns-in-Branches
returns-in-Branches c =
    subst (λ r. IfOk c.begin_branch.result (λ level. Begins (plain_level c.args.outer.now) (record c.args.self.now { rest = r }) level c.begin_branch.new.self)) (sym c.in-Branches.is)
    c.begin_branch.ensures

pub returns-in-Numbers : goal.returns-in-Numbers
returns-in-Numbers c =
    subst (λ r. IfOk c.begin_iteration.result (λ level. Begins (plain_level c.args.outer.now) (record c.args.self.now { rest = r }) level c.begin_iteration.new.self))
    (sym c.in-Numbers.is) c.begin_iteration.ensures
