use Rattle.std.proofs.Common.{arith, ◌∷◌, ap, ◌∙◌, drop}
use Rattle.exec_task.proofs.Dropped.{drop_one, drop_within}
use Rattle.exec_task.proofs.task.Level.replace.Goals as goal

pub returns-then-taken-gt0-clause-ok : goal.returns-then-taken-gt0-clause-ok
returns-then-taken-gt0-clause-ok c =
    ap (λ st. record c.args.self.now { stack = st }) (c.set_top.ensures
    ∙ ap (λ st. c.args.value ∷ st) (ap (drop 1) c.drop_top.ensures ∙ drop_one c.min-taken.result c.args.self.now.stack c.if-taken-gt0.true
    ∙ drop_within c.min-taken.result c.args.taken c.args.self.now.stack (omega arith) (λ h. omega (arith, h))))
