-- One step up, and the path at the root.
use Rattle.std.proofs.Common.{subst, ◌∙◌}
use Rattle.exec_tasks.specs.Tree.{Tree, IsPath}
use Rattle.exec_tasks.proofs.Paths.{leads_up, path_made}
use Rattle.exec_tasks.proofs.tree.TaskTree.path.Goals as goal

pub loop-origin-preserved : goal.loop-origin-preserved
loop-origin-preserved c =
    leads_up c.self.inside.tasks c.loop-origin.at c.args.task c.loop-origin.upwards.items c.push.new.self.items c.in-Some.origin c.in_ok-push.ensures.items
    c.in-Some.ensures c.loop-origin.invariant

pub returns : goal.returns
returns c =
    subst (λ (tree : Tree). IsPath tree.tasks c.args.task c.from_vec.result) c.self.view_is
    (path_made c.self.inside.tasks c.loop-origin.at c.args.task c.loop-origin.upwards.items c.from_vec.result (c.from_vec.ensures
    ∙ c.reverse.ensures.items) c.in_default.ensures c.loop-origin.invariant)
