use Rattle.std.proofs.Common.{◌∙◌, ◌<◌, ◌-◌, [], ap, subst, map, None, arith}
use Rattle.lang_typed.specs.Plain.{branches_of}
use Rattle.lang_meaning.specs.Elision.{one_step}
use Rattle.lang_meaning.specs.Statements.{all_copies}
use Rattle.exec_walker.specs.Walk.{branches}
use Rattle.exec_walker.specs.Walk.{Level as Body}
use Rattle.exec_walker.specs.States.{ComesTo, plain_level, plain_waiting, plain_branch, plain_given, tasks_in}
use Rattle.exec_walker.proofs.Forking.{forks_here}
use Rattle.exec_walker.proofs.walker.Walker.forks.Goals as goal

pub returns : goal.returns
returns c = λ L w h.
    let bs = c.args.branches.now in
    let cs = all_copies (branches_of (map plain_branch bs)) in
    let ws = map plain_waiting c.args.self.now.waiting in
    let g = plain_level c.args.self.now.level in
    let o = plain_level c.replace-outer.result in
    let some : 0 < c.args.self.now.level.frame.left = omega arith in
    subst (λ s. ComesTo L c.branches.result c.branches.new.self s)
    (ap (λ ls. branches (record { outer = o; back = map plain_given ls; fell = None; copies = cs; left = o.frame.left - 1 }) (tasks_in bs c.args.rest o.frame) ws
    (one_step w)) c.new.ensures
    ∙ ap (λ (k : Body). branches (record { outer = k; back = []; fell = None; copies = cs; left = k.frame.left - 1 }) (tasks_in bs c.args.rest k.frame) ws (one_step w))
    (ap plain_level c.replace-outer.ensures.value)
    ∙ forks_here c.args.self.now.level.frame.left c.args.place g cs (tasks_in bs c.args.rest g.frame) ws w some)
    (c.branches.ensures L (one_step w) (c.in_ok-count.ensures L w h))
