-- The begin of a branch is made, or has no start.
use Rattle.std.proofs.Common.{◌≡◌, ◌<◌, ◌≤◌, ◌∙◌, sym, subst, Some}
use Rattle.std.specs.FinMap.{get}
use Rattle.code_instrs.specs.Plain.{plain_code}
use Rattle.exec_machine.specs.Keeping.{IsAt}
use Rattle.exec_machine.specs.MadeEvents.{MakesIn}
use Rattle.exec_machine.proofs.Stepping.{next_in, of_some, no_start, no_body, bodies_counted, began, apart}
use Rattle.exec_machine.proofs.run.Run.make_begin.Goals as goal

pub returns-then-branch-branches-clause-why : goal.returns-then-branch-branches-clause-why
returns-then-branch-branches-clause-why c = λ m can.
    let C = plain_code c.args.code.now in
    let there : get c.args.self.now.slots c.args.event.task ≡ Some c.in-Some.slot.now = sym c.in-Some.ensures in
    let at = of_some (get c.args.self.now.slots c.args.event.task) c.in-Some.slot.now (IsAt C c.args.event) there c.requires.at in
    let x = next_in C c.args.self.now m c.args.event c.in-Some.slot.now can.has_next there at in
    no_start C m c.args.event c.in-Some.slot.now c.args.branch x c.requires.begins
    (subst (λ k. k ≤ c.args.branch) c.branches.ensures c.if-branch-branches.true)

pub returns-then-start-len-clause-why : goal.returns-then-start-len-clause-why
returns-then-start-len-clause-why c = λ m can.
    let C = plain_code c.args.code.now in
    let there : get c.args.self.now.slots c.args.event.task ≡ Some c.in-Some.slot.now = sym c.in-Some.ensures in
    let at = of_some (get c.args.self.now.slots c.args.event.task) c.in-Some.slot.now (IsAt C c.args.event) there c.requires.at in
    let x = next_in C c.args.self.now m c.args.event c.in-Some.slot.now can.has_next there at in
    no_body C m c.args.event c.in-Some.slot.now c.args.branch c.in_ok-start.start x c.requires.begins c.in_ok-start.ensures
    (subst (λ k. k ≤ c.in_ok-start.start.body) (c.len.ensures ∙ bodies_counted c.args.code.now) c.if-start-len.true)

pub returns-clause-makes : goal.returns-clause-makes
returns-clause-makes c = λ m can.
    let C = plain_code c.args.code.now in
    let there : get c.args.self.now.slots c.args.event.task ≡ Some c.in-Some.slot.now = sym c.in-Some.ensures in
    let at = of_some (get c.args.self.now.slots c.args.event.task) c.in-Some.slot.now (IsAt C c.args.event) there c.requires.at in
    let x = next_in C c.args.self.now m c.args.event c.in-Some.slot.now can.has_next there at in
    let comes = of_some (get c.args.self.now.slots c.args.event.task) c.in-Some.slot.now _ there c.in_ok-begin.ensures.ok in
    subst (λ o. MakesIn c.args.code.now c.args.limits m c.args.event o c.begin.new.self) (sym there) (
      x,
      began c.args.code.now c.args.limits c.args.self.now c.begin.new.self m c.args.event c.in-Some.slot.now comes.0 c.args.branch c.in_ok-start.start can x
          c.requires.fits c.requires.begins
          (subst (λ k. c.in_ok-start.start.body < k) (c.len.ensures ∙ bodies_counted c.args.code.now) c.if-start-len.false) c.in_ok-start.ensures
          (apart C c.args.self.now m c.args.event.task can.has_next) comes.1 comes.2,
    )
