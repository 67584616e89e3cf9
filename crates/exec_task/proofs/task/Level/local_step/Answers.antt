use Rattle.std.proofs.Common.{rules}
use Rattle.std.proofs.lemmas.Int.{to_z-of_z}
use mir.Val.{SFits}
use mir.Syntax.{w32}
use Rattle.exec_task.proofs.task.Level.local_step.Goals as goal

pub returns-in-Int-clause-local_step : goal.returns-in-Int-clause-local_step
returns-in-Int-clause-local_step c = λ task C.
    let fits : SFits w32 c.in-Int.n = search rules in
    let pushed = simp to_z-of_z at c.push.ensures.local_step in rw c.in-Int.is pushed

pub returns-in-Bool-clause-local_step : goal.returns-in-Bool-clause-local_step
returns-in-Bool-clause-local_step c = λ task C. rw c.in-Bool.is c.push-in-Bool.ensures.local_step

pub returns-in-Null-clause-local_step : goal.returns-in-Null-clause-local_step
returns-in-Null-clause-local_step c = λ task C. rw c.in-Null.is c.push-in-Null.ensures.local_step

pub returns-in-Load-clause-local_step : goal.returns-in-Load-clause-local_step
returns-in-Load-clause-local_step c = λ task C. rw c.in-Load.is c.load.ensures.local_step

pub returns-in-Store-clause-local_step : goal.returns-in-Store-clause-local_step
returns-in-Store-clause-local_step c = λ task C. rw c.in-Store.is c.store.ensures.local_step

pub returns-in-Pop-clause-local_step : goal.returns-in-Pop-clause-local_step
returns-in-Pop-clause-local_step c = λ task C. rw c.in-Pop.is c.discard.ensures.local_step

pub returns-in-Unary-clause-local_step : goal.returns-in-Unary-clause-local_step
returns-in-Unary-clause-local_step c = λ task C. rw c.in-Unary.is c.apply.ensures.local_step

pub returns-in-Binary-clause-local_step : goal.returns-in-Binary-clause-local_step
returns-in-Binary-clause-local_step c = λ task C. rw c.in-Binary.is c.operate.ensures.local_step

pub returns-in-Jump-clause-local_step : goal.returns-in-Jump-clause-local_step
returns-in-Jump-clause-local_step c = λ task C. rw c.in-Jump.is c.jump.ensures.local_step

pub returns-in-Unless-clause-local_step : goal.returns-in-Unless-clause-local_step
returns-in-Unless-clause-local_step c = λ task C. rw c.in-Unless.is c.jump_unless.ensures.local_step

pub returns-in-Turn-clause-local_step : goal.returns-in-Turn-clause-local_step
returns-in-Turn-clause-local_step c = λ task C. rw c.in-Turn.is c.tick.ensures.local_step
