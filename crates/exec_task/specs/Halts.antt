-- Where a task halts.
use Rattle.std.specs.Prelude.{◌≡◌, ◌<◌, ◌≤◌, ◌+◌, ◌^◌, ℕ, ◌==◌, if◌then◌else◌, length, Option, Some}
use Rattle.lang_meaning.specs.Values.{Naming}
use Rattle.lang_meaning.specs.Actions.{Do, Rest, End as Ended}
use Rattle.lang_meaning.specs.Asking.{most_ticks}
use Rattle.code_instrs.specs.declared.code.Site.{Site}
use Rattle.code_instrs.specs.declared.code.Site.TheVariants as site
use Rattle.code_instrs.specs.RunsToActions.{Halt, Asks, Finished, Dead, run_to_action}
use Rattle.code_instrs.specs.Machine.{State, Stand, Goes, Ticks, Makes, Waits, Ends as Ends_so, Stuck, step}
use Rattle.code_instrs.specs.Plain.{PlainCode}
use Rattle.exec_task.specs.declared.action.Action.{Action}
use Rattle.exec_task.specs.declared.action.Answer.{Answer}
use Rattle.exec_task.specs.declared.task.Task.{Task}
use Rattle.exec_task.specs.Names.{names_of}
use Rattle.exec_task.specs.Tasks.{state_of, plain_answer, Says}

-- the way of a task that has made so many ticks since its last answer, and so many local regions; after the last tick that
-- may be made without an event it rests
abbrev pub run_from : {N M : Type 0} → Naming N M → PlainCode → ℕ → ℕ → ℕ → State N M → Option (Halt N M)
run_from names C fuel ticks made s = if ticks == most_ticks then Some (Asks ticks made (Do Rest) (λ x. s)) else run_to_action names C fuel ticks made s

-- from where this task is on its way, it halts there
pub record Halts (C : PlainCode) (t : Task) (h : Halt ℕ (ℕ × ℕ)) : Type 0 where
  pub fuel : ℕ
  pub runs : run_from (names_of t.number) C fuel t.ticks t.made (state_of t) ≡ Some h

-- one task is on the way of another
abbrev pub OnTheWay : PlainCode → Task → Task → Type 0
OnTheWay C old new = (h : Halt ℕ (ℕ × ℕ)) → Halts C new h → Halts C old h

-- where a task stands, without a step
abbrev pub stands : {N M : Type 0} → ℕ → ℕ → Stand N M → Halt N M
stands ticks made (Waits a k) = Asks ticks made a k
stands ticks made (Ends_so e) = Finished ticks e
stands ticks made (Goes s) = Dead
stands ticks made (Ticks s) = Dead
stands ticks made (Makes k) = Dead
stands ticks made Stuck = Dead

abbrev pub front_of : PlainCode → Task → Halt ℕ (ℕ × ℕ)
front_of C t =
    if t.ticks == most_ticks then Asks t.ticks t.made (Do Rest) (λ x. state_of t)
    else stands t.ticks t.made (step (names_of t.number) C (state_of t))

-- this action is that of a halt
abbrev pub IsActionOf : PlainCode → Action → Halt ℕ (ℕ × ℕ) → Type 0
IsActionOf C action (Asks n m a k) = Says C action a
IsActionOf C action (Finished n e) = Says C action (Ended e)
IsActionOf C action Dead = ⊥

-- a task goes on after the answer to where it stood
abbrev pub Follows : Halt ℕ (ℕ × ℕ) → Answer → Task → Type 0
Follows (Asks n m a k) answer t = (state_of t ≡ k (plain_answer answer)) × (t.ticks ≡ 0) × (t.made ≡ m)
Follows (Finished n e) answer t = Unit {0}
Follows Dead answer t = Unit {0}

abbrev pub IsAsking : Halt ℕ (ℕ × ℕ) → Type 0
IsAsking (Asks n m a k) = Unit {0}
IsAsking (Finished n e) = ⊥
IsAsking Dead = ⊥

-- it comes to an action, and isn't stuck there
pub record Ends (C : PlainCode) (t : Task) : Type 0 where
  pub halt : Halt ℕ (ℕ × ℕ)
  pub halts : Halts C t halt
  pub alive : halt ≡ Dead → ⊥

-- it has ticks left, and names for the local regions that it may still make on its way
pub record Paced (t : Task) : Type 0 where
  pub ticks : t.ticks ≤ 4096
  pub names : t.made + 4096 < 2 ^ 32 + t.ticks

-- a task has gone on to another, or stands where it was where it waits there for an answer
pub record Reaches (C : PlainCode) (old new : Task) : Type 0 where
  pub running : OnTheWay C old new
  pub number : new.number ≡ old.number
  pub paced : Paced new
  pub again : IsAsking (front_of C old) → new ≡ old

-- fewer branches than a value counts
abbrev pub IsWidthBounded : Site → Type 0
IsWidthBounded (site.Fork forking bodies copies) = length bodies < 2 ^ 31
IsWidthBounded (site.Spread forking body slot) = Unit {0}
IsWidthBounded (site.Block effects) = Unit {0}
IsWidthBounded (site.Call class row formals regions) = Unit {0}
IsWidthBounded (site.New class formals regions) = Unit {0}
IsWidthBounded (site.Array region first) = Unit {0}
