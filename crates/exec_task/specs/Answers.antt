-- How a task goes on after an answer.
use Rattle.std.specs.Prelude.{◌≡◌, ◌<◌, ◌^◌, ℕ, List, [], ◌++◌, ◌-◌, map, length, drop}
use Rattle.lang_base.specs.declared.region.Rpl.{Rpl}
use Rattle.lang_meaning.specs.Values.{Value, Region}
use Rattle.lang_meaning.specs.Regions.{around, concrete, regions_above}
use Rattle.code_instrs.specs.Plain.{PlainCode, Method, parent_of}
use Rattle.exec_task.specs.Frames.{frame_of}
use Rattle.exec_task.specs.Names.{names_of}
use Rattle.lang_meaning.specs.Actions as meaning
use Rattle.code_instrs.specs.Machine as machine
use Rattle.code_instrs.specs.Machine.{State, Stand, Goes, Ticks, Makes, Waits, Ends, Stuck}
use Rattle.exec_task.specs.declared.action.Answer.{Answer}
use Rattle.exec_task.specs.declared.action.Answer.TheVariants as answer
use Rattle.exec_task.specs.declared.task.Level.{Level}
use Rattle.exec_task.specs.declared.task.Standing.{Standing}
use Rattle.exec_task.specs.Tasks.{plain_level, state_in}

-- where a step waits, the answer leads to this state
abbrev pub LeadsTo : Stand ℕ (ℕ × ℕ) → meaning.Answer ℕ (ℕ × ℕ) → State ℕ (ℕ × ℕ) → Type 0
LeadsTo (Waits a k) x s = s ≡ k x
LeadsTo (Goes t) x s = Unit {0}
LeadsTo (Ticks t) x s = Unit {0}
LeadsTo (Makes k) x s = Unit {0}
LeadsTo (Ends e) x s = Unit {0}
LeadsTo Stuck x s = Unit {0}

-- whatever the callers are, a task that stands so in a level is in this state
abbrev pub IsIn : (List (machine.Level ℕ (ℕ × ℕ)) → State ℕ (ℕ × ℕ)) → Standing → Level → Type 0
IsIn state s g = (fs : List Level) → state_in s g fs ≡ state (map plain_level fs)

-- whatever the callers are, the answer to a step leads there
abbrev pub Leads : (List (machine.Level ℕ (ℕ × ℕ)) → Stand ℕ (ℕ × ℕ)) → meaning.Answer ℕ (ℕ × ℕ) → Standing → Level → Type 0
Leads o x s g = (fs : List Level) → LeadsTo (o (map plain_level fs)) x (state_in s g fs)

-- the stack of a level without so many values on top
abbrev pub below_top : {N M : Type 0} → ℕ → machine.Level N M → List (Value N)
below_top many g = drop many g.stack

-- an array's length is a number that a value holds
abbrev pub IsCounted : Answer → Type 0
IsCounted answer.Went = Unit {0}
IsCounted (answer.Got v) = Unit {0}
IsCounted answer.Out = Unit {0}
IsCounted (answer.Class c rs) = Unit {0}
IsCounted (answer.Length k) = k < 2 ^ 31
IsCounted (answer.Made n) = Unit {0}
IsCounted (answer.Joined ls) = Unit {0}
IsCounted (answer.Fell t place) = Unit {0}

-- a body at its beginning
abbrev pub first_at : {N M : Type 0} → machine.Start N M → machine.Level N M
first_at b = record { body = b.body; at = 0; frame = b.frame; stack = [] }

-- how a row is entered by a call from this frame: its region parameters are those of its class, and then its own
abbrev pub method_start : PlainCode → Method → ℕ × List (Region (ℕ × ℕ)) → List (Value ℕ) → meaning.Frame ℕ (ℕ × ℕ) → List Rpl → machine.Start ℕ (ℕ × ℕ)
method_start C m seen vs f own = record {
  body = m.body;
  frame = frame_of (names_of 0) C m.body vs
      (regions_above (names_of 0) (parent_of C) (length C.classes) seen.0 seen.1 m.owner ++ map (concrete (names_of 0) (around f)) own) (f.left - 1);
}
