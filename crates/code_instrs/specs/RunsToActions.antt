-- A task that gets its answers one at a time, and runs each time up to its next action.
use Rattle.std.specs.Prelude.{◌≡◌, ℕ, zero, suc, ◌==◌, if◌then◌else◌, List, [], ◌∷◌, Option, Some, None}
use Rattle.lang_meaning.specs.Values.{Naming}
use Rattle.lang_meaning.specs.Actions.{Ending, Rest, Action, Do, End, Answer, Reply, Next, Unknown}
use Rattle.lang_meaning.specs.Asking.{most_ticks}
use Rattle.code_instrs.specs.Plain.{PlainCode}
use Rattle.code_instrs.specs.Machine.{Start, State, Stand, Goes, Ticks, Makes, Waits, Ends, Stuck, step, begins_at, Solo}

-- where a task stands: at an action with its ticks, the local regions that it has made, and what it does with the answer; at
-- its end; or it is stuck
pub data Halt (N M : Type 0) : Type 0 where
  Asks : (ticks made : ℕ) (a : Action N M (Start N M)) (k : Answer N M → State N M) → Halt N M
  Finished : (ticks : ℕ) (e : Ending N) → Halt N M
  Dead : Halt N M

abbrev pub ran_on_tick : {N M : Type 0} → (ℕ → ℕ → State N M → Option (Halt N M)) → ℕ → ℕ → State N M → Option (Halt N M)
ran_on_tick more ticks made s = if suc ticks == most_ticks then Some (Asks (suc ticks) made (Do Rest) (λ x. s)) else more (suc ticks) made s

abbrev pub ran_on : {N M : Type 0} → Naming N M → (ℕ → ℕ → State N M → Option (Halt N M)) → ℕ → ℕ → Stand N M → Option (Halt N M)
ran_on names more ticks made (Goes s) = more ticks made s
ran_on names more ticks made (Ticks s) = ran_on_tick more ticks made s
ran_on names more ticks made (Makes k) = ran_on_tick more ticks (suc made) (k (names.made made))
ran_on names more ticks made (Waits a k) = Some (Asks ticks made a k)
ran_on names more ticks made (Ends e) = Some (Finished ticks e)
ran_on names more ticks made Stuck = Some Dead

-- the steps up to the next action, in less than so many
abbrev pub run_to_action : {N M : Type 0} → Naming N M → PlainCode → ℕ → ℕ → ℕ → State N M → Option (Halt N M)
run_to_action names C zero ticks made s = None
run_to_action names C (suc fuel) ticks made s = ran_on names (λ n m t. run_to_action names C fuel n m t) ticks made (step names C s)

-- from this state, where so many local regions are made
pub record RunsToAction {N M : Type 0} (names : Naming N M) (C : PlainCode) (made : ℕ) (s : State N M) (h : Halt N M) : Type 0 where
  pub fuel : ℕ
  pub runs : run_to_action names C fuel 0 made s ≡ Some h

-- where the task stands after these answers, the latest first: it runs to an action from its start, and from each answer
abbrev pub Halts : {N M : Type 0} → Naming N M → PlainCode → Start N M → List (Answer N M) → Halt N M → Type 0
Halts names C b [] h = RunsToAction names C 0 (begins_at b) h
Halts {N} {M} names C b (x ∷ got) h =
    (n m : ℕ) × (a : Action N M (Start N M)) × (k : Answer N M → State N M) × Halts names C b got (Asks n m a k) × RunsToAction names C m (k x) h

-- its next action there
abbrev pub said : {N M : Type 0} → Halt N M → Reply N M (Start N M)
said (Asks n m a k) = Next n a
said (Finished n e) = Next n (End e)
said Dead = Unknown

-- a task that gets its answers one at a time stands each time where its solo run does
abbrev pub RunsAreSolo : Type 0 → Type 0 → Type 0
RunsAreSolo N M = (names : Naming N M) (C : PlainCode) (b : Start N M) (got : List (Answer N M)) (h : Halt N M) → Halts names C b got h →
    Solo names C b got (said h)
