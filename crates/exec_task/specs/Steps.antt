-- What an instruction comes to, as the machine of one task has it.
use Rattle.std.specs.Prelude.{◌≡◌, ◌<◌, ◌+◌, ◌-◌, ◌^◌, ℕ, zero, suc, List, map, Some, slice_set}
use Rattle.lang_typed.specs.declared.stmt.Forking.{Forking}
use Rattle.lang_meaning.specs.Values.{Value, Naming}
use Rattle.lang_base.specs.declared.place.Place.{Place}
use Rattle.lang_base.specs.declared.region.Rpl.{Rpl}
use Rattle.lang_base.specs.declared.value.Value.{Value as Constant}
use Rattle.lang_meaning.specs.Counts.{number, how_many}
use Rattle.lang_meaning.specs.Regions.{around, concrete, some_long}
use Rattle.lang_meaning.specs.Actions as meaning
use Rattle.code_instrs.specs.declared.instr.Instr.{Instr}
use Rattle.code_instrs.specs.Machine.{Start, State, On, Off, Stand, Goes, Makes, Waits, Stuck, one, two, unless_null, unless_long}
use Rattle.code_instrs.specs.Machine as machine
use Rattle.code_instrs.specs.Plain.{PlainCode, Line, spread_site, constructor_of}
use Rattle.exec_task.specs.declared.action.Action.{Action}
use Rattle.exec_task.specs.declared.action.Action.TheVariants as action
use Rattle.exec_task.specs.declared.step.Step.{Step}
use Rattle.exec_task.specs.declared.step.Step.TheVariants as step
use Rattle.exec_task.specs.declared.task.Level.{Level}
use Rattle.exec_frames.specs.Names.{plain_value}
use Rattle.exec_task.specs.Names.{names_of}
use Rattle.exec_task.specs.Tasks.{plain_frame, plain_level, plain_ending, Says}

-- an instruction and its place
abbrev pub plain_line : Instr × Place → Line
plain_line l = record { instr = l.0; place = l.1 }

-- a step waits for an action, which it says
pub record WaitsFor (C : PlainCode) (o : Stand ℕ (ℕ × ℕ)) (action : Action) : Type 0 where
  pub does : meaning.Action ℕ (ℕ × ℕ) (Start ℕ (ℕ × ℕ))
  pub then_on : meaning.Answer ℕ (ℕ × ℕ) → State ℕ (ℕ × ℕ)
  pub waits : o ≡ Waits does then_on
  pub says : Says C action does

-- a new local region, for a declaration
abbrev pub with_local : {N M : Type 0} → ℕ → M → machine.Level N M → machine.Level N M
with_local r m g = record g { at = suc g.at; frame = record g.frame { locals = slice_set g.frame.locals r m } }

-- from a level and its callers a step goes on in others
abbrev pub Comes : PlainCode → Stand ℕ (ℕ × ℕ) → Level → List Level → Step → Level → List Level → Type 0
Comes C o g fs step.Goes h hs = o ≡ Goes (On (plain_level h) (map plain_level hs))
Comes C o g fs (step.Makes r) h hs = (o ≡ Makes (λ m. On (with_local r m (plain_level g)) (map plain_level fs))) × (h ≡ g) × (hs ≡ fs)
Comes C o g fs (step.Ends e) h hs = o ≡ Goes (Off (plain_ending e))
Comes C o g fs (step.Waits action) h hs = WaitsFor C o action × (h ≡ g) × (hs ≡ fs)
Comes C o g fs step.Stuck h hs = o ≡ Stuck

-- whatever the code and the callers are
abbrev pub Local : (List (machine.Level ℕ (ℕ × ℕ)) → Stand ℕ (ℕ × ℕ)) → Level → Step → Level → Type 0
Local o g s h = (C : PlainCode) (fs : List Level) → Comes C (o (map plain_level fs)) g fs s h fs

-- of an instruction that leaves its level as it is, whatever the task and the callers are
abbrev pub Acts : PlainCode → (Naming ℕ (ℕ × ℕ) → List (machine.Level ℕ (ℕ × ℕ)) → Stand ℕ (ℕ × ℕ)) → Level → Step → Type 0
Acts C o g s = (task : ℕ) (fs : List Level) → Comes C (o (names_of task) (map plain_level fs)) g fs s g fs

-- of a step that waits, or is stuck
abbrev pub OnlyWaits : PlainCode → Stand ℕ (ℕ × ℕ) → Step → Type 0
OnlyWaits C o (step.Waits action) = WaitsFor C o action
OnlyWaits C o step.Stuck = o ≡ Stuck
OnlyWaits C o step.Goes = ⊥
OnlyWaits C o (step.Makes r) = ⊥
OnlyWaits C o (step.Ends e) = ⊥

-- of an entry in front of which a task has rested
abbrev pub Enters : PlainCode → (Naming ℕ (ℕ × ℕ) → List (machine.Level ℕ (ℕ × ℕ)) → Stand ℕ (ℕ × ℕ)) → Step → Type 0
Enters C o s = (task : ℕ) (fs : List Level) → OnlyWaits C (o (names_of task) (map plain_level fs)) s

-- of the look at the receiver of a call, whatever is called there
abbrev pub Looks : Place → Constant → List Rpl → Level → Step → Type 0
Looks at v regions g s =
    (task : ℕ) (C : PlainCode) (c r : ℕ) (vs st : List (Value ℕ)) (fs : List Level) → Comes C (unless_null at (plain_value v) (λ n.
    machine.calls (names_of task) C at c r (map (concrete (names_of task) (around (plain_frame g.frame))) regions) n vs (plain_level g) st (map plain_level fs)))
    g fs s g fs

-- of the making of an object
abbrev pub Creates : PlainCode → Place → ℕ → List Rpl → Level → Step → Type 0
Creates C at c regions g s =
    (task : ℕ) (vs st : List (Value ℕ)) (fs : List Level) → Comes C (unless_long
    (some_long (map (concrete (names_of task) (around (plain_frame g.frame))) regions)) at
    (machine.creates (names_of task) C at c (map (concrete (names_of task) (around (plain_frame g.frame))) regions) vs (constructor_of C c) (plain_level g) st
    (map plain_level fs))) g fs s g fs

-- of the fork of a branch for each number
abbrev pub Spreads : Place → Forking → Level → Step → Type 0
Spreads at forking g s =
    (C : PlainCode) (j x : ℕ) (fs : List Level) → Comes C (machine.spread at (Some (spread_site forking j x)) (plain_level g) (map plain_level fs)) g fs s g fs

-- in front of a join with so many branches, of which so many are left
abbrev pub next_branch : ℕ → ℕ → Action
next_branch total zero = action.Join
next_branch total (suc left) = action.Begin (total - suc left)

-- of the join after a fork of so many branches, and of that after a spread
abbrev pub JoinsFork : ℕ → Level → Step → Type 0
JoinsFork total g s =
    (C : PlainCode) (copies : List ℕ) (fs : List Level) → Comes C (one (plain_level g).stack (λ left st.
    machine.joins_fork total copies (how_many (number left)) (plain_level g) st (map plain_level fs))) g fs s g fs

abbrev pub JoinsSpread : Level → Step → Type 0
JoinsSpread g s =
    (C : PlainCode) (fs : List Level) → Comes C (one (plain_level g).stack (λ left more. two more (λ total next st.
    machine.joins_spread next (how_many (number total)) (how_many (number left)) (plain_level g) st (map plain_level fs)))) g fs s g fs

-- there is a number for the next instruction
abbrev pub HasNext : Level → Type 0
HasNext g = g.at + 1 < 2 ^ 64
