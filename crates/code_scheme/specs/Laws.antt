-- What the code of a program promises. N names objects, and M made local regions.
use Rattle.std.specs.Prelude.{◌≡◌, ◌<◌, ℕ, true, List, [], length, Some, None}
use Rattle.lang_typed.specs.Plain.{PlainProgram, PlainMember}
use Rattle.lang_typed.specs.Resolved.{Resolved}
use Rattle.lang_typed.specs.Scope.{member_at}
use Rattle.lang_meaning.specs.Values.{Naming}
use Rattle.lang_meaning.specs.Actions.{Frame, Work, Task, Action, Answer, Reply, Unknown}
use Rattle.lang_meaning.specs.Asking.{ask}
use Rattle.code_instrs.specs.Plain.{PlainCode}
use Rattle.code_instrs.specs.RunsToActions.{Halt, Asks, RunsToAction, Halts, said}
use Rattle.code_instrs.specs.Machine.{Start, State, begins_at, Solo}
use Rattle.code_scheme.specs.Whole.{number_in, compiled}
use Rattle.code_scheme.specs.Compiled.{Compiled, SameReply, Right}

-- of each task whose start is compiled, whatever it is answered, the solo run stands at the action, after as many ticks, that
-- the meaning asks, or is over exactly where that is; and the starts of its branches are compiled again
abbrev pub CodeIsRight : Type 0 → Type 0 → Type 0
CodeIsRight N M =
    (names : Naming N M) (P : PlainProgram) → Resolved P → (b : Start N M) (t : Task N M) → Compiled (compiled P) P b t →
    (got : List (Answer N M)) → Right names (compiled P) P b got (ask names P t got)

-- the body of a member as a task of its own
abbrev pub work_of : PlainMember → Work
work_of m = record { is_root = true; takes = None; copies = []; stmts = m.body }

-- each member is compiled, in each frame
abbrev pub MembersAreCompiled : Type 0 → Type 0 → Type 0
MembersAreCompiled N M =
    (P : PlainProgram) → Resolved P → (n : ℕ) (m : PlainMember) → member_at P n ≡ Some m → (f : Frame N M) →
    Compiled (compiled P) P (record { body = number_in P n; frame = f }) (record { work = work_of m; frame = f })

-- each body of the code, of a member or a branch, is that of some task's work, in each frame
abbrev pub BodiesAreCompiled : Type 0 → Type 0 → Type 0
BodiesAreCompiled N M =
    (P : PlainProgram) → Resolved P → (j : ℕ) → j < length (compiled P).bodies →
    (w : Work) × ((f : Frame N M) → Compiled (compiled P) P (record { body = j; frame = f }) (record { work = w; frame = f }))

-- a solo run stands at one reply
abbrev pub OneReply : Type 0 → Type 0 → Type 0
OneReply N M =
    (names : Naming N M) (C : PlainCode) (b : Start N M) (got : List (Answer N M)) (r s : Reply N M (Start N M)) →
    Solo names C b got r → Solo names C b got s → r ≡ s

-- no compiled task gets stuck, whatever it is answered
abbrev pub NeverStuck : Type 0 → Type 0 → Type 0
NeverStuck N M =
    (names : Naming N M) (P : PlainProgram) → Resolved P → (b : Start N M) (t : Task N M) → Compiled (compiled P) P b t →
    (got : List (Answer N M)) → Solo names (compiled P) b got Unknown → ⊥

-- a compiled task that gets its answers one at a time stands each time at what the meaning asks
abbrev pub RunsAreRight : Type 0 → Type 0 → Type 0
RunsAreRight N M =
    (names : Naming N M) (P : PlainProgram) → Resolved P → (b : Start N M) (t : Task N M) → Compiled (compiled P) P b t →
    (got : List (Answer N M)) (h : Halt N M) → Halts names (compiled P) b got h → SameReply (compiled P) P (ask names P t got) (said h)

-- it comes to a first action, and to one after each answer
pub record RunsEndOf {N M : Type 0} (names : Naming N M) (C : PlainCode) (b : Start N M) : Type 0 where
  pub first : (h : Halt N M) × RunsToAction names C 0 (begins_at b) h
  pub later :
      (got : List (Answer N M)) (n m : ℕ) (a : Action N M (Start N M)) (k : Answer N M → State N M) → Halts names C b got (Asks n m a k) →
      (x : Answer N M) → (h : Halt N M) × RunsToAction names C m (k x) h

abbrev pub RunsEnd : Type 0 → Type 0 → Type 0
RunsEnd N M =
    (names : Naming N M) (P : PlainProgram) → Resolved P → (b : Start N M) (t : Task N M) → Compiled (compiled P) P b t → RunsEndOf names (compiled P) b
