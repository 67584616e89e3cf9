-- What a task does to the shared world, and what it is answered.
use Rattle.std.specs.Prelude.{ℕ, ℤ, Bool, List, Option}
use Rattle.lang_base.specs.declared.effect.Access.{Access}
use Rattle.lang_base.specs.declared.place.Place.{Place}
use Rattle.lang_base.specs.declared.value.Trap.{Trap}
use Rattle.lang_typed.specs.declared.stmt.Forking.{Forking}
use Rattle.lang_typed.specs.Plain.{TypedStmts}
use Rattle.lang_meaning.specs.Values.{Value, Region, Thing}

-- the locals of a body by their slots, what its region parameters and local regions stand for, and how many calls deeper it
-- may still go
pub record Frame (N M : Type 0) : Type 0 where
  pub values : List (Value N)
  pub regions : List (Region M)
  pub locals : List M
  pub left : ℕ

-- what a task is to do: statements; as a branch of a construct over parts it first takes its own part of the array; and a
-- branch ends with these locals, the root with a value
pub record Work : Type 0 where
  pub is_root : Bool
  pub takes : Option ℕ
  pub copies : List ℕ
  pub stmts : TypedStmts

pub record Task (N M : Type 0) : Type 0 where
  pub work : Work
  pub frame : Frame N M

pub record Effect (M : Type 0) : Type 0 where
  pub access : Access
  pub region : Region M

-- how a task ends: the root with a value, a branch with the locals that it has assigned, by their slots; or with a trap
pub data Ending (N : Type 0) : Type 0 where
  Returned : (value : Value N) → Ending N
  Assigned : (locals : List (ℕ × Value N)) → Ending N
  Trapped : (trap : Trap) (place : Place) → Ending N

-- what a task does by itself
pub data Own (N M : Type 0) : Type 0 where
  Rest : Own N M
  Read : (object : N) (index : ℤ) → Own N M
  Write : (object : N) (index : ℤ) (value : Value N) → Own N M
  Look : (object : N) → Own N M
  -- whether its class declares a constructor
  New : (thing : Thing N M) (constructor : Bool) → Own N M
  -- of a line, with its end
  Print : (bytes : List ℕ) → Own N M
  Enter : (effects : List (Effect M)) → Own N M
  Exit : Own N M

-- the branches of a parallel construct, in order. T says what each is to do
pub record Branches (T : Type 0) : Type 0 where
  pub kind : Forking
  pub tasks : List T

pub data Action (N M T : Type 0) : Type 0 where
  Do : (own : Own N M) → Action N M T
  Fork : (branches : Branches T) → Action N M T
  -- of the branch of this number
  Begin : (branch : ℕ) → Action N M T
  Join : Action N M T
  End : (ending : Ending N) → Action N M T

pub data Answer (N M : Type 0) : Type 0 where
  Went : Answer N M
  Got : (value : Value N) → Answer N M
  -- the index is out of bounds
  Out : Answer N M
  Class : (class : ℕ) (regions : List (Region M)) → Answer N M
  Length : (len : ℕ) → Answer N M
  Named : (name : N) → Answer N M
  -- the locals that are copied back
  Joined : (locals : List (ℕ × Value N)) → Answer N M
  Fell : (trap : Trap) (place : Place) → Answer N M

-- what a task does after some answers: its next action, after so many while ticks; or nothing, since it ended before the
-- last of them; or nothing is known of it
pub data Reply (N M T : Type 0) : Type 0 where
  Next : (ticks : ℕ) (action : Action N M T) → Reply N M T
  Over : Reply N M T
  Unknown : Reply N M T
