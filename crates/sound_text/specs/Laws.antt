-- What the typed program of a text that passes keeps, as statements; and that each text has one verdict.
use Rattle.std.specs.Prelude.{◌≡◌, ◌≤◌, List, All, ◌⊎◌, ℕ, length}
use Rattle.syntax_tree.specs.declared.class.Program.{Program}
use Rattle.syntax_tree.specs.Nd.{program_uses_nd}
use Rattle.syntax_tree.specs.Size.{program_size}
use Rattle.decl_table.specs.declared.table.Table.{Table}
use Rattle.body_assembly.specs.Assembled.{PlainBody, program_of}
use Rattle.code_instrs.specs.declared.code.Code.{Code}
use Rattle.code_instrs.specs.Plain.{plain_code}
use Rattle.code_scheme.specs.Whole.{compiled}
use Rattle.exec_task.specs.Halts.{IsWidthBounded}
use Rattle.sound_lemmas.specs.Accepted.{IsAccepted}
use Rattle.lang_base.specs.declared.place.Place.{Place}
use Rattle.lang_base.specs.declared.refusal.Refusal.{Refusal}
use Rattle.lang_typed.specs.Names.{ProgramNames}
use Rattle.lang_typed.specs.Plain.{PlainProgram}
use Rattle.lang_typed.specs.Resolved.{Resolved, HasMain}
use Rattle.lang_typed.specs.WellTyped.{WellTyped}
use Rattle.tool_front.specs.Front.{AreNames, IsFault, IsPassed}

-- the code of an accepted program of no more nodes than that has no fork of more branches than a value counts
abbrev pub AcceptedIsWidthBounded : Type 0
AcceptedIsWidthBounded =
    (program : Program) (table : Table) (bodies : List PlainBody) → program_size program ≤ 1048576 → IsAccepted program table bodies →
    (code : Code) → plain_code code ≡ compiled (program_of table program.names (program_uses_nd program) bodies) → All IsWidthBounded code.sites

-- it is well typed and resolved, has a `main`, and no fork of its code has more branches than a value counts
pub record Keeps (typed : PlainProgram) : Type 0 where
  pub well_typed : WellTyped typed
  pub resolved : Resolved typed
  pub has_main : HasMain typed
  pub narrow : (code : Code) → plain_code code ≡ compiled typed → All IsWidthBounded code.sites

abbrev pub PassedKeeps : Type 0
PassedKeeps = (text : List ℕ) (place : Place) (typed : PlainProgram) → length text ≤ 1048576 → IsPassed text place typed → Keeps typed

-- a text passes as one program
abbrev pub OnePassing : Type 0
OnePassing = (text : List ℕ) (place other : Place) (one another : PlainProgram) → IsPassed text place one → IsPassed text other another → one ≡ another

-- and its program has one list of names
abbrev pub OneNaming : Type 0
OneNaming = (text : List ℕ) (first second : ProgramNames) → AreNames text first → AreNames text second → first ≡ second

-- a text passes as a program, or it has a fault
abbrev pub HasVerdict : List ℕ → Type 0
HasVerdict text = ((place : Place) × (typed : PlainProgram) × IsPassed text place typed) ⊎ ((refusal : Refusal) × IsFault text refusal)

-- a text has one verdict: it passes, or it has one fault
pub record OneVerdict : Type 0 where
  pub some : (text : List ℕ) → length text ≤ 1048576 → HasVerdict text
  pub one_fault : (text : List ℕ) (first second : Refusal) → IsFault text first → IsFault text second → first ≡ second
  pub not_both : (text : List ℕ) (place : Place) (typed : PlainProgram) (refusal : Refusal) → IsPassed text place typed → IsFault text refusal → ⊥
  -- its first token stands at one place
  pub one_place : (text : List ℕ) (place other : Place) (one another : PlainProgram) → IsPassed text place one → IsPassed text other another → place ≡ other
