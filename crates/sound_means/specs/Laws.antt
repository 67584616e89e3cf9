-- What is accepted is what the tree means, as statements.
use Rattle.std.specs.Prelude.{◌≡◌, ◌≤◌, ℕ, List, length}
use Rattle.lang_base.specs.declared.place.Place.{Place}
use Rattle.lang_typed.specs.Names.{ProgramNames}
use Rattle.lang_typed.specs.Plain.{PlainProgram}
use Rattle.syntax_means.specs.Accepts.{Accepts, HasTree}
use Rattle.syntax_means.specs.Declares.{names_in}
use Rattle.syntax_means.specs.Means.{Means}
use Rattle.syntax_tree.specs.declared.class.Program.{Program}
use Rattle.decl_table.specs.declared.table.Table.{Table}
use Rattle.body_assembly.specs.Assembled.{PlainBody}
use Rattle.syntax_grammar.specs.Written.{IsWritten}
use Rattle.sound_bodies.specs.Whole.{made_of}
use Rattle.sound_lemmas.specs.Accepted.{IsAccepted}
use Rattle.tool_front.specs.Front.{AreFieldNames, AreNames, IsPassed}
use Rattle.tool_front.specs.Judging.{field_names_in}

-- the typed program that is made of an accepted one, of no more names than numbers, is what its tree means
abbrev pub AcceptedMeans : Type 0
AcceptedMeans =
    (program : Program) (table : Table) (bodies : List PlainBody) → length program.names ≤ 4294967295 → IsWritten program → IsAccepted program table bodies →
    Means program (made_of program table bodies)

-- a text that passes has a tree, in which no name is declared twice and which means its typed program, and this is well typed
abbrev pub PassedMeans : Type 0
PassedMeans = (text : List ℕ) (place : Place) (typed : PlainProgram) → length text ≤ 1048576 → IsPassed text place typed → (tree : Program) × Accepts text tree typed

-- and its names are those of the tree
abbrev pub NamesMean : Type 0
NamesMean = (text : List ℕ) (names : ProgramNames) (tree : Program) → length text ≤ 1048576 → AreNames text names → HasTree text tree → names ≡ names_in tree

-- so are the names of the fields that each class declares itself
abbrev pub FieldNamesMean : Type 0
FieldNamesMean = (text : List ℕ) (fields : List (List (List ℕ))) (tree : Program) → AreFieldNames text fields → HasTree text tree → fields ≡ field_names_in tree
