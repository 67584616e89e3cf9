-- What becomes of a program after its grammar: it is accepted as a typed program, or refused for the first fault of its class
-- table or of its bodies.
use Rattle.std.specs.Prelude.{◌≡◌, ℕ, List, map, Result, Ok, Err}
use Rattle.lang_base.specs.declared.refusal.Refusal.{Refusal}
use Rattle.syntax_tree.specs.declared.class.Program.{Program}
use Rattle.decl_table.specs.declared.table.Table.{Table}
use Rattle.decl_classes.specs.Build.{check_table}
use Rattle.syntax_means.specs.Declares.{own_fields, spelled}
use Rattle.syntax_tree.specs.Nd.{program_uses_nd}
use Rattle.lang_typed.specs.Names.{ProgramNames}
use Rattle.lang_typed.specs.Plain.{PlainProgram}
use Rattle.body_assembly.specs.Assembled.{PlainBody, plain_body, program_of}
use Rattle.body_assembly.specs.Named.{names_in}
use Rattle.body_check.specs.Methods.{after_ok, check_bodies, then_ok}
use Rattle.tool_front.specs.declared.passing.Passed.{Passed}

-- a typed program, and the names that it has beside its plain form
pub record Judged : Type 0 where
  pub typed : PlainProgram
  pub names : ProgramNames

-- what a class table and the typed bodies over it make
abbrev pub judged_of : Program → Table → List PlainBody → Judged
judged_of program table bodies = record {
  typed = program_of table program.names (program_uses_nd program) bodies;
  names = names_in table program.names bodies;
}

-- the program is given a class table, and then all its bodies pass the rules of the language; or it has a first fault
abbrev pub judge : Program → Result Judged Refusal
judge program = then_ok (check_table program) (λ table. after_ok (judged_of program table) (check_bodies program table))

-- it is accepted as this typed program, with these names; or this is its fault
abbrev pub IsAccepted : Program → PlainProgram → Type 0
IsAccepted program typed = after_ok (λ judged. judged.typed) (judge program) ≡ Ok typed

abbrev pub HasNames : Program → ProgramNames → Type 0
HasNames program names = after_ok (λ judged. judged.names) (judge program) ≡ Ok names

abbrev pub IsFaulty : Program → Refusal → Type 0
IsFaulty program refusal = judge program ≡ Err refusal

-- of each class the names of the fields that it declares itself
abbrev pub field_names_in : Program → List (List (List ℕ))
field_names_in program = map (λ class. map (λ field. spelled program field.name) (own_fields class)) program.classes

-- the typed program that a class table, the names of a text and what the checker made of its bodies are put together to
abbrev pub typed_of : Passed → PlainProgram
typed_of passed = program_of passed.table passed.names passed.checked.uses_nd (map plain_body passed.checked.bodies)

-- and its names
abbrev pub names_of_passed : Passed → ProgramNames
names_of_passed passed = names_in passed.table passed.names (map plain_body passed.checked.bodies)
