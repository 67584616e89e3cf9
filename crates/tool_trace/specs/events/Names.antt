-- How the objects, arrays, fields and values of a run are called.
use Rattle.std.specs.Prelude.{ℕ, zero, suc, ℤ, pos, negsuc, true, false, List, [], ◌∷◌, ◌++◌, codes, length, Option, Some, None, slice_get, slice_index_or}
use Rattle.std.specs.Fmt.{decimal, signed_decimal}
use Rattle.std.specs.Option.{option_map_or}
use Rattle.lang_base.specs.declared.value.Value.{Value}
use Rattle.lang_base.specs.declared.value.Value.TheVariants as value
use Rattle.lang_typed.specs.Names.{ProgramNames, names_of}
use Rattle.lang_typed.specs.Plain.{PlainProgram, plain_program}
use Rattle.lang_typed.specs.Scope.{parent_of}
use Rattle.lang_typed.specs.declared.program.Program.{Program}
use Rattle.body_infer.specs.Lines.{class_name}
use Rattle.tool_trace.specs.declared.events.thing.Elements.{Elements}
use Rattle.tool_trace.specs.declared.events.thing.Elements.TheVariants.{Ints, Booleans, References}
use Rattle.tool_trace.specs.declared.events.thing.Thing.{Thing}
use Rattle.tool_trace.specs.declared.events.thing.Thing.TheVariants.{Object, Array}

-- a program with the names of its text, and of each class with those of the fields that it declares itself
pub record Spelling : Type 0 where
  pub program : PlainProgram
  pub names : ProgramNames
  pub fields : List (List (List ℕ))

abbrev pub spelling_of : Program → List (List (List ℕ)) → Spelling
spelling_of program fields = record { program = plain_program program; names = names_of program; fields = fields }

-- what the elements of an array are, by the first value of each
abbrev pub elements_of : Value → Elements
elements_of (value.Int n) = Ints
elements_of (value.Bool b) = Booleans
elements_of value.Null = References
elements_of (value.Obj n) = References

abbrev pub elements_name : Elements → List ℕ
elements_name Ints = codes "int"
elements_name Booleans = codes "boolean"
elements_name References = codes "ref"

-- what an object or an array is
abbrev pub thing_name : ProgramNames → Thing → List ℕ
thing_name names (Object class) = class_name names class
thing_name names (Array elements) = elements_name elements ++ codes "[]"

-- its name: what it is, and its number
abbrev pub name_of : ProgramNames → List Thing → ℕ → List ℕ
name_of names things number = option_map_or (thing_name names) (slice_get things number) [] ++ codes "#" ++ decimal number

abbrev pub value_text : ProgramNames → List Thing → Value → List ℕ
value_text names things (value.Int n) = signed_decimal n
value_text names things (value.Bool true) = codes "true"
value_text names things (value.Bool false) = codes "false"
value_text names things value.Null = codes "null"
value_text names things (value.Obj number) = name_of names things number

-- a class and those above it, the nearest first, so many at most
abbrev pub upwards : PlainProgram → ℕ → ℕ → List ℕ
upwards P zero class = []
upwards P (suc n) class = class ∷ option_map_or (λ p. upwards P n p.class) (parent_of P class) []

-- the names of their fields: those of the highest class come first
abbrev pub names_along : List (List (List ℕ)) → List ℕ → List (List ℕ)
names_along fields [] = []
names_along fields (class ∷ above) = names_along fields above ++ slice_index_or fields class []

-- the name of the field in a slot of a class
abbrev pub field_name : Spelling → ℕ → ℕ → List ℕ
field_name s class slot = slice_index_or (names_along s.fields (upwards s.program (length s.program.classes) class)) slot []

abbrev pub field_at : Spelling → ℕ → ℤ → List ℕ
field_at s class (pos slot) = field_name s class slot
field_at s class (negsuc n) = []

-- what stands after the name of an object or an array: a field by its name, an element by its index
abbrev pub part_text : Spelling → Option Thing → ℤ → List ℕ
part_text s (Some (Object class)) index = codes "." ++ field_at s class index
part_text s (Some (Array elements)) index = codes "[" ++ signed_decimal index ++ codes "]"
part_text s None index = codes "[" ++ signed_decimal index ++ codes "]"

abbrev pub spot_text : Spelling → List Thing → ℕ → ℤ → List ℕ
spot_text s things number index = name_of s.names things number ++ part_text s (slice_get things number) index
