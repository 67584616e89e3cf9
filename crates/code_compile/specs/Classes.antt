-- The members of a code, and the numbers of their bodies.
use Rattle.std.specs.Prelude.{◌≡◌, ℕ, List, map, slice_index_or}
use Rattle.lang_typed.specs.declared.program.Program.{Program}
use Rattle.code_instrs.specs.declared.code.MethodCode.{MethodCode}

-- of a member, by its number; 0 where there is none
abbrev pub number_from : List ℕ → ℕ → ℕ
number_from numbers n = slice_index_or numbers n 0

abbrev pub numbers_of : List MethodCode → List ℕ
numbers_of members = map (λ m. m.body) members

-- each member of the program is there, of its class
abbrev pub AreMembers : Program → List MethodCode → Type 0
AreMembers P members = map (λ m. m.owner) members ≡ map (λ m. m.class.number) P.members
