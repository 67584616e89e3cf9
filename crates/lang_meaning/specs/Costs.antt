-- What actions cost: steps and cells.
use Rattle.std.specs.Prelude.{ℕ, suc, true, false, length}
use Rattle.lang_meaning.specs.Values.{Thing, An_object, An_array}
use Rattle.lang_meaning.specs.Actions.{Own, Rest, Read, Write, Look, New, Print, Enter, Exit}

-- how many cells an object or an array has
abbrev pub size : {N M : Type 0} → Thing N M → ℕ
size (An_object class regions fields) = length fields
size (An_array region len element) = len

-- an entry of a method is the look at its receiver, and one of a constructor a second step of the creation
abbrev pub own_steps : {N M : Type 0} → Own N M → ℕ
own_steps Rest = 0
own_steps (Read n i) = 1
own_steps (Write n i v) = 1
own_steps (Look n) = 1
own_steps (New t false) = 1
own_steps (New t true) = 2
own_steps (Print bytes) = 1
own_steps (Enter effects) = 1
own_steps Exit = 1

-- an object or an array one and its size, a printed line its bytes
abbrev pub own_cells : {N M : Type 0} → Own N M → ℕ
own_cells (New t c) = suc (size t)
own_cells (Print bytes) = length bytes
own_cells Rest = 0
own_cells (Read n i) = 0
own_cells (Write n i v) = 0
own_cells (Look n) = 0
own_cells (Enter effects) = 0
own_cells Exit = 0
