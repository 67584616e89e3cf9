-- Some steps of the walk.
use Rattle.std.specs.Prelude.{◌<◌, ℕ, map, Option, Some, None, Result, Ok, Err}
use Rattle.lang_typed.specs.Plain.{PlainProgram}
use Rattle.lang_meaning.specs.Elision.{Store as Elided}
use Rattle.exec_walker.specs.Walk.{At, walk}
use Rattle.exec_walker.specs.declared.halt.Halt.{Halt}
use Rattle.exec_walker.specs.Stores.{Holds}
use Rattle.exec_walker.specs.declared.walker.Over.{Over}
use Rattle.exec_walker.specs.declared.walker.Walker.{Walker}
use Rattle.exec_walker.specs.States.{ComesTo, plain_level, plain_waiting}
use Rattle.lang_base.specs.declared.outcome.Limits.{Limits}

-- the store is that of some walk
abbrev pub IsHolding : Walker → Type 0
IsHolding k = (L : Limits) × (w : Elided) × Holds L k.store w

-- so many steps lead there
abbrev pub Walks : PlainProgram → Walker → Result (Option Over) Halt → Walker → Type 0
Walks P old r new =
    (L : Limits) (w : Elided) → Holds L old.store w → (n : ℕ) × ComesTo L r new (walk P n (At (plain_level old.level) (map plain_waiting old.waiting) w))

-- and cost something, where the walk goes on
abbrev pub CostsMore : Walker → Result (Option Over) Halt → Walker → Type 0
CostsMore old (Ok None) new = old.store.steps < new.store.steps
CostsMore old (Ok (Some x)) new = Unit {0}
CostsMore old (Err h) new = Unit {0}
