-- How a walk comes out.
use Rattle.std.specs.Prelude.{◌≡◌, ℕ, suc, ℤ, [], None, Result, Ok, Err}
use Rattle.lang_base.specs.declared.outcome.Ending.TheVariants as came
use Rattle.lang_base.specs.declared.outcome.Limits.{Limits}
use Rattle.lang_base.specs.declared.outcome.Outcome.{Outcome}
use Rattle.lang_typed.specs.Plain.{PlainProgram}
use Rattle.lang_meaning.specs.Actions.{Ending}
use Rattle.lang_meaning.specs.Elision.{Store, elided}
use Rattle.lang_meaning.specs.Outcomes.{Limited}
use Rattle.exec_walker.specs.Walk.{start}
use Rattle.exec_walker.specs.declared.halt.Halt.{Halt}
use Rattle.exec_walker.specs.declared.halt.Halt.TheVariants as halt
use Rattle.exec_walker.specs.declared.walker.Walker.{Walker}
use Rattle.exec_walker.specs.States.{StandsAt, IsOverAt}
use Rattle.lang_meaning.specs.Reported.{reported}

-- the outcome of the serial elision
abbrev pub IsElided : PlainProgram → ℤ → Limits → Outcome → Type 0
IsElided P argument L o = o ≡ reported (elided P argument L)

-- the same, where it was not limited
abbrev pub Walked : PlainProgram → ℤ → Limits → Result Outcome Halt → Type 0
Walked P argument L (Ok o) = IsElided P argument L o
Walked P argument L (Err halt.Limited) = elided P argument L ≡ Limited L.steps L.cells
Walked P argument L (Err halt.NoMemory) = Unit {0}

-- a store in which nothing was made, with so many ticks
abbrev pub nothing : ℕ → Store
nothing n = record { heap = []; regions = 0; output = []; trap = None; steps = 0; cells = 0; ticks = n }

-- the walker stands at the start of the walk
abbrev pub Begun : PlainProgram → ℤ → Limits → Result Walker Halt → Type 0
Begun P argument L (Ok k) = StandsAt L k (start P argument (suc L.steps))
Begun P argument L (Err halt.Limited) = IsOverAt L (start P argument (suc L.steps))
Begun P argument L (Err halt.NoMemory) = Unit {0}
