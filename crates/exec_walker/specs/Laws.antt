-- What the end of a walk says of the elision.
use Rattle.std.specs.Prelude.{◌≡◌, ◌<◌, ◌⊎◌, ℕ, suc, ℤ, List}
use Rattle.lang_typed.specs.Plain.{PlainProgram}
use Rattle.lang_meaning.specs.Actions.{Ending}
use Rattle.lang_meaning.specs.Core.{Out as out}
use Rattle.lang_meaning.specs.Elision.{LocalRegion, Store, elided, judged}
use Rattle.lang_meaning.specs.Outcomes.{Limited}
use Rattle.exec_walker.specs.Walk.{Level, Waiting, At, Off, walk, start}
use Rattle.lang_base.specs.declared.outcome.Limits.{Limits}

-- a walk ends as the elision does
abbrev pub EndsAsElision : Type 0
EndsAsElision = (P : PlainProgram) (arg : ℤ) (L : Limits) (n : ℕ) (o : out ℕ LocalRegion (Ending ℕ) Store)
    → walk P n (start P arg (suc L.steps)) ≡ Off o → elided P arg L ≡ judged L o

-- costs never fall: where a walk is over a limit, the elision is
abbrev pub StaysOver : Type 0
StaysOver = (P : PlainProgram) (arg : ℤ) (L : Limits) (n : ℕ) (g : Level) (ws : List Waiting) (w : Store)
    → walk P n (start P arg (suc L.steps)) ≡ At g ws w → (L.steps < w.steps) ⊎ (L.cells < w.cells) → elided P arg L ≡ Limited L.steps L.cells
