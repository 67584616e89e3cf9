-- A local region that a task made before a block isn't one made inside it.
use Rattle.std.specs.Prelude.{◌≡◌, ℕ, pos, List, [], ◌∷◌}
use Rattle.lang_base.specs.declared.elems.Elem.{Elem}
use Rattle.lang_typed.specs.Plain.{PlainProgram, TypedStmts, no_stmts, more_stmts}
use Rattle.lang_typed.specs.Plain.{StmtForm as form}
use Rattle.lang_typed.specs.Samples.{does, main_member, program_of, then_zero}
use Rattle.lang_meaning.specs.Asking.{ask}
use Rattle.lang_meaning.specs.Elision.{root_task}
use Rattle.runs_program.specs.Steps.{first_name, named_by}
use Rattle.runs_sound.specs.Counting.{regions_made}
use Rattle.runs_sound.specs.Settings.{elems_of}
use Rattle.runs_sound.specs.Soundness.{InBlockRegion}
use Rattle.runs_theory.specs.Actions.{Answer, Do, Enter, Next, Rest, Task, Went}
use Rattle.runs_theory.specs.Objects.{Local, Made}
use Rattle.runs_theory.specs.Runs.{Run}

-- `region r; atomic { region s; } return 0;`
abbrev pub two_regions : TypedStmts
two_regions =
    more_stmts (does (form.local_regions (0 ∷ [])))
    (more_stmts (does (form.atomic [] (more_stmts (does (form.local_regions (1 ∷ []))) no_stmts))) then_zero)

abbrev pub makes_two : PlainProgram
makes_two = record (program_of [] [] 2 two_regions) { members = record (main_member 2 two_regions) { local_regions = 2 } ∷ [] }

abbrev pub root : Task
root = root_task (named_by []) makes_two first_name (pos 0)

-- its first events, the latest first: after a tick a rest, and the entry
abbrev pub entered : Run
entered = record { path = []; ticks = 0; act = Do (Enter []); ans = Went } ∷ record { path = []; ticks = 1; act = Do Rest; ans = Went } ∷ []

abbrev pub made_by_root : List Answer → ℕ
made_by_root got = regions_made (named_by []) makes_two root got

abbrev pub region_of_root : ℕ → List Elem
region_of_root n = elems_of (Local (Made [] n) ∷ [])

-- the root enters a block there, and the region that it made before isn't made inside, but the next one is
abbrev pub OnlyLaterAreInside : Type 0
OnlyLaterAreInside =
    (ask (named_by []) makes_two root [] ≡ Next 1 (Do Rest)) × (ask (named_by []) makes_two root (Went ∷ []) ≡ Next 0 (Do (Enter [])))
    × (InBlockRegion made_by_root entered [] (region_of_root 0) → ⊥) × InBlockRegion made_by_root entered [] (region_of_root 1)
