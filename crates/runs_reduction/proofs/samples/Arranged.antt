-- A run that only gathering and moving at once make such that blocks and constructs both stand together.
use Rattle.std.proofs.Common.{◌≡◌, true, false, true≢false, List, [], ◌∷◌, refl, sym, ap, Some, slice_get}
use Rattle.runs_theory.specs.Actions.{Assigned, Deterministic, Nondeterministic, Program, Rest, Returned}
use Rattle.runs_theory.specs.Blocks.{Legal}
use Rattle.runs_theory.specs.Objects.{Path}
use Rattle.runs_theory.specs.Runs.{Run, last_written, mine, things}
use Rattle.runs_theory.specs.Standing.{above, first_of}
use Rattle.runs_reduction.specs.Gathered.{gather}
use Rattle.runs_reduction.specs.Guarded.{ConflictsGuarded, LevelsGuarded}
use Rattle.runs_reduction.specs.Insertion.{rearranged}
use Rattle.runs_reduction.specs.Moved.{inner, move}
use Rattle.runs_reduction.specs.Samples.{ArrangingApplies}
use Rattle.runs_theory.proofs.runs.Written.{legal_from}
use Rattle.runs_theory.proofs.samples.Scripts.{int, does, forks, Body, task, scripted, script_disciplined, script_in_turn}
use Rattle.runs_theory.proofs.samples.Play.{run_of, play, played}
use Rattle.runs_theory.proofs.samples.Tests.{script_known}
use Rattle.runs_reduction.proofs.samples.Samples.{block_of_writes, is_path, other_region, pa, pb, pc}
use Rattle.runs_reduction.proofs.samples.Tests.{conflicts_guarded, levels_guarded}

-- the branches of a deterministic construct in the first branch
abbrev p4 : Path
p4 = (0, 0) ∷ pa

abbrev p5 : Path
p5 = (0, 1) ∷ pa

abbrev rests : Body
rests = record { items = does 0 Rest ∷ []; ending = Assigned [] }

abbrev bodies : List Body
bodies =
    record { items = forks 0 (record { kind = Nondeterministic; tasks = task 1 ∷ task 2 ∷ task 3 ∷ [] }) ∷ []; ending = Returned (int 0) }
    ∷ record { items = forks 0 (record { kind = Deterministic; tasks = task 4 ∷ task 5 ∷ [] }) ∷ []; ending = Assigned [] }
    ∷ record { items = block_of_writes 1 0; ending = Assigned [] }
    ∷ rests
    ∷ rests
    ∷ rests
    ∷ []

abbrev program : Program
program = scripted bodies (int 0 ∷ []) other_region

-- the later branch of the construct goes first, in the second branch's block, and so does the third branch
abbrev schedule : List Path
schedule =
    [] ∷ [] ∷ pa ∷ pa ∷ pc ∷ pb ∷ pb ∷ pb ∷ pc ∷ p5 ∷ p4 ∷ p4 ∷ p5 ∷ pb ∷ pb ∷ pa ∷ pa ∷ pa ∷ [] ∷ [] ∷ [] ∷ [] ∷ []

abbrev run : Run
run = run_of (play program schedule)

run_played : play program schedule ≡ Some run
unfolding mine last_written things above first_of
run_played = refl

legal : Legal program run
legal = legal_from program (script_disciplined bodies (int 0 ∷ []) other_region) run (played program schedule run run_played)

guarded : ConflictsGuarded other_region run
unfolding mine last_written things above first_of
guarded = conflicts_guarded other_region run refl

levels : LevelsGuarded other_region (gather run)
unfolding mine last_written things above first_of inner rearranged
levels = levels_guarded other_region (gather run) refl

not_gathered_alone : move (gather run) ≡ gather run → ⊥
unfolding mine last_written things above first_of inner rearranged
not_gathered_alone e = let k : false ≡ true = ap (λ R. is_path pb (slice_get R 12)) e in true≢false (sym k)

not_moved_alone : move (gather run) ≡ move run → ⊥
unfolding mine last_written things above first_of inner rearranged
not_moved_alone e = let k : false ≡ true = ap (λ R. is_path pc (slice_get R 8)) e in true≢false (sym k)

pub arranging_applies : ArrangingApplies
arranging_applies = (
  program,
  script_disciplined bodies (int 0 ∷ []) other_region,
  script_in_turn bodies (int 0 ∷ []) other_region,
  script_known bodies (int 0 ∷ []) other_region refl,
  run,
  legal,
  guarded,
  levels,
  not_gathered_alone,
  not_moved_alone,
)
