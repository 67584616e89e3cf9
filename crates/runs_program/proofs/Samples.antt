-- The sample runs, by playing them.
use Rattle.std.proofs.Common.{◌≡◌, ℕ, ℤ, pos, List, [], ◌∷◌, refl, sym, ap, ◌∙◌, arith, Some}
use Rattle.std.specs.Fmt.{digits}
use Rattle.lang_typed.specs.Plain.{PlainProgram}
use Rattle.lang_meaning.specs.Asking.{ask, meaning}
use Rattle.lang_meaning.specs.Samples.{divides, fills_and_reads}
use Rattle.lang_meaning.specs.Outcomes.{Came, Limited}
use Rattle.lang_meaning.specs.Values.{Int}
use Rattle.runs_theory.specs.Actions.{Program, Returned}
use Rattle.runs_theory.specs.Blocks.{Legal}
use Rattle.runs_theory.specs.Objects.{Path}
use Rattle.runs_theory.specs.Order.{Outcome}
use Rattle.runs_theory.specs.Runs.{Ended, Run, cells_of, last_written, mine, steps_of, things, total}
use Rattle.runs_theory.specs.Schedules.{Limits, Within, ended}
use Rattle.runs_theory.specs.Standing.{above, first_of}
use Rattle.runs_theory.proofs.samples.Play.{run_of, play, played, has_ended_with}
use Rattle.runs_theory.proofs.runs.Written.{legal_from}
use Rattle.runs_theory.proofs.runs.Schedules.{recorded}
use Rattle.runs_theory.proofs.Theorems.{each_comes_out}
use Rattle.runs_program.specs.Samples.{DividesRuns, FillsRun, SchedulesNeedFree, races}
use Rattle.runs_program.specs.Steps.{stepped}
use Rattle.runs_program.proofs.Steps.{each_keeps}

legal_play : (P : PlainProgram) (arg : ℤ) (ps : List Path) (R : Run) → play (stepped P arg) ps ≡ Some R → Legal (stepped P arg) R
legal_play P arg ps R e = legal_from (stepped P arg) (each_keeps P arg).disciplined R (played (stepped P arg) ps R e)

-- a branch of the root's first fork, and of its second event
abbrev first_fork : ℕ → Path
first_fork b = (0, b) ∷ []

abbrev after_new : ℕ → Path
after_new b = (1, b) ∷ []

-- whose turn it is, the latest first
abbrev trapping : List Path
trapping = [] ∷ [] ∷ first_fork 0 ∷ first_fork 1 ∷ first_fork 1 ∷ [] ∷ [] ∷ [] ∷ []

abbrev printing : List Path
printing = [] ∷ [] ∷ first_fork 0 ∷ first_fork 0 ∷ first_fork 1 ∷ first_fork 1 ∷ [] ∷ [] ∷ [] ∷ []

abbrev filling : List Path
filling = [] ∷ [] ∷ [] ∷ after_new 0 ∷ after_new 0 ∷ after_new 1 ∷ after_new 1 ∷ after_new 2 ∷ after_new 2 ∷ [] ∷ [] ∷ [] ∷ [] ∷ [] ∷ []

pub divides_runs : DividesRuns
unfolding ask meaning digits mine last_written things above first_of total
divides_runs = record {
  traps = record {
    run = run_of (play (stepped divides (pos 0)) trapping);
    legal = legal_play divides (pos 0) trapping _ refl;
    ended = has_ended_with _ [] _ refl;
    steps_are = refl;
    cells_are = refl;
  };
  prints = record {
    run = run_of (play (stepped divides (pos 1)) printing);
    legal = legal_play divides (pos 1) printing _ refl;
    ended = has_ended_with _ [] _ refl;
    steps_are = refl;
    cells_are = refl;
  };
}

pub fills_run : FillsRun
unfolding ask meaning digits mine last_written things above first_of total
fills_run = record {
  run = run_of (play (stepped fills_and_reads (pos 3)) filling);
  legal = legal_play fills_and_reads (pos 3) filling _ refl;
  ended = has_ended_with _ [] _ refl;
  steps_are = refl;
  cells_are = refl;
}

abbrev race : Program
race = stepped races (pos 0)

-- the second branch writes last, or the first one does
abbrev second_last : List Path
second_last = [] ∷ [] ∷ [] ∷ first_fork 1 ∷ first_fork 1 ∷ first_fork 0 ∷ first_fork 0 ∷ [] ∷ [] ∷ [] ∷ []

abbrev first_last : List Path
first_last = [] ∷ [] ∷ [] ∷ [] ∷ first_fork 0 ∷ first_fork 0 ∷ first_fork 1 ∷ first_fork 1 ∷ [] ∷ [] ∷ [] ∷ []

abbrev without_print : Run
without_print = run_of (play race second_last)

abbrev with_print : Run
with_print = run_of (play race first_last)

without_played : play race second_last ≡ Some without_print
unfolding ask meaning digits mine last_written things above first_of total
without_played = refl

with_played : play race first_last ≡ Some with_print
unfolding ask meaning digits mine last_written things above first_of total
with_played = refl

without_ended : Ended without_print [] (Returned (Int (pos 0)))
unfolding ask meaning digits mine last_written things above first_of total
without_ended = has_ended_with without_print [] (Returned (Int (pos 0))) refl

with_ended : Ended with_print [] (Returned (Int (pos 0)))
unfolding ask meaning digits mine last_written things above first_of total
with_ended = has_ended_with with_print [] (Returned (Int (pos 0))) refl

without_costs : (steps_of without_print ≡ 8) × (cells_of race without_print ≡ 3)
unfolding ask meaning digits mine last_written things above first_of total
without_costs = (refl, refl)

with_costs : (steps_of with_print ≡ 9) × (cells_of race with_print ≡ 5)
unfolding ask meaning digits mine last_written things above first_of total
with_costs = (refl, refl)

abbrev steps_in : Outcome → ℕ
steps_in (Came x out steps cells) = steps
steps_in (Limited steps cells) = steps

pub schedules_need_free : SchedulesNeedFree
schedules_need_free =
    let L : Limits = record { steps = 100; cells = 100 } in
    let l = legal_play races (pos 0) second_last without_print without_played in
    let m = legal_play races (pos 0) first_last with_print with_played in
    let v : Within race L without_print = record { steps = (let n = without_costs.0 in omega arith); cells = (let n = without_costs.1 in omega arith) } in
    let w : Within race L with_print = record { steps = (let n = with_costs.0 in omega arith); cells = (let n = with_costs.1 in omega arith) } in
    let r = recorded race L without_print l v in
    let s = recorded race L with_print m w in
    let c = each_comes_out race without_print (Returned (Int (pos 0))) l without_ended in
    let d = each_comes_out race with_print (Returned (Int (pos 0))) m with_ended in (
      L,
      r.0,
      s.0,
      c.0,
      d.0,
      ended without_print r.1 c.1,
      ended with_print s.1 d.1,
      (λ e. (let i = sym (ap steps_in c.1.outcome) ∙ ap steps_in e ∙ ap steps_in d.1.outcome in let j = without_costs.0 in let k = with_costs.0 in absurd (omega arith))),
    )
