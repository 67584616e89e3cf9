-- The runs of the sample.
use Rattle.std.proofs.Common.{◌≡◌, ◌≢◌, ℕ, pos, zero, suc, Bool, true, false, true≢false, List, [], ◌∷◌, refl, sym, ap, arith, Option, Some, None, slice_get}
use Rattle.std.specs.Fmt.{digits}
use Rattle.lang_typed.specs.WellTyped.{WellTyped}
use Rattle.lang_meaning.specs.Asking.{ask, meaning, most_ticks}
use Rattle.lang_meaning.specs.Elision.{elided, ran_through}
use Rattle.lang_meaning.specs.Values.{Int}
use Rattle.runs_reduction.specs.Gathered.{gather}
use Rattle.runs_reduction.specs.Guarded.{InBlock}
use Rattle.runs_reduction.specs.Insertion.{rearranged}
use Rattle.runs_reduction.specs.Laws.{IsGathered}
use Rattle.runs_reduction.proofs.samples.Tests.{upto_without, without}
use Rattle.runs_theory.specs.Actions.{Answer, Do, Got, Out, Program, Read, Returned, Went, Write}
use Rattle.runs_theory.specs.Blocks.{Legal}
use Rattle.runs_theory.specs.Meaning.{Disciplined}
use Rattle.runs_theory.specs.Objects.{Name, Path, same_path}
use Rattle.runs_theory.specs.Order.{write_read}
use Rattle.runs_theory.specs.Runs.{Ended, Event, Run, Upto, last_written, mine, things, total}
use Rattle.runs_theory.specs.Standing.{above, first_of}
use Rattle.runs_theory.proofs.samples.Play.{has_ended_with, play, played, run_of}
use Rattle.runs_theory.proofs.runs.Written.{legal_from}
use Rattle.runs_sound.specs.Laws.{main_bounds}
use Rattle.runs_sound.specs.Soundness.{IsSound}
use Rattle.runs_program.specs.Steps.{stepped}
use Rattle.trial_samples.specs.Laws.{ConflictInBlocks, SampleIsElided, SampleRuns}
use Rattle.trial_samples.specs.Sample.{sample}

pub is_elided : SampleIsElided
unfolding elided ran_through meaning digits
is_elided = refl

-- a branch of a task, by the number of the event that forked it
abbrev fork : ℕ → ℕ → Path → Path
fork k b p = (k, b) ∷ p

-- so many events of one task, after others; the latest stands first
abbrev go : ℕ → Path → List Path → List Path
go zero p ps = ps
go (suc n) p ps = p ∷ go n p ps

abbrev schedule : List Path
schedule =
    go 8 [] (go 6 (fork 37 0 []) (go 6 (fork 37 1 []) (go 4 [] (go 9 (fork 33 1 []) (go 8 (fork 33 0 []) (go 2 (fork 33 1 []) (go 3 (fork 33 0 []) (go 7 []
    (go 2 (fork 26 0 []) (go 2 (fork 26 1 []) (go 3 (fork 1 0 (fork 26 1 [])) (go 3 (fork 1 0 (fork 26 0 [])) (go 3 (fork 26 1 []) (go 3 (fork 26 0 [])
    (go 6 [] (go 2 (fork 20 0 []) (go 2 (fork 20 1 []) (go 4 [] (go 2 (fork 16 0 []) (go 2 (fork 16 1 []) (go 19 [] [])))))))))))))))))))))

abbrev pub P : Program
P = stepped sample (pos 2)

abbrev pub a_run : Run
a_run = run_of (play P schedule)

is_played : play P schedule ≡ Some a_run
unfolding ask meaning most_ticks digits mine last_written things above first_of total
is_played = refl

legal : Disciplined P → Legal P a_run
legal D = legal_from P D a_run (played P schedule a_run is_played)

has_ended : Ended a_run [] (Returned (Int (pos 4)))
unfolding ask meaning most_ticks digits mine last_written things above first_of total
has_ended = has_ended_with a_run [] (Returned (Int (pos 4))) refl

-- in its block the first branch writes the count, and then the second one reads it in its own
abbrev counter : Name
counter = record { maker = []; count = 6 }

abbrev first_writes : Event
first_writes = record { path = fork 33 0 []; ticks = 0; act = Do (Write counter (pos 0) (Int (pos 1))); ans = Went }

abbrev second_reads : Event
second_reads = record { path = fork 33 1 []; ticks = 0; act = Do (Read counter (pos 0)); ans = Got (Int (pos 1)) }

second_stands : Upto (second_reads ∷ without 29 a_run) a_run
unfolding ask meaning most_ticks digits mine last_written things above first_of total
second_stands = upto_without 28 a_run

first_stands : Upto (first_writes ∷ without 36 a_run) (without 29 a_run)
unfolding ask meaning most_ticks digits mine last_written things above first_of total
first_stands = upto_without 6 (without 29 a_run)

first_inside : InBlock (without 36 a_run) (fork 33 0 [])
unfolding ask meaning most_ticks digits mine last_written things above first_of total
first_inside = record { opener = fork 33 0 []; effects = _; stands = refl }

second_inside : InBlock (without 29 a_run) (fork 33 1 [])
unfolding ask meaning most_ticks digits mine last_written things above first_of total
second_inside = record { opener = fork 33 1 []; effects = _; stands = refl }

conflict : ConflictInBlocks a_run
conflict = record {
  after = without 29 a_run;
  later_one = second_reads;
  before = without 36 a_run;
  earlier = first_writes;
  stands = second_stands;
  under = first_stands;
  unordered = record {
    below_p = [];
    below_q = [];
    above = [];
    u = (33, 0);
    v = (33, 1);
    one_fork = refl;
    apart = λ e. (omega arith);
    p_is = refl;
    q_is = refl;
  };
  conflict = write_read (record { object = counter; slot = 0 }) (record { value = Int (pos 1); act = refl; in_bounds = went_in }) (record { act = refl; in_bounds = got_in });
  former = first_inside;
  latter = second_inside;
}
  where
    went_in : ◌≢◌ {A = Answer} Went Out
    went_in e = cc

    got_in : ◌≢◌ {A = Answer} (Got (Int (pos 1))) Out
    got_in e = cc

-- what stands between the events of the first branch's block comes behind it
abbrev is_path : Path → Option Event → Bool
is_path p None = false
is_path p (Some e) = same_path e.path p

gather_changes : gather a_run ≡ a_run → ⊥
unfolding ask meaning most_ticks digits mine last_written things above first_of total rearranged
gather_changes e = let k : false ≡ true = ap (λ R. is_path (fork 33 1 []) (slice_get R 42)) e in true≢false (sym k)

-- with what the laws say of every legal run
pub whole_run : Disciplined P → (Legal P a_run → (wt : WellTyped sample) → IsSound sample P (main_bounds sample wt) a_run) → (Legal P a_run → IsGathered P a_run) → SampleRuns
whole_run D sound gathered = record {
  run = a_run;
  legal = legal D;
  ended = has_ended;
  conflict = conflict;
  sound = sound (legal D);
  gathered = gathered (legal D);
  changed = gather_changes;
}
