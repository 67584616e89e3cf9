-- The samples.
use Rattle.std.proofs.Common.{◌≡◌, ◌≢◌, ℕ, pos, Bool, true, false, true≢false, not, ◌||◌, ◌==◌, List, [], ◌∷◌}
use Rattle.std.proofs.Common.{refl, sym, ap, ◌∙◌, subst, arith, Option, Some, None, slice_get}
use Rattle.lang_base.specs.declared.effect.Access.TheVariants as access
use Rattle.runs_theory.specs.Actions.{Answer, Assigned, Branches, Deterministic, Do, Enter, Exit, Got, Length, Look, New, Nondeterministic, Out, Program, Read}
use Rattle.lang_base.specs.declared.effect.Access.TheVariants as access
use Rattle.runs_theory.specs.Actions.{Rest, Returned, Rule, Went, Write}
use Rattle.runs_theory.specs.Blocks.{Legal, leaving_locals, without_locals}
use Rattle.runs_theory.specs.Meaning.{Disciplined, Known}
use Rattle.runs_theory.specs.Objects.{An_array, Any_parts, Effect, Int, Local, Made, Name, Part, Path, Region_name, Value, same_path}
use Rattle.runs_theory.specs.Order.{write_write}
use Rattle.runs_theory.specs.Runs.{Ended, Event, Run, Upto, last_written, mine, reply, things}
use Rattle.runs_theory.specs.Standing.{Inside, Outside, Valid, above, first_of, standing}
use Rattle.runs_reduction.specs.Gathered.{gather}
use Rattle.runs_reduction.specs.Guarded.{ConflictsGuarded, LevelsGuarded}
use Rattle.runs_reduction.specs.Insertion.{All_of, Branch_of, rearranged}
use Rattle.runs_reduction.specs.Laws.{Weaker}
use Rattle.runs_reduction.specs.Moved.{inner, move}
use Rattle.runs_reduction.specs.Samples.{BothApply, GatheringNeedsGuarded, GatheringNeedsKnown, MovingNeedsWeaker, SomeConflict}
use Rattle.runs_reduction.specs.Guarded.{ConflictsGuarded, LevelsGuarded}
use Rattle.runs_reduction.specs.Insertion.{All_of, Branch_of, rearranged}
use Rattle.runs_reduction.specs.Guarded.{ConflictsGuarded, LevelsGuarded}
use Rattle.runs_theory.proofs.runs.Written.{legal_from, valid_from}
use Rattle.runs_theory.proofs.samples.Scripts.{main, int, Item, does, forks, Body, task, scripted, script_disciplined}
use Rattle.runs_theory.proofs.samples.Play.{run_of, play, played, has_ended_with}
use Rattle.runs_theory.proofs.samples.Tests.{script_known}
use Rattle.runs_reduction.proofs.shifts.Insertion.{valid_upto}
use Rattle.runs_reduction.proofs.samples.Tests.{conflicts_guarded, levels_guarded, without, upto_without}

abbrev pub writes_to : ℕ → List Effect
writes_to n = record { access = access.Write; region = Region_name n ∷ [] } ∷ []

-- the rule lets a block by where it writes to another region
abbrev region_name : Part → ℕ
region_name (Region_name n) = n
region_name p = 0

abbrev name_of : List Effect → ℕ
name_of [] = 0
name_of (E ∷ Es) = elim E.region [ [] ↦ 0 | p ∷ ps ↦ region_name p ]

abbrev pub other_region : Rule
other_region F E = not (name_of F == name_of E)

abbrev pub pa : Path
pa = (0, 0) ∷ []

abbrev pub pb : Path
pb = (0, 1) ∷ []

abbrev pub pc : Path
pc = (0, 2) ∷ []

-- in the first branch's block, a branch of a deterministic construct
abbrev pd : Path
pd = (2, 0) ∷ pa

abbrev pub block_of_writes : ℕ → ℕ → List Item
block_of_writes region field = does 0 Rest ∷ does 0 (Enter (writes_to region)) ∷ does 0 (Write main (pos field) (int 1)) ∷ does 0 Exit ∷ []

abbrev bodies : List Body
bodies =
    record { items = forks 0 (record { kind = Nondeterministic; tasks = task 1 ∷ task 2 ∷ task 3 ∷ [] }) ∷ []; ending = Returned (int 0) }
    ∷ record {
      items = does 0 Rest ∷ does 0 (Enter (writes_to 1)) ∷ forks 0 (record { kind = Deterministic; tasks = task 4 ∷ [] }) ∷ does 0 Exit ∷ [];
      ending = Assigned [];
    }
    ∷ record { items = block_of_writes 1 0; ending = Assigned [] }
    ∷ record { items = block_of_writes 2 1; ending = Assigned [] }
    ∷ record { items = does 0 (Write main (pos 0) (int 2)) ∷ []; ending = Assigned [] }
    ∷ []

abbrev fields : List Value
fields = int 0 ∷ int 0 ∷ []

abbrev nested : Program
nested = scripted bodies fields other_region

-- the first block, with the third in between, and then the second
abbrev schedule : List Path
schedule =
    [] ∷ [] ∷ pc ∷ pb ∷ pa ∷ pb ∷ pb ∷ pb ∷ pa ∷ pa ∷ pc ∷ pd ∷ pb ∷ pc ∷ pd ∷ pa ∷ pc ∷ pa ∷ pc ∷ pa ∷ pa ∷ [] ∷ [] ∷ [] ∷ [] ∷ []

abbrev run : Run
run = run_of (play nested schedule)

run_played : play nested schedule ≡ Some run
unfolding mine last_written things above first_of
run_played = refl

disciplined : Disciplined nested
disciplined = script_disciplined bodies fields other_region

known : Known nested
known = script_known bodies fields other_region refl

legal : Legal nested run
legal = legal_from nested disciplined run (played nested schedule run run_played)

root_ended : Ended run [] (Returned (int 0))
unfolding mine last_written things above first_of
root_ended = has_ended_with run [] (Returned (int 0)) refl

guarded : ConflictsGuarded other_region run
unfolding mine last_written things above first_of
guarded = conflicts_guarded other_region run refl

levels : LevelsGuarded other_region run
unfolding mine last_written things above first_of inner
levels = levels_guarded other_region run refl

abbrev d_writes : Event
d_writes = record { path = pd; ticks = 0; act = Do (Write main (pos 0) (int 2)); ans = Went }

abbrev b_writes : Event
b_writes = record { path = pb; ticks = 0; act = Do (Write main (pos 0) (int 1)); ans = Went }

b_stands : Upto (b_writes ∷ without 7 run) run
unfolding mine last_written things above first_of
b_stands = upto_without 6 run

d_stands : Upto (d_writes ∷ without 15 run) (without 7 run)
unfolding mine last_written things above first_of
d_stands = upto_without 7 (without 7 run)

two_levels : inner (without 15 run) pd ≡ inner (without 7 run) pb → ⊥
unfolding mine last_written things above first_of inner
two_levels e = let z : Branch_of (2, 0) pa ≡ All_of [] = e in cc

went_in : ◌≢◌ {A = Answer} Went Out
went_in e = cc

some_conflict : SomeConflict run
some_conflict = record {
  after = without 7 run;
  later_one = b_writes;
  before = without 15 run;
  earlier = d_writes;
  stands = b_stands;
  under = d_stands;
  unordered = record {
    below_p = (2, 0) ∷ [];
    below_q = [];
    above = [];
    u = (0, 0);
    v = (0, 1);
    one_fork = refl;
    apart = λ e. (omega arith);
    p_is = refl;
    q_is = refl;
  };
  conflict = write_write (record { object = main; slot = 0 }) (record { value = int 2; act = refl; in_bounds = went_in })
      (record { value = int 1; act = refl; in_bounds = went_in });
  levels = two_levels;
}

abbrev pub is_path : Path → Option Event → Bool
is_path p None = false
is_path p (Some e) = same_path e.path p

gather_changes : gather run ≡ run → ⊥
unfolding mine last_written things above first_of rearranged
gather_changes e = let k : false ≡ true = ap (λ R. is_path pc (slice_get R 18)) e in true≢false (sym k)

move_changes : move run ≡ run → ⊥
unfolding mine last_written things above first_of inner rearranged
move_changes e = let k : false ≡ true = ap (λ R. is_path pc (slice_get R 16)) e in true≢false (sym k)

pub both_apply : BothApply
both_apply = (nested, disciplined, known, run, legal, (Returned (int 0), root_ended), guarded, levels, some_conflict, gather_changes, move_changes)

-- One branch reads inside a block what another writes outside all
abbrev two : Branches
two = record { kind = Nondeterministic; tasks = task 1 ∷ task 2 ∷ [] }

abbrev open_bodies : List Body
open_bodies =
    record { items = forks 0 two ∷ []; ending = Returned (int 0) }
    ∷ record { items = does 0 (Enter (writes_to 1)) ∷ does 0 (Read main (pos 0)) ∷ does 0 Exit ∷ []; ending = Assigned [] }
    ∷ record { items = does 0 (Write main (pos 0) (int 7)) ∷ []; ending = Assigned [] }
    ∷ []

abbrev unguarded : Program
unguarded = scripted open_bodies fields other_region

abbrev in_between : List Path
in_between = pa ∷ pb ∷ pa ∷ [] ∷ [] ∷ [] ∷ []

abbrev open_run : Run
open_run = run_of (play unguarded in_between)

open_played : play unguarded in_between ≡ Some open_run
unfolding mine last_written things above first_of
open_played = refl

abbrev reads_seven : Event
reads_seven = record { path = pa; ticks = 0; act = Do (Read main (pos 0)); ans = Got (int 7) }

abbrev entered_run : Run
entered_run = without 2 open_run

moved_before : without 1 (gather open_run) ≡ reads_seven ∷ entered_run
unfolding mine last_written things above first_of rearranged
moved_before = refl

reads_nothing : reply unguarded entered_run pa (Read main (pos 0)) ≡ Some (Got (int 0))
unfolding mine last_written things above first_of
reads_nothing = refl

abbrev is_seven : Option Answer → Bool
is_seven (Some (Got (Int (pos n)))) = n == 7
is_seven a = false

not_gathered : Legal unguarded (gather open_run) → ⊥
not_gathered l =
    let v = valid_upto unguarded (upto_without 1 (gather open_run)) (valid_from unguarded (gather open_run) l) in
    let w = subst (λ R. Valid unguarded R) moved_before v in
    let a = w.0.follows in
    let r : reply unguarded entered_run pa (Read main (pos 0)) ≡ Some (Got (int 7)) = a.right in
    let k : true ≡ false = ap is_seven (sym r ∙ reads_nothing) in
    true≢false k

pub gathering_needs_guarded : GatheringNeedsGuarded
gathering_needs_guarded =
    let D = script_disciplined open_bodies fields other_region in (
      unguarded,
      D,
      script_known open_bodies fields other_region refl,
      open_run,
      legal_from unguarded D open_run (played unguarded in_between open_run open_played),
      not_gathered,
    )

-- One branch looks inside a block at what another makes
abbrev made_by_b : Name
made_by_b = record { maker = pb; count = 0 }

abbrev forging_bodies : List Body
forging_bodies =
    record { items = forks 0 two ∷ []; ending = Returned (int 0) }
    ∷ record { items = does 0 (Enter (writes_to 1)) ∷ does 0 (Look made_by_b) ∷ does 0 Exit ∷ []; ending = Assigned [] }
    ∷ record { items = does 0 (New (An_array [] 1 (int 0)) false) ∷ []; ending = Assigned [] }
    ∷ []

abbrev forging : Program
forging = scripted forging_bodies fields other_region

abbrev forged_run : Run
forged_run = run_of (play forging in_between)

forged_played : play forging in_between ≡ Some forged_run
unfolding mine last_written things above first_of
forged_played = refl

forged_guarded : ConflictsGuarded other_region forged_run
unfolding mine last_written things above first_of
forged_guarded = conflicts_guarded other_region forged_run refl

abbrev looks : Event
looks = record { path = pa; ticks = 0; act = Do (Look made_by_b); ans = Length 1 }

abbrev before_new : Run
before_new = without 2 forged_run

looks_before : without 1 (gather forged_run) ≡ looks ∷ before_new
unfolding mine last_written things above first_of rearranged
looks_before = refl

nothing_there : reply forging before_new pa (Look made_by_b) ≡ None
unfolding mine last_written things above first_of
nothing_there = refl

forged_not_gathered : Legal forging (gather forged_run) → ⊥
forged_not_gathered l =
    let v = valid_upto forging (upto_without 1 (gather forged_run)) (valid_from forging (gather forged_run) l) in
    let w = subst (λ R. Valid forging R) looks_before v in
    let a = w.0.follows in
    let r : reply forging before_new pa (Look made_by_b) ≡ Some (Length 1) = a.right in
    let z : None ≡ Some (Length 1) = sym nothing_there ∙ r in
    cc

pub gathering_needs_known : GatheringNeedsKnown
gathering_needs_known =
    let D = script_disciplined forging_bodies fields other_region in
    (forging, D, forged_run, legal_from forging D forged_run (played forging in_between forged_run forged_played), forged_guarded, forged_not_gathered)

-- A block in a branch of a deterministic construct waits for a block outside, for an effect on a local region alone
abbrev wide : List Effect
wide = record { access = access.Read; region = Any_parts ∷ [] } ∷ []

abbrev narrow : List Effect
narrow = record { access = access.Write; region = Local (Made pb 0) ∷ [] } ∷ []

abbrev is_nil : List Effect → Bool
is_nil [] = true
is_nil (E ∷ Es) = false

-- the rule lets by blocks without effects alone
abbrev strict : Rule
strict F E = is_nil F || is_nil E

or_true : (t : Bool) → (t || true) ≡ true
or_true true = refl
or_true false = refl

weaker : Weaker (leaving_locals strict) strict
weaker [] E h = refl
weaker (F ∷ Fs) [] h = or_true (is_nil (without_locals (F ∷ Fs)))
weaker (F ∷ Fs) (E ∷ Es) h = absurd (true≢false (sym h))

abbrev waiting_bodies : List Body
waiting_bodies =
    record { items = forks 0 two ∷ []; ending = Returned (int 0) }
    ∷ record { items = does 0 (Enter wide) ∷ does 0 Exit ∷ []; ending = Assigned [] }
    ∷ record { items = forks 0 (record { kind = Deterministic; tasks = task 3 ∷ [] }) ∷ []; ending = Assigned [] }
    ∷ record { items = does 0 (Enter narrow) ∷ does 0 Exit ∷ []; ending = Assigned [] }
    ∷ []

abbrev waiting : Program
waiting = scripted waiting_bodies [] strict

abbrev pe : Path
pe = (0, 0) ∷ pb

abbrev one_waits : List Path
one_waits = [] ∷ [] ∷ pa ∷ pb ∷ pb ∷ pe ∷ pe ∷ pe ∷ pa ∷ pb ∷ pb ∷ pa ∷ [] ∷ [] ∷ [] ∷ []

abbrev wait_run : Run
wait_run = run_of (play waiting one_waits)

wait_played : play waiting one_waits ≡ Some wait_run
unfolding mine last_written things above first_of
wait_played = refl

wait_ended : Ended wait_run [] (Returned (int 0))
unfolding mine last_written things above first_of
wait_ended = has_ended_with wait_run [] (Returned (int 0)) refl

wait_levels : LevelsGuarded (leaving_locals strict) wait_run
unfolding mine last_written things above first_of inner
wait_levels = levels_guarded (leaving_locals strict) wait_run refl

abbrev enters : Event
enters = record { path = pe; ticks = 0; act = Do (Enter narrow); ans = Went }

abbrev both_run : Run
both_run = without 9 wait_run

enters_before : without 8 (move wait_run) ≡ enters ∷ both_run
unfolding mine last_written things above first_of inner rearranged
enters_before = refl

e_outside : standing both_run pe ≡ Outside
unfolding mine last_written things above first_of
e_outside = refl

a_inside : standing both_run pa ≡ Inside pa wide
unfolding mine last_written things above first_of
a_inside = refl

not_moved : Legal waiting (move wait_run) → ⊥
not_moved l =
    let v = valid_upto waiting (upto_without 8 (move wait_run)) (valid_from waiting (move wait_run) l) in
    let w = subst (λ R. Valid waiting R) enters_before v in
    let c = w.0.enters narrow refl in
    true≢false (sym (c.clear e_outside pa wide a_inside))

pub moving_needs_weaker : MovingNeedsWeaker
moving_needs_weaker =
    let D = script_disciplined waiting_bodies [] strict in (
      waiting,
      weaker,
      D,
      script_known waiting_bodies [] (leaving_locals strict) refl,
      wait_run,
      legal_from waiting D wait_run (played waiting one_waits wait_run wait_played),
      wait_levels,
      (Returned (int 0), wait_ended),
      not_moved,
    )
