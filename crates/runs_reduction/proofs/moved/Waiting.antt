-- Two branches of a deterministic construct whose blocks wait for each other, the second first.
use Rattle.std.proofs.Common.{◌≡◌, ⊎_elim, ℕ, suc, Bool, true, false, true≢false, ◌&&◌, ◌==◌, List, [], ◌∷◌, ◌++◌, refl, sym, ap, ◌∙◌, subst, arith, eqb-true, Some, slice_get}
use Rattle.std.proofs.lemmas.Bool.{and_parts}
use Rattle.runs_theory.specs.Actions.{Assigned, Deterministic, Do, Enter, Exit, Program, Returned, Went}
use Rattle.runs_theory.specs.Blocks.{Legal, with_rule}
use Rattle.runs_theory.specs.Meaning.{Disciplined, Known}
use Rattle.runs_theory.specs.Objects.{Path}
use Rattle.runs_theory.specs.Order.{Unordered}
use Rattle.runs_theory.specs.Runs.{Ended, Event, Run, Upto, last_written, mine, things}
use Rattle.runs_theory.specs.Standing.{Inside, Outside, Valid, above, first_of, standing}
use Rattle.runs_reduction.specs.Guarded.{AccessesLevelled, EntriesLet, LevelsGuarded, PartAtNd, anything}
use Rattle.runs_reduction.specs.Insertion.{Branch_of, rearranged}
use Rattle.runs_reduction.specs.Moved.{inner, is_det, move}
use Rattle.runs_reduction.specs.Samples.{MovingEndedApplies, MovingNeedsEnded}
use Rattle.runs_theory.proofs.samples.Play.{run_of, play, played, has_ended_with}
use Rattle.runs_theory.proofs.samples.Scripts.{int, does, forks, Body, task, scripted, script_disciplined}
use Rattle.runs_theory.proofs.samples.Tests.{script_known}
use Rattle.runs_theory.proofs.events.Upto.{upto_none, upto_split, upto_tail, upto_trans}
use Rattle.runs_theory.proofs.runs.Written.{legal_from, valid_from}
use Rattle.runs_reduction.proofs.shifts.Insertion.{valid_upto}
use Rattle.runs_reduction.proofs.samples.Samples.{is_path, other_region, pa, pb, writes_to}
use Rattle.runs_reduction.proofs.samples.Tests.{accesses_levelled, upto_without, without}

abbrev one_block : Body
one_block = record { items = does 0 (Enter (writes_to 1)) ∷ does 0 Exit ∷ []; ending = Assigned [] }

abbrev waiting_bodies : List Body
waiting_bodies =
    record { items = forks 0 (record { kind = Deterministic; tasks = task 1 ∷ task 2 ∷ [] }) ∷ []; ending = Returned (int 0) } ∷ one_block ∷ one_block ∷ []

abbrev waiting : Program
waiting = scripted waiting_bodies [] other_region

-- the schedules, the latest number first
abbrev second_first : List Path
second_first = [] ∷ [] ∷ pa ∷ pa ∷ pa ∷ pb ∷ pb ∷ pb ∷ [] ∷ [] ∷ [] ∷ []

abbrev whole : Run
whole = run_of (play waiting second_first)

whole_played : play waiting second_first ≡ Some whole
unfolding mine last_written things above first_of
whole_played = refl

-- up to the entry of the first branch
abbrev begun : Run
begun = without 4 whole

disciplined : Disciplined waiting
disciplined = script_disciplined waiting_bodies [] other_region

known : Known (with_rule anything waiting)
known = script_known waiting_bodies [] anything refl

legal : Legal waiting whole
legal = legal_from waiting disciplined whole (played waiting second_first whole whole_played)

legal_begun : Legal waiting begun
legal_begun = legal_from waiting disciplined begun (valid_upto waiting (upto_without 4 whole) (played waiting second_first whole whole_played))

whole_ended : Ended whole [] (Returned (int 0))
unfolding mine last_written things above first_of
whole_ended = has_ended_with whole [] (Returned (int 0)) refl

levelled : AccessesLevelled other_region whole
unfolding mine last_written things above first_of inner
levelled = accesses_levelled other_region whole refl

levelled_begun : AccessesLevelled other_region begun
unfolding mine last_written things above first_of inner
levelled_begun = accesses_levelled other_region begun refl

-- where there is no task below the branches of the root's first event
abbrev is_shallow : Path → Bool
is_shallow [] = true
is_shallow (u ∷ []) = u.0 == 0
is_shallow (u ∷ (v ∷ p)) = false

abbrev all_shallow : Run → Bool
all_shallow [] = true
all_shallow (e ∷ R) = is_shallow e.path && all_shallow R

shallow_at : {x : Event} {X : Run} (R : Run) → all_shallow R ≡ true → Upto (x ∷ X) R → is_shallow x.path ≡ true
shallow_at [] e h = absurd (upto_none h)
shallow_at {x} {X} (y ∷ R) e h =
    let p = and_parts (is_shallow y.path) (all_shallow R) e in
    ⊎_elim (λ k. ap (λ (z : Event). is_shallow z.path) k.0 ∙ p.0) (λ k. shallow_at R p.1 k) (upto_split h)

shallow_parts : (below above : Path) (u : ℕ × ℕ) → is_shallow (below ++ u ∷ above) ≡ true → (u.0 ≡ 0) × (above ≡ [])
shallow_parts [] [] u e = (eqb-true u.0 0 e, refl)
shallow_parts [] (v ∷ above) u e = absurd (true≢false (sym e))
shallow_parts (w ∷ []) above u e = absurd (true≢false (sym e))
shallow_parts (w ∷ (z ∷ below)) above u e = absurd (true≢false (sym e))

-- then tasks part at that event alone
entries_let : (R : Run) → all_shallow R ≡ true → is_det (first_of 1 (mine R [])) ≡ true → EntriesLet other_region R
entries_let R e det = record { each = λ Y X y x E F hy hx n nd xe ye sx sy ne. absurd (parts x.path y.path (shallow_at R e (upto_trans hx (upto_tail hy))) n nd) }
  where
    parts : (p q : Path) → is_shallow p ≡ true → (n : Unordered p q) → PartAtNd R p q n → ⊥
    parts p q s n nd =
        let z = shallow_parts n.below_p n.above n.u (ap is_shallow (sym n.p_is) ∙ s) in
        let k : is_det (first_of (suc n.u.0) (mine R n.above)) ≡ is_det (first_of 1 (mine R [])) = (λ i. is_det (first_of (suc (z.0 i)) (mine R (z.1 i)))) in
        true≢false (sym det ∙ sym k ∙ nd)

let_whole : EntriesLet other_region whole
unfolding mine last_written things above first_of
let_whole = entries_let whole refl refl

let_begun : EntriesLet other_region begun
unfolding mine last_written things above first_of
let_begun = entries_let begun refl refl

abbrev enters_at : Path → Event
enters_at p = record { path = p; ticks = 0; act = Do (Enter (writes_to 1)); ans = Went }

b_stands : Upto (enters_at pb ∷ without 8 whole) (without 5 whole)
unfolding mine last_written things above first_of
b_stands = upto_without 2 (without 5 whole)

a_stands : Upto (enters_at pa ∷ without 5 whole) whole
unfolding mine last_written things above first_of
a_stands = upto_without 4 whole

b_outside : standing (without 8 whole) pb ≡ Outside
unfolding mine last_written things above first_of
b_outside = refl

a_outside : standing (without 5 whole) pa ≡ Outside
unfolding mine last_written things above first_of
a_outside = refl

two_levels : inner (without 8 whole) pb ≡ inner (without 5 whole) pa → ⊥
unfolding mine last_written things above first_of inner
two_levels e = let z : Branch_of (0, 1) [] ≡ Branch_of (0, 0) [] = e in
    let k : ◌≡◌ {A = ℕ × ℕ} (0, 1) (0, 0) = cc in
    let m : ◌≡◌ {A = ℕ} 1 0 = ap (λ (v : ℕ × ℕ). v.1) k in absurd (omega (arith, m))

not_guarded : LevelsGuarded other_region whole → ⊥
not_guarded g =
    let b = g.entries (without 5 whole) (without 8 whole) (enters_at pa) (enters_at pb) (writes_to 1) (writes_to 1) a_stands b_stands (record {
      below_p = [];
      below_q = [];
      above = [];
      u = (0, 1);
      v = (0, 0);
      one_fork = refl;
      apart = λ e. (omega arith);
      p_is = refl;
      q_is = refl;
    }) refl refl b_outside a_outside two_levels in
    true≢false (sym b.0)

move_changes : move whole ≡ whole → ⊥
unfolding mine last_written things above first_of inner rearranged
move_changes e = let k : false ≡ true = ap (λ R. is_path pa (slice_get R 2)) e in true≢false (sym k)

pub moving_ended_applies : MovingEndedApplies
moving_ended_applies = (waiting, disciplined, known, whole, legal, (Returned (int 0), whole_ended), levelled, let_whole, not_guarded, move_changes)

-- before the first branch has left its block, the second would enter it in the moved run
enters_before : without 2 (move begun) ≡ enters_at pb ∷ without 3 (move begun)
unfolding mine last_written things above first_of inner rearranged
enters_before = refl

b_outside_there : standing (without 3 (move begun)) pb ≡ Outside
unfolding mine last_written things above first_of inner rearranged
b_outside_there = refl

a_inside_there : standing (without 3 (move begun)) pa ≡ Inside pa (writes_to 1)
unfolding mine last_written things above first_of inner rearranged
a_inside_there = refl

not_moved : Legal waiting (move begun) → ⊥
not_moved l =
    let v = valid_upto waiting (upto_without 2 (move begun)) (valid_from waiting (move begun) l) in
    let w = subst (λ R. Valid waiting R) enters_before v in
    let c = w.0.enters (writes_to 1) refl in
    true≢false (sym (c.clear b_outside_there pa (writes_to 1) a_inside_there))

pub moving_needs_ended : MovingNeedsEnded
moving_needs_ended = (waiting, disciplined, known, begun, legal_begun, levelled_begun, let_begun, not_moved)
