-- The samples.
use Rattle.std.proofs.Common.{◌≡◌, ℕ, pos, zero, suc, ◌+◌, ◌⊎◌, inl, inr, ⊎_elim, Bool, true, false, cond, true≢false, ◌==◌, List}
use Rattle.std.proofs.Common.{[], ◌∷◌, length, map, refl, sym, ap, ◌∙◌, subst, arith, Option, Some, None, slice_get}
use Rattle.lang_base.specs.declared.effect.Access.TheVariants as access
use Rattle.lang_typed.specs.declared.stmt.Forking.{Forking}
use Rattle.runs_theory.specs.Actions.{Action, Answer, Assigned, Begin, Branches, Deterministic, Do, End, Ending, Enter, Exit, Got, Look, New, Next}
use Rattle.runs_theory.specs.Actions.{Nondeterministic, Print, Program, Read, Reply, Rest, Returned, Rule, Went, Write}
use Rattle.runs_theory.specs.Blocks.{Allowed, Legal}
use Rattle.runs_theory.specs.Laws.{AllFree}
use Rattle.runs_theory.specs.Meaning.{Disciplined, InTurn, Known, Lively, Paced}
use Rattle.runs_theory.specs.Objects.{An_array, Effect, Int, Name, Path, Any_parts, Value, same_path}
use Rattle.runs_theory.specs.Order.{Comes, Free, below_join}
use Rattle.runs_theory.specs.Runs.{Begun, Ended, Event, Follows, Right, Run, Upto, answers, branch, cells_of, count, last_written, later, mine, now, reply, root}
use Rattle.runs_theory.specs.Runs.{steps_of, things, total}
use Rattle.runs_theory.specs.Samples.{BoundApplies, BoundNeedsPaced, ComparisonApplies, ComparisonNeedsFree, DeterminismApplies, GreatestApplies, ReadyApplies}
use Rattle.runs_theory.specs.Samples.{ReadyNeedsKnown, RespectsNeedsPassing}
use Rattle.runs_theory.specs.Schedules.{Finished, Greatest, Greedy, Limits, Ran, Ready, Within, begins, ended, one_begin}
use Rattle.runs_theory.specs.Standing.{Inside, Outside, above, first_of, standing}
use Rattle.runs_theory.proofs.events.Upto.{upto_none, upto_same, upto_length, upto_split}
use Rattle.runs_theory.proofs.runs.Faithful.{agree_self, next_same, same_task}
use Rattle.runs_theory.proofs.runs.Written.{legal_from, admitted_from, legal_faithful}
use Rattle.runs_theory.proofs.events.Cost.{total_nil, total_step}
use Rattle.runs_theory.proofs.events.Numbers.{begins_nil, begins_step}
use Rattle.runs_theory.proofs.runs.Schedules.{one_run, ran_legal, recorded, ran_length}
use Rattle.runs_theory.proofs.Theorems.{each_comes_out, same_events, same_outcome}
use Rattle.runs_theory.proofs.samples.Scripts.{number_of, main, int, does, forks, Body, body_of, after, task, scripted, script_disciplined, script_in_turn}
use Rattle.runs_theory.proofs.samples.Scripts.{script_lively}
use Rattle.runs_theory.proofs.samples.Play.{run_of, play, played, task_begun, has_ended_with}
use Rattle.runs_theory.proofs.samples.Tests.{is_free, script_free, script_known}
use Rattle.runs_theory.proofs.runs.Finishing.{greatest_finishes, none_over, schedules_agree}

abbrev two : Forking → Branches
two k = record { kind = k; tasks = task 1 ∷ task 2 ∷ [] }

abbrev pa : Path
pa = (0, 0) ∷ []

abbrev pb : Path
pb = (0, 1) ∷ []

abbrev never : Rule
never F E = false

legal_play : (bodies : List Body) (fields : List Value) (rule : Rule) (ps : List Path) (R : Run) → play (scripted bodies fields rule) ps ≡ Some R
    → Legal (scripted bodies fields rule) R
legal_play bodies fields rule ps R e = let P = scripted bodies fields rule in legal_from P (script_disciplined bodies fields rule) R (played P ps R e)

-- Two branches write two fields, and one makes an object; then the root reads both fields
abbrev writers : List Body
writers =
    record { items = forks 0 (two Deterministic) ∷ does 0 (Read main (pos 0)) ∷ does 0 (Read main (pos 1)) ∷ []; ending = Returned (int 3) }
    ∷ record { items = does 2 (Write main (pos 0) (int 1)) ∷ does 0 (Print (49 ∷ 10 ∷ [])) ∷ []; ending = Assigned [] }
    ∷ record { items = does 0 (New (An_array [] 4 (int 0)) false) ∷ does 0 (Write main (pos 1) (int 2)) ∷ []; ending = Assigned ((0, int 2) ∷ []) }
    ∷ []

abbrev apart : Program
apart = scripted writers (int 0 ∷ int 0 ∷ []) never

-- the latest first: the one branch before the other, and the other way round
abbrev in_turn : List Path
in_turn = [] ∷ [] ∷ [] ∷ [] ∷ pb ∷ pb ∷ pb ∷ pa ∷ pa ∷ pa ∷ [] ∷ [] ∷ [] ∷ []

abbrev mixed : List Path
mixed = [] ∷ [] ∷ [] ∷ [] ∷ pa ∷ pa ∷ pb ∷ pb ∷ pa ∷ pb ∷ [] ∷ [] ∷ [] ∷ []

abbrev turn_by_turn : Run
turn_by_turn = run_of (play apart in_turn)

abbrev other_run : Run
other_run = run_of (play apart mixed)

one_played : play apart in_turn ≡ Some turn_by_turn
unfolding mine last_written things above first_of
one_played = refl

other_played : play apart mixed ≡ Some other_run
unfolding mine last_written things above first_of
other_played = refl

one_free : Free turn_by_turn
unfolding mine last_written things above first_of
one_free = is_free turn_by_turn refl

other_free : Free other_run
unfolding mine last_written things above first_of
other_free = is_free other_run refl

one_ended : Ended turn_by_turn [] (Returned (int 3))
unfolding mine last_written things above first_of
one_ended = has_ended_with turn_by_turn [] (Returned (int 3)) refl

other_ended : Ended other_run [] (Returned (int 3))
unfolding mine last_written things above first_of
other_ended = has_ended_with other_run [] (Returned (int 3)) refl

abbrev is_at : Option Path → Bool
is_at None = false
is_at (Some p) = same_path p pb

abbrev fifth : Run → Bool
fifth R = is_at (slice_get (map (λ e. e.path) R) 4)

two_runs : turn_by_turn ≡ other_run → ⊥
unfolding mine last_written things above first_of
two_runs e = let k : true ≡ false = ap fifth e in true≢false k

pub comparison_applies : ComparisonApplies
comparison_applies =
    let D = script_disciplined writers (int 0 ∷ int 0 ∷ []) never in
    let l = legal_play writers (int 0 ∷ int 0 ∷ []) never in_turn turn_by_turn one_played in
    let m = legal_play writers (int 0 ∷ int 0 ∷ []) never mixed other_run other_played in
    let c = each_comes_out apart turn_by_turn (Returned (int 3)) l one_ended in
    let d = each_comes_out apart other_run (Returned (int 3)) m other_ended in
    let s = same_outcome apart D turn_by_turn other_run c.0 d.0 l m one_free other_free c.1 d.1 in
    (apart, D, turn_by_turn, other_run, l, m, one_free, other_free, two_runs, c.0, c.1, subst (λ o. Comes apart other_run o) (sym s) d.1)

-- two branches write one field, and the root reads it
abbrev racers : List Body
racers =
    record { items = forks 0 (two Nondeterministic) ∷ does 0 (Read main (pos 0)) ∷ []; ending = Returned (int 0) }
    ∷ record { items = does 0 (Write main (pos 0) (int 1)) ∷ []; ending = Assigned [] }
    ∷ record { items = does 0 (Write main (pos 0) (int 2)) ∷ []; ending = Assigned [] }
    ∷ []

abbrev race : Program
race = scripted racers (int 0 ∷ []) never

abbrev a_first : List Path
a_first = [] ∷ [] ∷ [] ∷ pb ∷ pb ∷ pa ∷ pa ∷ [] ∷ [] ∷ [] ∷ []

abbrev b_first : List Path
b_first = [] ∷ [] ∷ [] ∷ pa ∷ pa ∷ pb ∷ pb ∷ [] ∷ [] ∷ [] ∷ []

abbrev a_run : Run
a_run = run_of (play race a_first)

abbrev b_run : Run
b_run = run_of (play race b_first)

a_played : play race a_first ≡ Some a_run
unfolding mine last_written things above first_of
a_played = refl

b_played : play race b_first ≡ Some b_run
unfolding mine last_written things above first_of
b_played = refl

abbrev got_one : Answer → Bool
got_one (Got (Int (pos n))) = n == 1
got_one a = false

abbrev saw_one : Option Event → Bool
saw_one None = false
saw_one (Some e) = got_one e.ans

-- whether the latest event but one of a task was answered 1
abbrev read_one : Run → Bool
read_one es = saw_one (slice_get es 1)

lengths : count a_run [] ≡ count b_run []
unfolding mine last_written things above first_of
lengths = refl

reads_two : read_one (mine a_run []) ≡ false
unfolding mine last_written things above first_of
reads_two = refl

reads_one : read_one (mine b_run []) ≡ true
unfolding mine last_written things above first_of
reads_one = refl

not_same : mine a_run [] ≡ mine b_run [] → ⊥
not_same e = true≢false (sym reads_one ∙ sym (ap read_one e) ∙ reads_two)

pub comparison_needs_free : ComparisonNeedsFree
comparison_needs_free = (
  race,
  script_disciplined racers (int 0 ∷ []) never,
  a_run,
  b_run,
  legal_play racers (int 0 ∷ []) never a_first a_run a_played,
  legal_play racers (int 0 ∷ []) never b_first b_run b_played,
  (λ ag. ⊎_elim (λ u. not_same (upto_same u lengths)) (λ u. not_same (sym (upto_same u (sym lengths)))) (ag.both [])),
)

-- the first branch goes on before the second begins, by the numbers, but not in this run
abbrev x_event : Event
x_event = record { path = pa; ticks = 2; act = Do (Write main (pos 0) (int 1)); ans = Went }

abbrev y_event : Event
y_event = record { path = []; ticks = 0; act = Begin 1; ans = Went }

abbrev y_before : Run
y_before = run_of (play apart ([] ∷ [] ∷ []))

x_played : play apart (pa ∷ [] ∷ [] ∷ [] ∷ []) ≡ Some (x_event ∷ y_event ∷ y_before)
unfolding mine last_written things above first_of
x_played = refl

y_number : count y_before [] ≡ 2
unfolding mine last_written things above first_of
y_number = refl

pub respects_needs_passing : RespectsNeedsPassing
respects_needs_passing =
    let R : Run = x_event ∷ y_event ∷ y_before in (
      apart,
      script_disciplined writers (int 0 ∷ int 0 ∷ []) never,
      R,
      y_event ∷ y_before,
      y_before,
      x_event,
      y_event,
      legal_play writers (int 0 ∷ int 0 ∷ []) never (pa ∷ [] ∷ [] ∷ [] ∷ []) R x_played,
      now,
      later now,
      below_join [] (0, 0) refl (let n = y_number in omega arith),
      (λ h. (let n = upto_length h in absurd (omega arith))),
    )

-- two branches print, and the root writes and reads
abbrev first_body : Body
first_body = record {
  items = does 0 (Write main (pos 0) (int 5)) ∷ forks 0 (two Deterministic) ∷ does 0 (Read main (pos 0)) ∷ [];
  ending = Returned (int 5);
}

abbrev printers : List Body
printers =
    record { items = does 0 (Print (49 ∷ 10 ∷ [])) ∷ []; ending = Assigned [] }
    ∷ record { items = does 0 (Print (50 ∷ 10 ∷ [])) ∷ []; ending = Assigned [] }
    ∷ []

abbrev prints : Program
prints = scripted (first_body ∷ printers) (int 0 ∷ []) never

abbrev p1 : Path
p1 = (1, 0) ∷ []

abbrev p2 : Path
p2 = (1, 1) ∷ []

abbrev one_by_one : List Path
one_by_one = [] ∷ [] ∷ [] ∷ p2 ∷ p2 ∷ p1 ∷ p1 ∷ [] ∷ [] ∷ [] ∷ [] ∷ []

abbrev other_first : List Path
other_first = [] ∷ [] ∷ [] ∷ p1 ∷ p1 ∷ p2 ∷ p2 ∷ [] ∷ [] ∷ [] ∷ [] ∷ []

abbrev tick_run : Run
tick_run = run_of (play prints one_by_one)

abbrev other_tick : Run
other_tick = run_of (play prints other_first)

tick_played : play prints one_by_one ≡ Some tick_run
unfolding mine last_written things above first_of
tick_played = refl

other_tick_played : play prints other_first ≡ Some other_tick
unfolding mine last_written things above first_of
other_tick_played = refl

tick_costs : (steps_of tick_run ≡ 9) × (cells_of prints tick_run ≡ 6)
unfolding mine last_written things above first_of total
tick_costs = (refl, refl)

other_costs : (steps_of other_tick ≡ 9) × (cells_of prints other_tick ≡ 6)
unfolding mine last_written things above first_of total
other_costs = (refl, refl)

tick_ended : Ended tick_run [] (Returned (int 5))
unfolding mine last_written things above first_of
tick_ended = has_ended_with tick_run [] (Returned (int 5)) refl

other_tick_ended : Ended other_tick [] (Returned (int 5))
unfolding mine last_written things above first_of
other_tick_ended = has_ended_with other_tick [] (Returned (int 5)) refl

abbrev at_second : Option Path → Bool
at_second None = false
at_second (Some p) = same_path p p2

abbrev fourth : Run → Bool
fourth R = at_second (slice_get (map (λ e. e.path) R) 3)

ticks_differ : tick_run ≡ other_tick → ⊥
unfolding mine last_written things above first_of
ticks_differ e = let k : true ≡ false = ap fourth e in true≢false k

pub determinism_applies : DeterminismApplies
determinism_applies =
    let D = script_disciplined (first_body ∷ printers) (int 0 ∷ []) never in
    let free = script_free first_body printers (int 0 ∷ []) never refl in
    let L : Limits = record { steps = 9; cells = 6 } in
    let l = legal_play (first_body ∷ printers) (int 0 ∷ []) never one_by_one tick_run tick_played in
    let m = legal_play (first_body ∷ printers) (int 0 ∷ []) never other_first other_tick other_tick_played in
    let v : Within prints L tick_run = record { steps = (let n = tick_costs.0 in omega arith); cells = (let n = tick_costs.1 in omega arith) } in
    let w : Within prints L other_tick = record { steps = (let n = other_costs.0 in omega arith); cells = (let n = other_costs.1 in omega arith) } in
    let r = recorded prints L tick_run l v in
    let s = recorded prints L other_tick m w in
    let c = each_comes_out prints tick_run (Returned (int 5)) l tick_ended in
    let d = each_comes_out prints other_tick (Returned (int 5)) m other_tick_ended in
    let f : Finished prints L r.0 c.0 = ended tick_run r.1 c.1 in
    let g : Finished prints L s.0 d.0 = ended other_tick s.1 d.1 in
    let same = schedules_agree prints D free L r.0 s.0 c.0 d.0 f g in (
      prints,
      D,
      free,
      L,
      r.0,
      s.0,
      (λ e. ticks_differ (one_run prints D L s.0 tick_run other_tick (subst (λ ks. Ran prints L ks tick_run) e r.1) s.1)),
      c.0,
      f,
      subst (λ o. Finished prints L s.0 o) (sym same) g,
    )

abbrev one_begun : Event → ℕ
one_begun e = one_begin e.act

begins_total : (R : Run) → begins R ≡ total one_begun R
begins_total [] = begins_nil ∙ sym (total_nil one_begun)
begins_total (e ∷ R) = begins_step e R ∙ ap (λ n. one_begin e.act + n) (begins_total R) ∙ sym (total_step one_begun e R)

two_begun : total one_begun tick_run ≡ 2
unfolding mine last_written things above first_of total
two_begun = refl

-- none of them rests
no_rest : (b n : ℕ) → after (body_of (slice_get (first_body ∷ printers) b)).items (body_of (slice_get (first_body ∷ printers) b)).ending n ≡ Next 0 (Do Rest) → ⊥
no_rest zero zero e = cc
no_rest zero (suc zero) e = cc
no_rest zero (suc (suc zero)) e = cc
no_rest zero (suc (suc (suc zero))) e = cc
no_rest zero (suc (suc (suc (suc zero)))) e = cc
no_rest zero (suc (suc (suc (suc (suc zero))))) e = cc
no_rest zero (suc (suc (suc (suc (suc (suc zero)))))) e = cc
no_rest zero (suc (suc (suc (suc (suc (suc (suc n))))))) e = cc
no_rest (suc zero) zero e = cc
no_rest (suc zero) (suc zero) e = cc
no_rest (suc zero) (suc (suc n)) e = cc
no_rest (suc (suc zero)) zero e = cc
no_rest (suc (suc zero)) (suc zero) e = cc
no_rest (suc (suc zero)) (suc (suc n)) e = cc
no_rest (suc (suc (suc b))) zero e = cc
no_rest (suc (suc (suc b))) (suc n) e = cc

prints_paced : Paced prints
prints_paced = record { enters = λ p t got a e. absurd (no_rest (number_of t) (length got) e) }

empty_costs : (steps_of [] ≡ 0) × (cells_of prints [] ≡ 2)
unfolding mine last_written things above first_of total
empty_costs = (refl, refl)

pub greatest_applies : GreatestApplies
greatest_applies = go (greatest_finishes prints D V T K prints_paced L w)
  where
    D : Disciplined prints
    D = script_disciplined (first_body ∷ printers) (int 0 ∷ []) never

    V : Lively prints
    V = script_lively (first_body ∷ printers) (int 0 ∷ []) never

    T : InTurn prints
    T = script_in_turn (first_body ∷ printers) (int 0 ∷ []) never

    K : Known prints
    K = script_known (first_body ∷ printers) (int 0 ∷ []) never refl

    free : AllFree prints
    free = script_free first_body printers (int 0 ∷ []) never refl

    L : Limits
    L = record { steps = 9; cells = 6 }

    w : Within prints L []
    w = record { steps = (let n = empty_costs.0 in omega arith); cells = (let n = empty_costs.1 in omega arith) }

    l : Legal prints tick_run
    l = legal_play (first_body ∷ printers) (int 0 ∷ []) never one_by_one tick_run tick_played

    v : Within prints L tick_run
    v = record { steps = (let n = tick_costs.0 in omega arith); cells = (let n = tick_costs.1 in omega arith) }

    go : (ks : List ℕ) × (R : Run) × Ran prints L ks R × Greedy prints R
        × (((x : Ending) × Ended R [] x) ⊎ ((e : Event) × (k : ℕ) × Ready prints R k e × Greatest prints R e × (Within prints L (e ∷ R) → ⊥))) → GreatestApplies
    go z = ⊎_elim done (λ h. absurd (h.4 (none_over prints D free L tick_run (h.0 ∷ z.1) (Returned (int 5)) l v tick_ended (h.2.allowed, m)))) z.4
      where
        m : Legal prints z.1
        m = ran_legal prints L z.0 z.1 z.2

        done : (x : Ending) × Ended z.1 [] x → GreatestApplies
        done h =
            let s = same_events prints D tick_run z.1 (Returned (int 5)) h.0 l m (free tick_run l) (free z.1 m) tick_ended h.1 in
            let n = begins_total z.1 ∙ sym (s.2 one_begun) ∙ two_begun in
            (prints, D, V, T, K, z.1, m, z.3, h.0, h.1, omega arith)

-- two branches with blocks that the rule keeps apart
abbrev any_effect : List Effect
any_effect = record { access = access.Write; region = Any_parts ∷ [] } ∷ []

abbrev block : Body
block = record { items = does 0 Rest ∷ does 0 (Enter any_effect) ∷ does 0 (Write main (pos 0) (int 1)) ∷ does 0 Exit ∷ []; ending = Assigned [] }

abbrev blocks : List Body
blocks = record { items = forks 0 (two Nondeterministic) ∷ []; ending = Returned (int 0) } ∷ block ∷ block ∷ []

abbrev waits : Program
waits = scripted blocks (int 0 ∷ []) never

abbrev one_inside : List Path
one_inside = pb ∷ pa ∷ pa ∷ [] ∷ [] ∷ [] ∷ []

abbrev inside_run : Run
inside_run = run_of (play waits one_inside)

inside_played : play waits one_inside ≡ Some inside_run
unfolding mine last_written things above first_of
inside_played = refl

inside_legal : Legal waits inside_run
inside_legal = legal_play blocks (int 0 ∷ []) never one_inside inside_run inside_played

b_begun : Begun waits inside_run pb (task 2)
unfolding mine last_written things above first_of
b_begun = task_begun waits inside_run pb (task 2) refl

b_asks : waits.meaning pb (task 2) (answers (mine inside_run pb)) ≡ Next 0 (Do (Enter any_effect))
unfolding mine last_written things above first_of
b_asks = refl

b_outside : standing inside_run pb ≡ Outside
unfolding mine last_written things above first_of
b_outside = refl

a_inside : standing inside_run pa ≡ Inside pa any_effect
unfolding mine last_written things above first_of
a_inside = refl

-- whether any event is an end
abbrev is_end : Action → Bool
is_end (End x) = true
is_end a = false

abbrev some_end : Run → Bool
some_end [] = false
some_end (e ∷ R) = cond (is_end e.act) true (some_end R)

end_is : (R W : Run) (w : Event) (x : Ending) → Upto (w ∷ W) R → w.act ≡ End x → some_end R ≡ true
end_is [] W w x h k = absurd (upto_none h)
end_is (e ∷ R) W w x h k = go (upto_split h) (λ u. end_is R W w x u k)
  where
    go : ((w ≡ e) × (W ≡ R)) ⊎ Upto (w ∷ W) R → (Upto (w ∷ W) R → some_end R ≡ true) → some_end (e ∷ R) ≡ true
    go (inl p) rec = ap (λ t. cond t true (some_end R)) (ap (λ z. is_end z.act) (sym p.0) ∙ ap is_end k)
    go (inr u) rec = ap (λ t. cond (is_end e.act) true t) (rec u) ∙ both (is_end e.act)
      where
        both : (t : Bool) → cond t true true ≡ true
        both true = refl
        both false = refl

none_ended : (R : Run) → some_end R ≡ false → (p : Path) (x : Ending) → Ended R p x → ⊥
none_ended R e p x h = true≢false (sym (end_is R h.before h.event x h.stands h.act) ∙ e)

inside_goes_on : some_end inside_run ≡ false
unfolding mine last_written things above first_of
inside_goes_on = refl

not_allowed : (e : Event) → e.path ≡ pb → Allowed waits inside_run e → ⊥
not_allowed e p a =
    let d = admitted_from waits inside_run e (legal_faithful waits inside_run inside_legal) a in
    let f = d.follows in
    let t : f.task ≡ task 2 = same_task (agree_self inside_run) (subst (λ q. Begun waits inside_run q f.task) p f.begun) b_begun in
    let k : waits.meaning pb f.task (answers (mine inside_run pb)) ≡ Next e.ticks e.act =
    subst (λ q. waits.meaning q f.task (answers (mine inside_run q)) ≡ Next e.ticks e.act) p f.asks in
    let act = (next_same 0 e.ticks (Do (Enter any_effect)) e.act (sym (ap (λ s. waits.meaning pb s (answers (mine inside_run pb))) t ∙ b_asks) ∙ k)).1 in
    let c = d.enters any_effect (sym act) in
    true≢false (sym (c.clear (ap (λ q. standing inside_run q) p ∙ b_outside) pa any_effect a_inside))

pub ready_applies : ReadyApplies
ready_applies = (
  waits,
  script_disciplined blocks (int 0 ∷ []) never,
  script_lively blocks (int 0 ∷ []) never,
  script_known blocks (int 0 ∷ []) never refl,
  inside_run,
  inside_legal,
  none_ended inside_run inside_goes_on [],
  pb,
  task 2,
  b_begun,
  none_ended inside_run inside_goes_on pb,
  not_allowed,
)

-- a task looks at an object that nobody has made
abbrev no_object : Name
no_object = record { maker = []; count = 5 }

abbrev lookers : List Body
lookers = record { items = does 0 (Look no_object) ∷ []; ending = Returned (int 0) } ∷ []

abbrev looks : Program
looks = scripted lookers [] never

nothing_there : reply looks [] [] (Look no_object) ≡ None
unfolding mine things
nothing_there = refl

at_first : looks.meaning [] (task 0) (answers (mine [] [])) ≡ Next 0 (Do (Look no_object))
unfolding mine
at_first = refl

stuck : (e : Event) → Allowed looks [] e → ⊥
stuck e a = go a.follows.begun
  where
    f : Follows looks [] e
    f = a.follows

    go : Begun looks [] e.path f.task → ⊥
    go (branch q u F g ts B h p b c d r s b1 c1 e1 d1) = upto_none b
    go (root p t) =
        let k : looks.meaning [] f.task (answers (mine [] [])) ≡ Next e.ticks e.act =
        subst (λ q. looks.meaning q f.task (answers (mine [] q)) ≡ Next e.ticks e.act) p f.asks in
        let act = (next_same 0 e.ticks (Do (Look no_object)) e.act (sym (ap (λ s. looks.meaning [] s (answers (mine [] []))) t ∙ at_first) ∙ k)).1 in
        let r : reply looks [] e.path (Look no_object) ≡ Some e.ans = subst (λ c. Right looks [] e.path c e.ans) (sym act) f.right in
        let z : None ≡ Some e.ans = sym nothing_there ∙ ap (λ q. reply looks [] q (Look no_object)) (sym p) ∙ r in
        cc

pub ready_needs_known : ReadyNeedsKnown
ready_needs_known = (looks, script_disciplined lookers [] never, script_lively lookers [] never, [], tt, (λ x h. upto_none h.stands), stuck)

-- what a task does after a rest that no ticks stand before
abbrev enters_next : Reply → Type 0
enters_next r = (E : List Effect) × (t : ℕ) × (r ≡ Next t (Do (Enter E)))

-- a root with one block
abbrev rested : List Body
rested = block ∷ []

abbrev rests : Program
rests = scripted rested (int 0 ∷ []) never

rest_paced : (n : ℕ) → after block.items block.ending n ≡ Next 0 (Do Rest) → enters_next (after block.items block.ending (suc n))
rest_paced zero e = (any_effect, 0, refl)
rest_paced (suc zero) e = absurd (cc)
rest_paced (suc (suc zero)) e = absurd (cc)
rest_paced (suc (suc (suc zero))) e = absurd (cc)
rest_paced (suc (suc (suc (suc zero)))) e = absurd (cc)
rest_paced (suc (suc (suc (suc (suc n))))) e = absurd (cc)

rests_paced : Paced rests
rests_paced = record { enters = λ p t got a e. by (number_of t) (length got) e }
  where
    by : (b n : ℕ) → after (body_of (slice_get rested b)).items (body_of (slice_get rested b)).ending n ≡ Next 0 (Do Rest)
        → (E : List Effect) × ((u : ℕ) × (after (body_of (slice_get rested b)).items (body_of (slice_get rested b)).ending (suc n) ≡ Next u (Do (Enter E))))
    by zero n e = let r = rest_paced n e in (r.0, (r.1, r.2))
    by (suc b) zero e = absurd (cc)
    by (suc b) (suc n) e = absurd (cc)

abbrev rest_run : Run
rest_run = run_of (play rests ([] ∷ [] ∷ [] ∷ [] ∷ [] ∷ []))

rest_played : play rests ([] ∷ [] ∷ [] ∷ [] ∷ [] ∷ []) ≡ Some rest_run
unfolding mine last_written things above first_of
rest_played = refl

rest_steps : steps_of rest_run ≡ 4
unfolding mine last_written things above first_of total
rest_steps = refl

rest_cells : cells_of rests rest_run ≡ 2
unfolding mine last_written things above first_of total
rest_cells = refl

some_ran : (P : Program) (L : Limits) (R : Run) (n : ℕ) (r : (ks : List ℕ) × Ran P L ks R) → length R ≡ n → length r.0 ≡ n
some_ran P L R n r e = ran_length P L r.0 R r.1 ∙ e

rest_length : length rest_run ≡ 5
unfolding mine last_written things above first_of
rest_length = refl

pub bound_applies : BoundApplies
bound_applies =
    let L : Limits = record { steps = 4; cells = 2 } in
    let w : Within rests L rest_run = record { steps = (let n = rest_steps in omega arith); cells = (let n = rest_cells in omega arith) } in
    let r = recorded rests L rest_run (legal_play rested (int 0 ∷ []) never ([] ∷ [] ∷ [] ∷ [] ∷ [] ∷ []) rest_run rest_played) w in (
      rests,
      script_disciplined rested (int 0 ∷ []) never,
      rests_paced,
      L,
      r.0,
      rest_run,
      r.1,
      (let n = some_ran rests L rest_run 5 r rest_length in omega arith),
    )

-- a root that rests and rests
abbrev resters : List Body
resters = record { items = does 0 Rest ∷ does 0 Rest ∷ does 0 Rest ∷ []; ending = Returned (int 0) } ∷ []

abbrev idles : Program
idles = scripted resters [] never

abbrev idle_run : Run
idle_run = run_of (play idles ([] ∷ [] ∷ [] ∷ [] ∷ []))

idle_played : play idles ([] ∷ [] ∷ [] ∷ [] ∷ []) ≡ Some idle_run
unfolding mine last_written things above first_of
idle_played = refl

idle_steps : steps_of idle_run ≡ 1
unfolding mine last_written things above first_of total
idle_steps = refl

idle_cells : cells_of idles idle_run ≡ 1
unfolding mine last_written things above first_of total
idle_cells = refl

idle_length : length idle_run ≡ 4
unfolding mine last_written things above first_of
idle_length = refl

pub bound_needs_paced : BoundNeedsPaced
bound_needs_paced =
    let L : Limits = record { steps = 1; cells = 1 } in
    let w : Within idles L idle_run = record { steps = (let n = idle_steps in omega arith); cells = (let n = idle_cells in omega arith) } in
    let r = recorded idles L idle_run (legal_play resters [] never ([] ∷ [] ∷ [] ∷ [] ∷ []) idle_run idle_played) w in
    (idles, script_disciplined resters [] never, L, r.0, idle_run, r.1, (let n = some_ran idles L idle_run 4 r idle_length in omega arith))
