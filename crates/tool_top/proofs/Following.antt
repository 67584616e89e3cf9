-- What a schedule comes to of compiled code, on any two machines: it comes out in one way at most, or goes wrong at one number at most.
use Rattle.std.proofs.Common.{◌≡◌, ◌∙◌, ◌<◌, ◌≤◌, ℕ, ℤ, zero, suc, List, [], ◌∷◌, ◌++◌, length, take, reverse, Option, Some, None, IsSome, append_assoc, refl, sym, ap, subst, arith, ⊎_elim}
use Rattle.std.specs.Prelude.{slice_get}
use Rattle.std.specs.FinMap.{get}
use Rattle.std.proofs.lemmas.Bool.{cases_lt, false≢true}
use Rattle.std.proofs.lemmas.List.{reverse-append, take_all}
use Rattle.lang_base.specs.declared.outcome.Limits.{Limits}
use Rattle.lang_base.specs.declared.outcome.Outcome.{Outcome}
use Rattle.lang_typed.specs.Plain.{PlainProgram}
use Rattle.lang_typed.specs.Resolved.{Resolved, HasMain}
use Rattle.code_instrs.specs.declared.code.Code.{Code}
use Rattle.code_instrs.specs.Plain.{plain_code}
use Rattle.code_scheme.specs.Whole.{compiled}
use Rattle.exec_progress.specs.Progress.{CodeMakesProgress}
use Rattle.exec_run.specs.history.Replaying.{GoesWrong, after_end, not_ready, too_early}
use Rattle.exec_machine.specs.Keeping.{IsReplayed, Played}
use Rattle.exec_machine.specs.Premise.{CanProgress}
use Rattle.exec_machine.specs.Replay.{LeadsTo, Moment}
use Rattle.runs_simulation.specs.Laws.{ReadyTasksAreReady, Records}
use Rattle.runs_simulation.proofs.events.Blocks.{some_there}
use Rattle.runs_simulation.proofs.ready.Ready.{ready_there}
use Rattle.runs_simulation.proofs.Recorded.{LedTo, led_to, recorded, right}
use Rattle.runs_simulation.proofs.tied.Waiting.{all_rest}
use Rattle.exec_run.specs.Replays.{HasFollowed}
use Rattle.tool_top.specs.Refusing.{CannotGoOn, finished}
use Rattle.tool_top.specs.Refusing.{not_ready as refused, too_early as ends_early}
use Rattle.exec_run.specs.Run.{IsRecordOf}
use Rattle.exec_run.specs.declared.recorded.Recorded.{Recorded}
use Rattle.runs_theory.specs.Actions.{Ending, Program}
use Rattle.runs_theory.specs.Meaning.{Disciplined}
use Rattle.runs_theory.specs.Objects.{Path}
use Rattle.runs_theory.specs.Runs.{Ended, Event}
use Rattle.runs_theory.specs.Schedules.{Numbered, Ready, branch_is, root_is}
use Rattle.runs_theory.proofs.runs.Schedules.{one_run}
use Rattle.runs_program.specs.Laws.{EachKeeps}
use Rattle.runs_program.specs.Steps.{stepped}
use Rattle.exec_world.specs.Ready.{IsReady}
use Rattle.tool_top.proofs.Schedules.{NextRun, finished_once, next_of_finished, next_of_ran, not_finished, not_past}
use Rattle.lang_meaning.specs.Reported.{reported}

root_path : {R : List Event} {p : Path} → Numbered R 0 p → p ≡ []
root_path (root_is a b) = a
root_path (branch_is q u G g a b c d n i) = absurd (omega (arith, i))

-- a schedule that is followed beyond a number
split_at : (s : List ℕ) (a b task : ℕ) → slice_get s a ≡ Some task → a < b → (rest : List ℕ) × (take b s ≡ take a s ++ task ∷ rest)
split_at [] a b task e less = absurd (cc)
split_at (x ∷ s) zero zero task e less = absurd (omega (arith, less))
split_at (x ∷ s) zero (suc b) task e less = let same : x ≡ task = cc in (take b s, ap (λ y. y ∷ take b s) same)
split_at (x ∷ s) (suc a) zero task e less = absurd (omega (arith, less))
split_at (x ∷ s) (suc a) (suc b) task e less = let r = split_at s a b task e (omega (arith, less)) in (r.0, ap (λ y. x ∷ y) r.1)

below : (s : List ℕ) (a task : ℕ) → slice_get s a ≡ Some task → a < length s
below [] a task e = absurd (cc)
below (x ∷ s) zero task e = omega arith
below (x ∷ s) (suc a) task e = let less = below s a task e in omega (arith, less)

reversed : (xs rest : List ℕ) (task : ℕ) → reverse (xs ++ task ∷ rest) ≡ reverse rest ++ (task ∷ reverse xs)
reversed xs rest task =
    ap reverse (sym (append_assoc xs (task ∷ []) rest)) ∙ reverse-append (xs ++ task ∷ []) rest ∙ ap (λ l. reverse rest ++ l) (reverse-append xs (task ∷ []))

-- where the beginning of a schedule leads
back : (code : Code) (L : Limits) (arg : ℤ) (js ks : List ℕ) (n : Moment) → LeadsTo code L arg (js ++ ks) n → (m : Moment) × LeadsTo code L arg ks m
back code L arg [] ks n leads = (n, leads)
back code L arg (j ∷ js) ks n (before, leads, moves) = back code L arg js ks before leads

module _ (keeps : EachKeeps) (going : CodeMakesProgress) (P : PlainProgram) (L : Limits) (arg : ℤ) (resolved : Resolved P) (main : HasMain P) (few : L.steps ≤ 20000000) where
  abbrev Q : Program
  Q = stepped P arg

  abbrev D : Disciplined Q
  D = (keeps P arg).disciplined

  recorded_next : (code : Code) → plain_code code ≡ compiled P → (ks : List ℕ) (k : ℕ) (n : Moment) → LeadsTo code L arg (k ∷ ks) n → NextRun Q D L ks k
  recorded_next code is ks k n leads = go n.outcome (recorded code P L arg is resolved main few (k ∷ ks) n leads)
    where
      go : (o : Option Outcome) → Records Q L (k ∷ ks) o → NextRun Q D L ks k
      go None h = next_of_ran Q D L k ks h.0 h.1
      go (Some o) h = next_of_finished Q D L k ks h.0 h.1

  -- where one machine makes the next number of a schedule, another that has followed it so far hasn't come out, and that task is ready
  module _ (code other : Code) (is : plain_code code ≡ compiled P) (same : plain_code other ≡ compiled P) (ks : List ℕ) (k : ℕ) (m n : Moment)
      (leads : LeadsTo code L arg ks m) (further : LeadsTo other L arg (k ∷ ks) n) where
    next_run : NextRun Q D L ks k
    next_run = recorded_next other same ks k n further

    pub unfinished : m.outcome ≡ None
    unfinished = by m.outcome refl
      where
        by : (o : Option Outcome) → m.outcome ≡ o → m.outcome ≡ None
        by None e = e
        by (Some o) e =
            let h : Records Q L ks (Some o) = subst (λ x. Records Q L ks x) e (recorded code P L arg is resolved main few ks m leads) in
            absurd (not_past Q D L ks h.0 h.1 k next_run)

    A : LedTo code P L arg is resolved main few ks m
    A = led_to code P L arg is resolved main few ks m leads unfinished

    goes : CanProgress code L arg
    goes = going code P L arg is resolved main few

    ready_so : Ready Q A.run k next_run.1
    ready_so = subst (λ R. Ready Q R k next_run.1) (one_run Q D L ks next_run.0 A.run next_run.2 A.ran) next_run.3

    pub is_ready : IsReady m.world k
    is_ready =
        ready_there code P arg L (right code P L arg is resolved main few) A.tied A.blocks A.lives (all_rest code L arg goes ks m leads) (λ j t e. (goes ks m leads).all_go j t e) k next_run.1 ready_so

  finished_run : (code : Code) → plain_code code ≡ compiled P → (ks : List ℕ) (m : Moment) → LeadsTo code L arg ks m → (o : Outcome) → m.outcome ≡ Some o → Records Q L ks (Some o)
  finished_run code is ks m leads o come = subst (λ x. Records Q L ks x) come (recorded code P L arg is resolved main few ks m leads)

  pub come_once : (code other : Code) → plain_code code ≡ compiled P → plain_code other ≡ compiled P → (ks : List ℕ) (m n : Moment) → LeadsTo code L arg ks m → LeadsTo other L arg ks n
      → (o q : Outcome) → m.outcome ≡ Some o → n.outcome ≡ Some q → o ≡ q
  come_once code other is same ks m n leads leads_so o q come came =
      let h = finished_run code is ks m leads o come in
      let g = finished_run other same ks n leads_so q came in
      h.2 ∙ ap reported (finished_once Q D L ks ks h.0 g.0 refl h.1 g.1) ∙ sym g.2

  -- where a machine hasn't come out the root of its run goes on
  root_goes_on : (code : Code) (is : plain_code code ≡ compiled P) (ks : List ℕ) (m : Moment) (leads : LeadsTo code L arg ks m) (none : m.outcome ≡ None)
      → (z : Ending) → Ended (led_to code P L arg is resolved main few ks m leads none).run [] z → ⊥
  root_goes_on code is ks m leads none z g =
      let B = led_to code P L arg is resolved main few ks m leads none in
      let root = some_there (get m.world.tree.tasks 0) (B.lives.root none) in
      let V = B.tied.live 0 root.0 root.1 in
      let path : V.path ≡ [] = root_path (B.tied.numbers.numbered 0 V.path V.there) in
      B.lives.unended 0 root.0 V.path root.1 V.there z (subst (λ p. Ended B.run p z) (sym path) g)

  module _ (code other : Code) (is : plain_code code ≡ compiled P) (same : plain_code other ≡ compiled P) (ks : List ℕ) (m n : Moment) (leads : LeadsTo code L arg ks m)
      (leads_so : LeadsTo other L arg ks n) (none : m.outcome ≡ None) (o : Outcome) (come : n.outcome ≡ Some o) where
    B : LedTo code P L arg is resolved main few ks m
    B = led_to code P L arg is resolved main few ks m leads none

    root_unended : (z : Ending) → Ended B.run [] z → ⊥
    unfolding B
    root_unended = root_goes_on code is ks m leads none

    pub not_come : ⊥
    not_come = let h = finished_run other same ks n leads_so o come in not_finished Q D L ks B.run B.ran root_unended h.0 h.1

  -- a machine on the program's code that has made these numbers
  record Reaches (s : List ℕ) (p : Played) : Type 0 where
    code : Code
    is_code : plain_code code ≡ compiled P
    moment : Moment
    leads : LeadsTo code L arg (reverse s) moment
    world : p.world ≡ moment.world
    outcome : p.outcome ≡ moment.outcome

  reaches : (s : List ℕ) (p : Played) → plain_code p.code ≡ compiled P → p.limits ≡ L → p.argument ≡ arg → p.schedule ≡ s → IsReplayed p → Reaches s p
  reaches s p is_code is_limits is_argument is_schedule r = record {
    code = p.code;
    is_code = is_code;
    moment = r.moment;
    leads = subst (λ l. LeadsTo p.code L arg (reverse l) r.moment) is_schedule (subst (λ a. LeadsTo p.code L a (reverse p.schedule) r.moment) is_argument
        (subst (λ k. LeadsTo p.code k p.argument (reverse p.schedule) r.moment) is_limits r.leads));
    world = r.world;
    outcome = r.outcome;
  }

  by_schedule : (s : List ℕ) (count : ℕ) (p : Played) → HasFollowed P L arg s count p → Reaches (take count s) p
  by_schedule s count p f =
      let at = f.made.is_at in reaches (take count s) p (ap plain_code at.is_code ∙ f.is_code) at.is_limits at.is_argument at.is_schedule at.replayed

  by_record : (s : List ℕ) (r : Recorded) → IsRecordOf P L arg 0 r → r.record.machine.schedule ≡ s → Reaches s r.record.machine
  by_record s r is same = let run = is.is_run in reaches s r.record.machine run.is_code run.limits run.is_argument same run.replayed

  not_wrong : (xs rest : List ℕ) (task : ℕ) (p q : Played) → Reaches xs p → Reaches (xs ++ task ∷ rest) q → (p.outcome ≡ None) × IsReady p.world task
  not_wrong xs rest task p q a b =
      let b_leads : LeadsTo b.code L arg (reverse rest ++ (task ∷ reverse xs)) b.moment = subst (λ l. LeadsTo b.code L arg l b.moment) (reversed xs rest task) b.leads in
      let there = back b.code L arg (reverse rest) (task ∷ reverse xs) b.moment b_leads in (
        a.outcome ∙ unfinished a.code b.code a.is_code b.is_code (reverse xs) task a.moment there.0 a.leads there.1,
        subst (λ w. IsReady w task) (sym a.world) (is_ready a.code b.code a.is_code b.is_code (reverse xs) task a.moment there.0 a.leads there.1),
      )

  -- what goes wrong for one machine isn't passed by another
  not_passed : (s : List ℕ) (at count : ℕ) (p q : Played) → Reaches (take at s) p → GoesWrong s at p → Reaches (take count s) q → at < count → count ≤ length s → ⊥
  not_passed s at count p q a (after_end task next over) b less within =
      let cut = split_at s at count task next less in
      false≢true (subst IsSome (not_wrong (take at s) cut.0 task p q a (subst (λ l. Reaches l q) cut.1 b)).0 over)
  not_passed s at count p q a (not_ready task next unready) b less within =
      let cut = split_at s at count task next less in
      unready (not_wrong (take at s) cut.0 task p q a (subst (λ l. Reaches l q) cut.1 b)).1
  not_passed s at count p q a (too_early all none) b less within = omega (arith, less, within, all)

  pub wrong_once : (s : List ℕ) (at other : ℕ) (p q : Played) → HasFollowed P L arg s at p → GoesWrong s at p → HasFollowed P L arg s other q → GoesWrong s other q → at ≡ other
  wrong_once s at other p q a wrong b wrong_so =
      ⊎_elim (λ (less : at < other). absurd (not_passed s at other p q (by_schedule s at p a) wrong (by_schedule s other q b) less b.made.within))
      (λ (le : other ≤ at).
      ⊎_elim (λ (less : other < at). absurd (not_passed s other at q p (by_schedule s other q b) wrong_so (by_schedule s at p a) less a.made.within))
      (λ (ge : at ≤ other). omega (arith, le, ge))
      (cases_lt other at))
      (cases_lt at other)

  -- a schedule by which a run has come out doesn't go wrong
  pub right_not_wrong : (s : List ℕ) (r : Recorded) → IsRecordOf P L arg 0 r → r.record.machine.schedule ≡ s → (at : ℕ) (p : Played) → HasFollowed P L arg s at p → GoesWrong s at p → ⊥
  right_not_wrong s r is same at p a wrong = by wrong
    where
      whole : take (length s) s ≡ s
      whole = take_all (length s) s (omega arith)

      there : Reaches s r.record.machine
      there = by_record s r is same

      here : Reaches (take at s) p
      here = by_schedule s at p a

      passed : at < length s → ⊥
      passed less = not_passed s at (length s) p r.record.machine here wrong (subst (λ l. Reaches l r.record.machine) (sym whole) there) less (omega arith)

      by : GoesWrong s at p → ⊥
      by (after_end task next over) = passed (below s at task next)
      by (not_ready task next unready) = passed (below s at task next)
      by (too_early all none) =
          let end : Reaches s p = subst (λ l. Reaches l p) whole (subst (λ n. Reaches (take n s) p) all here) in
          not_come end.code there.code end.is_code there.is_code (reverse s) end.moment there.moment end.leads there.leads (sym end.outcome ∙ none) r.outcome (sym there.outcome ∙ is.came)

  -- nor does it come out in two ways
  pub ran_once : (s : List ℕ) (r q : Recorded) → IsRecordOf P L arg 0 r → r.record.machine.schedule ≡ s → IsRecordOf P L arg 0 q → q.record.machine.schedule ≡ s → r.outcome ≡ q.outcome
  ran_once s r q is same so alike =
      let a = by_record s r is same in
      let b = by_record s q so alike in
      come_once a.code b.code a.is_code b.is_code (reverse s) a.moment b.moment a.leads b.leads r.outcome q.outcome (sym a.outcome ∙ is.came) (sym b.outcome ∙ so.came)

  -- where one goes wrong, the run of the source can't go on
  module _ (all_ready : ReadyTasksAreReady) (s : List ℕ) (at : ℕ) (p : Played) (f : HasFollowed P L arg s at p) where
    so_far : Reaches (take at s) p
    so_far = by_schedule s at p f

    come_before : (k : ℕ) → slice_get s at ≡ Some k → (o : Outcome) → so_far.moment.outcome ≡ Some o → CannotGoOn Q L s at
    come_before k next o come =
        let h = finished_run so_far.code so_far.is_code (reverse (take at s)) so_far.moment so_far.leads o come in finished k h.0 next h.1

    ran_so : so_far.moment.outcome ≡ None → LedTo so_far.code P L arg so_far.is_code resolved main few (reverse (take at s)) so_far.moment
    ran_so none = led_to so_far.code P L arg so_far.is_code resolved main few (reverse (take at s)) so_far.moment so_far.leads none

    pub cannot_go_on : GoesWrong s at p → CannotGoOn Q L s at
    unfolding ran_so
    cannot_go_on (after_end k next some) = by so_far.moment.outcome refl
      where
        by : (o : Option Outcome) → so_far.moment.outcome ≡ o → CannotGoOn Q L s at
        by (Some o) e = come_before k next o e
        by None e = absurd (false≢true (subst IsSome (so_far.outcome ∙ e) some))
    cannot_go_on (not_ready k next unready) = by so_far.moment.outcome refl
      where
        by : (o : Option Outcome) → so_far.moment.outcome ≡ o → CannotGoOn Q L s at
        by (Some o) e = come_before k next o e
        by None e =
            let A = ran_so e in
            refused k A.run next A.ran (λ x ready. unready (subst (λ w. IsReady w k) (sym so_far.world)
            (all_ready so_far.code P L arg so_far.is_code resolved main few (reverse (take at s)) so_far.moment so_far.leads e A.run A.ran k x ready)))
    cannot_go_on (too_early all none) =
        let e = sym so_far.outcome ∙ none in
        let A = ran_so e in
        ends_early A.run all A.ran (root_goes_on so_far.code so_far.is_code (reverse (take at s)) so_far.moment so_far.leads e)
