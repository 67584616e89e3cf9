-- A join, in a machine and in the run.
use Rattle.std.proofs.Common.{◌≡◌, ◌≢◌, ◌≤◌, inl, inr, append-nil, ⊎_elim, ℕ, zero, suc, ◌+◌, not, nat_lt, ℤ, false, IsTrue, List, [], ◌∷◌, ◌++◌, map, length, refl, sym, ap, ap₂, ◌∙◌, subst, Option, Some, None, slice_get, arith}
use Rattle.std.proofs.lemmas.Bool.{lt-ltb, cases_lt}
use Rattle.std.specs.List.{list_all}
use Rattle.std.specs.Prelude.{is_some}
use Rattle.std.specs.FinMap.{get}
use Rattle.lang_base.specs.declared.effect.Effect.{Effect}
use Rattle.lang_base.specs.declared.outcome.Limits.{Limits}
use Rattle.lang_base.specs.declared.place.Place.{Place}
use Rattle.lang_base.specs.declared.value.Trap.{Trap}
use Rattle.lang_typed.specs.Plain.{PlainProgram}
use Rattle.lang_meaning.specs.Outcomes.{trap_of, locals_of, joined_or}
use Rattle.lang_meaning.specs.Outcomes.{first_trap, all_locals}
use Rattle.lang_meaning.specs.Values.{Value}
use Rattle.code_instrs.specs.Plain.{PlainCode, plain_code}
use Rattle.code_instrs.specs.declared.code.Code.{Code}
use Rattle.code_scheme.specs.Compiled.{SameAct}
use Rattle.runs_theory.specs.Actions.{Answer, Join, Ending, Returned, Assigned, Trapped, Next, Rule}
use Rattle.runs_theory.specs.Objects.{Path, Name}
use Rattle.runs_theory.specs.Runs.{Ended, Event, Follows, Joins, Run, answers, count, mine}
use Rattle.exec_task.specs.Tasks.{plain_answer, plain_slot}
use Rattle.exec_task.specs.declared.action.Action.TheVariants as action
use Rattle.exec_tasks.specs.Join.{or_else, all_slots, joined_out}
use Rattle.exec_tasks.specs.Join.{first_trap as first_of}
use Rattle.exec_tasks.specs.Scope.{Branches as Scope, all_begun, all_ended}
use Rattle.exec_tasks.specs.Tree.{Tasks, CanJoin, OfTask, OfScope, ends_in, joined_task, scope_ends, task_at}
use Rattle.exec_tasks.specs.declared.end.TaskEnd.{TaskEnd}
use Rattle.exec_tasks.specs.declared.task.Origin.{Origin}
use Rattle.exec_tasks.specs.declared.task.State.{State as Standing}
use Rattle.exec_tasks.specs.declared.task.State.TheVariants.{Running as Runs, Forked}
use Rattle.exec_tasks.specs.declared.task.Task.{Task as Live}
use Rattle.exec_world.specs.World.{fell_or, join_answer}
use Rattle.exec_machine.specs.Replay.{Moment, NextOf, CanBeMade, after}
use Rattle.runs_elision.proofs.Worlds.{Names, LocalsLike, no_locals, more_locals}
use Rattle.runs_simulation.proofs.alike.Sights.{Sight, wider_none, AnswerLike, joined_like, fell_like}
use Rattle.runs_simulation.proofs.tied.Heaps.{structural}
use Rattle.runs_simulation.proofs.tied.Ties.{Q, EndTied, EndsTied, ForkTied, ScopeTied, BranchTied, OriginTied, LiveTied, Tied}
use Rattle.runs_simulation.proofs.events.Asked.{acts_at, joining_like, same_join}
use Rattle.runs_simulation.proofs.tied.Trees.{placed, beside, changed_own, changed_other, plain_next}
use Rattle.runs_simulation.specs.Alike.{join_alike}
use Rattle.runs_simulation.proofs.alike.Alikes.{answer_alike}
use Rattle.runs_simulation.proofs.events.Acting.{RightFor, event_of, Matched, Stepped, found, live, at, AskedAt, asked_at, goes_to, goes_so, task_next}
use Rattle.runs_simulation.proofs.tied.Outs.{OutLive, OutRuns, IsFine, out_joined}
use Rattle.runs_simulation.proofs.tied.Segments.{Seg, seg_later, seg_own}
use Rattle.runs_simulation.proofs.tied.Sorted.{printed_step, trapped_step}
use Rattle.runs_simulation.proofs.events.Forks.{front_step}
use Rattle.runs_simulation.proofs.events.Joins.{ForksAreJoined}
use Rattle.runs_simulation.proofs.events.Forking.{Kept, step_keeps}
use Rattle.runs_simulation.proofs.alike.Wrapping.{first_numbers, next_numbers}
use Rattle.runs_theory.specs.Order.{printed, trapped}
use Rattle.runs_theory.proofs.events.Mine.{mine_same}
use Rattle.code_instrs.specs.Machine.{State, Off, Waits, step}
use Rattle.lang_meaning.specs.Actions as meaning
use Rattle.lang_meaning.specs.Actions.{Fell}
use Rattle.exec_task.specs.Names.{names_of}

locals_on : {ns : Names} {xs us : List (ℕ × Value ℕ)} {ys vs : List (ℕ × Value Name)} → LocalsLike ns xs ys → LocalsLike ns us vs → LocalsLike ns (xs ++ us) (ys ++ vs)
locals_on no_locals k = k
locals_on (more_locals x a h) k = more_locals x a (locals_on h k)

mapped_on : {A B : Type 0} (f : A → B) (xs ys : List A) → map f (xs ++ ys) ≡ map f xs ++ map f ys
mapped_on f [] ys = refl
mapped_on f (x ∷ xs) ys = ap (λ l. f x ∷ l) (mapped_on f xs ys)

trap_then : (x : Ending) (o : Option (Trap × Place)) → trap_of x o ≡ or_else (trap_of x None) o
trap_then (Returned v) o = refl
trap_then (Assigned ls) o = refl
trap_then (Trapped t p) o = refl

-- the ends of branches that have all ended
record Closed (w : Sight) (R : Run) (q : Path) (n b : ℕ) (es : List (Option TaskEnd)) : Type 0 where
  ends : List Ending
  many : length ends ≡ length es
  ended : (c : ℕ) (x : Ending) → slice_get ends c ≡ Some x → Ended R ((n, b + c) ∷ q) x
  trap : first_of es ≡ first_trap ends
  slots : LocalsLike w.names (map plain_slot (all_slots es)) (all_locals ends)

closed_more : (w : Sight) (R : Run) (q : Path) (n b : ℕ) (e : TaskEnd) (es : List (Option TaskEnd)) → EndTied w R q n b e → Closed w R q n (suc b) es
    → Closed w R q n b (Some e ∷ es)
closed_more w R q n b e es h rest = record {
  ends = h.ending ∷ rest.ends;
  many = ap (λ n. suc n) rest.many;
  ended = at;
  trap = ap₂ (λ o u. or_else o u) h.trap rest.trap ∙ sym (trap_then h.ending (first_trap rest.ends));
  slots = subst (λ ls. LocalsLike w.names ls (locals_of h.ending ++ all_locals rest.ends)) (sym (mapped_on plain_slot e.slots (all_slots es))) (locals_on h.slots rest.slots);
}
  where
    at : (c : ℕ) (x : Ending) → slice_get (h.ending ∷ rest.ends) c ≡ Some x → Ended R ((n, b + c) ∷ q) x
    at zero x f = (let same : h.ending ≡ x = cc in subst (λ z. Ended R ((n, b + 0) ∷ q) z) same (subst (λ c. Ended R ((n, c) ∷ q) h.ending) (omega arith) h.ended))
    at (suc c) x f = subst (λ d. Ended R ((n, d) ∷ q) x) (omega arith) (rest.ended c x f)

closed : (w : Sight) (R : Run) (q : Path) (n b : ℕ) (es : List (Option TaskEnd)) → EndsTied w R q n b es → IsTrue (list_all is_some es) → Closed w R q n b es
closed w R q n b [] h all = record { ends = []; many = refl; ended = λ c x e. absurd (let none : None ≡ Some x = e in cc); trap = refl; slots = no_locals }
closed w R q n b (None ∷ es) h all = absurd (let no : IsTrue false = all in cc)
closed w R q n b (Some e ∷ es) h all = closed_more w R q n b e es h.0 (closed w R q n (suc b) es h.1 all)

-- the answer to a join
join_like : (w : Sight) (es : List (Option TaskEnd)) (xs : List Ending) → first_of es ≡ first_trap xs → LocalsLike w.names (map plain_slot (all_slots es)) (all_locals xs)
    → AnswerLike w (plain_answer (join_answer es)) (joined_or (first_trap xs) (all_locals xs))
join_like w es xs trap slots = subst (λ o. AnswerLike w (plain_answer (join_answer es)) (joined_or o (all_locals xs))) trap (go (first_of es))
  where
    go : (o : Option (Trap × Place)) → AnswerLike w (plain_answer (fell_or o (all_slots es))) (joined_or o (all_locals xs))
    go None = joined_like slots
    go (Some fell) = fell_like fell.0 fell.1

-- a scope that can be joined
record CanClose (x : Live) : Type 0 where
  scope : Scope
  state : x.state ≡ Forked scope
  begun : IsTrue (all_begun scope)
  ended : IsTrue (all_ended scope)

can_close : (tasks : Tasks) (k : ℕ) (x : Live) → get tasks k ≡ Some x → CanJoin tasks k → CanClose x
can_close tasks k x e h = go x.state refl (subst (λ o. OfTask o (λ task. OfScope task.state (λ scope. IsTrue (all_begun scope) × IsTrue (all_ended scope)))) e h)
  where
    go : (s : Standing) → x.state ≡ s → OfScope s (λ scope. IsTrue (all_begun scope) × IsTrue (all_ended scope)) → CanClose x
    go Runs i h = absurd h
    go (Forked scope) i h = record { scope = scope; state = i; begun = h.0; ended = h.1 }

all_there : (es : List (Option TaskEnd)) (n : ℕ) → IsTrue (list_all is_some es) → slice_get es n ≡ Some None → ⊥
all_there [] n all e = (let none : None ≡ Some None = e in cc)
all_there (None ∷ es) n all e = (let no : IsTrue false = all in cc)
all_there (Some x ∷ es) zero all e = (let same : Some x ≡ None = cc in cc)
all_there (Some x ∷ es) (suc n) all e = all_there es n all e

pub not_less : (a b : ℕ) → IsTrue (not (nat_lt a b)) → b ≤ a
not_less a b h = ⊎_elim (λ l. absurd (let t = lt-ltb a b l in cc)) (λ l. l) (cases_lt a b)

module _ (code : Code) (P : PlainProgram) (arg : ℤ) (rule : Rule) (L : Limits) (right : RightFor (plain_code code) P) (FJ : ForksAreJoined (plain_code code)) where
  abbrev C : PlainCode
  C = plain_code code

  module _ {m : Moment} {w : Sight} {R : Run} (T : Tied P arg rule C L m w R) (k ticks : ℕ) (wants : Option (List Effect))
      (x : NextOf C m k (event_of k ticks wants action.Join)) (can : CanBeMade C m.world (event_of k ticks wants action.Join) x.stands.state) where
    abbrev n : Moment
    n = after code m (event_of k ticks wants action.Join) x.stands.state x.stands.made

    A : AskedAt code P arg rule L right T k ticks wants action.Join x Join
    A = asked_at code P arg rule L right T k ticks wants action.Join x Join
        (acts_at C action.Join Join (λ e i. (cc)) (λ b e. e) (at code P arg rule L right T k ticks wants action.Join x) x.stands.is_action)

    abbrev V : LiveTied P arg rule C w R m.world.tree.tasks m.tasks k (found code P arg rule L right T k ticks wants action.Join x).0
    V = live code P arg rule L right T k ticks wants action.Join x

    abbrev y : Live
    y = (found code P arg rule L right T k ticks wants action.Join x).0

    y_is : get m.world.tree.tasks k ≡ Some y
    y_is = (found code P arg rule L right T k ticks wants action.Join x).1

    close : CanClose y
    close = can_close m.world.tree.tasks k y y_is can.fits

    F : ForkTied P arg rule C w R V.path V.runs.state close.scope
    F = subst (λ s. ScopeTied P arg rule C w R V.path V.runs.state s) close.state V.scope

    Z : Closed w R V.path (count F.before V.path) 0 close.scope.ends
    Z = closed w R V.path (count F.before V.path) 0 close.scope.ends F.ends close.ended

    act_is : A.act ≡ Join
    act_is = same_join C P A.act (subst (λ b. SameAct C P A.act b) (joining_like A.both.like) A.same)

    asks : (Q P arg rule C).meaning V.path V.task.task (answers (mine R V.path)) ≡ Next ticks Join
    asks = A.asks ∙ ap (λ c. Next ticks c) act_is

    abbrev answer : Answer
    answer = joined_or (first_trap Z.ends) (all_locals Z.ends)

    abbrev event : Event
    event = record { path = V.path; ticks = ticks; act = Join; ans = answer }

    full : close.scope.count ≡ length close.scope.ends
    full = (let a = F.within in let b = not_less (length close.scope.ends) close.scope.count close.begun in omega (arith, a, b))

    joins : Joins R V.path answer
    joins = record {
      before = F.before;
      fork = F.fork;
      stands = F.stands;
      path = F.path;
      since = F.since;
      last = F.last;
      tasks = F.tasks;
      act = F.act;
      all_begun = F.begun ∙ sym full ∙ F.many;
      ends = Z.ends;
      each = Z.many ∙ sym full ∙ F.many;
      ended = λ u z e f. subst (λ v. Ended R (v ∷ V.path) z) (pair u (sym e)) (Z.ended u.1 z f);
      answer = refl;
    }
      where
        pair : (u : ℕ × ℕ) → count F.before V.path ≡ u.0 → (count F.before V.path, 0 + u.1) ≡ u
        pair u e = (let s : 0 + u.1 ≡ u.1 = omega arith in λ z. (e z, s z))

    follows : Follows (Q P arg rule C) R event
    follows = record { task = V.task.task; begun = V.task.begun; asks = asks; right = joins }

    ends_are : ends_in (task_at m.world.tree k) ≡ close.scope.ends
    ends_are = ap ends_in y_is ∙ ap (λ s. scope_ends s) close.state

    like : AnswerLike w (plain_answer (join_answer (ends_in (task_at m.world.tree k)))) answer
    like = subst (λ es. AnswerLike w (plain_answer (join_answer es)) answer) (sym ends_are) (join_like w close.scope.ends Z.ends Z.trap Z.slots)

    childless : (j : ℕ) (z : Live) (o : Origin) → j ≢ k → get m.world.tree.tasks j ≡ Some z → z.origin ≡ Some o → o.parent ≢ k
    childless j z o apart is origin same =
        let U = T.live j z is in
        let B : BranchTied P arg rule C w R m.world.tree.tasks U.path o = subst (λ u. OriginTied P arg rule C w R m.world.tree.tasks U.path u) origin U.origin in
        let p : B.parent ≡ y = (let both : Some B.parent ≡ Some y = sym B.parent_is ∙ ap (λ i. get m.world.tree.tasks i) same ∙ y_is in cc) in
        let both : Forked B.scope ≡ Forked close.scope = sym B.state ∙ ap (λ (u : Live). u.state) p ∙ close.state in
        let scopes : B.scope ≡ close.scope = cc in
        all_there close.scope.ends B.step.1 close.ended (subst (λ (s : Scope). slice_get s.ends B.step.1 ≡ Some None) scopes B.unended)

    O : (O : Run) × Seg R V.path (mine R V.path) O × (y.out ++ joined_out close.scope.ends ≡ printed O) × (trapped O ≡ first_of close.scope.ends)
    O = out_joined R V.path y.out close.scope (subst (λ s. OutLive R V.path V.runs.state y.out s) close.state V.out) close.ended

    steps_there : step (names_of k) C x.stands.state ≡ Waits Join A.both.then_in
    steps_there = front_step C k ticks x.stands.made x.stands.state A.both.ticks A.both.made Join A.both.then_in A.both.is_in (λ i. (cc))

    falls : (t : Trap) (p : Place) → A.both.then_in (Fell t p) ≡ Off (meaning.Trapped t p)
    falls t p = kept_join (subst (λ o. Kept C x.stands.state o) steps_there (step_keeps C FJ first_numbers next_numbers k x.stands.state))
      where
        kept_join : Kept C x.stands.state (Waits Join A.both.then_in) → A.both.then_in (Fell t p) ≡ Off (meaning.Trapped t p)
        kept_join h = h.is t p

    abbrev then_at : List (Option TaskEnd) → State ℕ (ℕ × ℕ)
    then_at es = A.both.then_in (plain_answer (join_answer es))

    fine : IsFine (event ∷ O.0) (then_at close.scope.ends)
    fine = go (first_of close.scope.ends) refl
      where
        go : (o : Option (Trap × Place)) → first_of close.scope.ends ≡ o → IsFine (event ∷ O.0) (A.both.then_in (plain_answer (fell_or (first_of close.scope.ends) (all_slots close.scope.ends))))
        go None e = inl (trapped_step event O.0 ∙ O.3 ∙ e)
        go (Some f) e = inr (f, trapped_step event O.0 ∙ O.3 ∙ e, ap (λ o. A.both.then_in (plain_answer (fell_or o (all_slots close.scope.ends)))) e ∙ falls f.0 f.1)

    out_now : OutRuns (event ∷ R) V.path (then_at (ends_in (task_at m.world.tree k))) (y.out ++ joined_out (scope_ends y.state))
    out_now = record {
      segment = event ∷ O.0;
      seg = subst (λ l. Seg (event ∷ R) V.path l (event ∷ O.0)) (sym (mine_same event R V.path refl)) (seg_own event refl (λ b i. (cc)) (seg_later event O.1));
      out_is = ap (λ s. y.out ++ joined_out (scope_ends s)) close.state ∙ O.2 ∙ sym (printed_step event O.0 ∙ append-nil (printed O.0));
      fine = subst (λ es. IsFine (event ∷ O.0) (then_at es)) (sym ends_are) fine;
    }

    abbrev stepped : Stepped code P arg rule L right w R k n
    stepped = record {
      event = event;
      follows = follows;
      there = V.there;
      sight = w;
      tied = plain_next P arg rule C L m n T k y (joined_task y) y_is (wider_none T.heap.holds.distinct) refl event V.there follows refl
          (structural (Q P arg rule C) T.heap V.path ticks event refl (λ c. refl) (λ f. refl) refl) refl
          (λ j apart. changed_other m.world.tree.tasks k joined_task j y_is apart) (changed_own m.world.tree.tasks k joined_task y_is) refl
          (λ j apart. beside m.tasks k _ j apart)
          (goes_to code P arg rule L right T k ticks wants action.Join x Join A (join_answer (ends_in (task_at m.world.tree k))))
          (placed m.tasks k _ k refl ∙ goes_so code P arg rule L right T k ticks wants action.Join x Join A (join_answer (ends_in (task_at m.world.tree k))))
          (task_next code P arg rule L right T k ticks wants action.Join x Join A (join_answer (ends_in (task_at m.world.tree k))) event refl (wider_none T.heap.holds.distinct) like)
          tt out_now childless (record { steps = refl; cells = omega arith; most_steps = refl; most_cells = refl });
    }

    pub joins_next : Matched code P arg rule L right m (event_of k ticks wants action.Join) w R k n
    joins_next = record {
      stepped = stepped;
      wider = wider_none T.heap.holds.distinct;
      ticks = refl;
      action = join_alike;
      answer = answer_alike (join_answer (ends_in (task_at m.world.tree k))) like;
    }
