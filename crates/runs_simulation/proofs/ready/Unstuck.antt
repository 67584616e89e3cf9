-- What a ready task of a machine on compiled code does next can be done, but for what is left open.
use Rattle.std.proofs.Common.{◌≡◌, ◌≤◌, ◌<◌, ⊎_elim, ℕ, suc, ◌+◌, ◌^◌, ℤ, Bool, true, false, not, ◌||◌, nat_lt, List, [], ◌∷◌, ◌++◌, map, length, refl, sym, ap, ◌∙◌, subst, Option, Some, None, slice_get, arith, IsTrue, zero, ◌⊎◌, inl, inr}
use Rattle.std.proofs.lemmas.Bool.{cases_lt, ltb-true}
use Rattle.std.proofs.lemmas.List.{length-map}
use Rattle.std.proofs.lemmas.Option.{slice_get_within}
use Rattle.std.specs.Prelude.{is_some, option_map}
use Rattle.std.specs.FinMap.{get}
use Rattle.lang_base.specs.declared.effect.Effect.{Effect as PathEffect}
use Rattle.lang_base.specs.declared.outcome.Limits.{Limits}
use Rattle.lang_typed.specs.Plain.{PlainProgram}
use Rattle.lang_meaning.specs.Actions as meaning
use Rattle.code_instrs.specs.RunsToActions.{Asks as AsksAt, Dead, Finished, Halt, said}
use Rattle.code_instrs.specs.Machine.{Start}
use Rattle.code_instrs.specs.Plain.{PlainCode, plain_code}
use Rattle.code_instrs.specs.declared.code.Code.{Code}
use Rattle.code_scheme.specs.Compiled.{Compiled, SameAct, SameReply}
use Rattle.exec_heap.specs.Heap.{object_at, values_of}
use Rattle.runs_theory.specs.Actions.{Action, Begin, Branches, Do, End, Enter, Exit, Fork, Join, Next, Over, Own, Program, Reply, Rule, Task, Unknown, Went, steps}
use Rattle.runs_theory.specs.Blocks.{Allowed, Out_of, hold}
use Rattle.runs_theory.specs.Meaning.{InTurn, Lively}
use Rattle.runs_theory.specs.Objects.{Effect, LocalRegion, Name}
use Rattle.runs_theory.specs.Runs.{Event, Right, Run, Upto, answers, count, event_steps, mine, now, total}
use Rattle.runs_theory.specs.Schedules.{begins, one_begin}
use Rattle.runs_theory.proofs.events.Cost.{total_step}
use Rattle.runs_theory.proofs.runs.Faithful.{begin_after}
use Rattle.runs_theory.proofs.runs.ForkSince.{ForkSince, fork_since}
use Rattle.runs_theory.proofs.events.Mine.{Found, found}
use Rattle.runs_theory.proofs.events.Numbers.{begins_nil, begins_step}
use Rattle.lang_base.specs.declared.value.Value.{Value as Constant}
use Rattle.lang_typed.specs.declared.stmt.Forking.{Forking}
use Rattle.exec_frames.specs.Names.{plain_value}
use Rattle.exec_task.specs.declared.action.Ending.{Ending as DeclaredEnding}
use Rattle.exec_task.specs.Halts.{IsActionOf}
use Rattle.exec_task.specs.Branches.{starts_at}
use Rattle.exec_task.specs.Tasks.{Says, plain_answer}
use Rattle.exec_task.specs.declared.action.Answer.TheVariants as answer
use Rattle.exec_task.specs.declared.action.Action.{Action as DeclaredAction}
use Rattle.exec_task.specs.declared.action.Action.TheVariants as action
use Rattle.exec_task.specs.declared.action.Own.TheVariants as own
use Rattle.exec_locks.specs.Locks.{AllRoot, is_inside}
use Rattle.exec_tasks.specs.Scope.{all_begun, all_ended}
use Rattle.exec_tasks.specs.Tree.{CanBegin, OfScope, OfTask, ready, state_ready}
use Rattle.exec_tasks.specs.declared.task.State.{State as Scoped}
use Rattle.exec_tasks.specs.declared.task.State.TheVariants.{Running, Forked}
use Rattle.exec_tasks.specs.declared.task.Task.{Task as Live}
use Rattle.exec_world.specs.Ready.{IsFreeFor}
use Rattle.exec_world.specs.Waits.{wanted}
use Rattle.exec_world.specs.World.{CanEnter}
use Rattle.exec_machine.specs.Replay.{StartsIn, CanBeMade, Moment, NextOf}
use Rattle.exec_machine.specs.Wants.{noted, wanted_after}
use Rattle.runs_simulation.specs.Laws.{LeftOpen}
use Rattle.runs_simulation.proofs.alike.Sights.{each_length, Each, Sight, StartLike, each_more, each_none, ActionLike, HaltLike, OwnLike, asks_like, dead_like, end_like, finished_like, look_like, read_like, write_like}
use Rattle.runs_simulation.proofs.events.Acting.{AskedAt, IsScoped, RightFor, asked_at, at, event_of, found as found_live, here, live}
use Rattle.runs_simulation.proofs.events.Begins.{from_join_at, from_there_at}
use Rattle.runs_simulation.proofs.alike.Bodies.{body_there}
use Rattle.runs_simulation.proofs.events.Forking.{AtJoin, HasBegun}
use Rattle.runs_simulation.proofs.events.Joins.{ForksAreJoined}
use Rattle.runs_simulation.proofs.events.Asked.{ActionIn, ActionOf, AllLength, acts_at, begins_next, compiled_at, asks_begin, asks_join, asks_one, beginning_like, disciplined, forking_like, joining_like, runs_if, same_begin, same_end, same_fork, same_join}
use Rattle.runs_simulation.proofs.events.Blocks.{ending_like, leave_like, own_acts, said_same}
use Rattle.runs_simulation.proofs.tied.Inside.{BlocksTied, EffectsIn, get_there, none_open}
use Rattle.runs_simulation.proofs.alike.RunsToActions.{HaltOf}
use Rattle.runs_simulation.proofs.tied.Lives.{LivesTied, NoForkLast}
use Rattle.runs_simulation.proofs.tied.Ties.{ForkTied, LiveTied, Q, ScopeTied, Tied}
use Rattle.runs_simulation.proofs.tied.Waiting.{AllNoted, entry_noted}

noted_roots : (E : EffectsIn) → AllRoot (map noted E)
noted_roots [] = tt
noted_roots (e ∷ E) = (refl, noted_roots E)

all_roots : (o : Option EffectsIn) → AllRoot (wanted (option_map (map noted) o))
all_roots None = tt
all_roots (Some E) = noted_roots E

-- lists that are like, back from the second
each_back : {A B : Type 0} {K : A → B → Type 0} {xs : List A} {ys : List B} (n : ℕ) (z : B) → Each K xs ys → slice_get ys n ≡ Some z
    → (x : A) × (slice_get xs n ≡ Some x) × K x z
each_back {K = K} n z each_none e = absurd (let none : None ≡ Some z = e in cc)
each_back {K = K} zero z (each_more {x = u} {y = v} h t) e = (u, refl, (let same : v ≡ z = cc in subst (λ y. K u y) same h))
each_back (suc n) z (each_more h t) e = each_back n z t e

-- each branch that begins costs a step
begins_paid : (R : Run) → begins R ≤ total event_steps R
begins_paid [] = (let b = begins_nil in omega (arith, b))
begins_paid (e ∷ R) = (let r = begins_paid R in let b = begins_step e R in let t = total_step event_steps e R in let o = one_paid e.act in omega (arith, r, b, t, o))
  where
    one_paid : (a : Action) → one_begin a ≤ steps a
    one_paid (Begin b) = omega arith
    one_paid (Do o) = omega arith
    one_paid (Fork ts) = omega arith
    one_paid Join = omega arith
    one_paid (End x) = omega arith

-- what is said is an action, or nothing is known
never_over : (h : HaltOf) → said h ≡ Over → ⊥
never_over (AsksAt n m a f) e = cc
never_over (Finished n z) e = cc
never_over Dead e = cc

module _ (code : Code) (P : PlainProgram) (arg : ℤ) (rule : Rule) (L : Limits) (right : RightFor (plain_code code) P) (FJ : ForksAreJoined (plain_code code)) where
  abbrev C : PlainCode
  C = plain_code code

  abbrev QR : Program
  QR = Q P arg rule C

  module _ {m : Moment} {w : Sight} {R : Run} (T : Tied P arg rule C L m w R) (short : m.world.steps ≤ 20000001) (B : BlocksTied w R m.world) (lives : LivesTied w R m)
      (noted_all : AllNoted C m) (lively : Lively QR) (in_turn : InTurn QR) (k ticks : ℕ) (wants : Option (List PathEffect)) where
    abbrev At : DeclaredAction → Type 0
    At a = NextOf C m k (event_of k ticks wants a)

    abbrev Stuck_at : (a : DeclaredAction) → At a → Type 0
    Stuck_at a x = (CanBeMade C m.world (event_of k ticks wants a) x.stands.state → ⊥) → LeftOpen m.world k a

    module _ (a : DeclaredAction) (x : At a) where
      abbrev y : (y : Live) × (get m.world.tree.tasks k ≡ Some y)
      y = found_live code P arg rule L right T k ticks wants a x

      abbrev V : LiveTied P arg rule C w R m.world.tree.tasks m.tasks k y.0
      V = live code P arg rule L right T k ticks wants a x

      -- what is asked of it
      asked_by : (K : Type 0)
          → ((n : ℕ) (act : Action) (b : ActionIn) (c : ActionOf) → QR.meaning V.path V.task.task (answers (mine R V.path)) ≡ Next n act → Says C a b → ActionLike w b c
          → SameAct C P act c → K) → K
      asked_by K use_it = go (QR.meaning V.path V.task.task (answers (mine R V.path))) refl
        where
          by_halt : (n : ℕ) (act : Action) → QR.meaning V.path V.task.task (answers (mine R V.path)) ≡ Next n act → {h : Halt ℕ (ℕ × ℕ)} {g : HaltOf} → HaltLike w h g
              → IsActionOf C a h → SameReply C P (Next n act) (said g) → K
          by_halt n act e (asks_like i made {a = b} {b = c} l on) is_action same =
              use_it n act b c e is_action l (subst (λ c. SameAct C P act c) (sym (said_same i n c same.0 same.1)) same.2)
          by_halt n act e (finished_like i {e = z} {f = f} l) is_action same =
              use_it n act (End z) (End f) e is_action (end_like l) (subst (λ c. SameAct C P act c) (sym (said_same i n (End f) same.0 same.1)) same.2)
          by_halt n act e dead_like is_action same = absurd is_action

          go : (r : Reply) → QR.meaning V.path V.task.task (answers (mine R V.path)) ≡ r → K
          go (Next n act) e =
              let H = here code P arg rule L right T k ticks wants a x in
              by_halt n act e H.like x.stands.is_action (subst (λ r. SameReply C P r (said H.halt)) e H.same)
          go Over e = absurd (let H = here code P arg rule L right T k ticks wants a x in never_over H.halt (subst (λ r. SameReply C P r (said H.halt)) e H.same))
          go Unknown e = absurd (let H = here code P arg rule L right T k ticks wants a x in subst (λ r. SameReply C P r (said H.halt)) e H.same)

      -- who stands after a fork has an open scope
      forked : (n b : ℕ) (act : Action) → QR.meaning V.path V.task.task (answers (mine R V.path)) ≡ Next n act → (ts : Branches) → b ≤ length ts.tasks
          → ForkSince QR R T.faithful V.path ts b → y.0.state ≡ Running → ⊥
      forked n b act asks ts within J run = go J.since refl
        where
          rests : NoForkLast (mine R V.path)
          rests = lives.rests k y.0 V.path y.1 V.there run

          go : (es : Run) → J.since ≡ es → ⊥
          go [] e = (subst NoForkLast (J.last ∙ ap (λ es. es ++ J.fork ∷ mine J.before V.path) e) rests).0 ts J.act
          go (z ∷ zs) e = (subst NoForkLast last rests).1 (length zs) begins_so
            where
              last : mine R V.path ≡ z ∷ zs ++ J.fork ∷ mine J.before V.path
              last = J.last ∙ ap (λ es. es ++ J.fork ∷ mine J.before V.path) e

              at : Found R V.path z (zs ++ J.fork ∷ mine J.before V.path)
              at = found R V.path (subst (λ l. Upto (z ∷ zs ++ J.fork ∷ mine J.before V.path) l) (sym last) now)

              begins_so : z.act ≡ Begin (length zs)
              begins_so = begin_after QR (disciplined P arg rule C) V.path ts (length zs) T.faithful J.stands J.path J.act at.stands at.path
                  (ap length at.mine_is ∙ length_on zs) (let m = J.many in let l = ap length e in omega (arith, m, l, within))
                where
                  length_on : (es : Run) → length (es ++ J.fork ∷ mine J.before V.path) ≡ suc (count J.before V.path + length es)
                  length_on [] = omega arith
                  length_on (e ∷ es) = (let r = length_on es in omega (arith, r))

      -- an object that it acts on is there
      object_in : (n : ℕ) (z : Name) → slice_get w.names n ≡ Some z → n < length m.world.heap.objects
      object_in n z e =
          let many = T.heap.holds.many ∙ sym (length-map T.heap.store.heap (λ h. h.values)) ∙ ap length T.heap.values
          ∙ length-map m.world.heap.objects (λ o. map plain_value (values_of o)) in
          let l = slice_get_within w.names n z e in omega (arith, many, l)

    -- one clause an action
    stuck_rest : (x : At (action.Do own.Rest)) → Stuck_at (action.Do own.Rest) x
    stuck_rest x unmade = absurd (unmade (record { fits = subst (λ o. AllRoot (wanted o)) (sym x.stands.wants) (all_roots (wanted_after C ticks x.stands.state)); starts = tt }))

    stuck_read : (n : ℕ) (j : ℤ) (x : At (action.Do (own.Read n j))) → Stuck_at (action.Do (own.Read n j)) x
    stuck_read n j x unmade =
        asked_by (action.Do (own.Read n j)) x ⊥ (λ i act b c asks says like same. (let q = own_acts C P act like same (meaning.Read n j) says in
        unmade (record { fits = read_there q.2; starts = tt })))
      where
        read_there : {q : Own} → OwnLike w (meaning.Read n j) q → n < length m.world.heap.objects
        read_there (read_like n z i e) = object_in (action.Do (own.Read n j)) x n z e

    stuck_write : (n : ℕ) (j : ℤ) (v : Constant) (x : At (action.Do (own.Write n j v))) → Stuck_at (action.Do (own.Write n j v)) x
    stuck_write n j v x unmade =
        asked_by (action.Do (own.Write n j v)) x ⊥ (λ i act b c asks says like same. (let q = own_acts C P act like same (meaning.Write n j (plain_value v)) says in
        unmade (record { fits = write_there q.2; starts = tt })))
      where
        write_there : {q : Own} → OwnLike w (meaning.Write n j (plain_value v)) q → n < length m.world.heap.objects
        write_there (write_like n z i e l) = object_in (action.Do (own.Write n j v)) x n z e

    stuck_look : ((n : ℕ) → length (values_of (object_at m.world.heap n)) < 2 ^ 31) → (n : ℕ) (x : At (action.Do (own.Look n))) → Stuck_at (action.Do (own.Look n)) x
    stuck_look small n x unmade = asked_by (action.Do (own.Look n)) x ⊥ (λ i act b c asks says like same. (let q = own_acts C P act like same (meaning.Look n) says in
        unmade (record { fits = (look_there q.2, small n); starts = tt })))
      where
        look_there : {q : Own} → OwnLike w (meaning.Look n) q → n < length m.world.heap.objects
        look_there (look_like n z e) = object_in (action.Do (own.Look n)) x n z e

    stuck_enter : (effects : List PathEffect) (x : At (action.Do (own.Enter effects))) → Stuck_at (action.Do (own.Enter effects)) x
    stuck_enter effects x unmade =
        absurd (unmade (record {
          fits = (let waits = entry_noted C m k ticks wants effects x noted_all in
              subst (λ o. CanEnter m.world.locks k o) (sym waits) (subst (λ o. IsFreeFor m.world.locks k o) waits x.ready.1));
          starts = tt;
        }))

    stuck_end : (z : DeclaredEnding) (x : At (action.End z)) → Stuck_at (action.End z) x
    stuck_end z x unmade =
        asked_by (action.End z) x ⊥ (λ i act b c asks says like same.
        (let h = ending_like (subst (λ b. ActionLike w b c) says like) in
        let is = same_end C P act h.0 (subst (λ c. SameAct C P act c) h.1 same) in
        unmade (record {
          fits = subst (λ o. OfTask o (λ task. task.state ≡ Running)) (sym (y (action.End z) x).1)
              (runs_if P arg rule C w T.faithful (V (action.End z) x).runs.state (y (action.End z) x).0.state (V (action.End z) x).scope (V (action.End z) x).task.task
              (V (action.End z) x).task.begun i act asks (λ b e. (let both : End h.0 ≡ Begin b = sym is ∙ e in cc)) (λ e. (let both : End h.0 ≡ Join = sym is ∙ e in cc)));
          starts = tt;
        })))

    stuck_fork : (forking : Forking) (many : ℕ) (x : At (action.Fork forking many)) → Stuck_at (action.Fork forking many) x
    stuck_fork forking many x unmade = ⊎_elim
        (λ few. absurd (asked_by (action.Fork forking many) x ⊥ (λ i act b c asks says like same.
        (let h = forking_like (subst (λ b. ActionLike w b c) says.1 like) in
        let f = same_fork C P act forking h.0 (subst (λ c. SameAct C P act c) h.1 same) in
        unmade (record {
          fits = (
            subst (λ o. OfTask o (λ task. task.state ≡ Running)) (sym (y (action.Fork forking many) x).1)
                (runs_if P arg rule C w T.faithful (V (action.Fork forking many) x).runs.state (y (action.Fork forking many) x).0.state (V (action.Fork forking many) x).scope
                (V (action.Fork forking many) x).task.task (V (action.Fork forking many) x).task.begun i act asks
                (λ b e. (let both : Fork f.0 ≡ Begin b = sym f.1 ∙ e in cc)) (λ e. (let both : Fork f.0 ≡ Join = sym f.1 ∙ e in cc))),
            few,
          );
          starts = tt;
        }))))) (λ wide. wide) (cases_lt many (2 ^ 32))

    -- a join
    join_can : (x : At action.Join) → CanBeMade C m.world (event_of k ticks wants action.Join) x.stands.state
    join_can x = asked_by action.Join x (CanBeMade C m.world (event_of k ticks wants action.Join) x.stands.state) (λ i act b c asks says like same.
        joins i (asks ∙ ap (λ a. Next i a) (same_join C P act (subst (λ c. SameAct C P act c) (joining_like (subst (λ b. ActionLike w b c) says like)) same))))
      where
        joins : (i : ℕ) → QR.meaning (V action.Join x).path (V action.Join x).task.task (answers (mine R (V action.Join x).path)) ≡ Next i Join → CanBeMade C m.world (event_of k ticks wants action.Join) x.stands.state
        joins i asks = by_state (y action.Join x).0.state refl (V action.Join x).scope
          where
            free : IsTrue (state_ready (y action.Join x).0.state)
            free = subst (λ o. IsTrue (ready o)) (y action.Join x).1 x.ready.0

            by_state : (s : Scoped) → (y action.Join x).0.state ≡ s → ScopeTied P arg rule C w R (V action.Join x).path (V action.Join x).runs.state (y action.Join x).0.state → CanBeMade C m.world (event_of k ticks wants action.Join) x.stands.state
            by_state Running s scope =
                let j = lively.joins_forked (V action.Join x).path (V action.Join x).task.task (answers (mine R (V action.Join x).path)) (i, asks) in
                absurd (forked action.Join x i (length j.0.tasks) Join asks j.0 (omega arith)
                (fork_since QR R T.faithful (V action.Join x).path (V action.Join x).task.task j.0 (length j.0.tasks) (V action.Join x).task.begun j.1) s)
            by_state (Forked scope) s tied = by_count (nat_lt (length scope.ends) scope.count) refl
              where
                F : ForkTied P arg rule C w R (V action.Join x).path (V action.Join x).runs.state scope
                F = subst (λ s. ScopeTied P arg rule C w R (V action.Join x).path (V action.Join x).runs.state s) s tied

                by_count : (b : Bool) → nat_lt (length scope.ends) scope.count ≡ b → CanBeMade C m.world (event_of k ticks wants action.Join) x.stands.state
                by_count true c = absurd (
                    let both : Join ≡ Begin (length scope.ends) =
                    sym (asks_one P arg rule C R (V action.Join x).path (V action.Join x).task.task i
                    (asks_begin P arg rule C T.faithful F (V action.Join x).task.task (V action.Join x).task.begun (ltb-true (length scope.ends) scope.count c)) asks) in cc)
                by_count false c = record {
                  fits = subst (λ o. OfTask o (λ task. OfScope task.state (λ scope. IsTrue (all_begun scope) × IsTrue (all_ended scope)))) (sym (y action.Join x).1)
                      (subst (λ s. OfScope s (λ scope. IsTrue (all_begun scope) × IsTrue (all_ended scope))) (sym s)
                      (ap not c, ap (λ b. b || all_ended scope) (sym c) ∙ subst (λ s. IsTrue (state_ready s)) s free));
                  starts = tt;
                }

    stuck_join : (x : At action.Join) → Stuck_at action.Join x
    stuck_join x unmade = unmade (join_can x)

    -- a begin
    module _ (b : ℕ) (x : At (action.Begin b)) where
      abbrev U : LiveTied P arg rule C w R m.world.tree.tasks m.tasks k (y (action.Begin b) x).0
      U = V (action.Begin b) x

      A : AskedAt code P arg rule L right T k ticks wants (action.Begin b) x (Begin b)
      A = asked_at code P arg rule L right T k ticks wants (action.Begin b) x (Begin b)
          (acts_at C (action.Begin b) (Begin b) (λ e i. (cc)) (λ c e. e) (at code P arg rule L right T k ticks wants (action.Begin b) x) x.stands.is_action)

      asks : QR.meaning U.path U.task.task (answers (mine R U.path)) ≡ Next ticks (Begin b)
      asks = A.asks ∙ ap (λ c. Next ticks c) (same_begin C P A.act b (subst (λ c. SameAct C P A.act c) (beginning_like A.both.like) A.same))

      absent : (o : Option Live) → get m.world.tree.tasks m.world.tree.begun ≡ o → o ≡ None
      absent None e = refl
      absent (Some z) e =
          absurd (let W = T.live m.world.tree.begun z e in let l = slice_get_within w.paths m.world.tree.begun W.path W.there in let many = T.numbers.many in omega (arith, l, many))

      outside : is_inside m.world.locks m.world.tree.begun ≡ false
      outside = ap (λ o. is_some o) (B.none m.world.tree.begun (absent (get m.world.tree.tasks m.world.tree.begun) refl))

      room : m.world.tree.begun < 4294967295
      room = (let c = T.numbers.count in let p = begins_paid R in let s = T.costs.steps in omega (arith, c, p, s, short))

      -- the scope is open, and the branch has a start
      record Opens : Type 0 where
        opens : CanBegin m.world.tree.tasks k
        starts : StartsIn C (slice_get (starts_at C x.stands.state) b)

      by_state : (s : Scoped) → (y (action.Begin b) x).0.state ≡ s → ScopeTied P arg rule C w R U.path U.runs.state (y (action.Begin b) x).0.state → Opens
      by_state Running s scope =
          absurd (let j = in_turn.begins_forked U.path U.task.task (answers (mine R U.path)) b (ticks, asks) in
          let l = j.1 in
          forked (action.Begin b) x ticks b (Begin b) asks j.0 (omega (arith, l)) (fork_since QR R T.faithful U.path U.task.task j.0 b U.task.begun j.2) s)
      by_state (Forked scope) s tied = by_count (cases_lt (length scope.ends) scope.count)
        where
          F : ForkTied P arg rule C w R U.path U.runs.state scope
          F = subst (λ s. ScopeTied P arg rule C w R U.path U.runs.state s) s tied

          begins_it : length scope.ends < scope.count → Opens
          begins_it l = record {
            opens = subst (λ o. OfTask o (λ task. OfScope task.state (λ scope. length scope.ends < scope.count))) (sym (y (action.Begin b) x).1)
                (subst (λ s. OfScope s (λ scope. length scope.ends < scope.count)) (sym s) l);
            starts = subst (λ o. StartsIn C o) (sym (ap (λ l. slice_get l b) (sym there ∙ from.2) ∙ first.1))
                (subst (λ j. j < length C.bodies) (sym first.2.body) (body_there C P start.0 task.0 task.2));
          }
            where
              b_is : length scope.ends ≡ b
              b_is = begins_next P arg rule C T.faithful scope F U.task.task U.task.begun ticks b asks l

              from : AtJoin C (A.both.then_in (plain_answer answer.Went)) × HasBegun C (A.both.then_in (plain_answer answer.Went))
                  × (starts_at C (A.both.then_in (plain_answer answer.Went)) ≡ starts_at C U.runs.state)
              from = from_join_at code P arg rule L right FJ T short k ticks wants b x A F b_is

              there : starts_at C (A.both.then_in (plain_answer answer.Went)) ≡ starts_at C x.stands.state
              there = from_there_at code P arg rule L right FJ T short k ticks wants b x A F b_is

              start : (c : Start Name LocalRegion) × (slice_get F.starts b ≡ Some c)
              start = get_there F.starts b (let e = AllLength C P F.starts F.tasks.tasks F.compiled in let c = F.many in omega (arith, e, c, l, b_is))

              task : (t : Task) × (slice_get F.tasks.tasks b ≡ Some t) × Compiled C P start.0 t
              task = compiled_at C P F.starts F.tasks.tasks b start.0 F.compiled start.1

              first : (s : Start ℕ (ℕ × ℕ)) × (slice_get (starts_at C U.runs.state) b ≡ Some s) × StartLike w s start.0
              first = each_back b start.0 F.like start.1

          by_count : (length scope.ends < scope.count) ⊎ (scope.count ≤ length scope.ends) → Opens
          by_count (inl l) = begins_it l
          by_count (inr l) =
              absurd (let both : Begin b ≡ Join = sym (asks_one P arg rule C R U.path U.task.task ticks
              (asks_join P arg rule C T.faithful F U.task.task U.task.begun l) asks) in cc)

      opened : Opens
      opened = by_state (y (action.Begin b) x).0.state refl U.scope

      begin_can : CanBeMade C m.world (event_of k ticks wants (action.Begin b)) x.stands.state
      begin_can = record { fits = (opened.opens, room, outside); starts = opened.starts }

      stuck_begin : Stuck_at (action.Begin b) x
      stuck_begin unmade = unmade begin_can

    -- a begin or a join can be made
    pub scoped_can : (a : DeclaredAction) (x : At a) → IsScoped a → CanBeMade C m.world (event_of k ticks wants a) x.stands.state
    scoped_can (action.Begin b) x scoped = begin_can b x
    scoped_can action.Join x scoped = join_can x
    scoped_can a x scoped = absurd scoped

    pub stuck_any : ((n : ℕ) → length (values_of (object_at m.world.heap n)) < 2 ^ 31) → (a : DeclaredAction) (x : At a) → Stuck_at a x
    stuck_any small (action.Do own.Rest) x unmade = stuck_rest x unmade
    stuck_any small (action.Do (own.Read n j)) x unmade = stuck_read n j x unmade
    stuck_any small (action.Do (own.Write n j v)) x unmade = stuck_write n j v x unmade
    stuck_any small (action.Do (own.Look n)) x unmade = stuck_look small n x unmade
    stuck_any small (action.Do (own.Enter effects)) x unmade = stuck_enter effects x unmade
    stuck_any small (action.Do own.Exit) x unmade = λ open_so. unmade (record { fits = open_so; starts = tt })
    stuck_any small (action.Do o) x unmade = unmade (record { fits = tt; starts = tt })
    stuck_any small (action.Fork forking many) x unmade = stuck_fork forking many x unmade
    stuck_any small (action.Begin b) x unmade = stuck_begin b x unmade
    stuck_any small action.Join x unmade = stuck_join x unmade
    stuck_any small (action.End z) x unmade = stuck_end z x unmade

    -- an event that comes next in the run where the task stands, and is no entry
    module _ (a : DeclaredAction) (x : At a) where
      abbrev next_one : ℕ → Action → Event
      next_one n act = record { path = (V a x).path; ticks = n; act = act; ans = Went }

      allowed_there : (n : ℕ) (act : Action) → QR.meaning (V a x).path (V a x).task.task (answers (mine R (V a x).path)) ≡ Next n act
          → ((E : List Effect) → act ≡ Do (Enter E) → ⊥) → Right QR R (V a x).path act Went → Allowed QR R (next_one n act)
      allowed_there n act asks no_entry right = record {
        follows = record { task = (V a x).task.task; begun = (V a x).task.begun; asks = asks; right = right };
        enters = λ E e. absurd (no_entry E e);
      }

    -- what the run comes to where an exit or a fork is left open
    pub exit_next : (x : At (action.Do own.Exit)) → LeftOpen m.world k (action.Do own.Exit)
        → (e : Event) × Allowed QR R e × (e.act ≡ Do Exit) × (hold (mine R e.path) ≡ Out_of)
    exit_next x closed =
        asked_by (action.Do own.Exit) x ((e : Event) × Allowed QR R e × (e.act ≡ Do Exit) × (hold (mine R e.path) ≡ Out_of)) (λ n act b c asks says like same.
        let q = own_acts C P act like same meaning.Exit says in
        let is : act ≡ Do Exit = q.1 ∙ ap (λ (o : Own). Do o) (leave_like q.2) in (
          next_one (action.Do own.Exit) x n act,
          allowed_there (action.Do own.Exit) x n act asks (λ E e. (let both : Do Exit ≡ Do (Enter E) = sym is ∙ e in cc))
              (subst (λ act. Right QR R (V (action.Do own.Exit) x).path act Went) (sym is) refl),
          is,
          none_open (B.stand k (y (action.Do own.Exit) x).0 (V (action.Do own.Exit) x).path (y (action.Do own.Exit) x).1 (V (action.Do own.Exit) x).there) closed,
        ))

    pub fork_next : (forking : Forking) (many : ℕ) (x : At (action.Fork forking many))
        → (e : Event) × Allowed QR R e × (ts : Branches) × (e.act ≡ Fork ts) × (length ts.tasks ≡ many)
    fork_next forking many x =
        asked_by (action.Fork forking many) x ((e : Event) × Allowed QR R e × (ts : Branches) × (e.act ≡ Fork ts) × (length ts.tasks ≡ many)) (λ n act b c asks says like same.
        let h = forking_like (subst (λ b. ActionLike w b c) says.1 like) in
        let f = same_fork C P act forking h.0 (subst (λ c. SameAct C P act c) h.1 same) in (
          next_one (action.Fork forking many) x n act,
          allowed_there (action.Fork forking many) x n act asks (λ E e. (let both : Fork f.0 ≡ Do (Enter E) = sym f.1 ∙ e in cc))
              (subst (λ act. Right QR R (V (action.Fork forking many) x).path act Went) (sym f.1) refl),
          f.0,
          f.1,
          sym (AllLength C P h.0 f.0.tasks f.2) ∙ sym (each_length h.2) ∙ says.2,
        ))
