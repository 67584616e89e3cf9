-- A task that is ready in the run is ready in the machine that records it.
use Rattle.std.proofs.Common.{◌≡◌, ◌≤◌, inl, inr, ⊎_elim, ℕ, suc, ◌+◌, ◌==◌, ℤ, Bool, true, false, not, ◌&&◌, ◌||◌, nat_lt, List, [], ◌∷◌, map, length, refl, sym, ap, ◌∙◌, subst, Option, Some, None, slice_get, arith, length-append, IsTrue}
use Rattle.std.proofs.lemmas.Option.{slice_get_within}
use Rattle.std.specs.Prelude.{is_some}
use Rattle.std.specs.List.{list_all}
use Rattle.std.specs.FinMap.{get}
use Rattle.lang_base.specs.declared.effect.Effect.{Effect as PathEffect}
use Rattle.lang_base.specs.declared.outcome.Limits.{Limits}
use Rattle.lang_typed.specs.Plain.{PlainProgram}
use Rattle.lang_meaning.specs.Actions as meaning
use Rattle.code_instrs.specs.RunsToActions.{said, Asks as AsksAt}
use Rattle.code_instrs.specs.Plain.{PlainCode, plain_code}
use Rattle.code_instrs.specs.declared.code.Code.{Code}
use Rattle.code_scheme.specs.Compiled.{SameAct, SameReply}
use Rattle.runs_theory.specs.Actions.{Do, Ending, Enter, Join, Next, Task}
use Rattle.runs_theory.specs.Objects.{Effect, Path}
use Rattle.runs_theory.specs.Runs.{Begun, Ended, Event, Faithful, Follows, Run, answers, count, later, mine, now}
use Rattle.runs_theory.specs.Schedules.{Ready}
use Rattle.runs_theory.specs.Standing.{CanEnter, Outside, standing}
use Rattle.runs_theory.proofs.runs.Faithful.{JoinAt, agree_self, branch_ended, none_after_end, same_task}
use Rattle.runs_theory.proofs.events.Mine.{mine_at}
use Rattle.runs_theory.proofs.events.Numbers.{number_one, number_same}
use Rattle.runs_theory.proofs.runs.Standing.{opener_stands, stands_outside}
use Rattle.runs_theory.proofs.events.Upto.{upto_length}
use Rattle.runs_theory.proofs.runs.Written.{admitted_from}
use Rattle.runs_program.specs.Interfering as run
use Rattle.exec_locks.specs.Locks as locks
use Rattle.exec_locks.specs.declared.standing.Standing.{Standing as Lock}
use Rattle.exec_locks.specs.declared.standing.Standing.TheVariants.{Adopted, Opener}
use Rattle.exec_tasks.specs.Scope.{Branches as Scope, all_ended, can_go_on}
use Rattle.exec_tasks.specs.Tree.{ready, state_ready}
use Rattle.exec_tasks.specs.declared.end.TaskEnd.{TaskEnd}
use Rattle.exec_tasks.specs.declared.task.State.{State}
use Rattle.exec_tasks.specs.declared.task.State.TheVariants.{Running as Runs, Forked}
use Rattle.exec_tasks.specs.declared.task.Task.{Task as Live}
use Rattle.exec_world.specs.Ready.{IsFreeFor, IsReady}
use Rattle.exec_machine.specs.Replay.{Moment}
use Rattle.exec_machine.specs.Running.{Goes, Running}
use Rattle.exec_machine.specs.Wants.{noted}
use Rattle.runs_simulation.proofs.alike.Sights.{Sight, EffectsLike, HaltLike, asks_like}
use Rattle.runs_simulation.proofs.events.Asked.{ThenIn, asks_join, asks_one, disciplined, own_like, same_do, Stood, stood}
use Rattle.runs_simulation.proofs.events.Acting.{RightFor}
use Rattle.runs_simulation.proofs.events.Blocks.{entry_like, numbered_low, said_same}
use Rattle.runs_simulation.proofs.tied.Branching.{Branch}
use Rattle.runs_simulation.proofs.tied.Inside.{BlocksTied, StandTied, get_there, has_opened, stands_out, was_adopted}
use Rattle.runs_simulation.proofs.events.Joinings.{not_less}
use Rattle.runs_simulation.proofs.alike.RunsToActions.{HaltOf}
use Rattle.runs_simulation.proofs.tied.Lives.{LivesTied}
use Rattle.runs_simulation.proofs.alike.Noted.{OneNumber, lists_like, lists_swap}
use Rattle.runs_simulation.proofs.events.Resting.{entry_next, run_rested}
use Rattle.runs_simulation.proofs.tied.Ties.{BranchTied, ForkTied, LiveTied, OriginTied, Q, ScopeTied, Tied}
use Rattle.runs_simulation.proofs.tied.Trees.{path_one}
use Rattle.runs_simulation.proofs.tied.Waiting.{Rests, RestsAlone}

all_some : (es : List (Option TaskEnd)) → ((b : ℕ) → slice_get es b ≡ Some None → ⊥) → list_all is_some es ≡ true
all_some [] h = refl
all_some (None ∷ es) h = absurd (h 0 refl)
all_some (Some e ∷ es) h = all_some es (λ b i. h (suc b) i)

or_right : (a b : Bool) → b ≡ true → (a || b) ≡ true
or_right true b e = refl
or_right false b e = e

-- the block of a lock that hinders
module _ (code : Code) (P : PlainProgram) (arg : ℤ) (L : Limits) (right : RightFor (plain_code code) P) where
  abbrev C : PlainCode
  C = plain_code code

  module _ {m : Moment} {w : Sight} {R : Run} (T : Tied P arg run.lets C L m w R) (B : BlocksTied w R m.world) (lives : LivesTied w R m) (rests : RestsAlone C m)
      (all_go : (k : ℕ) (t : Running) → m.tasks k ≡ Some t → Goes C k t) (k : ℕ) (e : Event) (ready_so : Ready (Q P arg run.lets C) R k e) where
    follows : Follows (Q P arg run.lets C) R e
    follows = ready_so.allowed.follows

    faithful : Faithful (Q P arg run.lets C) (e ∷ R)
    faithful = (follows, T.faithful)

    path_so : slice_get w.paths k ≡ Some e.path
    path_so =
        let low = numbered_low ready_so.number in
        let many = T.numbers.many in
        let counted = T.numbers.count in
        let r = get_there w.paths k (omega (arith, low, many, counted)) in
        subst (λ z. slice_get w.paths k ≡ Some z) (number_one (T.numbers.numbered k r.0 r.1) ready_so.number) r.1

    -- it is live
    not_ended : (z : Ending) → Ended R e.path z → ⊥
    not_ended z g =
        let most = none_after_end (Q P arg run.lets C) (disciplined P arg run.lets C) e.path faithful (later g.stands) g.path g.act now refl in
        let l = upto_length (mine_at e.path g.stands g.path) in omega (arith, most, l)

    live : (y : Live) × (get m.world.tree.tasks k ≡ Some y)
    live = ⊎_elim (λ y. y) (λ g. absurd (not_ended g.0 g.1)) (B.there k e.path path_so)

    V : LiveTied P arg run.lets C w R m.world.tree.tasks m.tasks k live.0
    V = T.live k live.0 live.1

    own_path : V.path ≡ e.path
    own_path = path_one w k V.there path_so

    -- what it does next
    asks : (Q P arg run.lets C).meaning V.path V.task.task (answers (mine R V.path)) ≡ Next e.ticks e.act
    asks =
        let path : e.path ≡ V.path = sym own_path in
        let task : follows.task ≡ V.task.task = same_task (agree_self R) (subst (λ q. Begun (Q P arg run.lets C) R q follows.task) path follows.begun) V.task.begun in
        ap (λ t. (Q P arg run.lets C).meaning V.path t (answers (mine R V.path))) (sym task)
        ∙ subst (λ q. (Q P arg run.lets C).meaning q follows.task (answers (mine R q)) ≡ Next e.ticks e.act) path follows.asks

    -- all its branches have ended where it joins
    module _ (scope : Scope) (state : live.0.state ≡ Forked scope) (all_begun : scope.count ≤ length scope.ends) where
      F : ForkTied P arg run.lets C w R V.path V.runs.state scope
      F = subst (λ s. ScopeTied P arg run.lets C w R V.path V.runs.state s) state V.scope

      joins : e.act ≡ Join
      joins = sym (asks_one P arg run.lets C R V.path V.task.task e.ticks (asks_join P arg run.lets C T.faithful F V.task.task V.task.begun all_begun) asks)

      since : count R V.path ≡ length F.since + suc (count F.before V.path)
      since = ap length F.last ∙ length-append F.since (F.fork ∷ mine F.before V.path)

      abbrev at : JoinAt (Q P arg run.lets C) (disciplined P arg run.lets C) (e ∷ R) V.path (count F.before V.path) (length F.tasks.tasks)
      at = record {
        before = R;
        event = e;
        stands = now;
        path = sym own_path;
        number = (let a = since in let b = F.begun in let c = F.within in let d = F.many in omega (arith, a, b, c, d, all_begun));
        act = joins;
      }

      no_branch : (b : ℕ) → slice_get scope.ends b ≡ Some None → ⊥
      no_branch b h = by_origin D_of
        where
          D_of : Branch m.world.tree.tasks k b
          D_of = lives.branches k b live.0 scope live.1 state h

          U : LiveTied P arg run.lets C w R m.world.tree.tasks m.tasks D_of.number D_of.task
          U = T.live D_of.number D_of.task D_of.there

          D : BranchTied P arg run.lets C w R m.world.tree.tasks U.path D_of.origin
          D = subst (λ o. OriginTied P arg run.lets C w R m.world.tree.tasks U.path o) D_of.origin_is U.origin

          above_is : D.above ≡ V.path
          above_is = path_one w k (subst (λ i. slice_get w.paths i ≡ Some D.above) D_of.parent D.there) V.there

          scope_is : D.scope ≡ scope
          scope_is =
              let parent : D.parent ≡ live.0 = (let both : Some D.parent ≡ Some live.0 = sym D.parent_is ∙ ap (λ i. get m.world.tree.tasks i) D_of.parent ∙ live.1 in cc) in
              let both : Forked D.scope ≡ Forked scope = sym D.state ∙ ap (λ (l : Live). l.state) parent ∙ state in cc

          first : D.step.0 ≡ count F.before V.path
          first =
              let n : suc (D.step.0 + length scope.ends) ≡ count R V.path =
              ap (λ (s : Scope). suc (D.step.0 + length s.ends)) (sym scope_is) ∙ D.number ∙ ap (λ q. count R q) above_is in
              let a = since in
              let b = F.begun in omega (arith, n, a, b)

          within : (t : Task) × (slice_get F.tasks.tasks D.step.1 ≡ Some t)
          within =
              let l = slice_get_within scope.ends b None h in
              let c = F.within in
              let d = F.many in
              let s : D.step.1 ≡ b = sym D.branch ∙ D_of.branch in
              get_there F.tasks.tasks D.step.1 (omega (arith, l, c, d, s))

          by_origin : Branch m.world.tree.tasks k b → ⊥
          by_origin z =
              let g = branch_ended (Q P arg run.lets C) (disciplined P arg run.lets C) V.path F.tasks D.step within.0 faithful (later F.stands) F.path F.act first within.1 at in
              lives.unended D_of.number D_of.task U.path D_of.there U.there g.0
              (subst (λ q. Ended R q g.0) (ap (λ q. D.step ∷ q) (sym above_is) ∙ sym D.is) g.1)

    is_free : IsTrue (ready (get m.world.tree.tasks k))
    is_free = subst (λ o. IsTrue (ready o)) (sym live.1) (by_state live.0.state refl)
      where
        by_state : (s : State) → live.0.state ≡ s → IsTrue (state_ready s)
        by_state Runs i = refl
        by_state (Forked scope) i = by_count (nat_lt (length scope.ends) scope.count) refl
          where
            by_count : (b : Bool) → nat_lt (length scope.ends) scope.count ≡ b → IsTrue (can_go_on scope)
            by_count true c = ap (λ b. b || all_ended scope) c
            by_count false c = or_right (nat_lt (length scope.ends) scope.count) (all_ended scope) (all_some scope.ends (no_branch scope i (not_below c)))
              where
                not_below : nat_lt (length scope.ends) scope.count ≡ false → scope.count ≤ length scope.ends
                not_below c = not_less (length scope.ends) scope.count (ap not c)

    -- and it may enter the block in front of which it has rested
    module _ (W : List PathEffect) (waits : get m.world.waits k ≡ Some W) where
      r : Rests C m k W
      r = rests k W waits

      same : V.runs ≡ r.task
      same = (let both : Some V.runs ≡ Some r.task = sym V.runs_so ∙ r.there in cc)

      goes : Goes C k V.runs
      goes = all_go k V.runs V.runs_so

      halts : (f : ThenIn) × (goes.halt ≡ AsksAt 0 V.runs.made (meaning.Do (meaning.Enter r.entry)) f)
      halts = run_rested C k V.runs.made V.runs.state goes.halt r.entry (ap (λ (t : Running). entry_next C t.state) same ∙ r.next) goes.run_to_action

      H : Stood P arg run.lets C right T.heap.holds.distinct k V.path V.there V.task goes.run_to_action
      H = stood P arg run.lets C right T.heap.holds.distinct k V.path V.there V.task goes.run_to_action

      entry : (F : List Effect) × (e.act ≡ Do (Enter F)) × EffectsLike w r.entry F
      entry = go (subst (λ h. HaltLike w h H.halt) halts.1 H.like) (subst (λ q. SameReply C P q (said H.halt)) asks H.same)
        where
          go : {g : HaltOf} → HaltLike w (AsksAt 0 V.runs.made (meaning.Do (meaning.Enter r.entry)) halts.0) g → SameReply C P (Next e.ticks e.act) (said g)
              → (F : List Effect) × (e.act ≡ Do (Enter F)) × EffectsLike w r.entry F
          go (asks_like ticks made {b = c} l on) s =
              let acts : c ≡ s.0 = said_same ticks e.ticks c s.0 s.1 in
              let h = own_like l in
              let q = entry_like h.2 in
              (q.0, same_do C P e.act h.0 (subst (λ c. SameAct C P e.act c) (sym acts ∙ h.1) s.2) ∙ ap (λ o. Do o) q.1, q.2)

      admitted : CanEnter run.lets R e.path entry.0
      admitted = (admitted_from (Q P arg run.lets C) R e T.faithful ready_so.allowed).enters entry.0 entry.1

      one : OneNumber w
      one i j q a b = number_same (T.numbers.numbered i q a) (T.numbers.numbered j q b)

      may_enter : locks.MayEnter m.world.locks k W
      may_enter = by_lock (get m.world.locks k) refl
        where
          by_lock : (o : Option Lock) → get m.world.locks k ≡ o → locks.MayEnter m.world.locks k W
          by_lock (Some s) i = inl (ap (λ o. is_some o) i)
          by_lock None i = inr (λ q. free q)
            where
              outside : standing R e.path ≡ Outside
              outside = go (B.stand k live.0 e.path live.1 path_so) i
                where
                  go : {s : Option Lock} {p : Path} → StandTied w R p s → s ≡ None → standing R p ≡ Outside
                  go {p = p} (stands_out a h) z = stands_outside R p a h
                  go (has_opened n d E G a h l s b) z = absurd (cc)
                  go (was_adopted o d q G a t n b) z = absurd (cc)

              hindered : (q : ℕ) (o : Option Lock) → get m.world.locks q ≡ o → locks.block_interferes o W ≡ false
              hindered q None i = refl
              hindered q (Some (Adopted o d)) i = refl
              hindered q (Some (Opener es d)) i = by_live (get m.world.tree.tasks q) refl
                where
                  by_stand : {s : Option Lock} (p : Path) → StandTied w R p s → s ≡ Some (Opener es d) → locks.lists_interfere W es ≡ false
                  by_stand p (stands_out a h) z = absurd (cc)
                  by_stand p (was_adopted o dd q G a t n b) z = absurd (cc)
                  by_stand p (has_opened n dd D G a h l s b) z =
                      let lets : not (run.lists_interfere G entry.0) ≡ true = admitted.clear outside p G (opener_stands R p G n a h) in
                      let same_effects : map noted D ≡ es = cc in
                      ap (λ es. locks.lists_interfere W es) (sym same_effects) ∙ ap (λ W. locks.lists_interfere W (map noted D)) r.noted_as
                      ∙ lists_swap (map noted r.entry) (map noted D) ∙ lists_like w one l entry.2
                      ∙ not_true (run.lists_interfere G entry.0) lets
                    where
                      not_true : (b : Bool) → not b ≡ true → b ≡ false
                      not_true true e = absurd (cc)
                      not_true false e = refl

                  by_live : (o : Option Live) → get m.world.tree.tasks q ≡ o → locks.lists_interfere W es ≡ false
                  by_live None n = absurd (let both : None ≡ Some (Opener es d) = sym (B.none q n) ∙ i in cc)
                  by_live (Some y) n = (let U = T.live q y n in by_stand U.path (B.stand q y U.path n U.there) i)

              and_none : (a : Bool) → (a && false) ≡ false
              and_none true = refl
              and_none false = refl

              free : (q : ℕ) → locks.hinders m.world.locks k W q ≡ false
              free q = ap (λ b. (not (q == k) && not (locks.opened_for (get m.world.locks k) q)) && b) (hindered q (get m.world.locks q) refl)
                  ∙ and_none (not (q == k) && not (locks.opened_for (get m.world.locks k) q))

    pub ready_there : IsReady m.world k
    ready_there = (is_free, by_wait (get m.world.waits k) refl)
      where
        by_wait : (o : Option (List PathEffect)) → get m.world.waits k ≡ o → IsFreeFor m.world.locks k o
        by_wait None i = tt
        by_wait (Some W) i = may_enter W i
