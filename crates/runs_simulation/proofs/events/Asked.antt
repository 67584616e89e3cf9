-- What a live task of a machine stands at is what the source asks of its task next.
use Rattle.std.proofs.Common.{◌≡◌, ◌≤◌, ◌<◌, ⊎_elim, ℕ, zero, suc, ℤ, List, [], ◌∷◌, ◌++◌, length, refl, sym, ap, ◌∙◌, subst, Some, None, slice_get, arith, append_assoc, length-append}
use Rattle.std.proofs.lemmas.List.{length-map}
use Rattle.std.proofs.lemmas.Bool.{cases_lt}
use Rattle.lang_typed.specs.declared.stmt.Forking.{Forking}
use Rattle.lang_typed.specs.Plain.{PlainProgram}
use Rattle.lang_meaning.specs.Actions as meaning
use Rattle.lang_meaning.specs.Actions.{Action as ActionOver, Answer as AnswerOver, Own as OwnOver, Ending as EndingOver}
use Rattle.lang_meaning.specs.Asking.{ask}
use Rattle.lang_meaning.proofs.Tasks.{asks_disciplined}
use Rattle.code_instrs.specs.RunsToActions.{Halt, Asks as AsksAt, Finished, Dead, RunsToAction, Halts, said}
use Rattle.code_instrs.specs.Machine.{Start, State}
use Rattle.code_instrs.specs.Plain.{PlainCode}
use Rattle.code_scheme.specs.Compiled.{Compiled, AllCompiled, SameAct, SameReply}
use Rattle.runs_theory.specs.Actions.{Task, Branches, Ending, Own, Answer, Action, Reply, Do, Fork, Begin, Join, End, Next, Over, Unknown, Asks, Rule}
use Rattle.runs_theory.specs.Meaning.{Disciplined}
use Rattle.runs_theory.specs.Objects.{Path, Name, LocalRegion}
use Rattle.runs_theory.specs.Runs.{Begun, Faithful, Follows, Run, answers, mine}
use Rattle.runs_theory.proofs.runs.Faithful.{agree_self, same_task, begun_upto, follows_at, next_same}
use Rattle.runs_theory.proofs.events.Upto.{upto_tail}
use Rattle.runs_program.specs.Steps.{named_by}
use Rattle.exec_task.specs.Halts.{IsActionOf}
use Rattle.exec_task.specs.Names.{names_of}
use Rattle.exec_task.specs.Tasks.{Says}
use Rattle.exec_task.specs.declared.action.Action.{Action as DeclaredAction}
use Rattle.exec_tasks.specs.Scope.{Branches as Scope}
use Rattle.exec_tasks.specs.declared.task.State.{State as Standing}
use Rattle.exec_tasks.specs.declared.task.State.TheVariants.{Running as Runs, Forked}
use Rattle.exec_machine.specs.Running.{Running}
use Rattle.runs_elision.proofs.Worlds.{Distinct}
use Rattle.runs_simulation.proofs.alike.Sights.{Sight, StartsLike, OwnLike, ActionLike, do_like, fork_like, begin_like, join_like, OnLike, HaltLike, asks_like, finished_like, dead_like}
use Rattle.runs_simulation.proofs.alike.RunsToActions.{HaltOf, run_like, halts_next}
use Rattle.runs_simulation.proofs.tied.Ties.{Q, TaskTied, ForkTied, ScopeTied}

abbrev pub ActionIn : Type 0
ActionIn = ActionOver ℕ (ℕ × ℕ) (Start ℕ (ℕ × ℕ))

abbrev pub ActionOf : Type 0
ActionOf = ActionOver Name LocalRegion (Start Name LocalRegion)

abbrev pub ThenIn : Type 0
ThenIn = AnswerOver ℕ (ℕ × ℕ) → State ℕ (ℕ × ℕ)

abbrev pub ThenOf : Type 0
ThenOf = Answer → State Name LocalRegion

-- where both stand at an action, or both at their end
pub record BothAt (w : Sight) (h : Halt ℕ (ℕ × ℕ)) (g : HaltOf) (a : ActionIn) : Type 0 where
  pub ticks : ℕ
  pub made : ℕ
  pub act : ActionOf
  pub then_in : ThenIn
  pub then_of : ThenOf
  pub is_in : h ≡ AsksAt ticks made a then_in
  pub is_of : g ≡ AsksAt ticks made act then_of
  pub like : ActionLike w a act
  pub on : OnLike w then_in then_of

-- a task stands at this action
abbrev pub ActsAt : Halt ℕ (ℕ × ℕ) → ActionIn → Type 0
ActsAt (AsksAt ticks made b f) a = b ≡ a
ActsAt (Finished ticks e) a = ⊥
ActsAt Dead a = ⊥

pub acts_at : (C : PlainCode) (x : DeclaredAction) (a : ActionIn) → ((e : EndingOver ℕ) → a ≡ End e → ⊥) → ((b : ActionIn) → Says C x b → b ≡ a)
    → (h : Halt ℕ (ℕ × ℕ)) → IsActionOf C x h → ActsAt h a
acts_at C x a no_end says (AsksAt ticks made b f) is_action = says b is_action
acts_at C x a no_end says (Finished ticks e) is_action = absurd (no_end e (sym (says (End e) is_action)))
acts_at C x a no_end says Dead is_action = absurd is_action

pub both_at : {w : Sight} {h : Halt ℕ (ℕ × ℕ)} {g : HaltOf} (a : ActionIn) → HaltLike w h g → ActsAt h a → BothAt w h g a
both_at {w} a (asks_like ticks made {a = b} {b = c} {f = f} {g = k} l on) e = record {
  ticks = ticks;
  made = made;
  act = c;
  then_in = f;
  then_of = k;
  is_in = ap (λ z. AsksAt ticks made z f) e;
  is_of = refl;
  like = subst (λ z. ActionLike w z c) e l;
  on = on;
}
both_at a (finished_like ticks l) e = absurd e
both_at a dead_like e = absurd e

-- the actions that are like
pub own_like : {w : Sight} {o : OwnOver ℕ (ℕ × ℕ)} {b : ActionOf} → ActionLike w (Do o) b → (q : Own) × (b ≡ Do q) × OwnLike w o q
own_like (do_like {q = q} l) = (q, refl, l)

pub forking_like : {w : Sight} {kind : Forking} {bs : List (Start ℕ (ℕ × ℕ))} {b : ActionOf} → ActionLike w (Fork (record { kind = kind; tasks = bs })) b
    → (cs : List (Start Name LocalRegion)) × (b ≡ Fork (record { kind = kind; tasks = cs })) × StartsLike w bs cs
forking_like (fork_like kind {cs = cs} l) = (cs, refl, l)

pub beginning_like : {w : Sight} {n : ℕ} {b : ActionOf} → ActionLike w (Begin n) b → b ≡ Begin n
beginning_like (begin_like n) = refl

pub joining_like : {w : Sight} {b : ActionOf} → ActionLike w Join b → b ≡ Join
joining_like join_like = refl

module _ (C : PlainCode) (P : PlainProgram) where
  pub reply_act : (r : Reply) (n : ℕ) (b : ActionOf) → SameReply C P r (Next n b) → (a : Action) × (r ≡ Next n a) × SameAct C P a b
  reply_act (Next m a) n b s =
      let e = s.1 in
      let nm : n ≡ m = cc in
      let same : b ≡ s.0 = cc in
      (a, ap (λ z. Next z a) (sym nm), subst (λ z. SameAct C P a z) (sym same) s.2)
  reply_act Over n b s = absurd (cc)
  reply_act Unknown n b s = absurd s

  pub same_do : (a : Action) (q : Own) → SameAct C P a (Do q) → a ≡ Do q
  same_do (Do o) q s = (let same : q ≡ o = cc in ap (λ (z : Own). Do z) (sym same))
  same_do (Fork ts) q s = absurd (let e = s.1 in cc)
  same_do (Begin b) q s = absurd (cc)
  same_do Join q s = absurd (cc)
  same_do (End x) q s = absurd (cc)

  pub same_fork : (a : Action) (kind : Forking) (cs : List (Start Name LocalRegion)) → SameAct C P a (Fork (record { kind = kind; tasks = cs }))
      → (ts : Branches) × (a ≡ Fork ts) × AllCompiled C P cs ts.tasks
  same_fork (Do o) kind cs s = absurd (cc)
  same_fork (Fork ts) kind cs s = (ts, refl, subst (λ bs. AllCompiled C P bs ts.tasks) (sym (tasks_of s.1)) s.2)
    where
      tasks_of : {r q : meaning.Branches (Start Name LocalRegion)} → ◌≡◌ {A = ActionOf} (Fork r) (Fork q) → r.tasks ≡ q.tasks
      tasks_of {r} {q} e = (let same : r ≡ q = cc in ap (λ (z : meaning.Branches (Start Name LocalRegion)). z.tasks) same)
  same_fork (Begin b) kind cs s = absurd (cc)
  same_fork Join kind cs s = absurd (cc)
  same_fork (End x) kind cs s = absurd (cc)

  pub fork_kind : (ts : Branches) (kind : Forking) (cs : List (Start Name LocalRegion)) → SameAct C P (Fork ts) (Fork (record { kind = kind; tasks = cs })) → ts.kind ≡ kind
  fork_kind ts kind cs s = kind_of s.1
    where
      kind_of : {r q : meaning.Branches (Start Name LocalRegion)} → ◌≡◌ {A = ActionOf} (Fork r) (Fork q) → q.kind ≡ r.kind
      kind_of {r} {q} e = (let same : r ≡ q = cc in ap (λ (z : meaning.Branches (Start Name LocalRegion)). z.kind) (sym same))

  pub same_begin : (a : Action) (n : ℕ) → SameAct C P a (Begin n) → a ≡ Begin n
  same_begin (Do o) n s = absurd (cc)
  same_begin (Fork ts) n s = absurd (let e = s.1 in cc)
  same_begin (Begin b) n s = (let same : n ≡ b = cc in ap (λ (z : ℕ). Begin z) (sym same))
  same_begin Join n s = absurd (cc)
  same_begin (End x) n s = absurd (cc)

  pub same_join : (a : Action) → SameAct C P a Join → a ≡ Join
  same_join (Do o) s = absurd (cc)
  same_join (Fork ts) s = absurd (let e = s.1 in cc)
  same_join (Begin b) s = absurd (cc)
  same_join Join s = refl
  same_join (End x) s = absurd (cc)

  pub same_end : (a : Action) (x : Ending) → SameAct C P a (End x) → a ≡ End x
  same_end (Do o) x s = absurd (cc)
  same_end (Fork ts) x s = absurd (let e = s.1 in cc)
  same_end (Begin b) x s = absurd (cc)
  same_end Join x s = absurd (cc)
  same_end (End y) x s = (let same : x ≡ y = cc in ap (λ (z : Ending). End z) (sym same))

pub AllLength : (C : PlainCode) (P : PlainProgram) (bs : List (Start Name LocalRegion)) (ts : List Task) → AllCompiled C P bs ts → length bs ≡ length ts
AllLength C P [] [] h = refl
AllLength C P [] (t ∷ ts) h = absurd h
AllLength C P (b ∷ bs) [] h = absurd h
AllLength C P (b ∷ bs) (t ∷ ts) h = ap (λ n. suc n) (AllLength C P bs ts h.1)

-- each branch that a fork has starts in the code
pub compiled_at : (C : PlainCode) (P : PlainProgram) (bs : List (Start Name LocalRegion)) (ts : List Task) (n : ℕ) (b : Start Name LocalRegion)
    → AllCompiled C P bs ts → slice_get bs n ≡ Some b → (t : Task) × (slice_get ts n ≡ Some t) × Compiled C P b t
compiled_at C P [] ts n b h e = absurd (let none : None ≡ Some b = e in cc)
compiled_at C P (c ∷ bs) [] n b h e = absurd h
compiled_at C P (c ∷ bs) (t ∷ ts) zero b h e = (t, refl, (let same : c ≡ b = cc in subst (λ z. Compiled C P z t) same h.0))
compiled_at C P (c ∷ bs) (t ∷ ts) (suc n) b h e = compiled_at C P bs ts n b h.1 e

module _ (P : PlainProgram) (arg : ℤ) (rule : Rule) (C : PlainCode) where
  -- after an end nothing comes, and after a fork its begins and its join
  pub disciplined : Disciplined (Q P arg rule C)
  disciplined = record {
    over = λ p t got x a e. (asks_disciplined (named_by p) P t).over got x a e;
    begins = λ p t got since ts k a l h. (0, (asks_disciplined (named_by p) P t).begins got since ts k a l h);
    joins = λ p t got since ts a l. (0, (asks_disciplined (named_by p) P t).joins got since ts a l);
  }

  module _ {w : Sight} {R : Run} (faithful : Faithful (Q P arg rule C) R) {q : Path} {s : State ℕ (ℕ × ℕ)} {scope : Scope} (F : ForkTied P arg rule C w R q s scope)
      (t : Task) (begun : Begun (Q P arg rule C) R q t) where
    at_fork : Follows (Q P arg rule C) F.before F.fork
    at_fork = follows_at (Q P arg rule C) F.stands faithful

    forked_so : Asks (Q P arg rule C) q t (answers (mine F.before q)) (Fork F.tasks)
    forked_so =
        let same : at_fork.task ≡ t = same_task (agree_self R) (begun_upto (upto_tail F.stands) at_fork.begun) (subst (λ p. Begun (Q P arg rule C) R p t) (sym F.path) begun) in (
          F.fork.ticks,
          subst (λ t. (Q P arg rule C).meaning q t (answers (mine F.before q)) ≡ Next F.fork.ticks (Fork F.tasks)) same
              (subst (λ p. (Q P arg rule C).meaning p at_fork.task (answers (mine F.before p)) ≡ Next F.fork.ticks (Fork F.tasks)) F.path
              (at_fork.asks ∙ ap (λ a. Next F.fork.ticks a) F.act)),
        )

    got_is : answers (mine R q) ≡ (answers F.since ++ F.fork.ans ∷ []) ++ answers (mine F.before q)
    got_is = ap answers F.last ∙ mapped F.since ∙ sym (append_assoc (answers F.since) (F.fork.ans ∷ []) (answers (mine F.before q)))
      where
        mapped : (es : Run) → answers (es ++ F.fork ∷ mine F.before q) ≡ answers es ++ F.fork.ans ∷ answers (mine F.before q)
        mapped [] = refl
        mapped (e ∷ es) = ap (λ l. e.ans ∷ l) (mapped es)

    since_many : length (answers F.since ++ F.fork.ans ∷ []) ≡ suc (length scope.ends)
    since_many = (let a = length-append (answers F.since) (F.fork.ans ∷ []) in let b = length-map F.since (λ e. e.ans) in let c = F.begun in omega (arith, a, b, c))

    pub asks_begin : length scope.ends < scope.count → Asks (Q P arg rule C) q t (answers (mine R q)) (Begin (length scope.ends))
    asks_begin l =
        subst (λ got. Asks (Q P arg rule C) q t got (Begin (length scope.ends))) (sym got_is)
        (disciplined.begins q t (answers (mine F.before q)) (answers F.since ++ F.fork.ans ∷ []) F.tasks (length scope.ends) forked_so since_many
        (let m = F.many in omega (arith, l, m)))

    pub asks_join : scope.count ≤ length scope.ends → Asks (Q P arg rule C) q t (answers (mine R q)) Join
    asks_join l =
        subst (λ got. Asks (Q P arg rule C) q t got Join) (sym got_is)
        (disciplined.joins q t (answers (mine F.before q)) (answers F.since ++ F.fork.ans ∷ []) F.tasks forked_so
        (let n = since_many in let m = F.many in let b = F.within in omega (arith, l, m, n, b)))

  pub asks_one : (R : Run) (q : Path) (t : Task) {a b : Action} (n : ℕ) → Asks (Q P arg rule C) q t (answers (mine R q)) a
      → (Q P arg rule C).meaning q t (answers (mine R q)) ≡ Next n b → a ≡ b
  asks_one R q t {a} {b} n h e = (next_same h.0 n a b (sym h.1 ∙ e)).1

  -- a task that makes another action than a begin or a join has no open fork
  pub runs_if : (w : Sight) {R : Run} → Faithful (Q P arg rule C) R → {q : Path} (s : State ℕ (ℕ × ℕ)) (x : Standing) → ScopeTied P arg rule C w R q s x → (t : Task)
      → Begun (Q P arg rule C) R q t → (n : ℕ) (a : Action) → (Q P arg rule C).meaning q t (answers (mine R q)) ≡ Next n a → ((b : ℕ) → a ≡ Begin b → ⊥)
      → (a ≡ Join → ⊥) → x ≡ Runs
  runs_if w faithful s Runs h t begun n a e no_begin no_join = refl
  runs_if w {R} faithful {q} s (Forked scope) h t begun n a e no_begin no_join =
      absurd (⊎_elim (λ l. no_begin (length scope.ends) (sym (asks_one R q t n (asks_begin faithful h t begun l) e)))
      (λ l. no_join (sym (asks_one R q t n (asks_join faithful h t begun l) e))) (cases_lt (length scope.ends) scope.count))

  -- how a task with an open fork goes on
  pub begins_next : {w : Sight} {R : Run} → Faithful (Q P arg rule C) R → {q : Path} {s : State ℕ (ℕ × ℕ)} (scope : Scope) → ForkTied P arg rule C w R q s scope → (t : Task)
      → Begun (Q P arg rule C) R q t → (n b : ℕ) → (Q P arg rule C).meaning q t (answers (mine R q)) ≡ Next n (Begin b) → length scope.ends < scope.count
      → length scope.ends ≡ b
  begins_next {R = R} faithful {q = q} scope h t begun n b e l =
      let same : ◌≡◌ {A = Action} (Begin (length scope.ends)) (Begin b) = asks_one R q t n (asks_begin faithful h t begun l) e in cc

-- where a live task stands
module _ (P : PlainProgram) (arg : ℤ) (rule : Rule) (C : PlainCode)
    (right : (p : Path) (b : Start Name LocalRegion) (t : Task) → Compiled C P b t → (got : List Answer) (h : HaltOf) → Halts (named_by p) C b got h
    → SameReply C P (ask (named_by p) P t got) (said h))
    {w : Sight} (d : Distinct w.names) {R : Run} (k : ℕ) (p : Path) (there : slice_get w.paths k ≡ Some p) {t : Running} (T : TaskTied P arg rule C w R p t)
    {h : Halt ℕ (ℕ × ℕ)} (run_to_action : RunsToAction (names_of k) C t.made t.state h) where
  pub record Stood : Type 0 where
    pub halt : HaltOf
    pub like : HaltLike w h halt
    pub halts : Halts (named_by p) C T.start (answers (mine R p)) halt
    pub same : SameReply C P ((Q P arg rule C).meaning p T.task (answers (mine R p))) (said halt)

  pub stood : Stood
  stood = record { halt = l.0; like = l.2; halts = halts; same = right p T.start T.task T.compiled (answers (mine R p)) l.0 halts }
    where
      l : (g : HaltOf) × RunsToAction (named_by p) C t.made T.state g × HaltLike w h g
      l = run_like C k p d there t.made T.like run_to_action

      halts : Halts (named_by p) C T.start (answers (mine R p)) l.0
      halts = halts_next T.stands l.1
