-- What a task asks names only what it has heard of: by its frame and by its answers.
use Rattle.std.proofs.Common.{ℕ, zero, suc, Bool, true, false, List, [], ◌∷◌, ◌++◌, length, reverse, refl, sym, subst}
use Rattle.std.proofs.Common.{◌==◌}
use Rattle.std.proofs.lemmas.List.{reverse-append}
use Rattle.lang_typed.specs.declared.stmt.Forking.{Forking}
use Rattle.lang_typed.specs.Plain.{PlainProgram}
use Rattle.lang_meaning.specs.Actions.{Answer as AnswerOver, Ending as EndingOver, Frame as FrameOver, Own as OwnOver, Task as TaskOver, Work}
use Rattle.lang_meaning.specs.Asking.{most_ticks, ask, asked, begins_then, does, ended, ending, made_region, replied, take_answer, reported, reported_fork, reported_join}
use Rattle.lang_meaning.specs.Asking.{ticked}
use Rattle.lang_meaning.specs.Core.{Done, Goes_on, Lost, Prog, Returns, Stopped, bind, loop, rounded, run, tested}
use Rattle.lang_meaning.specs.Core.{Out as out}
use Rattle.lang_meaning.specs.Counts.{Brought, brought, truth}
use Rattle.lang_meaning.specs.Elision.{LocalRegion as Counted}
use Rattle.runs_theory.specs.Actions.{Action, Answer, Begin, Do, End, Fork, Join, Next, Over, Reply, Rest, Task, Trapped, Unknown}
use Rattle.runs_theory.specs.Objects.{LocalRegion, Name, Path}
use Rattle.runs_program.specs.Steps.{named_by}
use Rattle.runs_elision.proofs.Worlds.{Names, Distinct, later_none, FrameLike, TaskLike, TasksLike, OwnLike, AnswerLike, BroughtLike, EndingLike, ResultLike}
use Rattle.runs_elision.proofs.Worlds.{Alike}
use Rattle.runs_elision.proofs.Worlds.{rest_like, trapped_like, goes_on_like, returns_like, alike_ret, alike_traps, alike_act, alike_makes, alike_again}
use Rattle.runs_elision.proofs.Worlds.{alike_split}
use Rattle.runs_elision.proofs.Counts.{brought_alike, ended_alike}
use Rattle.runs_elision.proofs.Meaning.{does_alike}
use Rattle.runs_elision.proofs.Simulation.{ReportedOf, OutOf, ResultOf, ResultIn, reported_on}
use Rattle.lang_meaning.proofs.Ticks.{ticked_if}

-- these names alone occur in it
abbrev pub ActionHas : Names → Action → Type 0
ActionHas ns (Do o) = (q : OwnOver ℕ Counted) × OwnLike ns q o
ActionHas ns (Fork ts) = (us : List (TaskOver ℕ Counted)) × TasksLike ns us ts.tasks
ActionHas ns (Begin b) = Unit {0}
ActionHas ns Join = Unit {0}
ActionHas ns (End x) = (y : EndingOver ℕ) × EndingLike ns y x

abbrev pub AnswerHas : Names → Answer → Type 0
AnswerHas ns a = (b : AnswerOver ℕ Counted) × AnswerLike ns b a

abbrev pub AnswersHave : Names → List Answer → Type 0
AnswersHave ns [] = Unit {0}
AnswersHave ns (a ∷ as') = AnswerHas ns a × AnswersHave ns as'

abbrev pub ReplyHas : Names → Reply → Type 0
ReplyHas ns (Next n a) = ActionHas ns a
ReplyHas ns Over = Unit {0}
ReplyHas ns Unknown = Unit {0}

append_have : (ns : Names) (xs ys : List Answer) → AnswersHave ns xs → AnswersHave ns ys → AnswersHave ns (xs ++ ys)
append_have ns [] ys h k = k
append_have ns (x ∷ xs) ys h k = (h.0, append_have ns xs ys h.1 k)

reverse_have : (ns : Names) (xs : List Answer) → AnswersHave ns xs → AnswersHave ns (reverse xs)
reverse_have ns [] h = tt
reverse_have ns (x ∷ xs) h =
    subst (λ (l : List Answer). AnswersHave ns l) (sym (reverse-append (x ∷ []) xs)) (append_have ns (reverse xs) (x ∷ []) (reverse_have ns xs h.1) (h.0, tt))

module _ (P : PlainProgram) (ns : Names) (d : Distinct ns) where
  -- a stretch of work asks and gives no other names
  abbrev Heard : {X : Type 0} → (X → Type 0) → OutOf X → Type 0
  Heard XR (Done x u) = XR x × AnswersHave ns u.to_come
  Heard XR (out.Trapped trap p u) = Unit {0}
  Heard XR (Stopped n a) = ActionHas ns a
  Heard XR (Lost u) = Unit {0}

  heard_bind : {X Y : Type 0} (XR : X → Type 0) (YR : Y → Type 0) (o : OutOf X) (j : X → ReportedOf → OutOf Y) → Heard XR o
      → ((x : X) (u : ReportedOf) → XR x → AnswersHave ns u.to_come → Heard YR (j x u)) → Heard YR (bind o j)
  heard_bind XR YR (Done x u) j h r = r x u h.0 h.1
  heard_bind XR YR (out.Trapped trap p u) j h r = tt
  heard_bind XR YR (Stopped n a) j h r = h
  heard_bind XR YR (Lost u) j h r = tt

  heard_ask : (a : Action) (w : ReportedOf) → ActionHas ns a → AnswersHave ns w.to_come → Heard (AnswerHas ns) (asked a w)
  heard_ask a w h k = go w.to_come k
    where
      go : (xs : List Answer) → AnswersHave ns xs → Heard (AnswerHas ns) (take_answer a w xs)
      go [] k = h
      go (x ∷ xs) k = (k.0, k.1)

  abbrev Any : {X : Type 0} → X → Type 0
  Any x = Unit {0}

  heard_tick : (w : ReportedOf) → AnswersHave ns w.to_come → Heard (Any {X = Unit {0}}) (ticked w)
  heard_tick w h = go (suc w.since == most_ticks)
    where
      go : (b : Bool) → Heard (Any {X = Unit {0}}) (ticked_if b w)
      go true = heard_bind (AnswerHas ns) (Any {X = Unit {0}}) (asked (Do Rest) (reported_on (suc w.since) w.made w.to_come)) (λ a v. Done tt v)
          (heard_ask (Do Rest) (reported_on (suc w.since) w.made w.to_come) (Rest, rest_like) h) (λ a v k l. (tt, l))
      go false = (tt, h)

  heard_region : (path : Path) (w : ReportedOf) → AnswersHave ns w.to_come → Heard (Any {X = LocalRegion}) (made_region (named_by path) w)
  heard_region path w h =
      heard_bind (Any {X = Unit {0}}) (Any {X = LocalRegion}) (ticked (reported_on w.since (suc w.made) w.to_come)) (λ u v. Done ((named_by path).made w.made) v)
      (heard_tick (reported_on w.since (suc w.made) w.to_come) h) (λ u v k l. (tt, l))

  abbrev ResultHas : ℕ → ResultOf → Type 0
  ResultHas c r = (x : ResultIn) × ResultLike c ns x r

  abbrev BroughtHas : Brought Name → Type 0
  BroughtHas y = (x : Brought ℕ) × BroughtLike ns x y

  -- a loop
  abbrev Body : Type 0
  Body = FrameOver Name LocalRegion → ReportedOf → OutOf ResultOf

  abbrev BodyHeard : ℕ → Body → Type 0
  BodyHeard c m = (f : FrameOver ℕ Counted) (g : FrameOver Name LocalRegion) → FrameLike c ns f g → (w : ReportedOf) → AnswersHave ns w.to_come
      → Heard (ResultHas c) (m g w)

  module _ (c : ℕ) (s a : Body) (hs : BodyHeard c s) (ha : BodyHeard c a) where
    heard_round : (m : Body) → BodyHeard c m → (x : ResultIn) (r : ResultOf) → ResultLike c ns x r → (w : ReportedOf) → AnswersHave ns w.to_come
        → Heard (ResultHas c) (rounded m r w)
    heard_round m hm x _ (returns_like {v = v} {u = u} e z) w k = ((Returns v, returns_like e z), k)
    heard_round m hm x _ (goes_on_like {f = f} {g = g} z h) w k = hm f g h w k

    heard_test : (m : Body) → BodyHeard c m → (x : ResultIn) (r : ResultOf) → ResultLike c ns x r → (w : ReportedOf) → AnswersHave ns w.to_come
        → Heard (ResultHas c) (tested ticked a m r w)
    heard_test m hm x _ (returns_like {v = v} {u = u} e z) w k = ((Returns v, returns_like e z), k)
    heard_test m hm x _ (goes_on_like {v = v} {u = u} {f = f} {g = g} z h) w k = go (truth u)
      where
        go : (b : Bool) → Heard (ResultHas c) (elim b as (λ b. OutOf ResultOf) [
          | false ↦ Done (Goes_on u g) w
          | true ↦ bind (ticked w) (λ u w'. bind (a g w') (λ r w''. rounded m r w''))
        ])
        go false = ((Goes_on v f, goes_on_like z h), k)
        go true = heard_bind (Any {X = Unit {0}}) (ResultHas c) (ticked w) _ (heard_tick w k) (λ y v' i l.
            heard_bind (ResultHas c) (ResultHas c) (a g v') _ (ha f g h v' l) (λ r z' rr l'. heard_round m hm rr.0 r rr.1 z' l'))

    heard_loop : (n : ℕ) → BodyHeard c (λ g w. loop ticked s a n g w)
    heard_loop zero f g h w k = tt
    heard_loop (suc n) f g h w k =
        heard_bind (ResultHas c) (ResultHas c) (s g w) _ (hs f g h w k) (λ r u rr l. heard_test (λ g w. loop ticked s a n g w) (heard_loop n) rr.0 r rr.1 u l)

  -- a fork
  heard_join : (w : ReportedOf) → AnswersHave ns w.to_come → Heard BroughtHas (reported_join w)
  heard_join w k = heard_bind (AnswerHas ns) BroughtHas (asked Join w) (λ a v. Done (brought a) v) (heard_ask Join w tt k) (λ a v h l.
      ((brought h.0, brought_alike h.1), l))

  heard_begins : (b n : ℕ) (w : ReportedOf) → AnswersHave ns w.to_come → Heard BroughtHas (begins_then b n reported_join w)
  heard_begins b zero w k = heard_join w k
  heard_begins b (suc n) w k =
      heard_bind (AnswerHas ns) BroughtHas (asked (Begin b) w) (λ a v. begins_then (suc b) n reported_join v) (heard_ask (Begin b) w tt k)
      (λ a v h l. heard_begins (suc b) n v l)

  heard_fork : (forking : Forking) (us : List (TaskOver ℕ Counted)) (ts : List Task) → TasksLike ns us ts → (w : ReportedOf) → AnswersHave ns w.to_come
      → Heard BroughtHas (reported_fork forking ts w)
  heard_fork forking us ts h w k =
      heard_bind (AnswerHas ns) BroughtHas (asked (Fork (record { kind = forking; tasks = ts })) w) (λ a v. begins_then 0 (length ts) reported_join v)
      (heard_ask (Fork (record { kind = forking; tasks = ts })) w (us, h) k) (λ a v i l. heard_begins 0 (length ts) v l)

  heard_run : (path : Path) {c : ℕ} {p : Prog ℕ Counted} {q : Prog Name LocalRegion} → Alike P c ns p q → (w : ReportedOf) → AnswersHave ns w.to_come
      → Heard (ResultHas c) (run (reported (named_by path)) q w)
  heard_run path (alike_ret {r = r} h) w k = ((r, h), k)
  heard_run path (alike_traps trap p) w k = tt
  heard_run path {c} (alike_act {o = o} {q = q} {j = j} like h) w k =
      heard_bind (AnswerHas ns) (ResultHas c) (asked (Do q) w) _ (heard_ask (Do q) w (o, like) k) (λ y u a l. heard_run path (h ns a.0 y
      (later_none d) a.1) u l)
  heard_run path {c} (alike_makes {j = j} h) w k =
      heard_bind (Any {X = LocalRegion}) (ResultHas c) (made_region (named_by path) w) _ (heard_region path w k) (λ m u a l. heard_run path (h
      (Counted.Unmade 0) m) u l)
  heard_run path {c} (alike_again e {s = s} {a = z} {f = f} {g = g} {j = j} ht hb hf h) w k =
      heard_bind (ResultHas e) (ResultHas c) (loop ticked (λ x v. run (reported (named_by path)) (s x) v) (λ x v. run (reported (named_by path)) (z x) v) ((reported
      (named_by path)).ticks w) g w) _
      (heard_loop e (λ x v. run (reported (named_by path)) (s x) v) (λ x v. run (reported (named_by path)) (z x) v)
      (λ x y i v l. heard_run path (ht ns x y (later_none d) i) v l) (λ x y i v l. heard_run path (hb ns x y (later_none d) i) v l) ((reported
      (named_by path)).ticks w) f g hf w k)
      (λ r u a l. heard_run path (h ns a.0 r (later_none d) a.1) u l)
  heard_run path {c} (alike_split forking {ts = ts} {ss = ss} {j = j} tl coh falls h) w k =
      heard_bind BroughtHas (ResultHas c) (reported_fork forking ss w) _ (heard_fork forking ts ss tl w k) (λ y u a l. heard_run path (h ns a.0 y
      (later_none d) a.1) u l)

  heard_reply : (c : ℕ) (k : Work) (o : OutOf ResultOf) → Heard (ResultHas c) o → ReplyHas ns (replied k o)
  heard_reply c k (Done r u) h = go u.to_come
    where
      go : (xs : List Answer) → ReplyHas ns (ending (ended k r) u.since xs)
      go [] = (ended k h.0.0, ended_alike {j = k} {k = k} refl h.0.1)
      go (x ∷ xs) = tt
  heard_reply c k (out.Trapped trap p u) h = go u.to_come
    where
      go : (xs : List Answer) → ReplyHas ns (ending (Trapped trap p) u.since xs)
      go [] = (EndingOver.Trapped trap p, trapped_like trap p)
      go (x ∷ xs) = tt
  heard_reply c k (Stopped n a) h = h
  heard_reply c k (Lost u) h = tt

  pub asks_heard : (path : Path) {t : TaskOver ℕ Counted} (s : Task) → TaskLike ns t s → (got : List Answer) → AnswersHave ns got
      → ReplyHas ns (ask (named_by path) P s got)
  unfolding ask
  asks_heard path s h got k =
      heard_reply h.left s.work (run (reported (named_by path)) (does (named_by path) P s) (reported_on 0 0 (reverse got)))
      (heard_run path (does_alike path P h) (reported_on 0 0 (reverse got)) (reverse_have ns got k))
