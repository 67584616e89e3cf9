-- The run in which the ready task with the greatest number always goes on stands in the order of elision.
use Rattle.std.proofs.Common.{◌≡◌, ℕ, zero, suc, ◌+◌, ◌<◌, List, [], ◌∷◌, ◌++◌, length, refl, sym, ap, ◌∙◌, subst, arith, Some}
use Rattle.std.proofs.Common.{slice_get, append_assoc}
use Rattle.runs_theory.specs.Actions.{Action, Answer, Asks, Begin, Branches, Do, End, Ending, Fork, Join, Next, Own, Program, Task}
use Rattle.runs_theory.specs.Blocks.{Allowed, Legal}
use Rattle.runs_theory.specs.Meaning.{AfterFork, Disciplined, InTurn, Known, Lively}
use Rattle.runs_theory.specs.Objects.{Path}
use Rattle.runs_theory.specs.Order.{InOrder}
use Rattle.runs_theory.specs.Runs.{Begun, Ended, Event, Faithful, Run, answers, branch, count, later, mine, now, reply, root}
use Rattle.runs_theory.specs.Schedules.{Greatest, Greedy, Numbered, Ready}
use Rattle.runs_theory.specs.Standing.{Admitted}
use Rattle.runs_theory.proofs.events.Mine.{number_of}
use Rattle.runs_theory.proofs.events.Places.{not_below_self}
use Rattle.runs_theory.proofs.runs.Faithful.{agree_self, same_task, ended_upto, none_after_end}
use Rattle.runs_theory.proofs.runs.Written.{legal_faithful, allowed_from}
use Rattle.runs_theory.proofs.events.Carry.{begun_at}
use Rattle.runs_theory.proofs.events.Numbers.{number_below, number_of_begun}
use Rattle.runs_theory.proofs.runs.Ready.{ready_or, AtJoin}
use Rattle.runs_theory.proofs.runs.ForkSince.{ForkSince, fork_since, count_since}
use Rattle.runs_theory.proofs.order.Working.{Held, has_ended, at_work, waits, Working, begun_before, may, greatest_now, stays, goes_up, goes_into, in_order_after, starts}

pub data Worker (P : Program) (R : Run) : Type 0 where
  some : (w : Path) → Working P R w → Worker P R
  none : ((p : Path) (t : Task) → Begun P R p t → (x : Ending) × Ended R p x) → Worker P R

some_there : {A : Type 0} (xs : List A) (n : ℕ) → n < length xs → (x : A) × (slice_get xs n ≡ Some x)
some_there [] n l = absurd (omega arith)
some_there (x ∷ xs) zero l = (x, refl)
some_there (x ∷ xs) (suc n) l = some_there xs n (omega arith)

module _ (P : Program) (D : Disciplined P) (V : Lively P) (T : InTurn P) (K : Known P) where
  module _ {R : Run} (l : Legal P R) {w : Path} (k : Working P R w) where
    lf : Faithful P R
    lf = legal_faithful P R l

    known : (p : Path) (t : Task) → Begun P R p t → (o : Own) → Asks P p t (answers (mine R p)) (Do o) → (a : Answer) × (reply P R p o ≡ Some a)
    known p t b o h = K.replies R l p t b o h

    -- and it is ready
    ready_worker : (e : Event) × (e.path ≡ w) × Admitted P R e
    ready_worker = ready_or P D V R lf known ((e : Event) × (e.path ≡ w) × Admitted P R e) w k.task k.begun k.live (may P D l k) (λ e q a. (e, q, a)) down
      where
        down : (j : AtJoin P D V R lf known w k.task) (i : ℕ) (s : Task) → Begun P R ((count j.before w, 0 + i) ∷ w) s
            → ((x : Ending) → Ended R ((count j.before w, 0 + i) ∷ w) x → ⊥) → (e : Event) × (e.path ≡ w) × Admitted P R e
        down j i s b n = absurd (go (k.held ((count j.before w, 0 + i) ∷ w) s b))
          where
            go : Held R w ((count j.before w, 0 + i) ∷ w) → ⊥
            go (has_ended x g) = n x g
            go (at_work e) = not_below_self w [] (count j.before w, 0 + i) (sym e)
            go (waits xs u e) = not_below_self w (xs ++ u ∷ []) (count j.before w, 0 + i) (e ∙ sym (append_assoc xs (u ∷ []) ((count j.before w, 0 + i) ∷ w)))

    -- so the event of the greatest number is its own
    greatest_is : {e : Event} (n : ℕ) → Allowed P R e → Numbered R n e.path → Greatest P R e → e.path ≡ w
    greatest_is {e} n a num g = go (k.held e.path a.follows.task a.follows.begun)
      where
        r : (f : Event) × (f.path ≡ w) × Admitted P R f
        r = ready_worker

        m : (j : ℕ) × Numbered R j r.0.path
        m = number_of_begun (let d = r.2 in d.follows.begun)

        go : Held R w e.path → e.path ≡ w
        go (at_work q) = q
        go (has_ended x h) =
            let fl : Faithful P (e ∷ R) = (a.follows, lf) in
            let i = none_after_end P D e.path fl (later h.stands) h.path h.act now refl in
            let j = number_of e.path h.stands h.path in
            absurd (omega arith)
        go (waits xs u q) =
            let j = g.none r.0 m.0 n (allowed_from P D R r.0 lf r.2) m.1 num in
            let b = number_below P xs e.path u m.0 lf (subst (λ p. Numbered R m.0 p) (r.1 ∙ q) m.1) num in
            absurd (omega arith)

    -- and its event is that of the greatest number
    ready_greatest : (e : Event) × (n : ℕ) × Ready P R n e × Greatest P R e
    ready_greatest = (r.0, m.0, record { allowed = allowed_from P D R r.0 lf r.2; number = m.1 }, greatest_now P D l k r.0 r.1)
      where
        r : (e : Event) × (e.path ≡ w) × Admitted P R e
        r = ready_worker

        m : (j : ℕ) × Numbered R j r.0.path
        m = number_of_begun (let d = r.2 in d.follows.begun)

  -- one event of the task at work
  module _ {R : Run} {e : Event} (l : Legal P (e ∷ R)) {w : Path} (k : Working P R w) (own : e.path ≡ w) where
    fl : Faithful P (e ∷ R)
    fl = legal_faithful P (e ∷ R) l

    all_done : (x : Ending) → e.act ≡ End x → w ≡ [] → (p : Path) (t : Task) → Begun P (e ∷ R) p t → (y : Ending) × Ended (e ∷ R) p y
    all_done x act wn p t b = go (k.held p t (begun_before P R e p t no_begin b))
      where
        no_begin : (b : ℕ) → e.act ≡ Begin b → ⊥
        no_begin b h = let z : End x ≡ Begin b = sym act ∙ h in cc

        none_above : (xs : Path) (u : ℕ × ℕ) → [] ≡ xs ++ u ∷ p → ⊥
        none_above [] u h = cc
        none_above (y ∷ ys) u h = cc

        go : Held R w p → (y : Ending) × Ended (e ∷ R) p y
        go (has_ended y g) = (y, ended_upto (later now) g)
        go (at_work h) = (x, record { before = R; event = e; stands = now; path = own ∙ sym h; act = act })
        go (waits xs u h) = absurd (none_above xs u (sym wn ∙ h))

    -- it begins a branch
    branch_works : (b : ℕ) → e.act ≡ Begin b → (p : Path) × Working P (e ∷ R) p
    branch_works b act = make T.begins_forked
      where
        asks : P.meaning w k.task (answers (mine R w)) ≡ Next e.ticks (Begin b)
        asks =
            let a = l.0.follows in
            let t : a.task ≡ k.task = same_task (agree_self R) (subst (λ q. Begun P R q a.task) own a.begun) k.begun in
            let h : P.meaning w a.task (answers (mine R w)) ≡ Next e.ticks e.act =
            subst (λ q. P.meaning q a.task (answers (mine R q)) ≡ Next e.ticks e.act) own a.asks in
            ap (λ s. P.meaning w s (answers (mine R w))) (sym t) ∙ h ∙ ap (λ c. Next e.ticks c) act

        make : ((p : Path) (t : Task) (got : List Answer) (b : ℕ) → Asks P p t got (Begin b) → (ts : Branches) × (b < length ts.tasks)
            × AfterFork P p t got ts b) → (p : Path) × Working P (e ∷ R) p
        make forked = ((i, b) ∷ w, goes_into P D l k own b act j.before j.fork f.0 there.0 j.stands j.path j.act there.1 i refl number)
          where
            f : (ts : Branches) × (b < length ts.tasks) × AfterFork P w k.task (answers (mine R w)) ts b
            f = forked w k.task (answers (mine R w)) b (e.ticks, asks)

            j : ForkSince P R fl.1 w f.0 b
            j = fork_since P R fl.1 w k.task f.0 b k.begun f.2

            i : ℕ
            i = count j.before w

            number : count R w ≡ suc (i + b)
            number = count_since P R fl.1 w f.0 b j

            there : (s : Task) × (slice_get f.0.tasks b ≡ Some s)
            there = some_there f.0.tasks b f.1

    worker_after : Worker P (e ∷ R)
    worker_after = go e.act refl
      where
        go : (a : Action) → e.act ≡ a → Worker P (e ∷ R)
        go (Do o) h = some w (stays P D l k own (λ x g. (let z : Do o ≡ End x = sym h ∙ g in cc)) (λ b g. (let z : Do o ≡ Begin b = sym h ∙ g in cc)))
        go (Fork ts) h = some w (stays P D l k own (λ x g. (let z : Fork ts ≡ End x = sym h ∙ g in cc)) (λ b g. (let z : Fork ts ≡ Begin b = sym h ∙ g in cc)))
        go Join h = some w (stays P D l k own (λ x g. (let z : Join ≡ End x = sym h ∙ g in cc)) (λ b g. (let z : Join ≡ Begin b = sym h ∙ g in cc)))
        go (Begin b) h = let z = branch_works b h in some z.0 z.1
        go (End x) h = ended_one k.begun
          where
            ended_one : Begun P R w k.task → Worker P (e ∷ R)
            ended_one (root a c) = none (all_done x h a)
            ended_one (branch q u F g ts B f a g1 g2 g3 g4 g5 f1 f2 f3 f4) = let b = begun_at P q fl.1 f1 f2 in some q (goes_up P D l k own x h q u a b.0 b.1)

  pub greatest_order : (R : Run) → Legal P R → Greedy P R → InOrder R × Worker P R
  greatest_order [] l g = (record { each = λ y x Y X h k. elim h [ ] }, some [] (starts P D))
  greatest_order (e ∷ R) l g = go (greatest_order R l.1 g.1)
    where
      go : InOrder R × Worker P R → InOrder (e ∷ R) × Worker P (e ∷ R)
      go z = by z.0 z.1
        where
          by : InOrder R → Worker P R → InOrder (e ∷ R) × Worker P (e ∷ R)
          by o (some w k) =
              let n = number_of_begun l.0.follows.begun in
              let own = greatest_is l.1 k n.0 l.0 n.1 g.0 in
              (in_order_after P D l k own o, worker_after l k own)
          by o (none f) =
              let a = l.0.follows in
              let h = f e.path a.task a.begun in
              let fl = legal_faithful P (e ∷ R) l in
              let i = none_after_end P D e.path fl (later h.1.stands) h.1.path h.1.act now refl in
              let j = number_of e.path h.1.stands h.1.path in
              absurd (omega arith)

  -- the worker of a greedy run, and its event
  pub next_greatest : (R : Run) → Legal P R → Greedy P R → ((x : Ending) → Ended R [] x → ⊥) → (e : Event) × (n : ℕ) × Ready P R n e × Greatest P R e
  next_greatest R l g live = go (greatest_order R l g).1
    where
      go : Worker P R → (e : Event) × (n : ℕ) × Ready P R n e × Greatest P R e
      go (some w k) = ready_greatest l k
      go (none f) = let h = f [] P.root (root refl refl) in absurd (live h.0 h.1)
