-- What a task asks whose work is in order, followed so many answers deep: each action is in order where the task stands.
use Rattle.std.proofs.Common.{◌≡◌, ℕ, zero, suc, ◌+◌, ◌-◌, ◌*◌, ◌<◌, ◌≤◌, Bool, true, false, List, [], ◌∷◌, length, refl, sym, ap, subst, arith, ◌==◌}
use Rattle.std.proofs.lemmas.Bool.{eqb-false}
use Rattle.lang_typed.specs.declared.stmt.Forking.{Forking}
use Rattle.lang_typed.specs.Plain.{PlainProgram}
use Rattle.lang_typed.specs.Scope.{Scope}
use Rattle.lang_meaning.specs.Asking.{most_ticks, Reported as ReportedOf, asked, ticked, begins_then, reported_join, ending}
use Rattle.lang_meaning.specs.Core.{Out as OutOf, Done, Trapped as Fallen, Stopped, Lost, bind}
use Rattle.lang_meaning.specs.Counts.{brought}
use Rattle.lang_meaning.proofs.Ticks.{most_pos, ticked_if}
use Rattle.runs_theory.specs.Actions.{Task, Own, Rest, Read, Write, Look, New, Print, Enter, Exit, Action, Do, Fork, Begin, Join, End, Ending, Trapped, Answer, Reply, Next, Over, Unknown}
use Rattle.runs_theory.specs.Objects.{Name, LocalRegion}
use Rattle.runs_sound.specs.Accesses.{Bounds}
use Rattle.runs_sound.specs.Frames.{State, Since}
use Rattle.runs_sound.specs.Branches.{Forks, Brings}
use Rattle.runs_sound.specs.Counting.{acts_counting}
use Rattle.runs_sound.specs.Soundness.{EndFits}
use Rattle.runs_sound.specs.Work.{Brought, Moves, Answers, After}
use Rattle.runs_sound.proofs.work.NdFree.{NdFreeFork, MayLeave}
use Rattle.runs_sound.proofs.work.Work.{since_now, since_after}

abbrev pub Reported : Type 0
Reported = ReportedOf Name LocalRegion

abbrev pub Out : Type 0 → Type 0
Out V = OutOf Name LocalRegion V Reported

abbrev pub Replies : Type 0
Replies = List Answer → Reply

-- an outcome, and what follows it
abbrev pub finish : {V : Type 0} → Out V → (V → Reported → Reply) → Reply
finish (Done v w) K = K v w
finish (Fallen trap p w) K = ending (Trapped trap p) w.since w.to_come
finish (Stopped n a) K = Next n a
finish (Lost w) K = Unknown

room_falls : (n d t : ℕ) → most_ticks * suc d + (most_ticks - t) < n → most_ticks * d + (most_ticks - 0) < n
room_falls n d t l = omega arith

abbrev pub reported_on : ℕ → ℕ → List Answer → Reported
reported_on t n xs = record { since = t; made = n; to_come = xs }

pub bind_bind : {V U T : Type 0} (o : Out V) (j : V → Reported → Out U) (k : U → Reported → Out T) → bind (bind o j) k ≡ bind o (λ v w. bind (j v w) k)
bind_bind (Done v w) j k = refl
bind_bind (Fallen trap p w) j k = refl
bind_bind (Stopped n a) j k = refl
bind_bind (Lost w) j k = refl

pub finish_bind : {V U : Type 0} (o : Out V) (j : V → Reported → Out U) (K : U → Reported → Reply) → finish (bind o j) K ≡ finish o (λ v w. finish (j v w) K)
finish_bind (Done v w) j K = refl
finish_bind (Fallen trap p w) j K = refl
finish_bind (Stopped n a) j K = refl
finish_bind (Lost w) j K = refl

-- where a task stands: in a state; or after a fork in a state, of which so many branches have begun
pub data Moment (P : PlainProgram) (b : Bounds) : Type 0 where
  at : (st : State) → Moment P b
  forked : (st : State) (forking : Forking) (ts : List Task) (forks : Forks P b st forking ts) (begun : ℕ) → Moment P b

-- the state in which it has made so many local regions
abbrev pub having_made : ℕ → State → State
having_made n st = record { shapes = st.shapes; made = n; entries = st.entries }

-- and in which it has left all blocks
abbrev pub having_left : State → State
having_left st = record { shapes = st.shapes; made = st.made; entries = [] }

abbrev pub state_of : {P : PlainProgram} {b : Bounds} → Moment P b → State
state_of (at st) = st
state_of (forked st forking ts forks begun) = st

module _ (P : PlainProgram) (b : Bounds) (L : Scope) (copies : List ℕ) where
  -- what it may do next, in order
  abbrev MayAt : State → Action → Type 0
  MayAt st (Do o) = Moves P b st o × MayLeave o st.entries
  MayAt st (Fork ts) = Forks P b st ts.kind ts.tasks × NdFreeFork P b st.entries ts.kind ts.tasks
  MayAt st (Begin i) = ⊥
  MayAt st Join = ⊥
  MayAt st (End x) = EndFits P b L copies st.shapes x

  abbrev MayForked : List Task → ℕ → Action → Type 0
  MayForked ts n (Begin i) = Unit {0}
  MayForked ts n Join = n ≡ length ts
  MayForked ts n (Do o) = ⊥
  MayForked ts n (Fork us) = ⊥
  MayForked ts n (End x) = ⊥

  abbrev pub MayDo : Moment P b → Action → Type 0
  MayDo (at st) a = MayAt st a
  MayDo (forked st forking ts forks n) a = MayForked ts n a

  -- and where it stands then
  abbrev ComesAt : (st : State) (a : Action) → MayAt st a → Answer → Moment P b → Type 0
  ComesAt st (Do o) m x h = (u : State) × (h ≡ at u) × After o st u × Answers P b st o m.0 x u
  ComesAt st (Fork ts) m x h = h ≡ forked st ts.kind ts.tasks m.0 0
  ComesAt st (Begin i) m x h = ⊥
  ComesAt st Join m x h = ⊥
  ComesAt st (End y) m x h = h ≡ at (having_left st)

  abbrev ComesForked : (st : State) (forking : Forking) (ts : List Task) (forks : Forks P b st forking ts) → ℕ → Action → Answer → Moment P b → Type 0
  ComesForked st forking ts forks n (Begin i) x h = h ≡ forked st forking ts forks (suc n)
  ComesForked st forking ts forks n Join x h = (u : State) × (h ≡ at u) × Since st u × (u.made ≡ st.made) × Brings P b st forking ts forks u (brought x)
  ComesForked st forking ts forks n (Do o) x h = ⊥
  ComesForked st forking ts forks n (Fork us) x h = ⊥
  ComesForked st forking ts forks n (End y) x h = ⊥

  abbrev pub Comes : (g : Moment P b) (a : Action) → MayDo g a → Answer → Moment P b → Type 0
  Comes (at st) a m x h = ComesAt st a m x h
  Comes (forked st forking ts forks n) a m x h = ComesForked st forking ts forks n a x h

  -- local regions may be made before an action, which is no event
  pub data Quietly : Moment P b → Moment P b → Type 0 where
    still : {g : Moment P b} → Quietly g g
    making : {st : State} (n : ℕ) → Quietly (at st) (at (having_made n st))

  -- at an entry it is told how many local regions it has made
  abbrev pub Told : State → Own → ℕ → Type 0
  Told st (Enter E) n = n ≡ st.made
  Told st Exit n = Unit {0}
  Told st Rest n = Unit {0}
  Told st (Read c i) n = Unit {0}
  Told st (Write c i v) n = Unit {0}
  Told st (Look c) n = Unit {0}
  Told st (New t c) n = Unit {0}
  Told st (Print bytes) n = Unit {0}

  told_made : (st : State) (o : Own) → Told st o st.made
  told_made st (Enter E) = refl
  told_made st Exit = tt
  told_made st Rest = tt
  told_made st (Read c i) = tt
  told_made st (Write c i v) = tt
  told_made st (Look c) = tt
  told_made st (New t c) = tt
  told_made st (Print bytes) = tt

  abbrev pub Tells : Moment P b → Action → ℕ → Type 0
  Tells (at st) (Do o) n = Told st o n
  Tells (at st) (Fork ts) n = Unit {0}
  Tells (at st) (Begin i) n = Unit {0}
  Tells (at st) Join n = Unit {0}
  Tells (at st) (End x) n = Unit {0}
  Tells (forked st forking ts forks k) a n = Unit {0}

  pub record Goes_to (rest : Moment P b → Replies → Type 0) (g : Moment P b) (m : Replies) (n : ℕ) (a : Action) : Type 0 where
    pub moment : Moment P b
    pub quietly : Quietly g moment
    pub may : MayDo moment a
    pub tells : Tells moment a n
    pub then : (x : Answer) (h : Moment P b) → Comes moment a may x h → rest h (λ xs. m (x ∷ xs))

  abbrev pub Here : (Moment P b → Replies → Type 0) → Moment P b → Replies → Reply → Type 0
  Here rest g m (Next n a) = Goes_to rest g m n a
  Here rest g m Over = Unit {0}
  Here rest g m Unknown = Unit {0}

  -- each action is in order, so many answers deep
  abbrev pub Goes : ℕ → Moment P b → Replies → Type 0
  Goes zero g m = Unit {0}
  Goes (suc d) g m = Here (λ h k. Goes d h k) g m (m [])

  pub goes_same : (d : ℕ) (g : Moment P b) (m k : Replies) → ((xs : List Answer) → m xs ≡ k xs) → Goes d g m → Goes d g k
  goes_same zero g m k e s = tt
  goes_same (suc d) g m k e s = subst (λ r. Here (λ h k. Goes d h k) g k r) (e []) (go (m []) (λ h a c f t. goes_same d h a c f t) s)
    where
      go : (r : Reply) → ((h : Moment P b) (a c : Replies) → ((xs : List Answer) → a xs ≡ c xs) → Goes d h a → Goes d h c) → Here (λ h k. Goes d h k) g m r →
          Here (λ h k. Goes d h k) g k r
      go (Next n a) same z = record { moment = z.moment; quietly = z.quietly; may = z.may; tells = z.tells; then = λ x h c. same h (λ xs. m (x ∷ xs)) (λ xs. k (x ∷ xs)) (λ xs. e (x ∷ xs)) (z.then x h c) }
      go Over same z = tt
      go Unknown same z = tt

  goes_over : (d : ℕ) (g : Moment P b) → Goes d g (λ xs. Over)
  goes_over zero g = tt
  goes_over (suc d) g = tt

  -- it has made a local region
  pub goes_making : (d : ℕ) (st : State) (n : ℕ) (m : Replies) → Goes d (at (having_made n st)) m → Goes d (at st) m
  goes_making zero st n m s = tt
  goes_making (suc d) st n m s = go (m []) s
    where
      from : {h : Moment P b} → Quietly (at (having_made n st)) h → Quietly (at st) h
      from still = making n
      from (making k) = making k

      go : (r : Reply) → Here (λ h k. Goes d h k) (at (having_made n st)) m r → Here (λ h k. Goes d h k) (at st) m r
      go (Next k a) z = record { moment = z.moment; quietly = from z.quietly; may = z.may; tells = z.tells; then = z.then }
      go Over z = tt
      go Unknown z = tt

  -- it goes in order, however deep, where less than so many ticks are possible
  pub record Good (n : ℕ) (g : Moment P b) (k : Reported → Reply) : Type 0 where
    pub from : (d t : ℕ) → t < most_ticks → most_ticks * d + (most_ticks - t) < n → Goes d g (λ xs. k (reported_on t (state_of g).made xs))

  pub good_same : {n : ℕ} {g : Moment P b} {h k : Reported → Reply} → ((w : Reported) → w.since < most_ticks → h w ≡ k w) → Good n g h → Good n g k
  good_same {n} {g} e s = record { from = λ d t l r. goes_same d g _ _ (λ xs. e (reported_on t (state_of g).made xs) l) (s.from d t l r) }

  pub good_less : {n m : ℕ} {g : Moment P b} {h : Reported → Reply} → m ≤ n → Good n g h → Good m g h
  good_less le s = record { from = λ d t l r. s.from d t l (omega arith) }

  pub good_end : {n : ℕ} {st : State} (x : Ending) → EndFits P b L copies st.shapes x → Good n (at st) (λ w. ending x w.since w.to_come)
  good_end {n} {st} x fits = record { from = λ d t l r. go d t }
    where
      go : (d t : ℕ) → Goes d (at st) (λ xs. ending x t xs)
      go zero t = tt
      go (suc d) t = record { moment = at st; quietly = still; may = fits; tells = tt; then = λ y h c. goes_over d h }

  -- from a state that the next event is answered in, to what follows it
  stands_in : {n : ℕ} (d t : ℕ) (st : State) {u : State} {h : Moment P b} (k : Reported → Reply) → h ≡ at u → u.made ≡ st.made → most_ticks * suc d + (most_ticks - t) < n → Good n (at u) k →
      Goes d h (λ xs. k (reported_on 0 st.made xs))
  stands_in {n} d t st {u} k e m r s =
      subst (λ z. Goes d z (λ xs. k (reported_on 0 st.made xs))) (sym e) (subst (λ y. Goes d (at u) (λ xs. k (reported_on 0 y xs))) m (s.from d 0 most_pos (room_falls n d t r)))

  pub good_own : {V : Type 0} {n : ℕ} (st : State) (o : Own) (k : Answer → Reported → Out V) (K : V → Reported → Reply) (m : Moves P b st o) → MayLeave o st.entries →
      ((x : Answer) (u : State) → After o st u → Answers P b st o m x u → Good n (at u) (λ w. finish (k x w) K)) → Good n (at st) (λ w. finish (bind (acts_counting o w w.to_come) k) K)
  good_own {V} {n} st o k K m leaves more = record { from = go }
    where
      go : (d t : ℕ) → t < most_ticks → most_ticks * d + (most_ticks - t) < n → Goes d (at st) (λ xs. finish (bind (acts_counting o (reported_on t st.made xs) xs) k) K)
      go zero t l r = tt
      go (suc d) t l r = record {
        moment = at st;
        quietly = still;
        may = (m, leaves);
        tells = told_made st o;
        then = λ x h c. stands_in d t st (λ w. finish (k x w) K) c.1 c.2.made r (more x c.0 c.2 c.3);
      }

  -- a tick, or the rest of the last that may be made without an event
  pub good_tick : {V : Type 0} {n : ℕ} (st : State) (k : Reported → Out V) (K : V → Reported → Reply) → ((u : State) → Since st u → u.made ≡ st.made → Good n (at u) (λ w. finish (k w) K)) →
      Good (suc n) (at st) (λ w. finish (bind (ticked w) (λ u v. k v)) K)
  good_tick {V} {n} st k K s = record { from = λ d t l r. go d t l r (suc t == most_ticks) refl }
    where
      go : (d t : ℕ) → t < most_ticks → most_ticks * d + (most_ticks - t) < suc n → (c : Bool) → (suc t == most_ticks) ≡ c →
          Goes d (at st) (λ xs. finish (bind (ticked_if c (reported_on t st.made xs)) (λ u v. k v)) K)
      go zero t l r true e = tt
      go (suc d) t l r true e = record {
        moment = at st;
        quietly = still;
        may = (tt, tt);
        tells = tt;
        then = λ x h c. subst (λ z. Goes d z (λ xs. finish (k (reported_on 0 st.made xs)) K)) (sym c.1) (subst (λ y. Goes d (at c.0) (λ xs. finish (k (reported_on 0 y xs)) K)) c.2.made
            ((s c.0 (since_after Rest refl c.2) c.2.made).from d 0 most_pos (omega arith)));
      }
      go d t l r false e =
          let ne = eqb-false (suc t) most_ticks e in
          let lt : suc t < most_ticks = grind arith in
          (s st (since_now st) refl).from d (suc t) lt (omega arith)

  -- begins, and the join
  pub good_begins : {V : Type 0} {n : ℕ} (st : State) (forking : Forking) (ts : List Task) (forks : Forks P b st forking ts) (i j : ℕ) (k : Brought → Reported → Out V) (K : V → Reported → Reply) →
      i + j ≡ length ts → ((x : Brought) (u : State) → Since st u → Brings P b st forking ts forks u x → Good n (at u) (λ w. finish (k x w) K)) →
      Good n (forked st forking ts forks i) (λ w. finish (bind (begins_then i j reported_join w) k) K)
  good_begins {V} {n} st forking ts forks i zero k K e more =
      good_same (λ w l. ap (λ o. finish o K) (sym (bind_bind (asked Join w) (λ a v. Done (brought a) v) k))) (record { from = go })
    where
      go : (d t : ℕ) → t < most_ticks → most_ticks * d + (most_ticks - t) < n →
          Goes d (forked st forking ts forks i) (λ xs. finish (bind (asked Join (reported_on t st.made xs)) (λ a v. k (brought a) v)) K)
      go zero t l r = tt
      go (suc d) t l r = record {
        moment = forked st forking ts forks i;
        quietly = still;
        may = omega arith;
        tells = tt;
        then = λ x h c. stands_in d t st (λ w. finish (k (brought x) w) K) c.1 c.3 r (more (brought x) c.0 c.2 c.4);
      }
  good_begins {V} {n} st forking ts forks i (suc j) k K e more =
      good_same (λ w l. ap (λ o. finish o K) (sym (bind_bind (asked (Begin i) w) (λ a v. begins_then (suc i) j reported_join v) k)))
      (record { from = go (good_begins st forking ts forks (suc i) j k K (omega arith) more) })
    where
      go : Good n (forked st forking ts forks (suc i)) (λ w. finish (bind (begins_then (suc i) j reported_join w) k) K) → (d t : ℕ) → t < most_ticks → most_ticks * d + (most_ticks - t) < n →
          Goes d (forked st forking ts forks i) (λ xs. finish (bind (asked (Begin i) (reported_on t st.made xs)) (λ a v. bind (begins_then (suc i) j reported_join v) k)) K)
      go s zero t l r = tt
      go s (suc d) t l r = record {
        moment = forked st forking ts forks i;
        quietly = still;
        may = tt;
        tells = tt;
        then = λ x h c. subst (λ z. Goes d z (λ xs. finish (bind (begins_then (suc i) j reported_join (reported_on 0 st.made xs)) k) K)) (sym c) (s.from d 0 most_pos (room_falls n d t r));
      }

  pub good_fork : {V : Type 0} {n : ℕ} (st : State) (forking : Forking) (ts : List Task) (forks : Forks P b st forking ts) → NdFreeFork P b st.entries forking ts → (k : Brought → Reported → Out V) (K : V → Reported → Reply) →
      ((x : Brought) (u : State) → Since st u → Brings P b st forking ts forks u x → Good n (at u) (λ w. finish (k x w) K)) →
      Good n (at st) (λ w. finish (bind (asked (Fork (record { kind = forking; tasks = ts })) w) (λ a v. bind (begins_then 0 (length ts) reported_join v) k)) K)
  good_fork {V} {n} st forking ts forks nd_free k K more = record { from = go (good_begins st forking ts forks 0 (length ts) k K (omega arith) more) }
    where
      go : Good n (forked st forking ts forks 0) (λ w. finish (bind (begins_then 0 (length ts) reported_join w) k) K) → (d t : ℕ) → t < most_ticks → most_ticks * d + (most_ticks - t) < n →
          Goes d (at st) (λ xs. finish (bind (asked (Fork (record { kind = forking; tasks = ts })) (reported_on t st.made xs)) (λ a v. bind (begins_then 0 (length ts) reported_join v) k)) K)
      go s zero t l r = tt
      go s (suc d) t l r = record {
        moment = at st;
        quietly = still;
        may = (forks, nd_free);
        tells = tt;
        then = λ x h c. subst (λ z. Goes d z (λ xs. finish (bind (begins_then 0 (length ts) reported_join (reported_on 0 st.made xs)) k) K)) (sym c) (s.from d 0 most_pos (room_falls n d t r));
      }
