-- What may come next, by what came before: a task's replies to lists of answers, followed so many answers deep.
use Rattle.std.proofs.Common.{◌≡◌, ℕ, zero, suc, ◌+◌, ◌-◌, ◌*◌, ◌<◌, ◌≤◌, ◌⊎◌, inl, inr, Bool, true, false, List, [], ◌∷◌, length, refl, sym, ap, ◌∙◌, subst}
use Rattle.std.proofs.Common.{arith, ◌==◌}
use Rattle.std.proofs.lemmas.Bool.{eqb-false, eqb-true}
use Rattle.lang_meaning.specs.Values.{Naming}
use Rattle.lang_meaning.specs.Actions.{Frame, Task, Branches, Effect, Own, Rest, Read, Write, Look, New, Print, Enter, Exit, Action, Do, Fork, Begin, Join}
use Rattle.lang_meaning.specs.Actions.{End, Ending}
use Rattle.lang_meaning.specs.Actions.{Answer, Reply, Next, Over, Unknown}
use Rattle.lang_meaning.specs.Actions.{Ending as ends}
use Rattle.lang_meaning.specs.Counts.{truth, Brought, brought}
use Rattle.lang_meaning.specs.Core.{Result, Goes_on, Returns, Prog, Ret, Traps, Act, Makes, Again, Split, Out, Done, Trapped, Stopped, Lost, bind, tested}
use Rattle.lang_meaning.specs.Core.{rounded, run}
use Rattle.lang_meaning.specs.Asking.{most_ticks, Reported, asked, ticked, begins_then, reported_join, reported, ending}
use Rattle.lang_meaning.specs.Tasks.{Replies, again}
use Rattle.lang_meaning.proofs.Ticks.{most_pos, past_test, ticked_if, loops_again, bind_done}
use Rattle.lang_meaning.proofs.Entries.{IsEntry, Enters, Steady}

-- where a task stands: anywhere; after a fork of these branches, of which so many have begun; after a rest without ticks;
-- or at its end
pub data Mode (N M : Type 0) : Type 0 where
  Free : Mode N M
  Forked : (ts : Branches (Task N M)) (begun : ℕ) → Mode N M
  Rested : Mode N M
  Ended : Mode N M

-- what follows an outcome
abbrev pub Rests : Type 0 → Type 0 → Type 0 → Type 0
Rests N M V = V → Reported N M → Reply N M (Task N M)

room_falls : (n d t : ℕ) → most_ticks * suc d + (most_ticks - t) < n → most_ticks * d + (most_ticks - 0) < n
room_falls n d t l = omega arith

module _ {N M : Type 0} where
  abbrev pub after_rest : ℕ → Mode N M
  after_rest zero = Rested
  after_rest (suc n) = Free

  abbrev pub after_own : ℕ → Own N M → Mode N M
  after_own n Rest = after_rest n
  after_own n (Enter E) = Free
  after_own n (Read o i) = Free
  after_own n (Write o i v) = Free
  after_own n (Look o) = Free
  after_own n (New t c) = Free
  after_own n (Print bytes) = Free
  after_own n Exit = Free

  abbrev pub after_begin : Mode N M → Mode N M
  after_begin (Forked ts b) = Forked ts (suc b)
  after_begin Free = Free
  after_begin Rested = Free
  after_begin Ended = Free

  abbrev pub following : Mode N M → Reply N M (Task N M) → Mode N M
  following g (Next n (Do o)) = after_own n o
  following g (Next n (Fork ts)) = Forked ts 0
  following g (Next n (Begin b)) = after_begin g
  following g (Next n Join) = Free
  following g (Next n (End x)) = Ended
  following g Over = g
  following g Unknown = g

  -- so many ticks may stand before it
  abbrev pub InTime : ℕ → Action N M (Task N M) → Type 0
  InTime n a = (n < most_ticks) ⊎ ((n ≡ most_ticks) × (a ≡ Do Rest))

  abbrev pub MayFree : Reply N M (Task N M) → Type 0
  MayFree (Next n (Do o)) = InTime n (Do o)
  MayFree (Next n (Fork ts)) = n < most_ticks
  MayFree (Next n (Begin b)) = ⊥
  MayFree (Next n Join) = ⊥
  MayFree (Next n (End x)) = n < most_ticks
  MayFree Over = ⊥
  MayFree Unknown = ⊥

  abbrev pub May : Mode N M → Reply N M (Task N M) → Type 0
  May Free r = MayFree r
  May (Forked ts b) r = ((b < length ts.tasks) × (r ≡ Next 0 (Begin b))) ⊎ ((b ≡ length ts.tasks) × (r ≡ Next 0 Join))
  May Rested r = (E : List (Effect M)) × (r ≡ Next 0 (Do (Enter E)))
  May Ended r = r ≡ Over

  abbrev pub Goes : ℕ → Mode N M → Replies N M → Type 0
  Goes zero g h = Unit {0}
  Goes (suc d) g h = May g (h []) × ((x : Answer N M) → Goes d (following g (h [])) (λ xs. h (x ∷ xs)))

  goes_same : (d : ℕ) (g : Mode N M) (h k : Replies N M) → ((xs : List (Answer N M)) → h xs ≡ k xs) → Goes d g h → Goes d g k
  goes_same zero g h k e s = tt
  goes_same (suc d) g h k e s = (
    subst (λ r. May g r) (e []) s.0,
    λ x. subst (λ r. Goes d (following g r) (λ xs. k (x ∷ xs))) (e []) (goes_same d _ (λ xs. h (x ∷ xs)) (λ xs. k (x ∷ xs)) (λ xs. e (x ∷ xs)) (s.1 x)),
  )

  goes_over : (g : Mode N M) → g ≡ Ended → (d : ℕ) → Goes d g (λ xs. Over)
  goes_over g e zero = tt
  goes_over g e (suc d) = (subst (λ (h : Mode N M). May h Over) (sym e) refl, λ x. goes_over g e d)

  -- where no ticks may have gone by
  abbrev pub Fresh : Mode N M → ℕ → Type 0
  Fresh Free n = Unit {0}
  Fresh (Forked ts b) n = n ≡ 0
  Fresh Rested n = n ≡ 0
  Fresh Ended n = Unit {0}

  -- it goes rightly, however deep, where less than so many ticks are possible
  pub record Good (n : ℕ) (g : Mode N M) (k : Reported N M → Reply N M (Task N M)) : Type 0 where
    pub from : (d since made : ℕ) → since < most_ticks → Fresh g since → most_ticks * d + (most_ticks - since) < n
        → Goes d g (λ xs. k (record { since = since; made = made; to_come = xs }))

  -- an outcome, and what follows it
  abbrev pub finish : {V : Type 0} → Out N M V (Reported N M) → Rests N M V → Reply N M (Task N M)
  finish (Done v w) K = K v w
  finish (Trapped trap p w) K = ending (ends.Trapped trap p) w.since w.to_come
  finish (Stopped n a) K = Next n a
  finish (Lost w) K = Unknown

  finish_bind : {V U : Type 0} (o : Out N M V (Reported N M)) (j : V → Reported N M → Out N M U (Reported N M)) (K : Rests N M U)
      → finish (bind o j) K ≡ finish o (λ v w. finish (j v w) K)
  finish_bind (Done v w) j K = refl
  finish_bind (Trapped trap p w) j K = refl
  finish_bind (Stopped n a) j K = refl
  finish_bind (Lost w) j K = refl

  bind_bind : {V U T : Type 0} (o : Out N M V (Reported N M)) (j : V → Reported N M → Out N M U (Reported N M)) (k : U → Reported N M → Out N M T (Reported N M))
      → bind (bind o j) k ≡ bind o (λ v w. bind (j v w) k)
  bind_bind (Done v w) j k = refl
  bind_bind (Trapped trap p w) j k = refl
  bind_bind (Stopped n a) j k = refl
  bind_bind (Lost w) j k = refl

  pub good_same : {n : ℕ} {g : Mode N M} {h k : Reported N M → Reply N M (Task N M)} → ((w : Reported N M) → w.since < most_ticks → h w ≡ k w) → Good n g h → Good n g k
  good_same {n} {g} {h} {k} e s =
      record { from = λ d t m l f r. goes_same d g _ _ (λ xs. e (record { since = t; made = m; to_come = xs }) l) (s.from d t m l f r) }

  good_less : {n m : ℕ} {g : Mode N M} {h : Reported N M → Reply N M (Task N M)} → m ≤ n → Good n g h → Good m g h
  good_less le s = record { from = λ d t m l f r. s.from d t m l f (omega arith) }

  pub good_end : {n : ℕ} (x : Ending N) → Good n Free (λ w. ending x w.since w.to_come)
  good_end x = record { from = λ d t m l f r. at d t l }
    where
      at : (d t : ℕ) → t < most_ticks → Goes d Free (λ xs. ending x t xs)
      at zero t l = tt
      at (suc d) t l = (l, λ y. goes_over Ended refl d)

  fresh_at_first : (g : Mode N M) → Fresh g 0
  fresh_at_first Free = tt
  fresh_at_first (Forked ts b) = refl
  fresh_at_first Rested = refl
  fresh_at_first Ended = tt

  good_act : {V : Type 0} {n : ℕ} (g : Mode N M) (a : Action N M (Task N M)) (k : Answer N M → Reported N M → Out N M V (Reported N M)) (K : Rests N M V)
      → ((t : ℕ) → t < most_ticks → Fresh g t → May g (Next t a))
      → ((t : ℕ) (x : Answer N M) → Good n (following g (Next t a)) (λ w. finish (k x w) K)) → Good n g (λ w. finish (bind (asked a w) k) K)
  good_act {V} {n} g a k K ok more = record { from = at }
    where
      at : (d t m : ℕ) → t < most_ticks → Fresh g t → most_ticks * d + (most_ticks - t) < n
          → Goes d g (λ xs. finish (bind (asked a (record { since = t; made = m; to_come = xs })) k) K)
      at zero t m l f r = tt
      at (suc d) t m l f r = (ok t l f, λ x. (more t x).from d 0 m most_pos (fresh_at_first (following g (Next t a))) (room_falls n d t r))

  good_tick : {V : Type 0} {n : ℕ} (k : Reported N M → Out N M V (Reported N M)) (K : Rests N M V) → Good n Free (λ w. finish (k w) K)
      → Good (suc n) Free (λ w. finish (bind (ticked w) (λ u v. k v)) K)
  good_tick {V} {n} k K s = record { from = λ d t m l f r. at d t m l r (suc t == most_ticks) refl }
    where
      at : (d t m : ℕ) → t < most_ticks → most_ticks * d + (most_ticks - t) < suc n → (b : Bool) → (suc t == most_ticks) ≡ b
          → Goes d Free (λ xs. finish (bind (ticked_if b (record { since = t; made = m; to_come = xs })) (λ u v. k v)) K)
      at zero t m l r true e = tt
      at (suc d) t m l r true e = (inr (eqb-true (suc t) most_ticks e, refl), λ x. s.from d 0 m most_pos tt (omega arith))
      at d t m l r false e =
          let ne = eqb-false (suc t) most_ticks e in
          let lt : suc t < most_ticks = grind arith in
          s.from d (suc t) m lt tt (omega arith)

  abbrev AllGood : {V : Type 0} → ℕ → (V → Reported N M → Reply N M (Task N M)) → Type 0
  AllGood {V} n K = (v : V) → Good n Free (K v)

  -- an entry may come after a rest
  good_entry : {n : ℕ} (names : Naming N M) (p : Prog N M) (K : Rests N M (Result N M)) → IsEntry p → Good n Free (λ w. finish (run (reported names) p w) K)
      → (t : ℕ) → Good n (after_rest t) (λ w. finish (run (reported names) p w) K)
  good_entry names (Ret r) K h s t = absurd h
  good_entry names (Traps trap p) K h s t = absurd h
  good_entry names (Act (Enter E) k) K h s (suc t) = s
  good_entry {n} names (Act (Enter E) k) K h s zero = record { from = at }
    where
      at : (d t m : ℕ) → t < most_ticks → t ≡ 0 → most_ticks * d + (most_ticks - t) < n
          → Goes d Rested (λ xs. finish (bind (asked (Do (Enter E)) (record { since = t; made = m; to_come = xs })) (λ x v. run (reported names) (k x) v)) K)
      at zero t m l f r = tt
      at (suc d) t m l f r = ((E, ap (λ i. Next i (Do (Enter E))) f), (s.from (suc d) t m l tt r).1)
  good_entry names (Act Rest k) K h s t = absurd h
  good_entry names (Act (Read o i) k) K h s t = absurd h
  good_entry names (Act (Write o i v) k) K h s t = absurd h
  good_entry names (Act (Look o) k) K h s t = absurd h
  good_entry names (Act (New u c) k) K h s t = absurd h
  good_entry names (Act (Print bytes) k) K h s t = absurd h
  good_entry names (Act Exit k) K h s t = absurd h
  good_entry names (Makes k) K h s t = absurd h
  good_entry names (Again u b f k) K h s t = absurd h
  good_entry names (Split forking ts bs k) K h s t = absurd h

  -- what a task does by itself, and what follows
  good_own : {n : ℕ} (names : Naming N M) (o : Own N M) (k : Answer N M → Prog N M) (K : Rests N M (Result N M)) → Enters o k
      → ((x : Answer N M) → Good n Free (λ w. finish (run (reported names) (k x) w) K)) → Good n Free (λ w. finish (run (reported names) (Act o k) w) K)
  good_own names Rest k K e h = good_act Free _ _ K (λ t l f. inl l) (λ t x. good_entry names (k x) K (e x) (h x) t)
  good_own names (Enter E) k K e h = good_act Free _ _ K (λ t l f. inl l) (λ t x. h x)
  good_own names (Read o i) k K e h = good_act Free _ _ K (λ t l f. inl l) (λ t x. h x)
  good_own names (Write o i v) k K e h = good_act Free _ _ K (λ t l f. inl l) (λ t x. h x)
  good_own names (Look o) k K e h = good_act Free _ _ K (λ t l f. inl l) (λ t x. h x)
  good_own names (New u c) k K e h = good_act Free _ _ K (λ t l f. inl l) (λ t x. h x)
  good_own names (Print bytes) k K e h = good_act Free _ _ K (λ t l f. inl l) (λ t x. h x)
  good_own names Exit k K e h = good_act Free _ _ K (λ t l f. inl l) (λ t x. h x)

  good_begins : {n : ℕ} (ts : Branches (Task N M)) (b m : ℕ) (k : Brought N → Reported N M → Out N M (Result N M) (Reported N M)) (K : Rests N M (Result N M))
      → b + m ≡ length ts.tasks
      → ((x : Brought N) → Good n Free (λ w. finish (k x w) K)) → Good n (Forked ts b) (λ w. finish (bind (begins_then b m reported_join w) k) K)
  good_begins ts b zero k K e h =
      good_same (λ w l. ap (λ o. finish o K) (sym (bind_bind (asked Join w) (λ a v. Done (brought a) v) k)))
      (good_act (Forked ts b) Join (λ a v. k (brought a) v) K (λ t l f. inr (omega arith, ap (λ i. Next i Join) f)) (λ t x. h (brought x)))
  good_begins ts b (suc m) k K e h =
      good_same (λ w l. ap (λ o. finish o K) (sym (bind_bind (asked (Begin b) w) (λ a v. begins_then (suc b) m reported_join v) k)))
      (good_act (Forked ts b) (Begin b) (λ a v. bind (begins_then (suc b) m reported_join v) k) K (λ t l f. inl (omega arith, ap (λ i. Next i (Begin b)) f))
      (λ t x. good_begins ts (suc b) m k K (omega arith) h))

  module _ (names : Naming N M) where
    -- whatever follows
    pub record Fine (p : Prog N M) : Type 0 where
      pub good : (n : ℕ) (K : Rests N M (Result N M)) → AllGood n K → Good n Free (λ w. finish (run (reported names) p w) K)

    module _ (t b : Frame N M → Prog N M) (ht : (f : Frame N M) → Fine (t f)) (hb : (f : Frame N M) → Fine (b f)) where
      good_past : (n : ℕ) (K : Rests N M (Result N M)) → AllGood (suc n) K → ((g : Frame N M) → Good n Free (λ w. finish (again names t b g w) K))
          → (r : Result N M)
          → Good (suc n) Free (λ w. finish (tested ticked (λ g u. run (reported names) (b g) u) (λ g u. again names t b g u) r w) K)
      good_past n K h more (Returns v) = h (Returns v)
      good_past n K h more (Goes_on v g) = at (truth v)
        where
          on_round : (r : Result N M) → Good n Free (λ w. finish (rounded (λ g u. again names t b g u) r w) K)
          on_round (Returns u) = good_less (omega arith) (h (Returns u))
          on_round (Goes_on u i) = more i

          at : (c : Bool) → Good (suc n) Free (λ w. finish (past_test (λ g u. run (reported names) (b g) u) (λ g u. again names t b g u) v g w c) K)
          at false = h (Goes_on v g)
          at true =
              good_tick (λ v. bind (run (reported names) (b g) v) (λ r u. rounded (λ g u. again names t b g u) r u)) K
              (good_same (λ w l. sym (finish_bind (run (reported names) (b g) w) _ K)) ((hb g).good n _ on_round))

      good_loop : (n : ℕ) (f : Frame N M) (K : Rests N M (Result N M)) → AllGood n K → Good n Free (λ w. finish (again names t b f w) K)
      good_loop zero f K h = record { from = λ d s m l i r. absurd (omega arith) }
      good_loop (suc n) f K h =
          good_same (λ w l. sym (ap (λ o. finish o K) (loops_again names t b f w l) ∙ finish_bind (run (reported names) (t f) w) _ K))
          ((ht f).good (suc n) _ (good_past n K h (λ g. good_loop n g K (λ v. good_less (omega arith) (h v)))))

    pub all_fine : (p : Prog N M) → Steady p → Fine p
    all_fine (Ret r) s = record { good = λ n K h. h r }
    all_fine (Traps trap p) s = record { good = λ n K h. good_end (ends.Trapped trap p) }
    all_fine (Act o k) s = record { good = λ n K h. good_own names o k K s.0 (λ x. (all_fine (k x) (s.1 x)).good n K h) }
    all_fine (Makes k) s = record { good = λ n K h. at n K (λ m. (all_fine (k m) (s m)).good n K h) }
      where
        at : (n : ℕ) (K : Rests N M (Result N M)) → ((m : M) → Good n Free (λ w. finish (run (reported names) (k m) w) K))
            → Good n Free (λ w. finish (run (reported names) (Makes k) w) K)
        at n K h = record {
          from = λ d t m l f r.
              goes_same d Free _ _ (λ xs. ap (λ o. finish o K) (sym (bind_bind (ticked (record { since = t; made = suc m; to_come = xs })) _ _)))
              ((good_tick (λ v. run (reported names) (k (names.made m)) v) K (h (names.made m))).from d t (suc m) l tt (omega arith));
        }
    all_fine (Again t b f k) s = record {
      good = λ n K h.
          good_same (λ w l. ap (λ o. finish o K) (ap (λ o. bind o (λ r v. run (reported names) (k r) v)) (bind_done _)))
          (good_same (λ w l. sym (finish_bind (again names t b f w) _ K))
          (good_loop t b (λ g. all_fine (t g) (s.0 g)) (λ g. all_fine (b g) (s.1 g)) n f (λ r w. finish (run (reported names) (k r) w) K)
          (λ r. (all_fine (k r) (s.2 r)).good n K h)));
    }
    all_fine (Split forking ts bs k) s = record {
      good = λ n K h.
          good_same (λ w l. ap (λ o. finish o K)
          (sym (bind_bind (asked (Fork (record {
            kind =
                forking;
            tasks = ts;
          })) w) (λ a v. begins_then 0 (length ts) reported_join v) (λ x v. run (reported names) (k x) v))))
          (good_act Free (Fork (record {
            kind =
                forking;
            tasks = ts;
          })) (λ a v. bind (begins_then 0 (length ts) reported_join v) (λ x v. run (reported names) (k x) v)) K (λ t l f. l)
          (λ t x. good_begins (record { kind = forking; tasks = ts }) 0 (length ts) _ K (omega arith) (λ y. (all_fine (k y) (s y)).good n K h)));
    }
