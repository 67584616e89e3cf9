-- Two that do the same but where the first asks for the impossible reply the same, answer by answer, until it does.
use Rattle.std.proofs.Common.{◌≡◌, ◌⊎◌, inl, inr, ℕ, zero, suc, ◌+◌, ◌-◌, ◌*◌, ◌<◌, ◌≤◌, Bool, true, false, List, [], ◌∷◌, length, refl, sym, ap, ◌∙◌, subst, arith, ◌==◌}
use Rattle.std.proofs.lemmas.Bool.{eqb-false}
use Rattle.lang_typed.specs.declared.stmt.Forking.{Forking}
use Rattle.lang_meaning.specs.Actions.{Work}
use Rattle.lang_meaning.specs.Asking.{most_ticks, asked, ticked, begins_then, reported_join, reported, ending, ended, replied}
use Rattle.lang_meaning.specs.Core.{Goes_on, Returns, Makes, Done, Trapped as Fallen, Stopped, Lost, bind, tested, rounded, run}
use Rattle.lang_meaning.specs.Counts.{Brought, brought, truth}
use Rattle.lang_meaning.specs.Tasks.{again as loops}
use Rattle.lang_meaning.specs.Values.{Naming}
use Rattle.lang_meaning.proofs.Ticks.{most_pos, past_test, ticked_if, loops_again, bind_done}
use Rattle.runs_theory.specs.Actions.{Task, Own, Do, Fork, Answer, Reply, Next}
use Rattle.runs_theory.specs.Objects.{Name, LocalRegion}
use Rattle.runs_sound.specs.Frames.{Frame}
use Rattle.runs_sound.specs.Work.{Result, Prog}
use Rattle.runs_sound.proofs.kinds.Alike.{Alike, stops, ret, traps, act, makes, again, split, IsImpossible, impossible}
use Rattle.runs_sound.proofs.moments.Moments.{Reported, Out, Replies, finish, reported_on, bind_bind, finish_bind}

abbrev pub AsksImpossible : Reply → Type 0
AsksImpossible (Next n (Do o)) = IsImpossible o
AsksImpossible _ = ⊥

abbrev pub Together : ℕ → Replies → Replies → Type 0
Together zero m k = Unit {0}
Together (suc d) m k = AsksImpossible (m []) ⊎ ((m [] ≡ k []) × ((x : Answer) → Together d (λ xs. m (x ∷ xs)) (λ xs. k (x ∷ xs))))

pub together_same : (d : ℕ) {m n k l : Replies} → ((xs : List Answer) → m xs ≡ n xs) → ((xs : List Answer) → k xs ≡ l xs) → Together d m k → Together d n l
together_same d {m} {n} {k} {l} e f t = subst (λ z. Together d z l) (λ i xs. e xs i) (subst (λ z. Together d m z) (λ i xs. f xs i) t)

together_self : (d : ℕ) (m : Replies) → Together d m m
together_self zero m = tt
together_self (suc d) m = inr (refl, λ x. together_self d (λ xs. m (x ∷ xs)))

room_falls : (n d t : ℕ) → most_ticks * suc d + (most_ticks - t) < n → most_ticks * d + (most_ticks - 0) < n
room_falls n d t l = omega arith

-- however deep, where less than so many ticks are possible
record Both (n : ℕ) (h k : Reported → Reply) : Type 0 where
  from : (d t made : ℕ) → t < most_ticks → most_ticks * d + (most_ticks - t) < n → Together d (λ xs. h (reported_on t made xs)) (λ xs. k (reported_on t made xs))

both_same : {n : ℕ} {h i k l : Reported → Reply} → ((w : Reported) → w.since < most_ticks → h w ≡ i w) → ((w : Reported) → w.since < most_ticks → k w ≡ l w) → Both n h k → Both n i l
both_same e f s = record { from = λ d t made l r. together_same d (λ xs. e (reported_on t made xs) l) (λ xs. f (reported_on t made xs) l) (s.from d t made l r) }

both_less : {n m : ℕ} {h k : Reported → Reply} → m ≤ n → Both n h k → Both m h k
both_less le s = record { from = λ d t made l r. s.from d t made l (omega arith) }

both_self : {n : ℕ} (h : Reported → Reply) → Both n h h
both_self h = record { from = λ d t made l r. together_self d (λ xs. h (reported_on t made xs)) }

module _ {V : Type 0} (K L : V → Reported → Reply) where
  both_own : {n : ℕ} (o : Own) (k l : Answer → Reported → Out V) → ((x : Answer) → Both n (λ w. finish (k x w) K) (λ w. finish (l x w) L)) →
      Both n (λ w. finish (bind (asked (Do o) w) k) K) (λ w. finish (bind (asked (Do o) w) l) L)
  both_own {n} o k l more = record { from = go }
    where
      go : (d t made : ℕ) → t < most_ticks → most_ticks * d + (most_ticks - t) < n →
          Together d (λ xs. finish (bind (asked (Do o) (reported_on t made xs)) k) K) (λ xs. finish (bind (asked (Do o) (reported_on t made xs)) l) L)
      go zero t made b r = tt
      go (suc d) t made b r = inr (refl, λ x. (more x).from d 0 made most_pos (room_falls n d t r))

  both_tick : {n : ℕ} (k l : Reported → Out V) → Both n (λ w. finish (k w) K) (λ w. finish (l w) L) →
      Both (suc n) (λ w. finish (bind (ticked w) (λ u v. k v)) K) (λ w. finish (bind (ticked w) (λ u v. l v)) L)
  both_tick {n} k l s = record { from = λ d t made b r. go d t made b r (suc t == most_ticks) refl }
    where
      go : (d t made : ℕ) → t < most_ticks → most_ticks * d + (most_ticks - t) < suc n → (c : Bool) → (suc t == most_ticks) ≡ c →
          Together d (λ xs. finish (bind (ticked_if c (reported_on t made xs)) (λ u v. k v)) K) (λ xs. finish (bind (ticked_if c (reported_on t made xs)) (λ u v. l v)) L)
      go zero t made b r true e = tt
      go (suc d) t made b r true e = inr (refl, λ x. s.from d 0 made most_pos (omega arith))
      go d t made b r false e =
          let ne = eqb-false (suc t) most_ticks e in
          let lt : suc t < most_ticks = grind arith in
          s.from d (suc t) made lt (omega arith)

  module _ {n : ℕ} (k l : Brought Name → Reported → Out V) (more : (x : Brought Name) → Both n (λ w. finish (k x w) K) (λ w. finish (l x w) L)) where
    both_begins : (i j : ℕ) → Both n (λ w. finish (bind (begins_then i j reported_join w) k) K) (λ w. finish (bind (begins_then i j reported_join w) l) L)
    both_begins i zero = record { from = go }
      where
        go : (d t made : ℕ) → t < most_ticks → most_ticks * d + (most_ticks - t) < n →
            Together d (λ xs. finish (bind (reported_join (reported_on t made xs)) k) K) (λ xs. finish (bind (reported_join (reported_on t made xs)) l) L)
        go zero t made b r = tt
        go (suc d) t made b r = inr (refl, λ x. (more (brought x)).from d 0 made most_pos (room_falls n d t r))
    both_begins i (suc j) = record { from = go (both_begins (suc i) j) }
      where
        go : Both n (λ w. finish (bind (begins_then (suc i) j reported_join w) k) K) (λ w. finish (bind (begins_then (suc i) j reported_join w) l) L) → (d t made : ℕ) → t < most_ticks →
            most_ticks * d + (most_ticks - t) < n →
            Together d (λ xs. finish (bind (begins_then i (suc j) reported_join (reported_on t made xs)) k) K) (λ xs. finish (bind (begins_then i (suc j) reported_join (reported_on t made xs)) l) L)
        go s zero t made b r = tt
        go s (suc d) t made b r = inr (refl, λ x. s.from d 0 made most_pos (room_falls n d t r))

    both_fork : (forking : Forking) (ts : List Task) →
        Both n (λ w. finish (bind (asked (Fork (record { kind = forking; tasks = ts })) w) (λ a v. bind (begins_then 0 (length ts) reported_join v) k)) K)
        (λ w. finish (bind (asked (Fork (record { kind = forking; tasks = ts })) w) (λ a v. bind (begins_then 0 (length ts) reported_join v) l)) L)
    both_fork forking ts = record { from = go (both_begins 0 (length ts)) }
      where
        go : Both n (λ w. finish (bind (begins_then 0 (length ts) reported_join w) k) K) (λ w. finish (bind (begins_then 0 (length ts) reported_join w) l) L) → (d t made : ℕ) → t < most_ticks →
            most_ticks * d + (most_ticks - t) < n →
            Together d (λ xs. finish (bind (asked (Fork (record { kind = forking; tasks = ts })) (reported_on t made xs)) (λ a v. bind (begins_then 0 (length ts) reported_join v) k)) K)
            (λ xs. finish (bind (asked (Fork (record { kind = forking; tasks = ts })) (reported_on t made xs)) (λ a v. bind (begins_then 0 (length ts) reported_join v) l)) L)
        go s zero t made b r = tt
        go s (suc d) t made b r = inr (refl, λ x. s.from d 0 made most_pos (room_falls n d t r))

module _ (names : Naming Name LocalRegion) where
  -- whatever follows, if it does so together
  record Fine (p q : Prog) : Type 0 where
    good : (n : ℕ) (K L : Result → Reported → Reply) → ((r : Result) → Both n (K r) (L r)) → Both n (λ w. finish (run (reported names) p w) K) (λ w. finish (run (reported names) q w) L)

  module _ (t u s v : Frame → Prog) (ht : (e : Frame) → Fine (t e) (u e)) (hs : (e : Frame) → Fine (s e) (v e)) where
    abbrev After : ℕ → (Result → Reported → Reply) → (Result → Reported → Reply) → Type 0
    After n K L = (r : Result) → Both n (K r) (L r)

    abbrev OneMore : ℕ → (Result → Reported → Reply) → (Result → Reported → Reply) → Type 0
    OneMore n K L = (e : Frame) → Both n (λ w. finish (loops names t s e w) K) (λ w. finish (loops names u v e w) L)

    good_past : (n : ℕ) (K L : Result → Reported → Reply) → After (suc n) K L → OneMore n K L → (r : Result) →
        Both (suc n) (λ w. finish (tested ticked (λ e x. run (reported names) (s e) x) (λ e x. loops names t s e x) r w) K)
        (λ w. finish (tested ticked (λ e x. run (reported names) (v e) x) (λ e x. loops names u v e x) r w) L)
    good_past n K L k more (Returns x) = k (Returns x)
    good_past n K L k more (Goes_on x e) = go (truth x)
      where
        on_round : (r : Result) → Both n (λ w. finish (rounded (λ e x. loops names t s e x) r w) K) (λ w. finish (rounded (λ e x. loops names u v e x) r w) L)
        on_round (Returns y) = both_less (omega arith) (k (Returns y))
        on_round (Goes_on y f) = more f

        go : (c : Bool) → Both (suc n) (λ w. finish (past_test (λ e x. run (reported names) (s e) x) (λ e x. loops names t s e x) x e w c) K)
            (λ w. finish (past_test (λ e x. run (reported names) (v e) x) (λ e x. loops names u v e x) x e w c) L)
        go false = k (Goes_on x e)
        go true = both_tick K L (λ y. bind (run (reported names) (s e) y) (λ r q. rounded (λ e x. loops names t s e x) r q)) (λ y. bind (run (reported names) (v e) y) (λ r q. rounded (λ e x. loops names u v e x) r q))
            (both_same (λ w l. sym (finish_bind (run (reported names) (s e) w) _ K)) (λ w l. sym (finish_bind (run (reported names) (v e) w) _ L))
            ((hs e).good n _ _ on_round))

    good_loop : (n : ℕ) (K L : Result → Reported → Reply) → After n K L → OneMore n K L
    good_loop zero K L k e = record { from = λ d x made l r. absurd (omega arith) }
    good_loop (suc n) K L k e =
        both_same (λ w l. sym (ap (λ o. finish o K) (loops_again names t s e w l) ∙ finish_bind (run (reported names) (t e) w) _ K))
        (λ w l. sym (ap (λ o. finish o L) (loops_again names u v e w l) ∙ finish_bind (run (reported names) (u e) w) _ L))
        ((ht e).good (suc n) _ _ (λ r. good_past n K L k (good_loop n K L (λ r. both_less (omega arith) (k r))) r))

  walk : {p q : Prog} → Alike p q → Fine p q
  walk (stops {q = q}) = record { good = λ n K L k. record { from = λ d t made l r. asks_now K L d t made } }
    where
      asks_now : (K L : Result → Reported → Reply) (d t made : ℕ) →
          Together d (λ xs. finish (run (reported names) impossible (reported_on t made xs)) K) (λ xs. finish (run (reported names) q (reported_on t made xs)) L)
      asks_now K L zero t made = tt
      asks_now K L (suc d) t made = inl (omega arith)
  walk (ret {r = r}) = record { good = λ n K L k. k r }
  walk traps = record { good = λ n K L k. both_self (λ w. ending _ w.since w.to_come) }
  walk (act {o = o} a) = record { good = λ n K L k. both_own K L o _ _ (λ x. (walk (a x)).good n K L k) }
  walk (makes {k = j} {l = l} a) = record { good = λ n K L k. made n K L (λ m. (walk (a m)).good n K L k) }
    where
      made : (n : ℕ) (K L : Result → Reported → Reply) → ((m : LocalRegion) → Both n (λ w. finish (run (reported names) (j m) w) K) (λ w. finish (run (reported names) (l m) w) L)) →
          Both n (λ w. finish (run (reported names) (Makes j) w) K) (λ w. finish (run (reported names) (Makes l) w) L)
      made n K L k = record {
        from = λ d t c b r.
            together_same d (λ xs. ap (λ o. finish o K) (sym (bind_bind (ticked (reported_on t (suc c) xs)) _ _))) (λ xs. ap (λ o. finish o L) (sym (bind_bind (ticked (reported_on t (suc c) xs)) _ _)))
            ((both_tick K L (λ v. run (reported names) (j (names.made c)) v) (λ v. run (reported names) (l (names.made c)) v) (k (names.made c))).from d t (suc c) b (omega arith));
      }
  walk (again {t = t} {u = u} {s = s} {v = v} {f = f} {k = j} {l = l} a b c) = record {
    good = λ n K L k.
        both_same (λ w m. ap (λ z. finish z K) (ap (λ z. bind z (λ r x. run (reported names) (j r) x)) (bind_done _)))
        (λ w m. ap (λ z. finish z L) (ap (λ z. bind z (λ r x. run (reported names) (l r) x)) (bind_done _)))
        (both_same (λ w m. sym (finish_bind (loops names t s f w) _ K)) (λ w m. sym (finish_bind (loops names u v f w) _ L))
        (good_loop t u s v (λ e. walk (a e)) (λ e. walk (b e)) n _ _ (λ r. (walk (c r)).good n K L k) f));
  }
  walk (split {forking = forking} {ts = ts} {k = j} {l = l} a) = record {
    good = λ n K L k.
        both_same (λ w m. ap (λ z. finish z K)
        (sym (bind_bind (asked (Fork (record { kind = forking; tasks = ts })) w) (λ a v. begins_then 0 (length ts) reported_join v) (λ x v. run (reported names) (j x) v))))
        (λ w m. ap (λ z. finish z L)
        (sym (bind_bind (asked (Fork (record { kind = forking; tasks = ts })) w) (λ a v. begins_then 0 (length ts) reported_join v) (λ x v. run (reported names) (l x) v))))
        (both_fork K L (λ x v. run (reported names) (j x) v) (λ x v. run (reported names) (l x) v) (λ x. (walk (a x)).good n K L k) forking ts);
  }

  replied_is : (k : Work) (o : Out Result) → finish o (λ r w. ending (ended k r) w.since w.to_come) ≡ replied k o
  replied_is k (Done r w) = refl
  replied_is k (Fallen trap p w) = refl
  replied_is k (Stopped n a) = refl
  replied_is k (Lost w) = refl

  pub reply_together : (k : Work) {p q : Prog} → Alike p q → (d : ℕ) →
      Together d (λ xs. replied k (run (reported names) p (reported_on 0 0 xs))) (λ xs. replied k (run (reported names) q (reported_on 0 0 xs)))
  reply_together k {p} {q} a d =
      let z = most_pos in
      (both_same (λ w l. replied_is k (run (reported names) p w)) (λ w l. replied_is k (run (reported names) q w))
      ((walk a).good (suc (most_ticks * d + most_ticks)) (λ r w. ending (ended k r) w.since w.to_come) (λ r w. ending (ended k r) w.since w.to_come) (λ r. both_self _))).from d 0 0 z (omega arith)
