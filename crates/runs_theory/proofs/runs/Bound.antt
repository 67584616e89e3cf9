-- How long a run is: each task makes one event more that costs nothing than it makes entries, at most.
use Rattle.std.proofs.Common.{◌≡◌, ℕ, zero, suc, ◌+◌, ◌-◌, ◌*◌, ◌<◌, ◌≤◌, ◌⊎◌, inl, inr, ⊎_elim, Bool, true, false, List, [], ◌∷◌, length, refl, sym, ap, ◌∙◌}
use Rattle.std.proofs.Common.{subst, arith, nat_lt, if◌then◌else◌}
use Rattle.std.proofs.lemmas.Bool.{cond-true, cond-false, cases_lt, lt-ltb, ltb-true}
use Rattle.runs_theory.specs.Actions.{Action, Begin, Do, End, Ending, Enter, Exit, Fork, Join, Look, New, Next, Own, Print, Program, Read, Rest, Task, Write}
use Rattle.runs_theory.specs.Actions.{steps}
use Rattle.runs_theory.specs.Meaning.{Disciplined, Paced}
use Rattle.runs_theory.specs.Objects.{Path}
use Rattle.runs_theory.specs.Order.{Outcome}
use Rattle.runs_theory.specs.Runs.{Begun, Event, Faithful, Run, Upto, answers, branch, count, event_steps, later, mine, now, root, steps_of, total}
use Rattle.runs_theory.specs.Schedules.{Finished, Limits, Ran, begins, ended, no_room, one_begin, over}
use Rattle.runs_theory.proofs.events.Upto.{upto_tail, upto_split, upto_length}
use Rattle.runs_theory.proofs.events.Mine.{Found, mine_same, mine_other, mine_nil, number_of, found}
use Rattle.runs_theory.proofs.runs.Faithful.{agree_self, begun_upto, follows_at, next_same, same_task, none_after_end}
use Rattle.runs_theory.proofs.events.Cost.{total_nil, total_step}
use Rattle.runs_theory.proofs.events.Numbers.{begins_step, begins_nil}
use Rattle.runs_theory.proofs.runs.Schedules.{ran_faithful, ran_length}

-- whether so many steps are some
abbrev paid : ℕ → ℕ
paid zero = 0
paid (suc n) = 1

abbrev free : ℕ → ℕ
free zero = 1
free (suc n) = 0

abbrev own_entry : Own → ℕ
own_entry (Enter E) = 1
own_entry Rest = 0
own_entry (Read n i) = 0
own_entry (Write n i v) = 0
own_entry (Look n) = 0
own_entry (New t c) = 0
own_entry (Print bytes) = 0
own_entry Exit = 0

abbrev one_entry : Action → ℕ
one_entry (Do o) = own_entry o
one_entry (Fork ts) = 0
one_entry (Begin b) = 0
one_entry Join = 0
one_entry (End x) = 0

abbrev by_paid : Event → ℕ
by_paid e = paid (event_steps e)

abbrev by_free : Event → ℕ
by_free e = free (event_steps e)

abbrev by_entry : Event → ℕ
by_entry e = one_entry e.act

paid_or_free : (n : ℕ) → paid n + free n ≡ 1
paid_or_free zero = refl
paid_or_free (suc n) = refl

paid_most : (n : ℕ) → paid n ≤ n
paid_most zero = omega arith
paid_most (suc n) = omega arith

paid_one : (n : ℕ) → 0 < n → paid n ≡ 1
paid_one zero h = absurd (omega arith)
paid_one (suc n) h = refl

-- what costs a step, of entries and begins
costs : (a : Action) → one_entry a + one_begin a ≤ steps a
costs (Do Rest) = omega arith
costs (Do (Read n i)) = omega arith
costs (Do (Write n i v)) = omega arith
costs (Do (Look n)) = omega arith
costs (Do (New t true)) = omega arith
costs (Do (New t false)) = omega arith
costs (Do (Print bytes)) = omega arith
costs (Do (Enter E)) = omega arith
costs (Do Exit) = omega arith
costs (Fork ts) = omega arith
costs (Begin b) = omega arith
costs Join = omega arith
costs (End x) = omega arith

one_or_none : (a : Action) → one_entry a + one_begin a ≤ 1
one_or_none (Do Rest) = omega arith
one_or_none (Do (Read n i)) = omega arith
one_or_none (Do (Write n i v)) = omega arith
one_or_none (Do (Look n)) = omega arith
one_or_none (Do (New t c)) = omega arith
one_or_none (Do (Print bytes)) = omega arith
one_or_none (Do (Enter E)) = omega arith
one_or_none (Do Exit) = omega arith
one_or_none (Fork ts) = omega arith
one_or_none (Begin b) = omega arith
one_or_none Join = omega arith
one_or_none (End x) = omega arith

paid_marks : (n : ℕ) (a : Action) → one_entry a + one_begin a ≤ paid (n + steps a)
paid_marks n a = ⊎_elim (λ h. (let k = paid_one (n + steps a) h in let m = one_or_none a in omega arith)) (λ h. (let c = costs a in omega arith))
    (cases_lt 0 (n + steps a))

-- the sums over a run
marks_paid : (R : Run) → total by_entry R + begins R ≤ total by_paid R
marks_paid [] = let a = total_nil by_entry in let b = begins_nil in omega arith
marks_paid (e ∷ R) = let r = marks_paid R in let a = total_step by_entry e R in let b = begins_step e R in let c = total_step by_paid e R in let d =
    paid_marks e.ticks e.act in omega arith

paid_steps : (R : Run) → total by_paid R ≤ total event_steps R
paid_steps [] = let a = total_nil by_paid in omega arith
paid_steps (e ∷ R) = let r = paid_steps R in let a = total_step by_paid e R in let b = total_step event_steps e R in let c =
    paid_most (event_steps e) in omega arith

all_events : (R : Run) → length R ≡ total by_paid R + total by_free R
all_events [] = let a = total_nil by_paid in let b = total_nil by_free in omega arith
all_events (e ∷ R) = let r = all_events R in let a = total_step by_paid e R in let b = total_step by_free e R in let c =
    paid_or_free (event_steps e) in omega arith

-- whether a task may make an event that costs nothing before its next entry: its latest event wasn't one
abbrev spare : Run → ℕ
spare [] = 1
spare (e ∷ es) = paid (event_steps e)

-- of the task that an action begins
abbrev spare_begun : Run → Path → ℕ → Action → ℕ
spare_begun R q n (Begin b) = if nat_lt b n then spare (mine R ((n - suc b, b) ∷ q)) else 0
spare_begun R q n (Do o) = 0
spare_begun R q n (Fork ts) = 0
spare_begun R q n Join = 0
spare_begun R q n (End x) = 0

-- of all tasks that have begun in G
spares : Run → Run → ℕ
spares R [] = 0
spares R (g ∷ G) = spare_begun R g.path (count G g.path) g.act + spares R G

spares_step : (R : Run) (g : Event) (G : Run) → spares R (g ∷ G) ≡ spare_begun R g.path (count G g.path) g.act + spares R G
unfolding spares
spares_step R g G = refl

spares_nil : (R : Run) → spares R [] ≡ 0
unfolding spares
spares_nil R = refl

spare_most : (es : Run) → spare es ≤ 1
spare_most [] = omega arith
spare_most (e ∷ es) = let a = paid_or_free (event_steps e) in omega arith

begun_most : (R : Run) (q : Path) (n : ℕ) (a : Action) → spare_begun R q n a ≤ 1
begun_most R q n (Begin b) = go (nat_lt b n) refl
  where
    go : (t : Bool) → nat_lt b n ≡ t → spare_begun R q n (Begin b) ≤ 1
    go true h = subst (λ k. k ≤ 1) (sym (cond-true (nat_lt b n) _ _ h)) (spare_most (mine R ((n - suc b, b) ∷ q)))
    go false h = subst (λ k. k ≤ 1) (sym (cond-false (nat_lt b n) _ _ h)) (omega arith)
begun_most R q n (Do o) = omega arith
begun_most R q n (Fork ts) = omega arith
begun_most R q n Join = omega arith
begun_most R q n (End x) = omega arith

only_begin : (S : Run) (q : Path) (n : ℕ) (a : Action) → spare_begun S q n a ≤ one_begin a
only_begin S q n (Begin b) = begun_most S q n (Begin b)
only_begin S q n (Do o) = omega arith
only_begin S q n (Fork ts) = omega arith
only_begin S q n Join = omega arith
only_begin S q n (End x) = omega arith

module _ (R : Run) (e : Event) where
  -- another task than that of the event, begun by this action
  same_begun : (q : Path) (n : ℕ) (a : Action) → ((u : ℕ × ℕ) → e.path ≡ u ∷ q → a ≡ Begin u.1 → n ≡ suc (u.0 + u.1) → ⊥)
      → spare_begun (e ∷ R) q n a ≡ spare_begun R q n a
  same_begun q n (Begin b) f = go (nat_lt b n) refl
    where
      go : (t : Bool) → nat_lt b n ≡ t → spare_begun (e ∷ R) q n (Begin b) ≡ spare_begun R q n (Begin b)
      go true h =
          let l = ltb-true b n h in
          cond-true (nat_lt b n) _ _ h ∙ ap spare (mine_other e R ((n - suc b, b) ∷ q) (λ k. f (n - suc b, b) k refl (omega arith)))
          ∙ sym (cond-true (nat_lt b n) _ _ h)
      go false h = cond-false (nat_lt b n) _ _ h ∙ sym (cond-false (nat_lt b n) _ _ h)
  same_begun q n (Do o) f = refl
  same_begun q n (Fork ts) f = refl
  same_begun q n Join f = refl
  same_begun q n (End x) f = refl

  -- the task of the event is begun by no event of G
  spares_same : (G : Run) → ((g : Event) (B : Run) (u : ℕ × ℕ) → Upto (g ∷ B) G → e.path ≡ u ∷ g.path → g.act ≡ Begin u.1 → count B g.path ≡ suc (u.0 + u.1)
      → ⊥) → spares (e ∷ R) G ≡ spares R G
  spares_same [] f = spares_nil (e ∷ R) ∙ sym (spares_nil R)
  spares_same (g ∷ G) f =
      let r = spares_same G (λ x B u h. f x B u (later h)) in
      let a = spares_step (e ∷ R) g G in
      let b = spares_step R g G in
      let c = same_begun g.path (count G g.path) g.act (λ u p k n. f g G u now p k n) in
      omega arith

  -- it is begun by one
  spares_one : {g : Event} {B : Run} (G : Run) (q : Path) (u : ℕ × ℕ) → Upto (g ∷ B) G → g.path ≡ q → g.act ≡ Begin u.1 → count B q ≡ suc (u.0 + u.1)
      → e.path ≡ u ∷ q
      → spares (e ∷ R) G + spare (mine R e.path) ≡ spares R G + spare (mine (e ∷ R) e.path)
  spares_one [] q u h gq ga n k = absurd (let l = upto_length h in omega arith)
  spares_one {g} {B} (x ∷ G) q u h gq ga n k = go (spares_one {g = g} {B = B} G q u) (upto_split h)
    where
      head : (S : Run) → g ≡ x → B ≡ G → spare_begun S x.path (count G x.path) x.act ≡ spare (mine S e.path)
      head S a b =
          let c1 : spare_begun S x.path (count G x.path) x.act ≡ spare_begun S q (count B q) (Begin u.1) =
          (λ i. spare_begun S ((sym (ap (λ z. z.path) a) ∙ gq) i) (count (b' i) ((sym (ap (λ z. z.path) a) ∙ gq) i)) ((sym (ap (λ z. z.act) a) ∙ ga) i)) in
          let c2 : spare_begun S q (count B q) (Begin u.1) ≡ spare (mine S ((count B q - suc u.1, u.1) ∷ q)) =
          cond-true (nat_lt u.1 (count B q)) _ _ (lt-ltb u.1 (count B q) (omega arith)) in
          let u0 : count B q - suc u.1 ≡ u.0 = omega arith in
          c1 ∙ c2 ∙ (λ i. spare (mine S ((u0 i, u.1) ∷ q))) ∙ ap (λ p. spare (mine S p)) (sym k)
        where
          b' : G ≡ B
          b' = sym b

      go : (Upto (g ∷ B) G → g.path ≡ q → g.act ≡ Begin u.1 → count B q ≡ suc (u.0 + u.1) → e.path ≡ u ∷ q
          → spares (e ∷ R) G + spare (mine R e.path) ≡ spares R G + spare (mine (e ∷ R) e.path))
          → ((g ≡ x) × (B ≡ G)) ⊎ Upto (g ∷ B) G → spares (e ∷ R) (x ∷ G) + spare (mine R e.path) ≡ spares R (x ∷ G) + spare (mine (e ∷ R) e.path)
      go rec (inl w) =
          let r = spares_same G (λ y Y v hy p a m. none y Y v hy p a m) in
          let a = spares_step (e ∷ R) x G in
          let b = spares_step R x G in
          let c = head (e ∷ R) w.0 w.1 in
          let d = head R w.0 w.1 in
          omega arith
        where
          none : (y : Event) (Y : Run) (v : ℕ × ℕ) → Upto (y ∷ Y) G → e.path ≡ v ∷ y.path → y.act ≡ Begin v.1 → count Y y.path ≡ suc (v.0 + v.1) → ⊥
          none y Y v hy p a m =
              let z : v ∷ y.path ≡ u ∷ q = sym p ∙ k in
              let vu : v ≡ u = cc in
              let yq : y.path ≡ q = cc in
              let m1 : count Y q ≡ suc (v.0 + v.1) = subst (λ r. count Y r ≡ suc (v.0 + v.1)) yq m in
              let m2 = ap (λ (w : ℕ × ℕ). suc (w.0 + w.1)) vu in
              let l = number_of q hy yq in
              let s = ap (λ Z. count Z q) w.1 in
              omega arith
      go rec (inr h1) =
          let r = rec h1 gq ga n k in
          let a = spares_step (e ∷ R) x G in
          let b = spares_step R x G in
          let c = same_begun x.path (count G x.path) x.act (λ v p j m. other v p j m) in
          omega arith
        where
          other : (v : ℕ × ℕ) → e.path ≡ v ∷ x.path → x.act ≡ Begin v.1 → count G x.path ≡ suc (v.0 + v.1) → ⊥
          other v p j m =
              let z : v ∷ x.path ≡ u ∷ q = sym p ∙ k in
              let vu : v ≡ u = cc in
              let xq : x.path ≡ q = cc in
              let m1 : count G q ≡ suc (v.0 + v.1) = subst (λ r. count G r ≡ suc (v.0 + v.1)) xq m in
              let m2 = ap (λ (w : ℕ × ℕ). suc (w.0 + w.1)) vu in
              let l = number_of q h1 gq in
              omega arith

module _ (P : Program) (D : Disciplined P) (C : Paced P) where
  -- the event after one that costs nothing is an entry
  enters_next : (n : ℕ) (a : Action) → n + steps a ≡ 0 → ((x : Ending) → a ≡ End x → ⊥) → (n ≡ 0) × (a ≡ Do Rest)
  enters_next n (Do Rest) h f = (omega arith, refl)
  enters_next n (Do (Read m i)) h f = absurd (omega arith)
  enters_next n (Do (Write m i v)) h f = absurd (omega arith)
  enters_next n (Do (Look m)) h f = absurd (omega arith)
  enters_next n (Do (New t true)) h f = absurd (omega arith)
  enters_next n (Do (New t false)) h f = absurd (omega arith)
  enters_next n (Do (Print l)) h f = absurd (omega arith)
  enters_next n (Do (Enter E)) h f = absurd (omega arith)
  enters_next n (Do Exit) h f = absurd (omega arith)
  enters_next n (Fork ts) h f = absurd (omega arith)
  enters_next n (Begin b) h f = absurd (omega arith)
  enters_next n Join h f = absurd (omega arith)
  enters_next n (End x) h f = absurd (f x refl)

  -- a task makes an event that isn't an entry where it has one to spare
  was_spare : {R : Run} {e : Event} → Faithful P (e ∷ R) → (L : Run) → mine R e.path ≡ L → (spare L ≡ 1) ⊎ (one_entry e.act ≡ 1)
  was_spare l [] m = inl refl
  was_spare {R} {e} l (w ∷ L) m = ⊎_elim (λ h. inl (paid_one (event_steps w) h)) (λ h. inr (free_before (omega arith))) (cases_lt 0 (event_steps w))
    where
      f : Found R e.path w L
      f = found R e.path (subst (λ k. Upto (w ∷ L) k) (sym m) now)

      free_before : event_steps w ≡ 0 → one_entry e.act ≡ 1
      free_before z =
          let at_rest = enters_next w.ticks w.act z (λ x k. no_end x k) in
          let a = follows_at P f.stands l.1 in
          let b = l.0 in
          let t : a.task ≡ b.task = same_task (agree_self R)
          (begun_upto (upto_tail f.stands) (subst (λ q. Begun P f.before q a.task) f.path a.begun)) b.begun in
          let k1 : P.meaning e.path a.task (answers (mine f.before e.path)) ≡ Next w.ticks w.act =
          subst (λ q. P.meaning q a.task (answers (mine f.before q)) ≡ Next w.ticks w.act) f.path a.asks in
          let k2 : P.meaning e.path b.task (answers L) ≡ Next 0 (Do Rest) =
          ap (λ s. P.meaning e.path s (answers L)) (sym t) ∙ ap (λ es. P.meaning e.path a.task (answers es)) (sym f.mine_is) ∙ k1
          ∙ (λ i. Next (at_rest.0 i) (at_rest.1 i)) in
          let c = C.enters e.path b.task (answers L) w.ans k2 in
          let k3 : P.meaning e.path b.task (w.ans ∷ answers L) ≡ Next e.ticks e.act = ap (λ es. P.meaning e.path b.task (answers es)) (sym m) ∙ b.asks in
          let same = next_same e.ticks c.1.0 e.act (Do (Enter c.0)) (sym k3 ∙ c.1.1) in
          ap one_entry same.1
        where
          no_end : (x : Ending) → w.act ≡ End x → ⊥
          no_end x k =
              let n1 = none_after_end P D e.path l (later f.stands) f.path k now refl in
              let n2 = number_of e.path f.stands f.path in
              omega arith

  -- what all tasks that have begun have to spare, before and after an event
  step_spares : {R : Run} {e : Event} → Faithful P (e ∷ R) → (spare (mine (e ∷ R) []) + spares (e ∷ R) R) + spare (mine R e.path) ≡
      (spare (mine R []) + spares R R) + spare (mine (e ∷ R) e.path)
  step_spares {R} {e} l = go l.0.begun
    where
      go : {t : Task} → Begun P R e.path t → (spare (mine (e ∷ R) []) + spares (e ∷ R) R) + spare (mine R e.path) ≡ (spare (mine R []) + spares R R) + spare
          (mine (e ∷ R) e.path)
      go (root a b) =
          let r = spares_same R e R (λ g B u h k. absurd (let z : [] ≡ u ∷ g.path = sym a ∙ k in cc)) in
          let x = ap (λ p. spare (mine R p)) a in
          let y = ap (λ p. spare (mine (e ∷ R) p)) a in
          omega arith
      go (branch q u F f ts B g a h1 h2 h3 h4 h5 hg gq ga gn) =
          let r = spares_one R e R q u hg gq ga gn a in
          let x = ap spare (mine_other e R [] (λ k. (let z : u ∷ q ≡ [] = sym a ∙ k in cc))) in
          omega arith

  few_free : (R : Run) → Faithful P R → total by_free R + (spare (mine R []) + spares R R) ≤ suc (total by_entry R + begins R)
  few_free [] l = let a = total_nil by_free in let b = ap spare (mine_nil []) in let c = spares_nil [] in omega arith
  few_free (e ∷ R) l = go (few_free R l.1) (was_spare l (mine R e.path) refl)
    where
      go : total by_free R + (spare (mine R []) + spares R R) ≤ suc (total by_entry R + begins R) → (spare (mine R e.path) ≡ 1) ⊎ (one_entry e.act ≡ 1)
          → total by_free (e ∷ R) + (spare (mine (e ∷ R) []) + spares (e ∷ R) (e ∷ R)) ≤ suc (total by_entry (e ∷ R) + begins (e ∷ R))
      go r c =
          let s = step_spares l in
          let f = total_step by_free e R in
          let n = total_step by_entry e R in
          let b = begins_step e R in
          let p = spares_step (e ∷ R) e R in
          let here = ap spare (mine_same e R e.path refl) in
          let one = paid_or_free (event_steps e) in
          let begun = only_begin (e ∷ R) e.path (count R e.path) e.act in
          ⊎_elim (λ k. omega (arith, k)) (λ k. omega (arith, k)) c

  -- so a run has at most one event more than twice as many as it costs steps
  pub bounded : (R : Run) → Faithful P R → length R ≤ 2 * steps_of R + 1
  bounded R l =
      let a = all_events R in
      let b = few_free R l in
      let c = marks_paid R in
      let d = paid_steps R in
      omega arith

  pub ran_bounded : (L : Limits) (ks : List ℕ) (R : Run) → Ran P L ks R → length ks ≤ 2 * L.steps + 1
  ran_bounded L [] R r = omega arith
  ran_bounded L (k ∷ ks) [] r = absurd r
  ran_bounded L (k ∷ ks) (e ∷ R) r =
      let a = ran_length P L (k ∷ ks) (e ∷ R) r in
      let b = bounded (e ∷ R) (ran_faithful P L (k ∷ ks) (e ∷ R) r) in
      let w = r.2 in
      let c = w.steps in
      omega arith

  pub finished_bounded : (L : Limits) (ks : List ℕ) (o : Outcome) → Finished P L ks o → length ks ≤ 2 * L.steps + 2
  finished_bounded L ks o (ended R r c) = let a = ran_bounded L ks R r in omega arith
  finished_bounded L ks o (over k js R e r h n) = let a = ran_bounded L js R r in omega arith
  finished_bounded L ks o (no_room n) = omega arith
