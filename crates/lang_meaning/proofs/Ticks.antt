-- A loop has ticks enough, so it is what its next tick leads to.
use Rattle.std.proofs.Common.{◌≡◌, ℕ, zero, suc, ◌+◌, ◌-◌, ◌*◌, ◌<◌, ◌≤◌, ◌⊎◌, ⊎_elim, Bool, true, false, List, [], ◌∷◌, length, refl, sym, ◌∙◌, subst, arith}
use Rattle.std.proofs.Common.{if◌then◌else◌, ◌==◌, lit<}
use Rattle.std.proofs.lemmas.Bool.{eqb-false}
use Rattle.lang_base.specs.declared.place.Place.{Place}
use Rattle.lang_base.specs.declared.value.Trap.{Trap}
use Rattle.lang_meaning.specs.Values.{Value, Naming}
use Rattle.lang_meaning.specs.Actions.{Frame, Task, Rest, Action, Do, Fork, Begin, Join, Answer}
use Rattle.lang_meaning.specs.Counts.{truth, brought}
use Rattle.lang_meaning.specs.Core.{Result, Goes_on, Returns, Prog, Ret, Traps, Act, Makes, Again, Split, Out, Done, Trapped, Stopped, Lost, bind, loop}
use Rattle.lang_meaning.specs.Core.{tested, rounded, run}
use Rattle.lang_meaning.specs.Asking.{most_ticks, Reported, take_answer, asked, ticked, made_region, begins_then, reported_join, reported}
use Rattle.lang_meaning.specs.Tasks.{again}

pub most_pos : 0 < most_ticks
unfolding most_ticks
most_pos = lit< tt

-- the ticks that a task can make at most on these answers
abbrev pub room : {N M : Type 0} → Reported N M → ℕ
room w = most_ticks * length w.to_come + (most_ticks - w.since)

-- after it so many ticks can be made at most, and no bound runs out
pub record Fits {N M V : Type 0} (o : Out N M V (Reported N M)) (n : ℕ) : Type 0 where
  pub low : (v : V) (u : Reported N M) → o ≡ Done v u → u.since < most_ticks
  pub falls : (v : V) (u : Reported N M) → o ≡ Done v u → room u ≤ n
  pub total : (u : Reported N M) → o ≡ Lost u → ⊥

done_fits : {N M V : Type 0} (v : V) (w : Reported N M) (n : ℕ) → w.since < most_ticks → room w ≤ n → Fits (Done v w) n
done_fits {N} {M} v w n l r = record {
  low = λ x u e. (let k : w ≡ u = cc in subst (λ (y : Reported N M). y.since < most_ticks) k l);
  falls = λ x u e. (let k : w ≡ u = cc in subst (λ (y : Reported N M). room y ≤ n) k r);
  total = λ u e. cc;
}

trapped_fits : {N M V : Type 0} (trap : Trap) (p : Place) (w : Reported N M) (n : ℕ) → Fits {V = V} (Trapped trap p w) n
trapped_fits trap p w n = record { low = λ x u e. absurd (cc); falls = λ x u e. absurd (cc); total = λ u e. cc }

stopped_fits : {N M V : Type 0} (k : ℕ) (a : Action N M (Task N M)) (n : ℕ) → Fits {V = V} (Stopped k a) n
stopped_fits k a n = record { low = λ x u e. absurd (cc); falls = λ x u e. absurd (cc); total = λ u e. cc }

bind_fits : {N M V U : Type 0} (o : Out N M V (Reported N M)) (k : V → Reported N M → Out N M U (Reported N M)) (n : ℕ) → Fits o n
    → ((v : V) (u : Reported N M) → u.since < most_ticks → room u ≤ n → Fits (k v u) n) → Fits (bind o k) n
bind_fits (Done v u) k n h r = r v u (h.low v u refl) (h.falls v u refl)
bind_fits (Trapped trap p u) k n h r = trapped_fits trap p u n
bind_fits (Stopped m a) k n h r = stopped_fits m a n
bind_fits (Lost u) k n h r = absurd (h.total u refl)

take_fits : {N M : Type 0} (a : Action N M (Task N M)) (w : Reported N M) (xs : List (Answer N M)) (n : ℕ) → most_ticks * length xs ≤ n
    → Fits (take_answer a w xs) n
take_fits a w [] n l = stopped_fits w.since a n
take_fits a w (x ∷ xs) n l =
    let p = most_pos in
    done_fits x (record { since = 0; made = w.made; to_come = xs }) n p (omega arith)

asked_fits : {N M : Type 0} (a : Action N M (Task N M)) (w : Reported N M) → Fits (asked a w) (room w)
asked_fits a w = take_fits a w w.to_come (room w) (omega arith)

-- a tick, by whether it is the last that may be made without an event
abbrev pub ticked_if : {N M : Type 0} → Bool → Reported N M → Out N M (Unit {0}) (Reported N M)
ticked_if b w = if b then bind (asked (Do Rest) (record w { since = suc w.since })) (λ a v. Done tt v) else Done tt (record w { since = suc w.since })

tick_fits : {N M : Type 0} (w : Reported N M) (n : ℕ) → w.since < most_ticks → room w ≤ suc n → Fits (ticked w) n
tick_fits {N} {M} w n l r = go (suc w.since == most_ticks) refl
  where
    go : (b : Bool) → (suc w.since == most_ticks) ≡ b → Fits (ticked_if b w) n
    go true e = bind_fits _ _ n (take_fits (Do Rest) (record w { since = suc w.since }) w.to_come n (omega arith)) (λ a v lv rv. done_fits tt v n lv rv)
    go false e =
        let ne = eqb-false (suc w.since) most_ticks e in
        let lt : suc w.since < most_ticks = ⊎_elim (λ h. h) (λ h. absurd (ne h)) (lt_or (omega arith)) in
        done_fits tt (record w { since = suc w.since }) n lt (omega arith)
      where
        lt_or : suc w.since ≤ most_ticks → (suc w.since < most_ticks) ⊎ (suc w.since ≡ most_ticks)
        lt_or h = grind arith

fits_less : {N M V : Type 0} (o : Out N M V (Reported N M)) (n m : ℕ) → n ≤ m → Fits o n → Fits o m
fits_less o n m l h = record { low = h.low; falls = λ v u e. (let k = h.falls v u e in omega arith); total = h.total }

-- a tick is one tick less
tick_falls : {N M : Type 0} (w : Reported N M) → w.since < most_ticks → (n : ℕ) × (room w ≡ suc n) × Fits (ticked w) n
tick_falls w l = at (room w) refl (omega arith)
  where
    at : (n : ℕ) → room w ≡ n → 0 < n → (k : ℕ) × (room w ≡ suc k) × Fits (ticked w) k
    at zero e p = absurd (omega arith)
    at (suc n) e p = (n, e, tick_fits w n l (omega arith))

bind_same : {N M V U W : Type 0} (o : Out N M V W) (k k' : V → W → Out N M U W) → ((v : V) (w : W) → o ≡ Done v w → k v w ≡ k' v w) → bind o k ≡ bind o k'
bind_same (Done v w) k k' h = h v w refl
bind_same (Trapped trap p w) k k' h = refl
bind_same (Stopped n a) k k' h = refl
bind_same (Lost w) k k' h = refl

pub bind_done : {N M V W : Type 0} (o : Out N M V W) → bind o (λ v w. Done v w) ≡ o
bind_done (Done v w) = refl
bind_done (Trapped trap p w) = refl
bind_done (Stopped n a) = refl
bind_done (Lost w) = refl

abbrev pub Body : Type 0 → Type 0 → Type 0
Body N M = Frame N M → Reported N M → Out N M (Result N M) (Reported N M)

abbrev BodyFits : {N M : Type 0} → Body N M → Type 0
BodyFits {N} {M} body = (f : Frame N M) (w : Reported N M) → w.since < most_ticks → Fits (body f w) (room w)

-- what follows a test that came out so
abbrev pub past_test : {N M : Type 0} → Body N M → Body N M → Value N → Frame N M → Reported N M → Bool → Out N M (Result N M) (Reported N M)
past_test {N} {M} body again v f w b =
    elim b as (λ b. Out N M (Result N M) (Reported N M)) [
      | false ↦ Done (Goes_on v f) w
      | true ↦ bind (ticked w)
          (λ u w'. bind (body f w') (λ r w''. rounded again r w''))
    ]

module _ {N M : Type 0} (test body : Body N M) (ht : BodyFits test) (hb : BodyFits body) where
  -- what follows the test fits, if what follows the body does
  tested_fits : (j : Body N M) (r : Result N M) (w : Reported N M) → w.since < most_ticks
      → ((g : Frame N M) (u : Reported N M) → u.since < most_ticks → room u < room w → Fits (j g u) (room u)) → Fits (tested ticked body j r w) (room w)
  tested_fits j (Returns v) w l h = done_fits _ w _ l (omega arith)
  tested_fits j (Goes_on v f) w l h = go (truth v)
    where
      back : (n : ℕ) → room w ≡ suc n → (r : Result N M) (u : Reported N M) → u.since < most_ticks → room u ≤ n → Fits (rounded j r u) n
      back n e (Returns v) u lu ru = done_fits _ u _ lu ru
      back n e (Goes_on v g) u lu ru = fits_less _ (room u) n ru (h g u lu (omega arith))

      go : (b : Bool) → Fits (past_test body j v f w b) (room w)
      go false = done_fits _ w _ l (omega arith)
      go true =
          let t = tick_falls w l in
          let n : ℕ = t.0 in
          let e : room w ≡ suc n = t.1 in
          fits_less _ n (room w) (omega arith)
          (bind_fits _ _ n t.2 (λ u v lv rv. bind_fits _ _ n (fits_less _ (room v) n rv (hb f v lv)) (λ r x lx rx. back n e r x lx rx)))

  abbrev looped : ℕ → Body N M
  looped n f w = loop ticked test body n f w

  loop_fits : (n : ℕ) (f : Frame N M) (w : Reported N M) → w.since < most_ticks → room w < n → Fits (looped n f w) (room w)
  loop_fits zero f w l r = absurd (omega arith)
  loop_fits (suc n) f w l r =
      bind_fits _ _ (room w) (ht f w l)
      (λ x v lv rv. fits_less _ (room v) (room w) rv (tested_fits (looped n) x v lv (λ g u lu ru. loop_fits n g u lu (omega arith))))

  tested_same : (j j' : Body N M) (r : Result N M) (w : Reported N M) → w.since < most_ticks
      → ((g : Frame N M) (u : Reported N M) → u.since < most_ticks → room u < room w → j g u ≡ j' g u) → tested ticked body j r w ≡ tested ticked body j' r w
  tested_same j j' (Returns v) w l h = refl
  tested_same j j' (Goes_on v f) w l h = go (truth v)
    where
      back : (n : ℕ) → room w ≡ suc n → (r : Result N M) (u : Reported N M) → u.since < most_ticks → room u ≤ n → rounded j r u ≡ rounded j' r u
      back n e (Returns v) u lu ru = refl
      back n e (Goes_on v g) u lu ru = h g u lu (omega arith)

      go : (b : Bool) → past_test body j v f w b ≡ past_test body j' v f w b
      go false = refl
      go true =
          let t = tick_falls w l in
          let n : ℕ = t.0 in
          bind_same _ _ _ (λ a v i. bind_same _ _ _ (λ r u k.
          (let b = hb f v (t.2.low a v i) in
          let rv : room v ≤ n = t.2.falls a v i in
          let ru : room u ≤ room v = b.falls r u k in
          back n t.1 r u (b.low r u k) (omega arith))))

  loop_same : (n m : ℕ) (f : Frame N M) (w : Reported N M) → w.since < most_ticks → room w < n → room w < m → looped n f w ≡ looped m f w
  loop_same zero m f w l r s = absurd (omega arith)
  loop_same (suc n) zero f w l r s = absurd (omega arith)
  loop_same (suc n) (suc m) f w l r s =
      bind_same _ _ _ (λ x v e.
      (let low = (ht f w l).low x v e in
      let falls : room v ≤ room w = (ht f w l).falls x v e in
      tested_same _ _ x v low (λ g u lu ru. loop_same n m g u lu (omega arith) (omega arith))))

  abbrev whole : Body N M
  whole f w = looped (suc (room w)) f w

  unrolled : (f : Frame N M) (w : Reported N M) → w.since < most_ticks → whole f w ≡ bind (test f w) (λ r v. tested ticked body whole r v)
  unrolled f w l =
      bind_same _ _ _ (λ x v e.
      (let low = (ht f w l).low x v e in
      let falls : room v ≤ room w = (ht f w l).falls x v e in
      tested_same _ _ x v low (λ g u lu ru. loop_same (room w) (suc (room u)) g u lu (omega arith) (omega arith))))

  -- the same with another loop that is the same
  unrolled_as : (j : Body N M) → ((g : Frame N M) (u : Reported N M) → whole g u ≡ j g u) → (f : Frame N M) (w : Reported N M) → w.since < most_ticks
      → whole f w ≡ bind (test f w) (λ r v. tested ticked body j r v)
  unrolled_as j h f w l = unrolled f w l ∙ bind_same _ _ _ (λ x v e. tested_same _ _ x v ((ht f w l).low x v e) (λ g u lu ru. h g u))

begins_fits : {N M : Type 0} (b n : ℕ) (w : Reported N M) → Fits (begins_then b n reported_join w) (room w)
begins_fits b zero w = bind_fits _ _ (room w) (asked_fits Join w) (λ a v lv rv. done_fits (brought a) v (room w) lv rv)
begins_fits b (suc n) w = bind_fits _ _ (room w) (asked_fits (Begin b) w) (λ a v lv rv. fits_less _ (room v) (room w) rv (begins_fits (suc b) n v))

made_fits : {N M : Type 0} (names : Naming N M) (w : Reported N M) → w.since < most_ticks → Fits (made_region names w) (room w)
made_fits names w l =
    let v : Reported _ _ = record w { made = suc w.made } in
    let t = tick_falls v l in
    let n : ℕ = t.0 in
    let e : room v ≡ suc n = t.1 in
    bind_fits _ _ (room w) (fits_less _ n (room w) (omega arith) t.2) (λ u x lx rx. done_fits (names.made w.made) x (room w) lx rx)

module _ {N M : Type 0} (names : Naming N M) where
  then_fits : {V : Type 0} (o : Out N M V (Reported N M)) (k : V → Reported N M → Out N M (Result N M) (Reported N M)) (n : ℕ) → Fits o n
      → ((v : V) (u : Reported N M) → u.since < most_ticks → Fits (k v u) (room u)) → Fits (bind o k) n
  then_fits o k n h r = bind_fits o k n h (λ v u lu ru. fits_less _ (room u) n ru (r v u lu))

  pub run_fits : (p : Prog N M) (w : Reported N M) → w.since < most_ticks → Fits (run (reported names) p w) (room w)
  run_fits (Ret r) w l = done_fits r w _ l (omega arith)
  run_fits (Traps trap p) w l = trapped_fits trap p w _
  run_fits (Act o k) w l = then_fits _ _ (room w) (asked_fits (Do o) w) (λ x v lv. run_fits (k x) v lv)
  run_fits (Makes k) w l = then_fits _ _ (room w) (made_fits names w l) (λ m v lv. run_fits (k m) v lv)
  run_fits (Again t b f k) w l =
      then_fits _ _ (room w) (loop_fits _ _ (λ g v m. run_fits (t g) v m) (λ g v m. run_fits (b g) v m) (suc (room w)) f w l (omega arith))
      (λ x v lv. run_fits (k x) v lv)
  run_fits (Split forking ts bs k) w l =
      then_fits _ _ (room w)
      (bind_fits _ _ (room w) (asked_fits (Fork (record {
        kind =
            forking;
        tasks = ts;
      })) w) (λ a v lv rv. fits_less _ (room v) (room w) rv (begins_fits 0 (length ts) v)))
      (λ x v lv. run_fits (k x) v lv)

  pub loops_again : (t b : Frame N M → Prog N M) (f : Frame N M) (w : Reported N M) → w.since < most_ticks
      → again names t b f w ≡ bind (run (reported names) (t f) w) (λ r v. tested ticked (λ g u. run (reported names) (b g) u) (λ g u. again names t b g u) r v)
  loops_again t b f w l =
      bind_done _ ∙ unrolled_as (λ g v. run (reported names) (t g) v) (λ g v. run (reported names) (b g) v) (λ g v m. run_fits (t g) v m) (λ g v m. run_fits (b g) v m)
      (λ g u. again names t b g u) (λ g u. sym (bind_done _)) f w l
