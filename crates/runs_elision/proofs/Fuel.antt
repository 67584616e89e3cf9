-- With more ticks the elision does the same, as long as it has ticks left.
use Rattle.std.proofs.Common.{◌≡◌, ℕ, zero, suc, ◌+◌, ◌<◌, ◌≤◌, ℤ, Bool, true, false, List, [], ◌∷◌, refl, sym, ap, subst, arith}
use Rattle.lang_base.specs.declared.place.Place.{Place}
use Rattle.lang_base.specs.declared.value.Trap.{Trap}
use Rattle.lang_typed.specs.declared.stmt.Forking.{Forking}
use Rattle.lang_typed.specs.Plain.{PlainProgram}
use Rattle.lang_meaning.specs.Actions.{Frame, Task, Ending, Own, Work}
use Rattle.lang_meaning.specs.Asking.{does, ended}
use Rattle.lang_meaning.specs.Core.{Result, Goes_on, Returns, Prog, Ret, Traps, Act, Makes, Again, Split, Done, Stopped, Lost, bind, loop, tested, rounded}
use Rattle.lang_meaning.specs.Core.{each_from, run}
use Rattle.lang_meaning.specs.Core.{Out as out}
use Rattle.lang_meaning.specs.Counts.{truth}
use Rattle.lang_meaning.specs.Elision.{LocalRegion as Counted, in_order, Store, answer, after, one_tick, new_region, one_step, first_of, at_end, at_start}
use Rattle.lang_meaning.specs.Elision.{one_by_one}
use Rattle.lang_meaning.specs.Elision.{root_task, ran_through, sequential}

abbrev pub OutIn : Type 0 → Type 0
OutIn V = out ℕ Counted V Store

abbrev ResultIn : Type 0
ResultIn = Result ℕ Counted

abbrev FrameIn : Type 0
FrameIn = Frame ℕ Counted

abbrev pub more : ℕ → Store → Store
more k w = record w { ticks = w.ticks + k }

-- after it so many ticks are left at most
abbrev pub Left : {V : Type 0} → ℕ → OutIn V → Type 0
Left n (Done v u) = u.ticks ≤ n
Left n (out.Trapped trap p u) = u.ticks ≤ n
Left n (Stopped k a) = Unit {0}
Left n (Lost u) = Unit {0}

-- the second has k ticks more: it comes out the same, with k ticks more left; or where the ticks of the first ran out, it has no
-- more than k left
abbrev pub Same : {V : Type 0} → ℕ → ℕ → OutIn V → OutIn V → Type 0
Same k n (Done v u) (Done x z) = (v ≡ x) × (z ≡ more k u) × (u.ticks ≤ n)
Same k n (Done v u) (out.Trapped trap p z) = ⊥
Same k n (Done v u) (Stopped i a) = ⊥
Same k n (Done v u) (Lost z) = ⊥
Same k n (out.Trapped trap p u) (Done x z) = ⊥
Same k n (out.Trapped trap p u) (out.Trapped fell q z) = (trap ≡ fell) × (p ≡ q) × (z ≡ more k u) × (u.ticks ≤ n)
Same k n (out.Trapped trap p u) (Stopped i a) = ⊥
Same k n (out.Trapped trap p u) (Lost z) = ⊥
Same k n (Stopped i a) o = Unit {0}
Same k n (Lost u) o = Left k o

record Fuel {V : Type 0} (m : Store → OutIn V) : Type 0 where
  falls : (w : Store) → Left w.ticks (m w)
  same : (k : ℕ) (w : Store) → Same k w.ticks (m w) (m (more k w))

left_less : {V : Type 0} (n m : ℕ) (o : OutIn V) → n ≤ m → Left n o → Left m o
left_less n m (Done v u) l h = omega arith
left_less n m (out.Trapped trap p u) l h = omega arith
left_less n m (Stopped k a) l h = tt
left_less n m (Lost u) l h = tt

left_bind : {V U : Type 0} (n : ℕ) (o : OutIn V) (j : V → Store → OutIn U) → Left n o → ((v : V) (u : Store) → Left u.ticks (j v u)) → Left n (bind o j)
left_bind n (Done v u) j h r = left_less u.ticks n (j v u) h (r v u)
left_bind n (out.Trapped trap p u) j h r = h
left_bind n (Stopped k a) j h r = tt
left_bind n (Lost u) j h r = tt

same_less : {V : Type 0} (k n m : ℕ) (o q : OutIn V) → n ≤ m → Same k n o q → Same k m o q
same_less k n m (Done v u) (Done x z) l h = (h.0, h.1, (let i = h.2 in omega arith))
same_less k n m (Done v u) (out.Trapped trap p z) l h = h
same_less k n m (Done v u) (Stopped i a) l h = h
same_less k n m (Done v u) (Lost z) l h = h
same_less k n m (out.Trapped trap p u) (Done x z) l h = h
same_less k n m (out.Trapped trap p u) (out.Trapped fell q z) l h = (h.0, h.1, h.2, (let i = h.3 in omega arith))
same_less k n m (out.Trapped trap p u) (Stopped i a) l h = h
same_less k n m (out.Trapped trap p u) (Lost z) l h = h
same_less k n m (Stopped i a) q l h = tt
same_less k n m (Lost u) q l h = h

same_bind : {V U : Type 0} (k n : ℕ) (o q : OutIn V) (i j : V → Store → OutIn U) → Same k n o q
    → ((v : V) (u : Store) → u.ticks ≤ n → Same k u.ticks (i v u) (j v (more k u))) → ((v : V) (u : Store) → Left u.ticks (j v u))
    → Same k n (bind o i) (bind q j)
same_bind {V} {U} k n (Done v u) (Done x z) i j h r f =
    subst (λ (y : V). Same k n (i v u) (j y z)) h.0 (subst (λ (y : Store). Same k n (i v u) (j v y)) (sym h.1) (same_less k u.ticks n (i v u) (j v
    (more k u)) h.2 (r v u h.2)))
same_bind k n (Done v u) (out.Trapped trap p z) i j h r f = absurd h
same_bind k n (Done v u) (Stopped m a) i j h r f = absurd h
same_bind k n (Done v u) (Lost z) i j h r f = absurd h
same_bind k n (out.Trapped trap p u) (Done x z) i j h r f = absurd h
same_bind k n (out.Trapped trap p u) (out.Trapped fell q z) i j h r f = h
same_bind k n (out.Trapped trap p u) (Stopped m a) i j h r f = absurd h
same_bind k n (out.Trapped trap p u) (Lost z) i j h r f = absurd h
same_bind k n (Stopped m a) q i j h r f = tt
same_bind k n (Lost u) q i j h r f = left_bind k q j h f

fuel_bind : {V U : Type 0} {m : Store → OutIn V} {j : V → Store → OutIn U} → Fuel m → ((v : V) → Fuel (j v)) → Fuel (λ w. bind (m w) j)
fuel_bind {V} {U} {m} {j} h r = record {
  falls = λ w. left_bind w.ticks (m w) j (h.falls w) (λ v u. (r v).falls u);
  same = λ k w. same_bind k w.ticks (m w) (m (more k w)) j j (h.same k w) (λ v u l. (r v).same k u) (λ v u. (r v).falls u);
}

fuel_done : {V : Type 0} (v : V) → Fuel (λ w. Done v w)
fuel_done v = record { falls = λ w. omega arith; same = λ k w. (refl, refl, omega arith) }

fuel_trapped : {V : Type 0} (trap : Trap) (p : Place) → Fuel {V = V} (λ w. out.Trapped trap p w)
fuel_trapped trap p = record { falls = λ w. omega arith; same = λ k w. (refl, refl, refl, omega arith) }

fuel_act : (o : Own ℕ Counted) → Fuel (λ w. Done (answer w.heap o) (after o w))
fuel_act o = record { falls = λ w. omega arith; same = λ k w. (refl, refl, omega arith) }

-- one tick, and what follows
left_tick : {U : Type 0} (n m : ℕ) (w : Store) (j : Store → OutIn U) → n ≤ suc m → ((u : Store) → Left u.ticks (j u))
    → Left m (bind (one_tick n w) (λ a v. j v))
left_tick zero m w j l h = tt
left_tick (suc n) m w j l h = left_less n m (j (record w { steps = suc w.steps; ticks = n })) (omega arith) (h (record w { steps = suc w.steps; ticks = n }))

same_tick : {U : Type 0} (k : ℕ) (w : Store) (i j : Store → OutIn U) → ((u : Store) → u.ticks < w.ticks → Same k u.ticks (i u) (j (more k u)))
    → ((u : Store) → Left u.ticks (j u)) → Same k w.ticks (bind (one_tick w.ticks w) (λ a v. i v)) (bind (one_tick (w.ticks + k) (more k w)) (λ a v. j v))
same_tick {U} k w i j r f = go w.ticks refl
  where
    go : (n : ℕ) → w.ticks ≡ n → Same k w.ticks (bind (one_tick n w) (λ a v. i v)) (bind (one_tick (w.ticks + k) (more k w)) (λ a v. j v))
    go zero e = left_tick (w.ticks + k) k (more k w) j (omega arith) f
    go (suc n) e =
        let z : w.ticks + k ≡ suc (n + k) = omega arith in
        subst (λ (y : ℕ). Same k w.ticks (i (record w { steps = suc w.steps; ticks = n })) (bind (one_tick y (more k w)) (λ a v. j v))) (sym z)
        (same_less k n w.ticks (i (record w { steps = suc w.steps; ticks = n })) (j (record w { steps = suc w.steps; ticks = n + k })) (omega arith)
        (r (record w { steps = suc w.steps; ticks = n }) (omega arith)))

fuel_region : Fuel new_region
fuel_region = record {
  falls = λ w. left_tick w.ticks w.ticks w made (omega arith) (λ u. omega arith);
  same = λ k w. same_tick k w made made (λ u l. (refl, refl, omega arith)) (λ u. omega arith);
}
  where
    made : Store → OutIn Counted
    made v = Done (Counted.Made v.regions) (record v { regions = suc v.regions })

-- a loop
module _ (t b : FrameIn → Store → OutIn ResultIn) (ht : (f : FrameIn) → Fuel (t f)) (hb : (f : FrameIn) → Fuel (b f)) where
  abbrev looped : ℕ → FrameIn → Store → OutIn ResultIn
  looped n f w = loop (λ v. one_tick v.ticks v) t b n f w

  left_round : (n : ℕ) → ((f : FrameIn) (w : Store) → Left w.ticks (looped n f w)) → (r : ResultIn) (w : Store)
      → Left w.ticks (rounded (λ g v. looped n g v) r w)
  left_round n h (Returns v) w = omega arith
  left_round n h (Goes_on v f) w = h f w

  left_test : (n : ℕ) → ((f : FrameIn) (w : Store) → Left w.ticks (looped n f w)) → (r : ResultIn) (w : Store)
      → Left w.ticks (tested (λ v. one_tick v.ticks v) b (λ g v. looped n g v) r w)
  left_test n h (Returns v) w = omega arith
  left_test n h (Goes_on v f) w = go (truth v)
    where
      go : (c : Bool) → Left w.ticks (elim c as (λ c. OutIn ResultIn) [
        | false ↦ Done (Goes_on v f) w
        | true ↦ bind (one_tick w.ticks w) (λ u w'. bind (b f w') (λ r w''. rounded (λ g v. looped n g v) r w''))
      ])
      go false = omega arith
      go true = left_tick w.ticks w.ticks w (λ w'. bind (b f w') (λ r w''. rounded (λ g v. looped n g v) r w'')) (omega arith)
          (λ u. left_bind u.ticks (b f u) _ ((hb f).falls u) (λ r z. left_round n h r z))

  left_loop : (n : ℕ) (f : FrameIn) (w : Store) → Left w.ticks (looped n f w)
  left_loop zero f w = tt
  left_loop (suc n) f w = left_bind w.ticks (t f w) _ ((ht f).falls w) (λ r u. left_test n (left_loop n) r u)

  abbrev LoopSame : ℕ → Type 0
  LoopSame n = (m k : ℕ) (f : FrameIn) (w : Store) → w.ticks < n → w.ticks + k < m → Same k w.ticks (looped n f w) (looped m f (more k w))

  same_round : (n m k : ℕ) → LoopSame n → (r : ResultIn) (w : Store) → w.ticks < n → w.ticks + k < m
      → Same k w.ticks (rounded (λ g v. looped n g v) r w) (rounded (λ g v. looped m g v) r (more k w))
  same_round n m k h (Returns v) w l l' = (refl, refl, omega arith)
  same_round n m k h (Goes_on v f) w l l' = h m k f w l l'

  same_test : (n m k : ℕ) → LoopSame n → (r : ResultIn) (w : Store) → w.ticks < suc n → w.ticks + k < suc m
      → Same k w.ticks (tested (λ v. one_tick v.ticks v) b (λ g v. looped n g v) r w) (tested (λ v. one_tick v.ticks v) b (λ g v. looped m g v) r (more k w))
  same_test n m k h (Returns v) w l l' = (refl, refl, omega arith)
  same_test n m k h (Goes_on v f) w l l' = go (truth v)
    where
      go : (c : Bool) → Same k w.ticks
          (elim c as (λ c. OutIn ResultIn) [
            | false ↦ Done (Goes_on v f) w
            | true ↦ bind (one_tick w.ticks w) (λ u w'. bind (b f w') (λ r w''. rounded (λ g v. looped n g v) r w''))
          ])
          (elim c as (λ c. OutIn ResultIn) [
            | false ↦ Done (Goes_on v f) (more k w)
            | true ↦ bind (one_tick (w.ticks + k) (more k w)) (λ u w'. bind (b f w') (λ r w''. rounded (λ g v. looped m g v) r w''))
          ])
      go false = (refl, refl, omega arith)
      go true = same_tick k w (λ w'. bind (b f w') (λ r w''. rounded (λ g v. looped n g v) r w'')) (λ w'. bind (b f w') (λ r w''. rounded
          (λ g v. looped m g v) r w''))
          (λ u lu. same_bind k u.ticks (b f u) (b f (more k u)) _ _ ((hb f).same k u) (λ r z lz. same_round n m k h r z (omega arith) (omega arith))
          (λ r z. left_round m (left_loop m) r z))
          (λ u. left_bind u.ticks (b f u) _ ((hb f).falls u) (λ r z. left_round m (left_loop m) r z))

  same_loop : (n : ℕ) → LoopSame n
  same_loop zero m k f w l l' = absurd (omega arith)
  same_loop (suc n) zero k f w l l' = absurd (omega arith)
  same_loop (suc n) (suc m) k f w l l' =
      same_bind k w.ticks (t f w) (t f (more k w)) _ _ ((ht f).same k w) (λ r u lu. same_test n m k (same_loop n) r u (omega arith) (omega arith))
      (λ r u. left_test m (left_loop m) r u)

  fuel_loop : (f : FrameIn) → Fuel (λ w. looped (suc w.ticks) f w)
  fuel_loop f = record {
    falls = λ w. left_loop (suc w.ticks) f w;
    same = λ k w. same_loop (suc w.ticks) (suc (w.ticks + k)) k f w (omega arith) (omega arith);
  }

-- branches
fuel_step : {V : Type 0} {m : Store → OutIn V} → Fuel m → Fuel (λ w. m (one_step w))
fuel_step h = record { falls = λ w. h.falls (one_step w); same = λ k w. h.same k (one_step w) }

fuel_end : (j : Work) {m : Store → OutIn ResultIn} → Fuel m → Fuel (λ w. at_end j (m w))
fuel_end j {m} h = record { falls = λ w. left w.ticks (m w) (h.falls w); same = λ k w. same k w.ticks (m w) (m (more k w)) (h.same k w) }
  where
    left : (n : ℕ) (o : OutIn ResultIn) → Left n o → Left n (at_end j o)
    left n (Done r u) l = l
    left n (out.Trapped trap p u) l = l
    left n (Stopped i a) l = tt
    left n (Lost u) l = tt

    same : (k n : ℕ) (o q : OutIn ResultIn) → Same k n o q → Same k n (at_end j o) (at_end j q)
    same k n (Done r u) (Done s z) e = (ap (λ x. ended j x) e.0, e.1, e.2)
    same k n (Done r u) (out.Trapped trap p z) e = absurd e
    same k n (Done r u) (Stopped i a) e = absurd e
    same k n (Done r u) (Lost z) e = absurd e
    same k n (out.Trapped trap p u) (Done s z) e = absurd e
    same k n (out.Trapped trap p u) (out.Trapped fell q z) e =
        ((λ i. Ending.Trapped (e.0 i) (e.1 i)), (λ i. (let y : Store = e.2 i in record y { trap = first_of y.trap (sym e.0 i, sym e.1 i) })), e.3)
    same k n (out.Trapped trap p u) (Stopped i a) e = absurd e
    same k n (out.Trapped trap p u) (Lost z) e = absurd e
    same k n (Stopped i a) q e = tt
    same k n (Lost u) q e = left k q e

abbrev AllFuel : List (Store → OutIn ResultIn) → Type 0
AllFuel [] = Unit {0}
AllFuel (m ∷ ms) = Fuel m × AllFuel ms

fuel_branches : (ts : List (Task ℕ Counted)) (ms : List (Store → OutIn ResultIn)) → AllFuel ms → Fuel (λ w. one_by_one ts ms w)
fuel_branches [] ms h = fuel_done []
fuel_branches (t ∷ ts) [] h = fuel_done []
fuel_branches (t ∷ ts) (m ∷ ms) h = fuel_bind (fuel_end t.work (fuel_step h.0)) (λ x. fuel_bind (fuel_branches ts ms h.1) (λ xs. fuel_done (x ∷ xs)))

all_fuel : (bs : ℕ → Prog ℕ Counted) → ((i : ℕ) → Fuel (λ w. run sequential (bs i) w)) → (ts : List (Task ℕ Counted)) (j : ℕ)
    → AllFuel (each_from (λ i v. run sequential (bs i) v) j ts)
all_fuel bs h [] j = tt
all_fuel bs h (t ∷ ts) j = (h j, all_fuel bs h ts (suc j))

fuel_fork : (forking : Forking) (ts : List (Task ℕ Counted)) (ms : List (Store → OutIn ResultIn)) → AllFuel ms → Fuel (λ w. sequential.fork forking ts ms w)
fuel_fork forking ts ms h = fuel_bind (fuel_step (fuel_branches ts ms h)) (λ xs. record { falls = λ w. omega arith; same = λ k w. (refl, refl, omega arith) })

fuel_run : (p : Prog ℕ Counted) → Fuel (λ w. run sequential p w)
fuel_run (Ret r) = fuel_done r
fuel_run (Traps trap p) = fuel_trapped trap p
fuel_run (Act o k) = fuel_bind (fuel_act o) (λ x. fuel_run (k x))
fuel_run (Makes k) = fuel_bind fuel_region (λ m. fuel_run (k m))
fuel_run (Again t b f k) = fuel_bind (fuel_loop (λ g v. run sequential (t g) v) (λ g v. run sequential (b g) v) (λ g. fuel_run (t g)) (λ g. fuel_run (b g)) f)
    (λ r. fuel_run (k r))
fuel_run (Split forking ts bs k) = fuel_bind (fuel_fork forking ts _ (all_fuel bs (λ i. fuel_run (bs i)) ts 0)) (λ x. fuel_run (k x))

-- the elision with more ticks
pub same_through : (P : PlainProgram) (arg : ℤ) (n k : ℕ) → Same k n (ran_through P arg n) (ran_through P arg (n + k))
unfolding ran_through
same_through P arg n k =
    let t : Task ℕ Counted = root_task in_order P 0 arg in
    (fuel_end t.work (fuel_run (does in_order P t))).same k (at_start P n)
