-- A store that comes later: no ticks are won back and no costs given back. So no bound of a loop runs out before the ticks do.
use Rattle.std.proofs.Common.{◌≡◌, ◌<◌, ◌≤◌, ℕ, zero, suc, Bool, true, false, List, [], ◌∷◌, refl, ◌∙◌, sym, arith}
use Rattle.lang_meaning.specs.Actions.{Frame, Work, Task, Own}
use Rattle.lang_meaning.specs.Core.{Result, Goes_on, Returns, Prog, Ret, Traps, Act, Makes, Again, Split, Done, Stopped, Lost, bind, rounded, tested, loop, each_from, run}
use Rattle.lang_meaning.specs.Core.{Out as out}
use Rattle.lang_meaning.specs.Counts.{truth}
use Rattle.lang_meaning.specs.Elision.{LocalRegion, Store, after, one_tick, one_step, at_end, one_by_one, new_region, sequential}

pub record Later (w v : Store) : Type 0 where
  pub ticks : v.ticks ≤ w.ticks
  pub steps : w.steps ≤ v.steps
  pub cells : w.cells ≤ v.cells

pub now : (w : Store) → Later w w
now w = record { ticks = omega arith; steps = omega arith; cells = omega arith }

pub then_later : (u v w : Store) → Later u v → Later v w → Later u w
then_later u v w h k = record { ticks = omega arith; steps = omega arith; cells = omega arith }

-- an outcome leaves a later store
abbrev pub Leaves : {V : Type 0} → Store → out ℕ LocalRegion V Store → Type 0
Leaves w (Done x v) = Later w v
Leaves w (out.Trapped t p v) = Later w v
Leaves w (Stopped n a) = Unit {0}
Leaves w (Lost v) = Later w v

pub leaves_bind : {V U : Type 0} (w : Store) (o : out ℕ LocalRegion V Store) (k : V → Store → out ℕ LocalRegion U Store)
    → Leaves w o → ((x : V) (v : Store) → Later w v → Leaves v (k x v)) → Leaves w (bind o k)
leaves_bind w (Done x v) k h more = after_it (k x v) h (more x v h)
  where
    after_it : {U : Type 0} {w v : Store} (o : out ℕ LocalRegion U Store) → Later w v → Leaves v o → Leaves w o
    after_it {U} {w} {v} (Done y u) h i = then_later w v u h i
    after_it {U} {w} {v} (out.Trapped t p u) h i = then_later w v u h i
    after_it (Stopped n a) h i = tt
    after_it {U} {w} {v} (Lost u) h i = then_later w v u h i
leaves_bind w (out.Trapped t p v) k h more = h
leaves_bind w (Stopped n a) k h more = tt
leaves_bind w (Lost v) k h more = h

act_later : (o : Own ℕ LocalRegion) (w : Store) → Later w (after o w)
act_later o w = record { ticks = omega arith; steps = omega arith; cells = omega arith }

tick_leaves : (n : ℕ) (w : Store) → w.ticks ≡ n → Leaves w (one_tick n w)
tick_leaves zero w e = now w
tick_leaves (suc n) w e = record { ticks = omega arith; steps = omega arith; cells = omega arith }

region_leaves : (w : Store) → Leaves w (new_region w)
region_leaves w = leaves_bind w (one_tick w.ticks w) _ (tick_leaves w.ticks w refl) (λ u v h. record { ticks = omega arith; steps = omega arith; cells = omega arith })

pub end_leaves : (k : Work) (w : Store) (o : out ℕ LocalRegion (Result ℕ LocalRegion) Store) → Leaves w o → Leaves w (at_end k o)
end_leaves k w (Done r v) h = h
end_leaves k w (out.Trapped t p v) h = record { ticks = h.ticks; steps = h.steps; cells = h.cells }
end_leaves k w (Stopped n a) h = tt
end_leaves k w (Lost v) h = h

abbrev Step : Type 0
Step = Frame ℕ LocalRegion → Store → out ℕ LocalRegion (Result ℕ LocalRegion) Store

-- a tick, a body, and what follows
abbrev pub One_tick : Store → out ℕ LocalRegion (Unit {0}) Store
One_tick v = one_tick v.ticks v

rounded_leaves : (again : Step) → ((f : Frame ℕ LocalRegion) (w : Store) → Leaves w (again f w)) → (r : Result ℕ LocalRegion) (v : Store) → Leaves v (rounded again r v)
rounded_leaves again h (Goes_on x g) v = h g v
rounded_leaves again h (Returns x) v = now v

pub tested_leaves : (B again : Step) → ((f : Frame ℕ LocalRegion) (w : Store) → Leaves w (B f w)) → ((f : Frame ℕ LocalRegion) (w : Store) → Leaves w (again f w))
    → (r : Result ℕ LocalRegion) (v : Store) → Leaves v (tested One_tick B again r v)
tested_leaves B again hb h (Returns x) v = now v
tested_leaves B again hb h (Goes_on x g) v = by_truth (truth x)
  where
    by_truth : (b : Bool) → Leaves v (elim b as (λ b. out ℕ LocalRegion (Result ℕ LocalRegion) Store) [
      | false ↦ Done (Goes_on x g) v
      | true ↦ bind (One_tick v) (λ u w'. bind (B g w') (λ r w''. rounded again r w''))
    ])
    by_truth false = now v
    by_truth true = leaves_bind v (One_tick v) _ (tick_leaves v.ticks v refl) (λ u y k. leaves_bind y (B g y) _ (hb g y) (λ r z l. rounded_leaves again h r z))

loop_leaves : (T B : Step) → ((f : Frame ℕ LocalRegion) (w : Store) → Leaves w (T f w)) → ((f : Frame ℕ LocalRegion) (w : Store) → Leaves w (B f w))
    → (n : ℕ) (f : Frame ℕ LocalRegion) (w : Store) → Leaves w (loop One_tick T B n f w)
loop_leaves T B ht hb zero f w = now w
loop_leaves T B ht hb (suc n) f w =
    leaves_bind w (T f w) _ (ht f w) (λ r v h. tested_leaves B (λ g u. loop One_tick T B n g u) hb (λ g u. loop_leaves T B ht hb n g u) r v)

-- after what leaves a later store
bind_later : {V U : Type 0} (w : Store) (o : out ℕ LocalRegion V Store) (j k : V → Store → out ℕ LocalRegion U Store)
    → Leaves w o → ((x : V) (v : Store) → Later w v → j x v ≡ k x v) → bind o j ≡ bind o k
bind_later w (Done x v) j k h e = e x v h
bind_later w (out.Trapped t p v) j k h e = refl
bind_later w (Stopped n a) j k h e = refl
bind_later w (Lost v) j k h e = refl

rounded_same : (a b : Step) (n : ℕ) → ((g : Frame ℕ LocalRegion) (z : Store) → z.ticks < n → a g z ≡ b g z) → (r : Result ℕ LocalRegion) (z : Store) → z.ticks < n
    → rounded a r z ≡ rounded b r z
rounded_same a b n e (Goes_on x g) z h = e g z h
rounded_same a b n e (Returns x) z h = refl

-- after a tick there are fewer
ticked_same : (B a b : Step) → ((f : Frame ℕ LocalRegion) (w : Store) → Leaves w (B f w)) → (g : Frame ℕ LocalRegion) (v : Store) (t : ℕ) → v.ticks ≡ t
    → ((g : Frame ℕ LocalRegion) (z : Store) → z.ticks < v.ticks → a g z ≡ b g z)
    → bind (one_tick t v) (λ u w'. bind (B g w') (λ r w''. rounded a r w'')) ≡ bind (one_tick t v) (λ u w'. bind (B g w') (λ r w''. rounded b r w''))
ticked_same B a b hb g v zero e h = refl
ticked_same B a b hb g v (suc n) e h =
    bind_later (record v { steps = suc v.steps; ticks = n }) (B g (record v { steps = suc v.steps; ticks = n })) _ _ (hb g (record v { steps = suc v.steps; ticks = n }))
    (λ r z l. rounded_same a b v.ticks h r z (let k : z.ticks ≤ n = l.ticks in omega (arith, k)))

tested_same : (B a b : Step) → ((f : Frame ℕ LocalRegion) (w : Store) → Leaves w (B f w)) → (r : Result ℕ LocalRegion) (v : Store)
    → ((g : Frame ℕ LocalRegion) (z : Store) → z.ticks < v.ticks → a g z ≡ b g z) → tested One_tick B a r v ≡ tested One_tick B b r v
tested_same B a b hb (Returns x) v h = refl
tested_same B a b hb (Goes_on x g) v h = by_truth (truth x)
  where
    by_truth : (c : Bool) → elim c as (λ c. out ℕ LocalRegion (Result ℕ LocalRegion) Store) [
      | false ↦ Done (Goes_on x g) v
      | true ↦ bind (One_tick v) (λ u w'. bind (B g w') (λ r w''. rounded a r w''))
    ] ≡ elim c as (λ c. out ℕ LocalRegion (Result ℕ LocalRegion) Store) [
      | false ↦ Done (Goes_on x g) v
      | true ↦ bind (One_tick v) (λ u w'. bind (B g w') (λ r w''. rounded b r w''))
    ]
    by_truth false = refl
    by_truth true = ticked_same B a b hb g v v.ticks refl h

-- any bound above the ticks is as good
loop_same : (T B : Step) → ((f : Frame ℕ LocalRegion) (w : Store) → Leaves w (T f w)) → ((f : Frame ℕ LocalRegion) (w : Store) → Leaves w (B f w))
    → (n m : ℕ) (f : Frame ℕ LocalRegion) (w : Store) → w.ticks < n → w.ticks < m → loop One_tick T B n f w ≡ loop One_tick T B m f w
loop_same T B ht hb zero m f w h k = absurd (omega arith)
loop_same T B ht hb (suc n) zero f w h k = absurd (omega arith)
loop_same T B ht hb (suc n) (suc m) f w h k =
    bind_later w (T f w) _ _ (ht f w) (λ r v l. tested_same B (λ g u. loop One_tick T B n g u) (λ g u. loop One_tick T B m g u) hb r v
    (λ g z i. loop_same T B ht hb n m g z (let q : v.ticks ≤ w.ticks = l.ticks in omega (arith, q)) (let q : v.ticks ≤ w.ticks = l.ticks in omega (arith, q))))

-- after a step
pub stepped : {V : Type 0} (w : Store) (o : out ℕ LocalRegion V Store) → Leaves (one_step w) o → Leaves w o
stepped w (Done x v) k = record { ticks = k.ticks; steps = omega arith; cells = k.cells }
stepped w (out.Trapped t p v) k = record { ticks = k.ticks; steps = omega arith; cells = k.cells }
stepped w (Stopped n a) k = tt
stepped w (Lost v) k = record { ticks = k.ticks; steps = omega arith; cells = k.cells }

branches_leave : (F : ℕ → Store → out ℕ LocalRegion (Result ℕ LocalRegion) Store) → ((i : ℕ) (w : Store) → Leaves w (F i w))
    → (i : ℕ) (ts : List (Task ℕ LocalRegion)) (w : Store) → Leaves w (one_by_one ts (each_from F i ts) w)
branches_leave F h i [] w = now w
branches_leave F h i (t ∷ ts) w =
    leaves_bind w (at_end t.work (F i (one_step w))) _ (stepped w _ (end_leaves t.work (one_step w) (F i (one_step w)) (h i (one_step w))))
    (λ x v k. leaves_bind v (one_by_one ts (each_from F (suc i) ts) v) _ (branches_leave F h (suc i) ts v) (λ xs u l. now u))

pub run_leaves : (p : Prog ℕ LocalRegion) (w : Store) → Leaves w (run sequential p w)
run_leaves (Ret r) w = now w
run_leaves (Traps t p) w = now w
run_leaves (Act o k) w = leaves_bind w (sequential.act o w) _ (act_later o w) (λ x v h. run_leaves (k x) v)
run_leaves (Makes k) w = leaves_bind w (new_region w) _ (region_leaves w) (λ m v h. run_leaves (k m) v)
run_leaves (Again t b f k) w =
    leaves_bind w (loop (λ v. one_tick v.ticks v) (λ g v. run sequential (t g) v) (λ g v. run sequential (b g) v) (suc w.ticks) f w) _
    (loop_leaves (λ g v. run sequential (t g) v) (λ g v. run sequential (b g) v) (λ g v. run_leaves (t g) v) (λ g v. run_leaves (b g) v) (suc w.ticks) f w) (λ r v h. run_leaves (k r) v)
run_leaves (Split forking ts bs k) w =
    leaves_bind w (sequential.fork forking ts (each_from (λ i v. run sequential (bs i) v) 0 ts) w) _
    (leaves_bind w (one_by_one ts (each_from (λ i v. run sequential (bs i) v) 0 ts) (one_step w)) _ (stepped w _ (branches_leave _ (λ i v. run_leaves (bs i) v) 0 ts (one_step w)))
    (λ xs v h. record { ticks = omega arith; steps = omega arith; cells = omega arith })) (λ x v h. run_leaves (k x) v)

done_again : (o : out ℕ LocalRegion (Result ℕ LocalRegion) Store) → bind o (λ r v. run sequential (Ret r) v) ≡ o
done_again (Done r v) = refl
done_again (out.Trapped t p v) = refl
done_again (Stopped n a) = refl
done_again (Lost v) = refl

-- a loop is its test, and where that is true a tick, its body and the loop again
pub again_is : (t b : Frame ℕ LocalRegion → Prog ℕ LocalRegion) (f : Frame ℕ LocalRegion) (w : Store)
    → run sequential (Again t b f (λ r. Ret r)) w
    ≡ bind (run sequential (t f) w) (λ r v. tested One_tick (λ g u. run sequential (b g) u) (λ g u. run sequential (Again t b g (λ r. Ret r)) u) r v)
again_is t b f w =
    done_again (loop One_tick T B (suc w.ticks) f w)
    ∙ bind_later w (T f w) _ _ (run_leaves (t f) w) (λ r v l. tested_same B _ _ (λ g u. run_leaves (b g) u) r v
    (λ g z i. loop_same T B (λ g u. run_leaves (t g) u) (λ g u. run_leaves (b g) u) w.ticks (suc z.ticks) g z (let q : v.ticks ≤ w.ticks = l.ticks in omega (arith, q)) (omega arith)
    ∙ sym (done_again (loop One_tick T B (suc z.ticks) g z))))
  where
    T : Step
    T g u = run sequential (t g) u

    B : Step
    B g u = run sequential (b g) u
