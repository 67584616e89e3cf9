-- What a task does, as a tree of seven forms, and how such a tree runs in a world.
use Rattle.std.specs.Prelude.{ℕ, zero, suc, true, false, List, [], ◌∷◌}
use Rattle.lang_base.specs.declared.place.Place.{Place}
use Rattle.lang_base.specs.declared.value.Trap.{Trap}
use Rattle.lang_typed.specs.declared.stmt.Forking.{Forking}
use Rattle.lang_meaning.specs.Values.{Value}
use Rattle.lang_meaning.specs.Actions.{Frame, Task, Own, Action, Answer}
use Rattle.lang_meaning.specs.Counts.{truth, Brought}

-- how a stretch ends where it doesn't trap: it goes on with a value and the locals, or it returns a value
pub data Result (N M : Type 0) : Type 0 where
  Goes_on : (v : Value N) (f : Frame N M) → Result N M
  Returns : (v : Value N) → Result N M

pub data Prog (N M : Type 0) : Type 0 where
  Ret : (r : Result N M) → Prog N M
  Traps : (trap : Trap) (place : Place) → Prog N M
  Act : (o : Own N M) (k : Answer N M → Prog N M) → Prog N M
  -- a new local region
  Makes : (k : M → Prog N M) → Prog N M
  -- a test and a body, again and again while the test is true; then what follows
  Again : (test body : Frame N M → Prog N M) (f : Frame N M) (k : Result N M → Prog N M) → Prog N M
  -- branches side by side, each with what it does, then what follows the join
  Split : (forking : Forking) (ts : List (Task N M)) (does : ℕ → Prog N M) (k : Brought N → Prog N M) → Prog N M

abbrev pub on : {N M : Type 0} → Prog N M → (Result N M → Prog N M) → Prog N M
on (Ret r) j = j r
on (Traps trap p) j = Traps trap p
on (Act o k) j = Act o (λ x. on (k x) j)
on (Makes k) j = Makes (λ m. on (k m) j)
on (Again t b f k) j = Again t b f (λ r. on (k r) j)
on (Split nd ts bs k) j = Split nd ts bs (λ x. on (k x) j)

-- where it goes on, this; a return is handed through
abbrev pub next_of : {N M : Type 0} → (Value N → Frame N M → Prog N M) → Result N M → Prog N M
next_of j (Goes_on v f) = j v f
next_of j (Returns v) = Ret (Returns v)

abbrev pub and_then : {N M : Type 0} → Prog N M → (Value N → Frame N M → Prog N M) → Prog N M
and_then p j = on p (next_of j)

-- the outcome of a stretch of work: a value, a trap, an action that has no answer with the ticks before it, or a bound ran out
pub data Out (N M V W : Type 0) : Type 0 where
  Done : (v : V) (w : W) → Out N M V W
  Trapped : (trap : Trap) (place : Place) (w : W) → Out N M V W
  Stopped : (ticks : ℕ) (a : Action N M (Task N M)) → Out N M V W
  Lost : (w : W) → Out N M V W

abbrev pub bind : {N M V U W : Type 0} → Out N M V W → (V → W → Out N M U W) → Out N M U W
bind (Done v w) k = k v w
bind (Trapped trap p w) k = Trapped trap p w
bind (Stopped n a) k = Stopped n a
bind (Lost w) k = Lost w

-- how a world answers: how many ticks a loop may have at most, an action of a task's own, one tick, a new local region, and
-- branches that run side by side
pub record World (N M W : Type 0) : Type 0 where
  pub ticks : W → ℕ
  pub act : Own N M → W → Out N M (Answer N M) W
  pub tick : W → Out N M (Unit {0}) W
  pub make : W → Out N M M W
  pub fork : Forking → List (Task N M) → List (W → Out N M (Result N M) W) → W → Out N M (Brought N) W

-- after the body of a loop: again, or away
abbrev pub rounded : {N M W : Type 0} → (Frame N M → W → Out N M (Result N M) W) → Result N M → W → Out N M (Result N M) W
rounded again (Returns v) w = Done (Returns v) w
rounded again (Goes_on v f) w = again f w

-- after its test
abbrev pub tested : {N M W : Type 0} → (W → Out N M (Unit {0}) W) → (Frame N M → W → Out N M (Result N M) W) → (Frame N M → W → Out N M (Result N M) W) →
    Result N M → W → Out N M (Result N M) W
tested tick body again (Returns v) w = Done (Returns v) w
tested tick body again (Goes_on v f) w =
    elim (truth v) [ false ↦ Done (Goes_on v f) w | true ↦ bind (tick w) (λ u w'. bind (body f w') (λ r w''. rounded again r w'')) ]

-- a loop of at most so many ticks
abbrev pub loop : {N M W : Type 0} → (W → Out N M (Unit {0}) W) → (Frame N M → W → Out N M (Result N M) W) → (Frame N M → W → Out N M (Result N M) W) →
    ℕ → Frame N M → W → Out N M (Result N M) W
loop tick test body zero f w = Lost w
loop tick test body (suc n) f w = bind (test f w) (λ r w'. tested tick body (λ g u. loop tick test body n g u) r w')

abbrev pub each_from : {A B : Type 0} → (ℕ → B) → ℕ → List A → List B
each_from f i [] = []
each_from f i (x ∷ xs) = f i ∷ each_from f (suc i) xs

abbrev pub run : {N M W : Type 0} → World N M W → Prog N M → W → Out N M (Result N M) W
run wd (Ret r) w = Done r w
run wd (Traps trap p) w = Trapped trap p w
run wd (Act o k) w = bind (wd.act o w) (λ x v. run wd (k x) v)
run wd (Makes k) w = bind (wd.make w) (λ m v. run wd (k m) v)
run wd (Again t b f k) w = bind (loop wd.tick (λ g v. run wd (t g) v) (λ g v. run wd (b g) v) (wd.ticks w) f w) (λ r v. run wd (k r) v)
run wd (Split nd ts bs k) w = bind (wd.fork nd ts (each_from (λ i v. run wd (bs i) v) 0 ts) w) (λ x v. run wd (k x) v)
