-- Trees that run alike in one heap, one task after the other.
use Rattle.std.proofs.Common.{◌≡◌, ℕ, suc, refl, sym, ap, ◌∙◌, Bool, true, false, cond, Option, Some, None, List}
use Rattle.lang_typed.specs.declared.stmt.Forking.{Forking}
use Rattle.lang_meaning.specs.Values.{Value}
use Rattle.lang_meaning.specs.Actions.{Frame, Task, Effect, Own, Enter, Answer}
use Rattle.lang_meaning.specs.Core.{Result, Goes_on, Returns, Prog, Ret, Traps, Act, Makes, Again, Split, on, next_of, and_then, Out, Done, Stopped, Lost}
use Rattle.lang_meaning.specs.Core.{bind, World, loop, each_from, run}
use Rattle.lang_meaning.specs.Core.{Out as out}
use Rattle.lang_meaning.specs.Counts.{Brought}
use Rattle.lang_meaning.specs.Elision.{LocalRegion, Store, one_tick, sequential}

pub bind_assoc : {N M V U T W : Type 0} (o : Out N M V W) (j : V → W → Out N M U W) (k : U → W → Out N M T W) →
    bind (bind o j) k ≡ bind o (λ v w. bind (j v w) k)
bind_assoc (Done v w) j k = refl
bind_assoc (out.Trapped t p w) j k = refl
bind_assoc (Stopped n a) j k = refl
bind_assoc (Lost w) j k = refl

pub bind_same : {N M V U W : Type 0} (o : Out N M V W) (j k : V → W → Out N M U W) → ((v : V) (w : W) → j v w ≡ k v w) → bind o j ≡ bind o k
bind_same o j k e = λ i. bind o (λ v w. e v w i)

-- a tree and what follows it
bind_through : {N M V U T W : Type 0} (o : Out N M V W) (k : V → W → Out N M U W) (h : V → W → Out N M T W) (m : T → W → Out N M U W) →
    ((v : V) (w : W) → k v w ≡ bind (h v w) m) → bind o k ≡ bind (bind o h) m
bind_through o k h m e = bind_same o k (λ v w. bind (h v w) m) e ∙ sym (bind_assoc o h m)

pub run_on : {N M W : Type 0} (wd : World N M W) (p : Prog N M) (k : Result N M → Prog N M) (w : W) →
    run wd (on p k) w ≡ bind (run wd p w) (λ r v. run wd (k r) v)
run_on wd (Ret r) k w = refl
run_on wd (Traps t p) k w = refl
run_on wd (Act o j) k w = bind_through (wd.act o w) (λ x v. run wd (on (j x) k) v) (λ x v. run wd (j x) v) (λ f v. run wd (k f) v) (λ x v. run_on wd (j x) k v)
run_on wd (Makes j) k w = bind_through (wd.make w) (λ x v. run wd (on (j x) k) v) (λ x v. run wd (j x) v) (λ f v. run wd (k f) v) (λ x v. run_on wd (j x) k v)
run_on wd (Again t b f j) k w =
    bind_through (loop wd.tick (λ g v. run wd (t g) v) (λ g v. run wd (b g) v) (wd.ticks w) f w) (λ x v. run wd (on (j x) k) v) (λ x v. run wd (j x) v)
    (λ f v. run wd (k f) v) (λ x v. run_on wd (j x) k v)
run_on wd (Split forking ts bs j) k w =
    bind_through (wd.fork forking ts (each_from (λ i v. run wd (bs i) v) 0 ts) w) (λ x v. run wd (on (j x) k) v) (λ x v. run wd (j x) v)
    (λ f v. run wd (k f) v) (λ x v. run_on wd (j x) k v)

-- the locals of a body where objects and local regions are numbered, and what it does
abbrev pub Slots : Type 0
Slots = Frame ℕ LocalRegion

abbrev pub Tree : Type 0
Tree = Prog ℕ LocalRegion

-- from each store they come to the same
pub record Same (p q : Tree) : Type 0 where
  pub from : (w : Store) → run sequential p w ≡ run sequential q w

pub same_again : {p : Tree} → Same p p
same_again = record { from = λ w. refl }

pub same_after : {p q r : Tree} → Same p q → Same q r → Same p r
same_after h k = record { from = λ w. h.from w ∙ k.from w }

pub same_path : {p q : Tree} → p ≡ q → Same p q
same_path e = record { from = λ w. ap (λ x. run sequential x w) e }

pub same_on : {p q : Tree} {j k : Result ℕ LocalRegion → Tree} → Same p q → ((r : Result ℕ LocalRegion) → Same (j r) (k r)) → Same (on p j) (on q k)
same_on {p} {q} {j} {k} h e = record {
  from = λ w. run_on sequential p j w ∙ ap (λ o. bind o (λ r v. run sequential (j r) v)) (h.from w)
      ∙ bind_same (run sequential q w) (λ r v. run sequential (j r) v) (λ r v. run sequential (k r) v) (λ r v. (e r).from v) ∙ sym (run_on sequential q k w);
}

pub same_then : {p q : Tree} {j k : Value ℕ → Slots → Tree} → Same p q → ((v : Value ℕ) (f : Slots) → Same (j v f) (k v f))
    → Same (and_then p j) (and_then q k)
same_then {p} {q} {j} {k} h e = same_on h next
  where
    next : (r : Result ℕ LocalRegion) → Same (next_of j r) (next_of k r)
    next (Goes_on v f) = e v f
    next (Returns v) = same_again

pub same_act : {o : Own ℕ LocalRegion} {j k : Answer ℕ LocalRegion → Tree} → ((x : Answer ℕ LocalRegion) → Same (j x) (k x)) → Same (Act o j) (Act o k)
same_act {o} e = record { from = λ w. bind_same (sequential.act o w) _ _ (λ x v. (e x).from v) }

-- an entry costs the same and is answered the same, whatever its effects
pub same_entry : {E F : List (Effect LocalRegion)} {j k : Answer ℕ LocalRegion → Tree} → ((x : Answer ℕ LocalRegion) → Same (j x) (k x))
    → Same (Act (Enter E) j) (Act (Enter F) k)
same_entry {E} e = record { from = λ w. bind_same (sequential.act (Enter E) w) _ _ (λ x v. (e x).from v) }

pub same_loop : {t u b c : Slots → Tree} {f : Slots} {k : Result ℕ LocalRegion → Tree} → ((g : Slots) → Same (t g) (u g))
    → ((g : Slots) → Same (b g) (c g)) → Same (Again t b f k) (Again u c f k)
same_loop {f = f} {k = k} test body = record {
  from = λ w i. bind (loop (λ v. one_tick v.ticks v) (λ g v. (test g).from v i) (λ g v. (body g).from v i) (suc w.ticks) f w) (λ r v. run sequential (k r) v);
}

-- branches that run alike
pub same_split : {forking : Forking} {ts : List (Task ℕ LocalRegion)} {b c : ℕ → Tree} {k : Brought ℕ → Tree} → ((i : ℕ) → Same (b i) (c i))
    → Same (Split forking ts b k) (Split forking ts c k)
same_split {forking} {ts} {k = k} e = record {
  from = λ w i. bind (sequential.fork forking ts (each_from (λ n v. (e n).from v i) 0 ts) w) (λ x v. run sequential (k x) v);
}

pub same_or : {A : Type 0} {p q : Tree} {j k : A → Tree} (o : Option A) → Same p q → ((x : A) → Same (j x) (k x))
    → Same (elim o as (λ o. Tree) [ None ↦ p | Some x ↦ j x ]) (elim o as (λ o. Tree) [ None ↦ q | Some x ↦ k x ])
same_or None h e = h
same_or (Some x) h e = e x

pub same_if : {p q r s : Tree} (b : Bool) → Same p q → Same r s → Same (cond b p r) (cond b q s)
same_if true h k = h
same_if false h k = k

pub same_by : {p q r s : Tree} (b : Bool) → Same p q → Same r s
    → Same (elim b as (λ b. Tree) [ false ↦ p | true ↦ r ]) (elim b as (λ b. Tree) [ false ↦ q | true ↦ s ])
same_by false h k = h
same_by true h k = k
