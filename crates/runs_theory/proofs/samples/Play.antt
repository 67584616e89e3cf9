-- Legal runs for samples, computed from the names of the tasks that go on, and checked as they are made.
use Rattle.std.proofs.Common.{◌≡◌, ℕ, zero, suc, ◌+◌, ◌⊎◌, inl, inr, Bool, true, false, true≢false, ◌&&◌, ◌==◌, if◌then◌else◌, List, [], ◌∷◌}
use Rattle.std.proofs.Common.{◌++◌, length, refl, sym, ap, ◌∙◌, subst, arith, Option, Some, None, slice_get, eqb-true}
use Rattle.std.proofs.lemmas.Bool.{and_parts, cond-true, cond-false}
use Rattle.std.proofs.lemmas.Option.{slice_get_past}
use Rattle.runs_theory.specs.Actions.{Action, Answer, Begin, Branches, Do, End, Ending, Enter, Fork, Join, Next, Over, Program, Reply, Rule, Task, Unknown, Went}
use Rattle.runs_theory.specs.Objects.{Effect, Path, same_path}
use Rattle.runs_theory.specs.Runs.{Begun, Ended, Event, Joins, Right, Run, Upto, answers, branch, joined, later, mine, now, reply, root}
use Rattle.runs_theory.specs.Standing.{Admitted, CanEnter, Inside, Outside, Standing, Valid, standing}
use Rattle.runs_theory.proofs.events.Upto.{upto_since, upto_split, upto_none}
use Rattle.runs_theory.proofs.events.Mine.{test_same, found}
use Rattle.runs_theory.proofs.runs.Faithful.{some_same}
use Rattle.runs_theory.proofs.runs.Standing.{Opener, opener_of}
use Rattle.runs_theory.proofs.events.Carry.{has_event}

-- what is read off an option
abbrev pub let_some : {A B : Type 0} → Option A → (A → Option B) → Option B
let_some None f = None
let_some (Some a) f = f a

record Let (A B : Type 0) (o : Option A) (f : A → Option B) (b : B) : Type 0 where
  value : A
  is : o ≡ Some value
  then_is : f value ≡ Some b

let_parts : {A B : Type 0} (o : Option A) (f : A → Option B) (b : B) → let_some o f ≡ Some b → Let A B o f b
let_parts None f b e = absurd (let k : None ≡ Some b = e in cc)
let_parts (Some a) f b e = record { value = a; is = refl; then_is = e }

abbrev when : {A : Type 0} → Bool → Option A → Option A
when true o = o
when false o = None

when_parts : {A : Type 0} (t : Bool) (o : Option A) (a : A) → when t o ≡ Some a → (t ≡ true) × (o ≡ Some a)
when_parts true o a e = (refl, e)
when_parts false o a e = absurd (let k : None ≡ Some a = e in cc)

-- the event of this number, among those of one task
abbrev nth : Run → ℕ → Option Event
nth [] n = None
nth (x ∷ xs) n = if length xs == n then Some x else nth xs n

nth_stands : (es : Run) (n : ℕ) (x : Event) → nth es n ≡ Some x → (xs : Run) × Upto (x ∷ xs) es × (length xs ≡ n)
nth_stands [] n x e = absurd (let k : None ≡ Some x = e in cc)
nth_stands (y ∷ ys) n x e = go (length ys == n) refl (nth_stands ys n x)
  where
    go : (t : Bool) → (length ys == n) ≡ t → (nth ys n ≡ Some x → (xs : Run) × Upto (x ∷ xs) ys × (length xs ≡ n)) → (xs : Run) × Upto (x ∷ xs) (y ∷ ys)
        × (length xs ≡ n)
    go true h rec =
        let k = some_same y x (sym (cond-true (length ys == n) (Some y) (nth ys n) h) ∙ e) in
        (ys, subst (λ z. Upto (z ∷ ys) (y ∷ ys)) k now, eqb-true (length ys) n h)
    go false h rec = let r = rec (sym (cond-false (length ys == n) (Some y) (nth ys n) h) ∙ e) in (r.0, later r.1, r.2)

abbrev fork_of : Action → Option Branches
fork_of (Fork ts) = Some ts
fork_of (Do o) = None
fork_of (Begin b) = None
fork_of Join = None
fork_of (End x) = None

fork_is : (a : Action) (ts : Branches) → fork_of a ≡ Some ts → a ≡ Fork ts
fork_is (Fork us) ts e = ap Fork (some_same us ts e)
fork_is (Do o) ts e = absurd (let k : None ≡ Some ts = e in cc)
fork_is (Begin b) ts e = absurd (let k : None ≡ Some ts = e in cc)
fork_is Join ts e = absurd (let k : None ≡ Some ts = e in cc)
fork_is (End x) ts e = absurd (let k : None ≡ Some ts = e in cc)

abbrev is_begin : ℕ → Action → Bool
is_begin n (Begin b) = b == n
is_begin n (Do o) = false
is_begin n (Fork ts) = false
is_begin n Join = false
is_begin n (End x) = false

begin_is : (n : ℕ) (a : Action) → is_begin n a ≡ true → a ≡ Begin n
begin_is n (Begin b) e = ap Begin (eqb-true b n e)
begin_is n (Do o) e = absurd (true≢false (sym e))
begin_is n (Fork ts) e = absurd (true≢false (sym e))
begin_is n Join e = absurd (true≢false (sym e))
begin_is n (End x) e = absurd (true≢false (sym e))

-- what a task that has begun is to do
abbrev pub task_of : Program → Run → Path → Option Task
task_of P R [] = Some P.root
task_of P R (u ∷ q) = let_some (nth (mine R q) u.0) (λ f. let_some (fork_of f.act)
    (λ ts. let_some (nth (mine R q) (suc (u.0 + u.1))) (λ g. when (is_begin u.1 g.act) (slice_get ts.tasks u.1))))

pub task_begun : (P : Program) (R : Run) (p : Path) (t : Task) → task_of P R p ≡ Some t → Begun P R p t
task_begun P R [] t e = root refl (sym (some_same P.root t e))
task_begun P R (u ∷ q) t e =
    let a = let_parts (nth (mine R q) u.0) (λ f. let_some (fork_of f.act)
    (λ ts. let_some (nth (mine R q) (suc (u.0 + u.1))) (λ g. when (is_begin u.1 g.act) (slice_get ts.tasks u.1)))) t e in
    let b = let_parts (fork_of a.value.act) (λ ts. let_some (nth (mine R q) (suc (u.0 + u.1)))
    (λ g. when (is_begin u.1 g.act) (slice_get ts.tasks u.1))) t a.then_is in
    let ts : Branches = b.value in
    let c = let_parts (nth (mine R q) (suc (u.0 + u.1))) (λ g. when (is_begin u.1 g.act) (slice_get ts.tasks u.1)) t b.then_is in
    let d = when_parts (is_begin u.1 c.value.act) (slice_get ts.tasks u.1) t c.then_is in
    let f = nth_stands (mine R q) u.0 a.value a.is in
    let g = nth_stands (mine R q) (suc (u.0 + u.1)) c.value c.is in
    let ff = found R q f.1 in
    let gg = found R q g.1 in
    branch q u ff.before a.value ts gg.before c.value refl ff.stands ff.path (ap length ff.mine_is ∙ f.2) (fork_is a.value.act ts b.is) d.1 gg.stands gg.path
    (begin_is u.1 c.value.act d.0) (ap length gg.mine_is ∙ g.2)

abbrev ending_of_act : Action → Option Ending
ending_of_act (End x) = Some x
ending_of_act (Do o) = None
ending_of_act (Fork ts) = None
ending_of_act (Begin b) = None
ending_of_act Join = None

act_is : (a : Action) (x : Ending) → ending_of_act a ≡ Some x → a ≡ End x
act_is (End y) x e = ap End (some_same y x e)
act_is (Do o) x e = absurd (let k : None ≡ Some x = e in cc)
act_is (Fork ts) x e = absurd (let k : None ≡ Some x = e in cc)
act_is (Begin b) x e = absurd (let k : None ≡ Some x = e in cc)
act_is Join x e = absurd (let k : None ≡ Some x = e in cc)

-- how a task has ended
abbrev latest_end : Run → Option Ending
latest_end [] = None
latest_end (e ∷ es) = ending_of_act e.act

pub has_ended_with : (R : Run) (p : Path) (x : Ending) → latest_end (mine R p) ≡ Some x → Ended R p x
has_ended_with R p x e = go (mine R p) refl e
  where
    go : (es : Run) → mine R p ≡ es → latest_end es ≡ Some x → Ended R p x
    go [] m h = absurd (let k : None ≡ Some x = h in cc)
    go (w ∷ es) m h = let f = found R p (subst (λ l. Upto (w ∷ es) l) (sym m) now) in
        record { before = f.before; event = w; stands = f.stands; path = f.path; act = act_is w.act x h }

-- how the branches from number b on have ended, as many as are left
abbrev ends_from : Run → Path → ℕ → ℕ → ℕ → Option (List Ending)
ends_from R p k b zero = Some []
ends_from R p k b (suc n) = let_some (latest_end (mine R ((k, b) ∷ p))) (λ x. let_some (ends_from R p k (suc b) n) (λ xs. Some (x ∷ xs)))

ends_length : (R : Run) (p : Path) (k b n : ℕ) (xs : List Ending) → ends_from R p k b n ≡ Some xs → length xs ≡ n
ends_length R p k b zero xs e = ap length (sym (some_same [] xs e))
ends_length R p k b (suc n) xs e =
    let a = let_parts (latest_end (mine R ((k, b) ∷ p))) (λ x. let_some (ends_from R p k (suc b) n) (λ xs. Some (x ∷ xs))) xs e in
    let x : Ending = a.value in
    let c = let_parts (ends_from R p k (suc b) n) (λ xs. Some (x ∷ xs)) xs a.then_is in
    ap length (sym (some_same (x ∷ c.value) xs c.then_is)) ∙ ap (λ m. suc m) (ends_length R p k (suc b) n c.value c.is)

ends_ended : (R : Run) (p : Path) (k b n : ℕ) (xs : List Ending) → ends_from R p k b n ≡ Some xs → (i : ℕ) (y : Ending) → slice_get xs i ≡ Some y
    → Ended R ((k, b + i) ∷ p) y
ends_ended R p k b zero xs e i y g = absurd (let l = ap length (sym (some_same [] xs e)) in
    let z : None ≡ Some y = sym (slice_get_past xs i (omega arith)) ∙ g in cc)
ends_ended R p k b (suc n) xs e i y g =
    let a = let_parts (latest_end (mine R ((k, b) ∷ p))) (λ x. let_some (ends_from R p k (suc b) n) (λ xs. Some (x ∷ xs))) xs e in
    let x : Ending = a.value in
    let c = let_parts (ends_from R p k (suc b) n) (λ xs. Some (x ∷ xs)) xs a.then_is in
    let s = some_same (x ∷ c.value) xs c.then_is in
    at i x c.value a.is (ends_ended R p k (suc b) n c.value c.is) (ap (λ l. slice_get l i) s ∙ g)
  where
    at : (i : ℕ) (x : Ending) (ys : List Ending) → latest_end (mine R ((k, b) ∷ p)) ≡ Some x
        → ((j : ℕ) (z : Ending) → slice_get ys j ≡ Some z → Ended R ((k, suc b + j) ∷ p) z) → slice_get (x ∷ ys) i ≡ Some y → Ended R ((k, b + i) ∷ p) y
    at zero x ys h rec j =
        let m : b ≡ b + 0 = omega arith in
        has_ended_with R ((k, b + 0) ∷ p) y (subst (λ c. latest_end (mine R ((k, c) ∷ p)) ≡ Some y) m (h ∙ j))
    at (suc i) x ys h rec j =
        let m : suc b + i ≡ b + suc i = omega arith in
        subst (λ c. Ended R ((k, c) ∷ p) y) m (rec i y j)

-- the fork after which stand begins alone, so many: how many events stand before it, and its branches
abbrev at_fork : Action → ℕ → Run → Option (ℕ × Branches) → Option (ℕ × Branches)
at_fork (Fork ts) n es o = when (n == length ts.tasks) (Some (length es, ts))
at_fork (Begin b) n es o = o
at_fork (Do c) n es o = None
at_fork Join n es o = None
at_fork (End x) n es o = None

abbrev open_fork : ℕ → Run → Option (ℕ × Branches)
open_fork n [] = None
open_fork n (e ∷ es) = at_fork e.act n es (open_fork (suc n) es)

record OpenFork (L : Run) (n k : ℕ) (ts : Branches) : Type 0 where
  since : Run
  fork : Event
  before : Run
  is : L ≡ since ++ fork ∷ before
  act : fork.act ≡ Fork ts
  number : length before ≡ k
  many : length since + n ≡ length ts.tasks

open_is : (L : Run) (n k : ℕ) (ts : Branches) → open_fork n L ≡ Some (k, ts) → OpenFork L n k ts
open_is [] n k ts e = absurd (let z : None ≡ Some (k, ts) = e in cc)
open_is (x ∷ L) n k ts e = go x.act refl (open_is L (suc n) k ts)
  where
    go : (a : Action) → x.act ≡ a → (open_fork (suc n) L ≡ Some (k, ts) → OpenFork L (suc n) k ts) → OpenFork (x ∷ L) n k ts
    go (Fork us) h rec =
        let w = when_parts (n == length us.tasks) (Some (length L, us)) (k, ts) (sym (ap (λ a. at_fork a n L (open_fork (suc n) L)) h) ∙ e) in
        let s : (length L, us) ≡ (k, ts) = some_same (length L, us) (k, ts) w.1 in
        let ts_is : us ≡ ts = ap (λ (z : ℕ × Branches). z.1) s in
        let k_is : length L ≡ k = ap (λ (z : ℕ × Branches). z.0) s in
        let m = eqb-true n (length us.tasks) w.0 in
        let l : length us.tasks ≡ length ts.tasks = ap (λ (b : Branches). length b.tasks) ts_is in
        record { since = []; fork = x; before = L; is = refl; act = h ∙ ap Fork ts_is; number = k_is; many = omega (arith, m, l) }
    go (Begin b) h rec =
        let r = rec (sym (ap (λ a. at_fork a n L (open_fork (suc n) L)) h) ∙ e) in
        let m = r.many in
        record { since = x ∷ r.since; fork = r.fork; before = r.before; is = ap (λ l. x ∷ l) r.is; act = r.act; number = r.number; many = omega arith }
    go (Do c) h rec = absurd (let z : None ≡ Some (k, ts) = sym (ap (λ a. at_fork a n L (open_fork (suc n) L)) h) ∙ e in cc)
    go Join h rec = absurd (let z : None ≡ Some (k, ts) = sym (ap (λ a. at_fork a n L (open_fork (suc n) L)) h) ∙ e in cc)
    go (End y) h rec = absurd (let z : None ≡ Some (k, ts) = sym (ap (λ a. at_fork a n L (open_fork (suc n) L)) h) ∙ e in cc)

abbrev join_answer : Run → Path → Option Answer
join_answer R p = let_some (open_fork 0 (mine R p)) (λ f. let_some (ends_from R p f.0 0 (length f.1.tasks)) (λ xs. Some (joined xs)))

joins_now : (R : Run) (p : Path) (a : Answer) → join_answer R p ≡ Some a → Joins R p a
joins_now R p a e =
    let c = let_parts (open_fork 0 (mine R p)) (λ f. let_some (ends_from R p f.0 0 (length f.1.tasks)) (λ xs. Some (joined xs))) a e in
    let k : ℕ = c.value.0 in
    let ts : Branches = c.value.1 in
    let d = let_parts (ends_from R p k 0 (length ts.tasks)) (λ xs. Some (joined xs)) a c.then_is in
    let xs : List Ending = d.value in
    let o = open_is (mine R p) 0 k ts c.is in
    let f = found R p (subst (λ l. Upto (o.fork ∷ o.before) l) (sym o.is) (upto_since o.since o.fork o.before)) in
    let m = o.many in
    record {
      before = f.before;
      fork = o.fork;
      stands = f.stands;
      path = f.path;
      since = o.since;
      last = o.is ∙ ap (λ l. o.since ++ o.fork ∷ l) (sym f.mine_is);
      tasks = ts;
      act = o.act;
      all_begun = omega arith;
      ends = xs;
      each = ends_length R p k 0 (length ts.tasks) xs d.is;
      ended = λ u y n g. (
          let h = ends_ended R p k 0 (length ts.tasks) xs d.is u.1 y g in
          let i : k ≡ u.0 = sym (ap length f.mine_is ∙ o.number) ∙ sym n in
          subst (λ v. Ended R (v ∷ p) y) (pair k u i) h);
      answer = sym (some_same (joined xs) a d.then_is);
    }
  where
    pair : (k : ℕ) (u : ℕ × ℕ) → k ≡ u.0 → (k, 0 + u.1) ≡ u
    pair k u i = let j : 0 + u.1 ≡ u.1 = omega arith in λ z. (i z, j z)

-- the answer to an action at this moment
abbrev answer_to : Program → Run → Path → Action → Option Answer
answer_to P R p (Do o) = reply P R p o
answer_to P R p (Fork ts) = Some Went
answer_to P R p (Begin b) = Some Went
answer_to P R p Join = join_answer R p
answer_to P R p (End x) = Some Went

answer_right : (P : Program) (R : Run) (p : Path) (a : Action) (x : Answer) → answer_to P R p a ≡ Some x → Right P R p a x
answer_right P R p (Do o) x e = e
answer_right P R p (Fork ts) x e = sym (some_same Went x e)
answer_right P R p (Begin b) x e = sym (some_same Went x e)
answer_right P R p Join x e = joins_now R p x e
answer_right P R p (End y) x e = sym (some_same Went x e)

-- whether an entry may come now: no task that has made an event stands in a block of its own that the rule keeps apart from it
abbrev lets_by : Rule → Standing → Path → List Effect → Bool
lets_by rule Outside q E = true
lets_by rule (Inside o F) q E = if same_path o q then rule F E else true

abbrev all_let_by : Rule → Run → Run → List Effect → Bool
all_let_by rule R [] E = true
all_let_by rule R (w ∷ W) E = lets_by rule (standing R w.path) w.path E && all_let_by rule R W E

all_let_at : (rule : Rule) (R W : Run) (E : List Effect) → all_let_by rule R W E ≡ true → (w : Event) (V : Run) → Upto (w ∷ V) W
    → lets_by rule (standing R w.path) w.path E ≡ true
all_let_at rule R [] E e w V h = absurd (upto_none h)
all_let_at rule R (x ∷ W) E e w V h = go (and_parts _ _ e) (upto_split h) (λ k. all_let_at rule R W E k w V)
  where
    go : (lets_by rule (standing R x.path) x.path E ≡ true) × (all_let_by rule R W E ≡ true) → ((w ≡ x) × (V ≡ W)) ⊎ Upto (w ∷ V) W
        → (all_let_by rule R W E ≡ true → Upto (w ∷ V) W → lets_by rule (standing R w.path) w.path E ≡ true) → lets_by rule (standing R w.path) w.path E ≡ true
    go p (inl k) rec = subst (λ (z : Event). lets_by rule (standing R z.path) z.path E ≡ true) (sym k.0) p.0
    go p (inr k) rec = rec p.1 k

abbrev if_inside : Standing → Bool → Bool
if_inside Outside t = t
if_inside (Inside o E) t = true

abbrev may_come : Rule → Run → Path → Action → Bool
may_come rule R p (Do (Enter E)) = if_inside (standing R p) (all_let_by rule R R E)
may_come rule R p a = true

enter_ok : (rule : Rule) (R : Run) (p : Path) (E : List Effect) → may_come rule R p (Do (Enter E)) ≡ true → CanEnter rule R p E
enter_ok rule R p E e = record { clear = λ w q F h. at w q F h (opener_of R q F h) }
  where
    at : standing R p ≡ Outside → (q : Path) (F : List Effect) → standing R q ≡ Inside q F → Opener R q F → rule F E ≡ true
    at w q F h o =
        let x = has_event (mine R q) o.depth F o.held in
        let f = found R q (subst (λ k. Upto (x.0 ∷ x.1) k) (sym x.2) now) in
        let all : all_let_by rule R R E ≡ true = sym (ap (λ s. if_inside s (all_let_by rule R R E)) w) ∙ e in
        let l = all_let_at rule R R E all x.0 f.before f.stands in
        let s : standing R x.0.path ≡ Inside q F = ap (λ r. standing R r) f.path ∙ h in
        sym (cond-true (same_path q x.0.path) (rule F E) true (test_same q x.0.path (sym f.path))) ∙ sym (ap (λ t. lets_by rule t x.0.path E) s) ∙ l

-- the next event of a task, where it has one that may come now
abbrev event_for : Program → Run → Path → Reply → Option Event
event_for P R p Over = None
event_for P R p Unknown = None
event_for P R p (Next n a) = when (may_come P.rule R p a) (let_some (answer_to P R p a) (λ x. Some (record { path = p; ticks = n; act = a; ans = x })))

abbrev pub next_of : Program → Run → Path → Option Event
next_of P R p = let_some (task_of P R p) (λ t. event_for P R p (P.meaning p t (answers (mine R p))))

admitted_next : (P : Program) (R : Run) (p : Path) (e : Event) → next_of P R p ≡ Some e → Admitted P R e
admitted_next P R p e h =
    let a = let_parts (task_of P R p) (λ t. event_for P R p (P.meaning p t (answers (mine R p)))) e h in
    go a.value (task_begun P R p a.value a.is) (P.meaning p a.value (answers (mine R p))) refl a.then_is
  where
    go : (t : Task) → Begun P R p t → (r : Reply) → P.meaning p t (answers (mine R p)) ≡ r → event_for P R p (P.meaning p t (answers (mine R p))) ≡ Some e
        → Admitted P R e
    go t b Over m k = absurd (let z : None ≡ Some e = sym (ap (event_for P R p) m) ∙ k in cc)
    go t b Unknown m k = absurd (let z : None ≡ Some e = sym (ap (event_for P R p) m) ∙ k in cc)
    go t b (Next n a) m k =
        let k1 = sym (ap (event_for P R p) m) ∙ k in
        let w = when_parts (may_come P.rule R p a) (let_some (answer_to P R p a) (λ x. Some (record { path = p; ticks = n; act = a; ans = x }))) e k1 in
        let c = let_parts (answer_to P R p a) (λ x. Some (record { path = p; ticks = n; act = a; ans = x })) e w.1 in
        let x : Answer = c.value in
        let made : Event = record { path = p; ticks = n; act = a; ans = x } in
        let f : Admitted P R made = record {
          follows = record { task = t; begun = b; asks = m; right = answer_right P R p a x c.is };
          enters = λ E j. enter_ok P.rule R p E (ap (λ z. may_come P.rule R p z) (sym j) ∙ w.0);
        } in
        subst (λ z. Admitted P R z) (some_same made e c.then_is) f

-- the run that these tasks make, the latest first
abbrev pub play : Program → List Path → Option Run
play P [] = Some []
play P (p ∷ ps) = let_some (play P ps) (λ R. let_some (next_of P R p) (λ e. Some (e ∷ R)))

pub played : (P : Program) (ps : List Path) (R : Run) → play P ps ≡ Some R → Valid P R
played P [] R e = subst (λ R. Valid P R) (some_same [] R e) tt
played P (p ∷ ps) R e =
    let a = let_parts (play P ps) (λ R. let_some (next_of P R p) (λ e. Some (e ∷ R))) R e in
    let S : Run = a.value in
    let b = let_parts (next_of P S p) (λ e. Some (e ∷ S)) R a.then_is in
    let x : Event = b.value in
    let v : Valid P (x ∷ S) = (admitted_next P S p x b.is, played P ps S a.is) in
    subst (λ R. Valid P R) (some_same (x ∷ S) R b.then_is) v

abbrev pub run_of : Option Run → Run
run_of None = []
run_of (Some R) = R
