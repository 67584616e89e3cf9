-- Programs for samples: each task goes through a list of what it does, whatever it is answered.
use Rattle.std.proofs.Common.{◌≡◌, ℕ, pos, zero, suc, ◌+◌, ◌<◌, ◌≤◌, ◌⊎◌, inl, inr, ⊎_elim, List, [], ◌∷◌, ◌++◌, length, refl, sym, ap}
use Rattle.std.proofs.Common.{false, ◌∙◌, arith, Option, Some, None, slice_get, length-append}
use Rattle.std.proofs.lemmas.Bool.{cases_lt}
use Rattle.lang_typed.specs.Plain.{no_stmts}
use Rattle.runs_theory.specs.Actions.{Action, Answer, Begin, Branches, Do, End, Ending, Fork, Join, Next, Over, Own, Program, Reply, Returned, Rule, Task, Unknown}
use Rattle.runs_theory.specs.Meaning.{AfterFork, Disciplined, InTurn, Lively}
use Rattle.runs_theory.specs.Objects.{An_object, Int, Name, Null, Path, Thing, Value}

pub data Item : Type 0 where
  does : (ticks : ℕ) (own : Own) → Item
  forks : (ticks : ℕ) (branches : Branches) → Item

-- after a fork: the begins from branch b on, as many as are left, the join, and what follows
abbrev pub after_fork : ℕ → ℕ → (ℕ → Reply) → ℕ → Reply
after_fork b zero rest zero = Next 0 Join
after_fork b zero rest (suc n) = rest n
after_fork b (suc k) rest zero = Next 0 (Begin b)
after_fork b (suc k) rest (suc n) = after_fork (suc b) k rest n

-- what is done after so many answers
abbrev pub after : List Item → Ending → ℕ → Reply
after [] x zero = Next 0 (End x)
after [] x (suc n) = Over
after (does t o ∷ is) x zero = Next t (Do o)
after (does t o ∷ is) x (suc n) = after is x n
after (forks t ts ∷ is) x zero = Next t (Fork ts)
after (forks t ts ∷ is) x (suc n) = after_fork 0 (length ts.tasks) (λ m. after is x m) n

pub record Body : Type 0 where
  pub items : List Item
  pub ending : Ending

abbrev pub body_of : Option Body → Body
body_of None = record { items = []; ending = Returned Null }
body_of (Some b) = b

-- the task that does the body of this number, which is kept where its depth would be
abbrev pub task : ℕ → Task
task n = record {
  work = record { is_root = false; takes = None; copies = []; stmts = no_stmts };
  frame = record { values = []; regions = []; locals = []; left = n };
}

abbrev pub number_of : Task → ℕ
number_of t = t.frame.left

-- the object that stands at the start, and its name
abbrev pub main : Name
main = record { maker = []; count = 0 }

abbrev pub main_object : List Value → Thing
main_object fields = An_object 0 [] fields

abbrev pub int : ℕ → Value
int n = Int (pos n)

abbrev pub scripted : List Body → List Value → Rule → Program
scripted bodies fields rule = record {
  meaning = λ p t got. after (body_of (slice_get bodies (number_of t))).items (body_of (slice_get bodies (number_of t))).ending (length got);
  root = task 0;
  object = main_object fields;
  rule = rule;
}

-- Over a rest that keeps to it, so does what stands after a fork
over_fork : (rest : ℕ → Reply) → ((n t : ℕ) (y : Ending) → rest n ≡ Next t (End y) → rest (suc n) ≡ Over) → (b k n t : ℕ) (y : Ending)
    → after_fork b k rest n ≡ Next t (End y) → after_fork b k rest (suc n) ≡ Over
over_fork rest f b zero zero t y e = absurd (cc)
over_fork rest f b zero (suc n) t y e = f n t y e
over_fork rest f b (suc k) zero t y e = absurd (cc)
over_fork rest f b (suc k) (suc n) t y e = over_fork rest f (suc b) k n t y e

over_after : (is : List Item) (x : Ending) (n t : ℕ) (y : Ending) → after is x n ≡ Next t (End y) → after is x (suc n) ≡ Over
over_after [] x zero t y e = refl
over_after [] x (suc n) t y e = absurd (cc)
over_after (does s o ∷ is) x zero t y e = absurd (cc)
over_after (does s o ∷ is) x (suc n) t y e = over_after is x n t y e
over_after (forks s ts ∷ is) x zero t y e = absurd (cc)
over_after (forks s ts ∷ is) x (suc n) t y e = over_fork (λ m. after is x m) (λ m s z h. over_after is x m s z h) 0 (length ts.tasks) n t y e

begin_at : (rest : ℕ → Reply) (b k i c : ℕ) → i < k → c ≡ b + i → after_fork b k rest i ≡ Next 0 (Begin c)
begin_at rest b zero i c l e = absurd (omega arith)
begin_at rest b (suc k) zero c l e = let s : b ≡ c = omega arith in ap (λ j. Next 0 (Begin j)) s
begin_at rest b (suc k) (suc i) c l e = begin_at rest (suc b) k i c (omega arith) (omega arith)

join_at : (rest : ℕ → Reply) (b k : ℕ) → after_fork b k rest k ≡ Next 0 Join
join_at rest b zero = refl
join_at rest b (suc k) = join_at rest (suc b) k

-- what stands after a fork
record SinceFork (f : ℕ → Reply) (n : ℕ) (ts : Branches) : Type 0 where
  rest : ℕ → Reply
  is : (m j : ℕ) → j ≡ n + m → f (suc j) ≡ after_fork 0 (length ts.tasks) rest m

rest_fork : (rest : ℕ → Reply) → ((n t : ℕ) (ts : Branches) → rest n ≡ Next t (Fork ts) → SinceFork rest n ts) → (b k n t : ℕ) (ts : Branches)
    → after_fork b k rest n ≡ Next t (Fork ts) → SinceFork (λ m. after_fork b k rest m) n ts
rest_fork rest f b zero zero t ts e = absurd (cc)
rest_fork rest f b zero (suc n) t ts e = let r = f n t ts e in record { rest = r.rest; is = each r }
  where
    each : (r : SinceFork rest n ts) (m j : ℕ) → j ≡ suc n + m → after_fork b zero rest (suc j) ≡ after_fork 0 (length ts.tasks) r.rest m
    each r m zero h = absurd (omega arith)
    each r m (suc j) h = r.is m j (omega arith)
rest_fork rest f b (suc k) zero t ts e = absurd (cc)
rest_fork rest f b (suc k) (suc n) t ts e = let r = rest_fork rest f (suc b) k n t ts e in record { rest = r.rest; is = each r }
  where
    each : (r : SinceFork (λ m. after_fork (suc b) k rest m) n ts) (m j : ℕ) → j ≡ suc n + m
        → after_fork b (suc k) rest (suc j) ≡ after_fork 0 (length ts.tasks) r.rest m
    each r m zero h = absurd (omega arith)
    each r m (suc j) h = r.is m j (omega arith)

rest_after : (is : List Item) (x : Ending) (n t : ℕ) (ts : Branches) → after is x n ≡ Next t (Fork ts) → SinceFork (λ m. after is x m) n ts
rest_after [] x zero t ts e = absurd (cc)
rest_after [] x (suc n) t ts e = absurd (cc)
rest_after (does s o ∷ is) x zero t ts e = absurd (cc)
rest_after (does s o ∷ is) x (suc n) t ts e = let r = rest_after is x n t ts e in record { rest = r.rest; is = each r }
  where
    each : (r : SinceFork (λ m. after is x m) n ts) (m j : ℕ) → j ≡ suc n + m → after (does s o ∷ is) x (suc j) ≡ after_fork 0 (length ts.tasks) r.rest m
    each r m zero h = absurd (omega arith)
    each r m (suc j) h = r.is m j (omega arith)
rest_after (forks s us ∷ is) x zero t ts e = record { rest = λ m. after is x m; is = each }
  where
    us_is : us ≡ ts
    us_is = cc

    each : (m j : ℕ) → j ≡ 0 + m → after_fork 0 (length us.tasks) (λ m. after is x m) j ≡ after_fork 0 (length ts.tasks) (λ m. after is x m) m
    each m j h = (let k : j ≡ m = omega arith in λ i. after_fork 0 (length (us_is i).tasks) (λ m. after is x m) (k i))
rest_after (forks s us ∷ is) x (suc n) t ts e = let r = rest_fork (λ m. after is x m) (λ m a b h. rest_after is x m a b h) 0
    (length us.tasks) n t ts e in record { rest = r.rest; is = each r }
  where
    each : (r : SinceFork (λ m. after_fork 0 (length us.tasks) (λ m. after is x m) m) n ts) (m j : ℕ) → j ≡ suc n + m
        → after (forks s us ∷ is) x (suc j) ≡ after_fork 0 (length ts.tasks) r.rest m
    each r m zero h = absurd (omega arith)
    each r m (suc j) h = r.is m j (omega arith)

pub script_disciplined : (bodies : List Body) (fields : List Value) (rule : Rule) → Disciplined (scripted bodies fields rule)
script_disciplined bodies fields rule = record {
  over = λ p t got x a e. over_after (items t) (ending t) (length got) e.0 x e.1;
  begins = λ p t got since ts k e n l. (
      let r = rest_after (items t) (ending t) (length got) e.0 ts e.1 in
      let j = length-append since got in (
        0,
        ap (λ m. after (items t) (ending t) m) (let z : length (since ++ got) ≡ suc (length got + k) = omega arith in z) ∙ r.is k (length got + k) refl
            ∙ begin_at r.rest 0 (length ts.tasks) k k l (omega arith),
      ));
  joins = λ p t got since ts e n. (
      let r = rest_after (items t) (ending t) (length got) e.0 ts e.1 in
      let j = length-append since got in (
        0,
        ap (λ m. after (items t) (ending t) m) (let z : length (since ++ got) ≡ suc (length got + length ts.tasks) = omega arith in z)
            ∙ r.is (length ts.tasks) (length got + length ts.tasks) refl ∙ join_at r.rest 0 (length ts.tasks),
      ));
}
  where
    items : Task → List Item
    items t = (body_of (slice_get bodies (number_of t))).items

    ending : Task → Ending
    ending t = (body_of (slice_get bodies (number_of t))).ending

-- it is known
known_fork : (rest : ℕ → Reply) → ((n : ℕ) → rest n ≡ Unknown → ⊥) → (b k n : ℕ) → after_fork b k rest n ≡ Unknown → ⊥
known_fork rest f b zero zero e = cc
known_fork rest f b zero (suc n) e = f n e
known_fork rest f b (suc k) zero e = cc
known_fork rest f b (suc k) (suc n) e = known_fork rest f (suc b) k n e

known_after : (is : List Item) (x : Ending) (n : ℕ) → after is x n ≡ Unknown → ⊥
known_after [] x zero e = cc
known_after [] x (suc n) e = cc
known_after (does t o ∷ is) x zero e = cc
known_after (does t o ∷ is) x (suc n) e = known_after is x n e
known_after (forks t ts ∷ is) x zero e = cc
known_after (forks t ts ∷ is) x (suc n) e = known_fork (λ m. after is x m) (known_after is x) 0 (length ts.tasks) n e

-- it starts, and goes on until its end
starts_after : (is : List Item) (x : Ending) → after is x 0 ≡ Over → ⊥
starts_after [] x e = cc
starts_after (does t o ∷ is) x e = cc
starts_after (forks t ts ∷ is) x e = cc

goes_fork : (rest : ℕ → Reply) → (rest 0 ≡ Over → ⊥) → ((n t : ℕ) (c : Action) → rest n ≡ Next t c → rest (suc n) ≡ Over → (y : Ending) × (c ≡ End y))
    → (b k n t : ℕ) (c : Action)
    → after_fork b k rest n ≡ Next t c → after_fork b k rest (suc n) ≡ Over → (y : Ending) × (c ≡ End y)
goes_fork rest s f b zero zero t c e h = absurd (s h)
goes_fork rest s f b zero (suc n) t c e h = f n t c e h
goes_fork rest s f b (suc zero) zero t c e h = absurd (cc)
goes_fork rest s f b (suc (suc k)) zero t c e h = absurd (cc)
goes_fork rest s f b (suc k) (suc n) t c e h = goes_fork rest s f (suc b) k n t c e h

fork_starts : (rest : ℕ → Reply) (b k : ℕ) → after_fork b k rest 0 ≡ Over → ⊥
fork_starts rest b zero e = cc
fork_starts rest b (suc k) e = cc

goes_after : (is : List Item) (x : Ending) (n t : ℕ) (c : Action) → after is x n ≡ Next t c → after is x (suc n) ≡ Over → (y : Ending) × (c ≡ End y)
goes_after [] x zero t c e h = let k : End x ≡ c = cc in (x, sym k)
goes_after [] x (suc n) t c e h = absurd (cc)
goes_after (does s o ∷ is) x zero t c e h = absurd (starts_after is x h)
goes_after (does s o ∷ is) x (suc n) t c e h = goes_after is x n t c e h
goes_after (forks s ts ∷ is) x zero t c e h = absurd (fork_starts (λ m. after is x m) 0 (length ts.tasks) h)
goes_after (forks s ts ∷ is) x (suc n) t c e h = goes_fork (λ m. after is x m) (starts_after is x) (λ m u d p q. goes_after is x m u d p q) 0
    (length ts.tasks) n t c e h

-- a join stands after its fork
record Forked (f : ℕ → Reply) (n : ℕ) : Type 0 where
  branches : Branches
  at : ℕ
  ticks : ℕ
  number : n ≡ suc (at + length branches.tasks)
  is : f at ≡ Next ticks (Fork branches)

join_fork : (rest : ℕ → Reply) (b k n t : ℕ) → after_fork b k rest n ≡ Next t Join → (n ≡ k) ⊎ ((m : ℕ) × (n ≡ suc (k + m)) × (rest m ≡ Next t Join))
join_fork rest b zero zero t e = inl refl
join_fork rest b zero (suc n) t e = inr (n, omega arith, e)
join_fork rest b (suc k) zero t e = absurd (cc)
join_fork rest b (suc k) (suc n) t e = ⊎_elim (λ h. inl (omega arith)) (λ h. (let i = h.1 in inr (h.0, omega arith, h.2))) (join_fork rest (suc b) k n t e)

past_fork : (rest : ℕ → Reply) (b k m j : ℕ) → j ≡ k + suc m → after_fork b k rest j ≡ rest m
past_fork rest b zero m zero h = absurd (omega arith)
past_fork rest b zero m (suc j) h = let i : j ≡ m = omega arith in ap rest i
past_fork rest b (suc k) m zero h = absurd (omega arith)
past_fork rest b (suc k) m (suc j) h = past_fork rest (suc b) k m j (omega arith)

join_after : (is : List Item) (x : Ending) (n t : ℕ) → after is x n ≡ Next t Join → Forked (λ m. after is x m) n
join_after [] x zero t e = absurd (cc)
join_after [] x (suc n) t e = absurd (cc)
join_after (does s o ∷ is) x zero t e = absurd (cc)
join_after (does s o ∷ is) x (suc n) t e =
    let r = join_after is x n t e in
    let i = r.number in
    record { branches = r.branches; at = suc r.at; ticks = r.ticks; number = omega arith; is = r.is }
join_after (forks s ts ∷ is) x zero t e = absurd (cc)
join_after (forks s ts ∷ is) x (suc n) t e = go (join_after is x) (join_fork (λ m. after is x m) 0 (length ts.tasks) n t e)
  where
    go : ((m u : ℕ) → after is x m ≡ Next u Join → Forked (λ m. after is x m) m) → (n ≡ length ts.tasks)
        ⊎ ((m : ℕ) × (n ≡ suc (length ts.tasks + m)) × (after is x m ≡ Next t Join)) → Forked (λ m. after (forks s ts ∷ is) x m) (suc n)
    go rec (inl h) = record { branches = ts; at = 0; ticks = s; number = omega arith; is = refl }
    go rec (inr h) =
        let r = rec h.0 t h.2 in
        let i = r.number in
        let j = h.1 in
        record {
          branches = r.branches;
          at = suc (suc (length ts.tasks + r.at));
          ticks = r.ticks;
          number = omega arith;
          is = past_fork (λ m. after is x m) 0 (length ts.tasks) r.at (suc (length ts.tasks + r.at)) (omega arith) ∙ r.is;
        }

-- a begin stands after its fork too
record Beginning (f : ℕ → Reply) (n b : ℕ) : Type 0 where
  branches : Branches
  at : ℕ
  ticks : ℕ
  number : n ≡ suc (at + b)
  there : b < length branches.tasks
  is : f at ≡ Next ticks (Fork branches)

begin_fork : (rest : ℕ → Reply) (b k n t c : ℕ) → after_fork b k rest n ≡ Next t (Begin c) → ((n < k) × (c ≡ b + n))
    ⊎ ((m : ℕ) × (n ≡ suc (k + m)) × (rest m ≡ Next t (Begin c)))
begin_fork rest b zero zero t c e = absurd (cc)
begin_fork rest b zero (suc n) t c e = inr (n, omega arith, e)
begin_fork rest b (suc k) zero t c e = let h : b ≡ c = cc in inl (omega arith, omega arith)
begin_fork rest b (suc k) (suc n) t c e = ⊎_elim (λ h. (let i = h.0 in let j = h.1 in inl (omega arith, omega arith)))
    (λ h. (let i = h.1 in inr (h.0, omega arith, h.2))) (begin_fork rest (suc b) k n t c e)

begin_after : (is : List Item) (x : Ending) (n t c : ℕ) → after is x n ≡ Next t (Begin c) → Beginning (λ m. after is x m) n c
begin_after [] x zero t c e = absurd (cc)
begin_after [] x (suc n) t c e = absurd (cc)
begin_after (does s o ∷ is) x zero t c e = absurd (cc)
begin_after (does s o ∷ is) x (suc n) t c e =
    let r = begin_after is x n t c e in
    let i = r.number in
    record { branches = r.branches; at = suc r.at; ticks = r.ticks; number = omega arith; there = r.there; is = r.is }
begin_after (forks s ts ∷ is) x zero t c e = absurd (cc)
begin_after (forks s ts ∷ is) x (suc n) t c e = go (begin_after is x) (begin_fork (λ m. after is x m) 0 (length ts.tasks) n t c e)
  where
    go : ((m u d : ℕ) → after is x m ≡ Next u (Begin d) → Beginning (λ m. after is x m) m d)
        → ((n < length ts.tasks) × (c ≡ 0 + n)) ⊎ ((m : ℕ) × (n ≡ suc (length ts.tasks + m)) × (after is x m ≡ Next t (Begin c)))
        → Beginning (λ m. after (forks s ts ∷ is) x m) (suc n) c
    go rec (inl h) = let i = h.0 in let j = h.1 in record { branches = ts; at = 0; ticks = s; number = omega arith; there = omega arith; is = refl }
    go rec (inr h) =
        let r = rec h.0 t c h.2 in
        let i = r.number in
        let j = h.1 in
        record {
          branches = r.branches;
          at = suc (suc (length ts.tasks + r.at));
          ticks = r.ticks;
          number = omega arith;
          there = r.there;
          is = past_fork (λ m. after is x m) 0 (length ts.tasks) r.at (suc (length ts.tasks + r.at)) (omega arith) ∙ r.is;
        }

-- a list is split after so many
record SplitAt (got : List Answer) (m : ℕ) : Type 0 where
  later_ones : List Answer
  earlier : List Answer
  is : got ≡ later_ones ++ earlier
  many : length earlier ≡ m

split_at : (got : List Answer) (m : ℕ) → m ≤ length got → SplitAt got m
split_at [] m l = record { later_ones = []; earlier = []; is = refl; many = omega arith }
split_at (a ∷ got) m l = ⊎_elim (λ h. (let r = split_at got m (omega arith) in
    record { later_ones = a ∷ r.later_ones; earlier = r.earlier; is = ap (λ l. a ∷ l) r.is; many = r.many }))
    (λ h. record { later_ones = []; earlier = a ∷ got; is = refl; many = omega arith }) (cases_lt m (length (a ∷ got)))

abbrev items_of : List Body → Task → List Item
items_of bodies t = (body_of (slice_get bodies (number_of t))).items

abbrev ending_of : List Body → Task → Ending
ending_of bodies t = (body_of (slice_get bodies (number_of t))).ending

forked : (bodies : List Body) (fields : List Value) (rule : Rule) (p : Path) (t : Task) (got : List Answer) (ts : Branches) (at ticks n : ℕ)
    → length got ≡ suc (at + n) → after (items_of bodies t) (ending_of bodies t) at ≡ Next ticks (Fork ts)
    → AfterFork (scripted bodies fields rule) p t got ts n
forked bodies fields rule p t got ts at ticks n num is = go (split_at got (suc at) (omega arith))
  where
    go : SplitAt got (suc at) → AfterFork (scripted bodies fields rule) p t got ts n
    go s = by s.earlier s.is s.many
      where
        by : (es : List Answer) → got ≡ s.later_ones ++ es → length es ≡ suc at → AfterFork (scripted bodies fields rule) p t got ts n
        by [] e m = absurd (omega arith)
        by (a ∷ es) e m =
            let j = ap length e in
            let k = length-append s.later_ones (a ∷ es) in
            let i : length es ≡ at = omega arith in
            record {
              since = s.later_ones;
              answer = a;
              earlier = es;
              is = e;
              number = omega arith;
              forks = (ticks, ap (λ q. after (items_of bodies t) (ending_of bodies t) q) i ∙ is);
            }

pub script_lively : (bodies : List Body) (fields : List Value) (rule : Rule) → Lively (scripted bodies fields rule)
script_lively bodies fields rule = record {
  known = λ p t got e. known_after (items_of bodies t) (ending_of bodies t) (length got) e;
  starts = λ p t e. starts_after (items_of bodies t) (ending_of bodies t) e;
  goes_on = λ p t got a c e h. goes_after (items_of bodies t) (ending_of bodies t) (length got) e.0 c e.1 h;
  joins_forked = λ p t got e. (
      let r = join_after (items_of bodies t) (ending_of bodies t) (length got) e.0 e.1 in
      (r.branches, forked bodies fields rule p t got r.branches r.at r.ticks (length r.branches.tasks) r.number r.is));
}

pub script_in_turn : (bodies : List Body) (fields : List Value) (rule : Rule) → InTurn (scripted bodies fields rule)
script_in_turn bodies fields rule = record {
  begins_forked = λ p t got b e. (
      let r = begin_after (items_of bodies t) (ending_of bodies t) (length got) e.0 b e.1 in
      (r.branches, r.there, forked bodies fields rule p t got r.branches r.at r.ticks b r.number r.is));
}
