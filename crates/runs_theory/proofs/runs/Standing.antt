-- Where a task stands: what of it is fixed by the forks above it, and that a block stays open as long as a task in it goes on.
use Rattle.std.proofs.Common.{◌≡◌, ℕ, suc, ◌+◌, ◌-◌, ◌<◌, ◌≤◌, ◌⊎◌, inl, inr, List, [], ◌∷◌, ◌++◌, length, refl, sym, ap, ◌∙◌, subst, arith, nat_lt}
use Rattle.std.proofs.Common.{append_assoc}
use Rattle.std.proofs.lemmas.Bool.{cond-true, cond-false, cases_lt, lt-ltb, ltb-true, false_from_ne_true}
use Rattle.runs_theory.specs.Actions.{Begin, Join, Program, Task}
use Rattle.runs_theory.specs.Blocks.{Hold, In_block, Out_of, hold, hold_after}
use Rattle.runs_theory.specs.Meaning.{Disciplined}
use Rattle.runs_theory.specs.Objects.{Effect, Path}
use Rattle.runs_theory.specs.Runs.{Begun, Event, Faithful, Run, Upto, branch, count, later, mine, now, root}
use Rattle.runs_theory.specs.Standing.{Inside, Outside, Standing, above, first_of, joined_by, standing}
use Rattle.runs_theory.proofs.events.Upto.{upto_trans, upto_length, upto_tail}
use Rattle.runs_theory.proofs.events.Mine.{mine_at, Found, found, numbered}
use Rattle.runs_theory.proofs.events.Places.{not_below_self}
use Rattle.runs_theory.proofs.runs.Faithful.{begun_upto, follows_at, ForkAt, fork_upto, fork_above, own_fork, begin_after, join_after, JoinAt}
use Rattle.runs_theory.proofs.order.Between.{in_join}

first_step : (n : ℕ) (x : Event) (xs : Run) → n ≤ length xs → first_of n (x ∷ xs) ≡ first_of n xs
unfolding first_of
first_step n x xs l = cond-false (nat_lt (length xs) n) _ _ (false_from_ne_true _ (λ t. (let k = ltb-true (length xs) n t in absurd (omega arith))))

first_all : (es : Run) → first_of (length es) es ≡ es
unfolding first_of
first_all [] = refl
first_all (x ∷ xs) = cond-true (nat_lt (length xs) (length (x ∷ xs))) _ _ (lt-ltb (length xs) (length (x ∷ xs)) (omega arith))

-- the first events, of which there are as many
pub first_is : {es L : Run} → Upto es L → first_of (length es) L ≡ es
first_is {es} now = first_all es
first_is {es} (later {y = y} {ys = ys} h) = first_step (length es) y ys (upto_length h) ∙ first_is h

pub above_nil : (R : Run) → above R [] ≡ Outside
unfolding above
above_nil R = refl

pub above_step : (R : Run) (u : ℕ × ℕ) (q : Path) → above R (u ∷ q) ≡ joined_by (above R q) q (hold (first_of u.0 (mine R q)))
unfolding above
above_step R u q = refl

-- with the same events of each task
pub above_mine : (G R : Run) → ((p : Path) → mine G p ≡ mine R p) → (p : Path) → above G p ≡ above R p
above_mine G R h [] = above_nil G ∙ sym (above_nil R)
above_mine G R h (u ∷ q) = above_step G u q ∙ ap (λ s. joined_by s q (hold (first_of u.0 (mine G q)))) (above_mine G R h q)
    ∙ ap (λ l. joined_by (above R q) q (hold (first_of u.0 l))) (h q) ∙ sym (above_step R u q)

-- each task has in the one run the events of the other, and maybe more
pub record Grows (T S : Run) : Type 0 where
  pub each : (p : Path) → Upto (mine T p) (mine S p)

-- where the block in which a task was begun is that of this opener
pub record Adopted (R : Run) (p o : Path) (E : List Effect) : Type 0 where
  pub below : Path
  pub fork : ℕ × ℕ
  pub path : p ≡ below ++ fork ∷ o
  pub outside : above R o ≡ Outside
  pub depth : ℕ
  pub held : hold (first_of fork.0 (mine R o)) ≡ In_block depth E

-- how a standing comes about
pub data Joined_by (s : Standing) (p : Path) (h : Hold) (o : Path) (E : List Effect) : Type 0 where
  from_above : s ≡ Inside o E → Joined_by s p h o E
  own : (n : ℕ) → s ≡ Outside → p ≡ o → h ≡ In_block n E → Joined_by s p h o E

pub joined_cases : (s : Standing) (p : Path) (h : Hold) (o : Path) (E : List Effect) → joined_by s p h ≡ Inside o E → Joined_by s p h o E
joined_cases (Inside o' E') p h o E e = from_above e
joined_cases Outside p Out_of o E e = absurd (cc)
joined_cases Outside p (In_block n E') o E e = let a : p ≡ o = cc in let b : E' ≡ E = cc in own n refl a (ap (λ x. In_block n x) b)

pub adopted : (R : Run) (p o : Path) (E : List Effect) → above R p ≡ Inside o E → Adopted R p o E
adopted R [] o E e = absurd (let k : Outside ≡ Inside o E = sym (above_nil R) ∙ e in cc)
adopted R (u ∷ q) o E e = go (adopted R q o E) (joined_cases (above R q) q (hold (first_of u.0 (mine R q))) o E (sym (above_step R u q) ∙ e))
  where
    go : (above R q ≡ Inside o E → Adopted R q o E) → Joined_by (above R q) q (hold (first_of u.0 (mine R q))) o E → Adopted R (u ∷ q) o E
    go rec (from_above k) = let a = rec k in record {
      below = u ∷ a.below;
      fork = a.fork;
      path = ap (λ l. u ∷ l) a.path;
      outside = a.outside;
      depth = a.depth;
      held = a.held;
    }
    go rec (own n k s h) = record {
      below = [];
      fork = u;
      path = ap (λ l. u ∷ l) s;
      outside = subst (λ r. above R r ≡ Outside) s k;
      depth = n;
      held = subst (λ r. hold (first_of u.0 (mine R r)) ≡ In_block n E) s h;
    }

-- who stands in a block of its own was begun in none, and has entries open
pub record Opener (R : Run) (q : Path) (F : List Effect) : Type 0 where
  pub outside : above R q ≡ Outside
  pub depth : ℕ
  pub held : hold (mine R q) ≡ In_block depth F

pub opener_of : (R : Run) (q : Path) (F : List Effect) → standing R q ≡ Inside q F → Opener R q F
opener_of R q F e = go (joined_cases (above R q) q (hold (mine R q)) q F e)
  where
    go : Joined_by (above R q) q (hold (mine R q)) q F → Opener R q F
    go (own n k s h) = record { outside = k; depth = n; held = h }
    go (from_above k) = let a = adopted R q q F k in absurd (not_below_self q a.below a.fork a.path)

pub opener_stands : (R : Run) (q : Path) (F : List Effect) (n : ℕ) → above R q ≡ Outside → hold (mine R q) ≡ In_block n F → standing R q ≡ Inside q F
opener_stands R q F n a h = ap (λ s. joined_by s q (hold (mine R q))) a ∙ ap (λ k. joined_by Outside q k) h

pub stands_outside : (R : Run) (q : Path) → above R q ≡ Outside → hold (mine R q) ≡ Out_of → standing R q ≡ Outside
stands_outside R q a h = ap (λ s. joined_by s q (hold (mine R q))) a ∙ ap (λ k. joined_by Outside q k) h

-- begins change nothing of it
pub hold_since : {es L : Run} → Upto es L → ((X : Run) (x : Event) → Upto (x ∷ X) L → length es ≤ length X → (b : ℕ) × (x.act ≡ Begin b)) → hold L ≡ hold es
hold_since now f = refl
hold_since {es} (later {y = y} {ys = ys} h) f =
    let a = f ys y now (upto_length h) in
    ap (λ c. hold_after c (hold ys)) a.1 ∙ hold_since h (λ X x u l. f X x (later u) l)

module _ (P : Program) where
  -- what is above a task that has begun is the same in each run that has at least its events
  pub above_same : {T S : Run} {t : Task} → Faithful P T → Grows T S → (p : Path) → Begun P T p t → above T p ≡ above S p
  above_same {T} {S} {t} l h [] b = above_nil T ∙ sym (above_nil S)
  above_same {T} {S} {t} l h (u ∷ q) b = go b (λ s k. above_same {t = s} l h q k)
    where
      go : {t : Task} → Begun P T (u ∷ q) t → ((s : Task) → Begun P T q s → above T q ≡ above S q) → above T (u ∷ q) ≡ above S (u ∷ q)
      go (root a c) rec = absurd (cc)
      go (branch q' u' F f ts B k1 a b c d e g b1 c1 e1 d1) rec =
          let uu : u ≡ u' = cc in
          let qq : q ≡ q' = cc in
          let fq : f.path ≡ q = c ∙ sym qq in
          let m = mine_at q b fq in
          let n : length (mine F q) ≡ u.0 = ap (λ r. count F r) qq ∙ d ∙ ap (λ w. w.0) (sym uu) in
          let mt : first_of u.0 (mine T q) ≡ mine F q = subst (λ k. first_of k (mine T q) ≡ mine F q) n (first_is (upto_tail m)) in
          let ms : first_of u.0 (mine S q) ≡ mine F q = subst (λ k. first_of k (mine S q) ≡ mine F q) n (first_is (upto_trans (upto_tail m) (h.each q))) in
          let al = follows_at P b l in
          let r = rec al.task (begun_upto (upto_tail b) (subst (λ r. Begun P F r al.task) fq al.begun)) in
          above_step T u q ∙ ap (λ s. joined_by s q (hold (first_of u.0 (mine T q)))) r ∙ ap (λ l. joined_by (above S q) q (hold l)) (mt ∙ sym ms)
          ∙ sym (above_step S u q)

  module _ (D : Disciplined P) where
    -- since a fork of a task below which another goes on, it has begun branches and nothing else
    pub only_begins_so : {y : Event} {Y : Run} (xs a : Path) (u : ℕ × ℕ) → Faithful P (y ∷ Y) → y.path ≡ xs ++ u ∷ a → (X : Run) (x : Event)
        → Upto (x ∷ X) (mine Y a) → u.0 < length X → x.act ≡ Begin (length X - suc u.0)
    only_begins_so {y} {Y} xs a u l e X x h n = go (cases_lt (length X) (suc (u.0 + length f.tasks.tasks)))
      where
        f : ForkAt Y a u
        f = fork_above P D xs a u l now e

        w : Found Y a x X
        w = found Y a h

        fn : count f.before a ≡ u.0
        fn = f.number

        wn : count w.before a ≡ length X
        wn = ap length w.mine_is

        go : (length X < suc (u.0 + length f.tasks.tasks)) ⊎ (suc (u.0 + length f.tasks.tasks) ≤ length X) → x.act ≡ Begin (length X - suc u.0)
        go (inl lt) = begin_after P D a f.tasks (length X - suc u.0) l.1 f.stands f.path f.act w.stands w.path (omega (arith, fn, wn, n))
            (omega (arith, fn, n, lt))
        go (inr ge) =
            let s = upto_length h in
            let z = numbered Y a (suc (u.0 + length f.tasks.tasks)) (omega arith) in
            let zn = z.4 in
            let k : z.0.act ≡ Join = join_after P D a f.tasks l.1 f.stands f.path f.act z.2 z.3 (omega (arith, fn, zn)) in
            let j : JoinAt P D (y ∷ Y) a (count f.before a) (length f.tasks.tasks) =
            record { before = z.1; event = z.0; stands = later z.2; path = z.3; number = omega (arith, fn, zn); act = k } in
            let i = upto_length (in_join P D xs a u f.tasks f.task l (later f.stands) f.path f.act (sym f.number) f.is_there j now e) in
            let d = upto_length z.2 in
            absurd (omega arith)

    pub only_begins : {y : Event} {Y : Run} (xs a : Path) (u : ℕ × ℕ) → Faithful P (y ∷ Y) → y.path ≡ xs ++ u ∷ a → (X : Run) (x : Event)
        → Upto (x ∷ X) (mine Y a) → u.0 < length X → (b : ℕ) × (x.act ≡ Begin b)
    only_begins xs a u l e X x h n = (length X - suc u.0, only_begins_so xs a u l e X x h n)

    pub waits : {y : Event} {Y : Run} (xs a : Path) (u : ℕ × ℕ) → Faithful P (y ∷ Y) → y.path ≡ xs ++ u ∷ a → hold (mine Y a) ≡ hold (first_of u.0 (mine Y a))
    waits {y} {Y} xs a u l e = hold_since since (λ X x h n. only_begins xs a u l e X x h (let fn = f.number in omega arith))
        ∙ ap (λ c. hold_after c (hold (mine f.before a))) f.act ∙ ap hold (sym firsts)
      where
        f : ForkAt Y a u
        f = fork_above P D xs a u l now e

        since : Upto (f.event ∷ mine f.before a) (mine Y a)
        since = mine_at a f.stands f.path

        firsts : first_of u.0 (mine Y a) ≡ mine f.before a
        firsts = subst (λ k. first_of k (mine Y a) ≡ mine f.before a) f.number (first_is (upto_tail since))

    -- where a task that goes on stands
    pub record Stands (R : Run) (p o : Path) (E : List Effect) : Type 0 where
      pub below : Path
      pub path : p ≡ below ++ o
      pub outside : above R o ≡ Outside
      pub depth : ℕ
      pub held : hold (mine R o) ≡ In_block depth E

    pub stands : {e : Event} {R : Run} (o : Path) (E : List Effect) → Faithful P (e ∷ R) → standing R e.path ≡ Inside o E → Stands R e.path o E
    stands {e} {R} o E l s = go (joined_cases (above R e.path) e.path (hold (mine R e.path)) o E s)
      where
        go : Joined_by (above R e.path) e.path (hold (mine R e.path)) o E → Stands R e.path o E
        go (own n k p h) = record {
          below = [];
          path = p;
          outside = subst (λ r. above R r ≡ Outside) p k;
          depth = n;
          held = subst (λ r. hold (mine R r) ≡ In_block n E) p h;
        }
        go (from_above k) =
            let a = adopted R e.path o E k in
            record {
              below = a.below ++ a.fork ∷ [];
              path = a.path ∙ sym (append_assoc a.below (a.fork ∷ []) o);
              outside = a.outside;
              depth = a.depth;
              held = waits a.below o a.fork l a.path ∙ a.held;
            }

-- who stands outside was begun outside
pub outside_above : (s : Standing) (p : Path) (h : Hold) → joined_by s p h ≡ Outside → s ≡ Outside
outside_above Outside p h e = refl
outside_above (Inside o E) p h e = absurd (cc)

pub outside_held : (p : Path) (h : Hold) → joined_by Outside p h ≡ Outside → h ≡ Out_of
outside_held p Out_of e = refl
outside_held p (In_block n E) e = absurd (cc)

-- and each task above it was in no block of its own at the fork
pub above_out : (R : Run) (xs a : Path) (w : ℕ × ℕ) → above R (xs ++ w ∷ a) ≡ Outside → hold (first_of w.0 (mine R a)) ≡ Out_of
above_out R [] a w e =
    let k = sym (above_step R w a) ∙ e in
    outside_held a _ (ap (λ s. joined_by s a (hold (first_of w.0 (mine R a)))) (sym (outside_above _ _ _ k)) ∙ k)
above_out R (x ∷ xs) a w e = above_out R xs a w (outside_above _ _ _ (sym (above_step R x (xs ++ w ∷ a)) ∙ e))

module _ (P : Program) (D : Disciplined P) where
  -- the fork above a task that has begun
  pub begun_fork : {S : Run} {t : Task} (xs p q : Path) (u : ℕ × ℕ) → Faithful P S → Begun P S p t → p ≡ xs ++ u ∷ q → ForkAt S q u
  begun_fork {S} {t} xs p q u l (root a b) e = absurd (none xs (sym a ∙ e))
    where
      none : (xs : Path) → [] ≡ xs ++ u ∷ q → ⊥
      none [] k = cc
      none (x ∷ xs) k = cc
  begun_fork {S} {t} [] p q u l (branch q' u' F f ts B k1 a b c d g h b1 c1 e1 d1) e =
      own_fork P D p q u (branch q' u' F f ts B k1 a b c d g h b1 c1 e1 d1) e
  begun_fork {S} {t} (x ∷ xs) p q u l (branch q' u' F f ts B k1 a b c d g h b1 c1 e1 d1) e =
      let k : x ∷ (xs ++ u ∷ q) ≡ u' ∷ q' = sym e ∙ a in
      let qq : q' ≡ xs ++ u ∷ q = cc in
      fork_upto (upto_tail b) (fork_above P D xs q u l b (c ∙ qq))

  -- as long as a task goes on, those above it have made begins alone since the fork, in each run that has the fork and no more
  -- events than this one
  pub waits_in : {y : Event} {Y S : Run} {t : Task} (xs a : Path) (u : ℕ × ℕ) → Faithful P (y ∷ Y) → y.path ≡ xs ++ u ∷ a → Faithful P S → Grows S Y
      → Begun P S y.path t → hold (mine S a) ≡ hold (first_of u.0 (mine S a))
  waits_in {y} {Y} {S} xs a u l e ls grows b = hold_since since
      (λ X x h n. only_begins P D xs a u l e X x (upto_trans h (grows.each a)) (let fn = f.number in omega arith))
      ∙ ap (λ c. hold_after c (hold (mine f.before a))) f.act ∙ ap hold (sym firsts)
    where
      f : ForkAt S a u
      f = begun_fork xs y.path a u ls b e

      since : Upto (f.event ∷ mine f.before a) (mine S a)
      since = mine_at a f.stands f.path

      firsts : first_of u.0 (mine S a) ≡ mine f.before a
      firsts = subst (λ k. first_of k (mine S a) ≡ mine f.before a) f.number (first_is (upto_tail since))
