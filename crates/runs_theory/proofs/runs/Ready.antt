-- Some task is ready: where a block is open, one of those in it; else one on the way down from the root.
use Rattle.std.proofs.Common.{◌≡◌, ℕ, zero, suc, ◌+◌, ◌-◌, ◌<◌, ◌≤◌, ◌⊎◌, inl, inr, ⊎_elim, List, [], ◌∷◌, ◌++◌, length, refl, sym, ap, ◌∙◌, subst, arith}
use Rattle.std.proofs.Common.{Some, slice_get, length-append}
use Rattle.runs_theory.specs.Actions.{Action, Answer, Asks, Begin, Branches, Do, End, Ending, Fork, Join, Next, Over, Own, Program, Reply, Task, Unknown, Went}
use Rattle.runs_theory.specs.Blocks.{In_block, Out_of, hold, hold_after}
use Rattle.runs_theory.specs.Meaning.{Disciplined, Lively}
use Rattle.runs_theory.specs.Objects.{Effect, Path}
use Rattle.runs_theory.specs.Runs.{Begun, Ended, Event, Faithful, Right, Run, Upto, answers, branch, count, joined, later, mine, now, reply, root}
use Rattle.runs_theory.specs.Standing.{Admitted, CanEnter, Inside, Outside, Standing, above, first_of, joined_by, standing}
use Rattle.runs_theory.proofs.events.Upto.{upto_trans, upto_length, upto_tail, upto_split, upto_none}
use Rattle.runs_theory.proofs.events.Mine.{path_cases, mine_at, found, same_of, number_of, numbered}
use Rattle.runs_theory.proofs.runs.Faithful.{some_same, fork_above, begin_after, none_after_end}
use Rattle.runs_theory.proofs.runs.Standing.{first_is, above_step, hold_since, opener_of}
use Rattle.runs_theory.proofs.runs.ForkSince.{fork_since, asked}
use Rattle.runs_theory.proofs.events.Carry.{has_event, begun_held}

is_end : (a : Action) → ((x : Ending) × (a ≡ End x)) ⊎ ((x : Ending) → a ≡ End x → ⊥)
is_end (End x) = inl (x, refl)
is_end (Do o) = inr (λ x e. cc)
is_end (Fork ts) = inr (λ x e. cc)
is_end (Begin b) = inr (λ x e. cc)
is_end Join = inr (λ x e. cc)

-- whether a task has ended
pub data HasEnded (R : Run) (p : Path) : Type 0 where
  it_has : (x : Ending) → Ended R p x → HasEnded R p
  it_has_not : ((x : Ending) → Ended R p x → ⊥) → HasEnded R p

pub has_ended : (R : Run) (p : Path) → HasEnded R p
has_ended [] p = it_has_not (λ x e. upto_none e.stands)
has_ended (e ∷ R) p = go (has_ended R p) (path_cases e.path p) (is_end e.act)
  where
    older : (x : Ending) → Ended R p x → Ended (e ∷ R) p x
    older x h = record { before = h.before; event = h.event; stands = later h.stands; path = h.path; act = h.act }

    never : ((x : Ending) → Ended R p x → ⊥) → ((x : Ending) → e.path ≡ p → e.act ≡ End x → ⊥) → (x : Ending) → Ended (e ∷ R) p x → ⊥
    never f n x h = ⊎_elim (λ q. n x (ap (λ z. z.path) (sym q.0) ∙ h.path) (ap (λ z. z.act) (sym q.0) ∙ h.act))
        (λ u. f x (record { before = h.before; event = h.event; stands = u; path = h.path; act = h.act })) (upto_split h.stands)

    go : HasEnded R p → (e.path ≡ p) ⊎ (e.path ≡ p → ⊥) → ((x : Ending) × (e.act ≡ End x)) ⊎ ((x : Ending) → e.act ≡ End x → ⊥) → HasEnded (e ∷ R) p
    go (it_has x h) a b = it_has x (older x h)
    go (it_has_not f) (inl k) (inl b) = it_has b.0 (record { before = R; event = e; stands = now; path = k; act = b.1 })
    go (it_has_not f) (inr k) b = it_has_not (never f (λ x q r. k q))
    go (it_has_not f) (inl k) (inr b) = it_has_not (never f (λ x q r. b x r))

-- the branches of a fork numbered n, from number b on: how each has ended, or one that has not
data Ends (R : Run) (p : Path) (n b : ℕ) (ts : List Task) : Type 0 where
  all_ended : (ends : List Ending) → length ends ≡ length ts → ((k : ℕ) (x : Ending) → slice_get ends k ≡ Some x → Ended R ((n, b + k) ∷ p) x) → Ends R p n b ts
  one_open : (k : ℕ) (t : Task) → k < length ts → slice_get ts k ≡ Some t → ((x : Ending) → Ended R ((n, b + k) ∷ p) x → ⊥) → Ends R p n b ts

ends_of : (R : Run) (p : Path) (n b : ℕ) (ts : List Task) → Ends R p n b ts
ends_of R p n b [] = all_ended [] refl (λ k x e. absurd (none_there k x e))
  where
    none_there : (k : ℕ) (x : Ending) → slice_get [] k ≡ Some x → ⊥
    none_there zero x e = cc
    none_there (suc k) x e = cc
ends_of R p n b (t ∷ ts) = go (has_ended R ((n, b) ∷ p)) (ends_of R p n (suc b) ts)
  where
    zero_is : b ≡ b + 0
    zero_is = omega arith

    suc_is : (k : ℕ) → suc b + k ≡ b + suc k
    suc_is k = omega arith

    go : HasEnded R ((n, b) ∷ p) → Ends R p n (suc b) ts → Ends R p n b (t ∷ ts)
    go (it_has_not f) r = one_open 0 t (omega arith) refl (λ x h. f x (subst (λ i. Ended R ((n, i) ∷ p) x) (sym zero_is) h))
    go (it_has x h) (one_open k s l g f) = one_open (suc k) s (omega arith) g (λ y e. f y (subst (λ i. Ended R ((n, i) ∷ p) y) (sym (suc_is k)) e))
    go (it_has x h) (all_ended ends l f) = all_ended (x ∷ ends) (omega arith) each
      where
        each : (k : ℕ) (y : Ending) → slice_get (x ∷ ends) k ≡ Some y → Ended R ((n, b + k) ∷ p) y
        each zero y e = subst (λ z. Ended R ((n, b + 0) ∷ p) z) (some_same x y e) (subst (λ i. Ended R ((n, i) ∷ p) x) zero_is h)
        each (suc k) y e = subst (λ i. Ended R ((n, i) ∷ p) y) (suc_is k) (f k y e)

module _ (P : Program) (D : Disciplined P) (V : Lively P) (R : Run) (l : Faithful P R)
    (known : (p : Path) (t : Task) → Begun P R p t → (o : Own) → Asks P p t (answers (mine R p)) (Do o) → (a : Answer) × (reply P R p o ≡ Some a)) where
  -- a task that has not ended has a next action
  next_action : (p : Path) (t : Task) → Begun P R p t → ((x : Ending) → Ended R p x → ⊥) → (a : Action) × Asks P p t (answers (mine R p)) a
  next_action p t b live = go (P.meaning p t (answers (mine R p))) refl
    where
      none : (L : Run) → mine R p ≡ L → P.meaning p t (answers L) ≡ Over → ⊥
      none [] e k = V.starts p t k
      none (w ∷ L) e k =
          let f = found R p (subst (λ m. Upto (w ∷ L) m) (sym e) now) in
          let k1 = subst (λ m. Asks P p t (answers m) w.act) f.mine_is (asked P R l p t b f.stands f.path) in
          let x = V.goes_on p t (answers L) w.ans w.act k1 k in
          live x.0 (record { before = f.before; event = w; stands = f.stands; path = f.path; act = x.1 })

      go : (r : Reply) → P.meaning p t (answers (mine R p)) ≡ r → (a : Action) × Asks P p t (answers (mine R p)) a
      go Over k = absurd (none (mine R p) refl k)
      go Unknown k = absurd (V.known p t (answers (mine R p)) k)
      go (Next n a) k = (a, (n, k))

  -- no block is open, or this task stands inside one
  data Free_or (p : Path) : Type 0 where
    no_block : ((q : Path) (F : List Effect) → standing R q ≡ Inside q F → ⊥) → Free_or p
    in_block : (o : Path) (F : List Effect) → standing R p ≡ Inside o F → Free_or p

  may_enter : (p : Path) (E : List Effect) → Free_or p → CanEnter P.rule R p E
  may_enter p E (no_block f) = record { clear = λ s q F h. absurd (f q F h) }
  may_enter p E (in_block o F k) = record { clear = λ s q G h. absurd (let z : Inside o F ≡ Outside = sym k ∙ s in cc) }

  -- an action that a task asks for, rightly answered, is ready, where an entry may come
  make : (p : Path) (t : Task) (c : Action) (a : Answer) → Begun P R p t → Asks P p t (answers (mine R p)) c → Right P R p c a
      → ((E : List Effect) → CanEnter P.rule R p E) → (e : Event) × (e.path ≡ p) × Admitted P R e
  make p t c a b k r may = (
    record { path = p; ticks = k.0; act = c; ans = a },
    refl,
    record { follows = record { task = t; begun = b; asks = k.1; right = r }; enters = λ E i. may E },
  )

  -- the fork in front of whose join a task stands
  pub record AtJoin (p : Path) (t : Task) : Type 0 where
    pub since : Run
    pub fork : Event
    pub before : Run
    pub stands : Upto (fork ∷ before) R
    pub path : fork.path ≡ p
    pub last : mine R p ≡ since ++ fork ∷ mine before p
    pub tasks : Branches
    pub act : fork.act ≡ Fork tasks
    pub many : length since ≡ length tasks.tasks

  at_join : (p : Path) (t : Task) → Begun P R p t → Asks P p t (answers (mine R p)) Join → AtJoin p t
  at_join p t b k =
      let j = V.joins_forked p t (answers (mine R p)) k in
      let f = fork_since P R l p t j.0 (length j.0.tasks) b j.1 in
      record { since = f.since; fork = f.fork; before = f.before; stands = f.stands; path = f.path; last = f.last; tasks = j.0; act = f.act; many = f.many }

  -- the number of a task's events at its join
  events_at_join : (p : Path) (t : Task) (j : AtJoin p t) → count R p ≡ suc (count j.before p + length j.tasks.tasks)
  events_at_join p t j = let a = ap length j.last in let b = length-append j.since (j.fork ∷ mine j.before p) in let c = j.many in omega arith

  -- what a branch of that fork stands in is what its parent stands in
  child_stands : (p : Path) (t : Task) (j : AtJoin p t) (u : ℕ × ℕ) → u.0 ≡ count j.before p → above R (u ∷ p) ≡ standing R p
  child_stands p t j u n = above_step R u p ∙ ap (λ h. joined_by (above R p) p h) (ap hold firsts ∙ sym same)
    where
      since : Upto (j.fork ∷ mine j.before p) (mine R p)
      since = mine_at p j.stands j.path

      firsts : first_of u.0 (mine R p) ≡ mine j.before p
      firsts = subst (λ k. first_of k (mine R p) ≡ mine j.before p) (sym n) (first_is (upto_tail since))

      begins : (X : Run) (x : Event) → Upto (x ∷ X) (mine R p) → length (j.fork ∷ mine j.before p) ≤ length X → (b : ℕ) × (x.act ≡ Begin b)
      begins X x h m =
          let w = found R p h in
          let wn = ap length w.mine_is in
          let s = upto_length h in
          let z = events_at_join p t j in (
            count w.before p - suc (count j.before p),
            begin_after P D p j.tasks
                (count w.before p - suc (count j.before p)) l j.stands j.path j.act w.stands w.path (omega (arith, wn, m)) (omega (arith, wn, m, s, z)),
          )

      same : hold (mine R p) ≡ hold (mine j.before p)
      same = hold_since since begins ∙ ap (λ c. hold_after c (hold (mine j.before p))) j.act

  pair : (u : ℕ × ℕ) (n k : ℕ) → n ≡ u.0 → k ≡ u.1 → (n, k) ≡ u
  pair u n k a b = λ i. (a i, b i)

  -- a task that has not ended is ready, or a branch in front of whose join it stands has not ended
  pub ready_or : (Q : Type 0) (p : Path) (t : Task) → Begun P R p t → ((x : Ending) → Ended R p x → ⊥) → ((E : List Effect) → CanEnter P.rule R p E)
      → ((e : Event) → e.path ≡ p → Admitted P R e → Q)
      → ((j : AtJoin p t) (i : ℕ) (s : Task) → Begun P R ((count j.before p, 0 + i) ∷ p) s → ((x : Ending) → Ended R ((count j.before p, 0 + i) ∷ p) x → ⊥)
      → Q) → Q
  ready_or Q p t b live may done down = let x = next_action p t b live in at_act x.0 x.1
    where
      ready : (e : Event) × (e.path ≡ p) × Admitted P R e → Q
      ready z = done z.0 z.1 z.2

      at_join_of : (j : AtJoin p t) → Asks P p t (answers (mine R p)) Join → Ends R p (count j.before p) 0 j.tasks.tasks → Q
      at_join_of j e (all_ended ends n f) =
          ready (make p t Join (joined ends) b e
          (record {
            before = j.before;
            fork = j.fork;
            stands = j.stands;
            path = j.path;
            since = j.since;
            last = j.last;
            tasks = j.tasks;
            act = j.act;
            all_begun = j.many;
            ends = ends;
            each = n;
            ended = λ u x a g. subst (λ v. Ended R (v ∷ p) x) (pair u (count j.before p) (0 + u.1) (sym a) (omega arith)) (f u.1 x g);
            answer = refl;
          })
          may)
      at_join_of j e (one_open i s n g f) =
          let z = events_at_join p t j in
          let w = numbered R p (suc (count j.before p + (0 + i))) (omega arith) in
          let wb = begin_after P D p j.tasks (0 + i) l j.stands j.path j.act w.2 w.3 w.4 (omega arith) in
          let there : slice_get j.tasks.tasks (0 + i) ≡ Some s = subst (λ k. slice_get j.tasks.tasks k ≡ Some s) (omega arith) g in
          down j i s (branch p (count j.before p, 0 + i) j.before j.fork j.tasks w.1 w.0 refl j.stands j.path refl j.act there w.2 w.3 wb w.4) f

      at_act : (a : Action) → Asks P p t (answers (mine R p)) a → Q
      at_act (Do o) e = let z = known p t b o e in ready (make p t (Do o) z.0 b e z.1 may)
      at_act (Fork ts) e = ready (make p t (Fork ts) Went b e refl may)
      at_act (Begin i) e = ready (make p t (Begin i) Went b e refl may)
      at_act (End x) e = ready (make p t (End x) Went b e refl may)
      at_act Join e = let j = at_join p t b e in at_join_of j e (ends_of R p (count j.before p) 0 j.tasks.tasks)

  -- from a task that has not ended down to one that is ready; each fork on the way stands further after in the run
  descend : (n : ℕ) (p : Path) (t : Task) → Begun P R p t → ((x : Ending) → Ended R p x → ⊥) → Free_or p → (k : ℕ)
      → ((W : Run) (w : Event) → Upto (w ∷ W) R → w.path ≡ p → k ≤ length W) → length R ≤ n + k → (e : Event) × Admitted P R e
  descend zero p t b live fr k low fuel = ready_or ((e : Event) × Admitted P R e) p t b live (λ E. may_enter p E fr) (λ e q a. (e, a))
      (λ j i s c f. (let a = low j.before j.fork j.stands j.path in let d = upto_length j.stands in absurd (omega arith)))
  descend (suc n) p t b live fr k low fuel = ready_or ((e : Event) × Admitted P R e) p t b live (λ E. may_enter p E fr) (λ e q a. (e, a))
      (λ j i s c f. descend n ((count j.before p, 0 + i) ∷ p) s c f (child_free j i fr) (suc (length j.before)) (child_low j i)
      (let a = low j.before j.fork j.stands j.path in omega arith))
    where
      child_free : (j : AtJoin p t) (i : ℕ) → Free_or p → Free_or ((count j.before p, 0 + i) ∷ p)
      child_free j i (no_block f) = no_block f
      child_free j i (in_block o F h) = in_block o F (ap (λ s. joined_by s ((count j.before p, 0 + i) ∷ p) (hold (mine R ((count j.before p, 0 + i) ∷ p))))
          (child_stands p t j (count j.before p, 0 + i) refl ∙ h))

      child_low : (j : AtJoin p t) (i : ℕ) (W : Run) (w : Event) → Upto (w ∷ W) R → w.path ≡ (count j.before p, 0 + i) ∷ p → suc (length j.before) ≤ length W
      child_low j i W w hw e =
          let f = fork_above P D [] p (count j.before p, 0 + i) l hw e in
          let o = same_of p (upto_trans f.stands (upto_tail hw)) j.stands f.path j.path f.number in
          let a = upto_length f.stands in
          let c = ap (λ Z. length Z) o.1 in
          omega arith

  -- an opener has not ended
  pub held_live : (q : Path) (n : ℕ) (F : List Effect) → hold (mine R q) ≡ In_block n F → (x : Ending) → Ended R q x → ⊥
  held_live q n F h x g =
      let y = has_event (mine R q) n F h in
      let f = found R q (subst (λ m. Upto (y.0 ∷ y.1) m) (sym y.2) now) in
      let a = none_after_end P D q l g.stands g.path g.act f.stands f.path in
      let b = number_of q g.stands g.path in
      let c = ap length y.2 in
      let d = ap length f.mine_is in
      let o = same_of q g.stands f.stands g.path f.path (omega arith) in
      let ya : y.0.act ≡ End x = ap (λ z. z.act) (sym o.0) ∙ g.act in
      let z : Out_of ≡ In_block n F = sym (ap (λ c. hold_after c (hold y.1)) ya) ∙ sym (ap hold y.2) ∙ h in
      absurd (cc)

  scan : (L : Run) → ((q : Path) × (F : List Effect) × (standing R q ≡ Inside q F))
      ⊎ ((w : Event) (W : Run) → Upto (w ∷ W) L → (F : List Effect) → standing R w.path ≡ Inside w.path F → ⊥)
  scan [] = inr (λ w W h F k. upto_none h)
  scan (e ∷ L) = ⊎_elim (λ f. inl f) (λ f. here f (standing R e.path) refl) (scan L)
    where
      more : ((w : Event) (W : Run) → Upto (w ∷ W) L → (F : List Effect) → standing R w.path ≡ Inside w.path F → ⊥)
          → ((F : List Effect) → standing R e.path ≡ Inside e.path F → ⊥) → (w : Event) (W : Run) → Upto (w ∷ W) (e ∷ L) → (F : List Effect)
          → standing R w.path ≡ Inside w.path F → ⊥
      more f n w W h F k = ⊎_elim (λ q. n F (subst (λ (z : Event). standing R z.path ≡ Inside z.path F) q.0 k)) (λ u. f w W u F k) (upto_split h)

      here : ((w : Event) (W : Run) → Upto (w ∷ W) L → (F : List Effect) → standing R w.path ≡ Inside w.path F → ⊥) → (h : Standing) → standing R e.path ≡ h
          → ((q : Path) × (F : List Effect) × (standing R q ≡ Inside q F))
          ⊎ ((w : Event) (W : Run) → Upto (w ∷ W) (e ∷ L) → (F : List Effect) → standing R w.path ≡ Inside w.path F → ⊥)
      here f Outside k = inr (more f (λ F z. (let c : Outside ≡ Inside e.path F = sym k ∙ z in cc)))
      here f (Inside o E) k = ⊎_elim (λ p. inl (e.path, E, k ∙ ap (λ q. Inside q E) p))
          (λ n. inr (more f (λ F z. (let c : Inside o E ≡ Inside e.path F = sym k ∙ z in n (opener_same o e.path E F c))))) (path_cases o e.path)
        where
          opener_same : (p q : Path) (E F : List Effect) → Inside p E ≡ Inside q F → p ≡ q
          opener_same p q E F k = cc

  pub some_ready : ((x : Ending) → Ended R [] x → ⊥) → (e : Event) × Admitted P R e
  some_ready live = ⊎_elim in_it outside (scan R)
    where
      in_it : (q : Path) × (F : List Effect) × (standing R q ≡ Inside q F) → (e : Event) × Admitted P R e
      in_it x =
          let o = opener_of R x.0 x.1 x.2 in
          let b = begun_held P R x.0 o.depth x.1 l o.held in
          descend (length R) x.0 b.0 b.1 (held_live x.0 o.depth x.1 o.held) (in_block x.0 x.1 x.2) 0 (λ W w h e. omega arith) (omega arith)

      outside : ((w : Event) (W : Run) → Upto (w ∷ W) R → (F : List Effect) → standing R w.path ≡ Inside w.path F → ⊥) → (e : Event) × Admitted P R e
      outside f = descend (length R) [] P.root (root refl refl) live (no_block none) 0 (λ W w h e. omega arith) (omega arith)
        where
          none : (q : Path) (F : List Effect) → standing R q ≡ Inside q F → ⊥
          none q F h =
              let o = opener_of R q F h in
              let y = has_event (mine R q) o.depth F o.held in
              let w = found R q (subst (λ m. Upto (y.0 ∷ y.1) m) (sym y.2) now) in
              f y.0 w.before w.stands F (subst (λ r. standing R r ≡ Inside r F) (sym w.path) h)
