-- Between two legal runs that agree so far: what has ended in the one is complete there.
use Rattle.std.proofs.Common.{◌≡◌, ℕ, ◌<◌, ◌≤◌, ◌⊎◌, inl, inr, ⊎_elim, [], ◌∷◌, ◌++◌, length, refl, sym, ap, ◌∙◌, subst, arith, Some, slice_get}
use Rattle.std.proofs.lemmas.Bool.{cases_order, cases_lt}
use Rattle.runs_theory.specs.Actions.{Action, Begin, Branches, End, Ending, Fork, Join, Program, Task}
use Rattle.runs_theory.specs.Meaning.{Disciplined}
use Rattle.runs_theory.specs.Objects.{Path}
use Rattle.runs_theory.specs.Order.{Agree, Before, IsPlain, Passes, Related, above_fork, across, below_join, first, in_task, neither, one, second}
use Rattle.runs_theory.specs.Runs.{Ended, Event, Faithful, Run, Upto, count, mine}
use Rattle.runs_theory.proofs.events.Upto.{upto_trans, upto_length, upto_tail, which, Which, same_one, before, after}
use Rattle.runs_theory.proofs.events.Mine.{mine_upto, Found, earlier_of, same_of, number_of}
use Rattle.runs_theory.proofs.events.Places.{Place, equal, under, over, left_of, right_of, beside, place}
use Rattle.runs_theory.proofs.runs.Faithful.{plain_no_fork, plain_no_join, ForkAt, fork_upto, ended_upto, carry, faithful_upto, none_after_end, fork_above, JoinAt}
use Rattle.runs_theory.proofs.runs.Faithful.{join_upto, joined_before, branch_ended}

pub agree_back : {R S : Run} → Agree R S → Agree S R
agree_back ag = record { both = λ p. ⊎_elim inr inl (ag.both p) }

-- the first event is not after the second
not_both : {x y : Event} {X Y : Run} → Upto (x ∷ X) Y → Upto (y ∷ Y) X → ⊥
not_both h k = let a = upto_length h in let b = upto_length k in absurd (omega arith)

module _ (P : Program) (D : Disciplined P) where
  pub end_passes : (a : Action) (x : Ending) → a ≡ End x → Passes a
  end_passes a x e = record { not_join = λ k. (let z : End x ≡ Join = sym e ∙ k in cc); not_begin = λ b k. (let z : End x ≡ Begin b = sym e ∙ k in cc) }

  pub fork_passes : (a : Action) (ts : Branches) → a ≡ Fork ts → Passes a
  fork_passes a ts e = record { not_join = λ k. (let z : Fork ts ≡ Join = sym e ∙ k in cc); not_begin = λ b k. (let z : Fork ts ≡ Begin b = sym e ∙ k in cc) }

  pub plain_passes : (a : Action) → IsPlain a → Passes a
  plain_passes a h = record { not_join = plain_no_join a h; not_begin = λ b k. subst IsPlain k h }

  -- a task that has ended in the one run has made no more events in the other
  pub ended_longer : {R S W : Run} {w : Event} {x : Ending} (q : Path) → Faithful P R → Agree R S → Ended S q x → Upto (w ∷ W) R → w.path ≡ q
      → count W q < count S q
  ended_longer {R} {S} {W} {w} q l ag g hw wq = ⊎_elim far (λ h. h) (cases_lt_or (count W q) (count S q))
    where
      far : count S q ≤ count W q → count W q < count S q
      far h =
          let a = number_of q g.stands g.path in
          let b = number_of q hw wq in
          let f = carry q (agree_back ag) g.stands g.path (omega arith) in
          let c = none_after_end P D q l f.stands f.path g.act hw wq in
          let n = ap length f.mine_is in
          absurd (omega arith)

      cases_lt_or : (a b : ℕ) → (b ≤ a) ⊎ (a < b)
      cases_lt_or a b = ⊎_elim inr inl (cases_lt a b)

  -- below a task that has ended in the one run, each task that has made an event in the other has ended too
  pub complete : {R S : Run} {x : Ending} (r : Path) → Faithful P R → Faithful P S → Agree R S → Ended S r x → (xs : Path) (W : Run) (w : Event)
      → Upto (w ∷ W) R → w.path ≡ xs ++ r → (y : Ending) × Ended S (xs ++ r) y
  complete {x = x} r l m ag g [] W w hw wq = (x, g)
  complete {R} {S} r l m ag g (v ∷ xs) W w hw wq =
      let p = xs ++ r in
      let f = fork_above P D [] p v l hw wq in
      let fs = upto_trans f.stands (upto_tail hw) in
      let e = complete r l m ag g xs f.before f.event fs f.path in
      let lt = ended_longer p l ag e.1 fs f.path in
      let c = carry p ag fs f.path lt in
      let n = ap length c.mine_is in
      end_case p v f c n m e
    where
      end_case : (p : Path) (v : ℕ × ℕ) (f : ForkAt W p v) (c : Found S p f.event (mine f.before p)) → count c.before p ≡ count f.before p → Faithful P S
          → (e : (y : Ending) × Ended S p y) → (y : Ending) × Ended S (v ∷ p) y
      end_case p v f c n m e =
          let ne = none_after_end P D p m e.1.stands e.1.path e.1.act c.stands c.path in
          let differ : count c.before p ≡ count e.1.before p → ⊥ =
          λ k. (let o = same_of p c.stands e.1.stands c.path e.1.path k in let z : Fork f.tasks ≡ End e.0 = sym f.act ∙ ap (λ y. y.act) o.0 ∙ e.1.act in
          cc) in
          let never = end_passes e.1.event.act e.0 e.1.act in
          let j = joined_before P D p f.tasks m c.stands c.path f.act e.1.stands e.1.path (omega arith) never in
          let j' : JoinAt P D S p (count c.before p) (length f.tasks.tasks) = join_upto P D (upto_tail e.1.stands) j in
          let r = branch_ended P D p f.tasks v f.task m c.stands c.path f.act (sym f.number ∙ sym n) f.is_there j' in
          (r.0, ended_upto (upto_tail j'.stands) r.1)

  -- an event of a task that has ended stands before what is after the end
  pub stands_in : {R W B : Run} {w : Event} {x : Ending} (q : Path) → Faithful P R → Upto B R → Ended B q x → Upto (w ∷ W) R → w.path ≡ q → Upto (w ∷ W) B
  stands_in {R} {W} {B} {w} q l hb g hw wq = go (which hw gs)
    where
      gs : Upto (g.event ∷ g.before) R
      gs = upto_trans g.stands hb

      go : Which w W g.event g.before → Upto (w ∷ W) B
      go (same_one a b) = subst (λ e. Upto (e ∷ W) B) (sym a) (subst (λ Z. Upto (g.event ∷ Z) B) (sym b) g.stands)
      go (before h) = upto_trans h (upto_tail g.stands)
      go (after h) =
          let a = number_of q h g.path in
          let b = none_after_end P D q l gs g.path g.act hw wq in
          absurd (omega arith)

  -- the events below a branch stand before its join
  pub in_join : {R F W : Run} {f w : Event} (xs q : Path) (u : ℕ × ℕ) (ts : Branches) (t : Task) → Faithful P R → Upto (f ∷ F) R → f.path ≡ q
      → f.act ≡ Fork ts → u.0 ≡ count F q → slice_get ts.tasks u.1 ≡ Some t → (j : JoinAt P D R q (count F q) (length ts.tasks)) → Upto (w ∷ W) R
      → w.path ≡ xs ++ u ∷ q → Upto (w ∷ W) j.before
  in_join {R} {F} {W} {f} {w} xs q u ts t l hf fq fa un g j hw wq =
      let jb = upto_tail j.stands in
      let e = branch_ended P D q ts u t l hf fq fa un g j in
      let c = complete (u ∷ q) l (faithful_upto P jb l) (record { both = λ p. inr (mine_upto p jb) }) e.1 xs W w hw wq in
      stands_in (xs ++ u ∷ q) l jb c.1 hw wq

  -- so they stand before each later event of the task that forked
  pub closed : {R W Y : Run} {w y : Event} (xs q : Path) (u : ℕ × ℕ) → Faithful P R → Upto (w ∷ W) R → w.path ≡ xs ++ u ∷ q → Upto (y ∷ Y) R → y.path ≡ q
      → u.0 < count Y q → Passes y.act → Upto (w ∷ W) Y
  closed {R} {W} {Y} {w} {y} xs q u l hw wq hy yq n never =
      let f = fork_above P D xs q u l hw wq in
      let fs = upto_trans f.stands (upto_tail hw) in
      let j = joined_before P D q f.tasks l fs f.path f.act hy yq (subst (λ k. k < count Y q) (sym f.number) n) never in
      let j' : JoinAt P D R q (count f.before q) (length f.tasks.tasks) = join_upto P D (upto_tail hy) j in
      upto_trans (in_join xs q u f.tasks f.task l fs f.path f.act (sym f.number) f.is_there j' hw wq) (upto_tail j.stands)

  -- the static order is kept by each legal run
  pub respects_passing : {R X Y : Run} {x y : Event} → Faithful P R → Upto (x ∷ X) R → Upto (y ∷ Y) R → Passes y.act
      → Before x.path (count X x.path) y.path (count Y y.path) → Upto (x ∷ X) Y
  respects_passing {R} {X} {Y} {x} {y} l hx hy ay (in_task e n) = earlier_of x.path hx hy refl (sym e) (subst (λ q. count X x.path < count Y q) (sym e) n)
  respects_passing {R} {X} {Y} {x} {y} l hx hy ay (above_fork xs u e n) =
      let f = fork_above P D xs x.path u l hy e in
      let fs = upto_trans f.stands (upto_tail hy) in
      let b = earlier_of x.path hx fs refl f.path (subst (λ k. count X x.path < k) (sym f.number) n) in
      upto_trans b (upto_tail f.stands)
  respects_passing {R} {X} {Y} {x} {y} l hx hy ay (below_join xs u e n) = closed xs y.path u l hx e hy refl n ay
  respects_passing {R} {X} {Y} {x} {y} l hx hy ay (across xs ys r u v d e n) =
      let f = fork_above P D ys r v l hy e in
      let fs = upto_trans f.stands (upto_tail hy) in
      let never = fork_passes f.event.act f.tasks f.act in
      let b = closed xs r u l hx d fs f.path (subst (λ k. u.0 < k) (sym f.number) n) never in
      upto_trans b (upto_tail f.stands)

  pub respects : {R X Y : Run} {x y : Event} → Faithful P R → Upto (x ∷ X) R → Upto (y ∷ Y) R → IsPlain y.act
      → Before x.path (count X x.path) y.path (count Y y.path) → Upto (x ∷ X) Y
  respects {y = y} l hx hy ay b = respects_passing l hx hy (plain_passes y.act ay) b

  not_fork : {R Y : Run} {y : Event} (q : Path) (u : ℕ × ℕ) → Upto (y ∷ Y) R → y.path ≡ q → IsPlain y.act → ForkAt R q u → count Y q ≡ u.0 → ⊥
  not_fork {y = y} q u hy yq ay f e = let o = same_of q hy f.stands yq f.path (e ∙ sym f.number) in plain_no_fork y.act f.tasks ay (ap (λ z. z.act) o.0 ∙ f.act)

  pub order_of : {R X Y : Run} {x y : Event} → Faithful P R → Upto (x ∷ X) R → Upto (y ∷ Y) R → IsPlain x.act → IsPlain y.act
      → Related x.path (count X x.path) y.path (count Y y.path)
  order_of {R} {X} {Y} {x} {y} l hx hy ax ay = go (place x.path y.path)
    where
      in_one : x.path ≡ y.path → (count X x.path ≡ count Y y.path) ⊎ ((count X x.path < count Y y.path) ⊎ (count Y y.path < count X x.path))
          → Related x.path (count X x.path) y.path (count Y y.path)
      in_one e (inl n) = one e n
      in_one e (inr (inl n)) = first (in_task e n)
      in_one e (inr (inr n)) = second (in_task (sym e) n)

      below : (xs : Path) (u : ℕ × ℕ) → x.path ≡ xs ++ u ∷ y.path → (count Y y.path ≡ u.0) ⊎ ((count Y y.path < u.0) ⊎ (u.0 < count Y y.path))
          → Related x.path (count X x.path) y.path (count Y y.path)
      below xs u e (inl n) = absurd (not_fork y.path u hy refl ay (fork_upto (upto_tail hx) (fork_above P D xs y.path u l hx e)) n)
      below xs u e (inr (inl n)) = second (above_fork xs u e n)
      below xs u e (inr (inr n)) = first (below_join xs u e n)

      above : (xs : Path) (u : ℕ × ℕ) → y.path ≡ xs ++ u ∷ x.path → (count X x.path ≡ u.0) ⊎ ((count X x.path < u.0) ⊎ (u.0 < count X x.path))
          → Related x.path (count X x.path) y.path (count Y y.path)
      above xs u e (inl n) = absurd (not_fork x.path u hx refl ax (fork_upto (upto_tail hy) (fork_above P D xs x.path u l hy e)) n)
      above xs u e (inr (inl n)) = first (above_fork xs u e n)
      above xs u e (inr (inr n)) = second (below_join xs u e n)

      go : Place x.path y.path → Related x.path (count X x.path) y.path (count Y y.path)
      go (equal e) = in_one e (cases_order _ _)
      go (under xs u e) = below xs u e (cases_order _ _)
      go (over xs u e) = above xs u e (cases_order _ _)
      go (left_of xs ys r u v d e n) = first (across xs ys r u v d e n)
      go (right_of xs ys r u v d e n) = second (across ys xs r v u e d n)
      go (beside n) = neither n
