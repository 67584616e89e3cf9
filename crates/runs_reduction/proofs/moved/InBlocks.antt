-- Blocks and deterministic constructs: a construct is in the block of its fork, or a block in a branch of it, or they are apart.
use Rattle.std.proofs.Common.{◌≡◌, ℕ, suc, ◌+◌, ◌<◌, ◌≤◌, ◌⊎◌, inl, inr, List, [], ◌∷◌, ◌++◌, length, sym, ap, ◌∙◌, subst, arith, append_assoc}
use Rattle.std.proofs.lemmas.Bool.{cases_order}
use Rattle.runs_theory.specs.Actions.{Begin, Branches, Do, Enter, Fork, Program}
use Rattle.runs_theory.specs.Blocks.{In_block, Out_of, hold, hold_after}
use Rattle.runs_theory.specs.Meaning.{Disciplined}
use Rattle.runs_theory.specs.Objects.{Effect, Path}
use Rattle.runs_theory.specs.Runs.{Begun, Event, Faithful, Run, Upto, count, mine, now}
use Rattle.runs_theory.specs.Standing.{Inside, Outside, above, first_of, joined_by, standing}
use Rattle.runs_reduction.specs.Gathered.{Anchor, EntryOf, entry, itself}
use Rattle.runs_reduction.specs.Moved.{DetFork, InBranch, below, its_begin}
use Rattle.runs_theory.proofs.events.Upto.{upto_trans, upto_tail, Which, which, same_one, before, after}
use Rattle.runs_theory.proofs.events.Mine.{mine_at, mine_upto, earlier_of, same_of}
use Rattle.runs_theory.proofs.runs.Faithful.{faithful_upto, ForkAt, fork_above}
use Rattle.runs_theory.proofs.runs.Standing.{first_is, above_step, above_same, above_out, adopted, Adopted, hold_since, joined_cases, Joined_by, from_above, own, only_begins, stands}
use Rattle.runs_reduction.proofs.shifts.Under.{Under, under_self, Split, lies_in, lies_over, split}
use Rattle.runs_reduction.proofs.gathered.AtEntries.{above_under, anchor_of, below_or, same_place}
use Rattle.runs_reduction.proofs.moved.Homes.{fork_before, since_fork, begin_facts}

-- of two entries of one task that are the latest at two moments, both made before the earlier one
one_entry : {o : Path} {E F : List Effect} {X Y A B : Run} {a b : Event} → Upto X Y → EntryOf X o E A a → EntryOf Y o F B b → Upto (b ∷ B) X → A ≡ B
one_entry {o} {E} {F} {X} {Y} {A} {B} {a} {b} hx p q hb = go (which p.stands hb)
  where
    go : Which a A b B → A ≡ B
    go (same_one i j) = j
    go (before h) = (let m = p.open_since B (upto_tail hb) h in absurd (let z : Out_of ≡ In_block m.0 E = sym q.outside ∙ m.1 in cc))
    go (after h) =
        (let m = q.open_since A (upto_trans (upto_tail p.stands) hx) h in absurd (let z : Out_of ≡ In_block m.0 F = sym p.outside ∙ m.1 in cc))

same_opener : (o r : Path) (E F : List Effect) → Inside o E ≡ Inside r F → (o ≡ r) × (E ≡ F)
same_opener o r E F e = (let a : o ≡ r = cc in a, let b : E ≡ F = cc in b)

-- an event has one anchor
pub anchor_one : {X A B : Run} {x a b : Event} → Anchor X x A a → Anchor X x B b → A ≡ B
anchor_one (itself s p e) (itself s1 p1 e1) = p ∙ sym p1
anchor_one (itself s p e) (entry o E s1 t) = absurd (let z : Outside ≡ Inside o E = sym s ∙ s1 in cc)
anchor_one (entry o E s t) (itself s1 p e) = absurd (let z : Outside ≡ Inside o E = sym s1 ∙ s in cc)
anchor_one {X} {A} {B} {x} {a} {b} (entry o E s t) (entry r F s1 t1) =
    let k = same_opener o r E F (sym s ∙ s1) in
    let t2 = subst (λ q. EntryOf X q F B b) (sym k.0) t1 in
    one_entry now t t2 t2.stands

module _ (P : Program) (D : Disciplined P) {R : Run} (l : Faithful P R) where
  -- an event stands in the block of its anchor, whose entry's task is above it
  pub anchor_under : {X A : Run} {x a : Event} → Upto (x ∷ X) R → Anchor X x A a → Under a.path x.path
  anchor_under {X} {A} {x} {a} hx (itself s p e) = subst (λ v. Under v.path x.path) (sym e) (under_self x.path)
  anchor_under {X} {A} {x} {a} hx (entry o E s t) =
      let w = stands P D o E (faithful_upto P hx l) s in subst (λ r. Under r x.path) (sym t.path) (record { below = w.below; is = w.path })

  -- an event in a branch of a deterministic construct
  module _ {q : Path} {k b : ℕ} (d : DetFork R q k) (lt : b < length d.branches.tasks) {Y : Run} {y : Event} (hy : Upto (y ∷ Y) R)
      (i : InBranch q k b y.path (count Y y.path)) where
    ly : Faithful P (y ∷ Y)
    ly = faithful_upto P hy l

    lf : Faithful P (d.event ∷ d.before)
    lf = faithful_upto P d.stands l

    fy : Upto (d.event ∷ d.before) Y
    fy = fork_before P D l d hy i

    at_q : Upto (d.event ∷ mine d.before q) (mine Y q)
    at_q = mine_at q fy d.path

    same_above : above d.before q ≡ above Y q
    same_above =
        let f = lf.0 in
        above_same P lf.1 (record { each = λ p. mine_upto p (upto_tail fy) }) q (subst (λ r. Begun P d.before r f.task) d.path f.begun)

    -- a branch was begun where the fork stands
    above_branch : above Y ((k, b) ∷ q) ≡ standing d.before q
    above_branch =
        let first : first_of k (mine Y q) ≡ mine d.before q = subst (λ n. first_of n (mine Y q) ≡ mine d.before q) d.number (first_is (upto_tail at_q)) in
        above_step Y (k, b) q ∙ ap (λ s. joined_by s q (hold (first_of k (mine Y q)))) (sym same_above)
        ∙ ap (λ m. joined_by (above d.before q) q (hold m)) first

    begin_number : y.path ≡ q → count Y y.path ≡ suc (k + b) → count Y q ≡ suc (k + b)
    begin_number p n = ap (λ r. count Y r) (sym p) ∙ n

    at_begin : y.path ≡ q → count Y y.path ≡ suc (k + b) → standing Y y.path ≡ standing d.before q
    at_begin p n =
        let held : hold (mine Y q) ≡ hold (mine d.before q) = hold_since at_q (since_fork P D l d lt hy (begin_number p n))
        ∙ ap (λ c. hold_after c (hold (mine d.before q))) d.act in
        ap (λ r. standing Y r) p ∙ ap (λ s. joined_by s q (hold (mine Y q))) (sym same_above) ∙ ap (λ h. joined_by (above d.before q) q h) held

    -- so it stands in the block of the fork
    stands_in : (o : Path) (E : List Effect) → standing d.before q ≡ Inside o E → standing Y y.path ≡ Inside o E
    stands_in o E s = go i
      where
        go : InBranch q k b y.path (count Y y.path) → standing Y y.path ≡ Inside o E
        go (its_begin p n) = at_begin p n ∙ s
        go (below xs p) = ap (λ a. joined_by a y.path (hold (mine Y y.path)))
            (ap (λ r. above Y r) p ∙ above_under Y ((k, b) ∷ q) o E (above_branch ∙ s) xs)

    -- where the fork stands outside, it was begun in a block of a task in its branch or stands in its own
    stands_over : (o : Path) (E : List Effect) → standing d.before q ≡ Outside → standing Y y.path ≡ Inside o E → Under ((k, b) ∷ q) o
    stands_over o E out s = go i
      where
        outside : above Y ((k, b) ∷ q) ≡ Outside
        outside = above_branch ∙ out

        in_one : (xs : Path) → y.path ≡ xs ++ (k, b) ∷ q → Joined_by (above Y y.path) y.path (hold (mine Y y.path)) o E → Under ((k, b) ∷ q) o
        in_one xs p (own n a e h) = record { below = xs; is = sym e ∙ p }
        in_one xs p (from_above a) = by_split (split c.below (c.fork ∷ o) xs q (k, b) (sym c.path ∙ p))
          where
            c : Adopted Y y.path o E
            c = adopted Y y.path o E a

            not_out : (ys : Path) → (k, b) ∷ q ≡ ys ++ c.fork ∷ o → ⊥
            not_out ys e =
                let h = above_out Y ys o c.fork (ap (λ r. above Y r) (sym e) ∙ outside) in
                absurd (let z : Out_of ≡ In_block c.depth E = sym h ∙ c.held in cc)

            over : (ys : Path) → c.fork ∷ o ≡ ys ++ (k, b) ∷ q → Under ((k, b) ∷ q) o
            over [] e = absurd (not_out [] (sym e))
            over (w ∷ ys) e = let t : o ≡ ys ++ (k, b) ∷ q = cc in record { below = ys; is = t }

            by_split : Split (c.fork ∷ o) q (k, b) → Under ((k, b) ∷ q) o
            by_split (lies_in h) = absurd (not_out ((k, b) ∷ h.below) (ap (λ r. (k, b) ∷ r) h.is))
            by_split (lies_over ys e) = over ys e

        go : InBranch q k b y.path (count Y y.path) → Under ((k, b) ∷ q) o
        go (its_begin p n) = absurd (let z : Outside ≡ Inside o E = sym (at_begin p n ∙ out) ∙ s in cc)
        go (below xs p) = in_one xs p (joined_cases (above Y y.path) y.path (hold (mine Y y.path)) o E s)

    -- what a task at or above the fork entered, it entered before the fork
    entered_before : {A : Run} {a : Event} (o : Path) (E : List Effect) → Under o q → Upto (a ∷ A) Y → a.path ≡ o → a.act ≡ Do (Enter E) → Upto (a ∷ A) d.before
    entered_before {A} {a} o E u ha ap_ ae = go (below_or o q u)
      where
        no_begin : (c : ℕ) × (a.act ≡ Begin c) → ⊥
        no_begin c = absurd (let z : Do (Enter E) ≡ Begin c.0 = sym ae ∙ c.1 in cc)

        no_fork : {F : Run} {f : Event} → (a ≡ f) × (A ≡ F) → (ts : Branches) → f.act ≡ Fork ts → ⊥
        no_fork s ts fa = absurd (let z : Do (Enter E) ≡ Fork ts = sym ae ∙ ap (λ v. v.act) s.0 ∙ fa in cc)

        since : a.path ≡ q → suc (count d.before q) ≤ count A q → InBranch q k b y.path (count Y y.path) → (c : ℕ) × (a.act ≡ Begin c)
        since e m (its_begin p n) = since_fork P D l d lt hy (begin_number p n) (mine A q) a (mine_at q ha e) m
        since e m (below xs p) = only_begins P D xs q (k, b) ly p (mine A q) a (mine_at q ha e) (let n = d.number in omega arith)

        at_fork : a.path ≡ q → (count A q ≡ count d.before q) ⊎ ((count A q < count d.before q) ⊎ (count d.before q < count A q)) → Upto (a ∷ A) d.before
        at_fork e (inl n) = absurd (no_fork (same_of q ha fy e d.path n) d.branches d.act)
        at_fork e (inr (inl n)) = earlier_of q ha fy e d.path n
        at_fork e (inr (inr n)) = absurd (no_begin (since e (omega arith) i))

        over : (ws : Path) (w : ℕ × ℕ) → q ≡ ws ++ w ∷ o → InBranch q k b y.path (count Y y.path) → (zs : Path) × (y.path ≡ zs ++ w ∷ o)
        over ws w e (its_begin p n) = (ws, p ∙ e)
        over ws w e (below xs p) = (xs ++ (k, b) ∷ ws, p ∙ ap (λ r. xs ++ (k, b) ∷ r) e ∙ sym (append_assoc xs ((k, b) ∷ ws) (w ∷ o)))

        above_fork : (ws : Path) (w : ℕ × ℕ) → q ≡ ws ++ w ∷ o → (f : ForkAt d.before o w)
            → (count A o ≡ count f.before o) ⊎ ((count A o < count f.before o) ⊎ (count f.before o < count A o)) → Upto (a ∷ A) d.before
        above_fork ws w e f (inl n) = absurd (no_fork (same_of o ha (upto_trans f.stands (upto_tail fy)) ap_ f.path n) f.tasks f.act)
        above_fork ws w e f (inr (inl n)) =
            upto_trans (earlier_of o ha (upto_trans f.stands (upto_tail fy)) ap_ f.path n) (upto_tail f.stands)
        above_fork ws w e f (inr (inr n)) =
            let z = over ws w e i in
            absurd (no_begin (only_begins P D z.0 o w ly z.1 (mine A o) a (mine_at o ha ap_) (let m = f.number in omega arith)))

        go : (q ≡ o) ⊎ ((ws : Path) × (w : ℕ × ℕ) × (q ≡ ws ++ w ∷ o)) → Upto (a ∷ A) d.before
        go (inl e) = at_fork (ap_ ∙ sym e) (cases_order _ _)
        go (inr e) = above_fork e.0 e.1 e.2 (fork_above P D e.0 o e.1 l d.stands (d.path ∙ e.2)) (cases_order _ _)

    by_entries : {A B : Run} {a c : Event} (o r : Path) (F F1 : List Effect) → standing d.before q ≡ Inside o F → EntryOf d.before o F A a
        → standing Y y.path ≡ Inside r F1 → EntryOf Y r F1 B c → A ≡ B
    by_entries {A} {B} {a} {c} o r F F1 s t s1 t1 =
        let k1 = same_opener o r F F1 (sym (stands_in o F s) ∙ s1) in
        let t2 : EntryOf Y o F1 B c = subst (λ p. EntryOf Y p F1 B c) (sym k1.0) t1 in
        let w = stands P D o F lf (ap (λ p. standing d.before p) d.path ∙ s) in
        let u : Under o q = record { below = w.below; is = sym d.path ∙ w.path } in
        one_entry (upto_tail fy) t t2 (entered_before o F1 u t2.stands t2.path t2.act)

    at_fork_path : (o : Path) (F : List Effect) → standing d.before d.event.path ≡ Inside o F → standing d.before q ≡ Inside o F
    at_fork_path o F s = ap (λ p. standing d.before p) (sym d.path) ∙ s

    module _ {A : Run} {a : Event} (E : List Effect) (enters : a.act ≡ Do (Enter E)) where
      -- what is in a construct is in the block of its fork
      pub in_block : {B : Run} {c : Event} → Anchor d.before d.event A a → Anchor Y y B c → A ≡ B
      in_block (itself s p e) m = absurd (let z : Fork d.branches ≡ Do (Enter E) = sym d.act ∙ ap (λ v. v.act) (sym e) ∙ enters in cc)
      in_block (entry o F s t) (itself s1 p e) = absurd (let z : Inside o F ≡ Outside = sym (stands_in o F (at_fork_path o F s)) ∙ s1 in cc)
      in_block (entry o F s t) (entry r F1 s1 t1) = by_entries o r F F1 (at_fork_path o F s) t s1 t1

      -- where it is in a block, the fork is too, or the block is in the construct
      pub fork_in_block : Anchor Y y A a → Anchor d.before d.event A a ⊎ Under ((k, b) ∷ q) a.path
      fork_in_block (itself s p e) = inr (go i)
        where
          go : InBranch q k b y.path (count Y y.path) → Under ((k, b) ∷ q) a.path
          go (its_begin p1 n) =
              let f = begin_facts P D l d lt hy p1 (begin_number p1 n) in
              absurd (let z : Begin b ≡ Do (Enter E) = sym f.0 ∙ ap (λ v. v.act) (sym e) ∙ enters in cc)
          go (below xs p1) = record { below = xs; is = ap (λ v. v.path) e ∙ p1 }
      fork_in_block (entry r F s t) = go (anchor_of P D d.before d.event l d.stands)
        where
          at : (C : Run) (c : Event) → Anchor d.before d.event C c → Anchor d.before d.event A a ⊎ Under ((k, b) ∷ q) a.path
          at C c (itself s1 p e) = inr (subst (λ o. Under ((k, b) ∷ q) o) (sym t.path)
              (stands_over r F (ap (λ p. standing d.before p) (sym d.path) ∙ s1) s))
          at C c (entry o F1 s1 t1) =
              let n : C ≡ A = by_entries o r F1 F (at_fork_path o F1 s1) t1 s t in
              let same : c ≡ a = same_place (upto_trans t1.stands (upto_tail d.stands)) (upto_trans t.stands (upto_tail hy)) n in
              inl (subst (λ Z. Anchor d.before d.event Z a) n (subst (λ v. Anchor d.before d.event C v) same (entry o F1 s1 t1)))

          go : (C : Run) × (c : Event) × Anchor d.before d.event C c → Anchor d.before d.event A a ⊎ Under ((k, b) ∷ q) a.path
          go c = at c.0 c.1 c.2
