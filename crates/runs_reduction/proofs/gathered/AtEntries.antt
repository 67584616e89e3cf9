-- The gathered run has each event at its block's entry.
use Rattle.std.proofs.Common.{◌≡◌, ℕ, ◌<◌, ◌≤◌, ◌⊎◌, inl, inr, ⊎_elim, List, [], ◌∷◌, ◌++◌, length, refl, sym, ap, ◌∙◌, subst, arith, append_assoc}
use Rattle.std.proofs.lemmas.Bool.{cases_order}
use Rattle.runs_theory.specs.Actions.{Do, Enter, Fork, Program, Task}
use Rattle.runs_theory.specs.Blocks.{In_block, Out_of, hold}
use Rattle.runs_theory.specs.Meaning.{Disciplined, Known}
use Rattle.runs_theory.specs.Objects.{Effect, Path}
use Rattle.runs_theory.specs.Order.{IsPlain, Passes}
use Rattle.runs_theory.specs.Runs.{Begun, Event, Faithful, Run, Upto, count, later, mine, now}
use Rattle.runs_theory.specs.Standing.{Inside, Outside, Standing, Valid, above, first_of, joined_by, standing}
use Rattle.runs_reduction.specs.Gathered.{Anchor, AtEntries, EntryOf, Together, block_of, block_spot, entry, gather, itself}
use Rattle.runs_reduction.specs.Guarded.{ConflictsGuarded}
use Rattle.runs_reduction.specs.Insertion.{All_of, Earlier, put_after}
use Rattle.runs_reduction.specs.Guarded.{ConflictsGuarded}
use Rattle.runs_reduction.specs.Insertion.{All_of, Earlier, put_after}
use Rattle.runs_theory.proofs.events.Upto.{upto_trans, upto_length, upto_tail, upto_split, upto_none, Which, which, same_one, before, after}
use Rattle.runs_theory.proofs.events.Mine.{mine_same, mine_at, mine_upto, Found, found, earlier_of, same_of, number_of}
use Rattle.runs_theory.proofs.events.Places.{snoc}
use Rattle.runs_theory.proofs.runs.Faithful.{faithful_upto, ForkAt, fork_above}
use Rattle.runs_theory.proofs.order.Between.{closed, plain_passes}
use Rattle.runs_theory.proofs.runs.Blocks.{entry_at}
use Rattle.runs_theory.proofs.runs.Standing.{first_is, above_step, above_same, opener_stands, stands_outside, Stands, stands}
use Rattle.runs_theory.proofs.events.Carry.{found_in}
use Rattle.runs_theory.proofs.runs.Written.{faithful_of}
use Rattle.runs_reduction.proofs.shifts.Under.{Under, under_self, under_root, true_of, of_true}
use Rattle.runs_reduction.proofs.shifts.Insertion.{rearranged_step, after_here, Rebuilt, grown, grown_back}
use Rattle.runs_reduction.proofs.gathered.Gather.{guarded_upto, gathered}
use Rattle.runs_reduction.proofs.shifts.Shifts.{not_back, shifted, NewAt, new_at}

-- an event put in by where its task stands
abbrev put : Standing → Event → Run → Run
put Outside e G = e ∷ G
put (Inside o E) e G = put_after (All_of o) e G

put_is : (h : Standing) (e : Event) (G : Run) → put h e G ≡ put_after (block_of h) e G
put_is Outside e [] = refl
put_is Outside e (x ∷ G) = sym (after_here (All_of []) e x G (true_of [] x.path (under_root x.path)))
put_is (Inside o E) e G = refl

-- two events at one place of a run are one
pub same_place : {x y : Event} {X Y R : Run} → Upto (x ∷ X) R → Upto (y ∷ Y) R → X ≡ Y → x ≡ y
same_place {x} {y} {X} {Y} hx hy e = go (which hx hy)
  where
    go : Which x X y Y → x ≡ y
    go (same_one a b) = a
    go (before h) = let n = upto_length h in let m = ap length e in absurd (omega arith)
    go (after h) = let n = upto_length h in let m = ap length e in absurd (omega arith)

anchor_length : {Y B : Run} {y b : Event} → Anchor Y y B b → length B ≤ length Y
anchor_length {Y} {B} (itself s p q) = let n = ap length p in omega arith
anchor_length {Y} {B} (entry o E s t) = let n = upto_length t.stands in omega arith

-- a task at or below another
pub below_or : (o p : Path) → Under o p → (p ≡ o) ⊎ ((xs : Path) × (u : ℕ × ℕ) × (p ≡ xs ++ u ∷ o))
below_or o p h = go h.below h.is
  where
    go : (ws : Path) → p ≡ ws ++ o → (p ≡ o) ⊎ ((xs : Path) × (u : ℕ × ℕ) × (p ≡ xs ++ u ∷ o))
    go [] e = inl e
    go (w ∷ ws) e = let r = snoc w ws in inr (r.0, r.1, e ∙ ap (λ l. l ++ o) r.2 ∙ append_assoc r.0 (r.1 ∷ []) o)

pub above_under : (R : Run) (q o : Path) (E : List Effect) → above R q ≡ Inside o E → (xs : Path) → above R (xs ++ q) ≡ Inside o E
above_under R q o E h [] = h
above_under R q o E h (x ∷ xs) = above_step R x (xs ++ q) ∙ ap (λ s. joined_by s (xs ++ q) (hold (first_of x.0 (mine R (xs ++ q))))) (above_under R q o E h xs)

module _ (P : Program) (D : Disciplined P) where
  pub anchor_of : {R : Run} (X : Run) (x : Event) → Faithful P R → Upto (x ∷ X) R → (A : Run) × (a : Event) × Anchor X x A a
  anchor_of X x l h = go (standing X x.path) refl
    where
      lx : Faithful P (x ∷ X)
      lx = faithful_upto P h l

      go : (h : Standing) → standing X x.path ≡ h → (A : Run) × (a : Event) × Anchor X x A a
      go Outside k = (X, x, itself k refl refl)
      go (Inside o E) k =
          let s = stands P D o E lx k in
          let t = entry_at X o s.depth E s.held in
          (t.before, t.event, entry o E k (record { stands = t.stands; path = t.path; outside = t.outside; act = t.act; open_since = t.open_since }))

module _ (P : Program) (D : Disciplined P) (known : Known P) where
  -- the latest event of the block of the task that goes on belongs to the block's entry
  block_anchor : {R G0 A Zg : Run} {e a z : Event} (o : Path) (E : List Effect) → Faithful P (e ∷ R) → Rebuilt P R G0 → standing R e.path ≡ Inside o E
      → EntryOf R o E A a → Upto (z ∷ Zg) G0 → Under o z.path → ((q : Path) → Under o q → mine (z ∷ Zg) q ≡ mine R q)
      → (zr : Found R z.path z (mine Zg z.path)) → Anchor zr.before z A a
  block_anchor {R} {G0} {A} {Zg} {e} {a} {z} o E l g inside ent hz zu full zr = go (below_or o z.path zu)
    where
      s : Stands P D R e.path o E
      s = stands P D o E l inside

      zl : Faithful P (z ∷ zr.before)
      zl = faithful_upto P zr.stands l.1

      z_task : (t : Task) × Begun P zr.before z.path t
      z_task = (let b = zl.0 in (b.task, b.begun))

      same_above : above zr.before z.path ≡ above R z.path
      same_above = above_same P zl.1 (record { each = λ p. mine_upto p (upto_tail zr.stands) }) z.path z_task.1

      entered : Upto (a ∷ A) zr.before → EntryOf zr.before o E A a
      entered h = record {
        stands = h;
        path = ent.path;
        outside = ent.outside;
        act = ent.act;
        open_since = λ Z k j. ent.open_since Z (upto_trans k (upto_tail zr.stands)) j;
      }

      by_opener : z.path ≡ o → (count zr.before o ≡ count A o) ⊎ ((count zr.before o < count A o) ⊎ (count A o < count zr.before o)) → Anchor zr.before z A a
      by_opener k (inl n) =
          let w = same_of o zr.stands ent.stands k ent.path n in
          let up : above zr.before z.path ≡ Outside = same_above ∙ ap (λ r. above R r) k ∙ s.outside in
          let h : hold (mine zr.before z.path) ≡ Out_of = ap (λ r. hold (mine zr.before r)) k ∙ ap (λ Z. hold (mine Z o)) w.1 ∙ ent.outside in
          itself (stands_outside zr.before z.path up h) (sym w.1) (sym w.0)
      by_opener k (inr (inl n)) =
          let c = ap length (sym (mine_same z Zg o k) ∙ full o (under_self o)) in
          let d = ap (λ r. length r) (ap (λ r. mine zr.before r) (sym k) ∙ zr.mine_is ∙ ap (λ r. mine Zg r) k) in
          let m = number_of o ent.stands ent.path in
          absurd (omega arith)
      by_opener k (inr (inr n)) =
          let h = earlier_of o ent.stands zr.stands ent.path k n in
          let m = ent.open_since zr.before (upto_tail zr.stands) h in
          let up : above zr.before o ≡ Outside = ap (λ r. above zr.before r) (sym k) ∙ same_above ∙ ap (λ r. above R r) k ∙ s.outside in
          entry o E (ap (λ r. standing zr.before r) k ∙ opener_stands zr.before o E m.0 up m.1) (entered h)

      by_branch : (xs : Path) (u : ℕ × ℕ) → z.path ≡ xs ++ u ∷ o → (f : ForkAt zr.before o u) → (u.0 ≡ count A o) ⊎ ((u.0 < count A o) ⊎ (count A o < u.0))
          → Anchor zr.before z A a
      by_branch xs u k f (inl n) =
          let fs = upto_trans f.stands (upto_tail zr.stands) in
          let w = same_of o fs ent.stands f.path ent.path (f.number ∙ n) in
          absurd (let x : Fork f.tasks ≡ Do (Enter E) = sym f.act ∙ ap (λ v. v.act) w.0 ∙ ent.act in cc)
      by_branch xs u k f (inr (inl n)) =
          let ag = found_in o (grown_back g) ent.stands ent.path in
          let passes : Passes a.act = plain_passes P D a.act (subst IsPlain (sym ent.act) tt) in
          let agn = ap length ag.mine_is in
          let c = closed P D xs o u (faithful_of P G0 g.valid) hz k ag.stands ag.path (omega arith) passes in
          let az = found (z ∷ Zg) o (subst (λ m. Upto (a ∷ mine A o) m) (sym (full o (under_self o))) (mine_at o ent.stands ent.path)) in
          let w = same_of o (upto_trans az.stands hz) ag.stands az.path ag.path (ap length (az.mine_is ∙ sym ag.mine_is)) in
          let n1 = upto_length c in
          let n2 = upto_length az.stands in
          let n3 = ap length w.1 in
          absurd (omega arith)
      by_branch xs u k f (inr (inr n)) =
          let fs = upto_trans f.stands (upto_tail zr.stands) in
          let h = earlier_of o ent.stands fs ent.path f.path (subst (λ i. count A o < i) (sym f.number) n) in
          let m = ent.open_since f.before (upto_tail fs) h in
          let firsts : first_of u.0 (mine R o) ≡ mine f.before o =
          subst (λ i. first_of i (mine R o) ≡ mine f.before o) f.number (first_is (upto_tail (mine_at o fs f.path))) in
          let up : above R (u ∷ o) ≡ Inside o E = above_step R u o ∙ ap (λ b. joined_by b o (hold (first_of u.0 (mine R o)))) s.outside
          ∙ ap (λ r. joined_by Outside o (hold r)) firsts ∙ ap (λ r. joined_by Outside o r) m.1 in
          let upz : above zr.before z.path ≡ Inside o E = same_above ∙ ap (λ r. above R r) k ∙ above_under R (u ∷ o) o E up xs in
          entry o E (ap (λ b. joined_by b z.path (hold (mine zr.before z.path))) upz) (entered (upto_trans h (upto_tail f.stands)))

      go : (z.path ≡ o) ⊎ ((xs : Path) × (u : ℕ × ℕ) × (z.path ≡ xs ++ u ∷ o)) → Anchor zr.before z A a
      go (inl k) = by_opener k (cases_order _ _)
      go (inr k) = by_branch k.0 k.1 k.2 (fork_above P D k.0 o k.1 l.1 zr.stands k.2) (cases_order _ _)

  module _ (R : Run) (e : Event) (l : Faithful P (e ∷ R)) (G0 : Run) (g : Rebuilt P R G0) (rec : AtEntries R G0) where
    abbrev Sooner : (A X B Y : Run) (x a : Event) → Type 0
    Sooner A X B Y x a = Upto (a ∷ A) B ⊎ ((A ≡ B) × Upto (x ∷ X) Y)

    keeps : {p q : Path} {k n : ℕ} (st : Standing) → standing R e.path ≡ st → Earlier G0 p k q n → Earlier (put st e G0) p k q n
    keeps Outside s y = record { before = y.before; event = y.event; stands = later y.stands; path = y.path; number = y.number; more = y.more }
    keeps {p} {q} {k} {n} (Inside o E) s y =
        let t = stands P D o E l s in
        let m = shifted (All_of o) o e (record { below = t.below; is = t.path }) (λ x v. true_of o x.path v) G0 y.event y.before y.stands in
        let more = m.more p in
        let ym = y.more in
        let same = subst (λ r. count m.before r ≡ count y.before r) y.path m.same in
        record { before = m.before; event = y.event; stands = m.stands; path = y.path; number = same ∙ y.number; more = omega arith }

    -- this event is the later one
    as_later : (X A B : Run) (x a b : Event) → Upto (x ∷ X) R → Anchor X x A a → Anchor R e B b → Sooner A X B R x a
        → Earlier (put (standing R e.path) e G0) x.path (count X x.path) e.path (count R e.path)
    as_later X A B x a b hx ax (itself s p q) so =
        subst (λ st. Earlier (put st e G0) x.path (count X x.path) e.path (count R e.path)) (sym s)
        (record {
          before = G0;
          event = e;
          stands = now;
          path = refl;
          number = ap length (g.same e.path);
          more = (let n = number_of x.path hx refl in let m = ap length (g.same x.path) in omega arith);
        })
    as_later X A B x a b hx ax (entry o E s ent) so =
        subst (λ st. Earlier (put st e G0) x.path (count X x.path) e.path (count R e.path)) (sym s)
        (record { before = n.top ∷ n.rest; event = e; stands = n.new; path = refl; number = ap length (n.full e.path eu ∙ g.same e.path); more = enough so })
      where
        t : Stands P D R e.path o E
        t = stands P D o E l s

        eu : Under o e.path
        eu = record { below = t.below; is = t.path }

        bg : Found G0 o b (mine B o)
        bg = found_in o (grown_back g) ent.stands ent.path

        n : NewAt (All_of o) o e eu (λ x v. true_of o x.path v) G0
        n = new_at (All_of o) o e eu (λ x v. true_of o x.path v) G0 b bg.before bg.stands (true_of o b.path (record { below = []; is = ent.path }))

        in_block : Under o x.path → count X x.path < count (n.top ∷ n.rest) x.path
        in_block u = let c = number_of x.path hx refl in let d = ap length (n.full x.path u ∙ g.same x.path) in omega arith

        in_one : A ≡ B → Anchor X x A a → Under o x.path
        in_one k (itself s1 p q) = let w = same_place hx ent.stands (sym p ∙ k) in record { below = []; is = ap (λ v. v.path) w ∙ ent.path }
        in_one k (entry o1 E1 s1 ent1) =
            let w = same_place (upto_trans ent1.stands (upto_tail hx)) ent.stands k in
            let oo : o1 ≡ o = sym ent1.path ∙ ap (λ v. v.path) w ∙ ent.path in
            let t1 = stands P D o1 E1 (faithful_upto P hx l.1) s1 in
            record { below = t1.below; is = t1.path ∙ ap (λ r. t1.below ++ r) oo }

        outside_b : standing B b.path ≡ Outside
        outside_b =
            let lb = faithful_upto P ent.stands l.1 in
            let al = lb.0 in
            let up = above_same P lb.1 (record { each = λ p. mine_upto p (upto_tail ent.stands) }) b.path al.begun in
            stands_outside B b.path (up ∙ ap (λ r. above R r) ent.path ∙ t.outside) (ap (λ r. hold (mine B r)) ent.path ∙ ent.outside)

        enough : Sooner A X B R x a → count X x.path < count (n.top ∷ n.rest) x.path
        enough (inr w) = in_block (in_one w.0 ax)
        enough (inl w) =
            let y = rec.each X B A B x b a b hx ent.stands ax (itself outside_b refl refl) (inl w) in
            let bz = found (n.top ∷ n.rest) o (subst (λ m. Upto (b ∷ mine B o) m) (sym (n.full o (under_self o) ∙ g.same o)) (mine_at o ent.stands ent.path)) in
            let yo : count y.before o ≡ count B o = subst (λ r. count y.before r ≡ count B r) ent.path y.number in
            let v = same_of o y.stands (upto_trans bz.stands n.stands) (y.path ∙ ent.path) bz.path (yo ∙ sym (ap length bz.mine_is)) in
            let ym = y.more in
            let c = ap (λ r. count r x.path) v.1 in
            let d = upto_length (mine_upto x.path (upto_tail bz.stands)) in
            omega arith

    -- this event is the earlier one
    as_earlier : (Y A B : Run) (y a b : Event) → Upto (y ∷ Y) R → Anchor R e A a → Anchor Y y B b → Sooner A R B Y e a
        → Earlier (put (standing R e.path) e G0) e.path (count R e.path) y.path (count Y y.path)
    as_earlier Y A B y a b hy (itself s p q) ay (inl w) = let n1 = upto_length w in let n2 = anchor_length ay in let n3 = upto_length hy in let n4 =
        ap length p in absurd (omega arith)
    as_earlier Y A B y a b hy ae ay (inr w) = let n1 = upto_length w.1 in let n3 = upto_length hy in absurd (omega arith)
    as_earlier Y A B y a b hy (entry o E s ent) ay (inl w) =
        subst (λ st. Earlier (put st e G0) e.path (count R e.path) y.path (count Y y.path)) (sym s) (place (n.others y yg.before yg.stands))
      where
        t : Stands P D R e.path o E
        t = stands P D o E l s

        eu : Under o e.path
        eu = record { below = t.below; is = t.path }

        ag : Found G0 o a (mine A o)
        ag = found_in o (grown_back g) ent.stands ent.path

        yg : Found G0 y.path y (mine Y y.path)
        yg = found_in y.path (grown_back g) hy refl

        n : NewAt (All_of o) o e eu (λ x v. true_of o x.path v) G0
        n = new_at (All_of o) o e eu (λ x v. true_of o x.path v) G0 a ag.before ag.stands (true_of o a.path (record { below = []; is = ent.path }))

        zr : Found R n.top.path n.top (mine n.rest n.top.path)
        zr = found_in n.top.path (grown g) n.stands refl

        az : Anchor zr.before n.top A a
        az = block_anchor o E l g s ent n.stands (of_true o n.top.path n.is_near) (λ q u. n.full q u ∙ g.same q) zr

        place : Upto (y ∷ yg.before) (n.top ∷ n.rest) ⊎ ((Z : Run) × Upto (y ∷ Z) (put_after (All_of o) e G0) × (count Z y.path ≡ count yg.before y.path)
            × Upto (e ∷ n.top ∷ n.rest) Z) → Earlier (put_after (All_of o) e G0) e.path (count R e.path) y.path (count Y y.path)
        place (inr v) =
            let c = upto_length (mine_at e.path v.3 refl) in
            let d = ap length (n.full e.path eu ∙ g.same e.path) in
            record { before = v.0; event = y; stands = v.1; path = refl; number = v.2 ∙ ap length yg.mine_is; more = omega arith }
        place (inl v) =
            let r = rec.each zr.before Y A B n.top y a b zr.stands hy az ay (inl w) in
            let v1 = same_of y.path r.stands yg.stands r.path yg.path (r.number ∙ sym (ap length yg.mine_is)) in
            let rm = r.more in
            let c = ap (λ q. count q n.top.path) v1.1 in
            let d = ap length zr.mine_is in
            let up : Upto yg.before n.rest = shorter v in
            let k = upto_length (mine_upto n.top.path up) in
            absurd (omega arith)
          where
            shorter : Upto (y ∷ yg.before) (n.top ∷ n.rest) → Upto yg.before n.rest
            shorter h = ⊎_elim (λ p. subst (λ q. Upto q n.rest) (sym p.1) now) (λ p. upto_tail p) (upto_split h)

    -- an event is not before itself
    not_both : (A B : Run) (a b : Event) → Anchor R e A a → Anchor R e B b → Sooner A R B R e a → ⊥
    not_both A B a b p q (inr w) = let n = upto_length w.1 in absurd (omega arith)
    not_both A B a b (itself s p q) r (inl w) = let n = upto_length w in let m = anchor_length r in let k = ap length p in absurd (omega arith)
    not_both A B a b (entry o E s ent) (itself s1 p q) (inl w) = absurd (let k : Inside o E ≡ Outside = sym s ∙ s1 in cc)
    not_both A B a b (entry o E s ent) (entry o1 E1 s1 ent1) (inl w) =
        let k : Inside o E ≡ Inside o1 E1 = sym s ∙ s1 in
        let oo : o ≡ o1 = cc in
        let m = ent.open_since B (upto_tail ent1.stands) w in
        let z : In_block m.0 E ≡ Out_of = sym m.1 ∙ ap (λ r. hold (mine B r)) oo ∙ ent1.outside in
        absurd (cc)

    step_in_place : AtEntries (e ∷ R) (put (standing R e.path) e G0)
    step_in_place = record { each = each; has = λ X x h. anchor_of P D X x l h }
      where
        each : (X Y A B : Run) (x y a b : Event) → Upto (x ∷ X) (e ∷ R) → Upto (y ∷ Y) (e ∷ R) → Anchor X x A a → Anchor Y y B b → Sooner A X B Y x a
            → Earlier (put (standing R e.path) e G0) x.path (count X x.path) y.path (count Y y.path)
        each X Y A B x y a b hx hy ax ay so = go (upto_split hx) (upto_split hy)
          where
            go : ((x ≡ e) × (X ≡ R)) ⊎ Upto (x ∷ X) R → ((y ≡ e) × (Y ≡ R)) ⊎ Upto (y ∷ Y) R
                → Earlier (put (standing R e.path) e G0) x.path (count X x.path) y.path (count Y y.path)
            go (inr p) (inr q) = keeps (standing R e.path) refl (rec.each X Y A B x y a b p q ax ay so)
            go (inr p) (inl q) =
                let ay1 = subst (λ Z. Anchor Z e B b) q.1 (subst (λ z. Anchor Y z B b) q.0 ay) in
                let so1 = subst (λ Z. Sooner A X B Z x a) q.1 so in
                let r = as_later X A B x a b p ax ay1 so1 in
                subst (λ Z. Earlier (put (standing R e.path) e G0) x.path (count X x.path) y.path (count Z y.path)) (sym q.1)
                (subst (λ z. Earlier (put (standing R e.path) e G0) x.path (count X x.path) z.path (count R z.path)) (sym q.0) r)
            go (inl p) (inr q) =
                let ax1 = subst (λ Z. Anchor Z e A a) p.1 (subst (λ z. Anchor X z A a) p.0 ax) in
                let so1 = subst (λ z. Sooner A R B Y z a) p.0 (subst (λ Z. Sooner A Z B Y x a) p.1 so) in
                let r = as_earlier Y A B y a b q ax1 ay so1 in
                subst (λ Z. Earlier (put (standing R e.path) e G0) x.path (count Z x.path) y.path (count Y y.path)) (sym p.1)
                (subst (λ z. Earlier (put (standing R e.path) e G0) z.path (count R z.path) y.path (count Y y.path)) (sym p.0) r)
            go (inl p) (inl q) =
                let ax1 = subst (λ Z. Anchor Z e A a) p.1 (subst (λ z. Anchor X z A a) p.0 ax) in
                let ay1 = subst (λ Z. Anchor Z e B b) q.1 (subst (λ z. Anchor Y z B b) q.0 ay) in
                let so1 = subst (λ z. Sooner A R B R z a) p.0 (subst (λ Z. Sooner A Z B R x a) p.1 (subst (λ Z. Sooner A X B Z x a) q.1 so)) in
                absurd (not_both A B a b ax1 ay1 so1)

  pub at_entries : (R : Run) → Valid P R → ConflictsGuarded P.rule R → AtEntries R (gather R)
  at_entries [] l f = record { each = λ X Y A B x y a b hx hy. absurd (upto_none hx); has = λ X x h. absurd (upto_none h) }
  at_entries (e ∷ R) l f =
      let less = guarded_upto (later now) f in
      subst (AtEntries (e ∷ R)) (put_is (standing R e.path) e (gather R) ∙ sym (rearranged_step block_spot e R))
      (step_in_place R e (faithful_of P (e ∷ R) l) (gather R) (gathered P D known R l.1 less) (at_entries R l.1 less))

pub anchor_stands : {X A R : Run} {x a : Event} → Upto (x ∷ X) R → Anchor X x A a → Upto (a ∷ A) R
anchor_stands {X} {A} {R} {x} {a} h (itself s p q) = subst (λ Z. Upto (a ∷ Z) R) (sym p) (subst (λ z. Upto (z ∷ X) R) (sym q) h)
anchor_stands h (entry o E s t) = upto_trans t.stands (upto_tail h)

pub together : (R G : Run) → AtEntries R G → Together R G
together R G i = record { none_between = each }
  where
    each : (X Y Z A B C : Run) (x y z a b c : Event) → Upto (x ∷ X) R → Upto (y ∷ Y) R → Upto (z ∷ Z) R → Anchor X x A a → Anchor Y y B b → Anchor Z z C c
        → A ≡ C → Earlier G x.path (count X x.path) y.path (count Y y.path) → Earlier G y.path (count Y y.path) z.path (count Z z.path) → A ≡ B
    each X Y Z A B C x y z a b c hx hy hz ax ay az ac xy yz = go (which (anchor_stands hx ax) (anchor_stands hy ay))
      where
        go : Which a A b B → A ≡ B
        go (same_one p q) = q
        go (before h) =
            let ca : c ≡ a = same_place (anchor_stands hz az) (anchor_stands hx ax) (sym ac) in
            absurd (not_back G y.path z.path (count Y y.path) (count Z z.path) yz
            (i.each Z Y C B z y c b hz hy az ay (inl (subst (λ r. Upto (c ∷ r) B) ac (subst (λ v. Upto (v ∷ A) B) (sym ca) h)))))
        go (after h) = absurd (not_back G x.path y.path (count X x.path) (count Y y.path) xy (i.each Y X B A y x b a hy hx ay ax (inl h)))
