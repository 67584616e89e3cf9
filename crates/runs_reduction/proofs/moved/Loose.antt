-- A run whose conflicts are guarded on one level, moved: blocks aside, it is a run, with each event in its place.
use Rattle.std.proofs.Common.{◌≡◌, ℕ, suc, ◌<◌, ◌⊎◌, inl, inr, ⊎_elim, true≢false, List, [], ◌∷◌, ◌++◌, length, refl, sym, ap, ◌∙◌, subst}
use Rattle.std.proofs.Common.{arith, append_assoc, if◌then◌else◌}
use Rattle.std.proofs.lemmas.Bool.{cases_order}
use Rattle.runs_theory.specs.Actions.{Begin, Do, Enter, Fork, Program, Task}
use Rattle.runs_theory.specs.Blocks.{In_block, Out_of, hold, with_rule}
use Rattle.runs_theory.specs.Meaning.{Disciplined, Known}
use Rattle.runs_theory.specs.Objects.{Effect, Path}
use Rattle.runs_theory.specs.Order.{Before, Conflict, Unordered, below_join, in_task, read_write, write_read, write_write}
use Rattle.runs_theory.specs.Runs.{Begun, Event, Faithful, Run, Upto, branch, count, later, mine, now, root}
use Rattle.runs_theory.specs.Standing.{Admitted, CanEnter, Outside, Valid, above, first_of}
use Rattle.runs_reduction.specs.Guarded.{AccessesLevelled, Levelled, anything}
use Rattle.runs_reduction.specs.Insertion.{Branch_of, Earlier}
use Rattle.runs_reduction.specs.Moved.{AfterForks, construct_spot, inner, is_det, move, spot_of}
use Rattle.runs_theory.proofs.events.Upto.{upto_trans, upto_length, upto_tail, Which, which, same_one, before, after}
use Rattle.runs_theory.proofs.events.Mine.{mine_at, mine_same, mine_upto, Found, earlier_of, number_of, numbered, same_of}
use Rattle.runs_theory.proofs.events.Places.{snoc}
use Rattle.runs_theory.proofs.runs.Faithful.{begun_upto, faithful_upto, follows_at, ForkAt, fork_above}
use Rattle.runs_theory.proofs.order.Between.{plain_passes, respects_passing}
use Rattle.runs_theory.proofs.runs.Blocks.{EntryAt, entry_at}
use Rattle.runs_theory.proofs.runs.Standing.{Grows, opener_stands, stands_outside, above_same, Stands, stands, begun_fork, first_is, only_begins}
use Rattle.runs_theory.proofs.runs.Written.{faithful_of}
use Rattle.runs_theory.proofs.events.Carry.{begun_at, found_in}
use Rattle.runs_reduction.proofs.shifts.Under.{Under}
use Rattle.runs_reduction.proofs.shifts.Spots.{inner_nil, inner_step, inner_under}
use Rattle.runs_reduction.proofs.shifts.Insertion.{valid_upto, admitted_at, Rebuilt, grown_back, Side}
use Rattle.runs_reduction.proofs.moved.Branch.{near_under, unordered_clash, opener_over, begun_below}
use Rattle.runs_reduction.proofs.moved.Move.{moved_next, nothing_moved}
use Rattle.runs_reduction.proofs.shifts.Overlap.{never_both}
use Rattle.runs_reduction.proofs.moved.AfterForks.{nothing_placed, placed_next}
use Rattle.runs_reduction.proofs.shifts.Rules.{disciplined_rule, valid_rule}
use Rattle.runs_reduction.proofs.shifts.Left.{Leaves, exits, ends, leaves_plain, leaves_spot, LeftAt, left_at}

-- a task that has begun is in the same branch in each run that has at least its events
pub inner_same : (P : Program) {T S : Run} {t : Task} → Faithful P T → Grows T S → (p : Path) → Begun P T p t → inner T p ≡ inner S p
inner_same P {T} {S} {t} l h [] b = inner_nil T ∙ sym (inner_nil S)
inner_same P {T} {S} {t} l h (u ∷ q) b = go b (λ s k. inner_same P {t = s} l h q k)
  where
    go : {t : Task} → Begun P T (u ∷ q) t → ((s : Task) → Begun P T q s → inner T q ≡ inner S q) → inner T (u ∷ q) ≡ inner S (u ∷ q)
    go (root a c) rec = absurd (cc)
    go (branch q' u' F f ts B k1 a b c d e g b1 c1 e1 d1) rec =
        let uu : u ≡ u' = cc in
        let qq : q ≡ q' = cc in
        let fq : f.path ≡ q = c ∙ sym qq in
        let m = mine_at q b fq in
        let n : suc (length (mine F q)) ≡ suc u.0 = ap suc (ap (λ r. count F r) qq ∙ d ∙ ap (λ w. w.0) (sym uu)) in
        let mt : first_of (suc u.0) (mine T q) ≡ f ∷ mine F q = subst (λ k. first_of k (mine T q) ≡ f ∷ mine F q) n (first_is m) in
        let ms : first_of (suc u.0) (mine S q) ≡ f ∷ mine F q = subst (λ k. first_of k (mine S q) ≡ f ∷ mine F q) n (first_is (upto_trans m (h.each q))) in
        let al = follows_at P b l in
        let r = rec al.task (begun_upto (upto_tail b) (subst (λ r. Begun P F r al.task) fq al.begun)) in
        inner_step T u q ∙ ap (λ s. if is_det (first_of (suc u.0) (mine T q)) then Branch_of u q else s) r
        ∙ ap (λ l. if is_det l then Branch_of u q else inner S q) (mt ∙ sym ms) ∙ sym (inner_step S u q)

-- an access neither enters nor leaves a block
not_enter : {x y : Event} (E : List Effect) → Conflict x y → x.act ≡ Do (Enter E) → ⊥
not_enter E (read_write c r w) k = let z = sym r.act ∙ k in cc
not_enter E (write_read c w r) k = let z = sym w.act ∙ k in cc
not_enter E (write_write c v w) k = let z = sym v.act ∙ k in cc

not_leave : {x y : Event} → Conflict x y → Leaves x.act → ⊥
not_leave (read_write c r w) (exits k) = let z = sym r.act ∙ k in cc
not_leave (read_write c r w) (ends e k) = let z = sym r.act ∙ k in cc
not_leave (write_read c w r) (exits k) = let z = sym w.act ∙ k in cc
not_leave (write_read c w r) (ends e k) = let z = sym w.act ∙ k in cc
not_leave (write_write c v w) (exits k) = let z = sym v.act ∙ k in cc
not_leave (write_write c v w) (ends e k) = let z = sym v.act ∙ k in cc

-- of two events, of which the one is earlier
pub earlier_stands : {G X : Run} {x : Event} {p q : Path} {k n : ℕ} → (y : Earlier G p k q n) → Upto (x ∷ X) G → x.path ≡ p → count X p ≡ k
    → Upto (x ∷ X) y.before
earlier_stands {G} {X} {x} {p} {q} {k} {n} y hx xp xk = go (which hx y.stands)
  where
    go : Which x X y.event y.before → Upto (x ∷ X) y.before
    go (before h) = h
    go (same_one a b) = let c = ap (λ r. count r p) b in let d = y.more in absurd (omega arith)
    go (after h) = let c = upto_length (mine_upto p (upto_tail h)) in let d = y.more in absurd (omega arith)

module _ (P : Program) (D : Disciplined P) where
  -- what a task below another has done stands before what that one does after it has left a block that both stood in
  pub before_leaving : {R Y X : Run} {y x : Event} (o xs : Path) → Faithful P R → Upto (y ∷ Y) R → y.path ≡ xs ++ o → Upto (x ∷ X) R → x.path ≡ o
      → Upto (y ∷ Y) X → Before y.path (count Y y.path) x.path (count X x.path)
  before_leaving {Y = Y} {X = X} {y = y} {x = x} o [] l hy yo hx xo h =
      let k : y.path ≡ x.path = yo ∙ sym xo in
      in_task k (subst (λ p. count Y y.path < count X p) k (number_of y.path h refl))
  before_leaving {Y = Y} {X = X} {y = y} {x = x} o (w ∷ ws) l hy yo hx xo h =
      let s = snoc w ws in
      let e : y.path ≡ s.0 ++ s.1 ∷ o = yo ∙ ap (λ r. r ++ o) s.2 ∙ append_assoc s.0 (s.1 ∷ []) o in
      let f : ForkAt Y o s.1 = fork_above P D s.0 o s.1 l hy e in
      let i = number_of o (upto_trans f.stands (upto_tail h)) f.path in
      below_join s.0 s.1 (e ∙ ap (λ r. s.0 ++ s.1 ∷ r) (sym xo)) (let n = f.number in subst (λ r. s.1.0 < count X r) (sym xo) (subst (λ k. k < count X o) n i))

module _ (P : Program) (D : Disciplined P) (known : Known (with_rule anything P)) where
  abbrev Q : Program
  Q = with_rule anything P

  DQ : Disciplined Q
  DQ = disciplined_rule P anything D

  module _ (R G0 : Run) (e : Event) (u : ℕ × ℕ) (q : Path) (l : Valid P (e ∷ R)) (g : Rebuilt Q R G0) (rec : AfterForks R G0)
      (ck : AccessesLevelled P.rule (e ∷ R)) (spot : inner R e.path ≡ Branch_of u q) where
    lf : Faithful P (e ∷ R)
    lf = faithful_of P (e ∷ R) l

    lq : Valid Q (e ∷ R)
    lq = valid_rule P anything (λ F E h. refl) (e ∷ R) l

    lg : Faithful Q G0
    lg = faithful_of Q G0 g.valid

    fq : Faithful Q (e ∷ R)
    fq = faithful_of Q (e ∷ R) lq

    module _ {y : Event} {Y : Run} {t : Task} (hy : Upto (y ∷ Y) G0) (ne : Under (u ∷ q) y.path → ⊥) (begun : Begun Q Y e.path t) (cf : Conflict y e) where
      both : Found R y.path y (mine Y y.path) × Unordered y.path e.path
      both = unordered_clash Q DQ known R G0 e u q lq g spot hy ne begun cf

      abbrev yr : Found R y.path y (mine Y y.path)
      yr = both.0

      module _ (gs : Levelled P.rule yr.before y R e) where
        abbrev o1 : Path
        o1 = gs.former.opener

        abbrev o2 : Path
        o2 = gs.latter.opener

        s1 : Stands P D yr.before y.path o1 gs.former.effects
        s1 = stands P D o1 gs.former.effects (faithful_upto P yr.stands lf.1) (let i = gs.former in i.stands)

        s2 : Stands P D R e.path o2 gs.latter.effects
        s2 = stands P D o2 gs.latter.effects lf (let i = gs.latter in i.stands)

        a1 : EntryAt yr.before o1 gs.former.effects
        a1 = entry_at yr.before o1 s1.depth gs.former.effects s1.held

        a2 : EntryAt R o2 gs.latter.effects
        a2 = entry_at R o2 s2.depth gs.latter.effects s2.held

        -- the block of the event was open before the fork
        in_tree : (w : ℕ × ℕ) × (xs : Path) × (e.path ≡ xs ++ w ∷ o2)
        in_tree =
            let h = opener_over Q DQ known R G0 e u q lq g spot (faithful_upto Q yr.stands fq.1) ne gs in
            go h.below h.is
          where
            go : (zs : Path) → q ≡ zs ++ o2 → (w : ℕ × ℕ) × (xs : Path) × (e.path ≡ xs ++ w ∷ o2)
            go zs k =
                let s = snoc u zs in
                let i = inner_path in (
                  s.1,
                  i.0 ++ s.0,
                  i.1 ∙ ap (λ r. i.0 ++ u ∷ r) k ∙ ap (λ r. i.0 ++ r) (ap (λ r. r ++ o2) s.2 ∙ append_assoc s.0 (s.1 ∷ []) o2)
                      ∙ sym (append_assoc i.0 s.0 (s.1 ∷ o2)),
                )
              where
                inner_path : (xs : Path) × (e.path ≡ xs ++ u ∷ q)
                inner_path = let v = inner_under R e.path u q spot in (v.below, v.is)

        abbrev w : ℕ × ℕ
        w = in_tree.0

        abbrev xs : Path
        xs = in_tree.1

        low : count a2.before o2 < w.0
        low = go (cases_order (count a2.before o2) w.0)
          where
            go : (count a2.before o2 ≡ w.0) ⊎ ((count a2.before o2 < w.0) ⊎ (w.0 < count a2.before o2)) → count a2.before o2 < w.0
            go (inl n) =
                let f : ForkAt R o2 w = fork_above P D xs o2 w lf now in_tree.2 in
                let s = same_of o2 a2.stands f.stands a2.path f.path (n ∙ sym f.number) in
                absurd (let z : Do (Enter gs.latter.effects) ≡ Fork f.tasks = sym a2.act ∙ ap (λ v. v.act) s.0 ∙ f.act in cc)
            go (inr (inl n)) = n
            go (inr (inr n)) =
                let b = only_begins P D xs o2 w lf in_tree.2 (mine a2.before o2) a2.event (mine_at o2 a2.stands a2.path) n in
                absurd (let z : Do (Enter gs.latter.effects) ≡ Begin b.0 = sym a2.act ∙ b.1 in cc)

        -- so in the moved run its entry stands before the other event
        entered_there : (v : Event) × (V : Run) × Upto (v ∷ V) Y × (v.path ≡ o2) × (count V o2 ≡ count a2.before o2)
        entered_there =
            let f : ForkAt Y o2 w = begun_fork Q DQ xs e.path o2 w (faithful_upto Q (upto_tail hy) lg) begun in_tree.2 in
            let n = number_of o2 f.stands f.path in
            let m = f.number in
            let i = low in
            numbered Y o2 (count a2.before o2) (omega arith)

        meet : EntryAt yr.before o1 gs.former.effects → EntryAt yr.before o2 gs.latter.effects → above yr.before o2 ≡ Outside → ⊥
        meet a c out = by_order (which a.stands c.stands)
          where
            vy : Valid P yr.before
            vy = valid_upto P (upto_tail yr.stands) l.1

            by_order : Which a.event a.before c.event c.before → ⊥
            by_order (same_one x v) = gs.differ (sym a.path ∙ ap (λ z. z.path) x ∙ c.path)
            by_order (before x) = (let b = gs.barred in never_both P yr.before o1 o2 gs.former.effects gs.latter.effects vy s1.outside out a c x b.0)
            by_order (after x) = (let b = gs.barred in never_both P yr.before o2 o1 gs.latter.effects gs.former.effects vy out s1.outside c a x b.1)

        entered_before : Upto (a2.event ∷ a2.before) yr.before → ⊥
        entered_before h =
            let m = a2.open_since yr.before (upto_tail yr.stands) h in
            let ly = faithful_upto P (upto_tail yr.stands) lf.1 in
            let b = begun_at P o2 ly h a2.path in
            meet a1 (entry_at yr.before o2 m.0 gs.latter.effects m.1)
            (above_same P ly (record { each = λ p. mine_upto p (upto_tail yr.stands) }) o2 b.1 ∙ s2.outside)

        module _ (h : Upto (y ∷ yr.before) a2.before) where
          lb : Faithful P a2.before
          lb = faithful_upto P (upto_tail a2.stands) lf.1

          still : (n : ℕ) × (hold (mine a2.before o1) ≡ In_block n gs.former.effects) → ⊥
          still m =
              let ad : Admitted P a2.before a2.event = admitted_at P a2.stands l.1 in
              let al = ad.follows in
              let c1 : CanEnter P.rule a2.before o2 gs.latter.effects =
              subst (λ r. CanEnter P.rule a2.before r gs.latter.effects) a2.path (ad.enters gs.latter.effects a2.act) in
              let b2 : Begun P a2.before o2 al.task = subst (λ r. Begun P a2.before r al.task) a2.path al.begun in
              let out2 = above_same P lb (record { each = λ p. mine_upto p (upto_tail a2.stands) }) o2 b2 ∙ s2.outside in
              let b1 = begun_at P o1 (faithful_upto P (upto_tail yr.stands) lf.1) a1.stands a1.path in
              let out1 = sym (above_same P (faithful_upto P (upto_tail yr.stands) lf.1) (record { each = λ p. mine_upto p (upto_tail h) }) o1 b1.1) ∙ s1.outside in
              let b = gs.barred in
              true≢false (sym (c1.clear (stands_outside a2.before o2 out2 a2.outside) o1 gs.former.effects
              (opener_stands a2.before o1 gs.former.effects m.0 out1 m.1)) ∙ b.0)

          module _ (x : LeftAt a2.before o1 a1.before) where
            -- the block was left after the access
            after_access : Upto (y ∷ yr.before) x.before
            after_access = go (which h x.stands)
              where
                go : Which y yr.before x.event x.before → Upto (y ∷ yr.before) x.before
                go (before k) = k
                go (same_one a b) = absurd (not_leave cf (subst (λ (v : Event). Leaves v.act) (sym a) x.leaves))
                go (after k) =
                    let n = x.since in
                    let i = earlier_of o1 a1.stands k a1.path x.path n in
                    let m = a1.open_since (x.event ∷ x.before) k (later i) in
                    let z : Out_of ≡ In_block m.0 gs.former.effects = sym x.shut ∙ ap hold (sym (mine_same x.event x.before o1 x.path)) ∙ m.1 in
                    absurd (cc)

            xr : Upto (x.event ∷ x.before) R
            xr = upto_trans x.stands (upto_tail a2.stands)

            x_there : Found G0 o1 x.event (mine x.before o1)
            x_there = found_in o1 (grown_back g) xr x.path

            -- and before the other was entered, on its level, and so in the moved run
            levels : construct_spot x.before x.event ≡ construct_spot a2.before a2.event
            levels =
                let b1 = begun_at P o1 (faithful_upto P (upto_tail yr.stands) lf.1) a1.stands a1.path in
                let same1 : inner yr.before o1 ≡ inner x.before o1 =
                inner_same P (faithful_upto P (upto_tail yr.stands) lf.1) (record { each = λ p. mine_upto p (upto_tail after_access) }) o1 b1.1 in
                let ad : Admitted P a2.before a2.event = admitted_at P a2.stands l.1 in
                let al = ad.follows in
                let same2 : inner a2.before a2.event.path ≡ inner R a2.event.path =
                inner_same P lb (record { each = λ p. mine_upto p (upto_tail a2.stands) }) a2.event.path al.begun in
                leaves_spot x.before x.event.path x.event.act x.leaves ∙ ap (inner x.before) x.path ∙ sym same1 ∙ gs.level ∙ ap (inner R) (sym a2.path)
                ∙ sym same2 ∙ sym (ap (spot_of a2.before a2.event.path) a2.act)

            first : Upto (y ∷ Y) x_there.before
            first =
                let b : Before y.path (count yr.before y.path) x.event.path (count x.before x.event.path) =
                before_leaving P D o1 s1.below lf.1 yr.stands s1.path xr x.path after_access in
                let c : Before y.path (count Y y.path) x.event.path (count x.before x.event.path) =
                subst (λ k. Before y.path k x.event.path (count x.before x.event.path)) (ap length yr.mine_is) b in
                let n : count x.before x.event.path ≡ count x_there.before x.event.path =
                ap (count x.before) x.path ∙ sym (ap length x_there.mine_is) ∙ ap (count x_there.before) (sym x.path) in
                respects_passing Q DQ lg hy x_there.stands (plain_passes Q DQ x.event.act (leaves_plain x.leaves))
                (subst (λ k. Before y.path (count Y y.path) x.event.path k) n c)

            second : Earlier G0 x.event.path (count x.before x.event.path) a2.event.path (count a2.before a2.event.path)
            second = rec.kept x.before a2.before x.event a2.event x.stands a2.stands levels

            left : ⊥
            left =
                let k = second in
                let i : Upto (x.event ∷ x_there.before) k.before = earlier_stands k x_there.stands refl (ap (λ r. count x_there.before r) x.path
                ∙ ap length x_there.mine_is ∙ ap (λ r. count x.before r) (sym x.path)) in
                let v = entered_there in
                let s = same_of o2 k.stands (upto_trans v.2 (upto_tail hy)) (k.path ∙ a2.path) v.3 (ap (λ r. count k.before r) (sym a2.path) ∙ k.number
                ∙ ap (λ r. count a2.before r) a2.path ∙ sym v.4) in
                let a = upto_length first in
                let b = upto_length i in
                let c = upto_length v.2 in
                let d = ap length s.1 in
                absurd (omega arith)

          entered_after : ⊥
          entered_after = ⊎_elim still left (left_at o1 gs.former.effects (upto_trans a1.stands (upto_tail h)) a1.path a1.outside a1.act)

        guarded : ⊥
        guarded = go (which a2.stands yr.stands)
          where
            go : Which a2.event a2.before y yr.before → ⊥
            go (same_one a b) = not_enter gs.latter.effects cf (ap (λ v. v.act) (sym a) ∙ a2.act)
            go (before h) = entered_before h
            go (after h) = entered_after h

      clash : ⊥
      clash = guarded (ck.each R yr.before e y now yr.stands both.1 cf)

    loose_side : Side Q DQ known R G0 e (Branch_of u q) (u ∷ q)
    loose_side = record {
      here = inner_under R e.path u q spot;
      test = λ x v. near_under u q x v;
      down = λ x G t hx n full b. (t, begun_below Q DQ known R G0 e u q lq g spot x G t n b);
      clashes = λ hy ne full b cf. clash hy ne b cf;
      enters_over = λ E F hy ne full b ya ea sy se. refl;
      enters_here = λ E hz b full ea ce. record { clear = λ s r F h. refl };
    }

  pub record Loosely (R : Run) : Type 0 where
    pub rebuilt : Rebuilt Q R (move R)
    pub placed : AfterForks R (move R)

  -- blocks aside, the moved run is a run with each event in its place
  pub loosely : (R : Run) → Valid P R → AccessesLevelled P.rule R → Loosely R
  loosely [] l f = record { rebuilt = nothing_moved Q DQ known; placed = nothing_placed }
  loosely (e ∷ R) l f =
      let less : AccessesLevelled P.rule R = record { each = λ Y X y x hy hx u c. f.each Y X y x (later hy) hx u c } in
      let r = loosely R l.1 less in
      let lq = valid_rule P anything (λ F E h. refl) (e ∷ R) l in
      record {
        rebuilt = moved_next Q DQ known R e lq r.rebuilt (λ u q k. loose_side R (move R) e u q l r.rebuilt r.placed f k);
        placed = placed_next Q DQ R e (faithful_of Q (e ∷ R) lq) r.rebuilt r.placed;
      }
