-- An event in a branch of a deterministic construct: nothing that was put after the branch hinders it.
use Rattle.std.proofs.Common.{eq-eqb, ◌≡◌, ℕ, ◌<◌, ◌≤◌, ◌⊎◌, inl, inr, true, false, true≢false, List, [], ◌∷◌, ◌++◌, length, refl, sym, ap, ◌∙◌, subst, arith}
use Rattle.std.proofs.Common.{append_assoc}
use Rattle.std.proofs.lemmas.Bool.{and_from, cases_lt, cond-true, cond-false}
use Rattle.runs_theory.specs.Actions.{Action, Begin, Do, Enter, Program, Rule, Task}
use Rattle.runs_theory.specs.Blocks.{In_block, Out_of, hold}
use Rattle.runs_theory.specs.Meaning.{Disciplined, Known}
use Rattle.runs_theory.specs.Objects.{Effect, Path}
use Rattle.runs_theory.specs.Order.{Before, Conflict, IsPlain, Passes, Related, Unordered, above_fork, across, below_join, first, in_task, neither, one, second}
use Rattle.runs_theory.specs.Runs.{Begun, Event, Faithful, Run, Upto, branch, count, later, mine, now, root}
use Rattle.runs_theory.specs.Standing.{CanEnter, Inside, Outside, Valid, above, joined_by, standing}
use Rattle.runs_reduction.specs.Guarded.{InBlock, Levelled, LevelsGuarded}
use Rattle.runs_reduction.specs.Insertion.{Branch_of, begins_branch, is_under, near}
use Rattle.runs_reduction.specs.Moved.{inner}
use Rattle.runs_theory.proofs.events.Upto.{upto_trans, upto_length, upto_same, upto_tail, upto_two, upto_less, upto_split, Which, which, same_one, before, after}
use Rattle.runs_theory.proofs.events.Mine.{test_same, mine_upto, Found, number_of, numbered}
use Rattle.runs_theory.proofs.events.Places.{Place, equal, under, over, left_of, right_of, beside, place, not_below_self}
use Rattle.runs_theory.proofs.runs.Faithful.{begun_upto, faithful_upto, follows_at, ForkAt}
use Rattle.runs_theory.proofs.order.Between.{fork_passes, plain_passes, respects_passing, order_of}
use Rattle.runs_theory.proofs.events.Cells.{left_plain, right_plain}
use Rattle.runs_theory.proofs.runs.Blocks.{EntryAt, entry_at}
use Rattle.runs_theory.proofs.runs.Standing.{Grows, Opener, opener_of, opener_stands, stands_outside, Joined_by, from_above, own, joined_cases, Adopted, adopted}
use Rattle.runs_theory.proofs.runs.Standing.{above_same, Stands, stands, outside_above, above_out, begun_fork, waits_in}
use Rattle.runs_theory.proofs.runs.Written.{faithful_of}
use Rattle.runs_theory.proofs.events.Carry.{begun_held, found_in, grows_upto}
use Rattle.runs_reduction.proofs.shifts.Under.{Under, under_more, true_of, Split, lies_in, lies_over, split}
use Rattle.runs_reduction.proofs.shifts.Spots.{inner_under, inner_between}
use Rattle.runs_reduction.proofs.shifts.Insertion.{valid_upto, Rebuilt, grown, Side, Bools, yes, no, bools}
use Rattle.runs_reduction.proofs.shifts.Overlap.{never_both, there, same_standing}

-- what is below a branch is near it, and so is its begin
pub near_under : (u : ℕ × ℕ) (q : Path) (x : Event) → Under (u ∷ q) x.path → near (Branch_of u q) x ≡ true
near_under u q x h = cond-true _ _ _ (true_of (u ∷ q) x.path h)

pub near_begin : (u : ℕ × ℕ) (q : Path) (x : Event) → x.path ≡ q → x.act ≡ Begin u.1 → near (Branch_of u q) x ≡ true
near_begin u q x p a = go (bools (is_under x.path (u ∷ q)))
  where
    go : Bools (is_under x.path (u ∷ q)) → near (Branch_of u q) x ≡ true
    go (yes h) = cond-true _ _ _ h
    go (no h) = cond-false _ _ _ h ∙ and_from _ _ (test_same x.path q p) (ap (begins_branch u.1) a ∙ eq-eqb u.1 u.1 refl)

module _ (P : Program) (D : Disciplined P) (known : Known P) (R G0 : Run) (e : Event) (u : ℕ × ℕ) (q : Path) (l : Valid P (e ∷ R)) (g : Rebuilt P R G0)
    (spot : inner R e.path ≡ Branch_of u q) where
  lf : Faithful P (e ∷ R)
  lf = faithful_of P (e ∷ R) l

  lg : Faithful P G0
  lg = faithful_of P G0 g.valid

  abbrev o : Path
  o = u ∷ q

  e_under : Under o e.path
  e_under = inner_under R e.path u q spot

  plain_enter : (a : Action) (E : List Effect) → a ≡ Do (Enter E) → IsPlain a
  plain_enter a E h = subst IsPlain (sym h) tt

  enters_pass : (a : Action) (E : List Effect) → a ≡ Do (Enter E) → Passes a
  enters_pass a E h = plain_passes P D a (plain_enter a E h)

  -- what is before an event of the branch for another task's event outside it is so for the fork of the construct
  from_outside : (y : Path) (k n : ℕ) → (Under o y → ⊥) → Before y k e.path n → Before y k q u.0
  from_outside y k n ne (in_task a b) = absurd (ne (subst (λ r. Under o r) (sym a) e_under))
  from_outside y k n ne (above_fork xs w a b) = go (split e_under.below o xs y w (sym e_under.is ∙ a))
    where
      at : (ys : Path) → u ∷ q ≡ ys ++ w ∷ y → Before y k q u.0
      at [] h = let c : w ≡ u = cc in let d : y ≡ q = cc in in_task d (subst (λ z. k < z.0) c b)
      at (z ∷ ys) h = let d : q ≡ ys ++ w ∷ y = cc in above_fork ys w d b

      go : Split o y w → Before y k q u.0
      go (lies_in h) = absurd (ne h)
      go (lies_over ys h) = at ys h
  from_outside y k n ne (below_join xs w a b) = absurd (ne (under_more o e.path y (xs ++ w ∷ []) e_under (a ∙ sym (append_assoc xs (w ∷ []) e.path))))
  from_outside y k n ne (across xs ys r w v a b c) = go (split e_under.below o ys r v (sym e_under.is ∙ b))
    where
      at : (ws : Path) → u ∷ q ≡ ws ++ v ∷ r → Before y k q u.0
      at [] h = let i : v ≡ u = cc in let d : r ≡ q = cc in below_join xs w (a ∙ ap (λ s. xs ++ w ∷ s) d) (subst (λ z. w.0 < z.0) i c)
      at (z ∷ ws) h = let d : q ≡ ws ++ v ∷ r = cc in across xs ws r w v a d c

      go : Split o r v → Before y k q u.0
      go (lies_in h) = absurd (ne (under_more o r y (xs ++ w ∷ []) h (a ∙ sym (append_assoc xs (w ∷ []) r))))
      go (lies_over ws h) = at ws h

  -- such an event does not stand after the fork
  never_before : {y : Event} {Y : Run} {t : Task} (n : ℕ) → Upto (y ∷ Y) G0 → (Under o y.path → ⊥) → Begun P Y e.path t
      → Before y.path (count Y y.path) e.path n → ⊥
  never_before {y} {Y} n hy ne b bf =
      let f : ForkAt Y q u = begun_fork P D e_under.below e.path q u (faithful_upto P (upto_tail hy) lg) b e_under.is in
      let b2 = from_outside y.path (count Y y.path) n ne bf in
      let b3 = subst (λ k. Before y.path (count Y y.path) q k) (sym f.number) b2 in
      let b4 = subst (λ p. Before y.path (count Y y.path) p (count f.before p)) (sym f.path) b3 in
      let p = upto_length (respects_passing P D lg hy (upto_trans f.stands (upto_tail hy)) (fork_passes P D f.event.act f.tasks f.act) b4) in
      let r = upto_length f.stands in
      absurd (omega arith)

  -- an event after the latest of the branch that conflicts with this one is unordered with it
  pub unordered_clash : {y : Event} {Y : Run} {t : Task} → Upto (y ∷ Y) G0 → (Under o y.path → ⊥) → Begun P Y e.path t → Conflict y e
      → Found R y.path y (mine Y y.path) × Unordered y.path e.path
  unordered_clash {y} {Y} hy ne begun cf = (yr, go (order_of P D lf (later yr.stands) now (left_plain cf) (right_plain cf)))
    where
      yr : Found R y.path y (mine Y y.path)
      yr = there P lf.1 g hy

      go : Related y.path (count yr.before y.path) e.path (count R e.path) → Unordered y.path e.path
      go (one a b) = absurd (ne (subst (λ r. Under o r) (sym a) e_under))
      go (first b) = absurd (never_before (count R e.path) hy ne begun (subst (λ k. Before y.path k e.path (count R e.path)) (ap length yr.mine_is) b))
      go (second b) = let x = upto_length (respects_passing P D lf now (later yr.stands) (plain_passes P D y.act (left_plain cf)) b) in let p =
          upto_length yr.stands in absurd (omega arith)
      go (neither x) = x

  -- where both are guarded on one level, the block of this event was entered around the construct
  pub opener_over : {y : Event} {Y : Run} {rule : Rule} → Faithful P (y ∷ Y) → (Under o y.path → ⊥) → (gs : Levelled rule Y y R e) → Under gs.latter.opener q
  opener_over {y} {Y} ly ne gs = by_place (split s.below gs.latter.opener e_under.below q u (sym s.path ∙ e_under.is))
    where
      s : Stands P D R e.path gs.latter.opener gs.latter.effects
      s = stands P D gs.latter.opener gs.latter.effects lf (let i = gs.latter in i.stands)

      t : Stands P D Y y.path gs.former.opener gs.former.effects
      t = stands P D gs.former.opener gs.former.effects ly (let i = gs.former in i.stands)

      by_place : Split gs.latter.opener q u → Under gs.latter.opener q
      by_place (lies_in h) = h
      by_place (lies_over ys h) =
          let k : inner R gs.latter.opener ≡ Branch_of u q =
          inner_between R s.below gs.latter.opener u q (subst (λ r. inner R r ≡ Branch_of u q) s.path spot) (record { below = ys; is = h }) in
          let v = inner_under Y gs.former.opener u q (gs.level ∙ k) in
          absurd (ne (under_more o gs.former.opener y.path t.below v t.path))

  pub begun_below : (x : Event) (G : Run) (t : Task) → near (Branch_of u q) x ≡ false → Begun P (x ∷ G) e.path t → Begun P G e.path t
  begun_below x G t n (root a b) = root a b
  begun_below x G t n (branch q' u' F f ts B j a b c d i m b1 c1 e1 d1) = at e_under.below e_under.is
    where
      not_near : near (Branch_of u q) x ≡ true → ⊥
      not_near y = true≢false (sym y ∙ n)

      make : (f ≡ x → F ≡ G → Upto (j ∷ B) G → ⊥) → (j ≡ x → ⊥) → Begun P G e.path t
      make nf nj = go (upto_split b1) (upto_split b)
        where
          go : ((j ≡ x) × (B ≡ G)) ⊎ Upto (j ∷ B) G → ((f ≡ x) × (F ≡ G)) ⊎ Upto (f ∷ F) G → Begun P G e.path t
          go (inl y) z = absurd (nj y.0)
          go (inr y) (inl z) = absurd (nf z.0 z.1 y)
          go (inr y) (inr z) = branch q' u' F f ts B j a z c d i m y c1 e1 d1

      at : (xs : Path) → e.path ≡ xs ++ u ∷ q → Begun P G e.path t
      at [] y =
          let z : u ∷ q ≡ u' ∷ q' = sym y ∙ a in
          let uu : u' ≡ u = cc in
          let qq : q' ≡ q = cc in
          make
          (λ fx fg jg. (let v = number_of q' jg c1 in let w = ap (λ S. count S q') fg in absurd (omega arith)))
          (λ jx. not_near (near_begin u q x (ap (λ w. w.path) (sym jx) ∙ c1 ∙ qq) (ap (λ w. w.act) (sym jx) ∙ e1 ∙ ap (λ (w : ℕ × ℕ). Begin w.1) uu)))
      at (w ∷ xs) y =
          let z : w ∷ (xs ++ u ∷ q) ≡ u' ∷ q' = sym y ∙ a in
          let qq : q' ≡ xs ++ u ∷ q = cc in
          make
          (λ fx fg jg. not_near (near_under u q x (record { below = xs; is = ap (λ w. w.path) (sym fx) ∙ c ∙ qq })))
          (λ jx. not_near (near_under u q x (record { below = xs; is = ap (λ w. w.path) (sym jx) ∙ c1 ∙ qq })))

  module _ (ck : LevelsGuarded P.rule (e ∷ R)) where
    -- no event after the latest of the branch conflicts with this one
    clash : {y : Event} {Y : Run} {t : Task} → Upto (y ∷ Y) G0 → (Under o y.path → ⊥) → Begun P Y e.path t → Conflict y e → ⊥
    clash {y} {Y} {t = t0} hy ne begun cf = guarded (ck.accesses R yr.before e y now yr.stands both.1 cf)
      where
        both : Found R y.path y (mine Y y.path) × Unordered y.path e.path
        both = unordered_clash hy ne begun cf

        yr : Found R y.path y (mine Y y.path)
        yr = both.0

        valid_y : Valid P (y ∷ Y)
        valid_y = valid_upto P hy g.valid

        legal_y : Faithful P (y ∷ Y)
        legal_y = faithful_of P (y ∷ Y) valid_y

        grows : Grows Y R
        grows = grows_upto (upto_tail hy) (grown g)

        guarded : Levelled P.rule yr.before y R e → ⊥
        guarded gs = by_own (opener_over (faithful_upto P yr.stands lf.1) ne gs) (joined_cases (above R e.path) e.path (hold (mine R e.path)) i2.opener i2.effects i2.stands)
          where
            i1 : InBlock yr.before y.path
            i1 = gs.former

            i2 : InBlock R e.path
            i2 = gs.latter

            stands_y : standing Y y.path ≡ Inside i1.opener i1.effects
            stands_y = same_standing P lf.1 g hy yr ∙ i1.stands

            t : Stands P D Y y.path i1.opener i1.effects
            t = stands P D i1.opener i1.effects legal_y stands_y

            -- the construct stands inside the block: the blocks do not overlap
            meet : EntryAt Y i1.opener i1.effects → EntryAt Y i2.opener i2.effects → above Y i2.opener ≡ Outside → ⊥
            meet a c out = by_order (which a.stands c.stands)
              where
                by_order : Which a.event a.before c.event c.before → ⊥
                by_order (same_one x v) = gs.differ (sym a.path ∙ ap (λ z. z.path) x ∙ c.path)
                by_order (before x) = (let b = gs.barred in never_both P Y i1.opener i2.opener i1.effects i2.effects valid_y.1 t.outside out a c x b.0)
                by_order (after x) = (let b = gs.barred in never_both P Y i2.opener i1.opener i2.effects i1.effects valid_y.1 out t.outside c a x b.1)

            by_own : Under i2.opener q → Joined_by (above R e.path) e.path (hold (mine R e.path)) i2.opener i2.effects → ⊥
            by_own h (own n k p hh) =
                let c : q ≡ (h.below ++ e_under.below) ++ u ∷ q =
                h.is ∙ ap (λ r. h.below ++ r) (sym p ∙ e_under.is) ∙ sym (append_assoc h.below e_under.below (u ∷ q)) in
                not_below_self q (h.below ++ e_under.below) u c
            by_own h (from_above k) =
                let a : Adopted Y e.path i2.opener i2.effects = adopted Y e.path i2.opener i2.effects (above_same P legal_y.1 grows e.path begun ∙ k) in
                let held : hold (mine Y i2.opener) ≡ In_block a.depth i2.effects =
                waits_in P D a.below i2.opener a.fork lf a.path legal_y.1 grows begun ∙ a.held in
                meet (entry_at Y i1.opener t.depth i1.effects t.held) (entry_at Y i2.opener a.depth i2.effects held) a.outside

    -- nor does an entry there
    enter_over : {y : Event} {Y : Run} {t : Task} (E F : List Effect) → Upto (y ∷ Y) G0 → (Under o y.path → ⊥) → Begun P Y e.path t → y.act ≡ Do (Enter F)
        → e.act ≡ Do (Enter E) → standing Y y.path ≡ Outside → standing R e.path ≡ Outside → P.rule E F ≡ true
    enter_over {y} {Y} E F hy ne begun ya ea sy se = go (order_of P D lf (later yr.stands) now (plain_enter y.act F ya) (plain_enter e.act E ea))
      where
        yr : Found R y.path y (mine Y y.path)
        yr = there P lf.1 g hy

        go : Related y.path (count yr.before y.path) e.path (count R e.path) → P.rule E F ≡ true
        go (one a b) = absurd (ne (subst (λ r. Under o r) (sym a) e_under))
        go (first b) = absurd (never_before (count R e.path) hy ne begun (subst (λ k. Before y.path k e.path (count R e.path)) (ap length yr.mine_is) b))
        go (second b) = let x = upto_length (respects_passing P D lf now (later yr.stands) (enters_pass y.act F ya) b) in let p =
            upto_length yr.stands in absurd (omega arith)
        go (neither x) =
            let c = ck.entries R yr.before e y F E now yr.stands x ya ea (sym (same_standing P lf.1 g hy yr) ∙ sy) se
            (λ k. ne (inner_under yr.before y.path u q (k ∙ spot))) in
            c.1

    -- where it may enter in the run it may enter after the latest of the branch
    enter_here : {Z : Run} {t : Task} (E : List Effect) → Upto Z G0 → Begun P Z e.path t → ((r : Path) → Under o r → mine Z r ≡ mine R r)
        → e.act ≡ Do (Enter E) → CanEnter P.rule R e.path E → CanEnter P.rule Z e.path E
    enter_here {Z} {t = t0} E hz begun full ea ce = record { clear = λ w r F h. at w r F (opener_of Z r F h) }
      where
        legal_z : Faithful P Z
        legal_z = faithful_upto P hz lg

        grows : Grows Z R
        grows = grows_upto hz (grown g)

        at : standing Z e.path ≡ Outside → (r : Path) (F : List Effect) → Opener Z r F → P.rule F E ≡ true
        at w r F h = by_count (cases_lt (count Z r) (count R r))
          where
            br : (t : Task) × Begun P Z r t
            br = begun_held P Z r h.depth F legal_z h.held

            up_r : above Z r ≡ above R r
            up_r = above_same P legal_z grows r br.1

            out_z : above Z e.path ≡ Outside
            out_z = outside_above _ _ _ w

            out_e : standing R e.path ≡ Outside
            out_e = ap (λ a. joined_by a e.path (hold (mine R e.path))) (sym (above_same P legal_z grows e.path begun))
                ∙ ap (λ m. joined_by (above Z e.path) e.path (hold m)) (sym (full e.path e_under)) ∙ w

            more : count Z r < count R r → P.rule F E ≡ true
            more n = by_event (numbered G0 r (count Z r) (subst (λ m. count Z r < length m) (sym (g.same r)) n))
              where
                by_event : (y : Event) × (Y : Run) × Upto (y ∷ Y) G0 × (y.path ≡ r) × (count Y r ≡ count Z r) → P.rule F E ≡ true
                by_event v = by_place (place r e.path)
                  where
                    y : Event
                    y = v.0

                    Y : Run
                    Y = v.1

                    hy : Upto (y ∷ Y) G0
                    hy = v.2

                    yp : y.path ≡ r
                    yp = v.3

                    not_o : Under o r → ⊥
                    not_o k = let c = ap length (full r k) in absurd (omega arith)

                    ne : Under o y.path → ⊥
                    ne k = not_o (subst (λ p. Under o p) yp k)

                    z_in_y : Upto Z Y
                    z_in_y = go (upto_two hz (upto_tail hy))
                      where
                        go : Upto Z Y ⊎ Upto Y Z → Upto Z Y
                        go (inl k) = k
                        go (inr k) = up (upto_two hy hz)
                          where
                            up : Upto (y ∷ Y) Z ⊎ Upto Z (y ∷ Y) → Upto Z Y
                            up (inl j) = let a = number_of r j yp in let b = v.4 in absurd (omega arith)
                            up (inr j) = upto_less j (λ k. (let a = number_of {x = y} {X = Y} {Y = y ∷ Y} r now yp in let b = v.4 in
                                let c = ap (λ S. count S r) k in absurd (omega arith)))

                    begun_y : Begun P Y e.path t0
                    begun_y = begun_upto z_in_y begun

                    a : EntryAt Z r F
                    a = entry_at Z r h.depth F h.held

                    ar : Found R r a.event (mine a.before r)
                    ar = found_in r grows a.stands a.path

                    apass : Passes a.event.act
                    apass = enters_pass a.event.act F a.act

                    out_a : standing ar.before r ≡ Outside
                    out_a =
                        let al = follows_at P ar.stands lf.1 in
                        let up = above_same P (faithful_upto P (upto_tail ar.stands) lf.1) (record { each = λ p. mine_upto p (upto_tail ar.stands) }) r
                        (subst (λ p. Begun P ar.before p al.task) a.path al.begun) in
                        stands_outside ar.before r (up ∙ sym up_r ∙ h.outside) (ap hold ar.mine_is ∙ a.outside)

                    by_place : Place r e.path → P.rule F E ≡ true
                    by_place (equal k) = absurd (not_o (subst (λ p. Under o p) (sym k) e_under))
                    by_place (under xs x k) = absurd (not_o (under_more o e.path r (xs ++ x ∷ []) e_under (k ∙ sym (append_assoc xs (x ∷ []) e.path))))
                    by_place (over xs x k) =
                        let c = waits_in P D xs r x lf k legal_z grows begun in
                        let d = above_out Z xs r x (subst (λ p. above Z p ≡ Outside) k out_z) in
                        absurd (let z : Out_of ≡ In_block h.depth F = sym d ∙ sym c ∙ h.held in cc)
                    by_place (left_of xs ys s x z k m n) = absurd (never_before (count R e.path) hy ne begun_y (across xs ys s x z (yp ∙ k) m n))
                    by_place (right_of xs ys s x z k m n) =
                        let c = upto_length (respects_passing P D lf now (later ar.stands) apass (across ys xs s z x m (a.path ∙ k) n)) in
                        let d = upto_length ar.stands in
                        absurd (omega arith)
                    by_place (beside b) =
                        let c = ck.entries R ar.before e a.event F E now ar.stands (subst (λ p. Unordered p e.path) (sym a.path) b) a.act ea
                        (subst (λ p. standing ar.before p ≡ Outside) (sym a.path) out_a) out_e
                        (λ k. not_o (subst (λ p. Under o p) a.path (inner_under ar.before a.event.path u q (k ∙ spot)))) in
                        c.0

            by_count : (count Z r < count R r) ⊎ (count R r ≤ count Z r) → P.rule F E ≡ true
            by_count (inl n) = more n
            by_count (inr n) =
                let c = upto_length (grows.each r) in
                let m = upto_same (grows.each r) (omega arith) in
                ce.clear out_e r F (opener_stands R r F h.depth (sym up_r ∙ h.outside) (ap hold (sym m) ∙ h.held))

    pub branch_side : Side P D known R G0 e (Branch_of u q) (u ∷ q)
    branch_side = record {
      here = e_under;
      test = λ x v. near_under u q x v;
      down = λ x G t hx n full b. (t, begun_below x G t n b);
      clashes = λ hy ne full b cf. clash hy ne b cf;
      enters_over = λ E F hy ne full b ya ea sy se. enter_over E F hy ne b ya ea sy se;
      enters_here = λ E hz b full ea ce. enter_here E hz b full ea ce;
    }
