-- An event inside a block: nothing that was put after the latest event of its block hinders it there.
use Rattle.std.proofs.Common.{◌≡◌, ℕ, ◌⊎◌, inl, inr, List, [], ◌∷◌, ◌++◌, length, sym, ap, ◌∙◌, subst, arith, append_assoc}
use Rattle.runs_theory.specs.Actions.{Program, Task}
use Rattle.runs_theory.specs.Blocks.{In_block, hold}
use Rattle.runs_theory.specs.Meaning.{Disciplined, Known}
use Rattle.runs_theory.specs.Objects.{Effect, Path}
use Rattle.runs_theory.specs.Order.{Before, Conflict, IsPlain, Passes, Related, above_fork, across, below_join, first, in_task, neither, one, second}
use Rattle.runs_theory.specs.Runs.{Begun, Event, Faithful, Run, Upto, branch, count, later, mine, now, root}
use Rattle.runs_theory.specs.Standing.{Inside, Outside, Valid, above, joined_by, standing}
use Rattle.runs_reduction.specs.Guarded.{Barred, ConflictsGuarded, Guarded, InBlock}
use Rattle.runs_reduction.specs.Insertion.{All_of}
use Rattle.runs_theory.proofs.events.Upto.{upto_trans, upto_length, upto_tail, Which, which, same_one, before, after}
use Rattle.runs_theory.proofs.events.Mine.{path_cases, mine_at, Found, found}
use Rattle.runs_theory.proofs.runs.Faithful.{faithful_upto, same_task}
use Rattle.runs_theory.proofs.order.Between.{plain_passes, respects, respects_passing, order_of}
use Rattle.runs_theory.proofs.events.Cells.{left_plain, right_plain}
use Rattle.runs_theory.proofs.runs.Blocks.{EntryAt, entry_at}
use Rattle.runs_theory.proofs.runs.Standing.{Grows, above_same, Stands, stands}
use Rattle.runs_theory.proofs.runs.Written.{faithful_of}
use Rattle.runs_theory.proofs.events.Carry.{agree_of, begun_at, begun_held, grows_upto}
use Rattle.runs_reduction.proofs.shifts.Under.{Under, under_self, under_tail, under_more, true_of, Split, lies_in, lies_over, split}
use Rattle.runs_reduction.proofs.shifts.Insertion.{valid_upto, Rebuilt, grown, Side}
use Rattle.runs_reduction.proofs.shifts.Overlap.{opener_same, effects_same, never_both, there, same_standing}

module _ (P : Program) (D : Disciplined P) (known : Known P) (R G0 : Run) (e : Event) (o : Path) (E : List Effect) (l : Valid P (e ∷ R)) (g : Rebuilt P R G0)
    (gd : ConflictsGuarded P.rule (e ∷ R)) (inside : standing R e.path ≡ Inside o E) where
  lf : Faithful P (e ∷ R)
  lf = faithful_of P (e ∷ R) l

  lg : Faithful P G0
  lg = faithful_of P G0 g.valid

  s : Stands P D R e.path o E
  s = stands P D o E lf inside

  e_under : Under o e.path
  e_under = record { below = s.below; is = s.path }

  -- the tasks of the block have all their events in this run
  abbrev Complete : Run → Type 0
  Complete G = (q : Path) → Under o q → mine G q ≡ mine R q

  -- what is before an event of the block, for another task's event outside it, is before every event of the opener
  from_outside : (y : Path) (k n m : ℕ) → (Under o y → ⊥) → Before y k e.path n → Before y k o m
  from_outside y k n m ne (in_task a b) = absurd (ne (subst (λ r. Under o r) (sym a) e_under))
  from_outside y k n m ne (above_fork xs u a b) = go (split s.below o xs y u (sym s.path ∙ a))
    where
      go : Split o y u → Before y k o m
      go (lies_in h) = absurd (ne h)
      go (lies_over ys h) = above_fork ys u h b
  from_outside y k n m ne (below_join xs u a b) = absurd (ne (under_more o e.path y (xs ++ u ∷ []) e_under (a ∙ sym (append_assoc xs (u ∷ []) e.path))))
  from_outside y k n m ne (across xs ys r u v a b c) = go (split s.below o ys r v (sym s.path ∙ b))
    where
      go : Split o r v → Before y k o m
      go (lies_in h) = absurd (ne (under_more o r y (xs ++ u ∷ []) h (a ∙ sym (append_assoc xs (u ∷ []) r))))
      go (lies_over ws h) = across xs ws r u v a h c

  -- no event after the latest of the block conflicts with this one
  clash : {y : Event} {Y : Run} → Upto (y ∷ Y) G0 → (Under o y.path → ⊥) → Complete Y → Conflict y e → ⊥
  clash {y} {Y} hy ne full cf = go (order_of P D lf (later yr.stands) now (left_plain cf) (right_plain cf))
    where
      yr : Found R y.path y (mine Y y.path)
      yr = there P lf.1 g hy

      valid_y : Valid P (y ∷ Y)
      valid_y = valid_upto P hy g.valid

      faithful_y : Faithful P (y ∷ Y)
      faithful_y = faithful_of P (y ∷ Y) valid_y

      entered : EntryAt Y o E
      entered = entry_at Y o s.depth E (ap hold (full o (under_self o)) ∙ s.held)

      enter_passes : Passes entered.event.act
      enter_passes = plain_passes P D entered.event.act (subst IsPlain (sym entered.act) tt)

      never_before : Before y.path (count yr.before y.path) e.path (count R e.path) → ⊥
      never_before b =
          let b1 = from_outside y.path (count yr.before y.path) (count R e.path) (count entered.before o) ne b in
          let b2 = subst (λ k. Before y.path k o (count entered.before o)) (ap length yr.mine_is) b1 in
          let b3 = subst (λ q. Before y.path (count Y y.path) q (count entered.before q)) (sym entered.path) b2 in
          let p = upto_length (respects_passing P D lg hy (upto_trans entered.stands (upto_tail hy)) enter_passes b3) in
          let q = upto_length entered.stands in
          absurd (omega arith)

      guarded : Guarded P.rule yr.before y R e → ⊥
      guarded gs = meet (entry_at Y i.opener t.depth i.effects t.held)
        where
          i : InBlock yr.before y.path
          i = gs.former

          grows : Grows Y R
          grows = grows_upto (upto_tail hy) (grown g)

          t : Stands P D Y y.path i.opener i.effects
          t = stands P D i.opener i.effects faithful_y (same_standing P lf.1 g hy yr ∙ i.stands)

          above_o : above Y o ≡ Outside
          above_o = (let b = begun_at P o faithful_y.1 entered.stands entered.path in above_same P faithful_y.1 grows o b.1 ∙ s.outside)

          same_block : Inside gs.latter.opener gs.latter.effects ≡ Inside o E
          same_block = (let k = gs.latter in sym k.stands ∙ inside)

          two_blocks : i.opener ≡ gs.latter.opener → ⊥
          two_blocks k =
              let oo : gs.latter.opener ≡ o = opener_same gs.latter.opener o gs.latter.effects E same_block in
              ne (record { below = t.below; is = t.path ∙ ap (λ q. t.below ++ q) (k ∙ oo) })

          barred : Barred P.rule i.effects E
          barred = (let ee : gs.latter.effects ≡ E = effects_same gs.latter.opener o gs.latter.effects E same_block in
              subst (λ F. Barred P.rule i.effects F) ee (gs.barred two_blocks))

          meet : EntryAt Y i.opener i.effects → ⊥
          meet a = by_order (which a.stands entered.stands)
            where
              by_order : Which a.event a.before entered.event entered.before → ⊥
              by_order (same_one u v) = ne (record { below = t.below; is = t.path ∙ ap (λ q. t.below ++ q) (sym a.path ∙ ap (λ z. z.path) u ∙ entered.path) })
              by_order (before u) = never_both P Y i.opener o i.effects E valid_y.1 t.outside above_o a entered u barred.0
              by_order (after u) = never_both P Y o i.opener E i.effects valid_y.1 above_o t.outside entered a u barred.1

      go : Related y.path (count yr.before y.path) e.path (count R e.path) → ⊥
      go (one a b) = ne (subst (λ r. Under o r) (sym a) e_under)
      go (first b) = never_before b
      go (second b) = let u = upto_length (respects P D lf now (later yr.stands) (left_plain cf) b) in let p = upto_length yr.stands in absurd (omega arith)
      go (neither u) = guarded (gd.each R yr.before e y now yr.stands u cf)

  -- a branch of a task in the block has its fork there; the opener itself has made its entry
  begun_there : {Z : Run} {t : Task} → Upto Z G0 → Complete Z → Begun P R e.path t → Begun P Z e.path t
  begun_there hz full (root p c) = root p c
  begun_there {Z} {t} hz full (branch q u F f ts B h p b c d r i b1 c1 e1 d1) = go (path_cases e.path o)
    where
      go : (e.path ≡ o) ⊎ (e.path ≡ o → ⊥) → Begun P Z e.path t
      go (inl k) =
          let hz1 : hold (mine Z e.path) ≡ In_block s.depth E = ap hold (full e.path e_under) ∙ ap (λ r. hold (mine R r)) k ∙ s.held in
          let bz = begun_held P Z e.path s.depth E (faithful_upto P hz lg) hz1 in
          let same : bz.0 ≡ t = same_task (agree_of (grows_upto hz (grown g))) bz.1 (branch q u F f ts B h p b c d r i b1 c1 e1 d1) in
          subst (λ t. Begun P Z e.path t) same bz.1
      go (inr k) =
          let uq = under_tail o q u (subst (λ r. Under o r) p e_under) (λ r. k (p ∙ r)) in
          let mq = full q uq in
          let f1 = found Z q (subst (λ m. Upto (f ∷ mine F q) m) (sym mq) (mine_at q b c)) in
          let f2 = found Z q (subst (λ m. Upto (h ∷ mine B q) m) (sym mq) (mine_at q b1 c1)) in
          branch q u f1.before f ts f2.before h p f1.stands c (ap length f1.mine_is ∙ d) r i f2.stands c1 e1 (ap length f2.mine_is ∙ d1)

  pub block_side : Side P D known R G0 e (All_of o) o
  block_side = record {
    here = e_under;
    test = λ x v. true_of o x.path v;
    down = λ x G t hx n full b. (l.0.follows.task, begun_there (upto_tail hx) full l.0.follows.begun);
    clashes = λ hy ne full b cf. clash hy ne full cf;
    enters_over = λ F F' hy ne full b ya ea sy se. absurd (let z : Inside o E ≡ Outside = sym inside ∙ se in cc);
    enters_here = λ {Z} F hz b full ea ce. record { clear = λ w q F' h. absurd (let z : Inside o E ≡ Outside = sym (stands_z Z hz full b) ∙ w in cc) };
  }
    where
      stands_z : (Z : Run) {t : Task} → Upto Z G0 → Complete Z → Begun P Z e.path t → standing Z e.path ≡ Inside o E
      stands_z Z hz full b =
          ap (λ a. joined_by a e.path (hold (mine Z e.path))) (above_same P (faithful_upto P hz lg) (grows_upto hz (grown g)) e.path b)
          ∙ ap (λ m. joined_by (above R e.path) e.path (hold m)) (full e.path e_under) ∙ inside
