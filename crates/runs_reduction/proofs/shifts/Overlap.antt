-- Two blocks that are open at once: the rule let the later one by. And where an event of a rebuilt run stands in the run itself.
use Rattle.std.proofs.Common.{◌≡◌, true, false, true≢false, List, ◌∷◌, refl, sym, ap, ◌∙◌, subst}
use Rattle.runs_theory.specs.Actions.{Program}
use Rattle.runs_theory.specs.Blocks.{hold}
use Rattle.runs_theory.specs.Objects.{Effect, Path}
use Rattle.runs_theory.specs.Runs.{Begun, Event, Faithful, Run, Upto, mine}
use Rattle.runs_theory.specs.Standing.{CanEnter, Inside, Outside, Valid, above, joined_by, standing}
use Rattle.runs_theory.proofs.events.Upto.{upto_tail}
use Rattle.runs_theory.proofs.events.Mine.{mine_upto, Found}
use Rattle.runs_theory.proofs.runs.Faithful.{faithful_upto, follows_at}
use Rattle.runs_theory.proofs.runs.Blocks.{EntryAt}
use Rattle.runs_theory.proofs.runs.Standing.{Grows, opener_stands, stands_outside, above_same}
use Rattle.runs_theory.proofs.runs.Written.{faithful_of}
use Rattle.runs_theory.proofs.events.Carry.{begun_at, found_in, grows_upto}
use Rattle.runs_reduction.proofs.shifts.Insertion.{valid_upto, Rebuilt, grown}

pub opener_same : (p q : Path) (E F : List Effect) → Inside p E ≡ Inside q F → p ≡ q
opener_same p q E F k = cc

pub effects_same : (p q : Path) (E F : List Effect) → Inside p E ≡ Inside q F → E ≡ F
effects_same p q E F k = cc

module _ (P : Program) where
  -- an entry while a block of another opener is open
  no_overlap : (Y : Run) (p q : Path) (E F : List Effect) → Valid P Y → above Y p ≡ Outside → above Y q ≡ Outside → (a : EntryAt Y p E) → (b : EntryAt Y q F)
      → Upto (a.event ∷ a.before) b.before → P.rule E F ≡ true
  no_overlap Y p q E F l ap_ aq a b u =
      let lb = valid_upto P b.stands l in
      let fb = faithful_of P b.before lb.1 in
      let up = upto_tail b.stands in
      let grows : Grows b.before Y = record { each = λ r. mine_upto r up } in
      let c = lb.0.enters F b.act in
      let c1 = subst (λ r. CanEnter P.rule b.before r F) b.path c in
      let al = lb.0.follows in
      let bq = subst (λ r. Begun P b.before r al.task) b.path al.begun in
      let bp = begun_at P p fb u a.path in
      let o = a.open_since b.before up u in
      c1.clear (stands_outside b.before q (above_same P fb grows q bq ∙ aq) b.outside) p E
      (opener_stands b.before p E o.0 (above_same P fb grows p bp.1 ∙ ap_) o.1)

  -- so blocks that the rule keeps apart are not
  pub never_both : (Y : Run) (p q : Path) (E F : List Effect) → Valid P Y → above Y p ≡ Outside → above Y q ≡ Outside → (a : EntryAt Y p E)
      → (b : EntryAt Y q F)
      → Upto (a.event ∷ a.before) b.before → P.rule E F ≡ false → ⊥
  never_both Y p q E F l ap_ aq a b u k = true≢false (sym (no_overlap Y p q E F l ap_ aq a b u) ∙ k)

  module _ {R G0 : Run} (l : Faithful P R) (g : Rebuilt P R G0) where
    -- the event in the run
    pub there : {y : Event} {Y : Run} → Upto (y ∷ Y) G0 → Found R y.path y (mine Y y.path)
    there {y} hy = found_in y.path (grown g) hy refl

    -- whoever has begun in both was begun in the same block there
    pub same_above : {y : Event} {Y : Run} → (hy : Upto (y ∷ Y) G0) → (w : Found R y.path y (mine Y y.path)) → above Y y.path ≡ above w.before y.path
    same_above {y} {Y} hy w =
        let lg = faithful_of P G0 g.valid in
        let a = follows_at P hy lg in
        let c = follows_at P w.stands l in
        above_same P (faithful_upto P (upto_tail hy) lg) (grows_upto (upto_tail hy) (grown g)) y.path a.begun
        ∙ sym (above_same P (faithful_upto P (upto_tail w.stands) l) (record { each = λ p. mine_upto p (upto_tail w.stands) }) y.path c.begun)

    pub same_standing : {y : Event} {Y : Run} → (hy : Upto (y ∷ Y) G0) → (w : Found R y.path y (mine Y y.path)) → standing Y y.path ≡ standing w.before y.path
    same_standing {y} {Y} hy w = ap (λ a. joined_by a y.path (hold (mine Y y.path))) (same_above hy w)
        ∙ ap (λ m. joined_by (above w.before y.path) y.path (hold m)) (sym w.mine_is)
