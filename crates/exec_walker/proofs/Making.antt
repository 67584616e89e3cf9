-- Local regions that are made one after the other, each by a tick.
use Rattle.std.proofs.Common.{◌≡◌, ◌∙◌, ℕ, zero, suc, ◌-◌, ◌<◌, List, [], ◌∷◌, ◌+◌, map, drop, length, get_or, drop-cons, add-one, refl, sym, ap, arith}
use Rattle.std.specs.Prelude.{slice_set}
use Rattle.lang_typed.specs.declared.ids.LocalRegion.{LocalRegion as Declared}
use Rattle.lang_meaning.specs.Actions.{Frame}
use Rattle.lang_meaning.specs.Core.{Done, bind, run}
use Rattle.lang_meaning.specs.Elision.{LocalRegion, Made, Store, one_tick, sequential}
use Rattle.lang_meaning.specs.Statements.{makes}
use Rattle.exec_walker.specs.Walk.{Level, Waiting, State, lands}
use Rattle.exec_walker.specs.Halts.{IsOver}
use Rattle.exec_walker.specs.Stores.{with_region}
use Rattle.exec_walker.specs.States.{IsOverAt}
use Rattle.exec_walker.proofs.OverLimit.{over_later}
use Rattle.lang_base.specs.declared.outcome.Limits.{Limits}

module _ (g : Level) (ws : List Waiting) where
  abbrev pub makes_from : List ℕ → Frame ℕ LocalRegion → Store → State
  makes_from rs f w = lands g (λ v. g.operands) ws (run sequential (makes rs f) w)

  -- with so many ticks
  abbrev ticked_from : ℕ → ℕ → List ℕ → Frame ℕ LocalRegion → Store → State
  ticked_from t r rs f w =
      lands g (λ v. g.operands) ws (bind (bind (one_tick t w) (λ u v. Done (Made v.regions) (record v { regions = suc v.regions })))
      (λ m v. run sequential (makes rs (record f { locals = slice_set f.locals r m })) v))

  ticked_next : (t r : ℕ) (rs : List ℕ) (f : Frame ℕ LocalRegion) (w : Store) → w.ticks ≡ t → 0 < t
      → ticked_from t r rs f w ≡ makes_from rs (record f { locals = slice_set f.locals r (Made w.regions) }) (with_region w)
  ticked_next zero r rs f w e h = absurd (omega arith)
  ticked_next (suc n) r rs f w e h =
      let less : n ≡ w.ticks - 1 = omega arith in
      ap (λ k. makes_from rs (record f { locals = slice_set f.locals r (Made w.regions) }) (record w { regions = suc w.regions; steps = suc w.steps; ticks = k })) less

  pub one_made : (r : ℕ) (rs : List ℕ) (f : Frame ℕ LocalRegion) (w : Store) → 0 < w.ticks
      → makes_from (r ∷ rs) f w ≡ makes_from rs (record f { locals = slice_set f.locals r (Made w.regions) }) (with_region w)
  one_made r rs f w h = ticked_next w.ticks r rs f w refl h

  -- each of them may be the last
  over_ticked : (L : Limits) (t r : ℕ) (rs : List ℕ) (f : Frame ℕ LocalRegion) (w : Store) → IsOver L w
      → ((h : Frame ℕ LocalRegion) (v : Store) → IsOver L v → IsOverAt L (makes_from rs h v)) → IsOverAt L (ticked_from t r rs f w)
  over_ticked L zero r rs f w h next = tt
  over_ticked L (suc n) r rs f w h next =
      next (record f { locals = slice_set f.locals r (Made w.regions) }) (record w { regions = suc w.regions; steps = suc w.steps; ticks = n })
      (over_later L w (record w { regions = suc w.regions; steps = suc w.steps; ticks = n }) (omega arith) (omega arith) h)

  pub makes_over : (L : Limits) (rs : List ℕ) (f : Frame ℕ LocalRegion) (w : Store) → IsOver L w → IsOverAt L (makes_from rs f w)
  makes_over L [] f w h = h
  makes_over L (r ∷ rs) f w h = over_ticked L w.ticks r rs f w h (λ g v k. makes_over L rs g v k)

  -- a frame in which the next of them is made
  pub next_made : (rs ss : List ℕ) (r n : ℕ) (f : Frame ℕ LocalRegion) (ls : List LocalRegion) (w : Store) → ls ≡ slice_set f.locals r (Made n) → n ≡ w.regions
      → rs ≡ r ∷ ss → 0 < w.ticks → makes_from rs f w ≡ makes_from ss (record f { locals = ls }) (with_region w)
  next_made rs ss r n f ls w set number first h =
      ap (λ xs. makes_from xs f w) first ∙ one_made r ss f w h
      ∙ ap (λ xs. makes_from ss (record f { locals = xs }) (with_region w)) (sym (set ∙ ap (λ k. slice_set f.locals r (Made k)) number))

pub next_number : (xs : List Declared) (i : ℕ) (d : Declared) → i < length xs
    → map (λ region. region.number) (drop i xs) ≡ (get_or xs i d).number ∷ map (λ region. region.number) (drop (i + 1) xs)
next_number xs i d h =
    ap (map (λ (region : Declared). region.number)) (drop-cons xs i d h ∙ ap (λ n. get_or xs i d ∷ drop n xs) (sym (add-one i)))
