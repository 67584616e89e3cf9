use Rattle.std.proofs.Common.{◌<◌, ◌+◌, ◌∙◌, ℕ, List, ap, refl, sym, subst, map, drop, arith}
use Rattle.std.proofs.lemmas.Result.{err_from_is_err_and}
use Rattle.lang_typed.specs.declared.ids.LocalRegion.{LocalRegion}
use Rattle.exec_frames.specs.Names.{plain_frame, plain_local, plain_value}
use Rattle.exec_walker.specs.Stores.{Holds, with_region}
use Rattle.exec_walker.specs.States.{IsOverAt, StandsAt, plain_item, plain_level, plain_waiting}
use Rattle.exec_walker.proofs.Halting.{refused}
use Rattle.exec_walker.proofs.Making.{makes_from, makes_over, next_made, next_number}
use Rattle.exec_frames.proofs.Dropped.{drop_all}
use Rattle.exec_walker.proofs.walker.Walker.make_regions.Goals as goal

pub loop-region-preserved : goal.loop-region-preserved
loop-region-preserved c = record {
  items = c.loop-region.invariant.items;
  operands = c.loop-region.invariant.operands;
  left = c.loop-region.invariant.left;
  waiting = c.loop-region.invariant.waiting;
  made = λ L w h.
      let before = c.loop-region.invariant.made L w h in
      let ticks : 0 < before.0.ticks = omega (arith, before.2.ticks, before.2.steps, before.2.steps_limit, c.loop-region.self.store.within) in (
        with_region before.0,
        before.1
            ∙ next_made (plain_level c.args.self.now.level) (map plain_waiting c.args.self.now.waiting)
            (map (λ (region : LocalRegion). region.number) (drop c.loop-region.region-index c.as_slice-region-items.result.now)) _ _ c.in_ok-number.number
            (plain_frame c.loop-region.self.level.frame) (map plain_local c.set_local.new.locals) before.0 c.set_local.ensures
            (c.in_ok-number.ensures.number L before.0 before.2)
            (next_number c.as_slice-region-items.result.now c.loop-region.region-index _ c.loop-region-test.true) ticks,
        c.in_ok-number.ensures.store L before.0 before.2,
      );
}

pub returns-in_err-number : goal.returns-in_err-number
returns-in_err-number c = λ L w h.
    let g = plain_level c.args.self.now.level in
    let ws = map plain_waiting c.args.self.now.waiting in
    let f = plain_frame c.loop-region.self.level.frame in
    let items = c.as_slice-region-items.result.now in
    let i = c.loop-region.region-index in
    let d : LocalRegion = record { number = 0 } in
    let before = c.loop-region.invariant.made L w h in
    let ticks : 0 < before.0.ticks = omega (arith, before.2.ticks, before.2.steps, before.2.steps_limit, c.loop-region.self.store.within) in
    let out = err_from_is_err_and c.from_residual.result c.from_residual.ensures.1 in
    rw (out.1, out.2) (refused ℕ L c.in_err-number.field-0.0 _ _ (Holds L c.make_region.new.self) (with_region before.0) (c.in_err-number.ensures.store L before.0 before.2) (λ over.
    subst (λ s. IsOverAt L s)
    (sym (ap (λ (xs : List LocalRegion). makes_from g ws (map (λ region. region.number) xs) g.frame w) (sym c.as_slice-region-items.ensures) ∙ before.1
    ∙ next_made g ws (map (λ (region : LocalRegion). region.number) (drop i items)) _ _ before.0.regions f _ before.0 refl refl (next_number items i d c.loop-region-test.true) ticks))
    (makes_over g ws L (map (λ (region : LocalRegion). region.number) (drop (i + 1) items)) _ (with_region before.0) over)))

pub returns : goal.returns
returns c = λ L w h.
    let old = c.args.self.now.level in
    let new = c.loop-region.self.level in
    let g = plain_level old in
    let ws = map plain_waiting c.args.self.now.waiting in
    let f = plain_frame new.frame in
    let before = c.loop-region.invariant.made L w h in
    let none = drop_all c.loop-region.region-index c.as_slice-region-items.result.now c.loop-region-test.false in
    subst (λ s. StandsAt L c.loop-region.self s)
    (sym (ap (λ (xs : List LocalRegion). makes_from g ws (map (λ region. region.number) xs) g.frame w) (sym c.as_slice-region-items.ensures) ∙ before.1
    ∙ ap (λ (xs : List LocalRegion). makes_from g ws (map (λ region. region.number) xs) f before.0) none)) (
      ap (λ is. record g { items = map plain_item is; operands = map plain_value new.operands; frame = f; left = new.frame.left }) c.loop-region.invariant.items
          ∙ ap (λ vs. record g { operands = map plain_value vs; frame = f; left = new.frame.left }) c.loop-region.invariant.operands
          ∙ ap (λ n. record g { frame = f; left = n }) c.loop-region.invariant.left,
      ap (map plain_waiting) c.loop-region.invariant.waiting,
      before.2,
    )
