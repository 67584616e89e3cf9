-- One task more was taken out, or wasn't there.
use Rattle.std.proofs.Common.{◌≡◌, All, sym, ap, subst, ◌∙◌}
use Rattle.std.specs.FinMap.{FinMap}
use Rattle.std.specs.Ordering.{nat_cmp}
use Rattle.code_instrs.specs.Plain.{PlainCode}
use Rattle.exec_machine.specs.declared.away.Away.{Away}
use Rattle.exec_machine.specs.declared.slot.Slot.{Slot}
use Rattle.exec_machine.specs.Away.{CanGoAway, EachCanGo, put_at, put_back}
use Rattle.exec_machine.proofs.Aways.{put_in_again, taken_more, still_go, goes_too}
use Rattle.exec_machine.proofs.slots.Slots.take_each.Goals as goal

pub loop-number-preserved-in_default : goal.loop-number-preserved-in_default
loop-number-preserved-in_default c =
    subst (λ (slots : FinMap nat_cmp Slot). (put_back slots c.loop-number.away.items ≡ c.args.self.now)
    × ((C : PlainCode) → EachCanGo C c.args.self.now → EachCanGo C slots × All (CanGoAway C) c.loop-number.away.items))
    (sym c.in_default.ensures.none) c.loop-number.invariant

pub returns-in-Err-clause-back : goal.returns-in-Err-clause-back
returns-in-Err-clause-back c =
    ap (λ (slots : FinMap nat_cmp Slot). put_back slots c.push.new.self.items)
    (c.put_in.ensures ∙ ap (λ (x : Away). put_at c.take_out.new.self x.number x.slot) c.in-Err.ensures.value_returned
    ∙ put_in_again c.args.self.now c.loop-number.self c.take_out.new.self c.loop-number.away.items _ c.in-Some.slot c.in-Some.ensures.taken)
    ∙ ap (put_back c.loop-number.self) c.in-Err.ensures.items ∙ c.loop-number.invariant.0

pub returns-in-Err-clause-go : goal.returns-in-Err-clause-go
returns-in-Err-clause-go c = λ C each. subst (All (CanGoAway C)) (sym c.in-Err.ensures.items) (c.loop-number.invariant.1 C each).1

pub loop-number-preserved : goal.loop-number-preserved
loop-number-preserved c =
    let out = c.in-Some.ensures.taken in
    let items = c.in_default-push.ensures.items in (
      ap (put_back c.take_out.new.self) items
          ∙ taken_more c.args.self.now c.loop-number.self c.take_out.new.self c.loop-number.away.items _ c.in-Some.slot out c.loop-number.invariant.0,
      λ C each.
          let go = c.loop-number.invariant.1 C each in (
            still_go c.args.self.now c.loop-number.self c.take_out.new.self c.loop-number.away.items _ c.in-Some.slot out C go.0,
            subst (All (CanGoAway C)) (sym items)
                (goes_too c.args.self.now c.loop-number.self c.take_out.new.self c.loop-number.away.items _ c.in-Some.slot out C go.0 go.1),
          ),
    )
