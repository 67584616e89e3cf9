-- Tasks were taken out, have gone further, and were put back.
use Rattle.std.proofs.Common.{All, length, ap, sym, subst, ◌∙◌}
use Rattle.code_instrs.specs.Plain.{plain_code}
use Rattle.exec_machine.specs.Away.{CanGoAway, put_back}
use Rattle.exec_machine.specs.Running.{AllStand}
use Rattle.exec_machine.proofs.Aways.{all_written, each_goes, further_back, stand_further}
use Rattle.exec_machine.proofs.slots.Slots.prepare_some.Goals as goal

pub advance_each-requires-clause-go : goal.advance_each-requires-clause-go
advance_each-requires-clause-go g c = λ κs lives.
    let C = plain_code c.args.code.now in
    let stand = c.requires.stand in
    subst (All (CanGoAway C)) (sym c.as_mut_slice.ensures.value)
    (c.take_each-away.ensures.go C (each_goes C c.args.self.now stand.0 stand.1 stand.2))

pub returns : goal.returns
returns g c = record {
  stand = λ tasks go all.
      let C = plain_code c.args.code.now in
      let away = c.take_each-away.result in
      let same = c.advance_each.ensures.len ∙ ap length c.as_mut_slice.ensures.value in
      let back = ap (put_back c.take_each-away.new.self) c.as_mut_slice.ensures.value ∙ c.take_each-away.ensures.back in
      let put = c.put_each.ensures ∙ ap (put_back c.take_each-away.new.self) (all_written away.len c.advance_each.new.tasks away.items away.ok.0 same) in
      let stand : AllStand C (put_back c.take_each-away.new.self c.as_mut_slice.result.now) tasks = subst (λ slots. AllStand C slots tasks) (sym back) all in
      subst (λ slots. AllStand C slots tasks) (sym put)
      (stand_further C (put_back c.take_each-away.new.self c.as_mut_slice.result.now) tasks go stand (put_back c.take_each-away.new.self c.advance_each.new.tasks)
      (further_back C c.take_each-away.new.self c.as_mut_slice.result.now c.advance_each.new.tasks c.advance_each.ensures.len c.advance_each.ensures.further));
}
