use Rattle.std.proofs.Common.{◌≡◌, All}
use Rattle.code_instrs.specs.Plain.{PlainCode}
use Rattle.exec_machine.specs.Away.{CanGoAway, EachCanGo, put_back}
use Rattle.exec_machine.proofs.slots.Slots.take_each.Given as goal

abbrev pub invariant-loop-number : goal.invariant-loop-number
invariant-loop-number l =
    (put_back l.self l.away.items ≡ l.fn.self) × ((C : PlainCode) → EachCanGo C l.fn.self → EachCanGo C l.self × All (CanGoAway C) l.away.items)
