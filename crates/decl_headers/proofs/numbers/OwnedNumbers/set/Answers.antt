use Rattle.decl_headers.proofs.numbers.OwnedNumbers.set.Goals as goal

pub returns : goal.returns
returns c = λ owner name. c.in_ok-insert.ensures.updates.0 (record { owner = owner; name = name })
