-- A slot that stands at a spot.
use Rattle.std.proofs.Common.{sym}
use Rattle.exec_task.proofs.Spots.{copied_there}
use Rattle.exec_task.proofs.copying.Spot.has.Goals as goal

pub returns : goal.returns
returns c = λ same.
    let look = c.in-Some.ensures.lookup in
    copied_there c.args.copies.now c.args.self.branch c.args.self.at c.args.slot c.in-Some-get.found.now c.in-Some.copied.now look.3.0 look.1
    (sym c.in-Some-get.ensures.value) same
