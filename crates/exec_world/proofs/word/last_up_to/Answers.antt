-- The lowest bit of those up to a place.
use Rattle.exec_world.proofs.Bits.{none_up_to, last_kept}
use Rattle.exec_world.proofs.word.last_up_to.Goals as goal

pub returns-then-rest-eq0 : goal.returns-then-rest-eq0
returns-then-rest-eq0 c = none_up_to c.args.word c.args.place c.requires c.if-rest-eq0.true

pub returns : goal.returns
returns c = last_kept c.args.word c.args.place c.last_place.result c.requires c.last_place.ensures
