use Rattle.body_check.proofs.Parting.{any_whole, known_whole}
use Rattle.body_check.proofs.parts.array_whole.Goals as goal

pub returns-in_ok-ty-in-Known : goal.returns-in_ok-ty-in-Known
returns-in_ok-ty-in-Known c =
    known_whole c.args.array.now c.args.given c.in-Known.made c.in_ok-ty-in-Known.ty c.whole_fault-fault.result c.in-Known.is c.in_ok-ty-in-Known.ensures c.whole_fault-fault.ensures

pub returns-in-Any : goal.returns-in-Any
returns-in-Any c = any_whole c.args.array.now c.args.given c.into_node.result c.in-Any.is c.into_node.ensures
