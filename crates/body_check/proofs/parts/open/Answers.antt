use Rattle.std.proofs.lemmas.Result.{on_ok_weaker}
use Rattle.body_check.proofs.Parting.{opens_noted, opens_declared}
use Rattle.body_check.proofs.parts.open.Goals as goal

pub returns-clause-noted : goal.returns-clause-noted
returns-clause-noted c =
    on_ok_weaker c.declare.result
    (λ _.
    opens_noted c.args.view c.args.var c.args.ty c.args.env.now c.declare_part.new.self c.args.node.now c.note_declaration.new.node c.note_declaration-2.new.node
    c.in_ok-declare_part.ensures.whole c.note_declaration.ensures.node c.note_declaration-2.ensures.node)
    c.declare.ensures.home

pub returns-clause-whole : goal.returns-clause-whole
returns-clause-whole c =
    on_ok_weaker c.declare.result
    (opens_declared c.args.view c.args.var c.args.ty c.args.env.now c.declare_part.new.self c.declare.new.self c.in_ok-declare_part.ensures.whole)
    c.declare.ensures.whole
