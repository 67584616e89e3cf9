use Rattle.std.proofs.Common.{ap, ◌∙◌, map}
use Rattle.std.proofs.lemmas.List.{map-set}
use Rattle.exec_frames.specs.Names.{plain_local}
use Rattle.exec_walker.proofs.statements.set_local.Goals as goal

pub returns-then-at-len : goal.returns-then-at-len
returns-then-at-len c = ap (λ l. map plain_local l) c.set.ensures ∙ map-set plain_local c.args.locals.now c.args.at (c.args.number, 1)
