use Rattle.std.proofs.Common.{ap, ◌∙◌, map}
use Rattle.std.proofs.lemmas.List.{map-set}
use Rattle.exec_frames.specs.Names.{plain_value}
use Rattle.exec_frames.proofs.values.set_slot.Goals as goal

pub returns-then-at-len : goal.returns-then-at-len
returns-then-at-len c = ap (λ l. map plain_value l) c.set.ensures ∙ map-set plain_value c.args.values.now c.args.at c.args.value
