use Rattle.std.proofs.Common.{refl, ap, ◌∙◌, map}
use Rattle.exec_frames.specs.Names.{plain_value}
use Rattle.exec_walker.specs.States.{plain_level}
use Rattle.exec_frames.proofs.Dropped.{map_drop}
use Rattle.exec_walker.proofs.walker.Walker.discard.Goals as goal

pub returns : goal.returns
returns c = λ L w h. (
  ap (λ vs. record (plain_level c.args.self.now.level) { operands = vs })
      (ap (map plain_value) c.drop_top.ensures ∙ map_drop plain_value c.args.many c.args.self.now.level.operands),
  refl,
  h,
)
