use Rattle.std.proofs.Common.{refl, ap, ◌∙◌, ◌∷◌}
use Rattle.exec_frames.specs.Names.{plain_value}
use Rattle.exec_walker.specs.States.{plain_level}
use Rattle.exec_frames.proofs.Dropped.{map_drop}
use Rattle.exec_walker.proofs.walker.Walker.give.Goals as goal

pub returns : goal.returns
returns c = λ L w h. (
  ap plain_level c.in_ok-give.ensures
      ∙ ap (λ vs. record (plain_level c.args.self.now.level) { operands = plain_value c.args.value ∷ vs })
      (map_drop plain_value c.args.many c.args.self.now.level.operands),
  refl,
  h,
)
