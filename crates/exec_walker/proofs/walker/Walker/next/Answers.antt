use Rattle.std.proofs.Common.{refl, ap, ◌∙◌, ◌∷◌, map}
use Rattle.exec_frames.specs.Names.{plain_value}
use Rattle.exec_walker.specs.States.{plain_level, plain_item}
use Rattle.exec_frames.proofs.Dropped.{map_drop}
use Rattle.exec_walker.proofs.walker.Walker.next.Goals as goal

pub returns : goal.returns
returns c = λ L w h. (
  ap plain_level c.in_ok-will.ensures
      ∙ ap (λ vs. record (plain_level c.args.self.now.level) { items = plain_item c.args.item ∷ map plain_item c.args.self.now.level.items; operands = vs })
      (ap (map plain_value) c.drop_top.ensures ∙ map_drop plain_value c.args.many c.args.self.now.level.operands),
  refl,
  h,
)
