use Rattle.std.proofs.Common.{◌≡◌, map, drop}
use Rattle.lang_meaning.specs.Elision.{Store as Elided}
use Rattle.exec_frames.specs.Names.{plain_frame}
use Rattle.exec_walker.specs.Stores.{Holds}
use Rattle.exec_walker.specs.States.{plain_level, plain_waiting}
use Rattle.exec_walker.proofs.Making.{makes_from}
use Rattle.exec_walker.proofs.walker.Walker.make_regions.Given as goal
use Rattle.lang_base.specs.declared.outcome.Limits.{Limits}

abbrev pub invariant-loop-region : goal.invariant-loop-region
invariant-loop-region l =
    record {
      items : l.self.level.items ≡ l.fn.self.level.items;
      operands : l.self.level.operands ≡ l.fn.self.level.operands;
      left : l.self.level.frame.left ≡ l.fn.self.level.frame.left;
      waiting : l.self.waiting ≡ l.fn.self.waiting;
      made : (L : Limits) (w : Elided) → Holds L l.fn.self.store w →
          (v : Elided)
          × (makes_from (plain_level l.fn.self.level) (map plain_waiting l.fn.self.waiting) (map (λ region. region.number) l.region-items) (plain_frame l.fn.self.level.frame) w
          ≡ makes_from (plain_level l.fn.self.level) (map plain_waiting l.fn.self.waiting) (map (λ region. region.number) (drop l.region-index l.region-items))
          (plain_frame l.self.level.frame) v)
          × Holds L l.self.store v;
    }
