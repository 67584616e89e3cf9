use Rattle.std.proofs.Common.{◌≡◌, ◌++◌, map, drop}
use Rattle.lang_meaning.specs.Counts.{assigned}
use Rattle.exec_frames.specs.Names.{plain_value}
use Rattle.exec_walker.specs.States.{plain_given}
use Rattle.exec_walker.proofs.waiting.Fork.give_back.Given as goal

abbrev pub invariant-loop-copied : goal.invariant-loop-copied
invariant-loop-copied l =
    record {
      back : map plain_given l.self.back ++ assigned (map (λ slot. slot.number) (drop l.copied-index l.copied-items)) (map plain_value l.values)
          ≡ map plain_given l.fn.self.back ++ assigned (map (λ slot. slot.number) l.copied-items) (map plain_value l.values);
      kept : l.self ≡ record l.fn.self { back = l.self.back };
    }
