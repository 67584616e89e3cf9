use Rattle.std.proofs.Common.{◌≡◌, ◌-◌, ◌∷◌, map, take, drop, reverse}
use Rattle.exec_frames.specs.Names.{plain_value}
use Rattle.exec_frames.proofs.entries.call_values.Given as goal

abbrev pub invariant-loop-at : goal.invariant-loop-at
invariant-loop-at l =
    map plain_value l.values ≡ plain_value l.fn.receiver ∷ map plain_value (reverse (drop (l.many - l.at) (take l.many l.stack)))
