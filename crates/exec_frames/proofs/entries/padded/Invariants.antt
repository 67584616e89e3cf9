use Rattle.std.proofs.Common.{◌≡◌, length, map}
use Rattle.lang_meaning.specs.Counts.{padded}
use Rattle.exec_frames.specs.Names.{plain_value}
use Rattle.exec_frames.proofs.entries.padded.Given as goal

abbrev pub invariant-loop-at : goal.invariant-loop-at
invariant-loop-at l = (length l.padded ≡ l.at) × (padded l.slots (map plain_value l.padded) ≡ padded l.slots (map plain_value l.fn.values))
