-- A loop over parts, by what it is over.
use Rattle.std.specs.Prelude.{ℕ, ◌+◌, List, drop}
use Rattle.lang_base.specs.declared.place.Place.{Place}
use Rattle.lang_typed.specs.declared.stmt.PartSource.{PartSource}
use Rattle.lang_typed.specs.declared.stmt.PartSource.TheVariants as source
use Rattle.lang_typed.specs.Plain.{TypedStmt}
use Rattle.lang_meaning.specs.Actions.{Look}
use Rattle.lang_meaning.specs.Counts.{reference, slot_value}
use Rattle.lang_meaning.specs.Elision.{Store, after}
use Rattle.lang_meaning.specs.Statements.{part_begun, part_taken_over, with_value}
use Rattle.exec_walker.specs.Walk.{Level, Waiting, State, or_null, parts_at, with_length}

-- the slots of a part up to its count, by what it is a part of
abbrev pub parts_begun : ℕ → PartSource → Level → Level
parts_begun k (source.Array a) g = record g { operands = drop 1 g.operands; frame = part_begun k (slot_value g.operands 0) g.frame }
parts_begun k (source.Part j) g = record g { frame = part_taken_over k j.number g.frame }

-- a loop over parts, whose count is taken
abbrev pub parts_from : Place → ℕ → PartSource → TypedStmt → Level → List Waiting → Store → State
parts_from at k (source.Array a) s g ws w =
    or_null at (reference (slot_value g.frame.values k)) ws w (λ n. parts_at at k s (with_length k n w g) ws (after (Look n) w))
parts_from at k (source.Part j) s g ws w = parts_at at k s (record g { frame = with_value g.frame (k + 2) (slot_value g.frame.values (j.number + 2)) }) ws w
