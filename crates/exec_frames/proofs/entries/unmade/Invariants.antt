use Rattle.std.proofs.Common.{◌≡◌, ℕ, ◌+◌, ◌++◌}
use Rattle.lang_meaning.specs.Regions.{unmade_from}
use Rattle.exec_frames.specs.Names.{locals_by, names_by}
use Rattle.exec_frames.proofs.entries.unmade.Given as goal

abbrev pub invariant-loop-declaration : goal.invariant-loop-declaration
invariant-loop-declaration g l =
    (k : ℕ) → k + l.declaration ≡ l.many
    → locals_by g.reading l.locals ++ unmade_from (names_by g.reading) l.declaration k ≡ unmade_from (names_by g.reading) 0 l.many
