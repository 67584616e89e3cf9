use Rattle.std.proofs.Common.{◌≡◌, [], ◌∷◌, length}
use Rattle.syntax_exprs.specs.Counted.{counts}
use Rattle.syntax_grammar.specs.Expecting.{Part, part}
use Rattle.syntax_exprs.specs.Progress.{Reads}
use Rattle.syntax_grammar.specs.Taking.{Listed}
use Rattle.syntax_grammar.specs.Paths.{DerivesRpl}
use Rattle.syntax_exprs.proofs.InOrder.{Onward}
use Rattle.syntax_exprs.proofs.region.paths.Given as goal

abbrev pub invariant-loop-paths : goal.invariant-loop-paths
invariant-loop-paths l = record {
  moves : Reads l.fn.cursor l.cursor;
  onward : Onward (counts l.fn.cursor) (part Part.path ∷ part Part.more_paths ∷ []) l.fn.cursor.rest.now (counts l.cursor) (part Part.more_paths ∷ []) l.cursor.rest.now;
  same : l.cursor.joined ≡ l.fn.cursor.joined;
  derives : Listed DerivesRpl l.fn.cursor.rest.now l.cursor.rest.now l.paths;
}

abbrev pub decreases-loop-paths : goal.decreases-loop-paths
decreases-loop-paths l = length l.cursor.rest.now
