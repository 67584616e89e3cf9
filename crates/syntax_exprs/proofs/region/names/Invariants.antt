use Rattle.std.proofs.Common.{[], ◌∷◌, length}
use Rattle.syntax_exprs.specs.Counted.{counts}
use Rattle.syntax_grammar.specs.Expecting.{Part, part}
use Rattle.syntax_exprs.specs.Progress.{Reads}
use Rattle.syntax_grammar.specs.Taking.{Listed, TakesName}
use Rattle.syntax_exprs.proofs.InOrder.{Onward}
use Rattle.syntax_exprs.proofs.region.names.Given as goal

abbrev pub invariant-loop-names : goal.invariant-loop-names
invariant-loop-names l = record {
  moves : Reads l.fn.cursor l.cursor;
  onward : Onward (counts l.fn.cursor) (part Part.names ∷ []) l.fn.cursor.rest.now (counts l.cursor) (part Part.more_names ∷ []) l.cursor.rest.now;
  derives : Listed TakesName l.fn.cursor.rest.now l.cursor.rest.now l.names;
}

abbrev pub decreases-loop-names : goal.decreases-loop-names
decreases-loop-names l = length l.cursor.rest.now
