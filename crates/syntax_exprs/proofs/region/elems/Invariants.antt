use Rattle.std.proofs.Common.{◌≤◌, [], ◌∷◌, length}
use Rattle.syntax_exprs.specs.Counted.{counts}
use Rattle.syntax_grammar.specs.Expecting.{Part, part}
use Rattle.syntax_exprs.specs.Progress.{Keeps}
use Rattle.syntax_grammar.specs.Taking.{Many}
use Rattle.syntax_grammar.specs.Paths.{DerivesNext}
use Rattle.syntax_exprs.proofs.InOrder.{Onward}
use Rattle.syntax_exprs.proofs.region.elems.Given as goal

abbrev pub invariant-loop-elems : goal.invariant-loop-elems
invariant-loop-elems l = record {
  moves : Keeps l.fn.cursor l.cursor;
  onward : Onward (counts l.fn.cursor) (part Part.elems ∷ []) l.fn.cursor.rest.now (counts l.cursor) (part Part.elems ∷ []) l.cursor.rest.now;
  derives : Many DerivesNext l.fn.cursor.rest.now l.cursor.rest.now l.elems;
  few : l.cursor.joined ≤ 32;
}

abbrev pub decreases-loop-elems : goal.decreases-loop-elems
decreases-loop-elems l = length l.cursor.rest.now
