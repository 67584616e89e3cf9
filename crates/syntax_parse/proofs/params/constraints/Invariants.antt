use Rattle.std.proofs.Common.{[], ◌∷◌, length}
use Rattle.syntax_exprs.specs.Counted.{counts}
use Rattle.syntax_grammar.specs.Expecting.{Part, part}
use Rattle.syntax_exprs.specs.Progress.{Reads}
use Rattle.syntax_grammar.specs.Taking.{Listed}
use Rattle.syntax_grammar.specs.Classes.{DerivesConstr}
use Rattle.syntax_exprs.proofs.InOrder.{Onward}
use Rattle.syntax_parse.proofs.params.constraints.Given as goal

abbrev pub invariant-loop-given : goal.invariant-loop-given
invariant-loop-given l = record {
  moves : Reads l.fn.cursor l.cursor;
  onward : Onward (counts l.fn.cursor) (part Part.constraint ∷ part Part.more_constraints ∷ []) l.fn.cursor.rest.now (counts l.cursor) (part Part.more_constraints ∷ []) l.cursor.rest.now;
  derives : Listed DerivesConstr l.fn.cursor.rest.now l.cursor.rest.now l.given;
}

abbrev pub decreases-loop-given : goal.decreases-loop-given
decreases-loop-given l = length l.cursor.rest.now
