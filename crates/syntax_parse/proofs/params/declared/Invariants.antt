use Rattle.std.proofs.Common.{[], ◌∷◌, length}
use Rattle.syntax_exprs.specs.Counted.{counts}
use Rattle.syntax_grammar.specs.Expecting.{Part, one, part}
use Rattle.syntax_exprs.specs.Progress.{Reads}
use Rattle.syntax_grammar.specs.Words.{is_name}
use Rattle.syntax_parse.proofs.ParamForms.{Declares}
use Rattle.syntax_exprs.proofs.InOrder.{Onward}
use Rattle.syntax_parse.proofs.params.declared.Given as goal

abbrev pub invariant-loop-list : goal.invariant-loop-list
invariant-loop-list l = record {
  moves : Reads l.fn.cursor l.cursor;
  onward : Onward (counts l.fn.cursor) (part Part.kind ∷ one is_name ∷ part Part.more_declared ∷ []) l.fn.cursor.rest.now (counts l.cursor) (part Part.more_declared ∷ []) l.cursor.rest.now;
  derives : Declares l.fn.cursor.rest.now l.cursor.rest.now l.atomic l.list;
}

abbrev pub decreases-loop-list : goal.decreases-loop-list
decreases-loop-list l = length l.cursor.rest.now
