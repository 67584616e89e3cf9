use Rattle.std.proofs.Common.{◌≤◌, [], ◌∷◌, length}
use Rattle.syntax_tree.specs.Plain.{plain_expr}
use Rattle.syntax_grammar.specs.Expecting.{Part, part}
use Rattle.syntax_grammar.specs.Expressions.{DerivesPostfix}
use Rattle.syntax_exprs.specs.Onward.{ReadsOn}
use Rattle.syntax_exprs.specs.Progress.{Reads}
use Rattle.syntax_grammar.specs.Reading.{ending_of}
use Rattle.syntax_exprs.specs.Targets.{stmt_begins}
use Rattle.syntax_exprs.proofs.exprs.target.Given as goal

abbrev pub invariant-loop-alloc : goal.invariant-loop-alloc
invariant-loop-alloc l = record {
  moves : Reads l.fn.cursor l.cursor;
  few : l.cursor.joined ≤ 32;
  onward : ReadsOn (stmt_begins l.fn.cursor.rest.now) l.fn.cursor (part (Part.selected_then (ending_of (plain_expr l.found))) ∷ []) l.cursor;
  derives : DerivesPostfix (ending_of (plain_expr l.found)) l.fn.cursor.rest.now l.cursor.rest.now (plain_expr l.found);
}

abbrev pub decreases-loop-alloc : goal.decreases-loop-alloc
decreases-loop-alloc l = length l.cursor.rest.now
