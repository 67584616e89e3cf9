use Rattle.std.proofs.Common.{◌≤◌, ◌+◌, ◌*◌, [], ◌∷◌, length}
use Rattle.syntax_tree.specs.Plain.{plain_expr}
use Rattle.syntax_exprs.specs.Progress.{Reads, Keeps}
use Rattle.syntax_grammar.specs.Taking.{Listed}
use Rattle.syntax_grammar.specs.Reading.{DerivesExprTree, DerivesSelections}
use Rattle.syntax_exprs.specs.Counted.{counts}
use Rattle.syntax_grammar.specs.Expecting.{Part, part}
use Rattle.syntax_exprs.specs.Onward.{ReadsOn}
use Rattle.syntax_exprs.proofs.parts.OperatorParts.{Climbs}
use Rattle.syntax_grammar.proofs.Ops.{Grouped}
use Rattle.syntax_exprs.proofs.exprs.+exprs.Given as goal

abbrev pub decreases-listed : goal.decreases-listed
decreases-listed l = 6 * length l.cursor.now.rest.now + 5

abbrev pub decreases-expr : goal.decreases-expr
decreases-expr l = 6 * length l.cursor.now.rest.now + 4

abbrev pub decreases-operators : goal.decreases-operators
decreases-operators l = 6 * length l.cursor.now.rest.now + 3

abbrev pub decreases-unary : goal.decreases-unary
decreases-unary l = 6 * length l.cursor.now.rest.now + 2

abbrev pub decreases-created : goal.decreases-created
decreases-created l = 6 * length l.cursor.now.rest.now

abbrev pub decreases-array : goal.decreases-array
decreases-array l = 6 * length l.cursor.now.rest.now

abbrev pub decreases-inner : goal.decreases-inner
decreases-inner l = 6 * length l.cursor.now.rest.now

abbrev pub decreases-selected : goal.decreases-selected
decreases-selected l = 6 * length l.cursor.now.rest.now + 2

abbrev pub decreases-selection : goal.decreases-selection
decreases-selection l = 6 * length l.cursor.now.rest.now + 1

abbrev pub decreases-element : goal.decreases-element
decreases-element l = 6 * length l.cursor.now.rest.now

abbrev pub decreases-member : goal.decreases-member
decreases-member l = 6 * length l.cursor.now.rest.now

abbrev pub decreases-actuals : goal.decreases-actuals
decreases-actuals l = 6 * length l.cursor.now.rest.now

abbrev pub invariant-listed-loop-all : goal.invariant-listed-loop-all
invariant-listed-loop-all l = record {
  moves : Reads l.fn.cursor l.cursor;
  onward : ReadsOn (part Part.listed ∷ []) l.fn.cursor (part Part.more_listed ∷ []) l.cursor;
  derives : Listed DerivesExprTree l.fn.cursor.rest.now l.cursor.rest.now l.all;
}

abbrev pub decreases-listed-loop-all : goal.decreases-listed-loop-all
decreases-listed-loop-all l = length l.cursor.rest.now

abbrev pub invariant-operators-loop-op : goal.invariant-operators-loop-op
invariant-operators-loop-op l = record {
  moves : Reads l.fn.cursor l.cursor;
  few : l.cursor.joined ≤ 32;
  climbs : Climbs l.least l.most (counts l.fn.cursor) (counts l.cursor) l.fn.cursor.rest.now l.cursor.rest.now;
  groups : Grouped l.least l.most l.fn.cursor.rest.now l.cursor.rest.now (plain_expr l.left);
}

abbrev pub decreases-operators-loop-op : goal.decreases-operators-loop-op
decreases-operators-loop-op l = length l.cursor.rest.now

abbrev pub invariant-selected-loop-alloc : goal.invariant-selected-loop-alloc
invariant-selected-loop-alloc l = record {
  moves : Keeps l.fn.cursor l.cursor;
  few : l.cursor.joined ≤ 32;
  onward : ReadsOn (part Part.selected ∷ []) l.fn.cursor (part Part.selected ∷ []) l.cursor;
  derives : DerivesSelections (plain_expr l.fn.first) l.fn.cursor.rest.now l.cursor.rest.now (plain_expr l.found);
}

abbrev pub decreases-selected-loop-alloc : goal.decreases-selected-loop-alloc
decreases-selected-loop-alloc l = length l.cursor.rest.now
