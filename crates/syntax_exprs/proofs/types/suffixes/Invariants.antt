use Rattle.std.proofs.Common.{◌≤◌, [], ◌∷◌, length}
use Rattle.syntax_exprs.specs.Counted.{counts}
use Rattle.syntax_grammar.specs.Expecting.{Part, part}
use Rattle.syntax_exprs.specs.Progress.{Keeps}
use Rattle.syntax_grammar.specs.Taking.{Many}
use Rattle.syntax_grammar.specs.Types.{DerivesSuffix}
use Rattle.syntax_exprs.proofs.InOrder.{Onward}
use Rattle.syntax_exprs.proofs.types.suffixes.Given as goal

abbrev pub invariant-loop-alloc : goal.invariant-loop-alloc
invariant-loop-alloc l = record {
  moves : Keeps l.fn.cursor l.cursor;
  onward : Onward (counts l.fn.cursor) (part Part.suffixes ∷ []) l.fn.cursor.rest.now (counts l.cursor) (part Part.suffixes ∷ []) l.cursor.rest.now;
  derives : Many DerivesSuffix l.fn.cursor.rest.now l.cursor.rest.now l.suffixes;
  few : l.cursor.joined ≤ 32;
}

abbrev pub decreases-loop-alloc : goal.decreases-loop-alloc
decreases-loop-alloc l = length l.cursor.rest.now
