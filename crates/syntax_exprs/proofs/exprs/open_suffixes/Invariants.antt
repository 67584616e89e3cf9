use Rattle.std.proofs.Common.{◌≤◌, [], ◌∷◌, length}
use Rattle.syntax_exprs.specs.Progress.{Opens}
use Rattle.syntax_grammar.specs.Expecting.{Part, part}
use Rattle.syntax_exprs.specs.Onward.{ReadsOn}
use Rattle.syntax_grammar.specs.Reading.{DerivesOpenSuffixes}
use Rattle.syntax_exprs.proofs.exprs.open_suffixes.Given as goal

abbrev pub invariant-loop-alloc : goal.invariant-loop-alloc
invariant-loop-alloc l = record {
  moves : Opens l.fn.cursor l.cursor;
  few : l.cursor.joined ≤ 32;
  onward : ReadsOn (part Part.array ∷ []) l.fn.cursor (part Part.array_open ∷ []) l.cursor;
  derives : DerivesOpenSuffixes l.fn.cursor.rest.now l.cursor.rest.now l.suffixes;
}

abbrev pub decreases-loop-alloc : goal.decreases-loop-alloc
decreases-loop-alloc l = length l.cursor.rest.now
