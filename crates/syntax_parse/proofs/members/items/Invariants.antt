use Rattle.std.proofs.Common.{[], ◌∷◌, length}
use Rattle.syntax_exprs.specs.Progress.{Reads}
use Rattle.syntax_grammar.specs.Classes.{DerivesItem}
use Rattle.syntax_grammar.specs.Taking.{Listed}
use Rattle.syntax_grammar.specs.Expecting.{part}
use Rattle.syntax_grammar.specs.Expecting.{Part as p}
use Rattle.syntax_exprs.specs.Counted.{counts}
use Rattle.syntax_exprs.proofs.InOrder.{Onward}
use Rattle.syntax_parse.proofs.members.items.Given as goal

abbrev pub invariant-loop-items : goal.invariant-loop-items
invariant-loop-items l = record { moves : Reads l.fn.cursor l.cursor; derives : Listed DerivesItem l.fn.cursor.rest.now l.cursor.rest.now l.items; onward : Onward (counts l.fn.cursor) (part p.items ∷ []) l.fn.cursor.rest.now (counts l.cursor) (part p.more_items ∷ []) l.cursor.rest.now }

abbrev pub decreases-loop-items : goal.decreases-loop-items
decreases-loop-items l = length l.cursor.rest.now
