use Rattle.std.proofs.Common.{[], ◌∷◌, length}
use Rattle.syntax_exprs.specs.Progress.{Reads}
use Rattle.syntax_grammar.specs.Classes.{DerivesFormal}
use Rattle.syntax_grammar.specs.Taking.{Listed}
use Rattle.syntax_grammar.specs.Expecting.{part}
use Rattle.syntax_grammar.specs.Expecting.{Part as p}
use Rattle.syntax_exprs.specs.Counted.{counts}
use Rattle.syntax_exprs.proofs.InOrder.{Onward}
use Rattle.syntax_parse.proofs.members.formal_list.Given as goal

abbrev pub invariant-loop-formals : goal.invariant-loop-formals
invariant-loop-formals l = record { moves : Reads l.fn.cursor l.cursor; derives : Listed DerivesFormal l.fn.cursor.rest.now l.cursor.rest.now l.formals; onward : Onward (counts l.fn.cursor) (part p.formal_list ∷ []) l.fn.cursor.rest.now (counts l.cursor) (part p.more_formals ∷ []) l.cursor.rest.now }

abbrev pub decreases-loop-formals : goal.decreases-loop-formals
decreases-loop-formals l = length l.cursor.rest.now
