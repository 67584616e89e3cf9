use Rattle.std.proofs.Common.{[], ◌∷◌, length}
use Rattle.syntax_exprs.specs.Progress.{Keeps}
use Rattle.syntax_grammar.specs.Classes.{DerivesMember}
use Rattle.syntax_grammar.specs.Taking.{Many}
use Rattle.syntax_grammar.specs.Expecting.{part}
use Rattle.syntax_grammar.specs.Expecting.{Part as p}
use Rattle.syntax_exprs.specs.Counted.{counts}
use Rattle.syntax_exprs.proofs.InOrder.{Onward}
use Rattle.syntax_parse.proofs.classes.member_list.Given as goal

abbrev pub invariant-loop-alloc : goal.invariant-loop-alloc
invariant-loop-alloc l = record { moves : Keeps l.fn.cursor l.cursor; derives : Many DerivesMember l.fn.cursor.rest.now l.cursor.rest.now l.members; onward : Onward (counts l.fn.cursor) (part p.member_list ∷ []) l.fn.cursor.rest.now (counts l.cursor) (part p.member_list ∷ []) l.cursor.rest.now }

abbrev pub decreases-loop-alloc : goal.decreases-loop-alloc
decreases-loop-alloc l = length l.cursor.rest.now
