use Rattle.std.proofs.Common.{rules}
use Rattle.syntax_grammar.specs.Taking.{last}
use Rattle.syntax_parse.proofs.members.formal_list.Goals as goal
use Rattle.syntax_parse.proofs.parts.MemberParts.{formal_list_begun}

pub loop-formals-init : goal.loop-formals-init
loop-formals-init c = record {
  moves = c.in_ok-formal.ensures.moves;
  derives = search (rules, last);
  onward = formal_list_begun (search rules) c.in_ok-formal.ensures.reads;
}
