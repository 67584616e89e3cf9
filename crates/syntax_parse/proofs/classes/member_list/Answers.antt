use Rattle.std.proofs.Common.{rules}
use Rattle.syntax_tokens.specs.declared.token.Symbol.{Symbol}
use Rattle.syntax_tokens.specs.declared.terminal.Terminal.TheVariants as terminal
use Rattle.syntax_grammar.specs.Taking.{NoNext, none}
use Rattle.syntax_grammar.proofs.Lists.{many_more}
use Rattle.syntax_parse.proofs.classes.member_list.Goals as goal
use Rattle.syntax_parse.proofs.parts.ClassParts.{onward_start, member_list_round, member_list_refused}

pub loop-alloc-init : goal.loop-alloc-init
loop-alloc-init c = record { moves = search rules; derives = search (rules, none); onward = onward_start }

pub loop-alloc-preserved : goal.loop-alloc-preserved
loop-alloc-preserved c =
    let open_still : NoNext (terminal.Symbol Symbol.CloseBrace) c.loop-alloc.cursor.rest.now = search rules in
    record {
      moves = search rules;
      derives = search (rules, many_more);
      onward = member_list_round c.loop-alloc.invariant.onward open_still c.in_ok-member.ensures.reads;
    }

pub returns-in_err-member-clause-stops : goal.returns-in_err-member-clause-stops
returns-in_err-member-clause-stops c =
    let open_still : NoNext (terminal.Symbol Symbol.CloseBrace) c.loop-alloc.cursor.rest.now = search rules in
    search (rules, member_list_refused)
