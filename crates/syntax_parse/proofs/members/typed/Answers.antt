use Rattle.std.proofs.Common.{◌∙◌, rules}
use Rattle.std.proofs.lemmas.Result.{on_ok_weaker, IfErr-weaker}
use Rattle.syntax_tokens.specs.declared.token.Symbol.{Symbol}
use Rattle.syntax_tokens.specs.declared.terminal.Terminal.TheVariants as terminal
use Rattle.syntax_grammar.specs.Taking.{NoNext}
use Rattle.syntax_parse.proofs.members.typed.Goals as goal
use Rattle.syntax_exprs.proofs.InTurn.{onward_step, onward_reads, onward_stops}
use Rattle.syntax_parse.proofs.parts.MemberParts.{typed_begun, method_comes, method_refused, field_comes, field_refused}

pub returns-then-is_symbol-clause-reads : goal.returns-then-is_symbol-clause-reads
returns-then-is_symbol-clause-reads c =
    let o = onward_step (typed_begun c.args.cursor.now.rest.now c.requires c.in_ok-ty.ensures.reads) c.in_ok-named.ensures.reads in
    on_ok_weaker c.after_name.result (λ w. onward_reads o (method_comes (c.is_symbol.ensures.0 c.if-is_symbol.true) w)) c.after_name.ensures.reads

pub returns-then-is_symbol-clause-stops : goal.returns-then-is_symbol-clause-stops
returns-then-is_symbol-clause-stops c =
    let o = onward_step (typed_begun c.args.cursor.now.rest.now c.requires c.in_ok-ty.ensures.reads) c.in_ok-named.ensures.reads in
    IfErr-weaker c.after_name.result _ _
    (λ stop r. onward_stops stop o (c.in_ok-named.ensures.moves.end ∙ c.in_ok-ty.ensures.moves.end) (method_refused _ _ _ stop (c.is_symbol.ensures.0 c.if-is_symbol.true) r))
    c.after_name.ensures.stops

pub returns-clause-reads : goal.returns-clause-reads
returns-clause-reads c =
    let o = onward_step (typed_begun c.args.cursor.now.rest.now c.requires c.in_ok-ty.ensures.reads) c.in_ok-named.ensures.reads in
    let none : NoNext (terminal.Symbol Symbol.OpenParen) c.name.new.self.rest.now = search rules in
    on_ok_weaker c.field.result (λ w. onward_reads o (field_comes none w)) c.field.ensures.reads

pub returns-clause-stops : goal.returns-clause-stops
returns-clause-stops c =
    let o = onward_step (typed_begun c.args.cursor.now.rest.now c.requires c.in_ok-ty.ensures.reads) c.in_ok-named.ensures.reads in
    let none : NoNext (terminal.Symbol Symbol.OpenParen) c.name.new.self.rest.now = search rules in
    IfErr-weaker c.field.result _ _ (λ stop r. onward_stops stop o (c.in_ok-named.ensures.moves.end ∙ c.in_ok-ty.ensures.moves.end) (field_refused _ _ _ stop none r)) c.field.ensures.stops
