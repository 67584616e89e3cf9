use Rattle.std.proofs.Common.{rules, [], ◌∷◌}
use Rattle.std.proofs.lemmas.Result.{on_ok_weaker, IfErr-weaker}
use Rattle.syntax_grammar.specs.Expecting.{one}
use Rattle.syntax_grammar.specs.Words.{word}
use Rattle.syntax_exprs.specs.Counted.{Reading}
use Rattle.syntax_parse.proofs.members.items_if.Goals as goal
use Rattle.syntax_parse.proofs.parts.MemberParts.{items_if_reads, items_if_refused}

pub returns-clause-reads : goal.returns-clause-reads
returns-clause-reads c =
    let taken : Reading (one (word c.args.keyword) ∷ []) c.args.cursor.now c.keyword_if.new.self = search rules in
    on_ok_weaker c.items.result (λ w n is. items_if_reads is taken w) c.items.ensures.reads

pub returns-clause-stops : goal.returns-clause-stops
returns-clause-stops c =
    let taken : Reading (one (word c.args.keyword) ∷ []) c.args.cursor.now c.keyword_if.new.self = search rules in
    IfErr-weaker c.items.result _ _ (λ stop r n is. items_if_refused stop is taken (search rules) r) c.items.ensures.stops
