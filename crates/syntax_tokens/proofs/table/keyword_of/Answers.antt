use Rattle.std.proofs.Common.{arith, below_more}
use Rattle.std.proofs.lemmas.Bool.{false≢true}
use Rattle.syntax_tokens.proofs.Tables.{keywords-none, keywords-short}
use Rattle.syntax_tokens.proofs.table.keyword_of.Goals as goal

pub loop-keyword-preserved : goal.loop-keyword-preserved
loop-keyword-preserved c = below_more _ _ c.loop-keyword.invariant (λ e. false≢true (c.if-spells.ensures.1 e))

pub returns-clause-none : goal.returns-clause-none
returns-clause-none c = keywords-none _ _ c.loop-keyword.keyword-index c.keywords_from-keyword-items.ensures (omega arith) c.loop-keyword.invariant

pub returns-in_default-clause-none : goal.returns-in_default-clause-none
returns-in_default-clause-none c = keywords-short _ (omega arith)
