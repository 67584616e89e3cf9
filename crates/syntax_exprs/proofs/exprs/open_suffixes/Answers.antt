use Rattle.std.proofs.Common.{rules}
use Rattle.syntax_exprs.proofs.Few.{still_few}
use Rattle.syntax_exprs.proofs.Making.{more_opened}
use Rattle.syntax_exprs.proofs.parts.ExprParts.{suffix_read}
use Rattle.syntax_exprs.proofs.exprs.open_suffixes.Goals as goal

pub loop-alloc-preserved : goal.loop-alloc-preserved
loop-alloc-preserved c = record {
  moves = search rules;
  few = search (rules, still_few);
  onward = search (rules, suffix_read);
  derives = search (rules, more_opened);
}
