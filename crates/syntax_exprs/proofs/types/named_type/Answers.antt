use Rattle.syntax_grammar.specs.Types.{class, type_of}
use Rattle.syntax_exprs.proofs.types.named_type.Goals as goal

pub returns-clause-derives : goal.returns-clause-derives
returns-clause-derives c = type_of c.place-place.ensures.stands (class c.in_ok-name.ensures.takes c.in_ok-args.ensures.derives) c.in_ok-suffixes.ensures.derives
