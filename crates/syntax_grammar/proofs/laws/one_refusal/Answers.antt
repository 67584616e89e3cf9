use Rattle.syntax_grammar.proofs.Refused.{read_or_refused, refused_once, not_refused, syntax_fault, nest_fault, reported_once, no_program}
use Rattle.syntax_grammar.proofs.laws.one_refusal.Goals as goal

pub returns : goal.returns
returns c = record { some = read_or_refused; one = refused_once; none = not_refused; syntax = syntax_fault; nest = nest_fault; reported_once = reported_once; no_program = no_program }
