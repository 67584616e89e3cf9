use Rattle.std.proofs.Common.{map, ap, arith}
use Rattle.syntax_tokens.proofs.Naming.{inserted-named, stored-named}
use Rattle.syntax_tokens.proofs.names.Names.number.Goals as goal

pub returns-clause-noted : goal.returns-clause-noted
returns-clause-noted c =
    let step = inserted-named (λ k. k.now) c.self.inside.known.keys c.args.name in
    let keys = ap (map (λ k. k.now)) (c.in_ok-number.ensures.keys) in
    grind (arith, step, keys, c.self.view_is)

pub returns-clause-place : goal.returns-clause-place
returns-clause-place c =
    let (stored, is, same) = c.in_ok-number.ensures.stored in
    stored-named (λ k. k.now) c.insert_full.new.self.keys c.args.name stored c.in_ok-number.number is same
