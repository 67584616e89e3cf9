use Rattle.std.proofs.Common.{ap, ◌∙◌}
use Rattle.std.specs.Fmt.{styled_decimal}
use Rattle.code_listing.proofs.Padding.{in_four, pieces}
use Rattle.code_listing.proofs.line.LineDisplay.fmt.Goals as goal

pub returns-clause-writes : goal.returns-clause-writes
returns-clause-writes g c = λ plain ok.
    let front = ap (λ s. styled_decimal s c.args.self.now.at) c.laid_out.ensures ∙ in_four c.args.self.now.at in
    rw (← pieces _ c.name-name.result.now _ c.args.self.now.at c.args.self.now.instr front c.name-name.ensures c.operand_of-operand.ensures) (c.write.ensures.writes plain ok)
