-- What stands after the name of an instruction.
use Rattle.std.specs.Prelude.{ℕ, true, false, List, [], ◌++◌, codes}
use Rattle.std.specs.Fmt.{decimal, signed_decimal}
use Rattle.code_listing.specs.declared.instr.Operand.{Operand}
use Rattle.code_listing.specs.declared.instr.Operand.TheVariants as operand

abbrev pub operand_text : Operand → List ℕ
operand_text operand.Nothing = []
operand_text (operand.Int n) = codes " " ++ signed_decimal n
operand_text (operand.Bool true) = codes " true"
operand_text (operand.Bool false) = codes " false"
operand_text (operand.Number n) = codes " " ++ decimal n
