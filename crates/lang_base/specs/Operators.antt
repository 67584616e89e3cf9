-- The table of operators: what each takes and gives, how it binds, and its name in a listing.
use Rattle.std.specs.Prelude.{ℕ, List, codes}
use Rattle.lang_base.specs.declared.op.UnaryOp.{UnaryOp}
use Rattle.lang_base.specs.declared.op.UnaryOp.TheVariants as unary_op
use Rattle.lang_base.specs.declared.op.BinaryOp.{BinaryOp}
use Rattle.lang_base.specs.declared.op.BinaryOp.TheVariants as op
use Rattle.lang_base.specs.declared.op.LogicOp.{LogicOp}
use Rattle.lang_base.specs.declared.op.LogicOp.TheVariants as logic
use Rattle.lang_base.specs.declared.op.Operands.{Operands}
use Rattle.lang_base.specs.declared.op.Operands.TheVariants.{Ints, Same}
use Rattle.lang_base.specs.Types.{PlainType, int, boolean}

-- the type of the operand of a unary operation, and of its result
abbrev pub unary_type : UnaryOp → PlainType
unary_type unary_op.Negate = int
unary_type unary_op.Not = boolean

abbrev pub operands_of : BinaryOp → Operands
operands_of op.Equal = Same
operands_of op.NotEqual = Same
operands_of _ = Ints

abbrev pub result_of : BinaryOp → PlainType
result_of op.Add = int
result_of op.Subtract = int
result_of op.Multiply = int
result_of op.Divide = int
result_of op.Remainder = int
result_of _ = boolean

-- the level of its productions in the grammar: 0 for Expr, 1 for And, 2 for Equal, 3 for Compare, 4 for Sum and 5 for Product
abbrev pub logic_level : LogicOp → ℕ
logic_level logic.Or = 0
logic_level logic.And = 1

abbrev pub level_of : BinaryOp → ℕ
level_of op.Equal = 2
level_of op.NotEqual = 2
level_of op.Add = 4
level_of op.Subtract = 4
level_of op.Multiply = 5
level_of op.Divide = 5
level_of op.Remainder = 5
level_of _ = 3

abbrev pub unary_name : UnaryOp → List ℕ
unary_name unary_op.Negate = codes "neg"
unary_name unary_op.Not = codes "not"

abbrev pub binary_name : BinaryOp → List ℕ
binary_name op.Add = codes "add"
binary_name op.Subtract = codes "sub"
binary_name op.Multiply = codes "mul"
binary_name op.Divide = codes "div"
binary_name op.Remainder = codes "rem"
binary_name op.Equal = codes "eq"
binary_name op.NotEqual = codes "ne"
binary_name op.Less = codes "lt"
binary_name op.AtMost = codes "le"
binary_name op.Greater = codes "gt"
binary_name op.AtLeast = codes "ge"
