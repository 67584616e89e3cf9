-- Operators and how tightly they bind.
use Rattle.std.proofs.Common.{◌≡◌, ◌≢◌, ℕ, suc, ◌+◌, ◌≤◌, ◌⊎◌, inl, inr, Bool, true, false, cond, ◌==◌, List, Some, None, refl, sym, ap, ◌∙◌, arith, add-one}
use Rattle.std.proofs.lemmas.Bool.{eqb-true, eq-eqb}
use Rattle.lang_base.specs.declared.op.BinaryOp.TheVariants as binary_op
use Rattle.lang_base.specs.declared.op.LogicOp.TheVariants as logic_op
use Rattle.lang_base.specs.declared.op.UnaryOp.{UnaryOp}
use Rattle.lang_base.specs.declared.op.UnaryOp.TheVariants as unary_op
use Rattle.lang_base.specs.declared.place.Place.{Place}
use Rattle.syntax_tokens.specs.declared.token.Symbol.{Symbol}
use Rattle.syntax_tokens.specs.declared.terminal.Placed.{Placed}
use Rattle.syntax_tokens.specs.declared.terminal.Terminal.TheVariants as terminal
use Rattle.syntax_tree.specs.declared.expr.InfixOp.{InfixOp}
use Rattle.syntax_tree.specs.declared.expr.InfixOp.TheVariants.{Logic, Binary}
use Rattle.syntax_tree.specs.Plain.{PlainExpr, expression, binary}
use Rattle.syntax_grammar.specs.Taking.{TakesSymbol}
use Rattle.syntax_grammar.specs.Words.{op_at}
use Rattle.syntax_grammar.specs.Expressions.{symbol_of, unary_symbol, level_of, left_level, DerivesLevel, operand, operation, DerivesUnary}

-- the left operand of a comparison is no comparison, and any other one may have the same binding
left_level_is : (op : InfixOp) → ((level_of op ≢ 3) × (left_level op ≡ level_of op)) ⊎ ((level_of op ≡ 3) × (left_level op ≡ 4))
left_level_is op = by (level_of op == 3) refl where
  by : (b : Bool) → (level_of op == 3) ≡ b → ((level_of op ≢ 3) × (left_level op ≡ level_of op)) ⊎ ((level_of op ≡ 3) × (left_level op ≡ 4))
  by true at = let same = eqb-true (level_of op) 3 at in inr (same, ap (λ b. cond b (suc (level_of op)) (level_of op)) at ∙ ap suc same)
  by false at = inl ((λ e. (let yes = eq-eqb (level_of op) 3 e in cc)), ap (λ b. cond b (suc (level_of op)) (level_of op)) at)

pub level_left : (op : InfixOp) → level_of op ≤ left_level op
level_left op = elim (left_level_is op) [ inl e ↦ omega (arith, e.1) | inr e ↦ omega (arith, e.0, e.1) ]

pub level_low : (op : InfixOp) → level_of op ≤ 5
level_low (Logic logic_op.Or) = omega arith
level_low (Logic logic_op.And) = omega arith
level_low (Binary binary_op.Add) = omega arith
level_low (Binary _) = omega arith

pub left_low : (op : InfixOp) → left_level op ≤ 5
left_low op = let low = level_low op in elim (left_level_is op) [ inl e ↦ omega (arith, low, e.1) | inr e ↦ omega (arith, e.1) ]

pub left_after_comparison : (op : InfixOp) → level_of op ≤ 2 → left_level op ≤ 3
left_after_comparison op h = elim (left_level_is op) [ inl e ↦ omega (arith, e.1) | inr e ↦ omega (arith, e.0) ]

pub left_after : (op : InfixOp) (level : ℕ) → level_of op ≤ level → level ≢ 3 → left_level op ≤ level
left_after op level h ne = elim (left_level_is op) [ inl e ↦ omega (arith, e.1) | inr e ↦ omega (arith, e.0, e.1) ]

-- nothing binds as tightly as a comparison on both its sides
pub own_after_comparison : (op : InfixOp) → left_level op ≤ 3 → level_of op ≤ 2
own_after_comparison op h = elim (left_level_is op) [ inl e ↦ omega (arith, e.0, e.1) | inr e ↦ omega (arith, e.1) ]

pub own_after : (op : InfixOp) (level : ℕ) → left_level op ≤ level → level_of op ≤ level
own_after op level h = let up = level_left op in omega arith

-- an expression that may stand on the left of the operators that bind at most so tightly
pub record Grouped (least most : ℕ) (before after : List Placed) (e : PlainExpr) : Type 0 where
  pub whole : DerivesLevel least before after e
  pub left : (op : InfixOp) → level_of op ≤ most → DerivesLevel (left_level op) before after e

pub grouped_unary : {before after : List Placed} {e : PlainExpr} (least most : ℕ) → DerivesUnary before after e → Grouped least most before after e
grouped_unary least most d = record { whole = operand d; left = λ op h. operand d }

pub grouped_operation : {least most following bound : ℕ} {op : InfixOp} {before one two after : List Placed} {left right e : PlainExpr} {place : Place} →
    Grouped least most before one left → least ≤ level_of op → level_of op ≤ most →
    TakesSymbol (symbol_of op) one two place → bound ≡ level_of op → DerivesLevel (bound + 1) two after right →
    ((next : InfixOp) → level_of next ≤ following → left_level next ≤ level_of op) →
    e ≡ expression place (binary op left right) → Grouped least following before after e
grouped_operation {bound = bound} {op = op} {two = two} {after = after} {right = right} grouped low high takes binds d tight is =
    let higher : suc (level_of op) ≡ bound + 1 = sym (add-one bound ∙ ap suc binds) in
    let r : DerivesLevel (suc (level_of op)) two after right = rw higher d in
    rw is (record {
      whole = operation low (grouped.left op high) takes r;
      left = λ next h. operation (tight next h) (grouped.left op high) takes r;
    })

pub no_unary : {symbol : Symbol} → symbol ≢ Symbol.Minus → symbol ≢ Symbol.Not → (op : UnaryOp) → symbol ≢ unary_symbol op
no_unary minus not unary_op.Negate = minus
no_unary minus not unary_op.Not = not

pub op_of_symbol : (op : InfixOp) → op_at (terminal.Symbol (symbol_of op)) ≡ Some op
op_of_symbol (Logic logic_op.Or) = refl
op_of_symbol (Logic logic_op.And) = refl
op_of_symbol (Binary binary_op.Add) = refl
op_of_symbol (Binary _) = refl

pub no_infix : {symbol : Symbol} → op_at (terminal.Symbol symbol) ≡ None → (op : InfixOp) → symbol ≢ symbol_of op
no_infix none op same = let some : op_at (terminal.Symbol (symbol_of op)) ≡ None = rw (sym same) none in let found = op_of_symbol op in cc
