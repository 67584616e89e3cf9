-- Kinds of expressions by their forms.
use Rattle.std.specs.Prelude.{Bool, true, false}
use Rattle.syntax_tree.specs.Plain.{PlainExpr, expression, ExprForm, field, element}

abbrev pub form_of : PlainExpr → ExprForm
form_of (expression place form) = form

-- a field or an element
abbrev pub is_access : ExprForm → Bool
is_access (field of name) = true
is_access (element array index) = true
is_access form = false
