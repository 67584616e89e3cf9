-- The forms of the code's trees.
use Rattle.std.proofs.Common.{◌≡◌, ℕ, ℤ, Bool, List, Option, map, rules}
use Rattle.lang_base.specs.declared.op.UnaryOp.{UnaryOp}
use Rattle.syntax_tree.specs.declared.region.Named.{Named}
use Rattle.syntax_tree.specs.declared.region.RplTree.{RplTree}
use Rattle.syntax_tree.specs.declared.region.BaseTree.{BaseTree}
use Rattle.syntax_tree.specs.declared.region.Suffix.{Suffix}
use Rattle.syntax_tree.specs.declared.expr.InfixOp.{InfixOp}
use Rattle.syntax_tree.specs.declared.expr.Expr.{Expr}
use Rattle.syntax_tree.specs.declared.expr.ExprKind.{the_lemmas}
use Rattle.syntax_tree.specs.declared.expr.ExprKind.TheVariants as kind
use Rattle.syntax_tree.specs.Plain.{expression, int, boolean, null, this, local, field, element, call, create, create_array, unary, binary, plain_expr, plain_exprs}
use Rattle.syntax_grammar.specs.Reading.{plain_kind}

pub plain_node : (e : Expr) → plain_expr e ≡ expression e.place (plain_kind e.kind)
plain_node e = search (rules, the_lemmas)

pub kind_Int : (n : ℤ) → plain_kind (kind.Int n) ≡ int n
kind_Int n = search (rules, the_lemmas)

pub kind_Bool : (b : Bool) → plain_kind (kind.Bool b) ≡ boolean b
kind_Bool b = search (rules, the_lemmas)

pub kind_Null : plain_kind kind.Null ≡ null
kind_Null = search (rules, the_lemmas)

pub kind_This : plain_kind kind.This ≡ this
kind_This = search (rules, the_lemmas)

pub kind_Local : (name : ℕ) → plain_kind (kind.Local name) ≡ local name
kind_Local name = search (rules, the_lemmas)

pub kind_Field : (of : Expr) (name : ℕ) → plain_kind (kind.Field of name) ≡ field (plain_expr of) name
kind_Field of name = search (rules, the_lemmas)

pub kind_Binary : (op : InfixOp) (left right : Expr) → plain_kind (kind.Binary op left right) ≡ binary op (plain_expr left) (plain_expr right)
kind_Binary op left right = search (rules, the_lemmas)

pub kind_Call : (of : Expr) (regions : List RplTree) (name : ℕ) (actuals : List Expr) →
    plain_kind (kind.Call of regions name actuals) ≡ call (plain_expr of) regions name (plain_exprs (map plain_expr actuals))
kind_Call of regions name actuals = search (rules, the_lemmas)

pub kind_Element : (of at : Expr) → plain_kind (kind.Element of at) ≡ element (plain_expr of) (plain_expr at)
kind_Element of at = search (rules, the_lemmas)

pub kind_Unary : (op : UnaryOp) (arg : Expr) → plain_kind (kind.Unary op arg) ≡ unary op (plain_expr arg)
kind_Unary op arg = search (rules, the_lemmas)

pub kind_New : (class : Named) (regions : List RplTree) (actuals : List Expr) →
    plain_kind (kind.New class regions actuals) ≡ create class regions (plain_exprs (map plain_expr actuals))
kind_New class regions actuals = search (rules, the_lemmas)

pub kind_NewArray : (start : BaseTree) (suffixes : List Suffix) (len : Expr) (rpl : Option RplTree) (index : Option Named) →
    plain_kind (kind.NewArray start suffixes len rpl index) ≡ create_array start suffixes (plain_expr len) rpl index
kind_NewArray start suffixes len rpl index = search (rules, the_lemmas)
