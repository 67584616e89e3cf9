use mir.Val.{SFits}
use Rattle.std.specs.Int.{w32}
use Rattle.std.proofs.Common.{◌≡◌, ℤ, Some, Ok, map, refl, sym, subst, rules}
use Rattle.std.specs.Option.{option_copied}
use Rattle.std.proofs.lemmas.List.{drop_all}
use Rattle.std.proofs.Math.Facts.{to_z-of_z}
use Rattle.lang_base.specs.Types.{PlainType as ty}
use Rattle.decl_resolve.specs.declared.args.ReadArgs.{ReadArgs}
use Rattle.syntax_tree.specs.Plain.{PlainExpr, expression, int, boolean, null, this, local, field, element, call, create, create_array, unary, binary, plain_expr, plain_exprs}
use Rattle.lang_typed.specs.Plain.{TypedExpr, typed}
use Rattle.lang_typed.specs.Plain.{ExprForm as node}
use Rattle.body_exprs.specs.Answer.{gives, refused}
use Rattle.body_exprs.specs.Arrays.{made_names, front_reported, created_array}
use Rattle.body_exprs.specs.Elements.{read_element, read_part}
use Rattle.body_exprs.specs.Env.{table_of, local_of, this_type_of}
use Rattle.body_exprs.specs.Fields.{read_field}
use Rattle.body_exprs.specs.Locals.{local_typed}
use Rattle.body_exprs.specs.Operations.{unary_typed, binary_typed}
use Rattle.body_exprs.specs.Typed.{plain_typed, type_in, node_at}
use Rattle.body_exprs.specs.Typing.{answer, created, all_give, one_refused, Typing, TypingAll}
use Rattle.body_exprs.specs.Uses.{args_reported, callee_params, created_params, type_call, type_creation}
use Rattle.body_exprs.proofs.Constructs.{Refuses, Reported, exits, ends, of_leaf, array_parts}
use Rattle.body_exprs.proofs.Forms.{at_Int, at_Bool, at_Null, at_This, at_Local, at_Call}
use Rattle.body_exprs.proofs.Passing.{passed_on}
use Rattle.body_exprs.proofs.Several.{one_so_far, one_stopped, all_so_far}
use Rattle.body_exprs.proofs.typing.+exprs.Goals as goal

pub expr-returns-in-Int : goal.expr-returns-in-Int
expr-returns-in-Int t c =
    let fits : SFits w32 c.in-Int.k = search rules in
    of_leaf c.args.env.now c.args.e.now (int c.in-Int.k) c.args.found.now (Ok (typed c.args.e.now.place ty.int (node.int c.in-Int.k))) c.int.result (at_Int c.args.e.now c.in-Int.k c.in-Int.is) refl
    (subst (λ (k : ℤ). Reported c.int.result c.args.found.now (λ a. gives (Some (typed c.args.e.now.place ty.int (node.int k))) c.args.found.now ≡ a)) (to_z-of_z fits) (c.int.ensures c.args.found.now))

pub expr-returns-in-Bool : goal.expr-returns-in-Bool
expr-returns-in-Bool t c =
    of_leaf c.args.env.now c.args.e.now (boolean c.in-Bool.b) c.args.found.now (Ok (typed c.args.e.now.place ty.boolean (node.boolean c.in-Bool.b))) c.boolean.result (at_Bool c.args.e.now c.in-Bool.b c.in-Bool.is) refl (c.boolean.ensures c.args.found.now)

pub expr-returns-in-Null : goal.expr-returns-in-Null
expr-returns-in-Null t c =
    of_leaf c.args.env.now c.args.e.now null c.args.found.now (Ok (typed c.args.e.now.place ty.null node.null)) c.null.result (at_Null c.args.e.now c.in-Null.is) refl (c.null.ensures c.args.found.now)

pub expr-returns-in-This : goal.expr-returns-in-This
expr-returns-in-This t c =
    of_leaf c.args.env.now c.args.e.now this c.args.found.now (Ok (typed c.args.e.now.place (this_type_of c.args.env.now) (node.local 0))) c.this.result (at_This c.args.e.now c.in-This.is) refl (c.this.ensures c.args.found.now)

pub expr-returns-in-Local : goal.expr-returns-in-Local
expr-returns-in-Local t c =
    of_leaf c.args.env.now c.args.e.now (local c.in-Local.name) c.args.found.now (local_typed (local_of c.args.env.now c.in-Local.name) c.args.e.now.place) c.local.result (at_Local c.args.e.now c.in-Local.name c.in-Local.is) refl (c.local.ensures c.args.found.now)

pub expr-returns-in-Call : goal.expr-returns-in-Call
expr-returns-in-Call t c =
    subst (λ (z : PlainExpr). Reported c.method_call.result c.method_call.new.found (Typing c.args.env.now z c.args.found.now))
    (sym (at_Call c.args.e.now c.in-Call.of c.in-Call.regions c.in-Call.name c.in-Call.actuals c.in-Call.is)) c.method_call.ensures

pub field-returns-in-Some : goal.field-returns-in-Some
field-returns-in-Some t c =
    subst (λ (z : TypedExpr). Typing c.args.env.now (expression c.args.place (field (plain_expr c.args.of.now) c.args.name)) c.args.found.now (gives (Some z) c.args.found.now))
    (sym c.part_length.ensures) (rw (← c.get-of.ensures, ← c.in-Some.ensures))

pub field-returns-in_err-of-in-None : goal.field-returns-in_err-of-in-None
field-returns-in_err-of-in-None t c =
    exits (Typing c.args.env.now (expression c.args.place (field (plain_expr c.args.of.now) c.args.name)) c.args.found.now) _ (Refuses c.args.env.now c.get-of.result.now c.args.found.now)
    c.from_residual.result c.in_err-of-in-None.field-0.0 c.from_residual.ensures.1
    (λ q d. rw (← c.get-of.ensures, ← c.in-None.ensures, d))
    c.in_err-of-in-None.ensures

pub field-returns-in_ok-of-in-None : goal.field-returns-in_ok-of-in-None
field-returns-in_ok-of-in-None t c =
    ends (Typing c.args.env.now (expression c.args.place (field (plain_expr c.args.of.now) c.args.name)) c.args.found.now) _ (λ a. read_field c.args.env.now (plain_typed c.in_ok-of-in-None.of) c.args.name c.args.place c.expr.new.found ≡ a) c.read_field.result
    (λ a d. rw (← c.get-of.ensures, ← c.in-None.ensures, c.in_ok-of-in-None.ensures) d)
    c.read_field.ensures

pub element-returns-in_err-at-in-Some : goal.element-returns-in_err-at-in-Some
element-returns-in_err-at-in-Some t c =
    exits (Typing c.args.env.now (expression c.args.place (element (plain_expr c.args.array.now) (plain_expr c.args.index.now))) c.args.found.now) _ (Refuses c.args.env.now c.get-index.result.now c.args.found.now)
    c.from_residual.result c.in_err-at-in-Some.field-0.0 c.from_residual.ensures.1
    (λ q d. rw (← c.get-array.ensures, ← c.get-index.ensures, ← c.in-Some.ensures, d))
    c.in_err-at-in-Some.ensures

pub element-returns-in_ok-at-in-Some : goal.element-returns-in_ok-at-in-Some
element-returns-in_ok-at-in-Some t c =
    ends (Typing c.args.env.now (expression c.args.place (element (plain_expr c.args.array.now) (plain_expr c.args.index.now))) c.args.found.now) _ (λ a. read_part c.in-Some.row.now (plain_typed c.in_ok-at-in-Some.at) c.args.place c.expr.new.found ≡ a) c.read_part.result
    (λ a d. rw (← c.get-array.ensures, ← c.get-index.ensures, ← c.in-Some.ensures, c.in_ok-at-in-Some.ensures) d)
    c.read_part.ensures

pub element-returns-in_err-array-in-None : goal.element-returns-in_err-array-in-None
element-returns-in_err-array-in-None t c =
    exits (Typing c.args.env.now (expression c.args.place (element (plain_expr c.args.array.now) (plain_expr c.args.index.now))) c.args.found.now) _ (Refuses c.args.env.now c.get-array.result.now c.args.found.now)
    c.from_residual-in_err-array-in-None.result c.in_err-array-in-None.field-0.0 c.from_residual-in_err-array-in-None.ensures.1
    (λ q d. rw (← c.get-array.ensures, ← c.get-index.ensures, ← c.in-None.ensures, d))
    c.in_err-array-in-None.ensures

pub element-returns-in_err-at-in-None : goal.element-returns-in_err-at-in-None
element-returns-in_err-at-in-None t c =
    exits (Typing c.args.env.now (expression c.args.place (element (plain_expr c.args.array.now) (plain_expr c.args.index.now))) c.args.found.now) _ (Refuses c.args.env.now c.get-index.result.now c.expr-in-None.new.found)
    c.from_residual-in_err-at-in-None.result c.in_err-at-in-None.field-0.0 c.from_residual-in_err-at-in-None.ensures.1
    (λ q d. rw (← c.get-array.ensures, ← c.get-index.ensures, ← c.in-None.ensures, c.in_ok-array-in-None.ensures, d))
    c.in_err-at-in-None.ensures

pub element-returns-in_ok-at-in-None : goal.element-returns-in_ok-at-in-None
element-returns-in_ok-at-in-None t c =
    ends (Typing c.args.env.now (expression c.args.place (element (plain_expr c.args.array.now) (plain_expr c.args.index.now))) c.args.found.now) _ (λ a. read_element c.args.env.now (plain_typed c.in_ok-array-in-None.array) (plain_expr c.get-index.result.now) (plain_typed c.in_ok-at-in-None.at) c.args.place c.expr-in-None-2.new.found ≡ a) c.read_element.result
    (λ a d. rw (← c.get-array.ensures, ← c.get-index.ensures, ← c.in-None.ensures, c.in_ok-array-in-None.ensures, c.in_ok-at-in-None.ensures) d)
    c.read_element.ensures

pub exprs-returns-in_err-expr : goal.exprs-returns-in_err-expr
exprs-returns-in_err-expr t c =
    passed_on (Refuses c.args.env.now c.e-item.result c.loop-e.found) (TypingAll c.args.env.now (plain_exprs (map plain_expr c.args.all.now)) c.args.found.now)
    (λ made. all_give (map plain_typed made) c.expr.new.found) one_refused c.from_residual.result c.in_err-expr.field-0.0 c.from_residual.ensures.1
    (λ q d. one_stopped c.args.env.now c.args.all.now c.args.found.now c.loop-e.e-index c.loop-e.made c.loop-e.found c.e-item.result q c.loop-e.invariant c.loop-e-test.true c.e-item.is d)
    c.in_err-expr.ensures

pub exprs-loop-e-preserved : goal.exprs-loop-e-preserved
exprs-loop-e-preserved t c =
    one_so_far c.args.env.now c.args.all.now c.args.found.now c.loop-e.e-index c.loop-e.made c.loop-e.found c.expr.new.found c.e-item.result c.in_ok-expr.field-0 c.push.new.self
    c.loop-e.invariant c.loop-e-test.true c.e-item.is c.in_ok-expr.ensures c.in_ok-push.ensures.ok

pub exprs-returns : goal.exprs-returns
exprs-returns t c =
    all_so_far c.args.env.now c.args.all.now c.args.found.now c.loop-e.e-index c.loop-e.made c.loop-e.found c.loop-e.invariant
    (drop_all c.loop-e.e-index c.args.all.now c.loop-e-test.false)

pub method_call-returns-in_err-of : goal.method_call-returns-in_err-of
method_call-returns-in_err-of t c =
    exits (Typing c.args.env.now (expression c.args.place (call (plain_expr c.args.of.now) c.args.regions.now c.args.name (plain_exprs (map plain_expr c.args.actuals.now)))) c.args.found.now) _ (Refuses c.args.env.now c.get.result.now c.args.found.now)
    c.from_residual.result c.in_err-of.field-0.0 c.from_residual.ensures.1
    (λ q d. rw (← c.get.ensures, d))
    c.in_err-of.ensures

pub method_call-returns-in_err-regions : goal.method_call-returns-in_err-regions
method_call-returns-in_err-regions t c =
    exits (Typing c.args.env.now (expression c.args.place (call (plain_expr c.args.of.now) c.args.regions.now c.args.name (plain_exprs (map plain_expr c.args.actuals.now)))) c.args.found.now) _ (λ q. args_reported c.args.env.now (callee_params (table_of c.args.env.now) (type_in (plain_typed c.in_ok-of.of)) c.args.name) c.as_slice.result.now ≡ Some q)
    c.from_residual-in_err-regions.result c.in_err-regions.field-0.0 c.from_residual-in_err-regions.ensures.1
    (λ q d. rw (← c.get.ensures, ← c.as_slice.ensures, c.in_ok-of.ensures, d))
    c.in_err-regions.ensures.reported

pub method_call-returns-in_err-actuals : goal.method_call-returns-in_err-actuals
method_call-returns-in_err-actuals t c =
    exits (Typing c.args.env.now (expression c.args.place (call (plain_expr c.args.of.now) c.args.regions.now c.args.name (plain_exprs (map plain_expr c.args.actuals.now)))) c.args.found.now) _ (λ q. TypingAll c.args.env.now (plain_exprs (map plain_expr c.as_slice-2.result.now)) c.expr.new.found (one_refused q))
    c.from_residual-in_err-actuals.result c.in_err-actuals.field-0.0 c.from_residual-in_err-actuals.ensures.1
    (λ q d. rw (← c.get.ensures, ← c.as_slice.ensures, ← c.as_slice-2.ensures, c.in_ok-of.ensures, c.in_ok-regions.ensures.reported, d))
    c.in_err-actuals.ensures

pub method_call-returns : goal.method_call-returns
method_call-returns t c =
    ends (Typing c.args.env.now (expression c.args.place (call (plain_expr c.args.of.now) c.args.regions.now c.args.name (plain_exprs (map plain_expr c.args.actuals.now)))) c.args.found.now) _ (λ a. type_call c.args.env.now (plain_typed c.in_ok-of.of) c.args.name c.in_ok-regions.regions (map plain_typed c.in_ok-actuals.actuals) c.args.place c.exprs.new.found ≡ a) c.call.result
    (λ a d. rw (← c.get.ensures, ← c.as_slice.ensures, ← c.as_slice-2.ensures, c.in_ok-of.ensures, c.in_ok-regions.ensures.reported, c.in_ok-actuals.ensures, ← c.in_ok-regions.ensures.read) d)
    c.call.ensures

pub new_array-returns-in_err-read : goal.new_array-returns-in_err-read
new_array-returns-in_err-read t c =
    exits (Typing c.args.env.now (expression c.args.place (create_array c.args.base.now c.args.suffixes.now (plain_expr c.args.length.now) c.args.rpl.now c.args.index.now)) c.args.found.now) _ (λ q. front_reported c.args.env.now (made_names c.as_slice.result.now c.args.index.now) c.args.base.now ≡ Some q)
    c.from_residual.result c.in_err-read.field-0.0 c.from_residual.ensures.1
    (λ q d. array_parts {x = c.args.length.now} {rpl = c.args.rpl.now} c.args.env.now c.args.place c.args.base.now c.args.index.now c.args.found.now (refused q) c.as_slice.ensures refl refl (rw d))
    c.in_err-read.ensures.reported

pub new_array-returns-in_err-length : goal.new_array-returns-in_err-length
new_array-returns-in_err-length t c =
    exits (Typing c.args.env.now (expression c.args.place (create_array c.args.base.now c.args.suffixes.now (plain_expr c.args.length.now) c.args.rpl.now c.args.index.now)) c.args.found.now) _ (Refuses c.args.env.now c.get.result.now c.args.found.now)
    c.from_residual-in_err-length.result c.in_err-length.field-0.0 c.from_residual-in_err-length.ensures.1
    (λ q d. array_parts {rpl = c.args.rpl.now} c.args.env.now c.args.place c.args.base.now c.args.index.now c.args.found.now (refused q) c.as_slice.ensures c.get.ensures refl (rw (c.in_ok-read.ensures.reported, d)))
    c.in_err-length.ensures

pub new_array-returns : goal.new_array-returns
new_array-returns t c =
    ends (Typing c.args.env.now (expression c.args.place (create_array c.args.base.now c.args.suffixes.now (plain_expr c.args.length.now) c.args.rpl.now c.args.index.now)) c.args.found.now) _
    (λ a. answer (created c.args.place (node_at c.args.place (plain_typed c.in_ok-length.length)) (created_array c.args.env.now (made_names c.as_slice.result.now c.args.index.now) c.in_ok-read.read (type_in (plain_typed c.in_ok-length.length)) (option_copied c.as_ref.result) c.args.place)) c.expr.new.found ≡ a)
    c.array_creation.result
    (λ a d. array_parts c.args.env.now c.args.place c.args.base.now c.args.index.now c.args.found.now a c.as_slice.ensures c.get.ensures c.as_ref.ensures.value
    (rw (c.in_ok-read.ensures.reported, c.in_ok-length.ensures, ← c.in_ok-read.ensures.read) d))
    (c.array_creation.ensures c.expr.new.found)

pub new_object-returns-in_err-regions : goal.new_object-returns-in_err-regions
new_object-returns-in_err-regions t c =
    exits (Typing c.args.env.now (expression c.args.place (create c.args.class c.args.regions.now (plain_exprs (map plain_expr c.args.actuals.now)))) c.args.found.now) _ (λ q. args_reported c.args.env.now (created_params (table_of c.args.env.now) c.args.class) c.as_slice.result.now ≡ Some q)
    c.from_residual.result c.in_err-regions.field-0.0 c.from_residual.ensures.1
    (λ q d. rw (← c.as_slice.ensures, d))
    c.in_err-regions.ensures.reported

pub new_object-returns-in_err-actuals : goal.new_object-returns-in_err-actuals
new_object-returns-in_err-actuals t c =
    exits (Typing c.args.env.now (expression c.args.place (create c.args.class c.args.regions.now (plain_exprs (map plain_expr c.args.actuals.now)))) c.args.found.now) _ (λ q. TypingAll c.args.env.now (plain_exprs (map plain_expr c.as_slice-2.result.now)) c.args.found.now (one_refused q))
    c.from_residual-in_err-actuals.result c.in_err-actuals.field-0.0 c.from_residual-in_err-actuals.ensures.1
    (λ q d. rw (← c.as_slice.ensures, ← c.as_slice-2.ensures, c.in_ok-regions.ensures.reported, d))
    c.in_err-actuals.ensures

pub new_object-returns : goal.new_object-returns
new_object-returns t c =
    ends (Typing c.args.env.now (expression c.args.place (create c.args.class c.args.regions.now (plain_exprs (map plain_expr c.args.actuals.now)))) c.args.found.now) _ (λ a. type_creation c.args.env.now c.args.class c.in_ok-regions.regions (map plain_typed c.in_ok-actuals.actuals) c.args.place c.exprs.new.found ≡ a) c.creation.result
    (λ a d. rw (← c.as_slice.ensures, ← c.as_slice-2.ensures, c.in_ok-regions.ensures.reported, c.in_ok-actuals.ensures)
    (subst (λ (z : ReadArgs). type_creation c.args.env.now c.args.class z (map plain_typed c.in_ok-actuals.actuals) c.args.place c.exprs.new.found ≡ a) c.in_ok-regions.ensures.read d))
    c.creation.ensures

pub one_operand-returns-in_err-arg : goal.one_operand-returns-in_err-arg
one_operand-returns-in_err-arg t c =
    exits (Typing c.args.env.now (expression c.args.place (unary c.args.op (plain_expr c.args.arg.now))) c.args.found.now) _ (Refuses c.args.env.now c.get.result.now c.args.found.now)
    c.from_residual.result c.in_err-arg.field-0.0 c.from_residual.ensures.1
    (λ q d. rw (← c.get.ensures, d))
    c.in_err-arg.ensures

pub one_operand-returns : goal.one_operand-returns
one_operand-returns t c =
    ends (Typing c.args.env.now (expression c.args.place (unary c.args.op (plain_expr c.args.arg.now))) c.args.found.now) _ (λ a. answer (unary_typed c.args.op (plain_typed c.in_ok-arg.arg) c.args.place) c.expr.new.found ≡ a) c.unary.result
    (λ a d. rw (← c.get.ensures, c.in_ok-arg.ensures) d)
    (c.unary.ensures c.expr.new.found)

pub two_operands-returns-in_err-left : goal.two_operands-returns-in_err-left
two_operands-returns-in_err-left t c =
    exits (Typing c.args.env.now (expression c.args.place (binary c.args.op (plain_expr c.args.left.now) (plain_expr c.args.right.now))) c.args.found.now) _ (Refuses c.args.env.now c.get.result.now c.args.found.now)
    c.from_residual.result c.in_err-left.field-0.0 c.from_residual.ensures.1
    (λ q d. rw (← c.get.ensures, d))
    c.in_err-left.ensures

pub two_operands-returns-in_err-right : goal.two_operands-returns-in_err-right
two_operands-returns-in_err-right t c =
    exits (Typing c.args.env.now (expression c.args.place (binary c.args.op (plain_expr c.args.left.now) (plain_expr c.args.right.now))) c.args.found.now) _ (Refuses c.args.env.now c.get-2.result.now c.expr.new.found)
    c.from_residual-in_err-right.result c.in_err-right.field-0.0 c.from_residual-in_err-right.ensures.1
    (λ q d. rw (← c.get.ensures, ← c.get-2.ensures, c.in_ok-left.ensures, d))
    c.in_err-right.ensures

pub two_operands-returns : goal.two_operands-returns
two_operands-returns t c =
    ends (Typing c.args.env.now (expression c.args.place (binary c.args.op (plain_expr c.args.left.now) (plain_expr c.args.right.now))) c.args.found.now) _ (λ a. answer (binary_typed c.args.op (plain_typed c.in_ok-left.left) (plain_typed c.in_ok-right.right) c.args.place) c.expr-2.new.found ≡ a) c.binary.result
    (λ a d. rw (← c.get.ensures, ← c.get-2.ensures, c.in_ok-left.ensures, c.in_ok-right.ensures) d)
    (c.binary.ensures c.expr-2.new.found)
