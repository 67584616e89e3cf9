-- The steps that an expression that is accepted takes by the rules, as inversions of their function; of what is refused nothing is
-- said.
use Rattle.std.proofs.Common.{◌≡◌, ℕ, ◌++◌, Bool, true, false, cond, List, [], ◌∷◌, map, Option, Some, None, Result, Ok, Err, refl, subst}
use Rattle.std.specs.List.{list_all}
use Rattle.std.specs.Option.{option_map_or}
use Rattle.lang_base.specs.declared.op.UnaryOp.{UnaryOp}
use Rattle.lang_base.specs.declared.place.Place.{Place}
use Rattle.lang_base.specs.declared.refusal.Refusal.{Refusal}
use Rattle.lang_base.specs.declared.region.Rpl.{Rpl}
use Rattle.lang_base.specs.Types.{PlainType as ty}
use Rattle.decl_headers.specs.Headers.{class_of}
use Rattle.decl_resolve.specs.declared.args.ReadArgs.{ReadArgs}
use Rattle.decl_resolve.specs.Args.{args_given}
use Rattle.decl_resolve.specs.Classes.{params_in}
use Rattle.decl_resolve.specs.Constraints.{all_hold}
use Rattle.decl_table.specs.declared.rows.MethodRow.{MethodRow}
use Rattle.decl_table.specs.Table.{headers_of, constructor_of, given_of}
use Rattle.syntax_tree.specs.declared.expr.InfixOp.{InfixOp}
use Rattle.syntax_tree.specs.declared.region.BaseTree.{BaseTree}
use Rattle.syntax_tree.specs.declared.region.Named.{Named}
use Rattle.syntax_tree.specs.declared.region.RplTree.{RplTree}
use Rattle.syntax_tree.specs.declared.region.Suffix.{Suffix}
use Rattle.syntax_tree.specs.Plain.{PlainExpr, expression, ExprForm, int, boolean, null, this, local, field, element, call, create, create_array, unary, binary, PlainExprs, no_exprs, more_exprs}
use Rattle.lang_typed.specs.Plain.{TypedExpr, typed, type_of}
use Rattle.lang_typed.specs.Plain.{ExprForm as form}
use Rattle.body_exprs.specs.declared.env.Env.{Env}
use Rattle.body_exprs.specs.declared.env.LocalRow.{LocalRow}
use Rattle.body_exprs.specs.declared.found.Found.{Found}
use Rattle.body_exprs.specs.Answer.{Answer, gives, refused, with_call}
use Rattle.body_exprs.specs.Arrays.{made_names, front_reported}
use Rattle.body_exprs.specs.Elements.{read_element, read_part}
use Rattle.body_exprs.specs.Env.{table_of, given_in, local_of, part_of, this_type_of}
use Rattle.body_exprs.specs.Fields.{read_field}
use Rattle.body_exprs.specs.Locals.{local_typed, measured}
use Rattle.body_exprs.specs.Operations.{unary_typed, binary_typed}
use Rattle.body_exprs.specs.Partial.{is_partial_call}
use Rattle.body_exprs.specs.Steps.{after, looked_up}
use Rattle.body_exprs.specs.Targeting.{TargetAnswer, misses, aimed, field_target, element_target, part_target, target_form, type_target, Targeting}
use Rattle.body_exprs.specs.Typed.{type_in, nodes_at, may_be, is_value}
use Rattle.body_exprs.specs.Typing.{answer, AllAnswer, all_give, one_refused, after_all, type_array, type_expr, type_form, type_all, Typing}
use Rattle.body_exprs.specs.Uses.{args_of, args_reported, args_noted, callee_params, created_params, formals_of, method_through, use_reported, called, with_constructor, type_call_of, type_call, type_creation_of, type_creation}

-- a call of a method with region arguments that has no fault
pub data CallOf (env : Env) (e : TypedExpr) (class : ℕ) (row : MethodRow) (owned : List Rpl) (args : ReadArgs) (actuals : List (Option TypedExpr)) (place : Place) (found : Found) : Answer → Type 0 where
  fitting_call : {regions : List Rpl} →
      args_given args.written args.paths row.regions ≡ Some regions →
      use_reported env (args_noted args row.regions place) (owned ++ regions) (map type_in actuals) row.params (is_partial_call owned row)
      (all_hold (given_in env) (owned ++ regions) row.given) place ≡ None →
      CallOf env e class row owned args actuals place found
      (gives (Some (called env e class row owned regions actuals place)) (with_call (table_of env) found row (owned ++ regions)))
  call_refused : {q : Refusal} → CallOf env e class row owned args actuals place found (refused q)

pub data Call (env : Env) : Option TypedExpr → ℕ → ReadArgs → List (Option TypedExpr) → Place → Found → Answer → Type 0 where
  of_method : {e : TypedExpr} {name : ℕ} {args : ReadArgs} {actuals : List (Option TypedExpr)} {place : Place} {found : Found} {class : ℕ} {row : MethodRow} {owned : List Rpl} {a : Answer} →
      method_through (table_of env) (type_of e) name place ≡ Ok (class, row, owned) → CallOf env e class row owned args actuals place found a →
      Call env (Some e) name args actuals place found a
  on_anything : {name : ℕ} {args : ReadArgs} {actuals : List (Option TypedExpr)} {place : Place} {found : Found} → Call env None name args actuals place found (gives None found)
  use_refused : {t : Option TypedExpr} {name : ℕ} {args : ReadArgs} {actuals : List (Option TypedExpr)} {place : Place} {found : Found} {q : Refusal} →
      Call env t name args actuals place found (refused q)

-- the creation of an object of a class that has no fault
pub data CreationOf (env : Env) (at : ℕ) (args : ReadArgs) (actuals : List (Option TypedExpr)) (place : Place) (found : Found) : Answer → Type 0 where
  created : {regions : List Rpl} →
      args_given args.written args.paths (params_in (headers_of (table_of env)) at) ≡ Some regions →
      use_reported env (args_noted args (params_in (headers_of (table_of env)) at) place) regions (map type_in actuals) (formals_of (table_of env) at) false
      (all_hold (given_in env) regions (given_of (table_of env) at)) place ≡ None →
      CreationOf env at args actuals place found
      (gives (Some (typed place (ty.class at regions) (form.create (nodes_at place actuals)))) (with_constructor (table_of env) found (constructor_of (table_of env) at) regions))
  creation_refused : {q : Refusal} → CreationOf env at args actuals place found (refused q)

pub data Creation (env : Env) (class : Named) (args : ReadArgs) (actuals : List (Option TypedExpr)) (place : Place) (found : Found) : Answer → Type 0 where
  of_class : {at : ℕ} {a : Answer} →
      class_of (headers_of (table_of env)) class.name ≡ Some at → CreationOf env at args actuals place found a → Creation env class args actuals place found a
  object_refused : {q : Refusal} → Creation env class args actuals place found (refused q)

-- a literal, `null`, `this` and a local, which have no expressions in them
abbrev pub leaf_typed : Env → Place → ExprForm → Option (Result TypedExpr Refusal)
leaf_typed env place (int k) = Some (Ok (typed place ty.int (form.int k)))
leaf_typed env place (boolean b) = Some (Ok (typed place ty.boolean (form.boolean b)))
leaf_typed env place null = Some (Ok (typed place ty.null form.null))
leaf_typed env place this = Some (Ok (typed place (this_type_of env) (form.local 0)))
leaf_typed env place (local name) = Some (local_typed (local_of env name) place)
leaf_typed env place other = None

mutual
  pub data Rules (env : Env) : PlainExpr → Found → Answer → Type 0 where
    no_parts : {place : Place} {form : ExprForm} {f : Found} {r : Result TypedExpr Refusal} {a : Answer} →
        leaf_typed env place form ≡ Some r → answer r f ≡ a → Rules env (expression place form) f a
    part_length : {place : Place} {of : PlainExpr} {name : ℕ} {f : Found} {row : LocalRow} →
        measured env of name ≡ Some row → Rules env (expression place (field of name)) f (gives (Some (typed place ty.int (form.part_length row.slot))) f)
    field_read : {place : Place} {of : PlainExpr} {name : ℕ} {f g : Found} {t : Option TypedExpr} {a : Answer} →
        measured env of name ≡ None → Rules env of f (gives t g) → read_field env t name place g ≡ a → Rules env (expression place (field of name)) f a
    part_element_read : {place : Place} {array index : PlainExpr} {f g : Found} {row : LocalRow} {t : Option TypedExpr} {a : Answer} →
        part_of env array ≡ Some row → Rules env index f (gives t g) → read_part row t place g ≡ a → Rules env (expression place (element array index)) f a
    element_read : {place : Place} {array index : PlainExpr} {f g h : Found} {t u : Option TypedExpr} {a : Answer} →
        part_of env array ≡ None → Rules env array f (gives t g) → Rules env index g (gives u h) → read_element env t index u place h ≡ a →
        Rules env (expression place (element array index)) f a
    operation : {place : Place} {op : UnaryOp} {arg : PlainExpr} {f g : Found} {t : Option TypedExpr} {a : Answer} →
        Rules env arg f (gives t g) → answer (unary_typed op t place) g ≡ a → Rules env (expression place (unary op arg)) f a
    both_operands : {place : Place} {op : InfixOp} {left right : PlainExpr} {f g h : Found} {t u : Option TypedExpr} {a : Answer} →
        Rules env left f (gives t g) → Rules env right g (gives u h) → answer (binary_typed op t u place) h ≡ a → Rules env (expression place (binary op left right)) f a
    method_call : {place : Place} {of : PlainExpr} {regions : List RplTree} {name : ℕ} {actuals : PlainExprs} {f g h : Found} {t : Option TypedExpr} {types : List (Option TypedExpr)} {a : Answer} →
        Rules env of f (gives t g) → args_reported env (callee_params (table_of env) (type_in t) name) regions ≡ None → AllRules env actuals g (all_give types h) →
        Call env t name (args_of env regions) types place h a → Rules env (expression place (call of regions name actuals)) f a
    new_object : {place : Place} {class : Named} {regions : List RplTree} {actuals : PlainExprs} {f g : Found} {types : List (Option TypedExpr)} {a : Answer} →
        args_reported env (created_params (table_of env) class) regions ≡ None → AllRules env actuals f (all_give types g) →
        Creation env class (args_of env regions) types place g a → Rules env (expression place (create class regions actuals)) f a
    new_array : {place : Place} {base : BaseTree} {suffixes : List Suffix} {len : PlainExpr} {rpl : Option RplTree} {index : Option Named} {f g : Found} {t : Option TypedExpr} {a : Answer} →
        front_reported env (made_names suffixes index) base ≡ None → Rules env len f (gives t g) →
        answer (type_array env (made_names suffixes index) base rpl place t) g ≡ a → Rules env (expression place (create_array base suffixes len rpl index)) f a
    is_refused : {e : PlainExpr} {f : Found} {q : Refusal} → Rules env e f (refused q)

  pub data AllRules (env : Env) : PlainExprs → Found → AllAnswer → Type 0 where
    none_left : {f : Found} → AllRules env no_exprs f (all_give [] f)
    one_more : {e : PlainExpr} {es : PlainExprs} {f g h : Found} {t : Option TypedExpr} {types : List (Option TypedExpr)} →
        Rules env e f (gives t g) → AllRules env es g (all_give types h) → AllRules env (more_exprs e es) f (all_give (t ∷ types) h)
    some_refused : {es : PlainExprs} {f : Found} {q : Refusal} → AllRules env es f (one_refused q)

-- what is assigned to
pub data TargetRules (env : Env) : PlainExpr → Found → TargetAnswer → Type 0 where
  field_assigned : {place : Place} {of : PlainExpr} {name : ℕ} {f g : Found} {t : Option TypedExpr} {a : TargetAnswer} →
      measured env of name ≡ None → Rules env of f (gives t g) → aimed (field_target env t name place) g ≡ a → TargetRules env (expression place (field of name)) f a
  part_element_assigned : {place : Place} {array index : PlainExpr} {f g : Found} {row : LocalRow} {t : Option TypedExpr} {a : TargetAnswer} →
      part_of env array ≡ Some row → Rules env index f (gives t g) → aimed (part_target row t place) g ≡ a → TargetRules env (expression place (element array index)) f a
  element_assigned : {place : Place} {array index : PlainExpr} {f g h : Found} {t u : Option TypedExpr} {a : TargetAnswer} →
      part_of env array ≡ None → Rules env array f (gives t g) → Rules env index g (gives u h) → aimed (element_target env t index u place) h ≡ a →
      TargetRules env (expression place (element array index)) f a
  is_missed : {e : PlainExpr} {f : Found} {q : Refusal} → TargetRules env e f (misses q)

-- what comes out of a step, by what the step before it gave
by_test : {A : Type 0} (P : A → Type 0) (some none : A) (test : Bool) → P some → P none → P (cond test some none)
by_test P some none true is otherwise = is
by_test P some none false is otherwise = otherwise

by_option : {X A : Type 0} (P : A → Type 0) (some : X → A) (none : A) (o : Option X) → ((x : X) → o ≡ Some x → P (some x)) → (o ≡ None → P none) → P (option_map_or some o none)
by_option P some none (Some x) is otherwise = is x refl
by_option P some none None is otherwise = otherwise refl

by_result : {X : Type 0} (P : Answer → Type 0) (next : X → Answer) (r : Result X Refusal) → ((q : Refusal) → P (refused q)) → ((x : X) → r ≡ Ok x → P (next x)) → P (looked_up r next)
by_result P next (Ok x) stops goes = goes x refl
by_result P next (Err q) stops goes = stops q

by_answer : {env : Env} {e : PlainExpr} {f : Found} {A : Type 0} (P : A → Type 0) (refuse : Refusal → A) (next : Option TypedExpr → Found → A) (a : Answer) → Rules env e f a →
    ((q : Refusal) → P (refuse q)) → ((t : Option TypedExpr) (g : Found) → Rules env e f (gives t g) → P (next t g)) → P (after refuse a next)
by_answer P refuse next (refused q) d stops goes = stops q
by_answer P refuse next (gives t g) d stops goes = goes t g d

by_answers : {env : Env} {es : PlainExprs} {f : Found} {A : Type 0} (P : A → Type 0) (refuse : Refusal → A) (next : List (Option TypedExpr) → Found → A) (a : AllAnswer) →
    AllRules env es f a → ((q : Refusal) → P (refuse q)) → ((types : List (Option TypedExpr)) (g : Found) → AllRules env es f (all_give types g) → P (next types g)) → P (after_all refuse a next)
by_answers P refuse next (one_refused q) d stops goes = stops q
by_answers P refuse next (all_give types g) d stops goes = goes types g d

-- uses
call_of_rules : (env : Env) (e : TypedExpr) (class : ℕ) (row : MethodRow) (owned : List Rpl) (args : ReadArgs) (actuals : List (Option TypedExpr)) (place : Place) (found : Found) →
    CallOf env e class row owned args actuals place found (type_call_of env e class row owned args actuals place found)
call_of_rules env e class row owned args actuals place found =
    let P = CallOf env e class row owned args actuals place found in
    by_option P _ _ (args_given args.written args.paths row.regions)
    (λ regions is.
    by_option P _ _ (use_reported env (args_noted args row.regions place) (owned ++ regions) (map type_in actuals) row.params (is_partial_call owned row) (all_hold (given_in env) (owned ++ regions) row.given) place)
    (λ q said. CallOf.call_refused) (λ said. CallOf.fitting_call is said))
    (λ is. CallOf.call_refused)

call_rules : (env : Env) (t : Option TypedExpr) (name : ℕ) (args : ReadArgs) (actuals : List (Option TypedExpr)) (place : Place) (found : Found) →
    Call env t name args actuals place found (type_call env t name args actuals place found)
call_rules env (Some e) name args actuals place found =
    by_result (Call env (Some e) name args actuals place found) _ (method_through (table_of env) (type_of e) name place) (λ q. Call.use_refused)
    (λ seen is. Call.of_method is (call_of_rules env e seen.0 seen.1 seen.2 args actuals place found))
call_rules env None name args actuals place found =
    by_test (Call env None name args actuals place found) _ _ (list_all (may_be is_value) (map type_in actuals)) Call.on_anything Call.use_refused

creation_of_rules : (env : Env) (at : ℕ) (args : ReadArgs) (actuals : List (Option TypedExpr)) (place : Place) (found : Found) →
    CreationOf env at args actuals place found (type_creation_of env at args actuals place found)
creation_of_rules env at args actuals place found =
    let P = CreationOf env at args actuals place found in
    let params = params_in (headers_of (table_of env)) at in
    by_option P _ _ (args_given args.written args.paths params)
    (λ regions is.
    by_option P _ _ (use_reported env (args_noted args params place) regions (map type_in actuals) (formals_of (table_of env) at) false (all_hold (given_in env) regions (given_of (table_of env) at)) place)
    (λ q said. CreationOf.creation_refused) (λ said. CreationOf.created is said))
    (λ is. CreationOf.creation_refused)

creation_rules : (env : Env) (class : Named) (args : ReadArgs) (actuals : List (Option TypedExpr)) (place : Place) (found : Found) →
    Creation env class args actuals place found (type_creation env class args actuals place found)
creation_rules env class args actuals place found =
    by_option (Creation env class args actuals place found) _ _ (class_of (headers_of (table_of env)) class.name)
    (λ at is. Creation.of_class is (creation_of_rules env at args actuals place found)) (λ is. Creation.object_refused)

-- the rules say it here
abbrev At : Env → Place → ExprForm → Found → Answer → Type 0
At env place form f a = Rules env (expression place form) f a

mutual
  expr_rules : (env : Env) (e : PlainExpr) (f : Found) → Rules env e f (type_expr env e f)
  expr_rules env (expression place form) f = form_rules env place form f

  form_rules : (env : Env) (place : Place) (form : ExprForm) (f : Found) → At env place form f (type_form env place form f)
  form_rules env place (int k) f = Rules.no_parts refl refl
  form_rules env place (boolean b) f = Rules.no_parts refl refl
  form_rules env place null f = Rules.no_parts refl refl
  form_rules env place this f = Rules.no_parts refl refl
  form_rules env place (local name) f = Rules.no_parts refl refl
  form_rules env place (field of name) f =
      let P = At env place (field of name) f in
      by_option P _ _ (measured env of name) (λ row is. Rules.part_length is)
      (λ is. by_answer P _ _ _ (expr_rules env of f) (λ q. Rules.is_refused) (λ t g d. Rules.field_read is d refl))
  form_rules env place (element array index) f =
      let P = At env place (element array index) f in
      by_option P _ _ (part_of env array)
      (λ row is. by_answer P _ _ _ (expr_rules env index f) (λ q. Rules.is_refused) (λ t g d. Rules.part_element_read is d refl))
      (λ is. by_answer P _ _ _ (expr_rules env array f) (λ q. Rules.is_refused)
      (λ t g d. by_answer P _ _ _ (expr_rules env index g) (λ q. Rules.is_refused) (λ u h i. Rules.element_read is d i refl)))
  form_rules env place (unary op arg) f =
      by_answer (At env place (unary op arg) f) _ _ _ (expr_rules env arg f) (λ q. Rules.is_refused) (λ t g d. Rules.operation d refl)
  form_rules env place (binary op left right) f =
      let P = At env place (binary op left right) f in
      by_answer P _ _ _ (expr_rules env left f) (λ q. Rules.is_refused)
      (λ t g d. by_answer P _ _ _ (expr_rules env right g) (λ q. Rules.is_refused) (λ u h i. Rules.both_operands d i refl))
  form_rules env place (call of regions name actuals) f =
      let P = At env place (call of regions name actuals) f in
      by_answer P _ _ _ (expr_rules env of f) (λ q. Rules.is_refused)
      (λ t g d. by_option P _ _ (args_reported env (callee_params (table_of env) (type_in t) name) regions) (λ q is. Rules.is_refused)
      (λ is. by_answers P _ _ _ (all_rules env actuals g) (λ q. Rules.is_refused)
      (λ types h i. Rules.method_call d is i (call_rules env t name (args_of env regions) types place h))))
  form_rules env place (create class regions actuals) f =
      let P = At env place (create class regions actuals) f in
      by_option P _ _ (args_reported env (created_params (table_of env) class) regions) (λ q is. Rules.is_refused)
      (λ is. by_answers P _ _ _ (all_rules env actuals f) (λ q. Rules.is_refused)
      (λ types g i. Rules.new_object is i (creation_rules env class (args_of env regions) types place g)))
  form_rules env place (create_array base suffixes len rpl index) f =
      let P = At env place (create_array base suffixes len rpl index) f in
      by_option P _ _ (front_reported env (made_names suffixes index) base) (λ q is. Rules.is_refused)
      (λ is. by_answer P _ _ _ (expr_rules env len f) (λ q. Rules.is_refused) (λ t g d. Rules.new_array is d refl))

  all_rules : (env : Env) (es : PlainExprs) (f : Found) → AllRules env es f (type_all env es f)
  all_rules env no_exprs f = AllRules.none_left
  all_rules env (more_exprs e es) f =
      let P = λ (a : AllAnswer). AllRules env (more_exprs e es) f a in
      by_answer P _ _ _ (expr_rules env e f) (λ q. AllRules.some_refused)
      (λ t g d. by_answers P _ _ _ (all_rules env es g) (λ q. AllRules.some_refused) (λ types h i. AllRules.one_more d i))

form_target_rules : (env : Env) (place : Place) (form : ExprForm) (f : Found) → TargetRules env (expression place form) f (target_form env place form f)
form_target_rules env place (field of name) f =
    let P = TargetRules env (expression place (field of name)) f in
    by_option P _ _ (measured env of name) (λ row is. TargetRules.is_missed)
    (λ is. by_answer P _ _ _ (expr_rules env of f) (λ q. TargetRules.is_missed) (λ t g d. TargetRules.field_assigned is d refl))
form_target_rules env place (element array index) f =
    let P = TargetRules env (expression place (element array index)) f in
    by_option P _ _ (part_of env array)
    (λ row is. by_answer P _ _ _ (expr_rules env index f) (λ q. TargetRules.is_missed) (λ t g d. TargetRules.part_element_assigned is d refl))
    (λ is. by_answer P _ _ _ (expr_rules env array f) (λ q. TargetRules.is_missed)
    (λ t g d. by_answer P _ _ _ (expr_rules env index g) (λ q. TargetRules.is_missed) (λ u h i. TargetRules.element_assigned is d i refl)))
form_target_rules env place form f = TargetRules.is_missed

target_of_rules : (env : Env) (e : PlainExpr) (f : Found) → TargetRules env e f (type_target env e f)
target_of_rules env (expression place form) f = form_target_rules env place form f

-- what the function says of an expression, and of what is assigned to, is by these steps
pub rules : (env : Env) (e : PlainExpr) (f : Found) {a : Answer} → Typing env e f a → Rules env e f a
rules env e f d = subst (Rules env e f) d (expr_rules env e f)

pub target_rules : (env : Env) (e : PlainExpr) (f : Found) {a : TargetAnswer} → Targeting env e f a → TargetRules env e f a
target_rules env e f d = subst (TargetRules env e f) d (target_of_rules env e f)
