-- What expressions are: the typed expression that one gives where it stands, with its effects, or its first fault. Its parts are
-- evaluated in order, and a fault of a part is the fault of the whole.
use Rattle.std.specs.Prelude.{◌≡◌, List, [], ◌∷◌, Option, Some, Result, Ok, Err}
use Rattle.lang_base.specs.declared.place.Place.{Place}
use Rattle.lang_base.specs.declared.refusal.Refusal.{Refusal}
use Rattle.lang_base.specs.Types.{PlainType}
use Rattle.lang_base.specs.Types.{PlainType as ty}
use Rattle.decl_resolve.specs.Index.{PlainIndex}
use Rattle.syntax_tree.specs.declared.region.BaseTree.{BaseTree}
use Rattle.syntax_tree.specs.declared.region.RplTree.{RplTree}
use Rattle.syntax_tree.specs.Plain.{PlainExpr, expression, ExprForm, int, boolean, null, this, local, field, element, call, create, create_array, unary, binary, PlainExprs, no_exprs, more_exprs}
use Rattle.lang_typed.specs.Plain.{TypedExpr, typed}
use Rattle.lang_typed.specs.Plain.{ExprForm as form}
use Rattle.body_exprs.specs.declared.env.Env.{Env}
use Rattle.body_exprs.specs.declared.found.Found.{Found}
use Rattle.body_exprs.specs.Answer.{Answer, gives, refused}
use Rattle.body_exprs.specs.Arrays.{made_names, front_of, front_reported, created_array}
use Rattle.body_exprs.specs.Elements.{read_element, read_part}
use Rattle.body_exprs.specs.Env.{table_of, local_of, part_of, this_type_of}
use Rattle.body_exprs.specs.Locals.{local_typed, measured}
use Rattle.body_exprs.specs.Fields.{read_field}
use Rattle.body_exprs.specs.Operations.{unary_typed, binary_typed}
use Rattle.body_exprs.specs.Steps.{◌>>=◌, ◌>>◌, after, given}
use Rattle.body_exprs.specs.Typed.{type_in, node_at}
use Rattle.body_exprs.specs.Uses.{args_of, args_reported, callee_params, created_params, type_call, type_creation}

-- an expression without effects of its own, or a refusal
abbrev pub answer : Result TypedExpr Refusal → Found → Answer
answer (Ok e) found = gives (Some e) found
answer (Err refusal) found = refused refusal

-- an array creation of this type
abbrev pub created : Place → TypedExpr → Result PlainType Refusal → Result TypedExpr Refusal
created place len (Ok t) = Ok (typed place t (form.create_array len))
created place len (Err refusal) = Err refusal

-- several expressions give typed ones, or the first that is refused is
pub data AllAnswer : Type 0 where
  all_give : List (Option TypedExpr) → Found → AllAnswer
  one_refused : Refusal → AllAnswer

-- goes on with what several expressions give
abbrev pub after_all : {A : Type 0} → (Refusal → A) → AllAnswer → (List (Option TypedExpr) → Found → A) → A
after_all refuse (all_give types found) next = next types found
after_all refuse (one_refused refusal) next = refuse refusal

-- the creation of an array, whose length is this
abbrev pub type_array : Env → PlainIndex → BaseTree → Option RplTree → Place → Option TypedExpr → Result TypedExpr Refusal
type_array env around base rpl place len = created place (node_at place len) (created_array env around (front_of env around base) (type_in len) rpl place)

-- the steps of a clause in order: the first that refuses is the fault. The length of a part, and a part whose element is read,
-- aren't read themselves; `this` has the first slot
abbrev mutual
  pub type_expr : Env → PlainExpr → Found → Answer
  type_expr env (expression place form) f = type_form env place form f

  pub type_form : Env → Place → ExprForm → Found → Answer
  type_form env place (int k) f = answer (Ok (typed place ty.int (form.int k))) f
  type_form env place (boolean b) f = answer (Ok (typed place ty.boolean (form.boolean b))) f
  type_form env place null f = answer (Ok (typed place ty.null form.null)) f
  type_form env place this f = answer (Ok (typed place (this_type_of env) (form.local 0))) f
  type_form env place (local name) f = answer (local_typed (local_of env name) place) f
  type_form env place (field of name) f =
      given (measured env of name) (λ row. gives (Some (typed place ty.int (form.part_length row.slot))) f) (do
        (t, g) ← type_expr env of f
        read_field env t name place g)
  type_form env place (element array index) f =
      given (part_of env array) (λ row. do
        (i, g) ← type_expr env index f
        read_part row i place g)
      (do
        (t, g) ← type_expr env array f
        (i, h) ← type_expr env index g
        read_element env t index i place h)
  type_form env place (unary op arg) f = do
    (t, g) ← type_expr env arg f
    answer (unary_typed op t place) g
  type_form env place (binary op left right) f = do
    (t, g) ← type_expr env left f
    (u, h) ← type_expr env right g
    answer (binary_typed op t u place) h
  type_form env place (call of regions name actuals) f = do
    (t, g) ← type_expr env of f
    args_reported env (callee_params (table_of env) (type_in t) name) regions
    after_all refused (type_all env actuals g) (λ types h. type_call env t name (args_of env regions) types place h)
  type_form env place (create class regions actuals) f = do
    args_reported env (created_params (table_of env) class) regions
    after_all refused (type_all env actuals f) (λ types g. type_creation env class (args_of env regions) types place g)
  type_form env place (create_array base suffixes len rpl index) f = do
    front_reported env (made_names suffixes index) base
    (t, g) ← type_expr env len f
    answer (type_array env (made_names suffixes index) base rpl place t) g

  -- several, one after the other
  pub type_all : Env → PlainExprs → Found → AllAnswer
  type_all env no_exprs f = all_give [] f
  type_all env (more_exprs e es) f =
      after one_refused (type_expr env e f) (λ t g. after_all one_refused (type_all env es g) (λ types h. all_give (t ∷ types) h))

-- the rules say this of an expression where it stands, and of several
abbrev pub Typing : Env → PlainExpr → Found → Answer → Type 0
Typing env e f a = type_expr env e f ≡ a

abbrev pub TypingAll : Env → PlainExprs → Found → AllAnswer → Type 0
TypingAll env es f a = type_all env es f ≡ a
