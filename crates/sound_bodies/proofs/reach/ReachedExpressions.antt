-- An expression has the shape of its type, and reaches an nd construct only by a call or a creation in it of what forks.
use Rattle.std.proofs.Common.{◌≡◌, ◌∙◌, ◌+◌, ℕ, suc, Bool, true, false, ◌&&◌, ◌||◌, cond, List, [], ◌∷◌, ◌++◌, length, Option, Some, None, option_map, Result, Ok, Err, inl, refl, sym, ap, subst, arith}
use Rattle.std.specs.Option.{option_and_then, option_map_or}
use Rattle.std.specs.Prelude.{unwrap_or}
use Rattle.lang_base.specs.declared.op.BinaryOp.{BinaryOp}
use Rattle.lang_base.specs.declared.op.BinaryOp.TheVariants.{Add}
use Rattle.lang_base.specs.declared.op.UnaryOp.{UnaryOp}
use Rattle.lang_base.specs.declared.op.UnaryOp.TheVariants.{Negate, Not}
use Rattle.lang_base.specs.declared.place.Place.{Place}
use Rattle.lang_base.specs.declared.refusal.Kind.TheVariants as kind
use Rattle.lang_base.specs.declared.refusal.Refusal.{Refusal}
use Rattle.lang_base.specs.declared.region.Rpl.{Rpl}
use Rattle.lang_base.specs.Operators.{unary_type, result_of}
use Rattle.lang_base.specs.Types.{PlainType, plain_type, type_with}
use Rattle.lang_base.specs.Types.{PlainType as ty}
use Rattle.region_types.specs.Access.{element_of, index_elem}
use Rattle.decl_headers.specs.Headers.{class_of}
use Rattle.decl_headers.specs.Passes.{fault}
use Rattle.decl_resolve.specs.declared.args.ReadArgs.{ReadArgs}
use Rattle.decl_resolve.specs.Index.{PlainIndex}
use Rattle.decl_resolve.specs.Names.{Names}
use Rattle.decl_resolve.specs.Scoped.{value_in}
use Rattle.decl_resolve.specs.Written.{judged_type}
use Rattle.syntax_tree.specs.declared.expr.InfixOp.{InfixOp}
use Rattle.syntax_tree.specs.declared.expr.InfixOp.TheVariants.{Logic, Binary}
use Rattle.syntax_tree.specs.declared.region.BaseTree.{BaseTree}
use Rattle.syntax_tree.specs.declared.region.Named.{Named}
use Rattle.syntax_tree.specs.declared.region.RplTree.{RplTree}
use Rattle.syntax_tree.specs.Plain as tree
use Rattle.decl_table.specs.declared.rows.FieldRow.{FieldRow}
use Rattle.decl_table.specs.declared.rows.MethodRow.{MethodRow}
use Rattle.decl_reach.specs.declared.shape.Shape.{Shape}
use Rattle.decl_table.specs.declared.table.Table.{Table}
use Rattle.decl_reach.specs.Calls.{shape_of, id_of, calls_of, all_calls}
use Rattle.decl_reach.specs.Edges.{without_forks}
use Rattle.decl_reach.specs.Shapes.{no_class, object_shape, written_shape, type_shape, element_in, object_of, called_row, call_shape, run_row, create_shape, field_shape}
use Rattle.decl_reach.specs.Shapes.{element_of as element_shape}
use Rattle.decl_table.specs.Table.{headers_of, field_of, method_of, constructor_of, args_at, is_forking}
use Rattle.lang_typed.specs.Plain.{TypedExpr, typed, type_of}
use Rattle.lang_typed.specs.Plain.{ExprForm as form}
use Rattle.body_exprs.specs.declared.env.Env.{Env}
use Rattle.body_exprs.specs.declared.env.LocalRow.{LocalRow}
use Rattle.body_exprs.specs.declared.found.Found.{Found}
use Rattle.body_exprs.specs.Answer.{Answer, gives, refused, read}
use Rattle.body_exprs.specs.Arrays.{made_names, array_reported, array_with, type_reported, own_path, own_place, created_array, front_of}
use Rattle.body_exprs.specs.Elements.{array_element, element_read, read_element, index_of, element_in_part, part_read, read_part}
use Rattle.body_exprs.specs.Env.{table_of, scope_of, local_of, as_part, part_of, is_length_name}
use Rattle.body_exprs.specs.Fields.{owned_field, named_field, field_through, field_read, read_field}
use Rattle.body_exprs.specs.Locals.{local_typed}
use Rattle.body_exprs.specs.Operations.{unary_takes, binary_takes, binary_gives, binary_form, node_if}
use Rattle.body_exprs.specs.Targeting.{TargetAnswer, aims, misses, aimed, field_target, element_target, part_target, PlainTarget, Targeting}
use Rattle.body_exprs.specs.Typed.{type_in, node_at, may_be, is_int, is_array}
use Rattle.body_exprs.specs.Typing.{answer, created, AllAnswer, all_give, one_refused, Typing}
use Rattle.body_exprs.specs.Uses.{args_of, owned_method, named_method, method_through, with_constructor}
use Rattle.sound_lemmas.proofs.Lists.{some_same, ok_same}
use Rattle.sound_lemmas.proofs.Rules.{leaf_typed, CallOf, Call, CreationOf, Creation, Rules, AllRules, TargetRules, rules, target_rules}
use Rattle.sound_bodies.proofs.reach.Reached.{Adds, adds_none, adds_then, adds_more, adds_later, adds_call}
use Rattle.sound_bodies.proofs.reach.TypeShapes.{IsShape, shape_with, shape_at, judged_shaped}

-- types of fields and results have their shapes
pub record AreShallow (table : Table) : Type 0 where
  pub fields : (class name : ℕ) (row : FieldRow) → field_of table class name ≡ Some row → IsShape (type_shape (plain_type row.ty)) (plain_type row.ty)
  pub results : (class name : ℕ) (row : MethodRow) → method_of table class name ≡ Some row → IsShape (type_shape (plain_type row.result)) (plain_type row.result)

-- what is given has the shape
abbrev pub Shown : Shape → Option TypedExpr → Type 0
Shown s None = Unit {0}
Shown s (Some t) = IsShape s (type_of t)

module _ (env : Env) (locals : Names Shape) (rows : AreShallow (table_of env))
    (known : (name : ℕ) (row : LocalRow) → local_of env name ≡ Some row → IsShape (unwrap_or (value_in locals name) no_class) (plain_type row.ty))
  where
    abbrev T : Table
    T = without_forks (table_of env)

    abbrev shape : tree.PlainExpr → Shape
    shape e = shape_of T env.class locals e

    abbrev calls : tree.PlainExpr → List ℕ
    calls e = calls_of T env.class locals e

    abbrev every : tree.PlainExprs → List ℕ
    every es = all_calls T env.class locals es

    abbrev More : Found → List ℕ → Found → Type 0
    More f ids g = Adds (table_of env) f.reaches_nd false ids g.reaches_nd

    abbrev Answered : Shape → List ℕ → Found → Answer → Type 0
    Answered s ids f (gives t g) = Shown s t × More f ids g
    Answered s ids f (refused refusal) = Unit {0}

    abbrev AllAnswered : List ℕ → Found → AllAnswer → Type 0
    AllAnswered ids f (all_give ts g) = More f ids g
    AllAnswered ids f (one_refused refusal) = Unit {0}

    abbrev Of : tree.PlainExpr → Found → Answer → Type 0
    Of e f a = Answered (shape e) (calls e) f a

    none_more : (f : Found) → More f [] f
    none_more f = adds_none (table_of env) f.reaches_nd

    then_more : (f g h : Found) (xs ys : List ℕ) → More f xs g → More g ys h → More f (xs ++ ys) h
    then_more f g h xs ys first second = adds_then (table_of env) f.reaches_nd g.reaches_nd h.reaches_nd false false xs ys first second

    -- a node without effects of its own, which is an int, a boolean or null, or has this type
    made_answered : (s : Shape) (ids : List ℕ) (f g : Found) (r : Result TypedExpr Refusal) → ((t : TypedExpr) → r ≡ Ok t → IsShape s (type_of t)) → More f ids g → Answered s ids f (answer r g)
    made_answered s ids f g (Ok t) h more = (h t refl, more)
    made_answered s ids f g (Err refusal) h more = tt

    typed_is : (s : Shape) (place : Place) (t : PlainType) (e : form) (made : TypedExpr) → IsShape s t → (let r : Result TypedExpr Refusal = Ok (typed place t e) in r) ≡ Ok made → IsShape s (type_of made)
    typed_is s place t e made h is = subst (λ u. IsShape s (type_of u)) (ok_same is) h

    leaf_answered : (place : Place) (e : tree.ExprForm) (f : Found) (r : Result TypedExpr Refusal) → leaf_typed env place e ≡ Some r → Of (tree.expression place e) f (answer r f)
    leaf_answered place (tree.int k) f r is = subst (λ z. Of (tree.expression place (tree.int k)) f (answer z f)) (some_same is) (tt, none_more f)
    leaf_answered place (tree.boolean b) f r is = subst (λ z. Of (tree.expression place (tree.boolean b)) f (answer z f)) (some_same is) (tt, none_more f)
    leaf_answered place tree.null f r is = subst (λ z. Of (tree.expression place tree.null) f (answer z f)) (some_same is) (tt, none_more f)
    leaf_answered place tree.this f r is = subst (λ z. Of (tree.expression place tree.this) f (answer z f)) (some_same is) (refl, none_more f)
    leaf_answered place (tree.local name) f r is = subst (λ z. Of (tree.expression place (tree.local name)) f (answer z f)) (some_same is) (by (local_of env name) (known name))
      where
        s : Shape
        s = unwrap_or (value_in locals name) no_class

        at : (row : LocalRow) (b : Bool) → IsShape s (plain_type row.ty) → Answered s [] f (answer (cond b (Err (fault kind.Type place)) (Ok (typed place (plain_type row.ty) (form.local row.slot)))) f)
        at row true h = tt
        at row false h = (h, none_more f)

        by : (o : Option LocalRow) → ((row : LocalRow) → o ≡ Some row → IsShape s (plain_type row.ty)) → Answered s [] f (answer (local_typed o place) f)
        by None h = tt
        by (Some row) h = at row row.is_part (h row refl)
    leaf_answered place (tree.field of name) f r is = cc
    leaf_answered place (tree.element array index) f r is = cc
    leaf_answered place (tree.call of regions name actuals) f r is = cc
    leaf_answered place (tree.create class regions actuals) f r is = cc
    leaf_answered place (tree.create_array base suffixes len rpl index) f r is = cc
    leaf_answered place (tree.unary op arg) f r is = cc
    leaf_answered place (tree.binary op left right) f r is = cc

    -- a field
    read_answered : (s : Shape) (ids : List ℕ) (f g : Found) (b : Bool) (t : TypedExpr) (rpl : Rpl) (place : Place) → IsShape s (type_of t) → More f ids g → Answered s ids f (read b t rpl place g)
    read_answered s ids f g true t rpl place h more = (h, more)
    read_answered s ids f g false t rpl place h more = tt

    field_answered : (place : Place) (of : tree.PlainExpr) (name : ℕ) (f g : Found) (t : Option TypedExpr) → Shown (shape of) t → More f (calls of) g → Of (tree.expression place (tree.field of name)) f (read_field env t name place g)
    field_answered place of name f g None h more = (tt, more)
    field_answered place of name f g (Some e) h more = by (is_array (type_of e) && is_length_name env name)
      where
        s : Shape
        s = field_shape T (shape of) name

        row_at : (class : ℕ) (row : FieldRow) → object_of (shape of) ≡ Some class → field_of (table_of env) class name ≡ Some row → (args : List Rpl) → IsShape s (type_with args (plain_type row.ty))
        row_at class row object is args =
            let shown : type_shape (plain_type row.ty) ≡ s =
            sym (ap (λ o. option_map_or (λ (r : FieldRow). type_shape (plain_type r.ty)) (option_and_then (λ n. field_of T n name) o) no_class) object
            ∙ ap (λ o. option_map_or (λ (r : FieldRow). type_shape (plain_type r.ty)) o no_class) is) in
            shape_with args s (plain_type row.ty) (subst (λ z. IsShape z (plain_type row.ty)) shown (rows.fields class name row is))

        owned : (class : ℕ) (row : FieldRow) (o : Option (List Rpl)) → ((args : List Rpl) → IsShape s (type_with args (plain_type row.ty))) → Answered s (calls of) f (field_read e (owned_field class row o place) place g)
        owned class row None all = tt
        owned class row (Some args) all = read_answered s (calls of) f g _ _ _ place (all args) more

        named : (class : ℕ) (args : List Rpl) (o : Option FieldRow) → object_of (shape of) ≡ Some class → field_of (table_of env) class name ≡ o → Answered s (calls of) f (field_read e (named_field (table_of env) class args o place) place g)
        named class args None object is = tt
        named class args (Some row) object is = owned class row (args_at (table_of env) class args row.owner) (row_at class row object is)

        through : (t : PlainType) → IsShape (shape of) t → Answered s (calls of) f (field_read e (field_through (table_of env) t name place) place g)
        through (ty.class class args) object = named class args (field_of (table_of env) class name) object refl
        through ty.int object = tt
        through ty.boolean object = tt
        through ty.void object = tt
        through ty.null object = tt
        through (ty.array elem rpl own) object = tt

        by : (b : Bool) → Answered s (calls of) f (cond b (gives (Some (typed place ty.int (form.array_length e))) g) (field_read e (field_through (table_of env) (type_of e) name place) place g))
        by true = (tt, more)
        by false = through (type_of e) h

    -- an element
    element_answered : (place : Place) (array index : tree.PlainExpr) (f h : Found) (t u : Option TypedExpr) → Shown (shape array) t → More f (calls array ++ calls index) h →
        Of (tree.expression place (tree.element array index)) f (read_element env t index u place h)
    element_answered place array index f h t u shown more = by (may_be is_int (type_in u))
      where
        s : Shape
        s = element_shape (shape array)

        ids : List ℕ
        ids = calls array ++ calls index

        e : form
        e = form.element (node_at place t) (node_at place u)

        at : (x : PlainType) → IsShape (shape array) x → Answered s ids f (element_read e (option_map_or (λ seen. Ok (Some seen)) (element_of x (index_of env index)) (Err (fault kind.Type place))) place h)
        at (ty.array elem rpl own) k = read_answered s ids f h _ _ _ place (shape_at 0 (index_elem (index_of env index)) s elem k) more
        at (ty.class class args) k = tt
        at ty.int k = tt
        at ty.boolean k = tt
        at ty.void k = tt
        at ty.null k = tt

        seen : (o : Option TypedExpr) → Shown (shape array) o → Answered s ids f (element_read e (array_element (type_in o) (index_of env index) place) place h)
        seen None k = (tt, more)
        seen (Some x) k = at (type_of x) k

        by : (b : Bool) → Answered s ids f (element_read e (cond b (array_element (type_in t) (index_of env index) place) (Err (fault kind.Type place))) place h)
        by true = seen t shown
        by false = tt

    -- an element of a part
    pub part_shown : (array : tree.PlainExpr) (row : LocalRow) → part_of env array ≡ Some row → IsShape (shape array) (plain_type row.ty)
    part_shown (tree.expression place (tree.local name)) row is = by (local_of env name) (known name) is
      where
        same : (b : Bool) (one : LocalRow) → cond b (Some one) None ≡ Some row → one ≡ row
        same true one e = some_same e
        same false one e = cc

        by : (o : Option LocalRow) → ((one : LocalRow) → o ≡ Some one → IsShape (unwrap_or (value_in locals name) no_class) (plain_type one.ty)) → option_and_then as_part o ≡ Some row →
            IsShape (unwrap_or (value_in locals name) no_class) (plain_type row.ty)
        by None h e = cc
        by (Some one) h e = subst (λ (r : LocalRow). IsShape (unwrap_or (value_in locals name) no_class) (plain_type r.ty)) (same one.is_part one e) (h one refl)
    part_shown (tree.expression place (tree.int k)) row is = cc
    part_shown (tree.expression place (tree.boolean b)) row is = cc
    part_shown (tree.expression place tree.null) row is = cc
    part_shown (tree.expression place tree.this) row is = cc
    part_shown (tree.expression place (tree.field of name)) row is = cc
    part_shown (tree.expression place (tree.element array index)) row is = cc
    part_shown (tree.expression place (tree.call of regions name actuals)) row is = cc
    part_shown (tree.expression place (tree.create class regions actuals)) row is = cc
    part_shown (tree.expression place (tree.create_array base suffixes len rpl index)) row is = cc
    part_shown (tree.expression place (tree.unary op arg)) row is = cc
    part_shown (tree.expression place (tree.binary op left right)) row is = cc

    part_answered : (place : Place) (array index : tree.PlainExpr) (f g : Found) (row : LocalRow) (t : Option TypedExpr) → part_of env array ≡ Some row → More f (calls index) g →
        Of (tree.expression place (tree.element array index)) f (read_part row t place g)
    part_answered place array index f g row t is more = by (may_be is_int (type_in t))
      where
        s : Shape
        s = element_shape (shape array)

        ids : List ℕ
        ids = calls array ++ calls index

        all : More f ids g
        all = adds_later (table_of env) f.reaches_nd g.reaches_nd (calls array) (calls index) more

        at : (x : PlainType) → IsShape (shape array) x → Answered s ids f (part_read (node_at place t) (Ok (element_in_part row.slot x)) place g)
        at (ty.array elem rpl own) k = (k, all)
        at (ty.class class args) k = (tt, all)
        at ty.int k = (tt, all)
        at ty.boolean k = (tt, all)
        at ty.void k = (tt, all)
        at ty.null k = (tt, all)

        by : (b : Bool) → Answered s ids f (part_read (node_at place t) (cond b (Ok (element_in_part row.slot (plain_type row.ty))) (Err (fault kind.Type place))) place g)
        by true = at (plain_type row.ty) (part_shown array row is)
        by false = tt

    -- operations give ints and booleans
    unary_shown : (s : Shape) (op : UnaryOp) → IsShape s (unary_type op)
    unary_shown s Negate = tt
    unary_shown s Not = tt

    result_shown : (s : Shape) (op : BinaryOp) → IsShape s (result_of op)
    result_shown s Add = tt
    result_shown s _ = tt

    binary_shown : (s : Shape) (op : InfixOp) → IsShape s (binary_gives op)
    binary_shown s (Logic op) = tt
    binary_shown s (Binary op) = result_shown s op

    node_answered : (s : Shape) (ids : List ℕ) (f g : Found) (b : Bool) (t : PlainType) (e : form) (place : Place) → IsShape s t → More f ids g → Answered s ids f (answer (node_if b t e place) g)
    node_answered s ids f g true t e place h more = (h, more)
    node_answered s ids f g false t e place h more = tt

    -- calls

    -- the method that a call names
    record Named' (s : Shape) (name : ℕ) (row : MethodRow) : Type 0 where
      class : ℕ
      there : method_of (table_of env) class name ≡ Some row
      row_is : called_row T s name ≡ Some row

    method_seen : (s : Shape) (t : PlainType) (name : ℕ) (place : Place) (class : ℕ) (row : MethodRow) (owned : List Rpl) → IsShape s t → method_through (table_of env) t name place ≡ Ok (class, row, owned) → Named' s name row
    method_seen s t name place class row owned h is = by t h is
      where
        owned_is : (at : ℕ) (one : MethodRow) (o : Option (List Rpl)) → owned_method at one o place ≡ Ok (class, row, owned) → one ≡ row
        owned_is at one None e = cc
        owned_is at one (Some args) e = let parts : (at, one, args) ≡ (class, row, owned) = ok_same e in ap (λ (x : ℕ × MethodRow × List Rpl). x.1) parts

        named : (at : ℕ) (args : List Rpl) (o : Option MethodRow) → method_of (table_of env) at name ≡ o → object_of s ≡ Some at → named_method (table_of env) at args o place ≡ Ok (class, row, owned) → Named' s name row
        named at args None m object e = cc
        named at args (Some one) m object e =
            let same = owned_is at one (args_at (table_of env) at args one.owner) e in
            let there = m ∙ ap Some same in
            record { class = at; there = there; row_is = ap (option_and_then (λ n. method_of T n name)) object ∙ there }

        by : (u : PlainType) → IsShape s u → method_through (table_of env) u name place ≡ Ok (class, row, owned) → Named' s name row
        by (ty.class at args) object e = named at args (method_of (table_of env) at name) refl object e
        by ty.int object e = cc
        by ty.boolean object e = cc
        by ty.void object e = cc
        by ty.null object e = cc
        by (ty.array elem rpl own) object e = cc

    call_made : (s : Shape) (name : ℕ) (ids : List ℕ) (e : TypedExpr) (class : ℕ) (row : MethodRow) (owned : List Rpl) (args : ReadArgs) (ts : List (Option TypedExpr)) (place : Place) (f h : Found) (a : Answer) → Named' s name row →
        More f ids h → CallOf env e class row owned args ts place h a → Answered (call_shape T s name) (ids ++ id_of (called_row T s name)) f a
    call_made s name ids e class row owned args ts place f h a n more CallOf.call_refused = tt
    call_made s name ids e class row owned args ts place f h a n more (CallOf.fitting_call {regions = regions} given right) = (
      subst (λ o. IsShape (option_map_or (λ (r : MethodRow). type_shape (plain_type r.result)) o no_class) (type_with (owned ++ regions) (plain_type row.result))) (sym n.row_is)
          (shape_with (owned ++ regions) (type_shape (plain_type row.result)) (plain_type row.result) (rows.results n.class name row n.there)),
      subst (λ o. Adds (table_of env) f.reaches_nd false (ids ++ id_of o) (h.reaches_nd || is_forking (table_of env) row.id)) (sym n.row_is)
          (adds_then (table_of env) f.reaches_nd h.reaches_nd (h.reaches_nd || is_forking (table_of env) row.id) false false ids (row.id ∷ []) more (adds_call (table_of env) h.reaches_nd row.id)),
    )

    call_answered : (s : Shape) (name : ℕ) (ids : List ℕ) (t : Option TypedExpr) (args : ReadArgs) (ts : List (Option TypedExpr)) (place : Place) (f h : Found) (a : Answer) → Shown s t → More f ids h → Call env t name args ts place h a →
        Answered (call_shape T s name) (ids ++ id_of (called_row T s name)) f a
    call_answered s name ids t args ts place f h a shown more (Call.of_method {e = e} {class = class} {row = row} {owned = owned} is d) =
        call_made s name ids e class row owned args ts place f h a (method_seen s (type_of e) name place class row owned shown is) more d
    call_answered s name ids t args ts place f h a shown more Call.on_anything = (tt, adds_more (table_of env) f.reaches_nd h.reaches_nd ids (id_of (called_row T s name)) more)
    call_answered s name ids t args ts place f h a shown more Call.use_refused = tt

    -- creations
    creation_made : (name at : ℕ) (ids : List ℕ) (args : ReadArgs) (ts : List (Option TypedExpr)) (place : Place) (f g : Found) (a : Answer) → class_of (headers_of (table_of env)) name ≡ Some at → More f ids g →
        CreationOf env at args ts place g a → Answered (create_shape T name) (ids ++ id_of (run_row T name)) f a
    creation_made name at ids args ts place f g a is more CreationOf.creation_refused = tt
    creation_made name at ids args ts place f g a is more (CreationOf.created {regions = regions} given right) = (
      subst (λ o. object_of (option_map_or object_shape o no_class) ≡ Some at) (sym is) refl,
      subst (λ o. More f (ids ++ id_of (option_and_then (constructor_of T) o)) (with_constructor (table_of env) g (constructor_of (table_of env) at) regions)) (sym is) (by (constructor_of (table_of env) at)),
    )
      where
        by : (o : Option MethodRow) → More f (ids ++ id_of o) (with_constructor (table_of env) g o regions)
        by None = adds_more (table_of env) f.reaches_nd g.reaches_nd ids [] more
        by (Some row) =
            adds_then (table_of env) f.reaches_nd g.reaches_nd (g.reaches_nd || is_forking (table_of env) row.id) false false ids (row.id ∷ []) more (adds_call (table_of env) g.reaches_nd row.id)

    creation_answered : (class : Named) (ids : List ℕ) (args : ReadArgs) (ts : List (Option TypedExpr)) (place : Place) (f g : Found) (a : Answer) → More f ids g → Creation env class args ts place g a →
        Answered (create_shape T class.name) (ids ++ id_of (run_row T class.name)) f a
    creation_answered class ids args ts place f g a more Creation.object_refused = tt
    creation_answered class ids args ts place f g a more (Creation.of_class {at = at} is d) = creation_made class.name at ids args ts place f g a is more d

    array_shown : (around : PlainIndex) (base : BaseTree) (len : Option PlainType) (rpl : Option RplTree) (place : Place) (t : PlainType) → created_array env around (front_of env around base) len rpl place ≡ Ok t →
        IsShape (written_shape (headers_of T) base (length around.suffixes + 1)) t
    array_shown around base len rpl place t is = with_path (own_path env around rpl) is
      where
        s : Shape
        s = written_shape (headers_of T) base (length around.suffixes + 1)

        element_is : element_shape s ≡ written_shape (headers_of T) base (length around.suffixes)
        element_is = let next : length around.suffixes + 1 ≡ suc (length around.suffixes) = omega arith in ap (λ n. element_in n s.class) next

        meant : (own : Rpl) (o : Option PlainType) → judged_type (scope_of env) around (front_of env around base) ≡ o → (b : Bool) → type_reported None (option_map (λ elem. ty.array elem own b) o) place ≡ Ok t → IsShape s t
        meant own None known_so b e = cc
        meant own (Some elem) known_so b e =
            let same : ty.array elem own b ≡ t = ok_same e in
            subst (IsShape s) same (subst (λ z. IsShape z elem) (sym element_is) (judged_shaped (scope_of env) around base elem known_so).0)

        unreported : (own : Rpl) (b : Bool) (o : Option Refusal) → type_reported o (option_map (λ elem. ty.array elem own b) (judged_type (scope_of env) around (front_of env around base))) place ≡ Ok t → IsShape s t
        unreported own b (Some refusal) e = cc
        unreported own b None e = meant own (judged_type (scope_of env) around (front_of env around base)) refl b e

        with_path : (r : Result Rpl Refusal) → array_with env around (front_of env around base) (may_be is_int len) r (own_place rpl place) place ≡ Ok t → IsShape s t
        with_path (Err refusal) e = cc
        with_path (Ok own) e = unreported own _ (array_reported env around (front_of env around base) (may_be is_int len) own (own_place rpl place) place) e

    created_shown : (s : Shape) (place : Place) (len : TypedExpr) (r : Result PlainType Refusal) → ((t : PlainType) → r ≡ Ok t → IsShape s t) → (made : TypedExpr) → created place len r ≡ Ok made → IsShape s (type_of made)
    created_shown s place len (Ok t) h made e = typed_is s place t (form.create_array len) made (h t refl) e
    created_shown s place len (Err refusal) h made e = cc

    mutual
      steps_answered : {e : tree.PlainExpr} {f : Found} {a : Answer} → Rules env e f a → Of e f a
      steps_answered (Rules.no_parts {place = place} {form = leaf} {f = f} {r = r} l s) = subst (Of (tree.expression place leaf) f) s (leaf_answered place leaf f r l)
      steps_answered (Rules.part_length {of = of} {f = f} l) = (tt, adds_later (table_of env) f.reaches_nd f.reaches_nd [] (calls of) (λ h. inl h))
      steps_answered Rules.is_refused = tt
      steps_answered (Rules.field_read {place = place} {of = of} {name = name} {f = f} {g = g} {t = t} l d r) =
          let w = steps_answered d in
          subst (Of (tree.expression place (tree.field of name)) f) r (field_answered place of name f g t w.0 w.1)
      steps_answered (Rules.part_element_read {place = place} {array = array} {index = index} {f = f} {g = g} {row = row} {t = t} l d r) =
          subst (Of (tree.expression place (tree.element array index)) f) r (part_answered place array index f g row t l (steps_answered d).1)
      steps_answered (Rules.element_read {place = place} {array = array} {index = index} {f = f} {g = g} {h = h} {t = t} {u = u} l d i r) =
          let w = steps_answered d in
          subst (Of (tree.expression place (tree.element array index)) f) r
          (element_answered place array index f h t u w.0 (then_more f g h (calls array) (calls index) w.1 (steps_answered i).1))
      steps_answered (Rules.operation {place = place} {op = op} {arg = arg} {f = f} {g = g} {t = t} d r) =
          subst (Of (tree.expression place (tree.unary op arg)) f) r
          (node_answered no_class (calls arg) f g (unary_takes op (type_in t)) (unary_type op) (form.unary op (node_at place t)) place (unary_shown no_class op) (steps_answered d).1)
      steps_answered (Rules.both_operands {place = place} {op = op} {left = left} {right = right} {f = f} {g = g} {h = h} {t = t} {u = u} d i r) =
          subst (Of (tree.expression place (tree.binary op left right)) f) r
          (node_answered no_class (calls left ++ calls right) f h (binary_takes op (type_in t) (type_in u)) (binary_gives op) (binary_form op (node_at place t) (node_at place u)) place (binary_shown no_class op)
          (then_more f g h (calls left) (calls right) (steps_answered d).1 (steps_answered i).1))
      steps_answered (Rules.method_call {place = place} {of = of} {regions = regions} {name = name} {actuals = actuals} {f = f} {g = g} {h = h} {t = t} {types = types} {a = a} d l i r) =
          let w = steps_answered d in
          call_answered (shape of) name (calls of ++ every actuals) t (args_of env regions) types place f h a w.0 (then_more f g h (calls of) (every actuals) w.1 (all_answered i)) r
      steps_answered (Rules.new_object {place = place} {class = class} {regions = regions} {actuals = actuals} {f = f} {g = g} {types = types} {a = a} l i r) =
          creation_answered class (every actuals) (args_of env regions) types place f g a (all_answered i) r
      steps_answered (Rules.new_array {place = place} {base = base} {suffixes = suffixes} {len = len} {rpl = rpl} {index = index} {f = f} {g = g} {t = t} l d r) =
          let around = made_names suffixes index in
          let s = written_shape (headers_of T) base (length suffixes + 1) in
          let made = created_array env around (front_of env around base) (type_in t) rpl place in
          subst (Answered s (calls len) f) r
          (made_answered s (calls len) f g (created place (node_at place t) made) (created_shown s place (node_at place t) made (array_shown around base (type_in t) rpl place)) (steps_answered d).1)

      all_answered : {es : tree.PlainExprs} {f : Found} {a : AllAnswer} → AllRules env es f a → AllAnswered (every es) f a
      all_answered (AllRules.none_left {f = f}) = none_more f
      all_answered AllRules.some_refused = tt
      all_answered (AllRules.one_more {e = e} {es = es} {f = f} {g = g} {h = h} d i) = then_more f g h (calls e) (every es) (steps_answered d).1 (all_answered i)

    pub typing_answered : (e : tree.PlainExpr) (f : Found) {a : Answer} → Typing env e f a → Of e f a
    typing_answered e f d = steps_answered (rules env e f d)

    -- what is assigned to
    abbrev pub Targeted : tree.PlainExpr → Found → TargetAnswer → Type 0
    Targeted e f (aims aim g) = More f (calls e) g
    Targeted e f (misses refusal) = Unit {0}

    aimed_so : (e : tree.PlainExpr) (f g : Found) (r : Result (Option PlainTarget) Refusal) → More f (calls e) g → Targeted e f (aimed r g)
    aimed_so e f g (Ok target) more = more
    aimed_so e f g (Err refusal) more = tt

    aims_answered : {e : tree.PlainExpr} {f : Found} {a : TargetAnswer} → TargetRules env e f a → Targeted e f a
    aims_answered TargetRules.is_missed = tt
    aims_answered (TargetRules.field_assigned {place = place} {of = of} {name = name} {f = f} {g = g} {t = t} l d r) =
        subst (Targeted (tree.expression place (tree.field of name)) f) r (aimed_so (tree.expression place (tree.field of name)) f g (field_target env t name place) (steps_answered d).1)
    aims_answered (TargetRules.part_element_assigned {place = place} {array = array} {index = index} {f = f} {g = g} {row = row} {t = t} l d r) =
        subst (Targeted (tree.expression place (tree.element array index)) f) r
        (aimed_so (tree.expression place (tree.element array index)) f g (part_target row t place) (adds_later (table_of env) f.reaches_nd g.reaches_nd (calls array) (calls index) (steps_answered d).1))
    aims_answered (TargetRules.element_assigned {place = place} {array = array} {index = index} {f = f} {g = g} {h = h} {t = t} {u = u} l d i r) =
        subst (Targeted (tree.expression place (tree.element array index)) f) r
        (aimed_so (tree.expression place (tree.element array index)) f h (element_target env t index u place) (then_more f g h (calls array) (calls index) (steps_answered d).1 (steps_answered i).1))

    pub targeting_answered : (e : tree.PlainExpr) (f : Found) {a : TargetAnswer} → Targeting env e f a → Targeted e f a
    targeting_answered e f d = aims_answered (target_rules env e f d)
