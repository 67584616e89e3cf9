-- What is made of an expression that passes is what the expression means.
use Rattle.std.proofs.Common.{◌≡◌, ◌∙◌, ◌≤◌, ℕ, Bool, true, false, ◌&&◌, cond, List, [], ◌∷◌, length, Option, Some, None, option_and_then, Result, Ok, Err, refl, sym, ap, subst}
use Rattle.std.specs.Option.{option_map_or}
use Rattle.lang_base.specs.declared.op.LogicOp.TheVariants.{And, Or}
use Rattle.lang_base.specs.declared.op.UnaryOp.{UnaryOp}
use Rattle.lang_base.specs.declared.place.Place.{Place}
use Rattle.lang_base.specs.declared.refusal.Kind.TheVariants as kind
use Rattle.lang_base.specs.declared.refusal.Refusal.{Refusal}
use Rattle.lang_base.specs.declared.region.Rpl.{Rpl}
use Rattle.lang_base.specs.Types.{PlainType, plain_type}
use Rattle.lang_base.specs.Types.{PlainType as ty}
use Rattle.region_types.specs.Access.{PlainElement, element_of}
use Rattle.decl_headers.specs.Headers.{class_of}
use Rattle.decl_headers.specs.Passes.{fault}
use Rattle.syntax_tree.specs.declared.expr.InfixOp.{InfixOp}
use Rattle.syntax_tree.specs.declared.expr.InfixOp.TheVariants.{Logic, Binary}
use Rattle.syntax_tree.specs.declared.region.BaseTree.{BaseTree}
use Rattle.syntax_tree.specs.declared.region.Named.{Named}
use Rattle.syntax_tree.specs.declared.region.RplTree.{RplTree}
use Rattle.syntax_tree.specs.declared.region.Suffix.{Suffix}
use Rattle.syntax_tree.specs.Plain as tree
use Rattle.syntax_grammar.specs.Written.{Fitting, AllFitting}
use Rattle.lang_typed.specs.Plain.{TypedExpr, typed, type_of}
use Rattle.lang_typed.specs.Plain.{ExprForm as form}
use Rattle.syntax_means.specs.Bodies.{ExprMeans, ExprsMean, FieldIn}
use Rattle.syntax_means.specs.Paths.{Around, ArgsMean, beside}
use Rattle.decl_table.specs.declared.rows.FieldRow.{FieldRow}
use Rattle.decl_table.specs.declared.rows.MethodRow.{MethodRow}
use Rattle.decl_table.specs.Table.{headers_of, field_of, method_of, args_at}
use Rattle.body_exprs.specs.declared.env.Env.{Env}
use Rattle.body_exprs.specs.declared.env.LocalRow.{LocalRow}
use Rattle.body_exprs.specs.declared.found.Found.{Found}
use Rattle.body_exprs.specs.Answer.{Answer, gives, refused, read}
use Rattle.body_exprs.specs.Arrays.{made_names, front_of, created_array}
use Rattle.body_exprs.specs.Elements.{index_of, array_element, element_read, read_element, element_in_part, part_read, read_part}
use Rattle.body_exprs.specs.Env.{table_of, scope_of, local_of, part_of, as_part, is_length_name}
use Rattle.body_exprs.specs.Fields.{PlainField, owned_field, named_field, field_through, field_read, read_field}
use Rattle.body_exprs.specs.Locals.{local_typed, measured}
use Rattle.body_exprs.specs.Operations.{unary_takes, unary_typed, binary_takes, binary_gives, binary_form, binary_typed, node_if}
use Rattle.body_exprs.specs.Typed.{type_in, node_at, nodes_at, is_int, is_array}
use Rattle.body_exprs.specs.Typing.{answer, created, AllAnswer, all_give, one_refused, Typing}
use Rattle.body_exprs.specs.Uses.{args_of, owned_method, named_method, method_through}
use Rattle.sound_lemmas.proofs.Lists.{some_same, ok_same}
use Rattle.sound_lemmas.proofs.Rules.{leaf_typed, CallOf, Call, CreationOf, Creation, Rules, AllRules, rules}
use Rattle.sound_bodies.specs.Seen.{MethodSeen}
use Rattle.sound_means.proofs.Knows.{Knows}
use Rattle.sound_means.proofs.Written.{args_here, class_here, array_here}

module _ (A : Around) (env : Env) (knows : Knows A env)
  where
    -- what is made of an expression; none that passes fits everywhere
    abbrev pub Meant : tree.PlainExpr → Answer → Type 0
    Meant e (gives None g) = ⊥
    Meant e (gives (Some t) g) = ExprMeans A e t
    Meant e (refused refusal) = Unit {0}

    -- what holds of an expression that isn't refused
    abbrev MeantSo : tree.PlainExpr → Result TypedExpr Refusal → Type 0
    MeantSo e (Ok t) = ExprMeans A e t
    MeantSo e (Err refusal) = Unit {0}

    answered : (e : tree.PlainExpr) (r : Result TypedExpr Refusal) (g : Found) → MeantSo e r → Meant e (answer r g)
    answered e (Ok t) g m = m
    answered e (Err refusal) g m = tt

    local_meant : (place : Place) (name : ℕ) → MeantSo (tree.expression place (tree.local name)) (local_typed (local_of env name) place)
    local_meant place name = by (local_of env name) (knows.locals name)
      where
        at : (row : LocalRow) → beside A.locals name ≡ Some row.slot → (b : Bool) →
            MeantSo (tree.expression place (tree.local name)) (cond b (Err (fault kind.Type place)) (Ok (typed place (plain_type row.ty) (form.local row.slot))))
        at row is true = tt
        at row is false = ExprMeans.a_local is

        by : (o : Option LocalRow) → ((row : LocalRow) → o ≡ Some row → beside A.locals name ≡ Some row.slot) → MeantSo (tree.expression place (tree.local name)) (local_typed o place)
        by None all = tt
        by (Some row) all = at row (all row refl) row.is_part

    leaf_meant : (place : Place) (e : tree.ExprForm) (r : Result TypedExpr Refusal) → leaf_typed env place e ≡ Some r → MeantSo (tree.expression place e) r
    leaf_meant place (tree.int k) r is = subst (MeantSo (tree.expression place (tree.int k))) (some_same is) ExprMeans.an_int
    leaf_meant place (tree.boolean b) r is = subst (MeantSo (tree.expression place (tree.boolean b))) (some_same is) ExprMeans.a_boolean
    leaf_meant place tree.null r is = subst (MeantSo (tree.expression place tree.null)) (some_same is) ExprMeans.a_null
    leaf_meant place tree.this r is = subst (MeantSo (tree.expression place tree.this)) (some_same is) ExprMeans.itself
    leaf_meant place (tree.local name) r is = subst (MeantSo (tree.expression place (tree.local name))) (some_same is) (local_meant place name)
    leaf_meant place (tree.field of name) r is = cc
    leaf_meant place (tree.element array index) r is = cc
    leaf_meant place (tree.call of regions name actuals) r is = cc
    leaf_meant place (tree.create class regions actuals) r is = cc
    leaf_meant place (tree.create_array base suffixes len rpl index) r is = cc
    leaf_meant place (tree.unary op arg) r is = cc
    leaf_meant place (tree.binary op left right) r is = cc

    -- a part that an expression names
    pub record PartMeant (e : tree.PlainExpr) (row : LocalRow) : Type 0 where
      pub place : Place
      pub name : ℕ
      pub is : tree.expression place (tree.local name) ≡ e
      pub slot : beside A.locals name ≡ Some row.slot
      pub array_so : is_array (plain_type row.ty) ≡ true

    pub part_meant : (e : tree.PlainExpr) (row : LocalRow) → part_of env e ≡ Some row → PartMeant e row
    part_meant (tree.expression place (tree.local name)) row h = by (local_of env name) (knows.locals name) (knows.parts name) h
      where
        if_part : (one : LocalRow) (b : Bool) → one.is_part ≡ b → cond b (Some one) None ≡ Some row → (one ≡ row) × (row.is_part ≡ true)
        if_part one true p h = let same = some_same h in (same, sym (ap (λ (z : LocalRow). z.is_part) same) ∙ p)
        if_part one false p h = cc

        by : (o : Option LocalRow) → ((one : LocalRow) → o ≡ Some one → beside A.locals name ≡ Some one.slot) →
            ((one : LocalRow) → o ≡ Some one → one.is_part ≡ true → is_array (plain_type one.ty) ≡ true) → option_and_then as_part o ≡ Some row → PartMeant (tree.expression place (tree.local name)) row
        by None all parts h = cc
        by (Some one) all parts h =
            let w = if_part one one.is_part refl h in
            record { place = place; name = name; is = refl; slot = all row (ap Some w.0); array_so = parts row (ap Some w.0) w.1 }
    part_meant (tree.expression place (tree.int k)) row h = cc
    part_meant (tree.expression place (tree.boolean b)) row h = cc
    part_meant (tree.expression place tree.null) row h = cc
    part_meant (tree.expression place tree.this) row h = cc
    part_meant (tree.expression place (tree.field of name)) row h = cc
    part_meant (tree.expression place (tree.element array index)) row h = cc
    part_meant (tree.expression place (tree.call of regions name actuals)) row h = cc
    part_meant (tree.expression place (tree.create class regions actuals)) row h = cc
    part_meant (tree.expression place (tree.create_array base suffixes len rpl index)) row h = cc
    part_meant (tree.expression place (tree.unary op arg)) row h = cc
    part_meant (tree.expression place (tree.binary op left right)) row h = cc

    -- the length of a part
    measured_meant : (place : Place) (of : tree.PlainExpr) (name : ℕ) (row : LocalRow) → measured env of name ≡ Some row →
        ExprMeans A (tree.expression place (tree.field of name)) (typed place ty.int (form.part_length row.slot))
    measured_meant place of name row h = by (is_length_name env name) refl h
      where
        by : (b : Bool) → is_length_name env name ≡ b → cond b (part_of env of) None ≡ Some row → ExprMeans A (tree.expression place (tree.field of name)) (typed place ty.int (form.part_length row.slot))
        by true is h =
            let p = part_meant of row h in
            subst (λ e. ExprMeans A (tree.expression place (tree.field e name)) (typed place ty.int (form.part_length row.slot))) p.is (ExprMeans.part_length p.slot (knows.spelled name is))
        by false is h = cc

    -- a field of a receiver
    abbrev pub FieldMeant : ℕ → Result PlainField Refusal → Type 0
    FieldMeant name (Ok seen) = FieldIn A name seen.class seen.slot
    FieldMeant name (Err refusal) = Unit {0}

    pub field_meant : (t : PlainType) (name : ℕ) (place : Place) → FieldMeant name (field_through (table_of env) t name place)
    field_meant ty.int name place = tt
    field_meant ty.boolean name place = tt
    field_meant ty.void name place = tt
    field_meant ty.null name place = tt
    field_meant (ty.array t rpl named) name place = tt
    field_meant (ty.class class args) name place = found (field_of (table_of env) class name) refl
      where
        owned : (row : FieldRow) (o : Option (List Rpl)) → field_of (table_of env) class name ≡ Some row → FieldMeant name (owned_field class row o place)
        owned row None f = tt
        owned row (Some rs) f = knows.fields class name row f

        found : (o : Option FieldRow) → field_of (table_of env) class name ≡ o → FieldMeant name (named_field (table_of env) class args o place)
        found None f = tt
        found (Some row) f = owned row (args_at (table_of env) class args row.owner) f

    read_meant : (x : tree.PlainExpr) (b : Bool) (e : TypedExpr) (rpl : Rpl) (place : Place) (g : Found) → ExprMeans A x e → Meant x (read b e rpl place g)
    read_meant x true e rpl place g m = m
    read_meant x false e rpl place g m = tt

    field_of_meant : (place : Place) (of : tree.PlainExpr) (name : ℕ) (g : Found) (e : TypedExpr) (r : Result PlainField Refusal) → ExprMeans A of e → FieldMeant name r →
        Meant (tree.expression place (tree.field of name)) (field_read e r place g)
    field_of_meant place of name g e (Err refusal) m k = tt
    field_of_meant place of name g e (Ok seen) m k =
        read_meant (tree.expression place (tree.field of name)) seen.may_read (typed place seen.ty (form.field e seen.class seen.slot)) seen.rpl place g (ExprMeans.a_field m k)

    field_read_meant : (place : Place) (of : tree.PlainExpr) (name : ℕ) (g : Found) (t : Option TypedExpr) → Meant of (gives t g) → Meant (tree.expression place (tree.field of name)) (read_field env t name place g)
    field_read_meant place of name g None m = absurd m
    field_read_meant place of name g (Some e) m = by (is_array (type_of e)) (is_length_name env name) refl
      where
        by : (b c : Bool) → is_length_name env name ≡ c →
            Meant (tree.expression place (tree.field of name)) (cond (b && c) (gives (Some (typed place ty.int (form.array_length e))) g) (field_read e (field_through (table_of env) (type_of e) name place) place g))
        by true true is = ExprMeans.array_length m (knows.spelled name is)
        by true false is = field_of_meant place of name g e (field_through (table_of env) (type_of e) name place) m (field_meant (type_of e) name place)
        by false c is = field_of_meant place of name g e (field_through (table_of env) (type_of e) name place) m (field_meant (type_of e) name place)

    -- an element of a part
    part_read_meant : (place : Place) (array index : tree.PlainExpr) (g : Found) (row : LocalRow) (t : Option TypedExpr) → part_of env array ≡ Some row → Meant index (gives t g) →
        Meant (tree.expression place (tree.element array index)) (read_part row t place g)
    part_read_meant place array index g row None l m = absurd m
    part_read_meant place array index g row (Some i) l m = by (is_int (type_of i))
      where
        p : PartMeant array row
        p = part_meant array row l

        made : (u : PlainType) → is_array u ≡ true → Meant (tree.expression place (tree.element array index)) (part_read i (Ok (element_in_part row.slot u)) place g)
        made (ty.array elem rpl named) is =
            subst (λ e. ExprMeans A (tree.expression place (tree.element e index)) (typed place elem (form.part_element row.slot i))) p.is (ExprMeans.part_element p.slot m)
        made ty.int is = cc
        made ty.boolean is = cc
        made ty.void is = cc
        made ty.null is = cc
        made (ty.class c args) is = cc

        by : (b : Bool) → Meant (tree.expression place (tree.element array index)) (part_read i (cond b (Ok (element_in_part row.slot (plain_type row.ty))) (Err (fault kind.Type place))) place g)
        by true = made (plain_type row.ty) p.array_so
        by false = tt

    -- an element of an array
    element_read_meant : (place : Place) (array index : tree.PlainExpr) (g h : Found) (t u : Option TypedExpr) → Meant array (gives t g) → Meant index (gives u h) →
        Meant (tree.expression place (tree.element array index)) (read_element env t index u place h)
    element_read_meant place array index g h None u m n = absurd m
    element_read_meant place array index g h (Some e) None m n = absurd n
    element_read_meant place array index g h (Some e) (Some i) m n = by (is_int (type_of i))
      where
        at : (o : Option PlainElement) →
            Meant (tree.expression place (tree.element array index)) (element_read (form.element e i) (option_map_or (λ element. Ok (Some element)) o (Err (fault kind.Type place))) place h)
        at None = tt
        at (Some seen) = read_meant (tree.expression place (tree.element array index)) seen.may_read (typed place seen.ty (form.element e i)) seen.rpl place h (ExprMeans.an_element m n)

        by : (b : Bool) →
            Meant (tree.expression place (tree.element array index)) (element_read (form.element e i) (cond b (array_element (Some (type_of e)) (index_of env index) place) (Err (fault kind.Type place))) place h)
        by true = at (element_of (type_of e) (index_of env index))
        by false = tt

    -- operations
    node_meant : (x : tree.PlainExpr) (takes : Bool) (t : PlainType) (f : form) (place : Place) → ExprMeans A x (typed place t f) → MeantSo x (node_if takes t f place)
    node_meant x true t f place m = m
    node_meant x false t f place m = tt

    unary_meant : (place : Place) (op : UnaryOp) (arg : tree.PlainExpr) (g : Found) (t : Option TypedExpr) → Meant arg (gives t g) → MeantSo (tree.expression place (tree.unary op arg)) (unary_typed op t place)
    unary_meant place op arg g None m = absurd m
    unary_meant place op arg g (Some e) m = node_meant (tree.expression place (tree.unary op arg)) (unary_takes op (Some (type_of e))) _ (form.unary op e) place (ExprMeans.one_operand m)

    operands_mean : (place : Place) (op : InfixOp) (left right : tree.PlainExpr) (t : PlainType) (e d : TypedExpr) → ExprMeans A left e → ExprMeans A right d →
        ExprMeans A (tree.expression place (tree.binary op left right)) (typed place t (binary_form op e d))
    operands_mean place (Logic And) left right t e d m n = ExprMeans.conjunction m n
    operands_mean place (Logic Or) left right t e d m n = ExprMeans.disjunction m n
    operands_mean place (Binary op) left right t e d m n = ExprMeans.two_operands m n

    binary_meant : (place : Place) (op : InfixOp) (left right : tree.PlainExpr) (g h : Found) (t u : Option TypedExpr) → Meant left (gives t g) → Meant right (gives u h) →
        MeantSo (tree.expression place (tree.binary op left right)) (binary_typed op t u place)
    binary_meant place op left right g h None u m n = absurd m
    binary_meant place op left right g h (Some e) None m n = absurd n
    binary_meant place op left right g h (Some e) (Some d) m n =
        node_meant (tree.expression place (tree.binary op left right)) (binary_takes op (Some (type_of e)) (Some (type_of d))) (binary_gives op) (binary_form op e d) place
        (operands_mean place op left right (binary_gives op) e d m n)

    -- several expressions, one after the other
    abbrev pub AllMeant : tree.PlainExprs → AllAnswer → Type 0
    AllMeant es (all_give ts g) = (place : Place) → ExprsMean A es (nodes_at place ts)
    AllMeant es (one_refused refusal) = Unit {0}

    more_meant : (t : Option TypedExpr) (ts : List (Option TypedExpr)) (e : tree.PlainExpr) (es : tree.PlainExprs) (g h : Found) → Meant e (gives t g) → AllMeant es (all_give ts h) → AllMeant (tree.more_exprs e es) (all_give (t ∷ ts) h)
    more_meant None ts e es g h m k = absurd m
    more_meant (Some t) ts e es g h m k = λ place. ExprsMean.more_exprs m (k place)

    -- the method of a receiver
    record MethodOf (name class : ℕ) (row : MethodRow) : Type 0 where
      args : List Rpl
      owned : List Rpl
      named : method_of (table_of env) class name ≡ Some row
      known : MethodSeen A.typed (table_of env) knows.nd_free class args owned row

    method_seen : (t : PlainType) (name : ℕ) (place : Place) (class : ℕ) (row : MethodRow) (owned : List Rpl) → method_through (table_of env) t name place ≡ Ok (class, row, owned) → MethodOf name class row
    method_seen ty.int name place class row owned is = cc
    method_seen ty.boolean name place class row owned is = cc
    method_seen ty.void name place class row owned is = cc
    method_seen ty.null name place class row owned is = cc
    method_seen (ty.array t rpl named) name place class row owned is = cc
    method_seen (ty.class at args) name place class row owned is = named_is (method_of (table_of env) at name) refl is
      where
        owned_is : (one : MethodRow) (o : Option (List Rpl)) → method_of (table_of env) at name ≡ Some one → args_at (table_of env) at args one.owner ≡ o → owned_method at one o place ≡ Ok (class, row, owned) → MethodOf name class row
        owned_is one None m a same = cc
        owned_is one (Some rs) m a same =
            let parts : (at, one, rs) ≡ (class, row, owned) = ok_same same in
            subst (λ (x : ℕ × MethodRow × List Rpl). MethodOf name x.0 x.1) parts (record { args = args; owned = rs; named = m; known = knows.tells.methods at name args rs one m a })

        named_is : (o : Option MethodRow) → method_of (table_of env) at name ≡ o → named_method (table_of env) at args o place ≡ Ok (class, row, owned) → MethodOf name class row
        named_is None m same = cc
        named_is (Some one) m same = owned_is one (args_at (table_of env) at args one.owner) m refl same

    call_made : (place : Place) (of : tree.PlainExpr) (trees : List RplTree) (name : ℕ) (actuals : tree.PlainExprs) (h : Found) (e : TypedExpr) (class : ℕ) (row : MethodRow) (owned : List Rpl) (ts : List (Option TypedExpr)) (a : Answer) →
        ExprMeans A of e → MethodOf name class row → AllMeant actuals (all_give ts h) → CallOf env e class row owned (args_of env trees) ts place h a → Meant (tree.expression place (tree.call of trees name actuals)) a
    call_made place of trees name actuals h e class row owned ts a m k all CallOf.call_refused = tt
    call_made place of trees name actuals h e class row owned ts a m k all (CallOf.fitting_call {regions = regions} given right) =
        ExprMeans.a_call m k.known.in_row (knows.methods class name row k.named) k.known.seen.is
        (subst (λ params. ArgsMean A [] params trees regions) (sym k.known.seen.params) (args_here A (scope_of env) knows.paths row.regions trees regions given)) (all place)

    call_meant : (place : Place) (of : tree.PlainExpr) (trees : List RplTree) (name : ℕ) (actuals : tree.PlainExprs) (g h : Found) (t : Option TypedExpr) (ts : List (Option TypedExpr)) (a : Answer) → Meant of (gives t g) →
        AllMeant actuals (all_give ts h) → Call env t name (args_of env trees) ts place h a → Meant (tree.expression place (tree.call of trees name actuals)) a
    call_meant place of trees name actuals g h t ts a m all (Call.of_method {e = e} {class = class} {row = row} {owned = owned} is d) =
        call_made place of trees name actuals h e class row owned ts a m (method_seen (type_of e) name place class row owned is) all d
    call_meant place of trees name actuals g h t ts a m all Call.on_anything = absurd m
    call_meant place of trees name actuals g h t ts a m all Call.use_refused = tt

    -- the creation of an object
    creation_made : (place : Place) (class : Named) (trees : List RplTree) (actuals : tree.PlainExprs) (g : Found) (at : ℕ) (ts : List (Option TypedExpr)) (a : Answer) → class_of (headers_of (table_of env)) class.name ≡ Some at →
        AllMeant actuals (all_give ts g) → CreationOf env at (args_of env trees) ts place g a → Meant (tree.expression place (tree.create class trees actuals)) a
    creation_made place class trees actuals g at ts a is all CreationOf.creation_refused = tt
    creation_made place class trees actuals g at ts a is all (CreationOf.created {regions = regions} given right) =
        ExprMeans.a_creation (class_here A (scope_of env) knows.paths class trees at regions is given) (all place)

    creation_meant : (place : Place) (class : Named) (trees : List RplTree) (actuals : tree.PlainExprs) (g : Found) (ts : List (Option TypedExpr)) (a : Answer) → AllMeant actuals (all_give ts g) →
        Creation env class (args_of env trees) ts place g a → Meant (tree.expression place (tree.create class trees actuals)) a
    creation_meant place class trees actuals g ts a all Creation.object_refused = tt
    creation_meant place class trees actuals g ts a all (Creation.of_class {at = at} is d) = creation_made place class trees actuals g at ts a is all d

    -- the creation of an array
    array_meant : (place : Place) (base : BaseTree) (suffixes : List Suffix) (len : tree.PlainExpr) (rpl : Option RplTree) (index : Option Named) (g : Found) (t : Option TypedExpr) → length suffixes ≤ 4294967295 → Meant len (gives t g) →
        MeantSo (tree.expression place (tree.create_array base suffixes len rpl index))
        (created place (node_at place t) (created_array env (made_names suffixes index) (front_of env (made_names suffixes index) base) (type_in t) rpl place))
    array_meant place base suffixes len rpl index g None few m = absurd m
    array_meant place base suffixes len rpl index g (Some n) few m = by (created_array env (made_names suffixes index) (front_of env (made_names suffixes index) base) (Some (type_of n)) rpl place) refl
      where
        by : (r : Result PlainType Refusal) → created_array env (made_names suffixes index) (front_of env (made_names suffixes index) base) (Some (type_of n)) rpl place ≡ r →
            MeantSo (tree.expression place (tree.create_array base suffixes len rpl index)) (created place n r)
        by (Err refusal) is = tt
        by (Ok t) is =
            let w = array_here A env knows.paths base suffixes rpl index (Some (type_of n)) place t few is in
            subst (λ z. ExprMeans A (tree.expression place (tree.create_array base suffixes len rpl index)) (typed place z (form.create_array n))) (sym w.is) (ExprMeans.an_array w.form w.own refl m)

    mutual
      -- what is made of an expression that passes
      pub steps_meant : {e : tree.PlainExpr} {f : Found} {a : Answer} → Fitting e → Rules env e f a → Meant e a
      steps_meant fits (Rules.no_parts {place = place} {form = leaf} {f = f} {r = r} l s) =
          subst (Meant (tree.expression place leaf)) s (answered (tree.expression place leaf) r f (leaf_meant place leaf r l))
      steps_meant fits (Rules.part_length {place = place} {of = of} {name = name} {row = row} l) = measured_meant place of name row l
      steps_meant fits Rules.is_refused = tt
      steps_meant fits (Rules.field_read {place = place} {of = of} {name = name} {g = g} {t = t} l d r) =
          subst (Meant (tree.expression place (tree.field of name))) r (field_read_meant place of name g t (steps_meant fits d))
      steps_meant fits (Rules.part_element_read {place = place} {array = array} {index = index} {g = g} {row = row} {t = t} l d r) =
          subst (Meant (tree.expression place (tree.element array index))) r (part_read_meant place array index g row t l (steps_meant fits.1 d))
      steps_meant fits (Rules.element_read {place = place} {array = array} {index = index} {g = g} {h = h} {t = t} {u = u} l d i r) =
          subst (Meant (tree.expression place (tree.element array index))) r (element_read_meant place array index g h t u (steps_meant fits.0 d) (steps_meant fits.1 i))
      steps_meant fits (Rules.operation {place = place} {op = op} {arg = arg} {g = g} {t = t} d r) =
          subst (Meant (tree.expression place (tree.unary op arg))) r (answered (tree.expression place (tree.unary op arg)) (unary_typed op t place) g (unary_meant place op arg g t (steps_meant fits d)))
      steps_meant fits (Rules.both_operands {place = place} {op = op} {left = left} {right = right} {g = g} {h = h} {t = t} {u = u} d i r) =
          subst (Meant (tree.expression place (tree.binary op left right))) r
          (answered (tree.expression place (tree.binary op left right)) (binary_typed op t u place) h (binary_meant place op left right g h t u (steps_meant fits.0 d) (steps_meant fits.1 i)))
      steps_meant fits (Rules.method_call {place = place} {of = of} {regions = regions} {name = name} {actuals = actuals} {g = g} {h = h} {t = t} {types = types} {a = a} d l i r) =
          call_meant place of regions name actuals g h t types a (steps_meant fits.0 d) (all_meant fits.1 i) r
      steps_meant fits (Rules.new_object {place = place} {class = class} {regions = regions} {actuals = actuals} {g = g} {types = types} {a = a} l i r) =
          creation_meant place class regions actuals g types a (all_meant fits i) r
      steps_meant fits (Rules.new_array {place = place} {base = base} {suffixes = suffixes} {len = len} {rpl = rpl} {index = index} {g = g} {t = t} l d r) =
          subst (Meant (tree.expression place (tree.create_array base suffixes len rpl index))) r
          (answered (tree.expression place (tree.create_array base suffixes len rpl index))
          (created place (node_at place t) (created_array env (made_names suffixes index) (front_of env (made_names suffixes index) base) (type_in t) rpl place)) g
          (array_meant place base suffixes len rpl index g t fits.0 (steps_meant fits.1 d)))

      all_meant : {es : tree.PlainExprs} {f : Found} {a : AllAnswer} → AllFitting es → AllRules env es f a → AllMeant es a
      all_meant fits AllRules.none_left = λ place. ExprsMean.no_exprs
      all_meant fits AllRules.some_refused = tt
      all_meant fits (AllRules.one_more {e = e} {es = es} {g = g} {h = h} {t = t} {types = types} d i) = more_meant t types e es g h (steps_meant fits.0 d) (all_meant fits.1 i)

    pub typing_meant : (e : tree.PlainExpr) (f : Found) {a : Answer} → Fitting e → Typing env e f a → Meant e a
    typing_meant e f fits d = steps_meant fits (rules env e f d)

    -- an expression that passes gives what it means
    pub expression_means : (e : tree.PlainExpr) (f g : Found) (made : Option TypedExpr) → Fitting e → Typing env e f (gives made g) → (t : TypedExpr) × (made ≡ Some t) × ExprMeans A e t
    expression_means e f g None fits d = absurd (typing_meant e f fits d)
    expression_means e f g (Some t) fits d = (t, refl, typing_meant e f fits d)
