-- Expressions that pass have their types in the judgement.
use Rattle.std.proofs.Common.{◌≡◌, ◌∙◌, ◌⊎◌, ℕ, Bool, true, false, not, ◌&&◌, ◌||◌, cond, IsTrue, is_some, ◌≤◌, List, [], ◌∷◌, ◌++◌, All, map, length, inl, inr, Option, Some, None, option_map, option_and_then, Result, Ok, Err, refl, sym, ap, subst, arith}
use Rattle.std.proofs.lemmas.Bool.{and_parts, or_left, or_right, or_parts, eq-eqb}
use Rattle.std.specs.List.{list_any}
use Rattle.std.specs.Option.{option_map_or}
use Rattle.lang_base.specs.declared.effect.Access.TheVariants.{Read}
use Rattle.lang_base.specs.declared.elems.Elem.{Elem}
use Rattle.lang_base.specs.declared.elems.Elem.TheVariants.{Any}
use Rattle.lang_base.specs.declared.elems.Index.{Index}
use Rattle.lang_base.specs.declared.elems.Index.TheVariants.{Variable}
use Rattle.lang_base.specs.declared.op.LogicOp.TheVariants.{And, Or}
use Rattle.lang_base.specs.declared.op.Operands.{Operands}
use Rattle.lang_base.specs.declared.op.Operands.TheVariants.{Ints, Same}
use Rattle.lang_base.specs.declared.op.UnaryOp.{UnaryOp}
use Rattle.lang_base.specs.declared.op.UnaryOp.TheVariants.{Negate, Not}
use Rattle.lang_base.specs.declared.place.Place.{Place}
use Rattle.lang_base.specs.declared.refusal.Kind.TheVariants as kind
use Rattle.lang_base.specs.declared.refusal.Refusal.{Refusal}
use Rattle.lang_base.specs.declared.region.Rpl.{Rpl}
use Rattle.lang_base.specs.declared.ty.Super.{Super}
use Rattle.lang_base.specs.declared.ty.Ty.{Ty}
use Rattle.lang_base.specs.Regions.{is_any, fully_specified, substituted}
use Rattle.lang_base.specs.Operators.{operands_of}
use Rattle.lang_base.specs.Types.{PlainType, plain_type, type_with, path_at, type_at, rigid_in_index}
use Rattle.lang_base.specs.Types.{PlainType as ty}
use Rattle.region_types.specs.Access.{element_of}
use Rattle.region_types.specs.Access.{index_elem as array_elem}
use Rattle.decl_headers.specs.declared.faults.Faults.{Faults}
use Rattle.decl_headers.specs.declared.faults.Order.TheVariants as order
use Rattle.decl_headers.specs.declared.header.ParamRow.{ParamRow}
use Rattle.decl_headers.specs.Faults.{reported, noted, all_noted, none_by}
use Rattle.decl_headers.specs.Passes.{fault, fault_if}
use Rattle.body_locals.specs.Touches.{expr_reads, exprs_read, form_reads, path_reads, made_reads}
use Rattle.syntax_tree.specs.declared.expr.InfixOp.{InfixOp}
use Rattle.syntax_tree.specs.declared.expr.InfixOp.TheVariants.{Logic, Binary}
use Rattle.syntax_tree.specs.declared.region.BaseTree.{BaseTree}
use Rattle.syntax_tree.specs.declared.region.Named.{Named}
use Rattle.syntax_tree.specs.declared.region.RplTree.{RplTree}
use Rattle.syntax_tree.specs.declared.region.Suffix.{Suffix}
use Rattle.syntax_tree.specs.Plain as tree
use Rattle.decl_resolve.specs.Args.{args_faults, args_given}
use Rattle.decl_resolve.specs.Constraints.{all_hold}
use Rattle.decl_resolve.specs.Index.{no_index}
use Rattle.decl_resolve.specs.Reading.{arg_faults}
use Rattle.decl_resolve.specs.Classes.{params_in}
use Rattle.decl_table.specs.declared.rows.FieldRow.{FieldRow}
use Rattle.decl_table.specs.declared.rows.MethodRow.{MethodRow}
use Rattle.decl_table.specs.Table.{headers_of, field_of, method_of, constructor_of, args_at, given_of, is_forking}
use Rattle.lang_typed.specs.Plain.{PlainProgram, TypedExpr, typed, type_of}
use Rattle.lang_typed.specs.Plain.{ExprForm as form}
use Rattle.lang_typed.specs.Scope.{Scope, Local, constant, part, Above}
use Rattle.lang_typed.specs.Effects.{Own, does, uses, reads, summary_with}
use Rattle.lang_typed.specs.Types.{GoodArgs, Known, Readable}
use Rattle.lang_typed.specs.Typing.{Holds, Has, Fit, index_elem, variable_elem, BothInts, Comparable, Takes, IsReference}
use Rattle.body_exprs.specs.declared.env.Env.{Env}
use Rattle.body_exprs.specs.declared.env.LocalRow.{LocalRow}
use Rattle.body_exprs.specs.declared.found.Found.{Found}
use Rattle.body_exprs.specs.Answer.{Answer, gives, refused, read, with_access, with_part_use, with_summary, with_call}
use Rattle.body_exprs.specs.Arrays.{made_names, front_of, front_reported, created_array}
use Rattle.body_exprs.specs.Elements.{index_of, array_element, element_read, read_element, element_in_part, part_read, read_part}
use Rattle.body_exprs.specs.Env.{table_of, supers_of, given_in, scope_of, local_of, part_of, as_part, index_slot, index_variable_of, is_length_name}
use Rattle.body_exprs.specs.Fields.{field_with, owned_field, named_field, field_through, field_read, read_field}
use Rattle.body_exprs.specs.Fields.{PlainField as SeenField}
use Rattle.body_exprs.specs.Found.{effect_with}
use Rattle.body_exprs.specs.Locals.{local_typed, measured}
use Rattle.body_exprs.specs.Operations.{unary_typed, both, comparable, operands_fit, binary_takes, binary_gives, binary_form, binary_typed, node_if}
use Rattle.body_exprs.specs.Partial.{is_partial_call, some_mention_partial, rigid_in_partial}
use Rattle.body_exprs.specs.Fits.{fits_as, all_fit}
use Rattle.body_exprs.specs.Typed.{type_in, node_at, nodes_at, is_int, is_boolean, is_reference, is_array, FitsAs}
use Rattle.body_exprs.specs.Typing.{answer, created, AllAnswer, all_give, one_refused, Typing}
use Rattle.body_exprs.specs.Uses.{args_of, args_reported, args_noted, callee_params, created_params, owned_method, named_method, method_through, formals_of, with_constructor, use_reported, use_faults}
use Rattle.body_exprs.proofs.Fitted.{fits_is}
use Rattle.sound_lemmas.proofs.Free.{noted_reported, none_reported, parts_free, append_none, fault_none, not_false}
use Rattle.sound_lemmas.proofs.Lists.{some_same, ok_same}
use Rattle.sound_lemmas.proofs.Rules.{leaf_typed, CallOf, Call, CreationOf, Creation, Rules, AllRules, rules}
use Rattle.sound_bodies.specs.Gathered.{Gathers}
use Rattle.sound_bodies.specs.Laws.{Stands}
use Rattle.sound_bodies.specs.Seen.{AllStand, RowIs, Tells, Sees, FieldSeen, MethodSeen, ClassSeen}
use Rattle.syntax_grammar.specs.Written.{Fitting, FormFitting, AllFitting}
use Rattle.sound_decls.proofs.written.Args.{args_good}
use Rattle.sound_bodies.proofs.scope.InScope.{stands_with}
use Rattle.sound_bodies.proofs.scope.Meant.{meant, created_good}
use Rattle.sound_bodies.proofs.effects.Gathered.{nothing_gathered, one_gathered, use_gathered, then_gathered, all_gathered, gathered_nd}
use Rattle.sound_bodies.proofs.effects.Partial.{readable_from, all_known}
use Rattle.sound_decls.proofs.written.Paths.{Meaning}
use Rattle.sound_bodies.proofs.table.Subtypes.{fits_subtype}

-- as many values as declared types, each of which fits the one at its place with region arguments put in
abbrev AllFit : List Super → List Rpl → List (Option PlainType) → List Ty → Type 0
AllFit supers args [] [] = Unit {0}
AllFit supers args [] (t ∷ declared) = ⊥
AllFit supers args (v ∷ values) [] = ⊥
AllFit supers args (v ∷ values) (t ∷ declared) = FitsAs supers v (type_with args (plain_type t)) × AllFit supers args values declared

each_fits : (supers : List Super) (args : List Rpl) (values : List (Option PlainType)) (declared : List Ty) → all_fit supers args values declared ≡ true → AllFit supers args values declared
each_fits supers args [] [] fit = tt
each_fits supers args [] (t ∷ declared) fit = cc
each_fits supers args (v ∷ values) [] fit = cc
each_fits supers args (v ∷ values) (t ∷ declared) fit =
    let both = and_parts (fits_as supers v (type_with args (plain_type t))) (all_fit supers args values declared) fit in
    ((fits_is supers v (type_with args (plain_type t))).0 both.0, each_fits supers args values declared both.1)

-- tests of types

pub int_is : (t : PlainType) → is_int t ≡ true → t ≡ ty.int
int_is ty.int h = refl
int_is ty.boolean h = cc
int_is ty.void h = cc
int_is ty.null h = cc
int_is (ty.class c args) h = cc
int_is (ty.array t a named) h = cc

pub boolean_is : (t : PlainType) → is_boolean t ≡ true → t ≡ ty.boolean
boolean_is ty.boolean h = refl
boolean_is ty.int h = cc
boolean_is ty.void h = cc
boolean_is ty.null h = cc
boolean_is (ty.class c args) h = cc
boolean_is (ty.array t a named) h = cc

reference_is : (t : PlainType) → is_reference t ≡ true → IsReference t
reference_is ty.null h = tt
reference_is (ty.class c args) h = tt
reference_is (ty.array t a named) h = tt
reference_is ty.int h = cc
reference_is ty.boolean h = cc
reference_is ty.void h = cc

-- what was noted before nothing is reported of is none
reported_before : (faults : Faults) (found : List Refusal) → reported (all_noted faults found) ≡ None → reported faults ≡ None
reported_before faults [] h = h
reported_before faults (one ∷ found) h =
    let e = reported_before (noted faults one) found h in
    let s = noted_reported faults one in
    let clash = sym s ∙ e in cc

or_false : (a b : Bool) → (a || b) ≡ false → (a ≡ false) × (b ≡ false)
or_false a b h = or_parts a b h

-- locals

part_slot : (r a : Bool) (row : LocalRow) (o : Option Local) → RowIs r a row o → row.is_part ≡ true → (t : PlainType) × (b : Rpl) × (o ≡ Some (part t b)) × (plain_type row.ty ≡ ty.array t b false)
part_slot r a row o (RowIs.is_part {t = t} {a = b} p q same) h = (t, b, refl, same)
part_slot r a row o (RowIs.is_constant p g) h = let no : false ≡ true = sym p ∙ h in cc
part_slot r a row o (RowIs.is_variable p g) h = let no : false ≡ true = sym p ∙ h in cc
part_slot r a row o (RowIs.is_frozen p g u) h = let no : false ≡ true = sym p ∙ h in cc
part_slot r a row o (RowIs.is_reserved p g u v) h = let no : false ≡ true = sym p ∙ h in cc

readable_slot : (r a : Bool) (row : LocalRow) (o : Option Local) → RowIs r a row o → row.is_part ≡ false → r ≡ true → Holds o (plain_type row.ty)
readable_slot r a row o (RowIs.is_part p q same) h k = let no : true ≡ false = sym p ∙ h in cc
readable_slot r a row o (RowIs.is_constant p g) h k = inr (inr refl)
readable_slot r a row o (RowIs.is_variable p g) h k = inl refl
readable_slot r a row o (RowIs.is_frozen p g u) h k = inr (inl refl)
readable_slot r a row o (RowIs.is_reserved p g u v) h k = let no : false ≡ true = sym u ∙ k in cc

-- how such a local stands in an index, where it is an int
slot_elem : (r a : Bool) (row : LocalRow) (o : Option Local) → RowIs r a row o → row.is_part ≡ false → plain_type row.ty ≡ ty.int →
    variable_elem row.slot o ≡ array_elem (option_map (λ slot. Variable slot) (index_slot row))
slot_elem r a row o (RowIs.is_part p q same) h int_so = let no : true ≡ false = sym p ∙ h in cc
slot_elem r a row o (RowIs.is_constant p g) h int_so =
    ap (λ z. variable_elem row.slot (Some (constant z))) int_so
    ∙ sym (ap (λ z. array_elem (option_map (λ slot. Variable slot) (cond z (Some row.slot) None))) (ap (λ f. f && is_int (plain_type row.ty)) g ∙ ap is_int int_so))
slot_elem r a row o (RowIs.is_variable p g) h int_so = sym (ap (λ f. array_elem (option_map (λ slot. Variable slot) (cond (f && is_int (plain_type row.ty)) (Some row.slot) None))) g)
slot_elem r a row o (RowIs.is_frozen p g u) h int_so = sym (ap (λ f. array_elem (option_map (λ slot. Variable slot) (cond (f && is_int (plain_type row.ty)) (Some row.slot) None))) g)
slot_elem r a row o (RowIs.is_reserved p g u v) h int_so = sym (ap (λ f. array_elem (option_map (λ slot. Variable slot) (cond (f && is_int (plain_type row.ty)) (Some row.slot) None))) g)

module _ (P : PlainProgram) (L : Scope) (env : Env) (may_read may_assign : ℕ → Bool) (tells : Tells P (table_of env) L.member_nd_free) (sees : Sees P L env may_read may_assign)
  where
    means : Meaning P L (scope_of env)
    means = meant P L env may_read may_assign tells sees

    -- what is made of an expression, and how it stands in an index
    pub record Made (e : tree.PlainExpr) (f : Found) (t : TypedExpr) (g : Found) : Type 0 where
      pub stands : Stands P L f t g
      pub index : type_of t ≡ ty.int → index_elem L t ≡ array_elem (index_of env e)

    abbrev pub Passed : tree.PlainExpr → Found → Answer → Type 0
    Passed e f (gives None g) = ⊥
    Passed e f (gives (Some t) g) = Made e f t g
    Passed e f (refused refusal) = Unit {0}

    -- without effects of its own
    made_on : (e : tree.PlainExpr) (f g : Found) (t u : TypedExpr) (s : Stands P L f t g) → ((E : List Own) → Has P L t E → Has P L u E) → (type_of u ≡ ty.int → index_elem L u ≡ array_elem (index_of env e)) → Made e f u g
    made_on e f g t u s has index = record { stands = record { effects = s.effects; has = λ c. has s.effects (s.has c); gathers = s.gathers; nd_free = s.nd_free }; index = index }

    made_leaf : (e : tree.PlainExpr) (f : Found) (t : TypedExpr) → Has P L t [] → (type_of t ≡ ty.int → index_elem L t ≡ array_elem (index_of env e)) → Made e f t f
    made_leaf e f t has index = record { stands = record { effects = []; has = λ c. has; gathers = nothing_gathered f; nd_free = λ h. h }; index = index }

    -- a local
    local_passed : (place : Place) (name : ℕ) (f : Found) → may_read name ≡ true → Passed (tree.expression place (tree.local name)) f (answer (local_typed (local_of env name) place) f)
    local_passed place name f readable = by (local_of env name) (sees.locals name) (sees.indices name)
      where
        at : (row : LocalRow) → RowIs (may_read name) (may_assign name) row (L.local row.slot) → index_variable_of env name ≡ index_slot row → (b : Bool) → row.is_part ≡ b →
            Passed (tree.expression place (tree.local name)) f (answer (cond b (Err (fault kind.Type place)) (Ok (typed place (plain_type row.ty) (form.local row.slot)))) f)
        at row is index true p = tt
        at row is index false p =
            made_leaf (tree.expression place (tree.local name)) f (typed place (plain_type row.ty) (form.local row.slot))
            (Has.read_local (readable_slot (may_read name) (may_assign name) row (L.local row.slot) is p readable))
            (λ int_so. slot_elem (may_read name) (may_assign name) row (L.local row.slot) is p int_so ∙ sym (ap (λ z. array_elem (option_map (λ slot. Variable slot) z)) index))

        by : (o : Option LocalRow) → ((row : LocalRow) → o ≡ Some row → RowIs (may_read name) (may_assign name) row (L.local row.slot)) → index_variable_of env name ≡ option_and_then index_slot o →
            Passed (tree.expression place (tree.local name)) f (answer (local_typed o place) f)
        by None all index = tt
        by (Some row) all index = at row (all row refl) index row.is_part refl

    leaf_passed : (place : Place) (e : tree.ExprForm) (f : Found) (r : Result TypedExpr Refusal) → FormFitting e → ((x : ℕ) → IsTrue (form_reads x e) → IsTrue (may_read x)) → leaf_typed env place e ≡ Some r →
        Passed (tree.expression place e) f (answer r f)
    leaf_passed place (tree.int k) f r fits all is =
        subst (λ z. Passed (tree.expression place (tree.int k)) f (answer z f)) (some_same is) (made_leaf (tree.expression place (tree.int k)) f (typed place ty.int (form.int k)) (Has.literal_int fits) (λ _. refl))
    leaf_passed place (tree.boolean b) f r fits all is =
        subst (λ z. Passed (tree.expression place (tree.boolean b)) f (answer z f)) (some_same is) (made_leaf (tree.expression place (tree.boolean b)) f (typed place ty.boolean (form.boolean b)) Has.literal_boolean (λ _. refl))
    leaf_passed place tree.null f r fits all is =
        subst (λ z. Passed (tree.expression place tree.null) f (answer z f)) (some_same is) (made_leaf (tree.expression place tree.null) f (typed place ty.null form.null) Has.literal_null (λ _. refl))
    leaf_passed place tree.this f r fits all is =
        subst (λ z. Passed (tree.expression place tree.this) f (answer z f)) (some_same is)
        (made_leaf (tree.expression place tree.this) f _ (Has.read_local (inr (inl sees.self))) (λ int_so. absurd (no int_so)))
      where
        no : {c : ℕ} {args : List Rpl} → ty.class c args ≡ ty.int → ⊥
        no h = cc
    leaf_passed place (tree.local name) f r fits all is =
        subst (λ z. Passed (tree.expression place (tree.local name)) f (answer z f)) (some_same is) (local_passed place name f (all name (same_name name)))
      where
        same_name : (n : ℕ) → IsTrue (form_reads n (tree.local n))
        same_name n = eq-eqb n n refl
    leaf_passed place (tree.field of name) f r fits all is = cc
    leaf_passed place (tree.element array index) f r fits all is = cc
    leaf_passed place (tree.call of regions name actuals) f r fits all is = cc
    leaf_passed place (tree.create class regions actuals) f r fits all is = cc
    leaf_passed place (tree.create_array base suffixes len rpl index) f r fits all is = cc
    leaf_passed place (tree.unary op arg) f r fits all is = cc
    leaf_passed place (tree.binary op left right) f r fits all is = cc

    -- a part that an expression names
    pub part_seen : (e : tree.PlainExpr) (row : LocalRow) → part_of env e ≡ Some row → (t : PlainType) × (a : Rpl) × (L.local row.slot ≡ Some (part t a)) × (plain_type row.ty ≡ ty.array t a false)
    part_seen (tree.expression place (tree.local name)) row h = by (local_of env name) (sees.locals name) h
      where
        if_part : (one : LocalRow) (b : Bool) → one.is_part ≡ b → cond b (Some one) None ≡ Some row → (one ≡ row) × (row.is_part ≡ true)
        if_part one true p h = let same = some_same h in (same, sym (ap (λ (z : LocalRow). z.is_part) same) ∙ p)
        if_part one false p h = cc

        by : (o : Option LocalRow) → ((one : LocalRow) → o ≡ Some one → RowIs (may_read name) (may_assign name) one (L.local one.slot)) → option_and_then as_part o ≡ Some row →
            (t : PlainType) × (a : Rpl) × (L.local row.slot ≡ Some (part t a)) × (plain_type row.ty ≡ ty.array t a false)
        by None all h = cc
        by (Some one) all h =
            let w = if_part one one.is_part refl h in
            part_slot (may_read name) (may_assign name) row (L.local row.slot) (all row (ap Some w.0)) w.1
    part_seen (tree.expression place (tree.int k)) row h = cc
    part_seen (tree.expression place (tree.boolean b)) row h = cc
    part_seen (tree.expression place tree.null) row h = cc
    part_seen (tree.expression place tree.this) row h = cc
    part_seen (tree.expression place (tree.field of name)) row h = cc
    part_seen (tree.expression place (tree.element array index)) row h = cc
    part_seen (tree.expression place (tree.call of regions name actuals)) row h = cc
    part_seen (tree.expression place (tree.create class regions actuals)) row h = cc
    part_seen (tree.expression place (tree.create_array base suffixes len rpl index)) row h = cc
    part_seen (tree.expression place (tree.unary op arg)) row h = cc
    part_seen (tree.expression place (tree.binary op left right)) row h = cc

    measured_part : (of : tree.PlainExpr) (name : ℕ) (row : LocalRow) → measured env of name ≡ Some row → part_of env of ≡ Some row
    measured_part of name row h = by (is_length_name env name) h
      where
        by : (b : Bool) → cond b (part_of env of) None ≡ Some row → part_of env of ≡ Some row
        by true h = h
        by false h = cc

    -- the field of a receiver
    pub record FieldOf (e : TypedExpr) (seen : SeenField) : Type 0 where
      pub class : ℕ
      pub args : List Rpl
      pub owned : List Rpl
      pub row : FieldRow
      pub is : type_of e ≡ ty.class class args
      pub seen_as : field_with class row owned ≡ seen
      pub known : FieldSeen P class args owned row

    abbrev pub SeenRight : TypedExpr → Result SeenField Refusal → Type 0
    SeenRight e (Ok seen) = FieldOf e seen
    SeenRight e (Err refusal) = Unit {0}

    pub field_seen : (e : TypedExpr) (name : ℕ) (place : Place) → SeenRight e (field_through (table_of env) (type_of e) name place)
    field_seen e name place = by (type_of e) refl
      where
        owned : (class : ℕ) (args : List Rpl) (row : FieldRow) (o : Option (List Rpl)) → type_of e ≡ ty.class class args → field_of (table_of env) class name ≡ Some row →
            args_at (table_of env) class args row.owner ≡ o → SeenRight e (owned_field class row o place)
        owned class args row None is f a = tt
        owned class args row (Some rs) is f a = record { class = class; args = args; owned = rs; row = row; is = is; seen_as = refl; known = tells.fields class name args rs row f a }

        found : (class : ℕ) (args : List Rpl) (o : Option FieldRow) → type_of e ≡ ty.class class args → field_of (table_of env) class name ≡ o → SeenRight e (named_field (table_of env) class args o place)
        found class args None is f = tt
        found class args (Some row) is f = owned class args row (args_at (table_of env) class args row.owner) is f refl

        by : (t : PlainType) → type_of e ≡ t → SeenRight e (field_through (table_of env) t name place)
        by (ty.class class args) is = found class args (field_of (table_of env) class name) is refl
        by ty.int is = tt
        by ty.boolean is = tt
        by ty.void is = tt
        by ty.null is = tt
        by (ty.array t rpl named) is = tt

    field_made : (x : tree.PlainExpr) (place : Place) (f g : Found) (e : TypedExpr) (class : ℕ) (args owned : List Rpl) (row : FieldRow) → index_of env x ≡ None → Stands P L f e g →
        type_of e ≡ ty.class class args → FieldSeen P class args owned row → Passed x f (field_read e (Ok (field_with class row owned)) place g)
    field_made x place f g e class args owned row none s is known = by (rigid_in_partial (plain_type row.ty) 0 owned) refl
      where
        by : (b : Bool) → rigid_in_partial (plain_type row.ty) 0 owned ≡ b →
            Passed x f (read (not b) (typed place (type_with owned (plain_type row.ty)) (form.field e class row.slot)) (substituted owned row.rpl) place g)
        by true at = tt
        by false at = record {
          stands = record {
            effects = s.effects ++ does (reads (substituted args known.field.region)) ∷ [];
            has = λ c. Has.read_field (s.has c) is known.is (known.readable at) (sym known.ty);
            gathers =
                subst (λ z. Gathers f (s.effects ++ does (reads z) ∷ []) (with_access g (substituted owned row.rpl) Read)) (sym known.region)
                (then_gathered f g (with_access g (substituted owned row.rpl) Read) s.effects (does (reads (substituted owned row.rpl)) ∷ []) s.gathers (one_gathered g (reads (substituted owned row.rpl))));
            nd_free = s.nd_free;
          };
          index = λ int_so. sym (ap array_elem none);
        }

    field_found : (x : tree.PlainExpr) (place : Place) (f g : Found) (e : TypedExpr) (r : Result SeenField Refusal) → index_of env x ≡ None → Stands P L f e g → SeenRight e r → Passed x f (field_read e r place g)
    field_found x place f g e (Err refusal) none s k = tt
    field_found x place f g e (Ok seen) none s k =
        subst (λ z. Passed x f (field_read e (Ok z) place g)) k.seen_as (field_made x place f g e k.class k.args k.owned k.row none s k.is k.known)

    array_type : (t : PlainType) → is_array t ≡ true → (u : PlainType) × (a : Rpl) × (named : Bool) × (t ≡ ty.array u a named)
    array_type (ty.array t a named) h = (t, a, named, refl)
    array_type ty.int h = cc
    array_type ty.boolean h = cc
    array_type ty.void h = cc
    array_type ty.null h = cc
    array_type (ty.class c args) h = cc

    field_passed : (place : Place) (of : tree.PlainExpr) (name : ℕ) (f g : Found) (t : Option TypedExpr) → Passed of f (gives t g) → Passed (tree.expression place (tree.field of name)) f (read_field env t name place g)
    field_passed place of name f g None m = absurd m
    field_passed place of name f g (Some e) m = by (is_array (type_of e)) (is_length_name env name) refl
      where
        by : (b c : Bool) → is_array (type_of e) ≡ b →
            Passed (tree.expression place (tree.field of name)) f (cond (b && c) (gives (Some (typed place ty.int (form.array_length e))) g) (field_read e (field_through (table_of env) (type_of e) name place) place g))
        by true true at =
            let w = array_type (type_of e) at in
            made_on (tree.expression place (tree.field of name)) f g e (typed place ty.int (form.array_length e)) m.stands (λ E h. Has.length_of_array h w.3) (λ _. refl)
        by true false at = field_found (tree.expression place (tree.field of name)) place f g e (field_through (table_of env) (type_of e) name place) refl m.stands (field_seen e name place)
        by false c at = field_found (tree.expression place (tree.field of name)) place f g e (field_through (table_of env) (type_of e) name place) refl m.stands (field_seen e name place)

    -- an element of a part
    part_passed : (place : Place) (array index : tree.PlainExpr) (f g : Found) (row : LocalRow) (t : Option TypedExpr) → part_of env array ≡ Some row → Passed index f (gives t g) →
        Passed (tree.expression place (tree.element array index)) f (read_part row t place g)
    part_passed place array index f g row None l m = absurd m
    part_passed place array index f g row (Some i) l m = by (is_int (type_of i)) refl
      where
        w : (t : PlainType) × (a : Rpl) × (L.local row.slot ≡ Some (part t a)) × (plain_type row.ty ≡ ty.array t a false)
        w = part_seen array row l

        made : is_int (type_of i) ≡ true → (u : PlainType) → u ≡ ty.array w.0 w.1 false → Passed (tree.expression place (tree.element array index)) f (part_read i (Ok (element_in_part row.slot u)) place g)
        made at u same = subst (λ z. Passed (tree.expression place (tree.element array index)) f (part_read i (Ok (element_in_part row.slot z)) place g)) (sym same) (record {
          stands = record {
            effects = m.stands.effects ++ uses row.slot (reads w.1) ∷ [];
            has = λ c. Has.read_part w.2 (m.stands.has c) (int_is (type_of i) at);
            gathers = then_gathered f g (with_part_use g row.slot w.1 Read) m.stands.effects (uses row.slot (reads w.1) ∷ []) m.stands.gathers (use_gathered g row.slot w.1 Read);
            nd_free = m.stands.nd_free;
          };
          index = λ _. refl;
        })

        by : (b : Bool) → is_int (type_of i) ≡ b → Passed (tree.expression place (tree.element array index)) f (part_read i (cond b (Ok (element_in_part row.slot (plain_type row.ty))) (Err (fault kind.Type place))) place g)
        by true at = made at (plain_type row.ty) w.3
        by false at = tt

    -- an element of an array
    element_passed : (place : Place) (array index : tree.PlainExpr) (f g h : Found) (t u : Option TypedExpr) → Passed array f (gives t g) → Passed index g (gives u h) →
        Passed (tree.expression place (tree.element array index)) f (read_element env t index u place h)
    element_passed place array index f g h None u m n = absurd m
    element_passed place array index f g h (Some e) None m n = absurd n
    element_passed place array index f g h (Some e) (Some i) m n = by (is_int (type_of i)) refl
      where
        known_index : (o : Option Index) (k : Elem) (rigid : Bool) → k ≡ array_elem o → (is_some o || not rigid) ≡ true → is_any k ≡ true → rigid ≡ false
        known_index None k rigid same may any = not_true rigid may
          where
            not_true : (b : Bool) → not b ≡ true → b ≡ false
            not_true true h = cc
            not_true false h = refl
        known_index (Some x) k rigid same may any = let no : false ≡ true = sym (ap is_any same) ∙ any in cc

        readable : (elem : PlainType) (a : Rpl) (named : Bool) → type_of e ≡ ty.array elem a named → type_of i ≡ ty.int → (b : Bool) → (is_some (index_of env index) || not (rigid_in_index 0 elem)) ≡ b →
            Passed (tree.expression place (tree.element array index)) f (read b (typed place (type_at 0 (array_elem (index_of env index)) elem) (form.element e i)) (path_at 0 (array_elem (index_of env index)) a) place h)
        readable elem a named is int_so false may = tt
        readable elem a named is int_so true may =
            let same = n.index int_so in
            let path = path_at 0 (array_elem (index_of env index)) a in
            record {
              stands = record {
                effects = m.stands.effects ++ (n.stands.effects ++ does (reads (path_at 0 (index_elem L i) a)) ∷ []);
                has = λ c. Has.read_element (m.stands.has (λ z. n.stands.nd_free (c z))) is (n.stands.has c) int_so
                    (λ any. known_index (index_of env index) (index_elem L i) (rigid_in_index 0 elem) same may any) (ap (λ k. type_at 0 k elem) (sym same));
                gathers =
                    subst (λ k. Gathers f (m.stands.effects ++ (n.stands.effects ++ does (reads (path_at 0 k a)) ∷ [])) (with_access h path Read)) (sym same)
                    (then_gathered f g (with_access h path Read) m.stands.effects (n.stands.effects ++ does (reads path) ∷ []) m.stands.gathers
                    (then_gathered g h (with_access h path Read) n.stands.effects (does (reads path) ∷ []) n.stands.gathers (one_gathered h (reads path))));
                nd_free = λ z. m.stands.nd_free (n.stands.nd_free z);
              };
              index = λ _. refl;
            }

        of_type : type_of i ≡ ty.int → (t : PlainType) → type_of e ≡ t →
            Passed (tree.expression place (tree.element array index)) f (element_read (form.element e i) (option_map_or (λ element. Ok (Some element)) (element_of t (index_of env index)) (Err (fault kind.Type place))) place h)
        of_type int_so (ty.array elem a named) is = readable elem a named is int_so (is_some (index_of env index) || not (rigid_in_index 0 elem)) refl
        of_type int_so ty.int is = tt
        of_type int_so ty.boolean is = tt
        of_type int_so ty.void is = tt
        of_type int_so ty.null is = tt
        of_type int_so (ty.class c args) is = tt

        by : (b : Bool) → is_int (type_of i) ≡ b →
            Passed (tree.expression place (tree.element array index)) f (element_read (form.element e i) (cond b (array_element (Some (type_of e)) (index_of env index) place) (Err (fault kind.Type place))) place h)
        by true at = of_type (int_is (type_of i) at) (type_of e) refl
        by false at = tt

    -- operations
    unary_passed : (place : Place) (op : UnaryOp) (arg : tree.PlainExpr) (f g : Found) (t : Option TypedExpr) → Passed arg f (gives t g) →
        Passed (tree.expression place (tree.unary op arg)) f (answer (unary_typed op t place) g)
    unary_passed place op arg f g None m = absurd m
    unary_passed place Negate arg f g (Some e) m = by (is_int (type_of e)) refl
      where
        by : (b : Bool) → is_int (type_of e) ≡ b → Passed (tree.expression place (tree.unary Negate arg)) f (answer (node_if b ty.int (form.unary Negate e) place) g)
        by true at = made_on (tree.expression place (tree.unary Negate arg)) f g e (typed place ty.int (form.unary Negate e)) m.stands (λ E h. Has.negative h (int_is (type_of e) at)) (λ _. refl)
        by false at = tt
    unary_passed place Not arg f g (Some e) m = by (is_boolean (type_of e)) refl
      where
        by : (b : Bool) → is_boolean (type_of e) ≡ b → Passed (tree.expression place (tree.unary Not arg)) f (answer (node_if b ty.boolean (form.unary Not e) place) g)
        by true at = made_on (tree.expression place (tree.unary Not arg)) f g e (typed place ty.boolean (form.unary Not e)) m.stands (λ E h. Has.negation h (boolean_is (type_of e) at)) (λ _. refl)
        by false at = tt

    both_ints : (t u : PlainType) → both is_int (Some t) (Some u) ≡ true → BothInts t u
    both_ints t u h = let w = and_parts (is_int t) (is_int u) h in (int_is t w.0, int_is u w.1)

    both_booleans : (t u : PlainType) → both is_boolean (Some t) (Some u) ≡ true → (t ≡ ty.boolean) × (u ≡ ty.boolean)
    both_booleans t u h = let w = and_parts (is_boolean t) (is_boolean u) h in (boolean_is t w.0, boolean_is u w.1)

    both_references : (t u : PlainType) → both is_reference (Some t) (Some u) ≡ true → IsReference t × IsReference u
    both_references t u h = let w = and_parts (is_reference t) (is_reference u) h in (reference_is t w.0, reference_is u w.1)

    can_compare : (t u : PlainType) → comparable (Some t) (Some u) ≡ true → Comparable t u
    can_compare t u h = by (both is_int (Some t) (Some u)) (both is_boolean (Some t) (Some u)) (both is_reference (Some t) (Some u)) (both_ints t u) (both_booleans t u) (both_references t u) h
      where
        by : (a b c : Bool) {A B C : Type 0} → (a ≡ true → A) → (b ≡ true → B) → (c ≡ true → C) → (a || b || c) ≡ true → A ⊎ B ⊎ C
        by true b c f g k h = inl (f refl)
        by false true c f g k h = inr (inl (g refl))
        by false false true f g k h = inr (inr (k refl))
        by false false false f g k h = cc

    can_take : (operands : Operands) (t u : PlainType) → operands_fit operands (Some t) (Some u) ≡ true → Takes operands t u
    can_take Ints t u h = both_ints t u h
    can_take Same t u h = can_compare t u h

    binary_has : (op : InfixOp) (place : Place) (e d : TypedExpr) {E F : List Own} → binary_takes op (Some (type_of e)) (Some (type_of d)) ≡ true → Has P L e E → Has P L d F →
        Has P L (typed place (binary_gives op) (binary_form op e d)) (E ++ F)
    binary_has (Logic Or) place e d takes h k = let w = both_booleans (type_of e) (type_of d) takes in Has.disjunction h w.0 k w.1
    binary_has (Logic And) place e d takes h k = let w = both_booleans (type_of e) (type_of d) takes in Has.conjunction h w.0 k w.1
    binary_has (Binary op) place e d takes h k = Has.operation h k (can_take (operands_of op) (type_of e) (type_of d) takes) refl

    -- no operation of two operands stands in an index
    binary_elem : (op : InfixOp) (place : Place) (e d : TypedExpr) → index_elem L (typed place (binary_gives op) (binary_form op e d)) ≡ Any
    binary_elem (Logic Or) place e d = refl
    binary_elem (Logic And) place e d = refl
    binary_elem (Binary op) place e d = refl

    binary_passed : (place : Place) (op : InfixOp) (left right : tree.PlainExpr) (f g h : Found) (t u : Option TypedExpr) → Passed left f (gives t g) → Passed right g (gives u h) →
        Passed (tree.expression place (tree.binary op left right)) f (answer (binary_typed op t u place) h)
    binary_passed place op left right f g h None u m n = absurd m
    binary_passed place op left right f g h (Some e) None m n = absurd n
    binary_passed place op left right f g h (Some e) (Some d) m n = by (binary_takes op (Some (type_of e)) (Some (type_of d))) refl
      where
        by : (b : Bool) → binary_takes op (Some (type_of e)) (Some (type_of d)) ≡ b →
            Passed (tree.expression place (tree.binary op left right)) f (answer (node_if b (binary_gives op) (binary_form op e d) place) h)
        by true takes = record {
          stands = record {
            effects = m.stands.effects ++ n.stands.effects;
            has = λ c. binary_has op place e d takes (m.stands.has (λ z. n.stands.nd_free (c z))) (n.stands.has c);
            gathers = then_gathered f g h m.stands.effects n.stands.effects m.stands.gathers n.stands.gathers;
            nd_free = λ z. m.stands.nd_free (n.stands.nd_free z);
          };
          index = λ _. binary_elem op place e d;
        }
        by false takes = tt

    -- several expressions, one after the other
    pub data Given : List (Option TypedExpr) → Found → Found → Type 0 where
      no_more : {f : Found} → Given [] f f
      more : {t : TypedExpr} {ts : List (Option TypedExpr)} {f g h : Found} → Stands P L f t g → Given ts g h → Given (Some t ∷ ts) f h

    abbrev pub AllPassed : Found → AllAnswer → Type 0
    AllPassed f (all_give ts g) = Given ts f g
    AllPassed f (one_refused refusal) = Unit {0}

    given_more : (t : Option TypedExpr) (ts : List (Option TypedExpr)) (e : tree.PlainExpr) (f g h : Found) → Passed e f (gives t g) → Given ts g h → Given (t ∷ ts) f h
    given_more None ts e f g h m k = absurd m
    given_more (Some t) ts e f g h m k = Given.more m.stands k

    -- as actuals for formals of these types
    pub record Actuals (place : Place) (ts : List (Option TypedExpr)) (formals : List PlainType) (f g : Found) : Type 0 where
      pub effects : List Own
      pub fit : (IsTrue L.nd_free → g.reaches_nd ≡ false) → Fit P L (nodes_at place ts) formals effects
      pub gathers : Gathers f effects g
      pub nd_free : g.reaches_nd ≡ false → f.reaches_nd ≡ false

    actuals_fit : (args : List Rpl) (place : Place) {ts : List (Option TypedExpr)} (declared : List Ty) {f g : Found} → Given ts f g → AllStand declared →
        AllFit (supers_of env) args (map type_in ts) declared → Actuals place ts (map (type_with args) (map plain_type declared)) f g
    actuals_fit args place [] {f = f} Given.no_more all fit = record { effects = []; fit = λ c. Fit.none; gathers = nothing_gathered f; nd_free = λ h. h }
    actuals_fit args place (d ∷ declared) Given.no_more all fit = absurd fit
    actuals_fit args place [] (Given.more s k) all fit = absurd fit
    actuals_fit args place (d ∷ declared) {f = f} {g = h} (Given.more {t = t} {g = g} s k) all fit =
        let rest = actuals_fit args place declared k all.1 fit.1 in
        record {
          effects = s.effects ++ rest.effects;
          fit = λ c. Fit.one_more (s.has (λ z. rest.nd_free (c z)))
              (fits_subtype P (supers_of env) sees.supers (type_of t) (type_with args (plain_type d)) (stands_with args (plain_type d) all.0) fit.0) (rest.fit c);
          gathers = then_gathered f g h s.effects rest.effects s.gathers rest.gathers;
          nd_free = λ z. s.nd_free (rest.nd_free z);
        }

    -- a use without a fault
    used_right : (before : Faults) (args : List Rpl) (ts : List (Option TypedExpr)) (declared : List Ty) (partial hold : Bool) (place : Place) →
        use_reported env before args (map type_in ts) declared partial hold place ≡ None →
        (partial ≡ false) × AllFit (supers_of env) args (map type_in ts) declared × (hold ≡ true) × (reported before ≡ None)
    used_right before args ts declared partial hold place unreported =
        let fit = all_fit (supers_of env) args (map type_in ts) declared in
        let none = none_reported before (use_faults partial fit hold place) unreported in
        let f = append_none (fault_if partial _ place ++ fault_if (not fit) kind.Type place) (fault_if (not hold) kind.Constraint place) none in
        let g = append_none (fault_if partial _ place) (fault_if (not fit) kind.Type place) f.0 in (
          fault_none partial _ place g.0,
          each_fits (supers_of env) args (map type_in ts) declared (not_false fit (fault_none (not fit) kind.Type place g.1)),
          not_false hold (fault_none (not hold) kind.Constraint place f.1),
          reported_before before (use_faults partial fit hold place) unreported,
        )

    -- region arguments of a use without a fault
    used_args : (trees : List RplTree) (params : List ParamRow) (place : Place) (regions others : List Rpl) (given : _) → args_reported env params trees ≡ None →
        reported (args_noted (args_of env trees) params place) ≡ None → args_given (args_of env trees).written (args_of env trees).paths params ≡ Some regions →
        all_hold (given_in env) (others ++ regions) given ≡ true →
        GoodArgs P L 0 (map (λ param. param.atomic) params) given others regions × All (λ a. IsTrue (fully_specified a)) regions
    used_args trees params place regions others given unreported noted is hold =
        let w = args_good P L (scope_of env) means no_index 0 (omega arith) params true place trees regions others given (parts_free (none_by order.Kind) (arg_faults (scope_of env) no_index params true trees) unreported)
        (none_reported (none_by order.Kind) (args_faults (args_of env trees).local (args_of env trees).written params place) noted) is hold in
        (w.0, w.1 refl)

    -- what a callee does
    call_gathered : (h : Found) (row : MethodRow) (args : List Rpl) → Gathers h (summary_with args row.summary) (with_call (table_of env) h row args)
    call_gathered h row args =
        gathered_nd h (with_summary h row.summary args) (summary_with args row.summary) (h.reaches_nd || is_forking (table_of env) row.id) (all_gathered h (effect_with args) row.summary)

    -- the method of a receiver
    pub record MethodOf (e : TypedExpr) (name class : ℕ) (row : MethodRow) (owned : List Rpl) : Type 0 where
      pub args : List Rpl
      pub is : type_of e ≡ ty.class class args
      pub named : method_of (table_of env) class name ≡ Some row
      pub known : MethodSeen P (table_of env) L.member_nd_free class args owned row

    method_seen : (e : TypedExpr) (name : ℕ) (place : Place) (class : ℕ) (row : MethodRow) (owned : List Rpl) → method_through (table_of env) (type_of e) name place ≡ Ok (class, row, owned) → MethodOf e name class row owned
    method_seen e name place class row owned is = by (type_of e) refl is
      where
        owned_is : (at : ℕ) (args : List Rpl) (one : MethodRow) (o : Option (List Rpl)) → type_of e ≡ ty.class at args → method_of (table_of env) at name ≡ Some one → args_at (table_of env) at args one.owner ≡ o →
            owned_method at one o place ≡ Ok (class, row, owned) → MethodOf e name class row owned
        owned_is at args one None is m a same = cc
        owned_is at args one (Some rs) is m a same =
            let parts : (at, one, rs) ≡ (class, row, owned) = ok_same same in
            subst (λ (x : ℕ × MethodRow × List Rpl). MethodOf e name x.0 x.1 x.2) parts (record { args = args; is = is; named = m; known = tells.methods at name args rs one m a })

        named_is : (at : ℕ) (args : List Rpl) (o : Option MethodRow) → type_of e ≡ ty.class at args → method_of (table_of env) at name ≡ o → named_method (table_of env) at args o place ≡ Ok (class, row, owned) →
            MethodOf e name class row owned
        named_is at args None is m same = cc
        named_is at args (Some one) is m same = owned_is at args one (args_at (table_of env) at args one.owner) is m refl same

        by : (t : PlainType) → type_of e ≡ t → method_through (table_of env) t name place ≡ Ok (class, row, owned) → MethodOf e name class row owned
        by (ty.class at args) is same = named_is at args (method_of (table_of env) at name) is refl same
        by ty.int is same = cc
        by ty.boolean is same = cc
        by ty.void is same = cc
        by ty.null is same = cc
        by (ty.array t rpl named) is same = cc

    callee_is : (t : PlainType) (name class : ℕ) (args : List Rpl) (row : MethodRow) → t ≡ ty.class class args → method_of (table_of env) class name ≡ Some row → callee_params (table_of env) (Some t) name ≡ row.regions
    callee_is t name class args row is m = ap (λ z. callee_params (table_of env) (Some z) name) is ∙ ap (λ o. option_map_or (λ (one : MethodRow). one.regions) o []) m

    call_made : (x : tree.PlainExpr) (f g h : Found) (e : TypedExpr) (name class : ℕ) (row : MethodRow) (owned : List Rpl) (trees : List RplTree) (ts : List (Option TypedExpr)) (place : Place) (a : Answer) →
        index_of env x ≡ None → Stands P L f e g → Given ts g h → MethodOf e name class row owned → args_reported env row.regions trees ≡ None →
        CallOf env e class row owned (args_of env trees) ts place h a → Passed x f a
    call_made x f g h e name class row owned trees ts place a none s k m unreported CallOf.call_refused = tt
    call_made x f g h e name class row owned trees ts place a none s k m unreported (CallOf.fitting_call {regions = regions} given right) =
        let all = owned ++ regions in
        let n = m.known in
        let w = used_right (args_noted (args_of env trees) row.regions place) all ts row.params (is_partial_call owned row) (all_hold (given_in env) all row.given) place right in
        let args = used_args trees row.regions place regions owned row.given unreported w.3 given w.2 in
        let some_partial = or_false (some_mention_partial owned row.params) (rigid_in_partial (plain_type row.result) 0 owned) w.0 in
        let acts = actuals_fit all place row.params k n.seen.stand w.1 in
        record {
          stands = record {
            effects = s.effects ++ (acts.effects ++ summary_with all n.seen.member.summary);
            has = λ c. Has.call_method
                (s.has (λ z. acts.nd_free (or_false h.reaches_nd (is_forking (table_of env) row.id) (c z)).0))
                m.is
                n.in_row
                n.seen.is
                (subst (λ z. Above P class m.args z owned) (sym n.seen.class) n.above)
                (subst (λ z. GoodArgs P L 0 z n.seen.member.given owned regions) (sym n.seen.params) (subst (λ z. GoodArgs P L 0 (map (λ param. param.atomic) row.regions) z owned regions) (sym n.seen.given) args.0))
                args.1
                (subst (All (Known all)) (sym n.seen.formals) (all_known row.params owned regions some_partial.0 n.formals_numbered args.1))
                (subst (Readable all) (sym n.seen.result) (readable_from (plain_type row.result) owned regions some_partial.1 n.result_numbered args.1))
                (subst (λ z. Fit P L (nodes_at place ts) (map (type_with all) z) acts.effects) (sym n.seen.formals) (acts.fit (λ z. (or_false h.reaches_nd (is_forking (table_of env) row.id) (c z)).0)))
                (λ nd_free. n.nd_free (or_false h.reaches_nd (is_forking (table_of env) row.id) (c nd_free)).1)
                (ap (type_with all) (sym n.seen.result));
            gathers =
                subst (λ z. Gathers f (s.effects ++ (acts.effects ++ summary_with all z)) (with_call (table_of env) h row all)) (sym n.seen.summary)
                (then_gathered f g (with_call (table_of env) h row all) s.effects (acts.effects ++ summary_with all row.summary) s.gathers
                (then_gathered g h (with_call (table_of env) h row all) acts.effects (summary_with all row.summary) acts.gathers (call_gathered h row all)));
            nd_free = λ z. s.nd_free (acts.nd_free (or_false h.reaches_nd (is_forking (table_of env) row.id) z).0);
          };
          index = λ _. sym (ap array_elem none);
        }

    call_passed : (place : Place) (of : tree.PlainExpr) (trees : List RplTree) (name : ℕ) (actuals : tree.PlainExprs) (f g h : Found) (t : Option TypedExpr) (ts : List (Option TypedExpr)) (a : Answer) →
        Passed of f (gives t g) → args_reported env (callee_params (table_of env) (type_in t) name) trees ≡ None → Given ts g h → Call env t name (args_of env trees) ts place h a →
        Passed (tree.expression place (tree.call of trees name actuals)) f a
    call_passed place of trees name actuals f g h t ts a m unreported k (Call.of_method {e = e} {class = class} {row = row} {owned = owned} is d) =
        let n = method_seen e name place class row owned is in
        call_made (tree.expression place (tree.call of trees name actuals)) f g h e name class row owned trees ts place a refl m.stands k n
        (sym (ap (λ z. args_reported env z trees) (callee_is (type_of e) name class n.args row n.is n.named)) ∙ unreported) d
    call_passed place of trees name actuals f g h t ts a m unreported k Call.on_anything = absurd m
    call_passed place of trees name actuals f g h t ts a m unreported k Call.use_refused = tt

    -- the creation of an object
    creation_made : (place : Place) (class : Named) (trees : List RplTree) (actuals : tree.PlainExprs) (f g : Found) (at : ℕ) (ts : List (Option TypedExpr)) (a : Answer) →
        Given ts f g → ClassSeen P (table_of env) L.member_nd_free at → args_reported env (params_in (headers_of (table_of env)) at) trees ≡ None →
        CreationOf env at (args_of env trees) ts place g a → Passed (tree.expression place (tree.create class trees actuals)) f a
    creation_made place class trees actuals f g at ts a k n unreported CreationOf.creation_refused = tt
    creation_made place class trees actuals f g at ts a k n unreported (CreationOf.created {regions = regions} given right) =
        by (constructor_of (table_of env) at) refl w.1
      where
        w : (false ≡ false) × AllFit (supers_of env) regions (map type_in ts) (formals_of (table_of env) at) × (all_hold (given_in env) regions (given_of (table_of env) at) ≡ true) ×
            (reported (args_noted (args_of env trees) (params_in (headers_of (table_of env)) at) place) ≡ None)
        w = used_right (args_noted (args_of env trees) (params_in (headers_of (table_of env)) at) place) regions ts (formals_of (table_of env) at) false (all_hold (given_in env) regions (given_of (table_of env) at)) place right

        args : GoodArgs P L 0 n.class.params n.class.given [] regions × All (λ a. IsTrue (fully_specified a)) regions
        args =
            let v = used_args trees (params_in (headers_of (table_of env)) at) place regions [] (given_of (table_of env) at) unreported w.3 given w.2 in
            (subst (λ z. GoodArgs P L 0 z n.class.given [] regions) (sym n.params) (subst (λ z. GoodArgs P L 0 (map (λ param. param.atomic) (params_in (headers_of (table_of env)) at)) z [] regions) (sym n.given) v.0), v.1)

        made : TypedExpr
        made = typed place (ty.class at regions) (form.create (nodes_at place ts))

        without : {ts : List (Option TypedExpr)} {f g : Found} → Given ts f g → n.class.constructor ≡ None → AllFit (supers_of env) regions (map type_in ts) [] →
            Passed (tree.expression place (tree.create class trees actuals)) f (gives (Some (typed place (ty.class at regions) (form.create (nodes_at place ts)))) g)
        without {f = f} Given.no_more none fit =
            made_leaf (tree.expression place (tree.create class trees actuals)) f (typed place (ty.class at regions) (form.create (nodes_at place []))) (Has.create_object n.is args.0 args.1 none) (λ _. refl)
        without (Given.more s k) none fit = absurd fit

        with_one : (row : MethodRow) → constructor_of (table_of env) at ≡ Some row → AllFit (supers_of env) regions (map type_in ts) row.params →
            Passed (tree.expression place (tree.create class trees actuals)) f (gives (Some (typed place (ty.class at regions) (form.create (nodes_at place ts)))) (with_call (table_of env) g row regions))
        with_one row is fit =
            let seen = n.member row is in
            let acts = actuals_fit regions place row.params k seen.stand fit in
            record {
              stands = record {
                effects = acts.effects ++ summary_with regions seen.member.summary;
                has = λ c. Has.construct_object n.is args.0 args.1 (n.constructor ∙ ap (option_map (λ (z : MethodRow). z.id)) is) seen.is
                    (subst (λ z. Fit P L (nodes_at place ts) (map (type_with regions) z) acts.effects) (sym seen.formals) (acts.fit (λ z. (or_false g.reaches_nd (is_forking (table_of env) row.id) (c z)).0)))
                    (λ nd_free. n.nd_free row is (or_false g.reaches_nd (is_forking (table_of env) row.id) (c nd_free)).1);
                gathers =
                    subst (λ z. Gathers f (acts.effects ++ summary_with regions z) (with_call (table_of env) g row regions)) (sym seen.summary)
                    (then_gathered f g (with_call (table_of env) g row regions) acts.effects (summary_with regions row.summary) acts.gathers (call_gathered g row regions));
                nd_free = λ z. acts.nd_free (or_false g.reaches_nd (is_forking (table_of env) row.id) z).0;
              };
              index = λ _. refl;
            }

        by : (o : Option MethodRow) → constructor_of (table_of env) at ≡ o → AllFit (supers_of env) regions (map type_in ts) (option_map_or (λ (row : MethodRow). row.params) o []) →
            Passed (tree.expression place (tree.create class trees actuals)) f (gives (Some (typed place (ty.class at regions) (form.create (nodes_at place ts)))) (with_constructor (table_of env) g o regions))
        by None is fit = without k (n.constructor ∙ ap (option_map (λ (z : MethodRow). z.id)) is) fit
        by (Some row) is fit = with_one row is fit

    creation_passed : (place : Place) (class : Named) (trees : List RplTree) (actuals : tree.PlainExprs) (f g : Found) (ts : List (Option TypedExpr)) (a : Answer) →
        Given ts f g → args_reported env (created_params (table_of env) class) trees ≡ None → Creation env class (args_of env trees) ts place g a →
        Passed (tree.expression place (tree.create class trees actuals)) f a
    creation_passed place class trees actuals f g ts a k unreported Creation.object_refused = tt
    creation_passed place class trees actuals f g ts a k unreported (Creation.of_class {at = at} is d) =
        creation_made place class trees actuals f g at ts a k (tells.classes class.name at is)
        (sym (ap (λ o. args_reported env (option_map_or (params_in (headers_of (table_of env))) o []) trees) is) ∙ unreported) d

    -- the creation of an array
    array_passed : (x : tree.PlainExpr) (len : tree.PlainExpr) (suffixes : List Suffix) (index : Option Named) → length suffixes ≤ 4294967295 → (base : BaseTree) (rpl : Option RplTree) (place : Place) (f g : Found) (t : Option TypedExpr) → index_of env x ≡ None →
        front_reported env (made_names suffixes index) base ≡ None → Passed len f (gives t g) → Passed x f (answer (created place (node_at place t) (created_array env (made_names suffixes index) (front_of env (made_names suffixes index) base) (type_in t) rpl place)) g)
    array_passed x len suffixes index few base rpl place f g None none front m = absurd m
    array_passed x len suffixes index few base rpl place f g (Some n) none front m = by (created_array env (made_names suffixes index) (front_of env (made_names suffixes index) base) (Some (type_of n)) rpl place) refl
      where
        by : (r : Result PlainType Refusal) → created_array env (made_names suffixes index) (front_of env (made_names suffixes index) base) (Some (type_of n)) rpl place ≡ r → Passed x f (answer (created place n r) g)
        by (Err refusal) is = tt
        by (Ok t) is =
            let w = created_good P L env may_read may_assign tells sees suffixes index base rpl (Some (type_of n)) place t few front is in
            subst (λ z. Passed x f (gives (Some (typed place z (form.create_array n))) g)) (sym w.3)
            (made_on x f g n (typed place (ty.array w.0 w.1 w.2) (form.create_array n)) m.stands (λ E h. Has.make_array w.4 w.5 h (int_is (type_of n) w.6)) (λ _. sym (ap array_elem none)))

    mutual
      -- what is made of an expression that passes
      pub steps_passed : {e : tree.PlainExpr} {f : Found} {a : Answer} → Fitting e → ((x : ℕ) → IsTrue (expr_reads x e) → IsTrue (may_read x)) → Rules env e f a → Passed e f a
      steps_passed fits all (Rules.no_parts {place = place} {form = leaf} {f = f} {r = r} l s) =
          subst (Passed (tree.expression place leaf) f) s (leaf_passed place leaf f r fits all l)
      steps_passed fits all (Rules.part_length {place = place} {of = of} {name = name} {f = f} {row = row} l) =
          let w = part_seen of row (measured_part of name row l) in
          made_leaf (tree.expression place (tree.field of name)) f (typed place ty.int (form.part_length row.slot)) (Has.length_of_part w.2) (λ _. refl)
      steps_passed fits all Rules.is_refused = tt
      steps_passed fits all (Rules.field_read {place = place} {of = of} {name = name} {f = f} {g = g} {t = t} l d r) =
          subst (Passed (tree.expression place (tree.field of name)) f) r (field_passed place of name f g t (steps_passed fits all d))
      steps_passed fits all (Rules.part_element_read {place = place} {array = array} {index = index} {f = f} {g = g} {row = row} {t = t} l d r) =
          subst (Passed (tree.expression place (tree.element array index)) f) r
          (part_passed place array index f g row t l (steps_passed fits.1 (λ x h. all x (or_right (expr_reads x array) (expr_reads x index) h)) d))
      steps_passed fits all (Rules.element_read {place = place} {array = array} {index = index} {f = f} {g = g} {h = h} {t = t} {u = u} l d i r) =
          subst (Passed (tree.expression place (tree.element array index)) f) r
          (element_passed place array index f g h t u
          (steps_passed fits.0 (λ x h. all x (or_left (expr_reads x array) (expr_reads x index) h)) d)
          (steps_passed fits.1 (λ x h. all x (or_right (expr_reads x array) (expr_reads x index) h)) i))
      steps_passed fits all (Rules.operation {place = place} {op = op} {arg = arg} {f = f} {g = g} {t = t} d r) =
          subst (Passed (tree.expression place (tree.unary op arg)) f) r (unary_passed place op arg f g t (steps_passed fits all d))
      steps_passed fits all (Rules.both_operands {place = place} {op = op} {left = left} {right = right} {f = f} {g = g} {h = h} {t = t} {u = u} d i r) =
          subst (Passed (tree.expression place (tree.binary op left right)) f) r
          (binary_passed place op left right f g h t u
          (steps_passed fits.0 (λ x h. all x (or_left (expr_reads x left) (expr_reads x right) h)) d)
          (steps_passed fits.1 (λ x h. all x (or_right (expr_reads x left) (expr_reads x right) h)) i))
      steps_passed fits all (Rules.method_call {place = place} {of = of} {regions = regions} {name = name} {actuals = actuals} {f = f} {g = g} {h = h} {t = t} {types = types} {a = a} d l i r) =
          call_passed place of regions name actuals f g h t types a
          (steps_passed fits.0 (λ x h. all x (or_left (expr_reads x of || list_any (path_reads x) regions) (exprs_read x actuals) (or_left (expr_reads x of) (list_any (path_reads x) regions) h))) d)
          l (all_passed fits.1 (λ x h. all x (or_right (expr_reads x of || list_any (path_reads x) regions) (exprs_read x actuals) h)) i) r
      steps_passed fits all (Rules.new_object {place = place} {class = class} {regions = regions} {actuals = actuals} {f = f} {g = g} {types = types} {a = a} l i r) =
          creation_passed place class regions actuals f g types a (all_passed fits (λ x h. all x (or_right (list_any (path_reads x) regions) (exprs_read x actuals) h)) i) l r
      steps_passed fits all (Rules.new_array {place = place} {base = base} {suffixes = suffixes} {len = len} {rpl = rpl} {index = index} {f = f} {g = g} {t = t} l d r) =
          let x = tree.expression place (tree.create_array base suffixes len rpl index) in
          subst (Passed x f) r
          (array_passed x len suffixes index fits.0 base rpl place f g t refl l
          (steps_passed fits.1 (λ x h. all x (or_right (made_reads x base suffixes rpl index) (expr_reads x len) h)) d))

      all_passed : {es : tree.PlainExprs} {f : Found} {a : AllAnswer} → AllFitting es → ((x : ℕ) → IsTrue (exprs_read x es) → IsTrue (may_read x)) → AllRules env es f a → AllPassed f a
      all_passed fits all AllRules.none_left = Given.no_more
      all_passed fits all AllRules.some_refused = tt
      all_passed fits all (AllRules.one_more {e = e} {es = es} {f = f} {g = g} {h = h} {t = t} {types = types} d i) =
          given_more t types e f g h
          (steps_passed fits.0 (λ x h. all x (or_left (expr_reads x e) (exprs_read x es) h)) d)
          (all_passed fits.1 (λ x h. all x (or_right (expr_reads x e) (exprs_read x es) h)) i)

    pub typing_passed : (e : tree.PlainExpr) (f : Found) {a : Answer} → Fitting e → ((x : ℕ) → IsTrue (expr_reads x e) → IsTrue (may_read x)) → Typing env e f a → Passed e f a
    typing_passed e f fits all d = steps_passed fits all (rules env e f d)

    -- an expression that passes has its type
    pub expression_agrees : (e : tree.PlainExpr) (f g : Found) (made : Option TypedExpr) → Fitting e → ((x : ℕ) → IsTrue (expr_reads x e) → IsTrue (may_read x)) → Typing env e f (gives made g) →
        (t : TypedExpr) × (made ≡ Some t) × Stands P L f t g
    expression_agrees e f g None fits all d = absurd (typing_passed e f fits all d)
    expression_agrees e f g (Some t) fits all d = (t, refl, (typing_passed e f fits all d).stands)
