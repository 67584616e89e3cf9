-- What the declarations of an accepted text say: types and paths over their region parameters.
use Rattle.std.proofs.Common.{◌≡◌, ◌∙◌, ◌⊎◌, ℕ, zero, suc, ◌+◌, Bool, true, false, cond, fold, List, [], ◌∷◌, ◌++◌, length, flat_map, inl, inr, Option, None, Some, option_map, refl, sym, ap, subst, arith}
use Rattle.std.specs.List.{cons_option}
use Rattle.std.specs.Prelude.{slice_get, unwrap_or}
use Rattle.lang_base.specs.declared.effect.Access.{Access}
use Rattle.lang_base.specs.declared.effect.Constraint.{Constraint}
use Rattle.lang_base.specs.declared.effect.Effect.{Effect}
use Rattle.lang_base.specs.declared.region.Rpl.{Rpl}
use Rattle.lang_base.specs.Effects.{has_effect, added, gathered}
use Rattle.lang_base.specs.Types.{PlainType, void}
use Rattle.decl_headers.specs.declared.faults.Order.TheVariants as order
use Rattle.decl_headers.specs.declared.header.Headers.{Headers}
use Rattle.decl_headers.specs.Faults.{none_by}
use Rattle.decl_headers.specs.Numbers.{as_number}
use Rattle.syntax_tree.specs.declared.class.Class.{Class}
use Rattle.syntax_tree.specs.declared.class.Formal.{Formal}
use Rattle.syntax_tree.specs.declared.class.Item.{Item}
use Rattle.syntax_tree.specs.declared.class.Member.{Member}
use Rattle.syntax_tree.specs.declared.class.Member.TheVariants as member
use Rattle.syntax_tree.specs.declared.class.Method.{Method}
use Rattle.syntax_tree.specs.declared.class.MethodResult.{MethodResult}
use Rattle.syntax_tree.specs.declared.class.MethodResult.TheVariants as outcome
use Rattle.syntax_tree.specs.declared.class.SummaryTree.{SummaryTree}
use Rattle.syntax_tree.specs.declared.class.Program.{Program}
use Rattle.syntax_tree.specs.declared.region.TypeTree.{TypeTree}
use Rattle.decl_resolve.specs.Classes.{params_in}
use Rattle.decl_resolve.specs.Index.{no_index}
use Rattle.decl_resolve.specs.Names.{Names}
use Rattle.decl_resolve.specs.Reading.{path_meant}
use Rattle.decl_resolve.specs.Scoped.{no_names, with_name, values_in, place_in}
use Rattle.decl_resolve.specs.Scopes.{PlainScope}
use Rattle.decl_resolve.specs.Written.{type_faults}
use Rattle.decl_table.specs.declared.rows.MethodRow.{MethodRow}
use Rattle.decl_table.specs.declared.table.Table.{Table}
use Rattle.decl_classes.specs.Around.{class_scope}
use Rattle.decl_classes.specs.Build.{text_faults}
use Rattle.decl_table.specs.Plain.{PlainMethod, plain_method}
use Rattle.decl_classes.specs.Rows.{method_row, said_scope, said_faults, method_scope, method_faults, member_faults, methods_from, methods_meant, super_faults, class_faults, all_constraint_faults, signature_faults}
use Rattle.decl_classes.specs.Signatures.{known_type, known_type_faults, effects_meant, formal_types, formal_faults, result_type, result_faults, summary_meant, summary_faults, constraints_faults}
use Rattle.decl_table.specs.Table.{headers_of, methods_of}
use Rattle.decl_laws.proofs.Facts.{got_either}
use Rattle.decl_laws.proofs.Granted.{IsReadOf}
use Rattle.sound_lemmas.proofs.Free.{none_reported, append_none, joined_free}
use Rattle.sound_lemmas.proofs.Known.{type_known}
use Rattle.sound_lemmas.proofs.Lists.{some_same, and_then_there, got_mapped, got_last}
use Rattle.sound_bodies.specs.Naming.{Nothing, PathNames, EffectsName}
use Rattle.sound_bodies.proofs.scope.Closed.{Closed, params_number, path_closed, type_closed}
use Rattle.sound_bodies.proofs.scope.InParams.{TypeIn}

-- in a class nothing is in scope but its region parameters
pub class_closed : (headers : Headers) (all : List (List Constraint)) (number : ℕ) → Closed (length (params_in headers number)) (class_scope headers all number)
class_closed headers all number = record {
  params = λ name param e. let w = params_number (class_scope headers all number) name param e in (omega (arith, w.0), w.1);
  variables = λ name slot e. cc;
  regions = λ name number e. cc;
}

-- formals stand in no index
no_index_in : (names : Names (Option ℕ)) (formals : List Formal) → ((i s : ℕ) → slice_get names.values i ≡ Some (Some s) → ⊥) → (i s : ℕ) →
    slice_get (fold (λ names formal. with_name names formal.name None) names formals).values i ≡ Some (Some s) → ⊥
no_index_in names [] none i s e = none i s e
no_index_in names (formal ∷ formals) none i s e =
    no_index_in (with_name names formal.name None) formals
    (λ j t h. got_last names.values None j (Some t) (λ z. z ≡ Some t → ⊥) (λ k z g same. none k t (g ∙ ap Some same)) (λ same. cc) h refl) i s e

-- nor in a method, but those of the class and its own
pub method_closed : (headers : Headers) (all : List (List Constraint)) (number : ℕ) (method : Method) →
    (n : ℕ) × Closed n (said_scope (class_scope headers all number) method)
method_closed headers all number method = (
  length (params_in scope.headers scope.class) + length (values_in scope.params),
  record {
    params = λ name param e. params_number scope name param e;
    variables = λ name slot e.
        let w = and_then_there (λ place. slice_get (values_in scope.variables) place) (place_in scope.variables name) (Some slot) e in
        no_index_in no_names method.formals (λ i s h. cc) w.0 slot w.2;
    regions = λ name number e. cc;
  },
)
  where
    scope : PlainScope
    scope = said_scope (class_scope headers all number) method

abbrev pub TypesIn : ℕ → List PlainType → Type 0
TypesIn n [] = Unit {0}
TypesIn n (t ∷ ts) = TypeIn n t × TypesIn n ts

module _ (n : ℕ) (scope : PlainScope) (closed : Closed n scope)
  where
    -- a type that is declared without faults
    pub declared_type : (tree : TypeTree) → known_type_faults scope tree ≡ [] → TypeIn n (known_type scope tree)
    declared_type tree free =
        let w = type_known scope tree (joined_free (type_faults scope tree) free) in
        subst (λ o. TypeIn n (unwrap_or o void)) (sym w.1) (type_closed n scope closed tree w.0 w.1)

    formals_in : (formals : List Formal) → formal_faults scope formals ≡ [] → TypesIn n (formal_types scope formals)
    formals_in [] free = tt
    formals_in (formal ∷ formals) free =
        let f = append_none (known_type_faults scope formal.ty) (formal_faults scope formals) free in
        (declared_type formal.ty f.0, formals_in formals f.1)

    result_in : (r : MethodResult) → result_faults scope r ≡ [] → (result_type scope r ≡ void) ⊎ TypeIn n (result_type scope r)
    result_in outcome.Constructor free = inl refl
    result_in outcome.Void free = inl refl
    result_in (outcome.Value tree) free = inr (declared_type tree free)

    -- summaries
    effects_named : (access : Access) (items : List Item) → EffectsName Nothing Nothing (effects_meant scope access items)
    effects_named access [] = tt
    effects_named access (item ∷ items) = by (path_meant scope no_index item.rpl) refl (effects_named access items)
      where
        by : (o : Option Rpl) → path_meant scope no_index item.rpl ≡ o → EffectsName Nothing Nothing (effects_meant scope access items) →
            EffectsName Nothing Nothing (cons_option (option_map (λ rpl. record { access = access; atomic = item.atomic; rpl = rpl }) o) (effects_meant scope access items))
        by None is more = more
        by (Some a) is more = ((path_closed n scope closed no_index item.rpl a is).1, more)

    push_named : (es : List Effect) (e : Effect) → EffectsName Nothing Nothing es → PathNames Nothing Nothing e.rpl → EffectsName Nothing Nothing (es ++ e ∷ [])
    push_named [] e h k = (k, tt)
    push_named (f ∷ es) e h k = (h.0, push_named es e h.1 k)

    gathered_named : (es fs : List Effect) → EffectsName Nothing Nothing es → EffectsName Nothing Nothing fs → EffectsName Nothing Nothing (gathered es fs)
    gathered_named es [] h k = h
    gathered_named es (f ∷ fs) h k = gathered_named (added es f) fs (by (has_effect es f)) k.1
      where
        by : (b : Bool) → EffectsName Nothing Nothing (cond b es (es ++ f ∷ []))
        by true = h
        by false = push_named es f h k.0

    summary_named : (o : Option SummaryTree) → EffectsName Nothing Nothing (summary_meant scope o)
    summary_named None = ((tt, tt), tt)
    summary_named (Some tree) = gathered_named _ _ (gathered_named [] _ tt (effects_named _ tree.reads)) (effects_named _ tree.writes)

-- what is known of the row of a method
pub record MethodSaid (row : PlainMethod) : Type 0 where
  pub count : ℕ
  pub params : TypesIn count row.params
  pub result : (row.result ≡ void) ⊎ TypeIn count row.result
  pub summary : EffectsName Nothing Nothing row.summary

method_said : (headers : Headers) (all : List (List Constraint)) (number id : ℕ) (method : Method) → method_faults (class_scope headers all number) method ≡ [] →
    MethodSaid (method_row (class_scope headers all number) id method)
method_said headers all number id method free =
    let around = class_scope headers all number in
    let scope = said_scope around method in
    let closed = method_closed headers all number method in
    let f = append_none (constraints_faults (method_scope around method) method.params.given) (said_faults scope method) free in
    let g = append_none (formal_faults scope method.formals ++ result_faults scope method.result) (summary_faults scope method.summary) f.1 in
    let h = append_none (formal_faults scope method.formals) (result_faults scope method.result) g.0 in
    record {
      count = closed.0;
      params = formals_in closed.0 scope closed.1 method.formals h.0;
      result = result_in closed.0 scope closed.1 method.result h.1;
      summary = summary_named closed.0 scope closed.1 method.summary;
    }

methods_said : (headers : Headers) (all : List (List Constraint)) (number count : ℕ) (members : List Member) (i : ℕ) (row : PlainMethod) →
    slice_get (methods_from (class_scope headers all number) count members) i ≡ Some row → flat_map (member_faults (class_scope headers all number)) members ≡ [] → MethodSaid row
methods_said headers all number count [] i row e free = cc
methods_said headers all number count (member.Regions is_atomic declared ∷ members) i row e free = methods_said headers all number (count + 0) members i row e free
methods_said headers all number count (member.Field field ∷ members) i row e free =
    methods_said headers all number (count + 0) members i row e (append_none (member_faults (class_scope headers all number) (member.Field field)) _ free).1
methods_said headers all number count (member.Method method ∷ members) zero row e free =
    subst MethodSaid (some_same e) (method_said headers all number (as_number count) method (append_none (method_faults (class_scope headers all number) method) _ free).0)
methods_said headers all number count (member.Method method ∷ members) (suc i) row e free =
    methods_said headers all number (count + 1) members i row e (append_none (method_faults (class_scope headers all number) method) _ free).1

all_said : (headers : Headers) (all : List (List Constraint)) (at count : ℕ) (classes : List Class) (i : ℕ) (row : PlainMethod) → slice_get (methods_meant headers all at count classes) i ≡ Some row →
    signature_faults headers all at classes ≡ [] → MethodSaid row
all_said headers all at count [] i row e free = cc
all_said headers all at count (class ∷ classes) i row e free =
    let scope = class_scope headers all (as_number at) in
    let own = methods_from scope count class.members in
    let f = append_none (class_faults scope class) _ free in
    let g = append_none (super_faults scope class) _ f.0 in
    elim (got_either own (methods_meant headers all (at + 1) (count + length own) classes) i row e) [
      | inl here ↦ methods_said headers all (as_number at) count class.members i row here g.1
      | inr more ↦ all_said headers all (at + 1) (count + length own) classes more.0 row more.2 f.1
    ]

-- the signatures of a class are free of faults
pub class_free : (headers : Headers) (all : List (List Constraint)) (at : ℕ) (classes : List Class) (j : ℕ) (class : Class) → signature_faults headers all at classes ≡ [] → slice_get classes j ≡ Some class →
    class_faults (class_scope headers all (as_number (at + j))) class ≡ []
class_free headers all at [] j class free e = cc
class_free headers all at (one ∷ classes) zero class free e =
    let here : at ≡ at + 0 = omega arith in
    let f = append_none (class_faults (class_scope headers all (as_number at)) one) _ free in
    subst (λ k. class_faults (class_scope headers all (as_number k)) class ≡ []) here (ap (class_faults (class_scope headers all (as_number at))) (sym (some_same e)) ∙ f.0)
class_free headers all at (one ∷ classes) (suc j) class free e =
    let next : at + 1 + j ≡ at + suc j = omega arith in
    let f = append_none (class_faults (class_scope headers all (as_number at)) one) _ free in
    subst (λ k. class_faults (class_scope headers all (as_number k)) class ≡ []) next (class_free headers all (at + 1) classes j class f.1 e)

module _ (program : Program) (table : Table) (read : IsReadOf program.classes table)
  where
    pub signatures_free : signature_faults (headers_of table) table.given 0 program.classes ≡ []
    signatures_free =
        let all = none_reported (none_by order.Place) (text_faults (headers_of table) program.classes) read.free in
        let w = append_none (all_constraint_faults (headers_of table) 0 program.classes) _ all in
        subst (λ given. signature_faults (headers_of table) given 0 program.classes ≡ []) (sym read.given) w.1

    pub row_said : (i : ℕ) (row : MethodRow) → slice_get (methods_of table) i ≡ Some row → MethodSaid (plain_method row)
    row_said i row e =
        let got = ap (λ rows. slice_get rows i) (sym read.methods) ∙ got_mapped plain_method (methods_of table) i row e in
        all_said (headers_of table) table.given 0 0 program.classes i (plain_method row) got signatures_free
