-- What the names around a signature mean is in scope there.
use Rattle.std.proofs.Common.{◌≡◌, ◌∙◌, ◌⊎◌, ℕ, ◌+◌, ◌<◌, ◌≤◌, ◌==◌, Bool, true, false, cond, fold, List, [], ◌∷◌, ◌++◌, map, length, slice_get, append_assoc, inl, inr, Option, Some, None, refl, sym, ap, subst, arith}
use Rattle.std.proofs.lemmas.List.{append-nil, length-map}
use Rattle.std.proofs.lemmas.Option.{none-some, get_or_from_slice_get, slice_get_within}
use Rattle.std.specs.Option.{option_map_or}
use Rattle.decl_headers.specs.declared.header.Header.{Header}
use Rattle.decl_headers.specs.declared.header.Headers.{Headers}
use Rattle.decl_headers.specs.declared.header.ParamRow.{ParamRow}
use Rattle.decl_headers.specs.declared.header.RegionRow.{RegionRow}
use Rattle.decl_headers.specs.Headers.{header_of, own_region, param_of, region_of, regions_of, atomic_regions, upwards}
use Rattle.decl_headers.specs.Numbers.{as_number, last_place}
use Rattle.syntax_tree.specs.declared.class.Formal.{Formal}
use Rattle.syntax_tree.specs.declared.region.ParamTree.{ParamTree}
use Rattle.decl_resolve.specs.declared.scope.ParamFound.{ParamFound}
use Rattle.decl_resolve.specs.Classes.{params_in}
use Rattle.decl_resolve.specs.Names.{Names}
use Rattle.decl_resolve.specs.Scoped.{no_names, with_name, values_in, place_in, value_in}
use Rattle.decl_resolve.specs.Scopes.{PlainScope, is_atomic_at, class_param, after_class, method_param, param_meant}
use Rattle.decl_classes.specs.Around.{param_names, formal_names}
use Rattle.lang_typed.specs.Plain.{PlainProgram}
use Rattle.lang_typed.specs.Scope.{Scope}
use Rattle.decl_laws.proofs.Facts.{nearest_in}
use Rattle.sound_lemmas.proofs.Lists.{some_same, and_then_there, map_there, there, got_first, got_later, got_last, got_mapped}
use Rattle.sound_decls.proofs.written.Paths.{Meaning}

-- the last place that passes a test is one of the list
last_within : {A : Type 0} (test : A → Bool) (at : ℕ) (xs : List A) (found : Option ℕ) (n : ℕ) → last_place test at xs found ≡ Some n → (found ≡ Some n) ⊎ (n < at + length xs)
last_within test at [] found n e = inl e
last_within test at (x ∷ xs) found n e =
    elim (last_within test (at + 1) xs (cond (test x) (Some (as_number at)) found) n e) [
      | inl now ↦ by (test x) now
      | inr later ↦ inr (omega (arith, later))
    ]
  where
    by : (b : Bool) → cond b (Some (as_number at)) found ≡ Some n → (found ≡ Some n) ⊎ (n < at + length (x ∷ xs))
    by true h = let same = some_same h in inr (omega (arith, same))
    by false h = inl h

region_within : (headers : Headers) (class name number : ℕ) → region_of headers class name ≡ Some number → number < length (atomic_regions headers)
region_within headers class name number e =
    let w = nearest_in (λ at. own_region headers at name) (upwards headers class) number e in
    let long = length-map (regions_of headers) (λ (row : RegionRow). row.is_atomic) in
    elim (last_within _ 0 (regions_of headers) None number w.2) [
      | inl none ↦ absurd (none-some number none)
      | inr l ↦ omega (arith, l, long)
    ]

-- a region parameter of a class
class_param_there : (headers : Headers) (class name n : ℕ) → param_of headers class name ≡ Some n →
    slice_get (map (λ (param : ParamRow). param.atomic) (params_in headers class)) n ≡ Some (is_atomic_at (params_in headers class) n)
class_param_there headers class name n e =
    let w = and_then_there (λ (header : Header). last_place (λ param. param.name == name) 0 header.params None) (header_of headers class) n e in
    let params : params_in headers class ≡ w.0.params = ap (λ o. option_map_or (λ (header : Header). header.params) o []) w.1 in
    let within : n < length w.0.params = elim (last_within _ 0 w.0.params None n w.2) [ inl none ↦ absurd (none-some n none) | inr l ↦ omega (arith, l) ] in
    let p = there w.0.params n within in
    subst (λ z. slice_get (map (λ (param : ParamRow). param.atomic) z) n ≡ Some (is_atomic_at z n)) (sym params)
    (got_mapped (λ (param : ParamRow). param.atomic) w.0.params n p.0 p.1 ∙ ap (λ o. Some (option_map_or (λ (param : ParamRow). param.atomic) o false)) (sym p.1))

-- the values of names
params_from : (params : List ParamTree) (names : Names Bool) → values_in (fold (λ names param. with_name names param.name param.atomic) names params) ≡ values_in names ++ map (λ (param : ParamTree). param.atomic) params
params_from [] names = sym (append-nil (values_in names))
params_from (param ∷ params) names = params_from params (with_name names param.name param.atomic) ∙ append_assoc (values_in names) (param.atomic ∷ []) (map (λ (param : ParamTree). param.atomic) params)

pub param_values : (params : List ParamTree) → values_in (param_names params) ≡ map (λ (param : ParamTree). param.atomic) params
param_values params = params_from params no_names

abbrev NoneHeld : List (Option ℕ) → Type 0
NoneHeld values = (i : ℕ) (v : Option ℕ) → slice_get values i ≡ Some v → v ≡ None

formals_from : (formals : List Formal) (names : Names (Option ℕ)) → NoneHeld (values_in names) → NoneHeld (values_in (fold (λ names formal. with_name names formal.name None) names formals))
formals_from [] names held = held
formals_from (formal ∷ formals) names held = formals_from formals (with_name names formal.name None) (λ i v e. got_last (values_in names) None i v (λ v. v ≡ None) held refl e)

-- no formal may stand in an index
pub formal_barred : (formals : List Formal) (name slot : ℕ) → value_in (formal_names formals) name ≡ Some (Some slot) → ⊥
formal_barred formals name slot e =
    let w = and_then_there (λ place. slice_get (values_in (formal_names formals)) place) (place_in (formal_names formals) name) (Some slot) e in
    none-some slot (sym (formals_from formals no_names (λ i v e. absurd (nothing i v e)) w.0 (Some slot) w.2))
  where
    nothing : (i : ℕ) (v : Option ℕ) → slice_get [] i ≡ Some v → ⊥
    nothing i v e = cc

-- what is around a signature, where its region parameters are in scope
pub record Surrounds (P : PlainProgram) (L : Scope) (scope : PlainScope) : Type 0 where
  pub names : P.region_names ≡ atomic_regions scope.headers
  pub params : L.atomic ≡ map (λ (param : ParamRow). param.atomic) (params_in scope.headers scope.class) ++ values_in scope.params
  pub few : length (params_in scope.headers scope.class) + length (values_in scope.params) ≤ 4294967295
  pub variables : (name slot : ℕ) → value_in scope.variables name ≡ Some (Some slot) → ⊥
  pub regions : (name number : ℕ) → value_in scope.regions name ≡ Some number → ⊥
  pub given : L.given ≡ scope.given

param_there : (scope : PlainScope) → length (params_in scope.headers scope.class) + length (values_in scope.params) ≤ 4294967295 → (name : ℕ) (param : ParamFound) → param_meant scope name ≡ Some param →
    slice_get (map (λ (param : ParamRow). param.atomic) (params_in scope.headers scope.class) ++ values_in scope.params) param.number ≡ Some param.atomic
param_there scope few name param e = by (param_of scope.headers scope.class name) refl e
  where
    of_class : List ParamRow
    of_class = params_in scope.headers scope.class

    by : (o : Option ℕ) → param_of scope.headers scope.class name ≡ o → option_map_or (λ number. Some (class_param of_class number)) o (method_param scope name) ≡ Some param →
        slice_get (map (λ (param : ParamRow). param.atomic) of_class ++ values_in scope.params) param.number ≡ Some param.atomic
    by (Some n) is h =
        subst (λ (p : ParamFound). slice_get (map (λ (param : ParamRow). param.atomic) of_class ++ values_in scope.params) p.number ≡ Some p.atomic) (some_same h)
        (got_first (map (λ (param : ParamRow). param.atomic) of_class) (values_in scope.params) n (is_atomic_at of_class n) (class_param_there scope.headers scope.class name n is))
    by None is h =
        let w = and_then_there (λ place. after_class of_class (values_in scope.params) place) (place_in scope.params name) param h in
        let a = map_there (λ atomic. record { number = as_number (length of_class + w.0); atomic = atomic }) (slice_get (values_in scope.params) w.0) param w.2 in
        let l = slice_get_within (values_in scope.params) w.0 a.0 a.1 in
        let long = length-map of_class (λ (param : ParamRow). param.atomic) in
        subst (λ (p : ParamFound). slice_get (map (λ (param : ParamRow). param.atomic) of_class ++ values_in scope.params) p.number ≡ Some p.atomic) a.2
        (got_later (map (λ (param : ParamRow). param.atomic) of_class) (values_in scope.params) (as_number (length of_class + w.0)) w.0 a.0 (omega (arith, l, long, few)) a.1)

pub surrounds_mean : (P : PlainProgram) (L : Scope) (scope : PlainScope) → Surrounds P L scope → Meaning P L scope
surrounds_mean P L scope around = record {
  regions = λ class name number e. subst (λ z. number < length z) (sym around.names) (region_within scope.headers class name number e);
  atomic = around.names;
  params = λ name param e.
      let p = subst (λ z. slice_get z param.number ≡ Some param.atomic) (sym around.params) (param_there scope around.few name param e) in
      (slice_get_within L.atomic param.number param.atomic p, get_or_from_slice_get L.atomic param.number param.atomic false p);
  variables = λ name slot e. absurd (around.variables name slot e);
  locals = λ name number e. absurd (around.regions name number e);
  given = around.given;
}
