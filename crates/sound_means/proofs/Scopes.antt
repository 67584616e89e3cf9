-- What is known around the signatures of a class, and around those of a method: the region parameters of the class, and after
-- them those of the method.
use Rattle.std.proofs.Common.{◌≡◌, ◌∙◌, ◌⊎◌, ℕ, zero, suc, ◌+◌, ◌≤◌, ◌==◌, Bool, true, false, cond, fold, List, [], ◌∷◌, ◌++◌, map, length, inl, inr, Option, None, Some, option_map, option_and_then, refl, sym, ap, subst, arith}
use Rattle.std.proofs.lemmas.Bool.{eqb-true, eq-eqb, false≢true}
use Rattle.std.proofs.lemmas.List.{append-nil, append_assoc, length-map}
use Rattle.std.proofs.lemmas.Option.{none-some, slice_get-map, slice_get_within}
use Rattle.std.specs.Option.{option_map_or}
use Rattle.std.specs.Prelude.{slice_get}
use Rattle.syntax_tree.specs.declared.class.Formal.{Formal}
use Rattle.syntax_tree.specs.declared.region.ParamTree.{ParamTree}
use Rattle.syntax_means.specs.Bodies.{with_local}
use Rattle.syntax_means.specs.Means.{with_formals}
use Rattle.syntax_means.specs.Paths.{Around, beside}
use Rattle.decl_headers.specs.declared.header.Header.{Header}
use Rattle.decl_headers.specs.declared.header.ParamRow.{ParamRow}
use Rattle.decl_headers.specs.Gathered.{param_row}
use Rattle.decl_headers.specs.Headers.{param_of}
use Rattle.decl_headers.specs.Numbers.{as_number, last_place}
use Rattle.decl_resolve.specs.declared.scope.ParamFound.{ParamFound}
use Rattle.decl_resolve.specs.Classes.{params_in}
use Rattle.decl_resolve.specs.Names.{Names, last_from}
use Rattle.decl_resolve.specs.Scoped.{no_names, with_name, names_in, values_in, place_in, value_in}
use Rattle.decl_resolve.specs.Scopes.{PlainScope, class_param, after_class, method_param, param_meant}
use Rattle.decl_classes.specs.Around.{param_names}
use Rattle.decl_laws.proofs.Facts.{got_either}
use Rattle.sound_lemmas.proofs.Lists.{some_same, and_then_there, map_there, there, got_first, got_later, got_mapped}
use Rattle.sound_decls.proofs.written.Around.{param_values}
use Rattle.sound_means.proofs.Around.{KnowsPaths, HeadersTell}

-- the last that passes a test, and the last of a name
last_param : {A : Type 0} (test : A → Bool) (at : ℕ) (xs : List A) (found : Option ℕ) (n : ℕ) → last_place test at xs found ≡ Some n →
    (found ≡ Some n) ⊎ ((i : ℕ) × (x : A) × (slice_get xs i ≡ Some x) × (test x ≡ true) × (n ≡ as_number (at + i)))
last_param test at [] found n e = inl e
last_param {A} test at (x ∷ xs) found n e =
    elim (last_param test (at + 1) xs (cond (test x) (Some (as_number at)) found) n e) [
      | inl now ↦ by (test x) refl now
      | inr w ↦ let next : at + 1 + w.0 ≡ at + suc w.0 = omega arith in inr (suc w.0, w.1, w.2, w.3, w.4 ∙ ap as_number next)
    ]
  where
    by : (b : Bool) → test x ≡ b → cond b (Some (as_number at)) found ≡ Some n → (found ≡ Some n) ⊎ ((i : ℕ) × (y : A) × (slice_get (x ∷ xs) i ≡ Some y) × (test y ≡ true) × (n ≡ as_number (at + i)))
    by true is now = let here : at ≡ at + 0 = omega arith in inr (0, x, refl, is, sym (some_same now) ∙ ap as_number here)
    by false is now = inl now

no_param : {A : Type 0} (test : A → Bool) (at : ℕ) (xs : List A) (found : Option ℕ) → last_place test at xs found ≡ None →
    (found ≡ None) × ((i : ℕ) (x : A) → slice_get xs i ≡ Some x → test x ≡ true → ⊥)
no_param test at [] found e = (e, λ i x h t. cc)
no_param {A} test at (x ∷ xs) found e = by (test x) refl (no_param test (at + 1) xs (cond (test x) (Some (as_number at)) found) e)
  where
    by : (b : Bool) → test x ≡ b → (cond b (Some (as_number at)) found ≡ None) × ((i : ℕ) (y : A) → slice_get xs i ≡ Some y → test y ≡ true → ⊥) →
        (found ≡ None) × ((i : ℕ) (y : A) → slice_get (x ∷ xs) i ≡ Some y → test y ≡ true → ⊥)
    by true is w = let none = w.0 in cc
    by false is w = (w.0, others)
      where
        others : (i : ℕ) (y : A) → slice_get (x ∷ xs) i ≡ Some y → test y ≡ true → ⊥
        others zero y h t = false≢true (sym is ∙ ap test (some_same h) ∙ t)
        others (suc i) y h t = w.1 i y h t

last_named : (at : ℕ) (found : Option ℕ) (names : List ℕ) (name n : ℕ) → last_from at found names name ≡ Some n →
    (found ≡ Some n) ⊎ ((i : ℕ) × (n ≡ at + i) × (slice_get names i ≡ Some name))
last_named at found [] name n e = inl e
last_named at found (other ∷ names) name n e =
    elim (last_named (suc at) (cond (other == name) (Some at) found) names name n e) [
      | inl now ↦ by (other == name) refl now
      | inr w ↦ let next : suc at + w.0 ≡ at + suc w.0 = omega arith in inr (suc w.0, w.1 ∙ next, w.2)
    ]
  where
    by : (b : Bool) → (other == name) ≡ b → cond b (Some at) found ≡ Some n → (found ≡ Some n) ⊎ ((i : ℕ) × (n ≡ at + i) × (slice_get (other ∷ names) i ≡ Some name))
    by true is now = let here : at ≡ at + 0 = omega arith in inr (0, sym (some_same now) ∙ here, ap Some (eqb-true other name is))
    by false is now = inl now

no_name : (at : ℕ) (found : Option ℕ) (names : List ℕ) (name : ℕ) → last_from at found names name ≡ None → (found ≡ None) × ((i : ℕ) → slice_get names i ≡ Some name → ⊥)
no_name at found [] name e = (e, λ i h. cc)
no_name at found (other ∷ names) name e = by (other == name) refl (no_name (suc at) (cond (other == name) (Some at) found) names name e)
  where
    by : (b : Bool) → (other == name) ≡ b → (cond b (Some at) found ≡ None) × ((i : ℕ) → slice_get names i ≡ Some name → ⊥) → (found ≡ None) × ((i : ℕ) → slice_get (other ∷ names) i ≡ Some name → ⊥)
    by true is w = let none = w.0 in cc
    by false is w = (w.0, others)
      where
        others : (i : ℕ) → slice_get (other ∷ names) i ≡ Some name → ⊥
        others zero h = false≢true (sym is ∙ eq-eqb other name (some_same h))
        others (suc i) h = w.1 i h

-- the names that came one after another
names_folded : (params : List ParamTree) (names : Names Bool) → names_in (fold (λ names param. with_name names param.name param.atomic) names params) ≡ names_in names ++ map (λ (param : ParamTree). param.name) params
names_folded [] names = sym (append-nil (names_in names))
names_folded (param ∷ params) names = names_folded params (with_name names param.name param.atomic) ∙ append_assoc (names_in names) (param.name ∷ []) (map (λ (param : ParamTree). param.name) params)

-- whether region parameters are atomic, in the text and in rows
pub rows_atomic : (params : List ParamTree) → map (λ (param : ParamRow). param.atomic) (map param_row params) ≡ map (λ (param : ParamTree). param.atomic) params
rows_atomic [] = refl
rows_atomic (param ∷ params) = ap (λ z. param.atomic ∷ z) (rows_atomic params)

abbrev names_of : List ParamTree → List ℕ
names_of params = map (λ param. param.name) params

-- what is around a signature: the region parameters of a class, and of a method
pub record Signed (scope : PlainScope) (class own : List ParamTree) : Type 0 where
  pub class_params : params_in scope.headers scope.class ≡ map param_row class
  pub own_params : scope.params ≡ param_names own
  pub few : length class + length own ≤ 4294967295
  pub regions : scope.regions ≡ no_names
  pub barred : (name slot : ℕ) → value_in scope.variables name ≡ Some (Some slot) → ⊥

module _ (scope : PlainScope) (class own : List ParamTree) (s : Signed scope class own)
  where
    class_found : (name : ℕ) → param_of scope.headers scope.class name ≡ last_place (λ (param : ParamRow). param.name == name) 0 (map param_row class) None
    class_found name = by (slice_get scope.headers.rows scope.class) ∙ ap (λ ps. last_place (λ (param : ParamRow). param.name == name) 0 ps None) s.class_params
      where
        by : (o : Option Header) → option_and_then (λ (header : Header). last_place (λ param. param.name == name) 0 header.params None) o ≡ last_place (λ (param : ParamRow). param.name == name) 0 (option_map_or (λ (header : Header). header.params) o []) None
        by None = refl
        by (Some header) = refl

    own_found : (name : ℕ) → place_in scope.params name ≡ last_from 0 None (names_of own) name
    own_found name = ap (λ (names : Names Bool). place_in names name) s.own_params ∙ ap (λ names. last_from 0 None names name) (names_folded own no_names)

    values : values_in scope.params ≡ map (λ (param : ParamTree). param.atomic) own
    values = ap (λ (names : Names Bool). values_in names) s.own_params ∙ param_values own

    many : length (params_in scope.headers scope.class) ≡ length class
    many = ap length s.class_params ∙ length-map class param_row

    param_is : (name : ℕ) (found : ParamFound) → param_meant scope name ≡ Some found → slice_get (names_of class ++ names_of own) found.number ≡ Some name
    param_is name found e = by (param_of scope.headers scope.class name) refl e
      where
        ps : List ParamRow
        ps = params_in scope.headers scope.class

        by : (o : Option ℕ) → param_of scope.headers scope.class name ≡ o → option_map_or (λ number. Some (class_param ps number)) o (method_param scope name) ≡ Some found → slice_get (names_of class ++ names_of own) found.number ≡ Some name
        by (Some n) is h =
            elim (last_param (λ (param : ParamRow). param.name == name) 0 (map param_row class) None n (sym (class_found name) ∙ is)) [
              | inl none ↦ absurd (none-some n none)
              | inr w ↦
                  let p = map_there param_row (slice_get class w.0) w.1 (sym (slice_get-map param_row class w.0) ∙ w.2) in
                  let l = slice_get_within class w.0 p.0 p.1 in
                  let small = s.few in
                  let number : found.number ≡ w.0 = (let same = ap (λ (f : ParamFound). f.number) (some_same h) in let at = w.4 in omega (arith, same, at, l, small)) in
                  let called : p.0.name ≡ name = ap (λ (r : ParamRow). r.name) p.2 ∙ eqb-true w.1.name name w.3 in
                  subst (λ k. slice_get (names_of class ++ names_of own) k ≡ Some name) (sym number)
                  (got_first (names_of class) (names_of own) w.0 name (got_mapped (λ (param : ParamTree). param.name) class w.0 p.0 p.1 ∙ ap Some called))
            ]
        by None is h =
            let w = and_then_there (λ place. after_class ps (values_in scope.params) place) (place_in scope.params name) found h in
            let v = map_there (λ (atomic : Bool). record { number = as_number (length ps + w.0); atomic = atomic }) (slice_get (values_in scope.params) w.0) found w.2 in
            elim (last_named 0 None (names_of own) name w.0 (sym (own_found name) ∙ w.1)) [
              | inl none ↦ absurd (none-some w.0 none)
              | inr o ↦
                  let l = slice_get_within (names_of own) o.0 name o.2 in
                  let long = length-map own (λ (param : ParamTree). param.name) in
                  let first = length-map class (λ (param : ParamTree). param.name) in
                  let small = s.few in
                  let all = many in
                  let number : found.number ≡ length (names_of class) + o.0 = (let same = ap (λ (f : ParamFound). f.number) v.2 in let at = o.1 in omega (arith, same, at, l, long, first, small, all)) in
                  got_later (names_of class) (names_of own) found.number o.0 name number o.2
            ]

    none_is : (name p : ℕ) → param_meant scope name ≡ None → slice_get (names_of class ++ names_of own) p ≡ Some name → ⊥
    none_is name p e at = by (param_of scope.headers scope.class name) refl e
      where
        ps : List ParamRow
        ps = params_in scope.headers scope.class

        none_own : (j : ℕ) → method_param scope name ≡ None → slice_get (names_of own) j ≡ Some name → ⊥
        none_own j none h = of (place_in scope.params name) refl none
          where
            of : (o : Option ℕ) → place_in scope.params name ≡ o → option_and_then (λ place. after_class ps (values_in scope.params) place) o ≡ None → ⊥
            of None is none = (no_name 0 None (names_of own) name (sym (own_found name) ∙ is)).1 j h
            of (Some place) is none =
                elim (last_named 0 None (names_of own) name place (sym (own_found name) ∙ is)) [
                  | inl nothing ↦ none-some place nothing
                  | inr o ↦
                      let l = slice_get_within (names_of own) o.0 name o.2 in
                      let long = length-map own (λ (param : ParamTree). param.name) in
                      let all = ap length values ∙ length-map own (λ (param : ParamTree). param.atomic) in
                      let at = o.1 in
                      let v = there (values_in scope.params) place (omega (arith, l, long, all, at)) in
                      none-some _ (sym none ∙ ap (option_map (λ (atomic : Bool). record { number = as_number (length ps + place); atomic = atomic })) v.1)
                ]

        by : (o : Option ℕ) → param_of scope.headers scope.class name ≡ o → option_map_or (λ number. Some (class_param ps number)) o (method_param scope name) ≡ None → ⊥
        by (Some n) is h = cc
        by None is h =
            elim (got_either (names_of class) (names_of own) p name at) [
              | inl here ↦
                  let q = map_there (λ (param : ParamTree). param.name) (slice_get class p) name (sym (slice_get-map (λ (param : ParamTree). param.name) class p) ∙ here) in
                  (no_param (λ (param : ParamRow). param.name == name) 0 (map param_row class) None (sym (class_found name) ∙ is)).1 p (param_row q.0) (got_mapped param_row class p q.0 q.1) (eq-eqb q.0.name name q.2)
              | inr later ↦ none_own later.0 h later.2
            ]

    -- what is known there, where these are the names of region parameters
    pub signed_known : (A : Around) → HeadersTell A.tree A.typed scope.headers → A.class ≡ scope.class → A.params ≡ names_of class ++ names_of own → A.regions ≡ [] → KnowsPaths A scope
    signed_known A told of_class params regions = record {
      told = told;
      of_class = of_class;
      params = λ name found e. ap (λ ps. slice_get ps found.number) params ∙ param_is name found e;
      no_param = λ name p e h. none_is name p e (ap (λ ps. slice_get ps p) (sym params) ∙ h);
      regions = λ name. ap (λ (names : Names ℕ). value_in names name) s.regions ∙ ap (λ rs. beside rs name) (sym regions);
      indices = λ name slot e. absurd (s.barred name slot e);
    }

-- formals are locals, of which none stands in an index
pub with_formals_known : (formals : List Formal) (x : ℕ) (A : Around) (scope : PlainScope) → ((name slot : ℕ) → value_in scope.variables name ≡ Some (Some slot) → ⊥) → KnowsPaths A scope → KnowsPaths (with_formals x formals A) scope
with_formals_known [] x A scope barred knows = knows
with_formals_known (formal ∷ formals) x A scope barred knows =
    with_formals_known formals (suc x) (with_local formal.name x A) scope barred (record {
      told = knows.told;
      of_class = knows.of_class;
      params = knows.params;
      no_param = knows.no_param;
      regions = knows.regions;
      indices = λ name slot e. absurd (barred name slot e);
    })
