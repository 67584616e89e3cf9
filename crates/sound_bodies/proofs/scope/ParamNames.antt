-- The region parameters around a member: what their names mean, and as what paths its class has its own.
use Rattle.std.proofs.Common.{◌≡◌, ◌∙◌, ◌⊎◌, ◌<◌, ◌≤◌, ◌+◌, ◌==◌, ℕ, zero, suc, Bool, true, false, cond, List, [], ◌∷◌, ◌++◌, fold, map, length, slice_get, slice_index_or, inl, inr, Option, Some, None, option_map, option_and_then, refl, sym, ap, subst, arith}
use Rattle.std.proofs.lemmas.List.{append-nil, append_assoc, length-append, length-map}
use Rattle.std.proofs.lemmas.Option.{slice_get_within}
use Rattle.std.specs.Option.{option_map_or}
use Rattle.lang_base.specs.declared.region.Head.TheVariants.{Param}
use Rattle.decl_headers.specs.declared.header.Header.{Header}
use Rattle.decl_headers.specs.declared.header.ParamRow.{ParamRow}
use Rattle.decl_headers.specs.Headers.{param_of}
use Rattle.decl_headers.specs.Numbers.{as_number, last_place}
use Rattle.decl_resolve.specs.declared.scope.ParamFound.{ParamFound}
use Rattle.decl_resolve.specs.Classes.{params_in}
use Rattle.decl_resolve.specs.Names.{Names}
use Rattle.decl_resolve.specs.Scoped.{with_name, value_in, values_in, place_in}
use Rattle.decl_resolve.specs.Scopes.{PlainScope, is_atomic_at, class_param, after_class, method_param, param_meant}
use Rattle.lang_typed.specs.Table.{params_from}
use Rattle.body_exprs.specs.Env.{param_paths}
use Rattle.sound_lemmas.proofs.Lists.{some_same, and_then_there}

-- the values of names that came one after another
pub values_folded : {A T : Type 0} (name : A → ℕ) (value : A → T) (names : Names T) (xs : List A) → (fold (λ names x. with_name names (name x) (value x)) names xs).values ≡ names.values ++ map value xs
values_folded name value names [] = sym (append-nil names.values)
values_folded name value names (x ∷ xs) = values_folded name value (with_name names (name x) (value x)) xs ∙ append_assoc names.values (value x ∷ []) (map value xs)

-- where all values are the same, each name means that one
mapped_same : {A T : Type 0} (v : T) (xs : List A) (i : ℕ) (x : T) → slice_get (map (λ y. v) xs) i ≡ Some x → x ≡ v
mapped_same v [] i x e = cc
mapped_same v (y ∷ xs) zero x e = sym (some_same e)
mapped_same v (y ∷ xs) (suc i) x e = mapped_same v xs i x e

pub value_same : {A T : Type 0} (v : T) (names : Names T) (xs : List A) → names.values ≡ map (λ y. v) xs → (name : ℕ) (x : T) → value_in names name ≡ Some x → x ≡ v
value_same v names xs are name x e =
    let w = and_then_there (λ place. slice_get names.values place) (place_in names name) x e in
    mapped_same v xs w.0 x (ap (λ vs. slice_get vs w.0) (sym are) ∙ w.2)

-- the last that passes a test is there
last_within : {A : Type 0} (test : A → Bool) (at : ℕ) (found : Option ℕ) (xs : List A) (k : ℕ) → last_place test at xs found ≡ Some k → (found ≡ Some k) ⊎ (k < at + length xs)
last_within test at found [] k e = inl e
last_within test at found (x ∷ xs) k e =
    elim (last_within test (at + 1) (cond (test x) (Some (as_number at)) found) xs k e) [
      | inl now ↦ by (test x) now
      | inr l ↦ inr (omega (arith, l))
    ]
  where
    by : (b : Bool) → cond b (Some (as_number at)) found ≡ Some k → (found ≡ Some k) ⊎ (k < at + suc (length xs))
    by true now = let same = some_same now in inr (omega (arith, same))
    by false now = inl now

-- what a list says of a parameter of the class, and of one of the method after those
atomic_first : (ps : List ParamRow) (own : List Bool) (i : ℕ) → i < length ps → slice_index_or (map (λ param. param.atomic) ps ++ own) i false ≡ is_atomic_at ps i
atomic_first [] own i l = absurd (omega (arith, l))
atomic_first (p ∷ ps) own zero l = refl
atomic_first (p ∷ ps) own (suc i) l = atomic_first ps own i (omega (arith, l))

atomic_got : (own : List Bool) (i : ℕ) (a : Bool) → slice_get own i ≡ Some a → slice_index_or own i false ≡ a
atomic_got [] i a e = cc
atomic_got (b ∷ own) zero a e = some_same e
atomic_got (b ∷ own) (suc i) a e = atomic_got own i a e

atomic_later : (ps : List ParamRow) (own : List Bool) (i k : ℕ) (a : Bool) → k ≡ length ps + i → slice_get own i ≡ Some a → slice_index_or (map (λ param. param.atomic) ps ++ own) k false ≡ a
atomic_later [] own i k a at e = let same : i ≡ k = omega (arith, at) in subst (λ z. slice_index_or own z false ≡ a) same (atomic_got own i a e)
atomic_later (p ∷ ps) own i zero a at e = absurd (omega (arith, at))
atomic_later (p ∷ ps) own i (suc k) a at e = atomic_later ps own i k a (omega (arith, at)) e

-- a name of a region parameter means one that is there, and is told to be atomic or not
pub param_reported : (scope : PlainScope) (own : List Bool) → values_in scope.params ≡ own → length (params_in scope.headers scope.class) + length own ≤ 4294967295 → (name : ℕ) (param : ParamFound) →
    param_meant scope name ≡ Some param →
    (param.number < length (map (λ param. param.atomic) (params_in scope.headers scope.class) ++ own))
    × (slice_index_or (map (λ param. param.atomic) (params_in scope.headers scope.class) ++ own) param.number false ≡ param.atomic)
param_reported scope own are few name param is = by (param_of scope.headers scope.class name) refl is
  where
    ps : List ParamRow
    ps = params_in scope.headers scope.class

    long : length (map (λ param. param.atomic) ps ++ own) ≡ length ps + length own
    long = length-append (map (λ param. param.atomic) ps) own ∙ ap (λ k. k + length own) (length-map ps (λ (p : ParamRow). p.atomic))

    Reported : ParamFound → Type 0
    Reported p = (p.number < length (map (λ param. param.atomic) ps ++ own)) × (slice_index_or (map (λ param. param.atomic) ps ++ own) p.number false ≡ p.atomic)

    within : (o : Option Header) (number : ℕ) → option_and_then (λ header. last_place (λ param. param.name == name) 0 header.params None) o ≡ Some number →
        number < length (option_map_or (λ (header : Header). header.params) o [])
    within None number e = cc
    within (Some header) number e =
        elim (last_within (λ param. param.name == name) 0 None header.params number e) [
          | inl none ↦ cc
          | inr l ↦ omega (arith, l)
        ]

    following : (place : ℕ) (o : Option Bool) → slice_get own place ≡ o → option_map (λ atomic. record { number = as_number (length ps + place); atomic = atomic }) o ≡ Some param → Reported param
    following place None there e = cc
    following place (Some a) there e =
        let l = slice_get_within own place a there in
        let at : as_number (length ps + place) ≡ length ps + place = omega (arith, l, few) in
        subst Reported (some_same e) (omega (arith, at, l, long), atomic_later ps own place (as_number (length ps + place)) a at there)

    by : (o : Option ℕ) → param_of scope.headers scope.class name ≡ o → option_map_or (λ number. Some (class_param ps number)) o (method_param scope name) ≡ Some param → Reported param
    by (Some number) found e =
        let l = within (slice_get scope.headers.rows scope.class) number found in
        subst Reported (some_same e) (omega (arith, l, long), atomic_first ps own number l)
    by None found e =
        let w = and_then_there (λ place. after_class ps (values_in scope.params) place) (place_in scope.params name) param e in
        following w.0 (slice_get own w.0) refl (ap (λ vs. after_class ps vs w.0) (sym are) ∙ w.2)

-- the parameters of a class as paths, counted from either end
params_after : (p n : ℕ) → params_from p (suc n) ≡ params_from p n ++ record { head = Param (p + n); elems = [] } ∷ []
params_after p zero = let same : p ≡ p + 0 = omega arith in ap (λ k. record { head = Param k; elems = [] } ∷ []) same
params_after p (suc n) =
    let same : suc p + n ≡ p + suc n = omega arith in
    ap (λ rest. record { head = Param p; elems = [] } ∷ rest) (params_after (suc p) n ∙ ap (λ k. params_from (suc p) n ++ record { head = Param k; elems = [] } ∷ []) same)

pub paths_same : (n : ℕ) → n ≤ 4294967295 → param_paths n ≡ params_from 0 n
paths_same zero few = refl
paths_same (suc n) few =
    let number : as_number n ≡ 0 + n = omega (arith, few) in
    ap (λ rest. rest ++ record { head = Param (as_number n); elems = [] } ∷ []) (paths_same n (omega (arith, few)))
    ∙ ap (λ k. params_from 0 n ++ record { head = Param k; elems = [] } ∷ []) number ∙ sym (params_after 0 n)
