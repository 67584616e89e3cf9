-- A local that is declared is in scope for the judgement too.
use Rattle.std.proofs.Common.{◌≡◌, ◌∙◌, ◌⊎◌, ◌<◌, ◌+◌, ◌==◌, ℕ, suc, Bool, true, false, cond, List, [], ◌∷◌, ◌++◌, map, length, slice_get, inl, inr, ⊎_elim, Option, Some, None, option_map, option_and_then, refl, sym, ap, subst, arith}
use Rattle.std.proofs.lemmas.Bool.{eqb-true, eq-eqb, ne_eqb}
use Rattle.std.proofs.lemmas.Option.{slice_get-map}
use Rattle.lang_base.specs.declared.ty.Ty.{Ty}
use Rattle.lang_base.specs.Types.{plain_type}
use Rattle.decl_resolve.specs.Names.{last_from}
use Rattle.lang_typed.specs.Plain.{PlainProgram}
use Rattle.lang_typed.specs.Scope.{Scope}
use Rattle.lang_typed.specs.Scope.{with_local as in_scope}
use Rattle.lang_typed.specs.Statements.{declared_as}
use Rattle.body_exprs.specs.declared.env.Env.{Env}
use Rattle.body_exprs.specs.declared.env.LocalRow.{LocalRow}
use Rattle.body_exprs.specs.Env.{local_of, index_slot, index_variable_of, local_row, with_row_in, with_local}
use Rattle.sound_lemmas.proofs.Lists.{some_same, got_first, got_later, there}
use Rattle.sound_bodies.specs.Seen.{can_stand, RowIs, Sees, InStep}

-- the last of a name, with one name more after
pub last_push : (at : ℕ) (found : Option ℕ) (xs : List ℕ) (x n : ℕ) → last_from at found (xs ++ x ∷ []) n ≡ cond (x == n) (Some (at + length xs)) (last_from at found xs n)
last_push at found [] x n = let same : at ≡ at + 0 = omega arith in ap (λ z. cond (x == n) (Some z) found) same
last_push at found (y ∷ xs) x n =
    let same : suc at + length xs ≡ at + suc (length xs) = omega arith in
    last_push (suc at) (cond (y == n) (Some at) found) xs x n ∙ ap (λ z. cond (x == n) (Some z) (last_from (suc at) (cond (y == n) (Some at) found) xs n)) same

pub last_within : (at : ℕ) (found : Option ℕ) (xs : List ℕ) (n p : ℕ) → last_from at found xs n ≡ Some p → (found ≡ Some p) ⊎ (p < at + length xs)
last_within at found [] n p h = inl h
last_within at found (y ∷ xs) n p h = ⊎_elim (λ e. by (y == n) e) (λ l. inr (omega (arith, l))) (last_within (suc at) (cond (y == n) (Some at) found) xs n p h)
  where
    by : (b : Bool) → cond b (Some at) found ≡ Some p → (found ≡ Some p) ⊎ (p < at + suc (length xs))
    by true e = let same = some_same e in inr (omega (arith, same))
    by false e = inl e

mapped_push : {A B : Type 0} (f : A → B) (xs : List A) (x : A) → map f (xs ++ x ∷ []) ≡ map f xs ++ f x ∷ []
mapped_push f [] x = refl
mapped_push f (y ∷ xs) x = ap (λ z. f y ∷ z) (mapped_push f xs x)

length_mapped : {A B : Type 0} (f : A → B) (xs : List A) → length (map f xs) ≡ length xs
length_mapped f [] = refl
length_mapped f (x ∷ xs) = ap suc (length_mapped f xs)

-- the local of a name, with one row more
pub local_pushed : (env : Env) (row : LocalRow) → InStep env → (n : ℕ) → local_of (with_row_in env row) n ≡ cond (row.name == n) (Some row) (local_of env n)
local_pushed env row step n =
    ap (option_and_then (λ p. slice_get (env.rows ++ row ∷ []) p)) (last_push 0 None env.variables.names row.name n)
    ∙ by (row.name == n) (last_from 0 None env.variables.names n) (λ p e. last_within 0 None env.variables.names n p e)
  where
    long : length env.variables.names ≡ length env.rows
    long = ap length step.names ∙ length_mapped (λ (row : LocalRow). row.name) env.rows

    old : (p : ℕ) → p < length env.rows → slice_get (env.rows ++ row ∷ []) p ≡ slice_get env.rows p
    old p l = let w = there env.rows p l in got_first env.rows (row ∷ []) p w.0 w.1 ∙ sym w.1

    by : (b : Bool) (o : Option ℕ) → ((p : ℕ) → o ≡ Some p → (None ≡ Some p) ⊎ (p < 0 + length env.variables.names)) →
        option_and_then (λ p. slice_get (env.rows ++ row ∷ []) p) (cond b (Some (0 + length env.variables.names)) o) ≡ cond b (Some row) (option_and_then (λ p. slice_get env.rows p) o)
    by true o below =
        let at : 0 + length env.variables.names ≡ length env.rows + 0 = omega (arith, long) in
        got_later env.rows (row ∷ []) (0 + length env.variables.names) 0 row at refl
    by false None below = refl
    by false (Some p) below = old p (⊎_elim (λ none. absurd (no none)) (λ l. omega (arith, l, long)) (below p refl))
      where
        no : {p : ℕ} → None ≡ Some p → ⊥
        no e = cc

-- which of them may stand in an index
pub indices_reported : (env : Env) → InStep env → (n : ℕ) → index_variable_of env n ≡ option_and_then index_slot (local_of env n)
indices_reported env step n = by (last_from 0 None env.variables.names n)
  where
    flat : (o : Option LocalRow) → option_and_then (λ variable. variable) (option_map index_slot o) ≡ option_and_then index_slot o
    flat None = refl
    flat (Some row) = refl

    by : (o : Option ℕ) → option_and_then (λ variable. variable) (option_and_then (λ p. slice_get env.variables.values p) o) ≡ option_and_then index_slot (option_and_then (λ p. slice_get env.rows p) o)
    by None = refl
    by (Some p) = ap (λ vs. option_and_then (λ variable. variable) (slice_get vs p)) step.values ∙ ap (option_and_then (λ variable. variable)) (slice_get-map index_slot env.rows p) ∙ flat (slice_get env.rows p)

-- with one row more, in a slot that nothing had, they stand so
pub step_row : (env : Env) (row : LocalRow) (slots : ℕ) → row.slot ≡ env.slots → env.slots < slots → InStep env → InStep (record (with_row_in env row) { slots = slots })
step_row env row slots at more step = record {
  names = ap (λ z. z ++ row.name ∷ []) step.names ∙ sym (mapped_push (λ (row : LocalRow). row.name) env.rows row);
  values = ap (λ z. z ++ index_slot row ∷ []) step.values ∙ sym (mapped_push index_slot env.rows row);
  some_slot = omega (arith, more);
  slots = λ n one h. by (row.name == n) n one (sym (local_pushed env row step n) ∙ h);
  apart = λ x y one other h k same. apart_by (row.name == x) (row.name == y) x y one other refl refl (sym (local_pushed env row step x) ∙ h) (sym (local_pushed env row step y) ∙ k) same;
  regions = step.regions;
}
  where
    by : (b : Bool) (n : ℕ) (one : LocalRow) → cond b (Some row) (local_of env n) ≡ Some one → one.slot < slots
    by true n one h = let same = ap (λ (r : LocalRow). r.slot) (some_same h) in omega (arith, same, at, more)
    by false n one h = let l = step.slots n one h in omega (arith, l, more)

    apart_by : (b c : Bool) (x y : ℕ) (one other : LocalRow) → (row.name == x) ≡ b → (row.name == y) ≡ c → cond b (Some row) (local_of env x) ≡ Some one → cond c (Some row) (local_of env y) ≡ Some other →
        one.slot ≡ other.slot → x ≡ y
    apart_by true true x y one other p q h k same = sym (eqb-true row.name x p) ∙ eqb-true row.name y q
    apart_by true false x y one other p q h k same =
        let new = ap (λ (r : LocalRow). r.slot) (some_same h) in
        let l = step.slots y other k in absurd (omega (arith, new, l, same, at))
    apart_by false true x y one other p q h k same =
        let new = ap (λ (r : LocalRow). r.slot) (some_same k) in
        let l = step.slots x one h in absurd (omega (arith, new, l, same, at))
    apart_by false false x y one other p q h k same = step.apart x y one other h k same

pub step_declared : (env : Env) (name : ℕ) (t : Ty) (is_final : Bool) → InStep env → InStep (with_local env name t is_final)
step_declared env name t is_final step = step_row env (local_row env name t is_final) (env.slots + 1) refl (omega arith) step

module _ (P : PlainProgram) (L : Scope) (env : Env) (may_read may_assign : ℕ → Bool) (sees : Sees P L env may_read may_assign) (step : InStep env) (name : ℕ) (t : Ty) (is_final : Bool)
    (stands : is_final ≡ false → can_stand (plain_type t) ≡ true)
  where
    abbrev M : Scope
    M = in_scope env.slots (declared_as is_final (plain_type t)) L

    abbrev row : LocalRow
    row = local_row env name t is_final

    kept : (x : ℕ) → x < env.slots → M.local x ≡ L.local x
    kept x l = ap (λ b. cond b (Some (declared_as is_final (plain_type t))) (L.local x)) (ne_eqb x env.slots (λ e. omega (arith, l, e)))

    new : M.local env.slots ≡ Some (declared_as is_final (plain_type t))
    new = ap (λ b. cond b (Some (declared_as is_final (plain_type t))) (L.local env.slots)) (eq-eqb env.slots env.slots refl)

    new_is : (r a : Bool) → RowIs r a row (Some (declared_as is_final (plain_type t)))
    new_is r a = by is_final refl
      where
        by : (f : Bool) → is_final ≡ f → RowIs r a row (Some (declared_as f (plain_type t)))
        by true f = RowIs.is_constant refl f
        by false f = RowIs.is_variable refl f

    pub sees_declared : Sees P M (with_local env name t is_final) may_read may_assign
    sees_declared = record {
      given = sees.given;
      supers = sees.supers;
      self = kept 0 step.some_slot ∙ sees.self;
      locals = λ n one h. local_at (name == n) n one (sym (local_pushed env row step n) ∙ h);
      declared = λ n one h final. declared_at (name == n) n one (sym (local_pushed env row step n) ∙ h) final;
      indices = indices_reported (with_local env name t is_final) (step_declared env name t is_final step);
      params = sees.params;
      regions = sees.regions;
    }
      where
        local_at : (b : Bool) (n : ℕ) (one : LocalRow) → cond b (Some row) (local_of env n) ≡ Some one → RowIs (may_read n) (may_assign n) one (M.local one.slot)
        local_at true n one h = subst (λ (z : LocalRow). RowIs (may_read n) (may_assign n) z (M.local z.slot)) (some_same h) (subst (RowIs (may_read n) (may_assign n) row) (sym new) (new_is (may_read n) (may_assign n)))
        local_at false n one h = subst (RowIs (may_read n) (may_assign n) one) (sym (kept one.slot (step.slots n one h))) (sees.locals n one h)

        declared_at : (b : Bool) (n : ℕ) (one : LocalRow) → cond b (Some row) (local_of env n) ≡ Some one → one.is_final ≡ false → can_stand (plain_type one.ty) ≡ true
        declared_at true n one h final = subst (λ (z : LocalRow). can_stand (plain_type z.ty) ≡ true) (some_same h) (stands (ap (λ (z : LocalRow). z.is_final) (some_same h) ∙ final))
        declared_at false n one h final = sees.declared n one h final
