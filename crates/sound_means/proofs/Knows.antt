-- What is known around a place of a body, and how it is kept: after a declaration, a part, a local region, and where what was
-- declared goes out of scope.
use Rattle.std.proofs.Common.{◌≡◌, ◌∙◌, ◌⊎◌, ℕ, suc, ◌+◌, ◌<◌, ◌==◌, ◌&&◌, Bool, true, false, cond, List, [], ◌∷◌, ◌++◌, length, slice_get, ⊎_elim, Option, Some, None, option_and_then, refl, sym, ap, subst, arith}
use Rattle.lang_base.specs.declared.ty.Ty.{Ty}
use Rattle.lang_base.specs.Types.{plain_type}
use Rattle.syntax_tree.specs.declared.class.Formal.{Formal}
use Rattle.syntax_means.specs.Bodies.{FieldIn, IsLength, with_local}
use Rattle.syntax_means.specs.Declares.{method_name}
use Rattle.syntax_means.specs.Means.{with_formals}
use Rattle.syntax_means.specs.Paths.{Around, beside}
use Rattle.decl_resolve.specs.Names.{Names, last_from}
use Rattle.decl_resolve.specs.Scoped.{with_name, value_in}
use Rattle.decl_table.specs.declared.rows.FieldRow.{FieldRow}
use Rattle.decl_table.specs.declared.rows.MethodRow.{MethodRow}
use Rattle.decl_table.specs.Table.{field_of, method_of}
use Rattle.body_exprs.specs.declared.env.Env.{Env}
use Rattle.body_exprs.specs.declared.env.LocalRow.{LocalRow}
use Rattle.body_exprs.specs.Env.{table_of, scope_of, local_of, index_slot, is_length_name, local_row, part_row, with_row_in, with_part, with_region, has_room, local_declared, part_declared, region_declared}
use Rattle.body_exprs.specs.Env.{with_local as declared_local}
use Rattle.body_exprs.specs.Typed.{is_array, is_int}
use Rattle.body_check.specs.Methods.{formals_declared}
use Rattle.sound_lemmas.proofs.Lists.{some_same, got_first, got_later, and_then_there, there}
use Rattle.sound_bodies.specs.Seen.{InStep, Tells}
use Rattle.sound_bodies.proofs.scope.Declaring.{last_push, last_within, local_pushed, indices_reported, step_row}
use Rattle.sound_bodies.proofs.scope.Growing.{Kept, kept_step, step_region}
use Rattle.sound_means.proofs.Around.{KnowsPaths}
use Rattle.sound_means.proofs.Counting.{room_before}

-- what is around a place of a body for the checker is around it here; parts are of arrays
pub record Knows (A : Around) (env : Env) : Type 0 where
  pub paths : KnowsPaths A (scope_of env)
  pub step : InStep env
  pub locals : (name : ℕ) (row : LocalRow) → local_of env name ≡ Some row → beside A.locals name ≡ Some row.slot
  pub parts : (name : ℕ) (row : LocalRow) → local_of env name ≡ Some row → row.is_part ≡ true → is_array (plain_type row.ty) ≡ true
  -- what the table tells of names
  pub spelled : (name : ℕ) → is_length_name env name ≡ true → IsLength A name
  pub fields : (class name : ℕ) (row : FieldRow) → field_of (table_of env) class name ≡ Some row → FieldIn A name class row.slot
  pub methods : (class name : ℕ) (row : MethodRow) → method_of (table_of env) class name ≡ Some row → method_name A.tree row.id ≡ Some name
  pub nd_free : ℕ → Bool
  pub tells : Tells A.typed (table_of env) nd_free

-- where nothing else is in scope
pub knows_kept : (A : Around) (a b : Env) → Kept a b → Knows A a → Knows A b
knows_kept A a b kept k = record {
  paths = subst (λ (z : Env). KnowsPaths A (scope_of z)) (sym kept.is) k.paths;
  step = kept_step a b kept k.step;
  locals = λ name row h. k.locals name row (sym (ap (λ (z : Env). local_of z name) kept.is) ∙ h);
  parts = λ name row h. k.parts name row (sym (ap (λ (z : Env). local_of z name) kept.is) ∙ h);
  spelled = λ name h. k.spelled name (sym (ap (λ (z : Env). is_length_name z name) kept.is) ∙ h);
  fields = λ class name row h. k.fields class name row (sym (ap (λ (z : Env). field_of (table_of z) class name) kept.is) ∙ h);
  methods = λ class name row h. k.methods class name row (sym (ap (λ (z : Env). method_of (table_of z) class name) kept.is) ∙ h);
  nd_free = k.nd_free;
  tells = subst (λ (z : Env). Tells A.typed (table_of z) k.nd_free) (sym kept.is) k.tells;
}

-- the locals that may stand in an index are among the locals
indices_of : (locals : List (ℕ × ℕ)) (env : Env) → InStep env → ((name : ℕ) (row : LocalRow) → local_of env name ≡ Some row → beside locals name ≡ Some row.slot) →
    (name slot : ℕ) → value_in env.variables name ≡ Some (Some slot) → beside locals name ≡ Some slot
indices_of locals env step all name slot h =
    let w = and_then_there index_slot (local_of env name) slot (sym (indices_reported env step name) ∙ ap (option_and_then (λ variable. variable)) h) in
    all name w.0 w.1 ∙ ap Some (by w.0 (w.0.is_final && is_int (plain_type w.0.ty)) w.2)
  where
    by : (row : LocalRow) (b : Bool) → cond b (Some row.slot) None ≡ Some slot → row.slot ≡ slot
    by row true e = some_same e
    by row false e = cc

-- a further row, whose slot nothing had
pub knows_row : (A : Around) (env : Env) (row : LocalRow) (slots : ℕ) → row.slot ≡ env.slots → env.slots < slots → (row.is_part ≡ true → is_array (plain_type row.ty) ≡ true) → Knows A env →
    Knows (with_local row.name row.slot A) (record (with_row_in env row) { slots = slots })
knows_row A env row slots at more array_so k = record {
  paths = record {
    told = k.paths.told;
    of_class = k.paths.of_class;
    params = k.paths.params;
    no_param = k.paths.no_param;
    regions = k.paths.regions;
    indices = indices_of ((row.name, row.slot) ∷ A.locals) (record (with_row_in env row) { slots = slots }) step locals;
  };
  step = step;
  locals = locals;
  parts = λ n one h. part_at (row.name == n) n one (sym (local_pushed env row k.step n) ∙ h);
  spelled = k.spelled;
  fields = k.fields;
  methods = k.methods;
  nd_free = k.nd_free;
  tells = k.tells;
}
  where
    step : InStep (record (with_row_in env row) { slots = slots })
    step = step_row env row slots at more k.step

    local_at : (b : Bool) (n : ℕ) (one : LocalRow) → cond b (Some row) (local_of env n) ≡ Some one → cond b (Some row.slot) (beside A.locals n) ≡ Some one.slot
    local_at true n one h = ap (λ (z : LocalRow). Some z.slot) (some_same h)
    local_at false n one h = k.locals n one h

    locals : (n : ℕ) (one : LocalRow) → local_of (record (with_row_in env row) { slots = slots }) n ≡ Some one → beside ((row.name, row.slot) ∷ A.locals) n ≡ Some one.slot
    locals n one h = local_at (row.name == n) n one (sym (local_pushed env row k.step n) ∙ h)

    part_at : (b : Bool) (n : ℕ) (one : LocalRow) → cond b (Some row) (local_of env n) ≡ Some one → one.is_part ≡ true → is_array (plain_type one.ty) ≡ true
    part_at true n one h = subst (λ (z : LocalRow). z.is_part ≡ true → is_array (plain_type z.ty) ≡ true) (some_same h) array_so
    part_at false n one h = k.parts n one h

pub knows_local : (A : Around) (env : Env) (name : ℕ) (t : Ty) (is_final : Bool) → has_room env ≡ true → Knows A env → Knows (with_local name env.slots A) (local_declared env name t is_final)
knows_local A env name t is_final room k =
    subst (λ b. Knows (with_local name env.slots A) (cond b (declared_local env name t is_final) env)) (sym room)
    (knows_row A env (local_row env name t is_final) (env.slots + 1) refl (omega arith) (λ part. cc) k)

-- a part, which has four slots
pub knows_part : (A : Around) (env : Env) (name : ℕ) (t : Ty) → has_room env ≡ true → is_array (plain_type t) ≡ true → Knows A env → Knows (with_local name env.slots A) (part_declared env name t)
knows_part A env name t room array_so k =
    subst (λ b. Knows (with_local name env.slots A) (cond b (with_part env name t) env)) (sym room)
    (knows_row A env (part_row env name t) (env.slots + 4) refl (omega arith) (λ part. array_so) k)

-- the value of a name, with one name more
value_pushed : {T : Type 0} (names : Names T) → length names.names ≡ length names.values → (x : ℕ) (v : T) (n : ℕ) → value_in (with_name names x v) n ≡ cond (x == n) (Some v) (value_in names n)
value_pushed {T} names long x v n =
    ap (option_and_then (λ p. slice_get (names.values ++ v ∷ []) p)) (last_push 0 None names.names x n)
    ∙ by (x == n) (last_from 0 None names.names n) (λ p e. last_within 0 None names.names n p e)
  where
    old : (p : ℕ) → p < length names.values → slice_get (names.values ++ v ∷ []) p ≡ slice_get names.values p
    old p l = let w = there names.values p l in got_first names.values (v ∷ []) p w.0 w.1 ∙ sym w.1

    by : (b : Bool) (o : Option ℕ) → ((p : ℕ) → o ≡ Some p → (None ≡ Some p) ⊎ (p < 0 + length names.names)) →
        option_and_then (λ p. slice_get (names.values ++ v ∷ []) p) (cond b (Some (0 + length names.names)) o) ≡ cond b (Some v) (option_and_then (λ p. slice_get names.values p) o)
    by true o below =
        let at : 0 + length names.names ≡ length names.values + 0 = omega (arith, long) in
        got_later names.values (v ∷ []) (0 + length names.names) 0 v at refl
    by false None below = refl
    by false (Some p) below = old p (⊎_elim (λ none. absurd (no none)) (λ l. omega (arith, l, long)) (below p refl))
      where
        no : {p : ℕ} → None ≡ Some p → ⊥
        no e = cc

pub knows_region : (A : Around) (env : Env) (name : ℕ) → has_room env ≡ true → Knows A env → Knows (record A { regions = (name, env.declared) ∷ A.regions }) (region_declared env name)
knows_region A env name room k = subst (λ b. Knows (record A { regions = (name, env.declared) ∷ A.regions }) (cond b (with_region env name) env)) (sym room) (record {
  paths = record {
    told = k.paths.told;
    of_class = k.paths.of_class;
    params = k.paths.params;
    no_param = k.paths.no_param;
    regions = λ n. value_pushed env.regions k.step.regions name env.declared n ∙ ap (λ o. cond (name == n) (Some env.declared) o) (k.paths.regions n);
    indices = k.paths.indices;
  };
  step = subst (λ b. InStep (cond b (with_region env name) env)) room (step_region env name k.step);
  locals = k.locals;
  parts = k.parts;
  spelled = k.spelled;
  fields = k.fields;
  methods = k.methods;
  nd_free = k.nd_free;
  tells = k.tells;
})

-- the formals of a method
pub knows_formals : (A : Around) (env : Env) (x : ℕ) (formals : List Formal) (types : List Ty) → env.slots ≡ x → length formals ≡ length types → has_room (formals_declared env formals types) ≡ true → Knows A env →
    Knows (with_formals x formals A) (formals_declared env formals types)
knows_formals A env x [] [] at many room k = k
knows_formals A env x [] (t ∷ types) at many room k = absurd (omega (arith, many))
knows_formals A env x (formal ∷ formals) [] at many room k = absurd (omega (arith, many))
knows_formals A env x (formal ∷ formals) (t ∷ types) at many room k =
    let first = room_before env (formal ∷ formals) (t ∷ types) room in
    let on : env.slots + 1 ≡ suc x = omega (arith, at) in
    let slots = ap (λ b. (cond b (declared_local env formal.name t false) env).slots) first in
    knows_formals (with_local formal.name x A) (local_declared env formal.name t false) (suc x) formals types (slots ∙ on) (omega (arith, many)) room
    (subst (λ y. Knows (with_local formal.name y A) (local_declared env formal.name t false)) at (knows_local A env formal.name t false first k))
