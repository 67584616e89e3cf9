-- The formals of a method come into scope: what is around a body after them is what is in scope there from the begin.
use Rattle.std.proofs.Common.{◌≡◌, ◌∙◌, ◌+◌, ◌==◌, ℕ, suc, Bool, true, false, cond, List, [], ◌∷◌, length, slice_get, Some, refl, sym, ap, subst, arith}
use Rattle.lang_base.specs.declared.ty.Ty.{Ty}
use Rattle.lang_base.specs.Types.{plain_type}
use Rattle.syntax_tree.specs.declared.class.Formal.{Formal}
use Rattle.lang_typed.specs.Plain.{PlainProgram}
use Rattle.lang_typed.specs.Scope.{Scope, variable}
use Rattle.body_exprs.specs.declared.env.Env.{Env}
use Rattle.body_exprs.specs.declared.env.LocalRow.{LocalRow}
use Rattle.body_exprs.specs.Env.{table_of, local_of, local_row, with_local, has_room, local_declared}
use Rattle.body_check.specs.declared.node.Around.{Around}
use Rattle.body_check.specs.Methods.{formals_declared}
use Rattle.sound_lemmas.proofs.Lists.{some_same}
use Rattle.sound_bodies.specs.Seen.{can_stand, AllStand, RowIs, Tells, Sees, InStep, Returns}
use Rattle.sound_bodies.proofs.scope.Declaring.{local_pushed, indices_reported, step_declared}

-- what is asked of a place of which the scope may hold more than is around it
pub record Entered (P : PlainProgram) (L : Scope) (env : Env) (around : Around) (reads assigns : ℕ → Bool) : Type 0 where
  pub tells : Tells P (table_of env) L.member_nd_free
  pub sees : Sees P L env reads assigns
  pub step : InStep env
  pub returns : Returns L env around

-- there was room before there was a further local
room_before : (env : Env) (formals : List Formal) (types : List Ty) → has_room (formals_declared env formals types) ≡ true → has_room env ≡ true
room_before env [] types room = room
room_before env (formal ∷ formals) [] room = room
room_before env (formal ∷ formals) (t ∷ types) room = by (has_room env) refl (room_before (local_declared env formal.name t false) formals types room)
  where
    by : (b : Bool) → has_room env ≡ b → has_room (cond b (with_local env formal.name t false) env) ≡ true → has_room env ≡ true
    by true is h = is
    by false is h = h

module _ (P : PlainProgram) (L : Scope) (around : Around) (reads assigns : ℕ → Bool)
  where
    -- a formal, which the scope has in the next slot
    entered_local : (env : Env) (name : ℕ) (t : Ty) → L.local env.slots ≡ Some (variable (plain_type t)) → can_stand (plain_type t) ≡ true → Entered P L env around reads assigns → Entered P L (with_local env name t false) around reads assigns
    entered_local env name t there stands entered = record {
      tells = entered.tells;
      sees = record {
        given = entered.sees.given;
        supers = entered.sees.supers;
        self = entered.sees.self;
        locals = λ n one h. local_at (name == n) n one (sym (local_pushed env row entered.step n) ∙ h);
        declared = λ n one h final. declared_at (name == n) n one (sym (local_pushed env row entered.step n) ∙ h) final;
        indices = indices_reported (with_local env name t false) (step_declared env name t false entered.step);
        params = entered.sees.params;
        regions = entered.sees.regions;
      };
      step = step_declared env name t false entered.step;
      returns = record { value = entered.returns.value; nothing = entered.returns.nothing };
    }
      where
        row : LocalRow
        row = local_row env name t false

        local_at : (b : Bool) (n : ℕ) (one : LocalRow) → cond b (Some row) (local_of env n) ≡ Some one → RowIs (reads n) (assigns n) one (L.local one.slot)
        local_at true n one h =
            subst (λ (z : LocalRow). RowIs (reads n) (assigns n) z (L.local z.slot)) (some_same h) (subst (RowIs (reads n) (assigns n) row) (sym there) (RowIs.is_variable refl refl))
        local_at false n one h = entered.sees.locals n one h

        declared_at : (b : Bool) (n : ℕ) (one : LocalRow) → cond b (Some row) (local_of env n) ≡ Some one → one.is_final ≡ false → can_stand (plain_type one.ty) ≡ true
        declared_at true n one h final = subst (λ (z : LocalRow). can_stand (plain_type z.ty) ≡ true) (some_same h) stands
        declared_at false n one h final = entered.sees.declared n one h final

    -- what is so after the formals, of which there are as many as types: each has its slot
    pub record Begun (env : Env) (slots : ℕ) : Type 0 where
      pub entered : Entered P L env around reads assigns
      pub slots_are : env.slots ≡ slots

    pub formals_entered : (env : Env) (formals : List Formal) (types : List Ty) → length formals ≡ length types → AllStand types →
        ((i : ℕ) (t : Ty) → slice_get types i ≡ Some t → L.local (env.slots + i) ≡ Some (variable (plain_type t))) → has_room (formals_declared env formals types) ≡ true → Entered P L env around reads assigns →
        Begun (formals_declared env formals types) (env.slots + length types)
    formals_entered env [] [] many stand there room entered = record { entered = entered; slots_are = omega arith }
    formals_entered env [] (t ∷ types) many stand there room entered = absurd (omega (arith, many))
    formals_entered env (formal ∷ formals) [] many stand there room entered = absurd (omega (arith, many))
    formals_entered env (formal ∷ formals) (t ∷ types) many stand there room entered =
        let first = room_before env (formal ∷ formals) (t ∷ types) room in
        let first_slot : env.slots + 0 ≡ env.slots = omega arith in
        let next : local_declared env formal.name t false ≡ with_local env formal.name t false = ap (λ b. cond b (with_local env formal.name t false) env) first in
        let more = formals_entered (with_local env formal.name t false) formals types (omega (arith, many)) stand.1
        (λ i u e. (let on : env.slots + suc i ≡ env.slots + 1 + i = omega arith in subst (λ k. L.local k ≡ Some (variable (plain_type u))) on (there (suc i) u e)))
        (subst (λ z. has_room (formals_declared z formals types) ≡ true) next room)
        (entered_local env formal.name t (subst (λ k. L.local k ≡ Some (variable (plain_type t))) first_slot (there 0 t refl)) stand.0 entered) in
        let all : env.slots + 1 + length types ≡ env.slots + suc (length types) = omega arith in
        subst (Begun (formals_declared (local_declared env formal.name t false) formals types)) all
        (subst (λ z. Begun (formals_declared z formals types) (env.slots + 1 + length types)) (sym next) more)
