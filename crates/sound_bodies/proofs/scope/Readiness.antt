-- What is asked of a place in a body holds at the places after it and in its branches.
use Rattle.std.proofs.Common.{◌≡◌, ◌∙◌, ◌<◌, ◌≤◌, ◌==◌, ℕ, Bool, true, false, cond, IsTrue, List, Option, Some, None, option_map, refl, sym, ap, subst, arith}
use Rattle.std.proofs.lemmas.Bool.{eqb-true, eq-eqb, ne_eqb, false≢true}
use Rattle.lang_base.specs.Types.{plain_type}
use Rattle.lang_typed.specs.Plain.{PlainProgram}
use Rattle.lang_typed.specs.Scope.{Scope, read_alone, in_loop_branch, in_atomic_block}
use Rattle.lang_typed.specs.Scope.{with_local as in_scope}
use Rattle.lang_typed.specs.Scope.{Local as Slot}
use Rattle.body_exprs.specs.declared.env.Env.{Env}
use Rattle.body_exprs.specs.declared.env.LocalRow.{LocalRow}
use Rattle.body_exprs.specs.Env.{table_of, local_of, with_row_in}
use Rattle.body_check.specs.declared.node.Around.{Around}
use Rattle.body_check.specs.Around.{inside}
use Rattle.sound_lemmas.proofs.Lists.{some_same}
use Rattle.sound_bodies.specs.Naming.{IsIndex, IsRegion, SlotNames}
use Rattle.sound_bodies.specs.Ready.{Ready}
use Rattle.sound_bodies.specs.Seen.{can_stand, RowIs, Tells, Sees, Returns}
use Rattle.sound_bodies.proofs.scope.Declaring.{local_pushed, indices_reported, step_row}
use Rattle.sound_bodies.proofs.scope.Growing.{Kept, kept_step}
use Rattle.sound_bodies.proofs.scope.InScopeStatements.{locals_with, locals_loop, free_none}

-- of a piece that reads and assigns fewer
false_of : (a b : Bool) → (IsTrue a → IsTrue b) → b ≡ false → a ≡ false
false_of true b h f = absurd (false≢true (sym f ∙ h refl))
false_of false b h f = refl

pub row_less : (r a r' a' : Bool) (row : LocalRow) (o : Option Slot) → (IsTrue r' → IsTrue r) → (IsTrue a' → IsTrue a) → RowIs r a row o → RowIs r' a' row o
row_less r a r' a' row o reads assigns (RowIs.is_part p q same) = RowIs.is_part p q same
row_less r a r' a' row o reads assigns (RowIs.is_constant p g) = RowIs.is_constant p g
row_less r a r' a' row o reads assigns (RowIs.is_variable p g) = RowIs.is_variable p g
row_less r a r' a' row o reads assigns (RowIs.is_frozen p g u) = RowIs.is_frozen p g (false_of a' a assigns u)
row_less r a r' a' row o reads assigns (RowIs.is_reserved p g u v) = RowIs.is_reserved p g (false_of r' r reads u) (false_of a' a assigns v)

pub sees_less : (P : PlainProgram) (L : Scope) (env : Env) (r a r' a' : ℕ → Bool) → ((x : ℕ) → IsTrue (r' x) → IsTrue (r x)) → ((x : ℕ) → IsTrue (a' x) → IsTrue (a x)) → Sees P L env r a → Sees P L env r' a'
sees_less P L env r a r' a' reads assigns sees = record {
  given = sees.given;
  supers = sees.supers;
  self = sees.self;
  locals = λ name row h. row_less (r name) (a name) (r' name) (a' name) row (L.local row.slot) (reads name) (assigns name) (sees.locals name row h);
  declared = sees.declared;
  indices = sees.indices;
  params = sees.params;
  regions = sees.regions;
}

pub ready_less : (P : PlainProgram) (L : Scope) (env : Env) (params : List Bool) (around : Around) (r a r' a' : ℕ → Bool) → ((x : ℕ) → IsTrue (r' x) → IsTrue (r x)) → ((x : ℕ) → IsTrue (a' x) → IsTrue (a x)) →
    Ready P L env params around r a → Ready P L env params around r' a'
ready_less P L env params around r a r' a' reads assigns ready = record {
  tells = ready.tells;
  sees = sees_less P L env r a r' a' reads assigns ready.sees;
  step = ready.step;
  locals = ready.locals;
  below = ready.below;
  regions = ready.regions;
  returns = ready.returns;
  atomic = ready.atomic;
}

-- where more was declared that went out of scope
pub ready_kept : (P : PlainProgram) (L : Scope) (a b : Env) (params : List Bool) (around : Around) (reads assigns : ℕ → Bool) → Kept a b → Ready P L a params around reads assigns → Ready P L b params around reads assigns
ready_kept P L a b params around reads assigns kept ready = record {
  tells = subst (λ (z : Env). Tells P (table_of z) L.member_nd_free) (sym kept.is) ready.tells;
  sees = subst (λ z. Sees P L z reads assigns) (sym kept.is) (record {
    given = ready.sees.given;
    supers = ready.sees.supers;
    self = ready.sees.self;
    locals = ready.sees.locals;
    declared = ready.sees.declared;
    indices = ready.sees.indices;
    params = ready.sees.params;
    regions = ready.sees.regions;
  });
  step = kept_step a b kept ready.step;
  locals = ready.locals;
  below = λ x l h. (let k = ready.below x l h in let s = kept.slots in omega (arith, k, s));
  regions = λ r h. (let k = ready.regions r h in let s = kept.declared in omega (arith, k, s));
  returns = subst (λ z. Returns L z around) (sym kept.is) (record { value = ready.returns.value; nothing = ready.returns.nothing });
  atomic = ready.atomic;
}

-- in an atomic block
pub ready_atomic : (P : PlainProgram) (L : Scope) (env : Env) (params : List Bool) (around : Around) (reads assigns : ℕ → Bool) → Ready P L env params around reads assigns →
    Ready P (in_atomic_block L) env params (inside around) reads assigns
ready_atomic P L env params around reads assigns ready = record {
  tells = ready.tells;
  sees = record {
    given = ready.sees.given;
    supers = ready.sees.supers;
    self = ready.sees.self;
    locals = ready.sees.locals;
    declared = ready.sees.declared;
    indices = ready.sees.indices;
    params = ready.sees.params;
    regions = ready.sees.regions;
  };
  step = ready.step;
  locals = ready.locals;
  below = ready.below;
  regions = ready.regions;
  returns = record { value = λ e. absurd (false≢true (sym e)); nothing = λ e. absurd (false≢true (sym e)) };
  atomic = ready.atomic;
}

-- in a branch of a loop, which assigns no outer local

pub row_alone : (r a : Bool) (row : LocalRow) (o : Option Slot) → RowIs r a row o → RowIs r false row (option_map read_alone o)
row_alone r a row o (RowIs.is_part p q same) = RowIs.is_part p q same
row_alone r a row o (RowIs.is_constant p g) = RowIs.is_constant p g
row_alone r a row o (RowIs.is_variable p g) = RowIs.is_frozen p g refl
row_alone r a row o (RowIs.is_frozen p g u) = RowIs.is_frozen p g refl
row_alone r a row o (RowIs.is_reserved p g u v) = RowIs.is_reserved p g u refl

pub ready_loop : (P : PlainProgram) (L : Scope) (env : Env) (params : List Bool) (around : Around) (reads assigns : ℕ → Bool) → Ready P L env params around reads assigns →
    Ready P (in_loop_branch L) env params (inside around) reads (λ x. false)
ready_loop P L env params around reads assigns ready = record {
  tells = ready.tells;
  sees = record {
    given = ready.sees.given;
    supers = ready.sees.supers;
    self = ap (option_map read_alone) ready.sees.self;
    locals = λ name row h. row_alone (reads name) (assigns name) row (L.local row.slot) (ready.sees.locals name row h);
    declared = ready.sees.declared;
    indices = ready.sees.indices;
    params = ready.sees.params;
    regions = ready.sees.regions;
  };
  step = ready.step;
  locals = locals_loop L ready.locals;
  below = λ x l h. by x (L.local x) (ready.below x) l h;
  regions = ready.regions;
  returns = record { value = λ e. absurd (false≢true (sym e)); nothing = λ e. absurd (false≢true (sym e)) };
  atomic = ready.atomic;
}
  where
    by : (x : ℕ) (o : Option Slot) → ((l : Slot) → o ≡ Some l → x < env.slots) → (l : Slot) → option_map read_alone o ≡ Some l → x < env.slots
    by x None below l h = cc
    by x (Some m) below l h = below m refl

-- nothing in scope has the next slot
pub none_at : (L : Scope) (n : ℕ) → ((x : ℕ) (l : Slot) → L.local x ≡ Some l → x < n) → (x : ℕ) → n ≤ x → L.local x ≡ None
none_at L n below x from = by (L.local x) (below x)
  where
    by : (o : Option Slot) → ((l : Slot) → o ≡ Some l → x < n) → o ≡ None
    by None h = refl
    by (Some l) h = absurd (let k = h l refl in omega (arith, k, from))

-- with a further row in the next slot, of which the judgement's local is reported
module _ (P : PlainProgram) (L : Scope) (env : Env) (params : List Bool) (around : Around) (r a r' a' : ℕ → Bool) (ready : Ready P L env params around r a) (row : LocalRow) (l : Slot) (slots : ℕ)
    (at : row.slot ≡ env.slots) (more : env.slots < slots) (is_so : (x y : Bool) → RowIs x y row (Some l)) (stands : row.is_final ≡ false → can_stand (plain_type row.ty) ≡ true)
    (names : SlotNames (IsIndex L) (IsRegion L) l)
    (reads : (x : ℕ) → (row.name == x) ≡ false → IsTrue (r' x) → IsTrue (r x)) (assigns : (x : ℕ) → (row.name == x) ≡ false → IsTrue (a' x) → IsTrue (a x))
  where
    abbrev M : Scope
    M = in_scope env.slots l L

    abbrev next : Env
    next = record (with_row_in env row) { slots = slots }

    kept : (x : ℕ) → x < env.slots → M.local x ≡ L.local x
    kept x k = ap (λ b. cond b (Some l) (L.local x)) (ne_eqb x env.slots (λ e. omega (arith, k, e)))

    new : M.local row.slot ≡ Some l
    new = ap (λ b. cond b (Some l) (L.local row.slot)) (eq-eqb row.slot env.slots at)

    local_next : (n : ℕ) → local_of next n ≡ cond (row.name == n) (Some row) (local_of env n)
    local_next n = local_pushed env row ready.step n

    sees_row : Sees P M next r' a'
    sees_row = record {
      given = ready.sees.given;
      supers = ready.sees.supers;
      self = kept 0 ready.step.some_slot ∙ ready.sees.self;
      locals = λ n one h. local_at (row.name == n) n one refl (sym (local_next n) ∙ h);
      declared = λ n one h final. declared_at (row.name == n) n one (sym (local_next n) ∙ h) final;
      indices = indices_reported next (step_row env row slots at more ready.step);
      params = ready.sees.params;
      regions = ready.sees.regions;
    }
      where
        local_at : (b : Bool) (n : ℕ) (one : LocalRow) → (row.name == n) ≡ b → cond b (Some row) (local_of env n) ≡ Some one → RowIs (r' n) (a' n) one (M.local one.slot)
        local_at true n one is h = subst (λ (z : LocalRow). RowIs (r' n) (a' n) z (M.local z.slot)) (some_same h) (subst (RowIs (r' n) (a' n) row) (sym new) (is_so (r' n) (a' n)))
        local_at false n one is h =
            subst (RowIs (r' n) (a' n) one) (sym (kept one.slot (ready.step.slots n one h)))
            (row_less (r n) (a n) (r' n) (a' n) one (L.local one.slot) (reads n is) (assigns n is) (ready.sees.locals n one h))

        declared_at : (b : Bool) (n : ℕ) (one : LocalRow) → cond b (Some row) (local_of env n) ≡ Some one → one.is_final ≡ false → can_stand (plain_type one.ty) ≡ true
        declared_at true n one h final = subst (λ (z : LocalRow). can_stand (plain_type z.ty) ≡ true) (some_same h) (stands (ap (λ (z : LocalRow). z.is_final) (some_same h) ∙ final))
        declared_at false n one h final = ready.sees.declared n one h final

    pub ready_row : Ready P M next params around r' a'
    ready_row = record {
      tells = ready.tells;
      sees = sees_row;
      step = step_row env row slots at more ready.step;
      locals = locals_with L env.slots l (free_none L env.slots (none_at L env.slots ready.below env.slots (omega arith))) ready.locals names;
      below = λ x m h. below_at (x == env.slots) x m refl h;
      regions = ready.regions;
      returns = record { value = ready.returns.value; nothing = ready.returns.nothing };
      atomic = ready.atomic;
    }
      where
        below_at : (b : Bool) (x : ℕ) (m : Slot) → (x == env.slots) ≡ b → cond b (Some l) (L.local x) ≡ Some m → x < slots
        below_at true x m is h = let e = eqb-true x env.slots is in omega (arith, e, more)
        below_at false x m is h = let k = ready.below x m h in omega (arith, k, more)
