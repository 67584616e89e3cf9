-- How what is in scope changes from one place of a body to a later one.
use Rattle.std.proofs.Common.{◌≡◌, ◌∙◌, ◌≤◌, ◌+◌, ◌==◌, ℕ, suc, Bool, true, false, cond, List, [], ◌∷◌, ◌++◌, map, length, take, is_some, Option, Some, None, refl, sym, ap, subst, arith}
use Rattle.lang_base.specs.declared.place.Place.{Place}
use Rattle.lang_base.specs.declared.refusal.Kind.TheVariants as kind
use Rattle.lang_base.specs.declared.ty.Ty.{Ty}
use Rattle.lang_base.specs.declared.ty.Ty.TheVariants as variant
use Rattle.syntax_tree.specs.declared.region.Named.{Named}
use Rattle.body_exprs.specs.declared.env.Env.{Env}
use Rattle.body_exprs.specs.declared.env.LocalRow.{LocalRow}
use Rattle.body_exprs.specs.Env.{local_of, index_slot, local_row, part_row, with_row_in, with_local, with_part, with_region, left_to, mark_of, has_room, local_declared, part_declared, region_declared}
use Rattle.body_check.specs.declared.node.Node.{Node}
use Rattle.body_check.specs.Checking.{parts_declared}
use Rattle.body_check.specs.Noting.{with_fault, fault_of}
use Rattle.body_check.specs.Simple.{declaration_noted, with_regions}
use Rattle.sound_lemmas.proofs.Bodies.{not_faulty}
use Rattle.sound_bodies.specs.Seen.{InStep}
use Rattle.sound_bodies.proofs.scope.Declaring.{local_pushed, step_declared, step_row}

append_none : {A : Type 0} (xs : List A) → xs ≡ xs ++ []
append_none [] = refl
append_none (x ∷ xs) = ap (λ z. x ∷ z) (append_none xs)

append_same : {A : Type 0} (xs ys zs : List A) → (xs ++ ys) ++ zs ≡ xs ++ (ys ++ zs)
append_same [] ys zs = refl
append_same (x ∷ xs) ys zs = ap (λ z. x ∷ z) (append_same xs ys zs)

length_push : {A : Type 0} (xs : List A) (x : A) → length (xs ++ x ∷ []) ≡ suc (length xs)
length_push [] x = refl
length_push (y ∷ xs) x = ap suc (length_push xs x)

take_first : {A : Type 0} (xs ys : List A) → take (length xs) (xs ++ ys) ≡ xs
take_first [] ys = refl
take_first (x ∷ xs) ys = ap (λ z. x ∷ z) (take_first xs ys)

-- nothing else is in scope, but more slots and local regions may be declared
pub record Kept (a b : Env) : Type 0 where
  pub is : b ≡ record a { slots = b.slots; declared = b.declared }
  pub slots : a.slots ≤ b.slots
  pub declared : a.declared ≤ b.declared

pub kept_same : (a : Env) → Kept a a
kept_same a = record { is = refl; slots = omega arith; declared = omega arith }

pub kept_then : (a b c : Env) → Kept a b → Kept b c → Kept a c
kept_then a b c first second =
    let s = first.slots in
    let t = second.slots in
    let d = first.declared in
    let e = second.declared in
    record { is = second.is ∙ ap (λ (z : Env). record z { slots = c.slots; declared = c.declared }) first.is; slots = omega (arith, s, t); declared = omega (arith, d, e) }

pub kept_local : (a b : Env) (name : ℕ) → Kept a b → local_of b name ≡ local_of a name
kept_local a b name kept = ap (λ (z : Env). local_of z name) kept.is

pub kept_step : (a b : Env) → Kept a b → InStep a → InStep b
kept_step a b kept step = subst InStep (sym kept.is) (record {
  names = step.names;
  values = step.values;
  some_slot = (let l = step.some_slot in let s = kept.slots in omega (arith, l, s));
  slots = λ name row h. (let l = step.slots name row h in let s = kept.slots in omega (arith, l, s));
  apart = step.apart;
  regions = step.regions;
})

-- further locals and local regions may be in scope, after those that were
pub record Grown (a b : Env) : Type 0 where
  pub is : b ≡ record a { rows = b.rows; variables = b.variables; regions = b.regions; slots = b.slots; declared = b.declared }
  pub rows : List LocalRow
  pub rows_are : b.rows ≡ a.rows ++ rows
  pub names : List ℕ
  pub names_are : b.variables.names ≡ a.variables.names ++ names
  pub values : List (Option ℕ)
  pub values_are : b.variables.values ≡ a.variables.values ++ values
  pub regions : List ℕ
  pub regions_are : b.regions.names ≡ a.regions.names ++ regions
  pub numbers : List ℕ
  pub numbers_are : b.regions.values ≡ a.regions.values ++ numbers
  pub slots : a.slots ≤ b.slots
  pub declared : a.declared ≤ b.declared

pub grown_kept : (a b : Env) → Kept a b → Grown a b
grown_kept a b kept = record {
  is = kept.is ∙ by;
  rows = [];
  rows_are = ap (λ (z : Env). z.rows) kept.is ∙ append_none a.rows;
  names = [];
  names_are = ap (λ (z : Env). z.variables.names) kept.is ∙ append_none a.variables.names;
  values = [];
  values_are = ap (λ (z : Env). z.variables.values) kept.is ∙ append_none a.variables.values;
  regions = [];
  regions_are = ap (λ (z : Env). z.regions.names) kept.is ∙ append_none a.regions.names;
  numbers = [];
  numbers_are = ap (λ (z : Env). z.regions.values) kept.is ∙ append_none a.regions.values;
  slots = kept.slots;
  declared = kept.declared;
}
  where
    by : record a { slots = b.slots; declared = b.declared } ≡ record a { rows = b.rows; variables = b.variables; regions = b.regions; slots = b.slots; declared = b.declared }
    by =
        ap (λ z. record a { rows = z; slots = b.slots; declared = b.declared }) (sym (ap (λ (z : Env). z.rows) kept.is))
        ∙ ap (λ z. record a { rows = b.rows; variables = z; slots = b.slots; declared = b.declared }) (sym (ap (λ (z : Env). z.variables) kept.is))
        ∙ ap (λ z. record a { rows = b.rows; variables = b.variables; regions = z; slots = b.slots; declared = b.declared }) (sym (ap (λ (z : Env). z.regions) kept.is))

pub grown_then : (a b c : Env) → Grown a b → Grown b c → Grown a c
grown_then a b c first second = record {
  is = second.is ∙ ap (λ (z : Env). record z { rows = c.rows; variables = c.variables; regions = c.regions; slots = c.slots; declared = c.declared }) first.is;
  rows = first.rows ++ second.rows;
  rows_are = second.rows_are ∙ ap (λ z. z ++ second.rows) first.rows_are ∙ append_same a.rows first.rows second.rows;
  names = first.names ++ second.names;
  names_are = second.names_are ∙ ap (λ z. z ++ second.names) first.names_are ∙ append_same a.variables.names first.names second.names;
  values = first.values ++ second.values;
  values_are = second.values_are ∙ ap (λ z. z ++ second.values) first.values_are ∙ append_same a.variables.values first.values second.values;
  regions = first.regions ++ second.regions;
  regions_are = second.regions_are ∙ ap (λ z. z ++ second.regions) first.regions_are ∙ append_same a.regions.names first.regions second.regions;
  numbers = first.numbers ++ second.numbers;
  numbers_are = second.numbers_are ∙ ap (λ z. z ++ second.numbers) first.numbers_are ∙ append_same a.regions.values first.numbers second.numbers;
  slots = (let s = first.slots in let t = second.slots in omega (arith, s, t));
  declared = (let s = first.declared in let t = second.declared in omega (arith, s, t));
}

-- what was declared goes out of scope
pub kept_left : (a b : Env) → InStep a → Grown a b → Kept a (left_to b (mark_of a))
kept_left a b step grown = record { is = first ∙ second; slots = grown.slots; declared = grown.declared }
  where
    length_mapped : {A B : Type 0} (f : A → B) (xs : List A) → length (map f xs) ≡ length xs
    length_mapped f [] = refl
    length_mapped f (x ∷ xs) = ap suc (length_mapped f xs)

    taken : {A : Type 0} (n : ℕ) (xs ys zs : List A) → n ≡ length xs → zs ≡ xs ++ ys → take n zs ≡ xs
    taken n xs ys zs at is = ap (λ k. take k zs) at ∙ ap (take (length xs)) is ∙ take_first xs ys

    R : List LocalRow
    R = take (length a.rows) b.rows

    first : left_to b (mark_of a) ≡ record a {
      rows = R;
      variables = record { names = take (length a.rows) b.variables.names; values = take (length a.rows) b.variables.values };
      regions = record { names = take (length a.regions.values) b.regions.names; values = take (length a.regions.values) b.regions.values };
      slots = b.slots;
      declared = b.declared;
    }
    first = ap (λ (z : Env). record z {
      rows = R;
      variables = record { names = take (length a.rows) b.variables.names; values = take (length a.rows) b.variables.values };
      regions = record { names = take (length a.regions.values) b.regions.names; values = take (length a.regions.values) b.regions.values };
    }) grown.is

    second : record a {
      rows = R;
      variables = record { names = take (length a.rows) b.variables.names; values = take (length a.rows) b.variables.values };
      regions = record { names = take (length a.regions.values) b.regions.names; values = take (length a.regions.values) b.regions.values };
      slots = b.slots;
      declared = b.declared;
    } ≡ record a { slots = b.slots; declared = b.declared }
    second =
        ap (λ z. record a {
          rows = z;
          variables = record { names = take (length a.rows) b.variables.names; values = take (length a.rows) b.variables.values };
          regions = record { names = take (length a.regions.values) b.regions.names; values = take (length a.regions.values) b.regions.values };
          slots = b.slots;
          declared = b.declared;
        }) (taken (length a.rows) a.rows grown.rows b.rows refl grown.rows_are)
        ∙ ap (λ z. record a {
          variables = record { names = z; values = take (length a.rows) b.variables.values };
          regions = record { names = take (length a.regions.values) b.regions.names; values = take (length a.regions.values) b.regions.values };
          slots = b.slots;
          declared = b.declared;
        }) (taken (length a.rows) a.variables.names grown.names b.variables.names (sym (ap length step.names ∙ length_mapped (λ (row : LocalRow). row.name) a.rows)) grown.names_are)
        ∙ ap (λ z. record a {
          variables = record { names = a.variables.names; values = z };
          regions = record { names = take (length a.regions.values) b.regions.names; values = take (length a.regions.values) b.regions.values };
          slots = b.slots;
          declared = b.declared;
        }) (taken (length a.rows) a.variables.values grown.values b.variables.values (sym (ap length step.values ∙ length_mapped index_slot a.rows)) grown.values_are)
        ∙ ap (λ z. record a {
          regions = record { names = z; values = take (length a.regions.values) b.regions.values };
          slots = b.slots;
          declared = b.declared;
        }) (taken (length a.regions.values) a.regions.names grown.regions b.regions.names (sym step.regions) grown.regions_are)
        ∙ ap (λ z. record a { regions = record { names = a.regions.names; values = z }; slots = b.slots; declared = b.declared })
        (taken (length a.regions.values) a.regions.values grown.numbers b.regions.values refl grown.numbers_are)

-- a further row
pub grown_row : (env : Env) (row : LocalRow) (slots : ℕ) → env.slots ≤ slots → Grown env (record (with_row_in env row) { slots = slots })
grown_row env row slots more = record {
  is = refl;
  rows = row ∷ [];
  rows_are = refl;
  names = row.name ∷ [];
  names_are = refl;
  values = index_slot row ∷ [];
  values_are = refl;
  regions = [];
  regions_are = append_none env.regions.names;
  numbers = [];
  numbers_are = append_none env.regions.values;
  slots = more;
  declared = omega arith;
}

pub grown_local : (env : Env) (name : ℕ) (t : Ty) (is_final : Bool) → Grown env (local_declared env name t is_final)
grown_local env name t is_final = by (has_room env)
  where
    by : (b : Bool) → Grown env (cond b (with_local env name t is_final) env)
    by true = grown_row env (local_row env name t is_final) (env.slots + 1) (omega arith)
    by false = grown_kept env env (kept_same env)

pub grown_part : (env : Env) (name : ℕ) (t : Ty) → Grown env (part_declared env name t)
grown_part env name t = by (has_room env)
  where
    by : (b : Bool) → Grown env (cond b (with_part env name t) env)
    by true = grown_row env (part_row env name t) (env.slots + 4) (omega arith)
    by false = grown_kept env env (kept_same env)

pub grown_region : (env : Env) (name : ℕ) → Grown env (region_declared env name)
grown_region env name = by (has_room env)
  where
    by : (b : Bool) → Grown env (cond b (with_region env name) env)
    by true = record {
      is = refl;
      rows = [];
      rows_are = append_none env.rows;
      names = [];
      names_are = append_none env.variables.names;
      values = [];
      values_are = append_none env.variables.values;
      regions = name ∷ [];
      regions_are = refl;
      numbers = env.declared ∷ [];
      numbers_are = refl;
      slots = omega arith;
      declared = omega arith;
    }
    by false = grown_kept env env (kept_same env)

pub grown_regions : (env : Env) (names : List Named) → Grown env (with_regions env names)
grown_regions env [] = grown_kept env env (kept_same env)
grown_regions env (named ∷ names) =
    grown_then env (region_declared env named.name) (with_regions (region_declared env named.name) names) (grown_region env named.name) (grown_regions (region_declared env named.name) names)

-- they stand so

pub step_local : (env : Env) (name : ℕ) (t : Ty) (is_final : Bool) → InStep env → InStep (local_declared env name t is_final)
step_local env name t is_final step = by (has_room env)
  where
    by : (b : Bool) → InStep (cond b (with_local env name t is_final) env)
    by true = step_declared env name t is_final step
    by false = step

pub step_part : (env : Env) (name : ℕ) (t : Ty) → InStep env → InStep (part_declared env name t)
step_part env name t step = by (has_room env)
  where
    by : (b : Bool) → InStep (cond b (with_part env name t) env)
    by true = step_row env (part_row env name t) (env.slots + 4) refl (omega arith) step
    by false = step

pub step_region : (env : Env) (name : ℕ) → InStep env → InStep (region_declared env name)
step_region env name step = by (has_room env)
  where
    by : (b : Bool) → InStep (cond b (with_region env name) env)
    by true = record {
      names = step.names;
      values = step.values;
      some_slot = step.some_slot;
      slots = step.slots;
      apart = step.apart;
      regions = length_push env.regions.names name ∙ ap suc step.regions ∙ sym (length_push env.regions.values env.declared);
    }
    by false = step

pub step_regions : (env : Env) (names : List Named) → InStep env → InStep (with_regions env names)
step_regions env [] step = step
step_regions env (named ∷ names) step = step_regions (region_declared env named.name) names (step_region env named.name step)

pub grown_parts : (env : Env) (view var : Named) (t : Ty) → Grown env (parts_declared env view var t)
grown_parts env view var t =
    grown_then env (part_declared env view.name t) (parts_declared env view var t) (grown_part env view.name t) (grown_local (part_declared env view.name t) var.name variant.Int true)

pub step_parts : (env : Env) (view var : Named) (t : Ty) → InStep env → InStep (parts_declared env view var t)
step_parts env view var t step = step_local (part_declared env view.name t) var.name variant.Int true (step_part env view.name t step)

-- the local of a name that isn't declared is the one that was there

pub local_other : (env : Env) (name : ℕ) (t : Ty) (is_final : Bool) (x : ℕ) → InStep env → (name == x) ≡ false → local_of (local_declared env name t is_final) x ≡ local_of env x
local_other env name t is_final x step other = by (has_room env)
  where
    by : (b : Bool) → local_of (cond b (with_local env name t is_final) env) x ≡ local_of env x
    by true = local_pushed env (local_row env name t is_final) step x ∙ ap (λ b. cond b (Some (local_row env name t is_final)) (local_of env x)) other
    by false = refl

pub region_other : (env : Env) (name x : ℕ) → local_of (region_declared env name) x ≡ local_of env x
region_other env name x = by (has_room env)
  where
    by : (b : Bool) → local_of (cond b (with_region env name) env) x ≡ local_of env x
    by true = refl
    by false = refl

pub regions_other : (env : Env) (names : List Named) (x : ℕ) → local_of (with_regions env names) x ≡ local_of env x
regions_other env [] x = refl
regions_other env (named ∷ names) x = regions_other (region_declared env named.name) names x ∙ region_other env named.name x

-- a declaration of which no fault is reported has room
pub room_free : (env : Env) (name : ℕ) (place : Place) (node : Node) → fault_of (declaration_noted env name place node) ≡ None → has_room env ≡ true
room_free env name place node h = by (has_room env) (cond (is_some (local_of env name)) (with_fault node kind.Duplicate place) node) h
  where
    by : (b : Bool) (x : Node) → fault_of (cond b x (with_fault x kind.TooLong place)) ≡ None → b ≡ true
    by true x e = refl
    by false x e = absurd (not_faulty x kind.TooLong place e)
