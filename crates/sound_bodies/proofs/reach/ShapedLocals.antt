-- The locals in scope have the shapes that the text gives them.
use Rattle.std.proofs.Common.{◌≡◌, ◌∙◌, ◌+◌, ℕ, zero, suc, Bool, true, false, cond, List, [], ◌∷◌, ◌++◌, length, take, append_assoc, Option, Some, None, refl, sym, ap, subst, arith}
use Rattle.std.proofs.lemmas.List.{append-nil, take-append-le, take_all}
use Rattle.std.specs.Option.{option_and_then, option_map_or}
use Rattle.std.specs.Prelude.{slice_get, unwrap_or}
use Rattle.lang_base.specs.declared.ty.Ty.{Ty}
use Rattle.lang_base.specs.Types.{plain_type}
use Rattle.decl_headers.specs.declared.header.Headers.{Headers}
use Rattle.syntax_tree.specs.declared.region.Named.{Named}
use Rattle.syntax_tree.specs.declared.region.TypeTree.{TypeTree}
use Rattle.syntax_tree.specs.Plain.{PlainStmt, PlainStmts, no_stmts, more_stmts}
use Rattle.decl_resolve.specs.Names.{Names, last_place}
use Rattle.decl_resolve.specs.Scoped.{names_in, values_in, place_in, value_in, with_name}
use Rattle.decl_reach.specs.declared.shape.Shape.{Shape}
use Rattle.decl_table.specs.declared.table.Table.{Table}
use Rattle.decl_reach.specs.Calls.{IsPaired, declared_by, following}
use Rattle.decl_reach.specs.Shapes.{no_class, tree_shape}
use Rattle.decl_reach.proofs.Locals.{paired_more}
use Rattle.body_exprs.specs.declared.env.Env.{Env}
use Rattle.body_exprs.specs.declared.env.LocalRow.{LocalRow}
use Rattle.body_exprs.specs.Env.{table_of, local_of, local_row, part_row, with_row_in, with_local, with_part, with_region, left_to, mark_of, has_room, local_declared, part_declared, region_declared}
use Rattle.body_check.specs.Simple.{with_regions}
use Rattle.sound_lemmas.proofs.Lists.{some_same, and_then_there}
use Rattle.sound_bodies.proofs.reach.TypeShapes.{IsShape}

-- each local has its shape
abbrev pub RowsShaped : List LocalRow → List Shape → Type 0
RowsShaped [] [] = Unit {0}
RowsShaped [] (s ∷ shapes) = ⊥
RowsShaped (row ∷ rows) [] = ⊥
RowsShaped (row ∷ rows) (s ∷ shapes) = IsShape s (plain_type row.ty) × RowsShaped rows shapes

rows_push : (rows : List LocalRow) (shapes : List Shape) (row : LocalRow) (s : Shape) → RowsShaped rows shapes → IsShape s (plain_type row.ty) → RowsShaped (rows ++ row ∷ []) (shapes ++ s ∷ [])
rows_push [] [] row s h k = (k, tt)
rows_push [] (t ∷ shapes) row s h k = absurd h
rows_push (one ∷ rows) [] row s h k = absurd h
rows_push (one ∷ rows) (t ∷ shapes) row s h k = (h.0, rows_push rows shapes row s h.1 k)

rows_taken : (n : ℕ) (rows : List LocalRow) (shapes : List Shape) → RowsShaped rows shapes → RowsShaped (take n rows) (take n shapes)
rows_taken zero rows shapes h = tt
rows_taken (suc n) [] [] h = tt
rows_taken (suc n) [] (s ∷ shapes) h = absurd h
rows_taken (suc n) (row ∷ rows) [] h = absurd h
rows_taken (suc n) (row ∷ rows) (s ∷ shapes) h = (h.0, rows_taken n rows shapes h.1)

rows_many : (rows : List LocalRow) (shapes : List Shape) → RowsShaped rows shapes → length rows ≡ length shapes
rows_many [] [] h = refl
rows_many [] (s ∷ shapes) h = absurd h
rows_many (row ∷ rows) [] h = absurd h
rows_many (row ∷ rows) (s ∷ shapes) h = ap suc (rows_many rows shapes h.1)

row_shaped : (rows : List LocalRow) (shapes : List Shape) (i : ℕ) (row : LocalRow) → RowsShaped rows shapes → slice_get rows i ≡ Some row → (s : Shape) × (slice_get shapes i ≡ Some s) × IsShape s (plain_type row.ty)
row_shaped [] shapes i row h e = cc
row_shaped (one ∷ rows) [] i row h e = absurd h
row_shaped (one ∷ rows) (s ∷ shapes) zero row h e = (s, refl, subst (λ (r : LocalRow). IsShape s (plain_type r.ty)) (some_same e) h.0)
row_shaped (one ∷ rows) (s ∷ shapes) (suc i) row h e = row_shaped rows shapes i row h.1 e

-- what is around a place of a body
pub record Shaped (table : Table) (class : ℕ) (locals : Names Shape) (env : Env) : Type 0 where
  pub table_is : table_of env ≡ table
  pub class_is : env.class ≡ class
  pub names : names_in env.variables ≡ names_in locals
  pub rows : RowsShaped env.rows (values_in locals)
  pub paired : IsPaired locals

-- more locals may be in scope after these
pub record Longer (few more : Names Shape) : Type 0 where
  pub names : List ℕ
  pub names_are : names_in more ≡ names_in few ++ names
  pub values : List Shape
  pub values_are : values_in more ≡ values_in few ++ values

take_front : {A : Type 0} (n : ℕ) (xs ys : List A) → n ≡ length xs → take n (xs ++ ys) ≡ xs
take_front n xs ys is = take-append-le n xs ys (omega (arith, is)) ∙ take_all n xs (omega (arith, is))

pub longer_same : (locals : Names Shape) → Longer locals locals
longer_same locals = record { names = []; names_are = sym (append-nil locals.names); values = []; values_are = sym (append-nil locals.values) }

pub longer_then : (a b c : Names Shape) → Longer a b → Longer b c → Longer a c
longer_then a b c first second = record {
  names = first.names ++ second.names;
  names_are = second.names_are ∙ ap (λ z. z ++ second.names) first.names_are ∙ append_assoc a.names first.names second.names;
  values = first.values ++ second.values;
  values_are = second.values_are ∙ ap (λ z. z ++ second.values) first.values_are ∙ append_assoc a.values first.values second.values;
}

pub longer_one : (locals : Names Shape) (name : ℕ) (s : Shape) → Longer locals (with_name locals name s)
longer_one locals name s = record { names = name ∷ []; names_are = refl; values = s ∷ []; values_are = refl }

pub longer_after : (headers : Headers) (locals : Names Shape) (s : PlainStmt) → Longer locals (following headers locals s)
longer_after headers locals s = by (declared_by s)
  where
    by : (o : Option (ℕ × TypeTree)) → Longer locals (option_map_or (λ local. with_name locals local.0 (tree_shape headers local.1)) o locals)
    by None = longer_same locals
    by (Some one) = longer_one locals one.0 (tree_shape headers one.1)

-- the locals after statements one after the other
abbrev pub all_after : Headers → Names Shape → PlainStmts → Names Shape
all_after headers locals no_stmts = locals
all_after headers locals (more_stmts s ss) = all_after headers (following headers locals s) ss

pub longer_all : (headers : Headers) (locals : Names Shape) (ss : PlainStmts) → Longer locals (all_after headers locals ss)
longer_all headers locals no_stmts = longer_same locals
longer_all headers locals (more_stmts s ss) =
    longer_then locals (following headers locals s) (all_after headers (following headers locals s) ss) (longer_after headers locals s) (longer_all headers (following headers locals s) ss)

module _ {table : Table} {class : ℕ}
  where
    -- the local of a name has the shape of that name
    pub local_shaped : {locals : Names Shape} {env : Env} → Shaped table class locals env → (name : ℕ) (row : LocalRow) → local_of env name ≡ Some row → IsShape (unwrap_or (value_in locals name) no_class) (plain_type row.ty)
    local_shaped {locals} {env} at name row e =
        let w = and_then_there (λ place. slice_get env.rows place) (place_in env.variables name) row e in
        let r = row_shaped env.rows (values_in locals) w.0 row at.rows w.2 in
        let place_is : place_in locals name ≡ Some w.0 = subst (λ names. last_of names name ≡ Some w.0) at.names w.1 in
        let value_is : value_in locals name ≡ Some r.0 = ap (option_and_then (λ place. slice_get (values_in locals) place)) place_is ∙ r.1 in
        subst (λ o. IsShape (unwrap_or o no_class) (plain_type row.ty)) (sym value_is) r.2
      where
        last_of : List ℕ → ℕ → Option ℕ
        last_of names name = last_place names name

    -- a further local
    pub row_declared : {locals : Names Shape} {env : Env} (row : LocalRow) (s : Shape) (slots : ℕ) → IsShape s (plain_type row.ty) → Shaped table class locals env →
        Shaped table class (with_name locals row.name s) (record (with_row_in env row) { slots = slots })
    row_declared {locals} {env} row s slots h at = record {
      table_is = at.table_is;
      class_is = at.class_is;
      names = ap (λ z. z ++ row.name ∷ []) at.names;
      rows = rows_push env.rows (values_in locals) row s at.rows h;
      paired = paired_more locals row.name s at.paired;
    }

    pub local_added : {locals : Names Shape} {env : Env} (name : ℕ) (t : Ty) (is_final : Bool) (s : Shape) → has_room env ≡ true → IsShape s (plain_type t) → Shaped table class locals env →
        Shaped table class (with_name locals name s) (local_declared env name t is_final)
    local_added {locals} {env} name t is_final s room h at =
        subst (λ b. Shaped table class (with_name locals name s) (cond b (with_local env name t is_final) env)) (sym room) (row_declared (local_row env name t is_final) s (env.slots + 1) h at)

    pub part_added : {locals : Names Shape} {env : Env} (name : ℕ) (t : Ty) (s : Shape) → has_room env ≡ true → IsShape s (plain_type t) → Shaped table class locals env →
        Shaped table class (with_name locals name s) (part_declared env name t)
    part_added {locals} {env} name t s room h at =
        subst (λ b. Shaped table class (with_name locals name s) (cond b (with_part env name t) env)) (sym room) (row_declared (part_row env name t) s (env.slots + 4) h at)

    region_added : {locals : Names Shape} {env : Env} (name : ℕ) → Shaped table class locals env → Shaped table class locals (region_declared env name)
    region_added {locals} {env} name at = by (has_room env)
      where
        by : (b : Bool) → Shaped table class locals (cond b (with_region env name) env)
        by true = record { table_is = at.table_is; class_is = at.class_is; names = at.names; rows = at.rows; paired = at.paired }
        by false = at

    pub regions_added : {locals : Names Shape} (env : Env) (names : List Named) → Shaped table class locals env → Shaped table class locals (with_regions env names)
    regions_added env [] at = at
    regions_added env (named ∷ names) at = regions_added (region_declared env named.name) names (region_added named.name at)

    -- after a scope
    pub scope_closed : {few more : Names Shape} {before after : Env} → Longer few more → Shaped table class few before → Shaped table class more after → Shaped table class few (left_to after (mark_of before))
    scope_closed {few} {more} {before} {after} longer at inner = record {
      table_is = inner.table_is;
      class_is = inner.class_is;
      names = ap (take n) (inner.names ∙ longer.names_are) ∙ take_front n few.names longer.names (rows_many before.rows few.values at.rows ∙ sym at.paired);
      rows = subst (RowsShaped (take n after.rows)) (ap (take n) longer.values_are ∙ take_front n few.values longer.values (rows_many before.rows few.values at.rows)) (rows_taken n after.rows more.values inner.rows);
      paired = at.paired;
    }
      where
        n : ℕ
        n = length before.rows
