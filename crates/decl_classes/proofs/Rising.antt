-- The rows of superclasses stand in the order of classes.
use Rattle.std.proofs.Common.{◌≡◌, ◌∙◌, ℕ, zero, suc, ◌+◌, ◌<◌, ◌≤◌, ◌&&◌, true, false, cond, is_some, List, [], ◌∷◌, ◌++◌, length, get_or, map, Option, None, Some, refl, ap, sym, subst, arith}
use Rattle.std.proofs.lemmas.List.{get_or-map, length-map, map-append}
use Rattle.std.specs.Option.{option_map_or}
use Rattle.lang_base.specs.declared.effect.Constraint.{Constraint}
use Rattle.lang_base.specs.declared.ty.Super.{Super}
use Rattle.lang_base.specs.Types.{Ordered}
use Rattle.syntax_tree.specs.declared.class.Class.{Class}
use Rattle.syntax_tree.specs.declared.class.Parent.{Parent}
use Rattle.syntax_tree.specs.declared.class.Program.{Program}
use Rattle.decl_headers.specs.declared.header.Headers.{Headers}
use Rattle.decl_headers.specs.Gathered.{headers_in}
use Rattle.decl_headers.specs.Headers.{parent_of}
use Rattle.decl_headers.specs.Numbers.{as_number}
use Rattle.decl_headers.specs.Way.{IsCounted}
use Rattle.decl_resolve.specs.Scopes.{PlainScope}
use Rattle.decl_table.specs.Plain.{PlainSuper}
use Rattle.decl_table.specs.Table.{supers_of}
use Rattle.decl_classes.specs.Around.{class_scope}
use Rattle.decl_classes.specs.Rows.{all_constraints, super_rows, supers_meant}
use Rattle.decl_classes.specs.Signatures.{parent_meant}
use Rattle.decl_classes.specs.Supers.{classes_in, extending, all_extending}
use Rattle.decl_classes.specs.Tables.{super_of, table_of}

cons_rises : (n : ℕ) (more : List ℕ) → ((k d : ℕ) → k < length more → n < get_or more k d) → ((i j d : ℕ) → i < j → j < length more → get_or more i d < get_or more j d) → (i j d : ℕ) → i < j → j < length (n ∷ more) → get_or (n ∷ more) i d < get_or (n ∷ more) j d
cons_rises n more above rise i zero d lt below = absurd (omega arith)
cons_rises n more above rise zero (suc j) d lt below = above j d (omega arith)
cons_rises n more above rise (suc i) (suc j) d lt below = rise i j d (omega arith) (omega arith)

cons_from : (n at : ℕ) (more : List ℕ) → at ≤ n → ((k d : ℕ) → k < length more → at ≤ get_or more k d) → (k d : ℕ) → k < length (n ∷ more) → at ≤ get_or (n ∷ more) k d
cons_from n at more le above zero d below = le
cons_from n at more le above (suc k) d below = above k d (omega arith)

all_from : (headers : Headers) (at : ℕ) (classes : List Class) → at + length classes ≤ 4294967296 → (k d : ℕ) → k < length (all_extending headers at classes) → at ≤ get_or (all_extending headers at classes) k d
all_from headers at [] few k d below = absurd (omega arith)
all_from headers at (class ∷ classes) few k d below =
    let more = all_extending headers (at + 1) classes in
    let rest = λ (i : ℕ) (e : ℕ) (h : i < length more). all_from headers (at + 1) classes (omega arith) i e h in
    let here : at ≤ as_number at = omega arith in
    elim (is_some class.parent && is_some (parent_of headers (as_number at))) as (λ b. k < length (cond b (as_number at ∷ []) [] ++ more) → at ≤ get_or (cond b (as_number at ∷ []) [] ++ more) k d) [
      | true ↦ λ h. cons_from (as_number at) at more here (λ i e l. omega (arith, rest i e l)) k d h
      | false ↦ λ h. omega (arith, rest k d h)
    ] below

all_rise : (headers : Headers) (at : ℕ) (classes : List Class) → at + length classes ≤ 4294967296 → (i j d : ℕ) → i < j → j < length (all_extending headers at classes) → get_or (all_extending headers at classes) i d < get_or (all_extending headers at classes) j d
all_rise headers at [] few i j d lt below = absurd (omega arith)
all_rise headers at (class ∷ classes) few i j d lt below =
    let more = all_extending headers (at + 1) classes in
    let rest = λ (k : ℕ) (e : ℕ) (h : k < length more). all_from headers (at + 1) classes (omega arith) k e h in
    let here : as_number at ≤ at = omega arith in
    elim (is_some class.parent && is_some (parent_of headers (as_number at))) as (λ b. j < length (cond b (as_number at ∷ []) [] ++ more) → get_or (cond b (as_number at ∷ []) [] ++ more) i d < get_or (cond b (as_number at ∷ []) [] ++ more) j d) [
      | true ↦ λ h. cons_rises (as_number at) more (λ k e l. omega (arith, here, rest k e l)) (all_rise headers (at + 1) classes (omega arith)) i j d lt h
      | false ↦ λ h. all_rise headers (at + 1) classes (omega arith) i j d lt h
    ] below

cons_below : (n end : ℕ) (more : List ℕ) → n < end → ((k d : ℕ) → k < length more → get_or more k d < end) → (k d : ℕ) → k < length (n ∷ more) → get_or (n ∷ more) k d < end
cons_below n end more le above zero d below = le
cons_below n end more le above (suc k) d below = above k d (omega arith)

all_below : (headers : Headers) (at : ℕ) (classes : List Class) → at + length classes ≤ 4294967296 → (k d : ℕ) → k < length (all_extending headers at classes) → get_or (all_extending headers at classes) k d < at + length classes
all_below headers at [] few k d below = absurd (omega arith)
all_below headers at (class ∷ classes) few k d below =
    let more = all_extending headers (at + 1) classes in
    let end : ℕ = at + length (class ∷ classes) in
    let rest : (i e : ℕ) → i < length more → get_or more i e < end = λ i e h. omega (arith, all_below headers (at + 1) classes (omega arith) i e h) in
    let here : as_number at < end = omega arith in
    elim (is_some class.parent && is_some (parent_of headers (as_number at))) as (λ b. k < length (cond b (as_number at ∷ []) [] ++ more) → get_or (cond b (as_number at ∷ []) [] ++ more) k d < end) [
      | true ↦ λ h. cons_below (as_number at) end more here rest k d h
      | false ↦ λ h. rest k d h
    ] below

-- each is the row of a class that is there
pub extending_within : (headers : Headers) (classes : List Class) (supers : List Super) → classes_in supers ≡ all_extending headers 0 classes → length classes ≤ 4294967296 → (at : ℕ) (row : Super) → at < length supers → (get_or supers at row).class < length classes
extending_within headers classes supers e few at row below =
    let within : at < length (classes_in supers) = omega (arith, length-map supers (λ row. row.class)) in
    let bound = subst (λ ns. at < length ns → get_or ns at row.class < 0 + length classes) (sym e) (all_below headers 0 classes (omega arith) at row.class) within in
    let here : get_or (classes_in supers) at row.class ≡ (get_or supers at row).class = get_or-map (λ row. row.class) supers at row row.class below in
    omega (arith, bound, here)

-- rows of these classes are in order
pub extending_ordered : (headers : Headers) (classes : List Class) (supers : List Super) → classes_in supers ≡ all_extending headers 0 classes → length classes ≤ 4294967296 → Ordered supers
extending_ordered headers classes supers e few i j d lt below =
    let within : j < length (classes_in supers) = omega (arith, length-map supers (λ row. row.class)) in
    let rise = subst (λ ns. j < length ns → get_or ns i d.class < get_or ns j d.class) (sym e) (all_rise headers 0 classes (omega arith) i j d.class lt) within in
    let left : get_or (classes_in supers) i d.class ≡ (get_or supers i d).class = get_or-map (λ row. row.class) supers i d d.class (omega arith) in
    let right : get_or (classes_in supers) j d.class ≡ (get_or supers j d).class = get_or-map (λ row. row.class) supers j d d.class below in
    omega (arith, rise, left, right)

abbrev super_row : PlainScope → Parent → ℕ → PlainSuper
super_row scope tree above = record { class = scope.class; parent = parent_meant scope tree above }

-- a class has a row of its superclass exactly where it extends one that is there
row_extends : (scope : PlainScope) (class : Class) → classes_in (map super_of (super_rows scope class)) ≡ extending scope.headers scope.class class
row_extends scope class = by class.parent (parent_of scope.headers scope.class)
  where
    by : (tree : Option Parent) (above : Option ℕ) → classes_in (map super_of (option_map_or (λ t. option_map_or (λ one. super_row scope t one ∷ []) above []) tree [])) ≡ cond (is_some tree && is_some above) (scope.class ∷ []) []
    by None above = refl
    by (Some tree) None = refl
    by (Some tree) (Some one) = refl

pub rows_extend : (headers : Headers) (all : List (List Constraint)) (at : ℕ) (classes : List Class) → classes_in (map super_of (supers_meant headers all at classes)) ≡ all_extending headers at classes
rows_extend headers all at [] = refl
rows_extend headers all at (class ∷ classes) =
    let scope = class_scope headers all (as_number at) in
    let own = super_rows scope class in
    let more = supers_meant headers all (at + 1) classes in
    ap classes_in (map-append super_of own more)
    ∙ map-append (λ row. row.class) (map super_of own) (map super_of more)
    ∙ ap (λ here. here ++ classes_in (map super_of more)) (row_extends scope class)
    ∙ ap (λ following. extending headers (as_number at) class ++ following) (rows_extend headers all (at + 1) classes)

pub ordered_table : (program : Program) → IsCounted program.classes → Ordered (supers_of (table_of program))
ordered_table program counted =
    let headers = headers_in program in
    let few : length program.classes ≤ 4294967296 = omega (arith, counted) in
    extending_ordered headers program.classes (map super_of (supers_meant headers (all_constraints headers 0 program.classes) 0 program.classes)) (rows_extend headers (all_constraints headers 0 program.classes) 0 program.classes) few
