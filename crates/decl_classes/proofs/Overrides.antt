-- What the table says that each method overrides is what it overrides.
use Rattle.std.proofs.Common.{◌≡◌, ◌∙◌, ℕ, zero, suc, ◌+◌, ◌<◌, ◌≤◌, true, false, cond, ltb, List, [], ◌∷◌, length, get_or, set, length-set, replicate, map, inl, inr, Option, None, Some, refl, ap, sym, subst, arith}
use Rattle.std.proofs.lemmas.Bool.Decides.{Decides-ltb}
use Rattle.std.proofs.lemmas.List.{length-map, length-replicate}
use Rattle.std.proofs.lemmas.Option.{slice_get-get_or}
use Rattle.std.specs.List.{flat_map}
use Rattle.std.specs.Option.{option_and_then, option_map_or}
use Rattle.std.specs.Prelude.{slice_get}
use Rattle.lang_base.specs.declared.effect.Constraint.{Constraint}
use Rattle.syntax_tree.specs.declared.class.Class.{Class}
use Rattle.syntax_tree.specs.declared.class.Member.{Member}
use Rattle.syntax_tree.specs.declared.class.Member.TheVariants as member
use Rattle.syntax_tree.specs.declared.class.Program.{Program}
use Rattle.decl_headers.specs.declared.header.Header.{Header}
use Rattle.decl_headers.specs.declared.header.Headers.{Headers}
use Rattle.decl_headers.specs.declared.forest.Step.{Step}
use Rattle.decl_headers.specs.declared.forest.Step.TheVariants as step
use Rattle.decl_headers.specs.First.{first_faults, parents_in}
use Rattle.decl_headers.specs.Gathered.{headers_in}
use Rattle.decl_headers.specs.Headers.{chain, nearest, parent_of, parents_of, class_count}
use Rattle.decl_headers.specs.Numbers.{as_number}
use Rattle.decl_headers.specs.Passes.{first_of}
use Rattle.decl_headers.specs.Rounds.{entry_of}
use Rattle.decl_headers.specs.Second.{own_params, own_regions, own_fields, own_methods, method_in, are_below, declared_in_method, declared_in, AreNamed, AreCounted}
use Rattle.decl_headers.specs.Way.{IsForest, way_of}
use Rattle.decl_headers.proofs.Gathered.{parents_gathered}
use Rattle.decl_headers.proofs.Among.{among_either}
use Rattle.decl_headers.proofs.Order.{Among}
use Rattle.decl_headers.proofs.Second.{and_true, below_split, sound_from, length_parents}
use Rattle.decl_resolve.specs.Scopes.{PlainScope}
use Rattle.decl_table.specs.declared.overridden.Own.{Own}
use Rattle.decl_table.specs.declared.rows.MethodRow.{MethodRow}
use Rattle.decl_table.specs.declared.table.Table.{Table}
use Rattle.decl_classes.specs.Around.{class_scope}
use Rattle.decl_table.specs.Overridden.{overridden_in}
use Rattle.decl_table.specs.Places.{entry_at, method_number}
use Rattle.decl_table.specs.Plain.{PlainMethod, plain_method}
use Rattle.decl_classes.specs.Rows.{all_constraints, methods_from, methods_meant}
use Rattle.decl_classes.specs.Tables.{signed_table}
use Rattle.decl_table.specs.Table.{headers_of, methods_of}
use Rattle.decl_table.specs.Visible.{all_own, all_overriding, Seen, none_seen, after_step, after_way, overridden_on_way}
use Rattle.decl_table.proofs.Visible.{AreRows, overriding, overridden_found}
use Rattle.decl_classes.proofs.Back.{methods_there}

-- the names of a class's methods are counted, and the class is theirs
from_counted : (names : ℕ) (scope : PlainScope) (count : ℕ) (members : List Member) (row : PlainMethod) → are_below names (flat_map declared_in_method (flat_map method_in members)) ≡ true → Among row (methods_from scope count members) → (row.name < names) × (row.owner ≡ scope.class)
from_counted names scope count [] row below h = absurd h
from_counted names scope count (member.Regions is_atomic declared ∷ members) row below h = from_counted names scope (count + 0) members row below h
from_counted names scope count (member.Field field ∷ members) row below h = from_counted names scope (count + 0) members row below h
from_counted names scope count (member.Method method ∷ members) row below (inl is) =
    let w = below_split names (declared_in_method method) _ below in
    let own : method.name < names = (Decides-ltb method.name names).0 (and_true (ltb method.name names) _ w.0).0 in
    (subst (λ n. n < names) (sym (ap (λ (r : PlainMethod). r.name) is)) own, ap (λ (r : PlainMethod). r.owner) is)
from_counted names scope count (member.Method method ∷ members) row below (inr h) =
    from_counted names scope (count + 1) members row (below_split names (declared_in_method method) _ below).1 h

methods_below : (names : ℕ) (class : Class) → are_below names (declared_in class) ≡ true → are_below names (flat_map declared_in_method (own_methods class)) ≡ true
methods_below names class h =
    let a = below_split names (own_params class) _ h in
    let b = below_split names (own_regions class) _ a.1 in
    (below_split names (own_fields class) _ b.1).1

meant_counted : (names : ℕ) (headers : Headers) (all : List (List Constraint)) (at count : ℕ) (classes : List Class) (row : PlainMethod) → at + length classes ≤ 4294967295 → AreNamed names classes → Among row (methods_meant headers all at count classes) →
    (row.name < names) × (row.owner < at + length classes)
meant_counted names headers all at count [] row fits named h = absurd h
meant_counted names headers all at count (class ∷ classes) row fits named h =
    let scope = class_scope headers all (as_number at) in
    let own = methods_from scope count class.members in
    let w = and_true (are_below names (declared_in class)) _ named in
    elim (among_either row own (methods_meant headers all (at + 1) (count + length own) classes) h) [
      | inl here ↦
          let k = from_counted names scope count class.members row (methods_below names class w.0) here in
          (k.0, omega (arith, k.1))
      | inr more ↦
          let k = meant_counted names headers all (at + 1) (count + length own) classes row (omega arith) w.1 more in
          (k.0, let l = k.1 in omega arith)
    ]

-- a row is among what is meant
row_meant : (rows : List MethodRow) (at : ℕ) (row : MethodRow) → slice_get rows at ≡ Some row → Among (plain_method row) (map plain_method rows)
row_meant [] at row is = cc
row_meant (one ∷ rows) zero row is = let same : one ≡ row = cc in inl (ap plain_method (sym same))
row_meant (one ∷ rows) (suc at) row is = inr (row_meant rows at row is)

-- the superclass of a class, looked for in the headers
parent_is : (rows : List Header) (at : ℕ) → option_and_then (λ (header : Header). header.parent) (slice_get rows at) ≡ entry_of (map (λ row. row.parent) rows) at
parent_is [] at = refl
parent_is (row ∷ rows) zero = refl
parent_is (row ∷ rows) (suc at) = parent_is rows at

chain_same : (f g : ℕ → Option ℕ) → ((at : ℕ) → f at ≡ g at) → (n class : ℕ) → chain f n class ≡ chain g n class
chain_same f g same zero class = refl
chain_same f g same (suc n) class =
    ap (λ o. class ∷ option_map_or (λ above. chain f n above) o []) (same class) ∙ by (g class) (chain_same f g same n)
  where
    by : (o : Option ℕ) → ((above : ℕ) → chain f n above ≡ chain g n above) → class ∷ option_map_or (λ above. chain f n above) o [] ≡ class ∷ option_map_or (λ above. chain g n above) o []
    by None more = refl
    by (Some above) more = ap (λ z. class ∷ z) (more above)

nearest_same : (f g : ℕ → Option ℕ) → ((at : ℕ) → f at ≡ g at) → (classes : List ℕ) → nearest f classes ≡ nearest g classes
nearest_same f g same [] = refl
nearest_same f g same (class ∷ classes) =
    ap (λ o. option_map_or (λ number. Some number) o (nearest f classes)) (same class)
    ∙ ap (option_map_or (λ number. Some number) (g class)) (nearest_same f g same classes)

-- what a row overrides, said of the table
overriding_said : (table : Table) (row : MethodRow) → overriding (methods_of table) (parents_of (headers_of table)) row ≡ overridden_in table row
overriding_said table row =
    elim row.is_constructor as (λ b. cond b None (nearest meant (superclasses_of (entry_of parents row.owner))) ≡ cond b None (option_and_then (λ above. nearest meant (chain (parent_of headers) (class_count headers) above)) (parent_of headers row.owner))) [
      | true ↦ refl
      | false ↦ by (entry_of parents row.owner) ∙ ap (option_and_then (λ above. nearest meant (chain (parent_of headers) (class_count headers) above))) (sym (parent_is headers.rows row.owner))
    ]
  where
    headers : Headers
    headers = headers_of table

    parents : List (Option ℕ)
    parents = parents_of headers

    meant : ℕ → Option ℕ
    meant at = method_number (methods_of table) at row.name

    superclasses_of : Option ℕ → List ℕ
    superclasses_of o = option_map_or (λ above. chain (entry_of parents) (length parents) above) o []

    by : (o : Option ℕ) → nearest meant (superclasses_of o) ≡ option_and_then (λ above. nearest meant (chain (parent_of headers) (class_count headers) above)) o
    by None = refl
    by (Some above) =
        ap (λ n. nearest meant (chain (entry_of parents) n above)) (length-map headers.rows (λ row. row.parent))
        ∙ ap (nearest meant) (chain_same (entry_of parents) (parent_of headers) (λ at. sym (parent_is headers.rows at)) (class_count headers) above)

-- the superclasses in the headers of a program are those of its classes
parents_same : (program : Program) → parents_of (headers_in program) ≡ parents_in program.classes
parents_same program = parents_gathered program.classes (headers_in program).rows _ refl

-- each row is counted
pub row_counted : (program : Program) (headers : Headers) (all : List (List Constraint)) (rows : List MethodRow) → AreCounted (length program.names) program.classes → map plain_method rows ≡ methods_meant headers all 0 0 program.classes
    → (at : ℕ) (row : MethodRow) → slice_get rows at ≡ Some row → (row.name < length program.names) × (row.owner < length program.classes)
row_counted program headers all rows counted read at row is =
    let k = meant_counted (length program.names) headers all 0 0 program.classes (plain_method row) (let l = counted.0 in omega arith) counted.1 (subst (Among (plain_method row)) read (row_meant rows at row is)) in
    (k.0, let l = k.1 in omega arith)

pub row_owned : (program : Program) (headers : Headers) (all : List (List Constraint)) (rows : List MethodRow) → AreCounted (length program.names) program.classes → map plain_method rows ≡ methods_meant headers all 0 0 program.classes
    → (at : ℕ) (row : MethodRow) → at < length rows → (get_or rows at row).owner < length program.classes
row_owned program headers all rows counted read at row below = (row_counted program headers all rows counted read at (get_or rows at row) (slice_get-get_or rows at row below)).1

-- the rows of a program are counted
rows_counted : (program : Program) → AreCounted (length program.names) program.classes → first_of (first_faults program.classes) ≡ None → AreRows (length program.names) (methods_of (signed_table program)) (parents_of (headers_in program))
rows_counted program counted first = record {
  sound = subst IsForest (sym (parents_same program)) (sound_from program.classes counted.0 first);
  named = λ at row is. (known at row is).0;
  owned = λ at row is. let l = (known at row is).1 in omega (arith, as_many);
}
  where
    given : List (List Constraint)
    given = all_constraints (headers_in program) 0 program.classes

    known : (at : ℕ) (row : MethodRow) → slice_get (methods_of (signed_table program)) at ≡ Some row → (row.name < length program.names) × (row.owner < length program.classes)
    known = row_counted program (headers_in program) given (methods_of (signed_table program)) counted (methods_there (methods_meant (headers_in program) given 0 0 program.classes))

    as_many : length (parents_of (headers_in program)) ≡ length program.classes
    as_many = ap length (parents_same program) ∙ length_parents program.classes

-- as many entries as rows, on the whole way
overriding_length : (visible overridden : List (Option ℕ)) (own : List Own) → length (all_overriding visible overridden own) ≡ length overridden
overriding_length visible overridden [] = refl
overriding_length visible overridden (one ∷ own) =
    overriding_length visible (set overridden one.row (entry_at visible one.name)) own ∙ length-set overridden one.row (entry_at visible one.name)

way_length : (lists : List (List Own)) (seen : Seen) (steps : List Step) → length (after_way lists seen steps).overridden ≡ length seen.overridden
way_length lists seen [] = refl
way_length lists seen (step.Enter class ∷ steps) =
    way_length lists (after_step lists seen (step.Enter class)) steps ∙ overriding_length seen.visible seen.overridden (get_or lists class [])
way_length lists seen (step.Leave class ∷ steps) = way_length lists (after_step lists seen (step.Leave class)) steps

-- entries that are found one by one are the list
entries_are : (entries : List (Option ℕ)) (rows : List MethodRow) (f : MethodRow → Option ℕ) → length entries ≡ length rows → ((at : ℕ) → entry_at entries at ≡ option_and_then f (slice_get rows at)) → entries ≡ map f rows
entries_are [] [] f same each = refl
entries_are [] (row ∷ rows) f same each = absurd (omega (arith, same))
entries_are (entry ∷ entries) [] f same each = absurd (omega (arith, same))
entries_are (entry ∷ entries) (row ∷ rows) f same each =
    ap (λ one. one ∷ entries) (each 0) ∙ ap (λ more. f row ∷ more) (entries_are entries rows f (omega (arith, same)) (λ at. each (suc at)))

-- it is found on the way through the classes
pub finds_overridden : (program : Program) → AreCounted (length program.names) program.classes → first_of (first_faults program.classes) ≡ None →
    overridden_on_way (parents_of (headers_in program)) (methods_of (signed_table program)) (length program.names) ≡ map (overridden_in (signed_table program)) (methods_of (signed_table program))
finds_overridden program counted first =
    entries_are (overridden_on_way parents rows names) rows (overridden_in table)
    (way_length (all_own (replicate (length parents) []) 0 rows) (none_seen names (length rows)) (way_of parents) ∙ length-replicate {A = Option ℕ} (length rows) None)
    (λ id. overridden_found names rows parents id (rows_counted program counted first) ∙ by (slice_get rows id))
  where
    table : Table
    table = signed_table program

    rows : List MethodRow
    rows = methods_of (signed_table program)

    parents : List (Option ℕ)
    parents = parents_of (headers_in program)

    names : ℕ
    names = length program.names

    by : (o : Option MethodRow) → option_and_then (overriding (methods_of table) (parents_of (headers_of table))) o ≡ option_and_then (overridden_in table) o
    by None = refl
    by (Some row) = overriding_said table row
