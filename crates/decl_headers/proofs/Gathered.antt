-- What is gathered are the headers of the program.
use Rattle.std.proofs.Common.{◌≡◌, ℕ, zero, suc, ◌+◌, ◌<◌, ◌≤◌, ◌==◌, true, false, Bool, cond, List, [], ◌∷◌, length, replicate, slice_index_or, map, inl, inr, Option, None, Some, Result, Ok, Err, IfOk, IfErr, OnOk, codes, refl, sym, ap, ◌∙◌, arith}
use Rattle.std.proofs.lemmas.Bool.Decides.{eqb_tells}
use Rattle.std.specs.List.{position_from}
use Rattle.std.specs.Option.{option_and_then, option_map, option_map_or}
use Rattle.std.specs.Prelude.{slice_get}
use Rattle.lang_base.specs.declared.refusal.Refusal.{Refusal}
use Rattle.lang_base.specs.declared.refusal.Stop.{Stop}
use Rattle.lang_base.specs.declared.refusal.Stop.TheVariants as stop
use Rattle.lang_base.specs.Refused.{IfRefused}
use Rattle.syntax_tree.specs.declared.class.Class.{Class}
use Rattle.syntax_tree.specs.declared.class.Program.{Program}
use Rattle.decl_headers.specs.declared.forest.Step.{Step}
use Rattle.decl_headers.specs.declared.header.Header.{Header}
use Rattle.decl_headers.specs.Around.{reported_on_way}
use Rattle.decl_headers.specs.First.{class_named, parents_in, first_faults}
use Rattle.decl_headers.specs.Gathered.{header_row, header_rows, object_fields, all_regions, name_number, headers_in, check_headers}
use Rattle.decl_headers.specs.Headers.{PlainHeaders, class_in, param_in}
use Rattle.decl_headers.specs.Numbering.{with_all_params, counted_way, counted_rows}
use Rattle.decl_headers.specs.Numbers.{as_number, last_place}
use Rattle.decl_headers.specs.Passes.{first_named, first_of, refused_or}
use Rattle.decl_headers.specs.Rounds.{entry_of}
use Rattle.decl_headers.specs.Second.{AreCounted, second_faults}
use Rattle.decl_headers.specs.Way.{IsCounted, way_of}
use Rattle.decl_headers.proofs.Counting.{fields_counted}
use Rattle.decl_headers.proofs.Second.{sound_from, length_parents, reported_way}

-- a class that isn't there yet gets no parameters
params_other : (at : ℕ) (rows : List Header) (owner name : ℕ) (found : Option ℕ) → owner < at → at + length rows ≤ 4294967295 → with_all_params at rows owner name found ≡ found
params_other at [] owner name found l fits = refl
params_other at (row ∷ rows) owner name found l fits =
    let apart : (as_number at == owner) ≡ false = elim (eqb_tells (as_number at) owner) [ inl p ↦ absurd (omega (arith, p.1)) | inr q ↦ q.0 ] in
    ap (λ b. with_all_params (at + 1) rows owner name (cond b (last_place (λ param. param.name == name) 0 row.params found) found)) apart
    ∙ params_other (at + 1) rows owner name found (omega arith) (omega arith)

params_there : (at : ℕ) (rows : List Header) (j name : ℕ) (found : Option ℕ) → at + length rows ≤ 4294967295 → with_all_params at rows (at + j) name found ≡ option_map_or (λ row. last_place (λ param. param.name == name) 0 row.params found) (slice_get rows j) found
params_there at [] j name found fits = refl
params_there at (row ∷ rows) zero name found fits =
    let here : (as_number at == at + 0) ≡ true = elim (eqb_tells (as_number at) (at + 0)) [ inl p ↦ p.0 | inr q ↦ absurd (q.1 (omega arith)) ] in
    ap (λ b. with_all_params (at + 1) rows (at + 0) name (cond b (last_place (λ param. param.name == name) 0 row.params found) found)) here
    ∙ params_other (at + 1) rows (at + 0) name (last_place (λ param. param.name == name) 0 row.params found) (omega arith) (omega arith)
params_there at (row ∷ rows) (suc j) name found fits =
    let apart : (as_number at == at + suc j) ≡ false = elim (eqb_tells (as_number at) (at + suc j)) [ inl p ↦ absurd (omega (arith, p.1)) | inr q ↦ q.0 ] in
    let next : at + suc j ≡ at + 1 + j = omega arith in
    ap (λ b. with_all_params (at + 1) rows (at + suc j) name (cond b (last_place (λ param. param.name == name) 0 row.params found) found)) apart
    ∙ ap (λ k. with_all_params (at + 1) rows k name found) next
    ∙ params_there (at + 1) rows j name found (omega arith)

pub params_gathered : (rows : List Header) (owner name : ℕ) → IsCounted rows → with_all_params 0 rows owner name None ≡ param_in rows owner name
params_gathered rows owner name counted =
    let none : owner ≡ 0 + owner = omega arith in
    ap (λ k. with_all_params 0 rows k name None) none
    ∙ params_there 0 rows owner name None (omega arith)
    ∙ either (slice_get rows owner)
  where
    either : (o : Option Header) → option_map_or (λ row. last_place (λ param. param.name == name) 0 row.params None) o None ≡ option_and_then (λ row. last_place (λ param. param.name == name) 0 row.params None) o
    either None = refl
    either (Some row) = refl

-- the class of a name, among classes and among their rows
named_in : (parents : List (Option ℕ)) (fields : ℕ → ℕ) (name at : ℕ) (classes : List Class) → first_named name at classes ≡ option_map as_number (position_from (λ row. row.name == name) at (header_rows parents fields at classes))
named_in parents fields name at [] = refl
named_in parents fields name at (class ∷ classes) = found (class.name == name) (named_in parents fields name (at + 1) classes)
  where
    found : (b : Bool) → first_named name (at + 1) classes ≡ option_map as_number (position_from (λ row. row.name == name) (at + 1) (header_rows parents fields (at + 1) classes))
        → cond b (Some (as_number at)) (first_named name (at + 1) classes) ≡ option_map as_number (cond b (Some at) (position_from (λ row. row.name == name) (at + 1) (header_rows parents fields (at + 1) classes)))
    found true more = refl
    found false more = more

pub classes_found : (parents : List (Option ℕ)) (fields : ℕ → ℕ) (classes : List Class) (name : ℕ) → class_named classes name ≡ class_in (header_rows parents fields 0 classes) name
classes_found parents fields classes name = named_in parents fields name 0 classes

-- as many rows as classes
pub length_rows : (parents : List (Option ℕ)) (fields : ℕ → ℕ) (at : ℕ) (classes : List Class) → length (header_rows parents fields at classes) ≡ length classes
length_rows parents fields at [] = refl
length_rows parents fields at (class ∷ classes) = ap suc (length_rows parents fields (at + 1) classes)

rows_same : (parents : List (Option ℕ)) (f g : ℕ → ℕ) (at : ℕ) (classes : List Class) → ((one : ℕ) → one < at + length classes → f one ≡ g one) → header_rows parents f at classes ≡ header_rows parents g at classes
rows_same parents f g at [] same = refl
rows_same parents f g at (class ∷ classes) same =
    ap (λ count. record (header_row parents f at class) { fields = count } ∷ header_rows parents f (at + 1) classes) (same at (omega arith))
    ∙ ap (λ rows. header_row parents g at class ∷ rows) (rows_same parents f g (at + 1) classes (λ one l. same one (omega arith)))

pub rows_gathered : (classes : List Class) → IsCounted classes → first_of (first_faults classes) ≡ None → counted_rows classes (parents_in classes) (way_of (parents_in classes)) ≡ header_rows (parents_in classes) (object_fields classes (parents_in classes)) 0 classes
rows_gathered classes counted first =
    rows_same (parents_in classes) _ (object_fields classes (parents_in classes)) 0 classes
    (λ one l. fields_counted classes (parents_in classes) one (sound_from classes counted first) (length_parents classes) (omega arith))

-- the superclass of each row is that of its class
parents_rows : (parents : List (Option ℕ)) (fields : ℕ → ℕ) (at : ℕ) (classes : List Class) (rest : List (Option ℕ)) → ((j : ℕ) → entry_of parents (at + j) ≡ entry_of rest j) → length rest ≡ length classes → map (λ row. row.parent) (header_rows parents fields at classes) ≡ rest
parents_rows parents fields at [] [] same each = refl
parents_rows parents fields at [] (one ∷ rest) same each = absurd (omega (arith, each))
parents_rows parents fields at (class ∷ classes) [] same each = absurd (omega (arith, each))
parents_rows parents fields at (class ∷ classes) (one ∷ rest) same each =
    let here : at ≡ at + 0 = omega arith in
    ap (λ parent. parent ∷ map (λ row. row.parent) (header_rows parents fields (at + 1) classes)) (ap (entry_of parents) here ∙ same 0)
    ∙ ap (λ more. one ∷ more)
    (parents_rows parents fields (at + 1) classes rest
    (λ j. let next : at + 1 + j ≡ at + suc j = omega arith in ap (entry_of parents) next ∙ same (suc j))
    (omega (arith, each)))

pub parents_gathered : (classes : List Class) (rows : List Header) (fields : ℕ → ℕ) → rows ≡ header_rows (parents_in classes) fields 0 classes → map (λ row. row.parent) rows ≡ parents_in classes
parents_gathered classes rows fields are =
    ap (map (λ row. row.parent)) are
    ∙ parents_rows (parents_in classes) fields 0 classes (parents_in classes) (λ j. let here : 0 + j ≡ j = omega arith in ap (entry_of (parents_in classes)) here) (length_parents classes)

-- what is made of the classes, once the first pass found nothing, are the headers, and what is told of their members is
-- the fault
abbrev IsMade : Program → PlainHeaders → Type 0
IsMade program headers =
    headers ≡ record { rows = counted_rows program.classes (parents_in program.classes) (way_of (parents_in program.classes)); regions = all_regions 0 program.classes; main = name_number program.names (codes "Main") }

abbrev told_of : Program → Option Refusal
told_of program = reported_on_way (length program.names) program.classes (way_of (parents_in program.classes))

checked_further : (program : Program) (told : Option Refusal) → AreCounted (length program.names) program.classes → first_of (first_faults program.classes) ≡ None → told_of program ≡ told → check_headers program ≡ refused_or told (Ok (headers_in program))
checked_further program told counted first is =
    ap (λ found. refused_or found (refused_or (first_of (second_faults program.classes (parents_in program.classes))) (Ok (headers_in program)))) first
    ∙ ap (λ found. refused_or found (Ok (headers_in program))) (sym (reported_way (length program.names) program.classes counted first) ∙ is)

pub made_checked : (result : Result PlainHeaders Stop) (program : Program) → AreCounted (length program.names) program.classes → first_of (first_faults program.classes) ≡ None → OnOk result (told_of program ≡ None) → IfOk result (IsMade program) →
    IfOk result (λ headers. check_headers program ≡ Ok headers)
made_checked (Err found) program counted first told h = tt
made_checked (Ok headers) program counted first told h =
    checked_further program None counted first told
    ∙ ap Ok (sym (h ∙ ap (λ rows. record (headers_in program) { rows = rows }) (rows_gathered program.classes counted.0 first)))

pub refused_checked : (result : Result PlainHeaders Stop) (program : Program) → AreCounted (length program.names) program.classes → first_of (first_faults program.classes) ≡ None → IfErr result (λ found. IfRefused found (λ fault. told_of program ≡ Some fault)) →
    IfErr result (λ found. IfRefused found (λ fault. check_headers program ≡ Err fault))
refused_checked (Ok headers) program counted first h = tt
refused_checked (Err stop.NoMemory) program counted first h = tt
refused_checked (Err (stop.Refused fault)) program counted first h = checked_further program (Some fault) counted first h

pub refused_first : (program : Program) (found : Stop) → IfRefused found (λ fault. first_of (first_faults program.classes) ≡ Some fault) → IfRefused found (λ fault. check_headers program ≡ Err fault)
refused_first program (stop.Refused fault) h =
    ap (λ found. refused_or found (refused_or (first_of (second_faults program.classes (parents_in program.classes))) (Ok (headers_in program)))) h
refused_first program stop.NoMemory h = h

-- what is refused, and what goes on
pub went_on : {T : Type 0} (found : Option Refusal) (next : Result T Refusal) (made : T) → refused_or found next ≡ Ok made → (found ≡ None) × (next ≡ Ok made)
went_on None next made h = (refl, h)
went_on (Some fault) next made h = cc

-- the class of a name, among them
pub counted_found : (classes : List Class) (parents : List (Option ℕ)) (steps : List Step) (name : ℕ) → class_named classes name ≡ class_in (counted_rows classes parents steps) name
counted_found classes parents steps name = classes_found parents (λ at. slice_index_or (counted_way classes parents (replicate (length classes) 0) steps) at 0) classes name
