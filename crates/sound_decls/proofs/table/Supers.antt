-- The superclass of a class in its table is the one in the text, with region arguments.
use Rattle.std.proofs.Common.{◌≡◌, ◌∙◌, ◌⊎◌, inl, inr, ℕ, zero, suc, ◌+◌, ◌<◌, ◌≤◌, Bool, true, false, cond, List, [], ◌∷◌, ◌++◌, map, length, Option, Some, None, option_map, option_and_then, refl, ap, sym, arith}
use Rattle.std.proofs.lemmas.Bool.Decides.{Decides-eqb}
use Rattle.std.proofs.lemmas.List.{length-append, length-map}
use Rattle.std.proofs.lemmas.Option.{slice_get-map, slice_get_within}
use Rattle.std.specs.Option.{option_map_or}
use Rattle.std.specs.Prelude.{slice_get}
use Rattle.lang_base.specs.declared.effect.Constraint.{Constraint}
use Rattle.lang_base.specs.declared.region.Rpl.{Rpl}
use Rattle.lang_base.specs.declared.ty.Super.{Super}
use Rattle.lang_base.specs.declared.ty.Ty.{Ty}
use Rattle.lang_base.specs.Types.{plain_type}
use Rattle.lang_base.specs.Types.{PlainType as ty}
use Rattle.decl_headers.specs.declared.header.Headers.{Headers}
use Rattle.decl_headers.specs.First.{class_named, parents_in}
use Rattle.decl_headers.specs.Gathered.{headers_in}
use Rattle.decl_headers.specs.Headers.{parent_of, parents_of}
use Rattle.decl_headers.specs.Numbers.{as_number}
use Rattle.decl_headers.specs.Passes.{named_parent}
use Rattle.decl_headers.specs.Rounds.{entry_of}
use Rattle.decl_headers.proofs.Gathered.{parents_gathered}
use Rattle.decl_resolve.specs.Scopes.{PlainScope}
use Rattle.syntax_tree.specs.declared.class.Class.{Class}
use Rattle.syntax_tree.specs.declared.class.Parent.{Parent}
use Rattle.syntax_tree.specs.declared.class.Program.{Program}
use Rattle.decl_table.specs.declared.table.Table.{Table}
use Rattle.decl_classes.specs.Around.{class_scope}
use Rattle.decl_table.specs.Places.{last_from, by_place, is_super_of, super_place}
use Rattle.decl_table.specs.Plain.{PlainSuper, plain_super}
use Rattle.decl_classes.specs.Rows.{super_rows, supers_meant}
use Rattle.decl_classes.specs.Signatures.{parent_meant}
use Rattle.decl_table.specs.Table.{headers_of, all_given, supers_of, parent_type_of, parent_args_of, class_paths}
use Rattle.body_assembly.specs.Assembled.{PlainBody}
use Rattle.sound_lemmas.specs.Accepted.{IsAccepted}
use Rattle.sound_lemmas.proofs.Lists.{some_same, and_then_there, map_there, got_later, got_mapped}
use Rattle.decl_laws.proofs.Facts.{got_either, parent_is}
use Rattle.decl_laws.proofs.Granted.{granted}

-- the last of the rows that is meant is one of them
pub last_there : {A : Type 0} (test : A → Bool) (number : ℕ → A → ℕ) (at : ℕ) (found : Option ℕ) (rows : List A) (n : ℕ) → last_from test number at found rows ≡ Some n →
    (found ≡ Some n) ⊎ ((i : ℕ) × (row : A) × (slice_get rows i ≡ Some row) × (test row ≡ true) × (number (at + i) row ≡ n))
last_there test number at found [] n e = inl e
last_there {A} test number at found (row ∷ rows) n e =
    elim (last_there test number (at + 1) (cond (test row) (Some (number at row)) found) rows n e) [
      | inl now ↦ by (test row) refl now
      | inr w ↦ let next : at + suc w.0 ≡ at + 1 + w.0 = omega arith in inr (suc w.0, w.1, w.2, w.3, ap (λ k. number k w.1) next ∙ w.4)
    ]
  where
    by : (b : Bool) → test row ≡ b → cond b (Some (number at row)) found ≡ Some n → (found ≡ Some n) ⊎ ((i : ℕ) × (one : A) × (slice_get (row ∷ rows) i ≡ Some one) × (test one ≡ true) × (number (at + i) one ≡ n))
    by true is now = let here : at + 0 ≡ at = omega arith in inr (0, row, refl, is, ap (λ k. number k row) here ∙ some_same now)
    by false is now = inl now

-- there is one, where one is meant
found_some : {A : Type 0} (test : A → Bool) (number : ℕ → A → ℕ) (at x : ℕ) (rows : List A) → (n : ℕ) × (last_from test number at (Some x) rows ≡ Some n)
found_some test number at x [] = (x, refl)
found_some test number at x (row ∷ rows) = by (test row) (found_some test number (at + 1) (number at row) rows) (found_some test number (at + 1) x rows)
  where
    by : (b : Bool) → (n : ℕ) × (last_from test number (at + 1) (Some (number at row)) rows ≡ Some n) → (n : ℕ) × (last_from test number (at + 1) (Some x) rows ≡ Some n) →
        (n : ℕ) × (last_from test number (at + 1) (cond b (Some (number at row)) (Some x)) rows ≡ Some n)
    by true new old = new
    by false new old = old

last_some : {A : Type 0} (test : A → Bool) (number : ℕ → A → ℕ) (at : ℕ) (found : Option ℕ) (rows : List A) (i : ℕ) (row : A) → slice_get rows i ≡ Some row → test row ≡ true →
    (n : ℕ) × (last_from test number at found rows ≡ Some n)
last_some test number at found [] i row e is = cc
last_some test number at found (one ∷ rows) zero row e is =
    let w = found_some test number (at + 1) (number at one) rows in
    (w.0, ap (λ b. last_from test number (at + 1) (cond b (Some (number at one)) found) rows) (ap test (some_same e) ∙ is) ∙ w.1)
last_some test number at found (one ∷ rows) (suc i) row e is = last_some test number (at + 1) (cond (test one) (Some (number at one)) found) rows i row e is

-- the row of a superclass, and how many there are
abbrev IsSuper : Headers → PlainSuper → Type 0
IsSuper headers row = (above : ℕ) × (args : List Rpl) × (parent_of headers row.class ≡ Some above) × (row.parent ≡ ty.class above args)

one_super : (scope : PlainScope) (class : Class) (i : ℕ) (row : PlainSuper) → slice_get (super_rows scope class) i ≡ Some row → IsSuper scope.headers row
one_super scope class i row e = by class.parent (parent_of scope.headers scope.class) refl i e
  where
    by : (t : Option Parent) (p : Option ℕ) → parent_of scope.headers scope.class ≡ p → (i : ℕ) → slice_get (option_map_or (λ tree. option_map_or (λ parent. record { class = scope.class; parent = parent_meant scope tree parent } ∷ []) p []) t []) i ≡ Some row → IsSuper scope.headers row
    by None p is i e = cc
    by (Some tree) None is i e = cc
    by (Some tree) (Some above) is zero e =
        let same = some_same e in
        (above, _, ap (λ (r : PlainSuper). parent_of scope.headers r.class) (sym same) ∙ is, ap (λ (r : PlainSuper). r.parent) (sym same))
    by (Some tree) (Some above) is (suc i) e = cc

one_most : (scope : PlainScope) (class : Class) → length (super_rows scope class) ≤ 1
one_most scope class = by class.parent (parent_of scope.headers scope.class)
  where
    by : (t : Option Parent) (p : Option ℕ) → length {A = PlainSuper} (option_map_or (λ tree. option_map_or (λ parent. record { class = scope.class; parent = parent_meant scope tree parent } ∷ []) p []) t []) ≤ 1
    by None p = omega arith
    by (Some tree) None = omega arith
    by (Some tree) (Some above) = omega arith

super_comes : (headers : Headers) (all : List (List Constraint)) (at : ℕ) (classes : List Class) (i : ℕ) (row : PlainSuper) → slice_get (supers_meant headers all at classes) i ≡ Some row → IsSuper headers row
super_comes headers all at [] i row e = cc
super_comes headers all at (class ∷ classes) i row e =
    elim (got_either (super_rows (class_scope headers all (as_number at)) class) (supers_meant headers all (at + 1) classes) i row e) [
      | inl here ↦ one_super (class_scope headers all (as_number at)) class i row here
      | inr more ↦ super_comes headers all (at + 1) classes more.0 row more.2
    ]

supers_few : (headers : Headers) (all : List (List Constraint)) (at : ℕ) (classes : List Class) → length (supers_meant headers all at classes) ≤ length classes
supers_few headers all at [] = omega arith
supers_few headers all at (class ∷ classes) =
    let scope = class_scope headers all (as_number at) in
    let one = one_most scope class in
    let more = supers_few headers all (at + 1) classes in
    let both = length-append (super_rows scope class) (supers_meant headers all (at + 1) classes) in
    omega (arith, one, more, both)

-- a class with a superclass has such a row
super_there : (headers : Headers) (all : List (List Constraint)) (at : ℕ) (classes : List Class) (i above : ℕ) (class : Class) (tree : Parent) → slice_get classes i ≡ Some class → class.parent ≡ Some tree →
    parent_of headers (as_number (at + i)) ≡ Some above → (j : ℕ) × (row : PlainSuper) × (slice_get (supers_meant headers all at classes) j ≡ Some row) × (row.class ≡ as_number (at + i))
super_there headers all at [] i above class tree e extends is = cc
super_there headers all at (one ∷ classes) zero above class tree e extends is =
    let here : at ≡ at + 0 = omega arith in
    let scope = class_scope headers all (as_number at) in
    let row : PlainSuper = record { class = as_number at; parent = parent_meant scope tree above } in
    let rows : super_rows scope one ≡ row ∷ [] =
    ap (λ t. option_map_or (λ tree. option_map_or (λ parent. record { class = scope.class; parent = parent_meant scope tree parent } ∷ []) (parent_of headers (as_number at)) []) t []) (ap (λ (c : Class). c.parent) (some_same e) ∙ extends)
    ∙ ap (λ p. option_map_or (λ parent. record { class = scope.class; parent = parent_meant scope tree parent } ∷ []) p []) (ap (λ k. parent_of headers (as_number k)) here ∙ is) in
    (0, row, ap (λ rs. slice_get (rs ++ supers_meant headers all (at + 1) classes) 0) rows, ap as_number here)
super_there headers all at (one ∷ classes) (suc i) above class tree e extends is =
    let next : at + 1 + i ≡ at + suc i = omega arith in
    let w = super_there headers all (at + 1) classes i above class tree e extends (ap (λ k. parent_of headers (as_number k)) next ∙ is) in
    let own = super_rows (class_scope headers all (as_number at)) one in
    (length own + w.0, w.1, got_later own (supers_meant headers all (at + 1) classes) (length own + w.0) w.0 w.1 refl w.2, w.3 ∙ ap as_number next)

-- the class that extends another says so in the text
named_there : (named : ℕ → Option ℕ) (classes : List Class) (at above : ℕ) → entry_of (map (named_parent named) classes) at ≡ Some above → (class : Class) × (tree : Parent) × (slice_get classes at ≡ Some class) × (class.parent ≡ Some tree)
named_there named classes at above e =
    let w = and_then_there (λ entry. entry) (slice_get (map (named_parent named) classes) at) above e in
    let c = map_there (named_parent named) (slice_get classes at) w.0 (sym (slice_get-map (named_parent named) classes at) ∙ w.1) in
    let t = and_then_there (λ (parent : Parent). named parent.name.name) c.0.parent above (c.2 ∙ w.2) in
    (c.0, t.0, c.1, t.1)

module _ (program : Program) (table : Table) (bodies : List PlainBody) (accepted : IsAccepted program table bodies)
  where
    -- the superclasses in the headers are those in the text
    pub parents_same : parents_of (headers_of table) ≡ parents_in program.classes
    parents_same = ap parents_of (granted accepted.rows).headers ∙ parents_gathered program.classes (headers_in program).rows _ refl

    pub parent_entry : (at : ℕ) → parent_of (headers_of table) at ≡ entry_of (parents_in program.classes) at
    parent_entry at = parent_is table at ∙ ap (λ ps. entry_of ps at) parents_same

    supers_said : map plain_super (supers_of table) ≡ supers_meant (headers_of table) (all_given table) 0 program.classes
    supers_said = (granted accepted.rows).read.supers

    few : length (supers_of table) < 4294967295
    few =
        let all = supers_few (headers_of table) (all_given table) 0 program.classes in
        let long = ap length supers_said in
        let same = length-map (supers_of table) plain_super in
        let counted = accepted.rows.counted.0 in
        omega (arith, all, long, same, counted)

    -- there is a row of it
    place_there : (at above : ℕ) → parent_of (headers_of table) at ≡ Some above → (f : ℕ) × (super_place (supers_of table) at ≡ Some f)
    place_there at above is =
        let t = named_there (class_named program.classes) program.classes at above (sym (parent_entry at) ∙ is) in
        let within = slice_get_within program.classes at t.0 t.2 in
        let counted = accepted.rows.counted.0 in
        let number : as_number (0 + at) ≡ at = omega (arith, within, counted) in
        let s = super_there (headers_of table) (all_given table) 0 program.classes at above t.0 t.1 t.2 t.3 (ap (parent_of (headers_of table)) number ∙ is) in
        row_for s.0 s.1 s.2 (s.3 ∙ number)
      where
        row_for : (j : ℕ) (plain : PlainSuper) → slice_get (supers_meant (headers_of table) (all_given table) 0 program.classes) j ≡ Some plain → plain.class ≡ at → (f : ℕ) × (super_place (supers_of table) at ≡ Some f)
        row_for j plain e own =
            let r = map_there plain_super (slice_get (supers_of table) j) plain (sym (slice_get-map plain_super (supers_of table) j) ∙ ap (λ rows. slice_get rows j) supers_said ∙ e) in
            last_some (is_super_of at) by_place 0 None (supers_of table) j r.0 r.1 ((Decides-eqb r.0.class at).1 (ap (λ (row : PlainSuper). row.class) r.2 ∙ own))

    -- a row says what the headers say
    row_says : (at above i : ℕ) (row : Super) → parent_of (headers_of table) at ≡ Some above → slice_get (supers_of table) i ≡ Some row → row.class ≡ at → (args : List Rpl) × (plain_type row.parent ≡ ty.class above args)
    row_says at above i row is e own =
        let plain = ap (λ rows. slice_get rows i) (sym supers_said) ∙ got_mapped plain_super (supers_of table) i row e in
        let c = super_comes (headers_of table) (all_given table) 0 program.classes i (plain_super row) plain in
        (c.1, c.3 ∙ ap (λ k. ty.class k c.1) (some_same (sym c.2 ∙ ap (parent_of (headers_of table)) own ∙ is)))

    type_from : (at above f : ℕ) (row : Super) (args : List Rpl) → super_place (supers_of table) at ≡ Some f → slice_get (supers_of table) f ≡ Some row → plain_type row.parent ≡ ty.class above args →
        option_map plain_type (parent_type_of table at) ≡ Some (ty.class above (parent_args_of table at))
    type_from at above f row args found e says = ap (option_map plain_type) got ∙ ap Some (says ∙ ap (ty.class above) (sym args_are))
      where
        got : parent_type_of table at ≡ Some row.parent
        got =
            ap (λ o. option_map (λ (row : Super). row.parent) (option_and_then (λ place. slice_get (supers_of table) place) o)) found
            ∙ ap (option_map (λ (row : Super). row.parent)) e

        args_are : parent_args_of table at ≡ args
        args_are = ap (λ o. option_map_or (λ (parent : Ty). class_paths (plain_type parent)) o []) got ∙ ap class_paths says

    -- the superclass of a class as a type
    pub parent_type : (at above : ℕ) → parent_of (headers_of table) at ≡ Some above → option_map plain_type (parent_type_of table at) ≡ Some (ty.class above (parent_args_of table at))
    parent_type at above is =
        let f = place_there at above is in
        elim (last_there (is_super_of at) by_place 0 None (supers_of table) f.0 f.1) [
          | inl none ↦ absurd (cc (none))
          | inr w ↦ by f.0 f.1 w.0 w.1 w.2 ((Decides-eqb w.1.class at).0 w.3) w.4
        ]
      where
        by : (f : ℕ) → super_place (supers_of table) at ≡ Some f → (i : ℕ) (row : Super) → slice_get (supers_of table) i ≡ Some row → row.class ≡ at → as_number (0 + i) ≡ f →
            option_map plain_type (parent_type_of table at) ≡ Some (ty.class above (parent_args_of table at))
        by f found i row e own place =
            let within = slice_get_within (supers_of table) i row e in
            let small = few in
            let here : i ≡ f = omega (arith, within, small, place) in
            let says = row_says at above i row is e own in
            type_from at above f row says.0 found (ap (slice_get (supers_of table)) (sym here) ∙ e) says.1
