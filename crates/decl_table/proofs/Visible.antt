-- On the way through the classes each method is found to override what its name means in the superclasses of its class.
use Rattle.std.proofs.Common.{◌≡◌, ◌≢◌, ◌∙◌, ℕ, zero, suc, ◌+◌, ◌<◌, ◌==◌, Bool, true, false, not, ◌&&◌, ◌||◌, cond, List, [], ◌∷◌, ◌++◌, length, length-set, get_or, get_or-set_same, get_or-set_other, replicate, slice_set, inl, inr, Option, None, Some, refl, ap, sym, subst, append_assoc, arith}
use Rattle.std.proofs.lemmas.Bool.{cases_eq, cases_lt}
use Rattle.std.proofs.lemmas.Bool.Decides.{eqb_tells}
use Rattle.std.proofs.lemmas.List.{set_past, length-replicate}
use Rattle.std.specs.List.{list_any}
use Rattle.std.specs.Option.{option_and_then, option_map_or}
use Rattle.std.specs.Prelude.{slice_get, slice_index_or}
use Rattle.decl_headers.specs.declared.forest.Step.{Step}
use Rattle.decl_headers.specs.declared.forest.Step.TheVariants as step
use Rattle.decl_headers.specs.Headers.{chain, nearest}
use Rattle.decl_headers.specs.Rounds.{entry_of, superclasses}
use Rattle.decl_headers.specs.Way.{IsForest, extensions, extending, roots, last_first, walk, walks, way_of, deep}
use Rattle.decl_headers.proofs.Among.{among_either}
use Rattle.decl_headers.proofs.Cycles.{entry_within}
use Rattle.decl_headers.proofs.Order.{Among}
use Rattle.decl_headers.proofs.Trees.{child_up, root_is}
use Rattle.decl_headers.proofs.Walks.{superclasses_step, inside, insides, all_inside}
use Rattle.decl_table.specs.declared.overridden.Own.{Own}
use Rattle.decl_table.specs.declared.rows.MethodRow.{MethodRow}
use Rattle.decl_table.specs.Places.{last_from, by_id, is_method_of, method_number}
use Rattle.decl_table.specs.Places.{entry_at}
use Rattle.decl_table.specs.Visible.{own_row, with_own, all_own, all_overriding, all_in_front, all_after, Seen, none_seen, after_step, after_way, overridden_on_way}

append_nil : {A : Type 0} (xs : List A) → xs ++ [] ≡ xs
append_nil [] = refl
append_nil (x ∷ xs) = ap (λ z. x ∷ z) (append_nil xs)

-- entries that are put
entry_is : (xs : List (Option ℕ)) (at : ℕ) → entry_at xs at ≡ get_or xs at None
entry_is [] at = refl
entry_is (x ∷ xs) zero = refl
entry_is (x ∷ xs) (suc at) = entry_is xs at

put_same : (xs : List (Option ℕ)) (at : ℕ) (e : Option ℕ) → at < length xs → entry_at (slice_set xs at e) at ≡ e
put_same xs at e l = entry_is (slice_set xs at e) at ∙ get_or-set_same xs at e None l

put_other : (xs : List (Option ℕ)) (at other : ℕ) (e : Option ℕ) → other ≢ at → entry_at (slice_set xs at e) other ≡ entry_at xs other
put_other xs at other e ne = entry_is (slice_set xs at e) other ∙ get_or-set_other xs at other e None ne ∙ sym (entry_is xs other)

none_put : (count at : ℕ) → ◌≡◌ {A = Option ℕ} (entry_at {A = ℕ} (replicate count None) at) None
none_put zero at = refl
none_put (suc count) zero = refl
none_put (suc count) (suc at) = none_put count at

-- the methods that a class itself declares, of rows counted on from a place
abbrev pub own_from : ℕ → ℕ → List MethodRow → List Own
own_from class at [] = []
own_from class at (row ∷ rows) =
    cond (not row.is_constructor && (row.owner == class)) (own_row at row ∷ own_from class (at + 1) rows) (own_from class (at + 1) rows)

pub own_length : (lists : List (List Own)) (at : ℕ) (row : MethodRow) → length (with_own lists at row) ≡ length lists
own_length lists at row =
    elim row.is_constructor as (λ b. length (cond b lists (slice_set lists row.owner (slice_index_or lists row.owner [] ++ own_row at row ∷ []))) ≡ length lists) [
      | true ↦ refl
      | false ↦ length-set lists row.owner (slice_index_or lists row.owner [] ++ own_row at row ∷ [])
    ]

own_step : (lists : List (List Own)) (at : ℕ) (row : MethodRow) (class : ℕ) (rest : List Own) → class < length lists →
    slice_index_or (with_own lists at row) class [] ++ rest ≡ slice_index_or lists class [] ++ cond (not row.is_constructor && (row.owner == class)) (own_row at row ∷ rest) rest
own_step lists at row class rest l =
    elim row.is_constructor as (λ b. slice_index_or (cond b lists new) class [] ++ rest ≡ here ++ cond (not b && (row.owner == class)) (own_row at row ∷ rest) rest) [
      | true ↦ refl
      | false ↦ elim (eqb_tells row.owner class) [
        | inl p ↦
            ap (λ k. slice_index_or new k [] ++ rest) (sym p.1)
            ∙ ap (λ z. z ++ rest) (get_or-set_same lists row.owner (slice_index_or lists row.owner [] ++ own_row at row ∷ []) [] (subst (λ k. k < length lists) (sym p.1) l))
            ∙ append_assoc (slice_index_or lists row.owner []) (own_row at row ∷ []) rest
            ∙ ap (λ k. slice_index_or lists k [] ++ own_row at row ∷ rest) p.1
            ∙ ap (λ b. here ++ cond b (own_row at row ∷ rest) rest) (sym p.0)
        | inr q ↦
            ap (λ z. z ++ rest) (get_or-set_other lists row.owner class (slice_index_or lists row.owner [] ++ own_row at row ∷ []) [] (λ e. q.1 (sym e)))
            ∙ ap (λ b. here ++ cond b (own_row at row ∷ rest) rest) (sym q.0)
      ]
    ]
  where
    here : List Own
    here = slice_index_or lists class []

    new : List (List Own)
    new = slice_set lists row.owner (slice_index_or lists row.owner [] ++ own_row at row ∷ [])

own_filed : (lists : List (List Own)) (at : ℕ) (rows : List MethodRow) (class : ℕ) → class < length lists → slice_index_or (all_own lists at rows) class [] ≡ slice_index_or lists class [] ++ own_from class at rows
own_filed lists at [] class l = sym (append_nil (slice_index_or lists class []))
own_filed lists at (row ∷ rows) class l =
    own_filed (with_own lists at row) (at + 1) rows class (omega (arith, own_length lists at row))
    ∙ own_step lists at row class (own_from class (at + 1) rows) l

-- of each class the methods that it declares are listed
pub own_listed : (count : ℕ) (rows : List MethodRow) (class : ℕ) → class < count → slice_index_or (all_own (replicate count []) 0 rows) class [] ≡ own_from class 0 rows
own_listed count rows class l =
    own_filed (replicate count []) 0 rows class (omega (arith, length-replicate {A = List Own} count []))
    ∙ ap (λ z. z ++ own_from class 0 rows) (none count class)
  where
    none : (count at : ℕ) → ◌≡◌ {A = List Own} (get_or (replicate count []) at []) []
    none zero at = refl
    none (suc count) zero = refl
    none (suc count) (suc at) = none count at

-- a method that is listed has a row
record IsOwn (class : ℕ) (at : ℕ) (rows : List MethodRow) (own : Own) : Type 0 where
  place : ℕ
  row : MethodRow
  there : slice_get rows place ≡ Some row
  is : own ≡ own_row (at + place) row
  method : row.is_constructor ≡ false
  owner : row.owner ≡ class

own_among : (class at : ℕ) (rows : List MethodRow) (own : Own) → Among own (own_from class at rows) → IsOwn class at rows own
own_among class at [] own h = absurd h
own_among class at (row ∷ rows) own h = by row.is_constructor (row.owner == class) refl refl h (λ k. later (own_among class (at + 1) rows own k))
  where
    later : IsOwn class (at + 1) rows own → IsOwn class at (row ∷ rows) own
    later w =
        let next : at + 1 + w.place ≡ at + suc w.place = omega arith in
        record { place = suc w.place; row = w.row; there = w.there; is = w.is ∙ ap (λ k. own_row k w.row) next; method = w.method; owner = w.owner }

    first : row.is_constructor ≡ false → (row.owner == class) ≡ true → own ≡ own_row at row → IsOwn class at (row ∷ rows) own
    first method same e =
        let none : at ≡ at + 0 = omega arith in
        let owner : row.owner ≡ class = elim (eqb_tells row.owner class) [ inl p ↦ p.1 | inr q ↦ cc (q.0, same) ] in
        record { place = 0; row = row; there = refl; is = e ∙ ap (λ k. own_row k row) none; method = method; owner = owner }

    by : (c o : Bool) → row.is_constructor ≡ c → (row.owner == class) ≡ o → Among own (cond (not c && o) (own_row at row ∷ own_from class (at + 1) rows) (own_from class (at + 1) rows)) →
        (Among own (own_from class (at + 1) rows) → IsOwn class at (row ∷ rows) own) → IsOwn class at (row ∷ rows) own
    by true o e f k more = more k
    by false false e f k more = more k
    by false true e f (inl is) more = first e f is
    by false true e f (inr k) more = more k

-- and each row of a method is listed
among_own : (class at : ℕ) (rows : List MethodRow) (place : ℕ) (row : MethodRow) → slice_get rows place ≡ Some row → row.is_constructor ≡ false → row.owner ≡ class → Among (own_row (at + place) row) (own_from class at rows)
among_own class at [] place row there method owner = cc
among_own class at (one ∷ rows) zero row there method owner =
    let same : one ≡ row = cc in
    let none : at + 0 ≡ at = omega arith in
    let mine : (row.owner == class) ≡ true = elim (eqb_tells row.owner class) [ inl p ↦ p.0 | inr q ↦ absurd (q.1 owner) ] in
    let listed : (not one.is_constructor && (one.owner == class)) ≡ true =
    ap (λ r. not r.is_constructor && (r.owner == class)) same ∙ ap (λ b. not b && (row.owner == class)) method ∙ mine in
    subst (λ b. Among (own_row (at + 0) row) (cond b (own_row at one ∷ own_from class (at + 1) rows) (own_from class (at + 1) rows))) (sym listed)
    (inl (ap (λ k. own_row k row) none ∙ ap (own_row at) (sym same)))
among_own class at (one ∷ rows) (suc place) row there method owner =
    let next : at + 1 + place ≡ at + suc place = omega arith in
    by (not one.is_constructor && (one.owner == class)) (subst (λ k. Among (own_row k row) (own_from class (at + 1) rows)) next (among_own class (at + 1) rows place row there method owner))
  where
    by : (b : Bool) → Among (own_row (at + suc place) row) (own_from class (at + 1) rows) → Among (own_row (at + suc place) row) (cond b (own_row at one ∷ own_from class (at + 1) rows) (own_from class (at + 1) rows))
    by true k = inr k
    by false k = k

-- the last of the methods of that name
abbrev last_named : ℕ → Option ℕ → List Own → Option ℕ
last_named name found [] = found
last_named name found (own ∷ more) = last_named name (cond (own.name == name) (Some own.id) found) more

own_last : (class name at : ℕ) (found : Option ℕ) (rows : List MethodRow) → last_named name found (own_from class at rows) ≡ last_from (is_method_of class name) by_id at found rows
own_last class name at found [] = refl
own_last class name at found (row ∷ rows) =
    by row.is_constructor (row.owner == class) ∙ own_last class name (at + 1) (cond (is_method_of class name row) (Some row.id) found) rows
  where
    by : (c o : Bool) → last_named name found (cond (not c && o) (own_row at row ∷ own_from class (at + 1) rows) (own_from class (at + 1) rows))
        ≡ last_named name (cond (not c && (o && (row.name == name))) (Some row.id) found) (own_from class (at + 1) rows)
    by true o = refl
    by false true = refl
    by false false = refl

last_else : (name : ℕ) (found : Option ℕ) (owns : List Own) → last_named name found owns ≡ option_map_or (λ id. Some id) (last_named name None owns) found
last_else name found [] = refl
last_else name found (own ∷ more) =
    last_else name (cond (own.name == name) (Some own.id) found) more
    ∙ by (own.name == name) (last_named name None more)
    ∙ ap (λ o. option_map_or (λ id. Some id) o found) (sym (last_else name (cond (own.name == name) (Some own.id) None) more))
  where
    by : (b : Bool) (o : Option ℕ) → option_map_or (λ id. Some id) o (cond b (Some own.id) found) ≡ option_map_or (λ id. Some id) (option_map_or (λ id. Some id) o (cond b (Some own.id) None)) found
    by b (Some id) = refl
    by true None = refl
    by false None = refl

-- a method of that name is among them
abbrev is_named : ℕ → List Own → Bool
is_named name owns = list_any (λ own. own.name == name) owns

last_none : (name : ℕ) (found : Option ℕ) (owns : List Own) → is_named name owns ≡ false → last_named name found owns ≡ found
last_none name found [] h = refl
last_none name found (own ∷ more) h = by (own.name == name) h (λ k. last_none name found more k)
  where
    by : (b : Bool) → (b || is_named name more) ≡ false → (is_named name more ≡ false → last_named name found more ≡ found) → last_named name (cond b (Some own.id) found) more ≡ found
    by true k more_of = cc
    by false k more_of = more_of k

-- entries that are each what they are to be, or stay as they were
record Kept (f : ℕ → Option ℕ) (old new : List (Option ℕ)) : Type 0 where
  as_many : length new ≡ length old
  same : (at : ℕ) → entry_at old at ≡ f at → entry_at new at ≡ f at

kept_all : (f : ℕ → Option ℕ) (xs : List (Option ℕ)) → Kept f xs xs
kept_all f xs = record { as_many = refl; same = λ at h. h }

kept_then : (f : ℕ → Option ℕ) (xs ys zs : List (Option ℕ)) → Kept f xs ys → Kept f ys zs → Kept f xs zs
kept_then f xs ys zs h k = record { as_many = k.as_many ∙ h.as_many; same = λ at e. k.same at (h.same at e) }

kept_put : (f : ℕ → Option ℕ) (xs : List (Option ℕ)) (at : ℕ) (e : Option ℕ) → e ≡ f at → Kept f xs (slice_set xs at e)
kept_put f xs at e is = record {
  as_many = length-set xs at e;
  same = λ other h.
      elim (cases_eq other at) [
        | inl s ↦ elim (cases_lt at (length xs)) [
          | inl l ↦ ap (entry_at (slice_set xs at e)) s ∙ put_same xs at e l ∙ is ∙ ap f (sym s)
          | inr g ↦ ap (λ z. entry_at z other) (set_past xs at e g) ∙ h
        ]
        | inr ne ↦ put_other xs at other e ne ∙ h
      ];
}

overriding_kept : (f : ℕ → Option ℕ) (visible overridden : List (Option ℕ)) (owns : List Own) → ((own : Own) → Among own owns → entry_at visible own.name ≡ f own.row) → Kept f overridden (all_overriding visible overridden owns)
overriding_kept f visible overridden [] h = kept_all f overridden
overriding_kept f visible overridden (own ∷ more) h =
    let next = slice_set overridden own.row (entry_at visible own.name) in
    kept_then f overridden next (all_overriding visible next more) (kept_put f overridden own.row (entry_at visible own.name) (h own (inl refl)))
    (overriding_kept f visible next more (λ other k. h other (inr k)))

overriding_found : (f : ℕ → Option ℕ) (visible overridden : List (Option ℕ)) (owns : List Own) → ((own : Own) → Among own owns → entry_at visible own.name ≡ f own.row) → (own : Own) → Among own owns → own.row < length overridden → entry_at (all_overriding visible overridden owns) own.row ≡ f own.row
overriding_found f visible overridden [] h own k l = absurd k
overriding_found f visible overridden (one ∷ more) h own (inl e) l =
    let next = slice_set overridden one.row (entry_at visible one.name) in
    let within : one.row < length overridden = subst (λ (o : Own). o.row < length overridden) e l in
    let here : entry_at next one.row ≡ f one.row = put_same overridden one.row (entry_at visible one.name) within ∙ h one (inl refl) in
    (overriding_kept f visible next more (λ other k. h other (inr k))).same own.row (subst (λ (o : Own). entry_at next o.row ≡ f o.row) (sym e) here)
overriding_found f visible overridden (one ∷ more) h own (inr k) l =
    let next = slice_set overridden one.row (entry_at visible one.name) in
    overriding_found f visible next more (λ other j. h other (inr j)) own k (omega (arith, length-set overridden one.row (entry_at visible one.name)))

-- what a name means in the first of the classes that declares it
abbrev meaning : List MethodRow → List ℕ → ℕ → Option ℕ
meaning rows classes name = nearest (λ class. method_number rows class name) classes

-- what the method of a row overrides
abbrev pub overriding : List MethodRow → List (Option ℕ) → MethodRow → Option ℕ
overriding rows parents row = cond row.is_constructor None (meaning rows (superclasses parents row.owner) row.name)

abbrev pub overriding_at : List MethodRow → List (Option ℕ) → ℕ → Option ℕ
overriding_at rows parents at = option_and_then (overriding rows parents) (slice_get rows at)

-- each name is seen to mean what it means in the classes
record Shows (names : ℕ) (rows : List MethodRow) (classes : List ℕ) (visible : List (Option ℕ)) : Type 0 where
  each : length visible ≡ names
  shown : (name : ℕ) → name < names → entry_at visible name ≡ meaning rows classes name

-- a class is entered
front_entry : (visible : List (Option ℕ)) (owns : List Own) (name : ℕ) → name < length visible → entry_at (all_in_front visible owns) name ≡ last_named name (entry_at visible name) owns
front_entry visible [] name l = refl
front_entry visible (own ∷ more) name l =
    front_entry (slice_set visible own.name (Some own.id)) more name (omega (arith, length-set visible own.name (Some own.id)))
    ∙ ap (λ found. last_named name found more) here
  where
    here : entry_at (slice_set visible own.name (Some own.id)) name ≡ cond (own.name == name) (Some own.id) (entry_at visible name)
    here =
        elim (eqb_tells own.name name) [
          | inl p ↦
              ap (λ k. entry_at (slice_set visible k (Some own.id)) name) p.1 ∙ put_same visible name (Some own.id) l
              ∙ ap (λ b. cond b (Some own.id) (entry_at visible name)) (sym p.0)
          | inr q ↦
              put_other visible own.name name (Some own.id) (λ e. q.1 (sym e))
              ∙ ap (λ b. cond b (Some own.id) (entry_at visible name)) (sym q.0)
        ]

front_length : (visible : List (Option ℕ)) (owns : List Own) → length (all_in_front visible owns) ≡ length visible
front_length visible [] = refl
front_length visible (own ∷ more) = front_length (slice_set visible own.name (Some own.id)) more ∙ length-set visible own.name (Some own.id)

front_shows : (names : ℕ) (rows : List MethodRow) (class : ℕ) (classes : List ℕ) (visible : List (Option ℕ)) → Shows names rows classes visible → Shows names rows (class ∷ classes) (all_in_front visible (own_from class 0 rows))
front_shows names rows class classes visible h = record {
  each = front_length visible owns ∙ h.each;
  shown = λ name l.
      front_entry visible owns name (omega (arith, h.each))
      ∙ last_else name (entry_at visible name) owns
      ∙ ap (λ o. option_map_or (λ id. Some id) o (entry_at visible name)) (own_last class name 0 None rows)
      ∙ ap (option_map_or (λ id. Some id) (method_number rows class name)) (h.shown name l);
}
  where
    owns : List Own
    owns = own_from class 0 rows

-- it is left again
after_entry : (overridden visible : List (Option ℕ)) (owns : List Own) (before : ℕ → Option ℕ) (name : ℕ) → name < length visible → ((own : Own) → Among own owns → entry_at overridden own.row ≡ before own.name) →
    (is_named name owns ≡ false → entry_at visible name ≡ before name) → entry_at (all_after overridden visible owns) name ≡ before name
after_entry overridden visible [] before name l owned rest = rest refl
after_entry overridden visible (own ∷ more) before name l owned rest =
    after_entry overridden (slice_set visible own.name (entry_at overridden own.row)) more before name (omega (arith, length-set visible own.name (entry_at overridden own.row))) (λ other k. owned other (inr k))
    (λ none.
    elim (eqb_tells own.name name) [
      | inl p ↦
          ap (λ k. entry_at (slice_set visible k (entry_at overridden own.row)) name) p.1
          ∙ put_same visible name (entry_at overridden own.row) l ∙ owned own (inl refl) ∙ ap before p.1
      | inr q ↦
          put_other visible own.name name (entry_at overridden own.row) (λ e. q.1 (sym e))
          ∙ rest (ap (λ b. b || is_named name more) q.0 ∙ none)
    ])

after_length : (overridden visible : List (Option ℕ)) (owns : List Own) → length (all_after overridden visible owns) ≡ length visible
after_length overridden visible [] = refl
after_length overridden visible (own ∷ more) =
    after_length overridden (slice_set visible own.name (entry_at overridden own.row)) more ∙ length-set visible own.name (entry_at overridden own.row)

after_shows : (names : ℕ) (rows : List MethodRow) (class : ℕ) (classes : List ℕ) (overridden visible : List (Option ℕ)) → Shows names rows (class ∷ classes) visible → ((own : Own) → Among own (own_from class 0 rows) → entry_at overridden own.row ≡ meaning rows classes own.name) →
    Shows names rows classes (all_after overridden visible (own_from class 0 rows))
after_shows names rows class classes overridden visible h owned = record {
  each = after_length overridden visible owns ∙ h.each;
  shown = λ name l.
      after_entry overridden visible owns (meaning rows classes) name (omega (arith, h.each)) owned
      (λ none. h.shown name l ∙ ap (λ o. option_map_or (λ id. Some id) o (meaning rows classes name)) (sym (own_last class name 0 None rows) ∙ last_none name None owns none));
}
  where
    owns : List Own
    owns = own_from class 0 rows

-- the rows, whose names and classes are counted
pub record AreRows (names : ℕ) (rows : List MethodRow) (parents : List (Option ℕ)) : Type 0 where
  pub sound : IsForest parents
  pub named : (at : ℕ) (row : MethodRow) → slice_get rows at ≡ Some row → row.name < names
  pub owned : (at : ℕ) (row : MethodRow) → slice_get rows at ≡ Some row → row.owner < length parents

abbrev listed : List MethodRow → List (Option ℕ) → List (List Own)
listed rows parents = all_own (replicate (length parents) []) 0 rows

-- what a listed method overrides, and where it stands
own_meaning : (names : ℕ) (rows : List MethodRow) (parents : List (Option ℕ)) (class : ℕ) (own : Own) → AreRows names rows parents → Among own (own_from class 0 rows) →
    (own.name < names) × (own.row < length rows) × (overriding_at rows parents own.row ≡ meaning rows (superclasses parents class) own.name)
own_meaning names rows parents class own are h =
    let w = own_among class 0 rows own h in
    let on : 0 + w.place ≡ w.place = omega arith in
    let at_row : own.row ≡ w.place = ap (λ (o : Own). o.row) w.is ∙ on in
    let name : own.name ≡ w.row.name = ap (λ (o : Own). o.name) w.is in
    let there : slice_get rows own.row ≡ Some w.row = ap (slice_get rows) at_row ∙ w.there in (
      subst (λ k. k < names) (sym name) (are.named w.place w.row w.there),
      got_within rows own.row w.row there,
      ap (option_and_then (overriding rows parents)) there
          ∙ ap (λ b. cond b None (meaning rows (superclasses parents w.row.owner) w.row.name)) w.method
          ∙ ap (λ k. meaning rows (superclasses parents k) w.row.name) w.owner
          ∙ ap (meaning rows (superclasses parents class)) (sym name),
    )
  where
    got_within : (xs : List MethodRow) (at : ℕ) (row : MethodRow) → slice_get xs at ≡ Some row → at < length xs
    got_within [] at row is = cc
    got_within (x ∷ xs) zero row is = omega arith
    got_within (x ∷ xs) (suc at) row is = let l = got_within xs at row is in omega arith

after-append : (lists : List (List Own)) (seen : Seen) (xs ys : List Step) → after_way lists seen (xs ++ ys) ≡ after_way lists (after_way lists seen xs) ys
after-append lists seen [] ys = refl
after-append lists seen (x ∷ xs) ys = after-append lists (after_step lists seen x) xs ys

-- steps through some classes, after which the names mean what they meant, and each method of the classes is found to
-- override what it does
record Walked (names : ℕ) (rows : List MethodRow) (parents : List (Option ℕ)) (above : List ℕ) (old new : Seen) (through : List ℕ) : Type 0 where
  shows : Shows names rows above new.visible
  kept : Kept (overriding_at rows parents) old.overridden new.overridden
  found : (class : ℕ) (own : Own) → Among class through → class < length parents → Among own (own_from class 0 rows) → entry_at new.overridden own.row ≡ overriding_at rows parents own.row

-- about to walk
record Ready (names : ℕ) (rows : List MethodRow) (above : List ℕ) (seen : Seen) : Type 0 where
  shows : Shows names rows above seen.visible
  each : length seen.overridden ≡ length rows

ready_after : (names : ℕ) (rows : List MethodRow) (parents : List (Option ℕ)) (above : List ℕ) (old new : Seen) (through : List ℕ) → Ready names rows above old → Walked names rows parents above old new through → Ready names rows above new
ready_after names rows parents above old new through ready walked = record {
  shows = record { each = walked.shows.each; shown = walked.shows.shown };
  each = walked.kept.as_many ∙ ready.each;
}

walked_then : (names : ℕ) (rows : List MethodRow) (parents : List (Option ℕ)) (above : List ℕ) (old mid new : Seen) (first more : List ℕ) → Walked names rows parents above old mid first → Walked names rows parents above mid new more → Walked names rows parents above old new (first ++ more)
walked_then names rows parents above old mid new first more h k = record {
  shows = record { each = k.shows.each; shown = k.shows.shown };
  kept = kept_then (overriding_at rows parents) old.overridden mid.overridden new.overridden h.kept k.kept;
  found = λ class own j l among.
      elim (among_either class first more j) [
        | inl before ↦ k.kept.same own.row (h.found class own before l among)
        | inr after ↦ k.found class own after l among
      ];
}

-- each of the classes is walked through, whatever was seen before
abbrev WalksThrough : ℕ → List MethodRow → List (Option ℕ) → List ℕ → List Step → List ℕ → Type 0
WalksThrough names rows parents above steps through =
    (seen : Seen) → Ready names rows above seen → Walked names rows parents above seen (after_way (listed rows parents) seen steps) through

walks_none : (names : ℕ) (rows : List MethodRow) (parents : List (Option ℕ)) (above : List ℕ) → WalksThrough names rows parents above [] []
walks_none names rows parents above seen ready = record {
  shows = record { each = ready.shows.each; shown = ready.shows.shown };
  kept = kept_all (overriding_at rows parents) seen.overridden;
  found = λ class own j l among. absurd j;
}

walks_then : (names : ℕ) (rows : List MethodRow) (parents : List (Option ℕ)) (above : List ℕ) (xs ys : List Step) (first more : List ℕ) → WalksThrough names rows parents above xs first → WalksThrough names rows parents above ys more → WalksThrough names rows parents above (xs ++ ys) (first ++ more)
walks_then names rows parents above xs ys first more h k seen ready =
    let lists = listed rows parents in
    let mid = after_way lists seen xs in
    let one = h seen ready in
    let two = k mid (ready_after names rows parents above seen mid first ready one) in
    subst (λ new. Walked names rows parents above seen new (first ++ more)) (sym (after-append lists seen xs ys))
    (walked_then names rows parents above seen mid (after_way lists mid ys) first more one two)

walks_last : (names : ℕ) (rows : List MethodRow) (parents : List (Option ℕ)) (above : List ℕ) (f : ℕ → List Step) (g : ℕ → List ℕ) (numbers : List ℕ) → ((one : ℕ) → Among one numbers → WalksThrough names rows parents above (f one) (g one)) →
    WalksThrough names rows parents above (last_first f numbers) (last_first g numbers)
walks_last names rows parents above f g [] h = walks_none names rows parents above
walks_last names rows parents above f g (one ∷ numbers) h =
    walks_then names rows parents above (last_first f numbers) (f one) (last_first g numbers) (g one)
    (walks_last names rows parents above f g numbers (λ other k. h other (inr k))) (h one (inl refl))

-- into a class, through what extends it, and out again
walk_deeper : (names : ℕ) (rows : List MethodRow) (parents : List (Option ℕ)) (class : ℕ) (down : List Step) (below : List ℕ) → AreRows names rows parents → class < length parents → WalksThrough names rows parents (class ∷ superclasses parents class) down below →
    WalksThrough names rows parents (superclasses parents class) (step.Enter class ∷ (down ++ step.Leave class ∷ [])) (class ∷ below)
walk_deeper names rows parents class down below are l inner seen ready =
    subst (λ new. Walked names rows parents above seen new (class ∷ below)) (sym (after-append lists into down (step.Leave class ∷ []))) (record {
      shows = subst (λ owns. Shows names rows above (all_after bottom.overridden bottom.visible owns)) (sym is)
          (after_shows names rows class above bottom.overridden bottom.visible (record { each = through.shows.each; shown = through.shows.shown })
          (λ own k. through.kept.same own.row (entered own k) ∙ (own_meaning names rows parents class own are k).2));
      kept = kept_then (overriding_at rows parents) seen.overridden into.overridden bottom.overridden entering through.kept;
      found = λ one own j m among.
          elim j [
            | inl e ↦ through.kept.same own.row (entered own (subst (λ k. Among own (own_from k 0 rows)) e among))
            | inr k ↦ through.found one own k m among
          ];
    })
  where
    above : List ℕ
    above = superclasses parents class

    lists : List (List Own)
    lists = listed rows parents

    is : slice_index_or lists class [] ≡ own_from class 0 rows
    is = own_listed (length parents) rows class l

    into : Seen
    into = after_step lists seen (step.Enter class)

    bottom : Seen
    bottom = after_way lists into down

    meant : (own : Own) → Among own (own_from class 0 rows) → entry_at seen.visible own.name ≡ overriding_at rows parents own.row
    meant own k =
        let w = own_meaning names rows parents class own are k in
        ready.shows.shown own.name w.0 ∙ sym w.2

    entering : Kept (overriding_at rows parents) seen.overridden into.overridden
    entering =
        subst (λ owns. Kept (overriding_at rows parents) seen.overridden (all_overriding seen.visible seen.overridden owns)) (sym is)
        (overriding_kept (overriding_at rows parents) seen.visible seen.overridden (own_from class 0 rows) meant)

    entered : (own : Own) → Among own (own_from class 0 rows) → entry_at into.overridden own.row ≡ overriding_at rows parents own.row
    entered own k =
        ap (λ owns. entry_at (all_overriding seen.visible seen.overridden owns) own.row) is
        ∙ overriding_found (overriding_at rows parents) seen.visible seen.overridden (own_from class 0 rows) meant own k
        (let w = own_meaning names rows parents class own are k in omega (arith, w.1, ready.each))

    ready_in : Ready names rows (class ∷ above) into
    ready_in = record {
      shows = subst (λ owns. Shows names rows (class ∷ above) (all_in_front seen.visible owns)) (sym is) (front_shows names rows class above seen.visible (record { each = ready.shows.each; shown = ready.shows.shown }));
      each = entering.as_many ∙ ready.each;
    }

    through : Walked names rows parents (class ∷ above) into bottom below
    through = inner into ready_in

walk_found : (names : ℕ) (rows : List MethodRow) (parents : List (Option ℕ)) (n class : ℕ) → AreRows names rows parents → class < length parents → WalksThrough names rows parents (superclasses parents class) (walk (extensions parents) n class) (inside (extensions parents) n class)
walk_found names rows parents zero class are l = walks_none names rows parents (superclasses parents class)
walk_found names rows parents (suc n) class are l =
    let lists = extensions parents in
    walk_deeper names rows parents class (last_first (λ below. walk lists n below) (extending lists class)) (last_first (λ below. inside lists n below) (extending lists class)) are l
    (walks_last names rows parents (class ∷ superclasses parents class) (λ below. walk lists n below) (λ below. inside lists n below) (extending lists class)
    (λ below k.
    let up = child_up parents class below are.sound.counted k in
    subst (λ above. WalksThrough names rows parents above (walk lists n below) (inside lists n below)) (superclasses_step parents below class are.sound up)
    (walk_found names rows parents n below are (entry_within parents below class up))))

walks_found : (names : ℕ) (rows : List MethodRow) (parents : List (Option ℕ)) (n : ℕ) (numbers : List ℕ) → AreRows names rows parents → ((one : ℕ) → Among one numbers → (one < length parents) × (entry_of parents one ≡ None)) →
    WalksThrough names rows parents [] (walks (extensions parents) n numbers) (insides (extensions parents) n numbers)
walks_found names rows parents n [] are all = walks_none names rows parents []
walks_found names rows parents n (one ∷ numbers) are all =
    let lists = extensions parents in
    let here = all one (inl refl) in
    let top : superclasses parents one ≡ [] = ap (λ o. option_map_or (λ above. chain (entry_of parents) (length parents) above) o []) here.1 in
    walks_then names rows parents [] (walk lists n one) (walks lists n numbers) (inside lists n one) (insides lists n numbers)
    (subst (λ above. WalksThrough names rows parents above (walk lists n one) (inside lists n one)) top (walk_found names rows parents n one are here.0))
    (walks_found names rows parents n numbers are (λ other k. all other (inr k)))

-- what is found on the way is what each method overrides
pub overridden_found : (names : ℕ) (rows : List MethodRow) (parents : List (Option ℕ)) (at : ℕ) → AreRows names rows parents → entry_at (overridden_on_way parents rows names) at ≡ overriding_at rows parents at
overridden_found names rows parents at are = by (slice_get rows at) refl
  where
    start : Seen
    start = none_seen names (length rows)

    walked : Walked names rows parents [] start (after_way (listed rows parents) start (way_of parents)) (insides (extensions parents) (deep parents) (roots 0 parents))
    walked = walks_found names rows parents (deep parents) (roots 0 parents) are (λ one k. root_is parents one are.sound.counted k) start (record {
      shows = record { each = length-replicate {A = Option ℕ} names None; shown = λ name l. none_put names name };
      each = length-replicate {A = Option ℕ} (length rows) None;
    })

    nothing : overriding_at rows parents at ≡ None → entry_at (overridden_on_way parents rows names) at ≡ overriding_at rows parents at
    nothing none = walked.kept.same at (none_put (length rows) at ∙ sym none)

    of_method : (row : MethodRow) → slice_get rows at ≡ Some row → row.is_constructor ≡ false → entry_at (overridden_on_way parents rows names) at ≡ overriding_at rows parents at
    of_method row there method =
        let on : 0 + at ≡ at = omega arith in
        let l = are.owned at row there in
        let own = walked.found row.owner (own_row (0 + at) row) (all_inside parents row.owner are.sound l) l (among_own row.owner 0 rows at row there method refl) in
        subst (λ k. entry_at (overridden_on_way parents rows names) k ≡ overriding_at rows parents k) on own

    by : (o : Option MethodRow) → slice_get rows at ≡ o → entry_at (overridden_on_way parents rows names) at ≡ overriding_at rows parents at
    by None there = nothing (ap (option_and_then (overriding rows parents)) there)
    by (Some row) there = kind row.is_constructor refl
      where
        kind : (c : Bool) → row.is_constructor ≡ c → entry_at (overridden_on_way parents rows names) at ≡ overriding_at rows parents at
        kind true e = nothing (ap (option_and_then (overriding rows parents)) there ∙ ap (λ b. cond b None (meaning rows (superclasses parents row.owner) row.name)) e)
        kind false e = of_method row there e
