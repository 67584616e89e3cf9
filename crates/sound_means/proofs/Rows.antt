-- The rows of a class are those of its superclass, with the methods that it declares itself put in one after the other.
use Rattle.std.proofs.Common.{◌≡◌, ◌≢◌, ◌∙◌, ◌⊎◌, ℕ, zero, suc, ◌+◌, ◌<◌, ◌≤◌, ◌==◌, ◌&&◌, not, is_some, Bool, true, false, cond, List, [], ◌∷◌, ◌++◌, length, map, fold, slice_set, inl, inr, Option, None, Some, option_map, option_and_then, refl, sym, ap, subst, arith}
use Rattle.std.proofs.lemmas.Bool.{cases_eq, eq-eqb, eqb-true, false≢true}
use Rattle.std.proofs.lemmas.List.{length-map}
use Rattle.std.proofs.lemmas.Option.{none-some, slice_get-map}
use Rattle.std.specs.List.{filter, position_from}
use Rattle.std.specs.Option.{option_map_or}
use Rattle.std.specs.Prelude.{slice_get, unwrap_or}
use Rattle.syntax_tree.specs.declared.class.MethodResult.{MethodResult}
use Rattle.syntax_tree.specs.declared.class.MethodResult.TheVariants as outcome
use Rattle.syntax_tree.specs.declared.class.Program.{Program}
use Rattle.syntax_means.specs.Declares.{OwnMethod, all_methods, method_name}
use Rattle.syntax_means.specs.Means.{in_row, row_named, rows_above, with_method, with_methods}
use Rattle.decl_headers.specs.Headers.{chain, nearest, parent_of, parents_of, class_count}
use Rattle.decl_headers.specs.Passes.{is_constructor_result}
use Rattle.decl_headers.specs.Rounds.{up}
use Rattle.decl_headers.proofs.Cycles.{not_round, up-then}
use Rattle.decl_headers.proofs.Inheriting.{made_step}
use Rattle.decl_headers.proofs.Walks.{top_none}
use Rattle.decl_table.specs.declared.rows.MethodRow.{MethodRow}
use Rattle.decl_table.specs.declared.table.Table.{Table}
use Rattle.decl_table.specs.Inherited.{declared_methods, with_member, members_after, members_in}
use Rattle.decl_table.specs.Overridden.{method_named}
use Rattle.decl_table.specs.Places.{entry_at, last_from, by_id, is_method_of}
use Rattle.decl_table.specs.Plain.{PlainMethod}
use Rattle.decl_table.specs.Table.{headers_of, methods_of, own_method, overridden_by, row_of, parent_args_of}
use Rattle.decl_laws.specs.Rows.{RowIs, as_overridden, as_next, HasRows}
use Rattle.decl_laws.specs.Rows.{inherited as inherited_rows}
use Rattle.decl_laws.proofs.Facts.{Facts, facts_of, parent_is, IsMethod, own_is, named_is}
use Rattle.decl_laws.proofs.Given.{rows_given}
use Rattle.decl_laws.proofs.Numbers.{one_row, owner_of}
use Rattle.decl_laws.proofs.Stand.{all_stand}
use Rattle.lang_typed.specs.Plain.{PlainClass}
use Rattle.body_assembly.specs.Assembled.{PlainBody, parent_at}
use Rattle.sound_lemmas.specs.Accepted.{IsAccepted}
use Rattle.sound_lemmas.proofs.Free.{and_split}
use Rattle.sound_lemmas.proofs.Lists.{some_same, got_first, map_there}
use Rattle.sound_decls.proofs.table.Above.{P, upper_there, class_there}
use Rattle.sound_means.proofs.Methods.{Row, both, row_own, rows_many, one_name}

-- what a list has after a change
set_from : (xs : List ℕ) (at value r m : ℕ) → slice_get (slice_set xs at value) r ≡ Some m → (slice_get xs r ≡ Some m) ⊎ ((r ≡ at) × (m ≡ value))
set_from [] at value r m e = inl e
set_from (x ∷ xs) zero value zero m e = inr (refl, sym (some_same e))
set_from (x ∷ xs) zero value (suc r) m e = inl e
set_from (x ∷ xs) (suc at) value zero m e = inl e
set_from (x ∷ xs) (suc at) value (suc r) m e =
    elim (set_from xs at value r m e) [
      | inl old ↦ inl old
      | inr new ↦ inr (ap suc new.0, new.1)
    ]

pushed_from : (xs : List ℕ) (value r m : ℕ) → slice_get (xs ++ value ∷ []) r ≡ Some m → (slice_get xs r ≡ Some m) ⊎ ((r ≡ length xs) × (m ≡ value))
pushed_from [] value zero m e = inr (refl, sym (some_same e))
pushed_from [] value (suc r) m e = cc
pushed_from (x ∷ xs) value zero m e = inl e
pushed_from (x ∷ xs) value (suc r) m e =
    elim (pushed_from xs value r m e) [
      | inl old ↦ inl old
      | inr new ↦ inr (ap suc new.0, new.1)
    ]

set_here : (xs : List ℕ) (at value old : ℕ) → slice_get xs at ≡ Some old → slice_get (slice_set xs at value) at ≡ Some value
set_here [] at value old e = cc
set_here (x ∷ xs) zero value old e = refl
set_here (x ∷ xs) (suc at) value old e = set_here xs at value old e

set_there : (xs : List ℕ) (at value r m : ℕ) → r ≢ at → slice_get xs r ≡ Some m → slice_get (slice_set xs at value) r ≡ Some m
set_there [] at value r m apart e = cc
set_there (x ∷ xs) zero value zero m apart e = absurd (apart refl)
set_there (x ∷ xs) zero value (suc r) m apart e = e
set_there (x ∷ xs) (suc at) value zero m apart e = e
set_there (x ∷ xs) (suc at) value (suc r) m apart e = set_there xs at value r m (λ same. apart (ap suc same)) e

-- the first place that passes a test, where no other does, or where none does
first_place : {X : Type 0} (test : X → Bool) (at : ℕ) (xs : List X) (r : ℕ) (x : X) → slice_get xs r ≡ Some x → test x ≡ true → ((j : ℕ) (y : X) → slice_get xs j ≡ Some y → test y ≡ true → j ≡ r) →
    position_from test at xs ≡ Some (at + r)
first_place test at [] r x e t only = cc
first_place {X} test at (y ∷ ys) zero x e t only =
    let here : at ≡ at + 0 = omega arith in
    ap (λ b. cond b (Some at) (position_from test (at + 1) ys)) (ap test (some_same e) ∙ t) ∙ ap Some here
first_place {X} test at (y ∷ ys) (suc r) x e t only =
    let on : at + 1 + r ≡ at + suc r = omega arith in
    by (test y) refl (first_place test (at + 1) ys r x e t (λ j z d p. let same = only (suc j) z d p in omega (arith, same)) ∙ ap Some on)
  where
    by : (b : Bool) → test y ≡ b → position_from test (at + 1) ys ≡ Some (at + suc r) → cond b (Some at) (position_from test (at + 1) ys) ≡ Some (at + suc r)
    by true is rest = let same = only 0 y refl is in absurd (omega (arith, same))
    by false is rest = rest

no_place : {X : Type 0} (test : X → Bool) (at : ℕ) (xs : List X) → ((j : ℕ) (y : X) → slice_get xs j ≡ Some y → test y ≡ true → ⊥) → position_from test at xs ≡ None
no_place test at [] none = refl
no_place {X} test at (y ∷ ys) none = by (test y) refl (no_place test (at + 1) ys (λ j z d p. none (suc j) z d p))
  where
    by : (b : Bool) → test y ≡ b → position_from test (at + 1) ys ≡ None → cond b (Some at) (position_from test (at + 1) ys) ≡ None
    by true is rest = absurd (none 0 y refl is)
    by false is rest = rest

filtered_from : {X : Type 0} (test : X → Bool) (xs : List X) (i : ℕ) (x : X) → slice_get (filter test xs) i ≡ Some x → (j : ℕ) × (slice_get xs j ≡ Some x) × (test x ≡ true)
filtered_from test [] i x e = cc
filtered_from {X} test (y ∷ xs) i x e = by (test y) refl i e (filtered_from test xs)
  where
    by : (b : Bool) → test y ≡ b → (i : ℕ) → slice_get (cond b (y ∷ filter test xs) (filter test xs)) i ≡ Some x →
        ((k : ℕ) (z : X) → slice_get (filter test xs) k ≡ Some z → (j : ℕ) × (slice_get xs j ≡ Some z) × (test z ≡ true)) → (j : ℕ) × (slice_get (y ∷ xs) j ≡ Some x) × (test x ≡ true)
    by true is zero e more = let same = some_same e in (0, e, ap test (sym same) ∙ is)
    by true is (suc i) e more = let w = more i x e in (suc w.0, w.1, w.2)
    by false is i e more = let w = more i x e in (suc w.0, w.1, w.2)

-- where no row is meant, none passes the test
last_none : {A : Type 0} (test : A → Bool) (number : ℕ → A → ℕ) (at : ℕ) (found : Option ℕ) (rows : List A) → last_from test number at found rows ≡ None →
    (found ≡ None) × ((i : ℕ) (row : A) → slice_get rows i ≡ Some row → test row ≡ true → ⊥)
last_none test number at found [] e = (e, λ i row h t. cc)
last_none {A} test number at found (row ∷ rows) e = by (test row) refl (last_none test number (at + 1) (cond (test row) (Some (number at row)) found) rows e)
  where
    by : (b : Bool) → test row ≡ b → (cond b (Some (number at row)) found ≡ None) × ((i : ℕ) (one : A) → slice_get rows i ≡ Some one → test one ≡ true → ⊥) →
        (found ≡ None) × ((i : ℕ) (one : A) → slice_get (row ∷ rows) i ≡ Some one → test one ≡ true → ⊥)
    by true is w = let none = w.0 in cc
    by false is w = (w.0, others)
      where
        others : (i : ℕ) (one : A) → slice_get (row ∷ rows) i ≡ Some one → test one ≡ true → ⊥
        others zero one h t = false≢true (sym is ∙ ap test (some_same h) ∙ t)
        others (suc i) one h t = w.1 i one h t

-- each of them stands once
abbrev Once : List ℕ → Type 0
Once xs = (i j v : ℕ) → slice_get xs i ≡ Some v → slice_get xs j ≡ Some v → i ≡ j

abbrev AreApart : List ℕ → List ℕ → Type 0
AreApart xs ys = (i j v : ℕ) → slice_get xs i ≡ Some v → slice_get ys j ≡ Some v → ⊥

set_once : (xs : List ℕ) (at value : ℕ) → Once xs → ((i : ℕ) → slice_get xs i ≡ Some value → ⊥) → Once (slice_set xs at value)
set_once xs at value once new i j v e d = by (set_from xs at value i v e) (set_from xs at value j v d)
  where
    by : (slice_get xs i ≡ Some v) ⊎ ((i ≡ at) × (v ≡ value)) → (slice_get xs j ≡ Some v) ⊎ ((j ≡ at) × (v ≡ value)) → i ≡ j
    by (inl h) (inl k) = once i j v h k
    by (inl h) (inr k) = absurd (new i (h ∙ ap Some k.1))
    by (inr h) (inl k) = absurd (new j (k ∙ ap Some h.1))
    by (inr h) (inr k) = h.0 ∙ sym k.0

pushed_once : (xs : List ℕ) (value : ℕ) → Once xs → ((i : ℕ) → slice_get xs i ≡ Some value → ⊥) → Once (xs ++ value ∷ [])
pushed_once xs value once new i j v e d = by (pushed_from xs value i v e) (pushed_from xs value j v d)
  where
    by : (slice_get xs i ≡ Some v) ⊎ ((i ≡ length xs) × (v ≡ value)) → (slice_get xs j ≡ Some v) ⊎ ((j ≡ length xs) × (v ≡ value)) → i ≡ j
    by (inl h) (inl k) = once i j v h k
    by (inl h) (inr k) = absurd (new i (h ∙ ap Some k.1))
    by (inr h) (inl k) = absurd (new j (k ∙ ap Some h.1))
    by (inr h) (inr k) = h.0 ∙ sym k.0

-- numbers of rows that are counted on from a place
abbrev ids : (MethodRow → Bool) → List MethodRow → List ℕ
ids test rows = map (λ (row : MethodRow). row.id) (filter test rows)

record Rising (at : ℕ) (xs : List ℕ) : Type 0 where
  once : Once xs
  from : (i v : ℕ) → slice_get xs i ≡ Some v → at ≤ v

ids_rise : (test : MethodRow → Bool) (at : ℕ) (rows : List MethodRow) → ((i : ℕ) (row : MethodRow) → slice_get rows i ≡ Some row → row.id ≡ at + i) → Rising at (ids test rows)
ids_rise test at [] counted = record { once = λ i j v e d. cc; from = λ i v e. cc }
ids_rise test at (row ∷ rows) counted = by (test row) (ids_rise test (at + 1) rows (λ i one e. let same = counted (suc i) one e in omega (arith, same)))
  where
    here : row.id ≡ at
    here = let same = counted 0 row refl in omega (arith, same)

    by : (b : Bool) → Rising (at + 1) (ids test rows) → Rising at (map (λ (row : MethodRow). row.id) (cond b (row ∷ filter test rows) (filter test rows)))
    by false w = record { once = w.once; from = λ i v e. let l = w.from i v e in omega (arith, l) }
    by true w = record { once = once; from = from }
      where
        once : Once (row.id ∷ ids test rows)
        once zero zero v e d = refl
        once zero (suc j) v e d = let same = some_same e in let l = w.from j v d in absurd (omega (arith, here, same, l))
        once (suc i) zero v e d = let same = some_same d in let l = w.from i v e in absurd (omega (arith, here, same, l))
        once (suc i) (suc j) v e d = ap suc (w.once i j v e d)

        from : (i v : ℕ) → slice_get (row.id ∷ ids test rows) i ≡ Some v → at ≤ v
        from zero v e = let same = some_same e in omega (arith, here, same)
        from (suc i) v e = let l = w.from i v e in omega (arith, l)

module _ (table : Table)
  where
    -- one that stands in a row, with members of which each stood or is new
    member_old : (rows : List ℕ) (id r m : ℕ) → slice_get (with_member table rows id) r ≡ Some m → (slice_get rows r ≡ Some m) ⊎ (m ≡ id)
    member_old rows id r m e = by (is_some (overridden_by table id)) e
      where
        by : (b : Bool) → slice_get (cond b (slice_set rows (row_of table id) id) (rows ++ id ∷ [])) r ≡ Some m → (slice_get rows r ≡ Some m) ⊎ (m ≡ id)
        by true now = elim (set_from rows (row_of table id) id r m now) [ inl old ↦ inl old | inr new ↦ inr new.1 ]
        by false now = elim (pushed_from rows id r m now) [ inl old ↦ inl old | inr new ↦ inr new.1 ]

    member_from : (rows all : List ℕ) (r m : ℕ) → slice_get (fold (with_member table) rows all) r ≡ Some m → (slice_get rows r ≡ Some m) ⊎ ((i : ℕ) × (slice_get all i ≡ Some m))
    member_from rows [] r m e = inl e
    member_from rows (id ∷ all) r m e =
        elim (member_from (with_member table rows id) all r m e) [
          | inl now ↦ elim (member_old rows id r m now) [
            | inl old ↦ inl old
            | inr new ↦ inr (0, ap Some (sym new))
          ]
          | inr later ↦ inr (suc later.0, later.1)
        ]

    member_once : (rows : List ℕ) (id : ℕ) → Once rows → ((i : ℕ) → slice_get rows i ≡ Some id → ⊥) → Once (with_member table rows id)
    member_once rows id once new = by (is_some (overridden_by table id))
      where
        by : (b : Bool) → Once (cond b (slice_set rows (row_of table id) id) (rows ++ id ∷ []))
        by true = set_once rows (row_of table id) id once new
        by false = pushed_once rows id once new

    members_once : (rows all : List ℕ) → Once rows → Once all → AreApart rows all → Once (fold (with_member table) rows all)
    members_once rows [] once more apart = once
    members_once rows (id ∷ all) once more apart =
        members_once (with_member table rows id) all (member_once rows id once (λ i e. apart i 0 id e refl))
        (λ i j v e d. let same = more (suc i) (suc j) v e d in omega (arith, same)) rest
      where
        rest : AreApart (with_member table rows id) all
        rest i j v e d =
            elim (member_old rows id i v e) [
              | inl old ↦ apart i (suc j) v old d
              | inr new ↦ let same = more 0 (suc j) v (ap Some (sym new)) d in omega (arith, same)
            ]

    -- the method that a name means in a class
    data Named (name n : ℕ) : ℕ → Type 0 where
      here : {class : ℕ} → own_method table class name ≡ Some n → Named name n class
      above : {class parent : ℕ} → own_method table class name ≡ None → parent_of (headers_of table) class ≡ Some parent → Named name n parent → Named name n class

module _ (program : Program) (table : Table) (has : HasRows program table)
  where
    facts : Facts table
    facts = facts_of program table has

    abbrev parents : List (Option ℕ)
    parents = parents_of (headers_of table)

    many : length parents ≡ class_count (headers_of table)
    many = length-map (headers_of table).rows (λ row. row.parent)

    -- what the class itself declares
    own_found : (class n : ℕ) (row : MethodRow) → slice_get (methods_of table) n ≡ Some row → row.is_constructor ≡ false → row.owner ≡ class → own_method table class row.name ≡ Some n
    own_found class n row e plain owner = by (own_method table class row.name) refl
      where
        passes : is_method_of class row.name row ≡ true
        passes =
            ap (λ b. not b && ((row.owner == class) && (row.name == row.name))) plain
            ∙ ap (λ b. b && (row.name == row.name)) (eq-eqb row.owner class owner) ∙ eq-eqb row.name row.name refl

        same : (id : ℕ) → IsMethod table class row.name id → id ≡ n
        same id m =
            let a = row_own program table has id m.row m.there in
            let b = row_own program table has n row e in
            let mine = and_split (not m.row.is_constructor) (m.row.owner == class) m.own in
            one_name program table has id n a.0 b.0 a.1.own_there b.1.own_there
            (sym (ap (λ (r : PlainMethod). r.owner) a.1.is) ∙ owner_of class m.row m.own ∙ sym owner ∙ ap (λ (r : PlainMethod). r.owner) b.1.is)
            (sym (ap (λ (r : PlainMethod). r.is_constructor) a.1.is) ∙ none m.row.is_constructor mine.0)
            (sym (ap (λ (r : PlainMethod). r.is_constructor) b.1.is) ∙ plain)
            (sym (ap (λ (r : PlainMethod). r.name) a.1.is) ∙ m.called ∙ ap (λ (r : PlainMethod). r.name) b.1.is)
          where
            none : (b : Bool) → not b ≡ true → b ≡ false
            none true h = cc
            none false h = refl

        by : (o : Option ℕ) → own_method table class row.name ≡ o → own_method table class row.name ≡ Some n
        by None is = absurd ((last_none (is_method_of class row.name) by_id 0 None (methods_of table) is).1 n row e passes)
        by (Some id) is = is ∙ ap Some (same id (own_is table facts class row.name id is))

    -- it means itself there
    own_named : (class name n : ℕ) → class < class_count (headers_of table) → own_method table class name ≡ Some n → method_named table class name ≡ Some n
    own_named class name n l e = by (class_count (headers_of table)) l
      where
        by : (k : ℕ) → class < k → nearest (λ at. own_method table at name) (chain (parent_of (headers_of table)) k class) ≡ Some n
        by zero l = absurd (omega (arith, l))
        by (suc k) l = ap (λ o. option_map_or (λ number. Some number) o (nearest (λ at. own_method table at name) (option_map_or (λ above. chain (parent_of (headers_of table)) k above) (parent_of (headers_of table) class) []))) e

    -- one step up
    step_up : (k class parent : ℕ) → parent_of (headers_of table) class ≡ Some parent → up parents (suc k) class ≡ up parents k parent
    step_up k class parent is =
        let on : k + 1 ≡ suc k = omega arith in
        ap (λ j. up parents j class) (sym on) ∙ up-then parents k 1 class parent (sym (parent_is table class) ∙ is)

    named_found : (k class name n : ℕ) → up parents k class ≡ None → Named table name n class → nearest (λ at. own_method table at name) (chain (parent_of (headers_of table)) k class) ≡ Some n
    named_found zero class name n far h = cc
    named_found (suc k) class name n far (here e) =
        ap (λ o. option_map_or (λ number. Some number) o (nearest (λ at. own_method table at name) (option_map_or (λ above. chain (parent_of (headers_of table)) k above) (parent_of (headers_of table) class) []))) e
    named_found (suc k) class name n far (above {parent = parent} e is h) =
        ap (λ o. option_map_or (λ number. Some number) o (nearest (λ at. own_method table at name) (option_map_or (λ above. chain (parent_of (headers_of table)) k above) (parent_of (headers_of table) class) []))) e
        ∙ ap (λ p. nearest (λ at. own_method table at name) (option_map_or (λ above. chain (parent_of (headers_of table)) k above) p [])) is
        ∙ named_found k parent name n (sym (step_up k class parent is) ∙ far) h

    named_above : (class parent name n : ℕ) → parent_of (headers_of table) class ≡ Some parent → Named table name n parent → method_named table parent name ≡ Some n
    named_above class parent name n is h =
        let all = class_count (headers_of table) in
        named_found all parent name n (sym (step_up all class parent is) ∙ top_none parents (suc all) class facts.forest (omega (arith, many))) h

    -- whose method it is
    named_owner : (name n class : ℕ) → Named table name n class → (k owner : ℕ) × (up parents k class ≡ Some owner) × IsMethod table owner name n
    named_owner name n class (here e) = (0, class, refl, own_is table facts class name n e)
    named_owner name n class (above {parent = parent} e is h) =
        let w = named_owner name n parent h in
        (suc w.0, w.1, step_up w.0 class parent is ∙ w.2, w.3)

    -- none of a superclass
    not_above : (class parent name n : ℕ) (row : MethodRow) → parent_of (headers_of table) class ≡ Some parent → Named table name n parent → slice_get (methods_of table) n ≡ Some row → row.owner ≡ class → ⊥
    not_above class parent name n row is h e owner =
        let w = named_owner name n parent h in
        let same : w.3.row ≡ row = some_same (sym w.3.there ∙ e) in
        let top : w.1 ≡ class = sym (owner_of w.1 w.3.row w.3.own) ∙ ap (λ (r : MethodRow). r.owner) same ∙ owner in
        not_round (parents_of (headers_of table)) class (facts.forest.straight class) (w.0, step_up w.0 class parent is ∙ w.2 ∙ ap Some top)

    given : (id : ℕ) (method : MethodRow) → slice_get (methods_of table) id ≡ Some method → method.is_constructor ≡ false → RowIs table.overrides (methods_of table) (inherited_rows table) id (row_of table id)
    given = rows_given program table has

    over_row : (id over row : ℕ) → RowIs table.overrides (methods_of table) (inherited_rows table) id row → entry_at table.overrides id ≡ Some over → RowIs table.overrides (methods_of table) (inherited_rows table) over row
    over_row id over row (as_overridden other e h) is =
        let same : other ≡ over = cc in
        subst (λ k. RowIs table.overrides (methods_of table) (inherited_rows table) k row) same h
    over_row id over row (as_next one also e be) is = cc (e, is)

    -- what a name means in the superclass of a class
    abbrev above_named : ℕ → ℕ → Option ℕ
    above_named class name = option_and_then (λ above. method_named table above name) (parent_of (headers_of table) class)

    -- a method overrides what its name means there, and has the row of that
    over_told : (class n : ℕ) (row : MethodRow) → slice_get (methods_of table) n ≡ Some row → row.is_constructor ≡ false → row.owner ≡ class → overridden_by table n ≡ above_named class row.name
    over_told class n row there plain owner =
        facts.overrides n row there
        ∙ ap (λ b. cond b None (option_and_then (λ above. method_named table above row.name) (parent_of (headers_of table) row.owner))) plain
        ∙ ap (λ k. option_and_then (λ above. method_named table above row.name) (parent_of (headers_of table) k)) owner

    row_same : (n over : ℕ) (row upper : MethodRow) → slice_get (methods_of table) n ≡ Some row → row.is_constructor ≡ false → slice_get (methods_of table) over ≡ Some upper → upper.is_constructor ≡ false →
        overridden_by table n ≡ Some over → row_of table n ≡ row_of table over
    row_same n over row upper there plain upper_there upper_plain is =
        one_row table.overrides (methods_of table) (inherited_rows table) over (row_of table n) (row_of table over)
        (over_row n over (row_of table n) (given n row there plain) is) (given over upper upper_there upper_plain)

    -- what stands in a row means itself there, and stands there alone
    record Seen (class r n : ℕ) : Type 0 where
      row : MethodRow
      there : slice_get (methods_of table) n ≡ Some row
      plain : row.is_constructor ≡ false
      named : Named table row.name n class

    record Placed (class : ℕ) : Type 0 where
      seen : (r n : ℕ) → slice_get (members_in table class) r ≡ Some n → Seen class r n
      once : Once (members_in table class)

    abbrev start_of : Option ℕ → List ℕ
    start_of o = unwrap_or (option_map (members_in table) o) []

    made : (class : ℕ) → members_in table class ≡ fold (with_member table) (start_of (parent_of (headers_of table) class)) (declared_methods table class)
    made class = made_step (headers_of table) [] (members_after table) class facts.forest

    own_there : (class i m : ℕ) → slice_get (declared_methods table class) i ≡ Some m → (row : MethodRow) × (slice_get (methods_of table) m ≡ Some row) × (row.is_constructor ≡ false) × (row.owner ≡ class)
    own_there class i m e =
        let test : MethodRow → Bool = λ row. not row.is_constructor && (row.owner == class) in
        let w = map_there (λ (row : MethodRow). row.id) (slice_get (filter test (methods_of table)) i) m (sym (slice_get-map (λ (row : MethodRow). row.id) (filter test (methods_of table)) i) ∙ e) in
        let f = filtered_from test (methods_of table) i w.0 w.1 in
        let here : f.0 ≡ m = sym (facts.numbered f.0 w.0 f.1) ∙ w.2 in
        (w.0, subst (λ k. slice_get (methods_of table) k ≡ Some w.0) here f.1, plain w.0.is_constructor (and_split (not w.0.is_constructor) (w.0.owner == class) f.2).0, owner_of class w.0 f.2)
      where
        plain : (b : Bool) → not b ≡ true → b ≡ false
        plain true h = cc
        plain false h = refl

    declared_once : (class : ℕ) → Once (declared_methods table class)
    declared_once class =
        (ids_rise (λ (row : MethodRow). not row.is_constructor && (row.owner == class)) 0 (methods_of table) (λ i row e. let same = facts.numbered i row e in omega (arith, same))).once

    -- what a class has above it and declares too, it has in that row as its own
    not_both : (class parent r n m : ℕ) (s : Seen parent r n) → Once (members_in table parent) → parent_of (headers_of table) class ≡ Some parent → slice_get (members_in table parent) r ≡ Some n → slice_get (members_in table class) r ≡ Some n →
        own_method table class s.row.name ≡ Some m → ⊥
    not_both class parent r n m s once is old now own =
        not_above class parent s.row.name n w.row is s.named (subst (λ k. slice_get (methods_of table) k ≡ Some w.row) same w.there) owner
      where
        w : IsMethod table class s.row.name m
        w = own_is table facts class s.row.name m own

        owner : w.row.owner ≡ class
        owner = owner_of class w.row w.own

        plain : w.row.is_constructor ≡ false
        plain = by w.row.is_constructor (and_split (not w.row.is_constructor) (w.row.owner == class) w.own).0
          where
            by : (b : Bool) → not b ≡ true → b ≡ false
            by true h = cc
            by false h = refl

        rows : row_of table m ≡ row_of table n
        rows =
            row_same m n w.row s.row w.there plain s.there s.plain
            (over_told class m w.row w.there plain owner ∙ ap (option_and_then (λ above. method_named table above w.row.name)) is ∙ ap (method_named table parent) w.called ∙ named_above class parent s.row.name n is s.named)

        within : class < class_count (headers_of table)
        within = let l = facts.owned m w.row w.there in let same = owner in omega (arith, l, same, many)

        stands : slice_get (members_in table class) (row_of table m) ≡ Some m
        stands = all_stand table facts given class s.row.name m (own_named class s.row.name m within own)

        above_stands : slice_get (members_in table parent) (row_of table n) ≡ Some n
        above_stands = all_stand table facts given parent s.row.name n (named_above class parent s.row.name n is s.named)

        here : row_of table m ≡ r
        here = rows ∙ once (row_of table n) r n above_stands old

        same : m ≡ n
        same = some_same (sym stands ∙ ap (slice_get (members_in table class)) here ∙ now)

    placed_up : (k class : ℕ) → up parents k class ≡ None → Placed class
    placed_up zero class far = cc
    placed_up (suc k) class far = by (parent_of (headers_of table) class) refl (λ parent is. placed_up k parent (sym (step_up k class parent is) ∙ far))
      where
        own : List ℕ
        own = declared_methods table class

        by : (o : Option ℕ) → parent_of (headers_of table) class ≡ o → ((parent : ℕ) → parent_of (headers_of table) class ≡ Some parent → Placed parent) → Placed class
        by None is more = record {
          seen = λ r n e.
              elim (member_from table (start_of (parent_of (headers_of table) class)) own r n (ap (λ rows. slice_get rows r) (sym (made class)) ∙ e)) [
                | inl old ↦ absurd (nothing r n (ap (λ o. slice_get (start_of o) r) (sym is) ∙ old))
                | inr new ↦ itself r n new.0 new.1
              ];
          once = subst Once (sym (made class)) (members_once table (start_of (parent_of (headers_of table) class)) own
              (λ i j v e d. absurd (nothing i v (ap (λ o. slice_get (start_of o) i) (sym is) ∙ e))) (declared_once class) (λ i j v e d. nothing i v (ap (λ o. slice_get (start_of o) i) (sym is) ∙ e)));
        }
          where
            nothing : (i v : ℕ) → slice_get (start_of None) i ≡ Some v → ⊥
            nothing i v e = cc

            itself : (r n i : ℕ) → slice_get own i ≡ Some n → Seen class r n
            itself r n i e = let w = own_there class i n e in record { row = w.0; there = w.1; plain = w.2; named = here (own_found class n w.0 w.1 w.2 w.3) }
        by (Some parent) is more = record {
          seen = λ r n e.
              elim (member_from table (start_of (parent_of (headers_of table) class)) own r n (ap (λ rows. slice_get rows r) (sym (made class)) ∙ e)) [
                | inl old ↦ kept r n (ap (λ o. slice_get (start_of o) r) (sym is) ∙ old) e
                | inr new ↦ itself r n new.0 new.1
              ];
          once = subst Once (sym (made class)) (members_once table (start_of (parent_of (headers_of table) class)) own
              (subst (λ o. Once (start_of o)) (sym is) upper.once) (declared_once class) (λ i j v e d. apart i j v (ap (λ o. slice_get (start_of o) i) (sym is) ∙ e) d));
        }
          where
            upper : Placed parent
            upper = more parent is

            itself : (r n i : ℕ) → slice_get own i ≡ Some n → Seen class r n
            itself r n i e = let w = own_there class i n e in record { row = w.0; there = w.1; plain = w.2; named = here (own_found class n w.0 w.1 w.2 w.3) }

            kept : (r n : ℕ) → slice_get (members_in table parent) r ≡ Some n → slice_get (members_in table class) r ≡ Some n → Seen class r n
            kept r n old now = of (own_method table class s.row.name) refl
              where
                s : Seen parent r n
                s = upper.seen r n old

                of : (o : Option ℕ) → own_method table class s.row.name ≡ o → Seen class r n
                of None none = record { row = s.row; there = s.there; plain = s.plain; named = above none is s.named }
                of (Some m) there = absurd (not_both class parent r n m s upper.once is old now there)

            apart : (i j v : ℕ) → slice_get (members_in table parent) i ≡ Some v → slice_get own j ≡ Some v → ⊥
            apart i j v e d =
                let s = upper.seen i v e in
                let w = own_there class j v d in
                not_above class parent s.row.name v w.0 is s.named w.1 w.3

    placed : (class : ℕ) → Placed class
    placed class = placed_up (suc (length parents)) class (top_none parents (suc (length parents)) class facts.forest (omega arith))

    -- the name of a method, in the tree and in the table
    name_told : (n : ℕ) (row : MethodRow) → slice_get (methods_of table) n ≡ Some row → method_name program n ≡ Some row.name
    name_told n row e =
        let w = row_own program table has n row e in
        ap (option_map (λ (own : OwnMethod). own.method.name)) w.1.own_there ∙ ap Some (sym (ap (λ (r : PlainMethod). r.name) w.1.is))

    -- a method that the class declares itself, of a number below
    record Own (class at n : ℕ) : Type 0 where
      row : MethodRow
      there : slice_get (methods_of table) n ≡ Some row
      plain : row.is_constructor ≡ false
      owner : row.owner ≡ class
      below : n < at

    -- the rows that a class has from its superclass hold what their names mean there
    record Begins (class : ℕ) (start : List ℕ) : Type 0 where
      named : (r m name : ℕ) → slice_get start r ≡ Some m → method_name program m ≡ Some name → above_named class name ≡ Some m
      stands : (name m : ℕ) → above_named class name ≡ Some m → slice_get start (row_of table m) ≡ Some m
      called : (name m : ℕ) → above_named class name ≡ Some m → method_name program m ≡ Some name
      plain : (r m : ℕ) → slice_get start r ≡ Some m → (row : MethodRow) × (slice_get (methods_of table) m ≡ Some row) × (row.is_constructor ≡ false)
      once : Once start

    begins : (class : ℕ) → Begins class (start_of (parent_of (headers_of table) class))
    begins class = by (parent_of (headers_of table) class) refl
      where
        by : (o : Option ℕ) → parent_of (headers_of table) class ≡ o → Begins class (start_of o)
        by None is = record {
          named = λ r m name e called. cc;
          stands = λ name m h. none m (sym (ap (option_and_then (λ above. method_named table above name)) is) ∙ h);
          called = λ name m h. none m (sym (ap (option_and_then (λ above. method_named table above name)) is) ∙ h);
          plain = λ r m e. cc;
          once = λ i j v e d. cc;
        }
          where
            none : {T : Type 0} (m : ℕ) → None ≡ Some m → T
            none m h = absurd (none-some m h)
        by (Some parent) is = record {
          named = λ r m name e called.
              let s = p.seen r m e in
              let same : s.row.name ≡ name = some_same (sym (name_told m s.row s.there) ∙ called) in
              meant name ∙ sym (ap (method_named table parent) same) ∙ named_above class parent s.row.name m is s.named;
          stands = λ name m h. all_stand table facts given parent name m (sym (meant name) ∙ h);
          called = λ name m h.
              let w = named_is table facts parent name m (sym (meant name) ∙ h) in
              name_told m w.3.row w.3.there ∙ ap Some w.3.called;
          plain = λ r m e. let s = p.seen r m e in (s.row, s.there, s.plain);
          once = p.once;
        }
          where
            p : Placed parent
            p = placed parent

            meant : (name : ℕ) → above_named class name ≡ method_named table parent name
            meant name = ap (option_and_then (λ above. method_named table above name)) is

    -- the rows of a class once its methods below a number have theirs: those of the superclass, by the same names, and new ones
    record Filled (class : ℕ) (start rows : List ℕ) (at : ℕ) : Type 0 where
      first : (r m : ℕ) → slice_get start r ≡ Some m → (n : ℕ) × (slice_get rows r ≡ Some n) × (method_name program n ≡ method_name program m)
      each : (r n : ℕ) → slice_get rows r ≡ Some n → ((m : ℕ) × (slice_get start r ≡ Some m) × (method_name program n ≡ method_name program m)) ⊎ Own class at n

    later : (class at n : ℕ) → Own class at n → Own class (suc at) n
    later class at n own = record { row = own.row; there = own.there; plain = own.plain; owner = own.owner; below = (let l = own.below in omega (arith, l)) }

    abbrev Same : ℕ → List ℕ → ℕ → Type 0
    Same r start n = (m : ℕ) × (slice_get start r ≡ Some m) × (method_name program n ≡ method_name program m)

    later_so : (class at n r : ℕ) (start : List ℕ) → Same r start n ⊎ Own class at n → Same r start n ⊎ Own class (suc at) n
    later_so class at n r start (inl same) = inl same
    later_so class at n r start (inr own) = inr (later class at n own)

    passed : (class : ℕ) (start rows : List ℕ) (at : ℕ) → Filled class start rows at → Filled class start rows (suc at)
    passed class start rows at f = record { first = f.first; each = λ r n e. later_so class at n r start (f.each r n e) }

    -- a further method of the class
    module _ (class : ℕ) (start : List ℕ) (b : Begins class start) (n : ℕ) (row : MethodRow) (there : slice_get (methods_of table) n ≡ Some row) (plain : row.is_constructor ≡ false) (owner : row.owner ≡ class) (rows : List ℕ)
        (f : Filled class start rows n)
      where
        abbrev test : ℕ → Bool
        test k = option_map_or (λ m. m == row.name) (method_name program k) false

        tested : (k : ℕ) → method_name program k ≡ Some row.name → test k ≡ true
        tested k e = ap (λ o. option_map_or (λ m. m == row.name) o false) e ∙ eq-eqb row.name row.name refl

        name_so : (k : ℕ) → test k ≡ true → method_name program k ≡ Some row.name
        name_so k = by (method_name program k)
          where
            by : (o : Option ℕ) → option_map_or (λ m. m == row.name) o false ≡ true → o ≡ Some row.name
            by None t = absurd (false≢true t)
            by (Some m) t = ap Some (eqb-true m row.name t)

        told : overridden_by table n ≡ above_named class row.name
        told = over_told class n row there plain owner

        -- none of those before it has its name
        not_before : (k : ℕ) → Own class n k → method_name program k ≡ Some row.name → ⊥
        not_before k own e =
            let x = row_own program table has k own.row own.there in
            let y = row_own program table has n row there in
            let l = own.below in
            let same = one_name program table has k n x.0 y.0 x.1.own_there y.1.own_there
            (sym (ap (λ (r : PlainMethod). r.owner) x.1.is) ∙ own.owner ∙ sym owner ∙ ap (λ (r : PlainMethod). r.owner) y.1.is)
            (sym (ap (λ (r : PlainMethod). r.is_constructor) x.1.is) ∙ own.plain)
            (sym (ap (λ (r : PlainMethod). r.is_constructor) y.1.is) ∙ plain)
            (sym (ap (λ (r : PlainMethod). r.name) x.1.is) ∙ some_same (sym (name_told k own.row own.there) ∙ e) ∙ ap (λ (r : PlainMethod). r.name) y.1.is) in
            omega (arith, l, same)

        itself : Own class (suc n) n
        itself = record { row = row; there = there; plain = plain; owner = owner; below = omega arith }

        record Put (after : List ℕ) : Type 0 where
          is : in_row n (row_named program row.name rows) rows ≡ after
          filled : Filled class start after (suc n)

        put_new : overridden_by table n ≡ None → Put (rows ++ n ∷ [])
        put_new none = record {
          is = ap (λ o. in_row n o rows) (no_place test 0 rows (λ j k e t. no j k e (name_so k t)));
          filled = record {
            first = λ r m e. let w = f.first r m e in (w.0, got_first rows (n ∷ []) r w.0 w.1, w.2);
            each = λ r m e. of r m (pushed_from rows n r m e);
          };
        }
          where
            no : (j k : ℕ) → slice_get rows j ≡ Some k → method_name program k ≡ Some row.name → ⊥
            no j k e called =
                elim (f.each j k e) [
                  | inl same ↦ none-some same.0 (sym none ∙ told ∙ b.named j same.0 row.name same.1 (sym same.2 ∙ called))
                  | inr own ↦ not_before k own called
                ]

            of : (r m : ℕ) → (slice_get rows r ≡ Some m) ⊎ ((r ≡ length rows) × (m ≡ n)) → Same r start m ⊎ Own class (suc n) m
            of r m (inl old) = later_so class n m r start (f.each r m old)
            of r m (inr new) = inr (subst (Own class (suc n)) (sym new.1) itself)

        put_over : (over : ℕ) → overridden_by table n ≡ Some over → Put (slice_set rows (row_of table n) n)
        put_over over is = record {
          is =
              let at : 0 + row_of table n ≡ row_of table n = omega arith in
              ap (λ o. in_row n o rows) (first_place test 0 rows (row_of table n) stood.0 stood.1 (tested stood.0 (stood.2 ∙ called)) only ∙ ap Some at);
          filled = record {
            first = λ r m e. first r m e (cases_eq r (row_of table n));
            each = λ r m e. of r m (set_from rows (row_of table n) n r m e);
          };
        }
          where
            meant : above_named class row.name ≡ Some over
            meant = sym told ∙ is

            called : method_name program over ≡ Some row.name
            called = b.called row.name over meant

            stands : slice_get start (row_of table over) ≡ Some over
            stands = b.stands row.name over meant

            at_row : row_of table n ≡ row_of table over
            at_row = let w = b.plain (row_of table over) over stands in row_same n over row w.0 there plain w.1 w.2 is

            here : slice_get start (row_of table n) ≡ Some over
            here = ap (slice_get start) at_row ∙ stands

            stood : (k : ℕ) × (slice_get rows (row_of table n) ≡ Some k) × (method_name program k ≡ method_name program over)
            stood = f.first (row_of table n) over here

            only : (j k : ℕ) → slice_get rows j ≡ Some k → test k ≡ true → j ≡ row_of table n
            only j k e t =
                elim (f.each j k e) [
                  | inl same ↦
                      let one : same.0 ≡ over = some_same (sym (b.named j same.0 row.name same.1 (sym same.2 ∙ name_so k t)) ∙ meant) in
                      b.once j (row_of table n) over (same.1 ∙ ap Some one) here
                  | inr own ↦ absurd (not_before k own (name_so k t))
                ]

            first : (r m : ℕ) → slice_get start r ≡ Some m → (r ≡ row_of table n) ⊎ (r ≡ row_of table n → ⊥) →
                (k : ℕ) × (slice_get (slice_set rows (row_of table n) n) r ≡ Some k) × (method_name program k ≡ method_name program m)
            first r m e (inl same) =
                let one : over ≡ m = some_same (sym here ∙ ap (slice_get start) (sym same) ∙ e) in
                (n, ap (slice_get (slice_set rows (row_of table n) n)) same ∙ set_here rows (row_of table n) n stood.0 stood.1, name_told n row there ∙ sym called ∙ ap (method_name program) one)
            first r m e (inr apart) = let w = f.first r m e in (w.0, set_there rows (row_of table n) n r w.0 apart w.1, w.2)

            of : (r m : ℕ) → (slice_get rows r ≡ Some m) ⊎ ((r ≡ row_of table n) × (m ≡ n)) → Same r start m ⊎ Own class (suc n) m
            of r m (inl old) = later_so class n m r start (f.each r m old)
            of r m (inr new) = inr (subst (Own class (suc n)) (sym new.1) itself)

        put : Put (with_member table rows n)
        put = by (overridden_by table n) refl
          where
            by : (o : Option ℕ) → overridden_by table n ≡ o → Put (cond (is_some o) (slice_set rows (row_of table n) n) (rows ++ n ∷ []))
            by None none = put_new none
            by (Some over) is = put_over over is

    -- all methods from a number on
    abbrev own_ids : ℕ → List MethodRow → List ℕ
    own_ids class rows = map (λ (row : MethodRow). row.id) (filter (λ row. not row.is_constructor && (row.owner == class)) rows)

    all_put : (class : ℕ) (start : List ℕ) → Begins class start → (at : ℕ) (owns : List OwnMethod) (own_rows : List MethodRow) → length owns ≡ length own_rows →
        ((i : ℕ) (own : OwnMethod) (row : MethodRow) → slice_get owns i ≡ Some own → slice_get own_rows i ≡ Some row → Row program table (at + i) own row) →
        (rows : List ℕ) → Filled class start rows at → fold (with_member table) rows (own_ids class own_rows) ≡ with_methods program class at owns rows
    all_put class start b at [] [] many each rows f = refl
    all_put class start b at [] (row ∷ more) many each rows f = absurd (omega (arith, many))
    all_put class start b at (own ∷ owns) [] many each rows f = absurd (omega (arith, many))
    all_put class start b at (own ∷ owns) (row ∷ more) many each rows f =
        ap (λ t. fold (with_member table) rows (map (λ (one : MethodRow). one.id) (cond t (row ∷ filter (λ one. not one.is_constructor && (one.owner == class)) more) (filter (λ one. not one.is_constructor && (one.owner == class)) more)))) tested
        ∙ by (own.class == class) own.method.result refl refl
        (all_put class start b (suc at) owns more (omega (arith, many)) (λ i other one e d. let on : at + suc i ≡ suc at + i = omega arith in subst (λ k. Row program table k other one) on (each (suc i) other one e d)))
      where
        here : Row program table at own row
        here = let plain : at + 0 ≡ at = omega arith in subst (λ k. Row program table k own row) plain (each 0 own row refl refl)

        tested : (not row.is_constructor && (row.owner == class)) ≡ (not (is_constructor_result own.method.result) && (own.class == class))
        tested =
            ap (λ c. not c && (row.owner == class)) (ap (λ (r : PlainMethod). r.is_constructor) here.is)
            ∙ ap (λ k. not (is_constructor_result own.method.result) && (k == class)) (ap (λ (r : PlainMethod). r.owner) here.is)

        number : row.id ≡ at
        number = facts.numbered at row here.row_there

        of : is_constructor_result own.method.result ≡ false → own.class ≡ class → ((some : List ℕ) → Filled class start some (suc at) → fold (with_member table) some (own_ids class more) ≡ with_methods program class (suc at) owns some) →
            fold (with_member table) (with_member table rows row.id) (own_ids class more) ≡ with_methods program class (suc at) owns (in_row at (row_named program own.method.name rows) rows)
        of plain owner rest =
            let p = put class start b at row here.row_there (ap (λ (r : PlainMethod). r.is_constructor) here.is ∙ plain) (ap (λ (r : PlainMethod). r.owner) here.is ∙ owner) rows f in
            ap (λ k. fold (with_member table) (with_member table rows k) (own_ids class more)) number ∙ rest (with_member table rows at) p.filled
            ∙ ap (with_methods program class (suc at) owns) (sym p.is)
            ∙ ap (λ name. with_methods program class (suc at) owns (in_row at (row_named program name rows) rows)) (ap (λ (r : PlainMethod). r.name) here.is)

        by : (t : Bool) (r : MethodResult) → (own.class == class) ≡ t → own.method.result ≡ r → ((some : List ℕ) → Filled class start some (suc at) → fold (with_member table) some (own_ids class more) ≡ with_methods program class (suc at) owns some) →
            fold (with_member table) rows (map (λ (one : MethodRow). one.id) (cond (not (is_constructor_result r) && t) (row ∷ filter (λ one. not one.is_constructor && (one.owner == class)) more) (filter (λ one. not one.is_constructor && (one.owner == class)) more)))
            ≡ with_methods program class (suc at) owns (cond t (with_method program at own.method r rows) rows)
        by true outcome.Constructor e d rest = rest rows (passed class start rows at f)
        by false outcome.Constructor e d rest = rest rows (passed class start rows at f)
        by false outcome.Void e d rest = rest rows (passed class start rows at f)
        by false (outcome.Value kind) e d rest = rest rows (passed class start rows at f)
        by true outcome.Void e d rest = of (ap is_constructor_result d) (eqb-true own.class class e) rest
        by true (outcome.Value kind) e d rest = of (ap is_constructor_result d) (eqb-true own.class class e) rest

    own_put : (class : ℕ) → members_in table class ≡ with_methods program class 0 (all_methods program) (start_of (parent_of (headers_of table) class))
    own_put class =
        let start = start_of (parent_of (headers_of table) class) in
        made class
        ∙ all_put class start (begins class) 0 (all_methods program) (methods_of table) (sym (rows_many program table has))
        (λ i own row e d. let plain : i ≡ 0 + i = omega arith in subst (λ k. Row program table k own row) plain (both program table has i own row e d))
        start (record { first = λ r m e. (m, e, refl); each = λ r n e. inl (n, e, refl) })

-- the rows of a class
pub rows_are : (program : Program) (table : Table) (bodies : List PlainBody) (accepted : IsAccepted program table bodies) (class : ℕ) →
    members_in table class ≡ with_methods program class 0 (all_methods program) (rows_above (P program table bodies accepted) (parent_at table class))
rows_are program table bodies accepted class =
    own_put program table accepted.rows class ∙ ap (with_methods program class 0 (all_methods program)) (sym (by (parent_of (headers_of table) class) refl))
  where
    by : (o : Option ℕ) → parent_of (headers_of table) class ≡ o →
        rows_above (P program table bodies accepted) (option_map (λ above. record { class = above; args = parent_args_of table class }) o) ≡ unwrap_or (option_map (members_in table) o) []
    by None is = refl
    by (Some parent) is = ap (λ o. option_map_or (λ (k : PlainClass). k.rows) o []) (class_there program table bodies accepted parent (upper_there program table bodies accepted class parent is))
