-- A method stands in its row in each class in which its name means it, and a class keeps the rows of its superclass.
use Rattle.std.proofs.Common.{◌≡◌, ◌≢◌, ◌⊎◌, ◌∙◌, ℕ, zero, suc, ◌+◌, ◌<◌, ◌==◌, ◌&&◌, not, is_some, is_none, Bool, true, false, cond, List, [], ◌∷◌, ◌++◌, length, length-set, map, fold, take, slice_set, inl, inr, Option, None, Some, refl, ap, sym, subst, append_assoc, arith}
use Rattle.std.proofs.Math.Seq.{take-append_seam}
use Rattle.std.proofs.lemmas.Bool.{cases_eq}
use Rattle.std.proofs.lemmas.Bool.Decides.{eqb_tells}
use Rattle.std.proofs.lemmas.List.{length-append}
use Rattle.std.proofs.lemmas.Option.{slice_get_within}
use Rattle.std.specs.List.{filter}
use Rattle.std.specs.Option.{option_and_then, option_map, option_map_or}
use Rattle.std.specs.Prelude.{slice_get, unwrap_or}
use Rattle.syntax_tree.specs.declared.class.Program.{Program}
use Rattle.decl_headers.specs.Headers.{chain, nearest, parent_of, parents_of, class_count}
use Rattle.decl_headers.specs.Rounds.{up}
use Rattle.decl_headers.proofs.Cycles.{up-then}
use Rattle.decl_headers.proofs.Inheriting.{made_step}
use Rattle.decl_headers.proofs.Second.{and_true}
use Rattle.decl_headers.proofs.Walks.{top_none}
use Rattle.decl_table.specs.declared.rows.MethodRow.{MethodRow}
use Rattle.decl_table.specs.declared.table.Table.{Table}
use Rattle.decl_table.specs.Inherited.{with_member, members_after, members_in}
use Rattle.decl_table.specs.Overridden.{method_named}
use Rattle.decl_table.specs.Places.{entry_at, last_from, by_id, is_method_of, method_number}
use Rattle.decl_table.specs.Table.{headers_of, methods_of, method_of, numbered, overridden_by, row_of}
use Rattle.decl_laws.specs.Rows.{is_own, one_new, new_in, RowIs, as_overridden, as_next, inherited, HasRows}
use Rattle.decl_laws.proofs.Facts.{Facts, facts_of, parent_is, IsMethod, named_is}
use Rattle.decl_laws.proofs.Given.{rows_given}
use Rattle.decl_laws.proofs.Numbers.{new_append, one_row, owner_of}

some_same : {A : Type 0} {x y : A} → Some x ≡ Some y → x ≡ y
some_same h = cc

-- what a list has after a change
put_here : (xs : List ℕ) (at value : ℕ) → at < length xs → slice_get (slice_set xs at value) at ≡ Some value
put_here [] at value l = absurd (omega (arith, l))
put_here (x ∷ xs) zero value l = refl
put_here (x ∷ xs) (suc at) value l = put_here xs at value (omega (arith, l))

put_there : (xs : List ℕ) (at other value : ℕ) → other ≢ at → slice_get (slice_set xs at value) other ≡ slice_get xs other
put_there [] at other value apart = refl
put_there (x ∷ xs) zero zero value apart = absurd (apart refl)
put_there (x ∷ xs) zero (suc other) value apart = refl
put_there (x ∷ xs) (suc at) zero value apart = refl
put_there (x ∷ xs) (suc at) (suc other) value apart = put_there xs at other value (λ e. apart (ap suc e))

more_there : (xs : List ℕ) (at one value : ℕ) → slice_get xs at ≡ Some one → slice_get (xs ++ value ∷ []) at ≡ Some one
more_there [] at one value e = cc
more_there (x ∷ xs) zero one value e = e
more_there (x ∷ xs) (suc at) one value e = more_there xs at one value e

last_there : (xs : List ℕ) (value : ℕ) → slice_get (xs ++ value ∷ []) (length xs) ≡ Some value
last_there [] value = refl
last_there (x ∷ xs) value = last_there xs value

last_else : (class name at : ℕ) (found : Option ℕ) (rows : List MethodRow) → last_from (is_method_of class name) by_id at found rows ≡ option_map_or (λ id. Some id) (last_from (is_method_of class name) by_id at None rows) found
last_else class name at found [] = refl
last_else class name at found (row ∷ rows) =
    last_else class name (at + 1) (cond (is_method_of class name row) (Some row.id) found) rows
    ∙ by (is_method_of class name row) (last_from (is_method_of class name) by_id (at + 1) None rows)
    ∙ ap (λ o. option_map_or (λ id. Some id) o found) (sym (last_else class name (at + 1) (cond (is_method_of class name row) (Some row.id) None) rows))
  where
    by : (b : Bool) (o : Option ℕ) → option_map_or (λ id. Some id) o (cond b (Some row.id) found) ≡ option_map_or (λ id. Some id) (option_map_or (λ id. Some id) o (cond b (Some row.id) None)) found
    by b (Some id) = refl
    by true None = refl
    by false None = refl

nearest_longer : (f parent : ℕ → Option ℕ) (n at x : ℕ) → nearest f (chain parent n at) ≡ Some x → nearest f (chain parent (suc n) at) ≡ Some x
nearest_longer f parent zero at x e = cc
nearest_longer f parent (suc n) at x e = by (f at) (parent at) e (nearest_longer f parent n)
  where
    by : (o : Option ℕ) (p : Option ℕ) → option_map_or (λ number. Some number) o (nearest f (option_map_or (λ above. chain parent n above) p [])) ≡ Some x → ((above y : ℕ) → nearest f (chain parent n above) ≡ Some y → nearest f (chain parent (suc n) above) ≡ Some y) →
        option_map_or (λ number. Some number) o (nearest f (option_map_or (λ above. chain parent (suc n) above) p [])) ≡ Some x
    by (Some y) p e more = e
    by None None e more = e
    by None (Some above) e more = more above x e

module _ (table : Table) (facts : Facts table) (given : (id : ℕ) (method : MethodRow) → slice_get (methods_of table) id ≡ Some method → method.is_constructor ≡ false → RowIs table.overrides (methods_of table) (inherited table) id (row_of table id))
  where
    -- what a name means in the superclass of a class
    abbrev above_named : ℕ → ℕ → Option ℕ
    above_named class name = option_and_then (λ parent. method_named table parent name) (parent_of (headers_of table) class)

    -- what it means is found in the class, or above it
    named_split : (class name id : ℕ) → method_named table class name ≡ Some id → last_from (is_method_of class name) by_id 0 (above_named class name) (methods_of table) ≡ Some id
    named_split class name id e = last_else class name 0 (above_named class name) (methods_of table) ∙ by (class_count (headers_of table)) refl e
      where
        own : ℕ → Option ℕ
        own at = method_number (methods_of table) at name

        inner : (n : ℕ) (o p : Option ℕ) → option_map_or (λ number. Some number) o (nearest own (option_map_or (λ above. chain (parent_of (headers_of table)) n above) p [])) ≡ Some id →
            option_map_or (λ id. Some id) o (option_and_then (λ parent. nearest own (chain (parent_of (headers_of table)) (suc n) parent)) p) ≡ Some id
        inner n (Some y) p e = e
        inner n None None e = cc
        inner n None (Some above) e = nearest_longer own (parent_of (headers_of table)) n above id e

        by : (n : ℕ) → class_count (headers_of table) ≡ n → nearest own (chain (parent_of (headers_of table)) n class) ≡ Some id →
            option_map_or (λ id. Some id) (own class) (option_and_then (λ parent. nearest own (chain (parent_of (headers_of table)) n parent)) (parent_of (headers_of table) class)) ≡ Some id
        by zero is e = cc
        by (suc n) is e = inner n (own class) (parent_of (headers_of table) class) e

    -- the methods that names mean stand in their rows
    abbrev Stands : ℕ → Type 0
    Stands class = (name id : ℕ) → method_named table class name ≡ Some id → slice_get (members_in table class) (row_of table id) ≡ Some id

    above_split : (class name id : ℕ) → above_named class name ≡ Some id → (parent : ℕ) × (parent_of (headers_of table) class ≡ Some parent) × (method_named table parent name ≡ Some id)
    above_split class name id e = by (parent_of (headers_of table) class) refl e
      where
        by : (o : Option ℕ) → parent_of (headers_of table) class ≡ o → option_and_then (λ parent. method_named table parent name) o ≡ Some id → (parent : ℕ) × (parent_of (headers_of table) class ≡ Some parent) × (method_named table parent name ≡ Some id)
        by None is found = cc
        by (Some parent) is found = (parent, is, found)

    is_method : (class name id : ℕ) → above_named class name ≡ Some id → (owner : ℕ) × IsMethod table owner name id
    is_method class name id e =
        let w = above_split class name id e in
        let p = named_is table facts w.0 name id w.2 in
        (p.0, p.3)

    -- the row of a method that overrides none, and of one that overrides another
    next_row : (id row : ℕ) (method : MethodRow) → RowIs table.overrides (methods_of table) (inherited table) id row → slice_get (methods_of table) id ≡ Some method → entry_at table.overrides id ≡ None →
        row ≡ inherited table method.owner + new_in table.overrides method.owner 0 (take id (methods_of table))
    next_row id row method (as_overridden above e h) there none = cc (e, none)
    next_row id row method (as_next one also e is) there none =
        is ∙ ap (λ (m : MethodRow). inherited table m.owner + new_in table.overrides m.owner 0 (take id (methods_of table))) (some_same (sym also ∙ there))

    over_row : (id above row : ℕ) → RowIs table.overrides (methods_of table) (inherited table) id row → entry_at table.overrides id ≡ Some above → RowIs table.overrides (methods_of table) (inherited table) above row
    over_row id above row (as_overridden other e h) is =
        let same : other ≡ above = cc in
        subst (λ k. RowIs table.overrides (methods_of table) (inherited table) k row) same h
    over_row id above row (as_next one also e be) is = cc (e, is)

    module _ (class : ℕ) (start : List ℕ) (long : length start ≡ inherited table class) (first : (name id : ℕ) → above_named class name ≡ Some id → slice_get start (row_of table id) ≡ Some id)
      where
        -- some of the methods of the class have their places; of each name it is known what it means so far
        record Placed (earlier : List MethodRow) (rows : List ℕ) (meant : ℕ → Option ℕ) : Type 0 where
          stands : (name id : ℕ) → meant name ≡ Some id → slice_get rows (row_of table id) ≡ Some id
          named : (name id : ℕ) → meant name ≡ Some id → (row : MethodRow) × (slice_get (methods_of table) id ≡ Some row) × (row.name ≡ name)
          size : length rows ≡ length start + new_in table.overrides class 0 earlier
          above : (name over : ℕ) → above_named class name ≡ Some over → (id : ℕ) × (meant name ≡ Some id) × (row_of table id ≡ row_of table over)
          kept : (row id : ℕ) → slice_get start row ≡ Some id → (other : ℕ) × (slice_get rows row ≡ Some other) × ((other ≡ id) ⊎ (overridden_by table other ≡ Some id))

        placed_first : Placed [] start (λ name. above_named class name)
        placed_first = record {
          stands = first;
          named = λ name id e. let w = is_method class name id e in (w.1.row, w.1.there, w.1.called);
          size = omega arith;
          above = λ name over e. (over, e, refl);
          kept = λ row id e. (id, e, inl refl);
        }

        abbrev meant_after : MethodRow → (ℕ → Option ℕ) → ℕ → Option ℕ
        meant_after row meant name = cond (is_method_of class name row) (Some row.id) (meant name)

        -- the row of a method of another class
        passed : (earlier : List MethodRow) (row : MethodRow) (rows : List ℕ) (meant : ℕ → Option ℕ) → is_own class row ≡ false → Placed earlier rows meant → Placed (earlier ++ row ∷ []) rows (meant_after row meant)
        passed earlier row rows meant not_mine p = record {
          stands = λ name id e. p.stands name id (sym (same name) ∙ e);
          named = λ name id e. p.named name id (sym (same name) ∙ e);
          size =
              let grown = new_append table.overrides class 0 earlier (row ∷ []) in
              let none = ap {A = Bool} {B = ℕ} (λ b. cond b (cond (is_none (entry_at table.overrides (0 + length earlier))) 1 0) 0) not_mine in
              let size = p.size in
              omega (arith, grown, none, size);
          above = λ name over e. let w = p.above name over e in (w.0, same name ∙ w.1, w.2);
          kept = p.kept;
        }
          where
            both : (c o n : Bool) → (not c && o) ≡ false → (not c && (o && n)) ≡ false
            both true o n h = refl
            both false true n h = cc
            both false false n h = refl

            same : (name : ℕ) → meant_after row meant name ≡ meant name
            same name = ap (λ b. cond b (Some row.id) (meant name)) (both row.is_constructor (row.owner == class) (row.name == name) not_mine)

        module _ (earlier : List MethodRow) (row : MethodRow) (rest : List MethodRow) (split : methods_of table ≡ earlier ++ row ∷ rest) (own : is_own class row ≡ true) (rows : List ℕ) (meant : ℕ → Option ℕ) (p : Placed earlier rows meant)
          where
            there : slice_get (methods_of table) (length earlier) ≡ Some row
            there = ap (λ (ms : List MethodRow). slice_get ms (length earlier)) split ∙ seam earlier
              where
                seam : (xs : List MethodRow) → slice_get (xs ++ row ∷ rest) (length xs) ≡ Some row
                seam [] = refl
                seam (x ∷ xs) = seam xs

            id_is : row.id ≡ length earlier
            id_is = facts.numbered (length earlier) row there

            there_id : slice_get (methods_of table) row.id ≡ Some row
            there_id = ap (slice_get (methods_of table)) id_is ∙ there

            plain : row.is_constructor ≡ false
            plain = by row.is_constructor refl (and_true (not row.is_constructor) (row.owner == class) own).0
              where
                by : (b : Bool) → row.is_constructor ≡ b → not b ≡ true → b ≡ false
                by true e h = cc
                by false e h = refl

            owner : row.owner ≡ class
            owner = owner_of class row own

            over_said : overridden_by table row.id ≡ above_named class row.name
            over_said =
                facts.overrides row.id row there_id
                ∙ ap (λ b. cond b None (option_and_then (λ above. method_named table above row.name) (parent_of (headers_of table) row.owner))) plain
                ∙ ap (λ k. option_and_then (λ above. method_named table above row.name) (parent_of (headers_of table) k)) owner

            is_row : RowIs table.overrides (methods_of table) (inherited table) row.id (row_of table row.id)
            is_row = given row.id row there_id plain

            meant_is : (name : ℕ) → is_method_of class name row ≡ (row.name == name)
            meant_is name =
                let w = and_true (not row.is_constructor) (row.owner == class) own in
                ap (λ b. b && ((row.owner == class) && (row.name == name))) w.0 ∙ ap (λ b. b && (row.name == name)) w.1

            -- a name means this method now, or what it did
            means : (name id : ℕ) → meant_after row meant name ≡ Some id → ((row.name ≡ name) × (row.id ≡ id)) ⊎ ((row.name ≢ name) × (meant name ≡ Some id))
            means name id e =
                elim (eqb_tells row.name name) [
                  | inl q ↦ inl (q.1, some_same (sym (ap (λ b. cond b (Some row.id) (meant name)) (meant_is name ∙ q.0)) ∙ e))
                  | inr q ↦ inr (q.1, sym (ap (λ b. cond b (Some row.id) (meant name)) (meant_is name ∙ q.0)) ∙ e)
                ]

            named_after : (name id : ℕ) → meant_after row meant name ≡ Some id → (one : MethodRow) × (slice_get (methods_of table) id ≡ Some one) × (one.name ≡ name)
            named_after name id e =
                elim (means name id e) [
                  | inl q ↦ (row, ap (slice_get (methods_of table)) (sym q.1) ∙ there_id, q.0)
                  | inr q ↦ p.named name id q.1
                ]

            -- it overrides none
            new_placed : overridden_by table row.id ≡ None → Placed (earlier ++ row ∷ []) (rows ++ row.id ∷ []) (meant_after row meant)
            new_placed none = record {
              stands = λ name id e.
                  elim (means name id e) [
                    | inl q ↦ ap (slice_get (rows ++ row.id ∷ [])) (ap (row_of table) (sym q.1) ∙ last_row) ∙ last_there rows row.id ∙ ap Some q.1
                    | inr q ↦ more_there rows (row_of table id) id row.id (p.stands name id q.1)
                  ];
              named = named_after;
              size =
                  let size = p.size in
                  let longer = length-append rows (row.id ∷ []) in
                  let grown = new_append table.overrides class 0 earlier (row ∷ []) in
                  let one = counted in
                  omega (arith, size, longer, grown, one);
              above = λ name over e.
                  elim (eqb_tells row.name name) [
                    | inl q ↦ absurd (none_some (sym (sym over_said ∙ none) ∙ ap (above_named class) q.1 ∙ e))
                    | inr q ↦
                        let w = p.above name over e in
                        (w.0, ap (λ b. cond b (Some row.id) (meant name)) (meant_is name ∙ q.0) ∙ w.1, w.2)
                  ];
              kept = λ at id e. let w = p.kept at id e in (w.0, more_there rows at w.0 row.id w.1, w.2);
            }
              where
                none_some : {y : ℕ} → None ≡ Some y → ⊥
                none_some h = cc

                counted : one_new table.overrides class (0 + length earlier) row ≡ 1
                counted =
                    let here : 0 + length earlier ≡ row.id = omega (arith, id_is) in
                    ap {A = Bool} {B = ℕ} (λ b. cond b (cond (is_none (entry_at table.overrides (0 + length earlier))) 1 0) 0) own
                    ∙ ap {A = ℕ} {B = ℕ} (λ k. cond (is_none (entry_at table.overrides k)) 1 0) here
                    ∙ ap {A = Option ℕ} {B = ℕ} (λ o. cond (is_none o) 1 0) none

                before : take row.id (methods_of table) ≡ earlier
                before = ap (take row.id) split ∙ ap (λ k. take k (earlier ++ row ∷ rest)) id_is ∙ take-append_seam earlier (row ∷ rest)

                last_row : row_of table row.id ≡ length rows
                last_row =
                    let size = p.size in
                    let is = next_row row.id (row_of table row.id) row is_row there_id none in
                    let here = ap (λ k. inherited table k + new_in table.overrides k 0 (take row.id (methods_of table))) owner in
                    let same = ap (λ ms. new_in table.overrides class 0 ms) before in
                    omega (arith, size, is, here, same, long)

            -- it overrides another
            over_placed : (over : ℕ) → overridden_by table row.id ≡ Some over → Placed (earlier ++ row ∷ []) (slice_set rows (row_of table row.id) row.id) (meant_after row meant)
            over_placed over is = record {
              stands = λ name id e.
                  elim (means name id e) [
                    | inl q ↦ ap (λ k. slice_get (slice_set rows (row_of table row.id) row.id) (row_of table k)) (sym q.1) ∙ put_here rows (row_of table row.id) row.id within ∙ ap Some q.1
                    | inr q ↦ put_there rows (row_of table row.id) (row_of table id) row.id (apart name id q.0 q.1) ∙ p.stands name id q.1
                  ];
              named = named_after;
              size =
                  let size = p.size in
                  let same = length-set rows (row_of table row.id) row.id in
                  let grown = new_append table.overrides class 0 earlier (row ∷ []) in
                  let none = counted in
                  omega (arith, size, same, grown, none);
              above = λ name one e.
                  elim (eqb_tells row.name name) [
                    | inl q ↦ (row.id, ap (λ b. cond b (Some row.id) (meant name)) (meant_is name ∙ q.0), at_row ∙ ap (row_of table) (some_same (sym said ∙ ap (above_named class) q.1 ∙ e)))
                    | inr q ↦
                        let w = p.above name one e in
                        (w.0, ap (λ b. cond b (Some row.id) (meant name)) (meant_is name ∙ q.0) ∙ w.1, w.2)
                  ];
              kept = λ at id e.
                  elim (cases_eq at (row_of table row.id)) [
                    | inl q ↦ (row.id, ap (slice_get (slice_set rows (row_of table row.id) row.id)) q ∙ put_here rows (row_of table row.id) row.id within, inr (is ∙ ap Some (some_same (sym (first row.name over said) ∙ ap (slice_get start) (sym (q ∙ at_row)) ∙ e))))
                    | inr q ↦
                        let w = p.kept at id e in
                        (w.0, put_there rows (row_of table row.id) at row.id q ∙ w.1, w.2)
                  ];
            }
              where
                said : above_named class row.name ≡ Some over
                said = sym over_said ∙ is

                at_row : row_of table row.id ≡ row_of table over
                at_row =
                    let w = is_method class row.name over said in
                    let m = w.1 in
                    one_row table.overrides (methods_of table) (inherited table) over (row_of table row.id) (row_of table over) (over_row row.id over (row_of table row.id) is_row is)
                    (given over m.row m.there (not_made m.row.is_constructor (and_true (not m.row.is_constructor) (m.row.owner == w.0) m.own).0))
                  where
                    not_made : (b : Bool) → not b ≡ true → b ≡ false
                    not_made true h = cc
                    not_made false h = refl

                now : (id : ℕ) × (meant row.name ≡ Some id) × (row_of table id ≡ row_of table over)
                now = p.above row.name over said

                stood : slice_get rows (row_of table row.id) ≡ Some now.0
                stood = ap (slice_get rows) (at_row ∙ sym now.2) ∙ p.stands row.name now.0 now.1

                within : row_of table row.id < length rows
                within = slice_get_within rows (row_of table row.id) now.0 stood

                counted : one_new table.overrides class (0 + length earlier) row ≡ 0
                counted =
                    let here : 0 + length earlier ≡ row.id = omega (arith, id_is) in
                    ap {A = Bool} {B = ℕ} (λ b. cond b (cond (is_none (entry_at table.overrides (0 + length earlier))) 1 0) 0) own
                    ∙ ap {A = ℕ} {B = ℕ} (λ k. cond (is_none (entry_at table.overrides k)) 1 0) here
                    ∙ ap {A = Option ℕ} {B = ℕ} (λ o. cond (is_none o) 1 0) is

                apart : (name id : ℕ) → row.name ≢ name → meant name ≡ Some id → row_of table id ≢ row_of table row.id
                apart name id differs e same =
                    let one : id ≡ now.0 = some_same (sym (p.stands name id e) ∙ ap (slice_get rows) same ∙ stood) in
                    let a = p.named name id e in
                    let b = p.named row.name now.0 now.1 in
                    let rows_same : a.0 ≡ b.0 = some_same (sym a.1 ∙ ap (slice_get (methods_of table)) one ∙ b.1) in
                    differs (sym b.2 ∙ ap (λ (r : MethodRow). r.name) (sym rows_same) ∙ a.2)

            own_placed : Placed (earlier ++ row ∷ []) (with_member table rows row.id) (meant_after row meant)
            own_placed = by (overridden_by table row.id) refl
              where
                by : (o : Option ℕ) → overridden_by table row.id ≡ o → Placed (earlier ++ row ∷ []) (cond (is_some o) (slice_set rows (row_of table row.id) row.id) (rows ++ row.id ∷ [])) (meant_after row meant)
                by None e = new_placed e
                by (Some over) e = over_placed over e

        placed_all : (at : ℕ) (earlier rest : List MethodRow) → methods_of table ≡ earlier ++ rest → (rows : List ℕ) (meant : ℕ → Option ℕ) → Placed earlier rows meant →
            Placed (earlier ++ rest) (fold (with_member table) rows (map (λ row. row.id) (filter (λ row. not row.is_constructor && (row.owner == class)) rest))) (λ name. last_from (is_method_of class name) by_id at (meant name) rest)
        placed_all at earlier [] split rows meant p = subst (λ es. Placed es rows meant) (sym (append_nil earlier)) p
          where
            append_nil : {A : Type 0} (xs : List A) → xs ++ [] ≡ xs
            append_nil [] = refl
            append_nil (x ∷ xs) = ap (λ z. x ∷ z) (append_nil xs)
        placed_all at earlier (row ∷ rest) split rows meant p =
            subst (λ es. Placed es (fold (with_member table) rows (map (λ row. row.id) (filter (λ row. not row.is_constructor && (row.owner == class)) (row ∷ rest)))) (λ name. last_from (is_method_of class name) by_id at (meant name) (row ∷ rest)))
            (append_assoc earlier (row ∷ []) rest)
            (by (is_own class row) refl (placed_all (at + 1) (earlier ++ row ∷ []) rest (split ∙ sym (append_assoc earlier (row ∷ []) rest))))
          where
            by : (b : Bool) → is_own class row ≡ b →
                ((some : List ℕ) (meaning : ℕ → Option ℕ) → Placed (earlier ++ row ∷ []) some meaning → Placed ((earlier ++ row ∷ []) ++ rest) (fold (with_member table) some (map (λ row. row.id) (filter (λ row. not row.is_constructor && (row.owner == class)) rest))) (λ name. last_from (is_method_of class name) by_id (at + 1) (meaning name) rest)) →
                Placed ((earlier ++ row ∷ []) ++ rest) (fold (with_member table) rows (map (λ row. row.id) (cond b (row ∷ filter (λ row. not row.is_constructor && (row.owner == class)) rest) (filter (λ row. not row.is_constructor && (row.owner == class)) rest)))) (λ name. last_from (is_method_of class name) by_id at (meant name) (row ∷ rest))
            by false not_mine more = more rows (meant_after row meant) (passed earlier row rows meant not_mine p)
            by true own more = more (with_member table rows row.id) (meant_after row meant) (own_placed earlier row rest split own rows meant p)

    abbrev start_of : ℕ → List ℕ
    start_of class = unwrap_or (option_map (members_in table) (parent_of (headers_of table) class)) []

    start_long : (class : ℕ) → length (start_of class) ≡ inherited table class
    start_long class = by (parent_of (headers_of table) class)
      where
        by : (o : Option ℕ) → length (unwrap_or (option_map (members_in table) o) []) ≡ option_map_or (λ above. length (members_in table above)) o 0
        by None = refl
        by (Some above) = refl

    start_first : (class : ℕ) → ((parent : ℕ) → parent_of (headers_of table) class ≡ Some parent → Stands parent) → (name id : ℕ) → above_named class name ≡ Some id → slice_get (start_of class) (row_of table id) ≡ Some id
    start_first class higher name id e =
        let w = above_split class name id e in
        ap (λ o. slice_get (unwrap_or (option_map (members_in table) o) []) (row_of table id)) w.1 ∙ higher w.0 w.1 name id w.2

    -- all methods of a class have their places, where those of the superclass have theirs
    whole : (class : ℕ) → (higher : (parent : ℕ) → parent_of (headers_of table) class ≡ Some parent → Stands parent) →
        Placed class (start_of class) (start_long class) (start_first class higher) (methods_of table) (members_in table class) (λ name. last_from (is_method_of class name) by_id 0 (above_named class name) (methods_of table))
    whole class higher =
        subst (λ rows. Placed class (start_of class) (start_long class) (start_first class higher) (methods_of table) rows (λ name. last_from (is_method_of class name) by_id 0 (above_named class name) (methods_of table)))
        (sym (made_step (headers_of table) [] (members_after table) class facts.forest))
        (placed_all class (start_of class) (start_long class) (start_first class higher) 0 [] (methods_of table) refl (start_of class) (λ name. above_named class name) (placed_first class (start_of class) (start_long class) (start_first class higher)))

    stands_up : (n class : ℕ) → up (parents_of (headers_of table)) n class ≡ None → Stands class
    stands_up zero class e name id named = cc
    stands_up (suc n) class e name id named =
        (whole class (λ parent is. stands_up n parent (higher parent is))).stands name id (named_split class name id named)
      where
        higher : (parent : ℕ) → parent_of (headers_of table) class ≡ Some parent → up (parents_of (headers_of table)) n parent ≡ None
        higher parent is =
            let on : n + 1 ≡ suc n = omega arith in
            sym (up-then (parents_of (headers_of table)) n 1 class parent (sym (parent_is table class) ∙ is)) ∙ ap (λ k. up (parents_of (headers_of table)) k class) on ∙ e

    pub all_stand : (class : ℕ) → Stands class
    all_stand class =
        let parents = parents_of (headers_of table) in
        stands_up (suc (length parents)) class (top_none parents (suc (length parents)) class facts.forest (omega arith))

    pub all_kept : (class above row id : ℕ) → parent_of (headers_of table) class ≡ Some above → slice_get (members_in table above) row ≡ Some id →
        (other : ℕ) × (slice_get (members_in table class) row ≡ Some other) × ((other ≡ id) ⊎ (overridden_by table other ≡ Some id))
    all_kept class above row id is e =
        (whole class (λ parent q. all_stand parent)).kept row id (ap (λ o. slice_get (unwrap_or (option_map (members_in table) o) []) row) is ∙ e)

pub methods_stand : (program : Program) (table : Table) → HasRows program table → (class name : ℕ) (method : MethodRow) → method_of table class name ≡ Some method →
    slice_get (members_in table class) (row_of table method.id) ≡ Some method.id
methods_stand program table has class name method e = by (method_named table class name) refl e
  where
    facts : Facts table
    facts = facts_of program table has

    by : (o : Option ℕ) → method_named table class name ≡ o → option_and_then (numbered table) o ≡ Some method → slice_get (members_in table class) (row_of table method.id) ≡ Some method.id
    by None is found = cc
    by (Some id) is found =
        subst (λ k. slice_get (members_in table class) (row_of table k) ≡ Some k) (sym (facts.numbered id method found))
        (all_stand table facts (rows_given program table has) class name id is)

pub rows_kept : (program : Program) (table : Table) → HasRows program table → (class above row id : ℕ) → parent_of (headers_of table) class ≡ Some above → slice_get (members_in table above) row ≡ Some id →
    (other : ℕ) × (slice_get (members_in table class) row ≡ Some other) × ((other ≡ id) ⊎ (overridden_by table other ≡ Some id))
rows_kept program table has = all_kept table (facts_of program table has) (rows_given program table has)
