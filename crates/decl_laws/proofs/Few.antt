-- A class has no more members than there are methods.
use Rattle.std.proofs.Common.{◌≡◌, ◌≢◌, ◌⊎◌, ◌∙◌, ℕ, zero, suc, ◌+◌, ◌≤◌, ◌==◌, ◌&&◌, ◌||◌, not, is_some, is_none, Bool, true, false, cond, List, [], ◌∷◌, ◌++◌, length, length-set, map, fold, slice_set, inl, inr, Option, None, Some, refl, ap, sym, arith}
use Rattle.std.proofs.lemmas.Bool.Decides.{eqb_tells}
use Rattle.std.proofs.lemmas.List.{length-append}
use Rattle.std.specs.List.{filter}
use Rattle.std.specs.Option.{option_map, option_map_or}
use Rattle.std.specs.Prelude.{slice_get, unwrap_or}
use Rattle.decl_headers.specs.Headers.{parent_of, parents_of}
use Rattle.decl_headers.specs.Rounds.{up}
use Rattle.decl_headers.proofs.Cycles.{not_round, up-then}
use Rattle.decl_headers.proofs.Inheriting.{made_step}
use Rattle.decl_headers.proofs.Walks.{top_none}
use Rattle.decl_table.specs.declared.rows.MethodRow.{MethodRow}
use Rattle.decl_table.specs.declared.table.Table.{Table}
use Rattle.decl_table.specs.Inherited.{with_member, members_after, members_in}
use Rattle.decl_table.specs.Places.{entry_at}
use Rattle.decl_table.specs.Table.{headers_of, methods_of, row_of}
use Rattle.decl_laws.specs.Rows.{is_own, one_new, new_in, inherited}
use Rattle.decl_laws.proofs.Facts.{Facts, parent_is}

module _ (table : Table) (facts : Facts table)
  where
    -- as many members as the superclass has, and the new ones
    folded : (rows : List ℕ) (at : ℕ) (rest : List MethodRow) (class : ℕ) → ((i : ℕ) (row : MethodRow) → slice_get rest i ≡ Some row → row.id ≡ at + i) →
        length (fold (with_member table) rows (map (λ row. row.id) (filter (λ row. not row.is_constructor && (row.owner == class)) rest))) ≡ length rows + new_in table.overrides class at rest
    folded rows at [] class ids = omega arith
    folded rows at (row ∷ rest) class ids =
        by (is_own class row) refl (λ some. folded some (at + 1) rest class (λ i other e. let h = ids (suc i) other e in omega (arith, h)))
      where
        id : row.id ≡ at
        id = let h = ids 0 row refl in omega (arith, h)

        more : List ℕ
        more = map (λ row. row.id) (filter (λ row. not row.is_constructor && (row.owner == class)) rest)

        size : (o : Option ℕ) → entry_at table.overrides row.id ≡ o → length (with_member table rows row.id) ≡ length rows + cond (is_none o) 1 0
        size None e = ap (λ o. length (cond (is_some o) (slice_set rows (row_of table row.id) row.id) (rows ++ row.id ∷ []))) e ∙ length-append rows (row.id ∷ [])
        size (Some above) e =
            let none : length rows ≡ length rows + 0 = omega arith in
            ap (λ o. length (cond (is_some o) (slice_set rows (row_of table row.id) row.id) (rows ++ row.id ∷ []))) e ∙ length-set rows (row_of table row.id) row.id ∙ none

        by : (b : Bool) → is_own class row ≡ b → ((some : List ℕ) → length (fold (with_member table) some more) ≡ length some + new_in table.overrides class (at + 1) rest) →
            length (fold (with_member table) rows (map (λ row. row.id) (cond b (row ∷ filter (λ row. not row.is_constructor && (row.owner == class)) rest) (filter (λ row. not row.is_constructor && (row.owner == class)) rest))))
            ≡ length rows + (one_new table.overrides class at row + new_in table.overrides class (at + 1) rest)
        by false not_mine h =
            let none = ap {A = Bool} {B = ℕ} (λ b. cond b (cond (is_none (entry_at table.overrides at)) 1 0) 0) not_mine in
            let more = h rows in
            omega (arith, none, more)
        by true is_mine h =
            let one = ap {A = Bool} {B = ℕ} (λ b. cond b (cond (is_none (entry_at table.overrides at)) 1 0) 0) is_mine in
            let same = ap {A = ℕ} {B = ℕ} (λ k. cond (is_none (entry_at table.overrides k)) 1 0) id in
            let more = h (with_member table rows row.id) in
            let grown = size (entry_at table.overrides row.id) refl in
            omega (arith, one, same, more, grown)

    pub sized : (class : ℕ) → length (members_in table class) ≡ inherited table class + new_in table.overrides class 0 (methods_of table)
    sized class =
        ap length (made_step (headers_of table) [] (members_after table) class facts.forest)
        ∙ folded (unwrap_or (option_map (members_in table) (parent_of (headers_of table) class)) []) 0 (methods_of table) class (λ i row e. let h = facts.numbered i row e in omega (arith, h))
        ∙ ap (λ n. n + new_in table.overrides class 0 (methods_of table)) (by (parent_of (headers_of table) class))
      where
        by : (o : Option ℕ) → length (unwrap_or (option_map (members_in table) o) []) ≡ option_map_or (λ above. length (members_in table above)) o 0
        by None = refl
        by (Some above) = refl

-- how many methods are of classes of some kind
abbrev tally : (ℕ → Bool) → List MethodRow → ℕ
tally kind [] = 0
tally kind (row ∷ rows) = cond (kind row.owner) 1 0 + tally kind rows

tally_most : (kind : ℕ → Bool) (rows : List MethodRow) → tally kind rows ≤ length rows
tally_most kind [] = omega arith
tally_most kind (row ∷ rows) =
    let h = tally_most kind rows in
    let one = most (kind row.owner) in
    omega (arith, h, one)
  where
    most : (b : Bool) → cond b 1 0 ≤ 1
    most true = omega arith
    most false = omega arith

one_most : (overrides : List (Option ℕ)) (class at : ℕ) (row : MethodRow) → one_new overrides class at row ≤ cond (row.owner == class) 1 0
one_most overrides class at row = by row.is_constructor (row.owner == class) (is_none (entry_at overrides at))
  where
    by : (c o n : Bool) → cond (not c && o) (cond n 1 0) 0 ≤ cond o 1 0
    by true true n = omega arith
    by true false n = omega arith
    by false false n = omega arith
    by false true true = omega arith
    by false true false = omega arith

-- the new methods of a class, and those of classes of another kind
both_tallied : (overrides : List (Option ℕ)) (class at : ℕ) (kind : ℕ → Bool) (rows : List MethodRow) → kind class ≡ false → new_in overrides class at rows + tally kind rows ≤ tally (λ c. (c == class) || kind c) rows
both_tallied overrides class at kind [] other = omega arith
both_tallied overrides class at kind (row ∷ rows) other =
    let more = both_tallied overrides class (at + 1) kind rows other in
    let one = one_most overrides class at row in
    let here = by (eqb_tells row.owner class) in
    omega (arith, more, one, here)
  where
    by : (((row.owner == class) ≡ true) × (row.owner ≡ class)) ⊎ (((row.owner == class) ≡ false) × (row.owner ≢ class)) → cond (row.owner == class) 1 0 + cond (kind row.owner) 1 0 ≤ cond ((row.owner == class) || kind row.owner) 1 0
    by (inl p) =
        let none = ap {A = Bool} {B = ℕ} (λ b. cond b 1 0) (ap kind p.1 ∙ other) in
        let mine = ap {A = Bool} {B = ℕ} (λ b. cond b 1 0) p.0 in
        let all = ap {A = Bool} {B = ℕ} (λ b. cond (b || kind row.owner) 1 0) p.0 in
        omega (arith, none, mine, all)
    by (inr q) =
        let mine = ap {A = Bool} {B = ℕ} (λ b. cond b 1 0) q.0 in
        let all = ap {A = Bool} {B = ℕ} (λ b. cond (b || kind row.owner) 1 0) q.0 in
        omega (arith, mine, all)

-- the members of a class are methods of it and of classes above it
record Tallied (table : Table) (class : ℕ) : Type 0 where
  kind : ℕ → Bool
  size : length (members_in table class) ≤ tally kind (methods_of table)
  above : (c : ℕ) → kind c ≡ true → (m : ℕ) × (up (parents_of (headers_of table)) m class ≡ Some c)

tallied : (table : Table) → Facts table → (n class : ℕ) → up (parents_of (headers_of table)) n class ≡ None → Tallied table class
tallied table facts zero class e = cc
tallied table facts (suc n) class e = by (parent_of (headers_of table) class) refl (tallied table facts n)
  where
    parents : List (Option ℕ)
    parents = parents_of (headers_of table)

    none_kind : (rows : List MethodRow) → tally (λ c. false) rows ≡ 0
    none_kind [] = refl
    none_kind (row ∷ rows) = let h = none_kind rows in omega (arith, h)

    by : (o : Option ℕ) → parent_of (headers_of table) class ≡ o → ((above : ℕ) → up parents n above ≡ None → Tallied table above) → Tallied table class
    by None is more = record {
      kind = λ c. (c == class) || false;
      size =
          let all = sized table facts class in
          let from = ap (λ o. option_map_or (λ above. length (members_in table above)) o 0) is in
          let own = both_tallied table.overrides class 0 (λ c. false) (methods_of table) refl in
          let none = none_kind (methods_of table) in
          omega (arith, all, from, own, none);
      above = λ c k. (0, ap Some (mine c k));
    }
      where
        mine : (c : ℕ) → ((c == class) || false) ≡ true → class ≡ c
        mine c k = elim (eqb_tells c class) [ inl p ↦ sym p.1 | inr q ↦ cc (ap (λ b. b || false) q.0, k) ]
    by (Some parent) is more =
        let on : n + 1 ≡ suc n = omega arith in
        let w = more parent (sym (up-then parents n 1 class parent (sym (parent_is table class) ∙ is)) ∙ ap (λ k. up parents k class) on ∙ e) in
        record {
          kind = λ c. (c == class) || w.kind c;
          size =
              let all = sized table facts class in
              let from = ap (λ o. option_map_or (λ above. length (members_in table above)) o 0) is in
              let own = both_tallied table.overrides class 0 w.kind (methods_of table) (free w) in
              let rest = w.size in
              omega (arith, all, from, own, rest);
          above = λ c k. higher w c k;
        }
      where
        higher : (w : Tallied table parent) (c : ℕ) → ((c == class) || w.kind c) ≡ true → (m : ℕ) × (up parents m class ≡ Some c)
        higher w c k =
            elim (eqb_tells c class) [
              | inl p ↦ (0, ap Some (sym p.1))
              | inr q ↦
                  let u = w.above c (sym (ap (λ b. b || w.kind c) q.0) ∙ k) in
                  let on : u.0 + 1 ≡ suc u.0 = omega arith in
                  (suc u.0, ap (λ k. up parents k class) (sym on) ∙ up-then parents u.0 1 class parent (sym (parent_is table class) ∙ is) ∙ u.1)
            ]

        free : (w : Tallied table parent) → w.kind class ≡ false
        free w = or_not (w.kind class) refl
          where
            or_not : (b : Bool) → w.kind class ≡ b → b ≡ false
            or_not false k = refl
            or_not true k =
                let u = w.above class k in
                let on : u.0 + 1 ≡ suc u.0 = omega arith in
                absurd (not_round (parents_of (headers_of table)) class (facts.forest.straight class) (u.0, ap (λ k. up parents k class) (sym on) ∙ up-then parents u.0 1 class parent (sym (parent_is table class) ∙ is) ∙ u.1))

pub members_few : (table : Table) → Facts table → (class : ℕ) → length (members_in table class) ≤ length (methods_of table)
members_few table facts class =
    let parents = parents_of (headers_of table) in
    let w = tallied table facts (suc (length parents)) class (top_none parents (suc (length parents)) class facts.forest (omega arith)) in
    let size = w.size in
    let most = tally_most w.kind (methods_of table) in
    omega (arith, size, most)
