-- The methods of a class get their rows, where the methods that they override have theirs.
use Rattle.std.proofs.Common.{◌≡◌, ◌≢◌, ◌∙◌, ℕ, zero, suc, ◌+◌, ◌<◌, ◌≤◌, Bool, true, false, cond, is_none, List, [], ◌∷◌, ◌++◌, length, length-set, take, get_or, get_or-set_same, get_or-set_other, slice_set, not, ◌==◌, inl, inr, Option, None, Some, refl, ap, sym, subst, append_assoc, arith}
use Rattle.std.proofs.Math.Seq.{take-append_seam}
use Rattle.std.proofs.lemmas.Bool.Decides.{eqb_tells}
use Rattle.std.proofs.lemmas.List.{length-append}
use Rattle.std.specs.Option.{option_map_or}
use Rattle.std.specs.Prelude.{slice_get}
use Rattle.decl_headers.specs.Numbers.{as_number}
use Rattle.decl_table.specs.declared.rows.MethodRow.{MethodRow}
use Rattle.decl_table.specs.Places.{entry_at}
use Rattle.decl_table.specs.RowNumbers.{Numbering, with_all_rows}
use Rattle.decl_table.specs.Visible.{own_row}
use Rattle.decl_headers.proofs.Second.{and_true}
use Rattle.decl_table.proofs.Visible.{own_from}
use Rattle.decl_laws.specs.Rows.{is_own, one_new, new_in, RowIs, as_overridden, as_next}

pub new_append : (overrides : List (Option ℕ)) (class at : ℕ) (xs ys : List MethodRow) → new_in overrides class at (xs ++ ys) ≡ new_in overrides class at xs + new_in overrides class (at + length xs) ys
new_append overrides class at [] ys =
    let here : at ≡ at + 0 = omega arith in
    let e = ap (λ k. new_in overrides class k ys) here in
    omega (arith, e)
new_append overrides class at (x ∷ xs) ys =
    let h = new_append overrides class (at + 1) xs ys in
    let here : at + 1 + length xs ≡ at + suc (length xs) = omega arith in
    let e = ap (λ k. new_in overrides class k ys) here in
    omega (arith, h, e)

-- whose method it is
pub owner_of : (class : ℕ) (row : MethodRow) → is_own class row ≡ true → row.owner ≡ class
owner_of class row own =
    let same = (and_true (not row.is_constructor) (row.owner == class) own).1 in
    elim (eqb_tells row.owner class) [ inl p ↦ p.1 | inr q ↦ cc (q.0, same) ]

pub method_own : (row : MethodRow) → row.is_constructor ≡ false → is_own row.owner row ≡ true
method_own row method = elim (eqb_tells row.owner row.owner) [ inl p ↦ cc (p.0, method) | inr q ↦ absurd (q.1 refl) ]

-- a method has one row
pub one_row : (overrides : List (Option ℕ)) (methods : List MethodRow) (base : ℕ → ℕ) (id left right : ℕ) → RowIs overrides methods base id left → RowIs overrides methods base id right → left ≡ right
one_row overrides methods base id left right (as_overridden above e h) (as_overridden other f k) =
    let same : above ≡ other = cc in
    one_row overrides methods base above left right h (subst (λ n. RowIs overrides methods base n right) (sym same) k)
one_row overrides methods base id left right (as_overridden above e h) (as_next m there none is) = cc (e, none)
one_row overrides methods base id left right (as_next m there none is) (as_overridden above e h) = cc (e, none)
one_row overrides methods base id left right (as_next m there none is) (as_next o also free be) =
    let same : m ≡ o = cc in
    is ∙ ap (λ (r : MethodRow). base r.owner + new_in overrides r.owner 0 (take id methods)) same ∙ sym be

module _ (overrides : List (Option ℕ)) (methods : List MethodRow) (base : ℕ → ℕ) (class : ℕ)
  where
    -- at this place stands no method of the class, of rows counted on from another place
    abbrev pub IsOther : ℕ → List MethodRow → ℕ → Type 0
    IsOther at rows i = (j : ℕ) (row : MethodRow) → slice_get rows j ≡ Some row → is_own class row ≡ true → at + j ≡ i → ⊥

    -- the rest of the methods is to get rows
    pub record Starts (at : ℕ) (earlier rest : List MethodRow) (seen : Numbering) : Type 0 where
      pub split : methods ≡ earlier ++ rest
      pub place : at ≡ length earlier
      pub long : length seen.rows ≡ at + length rest
      pub count : seen.next ≡ base class + new_in overrides class 0 earlier
      pub few : seen.next + new_in overrides class at rest ≤ 4294967295
      pub above : (j id : ℕ) (row : MethodRow) → slice_get rest j ≡ Some row → is_own class row ≡ true → entry_at overrides (at + j) ≡ Some id → RowIs overrides methods base id (get_or seen.rows id 0) × IsOther at rest id

    -- they have got them
    pub record Numbered (at : ℕ) (rest : List MethodRow) (seen made : Numbering) : Type 0 where
      pub count : made.next ≡ seen.next + new_in overrides class at rest
      pub as_many : length made.rows ≡ length seen.rows
      pub kept : (i : ℕ) → IsOther at rest i → get_or made.rows i 0 ≡ get_or seen.rows i 0
      pub found : (j : ℕ) (row : MethodRow) → slice_get rest j ≡ Some row → is_own class row ≡ true → RowIs overrides methods base (at + j) (get_or made.rows (at + j) 0)

    abbrev FollowsIn : ℕ → List MethodRow → List MethodRow → Type 0
    FollowsIn at earlier rest = (seen : Numbering) → Starts at earlier rest seen → Numbered at rest seen (with_all_rows overrides seen (own_from class at rest))

    later : (at : ℕ) (row : MethodRow) (rest : List MethodRow) (i : ℕ) → IsOther at (row ∷ rest) i → IsOther (at + 1) rest i
    later at row rest i h j other there own e = h (suc j) other there own (omega (arith, e))

    -- the start after a row, whatever happened there
    starts_after : (at : ℕ) (earlier : List MethodRow) (row : MethodRow) (rest : List MethodRow) (seen following : Numbering) → Starts at earlier (row ∷ rest) seen → length following.rows ≡ length seen.rows →
        following.next ≡ seen.next + one_new overrides class at row → ((i : ℕ) → IsOther at (row ∷ rest) i → get_or following.rows i 0 ≡ get_or seen.rows i 0) → Starts (at + 1) (earlier ++ row ∷ []) rest following
    starts_after at earlier row rest seen following s long count kept =
        let grown = new_append overrides class 0 earlier (row ∷ []) in
        let here : 0 + length earlier ≡ at = omega (arith, s.place) in
        let mine = ap (λ k. one_new overrides class k row) here in
        record {
          split = s.split ∙ sym (append_assoc earlier (row ∷ []) rest);
          place = omega (arith, s.place, length-append earlier (row ∷ []));
          long = omega (arith, s.long, long);
          count = omega (arith, s.count, count, grown, mine);
          few = omega (arith, s.few, count);
          above = λ j id other there own e.
              let on : at + 1 + j ≡ at + suc j = omega arith in
              let known = s.above (suc j) id other there own (sym (ap (entry_at overrides) on) ∙ e) in
              (subst (RowIs overrides methods base id) (sym (kept id known.1)) known.0, later at row rest id known.1);
        }

    -- no method of the class
    passed : (at : ℕ) (row : MethodRow) (rest : List MethodRow) (seen made : Numbering) → is_own class row ≡ false → Numbered (at + 1) rest seen made → Numbered at (row ∷ rest) seen made
    passed at row rest seen made not_mine n =
        let none = ap {A = Bool} {B = ℕ} (λ b. cond b (cond (is_none (entry_at overrides at)) 1 0) 0) not_mine in
        record {
          count = omega (arith, n.count, none);
          as_many = n.as_many;
          kept = λ i h. n.kept i (later at row rest i h);
          found = λ j other there own. by j other there own;
        }
      where
        by : (j : ℕ) (other : MethodRow) → slice_get (row ∷ rest) j ≡ Some other → is_own class other ≡ true → RowIs overrides methods base (at + j) (get_or made.rows (at + j) 0)
        by zero other there own =
            let same : row ≡ other = cc in
            let both : is_own class row ≡ true = ap (is_own class) same ∙ own in
            cc (both, not_mine)
        by (suc j) other there own =
            let on : at + 1 + j ≡ at + suc j = omega arith in
            subst (λ k. RowIs overrides methods base k (get_or made.rows k 0)) on (n.found j other there own)

    -- a method of the class, which gets this row
    given : (at value more : ℕ) (row : MethodRow) (rest : List MethodRow) (seen made : Numbering) → is_own class row ≡ true → at < length seen.rows → RowIs overrides methods base at value → more ≡ seen.next + one_new overrides class at row →
        Numbered (at + 1) rest (record { next = more; rows = slice_set seen.rows at value }) made → Numbered at (row ∷ rest) seen made
    given at value more row rest seen made is_mine within is counted n = record {
      count = omega (arith, n.count, counted);
      as_many = n.as_many ∙ length-set seen.rows at value;
      kept = λ i h.
          let apart : i ≢ at = λ e. h 0 row refl is_mine (omega (arith, e)) in
          n.kept i (later at row rest i h) ∙ get_or-set_other seen.rows at i value 0 apart;
      found = λ j other there own. by j other there own;
    }
      where
        by : (j : ℕ) (other : MethodRow) → slice_get (row ∷ rest) j ≡ Some other → is_own class other ≡ true → RowIs overrides methods base (at + j) (get_or made.rows (at + j) 0)
        by zero other there own =
            let here : at ≡ at + 0 = omega arith in
            let mine : get_or made.rows at 0 ≡ value =
            n.kept at (λ k one is_there be e. omega (arith, e)) ∙ get_or-set_same seen.rows at value 0 within in
            subst (λ k. RowIs overrides methods base k (get_or made.rows k 0)) here (subst (RowIs overrides methods base at) (sym mine) is)
        by (suc j) other there own =
            let on : at + 1 + j ≡ at + suc j = omega arith in
            subst (λ k. RowIs overrides methods base k (get_or made.rows k 0)) on (n.found j other there own)

    -- one that overrides none
    new_one : (at : ℕ) (earlier : List MethodRow) (row : MethodRow) (rest : List MethodRow) (seen : Numbering) → is_own class row ≡ true → entry_at overrides at ≡ None → Starts at earlier (row ∷ rest) seen → FollowsIn (at + 1) (earlier ++ row ∷ []) rest →
        Numbered at (row ∷ rest) seen (with_all_rows overrides (record { next = as_number (seen.next + 1); rows = slice_set seen.rows at seen.next }) (own_from class (at + 1) rest))
    new_one at earlier row rest seen is_mine none s more =
        let mine : one_new overrides class at row ≡ 1 =
        ap {A = Bool} {B = ℕ} (λ b. cond b (cond (is_none (entry_at overrides at)) 1 0) 0) is_mine ∙ ap {A = Option ℕ} {B = ℕ} (λ o. cond (is_none o) 1 0) none in
        let counted : as_number (seen.next + 1) ≡ seen.next + one_new overrides class at row = omega (arith, s.few, mine) in
        let following : Numbering = record { next = as_number (seen.next + 1); rows = slice_set seen.rows at seen.next } in
        given at seen.next (as_number (seen.next + 1)) row rest seen (with_all_rows overrides following (own_from class (at + 1) rest)) is_mine (omega (arith, s.long)) is counted
        (more following (starts_after at earlier row rest seen following s (length-set seen.rows at seen.next) counted
        (λ i h. get_or-set_other seen.rows at i seen.next 0 (λ e. h 0 row refl is_mine (omega (arith, e))))))
      where
        owner : row.owner ≡ class
        owner = owner_of class row is_mine

        there : slice_get methods at ≡ Some row
        there = subst (λ (ms : List MethodRow). slice_get ms at ≡ Some row) (sym s.split) (subst (λ k. slice_get (earlier ++ row ∷ rest) k ≡ Some row) (sym s.place) (seam earlier))
          where
            seam : (xs : List MethodRow) → slice_get (xs ++ row ∷ rest) (length xs) ≡ Some row
            seam [] = refl
            seam (x ∷ xs) = seam xs

        before : take at methods ≡ earlier
        before = ap (take at) s.split ∙ ap (λ k. take k (earlier ++ row ∷ rest)) s.place ∙ take-append_seam earlier (row ∷ rest)

        is : RowIs overrides methods base at seen.next
        is = as_next row there none
            (s.count ∙ ap (λ k. base k + new_in overrides k 0 earlier) (sym owner) ∙ ap (λ xs. base row.owner + new_in overrides row.owner 0 xs) (sym before))

    -- one that overrides another
    over_one : (at above : ℕ) (earlier : List MethodRow) (row : MethodRow) (rest : List MethodRow) (seen : Numbering) → is_own class row ≡ true → entry_at overrides at ≡ Some above → Starts at earlier (row ∷ rest) seen → FollowsIn (at + 1) (earlier ++ row ∷ []) rest →
        Numbered at (row ∷ rest) seen (with_all_rows overrides (record { next = seen.next; rows = slice_set seen.rows at (get_or seen.rows above 0) }) (own_from class (at + 1) rest))
    over_one at above earlier row rest seen is_mine e s more =
        let mine : one_new overrides class at row ≡ 0 =
        ap {A = Bool} {B = ℕ} (λ b. cond b (cond (is_none (entry_at overrides at)) 1 0) 0) is_mine ∙ ap {A = Option ℕ} {B = ℕ} (λ o. cond (is_none o) 1 0) e in
        let counted : seen.next ≡ seen.next + one_new overrides class at row = omega (arith, mine) in
        let value = get_or seen.rows above 0 in
        let following : Numbering = record { next = seen.next; rows = slice_set seen.rows at value } in
        let here : at + 0 ≡ at = omega arith in
        let known = s.above 0 above row refl is_mine (ap (entry_at overrides) here ∙ e) in
        given at value seen.next row rest seen (with_all_rows overrides following (own_from class (at + 1) rest)) is_mine (omega (arith, s.long)) (as_overridden above e known.0) counted
        (more following (starts_after at earlier row rest seen following s (length-set seen.rows at value) counted
        (λ i h. get_or-set_other seen.rows at i value 0 (λ e. h 0 row refl is_mine (omega (arith, e))))))

    -- the rest of the methods get their rows
    pub numbered : (at : ℕ) (earlier rest : List MethodRow) → FollowsIn at earlier rest
    numbered at earlier [] seen s = record {
      count = omega arith;
      as_many = refl;
      kept = λ i h. refl;
      found = λ j row there own. cc;
    }
    numbered at earlier (row ∷ rest) seen s = by (is_own class row) refl (numbered (at + 1) (earlier ++ row ∷ []) rest)
      where
        over : (o : Option ℕ) → entry_at overrides at ≡ o → is_own class row ≡ true → FollowsIn (at + 1) (earlier ++ row ∷ []) rest → Numbered at (row ∷ rest) seen (with_all_rows overrides (option_map_or (λ above. record seen { rows = slice_set seen.rows at (get_or seen.rows above 0) }) o (record { next = as_number (seen.next + 1); rows = slice_set seen.rows at seen.next })) (own_from class (at + 1) rest))
        over None e is_mine more = new_one at earlier row rest seen is_mine e s more
        over (Some above) e is_mine more = over_one at above earlier row rest seen is_mine e s more

        by : (b : Bool) → is_own class row ≡ b → FollowsIn (at + 1) (earlier ++ row ∷ []) rest → Numbered at (row ∷ rest) seen (with_all_rows overrides seen (cond b (own_row at row ∷ own_from class (at + 1) rest) (own_from class (at + 1) rest)))
        by false not_mine more =
            let none = ap {A = Bool} {B = ℕ} (λ b. cond b (cond (is_none (entry_at overrides at)) 1 0) 0) not_mine in
            passed at row rest seen (with_all_rows overrides seen (own_from class (at + 1) rest)) not_mine
            (more seen (starts_after at earlier row rest seen seen s refl (omega (arith, none)) (λ i h. refl)))
        by true is_mine more = over (entry_at overrides at) refl is_mine more
