-- Values in pages, seen as a finite map.
use Rattle.std.proofs.Common.{◌≡◌, ◌≢◌, ◌⊎◌, inl, inr, true≢false, ℕ, zero, suc, ◌+◌, ◌*◌, ◌/◌, ◌%◌, ◌<◌, ◌≤◌, List, [], ◌∷◌, length, refl, sym, ap, subst, ◌∙◌, Option, Some, None, is_some, IsSome, IfSome, IfNone, MatchOption, true, cond, count_by, slice_index_or, slice_set, arith}
use Rattle.std.proofs.lemmas.List.{get_or_past, get_or_read, get_or-set_same, get_or-set_other}
use Rattle.std.proofs.lemmas.Bool.{cases_eq, cases_lt}
use Rattle.std.proofs.lemmas.List.Sums.{sum_by-set}
use Rattle.std.proofs.lemmas.Nat.{le-div, div-add-mod'}
use Rattle.std.specs.Ordering.{nat_cmp, eq_by_cmp}
use Rattle.std.specs.Cmp.{nat_cmp_total}
use Rattle.std.specs.FinMap.{FinMap, empty, get, insert, remove, get-empty, get-insert, get-remove}
use Rattle.std.specs.BTreeSet.{contains}
use Rattle.std.specs.Vec.{with_item}
use Rattle.exec_tasks.specs.declared.page.Page.{Page}
use Rattle.exec_tasks.specs.declared.pages.Pages.{Pages}
use Rattle.exec_tasks.specs.Pages.{in_page, in_some, page_at, value_at, changed_page, with_value, with_number, put, map_below, map_of, IsCounted, IsSound, IsLastNumber, Same, Puts}
use Rattle.exec_tasks.specs.Numbered.{NoneBelow, IsLastBelow}
use Rattle.exec_tasks.proofs.Maps.{same_maps}
use Rattle.exec_tasks.proofs.Numbers.{itself, other_number, get_inserted, get_beside}

module _ {X : Type 0} where
  -- another value at a place that there is
  pub at_set : (xs : List (Option X)) (k j : ℕ) (v : Option X) → k < length xs
      → slice_index_or (slice_set xs k v) j None ≡ cond (eq_by_cmp nat_cmp j k) v (slice_index_or xs j None)
  at_set xs k j v lt = by_case (cases_eq j k)
    where
      by_case : (j ≡ k) ⊎ (j ≢ k) → slice_index_or (slice_set xs k v) j None ≡ cond (eq_by_cmp nat_cmp j k) v (slice_index_or xs j None)
      by_case (inl same) =
          ap (λ i. slice_index_or (slice_set xs k v) i None) same ∙ get_or-set_same xs k v None lt
          ∙ sym (ap (λ b. cond b v (slice_index_or xs j None)) (ap (λ i. eq_by_cmp nat_cmp i k) same ∙ itself k))
      by_case (inr apart) = get_or-set_other xs k j v None apart ∙ sym (ap (λ b. cond b v (slice_index_or xs j None)) (other_number j k apart))

  pub within : (xs : List (Option X)) (k : ℕ) → IsSome (slice_index_or xs k None) → k < length xs
  within [] k some = absurd (true≢false (sym some))
  within (x ∷ xs) zero some = omega arith
  within (x ∷ xs) (suc k) some = let lt = within xs k some in omega (arith, lt)

-- numbers, by their pages and places
pub page_past : (n q : ℕ) → n * 64 ≤ q → n ≤ q / 64
page_past n q le = le-div n q 64 (omega arith) le

pub same_number_at : (q n : ℕ) → q / 64 ≡ n / 64 → q % 64 ≡ n % 64 → q ≡ n
same_number_at q n p k = sym (div-add-mod' q 64) ∙ ap (λ a. a * 64 + q % 64) p ∙ ap (λ b. n / 64 * 64 + b) k ∙ div-add-mod' n 64

module _ {T : Type 0} where
  value_past : (s : Pages T) (q : ℕ) → length s.pages.items * 64 ≤ q → value_at s q ≡ None
  value_past s q le = ap (λ o. in_some o (q % 64)) (get_or_past s.pages.items (q / 64) None (page_past (length s.pages.items) q le))

  -- the map of the values below a bound
  put_beside : (m : FinMap nat_cmp T) (n q : ℕ) (o : Option T) → q ≢ n → get (put m n o) q ≡ get m q
  put_beside m n q None apart = refl
  put_beside m n q (Some v) apart = get_beside m n q v apart

  put_there : (m : FinMap nat_cmp T) (n : ℕ) (o : Option T) → get m n ≡ None → get (put m n o) n ≡ o
  put_there m n None absent = absent
  put_there m n (Some v) absent = get_inserted m n v

  above : (f : ℕ → Option T) (n q : ℕ) → n ≤ q → get (map_below f n) q ≡ None
  above f zero q le = get-empty nat_cmp q
  above f (suc n) q le = put_beside (map_below f n) n q (f n) (λ same. omega (arith, same, le)) ∙ above f n q (omega (arith, le))

  below : (f : ℕ → Option T) (n q : ℕ) → q < n → get (map_below f n) q ≡ f q
  below f zero q lt = absurd (omega (arith, lt))
  below f (suc n) q lt = by_case (cases_eq q n) (below f n q)
    where
      by_case : (q ≡ n) ⊎ (q ≢ n) → (q < n → get (map_below f n) q ≡ f q) → get (map_below f (suc n)) q ≡ f q
      by_case (inl same) rest = ap (get (map_below f (suc n))) same ∙ put_there (map_below f n) n (f n) (above f n n (omega arith)) ∙ sym (ap f same)
      by_case (inr apart) rest = put_beside (map_below f n) n q (f n) apart ∙ rest (omega (arith, lt, apart))

  pub seen : (s : Pages T) (q : ℕ) → get (map_of s) q ≡ value_at s q
  seen s q = by_case (cases_lt q (length s.pages.items * 64))
    where
      by_case : (q < length s.pages.items * 64) ⊎ (length s.pages.items * 64 ≤ q) → get (map_of s) q ≡ value_at s q
      by_case (inl lt) = below (value_at s) (length s.pages.items * 64) q lt
      by_case (inr le) = above (value_at s) (length s.pages.items * 64) q le ∙ sym (value_past s q le)

  -- changes of the pages as changes of the map
  pub seen_same : (s t : Pages T) → Same s t → map_of t ≡ map_of s
  seen_same s t same = same_maps (map_of t) (map_of s) (λ q. seen t q ∙ same q ∙ sym (seen s q))

  pub seen_empty : (s : Pages T) → ((q : ℕ) → value_at s q ≡ None) → map_of s ≡ empty
  seen_empty s none = same_maps (map_of s) empty (λ q. seen s q ∙ none q ∙ sym (get-empty nat_cmp q))

  pub seen_put : (s t : Pages T) (n : ℕ) (v : T) → Puts s t n (Some v) → map_of t ≡ insert (map_of s) n v
  seen_put s t n v puts =
      same_maps (map_of t) (insert (map_of s) n v) (λ q. seen t q ∙ puts q ∙ ap (cond (eq_by_cmp nat_cmp q n) (Some v)) (sym (seen s q))
      ∙ sym (get-insert nat_cmp_total (map_of s) n v q))

  pub seen_removed : (s t : Pages T) (n : ℕ) → Puts s t n None → map_of t ≡ remove (map_of s) n
  seen_removed s t n puts =
      same_maps (map_of t) (remove (map_of s) n) (λ q. seen t q ∙ puts q ∙ ap (cond (eq_by_cmp nat_cmp q n) None) (sym (seen s q))
      ∙ sym (get-remove nat_cmp_total (map_of s) n q))

  -- a change of one page
  module _ (s t : Pages T) (n : ℕ) (others : (p : ℕ) → p ≢ n / 64 → page_at t p ≡ page_at s p) where
    pub puts_in_page : (v : Option T)
        → ((j : ℕ) → in_some (page_at t (n / 64)) j ≡ cond (eq_by_cmp nat_cmp j (n % 64)) v (in_some (page_at s (n / 64)) j)) → Puts s t n v
    puts_in_page v here q = by_page (cases_eq (q / 64) (n / 64))
      where
        by_place : q / 64 ≡ n / 64 → (q % 64 ≡ n % 64) ⊎ (q % 64 ≢ n % 64)
            → cond (eq_by_cmp nat_cmp (q % 64) (n % 64)) v (in_some (page_at s (n / 64)) (q % 64)) ≡ cond (eq_by_cmp nat_cmp q n) v (value_at s q)
        by_place same (inl there) =
            ap (λ b. cond b v (in_some (page_at s (n / 64)) (q % 64))) (ap (λ j. eq_by_cmp nat_cmp j (n % 64)) there ∙ itself (n % 64))
            ∙ sym (ap (λ b. cond b v (value_at s q)) (ap (λ m. eq_by_cmp nat_cmp m n) (same_number_at q n same there) ∙ itself n))
        by_place same (inr apart) =
            ap (λ b. cond b v (in_some (page_at s (n / 64)) (q % 64))) (other_number (q % 64) (n % 64) apart)
            ∙ ap (λ p. in_some (page_at s p) (q % 64)) (sym same)
            ∙ sym (ap (λ b. cond b v (value_at s q)) (other_number q n (λ e. apart (ap (λ m. m % 64) e))))

        by_page : (q / 64 ≡ n / 64) ⊎ (q / 64 ≢ n / 64) → value_at t q ≡ cond (eq_by_cmp nat_cmp q n) v (value_at s q)
        by_page (inl same) =
            ap (λ p. in_some (page_at t p) (q % 64)) same ∙ here (q % 64) ∙ by_place same (cases_eq (q % 64) (n % 64))
        by_page (inr apart) =
            ap (λ o. in_some o (q % 64)) (others (q / 64) apart)
            ∙ sym (ap (λ b. cond b v (value_at s q)) (other_number q n (λ e. apart (ap (λ m. m / 64) e))))

  module _ (s t : Pages T) (p : ℕ) (others : (q : ℕ) → q ≢ p → page_at t q ≡ page_at s q) where
    pub same_in_page : ((j : ℕ) → in_some (page_at t p) j ≡ in_some (page_at s p) j) → Same s t
    same_in_page here q = by_page (cases_eq (q / 64) p)
      where
        by_page : (q / 64 ≡ p) ⊎ (q / 64 ≢ p) → value_at t q ≡ value_at s q
        by_page (inl same) = ap (λ p. in_some (page_at t p) (q % 64)) same ∙ here (q % 64) ∙ sym (ap (λ p. in_some (page_at s p) (q % 64)) same)
        by_page (inr apart) = ap (λ o. in_some o (q % 64)) (others (q / 64) apart)

    pub sound_in_page : IsSound s → ((q : ℕ) → q ≢ p → contains nat_cmp s.there q ≡ true → contains nat_cmp t.there q ≡ true)
        → (IsSome (page_at t p) → contains nat_cmp t.there p ≡ true) → IfSome (page_at t p) IsCounted → IsSound t
    sound_in_page sound keeps here counts = record {
      listed = λ q some. listed q some (cases_eq q p);
      counted = λ q. counted q (cases_eq q p);
    }
      where
        listed : (q : ℕ) → IsSome (page_at t q) → (q ≡ p) ⊎ (q ≢ p) → contains nat_cmp t.there q ≡ true
        listed q some (inl same) = subst (λ r. contains nat_cmp t.there r ≡ true) (sym same) (here (subst (λ r. IsSome (page_at t r)) same some))
        listed q some (inr apart) = keeps q apart (sound.listed q (subst IsSome (others q apart) some))

        counted : (q : ℕ) → (q ≡ p) ⊎ (q ≢ p) → IfSome (page_at t q) IsCounted
        counted q (inl same) = subst (λ r. IfSome (page_at t r) IsCounted) (sym same) counts
        counted q (inr apart) = subst (λ o. IfSome o IsCounted) (sym (others q apart)) (sound.counted q)

  -- the page of a value that there is
  pub page_of : (o : Option (Page T)) (k : ℕ) → IsSome (in_some o k) → (page : Page T) × (o ≡ Some page) × (k < length page.cells.items)
  page_of None k some = absurd (true≢false (sym some))
  page_of (Some page) k some = (page, refl, within page.cells.items k some)

  others_kept : (s : Pages T) (n : ℕ) (o : Option (Page T)) (p : ℕ) → p ≢ n → slice_index_or (slice_set s.pages.items n o) p None ≡ page_at s p
  others_kept s n o p apart = get_or-set_other s.pages.items n p o None apart

  count_same : (xs : List (Option T)) (k : ℕ) (w : T) → k < length xs → IsSome (slice_index_or xs k None)
      → count_by is_some (slice_set xs k (Some w)) ≡ count_by is_some xs
  count_same xs k w lt some =
      let counts : count_by is_some (slice_set xs k (Some w)) + cond (is_some (slice_index_or xs k None)) 1 0 ≡ count_by is_some xs + 1 =
      sum_by-set (λ x. cond (is_some x) 1 0) xs k (Some w) None lt in
      let one : ◌≡◌ {A = ℕ} (cond (is_some (slice_index_or xs k None)) 1 0) 1 = ap (λ b. cond b 1 0) some in
      omega (arith, counts, one)

  -- a value written through what the pages lent
  module _ (s : Pages T) (n : ℕ) (w : T) (some : IsSome (value_at s n)) where
    found : (page : Page T) × (page_at s (n / 64) ≡ Some page) × (n % 64 < length page.cells.items)
    found = page_of (page_at s (n / 64)) (n % 64) some

    reached : n / 64 < length s.pages.items
    reached = within s.pages.items (n / 64) (subst IsSome (sym found.1) refl)

    at_page : page_at (with_number s n w) (n / 64) ≡ Some (with_value found.0 (n % 64) w)
    at_page = get_or-set_same s.pages.items (n / 64) _ None reached ∙ ap (λ o. changed_page o (n % 64) w) found.1

    pub written : Puts s (with_number s n w) n (Some w)
    written =
        puts_in_page s (with_number s n w) n (others_kept s (n / 64) _) (Some w) (λ j.
        ap (λ o. in_some o j) at_page ∙ at_set found.0.cells.items (n % 64) j (Some w) found.2
        ∙ ap (λ o. cond (eq_by_cmp nat_cmp j (n % 64)) (Some w) (in_some o j)) (sym found.1))

    pub written_sound : IsSound s → IsSound (with_number s n w)
    written_sound sound =
        sound_in_page s (with_number s n w) (n / 64) (others_kept s (n / 64) _) sound (λ q apart has. has)
        (λ _. sound.listed (n / 64) (subst IsSome (sym found.1) refl))
        (subst (λ o. IfSome o IsCounted) (sym at_page)
        (subst (λ o. IfSome o IsCounted) found.1 (sound.counted (n / 64))
        ∙ sym (count_same found.0.cells.items (n % 64) w found.2 (subst (λ o. IsSome (in_some o (n % 64))) found.1 some))))

  -- a page that was read, and what is left in its place
  pub read_page : (s : Pages T) (p : ℕ) (cell : Option (Page T)) (page : Page T) → IsSome (page_at s p) → Some page ≡ cell
      → cell ≡ slice_index_or s.pages.items p cell → Some page ≡ page_at s p
  read_page s p cell page some is at = is ∙ get_or_read s.pages.items p cell (within s.pages.items p some) at None

  abbrev pub with_page : Pages T → ℕ → Page T → Pages T
  with_page s p page = record s { pages = with_item s.pages p (Some page) }

  module _ (s : Pages T) (p : ℕ) (page new : Page T) (is : Some page ≡ page_at s p) where
    new_page : page_at (with_page s p new) p ≡ Some new
    new_page = get_or-set_same s.pages.items p (Some new) None (within s.pages.items p (subst IsSome is refl))

    pub replaced_same : ((j : ℕ) → in_page new j ≡ in_page page j) → Same s (with_page s p new)
    replaced_same same =
        same_in_page s (with_page s p new) p (others_kept s p (Some new))
        (λ j. ap (λ o. in_some o j) new_page ∙ same j ∙ ap (λ o. in_some o j) is)

  -- a value put into a page, after its cell was made
  pub inserted : (s r : Pages T) (n : ℕ) (v w : T) (page reached new : Page T) → Same s r → Some page ≡ page_at r (n / 64)
      → ((j : ℕ) → in_page reached j ≡ in_page page j) → n % 64 < reached.cells.len
      → new.cells.items ≡ slice_set reached.cells.items (n % 64) (Some w) → w ≡ v → Puts s (with_page r (n / 64) new) n (Some v)
  inserted s r n v w page reached new before is same lt cells value q =
      puts_in_page r (with_page r (n / 64) new) n (others_kept r (n / 64) (Some new)) (Some v) here q
      ∙ ap (cond (eq_by_cmp nat_cmp q n) (Some v)) (before q)
    where
      here : (j : ℕ) → in_some (page_at (with_page r (n / 64) new) (n / 64)) j ≡ cond (eq_by_cmp nat_cmp j (n % 64)) (Some v) (in_some (page_at r (n / 64)) j)
      here j =
          ap (λ o. in_some o j) (new_page r (n / 64) page new is)
          ∙ ap (λ items. slice_index_or items j None) (cells ∙ ap (λ x. slice_set reached.cells.items (n % 64) (Some x)) value)
          ∙ at_set reached.cells.items (n % 64) j (Some v) (subst (λ m. n % 64 < m) reached.cells.ok.0 lt)
          ∙ ap (cond (eq_by_cmp nat_cmp j (n % 64)) (Some v)) (same j ∙ ap (λ o. in_some o j) is)

  -- the last number of the map
  pub seen_last : (s : Pages T) (bound : ℕ) (m : FinMap nat_cmp T) (o : Option ℕ) → map_of s ≡ m → IfSome o (IsLastNumber s bound)
      → IfNone o ((q : ℕ) → q < bound → value_at s q ≡ None) → MatchOption o (NoneBelow m bound) (IsLastBelow m bound)
  seen_last s bound m None is last none = λ q lt. ap (λ (f : FinMap nat_cmp T). get f q) (sym is) ∙ seen s q ∙ none q lt
  seen_last s bound m (Some n) is last none = record {
    below = last.below;
    there = subst IsSome (sym (seen s n) ∙ ap (λ (f : FinMap nat_cmp T). get f n) is) last.there;
    last = λ q above under. ap (λ (f : FinMap nat_cmp T). get f q) (sym is) ∙ seen s q ∙ last.last q above under;
  }
