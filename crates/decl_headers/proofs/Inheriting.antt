-- What is made for each class from what its superclass has is made on the way through the classes.
use Rattle.std.proofs.Common.{◌≡◌, ℕ, zero, suc, ◌+◌, ◌<◌, List, [], ◌∷◌, length, get_or, replicate, map, Option, Some, None, refl, sym, ap, ◌∙◌, arith}
use Rattle.std.proofs.lemmas.List.{length-map, length-replicate}
use Rattle.std.specs.List.{range_with_len}
use Rattle.std.specs.Option.{option_and_then, option_map}
use Rattle.std.specs.Prelude.{slice_get}
use Rattle.decl_headers.specs.declared.header.Header.{Header}
use Rattle.decl_headers.specs.Headers.{PlainHeaders, parent_of, parents_of, class_count}
use Rattle.decl_headers.specs.Inheriting.{made_up, made_in, made_at, of_each_class}
use Rattle.decl_headers.specs.Rounds.{entry_of, up}
use Rattle.decl_headers.specs.Way.{IsForest, way_of, entered_on}
use Rattle.decl_headers.proofs.Cycles.{up-then}
use Rattle.decl_headers.proofs.Settled.{settled, settled_length}
use Rattle.decl_headers.proofs.Walks.{top_none}

-- the superclass of a class, looked for in the headers
row_parent : (rows : List Header) (at : ℕ) → option_and_then (λ (header : Header). header.parent) (slice_get rows at) ≡ entry_of (map (λ row. row.parent) rows) at
row_parent [] at = refl
row_parent (row ∷ rows) zero = refl
row_parent (row ∷ rows) (suc at) = row_parent rows at

pub parent_is : (headers : PlainHeaders) (at : ℕ) → parent_of headers at ≡ entry_of (parents_of headers) at
parent_is headers at = row_parent headers.rows at

-- a list that is known entry by entry
list_is : {A : Type 0} (none : A) (xs : List A) (f : ℕ → A) (a : ℕ) → ((at : ℕ) → at < length xs → get_or xs at none ≡ f (a + at)) → xs ≡ map f (range_with_len a (length xs))
list_is none [] f a each = refl
list_is none (x ∷ xs) f a each =
    let here : a + 0 ≡ a = omega arith in
    ap (λ y. y ∷ xs) (each 0 (omega arith) ∙ ap f here)
    ∙ ap (λ ys. f a ∷ ys) (list_is none xs f (a + 1) (λ at l. let next : a + suc at ≡ a + 1 + at = omega arith in each (suc at) (omega arith) ∙ ap f next))

module _ {A : Type 0} (headers : PlainHeaders) (none : A) (make : ℕ → Option A → A)
  where
    abbrev parents : List (Option ℕ)
    parents = parents_of headers

    abbrev upwards : ℕ → ℕ → A
    upwards = made_up (parent_of headers) none make

    -- more steps up make the same, where nothing is so high
    made_longer : (n at : ℕ) → up parents n at ≡ None → upwards n at ≡ upwards (suc n) at
    made_longer zero at h = cc
    made_longer (suc n) at h = by (parent_of headers at) refl (made_longer n)
      where
        by : (o : Option ℕ) → parent_of headers at ≡ o → ((above : ℕ) → up parents n above ≡ None → upwards n above ≡ upwards (suc n) above) → make at (option_map (upwards n) o) ≡ make at (option_map (upwards (suc n)) o)
        by None e more = refl
        by (Some above) e more =
            let one : suc n ≡ n + 1 = omega arith in
            ap (λ z. make at (Some z)) (more above (sym (ap (λ k. up parents k at) one ∙ up-then parents n 1 at above (sym (parent_is headers at) ∙ e)) ∙ h))

    -- a class has what is made from what its superclass has
    pub made_step : (at : ℕ) → IsForest parents → made_in headers none make at ≡ make at (option_map (made_in headers none make) (parent_of headers at))
    made_step at forest = by (parent_of headers at) refl
      where
        all : ℕ
        all = class_count headers

        by : (o : Option ℕ) → parent_of headers at ≡ o → make at (option_map (upwards all) o) ≡ make at (option_map (upwards (suc all)) o)
        by None e = refl
        by (Some above) e =
            let far : length parents < all + 1 = omega (arith, length-map headers.rows (λ row. row.parent)) in
            ap (λ z. make at (Some z)) (made_longer all above (sym (up-then parents all 1 at above (sym (parent_is headers at) ∙ e)) ∙ top_none parents (all + 1) at forest far))

    -- after the way through the classes each has what is made for it
    pub all_made : IsForest parents → entered_on (made_at headers none make) (replicate (class_count headers) none) (way_of parents) ≡ of_each_class headers (made_in headers none make)
    all_made forest =
        list_is none made (made_in headers none make) 0
        (λ at l. let here : 0 + at ≡ at = omega arith in settled (made_at headers none make) none parents Is start at forest makes same (omega (arith, size, same, l)) ∙ ap (made_in headers none make) (sym here))
        ∙ ap (λ n. map (made_in headers none make) (range_with_len 0 n)) (size ∙ length-replicate (class_count headers) none)
      where
        start : List A
        start = replicate (class_count headers) none

        made : List A
        made = entered_on (made_at headers none make) start (way_of parents)

        Is : ℕ → A → Type 0
        Is at x = x ≡ made_in headers none make at

        same : length start ≡ length parents
        same = length-replicate (class_count headers) none ∙ sym (length-map headers.rows (λ row. row.parent))

        makes : (some : List A) (at : ℕ) → ((above : ℕ) → entry_of parents at ≡ Some above → Is above (get_or some above none)) → Is at (made_at headers none make some at)
        makes some at h = by (parent_of headers at) refl ∙ sym (made_step at forest)
          where
            by : (o : Option ℕ) → parent_of headers at ≡ o → make at (option_map (λ above. get_or some above none) o) ≡ make at (option_map (made_in headers none make) o)
            by None e = refl
            by (Some above) e = ap (λ z. make at (Some z)) (h above (sym (parent_is headers at) ∙ e))

        size : length made ≡ length start
        size = settled_length (made_at headers none make) none parents Is start forest makes same
