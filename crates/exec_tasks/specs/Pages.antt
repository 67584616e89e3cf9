-- Values by number, in pages of 64 numbers in a row. No public clause cites this module.
use Rattle.std.specs.Prelude.{◌≡◌, ℕ, ◌<◌, ◌*◌, ◌/◌, ◌%◌, zero, suc, length, slice_index_or, Option, Some, None, is_some, IsSome, IfSome, true, cond, count_by}
use Rattle.std.specs.Ordering.{nat_cmp, eq_by_cmp}
use Rattle.std.specs.FinMap.{FinMap, empty, insert}
use Rattle.std.specs.BTreeSet.{contains}
use Rattle.std.specs.Vec.{with_item}
use Rattle.exec_tasks.specs.declared.page.Page.{Page}
use Rattle.exec_tasks.specs.declared.pages.Pages.{Pages}

module _ {T : Type 0} where
  abbrev pub in_page : Page T → ℕ → Option T
  in_page page k = slice_index_or page.cells.items k None

  -- the page keeps the count of its values
  abbrev pub IsCounted : Page T → Type 0
  IsCounted page = page.used ≡ count_by is_some page.cells.items

  -- the last place with a value before an end
  pub record IsLastPlace (page : Page T) (end k : ℕ) : Type 0 where
    pub before : k < end
    pub there : IsSome (in_page page k)
    pub last : (j : ℕ) → k < j → j < end → in_page page j ≡ None

  -- what a place has once the value of another was taken out
  abbrev pub in_page_without : Page T → ℕ → ℕ → Option T
  in_page_without page k j = cond (eq_by_cmp nat_cmp j k) None (in_page page j)

  -- the page with another value at a place
  abbrev pub with_value : Page T → ℕ → T → Page T
  with_value page k w = record page { cells = with_item page.cells k (Some w) }

  abbrev pub page_at : Pages T → ℕ → Option (Page T)
  page_at s p = slice_index_or s.pages.items p None

  abbrev pub in_some : Option (Page T) → ℕ → Option T
  in_some None k = None
  in_some (Some page) k = in_page page k

  abbrev pub value_at : Pages T → ℕ → Option T
  value_at s n = in_some (page_at s (n / 64)) (n % 64)

  -- the pages with another value at a number
  abbrev pub changed_page : Option (Page T) → ℕ → T → Option (Page T)
  changed_page None k w = None
  changed_page (Some page) k w = Some (with_value page k w)

  abbrev pub with_number : Pages T → ℕ → T → Pages T
  with_number s n w = record s { pages = with_item s.pages (n / 64) (changed_page (page_at s (n / 64)) (n % 64) w) }

  -- each page is listed, and keeps its count
  pub record IsSound (s : Pages T) : Type 0 where
    pub listed : (p : ℕ) → IsSome (page_at s p) → contains nat_cmp s.there p ≡ true
    pub counted : (p : ℕ) → IfSome (page_at s p) IsCounted

  -- the last page that there is below a bound
  pub record IsLastPage (s : Pages T) (bound p : ℕ) : Type 0 where
    pub below : p < bound
    pub last : (q : ℕ) → p < q → q < bound → page_at s q ≡ None

  -- the same values
  abbrev pub Same : Pages T → Pages T → Type 0
  Same old new = (q : ℕ) → value_at new q ≡ value_at old q

  -- the same values but at one number
  abbrev pub Puts : Pages T → Pages T → ℕ → Option T → Type 0
  Puts old new n v = (q : ℕ) → value_at new q ≡ cond (eq_by_cmp nat_cmp q n) v (value_at old q)

  -- the last number with a value below a bound
  pub record IsLastNumber (s : Pages T) (bound n : ℕ) : Type 0 where
    pub below : n < bound
    pub there : IsSome (value_at s n)
    pub last : (q : ℕ) → n < q → q < bound → value_at s q ≡ None

  -- a value more in a map, where there is one
  abbrev pub put : FinMap nat_cmp T → ℕ → Option T → FinMap nat_cmp T
  put m n None = m
  put m n (Some v) = insert m n v

  -- the finite map of the values of the numbers below a bound
  abbrev pub map_below : (ℕ → Option T) → ℕ → FinMap nat_cmp T
  map_below f zero = empty
  map_below f (suc n) = put (map_below f n) n (f n)

  abbrev pub map_of : Pages T → FinMap nat_cmp T
  map_of s = map_below (value_at s) (length s.pages.items * 64)
