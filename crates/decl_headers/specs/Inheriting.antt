-- What each class has that is made from what its superclass has.
use Rattle.std.specs.Prelude.{ℕ, zero, suc, List, map, slice_index_or, Option, option_map}
use Rattle.std.specs.List.{range_with_len}
use Rattle.decl_headers.specs.Headers.{PlainHeaders, parent_of, class_count}

-- so many classes up
abbrev pub made_up : {A : Type 0} → (ℕ → Option ℕ) → A → (ℕ → Option A → A) → ℕ → ℕ → A
made_up parent none make zero at = none
made_up parent none make (suc n) at = make at (option_map (made_up parent none make n) (parent at))

abbrev pub made_in : {A : Type 0} → PlainHeaders → A → (ℕ → Option A → A) → ℕ → A
made_in headers none make at = made_up (parent_of headers) none make (suc (class_count headers)) at

-- what is made for a class, where that of its superclass stands in a list
abbrev pub made_at : {A : Type 0} → PlainHeaders → A → (ℕ → Option A → A) → List A → ℕ → A
made_at headers none make made at = make at (option_map (λ above. slice_index_or made above none) (parent_of headers at))

-- what each class has, in the order of the text
abbrev pub of_each_class : {A : Type 0} → PlainHeaders → (ℕ → A) → List A
of_each_class headers f = map f (range_with_len 0 (class_count headers))
