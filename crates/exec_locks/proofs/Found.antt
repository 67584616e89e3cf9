-- The least task that hinders, put together from parts of the index.
use Rattle.std.proofs.Common.{◌≡◌, ℕ, ◌+◌, ◌<◌, ◌≤◌, List, [], ◌∷◌, length, drop, get_or, refl, sym, ap, subst, ◌∙◌, Option, Some, Bool, true, false, cond, ◌||◌, IfSome, MatchBool, ◌⊎◌, inl, inr, arith}
use Rattle.std.specs.Prelude.{find, nat_eq}
use Rattle.std.specs.List.{list_any, AllByRecursion}
use Rattle.std.specs.List.Sorted.{IsStrictlySortedBy}
use Rattle.std.specs.Ordering.{nat_cmp, is_eq}
use Rattle.std.specs.Cmp.{ranked, Equal-is}
use Rattle.std.specs.FinMap.{nat_cmp-IsAntisymmetric}
use Rattle.std.specs.BTreeMap.{is_at}
use Rattle.std.specs.HashMap.{hash_map_len}
use Rattle.std.specs.Map.{lookup}
use Rattle.std.specs.declared.cmp.Ordering.TheVariants.{Less}
use Rattle.std.proofs.lemmas.List.{drop_more}
use Rattle.std.proofs.lemmas.Bool.{false≢true}
use Rattle.lang_base.specs.declared.elems.Elem.{Elem}
use Rattle.lang_base.specs.Matching.{is_concrete}
use Rattle.exec_locks.specs.declared.task_set.TaskSet.{TaskSet}
use Rattle.exec_locks.specs.Index.{Sets, has, has_in, mixed, Met, AtMost}

same_number : (q x : ℕ) → is_eq (nat_cmp q x) ≡ true → q ≡ x
same_number q x e = nat_cmp-IsAntisymmetric q x ((Equal-is (nat_cmp q x)).0 e)

either : (c d : Bool) → (c || d) ≡ true → (c ≡ true) ⊎ (d ≡ true)
either true d is = inl refl
either false d is = inr is

above : (x q : ℕ) (xs : List ℕ) → AllByRecursion (λ y. nat_cmp x y ≡ Less) xs → list_any (is_at (nat_cmp q)) xs ≡ true → x < q
above x q [] all there = cc
above x q (y ∷ ys) all there =
    elim (either (is_eq (nat_cmp q y)) (list_any (is_at (nat_cmp q)) ys) there) [
      | inl here ↦ subst (λ n. x < n) (sym (same_number q y here)) (ranked x y Less (sym all.0))
      | inr later ↦ above x q ys all.1 later
    ]

module _ (p : ℕ → Bool) where
  abbrev pub Sound : Option ℕ → Type 0
  Sound least = IfSome least (λ h. p h ≡ true)

  sound_cond : (x : ℕ) (rest : Option ℕ) (b : Bool) → p x ≡ b → Sound rest → Sound (cond b (Some x) rest)
  sound_cond x rest true is sound = is
  sound_cond x rest false is sound = sound

  pub find_sound : (xs : List ℕ) → Sound (find p xs)
  find_sound [] = tt
  find_sound (x ∷ xs) = sound_cond x (find p xs) (p x) refl (find_sound xs)

  least_cond : (x q : ℕ) (rest : Option ℕ) (b c d : Bool) → p x ≡ b → is_eq (nat_cmp q x) ≡ c → p q ≡ true → (c || d) ≡ true
      → (d ≡ true → x < q) → (d ≡ true → AtMost rest q) → AtMost (cond b (Some x) rest) q
  least_cond x q rest true true d is at good there later more = omega (arith, same_number q x at)
  least_cond x q rest true false d is at good there later more = omega (arith, later there)
  least_cond x q rest false true d is at good there later more = let same = same_number q x at in cc (ap p same)
  least_cond x q rest false false d is at good there later more = more there

  pub find_least : (xs : List ℕ) (q : ℕ) → IsStrictlySortedBy nat_cmp xs → list_any (is_at (nat_cmp q)) xs ≡ true → p q ≡ true → AtMost (find p xs) q
  unfolding IsStrictlySortedBy
  find_least [] q sorted there good = cc
  find_least (x ∷ xs) q sorted there good =
      least_cond x q (find p xs) (p x) (is_eq (nat_cmp q x)) (list_any (is_at (nat_cmp q)) xs) refl refl good there
      (above x q xs sorted.0) (λ later. find_least xs q sorted.1 later good)

met_at : (under ending : Sets) (q number i : ℕ) (x : Elem) (all : List Elem) → i < length all → x ≡ get_or all i x
    → Met under ending q number (drop i all) → Met under ending q number (x ∷ drop (i + 1) all)
met_at under ending q number i x all lt at met =
    subst (Met under ending q number) (drop_more all i x lt ∙ ap (λ y. y ∷ drop (i + 1) all) (sym at)) met

none_among : (es : List (ℕ × TaskSet)) (k q : ℕ) → length es ≡ 0 → has_in (lookup (nat_eq k) es) q ≡ false
none_among [] k q none = refl
none_among (e ∷ es) k q none = absurd (omega (arith, none))

-- no task is found in an empty map
none_there : (sets : Sets) (k q : ℕ) → hash_map_len sets ≡ 0 → has sets k q ≡ true → ⊥
none_there sets k q none there = false≢true (sym (none_among sets.entries k q none) ∙ there)

met_none : (under ending : Sets) (q number : ℕ) (x : Elem) (xs : List Elem) (b : Bool) → hash_map_len under ≡ 0
    → (Met under ending q (mixed number x) xs → ⊥) → MatchBool b (Met under ending q (mixed number x) xs) (has under number q ≡ true) → ⊥
met_none under ending q number x xs true none deeper met = deeper met
met_none under ending q number x xs false none deeper met = none_there under number q none met

-- a search of an empty index meets nobody
pub never_met : (under ending : Sets) (q number : ℕ) (xs : List Elem) → hash_map_len under ≡ 0 → hash_map_len ending ≡ 0 → Met under ending q number xs → ⊥
never_met under ending q number [] no_under no_ending met =
    elim met [ inl here ↦ none_there ending number q no_ending here | inr on ↦ none_there under number q no_under on ]
never_met under ending q number (x ∷ xs) no_under no_ending met =
    elim met [
      | inl here ↦ none_there ending number q no_ending here
      | inr on ↦ met_none under ending q number x xs (is_concrete x) no_under (never_met under ending q (mixed number x) xs no_under no_ending) on
    ]
