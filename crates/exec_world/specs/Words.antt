-- Sets of numbers as words, a bit for each number: 64 numbers in a row share a word, and the first of them has its highest bit. No public clause
-- cites this module.
use Rattle.std.specs.Prelude.{◌≡◌, ℕ, ◌<◌, ◌≤◌, ◌-◌, ◌/◌, ◌%◌, ◌^◌, Option, Some, None, IfSome}
use Rattle.std.specs.Int.{bit_at}
use Rattle.std.specs.Ordering.{nat_cmp}
use Rattle.std.specs.FinMap.{FinMap, get}

-- the word has the number at this place
abbrev pub InWord : ℕ → ℕ → Type 0
InWord word place = bit_at word (63 - place) ≡ 1

-- words by their place in the row
abbrev pub Words : Type 0
Words = FinMap nat_cmp ℕ

abbrev pub InSome : Option ℕ → ℕ → Type 0
InSome None place = ⊥
InSome (Some word) place = InWord word place

-- the set has the number
abbrev pub Has : Words → ℕ → Type 0
Has words n = InSome (get words (n / 64)) (n % 64)

-- a word that has a number
abbrev pub IsWord : ℕ → Type 0
IsWord word = (0 < word) × (word < 2 ^ 64)

-- no word is empty, and no number is above the bound
pub record IsBounded (words : Words) (most : ℕ) : Type 0 where
  pub full : (p : ℕ) → IfSome (get words p) IsWord
  pub within : (q : ℕ) → Has words q → q ≤ most

-- the last place of a word up to another
pub record IsLastInWord (word place k : ℕ) : Type 0 where
  pub there : InWord word k
  pub within : k ≤ place
  pub last : (j : ℕ) → k < j → j ≤ place → InWord word j → ⊥

abbrev pub IsLastIn : Option ℕ → ℕ → ℕ → Type 0
IsLastIn None place k = ⊥
IsLastIn (Some word) place k = IsLastInWord word place k

-- the last number of a set up to another
pub record IsLastUpTo (words : Words) (most n : ℕ) : Type 0 where
  pub there : Has words n
  pub within : n ≤ most
  pub last : (q : ℕ) → n < q → q ≤ most → Has words q → ⊥

abbrev pub NoneUpTo : Words → ℕ → Type 0
NoneUpTo words most = (q : ℕ) → q ≤ most → Has words q → ⊥

-- the last number of a set below a bound
pub record IsLastBelow (words : Words) (bound n : ℕ) : Type 0 where
  pub there : Has words n
  pub below : n < bound
  pub last : (q : ℕ) → n < q → q < bound → Has words q → ⊥

abbrev pub NoneBelow : Words → ℕ → Type 0
NoneBelow words bound = (q : ℕ) → q < bound → Has words q → ⊥

-- the same set with this number
pub record With (old new : Words) (n : ℕ) : Type 0 where
  pub there : Has new n
  pub kept : (q : ℕ) → Has old q → Has new q
  pub others : (q : ℕ) → (q ≡ n → ⊥) → Has new q → Has old q

-- the same set without this number
pub record Without (old new : Words) (n : ℕ) : Type 0 where
  pub gone : Has new n → ⊥
  pub kept : (q : ℕ) → (q ≡ n → ⊥) → Has old q → Has new q
  pub others : (q : ℕ) → Has new q → Has old q
