-- The first of a list that passes a test, and the lists of all symbols and of all keywords.
use Rattle.std.proofs.Common.{◌≡◌, ◌⊎◌, ◌<◌, ◌≤◌, ℕ, zero, suc, Bool, true, false, nat_eq, ltb, cond, List, [], ◌∷◌, length, map, get_or, inl, inr, refl, ap, sym, subst, ◌∙◌, arith, lit<, zero-add}
use Rattle.std.specs.List.{Contains, starts_with}
use Rattle.std.proofs.lemmas.Bool.{false≢true, cases_Bool, cases_eq, cases_lt}
use Rattle.std.proofs.lemmas.Bool.Decides.{nat_tests}
use Rattle.std.proofs.lemmas.List.{get_or-map}
use Rattle.std.proofs.lemmas.List.FromFn.{get_or-range_with_len}
use Rattle.lang_base.specs.Lexical.{keywords}
use Rattle.syntax_tokens.specs.declared.token.Keyword.{Keyword}
use Rattle.syntax_tokens.specs.declared.token.Keyword.TheVariants as keyword
use Rattle.syntax_tokens.specs.declared.token.Symbol.{Symbol}
use Rattle.syntax_tokens.specs.declared.token.Symbol.TheVariants as symbol
use Rattle.syntax_tokens.specs.Piece.{IsLongestSymbol}
use Rattle.syntax_tokens.specs.Spelling.{symbol_text, keyword_text}

-- none of the first so many passes
abbrev pub NonePasses : {A : Type 0} → (A → Bool) → List A → A → ℕ → Type 0
NonePasses test xs d n = (k : ℕ) → k < n → test (get_or xs k d) ≡ false

-- one of the first so many does, and none before it
pub record FirstPasses {A : Type 0} (test : A → Bool) (xs : List A) (d : A) (n : ℕ) : Type 0 where
  pub at : ℕ
  pub below : at < n
  pub passes : test (get_or xs at d) ≡ true
  pub none : NonePasses test xs d at

pub first_passing : {A : Type 0} (test : A → Bool) (xs : List A) (d : A) (n : ℕ) → FirstPasses test xs d n ⊎ NonePasses test xs d n
first_passing test xs d zero = inr (λ k below. absurd (omega arith))
first_passing test xs d (suc n) = elim (first_passing test xs d n) [
  | inl first ↦ inl (record { at = first.at; below = omega (arith, first.below); passes = first.passes; none = first.none })
  | inr none ↦ elim (cases_Bool (test (get_or xs n d))) [
    | inl holds ↦ inl (record { at = n; below = omega arith; passes = holds; none = none })
    | inr fails ↦ inr (λ k below. elim (cases_eq k n) [
      | inl same ↦ subst (λ m. test (get_or xs m d) ≡ false) (sym same) fails
      | inr differ ↦ none k (omega arith)
    ])
  ]
]

abbrev pub all_keywords : List Keyword
all_keywords =
    keyword.Class ∷ keyword.Extends ∷ keyword.Region ∷ keyword.Atomic ∷ keyword.In ∷ keyword.Reads ∷ keyword.Writes
    ∷ keyword.Pure ∷ keyword.Int ∷ keyword.Boolean ∷ keyword.Void ∷ keyword.Final ∷ keyword.If ∷ keyword.Else
    ∷ keyword.While ∷ keyword.Return ∷ keyword.Print ∷ keyword.Cobegin ∷ keyword.CobeginNd ∷ keyword.Foreach
    ∷ keyword.ForeachNd ∷ keyword.ForeachParts ∷ keyword.New ∷ keyword.This ∷ keyword.True ∷ keyword.False
    ∷ keyword.Null ∷ keyword.Root ∷ []

keywords-list : keywords ≡ map keyword_text all_keywords
keywords-list = refl

-- where none of them is the word, it is no keyword
pub no_keyword : (word : List ℕ) → ((k : ℕ) → k < 28 → keyword_text (get_or all_keywords k keyword.Class) ≡ word → ⊥) → ¬ (Contains keywords word)
no_keyword word none (k, lt, is) = none k (omega arith) (sym (get_or-map keyword_text all_keywords k keyword.Class word lt) ∙ is)

-- those of two bytes come first
abbrev pub all_symbols : List Symbol
all_symbols =
    symbol.AtMost ∷ symbol.AtLeast ∷ symbol.Equal ∷ symbol.NotEqual ∷ symbol.And ∷ symbol.Or
    ∷ symbol.OpenBrace ∷ symbol.CloseBrace ∷ symbol.OpenParen ∷ symbol.CloseParen ∷ symbol.OpenBracket ∷ symbol.CloseBracket
    ∷ symbol.Less ∷ symbol.Greater ∷ symbol.Assign ∷ symbol.Plus ∷ symbol.Minus ∷ symbol.Star ∷ symbol.Slash ∷ symbol.Percent
    ∷ symbol.Not ∷ symbol.Semicolon ∷ symbol.Comma ∷ symbol.Dot ∷ symbol.Colon ∷ symbol.Hash ∷ symbol.Bar ∷ symbol.Question ∷ []

-- where a symbol stands among them
abbrev place_of : Symbol → ℕ
place_of symbol.AtMost = 0
place_of symbol.AtLeast = 1
place_of symbol.Equal = 2
place_of symbol.NotEqual = 3
place_of symbol.And = 4
place_of symbol.Or = 5
place_of symbol.OpenBrace = 6
place_of symbol.CloseBrace = 7
place_of symbol.OpenParen = 8
place_of symbol.CloseParen = 9
place_of symbol.OpenBracket = 10
place_of symbol.CloseBracket = 11
place_of symbol.Less = 12
place_of symbol.Greater = 13
place_of symbol.Assign = 14
place_of symbol.Plus = 15
place_of symbol.Minus = 16
place_of symbol.Star = 17
place_of symbol.Slash = 18
place_of symbol.Percent = 19
place_of symbol.Not = 20
place_of symbol.Semicolon = 21
place_of symbol.Comma = 22
place_of symbol.Dot = 23
place_of symbol.Colon = 24
place_of symbol.Hash = 25
place_of symbol.Bar = 26
place_of symbol.Question = 27

stands : (s : Symbol) → get_or all_symbols (place_of s) symbol.AtMost ≡ s
stands s = elim s as (λ s. get_or all_symbols (place_of s) symbol.AtMost ≡ s) [ symbol.AtMost ↦ refl | _ ↦ refl ]

stands_below : (s : Symbol) → place_of s < 28
stands_below s = elim s as (λ s. place_of s < 28) [ symbol.AtMost ↦ lit< tt | _ ↦ lit< tt ]

place_there : (i : ℕ) → i < 28 → place_of (get_or all_symbols i symbol.AtMost) ≡ i
place_there i lt = sym (get_or-map place_of all_symbols i symbol.AtMost 0 lt) ∙ get_or-range_with_len 0 28 i 0 lt ∙ zero-add i

length_by_place : (s : Symbol) → length (symbol_text s) ≡ cond (ltb (place_of s) 6) 2 1
length_by_place s = elim s as (λ s. length (symbol_text s) ≡ cond (ltb (place_of s) 6) 2 1) [ symbol.AtMost ↦ refl | _ ↦ refl ]

longer_first : (i j : ℕ) → i ≤ j → cond (ltb j 6) 2 1 ≤ cond (ltb i 6) 2 1
longer_first i j le = grind (arith, nat_tests)

-- the symbol begins the bytes
abbrev pub begins : List ℕ → Symbol → Bool
begins bytes s = starts_with nat_eq bytes (symbol_text s)

-- where none of them begins the bytes, no symbol does
pub no_symbol : (bytes : List ℕ) → NonePasses (begins bytes) all_symbols symbol.AtMost 28 → (s : Symbol) → begins bytes s ≡ false
no_symbol bytes none s = subst (λ t. begins bytes t ≡ false) (stands s) (none (place_of s) (stands_below s))

-- the first of them that does is the longest
pub longest : (bytes : List ℕ) (i : ℕ) → i < 28 → NonePasses (begins bytes) all_symbols symbol.AtMost i → IsLongestSymbol (get_or all_symbols i symbol.AtMost) bytes
longest bytes i lt none other here =
    let s = get_or all_symbols i symbol.AtMost in
    elim (cases_lt (place_of other) i) [
      | inl below ↦ absurd (false≢true (sym (none (place_of other) below) ∙ ap (begins bytes) (stands other) ∙ here))
      | inr above ↦ rw (length_by_place other, length_by_place s, place_there i lt) (longer_first i (place_of other) above)
    ]
