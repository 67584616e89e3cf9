-- What the tables of symbols and keywords say of them.
use Rattle.std.proofs.Common.{◌≡◌, ◌≢◌, ◌<◌, ◌≤◌, ◌==◌, ℕ, Bool, true, false, cond, List, [], ◌∷◌, length, map, get_or, sym, refl, ap, ◌∙◌, arith, rules, lit<, eq-eqb}
use Rattle.std.specs.Prelude.{slice_index}
use Rattle.std.specs.List.{All, Contains, filter}
use Rattle.std.proofs.lemmas.Bool.{false≢true}
use Rattle.std.proofs.lemmas.List.Elements.{All-cons, All-head, All-tail, All-same, All-map, All-from_get_or, All-from_recursion, All-contains}
use Rattle.lang_base.specs.Lexical.{keywords}
use Rattle.syntax_tokens.specs.Spelling.{symbol_text, keyword_text}
use Rattle.syntax_tokens.specs.declared.token.Symbol.{Symbol}
use Rattle.syntax_tokens.specs.declared.token.Symbol.TheVariants as symbol
use Rattle.syntax_tokens.specs.declared.token.Keyword.{Keyword}
use Rattle.syntax_tokens.specs.declared.token.Keyword.TheVariants as keyword

pub symbol-some : (s : Symbol) → 0 < length (symbol_text s)
symbol-some s = elim s as (λ s. 0 < length (symbol_text s)) [ symbol.AtMost ↦ lit< tt | _ ↦ lit< tt ]

-- what is so of all that a test keeps, and of all that it doesn't keep, is so of each
all_kept : {X : Type 0} (P : X → Type 0) (test : X → Bool) → ((x : X) → test x ≡ false → P x) → (xs : List X) → All P (filter test xs) → All P xs
all_kept P test others [] all = all
all_kept P test others (x ∷ xs) all = by (λ rest. all_kept P test others xs rest) (test x) refl all
  where
    by : (All P (filter test xs) → All P xs) → (kept : Bool) → test x ≡ kept → All P (cond kept (x ∷ filter test xs) (filter test xs)) → All P (x ∷ xs)
    by later true is all = All-cons P x xs (All-head P x (filter test xs) all) (later (All-tail P x (filter test xs) all))
    by later false is all = All-cons P x xs (others x is) (later all)

-- where none of the keywords that begin as a word does is that word, no keyword is
pub keywords-none : (word : List ℕ) (some : List Keyword) (n : ℕ) → map keyword_text some ≡ filter (λ text. slice_index text 0 == slice_index word 0) keywords → length some ≤ n →
    ((k : ℕ) → k < n → keyword_text (get_or some k keyword.Class) ≢ word) → ¬ (Contains keywords word)
keywords-none word some n kept within none found =
    let P : List ℕ → Type 0 = λ text. text ≢ word in
    let test : List ℕ → Bool = λ text. slice_index text 0 == slice_index word 0 in
    let others : (text : List ℕ) → test text ≡ false → P text = λ text is same. false≢true (sym is ∙ ap test same ∙ eq-eqb _ _ refl) in
    let all_some = All-map P keyword_text some (All-from_get_or (λ k. P (keyword_text k)) some keyword.Class (λ k lt. none k (omega arith))) in
    All-contains P keywords word (all_kept P test others keywords (All-same P _ _ (sym kept) all_some)) found refl

-- no keyword has a single letter
pub keywords-short : (word : List ℕ) → length word < 2 → ¬ (Contains keywords word)
keywords-short word short found =
    let long : 1 < length word = All-contains (λ text. 1 < length text) keywords word (All-from_recursion (λ text. 1 < length text) keywords (search rules)) found in
    omega arith
