-- Each text that isn't empty begins with a piece or a fault.
use Rattle.std.proofs.Common.{ℕ, List, [], ◌∷◌, inl, inr, sym, subst}
use Rattle.std.proofs.lemmas.Bool.{cases_Bool, cases_eq}
use Rattle.lang_base.specs.Lexical.{is_blank, is_letter, is_digit}
use Rattle.syntax_tokens.specs.Piece.{BeginsComment}
use Rattle.syntax_grammar.proofs.written.Parts.{Answers, line_comment, block_comment, text, blank, word, int, mark}

-- where no comment begins
otherwise : (b : ℕ) (bs : List ℕ) → ¬ (BeginsComment (b ∷ bs)) → Answers (b ∷ bs)
otherwise b bs no_comment = elim (cases_eq b 34) [
  | inl quote ↦ subst (λ n. Answers (n ∷ bs)) (sym quote) (text bs)
  | inr no_quote ↦ elim (cases_Bool (is_blank b)) [
    | inl holds ↦ blank b bs holds
    | inr no_blank ↦ elim (cases_Bool (is_letter b)) [
      | inl holds ↦ word (b ∷ bs) holds
      | inr no_letter ↦ elim (cases_Bool (is_digit b)) [
        | inl holds ↦ int (b ∷ bs) holds
        | inr no_digit ↦ mark (b ∷ bs) (no_blank, no_letter, no_digit, no_quote, no_comment)
      ]
    ]
  ]
]

after_slash : (c : ℕ) (bs : List ℕ) → Answers (47 ∷ c ∷ bs)
after_slash c bs = elim (cases_eq c 47) [
  | inl line ↦ subst (λ n. Answers (47 ∷ n ∷ bs)) (sym line) (line_comment bs)
  | inr no_line ↦ elim (cases_eq c 42) [
    | inl block ↦ subst (λ n. Answers (47 ∷ n ∷ bs)) (sym block) (block_comment bs)
    | inr no_block ↦ otherwise 47 (c ∷ bs) (λ begins. elim begins.1 [ inl line ↦ no_line line | inr block ↦ no_block block ])
  ]
]

pub front : (b : ℕ) (bs : List ℕ) → Answers (b ∷ bs)
front b [] = otherwise b [] (λ begins. begins)
front b (c ∷ bs) = elim (cases_eq b 47) [
  | inl slash ↦ subst (λ n. Answers (n ∷ c ∷ bs)) (sym slash) (after_slash c bs)
  | inr no_slash ↦ otherwise b (c ∷ bs) (λ begins. no_slash begins.0)
]
