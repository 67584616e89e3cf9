-- Comments, by where they end.
use Rattle.std.proofs.Common.{◌≡◌, ◌<◌, ◌≤◌, ◌+◌, ℕ, suc, List, [], ◌∷◌, ◌++◌, length, take, drop, get_or, sym, subst, refl, ap, ◌∙◌, arith, inl, inr, append_assoc}
use Rattle.std.proofs.lemmas.List.{take_more, length-take-le, get_or-take}
use Rattle.std.specs.List.{prefix_len}
use Rattle.syntax_tokens.specs.Piece.{ClosesAt, IsComment, is_no_line_feed}
use Rattle.syntax_tokens.proofs.Runs.{run-prefix_len}

-- two more bytes of a front
take-two : (bs : List ℕ) (at : ℕ) → at + 2 ≤ length bs → take (at + 2) bs ≡ take at bs ++ (get_or bs at 0 ∷ get_or bs (at + 1) 0 ∷ [])
take-two bs at within =
    let again : at + 2 ≡ (at + 1) + 1 = omega arith in
    ap (λ n. take n bs) again ∙ take_more bs (at + 1) 0 (omega arith) ∙ ap (λ front. front ++ (get_or bs (at + 1) 0 ∷ [])) (take_more bs at 0 (omega arith)) ∙ append_assoc (take at bs) (get_or bs at 0 ∷ []) (get_or bs (at + 1) 0 ∷ [])

-- up to the first `*/`
pub comment-block : (bytes following : List ℕ) (at : ℕ) → bytes ≡ 47 ∷ 42 ∷ following → (at + 2 ≤ length following) × ClosesAt following at × ((k : ℕ) → k < at → ¬ (ClosesAt following k)) → IsComment (take (at + 4) bytes) (drop (at + 4) bytes)
comment-block bytes following at e h =
    let body = take at following in
    let ends : take (at + 2) following ≡ body ++ 42 ∷ 47 ∷ [] = take-two following at h.0 ∙ ap (λ b. body ++ (b ∷ get_or following (at + 1) 0 ∷ [])) h.1.0 ∙ ap (λ b. body ++ (42 ∷ b ∷ [])) h.1.1 in
    let four : at + 4 ≡ suc (suc (at + 2)) = omega arith in
    let text : take (at + 4) bytes ≡ 47 ∷ 42 ∷ (body ++ 42 ∷ 47 ∷ []) = ap (take (at + 4)) e ∙ ap (λ n. take n (47 ∷ 42 ∷ following)) four ∙ ap (λ bs. 47 ∷ 42 ∷ bs) ends in
    let long : length body ≡ at = length-take-le at following (omega arith) in
    inr (
      body,
      text,
      λ k lt closes. h.2 k (omega arith) (
        sym (ap (λ bs. get_or bs k 0) (sym ends) ∙ get_or-take (at + 2) following k 0 (omega arith)) ∙ closes.0,
        sym (ap (λ bs. get_or bs (k + 1) 0) (sym ends) ∙ get_or-take (at + 2) following (k + 1) 0 (omega arith)) ∙ closes.1,
      ),
    )

-- up to the line feed or the end
pub comment-line : (bytes following : List ℕ) (len : ℕ) → bytes ≡ 47 ∷ 47 ∷ following → len ≡ 2 + prefix_len is_no_line_feed following → IsComment (take len bytes) (drop len bytes)
comment-line bytes following len e is =
    let n = prefix_len is_no_line_feed following in
    let two : len ≡ suc (suc n) = omega arith in
    let P : ℕ → Type 0 = λ m. IsComment (take m (47 ∷ 47 ∷ following)) (drop m (47 ∷ 47 ∷ following)) in
    let Q : List ℕ → Type 0 = λ bs. IsComment (take len bs) (drop len bs) in
    subst Q (sym e) (subst P (sym two) (inl (take n following, refl, run-prefix_len is_no_line_feed following)))
