-- Facts of numbers and texts that can be decided.
use Rattle.std.proofs.Common.{◌≡◌, ◌∙◌, ◌⊎◌, ◌<◌, ◌≤◌, ℕ, suc, zero, true, false, List, [], ◌∷◌, ◌++◌, length, drop, Option, Some, None, inl, inr, ⊎_elim, refl, ap, sym, subst, arith, eqb, eqb-true, eq-eqb}
use Rattle.std.proofs.lemmas.Bool.{cases_Bool, cases_lt, false≢true}
use Rattle.std.proofs.Math.Seq.{drop-append_seam}

-- so, or not
abbrev pub Decided : Type 0 → Type 0
Decided A = A ⊎ (A → ⊥)

pub decided_map : {A B : Type 0} → (A → B) → (B → A) → Decided A → Decided B
decided_map f g t = ⊎_elim (λ h. inl (f h)) (λ never. inr (λ h. never (g h))) t

pub decided_both : {A B : Type 0} → Decided A → Decided B → Decided (A × B)
decided_both a b = ⊎_elim (λ h. ⊎_elim (λ g. inl (h, g)) (λ never. inr (λ both. never both.1)) b) (λ never. inr (λ both. never both.0)) a

pub less_decided : (a b : ℕ) → Decided (a < b)
less_decided a b = ⊎_elim (λ (h : a < b). inl h) (λ (h : b ≤ a). inr (λ less. omega (arith, h, less))) (cases_lt a b)

pub most_decided : (a b : ℕ) → Decided (a ≤ b)
most_decided a b = ⊎_elim (λ (h : b < a). inr (λ le. omega (arith, h, le))) (λ (h : a ≤ b). inl h) (cases_lt b a)

pub same_decided : (a b : ℕ) → Decided (a ≡ b)
same_decided a b = ⊎_elim (λ (h : eqb a b ≡ true). inl (eqb-true a b h)) (λ (h : eqb a b ≡ false). inr (λ same. false≢true (sym h ∙ eq-eqb a b same))) (cases_Bool (eqb a b))

head_same : {x y : ℕ} {xs ys : List ℕ} → x ∷ xs ≡ y ∷ ys → x ≡ y
head_same e = cc

tail_same : {x y : ℕ} {xs ys : List ℕ} → x ∷ xs ≡ y ∷ ys → xs ≡ ys
tail_same e = cc

pub text_decided : (xs ys : List ℕ) → Decided (xs ≡ ys)
text_decided [] [] = inl refl
text_decided [] (y ∷ ys) = inr (λ e. absurd (cc))
text_decided (x ∷ xs) [] = inr (λ e. absurd (cc))
text_decided (x ∷ xs) (y ∷ ys) =
    ⊎_elim (λ (h : x ≡ y). ⊎_elim (λ (g : xs ≡ ys). inl (λ i. h i ∷ g i)) (λ never. inr (λ e. never (tail_same e))) (text_decided xs ys)) (λ never. inr (λ e. never (head_same e))) (same_decided x y)

some_same : {x y : ℕ} → Some x ≡ Some y → x ≡ y
some_same e = cc

pub some_decided : (o : Option ℕ) (n : ℕ) → Decided (o ≡ Some n)
some_decided None n = inr (λ e. absurd (cc))
some_decided (Some k) n = decided_map (λ e. ap Some e) (λ e. some_same e) (same_decided k n)

-- a number below a bound of which a fact is so
pub found_decided : {P : ℕ → Type 0} (end : ℕ) → ((n : ℕ) → Decided (P n)) → ((n : ℕ) × P n) ⊎ ((n : ℕ) → n < end → P n → ⊥)
found_decided zero each = inr (λ n less h. omega (arith, less))
found_decided {P} (suc end) each =
    ⊎_elim (λ h. inl (end, h))
    (λ never. ⊎_elim (λ found. inl found)
    (λ none. inr (λ n less h. ⊎_elim (λ (below : n < end). none n below h) (λ (above : end ≤ n). (let same : n ≡ end = omega (arith, above, less) in never (subst P same h))) (cases_lt n end)))
    (found_decided {P = P} end each)) (each end)

-- a text after another
pub after_decided : (text front : List ℕ) → ((rest : List ℕ) × (text ≡ front ++ rest)) ⊎ ((rest : List ℕ) → text ≡ front ++ rest → ⊥)
after_decided text front =
    ⊎_elim (λ e. inl (drop (length front) text, e))
    (λ never. inr (λ rest e. never (e ∙ ap (λ t. front ++ t) (sym (drop-append_seam front rest) ∙ ap (λ t. drop (length front) t) (sym e)))))
    (text_decided text (front ++ drop (length front) text))
