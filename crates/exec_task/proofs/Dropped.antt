-- What is left of a stack without its first items, in its level.
use Rattle.std.proofs.Common.{arith, ◌≡◌, ℕ, zero, suc, ◌+◌, ◌-◌, add-one, Bool, true, false, ◌<◌, ◌≤◌, List, [], ◌∷◌, map, length, drop, refl, sym, ap, ◌∙◌}
use Rattle.std.proofs.lemmas.Bool.{ltb-true, ltb-false}
use Rattle.std.proofs.Math.Dec.{ltb}
use Rattle.lang_base.specs.declared.value.Value.{Value as Constant}
use Rattle.lang_meaning.specs.Values.{Value}
use Rattle.exec_frames.specs.Names.{plain_value}
use Rattle.exec_frames.proofs.Dropped.{map_drop, drop_all}
use Rattle.exec_task.specs.declared.task.Level.{Level}
use Rattle.exec_task.specs.Tasks.{plain_level}

drop_nothing : {A : Type 0} (k : ℕ) → drop {A = A} k [] ≡ []
drop_nothing zero = refl
drop_nothing (suc k) = refl

pub drop_one : {A : Type 0} (k : ℕ) (xs : List A) → 0 < k → drop 1 (drop (k - 1) xs) ≡ drop k xs
drop_one zero xs h = absurd (omega arith)
drop_one (suc zero) xs h = refl
drop_one (suc (suc k)) [] h = ap (drop 1) (drop_nothing (suc (suc k) - 1))
drop_one (suc (suc k)) (x ∷ xs) h =
    let e : suc (suc k) - 1 ≡ suc (suc k - 1) = omega arith in
    ap (λ n. drop 1 (drop n (x ∷ xs))) e ∙ drop_one (suc k) xs (omega arith)

pub drop_within : {A : Type 0} (k n : ℕ) (xs : List A) → k ≤ n → (k < n → length xs ≤ k) → drop k xs ≡ drop n xs
drop_within k n xs h f = by_case (ltb k n) refl
  where
    by_case : (b : Bool) → ltb k n ≡ b → drop k xs ≡ drop n xs
    by_case true e = let l : k < n = ltb-true k n e in drop_all k xs (f l) ∙ sym (drop_all n xs (omega (arith, f l)))
    by_case false e = let l : n ≤ k = ltb-false k n e in let g : k ≡ n = omega arith in ap (λ i. drop i xs) g

pub passed : (g : Level) (left : List Constant) (n : ℕ) → left ≡ drop n g.stack
    → plain_level (record g { at = g.at + 1; stack = left }) ≡ record (plain_level g) { at = suc g.at; stack = drop n (map plain_value g.stack) }
passed g left n e =
    ap (λ p. record (plain_level g) { at = p; stack = map plain_value left }) (add-one g.at)
    ∙ ap (λ st. record (plain_level g) { at = suc g.at; stack = st }) (ap (map plain_value) e ∙ map_drop plain_value n g.stack)

pub passed_with : (g h : Level) (v : Constant) (n : ℕ) → h ≡ record g { stack = v ∷ drop n g.stack }
    → plain_level (record h { at = h.at + 1 }) ≡ record (plain_level g) { at = suc g.at; stack = plain_value v ∷ drop n (map plain_value g.stack) }
passed_with g h v n e =
    ap (λ i. plain_level (record i { at = i.at + 1 })) e
    ∙ ap (λ p. record (plain_level g) { at = p; stack = map plain_value (v ∷ drop n g.stack) }) (add-one g.at)
    ∙ ap (λ st. record (plain_level g) { at = suc g.at; stack = plain_value v ∷ st }) (map_drop plain_value n g.stack)

drop_two : {A : Type 0} (n : ℕ) (xs : List A) → drop 1 (drop n xs) ≡ drop (suc n) xs
drop_two zero xs = refl
drop_two (suc n) [] = refl
drop_two (suc n) (x ∷ xs) = drop_two n xs

pub without_receiver : (f : Constant → Value ℕ) (left st : List Constant) (n : ℕ) → left ≡ drop n st → drop 1 (map f left) ≡ drop (suc n) (map f st)
without_receiver f left st n e = ap (λ l. drop 1 (map f l)) e ∙ ap (drop 1) (map_drop f n st) ∙ drop_two n (map f st)
