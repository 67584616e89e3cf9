-- What a slot holds after locals are copied back.
use Rattle.std.proofs.Common.{◌≡◌, ℕ, suc, rules, ◌==◌, ◌<◌, Bool, true, false, cond, ◌||◌, List, [], ◌∷◌, ◌++◌, length, refl, sym, ap, ◌∙◌, subst}
use Rattle.std.proofs.Common.{length-set, get_or-set_other, get_or-set_same}
use Rattle.std.proofs.lemmas.Bool.{eqb-true, eqb-false}
use Rattle.std.specs.Prelude.{All, slice_set}
use Rattle.std.specs.List.{list_any}
use Rattle.lang_meaning.specs.Values.{Value}
use Rattle.lang_meaning.specs.Counts.{slot_value, assigned, copied, copied_one}

abbrev pub among : ℕ → List ℕ → Bool
among y xs = list_any (λ x. y == x) xs

pub neither : (a b : Bool) → (a || b) ≡ false → (a ≡ false) × (b ≡ false)
neither true b e = absurd (cc)
neither false b e = (refl, e)

pub not_in_append : (y : ℕ) (xs ys : List ℕ) → among y (xs ++ ys) ≡ false → (among y xs ≡ false) × (among y ys ≡ false)
not_in_append y [] ys e = (refl, e)
not_in_append y (x ∷ xs) ys e =
    let n = neither (y == x) (among y (xs ++ ys)) e in
    let more = not_in_append y xs ys n.1 in
    (ap (λ b. b || among y xs) n.0 ∙ more.0, more.1)

-- what each element of a list keeps, one that is among them keeps
pub of_all_among : (P : ℕ → Type 0) (xs : List ℕ) (y : ℕ) → All P xs → among y xs ≡ true → P y
of_all_among P [] y h e = absurd (cc)
of_all_among P (x ∷ xs) y h e = at (y == x) refl (λ i. of_all_among P xs y (λ k d l. h (suc k) d (search rules)) i) e
  where
    at : (b : Bool) → (y == x) ≡ b → (among y xs ≡ true → P y) → (b || among y xs) ≡ true → P y
    at true i more e = subst P (sym (eqb-true y x i)) (h 0 x (search rules))
    at false i more e = more e

-- the value last given to a slot, or this one
abbrev pub last_value : ℕ → List (ℕ × Value ℕ) → Value ℕ → Value ℕ
last_value y [] v = v
last_value y (l ∷ ls) v = last_value y ls (cond (y == l.0) l.1 v)

pub last_assigned : (y : ℕ) (xs : List ℕ) (vs : List (Value ℕ)) (ls : List (ℕ × Value ℕ)) (v : Value ℕ)
    → last_value y (assigned xs vs ++ ls) v ≡ last_value y ls (cond (among y xs) (slot_value vs y) v)
last_assigned y [] vs ls v = refl
last_assigned y (x ∷ xs) vs ls v =
    last_assigned y xs vs ls (cond (y == x) (slot_value vs x) v) ∙ ap (λ u. last_value y ls u) (at (y == x) (among y xs) refl)
  where
    at : (b c : Bool) → (y == x) ≡ b → cond c (slot_value vs y) (cond b (slot_value vs x) v) ≡ cond (b || c) (slot_value vs y) v
    at true true i = refl
    at true false i = ap (λ z. slot_value vs z) (sym (eqb-true y x i))
    at false c i = refl

copied_one_out : (y : ℕ) (slots : List ℕ) (x : ℕ) (v : Value ℕ) (vs : List (Value ℕ)) → among y slots ≡ false
    → slot_value (copied_one slots x v vs) y ≡ slot_value vs y
copied_one_out y slots x v vs e = at (among x slots) refl
  where
    at : (b : Bool) → among x slots ≡ b → slot_value (cond b (slice_set vs x v) vs) y ≡ slot_value vs y
    at true i = get_or-set_other vs x y v _ (λ same. (let j : among y slots ≡ true = ap (λ z. among z slots) same ∙ i in cc))
    at false i = refl

copied_one_in : (y : ℕ) (slots : List ℕ) (x : ℕ) (v : Value ℕ) (vs : List (Value ℕ)) → among y slots ≡ true → y < length vs
    → slot_value (copied_one slots x v vs) y ≡ cond (y == x) v (slot_value vs y)
copied_one_in y slots x v vs e l = at (y == x) (among x slots) refl refl
  where
    at : (b c : Bool) → (y == x) ≡ b → among x slots ≡ c → slot_value (cond c (slice_set vs x v) vs) y ≡ cond b v (slot_value vs y)
    at true true i j = ap (λ z. slot_value (slice_set vs z v) y) (sym (eqb-true y x i)) ∙ get_or-set_same vs y v _ l
    at true false i j = let k : among y slots ≡ false = ap (λ z. among z slots) (eqb-true y x i) ∙ j in absurd (cc)
    at false true i j = get_or-set_other vs x y v _ (eqb-false y x i)
    at false false i j = refl

copied_one_length : (slots : List ℕ) (x : ℕ) (v : Value ℕ) (vs : List (Value ℕ)) → length (copied_one slots x v vs) ≡ length vs
copied_one_length slots x v vs = at (among x slots)
  where
    at : (b : Bool) → length (cond b (slice_set vs x v) vs) ≡ length vs
    at true = length-set vs x v
    at false = refl

pub copied_length : (slots : List ℕ) (ls : List (ℕ × Value ℕ)) (vs : List (Value ℕ)) → length (copied slots ls vs) ≡ length vs
copied_length slots [] vs = refl
copied_length slots (l ∷ ls) vs = copied_length slots ls (copied_one slots l.0 l.1 vs) ∙ copied_one_length slots l.0 l.1 vs

-- a slot that isn't copied back keeps its value
pub copied_out : (y : ℕ) (slots : List ℕ) (ls : List (ℕ × Value ℕ)) (vs : List (Value ℕ)) → among y slots ≡ false
    → slot_value (copied slots ls vs) y ≡ slot_value vs y
copied_out y slots [] vs e = refl
copied_out y slots (l ∷ ls) vs e = copied_out y slots ls (copied_one slots l.0 l.1 vs) e ∙ copied_one_out y slots l.0 l.1 vs e

pub copied_in : (y : ℕ) (slots : List ℕ) (ls : List (ℕ × Value ℕ)) (vs : List (Value ℕ)) → among y slots ≡ true → y < length vs
    → slot_value (copied slots ls vs) y ≡ last_value y ls (slot_value vs y)
copied_in y slots [] vs e l = refl
copied_in y slots (a ∷ ls) vs e l =
    copied_in y slots ls (copied_one slots a.0 a.1 vs) e (subst (λ n. y < n) (sym (copied_one_length slots a.0 a.1 vs)) l)
    ∙ ap (λ u. last_value y ls u) (copied_one_in y slots a.0 a.1 vs e l)
