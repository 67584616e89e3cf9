-- What the tests of a segment say of inclusion.
use Rattle.std.proofs.Common.{◌≡◌, ℕ, suc, zero, ◌+◌, ◌<◌, ◌≤◌, Bool, true, false, not, cond, ◌&&◌, ◌||◌, eqb, List, [], ◌∷◌, ◌++◌, length, drop, take, get_or}
use Rattle.std.proofs.Common.{Option, Some, None, refl, sym, ap, ◌∙◌, arith, ne_eqb, eq-eqb, ⊎_elim, add-one}
use Rattle.std.proofs.lemmas.Bool.{and_right, and_left, cases_Bool, and_parts, or_cases, or_right, and_from, false≢true, not-true, cases_eq, eqb-true}
use Rattle.std.proofs.lemmas.Bool.{cond-false, false_from_ne_true}
use Rattle.std.proofs.lemmas.Bool.Decides.{nat_tests}
use Rattle.std.proofs.lemmas.List.{get_or-drop, drop-drop}
use Rattle.lang_base.specs.declared.elems.Elem.{Elem}
use Rattle.lang_base.specs.declared.elems.Elem.TheVariants.{Star, Local}
use Rattle.lang_base.specs.Regions.{is_star, is_local, elem_within, covers_elems}
use Rattle.region_paths.specs.Segments.{NoStar, begins_within, following, after_first, ends_within}

pub and_assoc : (a b c : Bool) → (a && (b && c)) ≡ ((a && b) && c)
and_assoc true b c = refl
and_assoc false b c = refl

pub begins_within-short : (s l : List Elem) → length l < length s → begins_within s l ≡ false
begins_within-short [] l h = absurd (omega arith)
begins_within-short (y ∷ s) [] h = refl
begins_within-short (y ∷ s) (x ∷ l) h = and_right (elem_within x y) _ (begins_within-short s l (omega arith))

pub begins_within-fits : (s l : List Elem) → begins_within s l ≡ true → length s ≤ length l
begins_within-fits [] l h = omega arith
begins_within-fits (y ∷ s) [] h = absurd (false≢true h)
begins_within-fits (y ∷ s) (x ∷ l) h = let k = begins_within-fits s l (and_parts (elem_within x y) _ h).1 in omega arith

pub covers_segment : (s t l : List Elem) → NoStar s → covers_elems (s ++ Star ∷ t) l ≡ (begins_within s l && covers_elems (Star ∷ t) (drop (length s) l))
covers_segment [] t l h = refl
covers_segment (y ∷ s) t [] h = let e = h.0 in rw e
covers_segment (y ∷ s) t (x ∷ l) h =
    let e = h.0 in
    let k = covers_segment s t l h.1 in
    rw (e, k) (and_assoc (elem_within x y) _ _)

eqb-suc : (m n : ℕ) → eqb (suc m) (suc n) ≡ eqb m n
eqb-suc m n = grind (arith, nat_tests)

and_swap : (a b c d : Bool) → d ≡ b → (a && (b && c)) ≡ (d && (a && c))
and_swap true b c d e = sym (ap (λ x. x && c) e)
and_swap false b c d e = sym (and_right d false refl)

pub covers_solid : (s l : List Elem) → NoStar s → covers_elems s l ≡ (eqb (length s) (length l) && begins_within s l)
covers_solid [] [] h = refl
covers_solid [] (x ∷ l) h = sym (and_left _ _ (ne_eqb 0 (length (x ∷ l)) (λ e. absurd (omega arith))))
covers_solid (y ∷ s) [] h = let e = h.0 in rw e (sym (and_right _ _ refl))
covers_solid (y ∷ s) (x ∷ l) h =
    let e = h.0 in
    let k = covers_solid s l h.1 in
    rw (e, k) (and_swap (elem_within x y) (eqb (length s) (length l)) _ _ (eqb-suc (length s) (length l)))

-- elements that lie in one another are local regions together
pub elem_within-local : (x y : Elem) → elem_within x y ≡ true → is_local x ≡ is_local y
elem_within-local (Local _ _) (Local _ _) h = refl
elem_within-local (Local _ _) y h = absurd (false≢true h)
elem_within-local x (Local _ _) h = absurd (false≢true h)
elem_within-local x y h = refl

begins_within-at : (s l : List Elem) (j : ℕ) → begins_within s l ≡ true → j < length s → elem_within (get_or l j Star) (get_or s j Star) ≡ true
begins_within-at [] l j h lt = absurd (omega arith)
begins_within-at (y ∷ s) [] j h lt = absurd (false≢true h)
begins_within-at (y ∷ s) (x ∷ l) zero h lt = (and_parts (elem_within x y) _ h).0
begins_within-at (y ∷ s) (x ∷ l) (suc j) h lt = begins_within-at s l j (and_parts (elem_within x y) _ h).1 (omega arith)

-- no local region among the first elements
pub Free : ℕ → List Elem → Type 0
Free n l = (q : ℕ) → q < n → is_local (get_or l q Star) ≡ false

-- a segment that fits at the front and again further on holds no local region on the way
free_on : (s l : List Elem) (k : ℕ) → 0 < k → begins_within s l ≡ true → begins_within s (drop k l) ≡ true → Free k l → (j : ℕ) → j ≤ length s → Free (k + j) l
unfolding Free
free_on s l k pos h g f zero le = λ q lt. f q (omega arith)
free_on s l k pos h g f (suc j) le = λ q lt.
    let before = free_on s l k pos h g f j (omega arith) in
    ⊎_elim
    (λ e. let here = elem_within-local _ _ (begins_within-at s l j h (omega arith)) in
    let there = elem_within-local _ _ (begins_within-at s (drop k l) j g (omega arith)) in
    let at = get_or-drop k l j Star in
    let known = before j (omega arith) in
    rw e (ap is_local (sym at) ∙ there ∙ sym here ∙ known))
    (λ ne. before q (omega (arith, ne)))
    (cases_eq q (k + j))

-- `*` takes up elements that are no local regions
skip_free : (n : ℕ) (t m : List Elem) → Free n m → covers_elems (Star ∷ t) (drop n m) ≡ true → covers_elems (Star ∷ t) m ≡ true
unfolding Free
skip_free zero t m f h = h
skip_free (suc n) t [] f h = h
skip_free (suc n) t (x ∷ m) f h =
    or_right (covers_elems t (x ∷ m)) _ (and_from _ _ (ap not (f 0 (omega arith))) (skip_free n t m (λ q lt. f (suc q) (omega arith)) h))

-- where `*` and a segment cover a list, the `*` ends at some place that it reaches
reached : (s t l : List Elem) → NoStar s → covers_elems (Star ∷ (s ++ Star ∷ t)) l ≡ true →
    (k : ℕ) × Free k l × (begins_within s (drop k l) ≡ true) × (covers_elems (Star ∷ t) (drop (length s) (drop k l)) ≡ true)
unfolding Free
reached s t [] n h =
    let p = and_parts (begins_within s []) _ (sym (covers_segment s t [] n) ∙ h) in
    (0, λ q lt. absurd (omega arith), p.0, p.1)
reached s t (x ∷ l) n h =
    ⊎_elim
    (λ e. let p = and_parts (begins_within s (x ∷ l)) _ (sym (covers_segment s t (x ∷ l) n) ∙ e) in
    (0, λ q lt. absurd (omega arith), p.0, p.1))
    (λ e. let p = and_parts (not (is_local x)) _ e in
    let r = reached s t l n p.1 in
    (suc r.0, λ q lt. free_more x l r.0 (not-true _ p.0) r.1 q lt, r.2, r.3))
    (or_cases (covers_elems (s ++ Star ∷ t) (x ∷ l)) _ h)
  where
    free_more : (x : Elem) (l : List Elem) (k : ℕ) → is_local x ≡ false → Free k l → (q : ℕ) → q < suc k → is_local (get_or (x ∷ l) q Star) ≡ false
    free_more x l k e f zero lt = e
    free_more x l k e f (suc q) lt = f q (omega arith)

-- a segment that fits here serves what follows as well as one that fits further on
greedy : (s t : List Elem) (x : Elem) (l : List Elem) → NoStar s → begins_within s (x ∷ l) ≡ true → is_local x ≡ false →
    covers_elems (Star ∷ (s ++ Star ∷ t)) l ≡ true → covers_elems (Star ∷ t) (drop (length s) (x ∷ l)) ≡ true
unfolding Free
greedy s t x l n h e w =
    let r = reached s t l n w in
    let k = suc r.0 in
    let m = x ∷ l in
    let far : Free k m = λ q lt. free_at q lt r.1 in
    let free = free_on s m k (omega arith) h r.2 far (length s) (omega arith) in
    let rest : Free k (drop (length s) m) = λ q lt. ap is_local (get_or-drop (length s) m q Star) ∙ free (length s + q) (omega arith) in
    let same : drop (length s) (drop k m) ≡ drop k (drop (length s) m) =
    drop-drop (length s) k m ∙ ap (λ i. drop i m) (let c : k + length s ≡ length s + k = omega arith in c) ∙ sym (drop-drop k (length s) m) in
    skip_free k t (drop (length s) m) rest (ap (λ a. covers_elems (Star ∷ t) a) (sym same) ∙ r.3)
  where
    free_at : (q : ℕ) → q < suc (reached s t l n w).0 → Free (reached s t l n w).0 l → is_local (get_or (x ∷ l) q Star) ≡ false
    free_at zero lt f = e
    free_at (suc q) lt f = f q (omega arith)

or_absorb : (a b : Bool) → (b ≡ true → a ≡ true) → (a || b) ≡ a
or_absorb true b h = refl
or_absorb false true h = sym (h refl)
or_absorb false false h = refl

-- the rest of a path after `*` covers what is left
abbrev pub continues : List Elem → Option (List Elem) → Bool
continues t None = false
continues t (Some r) = covers_elems (Star ∷ t) r

continues-cond : (t : List Elem) (b : Bool) (r : List Elem) → (b && covers_elems (Star ∷ t) r) ≡ continues t (cond b (Some r) None)
continues-cond t true r = refl
continues-cond t false r = refl

pub covers_after : (s t l : List Elem) → NoStar s → covers_elems (s ++ Star ∷ t) l ≡ continues t (following s l)
covers_after s t l n = covers_segment s t l n ∙ continues-cond t (begins_within s l) (drop (length s) l)

first_step : (t : List Elem) (b c w : Bool) (r : List Elem) (o : Option (List Elem)) → w ≡ continues t o →
    (b ≡ true → c ≡ false → w ≡ true → covers_elems (Star ∷ t) r ≡ true) →
    ((b && covers_elems (Star ∷ t) r) || (not c && w)) ≡ continues t (cond b (Some r) (cond c None o))
first_step t true c w r o e h = or_absorb _ _ (λ k. let p = and_parts (not c) w k in h refl (not-true c p.0) p.1)
first_step t false true w r o e h = refl
first_step t false false w r o e h = e

pub covers_star : (s t l : List Elem) → NoStar s → covers_elems (Star ∷ (s ++ Star ∷ t)) l ≡ continues t (after_first s l)
covers_star s t [] n = covers_after s t [] n
covers_star s t (x ∷ l) n =
    ap (λ z. z || (not (is_local x) && covers_elems (Star ∷ (s ++ Star ∷ t)) l)) (covers_segment s t (x ∷ l) n)
    ∙ first_step t (begins_within s (x ∷ l)) (is_local x) _ (drop (length s) (x ∷ l)) (after_first s l) (covers_star s t l n) (λ b c w. greedy s t x l n b c w)

ends_within-fits : (s l : List Elem) → ends_within s l ≡ true → length s ≤ length l
ends_within-fits s [] h = grind (arith, nat_tests)
ends_within-fits s (x ∷ l) h =
    ⊎_elim
    (λ e. let k = eqb-true (length s) (suc (length l)) e in omega arith)
    (λ e. let g = ends_within-fits s l (and_parts (not (is_local x)) _ (sym (cond-false _ _ _ e) ∙ h)).1 in omega arith)
    (cases_Bool (eqb (length s) (suc (length l))))

last_step : (b c d e : Bool) → (b ≡ true → d ≡ false) → ((b && e) || (c && d)) ≡ cond b e (c && d)
last_step true c d e h = or_absorb _ _ (λ k. absurd (false≢true (sym (h refl) ∙ (and_parts c d k).1)))
last_step false c d e h = refl

pub covers_ends : (s l : List Elem) → NoStar s → covers_elems (Star ∷ s) l ≡ ends_within s l
covers_ends [] [] n = refl
covers_ends (y ∷ s) [] n = covers_solid (y ∷ s) [] n ∙ and_right _ _ refl ∙ sym (ne_eqb (length (y ∷ s)) 0 (λ e. absurd (omega arith)))
covers_ends s (x ∷ l) n =
    ap (λ z. z || (not (is_local x) && covers_elems (Star ∷ s) l)) (covers_solid s (x ∷ l) n)
    ∙ ap (λ z. (eqb (length s) (suc (length l)) && begins_within s (x ∷ l)) || (not (is_local x) && z)) (covers_ends s l n)
    ∙ last_step (eqb (length s) (suc (length l))) (not (is_local x)) (ends_within s l) (begins_within s (x ∷ l))
    (λ e. false_from_ne_true _ (λ k. let f = ends_within-fits s l k in let g = eqb-true (length s) (suc (length l)) e in absurd (omega arith)))

-- the steps of the search for a path's segments, one after another
pub covers-alone : (o i : List Elem) (b : Bool) → NoStar o → length o ≡ length i → b ≡ begins_within o i → b ≡ covers_elems o i
covers-alone o i b n e h = h ∙ sym (ap (λ z. z && begins_within o i) (eq-eqb (length o) (length i) e)) ∙ sym (covers_solid o i n)

pub covers-longer : (o i : List Elem) → NoStar o → (length o ≡ length i → ⊥) → eqb (length o) (length i) ≡ covers_elems o i
covers-longer o i n e = ne_eqb _ _ e ∙ sym (covers_solid o i n ∙ and_left _ _ (ne_eqb _ _ e))

pub covers-front : (o f p i l : List Elem) → NoStar f → o ≡ f ++ Star ∷ p → Some l ≡ following f i → covers_elems (Star ∷ p) l ≡ covers_elems o i
covers-front o f p i l n e h = ap (continues p) h ∙ sym (covers_after f p i n) ∙ ap (λ z. covers_elems z i) (sym e)

pub covers-no_front : (o f p i : List Elem) → NoStar f → o ≡ f ++ Star ∷ p → None ≡ following f i → false ≡ covers_elems o i
covers-no_front o f p i n e h = ap (continues p) h ∙ sym (covers_after f p i n) ∙ ap (λ z. covers_elems z i) (sym e)

pub covers-next : (p s a l r : List Elem) → NoStar s → p ≡ s ++ Star ∷ a → Some r ≡ after_first s l → covers_elems (Star ∷ a) r ≡ covers_elems (Star ∷ p) l
covers-next p s a l r n e h = ap (continues a) h ∙ sym (covers_star s a l n) ∙ ap (λ z. covers_elems (Star ∷ z) l) (sym e)

pub covers-no_next : (p s a l : List Elem) → NoStar s → p ≡ s ++ Star ∷ a → None ≡ after_first s l → false ≡ covers_elems (Star ∷ p) l
covers-no_next p s a l n e h = ap (continues a) h ∙ sym (covers_star s a l n) ∙ ap (λ z. covers_elems (Star ∷ z) l) (sym e)

pub NoStar-push : (xs : List Elem) (i : ℕ) (d : Elem) → i < length xs → NoStar (take i xs) → is_star (get_or xs i d) ≡ false → NoStar (take (i + 1) xs)
NoStar-push xs i d lt n e = rw add-one (pushed xs i d lt n e)
  where
    pushed : (xs : List Elem) (i : ℕ) (d : Elem) → i < length xs → NoStar (take i xs) → is_star (get_or xs i d) ≡ false → NoStar (take (suc i) xs)
    pushed [] i d lt n e = tt
    pushed (x ∷ xs) zero d lt n e = (e, tt)
    pushed (x ∷ xs) (suc i) d lt n e = (n.0, pushed xs i d (omega arith) n.1 e)
