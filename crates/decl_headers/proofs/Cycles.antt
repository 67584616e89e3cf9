-- What is above some class over more steps than there are classes is its own superclass.
use Rattle.std.proofs.Common.{◌≡◌, ℕ, zero, suc, ◌+◌, ◌*◌, ◌-◌, ◌<◌, ◌≤◌, ◌==◌, Bool, true, false, List, [], ◌∷◌, length, get_or, set, map, replicate, ◌⊎◌, inl, inr, Option, Some, None, refl, sym, ap, ◌∙◌, subst, arith, length-set, get_or-set_same, get_or-set_other}
use Rattle.std.specs.List.{list_any}
use Rattle.std.specs.Option.{option_and_then, option_map_or}
use Rattle.std.proofs.lemmas.Bool.{false≢true, cases_eq, or_cases, or_left, or_right, eqb-true, eq-eqb}
use Rattle.std.proofs.lemmas.List.{length-replicate}
use Rattle.std.proofs.lemmas.Option.{none-some}
use Rattle.decl_headers.specs.Headers.{chain}
use Rattle.decl_headers.specs.Rounds.{entry_of, up, is_round, all_rounds}

-- one step up or more, the class itself stands
abbrev pub IsRound : List (Option ℕ) → ℕ → Type 0
IsRound parents at = (n : ℕ) × (up parents (suc n) at ≡ Some at)

-- so many steps and so many more
pub up-add : (parents : List (Option ℕ)) (m n at : ℕ) → up parents (m + n) at ≡ option_and_then (up parents m) (up parents n at)
up-add parents zero n at = ap (λ k. up parents k at) e ∙ sym (same (up parents n at))
  where
    e : 0 + n ≡ n
    e = omega arith

    same : (o : Option ℕ) → option_and_then (λ one. Some one) o ≡ o
    same None = refl
    same (Some one) = refl
up-add parents (suc m) n at =
    let e : suc m + n ≡ suc (m + n) = omega arith in
    ap (λ k. up parents k at) e ∙ ap (option_and_then (entry_of parents)) (up-add parents m n at) ∙ along (up parents n at)
  where
    along : (o : Option ℕ) → option_and_then (entry_of parents) (option_and_then (up parents m) o) ≡ option_and_then (up parents (suc m)) o
    along None = refl
    along (Some one) = refl

-- where more steps lead somewhere, fewer do
pub up-first : (parents : List (Option ℕ)) (m n at top : ℕ) → up parents (m + n) at ≡ Some top → (one : ℕ) × (up parents n at ≡ Some one) × (up parents m one ≡ Some top)
up-first parents m n at top h = split (up parents n at) refl
  where
    split : (o : Option ℕ) → up parents n at ≡ o → (one : ℕ) × (up parents n at ≡ Some one) × (up parents m one ≡ Some top)
    split None e = absurd (none-some top (sym (up-add parents m n at ∙ ap (option_and_then (up parents m)) e) ∙ h))
    split (Some one) e = (one, e, sym (up-add parents m n at ∙ ap (option_and_then (up parents m)) e) ∙ h)

pub up-then : (parents : List (Option ℕ)) (m n at one : ℕ) → up parents n at ≡ Some one → up parents (m + n) at ≡ up parents m one
up-then parents m n at one e = up-add parents m n at ∙ ap (option_and_then (up parents m)) e

-- what has something above it is one of the classes
pub entry_within : (parents : List (Option ℕ)) (at top : ℕ) → entry_of parents at ≡ Some top → at < length parents
entry_within [] at top h = cc
entry_within (parent ∷ parents) zero top h = omega arith
entry_within (parent ∷ parents) (suc at) top h = let b = entry_within parents at top h in omega arith

pub up_within : (parents : List (Option ℕ)) (n at top : ℕ) → up parents (suc n) at ≡ Some top → at < length parents
up_within parents n at top h =
    let e : suc n ≡ n + 1 = omega arith in
    let f = up-first parents n 1 at top (ap (λ k. up parents k at) (sym e) ∙ h) in
    entry_within parents at f.0 f.1

-- round and round
round_again : (parents : List (Option ℕ)) (p at : ℕ) → up parents p at ≡ Some at → (k : ℕ) → up parents (k * p) at ≡ Some at
round_again parents p at h zero = let e : 0 * p ≡ 0 = omega arith in ap (λ k. up parents k at) e
round_again parents p at h (suc k) =
    let e : suc k * p ≡ k * p + p = omega arith in
    ap (λ n. up parents n at) e ∙ up-then parents (k * p) p at at h ∙ round_again parents p at h k

-- it is above some class over any number of steps
pub round_far : (parents : List (Option ℕ)) (at steps : ℕ) → IsRound parents at → (below : ℕ) × (up parents steps below ≡ Some at)
round_far parents at steps h =
    let p = suc h.0 in
    let all = round_again parents p at h.1 steps in
    let e : steps * suc h.0 ≡ steps + steps * h.0 = omega arith in
    let f = up-first parents steps (steps * h.0) at at (ap (λ n. up parents n at) (sym e) ∙ all) in
    (f.0, f.2)

-- two of so many are the same, or they all differ
abbrev Meets : (ℕ → ℕ) → ℕ → Type 0
Meets f n = (i : ℕ) × (j : ℕ) × (i < j) × (j < n) × (f i ≡ f j)

abbrev Apart : (ℕ → ℕ) → ℕ → Type 0
Apart f n = (i j : ℕ) → i < j → j < n → f i ≡ f j → ⊥

one_meets : (f : ℕ → ℕ) (x n : ℕ) → ((i : ℕ) × (i < n) × (f i ≡ x)) ⊎ ((i : ℕ) → i < n → f i ≡ x → ⊥)
one_meets f x zero = inr (λ i l e. omega arith)
one_meets f x (suc n) =
    elim (one_meets f x n) [
      | inl m ↦ inl (m.0, omega (arith, m.1), m.2)
      | inr none ↦ elim (cases_eq (f n) x) [
        | inl e ↦ inl (n, omega arith, e)
        | inr ne ↦ inr (λ i l e. elim (cases_eq i n) [ inl same ↦ ne (ap f (sym same) ∙ e) | inr differ ↦ none i (omega arith) e ])
      ]
    ]

meets_or_apart : (f : ℕ → ℕ) (n : ℕ) → Meets f n ⊎ Apart f n
meets_or_apart f zero = inr (λ i j l b e. omega arith)
meets_or_apart f (suc n) =
    elim (meets_or_apart f n) [
      | inl m ↦ inl (m.0, m.1, m.2, omega (arith, m.3), m.4)
      | inr apart ↦ elim (one_meets f (f n) n) [
        | inl m ↦ inl (m.0, n, m.1, omega arith, m.2)
        | inr none ↦ inr (λ i j l b e. elim (cases_eq j n) [ inl same ↦ none i (omega arith) (e ∙ ap f same) | inr differ ↦ apart i j l (omega arith) e ])
      ]
    ]

-- no more numbers differ below a bound than it says
abbrev moved : (ℕ → ℕ) → ℕ → ℕ → ℕ → ℕ
moved f m n i = elim (cases_eq (f i) m) [ inl e ↦ f n | inr ne ↦ f i ]

moved_is : (f : ℕ → ℕ) (m n i : ℕ) → ((f i ≡ m) × (moved f m n i ≡ f n)) ⊎ ((f i ≡ m → ⊥) × (moved f m n i ≡ f i))
moved_is f m n i = elim (cases_eq (f i) m) as (λ c. ((f i ≡ m) × (elim c [ inl e ↦ f n | inr ne ↦ f i ] ≡ f n)) ⊎ ((f i ≡ m → ⊥) × (elim c [ inl e ↦ f n | inr ne ↦ f i ] ≡ f i))) [ inl e ↦ inl (e, refl) | inr ne ↦ inr (ne, refl) ]

few_apart : (n m : ℕ) (f : ℕ → ℕ) → ((i : ℕ) → i < n → f i < m) → Apart f n → n ≤ m
few_apart zero m f into apart = omega arith
few_apart (suc n) zero f into apart = absurd (omega (arith, into n (omega arith)))
few_apart (suc n) (suc m) f into apart = let less = few_apart n m (moved f m n) into_less apart_less in omega arith
  where
    into_less : (i : ℕ) → i < n → moved f m n i < m
    into_less i l =
        let differ = apart i n l (omega arith) in
        let a = into i (omega arith) in
        let b = into n (omega arith) in
        elim (moved_is f m n i) [
          | inl w ↦ elim (cases_eq (f n) m) [ inl e ↦ absurd (differ (w.0 ∙ sym e)) | inr ne ↦ omega (arith, w.1, b, ne) ]
          | inr w ↦ omega (arith, w.1, a, w.0)
        ]

    apart_less : (i j : ℕ) → i < j → j < n → moved f m n i ≡ moved f m n j → ⊥
    apart_less i j l b e =
        elim (moved_is f m n i) [
          | inl v ↦ elim (moved_is f m n j) [
            | inl w ↦ apart i j l (omega arith) (v.0 ∙ sym w.0)
            | inr w ↦ apart j n b (omega arith) (sym w.1 ∙ sym e ∙ v.1)
          ]
          | inr v ↦ elim (moved_is f m n j) [
            | inl w ↦ apart i n (omega arith) (omega arith) (sym v.1 ∙ e ∙ w.1)
            | inr w ↦ apart i j l (omega arith) (sym v.1 ∙ e ∙ w.1)
          ]
        ]

-- what is so many steps above a class; nothing is 0
abbrev value_of : Option ℕ → ℕ
value_of None = 0
value_of (Some one) = one

abbrev above : List (Option ℕ) → ℕ → ℕ → ℕ
above parents below n = value_of (up parents n below)

-- within as many steps as there are classes
abbrev IsNear : List (Option ℕ) → ℕ → Type 0
IsNear parents at = (n : ℕ) × (n < length parents) × (up parents (suc n) at ≡ Some at)

-- more steps than there are classes lead to a class that is its own superclass
far_near : (parents : List (Option ℕ)) (at steps below : ℕ) → length parents < steps → up parents steps below ≡ Some at → IsNear parents at
far_near parents at steps below many h =
    elim (meets_or_apart (above parents below) (suc (length parents))) [
      | inl m ↦ round m.0 m.1 m.2 m.3 m.4
      | inr apart ↦ absurd (omega (arith, few_apart (suc (length parents)) (length parents) (above parents below) (λ i l. into i (omega arith)) apart))
    ]
  where
    reach : (i : ℕ) → i < steps → (one : ℕ) × (up parents i below ≡ Some one) × (up parents (steps - i) one ≡ Some at)
    reach i l =
        let e : steps ≡ steps - i + i = omega arith in
        up-first parents (steps - i) i below at (ap (λ n. up parents n below) (sym e) ∙ h)

    above_is : (i one : ℕ) → up parents i below ≡ Some one → above parents below i ≡ one
    above_is i one e = ap value_of e

    into : (i : ℕ) → i < steps → above parents below i < length parents
    into i l =
        let r = reach i l in
        let e : steps - i ≡ suc (steps - i - 1) = omega arith in
        let w = up_within parents (steps - i - 1) r.0 at (ap (λ n. up parents n r.0) (sym e) ∙ r.2) in
        omega (arith, w, above_is i r.0 r.1)

    round : (i j : ℕ) → i < j → j < suc (length parents) → above parents below i ≡ above parents below j → IsNear parents at
    round i j l b same =
        let r = reach i (omega arith) in
        let s = reach j (omega arith) in
        let one : s.0 ≡ r.0 = sym (above_is j s.0 s.1) ∙ sym same ∙ above_is i r.0 r.1 in
        let back : up parents (steps - j) r.0 ≡ Some at = ap (up parents (steps - j)) (sym one) ∙ s.2 in
        let e : steps - i ≡ (j - i) + (steps - j) = omega arith in
        let k : j - i ≡ suc (j - i - 1) = omega arith in
        (j - i - 1, omega arith, ap (λ n. up parents n at) (sym k) ∙ sym (up-then parents (j - i) (steps - j) r.0 at back) ∙ ap (λ n. up parents n r.0) (sym e) ∙ r.2)

pub far_round : (parents : List (Option ℕ)) (at steps below : ℕ) → length parents < steps → up parents steps below ≡ Some at → IsRound parents at
far_round parents at steps below many h = let near = far_near parents at steps below many h in (near.0, near.2)

-- the classes of a chain are those so many steps up
up_chained : (parents : List (Option ℕ)) (n m class at : ℕ) → m < n → up parents m class ≡ Some at → list_any (λ one. one == at) (chain (entry_of parents) n class) ≡ true
up_chained parents zero m class at l h = absurd (omega arith)
up_chained parents (suc n) zero class at l h = let same : class ≡ at = cc in or_left (class == at) _ (eq-eqb class at same)
up_chained parents (suc n) (suc m) class at l h =
    let e : suc m ≡ m + 1 = omega arith in
    let f = up-first parents m 1 class at (ap (λ k. up parents k class) (sym e) ∙ h) in
    or_right (class == at) _
    (subst (λ o. list_any (λ one. one == at) (option_map_or (λ above. chain (entry_of parents) n above) o []) ≡ true) (sym f.1) (up_chained parents n m f.0 at (omega arith) f.2))

chained_up : (parents : List (Option ℕ)) (n class at : ℕ) → list_any (λ one. one == at) (chain (entry_of parents) n class) ≡ true → (m : ℕ) × (up parents m class ≡ Some at)
chained_up parents zero class at h = absurd (false≢true h)
chained_up parents (suc n) class at h =
    elim (or_cases (class == at) _ h) [
      | inl e ↦ (0, ap (λ k. Some k) (eqb-true class at e))
      | inr more ↦ by (entry_of parents class) refl more (λ above. chained_up parents n above at)
    ]
  where
    by : (o : Option ℕ) → entry_of parents class ≡ o → list_any (λ one. one == at) (option_map_or (λ above. chain (entry_of parents) n above) o []) ≡ true →
        ((above : ℕ) → list_any (λ one. one == at) (chain (entry_of parents) n above) ≡ true → (m : ℕ) × (up parents m above ≡ Some at)) → (m : ℕ) × (up parents m class ≡ Some at)
    by None e k more = absurd (false≢true k)
    by (Some above) e k more = let w = more above k in (w.0 + 1, up-then parents w.0 1 class above e ∙ w.1)

-- a class that comes back to itself is one of its own superclasses, and no other is
round_told : (parents : List (Option ℕ)) (at : ℕ) → IsRound parents at → is_round parents at ≡ true
round_told parents at h =
    let f = round_far parents at (suc (length parents)) h in
    let near = far_near parents at (suc (length parents)) f.0 (omega arith) f.1 in
    let e : suc near.0 ≡ near.0 + 1 = omega arith in
    let g = up-first parents near.0 1 at at (ap (λ k. up parents k at) (sym e) ∙ near.2) in
    subst (λ o. list_any (λ one. one == at) (option_map_or (λ above. chain (entry_of parents) (length parents) above) o []) ≡ true) (sym g.1) (up_chained parents (length parents) near.0 g.0 at near.1 g.2)

pub told_round : (parents : List (Option ℕ)) (at : ℕ) → is_round parents at ≡ true → IsRound parents at
told_round parents at h = by (entry_of parents at) refl h
  where
    by : (o : Option ℕ) → entry_of parents at ≡ o → list_any (λ one. one == at) (option_map_or (λ above. chain (entry_of parents) (length parents) above) o []) ≡ true → IsRound parents at
    by None e k = absurd (false≢true k)
    by (Some above) e k =
        let w = chained_up parents (length parents) above at k in
        let on : suc w.0 ≡ w.0 + 1 = omega arith in
        (w.0, ap (λ n. up parents n at) on ∙ up-then parents w.0 1 at above e ∙ w.1)

pub not_round : (parents : List (Option ℕ)) (at : ℕ) → is_round parents at ≡ false → IsRound parents at → ⊥
not_round parents at none h = false≢true (sym none ∙ round_told parents at h)

-- twice as far up
entry_along : (f : ℕ → Option ℕ) (entries : List (Option ℕ)) (at : ℕ) → entry_of (map (λ entry. option_and_then f entry) entries) at ≡ option_and_then f (entry_of entries at)
entry_along f [] at = refl
entry_along f (entry ∷ entries) zero = refl
entry_along f (entry ∷ entries) (suc at) = entry_along f entries at

pub twice_up : (parents jumps : List (Option ℕ)) (steps : ℕ) → ((at : ℕ) → entry_of jumps at ≡ up parents steps at) → (at : ℕ) → entry_of (map (λ jump. option_and_then (entry_of jumps) jump) jumps) at ≡ up parents (steps * 2) at
twice_up parents jumps steps h at =
    let e : steps * 2 ≡ steps + steps = omega arith in
    entry_along (entry_of jumps) jumps at
    ∙ ap (option_and_then (entry_of jumps)) (h at)
    ∙ along (up parents steps at)
    ∙ sym (up-add parents steps steps at)
    ∙ ap (λ n. up parents n at) (sym e)
  where
    along : (o : Option ℕ) → option_and_then (entry_of jumps) o ≡ option_and_then (up parents steps) o
    along None = refl
    along (Some one) = h one

-- those that are reported are those that were, and those that the jumps lead to
round_kept : (rounds : List Bool) (at one : ℕ) → get_or rounds one false ≡ true → get_or (set rounds at true) one false ≡ true
round_kept [] at one h = h
round_kept (round ∷ rounds) zero zero h = refl
round_kept (round ∷ rounds) zero (suc one) h = h
round_kept (round ∷ rounds) (suc at) zero h = h
round_kept (round ∷ rounds) (suc at) (suc one) h = round_kept rounds at one h

all_kept : (rounds : List Bool) (jumps : List (Option ℕ)) (one : ℕ) → get_or rounds one false ≡ true → get_or (all_rounds rounds jumps) one false ≡ true
all_kept rounds [] one h = h
all_kept rounds (None ∷ jumps) one h = all_kept rounds jumps one h
all_kept rounds (Some at ∷ jumps) one h = all_kept (set rounds at true) jumps one (round_kept rounds at one h)

round_to : (rounds : List Bool) (jumps : List (Option ℕ)) (k at : ℕ) → at < length rounds → entry_of jumps k ≡ Some at → get_or (all_rounds rounds jumps) at false ≡ true
round_to rounds [] k at below h = cc
round_to rounds (None ∷ jumps) zero at below h = cc
round_to rounds (Some one ∷ jumps) zero at below h =
    let same : one ≡ at = cc in
    all_kept (set rounds one true) jumps at (subst (λ n. get_or (set rounds n true) at false ≡ true) (sym same) (get_or-set_same rounds at true false below))
round_to rounds (None ∷ jumps) (suc k) at below h = round_to rounds jumps k at below h
round_to rounds (Some one ∷ jumps) (suc k) at below h =
    let longer : at < length (set rounds one true) = omega (arith, length-set rounds one true) in
    round_to (set rounds one true) jumps k at longer h

round_from : (rounds : List Bool) (jumps : List (Option ℕ)) (at : ℕ) → get_or (all_rounds rounds jumps) at false ≡ true → (get_or rounds at false ≡ true) ⊎ ((k : ℕ) × (entry_of jumps k ≡ Some at))
round_from rounds [] at h = inl h
round_from rounds (None ∷ jumps) at h = elim (round_from rounds jumps at h) [ inl was ↦ inl was | inr k ↦ inr (suc k.0, k.1) ]
round_from rounds (Some one ∷ jumps) at h =
    elim (round_from (set rounds one true) jumps at h) [
      | inl was ↦ elim (cases_eq at one) [
        | inl same ↦ inr (0, ap (λ n. Some n) (sym same))
        | inr differ ↦ inl (sym (get_or-set_other rounds one at true false differ) ∙ was)
      ]
      | inr k ↦ inr (suc k.0, k.1)
    ]

none_yet : (n at : ℕ) → get_or (replicate n false) at false ≡ true → ⊥
none_yet zero at h = false≢true h
none_yet (suc n) zero h = false≢true h
none_yet (suc n) (suc at) h = none_yet n at h

same_truth : (a b : Bool) → (a ≡ true → b ≡ true) → (b ≡ true → a ≡ true) → a ≡ b
same_truth true b f g = sym (f refl)
same_truth false true f g = g refl
same_truth false false f g = refl

pub rounds_tell : (parents jumps : List (Option ℕ)) (steps : ℕ) → length parents < steps → ((at : ℕ) → entry_of jumps at ≡ up parents steps at) → (at : ℕ) → get_or (all_rounds (replicate (length parents) false) jumps) at false ≡ is_round parents at
rounds_tell parents jumps steps many h at = same_truth _ _ (λ m. round_told parents at (there m)) (λ r. back (told_round parents at r))
  where
    there : get_or (all_rounds (replicate (length parents) false) jumps) at false ≡ true → IsRound parents at
    there m = elim (round_from (replicate (length parents) false) jumps at m) [
      | inl was ↦ absurd (none_yet (length parents) at was)
      | inr k ↦ far_round parents at steps k.0 many (sym (h k.0) ∙ k.1)
    ]

    back : IsRound parents at → get_or (all_rounds (replicate (length parents) false) jumps) at false ≡ true
    back r =
        let f = round_far parents at steps r in
        let below : at < length (replicate (length parents) false) = omega (arith, up_within parents r.0 at at r.1, length-replicate (length parents) false) in
        round_to (replicate (length parents) false) jumps f.0 at below (h f.0 ∙ f.1)
