-- What reaches something that is marked, said of chains one by one.
use Rattle.std.proofs.Common.{◌≡◌, ◌↔◌, ℕ, zero, suc, ◌<◌, ◌≤◌, Bool, true, false, ◌&&◌, ◌||◌, ◌==◌, List, [], ◌∷◌, length, ◌⊎◌, inl, inr, refl, sym, ap, ◌∙◌, arith}
use Rattle.std.specs.List.{list_any}
use Rattle.std.proofs.lemmas.Bool.{false≢true, and_from, and_parts, or_cases, or_left, or_right, eqb-true, eq-eqb}
use Rattle.std.proofs.lemmas.List.FromFn.{get_or-map-range_with_len, length-map-range_with_len}
use Rattle.decl_reach.specs.declared.reach.Edge.{Edge}
use Rattle.decl_reach.specs.Reach.{is_marked, leads_on, spread, spread_by, reaching}

-- an edge leads from the first to the second
abbrev pub leads : List Edge → ℕ → ℕ → Bool
leads edges from to = list_any (λ edge. (edge.from == from) && (edge.to == to)) edges

-- it is marked itself, or an edge leads from it to one that is so
pub data IsAfter (marks : List Bool) (edges : List Edge) : ℕ → Type 0 where
  itself : (at : ℕ) → is_marked marks at ≡ true → IsAfter marks edges at
  before : (at next : ℕ) → at < length marks → leads edges at next ≡ true → IsAfter marks edges next → IsAfter marks edges at

-- what is marked stands within the marks
pub marked_within : (marks : List Bool) (at : ℕ) → is_marked marks at ≡ true → at < length marks
marked_within [] at m = absurd (false≢true m)
marked_within (mark ∷ marks) zero m = omega arith
marked_within (mark ∷ marks) (suc at) m = let h = marked_within marks at m in omega arith

-- the edge that leads on
led_from : (edges : List Edge) (marks : List Bool) (at : ℕ) → leads_on edges marks at ≡ true → (next : ℕ) × (leads edges at next ≡ true) × (is_marked marks next ≡ true)
led_from [] marks at h = absurd (false≢true h)
led_from (edge ∷ edges) marks at h =
    elim (or_cases ((edge.from == at) && is_marked marks edge.to) _ h) [
      | inl here ↦
          let w = and_parts (edge.from == at) (is_marked marks edge.to) here in
          (edge.to, or_left ((edge.from == at) && (edge.to == edge.to)) _ (and_from (edge.from == at) (edge.to == edge.to) w.0 (eq-eqb edge.to edge.to refl)), w.1)
      | inr more ↦ let w = led_from edges marks at more in (w.0, or_right ((edge.from == at) && (edge.to == w.0)) _ w.1, w.2)
    ]

leads_there : (edges : List Edge) (marks : List Bool) (at next : ℕ) → leads edges at next ≡ true → is_marked marks next ≡ true → leads_on edges marks at ≡ true
leads_there [] marks at next h m = h
leads_there (edge ∷ edges) marks at next h m =
    elim (or_cases ((edge.from == at) && (edge.to == next)) _ h) [
      | inl here ↦
          let w = and_parts (edge.from == at) (edge.to == next) here in
          or_left ((edge.from == at) && is_marked marks edge.to) _ (and_from (edge.from == at) (is_marked marks edge.to) w.0 (ap (is_marked marks) (eqb-true edge.to next w.1) ∙ m))
      | inr more ↦ or_right ((edge.from == at) && is_marked marks edge.to) _ (leads_there edges marks at next more m)
    ]

-- once more
length_spread : (edges : List Edge) (marks : List Bool) → length (spread edges marks) ≡ length marks
length_spread edges marks = length-map-range_with_len (λ at. is_marked marks at || leads_on edges marks at) 0 (length marks)

spread_at : (edges : List Edge) (marks : List Bool) (at : ℕ) → at < length marks → is_marked (spread edges marks) at ≡ (is_marked marks at || leads_on edges marks at)
spread_at edges marks at l = get_or-map-range_with_len (λ one. is_marked marks one || leads_on edges marks one) 0 (length marks) at at false l (omega arith)

spread_kept : (edges : List Edge) (marks : List Bool) (at : ℕ) → is_marked marks at ≡ true → is_marked (spread edges marks) at ≡ true
spread_kept edges marks at m = spread_at edges marks at (marked_within marks at m) ∙ or_left (is_marked marks at) (leads_on edges marks at) m

module _ (edges : List Edge) (first : List Bool)
  where
    by_length : (n : ℕ) → length (spread_by n edges first) ≡ length first
    by_length zero = refl
    by_length (suc n) = length_spread edges (spread_by n edges first) ∙ by_length n

    by_kept : (n at : ℕ) → is_marked first at ≡ true → is_marked (spread_by n edges first) at ≡ true
    by_kept zero at m = m
    by_kept (suc n) at m = spread_kept edges (spread_by n edges first) at (by_kept n at m)

    -- what is marked is after what was marked first
    by_after : (n at : ℕ) → is_marked (spread_by n edges first) at ≡ true → IsAfter first edges at
    by_after zero at m = itself at m
    by_after (suc n) at m =
        let marks = spread_by n edges first in
        let l : at < length marks = omega (arith, marked_within (spread edges marks) at m, length_spread edges marks) in
        elim (or_cases (is_marked marks at) (leads_on edges marks at) (sym (spread_at edges marks at l) ∙ m)) [
          | inl was ↦ by_after n at was
          | inr led ↦
              let w = led_from edges marks at led in
              before at w.0 (omega (arith, l, by_length n)) w.1 (by_after n w.0 w.2)
        ]

    -- where all that leads on is marked, what is after is marked
    after_marked : (marks : List Bool) → ((at : ℕ) → is_marked first at ≡ true → is_marked marks at ≡ true) → length marks ≡ length first
        → ((at : ℕ) → at < length marks → leads_on edges marks at ≡ true → is_marked marks at ≡ true) → {at : ℕ} → IsAfter first edges at → is_marked marks at ≡ true
    after_marked marks kept same closed (itself at m) = kept at m
    after_marked marks kept same closed (before at next l led more) =
        closed at (omega (arith, l, same)) (leads_there edges marks at next led (after_marked marks kept same closed more))

-- how many are marked
abbrev many : List Bool → ℕ
many [] = 0
many (true ∷ marks) = suc (many marks)
many (false ∷ marks) = many marks

few : (marks : List Bool) → many marks ≤ length marks
few [] = omega arith
few (true ∷ marks) = let h = few marks in omega arith
few (false ∷ marks) = let h = few marks in omega arith

all_marked : (marks : List Bool) (at : ℕ) → length marks ≤ many marks → at < length marks → is_marked marks at ≡ true
all_marked [] at h l = absurd (omega arith)
all_marked (true ∷ marks) zero h l = refl
all_marked (true ∷ marks) (suc at) h l = all_marked marks at (omega arith) (omega arith)
all_marked (false ∷ marks) at h l = absurd (omega (arith, few marks))

-- where none is lost, there are more or they are the same
same_or_more : (a b : List Bool) → length a ≡ length b → ((at : ℕ) → is_marked a at ≡ true → is_marked b at ≡ true) → (a ≡ b) ⊎ (many a < many b)
same_or_more [] [] same kept = inl refl
same_or_more [] (y ∷ b) same kept = absurd (omega (arith, same))
same_or_more (x ∷ a) [] same kept = absurd (omega (arith, same))
same_or_more (x ∷ a) (y ∷ b) same kept = by x y (kept 0) (same_or_more a b (omega (arith, same)) (λ at. kept (suc at)))
  where
    by : (x y : Bool) → (x ≡ true → y ≡ true) → (a ≡ b) ⊎ (many a < many b) → (x ∷ a ≡ y ∷ b) ⊎ (many (x ∷ a) < many (y ∷ b))
    by true true here (inl e) = inl (ap (λ more. true ∷ more) e)
    by true true here (inr l) = inr (omega arith)
    by true false here more = absurd (false≢true (here refl))
    by false true here (inl e) = inr (omega (arith, ap many e))
    by false true here (inr l) = inr (omega arith)
    by false false here (inl e) = inl (ap (λ more. false ∷ more) e)
    by false false here (inr l) = inr l

-- after so many times nothing changes any more, or so many are marked
settled_or_many : (edges : List Edge) (first : List Bool) (n : ℕ) → (spread_by n edges first ≡ spread_by (suc n) edges first) ⊎ (n ≤ many (spread_by n edges first))
settled_or_many edges first zero = inr (omega arith)
settled_or_many edges first (suc n) =
    elim (settled_or_many edges first n) [
      | inl same ↦ inl (ap (spread edges) same)
      | inr enough ↦ elim (same_or_more marks (spread edges marks) (sym (length_spread edges marks)) (spread_kept edges marks)) [
        | inl same ↦ inl (ap (spread edges) same)
        | inr more ↦ inr (omega (arith, enough, more))
      ]
    ]
  where
    marks : List Bool
    marks = spread_by n edges first

pub length_reaching : (edges : List Edge) (marks : List Bool) → length (reaching edges marks) ≡ length marks
length_reaching edges marks = by_length edges marks (length marks)

pub reaching_after : (edges : List Edge) (marks : List Bool) (at : ℕ) → (is_marked (reaching edges marks) at ≡ true) ↔ IsAfter marks edges at
reaching_after edges first at = (by_after edges first (length first) at, after_marked edges first marks (by_kept edges first (length first)) (length_reaching edges first) closed)
  where
    marks : List Bool
    marks = reaching edges first

    closed : (one : ℕ) → one < length marks → leads_on edges marks one ≡ true → is_marked marks one ≡ true
    closed one l led = elim (settled_or_many edges first (length first)) [
      | inl same ↦ ap (λ all. is_marked all one) same ∙ spread_at edges marks one l ∙ or_right (is_marked marks one) (leads_on edges marks one) led
      | inr enough ↦ all_marked marks one (omega (arith, enough, length_reaching edges first)) l
    ]

-- marks that are the same one by one
marks_same : (a b : List Bool) → length a ≡ length b → ((at : ℕ) → (is_marked a at ≡ true) ↔ (is_marked b at ≡ true)) → a ≡ b
marks_same [] [] same each = refl
marks_same [] (y ∷ b) same each = absurd (omega (arith, same))
marks_same (x ∷ a) [] same each = absurd (omega (arith, same))
marks_same (x ∷ a) (y ∷ b) same each =
    ap (λ one. one ∷ a) (truth x y (each 0).0 (each 0).1) ∙ ap (λ more. y ∷ more) (marks_same a b (omega (arith, same)) (λ at. each (suc at)))
  where
    truth : (x y : Bool) → (x ≡ true → y ≡ true) → (y ≡ true → x ≡ true) → x ≡ y
    truth true y f g = sym (f refl)
    truth false true f g = g refl
    truth false false f g = refl

pub reaching_is : (edges : List Edge) (first marks : List Bool) → length marks ≡ length first → ((at : ℕ) → (is_marked marks at ≡ true) ↔ IsAfter first edges at) → marks ≡ reaching edges first
reaching_is edges first marks same each =
    marks_same marks (reaching edges first) (same ∙ sym (length_reaching edges first))
    (λ at. (λ m. (reaching_after edges first at).1 ((each at).0 m), λ m. (each at).1 ((reaching_after edges first at).0 m)))
