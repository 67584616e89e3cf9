-- Marking goes on until nothing is left that leads to something marked.
use Rattle.std.proofs.Common.{◌≡◌, ℕ, zero, suc, ◌+◌, ◌<◌, ◌≤◌, Bool, true, false, ◌&&◌, ◌||◌, ◌==◌, cond, List, [], ◌∷◌, ◌++◌, length, get_or, set, ◌⊎◌, inl, inr, refl, sym, ap, ◌∙◌, subst, arith, append_assoc, length-set, get_or-set_same, get_or-set_other}
use Rattle.std.specs.List.{list_any, count_by}
use Rattle.std.proofs.lemmas.Bool.{false≢true, cases_Bool, cases_eq, cases_lt, or_cases, or_left, or_right, eqb-true, eq-eqb}
use Rattle.std.proofs.lemmas.List.{get_or_default, get_or_past, length_push, nil_from_length}
use Rattle.std.proofs.lemmas.List.Folds.{list_any-append}
use Rattle.std.proofs.lemmas.List.Sums.{sum_by-set, sum_by-cons, count_by-le-length}
use Rattle.decl_reach.specs.declared.reach.Edge.{Edge}
use Rattle.decl_reach.specs.Reach.{is_marked, reaching}
use Rattle.decl_reach.specs.Marking.{sources, with_source, places_from, all_marked, all_added}
use Rattle.decl_reach.proofs.Reaching.{leads, IsAfter, marked_within, reaching_is}
use Rattle.decl_reach.proofs.Reaching.IsAfter.{itself, before}

abbrev pub among : List ℕ → ℕ → Bool
among xs at = list_any (λ x. x == at) xs

abbrev pub marks_of : List Bool → ℕ
marks_of marks = count_by (λ mark. mark) marks

-- what leads to a position is what its edges say
pub leads_sources : (edges : List Edge) (from to : ℕ) → leads edges from to ≡ among (sources edges to) from
leads_sources [] from to = refl
leads_sources (edge ∷ edges) from to =
    let more = leads_sources edges from to in
    elim (edge.to == to) as (λ b. ((edge.from == from) && b) || leads edges from to ≡ among (cond b (edge.from ∷ sources edges to) (sources edges to)) from) [
      | true ↦ elim (edge.from == from) as (λ c. (c && true) || leads edges from to ≡ c || among (sources edges to) from) [ true ↦ refl | false ↦ more ]
      | false ↦ elim (edge.from == from) as (λ c. (c && false) || leads edges from to ≡ among (sources edges to) from) [ true ↦ more | false ↦ more ]
    ]

-- a further edge, and those after it
pub source_step : (made : List (List ℕ)) (edge : Edge) (edges : List Edge) (to : ℕ) → to < length made → get_or (with_source made edge) to [] ++ sources edges to ≡ get_or made to [] ++ sources (edge ∷ edges) to
source_step made edge edges to below =
    elim (cases_eq edge.to to) [
      | inl e ↦ here e
      | inr n ↦ ap (λ xs. xs ++ sources edges to) (get_or-set_other made edge.to to (get_or made edge.to [] ++ edge.from ∷ []) [] (λ e. n (sym e)))
          ∙ ap (λ b. get_or made to [] ++ cond b (edge.from ∷ sources edges to) (sources edges to)) (sym (apart n))
    ]
  where
    apart : (edge.to ≡ to → ⊥) → (edge.to == to) ≡ false
    apart n = elim (cases_Bool (edge.to == to)) [ inl t ↦ absurd (n (eqb-true edge.to to t)) | inr f ↦ f ]

    here : edge.to ≡ to → get_or (with_source made edge) to [] ++ sources edges to ≡ get_or made to [] ++ sources (edge ∷ edges) to
    here e =
        ap (λ k. get_or (set made k (get_or made k [] ++ edge.from ∷ [])) to [] ++ sources edges to) e
        ∙ ap (λ xs. xs ++ sources edges to) (get_or-set_same made to (get_or made to [] ++ edge.from ∷ []) [] below)
        ∙ append_assoc (get_or made to []) (edge.from ∷ []) (sources edges to)
        ∙ ap (λ b. get_or made to [] ++ cond b (edge.from ∷ sources edges to) (sources edges to)) (sym (eq-eqb edge.to to e))

length-with_source : (made : List (List ℕ)) (edge : Edge) → length (with_source made edge) ≡ length made
length-with_source made edge = length-set made edge.to (get_or made edge.to [] ++ edge.from ∷ [])

pub among_push : (xs : List ℕ) (x at : ℕ) → among (xs ++ x ∷ []) at ≡ (among xs at || ((x == at) || false))
among_push xs x at = list_any-append (λ y. y == at) xs (x ∷ [])

pub among_kept : (xs : List ℕ) (x at : ℕ) → among xs at ≡ true → among (xs ++ x ∷ []) at ≡ true
among_kept xs x at h = among_push xs x at ∙ or_left (among xs at) _ h

pub among_last : (xs : List ℕ) (x at : ℕ) → x ≡ at → among (xs ++ x ∷ []) at ≡ true
among_last xs x at e = among_push xs x at ∙ or_right (among xs at) _ (or_left (x == at) false (eq-eqb x at e))

pub among_cases : (xs : List ℕ) (x at : ℕ) → among (xs ++ x ∷ []) at ≡ true → (among xs at ≡ true) ⊎ (x ≡ at)
among_cases xs x at h =
    elim (or_cases (among xs at) ((x == at) || false) (sym (among_push xs x at) ∙ h)) [
      | inl m ↦ inl m
      | inr l ↦ elim (or_cases (x == at) false l) [ inl e ↦ inr (eqb-true x at e) | inr f ↦ absurd (false≢true f) ]
    ]

set_here : (marks : List Bool) (at : ℕ) → at < length marks → is_marked (set marks at true) at ≡ true
set_here marks at below = get_or-set_same marks at true false below

set_kept : (marks : List Bool) (at other : ℕ) → is_marked marks other ≡ true → is_marked (set marks at true) other ≡ true
set_kept marks at other m =
    elim (cases_eq other at) [
      | inl e ↦ subst (λ k. is_marked (set marks at true) k ≡ true) (sym e) (set_here marks at (subst (λ k. k < length marks) e (marked_within marks other m)))
      | inr n ↦ get_or-set_other marks at other true false n ∙ m
    ]

-- so far: what is marked is after what was marked first, and what leads to something marked is marked too, or its
-- turn is still to come
pub record Marking (first : List Bool) (edges : List Edge) (marks : List Bool) (pending : List ℕ) (taken to : ℕ) (rest : List ℕ) : Type 0 where
  pub same_length : length marks ≡ length first
  pub sound : (at : ℕ) → is_marked marks at ≡ true → IsAfter first edges at
  pub kept : (at : ℕ) → is_marked first at ≡ true → is_marked marks at ≡ true
  pub noted : (at : ℕ) → among pending at ≡ true → is_marked marks at ≡ true
  pub closed : (at next : ℕ) → leads edges at next ≡ true → is_marked marks next ≡ true → at < length first → (is_marked marks at ≡ true) ⊎ ((among pending next ≡ true) ⊎ ((next ≡ to) × (among rest at ≡ true)))
  pub following : (at : ℕ) → among rest at ≡ true → at < length first → IsAfter first edges at
  pub counted : taken + length pending ≡ marks_of marks

place_there : (from : ℕ) (marks : List Bool) (k : ℕ) → is_marked marks k ≡ true → among (places_from from marks) (from + k) ≡ true
place_there from [] k m = absurd (false≢true m)
place_there from (true ∷ marks) zero m = or_left _ _ (eq-eqb from (from + 0) (omega arith))
place_there from (false ∷ marks) zero m = absurd (false≢true m)
place_there from (true ∷ marks) (suc k) m =
    let e : from + 1 + k ≡ from + suc k = omega arith in
    or_right _ _ (subst (λ at. among (places_from (from + 1) marks) at ≡ true) e (place_there (from + 1) marks k m))
place_there from (false ∷ marks) (suc k) m =
    let e : from + 1 + k ≡ from + suc k = omega arith in
    subst (λ at. among (places_from (from + 1) marks) at ≡ true) e (place_there (from + 1) marks k m)

place_marked : (from : ℕ) (marks : List Bool) (at : ℕ) → among (places_from from marks) at ≡ true → (k : ℕ) × (at ≡ from + k) × (is_marked marks k ≡ true)
place_marked from [] at h = absurd (false≢true h)
place_marked from (true ∷ marks) at h =
    elim (or_cases (from == at) _ h) [
      | inl e ↦ (0, omega (arith, eqb-true from at e), refl)
      | inr l ↦ let p = place_marked (from + 1) marks at l in (suc p.0, omega (arith, p.1), p.2)
    ]
place_marked from (false ∷ marks) at h = let p = place_marked (from + 1) marks at h in (suc p.0, omega (arith, p.1), p.2)

places_count : (from : ℕ) (marks : List Bool) → length (places_from from marks) ≡ marks_of marks
places_count from [] = refl
places_count from (true ∷ marks) =
    let more = places_count (from + 1) marks in
    omega (arith, more, sum_by-cons (λ (mark : Bool). cond mark 1 0) true marks)
places_count from (false ∷ marks) =
    let more = places_count (from + 1) marks in
    omega (arith, more, sum_by-cons (λ (mark : Bool). cond mark 1 0) false marks)

-- at the beginning all that is marked is to come
pub begun : (first : List Bool) (edges : List Edge) → Marking first edges first (places_from 0 first) 0 0 []
begun first edges = record {
  same_length = refl;
  sound = λ at m. itself at m;
  kept = λ at m. m;
  noted = λ at h. let p = place_marked 0 first at h in
      let e : p.0 ≡ at = omega (arith, p.1) in
      subst (λ k. is_marked first k ≡ true) e p.2;
  closed = λ at next l m below. let e : 0 + next ≡ next = omega arith in
      inr (inl (subst (λ k. among (places_from 0 first) k ≡ true) e (place_there 0 first next m)));
  following = λ at h below. absurd (false≢true h);
  counted = omega (arith, places_count 0 first);
}

-- the turn of one has come
taken_on : {first : List Bool} {edges : List Edge} {marks : List Bool} {taken last : ℕ} (pending : List ℕ) (to : ℕ) → Marking first edges marks (pending ++ to ∷ []) taken last [] → Marking first edges marks pending (taken + 1) to (sources edges to)
taken_on {first = first} {edges = edges} {marks = marks} {taken = taken} {last = last} pending to h = record {
  same_length = h.same_length;
  sound = h.sound;
  kept = h.kept;
  noted = λ at p. h.noted at (among_kept pending to at p);
  closed = λ at next l m below. elim (h.closed at next l m below) [
    | inl k ↦ inl k
    | inr o ↦ elim o [
      | inl p ↦ elim (among_cases pending to next p) [
        | inl q ↦ inr (inl q)
        | inr e ↦ inr (inr (sym e, subst (λ k. among (sources edges k) at ≡ true) (sym e) (sym (leads_sources edges at next) ∙ l)))
      ]
      | inr r ↦ absurd (false≢true r.1)
    ]
  ];
  following = λ at s below. before at to below (leads_sources edges at to ∙ s) (h.sound to (h.noted to (among_last pending to to refl)));
  counted = omega (arith, h.counted, length_push pending to);
}

-- one that leads there is marked, and noted where it wasn't
one_marked : {first : List Bool} {edges : List Edge} {marks : List Bool} {pending : List ℕ} {taken to at : ℕ} {rest : List ℕ} → Marking first edges marks pending taken to (at ∷ rest) → (b : Bool) → get_or marks at true ≡ b → Marking first edges (cond b marks (set marks at true)) (cond b pending (pending ++ at ∷ [])) taken to rest
one_marked {first = first} {edges = edges} {marks = marks} {pending = pending} {taken = taken} {to = to} {at = at} {rest = rest} h true e = record {
  same_length = h.same_length;
  sound = h.sound;
  kept = h.kept;
  noted = h.noted;
  closed = λ one next l m below. elim (h.closed one next l m below) [
    | inl k ↦ inl k
    | inr o ↦ elim o [
      | inl p ↦ inr (inl p)
      | inr r ↦ elim (or_cases (at == one) _ r.1) [
        | inl same ↦
            let here : one < length marks = omega (arith, h.same_length, below) in
            inl (get_or_default marks one false true here ∙ subst (λ k. get_or marks k true ≡ true) (eqb-true at one same) e)
        | inr more ↦ inr (inr (r.0, more))
      ]
    ]
  ];
  following = λ one r below. h.following one (or_right (at == one) _ r) below;
  counted = h.counted;
}
one_marked {first = first} {edges = edges} {marks = marks} {pending = pending} {taken = taken} {to = to} {at = at} {rest = rest} h false e =
    let within : at < length marks = elim (cases_lt at (length marks)) [ inl lt ↦ lt | inr ge ↦ absurd (false≢true (sym e ∙ get_or_past marks at true ge)) ] in
    record {
      same_length = length-set marks at true ∙ h.same_length;
      sound = λ one m. elim (cases_eq one at) [
        | inl same ↦ h.following one (or_left (at == one) _ (eq-eqb at one (sym same))) (omega (arith, h.same_length, within, same))
        | inr differ ↦ h.sound one (sym (get_or-set_other marks at one true false differ) ∙ m)
      ];
      kept = λ one m. set_kept marks at one (h.kept one m);
      noted = λ one p. elim (among_cases pending at one p) [
        | inl q ↦ set_kept marks at one (h.noted one q)
        | inr same ↦ subst (λ k. is_marked (set marks at true) k ≡ true) same (set_here marks at within)
      ];
      closed = λ one next l m below. elim (cases_eq next at) [
        | inl same ↦ inr (inl (among_last pending at next (sym same)))
        | inr differ ↦ elim (h.closed one next l (sym (get_or-set_other marks at next true false differ) ∙ m) below) [
          | inl k ↦ inl (set_kept marks at one k)
          | inr o ↦ elim o [
            | inl p ↦ inr (inl (among_kept pending at next p))
            | inr r ↦ elim (or_cases (at == one) _ r.1) [
              | inl same ↦ inl (subst (λ k. is_marked (set marks at true) k ≡ true) (eqb-true at one same) (set_here marks at within))
              | inr more ↦ inr (inr (r.0, more))
            ]
          ]
        ]
      ];
      following = λ one r below. h.following one (or_right (at == one) _ r) below;
      counted =
          let was : ◌≡◌ {A = ℕ} (cond (get_or marks at true) 1 0) 0 = ap (λ b. cond b 1 0) e in
          omega (arith, h.counted, length_push pending at, was, sum_by-set (λ (mark : Bool). cond mark 1 0) marks at true true within);
    }

each_marked : {first : List Bool} {edges : List Edge} {marks : List Bool} {pending : List ℕ} {taken to : ℕ} (rest : List ℕ) → Marking first edges marks pending taken to rest → Marking first edges (all_marked marks rest) (all_added marks pending rest) taken to []
each_marked [] h = h
each_marked {marks = marks} (at ∷ rest) h = each_marked rest (one_marked h (get_or marks at true) refl)

-- where nothing is left of its sources, it doesn't matter of what they were
settled : {first : List Bool} {edges : List Edge} {marks : List Bool} {pending : List ℕ} {taken to : ℕ} → Marking first edges marks pending taken to [] → Marking first edges marks pending taken 0 []
settled h = record {
  same_length = h.same_length;
  sound = h.sound;
  kept = h.kept;
  noted = h.noted;
  closed = λ at next l m below. elim (h.closed at next l m below) [
    | inl k ↦ inl k
    | inr o ↦ elim o [ inl p ↦ inr (inl p) | inr r ↦ absurd (false≢true r.1) ]
  ];
  following = h.following;
  counted = h.counted;
}

-- one is taken from the list, and what leads to it is marked
pub turn : {first : List Bool} {edges : List Edge} {marks : List Bool} {taken : ℕ} (pending : List ℕ) (to : ℕ) → Marking first edges marks (pending ++ to ∷ []) taken 0 [] → Marking first edges (all_marked marks (sources edges to)) (all_added marks pending (sources edges to)) (taken + 1) 0 []
turn {edges = edges} pending to h = settled (each_marked (sources edges to) (taken_on pending to h))

pub turn_within : {first : List Bool} {edges : List Edge} {marks : List Bool} {taken : ℕ} (pending : List ℕ) (to : ℕ) → Marking first edges marks (pending ++ to ∷ []) taken 0 [] → to < length first
turn_within {marks = marks} pending to h =
    omega (arith, h.same_length, marked_within marks to (h.noted to (among_last pending to to refl)))

-- nothing is left: what is marked is what reaches something that was marked first
pub done : {first : List Bool} {edges : List Edge} {marks : List Bool} {taken : ℕ} → Marking first edges marks [] taken 0 [] → marks ≡ reaching edges first
done {first = first} {edges = edges} {marks = marks} h = reaching_is edges first marks h.same_length (λ at. (h.sound at, reached))
  where
    reached : {one : ℕ} → IsAfter first edges one → is_marked marks one ≡ true
    reached (itself one m) = h.kept one m
    reached (before one next below l r) = elim (h.closed one next l (reached r) below) [
      | inl k ↦ k
      | inr o ↦ elim o [ inl p ↦ absurd (false≢true p) | inr r ↦ absurd (false≢true r.1) ]
    ]

-- each had its turn
pub all_taken : {first : List Bool} {edges : List Edge} {marks : List Bool} {pending : List ℕ} {taken : ℕ} → Marking first edges marks pending taken 0 [] → length first ≤ taken → pending ≡ []
all_taken {marks = marks} {pending = pending} h all =
    let none : length pending ≡ 0 = omega (arith, h.same_length, h.counted, count_by-le-length (λ (mark : Bool). mark) marks) in
    nil_from_length pending none
