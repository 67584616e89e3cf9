-- What is left of a way, where some of its steps are still to be taken, the last first.
use Rattle.std.proofs.Common.{◌≡◌, ℕ, zero, suc, ◌+◌, ◌<◌, true, false, List, [], ◌∷◌, ◌++◌, length, get_or, drop, Option, Some, None, is_some, refl, sym, ap, subst, ◌∙◌, append_assoc}
use Rattle.std.proofs.lemmas.List.{drop_more}
use Rattle.decl_headers.specs.declared.forest.Step.{Step}
use Rattle.decl_headers.specs.declared.forest.Step.TheVariants as step
use Rattle.decl_headers.specs.Numbers.{as_number}
use Rattle.decl_headers.specs.Way.{extending, roots, last_first, walk, walks, Each, IsEnded, entered_below, following}

abbrev pub part_of : List (List ℕ) → ℕ → Step → List Step
part_of lists n (step.Enter class) = walk lists n class
part_of lists n (step.Leave class) = step.Leave class ∷ []

abbrev pub left_of : List (List ℕ) → ℕ → List Step → List Step
left_of lists n [] = []
left_of lists n (s ∷ pending) = left_of lists n pending ++ part_of lists n s

abbrev pub Ended : List (List ℕ) → ℕ → Step → Type 0
Ended lists n (step.Enter class) = IsEnded lists n class
Ended lists n (step.Leave class) = Unit {0}

abbrev pub AllEnded : List (List ℕ) → ℕ → List Step → Type 0
AllEnded lists n [] = Unit {0}
AllEnded lists n (s ∷ pending) = Ended lists n s × AllEnded lists n pending

append-nil : (zs : List Step) → zs ++ [] ≡ zs
append-nil [] = refl
append-nil (z ∷ zs) = ap (λ r. z ∷ r) (append-nil zs)

pub left-append : (lists : List (List ℕ)) (n : ℕ) (xs ys : List Step) → left_of lists n (xs ++ ys) ≡ left_of lists n ys ++ left_of lists n xs
left-append lists n [] ys = sym (append-nil (left_of lists n ys))
left-append lists n (x ∷ xs) ys =
    ap (λ r. r ++ part_of lists n x) (left-append lists n xs ys) ∙ append_assoc (left_of lists n ys) (left_of lists n xs) (part_of lists n x)

pub ended-append : (lists : List (List ℕ)) (n : ℕ) (xs ys : List Step) → AllEnded lists n xs → AllEnded lists n ys → AllEnded lists n (xs ++ ys)
ended-append lists n [] ys h k = k
ended-append lists n (x ∷ xs) ys h k = (h.0, ended-append lists n xs ys h.1 k)

pub ended-first : (lists : List (List ℕ)) (n : ℕ) (xs ys : List Step) → AllEnded lists n (xs ++ ys) → AllEnded lists n xs
ended-first lists n [] ys h = tt
ended-first lists n (x ∷ xs) ys h = (h.0, ended-first lists n xs ys h.1)

pub ended-last : (lists : List (List ℕ)) (n : ℕ) (xs ys : List Step) → AllEnded lists n (xs ++ ys) → AllEnded lists n ys
ended-last lists n [] ys h = h
ended-last lists n (x ∷ xs) ys h = ended-last lists n xs ys h.1

-- what ends so deep ends a step deeper, in the same way
each-map : (P Q : ℕ → Type 0) (classes : List ℕ) → ((class : ℕ) → P class → Q class) → Each P classes → Each Q classes
each-map P Q [] f h = tt
each-map P Q (class ∷ classes) f h = (f class h.0, each-map P Q classes f h.1)

pub ended-deeper : (lists : List (List ℕ)) (n class : ℕ) → IsEnded lists n class → IsEnded lists (suc n) class
ended-deeper lists zero class h = absurd h
ended-deeper lists (suc n) class h = each-map (λ below. IsEnded lists n below) (λ below. IsEnded lists (suc n) below) (extending lists class) (λ below. ended-deeper lists n below) h

last_first-same : (f g : ℕ → List Step) (P : ℕ → Type 0) (classes : List ℕ) → ((class : ℕ) → P class → f class ≡ g class) → Each P classes → last_first f classes ≡ last_first g classes
last_first-same f g P [] same h = refl
last_first-same f g P (class ∷ classes) same h =
    ap (λ r. r ++ f class) (last_first-same f g P classes same h.1) ∙ ap (λ r. last_first g classes ++ r) (same class h.0)

pub walk-deeper : (lists : List (List ℕ)) (n class : ℕ) → IsEnded lists n class → walk lists n class ≡ walk lists (suc n) class
walk-deeper lists zero class h = absurd h
walk-deeper lists (suc n) class h =
    ap (λ r. step.Enter class ∷ (r ++ step.Leave class ∷ []))
    (last_first-same (λ below. walk lists n below) (λ below. walk lists (suc n) below) (λ below. IsEnded lists n below) (extending lists class) (λ below. walk-deeper lists n below) h)

-- the classes below are entered
left-entered : (lists : List (List ℕ)) (n : ℕ) (classes : List ℕ) → left_of lists n (entered_below classes) ≡ last_first (λ below. walk lists n below) classes
left-entered lists n [] = refl
left-entered lists n (class ∷ classes) = ap (λ r. r ++ walk lists n class) (left-entered lists n classes)

ended-entered : (lists : List (List ℕ)) (n : ℕ) (classes : List ℕ) → Each (λ below. IsEnded lists n below) classes → AllEnded lists n (entered_below classes)
ended-entered lists n [] h = tt
ended-entered lists n (class ∷ classes) h = (h.0, ended-entered lists n classes h.1)

-- a step into a class is taken
pub entered_step : (lists : List (List ℕ)) (n class : ℕ) (steps pending all : List Step) → AllEnded lists n (pending ++ step.Enter class ∷ []) → steps ++ left_of lists n (pending ++ step.Enter class ∷ []) ≡ all →
    AllEnded lists n (pending ++ (step.Leave class ∷ entered_below (extending lists class)))
    × ((steps ++ step.Enter class ∷ []) ++ left_of lists n (pending ++ (step.Leave class ∷ entered_below (extending lists class))) ≡ all)
entered_step lists zero class steps pending all h e = absurd (ended-last lists zero pending (step.Enter class ∷ []) h).0
entered_step lists (suc n) class steps pending all h e =
    let below = extending lists class in
    let more = entered_below below in
    let deeper : Each (λ k. IsEnded lists (suc n) k) below = ended-deeper lists (suc n) class (ended-last lists (suc n) pending (step.Enter class ∷ []) h).0 in
    let inner : last_first (λ k. walk lists (suc n) k) below ≡ last_first (λ k. walk lists n k) below =
    sym (last_first-same (λ k. walk lists n k) (λ k. walk lists (suc n) k) (λ k. IsEnded lists n k) below (λ k. walk-deeper lists n k) (ended-last lists (suc n) pending (step.Enter class ∷ []) h).0) in
    let rest = left_of lists (suc n) pending in
    let here : left_of lists (suc n) (pending ++ (step.Leave class ∷ more)) ≡ (last_first (λ k. walk lists n k) below ++ step.Leave class ∷ []) ++ rest =
    left-append lists (suc n) pending (step.Leave class ∷ more)
    ∙ ap (λ r. (r ++ step.Leave class ∷ []) ++ rest) (left-entered lists (suc n) below ∙ inner) in
    let was : left_of lists (suc n) (pending ++ step.Enter class ∷ []) ≡ walk lists (suc n) class ++ rest = left-append lists (suc n) pending (step.Enter class ∷ []) in (
      ended-append lists (suc n) pending (step.Leave class ∷ more) (ended-first lists (suc n) pending (step.Enter class ∷ []) h) (tt, ended-entered lists (suc n) below deeper),
      append_assoc steps (step.Enter class ∷ []) (left_of lists (suc n) (pending ++ (step.Leave class ∷ more)))
          ∙ ap (λ r. steps ++ step.Enter class ∷ r) here
          ∙ ap (λ r. steps ++ r) (sym was)
          ∙ e,
    )

-- a step out of a class is taken
pub left_step : (lists : List (List ℕ)) (n class : ℕ) (steps pending all : List Step) → AllEnded lists n (pending ++ step.Leave class ∷ []) → steps ++ left_of lists n (pending ++ step.Leave class ∷ []) ≡ all →
    AllEnded lists n pending × ((steps ++ step.Leave class ∷ []) ++ left_of lists n pending ≡ all)
left_step lists n class steps pending all h e = (
  ended-first lists n pending (step.Leave class ∷ []) h,
  append_assoc steps (step.Leave class ∷ []) (left_of lists n pending)
      ∙ ap (λ r. steps ++ r) (sym (left-append lists n pending (step.Leave class ∷ [])))
      ∙ e,
)

-- what is popped is taken, and what comes after it is pushed
taken_here : (lists : List (List ℕ)) (n : ℕ) (taken : Step) (steps popped all : List Step) → AllEnded lists n (popped ++ taken ∷ []) × (steps ++ left_of lists n (popped ++ taken ∷ []) ≡ all) →
    AllEnded lists n (popped ++ following lists taken) × ((steps ++ taken ∷ []) ++ left_of lists n (popped ++ following lists taken) ≡ all)
taken_here lists n (step.Enter class) steps popped all h = entered_step lists n class steps popped all h.0 h.1
taken_here lists n (step.Leave class) steps popped all h =
    let r = left_step lists n class steps popped all h.0 h.1 in
    subst (λ p. AllEnded lists n p × ((steps ++ step.Leave class ∷ []) ++ left_of lists n p ≡ all)) (sym (append-nil popped)) r

pub step_taken : (lists : List (List ℕ)) (n : ℕ) (taken : Step) (steps more before popped after all : List Step) → before ≡ popped ++ taken ∷ [] → more ≡ steps ++ taken ∷ [] → after ≡ popped ++ following lists taken →
    AllEnded lists n before × (steps ++ left_of lists n before ≡ all) → AllEnded lists n after × (more ++ left_of lists n after ≡ all)
step_taken lists n taken steps more before popped after all pop push next h =
    let was = subst (λ p. AllEnded lists n p × (steps ++ left_of lists n p ≡ all)) pop h in
    let r = taken_here lists n taken steps popped all was in
    subst (λ p. AllEnded lists n p × (more ++ left_of lists n p ≡ all)) (sym next) (subst (λ m. AllEnded lists n (popped ++ following lists taken) × (m ++ left_of lists n (popped ++ following lists taken) ≡ all)) (sym push) r)

-- the next class is one without a superclass, or not
pub root_next : (parents : List (Option ℕ)) (i : ℕ) → i < length parents → is_some (get_or parents i None) ≡ false → roots i (drop i parents) ≡ as_number i ∷ roots (i + 1) (drop (i + 1) parents)
root_next parents i below none = ap (roots i) (drop_more parents i None below) ∙ from (get_or parents i None) none
  where
    from : (parent : Option ℕ) → is_some parent ≡ false → roots i (parent ∷ drop (i + 1) parents) ≡ as_number i ∷ roots (i + 1) (drop (i + 1) parents)
    from None h = refl
    from (Some above) h = cc

pub other_next : (parents : List (Option ℕ)) (i : ℕ) → i < length parents → is_some (get_or parents i None) ≡ true → roots i (drop i parents) ≡ roots (i + 1) (drop (i + 1) parents)
other_next parents i below some = ap (roots i) (drop_more parents i None below) ∙ from (get_or parents i None) some
  where
    from : (parent : Option ℕ) → is_some parent ≡ true → roots i (parent ∷ drop (i + 1) parents) ≡ roots (i + 1) (drop (i + 1) parents)
    from None h = cc
    from (Some above) h = refl

-- the way through the next class is taken
pub root_step : (lists : List (List ℕ)) (n class : ℕ) (now next : List ℕ) (steps new all : List Step) → now ≡ class ∷ next → Each (IsEnded lists n) now × (steps ++ walks lists n now ≡ all) → (IsEnded lists n class → new ≡ steps ++ walk lists n class) → Each (IsEnded lists n) next × (new ++ walks lists n next ≡ all)
root_step lists n class now next steps new all e h made =
    let ends : Each (IsEnded lists n) (class ∷ next) = subst (Each (IsEnded lists n)) e h.0 in (
      ends.1,
      ap (λ r. r ++ walks lists n next) (made ends.0)
          ∙ append_assoc steps (walk lists n class) (walks lists n next)
          ∙ ap (λ r. steps ++ walks lists n r) (sym e)
          ∙ h.1,
    )

pub root_over : (lists : List (List ℕ)) (n : ℕ) (now next : List ℕ) (steps all : List Step) → now ≡ next → Each (IsEnded lists n) now × (steps ++ walks lists n now ≡ all) → Each (IsEnded lists n) next × (steps ++ walks lists n next ≡ all)
root_over lists n now next steps all e h = (subst (Each (IsEnded lists n)) e h.0, ap (λ r. steps ++ walks lists n r) (sym e) ∙ h.1)
