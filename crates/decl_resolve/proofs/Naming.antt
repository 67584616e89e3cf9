-- Names that come into scope and leave it, over plain variables.
use Rattle.std.proofs.Common.{◌≡◌, ◌∙◌, ◌<◌, ◌≤◌, ◌+◌, ◌-◌, ◌==◌, ◌++◌, ◌⊎◌, ℕ, zero, suc, Bool, true, false, cond, List, [], ◌∷◌, length, take, slice_get, Option, Some, None, IsSome, Result, Ok, Err, OnOk, is_err, refl, ap, sym, subst, inl, inr, ⊎_elim, arith}
use Rattle.std.proofs.lemmas.Bool.{eqb-true, eq-eqb}
use Rattle.std.proofs.lemmas.List.{length-take-le}
use Rattle.std.specs.Ordering.{nat_cmp}
use Rattle.std.specs.BTreeMap.{get}
use Rattle.std.specs.declared.collections.BTreeMap.{BTreeMap}
use Rattle.std.specs.declared.alloc.Global.{Global}
use Rattle.decl_resolve.specs.declared.scoped.Named.{Named}
use Rattle.decl_resolve.specs.Names.{last_from, last_place, plain_names, KnowHidden, HasMoved, ShowsLast}

abbrev Spots : Type 0
Spots = BTreeMap ℕ ℕ Global

last_from-following : (at : ℕ) (found : Option ℕ) (names : List ℕ) (last name : ℕ)
    → last_from at found (names ++ last ∷ []) name ≡ cond (last == name) (Some (at + length names)) (last_from at found names name)
last_from-following at found [] last name =
    let here : at ≡ at + 0 = omega arith in
    ap (λ place. cond (last == name) (Some place) found) here
last_from-following at found (other ∷ names) last name =
    let further : suc at + length names ≡ at + suc (length names) = omega arith in
    last_from-following (suc at) (cond (other == name) (Some at) found) names last name
    ∙ ap (λ place. cond (last == name) (Some place) (last_from (suc at) (cond (other == name) (Some at) found) names name)) further

-- one name more: its place is after the others
pub last-following : (names : List ℕ) (last name : ℕ) → last_place (names ++ last ∷ []) name ≡ cond (last == name) (Some (length names)) (last_place names name)
last-following names last name =
    let whole : 0 + length names ≡ length names = omega arith in
    last_from-following 0 None names last name ∙ ap (λ place. cond (last == name) (Some place) (last_place names name)) whole

pub plain-following : (names : List Named) (last : Named) → plain_names (names ++ last ∷ []) ≡ plain_names names ++ last.name ∷ []
plain-following [] last = refl
plain-following (named ∷ names) last = ap (λ rest. named.name ∷ rest) (plain-following names last)

pub plain-length : (names : List Named) → length (plain_names names) ≡ length names
plain-length [] = refl
plain-length (named ∷ names) = ap suc (plain-length names)

-- where each knew the place of its last, so it does with one more
pub shown-entered : (names : List Named) (last : Named) (old new : Spots) (count : ℕ) → count ≡ length names → ShowsLast names old → HasMoved old last.name (Some count) new → ShowsLast (names ++ last ∷ []) new
shown-entered names last old new count is shown moved name =
    moved name
    ∙ ap (λ found. cond (last.name == name) (Some count) found) (shown name)
    ∙ ap (λ place. cond (last.name == name) (Some place) (last_place (plain_names names) name)) (is ∙ sym (plain-length names))
    ∙ sym (last-following (plain_names names) last.name name)
    ∙ ap (λ all. last_place all name) (sym (plain-following names last))

-- what stands at a place with one more: what stood there, or the last
at-following : (names : List Named) (last named : Named) (k : ℕ) → slice_get (names ++ last ∷ []) k ≡ Some named
    → ((k < length names) × (slice_get names k ≡ Some named)) ⊎ ((k ≡ length names) × (last ≡ named))
at-following [] last named zero is = inr (refl, some-is is)
  where
    some-is : {x y : Named} → Some x ≡ Some y → x ≡ y
    some-is e = cc
at-following [] last named (suc k) is = cc
at-following (first ∷ names) last named zero is = inl (omega arith, is)
at-following (first ∷ names) last named (suc k) is =
    ⊎_elim
    (λ found. inl (omega (arith, found.0), found.1))
    (λ found. inr (ap suc found.0, found.1))
    (at-following names last named k is)

stays-at : (names : List Named) (last named : Named) (k : ℕ) → slice_get names k ≡ Some named → slice_get (names ++ last ∷ []) k ≡ Some named
stays-at [] last named k is = cc
stays-at (first ∷ names) last named zero is = is
stays-at (first ∷ names) last named (suc k) is = stays-at names last named k is

within-at : (names : List Named) (named : Named) (k : ℕ) → slice_get names k ≡ Some named → k < length names
within-at [] named k is = cc
within-at (first ∷ names) named zero is = omega arith
within-at (first ∷ names) named (suc k) is = omega (arith, within-at names named k is)

last-at : (names : List Named) (last : Named) → slice_get (names ++ last ∷ []) (length names) ≡ Some last
last-at [] last = refl
last-at (first ∷ names) last = last-at names last

-- the front of the names is the same with one more
front-following : (names : List ℕ) (last k : ℕ) → k ≤ length names → take k (names ++ last ∷ []) ≡ take k names
front-following names last zero within = refl
front-following [] last (suc k) within = absurd (omega (arith, within))
front-following (name ∷ names) last (suc k) within = ap (λ rest. name ∷ rest) (front-following names last k (omega (arith, within)))

take-all : (names : List ℕ) → take (length names) names ≡ names
take-all [] = refl
take-all (name ∷ names) = ap (λ rest. name ∷ rest) (take-all names)

front-plain : (names : List Named) (last : Named) (k : ℕ) → k ≤ length names → take k (plain_names (names ++ last ∷ [])) ≡ take k (plain_names names)
front-plain names last k within =
    ap (take k) (plain-following names last) ∙ front-following (plain_names names) last.name k (omega (arith, within, plain-length names))

front-all : (names : List Named) (last : Named) → take (length names) (plain_names (names ++ last ∷ [])) ≡ plain_names names
front-all names last =
    front-plain names last (length names) (omega arith) ∙ ap (λ n. take n (plain_names names)) (sym (plain-length names)) ∙ take-all (plain_names names)

pub hidden-entered : (names : List Named) (last : Named) → KnowHidden names → last.hidden ≡ last_place (plain_names names) last.name → KnowHidden (names ++ last ∷ [])
hidden-entered names last know is k named at =
    ⊎_elim
    (λ found. know k named found.1 ∙ ap (λ front. last_place front named.name) (sym (front-plain names last k (omega (arith, found.0)))))
    (λ found.
    let Hides : Named → Type 0 = λ other. other.hidden ≡ last_place (take k (plain_names (names ++ last ∷ []))) other.name in
    let front : take k (plain_names (names ++ last ∷ [])) ≡ plain_names names = ap (λ n. take n (plain_names (names ++ last ∷ []))) found.0 ∙ front-all names last in
    subst Hides found.1 (is ∙ ap (λ all. last_place all last.name) (sym front)))
    (at-following names last named k at)

pub hidden-left : (names : List Named) (last : Named) → KnowHidden (names ++ last ∷ []) → KnowHidden names
hidden-left names last know k named at =
    know k named (stays-at names last named k at) ∙ ap (λ front. last_place front named.name) (front-plain names last k (omega (arith, within-at names named k at)))

hidden-last : (names : List Named) (last : Named) → KnowHidden (names ++ last ∷ []) → last.hidden ≡ last_place (plain_names names) last.name
hidden-last names last know = know (length names) last (last-at names last) ∙ ap (λ all. last_place all last.name) (front-all names last)

shown-following : (names : List Named) (last : Named) (spots : Spots) → ShowsLast (names ++ last ∷ []) spots → (name : ℕ) → get nat_cmp spots name ≡ cond (last.name == name) (Some (length (plain_names names))) (last_place (plain_names names) name)
shown-following names last spots shown name = shown name ∙ ap (λ all. last_place all name) (plain-following names last) ∙ last-following (plain_names names) last.name name

-- the last name has a place
pub last-shown : (names : List Named) (last : Named) (spots : Spots) → ShowsLast (names ++ last ∷ []) spots → IsSome (get nat_cmp spots last.name)
last-shown names last spots shown =
    let same : (last.name == last.name) ≡ true = eq-eqb last.name last.name refl in
    let found : get nat_cmp spots last.name ≡ Some (length (plain_names names)) =
    shown-following names last spots shown last.name ∙ ap (λ b. cond b (Some (length (plain_names names))) (last_place (plain_names names) last.name)) same in
    subst (λ place. IsSome place) (sym found) refl

left-at : (names : List ℕ) (last name : ℕ) (hidden : Option ℕ) (b : Bool) → (last == name) ≡ b → hidden ≡ last_place names last
    → cond b hidden (cond b (Some (length names)) (last_place names name)) ≡ last_place names name
left-at names last name hidden true same is = is ∙ ap (last_place names) (eqb-true last name same)
left-at names last name hidden false same is = refl

-- without the last name, each shows the place of its last again
pub shown-left : (names : List Named) (last : Named) (old new : Spots) → KnowHidden (names ++ last ∷ []) → ShowsLast (names ++ last ∷ []) old → HasMoved old last.name last.hidden new → ShowsLast names new
shown-left names last old new know shown moved name =
    moved name
    ∙ ap (λ found. cond (last.name == name) last.hidden found) (shown-following names last old shown name)
    ∙ left-at (plain_names names) last.name name last.hidden (last.name == name) refl (hidden-last names last know)

take-less : {A : Type 0} (m n : ℕ) (xs : List A) → n ≤ m → take n (take m xs) ≡ take n xs
take-less m zero xs within = refl
take-less zero (suc n) xs within = absurd (omega (arith, within))
take-less (suc m) (suc n) [] within = refl
take-less (suc m) (suc n) (x ∷ xs) within = ap (λ rest. x ∷ rest) (take-less m n xs (omega (arith, within)))

-- the last of the first m is taken off
pub take-step : {A : Type 0} (m n : ℕ) (xs ys zs : List A) → m ≤ length xs → n + 1 ≡ m → ys ≡ take m xs → zs ≡ take (length ys - 1) ys → zs ≡ take n xs
take-step m n xs ys zs within one is left =
    let long : length ys ≡ m = ap length is ∙ length-take-le m xs within in
    let less : length ys - 1 ≡ n = omega (arith, long, one) in
    left ∙ ap (λ k. take k ys) less ∙ ap (take n) is ∙ take-less m n xs (omega (arith, one))

-- what holds of a result that is no fault
pub taken : {X E P : Type 0} (result : Result X E) → false ≡ is_err result → OnOk result P → P
taken (Ok x) no_fault holds = holds
taken (Err e) no_fault holds = cc

none-left : {A : Type 0} (n : ℕ) → take {A = A} n [] ≡ []
none-left zero = refl
none-left (suc n) = refl

-- as many of a list, or all of it
pub take-same : {A : Type 0} (m n : ℕ) (xs : List A) → (m ≡ n) ⊎ ((length xs ≤ m) × (length xs ≤ n)) → take m xs ≡ take n xs
take-same m n xs (inl e) = ap (λ k. take k xs) e
take-same m n [] (inr both) = none-left m ∙ sym (none-left n)
take-same zero n (x ∷ xs) (inr both) = absurd (omega (arith, both.0))
take-same (suc m) zero (x ∷ xs) (inr both) = absurd (omega (arith, both.1))
take-same (suc m) (suc n) (x ∷ xs) (inr both) = ap (λ rest. x ∷ rest) (take-same m n xs (inr (omega (arith, both.0), omega (arith, both.1))))

-- at the end of the way from len to end, as many are left as len says
pub way-ends : (len end counter count : ℕ) → len ≤ counter → end ≤ counter → (end < counter → counter ≡ len) → end ≡ count → (end - (counter - len) ≡ len) ⊎ ((count ≤ end - (counter - len)) × (count ≤ len))
way-ends len end counter count from over none is = ⊎_elim (λ within. inl (omega (arith, from, over, within))) (λ far. inr (omega (arith, over, none far, is), omega (arith, far, none far, is))) (within-or-far end counter)
  where
    within-or-far : (e c : ℕ) → (c ≤ e) ⊎ (e < c)
    within-or-far e zero = inl (omega arith)
    within-or-far zero (suc c) = inr (omega arith)
    within-or-far (suc e) (suc c) = ⊎_elim (λ l. inl (omega (arith, l))) (λ l. inr (omega (arith, l))) (within-or-far e c)
