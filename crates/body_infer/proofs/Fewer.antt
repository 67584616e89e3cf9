-- Effects that are fewer and weaker than others.
use Rattle.std.proofs.Common.{◌≡◌, ◌∙◌, ◌≤◌, ◌⊎◌, Bool, true, false, cond, List, [], ◌∷◌, ◌++◌, map, filter, Contains, inl, inr, ⊎_elim, refl, sym, ap, subst, arith}
use Rattle.std.proofs.lemmas.List.Elements.{Contains-append_right, Contains-append_cases, Contains-push_cases}
use Rattle.lang_base.specs.declared.effect.Access.{Access}
use Rattle.lang_base.specs.declared.effect.Effect.{Effect}
use Rattle.lang_typed.specs.Effects.{Own, does, uses, effect_of}
use Rattle.body_infer.specs.Kept.{strength_of}

-- members of lists

pub nothing_in : {A : Type 0} (x : A) → Contains [] x → ⊥
nothing_in x c = let below = c.1 in omega (arith, below)

pub head_in : {A : Type 0} (x : A) (xs : List A) → Contains (x ∷ xs) x
head_in x xs = (0, omega arith, refl)

pub later_in : {A : Type 0} (x : A) (xs : List A) (z : A) → Contains xs z → Contains (x ∷ xs) z
later_in x xs z c = Contains-append_right (x ∷ []) xs z c

one_of : {A : Type 0} (x z : A) → Contains (x ∷ []) z → x ≡ z
one_of x z c = ⊎_elim (λ none. absurd (nothing_in z none)) (λ same. same) (Contains-push_cases [] x z c)

pub in_cases : {A : Type 0} (x : A) (xs : List A) (z : A) → Contains (x ∷ xs) z → (x ≡ z) ⊎ Contains xs z
in_cases x xs z c = ⊎_elim (λ first. inl (one_of x z first)) (λ later. inr later) (Contains-append_cases (x ∷ []) xs z c)

-- each of some stands in a relation to one of others

abbrev pub Found : {A : Type 0} → (A → A → Type 0) → A → List A → Type 0
Found R x [] = ⊥
Found R x (y ∷ ys) = R x y ⊎ Found R x ys

abbrev pub Fewer : {A : Type 0} → (A → A → Type 0) → List A → List A → Type 0
Fewer R [] ys = Unit {0}
Fewer R (x ∷ xs) ys = Found R x ys × Fewer R xs ys

found_left : {A : Type 0} (R : A → A → Type 0) (x : A) (ys zs : List A) → Found R x ys → Found R x (ys ++ zs)
found_left R x [] zs h = absurd h
found_left R x (y ∷ ys) zs h = ⊎_elim (λ e. inl e) (λ later. inr (found_left R x ys zs later)) h

found_right : {A : Type 0} (R : A → A → Type 0) (x : A) (ys zs : List A) → Found R x zs → Found R x (ys ++ zs)
found_right R x [] zs h = h
found_right R x (y ∷ ys) zs h = inr (found_right R x ys zs h)

fewer_left : {A : Type 0} (R : A → A → Type 0) (xs ys zs : List A) → Fewer R xs ys → Fewer R xs (ys ++ zs)
fewer_left R [] ys zs h = tt
fewer_left R (x ∷ xs) ys zs h = (found_left R x ys zs h.0, fewer_left R xs ys zs h.1)

fewer_right : {A : Type 0} (R : A → A → Type 0) (xs ys zs : List A) → Fewer R xs zs → Fewer R xs (ys ++ zs)
fewer_right R [] ys zs h = tt
fewer_right R (x ∷ xs) ys zs h = (found_right R x ys zs h.0, fewer_right R xs ys zs h.1)

fewer_joined : {A : Type 0} (R : A → A → Type 0) (xs ys zs : List A) → Fewer R xs zs → Fewer R ys zs → Fewer R (xs ++ ys) zs
fewer_joined R [] ys zs h g = g
fewer_joined R (x ∷ xs) ys zs h g = (h.0, fewer_joined R xs ys zs h.1 g)

pub fewer_both : {A : Type 0} (R : A → A → Type 0) (xs ys zs ws : List A) → Fewer R xs zs → Fewer R ys ws → Fewer R (xs ++ ys) (zs ++ ws)
fewer_both R xs ys zs ws h g = fewer_joined R xs ys (zs ++ ws) (fewer_left R xs zs ws h) (fewer_right R ys zs ws g)

fewer_more : {A : Type 0} (R : A → A → Type 0) (xs ys : List A) (y : A) → Fewer R xs ys → Fewer R xs (y ∷ ys)
fewer_more R [] ys y h = tt
fewer_more R (x ∷ xs) ys y h = (inr h.0, fewer_more R xs ys y h.1)

pub fewer_same : {A : Type 0} (R : A → A → Type 0) → ((x : A) → R x x) → (xs : List A) → Fewer R xs xs
fewer_same R h [] = tt
fewer_same R h (x ∷ xs) = (inl (h x), fewer_more R xs xs x (fewer_same R h xs))

pub fewer_none : {A : Type 0} (R : A → A → Type 0) (xs ys : List A) → xs ≡ [] → Fewer R xs ys
fewer_none R xs ys e = subst (λ zs. Fewer R zs ys) (sym e) tt

pub fewer_alike : {A : Type 0} (R : A → A → Type 0) (xs ys zs ws : List A) → xs ≡ ys → zs ≡ ws → Fewer R ys ws → Fewer R xs zs
fewer_alike R xs ys zs ws e g h = subst (λ v. Fewer R v zs) (sym e) (subst (λ v. Fewer R ys v) (sym g) h)

found_mapped : {A B : Type 0} (R : A → A → Type 0) (Q : B → B → Type 0) (f : A → B) → ((x y : A) → R x y → Q (f x) (f y)) → (x : A) (ys : List A) → Found R x ys → Found Q (f x) (map f ys)
found_mapped R Q f keeps x [] h = absurd h
found_mapped R Q f keeps x (y ∷ ys) h = ⊎_elim (λ r. inl (keeps x y r)) (λ later. inr (found_mapped R Q f keeps x ys later)) h

pub fewer_mapped : {A B : Type 0} (R : A → A → Type 0) (Q : B → B → Type 0) (f : A → B) → ((x y : A) → R x y → Q (f x) (f y)) → (xs ys : List A) → Fewer R xs ys → Fewer Q (map f xs) (map f ys)
fewer_mapped R Q f keeps [] ys h = tt
fewer_mapped R Q f keeps (x ∷ xs) ys h = (found_mapped R Q f keeps x ys h.0, fewer_mapped R Q f keeps xs ys h.1)

found_filtered : {A : Type 0} (R : A → A → Type 0) (p : A → Bool) → ((x y : A) → R x y → p y ≡ p x) → (x : A) (ys : List A) → p x ≡ true → Found R x ys → Found R x (filter p ys)
found_filtered R p alike x [] is h = absurd h
found_filtered R p alike x (y ∷ ys) is h =
    ⊎_elim
    (λ r. subst (λ b. Found R x (cond b (y ∷ filter p ys) (filter p ys))) (sym (alike x y r ∙ is)) (inl r))
    (λ later. by (p y) (found_filtered R p alike x ys is later)) h
  where
    by : (b : Bool) → Found R x (filter p ys) → Found R x (cond b (y ∷ filter p ys) (filter p ys))
    by true g = inr g
    by false g = g

pub fewer_filtered : {A : Type 0} (R : A → A → Type 0) (p : A → Bool) → ((x y : A) → R x y → p y ≡ p x) → (xs ys : List A) → Fewer R xs ys → Fewer R (filter p xs) (filter p ys)
fewer_filtered R p alike [] ys h = tt
fewer_filtered R p alike (x ∷ xs) ys h = by (p x) refl (fewer_filtered R p alike xs ys h.1)
  where
    by : (b : Bool) → p x ≡ b → Fewer R (filter p xs) (filter p ys) → Fewer R (cond b (x ∷ filter p xs) (filter p xs)) (filter p ys)
    by true is rest = (found_filtered R p alike x ys is h.0, rest)
    by false is rest = rest

found_in : {A : Type 0} (R : A → A → Type 0) (x : A) (ys : List A) → Found R x ys → (y : A) × Contains ys y × R x y
found_in R x [] h = absurd h
found_in R x (y ∷ ys) h =
    ⊎_elim (λ r. (y, head_in y ys, r)) (λ later. (let w = found_in R x ys later in (w.0, later_in y ys w.0 w.1, w.2))) h

pub fewer_in : {A : Type 0} (R : A → A → Type 0) (xs ys : List A) (x : A) → Fewer R xs ys → Contains xs x → (y : A) × Contains ys y × R x y
fewer_in R [] ys x h c = absurd (nothing_in x c)
fewer_in R (z ∷ xs) ys x h c =
    ⊎_elim (λ e. found_in R x ys (subst (λ v. Found R v ys) e h.0)) (λ later. fewer_in R xs ys x h.1 later) (in_cases z xs x c)

-- an effect with another access, which is at least as strong

abbrev pub effect_by : Access → Effect → Effect
effect_by a e = record e { access = a }

pub record Weaker (d e : Effect) : Type 0 where
  pub access : Access
  pub stronger : strength_of d.access ≤ strength_of access
  pub is : e ≡ effect_by access d

abbrev pub own_by : Access → Own → Own
own_by a (does e) = does (effect_by a e)
own_by a (uses k e) = uses k (effect_by a e)

pub record Less (o p : Own) : Type 0 where
  pub access : Access
  pub stronger : strength_of (effect_of o).access ≤ strength_of access
  pub is : p ≡ own_by access o

own_same : (o : Own) → o ≡ own_by (effect_of o).access o
own_same (does e) = refl
own_same (uses k e) = refl

pub less_same : (o : Own) → Less o o
less_same o = record { access = (effect_of o).access; stronger = omega arith; is = own_same o }

effect_own : (a : Access) (o : Own) → effect_of (own_by a o) ≡ effect_by a (effect_of o)
effect_own a (does e) = refl
effect_own a (uses k e) = refl

pub less_effect : (o p : Own) → Less o p → Weaker (effect_of o) (effect_of p)
less_effect o p h = record { access = Less.access h; stronger = Less.stronger h; is = ap effect_of (Less.is h) ∙ effect_own (Less.access h) o }

-- what doesn't depend on the access
pub less_by : (f : Own → Own) → ((a : Access) (o : Own) → f (own_by a o) ≡ own_by a (f o)) → ((o : Own) → (effect_of (f o)).access ≡ (effect_of o).access) → (o p : Own) → Less o p → Less (f o) (f p)
less_by f commutes keeps o p h = record {
  access = Less.access h;
  stronger = subst (λ a. strength_of a ≤ strength_of (Less.access h)) (sym (keeps o)) (Less.stronger h);
  is = ap f (Less.is h) ∙ commutes (Less.access h) o;
}
