-- How strong what is kept of an item gets, and how much room is left.
use Rattle.std.proofs.Common.{◌≡◌, ◌∙◌, ◌+◌, ◌<◌, ◌≤◌, ◌⊎◌, ℕ, zero, suc, Bool, true, false, IsTrue, min, List, [], ◌∷◌, length, Option, Some, None, Contains, slice_get, slice_set, inl, inr, ⊎_elim, refl, sym, ap, subst, arith}
use Rattle.lang_base.specs.declared.effect.Access.{Access}
use Rattle.lang_base.specs.declared.effect.Access.TheVariants.{Read, Write}
use Rattle.lang_base.specs.declared.effect.Effect.{Effect}
use Rattle.lang_base.specs.declared.region.Rpl.{Rpl}
use Rattle.body_infer.specs.declared.kept.Kept.{Kept}
use Rattle.body_infer.specs.declared.kept.Kept.TheVariants as kept
use Rattle.body_infer.specs.Kept.{Keeping, strength_of, strength_kept}
use Rattle.body_infer.specs.PostFixpoint.{takes}
use Rattle.body_infer.specs.Asked.{asked_by, asked, more, raised, raised_here, raised_from, raised_of, raised_in}
use Rattle.body_infer.specs.Passes.{room_of, room_in, room}
use Rattle.body_infer.proofs.Fewer.{nothing_in, head_in, later_in, in_cases}

pub some_strength : (a : Access) → 1 ≤ strength_of a
some_strength Read = omega arith
some_strength Write = omega arith

most_strength : (a : Access) → strength_of a ≤ 2
most_strength Read = omega arith
most_strength Write = omega arith

-- the more of two is as strong as each, and no stronger than both

more_left : (a b : Kept) (e : Effect) → strength_kept a e ≤ strength_kept (more a b) e
more_left kept.Whole b e = omega arith
more_left kept.Read kept.Whole e = some_strength e.access
more_left kept.Read kept.Read e = omega arith
more_left kept.Read kept.Nothing e = omega arith
more_left kept.Nothing b e = omega arith

more_right : (a b : Kept) (e : Effect) → strength_kept b e ≤ strength_kept (more a b) e
more_right kept.Whole kept.Whole e = omega arith
more_right kept.Whole kept.Read e = some_strength e.access
more_right kept.Whole kept.Nothing e = omega arith
more_right kept.Read kept.Whole e = omega arith
more_right kept.Read kept.Read e = omega arith
more_right kept.Read kept.Nothing e = omega arith
more_right kept.Nothing b e = omega arith

more_most : (a b : Kept) (e : Effect) (n : ℕ) → strength_kept a e ≤ n → strength_kept b e ≤ n → strength_kept (more a b) e ≤ n
more_most kept.Whole b e n h g = h
more_most kept.Read kept.Whole e n h g = g
more_most kept.Read kept.Read e n h g = h
more_most kept.Read kept.Nothing e n h g = h
more_most kept.Nothing b e n h g = g

-- what is asked is as strong as the demand, as far as the item was written

asked_most : (b : Bool) (a : Access) (item : Effect) (n : ℕ) → (IsTrue b → min (strength_of a) (strength_of item.access) ≤ n) → strength_kept (asked_by b a) item ≤ n
asked_most false a item n h = omega arith
asked_most true Read item n h =
    let e = h refl in
    omega (arith, e, some_strength item.access)
asked_most true Write item n h =
    let e = h refl in
    omega (arith, e, most_strength item.access)

asked_least : (b : Bool) (a : Access) (item : Effect) → IsTrue b → min (strength_of a) (strength_of item.access) ≤ strength_kept (asked_by b a) item
asked_least false a item h = cc
asked_least true Read item h = omega (arith, some_strength item.access)
asked_least true Write item h = omega (arith, most_strength item.access)

-- an item that was raised

raised_grows : (item : Effect) (place : Rpl) (ds : List Effect) (old : Kept) → strength_kept old item ≤ strength_kept (raised item place ds old) item
raised_grows item place [] old = omega arith
raised_grows item place (d ∷ ds) old =
    omega (arith, more_left old (asked item place d) item, raised_grows item place ds (more old (asked item place d)))

raised_asked : (item : Effect) (place : Rpl) (ds : List Effect) (old : Kept) (d : Effect) → Contains ds d → strength_kept (asked item place d) item ≤ strength_kept (raised item place ds old) item
raised_asked item place [] old d c = absurd (nothing_in d c)
raised_asked item place (e ∷ ds) old d c =
    ⊎_elim
    (λ same. subst (λ x. strength_kept (asked item place x) item ≤ strength_kept (raised item place (e ∷ ds) old) item) same first)
    (λ later. raised_asked item place ds (more old (asked item place e)) d later) (in_cases e ds d c)
  where
    first : strength_kept (asked item place e) item ≤ strength_kept (raised item place (e ∷ ds) old) item
    first = omega (arith, more_right old (asked item place e) item, raised_grows item place ds (more old (asked item place e)))

raised_most : (item : Effect) (place : Rpl) (ds : List Effect) (old : Kept) (n : ℕ) → strength_kept old item ≤ n → ((d : Effect) → Contains ds d → strength_kept (asked item place d) item ≤ n) →
    strength_kept (raised item place ds old) item ≤ n
raised_most item place [] old n h g = h
raised_most item place (d ∷ ds) old n h g =
    raised_most item place ds (more old (asked item place d)) n (more_most old (asked item place d) item n h (g d (head_in d ds))) (λ e c. g e (later_in d ds e c))

-- an item that was raised keeps no more than what is asked for, as far as it was written
pub raised_within : (item : Effect) (place : Rpl) (ds : List Effect) (old : Kept) (n : ℕ) → strength_kept old item ≤ n →
    ((d : Effect) → Contains ds d → IsTrue (takes (record item { rpl = place }) d) → min (strength_of d.access) (strength_of item.access) ≤ n) →
    strength_kept (raised item place ds old) item ≤ n
raised_within item place ds old n h g =
    raised_most item place ds old n h (λ d c. asked_most (takes (record item { rpl = place }) d) d.access item n (g d c))

-- an item that didn't rise keeps what is asked for
pub raised_meets : (item : Effect) (place : Rpl) (ds : List Effect) (k : Kept) (d : Effect) → k ≡ raised item place ds k → Contains ds d → IsTrue (takes (record item { rpl = place }) d) →
    min (strength_of d.access) (strength_of item.access) ≤ strength_kept k item
raised_meets item place ds k d e c t =
    let known = ap (λ x. strength_kept x item) e in
    omega (arith, known, asked_least (takes (record item { rpl = place }) d) d.access item t, raised_asked item place ds k d c)

-- an item of a member that was raised, by its old state
pub raised_at : (at i j : ℕ) (items : List Effect) (places : List Rpl) (ds : List Effect) (ks : List Kept) (k : Kept) → j ≡ at + i → slice_get (raised_from at items places ds ks) i ≡ Some k →
    (old : Kept) × (slice_get ks i ≡ Some old) × (k ≡ raised_here (slice_get items j) (slice_get places j) ds old)
raised_at at i j items places ds [] k e h = cc
raised_at at zero j items places ds (old ∷ ks) k e h =
    let here : j ≡ at = omega arith in
    let is : k ≡ raised_here (slice_get items at) (slice_get places at) ds old = cc in
    (old, refl, is ∙ ap (λ x. raised_here (slice_get items x) (slice_get places x) ds old) (sym here))
raised_at at (suc i) j items places ds (first ∷ ks) k e h = raised_at (suc at) i j items places ds ks k (omega arith) h

pub raised_long : (at : ℕ) (items : List Effect) (places : List Rpl) (ds : List Effect) (ks : List Kept) → length (raised_from at items places ds ks) ≡ length ks
raised_long at items places ds [] = refl
raised_long at items places ds (k ∷ ks) = ap suc (raised_long (suc at) items places ds ks)

-- room is left, or taken

abbrev pub Falls : {A : Type 0} → (A → ℕ) → A → A → Type 0
Falls f x y = (y ≡ x) ⊎ (f y < f x)

falls_then : {A : Type 0} (f : A → ℕ) (x y z : A) → Falls f x y → Falls f y z → Falls f x z
falls_then f x y z h g = ⊎_elim (λ e. ⊎_elim (λ i. inl (i ∙ e)) (λ l. inr (subst (λ v. f z < f v) e l)) g) (λ l. ⊎_elim (λ i. inr (subst (λ v. f v < f x) (sym i) l)) (λ k. inr (omega arith)) g) h

room_more : (a b : Kept) → Falls room_of a (more a b)
room_more kept.Whole b = inl refl
room_more kept.Read kept.Whole = inr (omega arith)
room_more kept.Read kept.Read = inl refl
room_more kept.Read kept.Nothing = inl refl
room_more kept.Nothing kept.Whole = inr (omega arith)
room_more kept.Nothing kept.Read = inr (omega arith)
room_more kept.Nothing kept.Nothing = inl refl

room_raised : (item : Effect) (place : Rpl) (ds : List Effect) (old : Kept) → Falls room_of old (raised item place ds old)
room_raised item place [] old = inl refl
room_raised item place (d ∷ ds) old =
    falls_then room_of old (more old (asked item place d)) (raised item place (d ∷ ds) old) (room_more old (asked item place d)) (room_raised item place ds (more old (asked item place d)))

room_here : (item : Option Effect) (place : Option Rpl) (ds : List Effect) (old : Kept) → Falls room_of old (raised_here item place ds old)
room_here (Some item) (Some place) ds old = room_raised item place ds old
room_here (Some item) None ds old = inl refl
room_here None place ds old = inl refl

room_first : (x y : Kept) (xs ys : List Kept) → Falls room_of x y → Falls room_in xs ys → Falls room_in (x ∷ xs) (y ∷ ys)
room_first x y xs ys h g =
    ⊎_elim
    (λ e. ⊎_elim (λ i. inl (cc (e, i))) (λ l. (let same = ap room_of e in inr (omega arith))) g)
    (λ k. ⊎_elim (λ i. (let same = ap room_in i in inr (omega arith))) (λ l. inr (omega arith)) g) h

room_items : (at : ℕ) (items : List Effect) (places : List Rpl) (ds : List Effect) (ks : List Kept) → Falls room_in ks (raised_from at items places ds ks)
room_items at items places ds [] = inl refl
room_items at items places ds (k ∷ ks) =
    room_first k (raised_here (slice_get items at) (slice_get places at) ds k) ks (raised_from (suc at) items places ds ks)
    (room_here (slice_get items at) (slice_get places at) ds k) (room_items (suc at) items places ds ks)

room_set : (S : Keeping) (n : ℕ) (ks ls : List Kept) → slice_get S n ≡ Some ks → Falls room_in ks ls → Falls room S (slice_set S n ls)
room_set [] n ks ls e h = inl refl
room_set (first ∷ S) zero ks ls e h =
    let is : first ≡ ks = cc in
    ⊎_elim (λ i. inl (cc (i, is))) (λ l. (let same = ap room_in is in inr (omega arith))) h
room_set (first ∷ S) (suc n) ks ls e h =
    ⊎_elim (λ i. inl (ap (λ rest. first ∷ rest) i)) (λ l. inr (omega arith)) (room_set S n ks ls e h)

pub room_in_raised : (S : Keeping) (n : ℕ) (items : List Effect) (places : List Rpl) (ds : List Effect) → Falls room S (raised_in S n items places ds)
room_in_raised S n items places ds = by (slice_get S n) refl
  where
    by : (o : Option (List Kept)) → slice_get S n ≡ o → Falls room S (raised_of S n items places ds o)
    by None e = inl refl
    by (Some ks) e = room_set S n ks (raised_from 0 items places ds ks) e (room_items 0 items places ds ks)
