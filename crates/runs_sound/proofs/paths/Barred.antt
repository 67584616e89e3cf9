-- Effects of entries that speak of one cell, of which one writes, interfere: regions that are apart match no common region.
use Rattle.std.proofs.Common.{◌≡◌, ⊎_elim, inl, inr, ◌+◌, Bool, true, false, not, cond, ◌||◌, ◌&&◌, ◌==◌, List, [], ◌∷◌, ◌++◌, map, reverse, refl, sym, ap, ◌∙◌, subst}
use Rattle.std.specs.Prelude.{nat_lt}
use Rattle.std.proofs.lemmas.Bool.{cases_Bool, and_from, and_parts, or_left, or_right, or_cases, false≢true, false_from_ne_true, eq-eqb, eqb-true}
use Rattle.std.proofs.lemmas.List.{length-map, map-append, reverse-append}
use Rattle.std.proofs.lemmas.List.Sums.{sum_by-cons}
use Rattle.lang_base.specs.declared.elems.Elem.{Elem}
use Rattle.lang_base.specs.Apart as paths
use Rattle.lang_base.specs.Regions.{is_star as is_star_elem}
use Rattle.lang_base.specs.Effects.{is_write}
use Rattle.lang_base.specs.Regions.{within}
use Rattle.region_paths.proofs.Envs.{apart_self}
use Rattle.region_paths.proofs.Paths.{apart-within}
use Rattle.region_paths.proofs.Lists.{solid-cons}
use Rattle.runs_theory.specs.Objects.{LocalRegion, Made, Unmade, Part, Region_name, Number, Local, Own_index, Any_index, Any_parts, Region, Effect}
use Rattle.runs_theory.specs.Blocks.{is_local, kept_if, leaving_locals, without_locals}
use Rattle.runs_theory.specs.Objects.{same_path}
use Rattle.runs_theory.proofs.events.Mine.{same_path_eq, test_same}
use Rattle.runs_program.specs.Interfering.{same_local, is_star, distinct, apart_front, solid, shorter, apart, interferes, some_interferes, lists_interfere, lets}
use Rattle.runs_sound.specs.Settings.{local_code, elem_of, elems_of}
use Rattle.runs_sound.specs.Accesses.{Access, at_root, as_path, LiesInEntry}
use Rattle.runs_sound.proofs.scopes.Codes.{code_one}

same_local_self : (r : LocalRegion) → same_local r r ≡ true
same_local_self (Made p m) = and_from _ _ (test_same p p refl) (eq-eqb m m refl)
same_local_self (Unmade k) = eq-eqb k k refl

-- local regions that aren't one have other codes
other_codes : (r q : LocalRegion) → same_local r q ≡ false → ((local_code r).0 == (local_code q).0) && ((local_code r).1 == (local_code q).1) ≡ false
other_codes r q e = false_from_ne_true _ (λ t.
    (let z = and_parts _ _ t in
    let a = eqb-true (local_code r).0 (local_code q).0 z.0 in
    let b = eqb-true (local_code r).1 (local_code q).1 z.1 in
    let c : r ≡ q = code_one r q (λ i. (a i, b i)) in
    false≢true (sym e ∙ subst (λ x. same_local r x ≡ true) c (same_local_self r))))

or_neither : (x y : Bool) → x ≡ false → y ≡ false → (x || y) ≡ false
or_neither x y a b = λ i. a i || b i

star_same : (x : Part) → is_star_elem (elem_of x) ≡ is_star x
star_same (Region_name n) = refl
star_same (Number k) = refl
star_same (Local r) = refl
star_same Own_index = refl
star_same Any_index = refl
star_same Any_parts = refl

same_codes : (r q : LocalRegion) → (((local_code r).0 == (local_code q).0) && ((local_code r).1 == (local_code q).1)) ≡ same_local r q
same_codes r q = ⊎_elim
    (λ t. (let e = local_one r q t in
    and_from _ _ (eq-eqb (local_code r).0 (local_code q).0 (ap (λ l. (local_code l).0) e)) (eq-eqb (local_code r).1 (local_code q).1 (ap (λ l. (local_code l).1) e)) ∙ sym t))
    (λ f. other_codes r q f ∙ sym f) (cases_Bool (same_local r q))
  where
    local_one : (r q : LocalRegion) → same_local r q ≡ true → r ≡ q
    local_one (Made p m) (Made q n) t =
        let z = and_parts (same_path p q) (m == n) t in
        let a = same_path_eq p q z.0 in
        let b = eqb-true m n z.1 in
        λ i. Made (a i) (b i)
    local_one (Unmade k) (Unmade l) t = ap Unmade (eqb-true k l t)
    local_one (Made p m) (Unmade l) t = absurd (false≢true t)
    local_one (Unmade k) (Made q n) t = absurd (false≢true t)

distinct_elems : (x y : Part) → paths.distinct (elem_of x) (elem_of y) ≡ distinct x y
distinct_elems (Region_name m) (Region_name n) = refl
distinct_elems (Region_name m) (Local s) = refl
distinct_elems (Region_name m) (Number k) = refl
distinct_elems (Region_name m) Own_index = refl
distinct_elems (Region_name m) Any_index = refl
distinct_elems (Region_name m) Any_parts = refl
distinct_elems (Local r) (Local s) = ap not (same_codes r s)
distinct_elems (Local r) (Region_name n) = refl
distinct_elems (Local r) (Number k) = refl
distinct_elems (Local r) Own_index = refl
distinct_elems (Local r) Any_index = refl
distinct_elems (Local r) Any_parts = refl
distinct_elems (Number j) (Number k) = refl
distinct_elems (Number j) (Region_name n) = refl
distinct_elems (Number j) (Local s) = refl
distinct_elems (Number j) Own_index = refl
distinct_elems (Number j) Any_index = refl
distinct_elems (Number j) Any_parts = refl
distinct_elems Own_index (Region_name n) = refl
distinct_elems Own_index (Local s) = refl
distinct_elems Own_index (Number k) = refl
distinct_elems Own_index Own_index = refl
distinct_elems Own_index Any_index = refl
distinct_elems Own_index Any_parts = refl
distinct_elems Any_index (Region_name n) = refl
distinct_elems Any_index (Local s) = refl
distinct_elems Any_index (Number k) = refl
distinct_elems Any_index Own_index = refl
distinct_elems Any_index Any_index = refl
distinct_elems Any_index Any_parts = refl
distinct_elems Any_parts (Region_name n) = refl
distinct_elems Any_parts (Local s) = refl
distinct_elems Any_parts (Number k) = refl
distinct_elems Any_parts Own_index = refl
distinct_elems Any_parts Any_index = refl
distinct_elems Any_parts Any_parts = refl

front_elems : (a b : Region) → paths.apart_front (elems_of a) (elems_of b) ≡ apart_front a b
front_elems [] b = refl
front_elems (x ∷ a) [] = refl
front_elems (x ∷ a) (y ∷ b) =
    let p = star_same x in
    let q = star_same y in
    let d = distinct_elems x y in
    let r = front_elems a b in
    λ i. not (p i || q i) && (d i || r i)

solid_elems : (a : Region) → paths.solid (elems_of a) ≡ solid a
solid_elems [] = refl
solid_elems (x ∷ a) =
    solid-cons (elem_of x) (elems_of a) ∙ (let e = star_same x in let r = solid_elems a in (λ i. cond (not (e i)) 1 0 + r i)) ∙ sym (sum_by-cons (λ y. cond (not (is_star y)) 1 0) x a)

shorter_elems : (a b : Region) → paths.shorter (elems_of a) (elems_of b) ≡ shorter a b
shorter_elems a b =
    let s = solid_elems a in
    let t = solid_elems b in
    let n = length-map a elem_of in
    λ i. (s i == n i) && nat_lt (n i) (t i)

reverse_elems : (a : Region) → reverse (elems_of a) ≡ elems_of (reverse a)
reverse_elems [] = refl
reverse_elems (x ∷ a) =
    reverse-append (elem_of x ∷ []) (elems_of a) ∙ ap (λ z. z ++ elem_of x ∷ []) (reverse_elems a)
    ∙ sym (ap (λ z. map elem_of z) (reverse-append (x ∷ []) a) ∙ map-append elem_of (reverse a) (x ∷ []))

-- regions are apart exactly where they are so as paths
pub apart_elems : (a b : Region) → paths.apart [] (as_path a) (as_path b) ≡ apart a b
unfolding paths.apart
apart_elems a b =
    let f = front_elems a b in
    let p = shorter_elems a b in
    let q = shorter_elems b a in
    let k = reverse_elems a in
    let m = reverse_elems b in
    let r = front_elems (reverse a) (reverse b) in
    (λ i. ((f i || (p i || q i)) || paths.apart_front (k i) (m i)) || false)
    ∙ (λ i. ((apart_front a b || (shorter a b || shorter b a)) || r i) || false)
    ∙ regroup (apart_front a b) (shorter a b || shorter b a) (apart_front (reverse a) (reverse b))
  where
    regroup : (x y z : Bool) → (((x || y) || z) || false) ≡ (x || (y || z))
    regroup true y z = refl
    regroup false true z = refl
    regroup false false true = refl
    regroup false false false = refl

-- what lies in both isn't apart
not_apart : (a b : Region) (r : List Elem) → within (at_root r) (as_path a) ≡ true → within (at_root r) (as_path b) ≡ true → apart a b ≡ false
not_apart a b r m n = false_from_ne_true _ (λ t. apart_self (at_root r) (apart-within [] (at_root r) (as_path a) (at_root r) (as_path b) m n (apart_elems a b ∙ t)))

-- some effect of the other entry interferes
some_is : (e : Effect) (a c : Access) → a.region ≡ c.region → (a.write || c.write) ≡ true → within (at_root a.region) (as_path e.region) ≡ true → (a.write ≡ true → is_write e.access ≡ true) →
    (F : List Effect) → LiesInEntry F c → some_interferes e F ≡ true
some_is e a c same w m v [] h = absurd h
some_is e a c same w m v (f ∷ F) (inl h) = or_left (interferes e f) _ (and_from _ _
    (⊎_elim (λ t. or_left _ _ (v t)) (λ t. or_right (is_write e.access) _ (h.1 t)) (or_cases a.write c.write w))
    (ap not (not_apart e.region f.region c.region (subst (λ r. within (at_root r) (as_path e.region) ≡ true) same m) h.0)))
some_is e a c same w m v (f ∷ F) (inr h) = or_right (interferes e f) _ (some_is e a c same w m v F h)

-- entries that speak of accesses of one cell, of which one is a write, are never open at once
pub entries_barred : (E F : List Effect) (a c : Access) → a.region ≡ c.region → (a.write || c.write) ≡ true → LiesInEntry E a → LiesInEntry F c → lets E F ≡ false
entries_barred E F a c same w h k = ap not (go E h)
  where
    go : (E : List Effect) → LiesInEntry E a → lists_interfere E F ≡ true
    go [] h = absurd h
    go (e ∷ E) (inl h) = or_left _ _ (some_is e a c same w h.0 h.1 F k)
    go (e ∷ E) (inr h) = or_right (some_interferes e F) _ (go E h)

-- effects that are both reads, or whose regions are apart as paths, don't interfere
pub apart_free : (e f : Effect) → ((is_write e.access || is_write f.access) ≡ true → paths.apart [] (as_path e.region) (as_path f.region) ≡ true) → interferes e f ≡ false
apart_free e f h = go (is_write e.access || is_write f.access) h
  where
    go : (w : Bool) → (w ≡ true → paths.apart [] (as_path e.region) (as_path f.region) ≡ true) → (w && not (apart e.region f.region)) ≡ false
    go false h = refl
    go true h = ap not (sym (apart_elems e.region f.region) ∙ h refl)

-- of each effect of a list that isn't on a local region
abbrev pub EachKept : (Effect → Type 0) → List Effect → Type 0
EachKept A [] = Unit {0}
EachKept A (e ∷ E) = (is_local e ≡ false → A e) × EachKept A E

-- where no two of them interfere, blocks with these effects let each other by, leaving aside those on local regions
pub lets_kept : (A B : Effect → Type 0) → ((e f : Effect) → A e → B f → interferes e f ≡ false) → (E F : List Effect) → EachKept A E → EachKept B F →
    leaving_locals lets E F ≡ true
lets_kept A B free E F h k = ap not (all E h)
  where
    some : (e : Effect) → A e → (F : List Effect) → EachKept B F → some_interferes e (without_locals F) ≡ false
    some e a [] k = refl
    some e a (f ∷ F) k = kept (is_local f) k.0 (some e a F k.1)
      where
        kept : (c : Bool) → (c ≡ false → B f) → some_interferes e (without_locals F) ≡ false → some_interferes e (kept_if c f (without_locals F)) ≡ false
        kept true b rest = rest
        kept false b rest = or_neither (interferes e f) _ (free e f a (b refl)) rest

    all : (E : List Effect) → EachKept A E → lists_interfere (without_locals E) (without_locals F) ≡ false
    all [] h = refl
    all (e ∷ E) h = kept (is_local e) h.0 (all E h.1)
      where
        kept : (c : Bool) → (c ≡ false → A e) → lists_interfere (without_locals E) (without_locals F) ≡ false →
            lists_interfere (kept_if c e (without_locals E)) (without_locals F) ≡ false
        kept true a rest = rest
        kept false a rest = or_neither (some_interferes e (without_locals F)) _ (some e (a refl) F k) rest
