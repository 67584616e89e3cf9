-- Paths that are apart stay apart with the environment put in, and match no common region.
use Rattle.std.proofs.Common.{◌≡◌, ◌≢◌, ◌+◌, ℕ, ℤ, true, false, not, ◌&&◌, ◌||◌, cond, eqb, List, [], ◌∷◌, ◌++◌, length, reverse, map, refl, sym, ap, ◌∙◌}
use Rattle.std.proofs.Common.{subst, inl, inr, ⊎_elim, arith}
use Rattle.std.specs.Prelude.{All}
use Rattle.std.specs.Ordering.{int_eq}
use Rattle.std.proofs.lemmas.Bool.{and_parts, and_from, or_cases, or_left, or_right, or_parts, false≢true, eqb-true, eq-eqb, ne_eqb, not-true}
use Rattle.std.proofs.lemmas.Bool.{false_from_ne_true}
use Rattle.std.proofs.lemmas.Bool.Decides.{Decides-int_eq}
use Rattle.std.proofs.lemmas.List.{map-append, reverse-append, length-append, length-map}
use Rattle.std.proofs.lemmas.List.Elements.{All-head, All-tail}
use Rattle.std.proofs.lemmas.List.Sums.{sum_by-append}
use Rattle.lang_base.specs.declared.elems.Elem.{Elem}
use Rattle.lang_base.specs.declared.elems.Elem.TheVariants.{Name, At, Any, Star, Local}
use Rattle.lang_base.specs.declared.elems.Index.{Index}
use Rattle.lang_base.specs.declared.elems.Index.TheVariants.{Literal, Variable, Renamed, Own}
use Rattle.lang_base.specs.declared.region.Head.{Head}
use Rattle.lang_base.specs.declared.region.Head.TheVariants.{Root, Param}
use Rattle.lang_base.specs.declared.region.Rpl.{Rpl}
use Rattle.lang_base.specs.declared.effect.Constraint.{Constraint}
use Rattle.lang_base.specs.Regions.{is_star, is_local, is_index, same_head, is_root, elem_within, begins_with_star, heads_within, within, argument, substituted}
use Rattle.lang_base.specs.Apart.{distinct_index, distinct, apart_front, solid, shorter, apart_as_shorter, apart_by, apart_by_some, apart}
use Rattle.lang_base.specs.Matching.{is_plain, all_plain, Env, IsEnv, Holds, number_of, put_elem, put_in, head_region, Fits, FitsAll, Matches, MatchNoCommon}
use Rattle.lang_base.specs.Matching.{with_regions}
use Rattle.region_paths.proofs.Inclusion.{Covers, none, one, stop, skip, Covers-from, Covers-to, star_is, elem_within-cases, elem_within-same, elem_within-refl}
use Rattle.region_paths.proofs.Inclusion.{elem_within-any}
use Rattle.region_paths.proofs.Lists.{front-step, rev-cons, solid-cons, solid-one, solid-length, shorter-parts, shorter-from}
use Rattle.region_paths.proofs.Putting.{substitution_puts_in}
use Rattle.region_paths.proofs.Same.{same_head-is, same_head-refl}
use Rattle.region_paths.proofs.Paths.{rule_of, by_rule, apart-within}

-- elements with the environment put in

put_elem-star : (env : Env) (x : Elem) → is_star (put_elem env x) ≡ is_star x
put_elem-star env (Name n) = refl
put_elem-star env (At i) = refl
put_elem-star env Any = refl
put_elem-star env Star = refl
put_elem-star env (Local a b) = refl

put_elem-local : (env : Env) (x : Elem) → is_local (put_elem env x) ≡ is_local x
put_elem-local env (Name n) = refl
put_elem-local env (At i) = refl
put_elem-local env Any = refl
put_elem-local env Star = refl
put_elem-local env (Local a b) = refl

put_elem-index : (env : Env) (x : Elem) → is_index (put_elem env x) ≡ is_index x
put_elem-index env (Name n) = refl
put_elem-index env (At i) = refl
put_elem-index env Any = refl
put_elem-index env Star = refl
put_elem-index env (Local a b) = refl

put_elem-within : (env : Env) (x y : Elem) → elem_within x y ≡ true → elem_within (put_elem env x) (put_elem env y) ≡ true
put_elem-within env x y e =
    ⊎_elim
    (λ s. elem_within-same _ _ (ap (put_elem env) s))
    (λ p. subst (λ z. elem_within (put_elem env x) (put_elem env z) ≡ true) (sym p.0) (elem_within-any (put_elem env x) (put_elem-index env x ∙ p.1)))
    (elem_within-cases x y e)

Covers-put : (env : Env) {b a : List Elem} → Covers b a → Covers (map (put_elem env) b) (map (put_elem env) a)
Covers-put env none = none
Covers-put env (one {y = y} {x = x} e s r) = one (put_elem-within env x y e) (put_elem-star env y ∙ s) (Covers-put env r)
Covers-put env (stop r) = stop (Covers-put env r)
Covers-put env (skip {x = x} l r) = skip (put_elem-local env x ∙ l) (Covers-put env r)

plain-local : (x : Elem) → is_plain x ≡ true → is_local x ≡ false
plain-local (Name n) h = refl
plain-local (At (Literal k)) h = refl
plain-local x h = absurd (false≢true h)

plain-star : (x : Elem) → is_plain x ≡ true → is_star x ≡ false
plain-star (Name n) h = refl
plain-star (At (Literal k)) h = refl
plain-star x h = absurd (false≢true h)

-- `*` takes up plain elements in front
skip_plain : (r b a : List Elem) → all_plain r ≡ true → Covers (Star ∷ b) a → Covers (Star ∷ b) (r ++ a)
skip_plain [] b a h d = d
skip_plain (x ∷ r) b a h d = let p = and_parts (is_plain x) _ h in skip (plain-local x p.0) (skip_plain r b a p.1 d)

plain_after : (r b a : List Elem) → all_plain r ≡ true → Covers b a → Covers (r ++ b) (r ++ a)
plain_after [] b a h d = d
plain_after (x ∷ r) b a h d = let p = and_parts (is_plain x) _ h in one (elem_within-refl x) (plain-star x p.0) (plain_after r b a p.1 d)

starred : (b : List Elem) → begins_with_star b ≡ true → (c : List Elem) × (b ≡ Star ∷ c)
starred [] h = absurd (false≢true h)
starred (x ∷ c) h = (c, ap (λ z. z ∷ c) (star_is x h))

module _ (given : List Constraint) (env : Env) (v : IsEnv given env) where
  region-plain : (h : Head) → all_plain (head_region env h) ≡ true
  region-plain Root = refl
  region-plain (Param p) = v.regions p

  under_star : (r b a : List Elem) → all_plain r ≡ true → begins_with_star b ≡ true → Covers b a → Covers (map (put_elem env) b) (r ++ map (put_elem env) a)
  under_star r b a h s d =
      let c = starred b s in
      subst (λ z. Covers (map (put_elem env) z) (r ++ map (put_elem env) a)) (sym c.1)
      (skip_plain r _ _ h (Covers-put env (subst (λ z. Covers z a) c.1 d)))

  put_lists : (h k : Head) (b a : List Elem) → heads_within h k b ≡ true → Covers b a →
      Covers (head_region env k ++ map (put_elem env) b) (head_region env h ++ map (put_elem env) a)
  put_lists Root Root b a e d = Covers-put env d
  put_lists (Param p) (Param q) b a e d =
      subst (λ z. Covers (env.region z ++ map (put_elem env) b) (env.region p ++ map (put_elem env) a)) (eqb-true p q e)
      (plain_after (env.region p) _ _ (v.regions p) (Covers-put env d))
  put_lists (Param p) Root b a e d = under_star (env.region p) b a (v.regions p) e d
  put_lists Root (Param q) b a e d = absurd (false≢true e)

  -- inclusion stays with the environment put in
  pub put-within : (a b : Rpl) → within a b ≡ true → within (put_in env a) (put_in env b) ≡ true
  unfolding within put_in
  put-within a b w =
      let p = and_parts (heads_within a.head b.head b.elems) _ w in
      Covers-to (put_lists a.head b.head b.elems a.elems p.0 (Covers-from b.elems a.elems p.1))

  number-apart : (j k : ℤ) → j ≢ k → not (int_eq j k) ≡ true
  number-apart j k n = ap not (false_from_ne_true _ (λ t. n ((Decides-int_eq j k).0 t)))

  put_index-distinct : (x y : Index) → distinct_index x y ≡ true → not (int_eq (number_of env x) (number_of env y)) ≡ true
  put_index-distinct (Literal j) (Literal k) h = h
  put_index-distinct (Variable x) (Renamed y) h = number-apart _ _ (λ e. v.copies x (e ∙ ap env.renamed (sym (eqb-true x y h))))
  put_index-distinct (Renamed x) (Variable y) h = number-apart _ _ (λ e. v.copies y (sym e ∙ ap env.renamed (eqb-true x y h)))
  put_index-distinct x y h = absurd (false≢true h)

  made-apart : (a b c d : ℕ) → not (eqb a c && eqb b d) ≡ true → not (eqb (env.made a b).0 (env.made c d).0 && eqb (env.made a b).1 (env.made c d).1) ≡ true
  made-apart a b c d h =
      ap not (false_from_ne_true _ (λ t.
      let p = and_parts (eqb (env.made a b).0 (env.made c d).0) _ t in
      let e : env.made a b ≡ env.made c d = pair_same _ _ (eqb-true _ _ p.0) (eqb-true _ _ p.1) in
      let k = v.locals a b c d e in
      false≢true (sym (not-true _ h) ∙ and_from _ _ (eq-eqb a c k.0) (eq-eqb b d k.1))))
    where
      pair_same : (s t : ℕ × ℕ) → s.0 ≡ t.0 → s.1 ≡ t.1 → s ≡ t
      pair_same s t e f = ap (λ z. (z, s.1)) e ∙ ap (λ z. (t.0, z)) f

  put_elem-distinct : (x y : Elem) → distinct x y ≡ true → distinct (put_elem env x) (put_elem env y) ≡ true
  put_elem-distinct (Name m) (Name n) h = h
  put_elem-distinct (Name m) (Local c d) h = refl
  put_elem-distinct (Name m) (At i) h = refl
  put_elem-distinct (Name m) Any h = refl
  put_elem-distinct (Name m) Star h = h
  put_elem-distinct (Local a b) (Local c d) h = made-apart a b c d h
  put_elem-distinct (Local a b) (Name n) h = refl
  put_elem-distinct (Local a b) (At i) h = refl
  put_elem-distinct (Local a b) Any h = refl
  put_elem-distinct (Local a b) Star h = h
  put_elem-distinct (At i) (At j) h = put_index-distinct i j h
  put_elem-distinct (At i) (Name n) h = refl
  put_elem-distinct (At i) (Local c d) h = refl
  put_elem-distinct Any (Name n) h = refl
  put_elem-distinct Any (Local c d) h = refl
  put_elem-distinct Star (Name n) h = absurd (false≢true h)
  put_elem-distinct Star (Local c d) h = absurd (false≢true h)
  put_elem-distinct Star (At i) h = absurd (false≢true h)
  put_elem-distinct Star Any h = absurd (false≢true h)
  put_elem-distinct Star Star h = absurd (false≢true h)
  put_elem-distinct x y h = absurd (false≢true h)

  put_front : (a b : List Elem) → apart_front a b ≡ true → apart_front (map (put_elem env) a) (map (put_elem env) b) ≡ true
  put_front [] b h = absurd (false≢true h)
  put_front (x ∷ a) [] h = absurd (false≢true h)
  put_front (x ∷ a) (y ∷ b) h =
      let p = and_parts (not (is_star x || is_star y)) _ h in
      let q = or_parts (is_star x) (is_star y) (not-true _ p.0) in
      front-step (put_elem env x) (put_elem env y) (map (put_elem env) a) (map (put_elem env) b) (put_elem-star env x ∙ q.0) (put_elem-star env y ∙ q.1)
      ∙ ⊎_elim
      (λ e. or_left _ _ (put_elem-distinct x y e))
      (λ e. or_right (distinct (put_elem env x) (put_elem env y)) _ (put_front a b e))
      (or_cases (distinct x y) _ p.1)

  -- the walk goes on after a front that both have, and stops before what is after both
  after_front : (r a b : List Elem) → all_plain r ≡ true → apart_front a b ≡ true → apart_front (r ++ a) (r ++ b) ≡ true
  after_front [] a b h f = f
  after_front (x ∷ r) a b h f =
      let p = and_parts (is_plain x) _ h in
      front-step x x (r ++ a) (r ++ b) (plain-star x p.0) (plain-star x p.0) ∙ or_right (distinct x x) _ (after_front r a b p.1 f)

  front_before : (a b r q : List Elem) → apart_front a b ≡ true → apart_front (a ++ r) (b ++ q) ≡ true
  front_before [] b r q h = absurd (false≢true h)
  front_before (x ∷ a) [] r q h = absurd (false≢true h)
  front_before (x ∷ a) (y ∷ b) r q h =
      let p = and_parts (not (is_star x || is_star y)) _ h in
      let s = or_parts (is_star x) (is_star y) (not-true _ p.0) in
      front-step x y (a ++ r) (b ++ q) s.0 s.1
      ∙ ⊎_elim
      (λ e. or_left _ _ e)
      (λ e. or_right (distinct x y) _ (front_before a b r q e))
      (or_cases (distinct x y) _ p.1)

  -- an order of putting in and turning round
  reverse_put : (a : List Elem) → reverse (map (put_elem env) a) ≡ map (put_elem env) (reverse a)
  reverse_put [] = refl
  reverse_put (x ∷ a) =
      rev-cons (put_elem env x) (map (put_elem env) a) ∙ ap (λ z. z ++ put_elem env x ∷ []) (reverse_put a)
      ∙ sym (ap (λ z. map (put_elem env) z) (rev-cons x a) ∙ map-append (put_elem env) (reverse a) (x ∷ []))

  reverse_after : (r a : List Elem) → reverse (r ++ map (put_elem env) a) ≡ map (put_elem env) (reverse a) ++ reverse r
  reverse_after r a = reverse-append r (map (put_elem env) a) ∙ ap (λ z. z ++ reverse r) (reverse_put a)

  solid_put : (a : List Elem) → solid (map (put_elem env) a) ≡ solid a
  solid_put [] = refl
  solid_put (x ∷ a) =
      solid-cons (put_elem env x) (map (put_elem env) a)
      ∙ ap (λ z. cond (not z) 1 0 + solid (map (put_elem env) a)) (put_elem-star env x)
      ∙ ap (λ z. cond (not (is_star x)) 1 0 + z) (solid_put a) ∙ sym (solid-cons x a)

  solid-append : (a b : List Elem) → solid (a ++ b) ≡ solid a + solid b
  solid-append a b = sum_by-append (λ y. cond (not (is_star y)) 1 0) a b

  solid_plain : (r : List Elem) → all_plain r ≡ true → solid r ≡ length r
  solid_plain [] h = refl
  solid_plain (x ∷ r) h =
      let p = and_parts (is_plain x) _ h in
      let k = solid_plain r p.1 in
      let e = solid-one x r (plain-star x p.0) in
      omega arith

  shorter_after : (r a b : List Elem) → all_plain r ≡ true → shorter a b ≡ true → shorter (r ++ map (put_elem env) a) (r ++ map (put_elem env) b) ≡ true
  shorter_after r a b h s =
      let p = shorter-parts a b s in
      let p0 = p.0 in
      let p1 = p.1 in
      let k = solid_plain r h in
      let ea = solid-append r (map (put_elem env) a) in
      let eb = solid-append r (map (put_elem env) b) in
      let sa = solid_put a in
      let sb = solid_put b in
      let la = length-append r (map (put_elem env) a) in
      let lm = length-map a (put_elem env) in
      shorter-from (r ++ map (put_elem env) a) (r ++ map (put_elem env) b) (omega arith) (omega arith)

  shorter_root : (r a b : List Elem) → shorter a b ≡ true → shorter (map (put_elem env) a) (r ++ map (put_elem env) b) ≡ true
  shorter_root r a b s =
      let p = shorter-parts a b s in
      let p0 = p.0 in
      let p1 = p.1 in
      let eb = solid-append r (map (put_elem env) b) in
      let sa = solid_put a in
      let sb = solid_put b in
      let lm = length-map a (put_elem env) in
      shorter-from (map (put_elem env) a) (r ++ map (put_elem env) b) (omega arith) (omega arith)

  put_shorter : (h k : Head) (a b : List Elem) → (same_head h k || is_root h) ≡ true → shorter a b ≡ true →
      shorter (head_region env h ++ map (put_elem env) a) (head_region env k ++ map (put_elem env) b) ≡ true
  put_shorter Root k a b e s = shorter_root (head_region env k) a b s
  put_shorter (Param p) Root a b e s = absurd (false≢true e)
  put_shorter (Param p) (Param q) a b e s =
      let n : eqb p q ≡ true = ⊎_elim (λ t. t) (λ t. absurd (false≢true t)) (or_cases (eqb p q) false e) in
      subst (λ z. shorter (env.region p ++ map (put_elem env) a) (env.region z ++ map (put_elem env) b) ≡ true) (eqb-true p q n) (shorter_after (env.region p) a b (v.regions p) s)

  put_from_left : (h k : Head) (a b : List Elem) → same_head h k ≡ true → apart_front a b ≡ true →
      apart_front (head_region env h ++ map (put_elem env) a) (head_region env k ++ map (put_elem env) b) ≡ true
  put_from_left h k a b e f =
      subst (λ z. apart_front (head_region env h ++ map (put_elem env) a) (head_region env z ++ map (put_elem env) b) ≡ true) (same_head-is h k e)
      (after_front (head_region env h) _ _ (region-plain h) (put_front a b f))

  put_from_right : (r q a b : List Elem) → apart_front (reverse a) (reverse b) ≡ true →
      apart_front (reverse (r ++ map (put_elem env) a)) (reverse (q ++ map (put_elem env) b)) ≡ true
  put_from_right r q a b f =
      ap (λ z. apart_front z (reverse (q ++ map (put_elem env) b))) (reverse_after r a)
      ∙ ap (λ z. apart_front (map (put_elem env) (reverse a) ++ reverse r) z) (reverse_after q b)
      ∙ front_before (map (put_elem env) (reverse a)) (map (put_elem env) (reverse b)) (reverse r) (reverse q) (put_front (reverse a) (reverse b) f)

-- being apart is symmetric

not_eqb_swap : (x y : ℕ) → not (eqb x y) ≡ true → not (eqb y x) ≡ true
not_eqb_swap x y h = ap not (ne_eqb y x (λ e. false≢true (sym (not-true _ h) ∙ eq-eqb x y (sym e))))

not_int_swap : (x y : ℤ) → not (int_eq x y) ≡ true → not (int_eq y x) ≡ true
not_int_swap x y h = ap not (false_from_ne_true _ (λ t. false≢true (sym (not-true _ h) ∙ (Decides-int_eq x y).1 (sym ((Decides-int_eq y x).0 t)))))

not_pair_swap : (a b c d : ℕ) → not (eqb a c && eqb b d) ≡ true → not (eqb c a && eqb d b) ≡ true
not_pair_swap a b c d h =
    ap not (false_from_ne_true _ (λ t.
    let p = and_parts (eqb c a) _ t in
    false≢true (sym (not-true _ h) ∙ and_from _ _ (eq-eqb a c (sym (eqb-true c a p.0))) (eq-eqb b d (sym (eqb-true d b p.1))))))

index_swap : (x y : Index) → distinct_index x y ≡ true → distinct_index y x ≡ true
index_swap (Literal j) (Literal k) h = not_int_swap j k h
index_swap (Variable x) (Renamed y) h = eq-eqb y x (sym (eqb-true x y h))
index_swap (Renamed x) (Variable y) h = eq-eqb y x (sym (eqb-true x y h))
index_swap x y h = absurd (false≢true h)

distinct_swap : (x y : Elem) → distinct x y ≡ true → distinct y x ≡ true
distinct_swap (Name m) (Name n) h = not_eqb_swap m n h
distinct_swap (Name m) (Local c d) h = refl
distinct_swap (Name m) (At i) h = refl
distinct_swap (Name m) Any h = refl
distinct_swap (Name m) Star h = absurd (false≢true h)
distinct_swap (Local a b) (Local c d) h = not_pair_swap a b c d h
distinct_swap (Local a b) (Name n) h = refl
distinct_swap (Local a b) (At i) h = refl
distinct_swap (Local a b) Any h = refl
distinct_swap (Local a b) Star h = absurd (false≢true h)
distinct_swap (At i) (At j) h = index_swap i j h
distinct_swap (At i) (Name n) h = refl
distinct_swap (At i) (Local c d) h = refl
distinct_swap Any (Name n) h = refl
distinct_swap Any (Local c d) h = refl
distinct_swap Star (Name n) h = absurd (false≢true h)
distinct_swap Star (Local c d) h = absurd (false≢true h)
distinct_swap Star (At i) h = absurd (false≢true h)
distinct_swap Star Any h = absurd (false≢true h)
distinct_swap Star Star h = absurd (false≢true h)
distinct_swap x y h = absurd (false≢true h)

front_swap : (a b : List Elem) → apart_front a b ≡ true → apart_front b a ≡ true
front_swap [] b h = absurd (false≢true h)
front_swap (x ∷ a) [] h = absurd (false≢true h)
front_swap (x ∷ a) (y ∷ b) h =
    let p = and_parts (not (is_star x || is_star y)) _ h in
    let s = or_parts (is_star x) (is_star y) (not-true _ p.0) in
    front-step y x b a s.1 s.0
    ∙ ⊎_elim
    (λ e. or_left _ _ (distinct_swap x y e))
    (λ e. or_right (distinct y x) _ (front_swap a b e))
    (or_cases (distinct x y) _ p.1)

same_head_swap : (h k : Head) → same_head h k ≡ true → same_head k h ≡ true
same_head_swap h k e = subst (λ z. same_head z h ≡ true) (same_head-is h k e) (same_head-refl h)

by_swap : (c : Constraint) (a b : Rpl) → apart_by c a b ≡ true → apart_by c b a ≡ true
by_swap c a b h =
    ⊎_elim
    (λ e. let p = and_parts (within a c.left) _ e in or_right (within b c.left && within a c.right) _ (and_from _ _ p.1 p.0))
    (λ e. let p = and_parts (within a c.right) _ e in or_left _ _ (and_from _ _ p.1 p.0))
    (or_cases (within a c.left && within b c.right) _ h)

by_some_swap : (cs : List Constraint) (a b : Rpl) → apart_by_some cs a b ≡ true → apart_by_some cs b a ≡ true
by_some_swap [] a b h = absurd (false≢true h)
by_some_swap (c ∷ cs) a b h =
    ⊎_elim
    (λ e. or_left _ _ (by_swap c a b e))
    (λ e. or_right (apart_by c b a) _ (by_some_swap cs a b e))
    (or_cases (apart_by c a b) _ h)

pub apart_swap : (given : List Constraint) (a b : Rpl) → apart given a b ≡ true → apart given b a ≡ true
apart_swap given a b h =
    by_rule given b a
    (⊎_elim
    (λ e. let p = and_parts (same_head a.head b.head) _ e in inl (and_from _ _ (same_head_swap a.head b.head p.0) (front_swap a.elems b.elems p.1)))
    (λ r. inr (⊎_elim
    (λ e. inl (⊎_elim (λ t. or_right (apart_as_shorter b a) _ t) (λ t. or_left _ _ t) (or_cases (apart_as_shorter a b) _ e)))
    (λ r. inr (⊎_elim
    (λ e. inl (front_swap (reverse a.elems) (reverse b.elems) e))
    (λ e. inr (by_some_swap given a b e))
    r))
    r))
    (rule_of given a b h))

-- two paths that are apart are apart with the environment put in, without constraints

put-by : (given : List Constraint) (env : Env) → IsEnv given env → (c : Constraint) → Holds env c → (a b : Rpl) → apart_by c a b ≡ true →
    apart [] (put_in env a) (put_in env b) ≡ true
put-by given env v c k a b h =
    ⊎_elim
    (λ e. let p = and_parts (within a c.left) _ e in
    apart-within [] (put_in env a) (put_in env c.left) (put_in env b) (put_in env c.right) (put-within given env v a c.left p.0) (put-within given env v b c.right p.1) k)
    (λ e. let p = and_parts (within a c.right) _ e in
    apart-within [] (put_in env a) (put_in env c.right) (put_in env b) (put_in env c.left) (put-within given env v a c.right p.0) (put-within given env v b c.left p.1) (apart_swap [] (put_in env c.left) (put_in env c.right) k))
    (or_cases (within a c.left && within b c.right) _ h)

put-by_some : (given : List Constraint) (env : Env) → IsEnv given env → (cs : List Constraint) → All (Holds env) cs → (a b : Rpl) →
    apart_by_some cs a b ≡ true → apart [] (put_in env a) (put_in env b) ≡ true
put-by_some given env v [] k a b h = absurd (false≢true h)
put-by_some given env v (c ∷ cs) k a b h =
    ⊎_elim
    (λ e. put-by given env v c (All-head (Holds env) c cs k) a b e)
    (λ e. put-by_some given env v cs (All-tail (Holds env) c cs k) a b e)
    (or_cases (apart_by c a b) _ h)

pub put-apart : (given : List Constraint) (env : Env) → IsEnv given env → (a b : Rpl) → apart given a b ≡ true → apart [] (put_in env a) (put_in env b) ≡ true
unfolding put_in
put-apart given env v a b h =
    ⊎_elim
    (λ e. let p = and_parts (same_head a.head b.head) _ e in
    by_rule [] (put_in env a) (put_in env b) (inl (put_from_left given env v a.head b.head a.elems b.elems p.0 p.1)))
    (λ r. ⊎_elim
    (λ e. by_rule [] (put_in env a) (put_in env b) (inr (inl (⊎_elim
    (λ t. let p = and_parts (same_head a.head b.head || is_root a.head) _ t in or_left _ _ (put_shorter given env v a.head b.head a.elems b.elems p.0 p.1))
    (λ t. let p = and_parts (same_head b.head a.head || is_root b.head) _ t in or_right (apart_as_shorter (put_in env a) (put_in env b)) _ (put_shorter given env v b.head a.head b.elems a.elems p.0 p.1))
    (or_cases (apart_as_shorter a b) _ e)))))
    (λ r. ⊎_elim
    (λ e. by_rule [] (put_in env a) (put_in env b) (inr (inr (inl (put_from_right given env v (head_region env a.head) (head_region env b.head) a.elems b.elems e)))))
    (λ e. put-by_some given env v given v.constraints a b e)
    r)
    r)
    (rule_of given a b h)

-- nothing is apart from itself, so paths that are apart match nothing in common

index_self : (x : Index) → distinct_index x x ≡ true → ⊥
index_self (Literal j) h = false≢true (sym (not-true _ h) ∙ (Decides-int_eq j j).1 refl)
index_self (Variable v) h = false≢true h
index_self (Renamed v) h = false≢true h
index_self (Own d) h = false≢true h

distinct_self : (x : Elem) → distinct x x ≡ true → ⊥
distinct_self (Name m) h = false≢true (sym (not-true _ h) ∙ eq-eqb m m refl)
distinct_self (At i) h = index_self i h
distinct_self Any h = false≢true h
distinct_self Star h = false≢true h
distinct_self (Local a b) h = false≢true (sym (not-true _ h) ∙ and_from _ _ (eq-eqb a a refl) (eq-eqb b b refl))

front_self : (a : List Elem) → apart_front a a ≡ true → ⊥
front_self [] h = false≢true h
front_self (x ∷ a) h =
    let p = and_parts (not (is_star x || is_star x)) _ h in
    ⊎_elim (λ e. distinct_self x e) (λ e. front_self a e) (or_cases (distinct x x) _ p.1)

shorter_self : (a : List Elem) → shorter a a ≡ true → ⊥
shorter_self a h = let p = (shorter-parts a a h).1 in let n = solid-length a in omega arith

pub apart_self : (a : Rpl) → apart [] a a ≡ true → ⊥
apart_self a h =
    ⊎_elim
    (λ e. front_self a.elems (and_parts (same_head a.head a.head) _ e).1)
    (λ r. ⊎_elim
    (λ e. ⊎_elim (λ t. longer t) (λ t. longer t) (or_cases (apart_as_shorter a a) _ e))
    (λ r. ⊎_elim (λ e. front_self (reverse a.elems) e) (λ e. false≢true e) r)
    r)
    (rule_of [] a a h)
  where
    longer : apart_as_shorter a a ≡ true → ⊥
    longer t = shorter_self a.elems (and_parts (same_head a.head a.head || is_root a.head) _ t).1

-- a region that a path matches, as a path, lies in it
fits-one : (env : Env) (x y : Elem) (r : List Elem) → r ≡ y ∷ [] → elem_within y (put_elem env x) ≡ true → is_star x ≡ false → {b a : List Elem} → Covers b a →
    Covers (put_elem env x ∷ b) (r ++ a)
fits-one env x y r e w s {b = b} {a = a} d = subst (λ z. Covers (put_elem env x ∷ b) (z ++ a)) (sym e) (one w (put_elem-star env x ∙ s) d)

fits-covers : (env : Env) (x : Elem) (r : List Elem) → Fits env x r → {b a : List Elem} → Covers b a → Covers (put_elem env x ∷ b) (r ++ a)
fits-covers env (Name n) r f d = fits-one env (Name n) (Name n) r f (elem_within-refl (Name n)) refl d
fits-covers env (At i) r f d = let k = At (Literal (number_of env i)) in fits-one env (At i) k r f (elem_within-refl k) refl d
fits-covers env Any r f d = fits-one env Any (At (Literal f.0)) r f.1 refl refl d
fits-covers env Star r f {b = b} {a = a} d = skip_plain r b a f (stop d)
fits-covers env (Local m n) r f d =
    fits-one env (Local m n) (Local (env.made m n).0 (env.made m n).1) r f (elem_within-refl (Local (env.made m n).0 (env.made m n).1)) refl d

FitsAll-covers : (env : Env) (a r : List Elem) → FitsAll env a r → Covers (map (put_elem env) a) r
FitsAll-covers env [] r f = subst (λ z. Covers [] z) (sym f) none
FitsAll-covers env (x ∷ a) r f =
    subst (λ z. Covers (put_elem env x ∷ map (put_elem env) a) z) (sym f.2) (fits-covers env x f.0 f.3 (FitsAll-covers env a f.1 f.4))

-- a region as a path
abbrev pub as_path : List Elem → Rpl
as_path r = record { head = Root; elems = r }

pub matches-within : (given : List Constraint) (env : Env) → IsEnv given env → (a : Rpl) (r : List Elem) → Matches env a r →
    within (as_path r) (put_in env a) ≡ true
unfolding within put_in Matches
matches-within given env v a r m =
    Covers-to (subst (λ z. Covers (head_region env a.head ++ map (put_elem env) a.elems) z) (sym m.1)
    (plain_after (head_region env a.head) _ _ (region-plain given env v a.head) (FitsAll-covers env a.elems m.0 m.2)))

pub no_common : (given : List Constraint) (env : Env) → IsEnv given env → (a b : Rpl) → apart given a b ≡ true → MatchNoCommon env a b
no_common given env v a b h = λ r m n.
    apart_self (as_path r)
    (apart-within [] (as_path r) (put_in env a) (as_path r) (put_in env b) (matches-within given env v a r m) (matches-within given env v b r n) (put-apart given env v a b h))

pub stays_apart : (given : List Constraint) (env : Env) → IsEnv given env → (a b p q : Rpl) → apart given a b ≡ true → within p (put_in env a) ≡ true →
    within q (put_in env b) ≡ true → apart [] p q ≡ true
stays_apart given env v a b p q h w u = apart-within [] p (put_in env a) q (put_in env b) w u (put-apart given env v a b h)

pub constraint_carried : (given : List Constraint) (env : Env) → IsEnv given env → (args : List Rpl) (c : Constraint) →
    apart given (substituted args c.left) (substituted args c.right) ≡ true → Holds (with_regions env (λ p. (put_in env (argument args p)).elems)) c
constraint_carried given env v args c h =
    let other = with_regions env (λ (p : ℕ). (put_in env (argument args p)).elems) in
    ap (λ z. apart [] z (put_in other c.right)) (sym (substitution_puts_in env args c.left))
    ∙ ap (λ z. apart [] (put_in env (substituted args c.left)) z) (sym (substitution_puts_in env args c.right))
    ∙ put-apart given env v (substituted args c.left) (substituted args c.right) h
