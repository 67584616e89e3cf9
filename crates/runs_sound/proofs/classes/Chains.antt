-- Chains of superclasses: they are no longer than there are classes, and what they make of regions and of region arguments.
use Rattle.std.proofs.Common.{◌≡◌, ◌<◌, ◌≤◌, ⊎_elim, ℕ, zero, suc, ◌==◌, eqb, Bool, true, false, List, [], ◌∷◌, map, length, refl, sym, ap, ◌∙◌, subst, arith, Some, None, IsTrue}
use Rattle.std.specs.Prelude.{All, pos, ◌||◌}
use Rattle.std.specs.List.{AllByRecursion, IsDistinct, list_any}
use Rattle.std.proofs.lemmas.List.Elements.{All-head, All-tail, All-map}
use Rattle.std.proofs.lemmas.Bool.{cases_Bool, false≢true, eqb-true, eq-eqb, cond-true, cond-false, false_from_ne_true}
use Rattle.std.proofs.lemmas.Map.Steps.{length-le_from_distinct_below}
use Rattle.std.proofs.lemmas.Option.{option_and_then_some, slice_get_within}
use Rattle.lang_base.specs.declared.region.Rpl.{Rpl}
use Rattle.lang_base.specs.Matching.{Env}
use Rattle.lang_base.specs.Regions.{fully_specified, substituted}
use Rattle.lang_typed.specs.Plain.{PlainProgram, PlainClass, PlainParent}
use Rattle.lang_typed.specs.Scope.{class_at, parent_of, Above, itself, through_parent, IsBelow}
use Rattle.lang_typed.specs.Scope.{IsBelow as below_case}
use Rattle.lang_typed.specs.WellTyped.{WellTyped}
use Rattle.lang_meaning.specs.Counts.{is_below}
use Rattle.lang_meaning.specs.Regions.{regions_above, concrete}
use Rattle.region_paths.proofs.Putting.{specified_matches_one}
use Rattle.runs_theory.specs.Objects.{Path, Region}
use Rattle.runs_program.specs.Steps.{named_by}
use Rattle.runs_sound.specs.Settings.{class_env}
use Rattle.runs_sound.specs.Shapes.{regions_of_parent, Is, same, up, AllMatch, GoodObject}
use Rattle.runs_sound.proofs.scopes.Closed.{ClosedPath}
use Rattle.runs_sound.proofs.classes.Types.{NoOwn, Stands, path_up}
use Rattle.runs_sound.proofs.classes.Classes.{path_alone, class_concrete, alone_put, stands_args, parent_extends, parent_closed, good_parent}

module _ (P : PlainProgram) (wt : WellTyped P) where
  -- a superclass has a lower rank
  pub parent_lower : {c : ℕ} {p : PlainParent} → parent_of P c ≡ Some p → wt.rank p.class < wt.rank c
  parent_lower {c} {p} e = option_and_then_some (λ (class : PlainClass). class.parent) (class_at P c) p e (λ k q z. (parent_extends P wt q e).before)

  pub is_lower : {d c : ℕ} {rs qs : List Region} → Is P d rs c qs → wt.rank c ≤ wt.rank d
  is_lower same = omega arith
  is_lower (up e h) = let a = parent_lower e in let b = is_lower h in omega (arith, a, b)

  pub above_lower : {c d : ℕ} {args owned : List Rpl} → Above P c args d owned → wt.rank d ≤ wt.rank c
  above_lower itself = omega arith
  above_lower (through_parent e h) = let a = parent_lower e in let b = above_lower h in omega (arith, a, b)

  -- the classes below the last one of a chain
  members_of : {d c : ℕ} {rs qs : List Region} → Is P d rs c qs → List ℕ
  members_of same = []
  members_of (up {d = d} e h) = d ∷ members_of h

  ranks_below : {d c : ℕ} {rs qs : List Region} (h : Is P d rs c qs) (m : ℕ) → wt.rank d < m → AllByRecursion (λ y. wt.rank y < m) (members_of h)
  unfolding members_of
  ranks_below same m l = tt
  ranks_below (up e h) m l = (l, ranks_below h m (let a = parent_lower e in omega (arith, a, l)))

  others : (d : ℕ) (xs : List ℕ) → AllByRecursion (λ y. wt.rank y < wt.rank d) xs → AllByRecursion (λ y. eqb d y ≡ false) xs
  others d [] h = tt
  others d (x ∷ xs) h = (false_from_ne_true (eqb d x) (λ t. (let a = h.0 in let e : wt.rank d ≡ wt.rank x = ap wt.rank (eqb-true d x t) in omega (arith, a, e))), others d xs h.1)

  distinct_members : {d c : ℕ} {rs qs : List Region} (h : Is P d rs c qs) → IsDistinct eqb (members_of h)
  unfolding IsDistinct members_of
  distinct_members same = tt
  distinct_members (up {d = d} e h) = (others d (members_of h) (ranks_below h (wt.rank d) (parent_lower e)), distinct_members h)

  class_number : {c : ℕ} {p : PlainParent} → parent_of P c ≡ Some p → c < length P.classes
  class_number {c} {p} e = option_and_then_some (λ (class : PlainClass). class.parent) (class_at P c) p e (λ k q z. slice_get_within P.classes c k q)

  members_below : {d c : ℕ} {rs qs : List Region} (h : Is P d rs c qs) (q : ℕ) → list_any (eqb q) (members_of h) ≡ true → q < length P.classes
  unfolding members_of
  members_below same q a = absurd (false≢true a)
  members_below (up {d = d} e h) q a =
      ⊎_elim (λ t. subst (λ z. z < length P.classes) (sym (eqb-true q d t)) (class_number e))
      (λ f. members_below h q (sym (ap (λ z. z || list_any (eqb q) (members_of h)) f) ∙ a)) (cases_Bool (eqb q d))

  pub steps : {d c : ℕ} {rs qs : List Region} → Is P d rs c qs → ℕ
  steps h = length (members_of h)

  pub few_steps : {d c : ℕ} {rs qs : List Region} (h : Is P d rs c qs) → steps h ≤ length P.classes
  unfolding steps
  few_steps h = length-le_from_distinct_below (members_of h) (length P.classes) (distinct_members h) (members_below h)

  other_class : (c d : ℕ) {p : PlainParent} → parent_of P c ≡ Some p → wt.rank d ≤ wt.rank p.class → (c == d) ≡ false
  other_class c d e l = false_from_ne_true (c == d) (λ t. (let a = parent_lower e in let q : wt.rank c ≡ wt.rank d = ap wt.rank (eqb-true c d t) in omega (arith, a, l, q)))

  -- the class of an object is below its static class
  below_is : {d c : ℕ} {rs qs : List Region} (h : Is P d rs c qs) (k : ℕ) → steps h ≤ k → is_below (parent_of P) k d c ≡ true
  unfolding steps members_of
  below_is {d} same zero l = eq-eqb d d refl
  below_is {d} same (suc k) l = cond-true (d == d) true _ (eq-eqb d d refl)
  below_is (up e h) zero l = absurd (omega (arith, l))
  below_is {d} {c} (up {p = p} e h) (suc k) l =
      cond-false (d == c) true _ (other_class d c e (is_lower h))
      ∙ ap (λ o. elim o as (λ z. Bool) [ None ↦ false | Some p ↦ is_below (parent_of P) k p.class c ]) e
      ∙ below_is h k (omega (arith, l))

  pub is_below_it : {d c : ℕ} {rs qs : List Region} → Is P d rs c qs → is_below (parent_of P) (length P.classes) d c ≡ true
  is_below_it h = below_is h (length P.classes) (few_steps h)

  -- its regions as those of the class above are those that the meaning computes
  above_is : (path : Path) {d c : ℕ} {rs qs : List Region} (h : Is P d rs c qs) (k : ℕ) → steps h ≤ k →
      regions_above (named_by path) (parent_of P) k d rs c ≡ qs
  unfolding steps members_of
  above_is path same zero l = refl
  above_is path {d} {c} {rs} same (suc k) l = cond-true (d == d) rs _ (eq-eqb d d refl)
  above_is path (up e h) zero l = absurd (omega (arith, l))
  above_is path {d} {c} {rs} {qs} (up {p = p} e h) (suc k) l =
      cond-false (d == c) rs _ (other_class d c e (is_lower h))
      ∙ ap (λ o. elim o as (λ z. List Region) [ None ↦ rs | Some p ↦ regions_above (named_by path) (parent_of P) k p.class (regions_of_parent rs p) c ]) e
      ∙ above_is path h k (omega (arith, l))

  pub regions_are : (path : Path) {d c : ℕ} {rs qs : List Region} → Is P d rs c qs →
      regions_above (named_by path) (parent_of P) (length P.classes) d rs c ≡ qs
  regions_are path h = above_is path h (length P.classes) (few_steps h)

  pub is_from_below : {c d : ℕ} → IsBelow P c d → (rs : List Region) → (qs : List Region) × Is P c rs d qs
  is_from_below below_case.same rs = (rs, same)
  is_from_below (below_case.below {p = p} e h) rs = let z = is_from_below h (regions_of_parent rs p) in (z.0, up e z.1)

  pub same_parent : (c : ℕ) {p q : PlainParent} → parent_of P c ≡ Some p → parent_of P c ≡ Some q → p ≡ q
  same_parent c {p} {q} e f = let z : Some p ≡ Some q = sym e ∙ f in cc

  -- arguments that match the regions of a class match those of a class above it
  pub above_match : (env : Env) → (env.own ≡ λ d. pos 0) → {c c' d d' : ℕ} {args owned : List Rpl} {rs qs : List Region} → Above P c args d owned →
      Is P c' rs d' qs → c ≡ c' → d ≡ d' →
      GoodObject P c rs → All (λ a. All NoOwn a.elems) args → AllMatch env args rs → AllMatch env owned qs × All (λ a. All NoOwn a.elems) owned
  above_match env o itself same e1 e2 g al m = (m, al)
  above_match env o itself (up e h) e1 e2 g al m = absurd (let a = parent_lower e in let b = is_lower h in let c = ap wt.rank e1 in let d = ap wt.rank e2 in omega (arith, a, b, c, d))
  above_match env o (through_parent e a) same e1 e2 g al m = absurd (let x = parent_lower e in let b = above_lower a in let c = ap wt.rank e1 in let d = ap wt.rank e2 in omega (arith, x, b, c, d))
  above_match env o {c = c} {args = args} {rs = rs} {qs = qs} (through_parent {p = p} e a) (up {c = c''} {p = q} f h) e1 e2 g al m =
      let x = parent_extends P wt g.is e in
      let cl = parent_closed P wt c g.class p x in
      let z = same_parent c (subst (λ y. parent_of P y ≡ Some q) (sym e1) f) e in
      above_match env o a (subst (λ (r : PlainParent). Is P r.class (regions_of_parent rs r) c'' qs) z h) refl e2 (good_parent P wt g e)
      (All-map (λ a. All NoOwn a.elems) (substituted args) p.args (λ j d l. alone_put args al _ (path_alone (length g.class.params) _ (cl j d l))))
      (matched (stands_args (length g.class.params) env args rs m g.arity al o) p.args cl x.full)
    where
      matched : {n : ℕ} → Stands n 0 env (class_env rs) args → (ps : List Rpl) → All (ClosedPath n 0) ps → All (λ a. IsTrue (fully_specified a)) ps →
          AllMatch env (map (substituted args) ps) (map (λ a. concrete (named_by []) (record { values = []; regions = rs; locals = [] }) a) ps)
      matched s [] cl fu = tt
      matched {n} s (b ∷ ps) cl fu =
          let c0 = All-head (ClosedPath n 0) b ps cl in (
            path_up n 0 env (class_env rs) args s b c0 _
                ((specified_matches_one (class_env rs) b (All-head (λ a. IsTrue (fully_specified a)) b ps fu) _).1 (class_concrete n rs b c0)),
            matched s ps (All-tail (ClosedPath n 0) b ps cl) (All-tail (λ a. IsTrue (fully_specified a)) b ps fu),
          )
