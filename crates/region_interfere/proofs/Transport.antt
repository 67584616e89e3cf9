-- The first pair of branches is that of the branches without the effects that meet nothing.
use Rattle.std.proofs.Common.{◌≡◌, ◌≢◌, ◌↔◌, ℕ, ◌<◌, true, false, IsTrue, List, [], length, get_or, Option, Some, None, sym, ap, ◌∙◌, subst, arith}
use Rattle.std.specs.List.{filter, AllByRecursion}
use Rattle.std.proofs.lemmas.Bool.{false≢true, false_from_ne_true}
use Rattle.std.proofs.lemmas.List.{get_or_read}
use Rattle.std.proofs.lemmas.List.Elements.{recursion_from_All}
use Rattle.lang_base.specs.declared.effect.Effect.{Effect}
use Rattle.lang_base.specs.declared.effect.Constraint.{Constraint}
use Rattle.lang_base.specs.Effects.{interferes}
use Rattle.lang_base.specs.Branches.{Atomic, clashes, lists_clash}
use Rattle.lang_base.specs.Pairs.{NoneBetween, FirstPair}
use Rattle.region_effects.proofs.Covered.{interferes_swap}
use Rattle.region_interfere.specs.Thinned.{Thinned}
use Rattle.region_interfere.proofs.Filtered.{quiet-clash, lists_clash-filter}

pub first_pair-same : {X : Type 0} (R : X → X → Type 0) (xs ys : List X) → length ys ≡ length xs →
    ((i j : ℕ) (d : X) → i < j → j < length xs → R (get_or ys i d) (get_or ys j d) ↔ R (get_or xs i d) (get_or xs j d)) → (p : Option (ℕ × ℕ)) →
    FirstPair R ys p → FirstPair R xs p
first_pair-same R xs ys n same None h = λ i j d lt below r. h i j d lt (omega arith) ((same i j d lt below).1 r)
first_pair-same R xs ys n same (Some p) h =
    let within : p.1 < length xs = omega (arith, h.following.within) in
    record {
      following = record {
        in_order = h.following.in_order;
        within = within;
        holds = λ d. (same p.0 p.1 d h.following.in_order within).0 (h.following.holds d);
        none_between = λ b d above below r. h.following.none_between b d above below ((same p.0 b d above (omega arith)).1 r);
      };
      none_before = λ a b d below after inside r. h.none_before a b d below after (omega arith) ((same a b d after inside).1 r);
    }

swapped : (given : List Constraint) (e f : Effect) → interferes given f e ≡ false → interferes given e f ≡ false
swapped given e f h = false_from_ne_true _ (λ t. false≢true (sym h ∙ interferes_swap given e f t))

pub clash-thinned : (given : List Constraint) (nd : Option Atomic) (branches left : List (List Effect)) → Thinned branches left → (i j : ℕ) (d : List Effect) →
    i < j → j < length branches → lists_clash given nd (get_or left i d) (get_or left j d) ≡ lists_clash given nd (get_or branches i d) (get_or branches j d)
clash-thinned given nd branches left t i j d lt below =
    let li : i < length branches = omega arith in
    let es = get_or branches i d in
    let fs = get_or branches j d in
    let away : i ≢ j = omega arith in
    let back : j ≢ i = omega arith in
    let one : AllByRecursion (λ e. t.keeps i e ≡ false → AllByRecursion (λ f. clashes given nd e f ≡ false) fs) es =
    recursion_from_All (λ e. t.keeps i e ≡ false → AllByRecursion (λ f. clashes given nd e f ≡ false) fs) es
    (λ k dk lk drop. recursion_from_All (λ f. clashes given nd (get_or es k dk) f ≡ false) fs
    (λ m dm lm. quiet-clash given nd _ _ (t.quiet given i j d away li below k dk lk drop m dm lm))) in
    let two : AllByRecursion (λ e. AllByRecursion (λ f. t.keeps j f ≡ false → clashes given nd e f ≡ false) fs) es =
    recursion_from_All (λ e. AllByRecursion (λ f. t.keeps j f ≡ false → clashes given nd e f ≡ false) fs) es
    (λ k dk lk. recursion_from_All (λ f. t.keeps j f ≡ false → clashes given nd (get_or es k dk) f ≡ false) fs
    (λ m dm lm drop. quiet-clash given nd _ _ (swapped given _ _ (t.quiet given j i d back below li m dm lm drop k dk lk)))) in
    ap (λ z. lists_clash given nd z (get_or left j d)) (t.kept i d li) ∙ ap (lists_clash given nd (filter (t.keeps i) es)) (t.kept j d below)
    ∙ lists_clash-filter given nd (t.keeps i) (t.keeps j) es fs one two

pub first_pair-thinned : (given : List Constraint) (nd : Option Atomic) (branches left : List (List Effect)) → Thinned branches left → (p : Option (ℕ × ℕ)) →
    FirstPair (λ es fs. IsTrue (lists_clash given nd es fs)) left p → FirstPair (λ es fs. IsTrue (lists_clash given nd es fs)) branches p
first_pair-thinned given nd branches left t p h =
    first_pair-same
    (λ es fs. IsTrue (lists_clash given nd es fs))
    branches
    left
    t.lengths
    (λ i j d lt below. let e = clash-thinned given nd branches left t i j d lt below in (λ r. sym e ∙ r, λ r. e ∙ r))
    p
    h

-- an empty branch clashes with none after it
pub empty-after : (given : List Constraint) (nd : Option Atomic) (branches : List (List Effect)) (i : ℕ) (x : List Effect) → i < length branches →
    x ≡ get_or branches i x → x ≡ [] → NoneBetween (λ es fs. IsTrue (lists_clash given nd es fs)) branches i (length branches)
empty-after given nd branches i x lt at none b d above below r =
    let e : get_or branches i d ≡ [] = sym (get_or_read branches i x lt at d) ∙ none in
    false≢true (subst (λ z. lists_clash given nd z (get_or branches b d) ≡ true) e r)
