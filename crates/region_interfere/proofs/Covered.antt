-- What clashes, of effects that are covered.
use Rattle.std.proofs.Common.{◌≡◌, Bool, true, false, not, ◌&&◌, ◌||◌, List, Option, Some, None, sym, ap, ◌∙◌, ⊎_elim}
use Rattle.std.proofs.lemmas.Bool.{and_parts, and_from, and_left, and_right, false≢true, not-false, cases_Bool}
use Rattle.lang_base.specs.declared.effect.Effect.{Effect}
use Rattle.lang_base.specs.declared.effect.Constraint.{Constraint}
use Rattle.lang_base.specs.Effects.{covers_effect, interferes}
use Rattle.lang_base.specs.Branches.{Atomic, atomic_path, ordered_by_blocks, clashes}
use Rattle.region_effects.proofs.Covered.{covers-within, covers-marks, covered_quiet}
use Rattle.region_interfere.proofs.Ends.{atomic-within}

marked-too : (a b : Bool) → (not a || b) ≡ true → a ≡ true → b ≡ true
marked-too true b h k = h
marked-too false b h k = absurd (false≢true k)

covered-marked : (e c : Effect) → covers_effect e c ≡ true → e.atomic ≡ true → c.atomic ≡ true
covered-marked e c h k = marked-too e.atomic c.atomic (covers-marks e c h) k

covered-atomic : (atomic : Atomic) (e c : Effect) → covers_effect e c ≡ true → atomic_path atomic e.rpl ≡ true → atomic_path atomic c.rpl ≡ true
covered-atomic atomic e c h k = atomic-within atomic c.rpl e.rpl (covers-within e c h) k

ordered-covered : (nd : Option Atomic) (e f c d : Effect) → covers_effect e c ≡ true → covers_effect f d ≡ true → ordered_by_blocks nd e f ≡ true →
    ordered_by_blocks nd c d ≡ true
ordered-covered None e f c d h k b = b
ordered-covered (Some atomic) e f c d h k b =
    let p = and_parts (e.atomic && f.atomic) _ b in
    let m = and_parts e.atomic f.atomic p.0 in
    let t = and_parts (atomic_path atomic e.rpl) _ p.1 in
    and_from _ _
    (and_from _ _ (covered-marked e c h m.0) (covered-marked f d k m.1))
    (and_from _ _ (covered-atomic atomic e c h t.0) (covered-atomic atomic f d k t.1))

pub covered_clashes_not : (given : List Constraint) (nd : Option Atomic) (e f c d : Effect) → covers_effect e c ≡ true → covers_effect f d ≡ true →
    clashes given nd e f ≡ false → clashes given nd c d ≡ false
unfolding clashes
covered_clashes_not given nd e f c d h k q =
    ⊎_elim
    (λ t. let ordered : ordered_by_blocks nd e f ≡ true = not-false _ (sym (ap (λ z. z && not (ordered_by_blocks nd e f)) t) ∙ q) in
    and_right (interferes given c d) _ (ap not (ordered-covered nd e f c d h k ordered)))
    (λ t. and_left _ _ (covered_quiet given e f c d h k t))
    (cases_Bool (interferes given e f))
