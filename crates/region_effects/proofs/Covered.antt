-- Covering and interference of effects, over inclusion and disjointness of their paths.
use Rattle.std.proofs.Common.{◌≡◌, Bool, true, false, not, ◌&&◌, ◌||◌, List, [], ◌∷◌, refl, sym, ap, ◌∙◌, ⊎_elim}
use Rattle.std.proofs.lemmas.Bool.{and_parts, and_from, and_left, and_right, or_cases, or_left, or_right, false≢true, not-true, not-false, cases_Bool}
use Rattle.std.proofs.lemmas.Bool.{false_from_ne_true}
use Rattle.lang_base.specs.declared.effect.Access.{Access}
use Rattle.lang_base.specs.declared.effect.Access.TheVariants.{Read, Write}
use Rattle.lang_base.specs.declared.effect.Effect.{Effect}
use Rattle.lang_base.specs.declared.effect.Constraint.{Constraint}
use Rattle.lang_base.specs.Regions.{within}
use Rattle.lang_base.specs.Apart.{apart}
use Rattle.lang_base.specs.Matching.{Env, IsEnv, MatchNoCommon}
use Rattle.lang_base.specs.Effects.{is_write, covers_access, covers_effect, interferes, some_covers, set_covers}
use Rattle.region_paths.proofs.Inclusion.{within-refl, within-trans}
use Rattle.region_paths.proofs.Paths.{apart-within}
use Rattle.region_paths.proofs.Envs.{apart_swap, no_common}

access-refl : (a : Access) → covers_access a a ≡ true
access-refl Read = refl
access-refl Write = refl

access-trans : (a b c : Access) → covers_access a b ≡ true → covers_access b c ≡ true → covers_access a c ≡ true
access-trans Write b c h k = refl
access-trans Read Read c h k = k
access-trans Read Write c h k = absurd (false≢true h)

-- what covers a write is one
access-write : (a b : Access) → covers_access a b ≡ true → is_write b ≡ true → is_write a ≡ true
access-write Write b h w = refl
access-write Read Read h w = absurd (false≢true w)
access-write Read Write h w = absurd (false≢true h)

not_or_self : (b : Bool) → (not b || b) ≡ true
not_or_self true = refl
not_or_self false = refl

not_or-trans : (a b c : Bool) → (not a || b) ≡ true → (not b || c) ≡ true → (not a || c) ≡ true
not_or-trans false b c h k = refl
not_or-trans true true c h k = k
not_or-trans true false c h k = absurd (false≢true h)

pub covers-within : (e c : Effect) → covers_effect e c ≡ true → within c.rpl e.rpl ≡ true
unfolding covers_effect
covers-within e c h = (and_parts (within c.rpl e.rpl) _ (and_parts (within c.rpl e.rpl && covers_access e.access c.access) _ h).0).0

covers-access : (e c : Effect) → covers_effect e c ≡ true → covers_access e.access c.access ≡ true
unfolding covers_effect
covers-access e c h = (and_parts (within c.rpl e.rpl) _ (and_parts (within c.rpl e.rpl && covers_access e.access c.access) _ h).0).1

pub covers-marks : (e c : Effect) → covers_effect e c ≡ true → (not e.atomic || c.atomic) ≡ true
unfolding covers_effect
covers-marks e c h = (and_parts (within c.rpl e.rpl && covers_access e.access c.access) _ h).1

pub covers-refl : (e : Effect) → covers_effect e e ≡ true
unfolding covers_effect
covers-refl e = and_from _ _ (and_from _ _ (within-refl e.rpl) (access-refl e.access)) (not_or_self e.atomic)

pub covers-trans : (e f g : Effect) → covers_effect e f ≡ true → covers_effect f g ≡ true → covers_effect e g ≡ true
unfolding covers_effect
covers-trans e f g h k =
    and_from _ _
    (and_from _ _
    (within-trans g.rpl f.rpl e.rpl (covers-within f g k) (covers-within e f h))
    (access-trans e.access f.access g.access (covers-access e f h) (covers-access f g k)))
    (not_or-trans e.atomic f.atomic g.atomic (covers-marks e f h) (covers-marks f g k))

-- two effects, one of them a write, that don't interfere have paths that are apart
quiet-apart : (given : List Constraint) (e f : Effect) → interferes given e f ≡ false → (is_write e.access || is_write f.access) ≡ true →
    apart given e.rpl f.rpl ≡ true
unfolding interferes
quiet-apart given e f h w = not-false _ (sym (ap (λ z. z && not (apart given e.rpl f.rpl)) w) ∙ h)

pub covered_quiet : (given : List Constraint) (e f c d : Effect) → covers_effect e c ≡ true → covers_effect f d ≡ true → interferes given e f ≡ false →
    interferes given c d ≡ false
unfolding interferes
covered_quiet given e f c d h k q =
    ⊎_elim
    (λ w. let v = ⊎_elim (λ t. or_left (is_write e.access) (is_write f.access) (access-write e.access c.access (covers-access e c h) t)) (λ t. or_right (is_write e.access) (is_write f.access) (access-write f.access d.access (covers-access f d k) t)) (or_cases (is_write c.access) (is_write d.access) w) in
    and_right (is_write c.access || is_write d.access) _ (ap not (apart-within given c.rpl e.rpl d.rpl f.rpl (covers-within e c h) (covers-within f d k) (quiet-apart given e f q v))))
    (λ w. and_left _ _ w)
    (cases_Bool (is_write c.access || is_write d.access))

pub quiet_no_common : (given : List Constraint) (env : Env) → IsEnv given env → (e f : Effect) → interferes given e f ≡ false →
    (is_write e.access || is_write f.access) ≡ true → MatchNoCommon env e.rpl f.rpl
quiet_no_common given env v e f q w = no_common given env v e.rpl f.rpl (quiet-apart given e f q w)

pub interferes_swap : (given : List Constraint) (e f : Effect) → interferes given e f ≡ true → interferes given f e ≡ true
unfolding interferes
interferes_swap given e f h =
    let p = and_parts (is_write e.access || is_write f.access) _ h in
    and_from _ _
    (⊎_elim (λ t. or_right (is_write f.access) (is_write e.access) t) (λ t. or_left (is_write f.access) (is_write e.access) t) (or_cases (is_write e.access) (is_write f.access) p.0))
    (ap not (false_from_ne_true _ (λ t. false≢true (sym (not-true _ p.1) ∙ apart_swap given f.rpl e.rpl t))))

some_covers-trans : (es : List Effect) (f g : Effect) → some_covers es f ≡ true → covers_effect f g ≡ true → some_covers es g ≡ true
some_covers-trans [] f g h k = absurd (false≢true h)
some_covers-trans (e ∷ es) f g h k =
    ⊎_elim
    (λ t. or_left _ _ (covers-trans e f g t k))
    (λ t. or_right (covers_effect e g) _ (some_covers-trans es f g t k))
    (or_cases (covers_effect e f) _ h)

some_covers-through : (es fs : List Effect) (g : Effect) → set_covers es fs ≡ true → some_covers fs g ≡ true → some_covers es g ≡ true
some_covers-through es [] g h k = absurd (false≢true k)
some_covers-through es (f ∷ fs) g h k =
    let p = and_parts (some_covers es f) _ h in
    ⊎_elim
    (λ t. some_covers-trans es f g p.0 t)
    (λ t. some_covers-through es fs g p.1 t)
    (or_cases (covers_effect f g) _ k)

pub set_covers-trans : (es fs gs : List Effect) → set_covers es fs ≡ true → set_covers fs gs ≡ true → set_covers es gs ≡ true
set_covers-trans es fs [] h k = refl
set_covers-trans es fs (g ∷ gs) h k =
    let p = and_parts (some_covers fs g) _ k in
    and_from _ _ (some_covers-through es fs g h p.0) (set_covers-trans es fs gs h p.1)

set_covers-more : (e : Effect) (es fs : List Effect) → set_covers es fs ≡ true → set_covers (e ∷ es) fs ≡ true
set_covers-more e es [] h = refl
set_covers-more e es (f ∷ fs) h =
    let p = and_parts (some_covers es f) _ h in
    and_from _ _ (or_right (covers_effect e f) _ p.0) (set_covers-more e es fs p.1)

pub set_covers-refl : (es : List Effect) → set_covers es es ≡ true
set_covers-refl [] = refl
set_covers-refl (e ∷ es) = and_from _ _ (or_left _ _ (covers-refl e)) (set_covers-more e es es (set_covers-refl es))
