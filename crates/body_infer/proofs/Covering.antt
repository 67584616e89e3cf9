-- What lies in written summaries lies in what is kept of them, where that is post_fixpoint.
use Rattle.std.proofs.Common.{◌≡◌, ◌∙◌, ◌≤◌, ◌&&◌, ◌||◌, ◌⊎◌, ℕ, zero, suc, Bool, true, false, not, min, List, [], ◌∷◌, map, length, Some, Contains, slice_get, inl, inr, ⊎_elim, refl, sym, ap, subst, arith}
use Rattle.std.proofs.lemmas.Bool.{and_parts, and_from}
use Rattle.std.proofs.lemmas.List.{length-map}
use Rattle.std.proofs.lemmas.Option.{same_Some}
use Rattle.lang_base.specs.declared.effect.Access.{Access}
use Rattle.lang_base.specs.declared.effect.Access.TheVariants.{Read, Write}
use Rattle.lang_base.specs.declared.effect.Effect.{Effect}
use Rattle.lang_base.specs.declared.region.Rpl.{Rpl}
use Rattle.lang_base.specs.Effects.{covers_access, covers_effect, some_covers, set_covers}
use Rattle.lang_base.specs.Regions.{within, substituted}
use Rattle.lang_typed.specs.Plain.{PlainProgram, PlainMember}
use Rattle.lang_typed.specs.Effects.{as_effects, effect_with}
use Rattle.lang_typed.specs.Table.{body_scope}
use Rattle.body_infer.specs.declared.kept.Kept.{Kept}
use Rattle.body_infer.specs.declared.kept.Kept.TheVariants as kept
use Rattle.body_infer.specs.Kept.{Keeping, SaysOfEach, strength_of, strength_kept, summary_kept, members_kept, program_kept}
use Rattle.body_infer.specs.Doing.{effects_of_all}
use Rattle.body_infer.specs.PostFixpoint.{takes, done_in, seen_below, by_body, by_override, IsPostFixpoint, KeepsNoMore}
use Rattle.body_infer.specs.Passes.{IsOverride}
use Rattle.body_infer.specs.Covered.{BodiesCovered, OverridesCovered}
use Rattle.body_infer.proofs.Fewer.{Fewer, Weaker, effect_by, fewer_in, head_in, later_in, in_cases, nothing_in}
use Rattle.body_infer.proofs.Same.{all_said, mapped_from}
use Rattle.body_infer.proofs.Strength.{some_strength}
use Rattle.body_infer.proofs.Passing.{said_at, summary_less, body_less}

-- an effect that covers another takes it, and is as strong

covers_takes : (e d : Effect) → covers_effect e d ≡ true → (takes e d ≡ true) × (covers_access e.access d.access ≡ true)
unfolding covers_effect
covers_takes e d h =
    let p = and_parts (within d.rpl e.rpl && covers_access e.access d.access) (not e.atomic || d.atomic) h in
    let q = and_parts (within d.rpl e.rpl) (covers_access e.access d.access) p.0 in
    (and_from (within d.rpl e.rpl) (not e.atomic || d.atomic) q.0 p.1, q.1)

takes_covers : (e d : Effect) → takes e d ≡ true → covers_access e.access d.access ≡ true → covers_effect e d ≡ true
unfolding covers_effect
takes_covers e d h g =
    let p = and_parts (within d.rpl e.rpl) (not e.atomic || d.atomic) h in
    and_from (within d.rpl e.rpl && covers_access e.access d.access) (not e.atomic || d.atomic) (and_from (within d.rpl e.rpl) (covers_access e.access d.access) p.0 g) p.1

first_or_later : (a b : Bool) → (a || b) ≡ true → (a ≡ true) ⊎ (b ≡ true)
first_or_later true b h = inl refl
first_or_later false b h = inr h

first_of : (a b : Bool) → a ≡ true → (a || b) ≡ true
first_of true b h = refl
first_of false b h = cc

later_of : (a b : Bool) → b ≡ true → (a || b) ≡ true
later_of true b h = refl
later_of false b h = h

access_less : (a b c : Access) → strength_of b ≤ strength_of c → covers_access a c ≡ true → covers_access a b ≡ true
access_less Write b c h g = refl
access_less Read Read c h g = refl
access_less Read Write Read h g = absurd (omega arith)
access_less Read Write Write h g = g

-- what covers an effect covers a weaker one
some_weaker : (es : List Effect) (d e : Effect) → Weaker d e → some_covers es e ≡ true → some_covers es d ≡ true
some_weaker [] d e h g = g
some_weaker (x ∷ es) d e h g =
    ⊎_elim
    (λ first.
    let strong : covers_effect x (effect_by (Weaker.access h) d) ≡ true = subst (λ y. covers_effect x y ≡ true) (Weaker.is h) first in
    let parts = covers_takes x (effect_by (Weaker.access h) d) strong in
    first_of (covers_effect x d) (some_covers es d) (takes_covers x d parts.0 (access_less x.access d.access (Weaker.access h) (Weaker.stronger h) parts.1)))
    (λ later. later_of (covers_effect x d) (some_covers es d) (some_weaker es d e h later))
    (first_or_later (covers_effect x e) (some_covers es e) g)

each_covered : (es ds : List Effect) (d : Effect) → set_covers es ds ≡ true → Contains ds d → some_covers es d ≡ true
each_covered es [] d h c = absurd (nothing_in d c)
each_covered es (x ∷ ds) d h c =
    let p = and_parts (some_covers es x) (set_covers es ds) h in
    ⊎_elim (λ same. subst (λ y. some_covers es y ≡ true) same p.0) (λ later. each_covered es ds d p.1 later) (in_cases x ds d c)

all_covered : (es ds : List Effect) → ((d : Effect) → Contains ds d → some_covers es d ≡ true) → set_covers es ds ≡ true
all_covered es [] h = refl
all_covered es (d ∷ ds) h = and_from (some_covers es d) (set_covers es ds) (h d (head_in d ds)) (all_covered es ds (λ x c. h x (later_in d ds x c)))

-- what is kept of items covers what they cover, where it is as strong

abbrev at_place : (Rpl → Rpl) → Effect → Effect
at_place f e = record e { rpl = f e.rpl }

read_covers : (e d : Effect) → covers_effect e d ≡ true → min (strength_of d.access) (strength_of e.access) ≤ 1 → covers_effect (effect_by Read e) d ≡ true
read_covers e d h g =
    let parts = covers_takes e d h in
    takes_covers (effect_by Read e) d parts.0 (by e.access d.access parts.1 g)
  where
    by : (a b : Access) → covers_access a b ≡ true → min (strength_of b) (strength_of a) ≤ 1 → covers_access Read b ≡ true
    by a Read c k = refl
    by Read Write c k = c
    by Write Write c k = absurd (omega arith)

none_needed : (a b : Access) → min (strength_of a) (strength_of b) ≤ 0 → ⊥
none_needed a b h = omega (arith, some_strength a, some_strength b)

kept_covers : (f : Rpl → Rpl) (ks : List Kept) (es : List Effect) (d : Effect) → length ks ≡ length es →
    ((i : ℕ) (e : Effect) (k : Kept) → slice_get es i ≡ Some e → slice_get ks i ≡ Some k → takes (at_place f e) d ≡ true → min (strength_of d.access) (strength_of e.access) ≤ strength_kept k e) →
    some_covers (map (at_place f) es) d ≡ true → some_covers (map (at_place f) (summary_kept ks es)) d ≡ true
kept_covers f [] [] d long met h = h
kept_covers f [] (e ∷ es) d long met h = absurd (omega arith)
kept_covers f (k ∷ ks) [] d long met h = absurd (omega arith)
kept_covers f (kept.Nothing ∷ ks) (e ∷ es) d long met h =
    ⊎_elim
    (λ first. absurd (none_needed d.access e.access (met zero e kept.Nothing refl refl (covers_takes (at_place f e) d first).0)))
    (λ later. kept_covers f ks es d (omega arith) (λ i. met (suc i)) later)
    (first_or_later (covers_effect (at_place f e) d) (some_covers (map (at_place f) es) d) h)
kept_covers f (kept.Read ∷ ks) (e ∷ es) d long met h =
    let rest = some_covers (map (at_place f) (summary_kept ks es)) d in
    ⊎_elim
    (λ first. first_of (covers_effect (effect_by Read (at_place f e)) d) rest (read_covers (at_place f e) d first (met zero e kept.Read refl refl (covers_takes (at_place f e) d first).0)))
    (λ later. later_of (covers_effect (effect_by Read (at_place f e)) d) rest (kept_covers f ks es d (omega arith) (λ i. met (suc i)) later))
    (first_or_later (covers_effect (at_place f e) d) (some_covers (map (at_place f) es) d) h)
kept_covers f (kept.Whole ∷ ks) (e ∷ es) d long met h =
    let rest = some_covers (map (at_place f) (summary_kept ks es)) d in
    ⊎_elim
    (λ first. first_of (covers_effect (at_place f e) d) rest first)
    (λ later. later_of (covers_effect (at_place f e) d) rest (kept_covers f ks es d (omega arith) (λ i. met (suc i)) later))
    (first_or_later (covers_effect (at_place f e) d) (some_covers (map (at_place f) es) d) h)

in_place : (es : List Effect) → map (at_place (λ a. a)) es ≡ es
in_place [] = refl
in_place (e ∷ es) = ap (λ rest. e ∷ rest) (in_place es)

-- the written summaries are kept whole

whole_summary : (es : List Effect) → summary_kept (map (λ e. kept.Whole) es) es ≡ es
whole_summary [] = refl
whole_summary (e ∷ es) = ap (λ rest. e ∷ rest) (whole_summary es)

abbrev pub all_whole : PlainProgram → Keeping
all_whole P = map (λ m. map (λ e. kept.Whole) m.summary) P.members

whole_members : (ms : List PlainMember) → members_kept (map (λ m. map (λ e. kept.Whole) m.summary) ms) ms ≡ ms
whole_members [] = refl
whole_members (m ∷ ms) =
    ap (λ es. record m { summary = es } ∷ members_kept (map (λ m. map (λ e. kept.Whole) m.summary) ms) ms) (whole_summary m.summary)
    ∙ ap (λ rest. m ∷ rest) (whole_members ms)

pub whole_program : (P : PlainProgram) → program_kept (all_whole P) P ≡ P
whole_program P = ap (λ ms. record P { members = ms }) (whole_members P.members)

kept_most : (k : Kept) (e : Effect) → strength_kept k e ≤ strength_of e.access
kept_most kept.Nothing e = omega arith
kept_most kept.Read e = some_strength e.access
kept_most kept.Whole e = omega arith

pub no_more_than_whole : (P : PlainProgram) (S : Keeping) → KeepsNoMore P S (all_whole P)
no_more_than_whole P S = λ n i m ks ls item k l is a b c d e.
    let of = mapped_from (λ m. map (λ e. kept.Whole) m.summary) P.members n ls b in
    let at = mapped_from (λ e. kept.Whole) of.0.summary i l (ap (λ x. slice_get x i) (sym of.1) ∙ e) in
    let whole : strength_kept l item ≡ strength_of item.access = ap (λ x. strength_kept x item) at.1 in
    omega (arith, whole, kept_most k item)

no_more_written : (ks : List Kept) (es : List Effect) → Fewer Weaker (summary_kept ks es) es
no_more_written ks es =
    subst (λ w. Fewer Weaker (summary_kept ks es) w) (whole_summary es)
    (summary_less ks (map (λ e. kept.Whole) es) es (length-map es (λ e. kept.Whole))
    (λ i e k l a b c. (let at = mapped_from (λ x. kept.Whole) es i l c in
    subst (λ x. strength_kept k e ≤ strength_kept x e) (sym at.1) (kept_most k e))))

pub bodies_covered : (P : PlainProgram) (S : Keeping) → SaysOfEach P S → IsPostFixpoint P S → BodiesCovered P S
bodies_covered P S says post_fixpoint = λ n m k ks is of own written.
    let said = said_at S P.members n m says is in
    let long : length ks ≡ length m.summary = ap length (same_Some ks said.0 (sym own ∙ said.1)) ∙ said.2 in
    let less = body_less P S (all_whole P) k m (all_said kept.Whole P.members) (no_more_than_whole P S) in
    let same : done_in P (all_whole P) k m ≡ as_effects (effects_of_all P (body_scope k (λ x. false) 0 m) m.body) =
    ap (λ Q. as_effects (effects_of_all Q (body_scope k (λ x. false) 0 m) m.body)) (whole_program P) in
    all_covered (summary_kept ks m.summary) (done_in P S k m) (λ d c.
    let w = fewer_in Weaker (done_in P S k m) (done_in P (all_whole P) k m) d less c in
    let there = subst (λ es. Contains es w.0) same w.1 in
    let covered = some_weaker m.summary d w.0 w.2 (each_covered m.summary (as_effects (effects_of_all P (body_scope k (λ x. false) 0 m) m.body)) w.0 written there) in
    subst (λ es. some_covers es d ≡ true) (in_place (summary_kept ks m.summary))
    (kept_covers (λ a. a) ks m.summary d long (λ i e q a b t. post_fixpoint n i m ks e d q (λ x. x) is own (by_body k d of c) a b t)
    (subst (λ es. some_covers es d ≡ true) (sym (in_place m.summary)) covered)))

pub overrides_covered : (P : PlainProgram) (S : Keeping) → SaysOfEach P S → IsPostFixpoint P S → OverridesCovered P S
overrides_covered P S says post_fixpoint = λ c r n j k m over ks ls is above own written.
    let said = said_at S P.members n m says (IsOverride.member is) in
    let long : length ks ≡ length m.summary = ap length (same_Some ks said.0 (sym above ∙ said.1)) ∙ said.2 in
    let args = seen_below P c k m in
    all_covered (map (effect_with args) (summary_kept ks m.summary)) (summary_kept ls over.summary) (λ d x.
    let w = fewer_in Weaker (summary_kept ls over.summary) over.summary d (no_more_written ls over.summary) x in
    let covered = some_weaker (map (effect_with args) m.summary) d w.0 w.2 (each_covered (map (effect_with args) m.summary) over.summary w.0 written w.1) in
    kept_covers (substituted args) ks m.summary d long
    (λ i e q a b t. post_fixpoint n i m ks e d q (effect_with args) (IsOverride.member is) above
    (by_override c r j k (IsOverride.parent is) over ls d (IsOverride.class is) (IsOverride.extends is) (IsOverride.above is) (IsOverride.row is) (IsOverride.own is) (IsOverride.here is) own x)
    a b t)
    covered)
