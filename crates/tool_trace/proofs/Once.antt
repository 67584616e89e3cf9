-- What lines say, they say in one way; over plain variables.
use Rattle.std.proofs.Common.{◌≡◌, ℕ, ℤ, pos, negsuc, zero, suc, ◌+◌, ◌-◌, ◌*◌, ◌<◌, ◌≤◌, ◌^◌, inl, inr, List, [], ◌∷◌, ◌++◌, replicate, codes, FitsSigned, refl, sym, ap, ◌∙◌, subst, ⊎_elim, arith, eqb, Bool, eq-eqb, true, false, not}
use lib.Signed.{mag}
use Rattle.std.specs.Int.{w32}
use Rattle.std.specs.List.{list_all}
use Rattle.std.specs.Fmt.{decimal, signed_decimal}
use Rattle.std.specs.Str.Parse.{digits_value}
use Rattle.std.proofs.lemmas.Bool.{and_parts, cases_lt}
use Rattle.std.proofs.lemmas.Fmt.{decimal_injective, signed_decimal_injective}
use Rattle.std.proofs.lemmas.List.{append_cancel_left}
use Rattle.lang_base.specs.declared.outcome.Limits.{Limits}
use Rattle.tool_trace.specs.Pieces.{IsCut}
use Rattle.tool_trace.specs.Text.{limits_text}
use Rattle.tool_trace.specs.Reading.{AreLimits, Reported, nothing, begun, settings, listing, whole, IsSettings, IsRunLine, IsRun, Fits, Leads, start, next, IsMisfit}
use Rattle.tool_trace.proofs.Cutting.{Without, cut-unique, uncut}
use Rattle.tool_trace.proofs.Lines.{limits-begins, limits-cut, limits-pieces, settings-begins, settings-cut, settings-pieces, run-cut, run-pieces}

not-both : (b : Bool) → b ≡ true → not b ≡ true → ⊥
not-both true e f = cc
not-both false e f = cc

limits-equal : (L K : Limits) → L.steps ≡ K.steps → L.cells ≡ K.cells → L ≡ K
limits-equal L K steps cells = ap (λ n. record { steps = n; cells = L.cells }) steps ∙ ap (λ n. record { steps = K.steps; cells = n }) cells

-- a text that a test finds free of a byte
pub without-tested : (byte : ℕ) (text : List ℕ) → list_all (λ b. not (eqb b byte)) text ≡ true → Without byte text
without-tested byte [] t = tt
without-tested byte (b ∷ text) t =
    let parts : (not (eqb b byte) ≡ true) × (list_all (λ c. not (eqb c byte)) text ≡ true) = and_parts _ _ t in
    (λ e. let same : eqb b byte ≡ true = eq-eqb b byte e in absurd (not-both (eqb b byte) same parts.0), without-tested byte text parts.1)

limits-same : (L K : Limits) → AreLimits L → AreLimits K → limits_text L ≡ limits_text K → L ≡ K
limits-same L K l k e =
    let x = decimal L.steps ++ 32 ∷ (codes "cells " ++ decimal L.cells) in
    let begins = limits-begins (limits_text L) x L l refl in
    let cut = limits-cut (limits_text L) x L l refl begins in
    let pieces = limits-pieces (limits_text L) x K k e begins (decimal L.steps) (codes "cells " ++ decimal L.cells) cut in
    let ls : L.steps ≤ 20000000 = l.steps_most in
    let ks : K.steps ≤ 20000000 = k.steps_most in
    let lc : L.cells ≤ 16777216 = l.cells_most in
    let kc : K.cells ≤ 16777216 = k.cells_most in
    let steps : L.steps ≡ K.steps = decimal_injective L.steps K.steps (omega (arith, ls)) (omega (arith, ks)) pieces.0 in
    let cells : L.cells ≡ K.cells = decimal_injective L.cells K.cells (omega (arith, lc)) (omega (arith, kc)) (append_cancel_left (codes "cells ") _ _ pieces.1) in
    limits-equal L K steps cells

mag-small : (z : ℤ) → FitsSigned w32 z → mag z < 2 ^ 63
mag-small (pos n) fits = let small : n < 2147483648 = fits.sfits in omega (arith, small)
mag-small (negsuc n) fits = let small : n < 2147483648 = fits.sfits in omega (arith, small)

settings-same : (text : List ℕ) (a b : ℤ) (L K : Limits) → IsSettings text a L → IsSettings text b K → (a ≡ b) × (L ≡ K)
settings-same text a b L K f g =
    let x = signed_decimal a ++ 32 ∷ limits_text L in
    let begins = settings-begins text x a L f in
    let cut = settings-cut text x a L f begins in
    let pieces = settings-pieces text x b K g begins (signed_decimal a) (limits_text L) cut in (
      signed_decimal_injective a b (mag-small a f.arg_allowed) (mag-small b g.arg_allowed) pieces.0,
      limits-same L K f.limits_allowed g.limits_allowed pieces.1,
    )

-- what lines say is in its range
abbrev Right : Reported → Type 0
Right nothing = Unit {0}
Right begun = Unit {0}
Right (settings arg limits) = AreLimits limits
Right (listing arg limits events schedule) = AreLimits limits
Right (whole arg limits schedule) = AreLimits limits

fits-right : (before : Reported) (text : List ℕ) (after : Reported) → Right before → Fits before text after → Right after
fits-right nothing text after right f = subst Right (sym f.1) tt
fits-right begun text after right (arg, limits, f, is) = subst Right (sym is) f.limits_allowed
fits-right (settings arg limits) text after right (events, f, is) = subst Right (sym is) right
fits-right (listing arg limits events schedule) text after right (inl (longer, r, is)) = subst Right (sym is) right
fits-right (listing arg limits events schedule) text after right (inr (p, is)) = subst Right (sym is) right
fits-right (whole arg limits schedule) text after right f = absurd f

leads-right : (bytes : List ℕ) (n : ℕ) (reported : Reported) (rest : List ℕ) → Leads bytes n reported rest → Right reported
leads-right bytes _ _ _ start = tt
leads-right bytes _ _ _ (next {n} {before} {after} {rest} {text} {following} leads cut fits) = fits-right before text after (leads-right bytes n before rest leads) fits

no-run : (text : List ℕ) (task : ℕ) (many : List ℕ) → IsRunLine text task many → text ≡ codes "program" → ⊥
no-run text task many is_line is =
    uncut 32 text (decimal task) many (subst (Without 32) (sym is) (without-tested 32 (codes "program") refl)) (run-cut text task many is_line)

runs-same : (text before a b : List ℕ) → IsRun text before a → IsRun text before b → a ≡ b
runs-same text before a b f g =
    let pieces = run-pieces text (decimal f.task) f.many g.task g.many (run-cut text f.task f.many f.is_line) g.is_line in
    let fs : f.task < 2 ^ 32 = f.is_line.task_allowed in
    let gs : g.task < 2 ^ 32 = g.is_line.task_allowed in
    let task : f.task ≡ g.task = decimal_injective f.task g.task (omega (arith, fs)) (omega (arith, gs)) pieces.0 in
    f.adds ∙ ap (λ t. before ++ replicate (digits_value 10 f.many) t) task ∙ ap (λ m. before ++ replicate (digits_value 10 m) g.task) pieces.1 ∙ sym g.adds

-- a line that fits leads to one thing
fits-unique : (reported : Reported) (text : List ℕ) (a b : Reported) → Right reported → Fits reported text a → Fits reported text b → a ≡ b
fits-unique nothing text a b right f g = f.1 ∙ sym g.1
fits-unique begun text a b right (arg, limits, f, is) (arg', limits', g, is') =
    let same = settings-same text arg arg' limits limits' f g in is ∙ ap (λ z. settings z limits) same.0 ∙ ap (λ l. settings arg' l) same.1 ∙ sym is'
fits-unique (settings arg limits) text a b right (events, f, is) (events', g, is') =
    let most : limits.steps ≤ 20000000 = right.steps_most in
    let few : events ≤ 2 * limits.steps + 2 = f.few in
    let few' : events' ≤ 2 * limits.steps + 2 = g.few in
    let same : events ≡ events' = decimal_injective events events' (omega (arith, most, few)) (omega (arith, most, few'))
    (append_cancel_left (codes "events ") _ _ (sym f.is ∙ g.is)) in
    is ∙ ap (λ n. listing arg limits n []) same ∙ sym is'
fits-unique (listing arg limits events schedule) text a b right (inl (longer, r, is)) (inl (longer', r', is')) =
    is ∙ ap (listing arg limits events) (runs-same text schedule longer longer' r r') ∙ sym is'
fits-unique (listing arg limits events schedule) text a b right (inl (longer, r, is)) (inr (p, is')) = absurd (no-run text r.task r.many r.is_line p.is)
fits-unique (listing arg limits events schedule) text a b right (inr (p, is)) (inl (longer, r, is')) = absurd (no-run text r.task r.many r.is_line p.is)
fits-unique (listing arg limits events schedule) text a b right (inr (p, is)) (inr (p', is')) = is ∙ sym is'
fits-unique (whole arg limits schedule) text a b right f g = absurd f

leads-zero : (bytes : List ℕ) (n : ℕ) (reported : Reported) (rest : List ℕ) → Leads bytes n reported rest → n ≡ 0 → (reported ≡ nothing) × (rest ≡ bytes)
leads-zero bytes _ _ _ start e = (refl, refl)
leads-zero bytes _ _ _ (next {n} {before} {after} {rest} {text} {following} leads cut fits) e = absurd (omega (arith, e))

leads-suc : (bytes : List ℕ) (m : ℕ) (reported : Reported) (rest : List ℕ) → Leads bytes m reported rest → (j : ℕ) → m ≡ suc j
    → (before : Reported) × (left : List ℕ) × (text : List ℕ) × Leads bytes j before left × IsCut 10 left text rest × Fits before text reported
leads-suc bytes _ _ _ start j e = absurd (omega (arith, e))
leads-suc bytes _ _ _ (next {n} {before} {after} {rest} {text} {following} leads cut fits) j e =
    let same : n ≡ j = omega (arith, e) in (before, rest, text, subst (λ i. Leads bytes i before rest) same leads, cut, fits)

-- so many lines lead to one thing
pub leads-unique : (bytes : List ℕ) (n : ℕ) (t : Reported) (r : List ℕ) (u : Reported) (s : List ℕ) → Leads bytes n t r → Leads bytes n u s → (t ≡ u) × (r ≡ s)
leads-unique bytes zero t r u s l k =
    let p = leads-zero bytes 0 t r l refl in
    let q = leads-zero bytes 0 u s k refl in (p.0 ∙ sym q.0, p.1 ∙ sym q.1)
leads-unique bytes (suc n) t r u s l k =
    let p = leads-suc bytes (suc n) t r l n refl in
    let q = leads-suc bytes (suc n) u s k n refl in
    let same = leads-unique bytes n p.0 p.1 q.0 q.1 p.3 q.3 in
    let cut : IsCut 10 p.1 q.2 s = subst (λ x. IsCut 10 x q.2 s) (sym same.1) q.4 in
    let pieces = cut-unique 10 p.1 p.2 r q.2 s p.4 cut in
    let fits : Fits p.0 p.2 u = subst (λ x. Fits p.0 x u) (sym pieces.0) (subst (λ x. Fits x q.2 u) (sym same.0) q.5) in
    (fits-unique p.0 p.2 t u (leads-right bytes n p.0 p.1 p.3) p.5 fits, pieces.1)

-- a further line that fits
abbrev pub HasNext : Reported → List ℕ → Type 0
HasNext reported rest = (text : List ℕ) × (following : List ℕ) × (after : Reported) × IsCut 10 rest text following × Fits reported text after

-- after lines that are followed by more there is one
pub leads-further : (bytes : List ℕ) (n : ℕ) (t : Reported) (r : List ℕ) → Leads bytes n t r → (k m : ℕ) (u : Reported) (s : List ℕ) → Leads bytes m u s → m ≡ suc (k + n) → HasNext t r
leads-further bytes n t r l zero m u s far e =
    let p = leads-suc bytes m u s far n (omega (arith, e)) in
    let same = leads-unique bytes n p.0 p.1 t r p.3 l in
    (p.2, s, u, subst (λ x. IsCut 10 x p.2 s) same.1 p.4, subst (λ x. Fits x p.2 u) same.0 p.5)
leads-further bytes n t r l (suc k) m u s far e =
    let p = leads-suc bytes m u s far (suc (k + n)) (omega (arith, e)) in
    leads-further bytes n t r l k (suc (k + n)) p.0 p.1 p.3 refl

-- lines don't lead beyond one that doesn't fit
pub misfit-not-passed : (bytes : List ℕ) (line : ℕ) (x : IsMisfit bytes line) (m : ℕ) (u : Reported) (s : List ℕ) → Leads bytes m u s → x.before < m → ⊥
misfit-not-passed bytes line x m u s far less =
    let h = leads-further bytes x.before x.reported x.rest x.leads (m - suc x.before) m u s far (omega (arith, less)) in
    x.unfit h.0 h.1 h.2 h.3 h.4

pub one-misfit : (bytes : List ℕ) (l m : ℕ) → IsMisfit bytes l → IsMisfit bytes m → l ≡ m
one-misfit bytes l m x y =
    ⊎_elim (λ (less : x.before < y.before). absurd (misfit-not-passed bytes l x y.before y.reported y.rest y.leads less))
    (λ (le : y.before ≤ x.before).
    ⊎_elim (λ (less : y.before < x.before). absurd (misfit-not-passed bytes m y x.before x.reported x.rest x.leads less))
    (λ (ge : x.before ≤ y.before). omega (arith, le, ge, x.number, y.number))
    (cases_lt y.before x.before))
    (cases_lt x.before y.before)
