-- A trace text is read line by line, over plain variables.
use Rattle.std.proofs.Common.{◌≡◌, ℕ, ℤ, suc, ◌+◌, ◌-◌, ◌*◌, ◌<◌, ◌≤◌, ◌^◌, inl, inr, eqb, true, false, List, [], ◌∷◌, ◌++◌, length, drop, replicate, Option, Some, None, codes, FitsSigned, refl, sym, ap, ◌∙◌, subst, ⊎_elim, arith, eqb-true, eq-eqb, append_assoc, append-nil, length-append, length-drop}
use Rattle.std.specs.Int.{w32}
use Rattle.std.specs.List.{flat_map, AllByRecursion}
use Rattle.std.specs.Fmt.{decimal, signed_decimal}
use Rattle.std.proofs.lemmas.Bool.{cases_Bool, cases_lt, false≢true}
use Rattle.std.proofs.lemmas.List.{length-replicate}
use Rattle.lang_base.specs.declared.outcome.Limits.{Limits}
use Rattle.tool_trace.specs.declared.reading.Trace.{Trace}
use Rattle.tool_trace.specs.declared.runs.Run.{Run}
use Rattle.tool_trace.specs.Pieces.{IsCut}
use Rattle.tool_trace.specs.Runs.{put_first, runs_of, last_of}
use Rattle.tool_trace.specs.Text.{line, limits_text, settings_text, events_text, run_text, schedule_text, trace_text}
use Rattle.tool_trace.specs.Reading.{AreLimits, Reported, nothing, begun, settings, listing, whole, IsRunLine, IsRun, Leads, start, next, IsUnfinished, IsMisfit, IsTrace}
use Rattle.tool_trace.proofs.Splitting.{last_after}
use Rattle.tool_trace.proofs.Spelling.{number-of}
use Rattle.tool_trace.proofs.Cutting.{Without, without-append, decimal-without, signed-without}
use Rattle.tool_trace.proofs.Once.{without-tested, leads-unique, leads-further, misfit-not-passed}

-- a schedule from its runs
abbrev expand : List Run → List ℕ
expand [] = []
expand (r ∷ rs) = replicate r.many r.task ++ expand rs

expand-put : (k : ℕ) (R : List Run) → expand (put_first k R) ≡ k ∷ expand R
expand-put k [] = refl
expand-put k (r ∷ rs) = ⊎_elim
    (λ (t : eqb k r.task ≡ true). rw t (ap (λ j. k ∷ (replicate r.many j ++ expand rs)) (eqb-true k r.task t)))
    (λ (t : eqb k r.task ≡ false). rw t refl)
    (cases_Bool (eqb k r.task))

expand-runs : (s : List ℕ) → expand (runs_of s) ≡ s
expand-runs [] = refl
expand-runs (k ∷ ks) = expand-put k (runs_of ks) ∙ ap (λ t. k ∷ t) (expand-runs ks)

-- runs that follow a number, each of another task than the one before
abbrev Goes : Option ℕ → List Run → Type 0
Goes last [] = Unit {0}
Goes last (r ∷ rs) = (last ≡ Some r.task → ⊥) × (r.task < 2 ^ 32) × (0 < r.many) × Goes (Some r.task) rs

apart : (k j : ℕ) → eqb k j ≡ false → Some k ≡ Some j → ⊥
apart k j t e = let same : k ≡ j = cc in false≢true (sym t ∙ eq-eqb k j same)

goes-put : (last : Option ℕ) (k : ℕ) (R : List Run) → (last ≡ Some k → ⊥) → k < 2 ^ 32 → Goes None R → Goes last (put_first k R)
goes-put last k [] other small goes = (other, small, omega arith, tt)
goes-put last k (r ∷ rs) other small goes = ⊎_elim
    (λ (t : eqb k r.task ≡ true). rw t (other, small, omega arith, subst (λ j. Goes (Some j) rs) (sym (eqb-true k r.task t)) goes.3))
    (λ (t : eqb k r.task ≡ false). rw t (other, small, omega arith, ((λ e. apart k r.task t e), goes.1, goes.2, goes.3)))
    (cases_Bool (eqb k r.task))

runs-go : (s : List ℕ) → AllByRecursion (λ k. k < 2 ^ 32) s → Goes None (runs_of s)
runs-go [] small = tt
runs-go (k ∷ ks) small = goes-put None k (runs_of ks) (λ e. cc) small.0 (runs-go ks small.1)

-- a line at the front of a text
cut-line : (text rest : List ℕ) → Without 10 text → IsCut 10 (line text ++ rest) text rest
cut-line text rest without = record { is = append_assoc text (10 ∷ []) rest; first = without }

settings-plain : (arg : ℤ) (L : Limits) → FitsSigned w32 arg → AreLimits L → Without 10 (settings_text arg L)
settings-plain arg L fits allowed =
    let steps : L.steps ≤ 20000000 = allowed.steps_most in
    let cells : L.cells ≤ 16777216 = allowed.cells_most in
    let w = without-append 10 in
    let limits : Without 10 (limits_text L) =
    w (codes "steps " ++ decimal L.steps ++ codes " cells ") (decimal L.cells)
    (w (codes "steps " ++ decimal L.steps) (codes " cells ")
    (w (codes "steps ") (decimal L.steps) (without-tested 10 (codes "steps ") refl) (decimal-without 10 L.steps (omega arith) (omega (arith, steps))))
    (without-tested 10 (codes " cells ") refl)) (decimal-without 10 L.cells (omega arith) (omega (arith, cells))) in
    w (codes "arg " ++ signed_decimal arg ++ codes " ") (limits_text L)
    (w (codes "arg " ++ signed_decimal arg) (codes " ")
    (w (codes "arg ") (signed_decimal arg) (without-tested 10 (codes "arg ") refl) (signed-without 10 arg (omega arith) fits))
    (without-tested 10 (codes " ") refl)) limits

events-plain : (n : ℕ) → n < 2 ^ 64 → Without 10 (events_text n)
events-plain n small = without-append 10 (codes "events ") (decimal n) (without-tested 10 (codes "events ") refl) (decimal-without 10 n (omega arith) small)

run-plain : (r : Run) → r.task < 2 ^ 64 → r.many < 2 ^ 64 → Without 10 (run_text r)
run-plain r task many =
    without-append 10 (decimal r.task ++ codes " ") (decimal r.many)
    (without-append 10 (decimal r.task) (codes " ") (decimal-without 10 r.task (omega arith) task) (without-tested 10 (codes " ") refl))
    (decimal-without 10 r.many (omega arith) many)

-- a run's text is its line
run-line : (r : Run) → r.task < 2 ^ 32 → 0 < r.many → r.many < 1000000000000000 → IsRunLine (run_text r) r.task (decimal r.many)
run-line r task some small =
    let n = number-of (decimal r.many) r.many small refl in
    record { task_allowed = task; number = n.0; some = omega (arith, some, n.1); is = refl }

is-run : (s : List ℕ) (r : Run) → (last_of s ≡ Some r.task → ⊥) → r.task < 2 ^ 32 → 0 < r.many → r.many < 1000000000000000
    → IsRun (run_text r) s (s ++ replicate r.many r.task)
is-run s r other task some small = record {
  task = r.task;
  many = decimal r.many;
  is_line = run-line r task some small;
  other = other;
  adds = ap (λ n. s ++ replicate n r.task) (sym (number-of (decimal r.many) r.many small refl).1);
}

-- the lines of runs are read
runs-lead : (bytes : List ℕ) (n : ℕ) (arg : ℤ) (L : Limits) (events : ℕ) (s : List ℕ) (R : List Run) (rest : List ℕ)
    → Leads bytes n (listing arg L events s) (flat_map (λ r. line (run_text r)) R ++ rest) → Goes (last_of s) R → length (expand R) < 1000000000000000
    → (m : ℕ) × Leads bytes m (listing arg L events (s ++ expand R)) rest
runs-lead bytes n arg L events s [] rest leads goes short = (n, subst (λ t. Leads bytes n (listing arg L events t) rest) (sym (append-nil s)) leads)
runs-lead bytes n arg L events s (r ∷ rs) rest leads goes short =
    let size : length (replicate r.many r.task) ≡ r.many = length-replicate r.many r.task in
    let sizes = length-append (replicate r.many r.task) (expand rs) in
    let task : r.task < 2 ^ 32 = goes.1 in
    let few : r.many < 1000000000000000 = omega (arith, size, sizes, short) in
    let tail = flat_map (λ q. line (run_text q)) rs in
    let here : Leads bytes n (listing arg L events s) (line (run_text r) ++ (tail ++ rest)) =
    subst (Leads bytes n (listing arg L events s)) (append_assoc (line (run_text r)) tail rest) leads in
    let there : Leads bytes (suc n) (listing arg L events (s ++ replicate r.many r.task)) (tail ++ rest) =
    next here (cut-line (run_text r) (tail ++ rest) (run-plain r (omega (arith, task)) (omega (arith, few))))
    (inl (s ++ replicate r.many r.task, is-run s r goes.0 task goes.2 few, refl)) in
    let goes_on : Goes (last_of (s ++ replicate r.many r.task)) rs = subst (λ o. Goes o rs) (sym (last_after s r.task r.many goes.2)) goes.3 in
    let all = runs-lead bytes (suc n) arg L events (s ++ replicate r.many r.task) rs rest there goes_on (omega (arith, size, sizes, short)) in
    (all.0, subst (λ t. Leads bytes all.0 (listing arg L events t) rest) (append_assoc s (replicate r.many r.task) (expand rs)) all.1)

flat : (a b c s p x : List ℕ) → a ++ b ++ c ++ s ++ p ++ x ≡ a ++ (b ++ (c ++ (s ++ (p ++ x))))
flat a b c s p x = simp append_assoc

-- a trace text is read to its program
text-leads : (arg : ℤ) (L : Limits) (s source : List ℕ) → FitsSigned w32 arg → AreLimits L → AllByRecursion (λ k. k < 2 ^ 32) s → length s ≤ 2 * L.steps + 2
    → (n : ℕ) × Leads (trace_text arg L s source) n (whole arg L s) source
text-leads arg L s source fits allowed small events =
    let steps : L.steps ≤ 20000000 = allowed.steps_most in
    let bytes = trace_text arg L s source in
    let p = line (codes "program") ++ source in
    let c = line (events_text (length s)) ++ (schedule_text s ++ p) in
    let b = line (settings_text arg L) ++ c in
    let first : Leads bytes 0 nothing (line (codes "dpj-trace 1") ++ b) =
    subst (Leads bytes 0 nothing) (flat (line (codes "dpj-trace 1")) (line (settings_text arg L)) (line (events_text (length s))) (schedule_text s) (line (codes "program")) source) start in
    let second : Leads bytes 1 begun b = next first (cut-line (codes "dpj-trace 1") b (without-tested 10 (codes "dpj-trace 1") refl)) (refl, refl) in
    let third : Leads bytes 2 (settings arg L) c =
    next second (cut-line (settings_text arg L) c (settings-plain arg L fits allowed))
    (arg, L, record { limits_allowed = allowed; arg_allowed = fits; is = refl }, refl) in
    let fourth : Leads bytes 3 (listing arg L (length s) []) (schedule_text s ++ p) =
    next third (cut-line (events_text (length s)) (schedule_text s ++ p) (events-plain (length s) (omega (arith, events, steps))))
    (length s, record { few = events; is = refl }, refl) in
    let all = runs-lead bytes 3 arg L (length s) [] (runs_of s) p fourth (runs-go s small) (omega (arith, ap length (expand-runs s), events, steps)) in
    let listed : Leads bytes all.0 (listing arg L (length s) s) p = subst (λ t. Leads bytes all.0 (listing arg L (length s) t) p) (expand-runs s) all.1 in
    (suc all.0, next listed (cut-line (codes "program") source (without-tested 10 (codes "program") refl)) (inr (record { is = refl; right = refl }, refl)))

pub trace-leads : (bytes : List ℕ) (t : Trace) → IsTrace bytes t → (n : ℕ) × Leads bytes n (whole t.arg t.limits t.schedule) (drop t.from bytes)
trace-leads bytes t is =
    let all = text-leads t.arg t.limits t.schedule (drop t.from bytes) is.arg is.limits is.tasks is.events in
    (all.0, subst (λ b. Leads b all.0 (whole t.arg t.limits t.schedule) (drop t.from bytes)) (sym is.is) all.1)

-- after the last line there is none that fits
no-further : (bytes : List ℕ) (n : ℕ) (arg : ℤ) (L : Limits) (s rest : List ℕ) → Leads bytes n (whole arg L s) rest → (m : ℕ) (u : Reported) (r : List ℕ) → Leads bytes m u r → n < m → ⊥
no-further bytes n arg L s rest leads m u r far less =
    let h = leads-further bytes n (whole arg L s) rest leads (m - suc n) m u r far (omega (arith, less)) in h.4

same-lines : (bytes : List ℕ) (n m : ℕ) (a b : ℤ) (L K : Limits) (s t r q : List ℕ) → Leads bytes n (whole a L s) r → Leads bytes m (whole b K t) q → n ≡ m
same-lines bytes n m a b L K s t r q l k =
    ⊎_elim (λ (less : n < m). absurd (no-further bytes n a L s r l m (whole b K t) q k less))
    (λ (le : m ≤ n).
    ⊎_elim (λ (less : m < n). absurd (no-further bytes m b K t q k n (whole a L s) r l less)) (λ (ge : n ≤ m). omega (arith, le, ge)) (cases_lt m n))
    (cases_lt n m)

abbrev arg_in : Reported → ℤ → ℤ
arg_in (whole arg L s) a = arg
arg_in _ a = a

abbrev limits_in : Reported → Limits → Limits
limits_in (whole arg L s) l = L
limits_in _ l = l

abbrev schedule_in : Reported → List ℕ
schedule_in (whole arg L s) = s
schedule_in _ = []

trace-same : (t u : Trace) → t.arg ≡ u.arg → t.limits ≡ u.limits → t.schedule ≡ u.schedule → t.from ≡ u.from → t ≡ u
trace-same t u a l s f =
    ap (λ x. record { arg = x; limits = t.limits; schedule = t.schedule; from = t.from }) a
    ∙ ap (λ x. record { arg = u.arg; limits = x; schedule = t.schedule; from = t.from }) l
    ∙ ap (λ x. record { arg = u.arg; limits = u.limits; schedule = x; from = t.from }) s
    ∙ ap (λ x. record { arg = u.arg; limits = u.limits; schedule = u.schedule; from = x }) f

pub one-reading : (bytes : List ℕ) (t u : Trace) → IsTrace bytes t → IsTrace bytes u → t ≡ u
one-reading bytes t u ist isu =
    let l = trace-leads bytes t ist in
    let k = trace-leads bytes u isu in
    let lines = same-lines bytes l.0 k.0 t.arg u.arg t.limits u.limits t.schedule u.schedule (drop t.from bytes) (drop u.from bytes) l.1 k.1 in
    let other : Leads bytes l.0 (whole u.arg u.limits u.schedule) (drop u.from bytes) = subst (λ n. Leads bytes n (whole u.arg u.limits u.schedule) (drop u.from bytes)) (sym lines) k.1 in
    let same = leads-unique bytes l.0 (whole t.arg t.limits t.schedule) (drop t.from bytes) (whole u.arg u.limits u.schedule) (drop u.from bytes) l.1 other in
    let in_t : t.from ≤ length bytes = ist.within in
    let in_u : u.from ≤ length bytes = isu.within in
    trace-same t u (ap (λ w. arg_in w t.arg) same.0) (ap (λ w. limits_in w t.limits) same.0) (ap schedule_in same.0)
    (omega (arith, ap length same.1, length-drop t.from bytes, length-drop u.from bytes, in_t, in_u))

pub no-misfit : (bytes : List ℕ) (t : Trace) (line : ℕ) → IsTrace bytes t → IsMisfit bytes line → ⊥
no-misfit bytes t line is x =
    let l = trace-leads bytes t is in
    ⊎_elim (λ (less : x.before < l.0). misfit-not-passed bytes line x l.0 (whole t.arg t.limits t.schedule) (drop t.from bytes) l.1 less)
    (λ (le : l.0 ≤ x.before).
    ⊎_elim (λ (less : l.0 < x.before). no-further bytes l.0 t.arg t.limits t.schedule (drop t.from bytes) l.1 x.before x.reported x.rest x.leads less)
    (λ (ge : x.before ≤ l.0).
    let same : l.0 ≡ x.before = omega (arith, le, ge) in
    let here : Leads bytes l.0 x.reported x.rest = subst (λ n. Leads bytes n x.reported x.rest) (sym same) x.leads in
    let reported = (leads-unique bytes l.0 (whole t.arg t.limits t.schedule) (drop t.from bytes) x.reported x.rest l.1 here).0 in
    subst IsUnfinished (sym reported) x.unfinished)
    (cases_lt l.0 x.before))
    (cases_lt x.before l.0)
