-- What lines that fit say of the whole text, over plain variables.
use Rattle.std.proofs.Common.{◌≡◌, ℕ, ℤ, zero, suc, ◌+◌, ◌-◌, ◌*◌, ◌<◌, ◌≤◌, ◌^◌, inl, inr, List, [], ◌∷◌, ◌++◌, length, drop, replicate, codes, FitsSigned, refl, sym, ap, ◌∙◌, subst, arith, append_assoc, append-nil, length-append}
use Rattle.std.specs.Int.{w32}
use Rattle.std.specs.List.{AllByRecursion}
use Rattle.std.specs.Fmt.{decimal}
use Rattle.std.specs.Str.Parse.{digits_value}
use Rattle.std.proofs.lemmas.Fmt.{decimal-digits_value}
use Rattle.std.proofs.lemmas.List.{drop_at, length-replicate}
use Rattle.lang_base.specs.declared.outcome.Limits.{Limits}
use Rattle.tool_trace.specs.Pieces.{IsCut}
use Rattle.tool_trace.specs.Text.{line, settings_text, events_text, run_text, schedule_text, trace_text}
use Rattle.tool_trace.specs.Reading.{AreLimits, Reported, nothing, begun, settings, listing, whole, IsRunLine, IsRun, IsProgram, Fits, Leads, start, next, IsUnfinished, IsMisfit, IsTrace}
use Rattle.tool_trace.proofs.Splitting.{schedule_text-more}
use Rattle.tool_trace.proofs.Spelling.{own}
use Rattle.tool_trace.proofs.Cutting.{cut-unique}

-- a line that isn't there
pub misfit-missing : (bytes : List ℕ) (n : ℕ) (reported : Reported) (rest : List ℕ) → Leads bytes n reported rest → IsUnfinished reported
    → ((front following : List ℕ) → IsCut 10 rest front following → ⊥) → IsMisfit bytes (suc n)
misfit-missing bytes n reported rest leads unfinished none = record {
  before = n;
  reported = reported;
  rest = rest;
  number = refl;
  leads = leads;
  unfinished = unfinished;
  unfit = λ text following after cut fits. none text following cut;
}

-- a line that doesn't fit
pub misfit-line : (bytes : List ℕ) (n : ℕ) (reported : Reported) (rest text following : List ℕ) → Leads bytes n reported rest → IsUnfinished reported → IsCut 10 rest text following
    → ((after : Reported) → Fits reported text after → ⊥) → IsMisfit bytes (suc n)
misfit-line bytes n reported rest text following leads unfinished cut none = record {
  before = n;
  reported = reported;
  rest = rest;
  number = refl;
  leads = leads;
  unfinished = unfinished;
  unfit = λ other left after cut' fits. none after (subst (λ t. Fits reported t after) (cut-unique 10 rest other left text following cut' cut).0 fits);
}

-- lines after the first leave less
pub leads-less : (bytes : List ℕ) (n : ℕ) (reported : Reported) (rest : List ℕ) → Leads bytes n reported rest → length rest + n ≤ length bytes
leads-less bytes _ _ _ start = omega arith
leads-less bytes _ _ _ (next {n} {before} {after} {rest} {text} {following} leads cut fits) =
    omega (arith, leads-less bytes n before rest leads, ap length cut.is, length-append text (10 ∷ following))

-- the text of the lines that say this
abbrev pub reported_text : Reported → List ℕ
reported_text nothing = []
reported_text begun = line (codes "dpj-trace 1")
reported_text (settings arg limits) = line (codes "dpj-trace 1") ++ line (settings_text arg limits)
reported_text (listing arg limits events schedule) =
    line (codes "dpj-trace 1") ++ line (settings_text arg limits) ++ line (events_text events) ++ schedule_text schedule
reported_text (whole arg limits schedule) =
    line (codes "dpj-trace 1") ++ line (settings_text arg limits) ++ line (events_text (length schedule)) ++ schedule_text schedule ++ line (codes "program")

-- a schedule whose length is a number of 64 bits
abbrev pub IsSmall : Reported → Type 0
IsSmall nothing = Unit {0}
IsSmall begun = Unit {0}
IsSmall (settings arg limits) = Unit {0}
IsSmall (listing arg limits events schedule) = length schedule < 2 ^ 64
IsSmall (whole arg limits schedule) = length schedule < 2 ^ 64

abbrev pub Follows : Reported → List ℕ → Reported → Type 0
Follows before text after = IsSmall before × (reported_text after ≡ reported_text before ++ line text)

-- a line of a run is its text
run_text-is : (text : List ℕ) (task : ℕ) (many : List ℕ) → IsRunLine text task many → digits_value 10 many < 2 ^ 64
    → text ≡ run_text (record { task = task; many = digits_value 10 many })
run_text-is text task many is_line small =
    is_line.is ∙ ap (λ ds. decimal task ++ codes " " ++ ds) (sym (decimal-digits_value own many is_line.number.digits is_line.number.some is_line.number.plain small))

follows-run : (arg : ℤ) (limits : Limits) (events : ℕ) (schedule text longer : List ℕ) → IsRun text schedule longer → length longer < 2 ^ 64
    → Follows (listing arg limits events schedule) text (listing arg limits events longer)
follows-run arg limits events schedule text longer r small =
    let n = digits_value 10 r.many in
    let long = ap length r.adds in
    let sizes = length-append schedule (replicate n r.task) in
    let size : length (replicate n r.task) ≡ n = length-replicate n r.task in
    let head = line (codes "dpj-trace 1") ++ line (settings_text arg limits) ++ line (events_text events) in (
      omega (arith, small, long, sizes),
      ap (λ s. head ++ schedule_text s) r.adds
          ∙ ap (λ t. head ++ t) (schedule_text-more schedule r.task n r.is_line.some r.other)
          ∙ sym (append_assoc head (schedule_text schedule) _)
          ∙ ap (λ t. head ++ schedule_text schedule ++ line t) (sym (run_text-is text r.task r.many r.is_line (omega (arith, small, long, sizes, size)))),
    )

-- what fits is a line more
follows : (before : Reported) (text : List ℕ) (after : Reported) → Fits before text after → IsSmall after → Follows before text after
follows nothing text after f small = (tt, rw (f.1, f.0) refl)
follows begun text after (arg, limits, f, is) small = (tt, rw (is, f.is) refl)
follows (settings arg limits) text after (events, f, is) small =
    (tt, rw (is, f.is) (append-nil (line (codes "dpj-trace 1") ++ line (settings_text arg limits) ++ line (events_text events))))
follows (listing arg limits events schedule) text after (inl (longer, r, is)) small =
    subst (λ t. Follows (listing arg limits events schedule) text t) (sym is)
    (follows-run arg limits events schedule text longer r (subst IsSmall is small))
follows (listing arg limits events schedule) text after (inr (p, is)) small =
    let shorter : length schedule < 2 ^ 64 = subst IsSmall is small in
    (shorter, rw (is, p.is, p.right) refl)
follows (whole arg limits schedule) text after f small = absurd f

-- lines that fit are at the front of the text
pub leads-text : (bytes : List ℕ) (n : ℕ) (reported : Reported) (rest : List ℕ) → Leads bytes n reported rest → IsSmall reported → bytes ≡ reported_text reported ++ rest
leads-text bytes _ _ _ start small = refl
leads-text bytes _ _ _ (next {n} {before} {after} {rest} {text} {following} leads cut fits) small =
    let f = follows before text after fits small in
    leads-text bytes n before rest leads f.0
    ∙ ap (λ t. reported_text before ++ t) (cut.is ∙ sym (append_assoc text (10 ∷ []) following))
    ∙ sym (append_assoc (reported_text before) (line text) following)
    ∙ ap (λ t. t ++ following) (sym f.1)

-- what is after the front of a text
following-is : (bytes front following : List ℕ) → bytes ≡ front ++ following → following ≡ drop (length bytes - length following) bytes
following-is bytes front following is =
    rw is (sym (drop_at front following (length (front ++ following) - length following) (omega (arith, length-append front following))))

small-append : (xs ys : List ℕ) → AllByRecursion (λ k. k < 2 ^ 32) xs → AllByRecursion (λ k. k < 2 ^ 32) ys → AllByRecursion (λ k. k < 2 ^ 32) (xs ++ ys)
small-append [] ys a b = b
small-append (x ∷ xs) ys a b = (a.0, small-append xs ys a.1 b)

small-replicate : (n k : ℕ) → k < 2 ^ 32 → AllByRecursion (λ k. k < 2 ^ 32) (replicate n k)
small-replicate zero k small = tt
small-replicate (suc n) k small = (small, small-replicate n k small)

-- what lines say has numbers of 32 bits
abbrev pub HasNumbers : Reported → Type 0
HasNumbers nothing = Unit {0}
HasNumbers begun = Unit {0}
HasNumbers (settings arg limits) = FitsSigned w32 arg
HasNumbers (listing arg limits events schedule) = FitsSigned w32 arg × AllByRecursion (λ k. k < 2 ^ 32) schedule
HasNumbers (whole arg limits schedule) = FitsSigned w32 arg × AllByRecursion (λ k. k < 2 ^ 32) schedule

fits-numbers : (before : Reported) (text : List ℕ) (after : Reported) → HasNumbers before → Fits before text after → HasNumbers after
fits-numbers nothing text after has f = subst HasNumbers (sym f.1) tt
fits-numbers begun text after has (arg, limits, f, is) = subst HasNumbers (sym is) f.arg_allowed
fits-numbers (settings arg limits) text after has (events, f, is) = subst HasNumbers (sym is) (has, tt)
fits-numbers (listing arg limits events schedule) text after has (inl (longer, r, is)) =
    let more = small-append schedule _ has.1 (small-replicate (digits_value 10 r.many) r.task r.is_line.task_allowed) in
    subst HasNumbers (sym is) (has.0, subst (AllByRecursion (λ k. k < 2 ^ 32)) (sym r.adds) more)
fits-numbers (listing arg limits events schedule) text after has (inr (p, is)) = subst HasNumbers (sym is) has
fits-numbers (whole arg limits schedule) text after has f = absurd f

leads-numbers : (bytes : List ℕ) (n : ℕ) (reported : Reported) (rest : List ℕ) → Leads bytes n reported rest → HasNumbers reported
leads-numbers bytes _ _ _ start = tt
leads-numbers bytes _ _ _ (next {n} {before} {after} {rest} {text} {following} leads cut fits) =
    fits-numbers before text after (leads-numbers bytes n before rest leads) fits

-- the line after the schedule makes a trace
pub trace-is : (bytes : List ℕ) (n : ℕ) (arg : ℤ) (limits : Limits) (events : ℕ) (schedule rest text following : List ℕ)
    → Leads bytes n (listing arg limits events schedule) rest → AreLimits limits → events ≤ 2 * limits.steps + 2
    → IsCut 10 rest text following → IsProgram text events schedule
    → IsTrace bytes (record { arg = arg; limits = limits; schedule = schedule; from = length bytes - length following })
trace-is bytes n arg limits events schedule rest text following leads allowed few cut program =
    let most : limits.steps ≤ 20000000 = allowed.steps_most in
    let right : length schedule ≡ events = program.right in
    let numbers = leads-numbers bytes n (listing arg limits events schedule) rest leads in
    let all = leads-text bytes (suc n) (whole arg limits schedule) following (next leads cut (inr (program, refl))) (omega (arith, right, few, most)) in record {
      limits = allowed;
      arg = numbers.0;
      tasks = numbers.1;
      events = omega (arith, right, few);
      within = omega arith;
      is = all ∙ ap (λ source. trace_text arg limits schedule source) (following-is bytes (reported_text (whole arg limits schedule)) following all);
    }
