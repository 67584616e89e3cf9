-- Bytes are a trace, or have a first line that doesn't fit.
use Rattle.std.proofs.Common.{◌≡◌, ◌∙◌, ◌⊎◌, ◌+◌, ◌-◌, ◌*◌, ◌<◌, ◌≤◌, ◌^◌, ℕ, ℤ, pos, negsuc, suc, zero, FitsSigned, List, [], ◌∷◌, ◌++◌, codes, length, replicate, Some, inl, inr, ⊎_elim, refl, ap, sym, subst, arith, length-append}
use Rattle.std.specs.Int.{w32}
use Rattle.std.specs.Prelude.{slice_index}
use Rattle.std.specs.Fmt.{decimal}
use Rattle.std.specs.Char.{digit_value}
use Rattle.std.specs.Str.Parse.{AllDigits, digits_value}
use Rattle.std.proofs.lemmas.List.{append_cancel_left}
use Rattle.lang_base.specs.declared.outcome.Limits.{Limits}
use Rattle.tool_trace.specs.Pieces.{IsCut, IsNumber}
use Rattle.tool_trace.specs.Reading.{AreLimits, Fits, IsEvents, IsMisfit, IsRun, IsSettings, IsTrace, IsUnfinished, Leads, Reported, IsRunLine, begun, listing, next, nothing, settings, start, whole}
use Rattle.tool_trace.specs.Runs.{last_of}
use Rattle.tool_trace.specs.Text.{events_text, settings_text}
use Rattle.tool_trace.specs.declared.reading.Trace.{Trace}
use Rattle.tool_trace.proofs.Leading.{misfit-line, misfit-missing, trace-is}
use Rattle.tool_total.proofs.Deciding.{Decided, after_decided, found_decided, less_decided, most_decided, same_decided, some_decided, text_decided, decided_both, decided_map}

-- a text is cut at a byte, or doesn't have it
abbrev CutSo : List ℕ → Type 0
CutSo rest = (text : List ℕ) × (following : List ℕ) × IsCut 10 rest text following

tail_same : {x y : ℕ} {xs ys : List ℕ} → x ∷ xs ≡ y ∷ ys → xs ≡ ys
tail_same e = cc

head_same : {x y : ℕ} {xs ys : List ℕ} → x ∷ xs ≡ y ∷ ys → x ≡ y
head_same e = cc

no_end : (text following : List ℕ) → [] ≡ text ++ 10 ∷ following → ⊥
no_end text following e = let size = ap (λ (l : List ℕ). length l) e in let parts = length-append text (10 ∷ following) in omega (arith, size, parts)

cut_later : (b : ℕ) (bs : List ℕ) → (b ≡ 10 → ⊥) → ((text following : List ℕ) → IsCut 10 bs text following → ⊥) → (text following : List ℕ) → IsCut 10 (b ∷ bs) text following → ⊥
cut_later b bs other never [] following cut = other (head_same cut.is)
cut_later b bs other never (x ∷ text) following cut = never text following (record { is = tail_same cut.is; first = cut.first.1 })

cut_decided : (rest : List ℕ) → CutSo rest ⊎ ((text following : List ℕ) → IsCut 10 rest text following → ⊥)
cut_decided [] = inr (λ text following cut. no_end text following cut.is)
cut_decided (b ∷ bs) =
    ⊎_elim (λ (same : b ≡ 10). inl ([], bs, record { is = ap (λ c. c ∷ bs) same; first = tt }))
    (λ (other : b ≡ 10 → ⊥).
    ⊎_elim (λ (cut : CutSo bs). inl (b ∷ cut.0, cut.1, record { is = ap (λ l. b ∷ l) cut.2.is; first = (other, cut.2.first) }))
    (λ never. inr (cut_later b bs other never)) (cut_decided bs)) (same_decided b 10)

-- which limits are allowed, and which numbers fit
limits_decided : (L : Limits) → Decided (AreLimits L)
limits_decided L =
    decided_map (λ h. record { steps_least = h.0.0; steps_most = h.0.1; cells_least = h.1.0; cells_most = h.1.1 }) (λ a. ((a.steps_least, a.steps_most), (a.cells_least, a.cells_most)))
    (decided_both (decided_both (most_decided 1 L.steps) (most_decided L.steps 20000000)) (decided_both (most_decided 1 L.cells) (most_decided L.cells 16777216)))

fits_decided : (z : ℤ) → Decided (FitsSigned w32 z)
fits_decided (pos n) = decided_map (λ h. record { sfits = h }) (λ f. f.sfits) (less_decided n 2147483648)
fits_decided (negsuc n) = decided_map (λ h. record { sfits = h }) (λ f. f.sfits) (less_decided n 2147483648)

settings_so : (text : List ℕ) (arg : ℤ) (L : Limits) → Decided (IsSettings text arg L)
settings_so text arg L =
    decided_map (λ h. record { limits_allowed = h.0; arg_allowed = h.1.0; is = h.1.1 }) (λ f. (f.limits_allowed, (f.arg_allowed, f.is)))
    (decided_both (limits_decided L) (decided_both (fits_decided arg) (text_decided text (settings_text arg L))))

abbrev limits_with : ℕ → ℕ → Limits
limits_with steps cells = record { steps = steps; cells = cells }

-- the limits of a line of settings, where its argument is known
abbrev LimitsOf : List ℕ → ℤ → Type 0
LimitsOf text arg = (L : Limits) × IsSettings text arg L

limits_found : (text : List ℕ) (arg : ℤ) → Decided (LimitsOf text arg)
limits_found text arg =
    ⊎_elim (λ found. inl (limits_with found.0 found.1.0, found.1.1))
    (λ none. inr (λ h. (let most : h.0.steps ≤ 20000000 = h.1.limits_allowed.steps_most in none h.0.steps (omega (arith, most)) (h.0.cells, h.1))))
    (found_decided {P = λ steps. (cells : ℕ) × IsSettings text arg (limits_with steps cells)} 20000001 (λ steps. by_steps steps))
  where
    by_steps : (steps : ℕ) → Decided ((cells : ℕ) × IsSettings text arg (limits_with steps cells))
    by_steps steps =
        ⊎_elim (λ found. inl found)
        (λ none. inr (λ h. (let most : h.0 ≤ 16777216 = h.1.limits_allowed.cells_most in none h.0 (omega (arith, most)) h.1)))
        (found_decided {P = λ cells. IsSettings text arg (limits_with steps cells)} 16777217 (λ cells. settings_so text arg (limits_with steps cells)))

settings_decided : (text : List ℕ) → Decided ((arg : ℤ) × LimitsOf text arg)
settings_decided text =
    ⊎_elim (λ found. inl (pos found.0, found.1))
    (λ no_pos.
    ⊎_elim (λ found. inl (negsuc found.0, found.1)) (λ no_neg. inr (λ h. neither no_pos no_neg h.0 h.1))
    (found_decided {P = λ n. LimitsOf text (negsuc n)} 2147483648 (λ n. limits_found text (negsuc n))))
    (found_decided {P = λ n. LimitsOf text (pos n)} 2147483648 (λ n. limits_found text (pos n)))
  where
    neither : ((n : ℕ) → n < 2147483648 → LimitsOf text (pos n) → ⊥) → ((n : ℕ) → n < 2147483648 → LimitsOf text (negsuc n) → ⊥) → (arg : ℤ) → LimitsOf text arg → ⊥
    neither a b (pos n) h = a n h.1.arg_allowed.sfits h
    neither a b (negsuc n) h = b n h.1.arg_allowed.sfits h

events_decided : (text : List ℕ) (most : ℕ) → Decided ((events : ℕ) × IsEvents text most events)
events_decided text most =
    ⊎_elim (λ found. inl (found.0, record { few = found.1.0; is = found.1.1 }))
    (λ none. inr (λ h. (let few = h.1.few in none h.0 (omega (arith, few)) (h.1.few, h.1.is))))
    (found_decided {P = λ events. (events ≤ most) × (text ≡ events_text events)} (suc most) (λ events. decided_both (most_decided events most) (text_decided text (events_text events))))

-- numbers
digits_decided : (text : List ℕ) → Decided (AllDigits 10 text)
digits_decided [] = inl tt
digits_decided (c ∷ cs) = decided_both (less_decided (digit_value c) 10) (digits_decided cs)

plain_decided : (text : List ℕ) → Decided (slice_index text 0 ≡ 48 → length text ≡ 1)
plain_decided text =
    ⊎_elim (λ (one : length text ≡ 1). inl (λ zero. one))
    (λ (more : length text ≡ 1 → ⊥). ⊎_elim (λ (zero : slice_index text 0 ≡ 48). inr (λ plain. more (plain zero))) (λ (other : slice_index text 0 ≡ 48 → ⊥). inl (λ zero. absurd (other zero)))
    (same_decided (slice_index text 0) 48)) (same_decided (length text) 1)

number_decided : (text : List ℕ) → Decided (IsNumber text)
number_decided text =
    decided_map (λ h. record { digits = h.0; some = h.1.0; plain = h.1.1 }) (λ n. (n.digits, (n.some, n.plain)))
    (decided_both (digits_decided text) (decided_both (less_decided 0 (length text)) (plain_decided text)))

-- the line of a run
abbrev ManyOf : List ℕ → ℕ → Type 0
ManyOf text task = (many : List ℕ) × IsRunLine text task many

many_decided : (text : List ℕ) (task : ℕ) → Decided (ManyOf text task)
many_decided text task =
    ⊎_elim (λ after. with_rest after.0 after.1)
    (λ none. inr (λ h. none h.0 (h.1.is)))
    (after_decided text (decimal task ++ codes " "))
  where
    with_rest : (many : List ℕ) → text ≡ (decimal task ++ codes " ") ++ many → Decided (ManyOf text task)
    with_rest many is =
        decided_map (λ h. (many, record { task_allowed = h.0; number = h.1.0; some = h.1.1; is = is }))
        (λ h. (let same : h.0 ≡ many = append_cancel_left (decimal task ++ codes " ") h.0 many (sym h.1.is ∙ is) in
        (h.1.task_allowed, (subst IsNumber same h.1.number, subst (λ (m : List ℕ). 0 < digits_value 10 m) same h.1.some))))
        (decided_both (less_decided task (2 ^ 32)) (decided_both (number_decided many) (less_decided 0 (digits_value 10 many))))

run_decided : (text before : List ℕ) → Decided ((longer : List ℕ) × IsRun text before longer)
run_decided text before =
    ⊎_elim (λ found. inl (
      before ++ replicate (digits_value 10 found.1.1.0) found.0,
      record {
        task = found.0;
        many = found.1.1.0;
        is_line = found.1.1.1;
        other = found.1.0;
        adds = refl;
      },
    ))
    (λ none. inr (λ h. none h.1.task h.1.is_line.task_allowed (h.1.other, (h.1.many, h.1.is_line))))
    (found_decided {P = λ task. (last_of before ≡ Some task → ⊥) × ManyOf text task} (2 ^ 32) (λ task. decided_both (other_decided task) (many_decided text task)))
  where
    other_decided : (task : ℕ) → Decided (last_of before ≡ Some task → ⊥)
    other_decided task = ⊎_elim (λ same. inr (λ other. other same)) (λ other. inl other) (some_decided (last_of before) task)

-- what a line leads to, if it fits
abbrev FitsSo : Reported → List ℕ → Type 0
FitsSo reported text = (after : Reported) × Fits reported text after

fits_so : (reported : Reported) (text : List ℕ) → FitsSo reported text ⊎ ((after : Reported) → Fits reported text after → ⊥)
fits_so nothing text = ⊎_elim (λ is. inl (begun, (is, refl))) (λ never. inr (λ after f. never f.0)) (text_decided text (codes "dpj-trace 1"))
fits_so begun text =
    ⊎_elim (λ h. inl (settings h.0 h.1.0, (h.0, h.1.0, h.1.1, refl))) (λ never. inr (λ after f. never (f.0, (f.1, f.2)))) (settings_decided text)
fits_so (settings arg limits) text =
    ⊎_elim (λ h. inl (listing arg limits h.0 [], (h.0, h.1, refl))) (λ never. inr (λ after f. never (f.0, f.1))) (events_decided text (2 * limits.steps + 2))
fits_so (listing arg limits events schedule) text =
    ⊎_elim (λ h. inl (listing arg limits events h.0, inl (h.0, h.1, refl)))
    (λ no_run. ⊎_elim (λ is. inl (whole arg limits schedule, inr (record { is = is.0; right = is.1 }, refl)))
    (λ no_program. inr (λ after f. ⊎_elim (λ run. no_run (run.0, run.1)) (λ program. no_program (program.0.is, program.0.right)) f))
    (decided_both (text_decided text (codes "program")) (same_decided (length schedule) events))) (run_decided text schedule)
fits_so (whole arg limits schedule) text = inr (λ after f. f)

-- what lines have told is in its range
abbrev Right : Reported → Type 0
Right nothing = Unit {0}
Right begun = Unit {0}
Right (settings arg limits) = AreLimits limits
Right (listing arg limits events schedule) = AreLimits limits × (events ≤ 2 * limits.steps + 2)
Right (whole arg limits schedule) = Unit {0}

right_after : (reported : Reported) (text : List ℕ) (after : Reported) → Right reported → Fits reported text after → Right after
right_after nothing text after right f = subst Right (sym f.1) tt
right_after begun text after right (arg, limits, f, is) = subst Right (sym is) f.limits_allowed
right_after (settings arg limits) text after right (events, f, is) = subst Right (sym is) (right, f.few)
right_after (listing arg limits events schedule) text after right (inl (longer, r, is)) = subst Right (sym is) right
right_after (listing arg limits events schedule) text after right (inr (p, is)) = subst Right (sym is) tt
right_after (whole arg limits schedule) text after right f = absurd f

abbrev pub ReadSo : List ℕ → Type 0
ReadSo bytes = ((trace : Trace) × IsTrace bytes trace) ⊎ ((line : ℕ) × IsMisfit bytes line)

module _ (bytes : List ℕ) where
  abbrev Reads : ℕ → Type 0
  Reads fuel = (n : ℕ) (reported : Reported) (rest : List ℕ) → Leads bytes n reported rest → IsUnfinished reported → Right reported → length rest < fuel → ReadSo bytes

  shorter : (rest text following : List ℕ) → IsCut 10 rest text following → length following < length rest
  shorter rest text following cut =
      let size = ap (λ (l : List ℕ). length l) cut.is in let parts = length-append text (10 ∷ following) in omega (arith, size, parts)

  module _ (fuel : ℕ) (more : Reads fuel) (n : ℕ) (rest text following : List ℕ) (cut : IsCut 10 rest text following) (few : length rest < suc fuel) where
    goes_on : (reported after : Reported) → Leads bytes n reported rest → Right reported → Fits reported text after → IsUnfinished after → ReadSo bytes
    goes_on reported after leads right fits unfinished =
        let less = shorter rest text following cut in
        more (suc n) after following (next leads cut fits) unfinished (right_after reported text after right fits) (omega (arith, less, few))

    by_fit : (reported after : Reported) → Leads bytes n reported rest → Right reported → Fits reported text after → ReadSo bytes
    by_fit nothing after leads right f = goes_on nothing after leads right f (subst IsUnfinished (sym f.1) tt)
    by_fit begun after leads right (arg, limits, f, is) = goes_on begun after leads right (arg, limits, f, is) (subst IsUnfinished (sym is) tt)
    by_fit (settings arg limits) after leads right (events, f, is) = goes_on (settings arg limits) after leads right (events, f, is) (subst IsUnfinished (sym is) tt)
    by_fit (listing arg limits events schedule) after leads right (inl (longer, r, is)) =
        goes_on (listing arg limits events schedule) after leads right (inl (longer, r, is)) (subst IsUnfinished (sym is) tt)
    by_fit (listing arg limits events schedule) after leads right (inr (p, is)) =
        inl (_, trace-is bytes n arg limits events schedule rest text following leads right.0 right.1 cut p)
    by_fit (whole arg limits schedule) after leads right f = absurd f

  reads : (fuel : ℕ) → Reads fuel
  reads zero n reported rest leads unfinished right few = absurd (omega (arith, few))
  reads (suc fuel) n reported rest leads unfinished right few =
      ⊎_elim
      (λ (cut : CutSo rest). ⊎_elim (λ (fit : FitsSo reported cut.0). by_fit fuel (reads fuel) n rest cut.0 cut.1 cut.2 few reported fit.0 leads right fit.1)
      (λ never. inr (suc n, misfit-line bytes n reported rest cut.0 cut.1 leads unfinished cut.2 never)) (fits_so reported cut.0))
      (λ never. inr (suc n, misfit-missing bytes n reported rest leads unfinished never)) (cut_decided rest)

  pub read_so : ReadSo bytes
  read_so = reads (suc (length bytes)) 0 nothing bytes start tt tt (omega arith)
