-- How the lines of a schedule go on and end, over plain variables.
use Rattle.std.proofs.Common.{◌≡◌, ℕ, ℤ, suc, ◌+◌, ◌-◌, ◌*◌, ◌<◌, ◌≤◌, inl, inr, Bool, true, false, List, ◌∷◌, length, codes, sym, ap, subst, arith, length-append}
use Rattle.lang_base.specs.declared.outcome.Limits.{Limits}
use Rattle.tool_trace.specs.declared.listed.Listed.{Listed}
use Rattle.tool_trace.specs.Pieces.{IsCut}
use Rattle.tool_trace.specs.Listing.{Lists, Takes}
use Rattle.tool_trace.specs.Reading.{AreLimits, Reported, listing, IsRun, Fits, Leads, IsTrace, IsMisfit}
use Rattle.tool_trace.proofs.Leading.{leads-less, trace-is, misfit-line}

pub cut-less : (byte : ℕ) (text front rest : List ℕ) → IsCut byte text front rest → length rest < length text
cut-less byte text front rest cut = omega (arith, ap length cut.is, length-append front (byte ∷ rest))

-- what is after a further line isn't longer than the text
pub following-less : (bytes : List ℕ) (n : ℕ) (reported : Reported) (rest text following : List ℕ) → Leads bytes n reported rest → IsCut 10 rest text following
    → (length following ≤ length bytes) × (n ≤ length bytes)
following-less bytes n reported rest text following leads cut =
    let less = leads-less bytes n reported rest leads in
    let cuts = cut-less 10 rest text following cut in (omega (arith, less, cuts), omega (arith, less))

pub not-taken : (fits : Bool) (text schedule : List ℕ) (listed : Listed) → fits ≡ false → Takes fits text schedule listed → (longer : List ℕ) → IsRun text schedule longer → ⊥
not-taken true text schedule listed is takes = cc
not-taken false text schedule listed is takes = takes

pub taken : (fits : Bool) (text schedule : List ℕ) (listed : Listed) → fits ≡ true → Takes fits text schedule listed
    → (longer : List ℕ) × IsRun text schedule longer × Lists listed longer
taken true text schedule listed is takes = takes
taken false text schedule listed is takes = cc

module _ (events : ℕ) (limits : Limits) (allowed : AreLimits limits) (few : events ≤ 2 * limits.steps + 2) (schedule : List ℕ) (listed : Listed) (lists : Lists listed schedule)
    (same : listed.events ≡ events) where
  -- the lengths add up where the total says so
  total-right : (listed.total ≡ listed.events → length schedule ≡ events) × (length schedule ≡ events → listed.total ≡ listed.events)
  total-right =
      let most : limits.steps ≤ 20000000 = allowed.steps_most in
      let total = lists.total in (λ e. omega (arith, e, same, few, most, total), λ e. omega (arith, e, same, few, most, total))

  pub read-whole : (bytes : List ℕ) (n : ℕ) (arg : ℤ) (rest text following : List ℕ) → Leads bytes n (listing arg limits events schedule) rest
      → IsCut 10 rest text following → text ≡ codes "program" → listed.total ≡ listed.events
      → IsTrace bytes (record { arg = arg; limits = limits; schedule = listed.numbers; from = length bytes - length following })
  read-whole bytes n arg rest text following leads cut program whole =
      let right : length schedule ≡ events = total-right.0 whole in
      let P : List ℕ → Type 0 = λ s. IsTrace bytes (record { arg = arg; limits = limits; schedule = s; from = length bytes - length following }) in
      subst P (sym (lists.numbers (omega (arith, right, same))))
      (trace-is bytes n arg limits events schedule rest text following leads allowed few cut (record { is = program; right = right }))

  unfit : (arg : ℤ) (text : List ℕ) → ((text ≡ codes "program") × (listed.total ≡ listed.events) → ⊥) → ((longer : List ℕ) → IsRun text schedule longer → ⊥)
      → (after : Reported) → Fits (listing arg limits events schedule) text after → ⊥
  unfit arg text other none after (inl (longer, r, is)) = none longer r
  unfit arg text other none after (inr (p, is)) = other (p.is, total-right.1 p.right)

  -- a line that is neither of a run nor the last doesn't fit
  pub read-misfit : (bytes : List ℕ) (n line : ℕ) (arg : ℤ) (rest text following : List ℕ) → line ≡ suc n → Leads bytes n (listing arg limits events schedule) rest
      → IsCut 10 rest text following → ((text ≡ codes "program") × (listed.total ≡ listed.events) → ⊥)
      → ((longer : List ℕ) → IsRun text schedule longer → ⊥) → IsMisfit bytes line
  read-misfit bytes n line arg rest text following number leads cut other none =
      subst (IsMisfit bytes) (sym number)
      (misfit-line bytes n (listing arg limits events schedule) rest text following leads tt cut (unfit arg text other none))
