-- A schedule that is read run by run, over plain variables.
use Rattle.std.proofs.Common.{◌≡◌, ℕ, true, false, ◌+◌, ◌<◌, ◌≤◌, ◌^◌, min, List, ◌++◌, length, replicate, Option, Some, None, refl, sym, ap, ◌∙◌, arith, eqb, eqb-true, eq-eqb, length-append}
use Rattle.std.specs.Option.{option_eq}
use Rattle.std.proofs.lemmas.Bool.{false≢true}
use Rattle.std.specs.Str.Parse.{digits_value}
use Rattle.std.proofs.lemmas.Fmt.{decimal_injective}
use Rattle.std.proofs.lemmas.List.{length-replicate}
use Rattle.tool_trace.specs.declared.listed.Listed.{Listed}
use Rattle.tool_trace.specs.declared.listed.Reported.{Reported}
use Rattle.tool_trace.specs.Listing.{Lists, IsLineOf, Takes}
use Rattle.tool_trace.specs.Reading.{IsRunLine}
use Rattle.tool_trace.proofs.Splitting.{last_after}
use Rattle.tool_trace.proofs.Lines.{run-pieces, run-cut}

-- a run more
pub lists-add : (old new : Listed) (schedule : List ℕ) (task reported n : ℕ) → Lists old schedule → 0 < n → reported ≡ min n 1000000000000000 → new.events ≡ old.events
    → old.events ≤ 40000002 → new.total ≡ min (old.total + reported) 1000000000000000 → new.last ≡ Some task
    → (new.total ≤ new.events → new.numbers ≡ old.numbers ++ replicate reported task) → Lists new (schedule ++ replicate n task)
lists-add old new schedule task reported n lists some is events few total last numbers =
    let before = lists.total in
    let size : length (replicate n task) ≡ n = length-replicate n task in
    let sizes = length-append schedule (replicate n task) in record {
      total = omega (arith, before, size, sizes, total, is);
      last = last ∙ sym (last_after schedule task n some);
      numbers = λ short.
          let reported_all : reported ≡ n = omega (arith, is, short, sizes, size, events, few) in
          numbers (omega (arith, before, size, sizes, total, is, short, events, few))
          ∙ ap (λ s. s ++ replicate reported task) (lists.numbers (omega (arith, short, sizes, events)))
          ∙ ap (λ k. schedule ++ replicate k task) reported_all;
    }

-- a line is that of one run at most
same-task : (text : List ℕ) (t u : ℕ) (m o : List ℕ) → IsRunLine text t m → IsRunLine text u o → t ≡ u
same-task text t u m o a b =
    let t_small : t < 2 ^ 32 = a.task_allowed in
    let u_small : u < 2 ^ 32 = b.task_allowed in
    decimal_injective t u (omega (arith, t_small)) (omega (arith, u_small)) (run-pieces text _ _ u o (run-cut text t m a) b).0

-- a run of the last task doesn't fit
pub takes-no-same : (old : Listed) (new : Listed) (text schedule : List ℕ) (reported : Reported) → IsLineOf text reported → old.last ≡ Some reported.task → Lists old schedule
    → Takes false text schedule new
takes-no-same old new text schedule reported is_line same lists = λ longer r.
    r.other (sym lists.last ∙ same ∙ ap Some (same-task text reported.task r.task is_line.many r.many is_line.is_line r.is_line))

-- another run fits
pub takes-other : (old new : Listed) (text schedule : List ℕ) (reported : Reported) → IsLineOf text reported → (old.last ≡ Some reported.task → ⊥) → Lists old schedule
    → ((many : ℕ) → 0 < many → reported.many ≡ min many 1000000000000000 → Lists new (schedule ++ replicate many reported.task)) → Takes true text schedule new
takes-other old new text schedule reported is_line other lists added = (
  schedule ++ replicate (digits_value 10 is_line.many) reported.task,
  record { task = reported.task; many = is_line.many; is_line = is_line.is_line; other = λ e. other (lists.last ∙ e); adds = refl },
  added (digits_value 10 is_line.many) is_line.is_line.some is_line.length,
)

-- what a comparison with the last task says
pub same-last : (last : Option ℕ) (task : ℕ) → true ≡ option_eq eqb last (Some task) → last ≡ Some task
same-last None task e = cc
same-last (Some k) task e = ap Some (eqb-true k task (sym e))

pub other-last : (last : Option ℕ) (task : ℕ) → false ≡ option_eq eqb last (Some task) → last ≡ Some task → ⊥
other-last None task e is = cc
other-last (Some k) task e is = let same : k ≡ task = cc in false≢true (e ∙ eq-eqb k task same)
