-- Each accepted program has a run, in each mode.
use Rattle.std.proofs.Common.{◌≡◌, ◌+◌, ◌*◌, ◌≤◌, ℕ, ℤ, FitsSigned, List, [], length, replicate, Some, None, refl, arith}
use Rattle.std.specs.Int.{w32}
use Rattle.std.specs.List.{sum}
use Rattle.std.proofs.lemmas.List.{length-replicate}
use Rattle.std.proofs.lemmas.List.Folds.{sum_by-replicate}
use Rattle.lang_base.specs.declared.outcome.Limits.{Limits}
use Rattle.code_instrs.specs.Plain.{plain_code}
use Rattle.code_instrs.specs.declared.code.Code.{Code}
use Rattle.code_scheme.specs.Whole.{compiled}
use Rattle.exec_progress.specs.Progress.{CodeMakesProgress}
use Rattle.exec_machine.specs.Keeping.{Played}
use Rattle.exec_machine.specs.Premise.{CanProgress}
use Rattle.exec_machine.specs.Replay.{IsStuck, LeadsTo, Moment}
use Rattle.sound_text.specs.Laws.{Keeps}
use Rattle.runs_theorem.specs.Guarantee.{MachinesAreNotStuck}
use Rattle.runs_simulation.specs.Laws.{SchedulesAreShort, SomeTaskIsReady}
use Rattle.exec_run.specs.Rounding.{ComesByRounds}
use Rattle.exec_run.specs.Rounding.{by_rounds as comes_by_rounds}
use Rattle.exec_run.specs.Run.{IsRun, IsRunOf, recorded_so}
use Rattle.exec_run.specs.Seeding.{ComesBySeed}
use Rattle.exec_run.specs.Seeding.{by_seed as comes_by_seed}
use Rattle.exec_run.specs.declared.recorded.Recorded.{Recorded}
use Rattle.lang_typed.specs.Plain.{PlainProgram}
use Rattle.tool_words.specs.declared.key.Mode.{Mode}
use Rattle.tool_words.specs.declared.key.Mode.TheVariants as mode
use Rattle.exec_world.specs.Ready.{IsReady}
use Rattle.tool_top.specs.Answer.{IsRunBy}
use Rattle.tool_total.proofs.Codes.{code_back, code_for}
use Rattle.tool_total.proofs.Finishing.{Finishes, finishes, played, replayed, starts}
use Rattle.tool_total.proofs.Rounds.{ByRounds, by_rounds}
use Rattle.tool_total.proofs.Seeds.{BySeed, by_seed_drawn}

no_sum : (n : ℕ) → sum (replicate n 0) ≡ 0
no_sum n = let product = sum_by-replicate (λ (x : ℕ). x) n 0 in omega (arith, product)

module _ (going : CodeMakesProgress) (some : SomeTaskIsReady) (short : SchedulesAreShort) (never_stuck : MachinesAreNotStuck) (typed : PlainProgram) (kept : Keeps typed)
    (L : Limits) (arg : ℤ) (few : L.steps ≤ 20000000) (cells : L.cells ≤ 16777216) (fits : FitsSigned w32 arg) where
  abbrev pub code : Code
  code = code_for (compiled typed)

  pub is_code : plain_code code ≡ compiled typed
  is_code = code_back (compiled typed)

  pub goes : CanProgress code L arg
  goes = going code typed L arg is_code kept.resolved kept.has_main few

  pub unstuck : (ks : List ℕ) (m : Moment) → LeadsTo code L arg ks m → (k : ℕ) → IsStuck (plain_code code) m k → ⊥
  unstuck = never_stuck typed code L arg kept.well_typed kept.resolved kept.has_main is_code (kept.narrow code is_code) few cells fits

  pub some_ready : (ks : List ℕ) (m : Moment) → LeadsTo code L arg ks m → m.outcome ≡ None → (k : ℕ) × IsReady m.world k
  some_ready = some code typed L arg is_code kept.resolved kept.has_main few

  pub few_events : (ks : List ℕ) (m : Moment) → LeadsTo code L arg ks m → length ks ≤ 2 * L.steps + 2
  few_events = short code typed L arg is_code kept.resolved kept.has_main few

  pub run_of : (js : List ℕ) (m : Moment) → LeadsTo code L arg js m → IsRunOf typed L arg (played code L arg js m)
  run_of js m leads = record { is_code = is_code; limits = refl; is_argument = refl; replayed = replayed code L arg js m leads }

  finished : Finishes code L arg
  finished = finishes code L arg goes unstuck some_ready (2 * L.steps + 2) few_events

  rounds : ByRounds code L arg goes unstuck some_ready (2 * L.steps + 2) few_events (omega (arith, few))
  rounds = by_rounds code L arg goes unstuck some_ready (2 * L.steps + 2) few_events (omega (arith, few))

  drawn : (seed : ℕ) → BySeed code L arg goes unstuck some_ready (2 * L.steps + 2) few_events seed
  drawn seed = by_seed_drawn code L arg goes unstuck some_ready (2 * L.steps + 2) few_events seed

  by_steps : (workers : ℕ) → (r : Recorded) × IsRun typed L arg workers (Some r)
  by_steps workers =
      let p : Played = played code L arg finished.schedule finished.moment in
      let r : Recorded = record { «record» = record { machine = p; shares = replicate workers 0; own = length p.schedule; rounds = 0 }; outcome = finished.outcome } in (
        r,
        recorded_so r (record {
          is_run = run_of finished.schedule finished.moment finished.leads;
          came = finished.came;
          seats = length-replicate workers 0;
          counted = (let none = no_sum workers in omega (arith, none));
        }),
      )

  in_rounds : (workers : ℕ) → (r : Recorded) × ComesByRounds typed L arg workers (Some r)
  in_rounds workers =
      let p : Played = played code L arg rounds.schedule rounds.moment in
      let r : Recorded = record { «record» = record { machine = p; shares = replicate workers 0; own = length p.schedule; rounds = rounds.count }; outcome = rounds.outcome } in (
        r,
        comes_by_rounds r p (record {
          is_run = run_of rounds.schedule rounds.moment rounds.leads;
          start = played code L arg [] (starts code L arg).0;
          nothing = refl;
          count = rounds.count;
          rounds = rounds.rounds;
        }) (record { machine = refl; came = rounds.came; no_shares = refl; own = refl; rounds = refl }),
      )

  by_seed : (workers seed : ℕ) → (r : Recorded) × ComesBySeed typed L arg workers seed (Some r)
  by_seed workers seed =
      let s = drawn seed in
      let p : Played = played code L arg s.schedule s.moment in
      let r : Recorded = record { «record» = record { machine = p; shares = replicate workers 0; own = length p.schedule; rounds = 0 }; outcome = s.outcome } in (
        r,
        comes_by_seed r p (record {
          is_run = run_of s.schedule s.moment s.leads;
          start = played code L arg [] (starts code L arg).0;
          nothing = refl;
          seeded = record { state = s.state; steps = s.steps };
        }) (record { machine = refl; came = s.came; no_shares = refl; own = refl; rounds = refl }),
      )

  pub run_by : (m : Mode) (workers : ℕ) → (r : Recorded) × IsRunBy m typed L arg workers (Some r)
  run_by mode.Steps workers = by_steps workers
  run_by mode.Rounds workers = in_rounds workers
  run_by (mode.Seeded seed) workers = by_seed workers seed
