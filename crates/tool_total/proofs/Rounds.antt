-- A machine that is never stuck comes out in rounds too.
use Rattle.std.proofs.Common.{◌≡◌, ◌⊎◌, ◌+◌, ◌<◌, ◌≤◌, ℕ, suc, zero, ℤ, List, [], ◌∷◌, length, reverse, IsSome, Option, Some, None, inl, inr, ⊎_elim, refl, sym, subst, arith}
use Rattle.std.proofs.lemmas.Bool.{false≢true}
use Rattle.std.proofs.lemmas.List.{length-reverse}
use Rattle.lang_base.specs.declared.outcome.Limits.{Limits}
use Rattle.lang_base.specs.declared.outcome.Outcome.{Outcome}
use Rattle.code_instrs.specs.declared.code.Code.{Code}
use Rattle.code_instrs.specs.Plain.{plain_code}
use Rattle.tool_total.proofs.Lists.{head_in, nothing_in}
use Rattle.exec_machine.specs.Keeping.{HasEnded, Played, most_events}
use Rattle.exec_machine.specs.Premise.{CanProgress}
use Rattle.exec_machine.specs.Replay.{IsStuck, LeadsTo, Moment}
use Rattle.exec_run.specs.rounds.Rounds.{AreReady, HadTurns, IsRound, IsTurn, RoundsOn, finished, further, here, made, not_ready}
use Rattle.exec_world.specs.Ready.{IsReady}
use Rattle.tool_total.proofs.Finishing.{made_next, next, played, starts}
use Rattle.tool_total.proofs.Numbers.{counted, ready_below}
use Rattle.tool_total.proofs.Readiness.{ready_or, ready_tasks}

module _ (code : Code) (L : Limits) (arg : ℤ) (goes : CanProgress code L arg)
    (unstuck : (ks : List ℕ) (m : Moment) → LeadsTo code L arg ks m → (k : ℕ) → IsStuck (plain_code code) m k → ⊥) where
  -- the schedule and the moment after these turns
  record Turned (tasks js : List ℕ) (m : Moment) : Type 0 where
    schedule : List ℕ
    moment : Moment
    leads : LeadsTo code L arg schedule moment
    turns : HadTurns (played code L arg js m) tasks (played code L arg schedule moment)
    longer : length js ≤ length schedule

  module _ (k : ℕ) (ks : List ℕ) (rest : (js : List ℕ) (m : Moment) → LeadsTo code L arg js m → Turned ks js m) (js : List ℕ) (m : Moment) (leads : LeadsTo code L arg js m) where
    left_out : IsTurn (played code L arg js m) k (played code L arg js m) → Turned (k ∷ ks) js m
    left_out turn =
        let t = rest js m leads in record {
          schedule = t.schedule;
          moment = t.moment;
          leads = t.leads;
          turns = (played code L arg js m, turn, t.turns);
          longer = t.longer;
        }

    moved_on : m.outcome ≡ None → IsReady m.world k → Turned (k ∷ ks) js m
    moved_on none ready =
        let n = next code L arg goes unstuck js m leads none k ready in
        let t = rest (k ∷ js) n.0 (m, leads, n.1) in
        let more = t.longer in record {
          schedule = t.schedule;
          moment = t.moment;
          leads = t.leads;
          turns = (played code L arg (k ∷ js) n.0, made (played code L arg (k ∷ js) n.0) none ready (made_next code L arg js m leads k n.0 n.1), t.turns);
          longer = omega (arith, more);
        }

    turn : (o : Option Outcome) → m.outcome ≡ o → IsReady m.world k ⊎ (IsReady m.world k → ⊥) → Turned (k ∷ ks) js m
    turn (Some o) e ready = left_out (finished (subst IsSome (sym e) refl))
    turn None e (inl ready) = moved_on e ready
    turn None e (inr never) = left_out (not_ready never)

  turned : (tasks js : List ℕ) (m : Moment) → LeadsTo code L arg js m → Turned tasks js m
  turned [] js m leads = record { schedule = js; moment = m; leads = leads; turns = refl; longer = omega arith }
  turned (k ∷ ks) js m leads = turn k ks (turned ks) js m leads m.outcome refl (ready_or m.world k)

  record Rounded (js : List ℕ) (m : Moment) : Type 0 where
    schedule : List ℕ
    moment : Moment
    leads : LeadsTo code L arg schedule moment
    unended : HasEnded (played code L arg js m) → ⊥
    round : IsRound (played code L arg js m) (played code L arg schedule moment)
    longer : length js < length schedule

  module _ (some : (ks : List ℕ) (m : Moment) → LeadsTo code L arg ks m → m.outcome ≡ None → (k : ℕ) × IsReady m.world k) (most : ℕ)
      (short : (ks : List ℕ) (m : Moment) → LeadsTo code L arg ks m → length ks ≤ most) (few : most ≤ 40000002) where
    -- a machine that can go on hasn't ended
    not_ended : (js : List ℕ) (m : Moment) → LeadsTo code L arg js m → m.outcome ≡ None → HasEnded (played code L arg js m) → ⊥
    not_ended js m leads none =
        ⊎_elim (λ come. false≢true (subst IsSome none come)) (λ h. ⊎_elim (λ nothing. nothing r.0 r.1) (λ (many : most_events ≤ length (reverse js)). too_many many) h)
      where
        r : (k : ℕ) × IsReady m.world k
        r = some js m leads none

        too_many : most_events ≤ length (reverse js) → ⊥
        too_many many =
            let n = next code L arg goes unstuck js m leads none r.0 r.1 in
            let size = short (r.0 ∷ js) n.0 (m, leads, n.1) in
            let same = length-reverse js in omega (arith, many, size, same, few)

    with_tasks : (js : List ℕ) (m : Moment) (leads : LeadsTo code L arg js m) → m.outcome ≡ None → (tasks : List ℕ) → AreReady m.world tasks → Rounded js m
    with_tasks js m leads none [] ready =
        absurd (let r = some js m leads none in nothing_in r.0 ((ready.all r.0).1 r.1))
    with_tasks js m leads none (k ∷ ks) ready =
        let first = (ready.all k).0 (head_in k ks) in
        let n = next code L arg goes unstuck js m leads none k first in
        let t = turned ks (k ∷ js) n.0 (m, leads, n.1) in
        let more = t.longer in record {
          schedule = t.schedule;
          moment = t.moment;
          leads = t.leads;
          unended = not_ended js m leads none;
          round = record {
            unfinished = none;
            tasks = k ∷ ks;
            ready = ready;
            turns = (played code L arg (k ∷ js) n.0, made (played code L arg (k ∷ js) n.0) none first (made_next code L arg js m leads k n.0 n.1), t.turns);
          };
          longer = omega (arith, more);
        }

    rounded : (js : List ℕ) (m : Moment) → LeadsTo code L arg js m → m.outcome ≡ None → Rounded js m
    rounded js m leads none =
        let R = ready_tasks m.world m.world.tree.begun (λ k is. ready_below m.world.tree k (counted code L arg js m leads) is.0) in with_tasks js m leads none R.0 R.1

    abbrev Start : Played
    Start = played code L arg [] (starts code L arg).0

    -- it has come out by rounds
    pub record ByRounds : Type 0 where
      pub schedule : List ℕ
      pub moment : Moment
      pub outcome : Outcome
      pub leads : LeadsTo code L arg schedule moment
      pub came : moment.outcome ≡ Some outcome
      pub count : ℕ
      pub rounds : RoundsOn Start count (played code L arg schedule moment)

    abbrev Ends : ℕ → Type 0
    Ends fuel = (js : List ℕ) (m : Moment) (count : ℕ) → LeadsTo code L arg js m → RoundsOn Start count (played code L arg js m) → most < fuel + length js → ByRounds

    on : (fuel : ℕ) → Ends fuel → (js : List ℕ) (m : Moment) (count : ℕ) → LeadsTo code L arg js m → RoundsOn Start count (played code L arg js m) → most < suc fuel + length js
        → (o : Option Outcome) → m.outcome ≡ o → ByRounds
    on fuel more js m count leads before enough None e =
        let r = rounded js m leads e in
        let longer = r.longer in
        more r.schedule r.moment (count + 1) r.leads (further count (played code L arg js m) (played code L arg r.schedule r.moment) before r.unended r.round) (omega (arith, enough, longer))
    on fuel more js m count leads before enough (Some o) e = record { schedule = js; moment = m; outcome = o; leads = leads; came = e; count = count; rounds = before }

    come : (fuel : ℕ) → Ends fuel
    come zero js m count leads before enough = absurd (let few = short js m leads in omega (arith, enough, few))
    come (suc fuel) js m count leads before enough = on fuel (come fuel) js m count leads before enough m.outcome refl

    pub by_rounds : ByRounds
    by_rounds = come (suc most) [] (starts code L arg).0 0 (starts code L arg).1 here (omega arith)
