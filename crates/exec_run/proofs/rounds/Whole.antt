-- A round by its turns, and rounds one after another.
use Rattle.std.proofs.Common.{arith, ◌≡◌, ◌≤◌, ◌<◌, ◌-◌, ◌+◌, ◌⊎◌, ℕ, inl, inr, List, [], ◌∷◌, length, None, ap, sym, subst}
use Rattle.std.proofs.lemmas.Bool.{cases_lt}
use Rattle.exec_machine.specs.Keeping.{Played, HasEnded, most_events}
use Rattle.exec_machine.specs.declared.halted.Halted.{Halted}
use Rattle.exec_world.specs.Ready.{NoneReady}
use Rattle.exec_run.specs.rounds.Rounds.{AreReady, HadTurns, IsOver, IsRound, TurnsBreakOff, BreaksOff, within}
use Rattle.exec_run.proofs.rounds.Collecting.{first-in}
use Rattle.exec_run.proofs.rounds.Turning.{round_grows}

module _ (before after : Played) (tasks : List ℕ) (ready : AreReady before.world tasks) where
  pub round_made : before.outcome ≡ None → HadTurns before tasks after → IsRound before after
  round_made unfinished turns = record { unfinished = unfinished; tasks = tasks; ready = ready; turns = turns }

  pub round_broken : (h : Halted) → TurnsBreakOff before tasks after h → BreaksOff before after h
  round_broken h broken = within after h tasks ready broken

-- a round makes no event only where no task is ready
pub idle : (before after : Played) (made : ℕ) → IsRound before after → length after.schedule ≡ length before.schedule + made → made ≡ 0
    → NoneReady before.world
idle before after made round is none = λ q ready. let more = round_grows before after round (λ all. all q ready) in absurd (omega (arith, more))

-- a round in which no task is ready changes nothing
pub unchanged : (before after : Played) → IsRound before after → NoneReady before.world → after ≡ before
unchanged before after round none = at round.tasks round.ready round.turns
  where
    at : (ks : List ℕ) → AreReady before.world ks → HadTurns before ks after → after ≡ before
    at [] are same = same
    at (k ∷ ks) are turns = absurd (none k ((are.all k).0 (first-in k ks)))

-- rounds end where one makes no event
pub ended_idle : (before after : Played) (made : ℕ) → IsRound before after → length after.schedule ≡ length before.schedule + made → made ≡ 0
    → HasEnded after
ended_idle before after made round is none = let no = idle before after made round is none in
    subst HasEnded (sym (unchanged before after round no)) (inr (inl no))

-- and go on where one makes some
pub goes_on : (before after : Played) (made : ℕ) → (IsOver before → ⊥) → IsRound before after → length after.schedule ≡ length before.schedule + made
    → (made ≡ 0 → ⊥) → HasEnded before → ⊥
goes_on before after made going round is some (inl out) = going (inl out)
goes_on before after made going round is some (inr (inl none)) =
    some (omega (arith, is, ap (λ (p : Played). length p.schedule) (unchanged before after round none)))
goes_on before after made going round is some (inr (inr over)) = going (inr over)

-- a machine that goes on has made fewer events than a run has at most
pub few_made : (p : Played) → (HasEnded p → ⊥) → length p.schedule < most_events
few_made p goes_on = by_case (cases_lt (length p.schedule) most_events)
  where
    by_case : (length p.schedule < most_events) ⊎ (most_events ≤ length p.schedule) → length p.schedule < most_events
    by_case (inl less) = less
    by_case (inr over) = absurd (goes_on (inr (inr over)))

-- a machine goes on that hasn't ended, and a round brings it nearer to its end
module _ (p : Played) (goes_on : HasEnded p → ⊥) where
  pub grows : (q : Played) → IsRound p q → length p.schedule < length q.schedule
  grows q round = round_grows p q round (λ none. goes_on (inr (inl none)))

  pub nearer : (q : Played) → IsRound p q → most_events - length q.schedule < most_events - length p.schedule
  nearer q round = omega (arith, grows q round, few_made p goes_on)
