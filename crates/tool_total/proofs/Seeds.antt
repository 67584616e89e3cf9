-- A machine that is never stuck comes out in the order that a seed draws too.
use Rattle.std.proofs.Common.{◌≡◌, ◌⊎◌, ◌+◌, ◌<◌, ◌≤◌, ℕ, suc, zero, ℤ, List, [], ◌∷◌, length, Option, Some, None, inl, inr, ⊎_elim, refl, subst, arith}
use Rattle.std.proofs.lemmas.Bool.{cases_lt}
use Rattle.lang_base.specs.declared.outcome.Limits.{Limits}
use Rattle.lang_base.specs.declared.outcome.Outcome.{Outcome}
use Rattle.code_instrs.specs.declared.code.Code.{Code}
use Rattle.code_instrs.specs.Plain.{plain_code}
use Rattle.exec_machine.specs.Keeping.{Played}
use Rattle.exec_machine.specs.Premise.{CanProgress}
use Rattle.exec_machine.specs.Replay.{IsStuck, LeadsTo, Moment}
use Rattle.exec_run.specs.Seeding.{IsDrawn, SeededOn, below, further, here, next_state, none_below, number_drawn}
use Rattle.exec_world.specs.Ready.{IsGreatestBelow, IsGreatestReady, IsReady, NoneReadyBelow}
use Rattle.exec_world.specs.declared.world.World.{World}
use Rattle.tool_total.proofs.Finishing.{made_next, next, played, starts}
use Rattle.tool_total.proofs.Numbers.{counted, ready_below}
use Rattle.tool_total.proofs.Readiness.{ready_or}

-- below a bound some task is the greatest that is ready, or none is
module _ (w : World) where
  abbrev Looked : ℕ → Type 0
  Looked bound = NoneReadyBelow w bound ⊎ ((k : ℕ) × IsGreatestBelow w bound k)

  with_last : (b : ℕ) → Looked b → IsReady w b ⊎ (IsReady w b → ⊥) → Looked (suc b)
  with_last b found (inl ready) = inr (b, record { itself = ready; below = omega arith; greatest = λ q more less is. omega (arith, more, less) })
  with_last b (inl none) (inr never) = inl (λ q less is. at q is (cases_lt q b) less)
    where
      at : (q : ℕ) → IsReady w q → (q < b) ⊎ (b ≤ q) → q < suc b → ⊥
      at q is (inl under) less = none q under is
      at q is (inr over) less = never (let same : q ≡ b = omega (arith, over, less) in subst (IsReady w) same is)
  with_last b (inr found) (inr never) =
      let g = found.1 in
      let under : found.0 < b = g.below in inr (
        found.0,
        record { itself = g.itself; below = omega (arith, under); greatest = λ q more less is. at q more is (cases_lt q b) less },
      )
    where
      at : (q : ℕ) → found.0 < q → IsReady w q → (q < b) ⊎ (b ≤ q) → q < suc b → ⊥
      at q more is (inl under) less = found.1.greatest q more under is
      at q more is (inr over) less = never (let same : q ≡ b = omega (arith, over, less) in subst (IsReady w) same is)

  looked : (bound : ℕ) → Looked bound
  looked zero = inl (λ q less is. omega (arith, less))
  looked (suc b) = with_last b (looked b) (ready_or w b)

  -- a ready task is drawn, where one is ready and each has a number below a bound
  module _ (bound : ℕ) (all_below : (k : ℕ) → IsReady w k → k < bound) (some : (k : ℕ) × IsReady w k) where
    greatest : (k : ℕ) × IsGreatestReady w k
    greatest =
        ⊎_elim (λ none. absurd (none some.0 (all_below some.0 some.1) some.1))
        (λ found. (found.0, record { itself = found.1.itself; greatest = λ q more is. found.1.greatest q more (all_below q is) is })) (looked bound)

    pub draws : (state : ℕ) → (k : ℕ) × IsReady w k × IsDrawn w state k
    draws state =
        ⊎_elim (λ none. (greatest.0, greatest.1.itself, none_below greatest.0 greatest.1 none))
        (λ found. (found.0, found.1.itself, below greatest.0 found.0 greatest.1 found.1)) (looked (number_drawn state greatest.0))

module _ (code : Code) (L : Limits) (arg : ℤ) (goes : CanProgress code L arg)
    (unstuck : (ks : List ℕ) (m : Moment) → LeadsTo code L arg ks m → (k : ℕ) → IsStuck (plain_code code) m k → ⊥)
    (some : (ks : List ℕ) (m : Moment) → LeadsTo code L arg ks m → m.outcome ≡ None → (k : ℕ) × IsReady m.world k) (most : ℕ)
    (short : (ks : List ℕ) (m : Moment) → LeadsTo code L arg ks m → length ks ≤ most) (seed : ℕ) where
  abbrev Start : Played
  Start = played code L arg [] (starts code L arg).0

  -- it has come out by the seed
  pub record BySeed : Type 0 where
    pub schedule : List ℕ
    pub moment : Moment
    pub outcome : Outcome
    pub leads : LeadsTo code L arg schedule moment
    pub came : moment.outcome ≡ Some outcome
    pub state : ℕ
    pub steps : SeededOn Start seed state (played code L arg schedule moment)

  abbrev Ends : ℕ → Type 0
  Ends fuel = (js : List ℕ) (m : Moment) (state : ℕ) → LeadsTo code L arg js m → SeededOn Start seed state (played code L arg js m) → most < fuel + length js → BySeed

  on : (fuel : ℕ) → Ends fuel → (js : List ℕ) (m : Moment) (state : ℕ) → LeadsTo code L arg js m → SeededOn Start seed state (played code L arg js m) → most < suc fuel + length js
      → (o : Option Outcome) → m.outcome ≡ o → BySeed
  on fuel more js m state leads before enough None e =
      let d = draws m.world m.world.tree.begun (λ k is. ready_below m.world.tree k (counted code L arg js m leads) is.0) (some js m leads e) (next_state state) in
      let n = next code L arg goes unstuck js m leads e d.0 d.1 in
      more (d.0 ∷ js) n.0 (next_state state) (m, leads, n.1)
      (further state d.0 (played code L arg js m) (played code L arg (d.0 ∷ js) n.0) before d.2 (made_next code L arg js m leads d.0 n.0 n.1)) (omega (arith, enough))
  on fuel more js m state leads before enough (Some o) e = record { schedule = js; moment = m; outcome = o; leads = leads; came = e; state = state; steps = before }

  come : (fuel : ℕ) → Ends fuel
  come zero js m state leads before enough = absurd (let few = short js m leads in omega (arith, enough, few))
  come (suc fuel) js m state leads before enough = on fuel (come fuel) js m state leads before enough m.outcome refl

  pub by_seed_drawn : BySeed
  by_seed_drawn = come (suc most) [] (starts code L arg).0 seed (starts code L arg).1 here (omega arith)
