-- How a run comes out whose order a seed draws, over plain variables.
use Rattle.std.proofs.Common.{◌≡◌, ◌≤◌, ◌<◌, ◌+◌, ◌⊎◌, inl, inr, arith, ℕ, ℤ, [], ◌∷◌, length, Option, Some, None, MatchOption, Result, Ok, Err, IfOk, refl, ap, sym, subst, ◌∙◌}
use Rattle.std.proofs.lemmas.Bool.{cases_order}
use Rattle.std.proofs.lemmas.List.{length-append}
use Rattle.lang_base.specs.declared.memory.NoMemory.{NoMemory}
use Rattle.lang_base.specs.declared.outcome.Limits.{Limits}
use Rattle.lang_typed.specs.Plain.{PlainProgram}
use Rattle.exec_world.specs.Ready.{IsGreatestReady, NoneReadyBelow, IsGreatestBelow}
use Rattle.exec_world.specs.declared.world.World.{World}
use Rattle.exec_machine.specs.declared.halted.Halted.{Halted}
use Rattle.exec_machine.specs.declared.halted.Halted.TheVariants.{Stuck}
use Rattle.exec_machine.specs.Keeping.{Played, IsAfter, IsReplayed, HasEnded, WhyHaltedAt}
use Rattle.exec_run.specs.Run.{IsRunOf, IsSameRun, IsOpened, too_wide}
use Rattle.exec_run.specs.Rounding.{IsMadeAlone}
use Rattle.exec_run.specs.Seeding.{next_state, number_drawn, IsDrawn, below, none_below, SeededOn, here, further, WasSeeded, SeedBreaksOff, IsBySeed, OneDraw, broken_off, unfinished, never_begun, ComesBySeed, by_seed, no_seeded}
use Rattle.exec_run.specs.declared.recorded.Recorded.{Recorded}
use Rattle.exec_run.proofs.Coming.{still}

-- the task that is found is the one that is drawn
module _ (w : World) (state greatest bound : ℕ) (great : IsGreatestReady w greatest) (is : bound ≡ number_drawn state greatest) where
  pub drawn_below : (task : ℕ) → IsGreatestBelow w bound task → IsDrawn w state task
  drawn_below task found = below greatest task great (subst (λ b. IsGreatestBelow w b task) is found)

  pub drawn_greatest : NoneReadyBelow w bound → IsDrawn w state greatest
  drawn_greatest none = none_below greatest great (subst (NoneReadyBelow w) is none)

-- there is one such task at most
one_greatest : (w : World) (a b : ℕ) → IsGreatestReady w a → IsGreatestReady w b → a ≡ b
one_greatest w a b great other = by (cases_order a b)
  where
    by : (a ≡ b) ⊎ ((a < b) ⊎ (b < a)) → a ≡ b
    by (inl same) = same
    by (inr (inl less)) = absurd (great.greatest b less other.itself)
    by (inr (inr more)) = absurd (other.greatest a more great.itself)

one_below : (w : World) (n a b : ℕ) → IsGreatestBelow w n a → IsGreatestBelow w n b → a ≡ b
one_below w n a b great other = by (cases_order a b)
  where
    by : (a ≡ b) ⊎ ((a < b) ⊎ (b < a)) → a ≡ b
    by (inl same) = same
    by (inr (inl less)) = absurd (great.greatest b less other.below other.itself)
    by (inr (inr more)) = absurd (other.greatest a more great.below great.itself)

none_and_some : (w : World) (state a b task : ℕ) → IsGreatestReady w a → IsGreatestReady w b → NoneReadyBelow w (number_drawn state a) → IsGreatestBelow w (number_drawn state b) task → ⊥
none_and_some w state a b task great other none found =
    let here : IsGreatestBelow w (number_drawn state a) task = subst (λ g. IsGreatestBelow w (number_drawn state g) task) (one_greatest w b a other great) found in
    none task here.below here.itself

pub one_draw : OneDraw
one_draw w state j k (below a _ great found) (below b _ other others) =
    one_below w (number_drawn state b) j k (subst (λ g. IsGreatestBelow w (number_drawn state g) j) (one_greatest w a b great other) found) others
one_draw w state j k (below a _ great found) (none_below _ other none) = absurd (none_and_some w state k a j other great none found)
one_draw w state j k (none_below _ great none) (below b _ other found) = absurd (none_and_some w state j b k great other none found)
one_draw w state j k (none_below _ great none) (none_below _ other nothing) = one_greatest w j k great other

-- one step more, or one that isn't made
module _ (a m : Played) (seed state next task : ℕ) (steps : SeededOn a seed state m) (is : next ≡ next_state state) (drawn : IsDrawn m.world next task) where
  drawn_so : IsDrawn m.world (next_state state) task
  drawn_so = subst (λ s. IsDrawn m.world s task) is drawn

  pub one_more : (n : Played) → IsAfter m task n → SeededOn a seed next n
  one_more n after = subst (λ s. SeededOn a seed s n) (sym is) (further state task m n steps drawn_so after)

  pub breaks_off : (n : Played) (h : Halted) → n ≡ m → WhyHaltedAt m task h → SeedBreaksOff a seed n h
  breaks_off n h same why = subst (λ p. SeedBreaksOff a seed p h) (sym same) (record { state = state; steps = steps; task = task; drawn = drawn_so; why = why })

pub longer : (m n : Played) (task step : ℕ) → IsAfter m task n → step ≤ length m.schedule → step + 1 ≤ length n.schedule
longer m n task step after le = omega (arith, le, ap length after.schedule, length-append m.schedule (task ∷ []))

-- steps leave the code, the limits and the argument
pub same_run : (a : Played) (seed : ℕ) (b : Played) (state : ℕ) → SeededOn a seed state b → IsReplayed b → IsSameRun a b
same_run a seed _ _ here replayed = record { code = refl; limits = refl; argument = refl; replayed = replayed }
same_run a seed _ _ (further state task middle b steps drawn after) replayed =
    let same = same_run a seed middle state steps after.replayed in
    record { code = after.code ∙ same.code; limits = after.limits ∙ same.limits; argument = after.argument ∙ same.argument; replayed = replayed }

-- a run comes out as its last moment says, or there is none
module _ (P : PlainProgram) (L : Limits) (argument : ℤ) (workers seed : ℕ) where
  pub none_opened : IsOpened P L argument None → ComesBySeed P L argument workers seed None
  none_opened (too_wide wide) = no_seeded (never_begun wide)

  module _ (a b : Played) (is : IsRunOf P L argument a) (nothing : a.schedule ≡ []) (replayed : IsReplayed b) where
    run_on : (state : ℕ) → SeededOn a seed state b → IsRunOf P L argument b
    run_on state steps = still P L argument a b is (same_run a seed b state steps replayed)

    whole : WasSeeded a seed b → IsBySeed P L argument seed b
    whole seeded = record { is_run = run_on seeded.state seeded.steps; start = a; nothing = nothing; seeded = seeded }

    pub came_by_seed : WasSeeded a seed b → HasEnded b → (result : Result (Option Recorded) NoMemory)
        → IfOk result (λ made. MatchOption made (b.outcome ≡ None) (IsMadeAlone workers 0 b)) → IfOk result (ComesBySeed P L argument workers seed)
    came_by_seed seeded ended (Ok (Some r)) alone = by_seed r b (whole seeded) alone
    came_by_seed seeded ended (Ok None) none = no_seeded (unfinished b (whole seeded) none ended)
    came_by_seed seeded ended (Err e) alone = tt

    pub came_to_nothing : SeedBreaksOff a seed b Stuck → ComesBySeed P L argument workers seed None
    came_to_nothing broken = no_seeded (broken_off b (record { is_run = run_on broken.state broken.steps; start = a; nothing = nothing; broken = broken }))
