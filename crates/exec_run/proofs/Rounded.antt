-- How a run comes out that is made in rounds, over plain variables.
use Rattle.std.proofs.Common.{◌≡◌, ℕ, ℤ, List, [], ◌∷◌, Option, Some, None, MatchOption, Result, Ok, Err, IfOk, refl, sym, subst, ◌∙◌}
use Rattle.lang_base.specs.declared.memory.NoMemory.{NoMemory}
use Rattle.lang_base.specs.declared.outcome.Limits.{Limits}
use Rattle.lang_typed.specs.Plain.{PlainProgram}
use Rattle.exec_machine.specs.declared.halted.Halted.{Halted}
use Rattle.exec_machine.specs.declared.halted.Halted.TheVariants.{Stuck}
use Rattle.exec_machine.specs.Keeping.{Played, IsReplayed, HasEnded}
use Rattle.exec_run.specs.rounds.Rounds.{IsTurn, made, finished, not_ready, HadTurns, RoundsOn, here, further, BreaksOff, at_once, within, RoundsBreakOff}
use Rattle.exec_run.specs.Run.{IsRunOf, IsOpened, too_wide}
use Rattle.exec_run.specs.Rounding.{IsByRounds, IsMadeAlone, broken_off, unfinished, never_begun, ComesByRounds, by_rounds, no_rounds}
use Rattle.exec_run.specs.declared.recorded.Recorded.{Recorded}
use Rattle.exec_run.proofs.Coming.{still}

-- turns and rounds leave the code, the limits and the argument
record IsSameJob (a b : Played) : Type 0 where
  code : b.code ≡ a.code
  limits : b.limits ≡ a.limits
  argument : b.argument ≡ a.argument

unmoved : (a : Played) → IsSameJob a a
unmoved a = record { code = refl; limits = refl; argument = refl }

moved : (a b c : Played) → IsSameJob a b → IsSameJob b c → IsSameJob a c
moved a b c first next = record { code = next.code ∙ first.code; limits = next.limits ∙ first.limits; argument = next.argument ∙ first.argument }

after_turn : (a b : Played) (k : ℕ) → IsTurn a k b → IsSameJob a b
after_turn a _ k (finished some) = unmoved a
after_turn a _ k (not_ready not) = unmoved a
after_turn a _ k (made b _ ready after) = record { code = after.code; limits = after.limits; argument = after.argument }

after_turns : (a b : Played) (ks : List ℕ) → HadTurns a ks b → IsSameJob a b
after_turns a b [] same = subst (IsSameJob a) (sym same) (unmoved a)
after_turns a b (k ∷ ks) turns = moved a turns.0 b (after_turn a turns.0 k turns.1) (after_turns turns.0 b ks turns.2)

after_rounds : (a b : Played) (n : ℕ) → RoundsOn a n b → IsSameJob a b
after_rounds a _ _ here = unmoved a
after_rounds a _ _ (further n middle b rounds goes_on round) =
    moved a middle b (after_rounds a middle n rounds) (after_turns middle b round.tasks round.turns)

after_part : (a b : Played) (h : Halted) → BreaksOff a b h → IsSameJob a b
after_part a _ _ at_once = unmoved a
after_part a _ _ (within b h tasks ready off) = after_turns a b off.done off.turns

after_broken : (a b : Played) (h : Halted) → RoundsBreakOff a b h → IsSameJob a b
after_broken a b h broken = moved a broken.middle b (after_rounds a broken.middle broken.count broken.rounds) (after_part broken.middle b h broken.breaks)

-- a run comes out as its last moment says, or there is none
module _ (P : PlainProgram) (L : Limits) (argument : ℤ) (workers : ℕ) where
  pub none_opened : IsOpened P L argument None → ComesByRounds P L argument workers None
  none_opened (too_wide wide) = no_rounds (never_begun wide)

  module _ (a b : Played) (is : IsRunOf P L argument a) (nothing : a.schedule ≡ []) (replayed : IsReplayed b) where
    run_on : IsSameJob a b → IsRunOf P L argument b
    run_on same = still P L argument a b is (record { code = same.code; limits = same.limits; argument = same.argument; replayed = replayed })

    abbrev whole : (n : ℕ) → RoundsOn a n b → IsByRounds P L argument b
    whole n rounds = record { is_run = run_on (after_rounds a b n rounds); start = a; nothing = nothing; count = n; rounds = rounds }

    pub came_by_rounds : (n : ℕ) → RoundsOn a n b → HasEnded b → (result : Result (Option Recorded) NoMemory)
        → IfOk result (λ made. MatchOption made (b.outcome ≡ None) (IsMadeAlone workers n b)) → IfOk result (ComesByRounds P L argument workers)
    came_by_rounds n rounds ended (Ok (Some r)) alone = by_rounds r b (whole n rounds) alone
    came_by_rounds n rounds ended (Ok None) none = no_rounds (unfinished b (whole n rounds) none ended)
    came_by_rounds n rounds ended (Err e) alone = tt

    pub came_to_nothing : RoundsBreakOff a b Stuck → ComesByRounds P L argument workers None
    came_to_nothing broken =
        no_rounds (broken_off b (record {
          is_run = run_on (after_broken a b Stuck broken);
          start = a;
          nothing = nothing;
          broken = broken;
        }))
