-- The events that a schedule makes, over plain variables.
use Rattle.std.proofs.Common.{ℕ, ℤ, List, None, reverse, subst}
use Rattle.lang_base.specs.declared.outcome.Limits.{Limits}
use Rattle.lang_typed.specs.Plain.{PlainProgram}
use Rattle.exec_machine.specs.declared.made_event.MadeEvent.{MadeEvent}
use Rattle.exec_machine.specs.Events.{Makes}
use Rattle.exec_machine.specs.Keeping.{Played}
use Rattle.exec_run.specs.Events.{AreEvents, made, unfit, halted}
use Rattle.exec_run.specs.Events.{too_wide as never_begun}
use Rattle.exec_run.specs.history.Replaying.{WhyStopped}
use Rattle.exec_run.specs.history.Showing.{Shows}
use Rattle.exec_run.specs.declared.history.replaying.ReplayStop.TheVariants as stop
use Rattle.exec_run.specs.Run.{IsOpened, IsRunOf, too_wide}
use Rattle.exec_run.specs.declared.showing.Shown.TheVariants.{Made, Unfit, Halted}
use Rattle.exec_run.proofs.Following.{made_so}

pub never_shown : (P : PlainProgram) (L : Limits) (argument : ℤ) (schedule : List ℕ) → IsOpened P L argument None → AreEvents P L argument schedule Halted
never_shown P L argument schedule (too_wide wide) = never_begun wide

module _ (P : PlainProgram) (L : Limits) (argument : ℤ) (schedule : List ℕ) (m : Played) (is : IsRunOf P L argument m) where
  -- all events, of a run that has come out
  pub shown : (xs : List MadeEvent) → Shows m.code m.limits m.argument schedule xs → AreEvents P L argument schedule (Made xs)
  shown xs s =
      made m.code xs s.moment is.is_code
      (subst (λ l. Makes m.code l argument (reverse schedule) (reverse xs) s.moment) is.limits
      (subst (λ a. Makes m.code m.limits a (reverse schedule) (reverse xs) s.moment) is.is_argument s.makes)) s.finished

  -- why they weren't made
  pub shown_unfit : (at : ℕ) → WhyStopped m.code m.limits m.argument schedule (stop.Bad at) → AreEvents P L argument schedule (Unfit at)
  shown_unfit at why = unfit at why.0 (made_so P L argument schedule m is at why.0 why.1) why.2

  pub shown_halted : (at : ℕ) → WhyStopped m.code m.limits m.argument schedule (stop.Stuck at) → AreEvents P L argument schedule Halted
  shown_halted at why = halted at why.0 (made_so P L argument schedule m is at why.0 why.1) why.2
