-- What a schedule comes to, over plain variables.
use Rattle.std.proofs.Common.{◌≡◌, ◌+◌, arith, ℕ, ℤ, List, [], length, sum, None, ap, sym, subst, ◌∙◌}
use Rattle.lang_base.specs.declared.outcome.Limits.{Limits}
use Rattle.lang_typed.specs.Plain.{PlainProgram}
use Rattle.code_instrs.specs.Plain.{plain_code}
use Rattle.exec_run.specs.history.Replaying.{HasMade, IsReplay, WhyStopped}
use Rattle.exec_run.specs.declared.history.replaying.ReplayStop.TheVariants as stop
use Rattle.exec_machine.specs.Keeping.{IsReplayed, Played}
use Rattle.exec_run.specs.Replays.{HasFollowed, IsFollowed, IsMadeBy, ran, unfit, halted}
use Rattle.exec_run.specs.Replays.{too_wide as never_begun}
use Rattle.exec_run.specs.Run.{IsOpened, IsRunOf, too_wide}
use Rattle.exec_run.specs.declared.recorded.Recorded.{Recorded}
use Rattle.exec_run.specs.declared.replaying.Replayed.TheVariants.{Ran, Unfit, Halted}

all_own : (n own : ℕ) (shares : List ℕ) → shares ≡ [] → own ≡ n → n ≡ sum shares + own
all_own n own shares none is = subst (λ (s : List ℕ). n ≡ sum s + own) (sym none) (omega (arith, is))

pub never_followed : (P : PlainProgram) (L : Limits) (argument : ℤ) (schedule : List ℕ) → IsOpened P L argument None → IsFollowed P L argument schedule Halted
never_followed P L argument schedule (too_wide wide) = never_begun wide

module _ (P : PlainProgram) (L : Limits) (argument : ℤ) (schedule : List ℕ) (m : Played) (is : IsRunOf P L argument m) where
  -- a machine that has finished by the schedule, with its record
  pub followed : (p : Played) (r : Recorded) → IsReplay m.code m.limits m.argument schedule p → IsMadeBy p r → IsFollowed P L argument schedule (Ran r)
  followed p r whole made = ran r (record {
    is_run = record {
      is_code = ap (λ (q : Played). plain_code q.code) made.machine ∙ ap plain_code whole.is_at.is_code ∙ is.is_code;
      limits = ap (λ (q : Played). q.limits) made.machine ∙ whole.is_at.is_limits ∙ is.limits;
      is_argument = ap (λ (q : Played). q.argument) made.machine ∙ whole.is_at.is_argument ∙ is.is_argument;
      replayed = subst IsReplayed (sym made.machine) whole.is_at.replayed;
    };
    came = ap (λ (q : Played). q.outcome) made.machine ∙ made.came;
    seats = ap length made.no_shares;
    counted = ap (λ (q : Played). length q.schedule) made.machine ∙ all_own (length p.schedule) r.record.own r.record.shares made.no_shares made.own;
  }) (ap (λ (q : Played). q.schedule) made.machine ∙ whole.is_at.is_schedule)

  pub made_so : (count : ℕ) (p : Played) → HasMade m.code m.limits m.argument schedule count p → HasFollowed P L argument schedule count p
  made_so count p made = record {
    code = m.code;
    is_code = is.is_code;
    made = subst (λ a. HasMade m.code L a schedule count p) is.is_argument (subst (λ k. HasMade m.code k m.argument schedule count p) is.limits made);
  }

  -- why it wasn't made to its end
  pub unfit_so : (at : ℕ) → WhyStopped m.code m.limits m.argument schedule (stop.Bad at) → IsFollowed P L argument schedule (Unfit at)
  unfit_so at why = unfit at why.0 (made_so at why.0 why.1) why.2

  pub halted_so : (at : ℕ) → WhyStopped m.code m.limits m.argument schedule (stop.Stuck at) → IsFollowed P L argument schedule Halted
  halted_so at why = halted at why.0 (made_so at why.0 why.1) why.2
