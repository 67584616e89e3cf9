-- What events of one task leave as it was, and how much longer the schedule is.
use Rattle.std.proofs.Common.{◌≡◌, ◌+◌, ◌∷◌, [], ℕ, ap, arith, length, refl, ◌∙◌}
use Rattle.std.proofs.lemmas.List.{length-append}
use Rattle.exec_machine.specs.Keeping.{Played, IsAfter}
use Rattle.exec_run.specs.desk.Bursts.{GoesOnBy, here, further}

-- one event is a start
pub first : (before : Played) (task : ℕ) (after : Played) → IsAfter before task after → GoesOnBy before task 1 after
first before task after step = further 0 before after here step

-- the same machine, with so many events more
pub record IsLonger (before : Played) (n : ℕ) (after : Played) : Type 0 where
  pub code : after.code ≡ before.code
  pub limits : after.limits ≡ before.limits
  pub argument : after.argument ≡ before.argument
  pub length : length after.schedule ≡ length before.schedule + n

pub longer : (before : Played) (task n : ℕ) (after : Played) → GoesOnBy before task n after → IsLonger before n after
longer before task n after here = record { code = refl; limits = refl; argument = refl; length = omega arith }
longer before task n after (further m middle later goes step) =
    let h = longer before task m middle goes in
    record {
      code = step.code ∙ h.code;
      limits = step.limits ∙ h.limits;
      argument = step.argument ∙ h.argument;
      length = omega (arith, h.length, ap length step.schedule, length-append middle.schedule (task ∷ []));
    }
