-- A task that couldn't begin belongs to no block.
use Rattle.std.proofs.Common.{◌≡◌, refl, sym, ap, subst, ◌∙◌, ℕ, Option, Some, None, is_some, false, true, true≢false}
use Rattle.std.specs.FinMap.{get, remove}
use Rattle.exec_locks.specs.Locks.{Standings, is_inside, adopted}
use Rattle.exec_locks.specs.declared.standing.Standing.{Standing}
use Rattle.exec_world.proofs.Maps.{taken_back}
use Rattle.exec_world.proofs.acts.begin.Goals as goal

absent : (o : Option Standing) → is_some o ≡ false → o ≡ None
absent None e = refl
absent (Some s) e = absurd (true≢false e)

adopted_back : (locks : Standings) (by task : ℕ) → is_inside locks task ≡ false → remove (adopted locks by task) task ≡ locks
adopted_back locks by task out = taken_back locks task _ (absent (get locks task) out)

pub returns-in-Err-clause-err : goal.returns-in-Err-clause-err
returns-in-Err-clause-err c = (
  c.in-Err.ensures.err,
  c.release.ensures ∙ ap (λ (locks : Standings). remove locks c.begun-number.result) c.in_ok-adopt.ensures.ok
      ∙ adopted_back c.args.locks.now c.args.task c.begun-number.result
      (subst (λ n. is_inside c.args.locks.now n ≡ false) (sym c.begun-number.ensures.number) c.requires.outside),
)
