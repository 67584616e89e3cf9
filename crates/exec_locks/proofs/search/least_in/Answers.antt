-- The first of an ordered set that hinders is the least.
use Rattle.std.proofs.Common.{◌≡◌, true, sym, subst}
use Rattle.exec_locks.specs.Index.{AtMost, holds}
use Rattle.exec_locks.specs.Locks.{hinders}
use Rattle.exec_locks.proofs.Found.{Sound, find_sound, find_least}
use Rattle.exec_locks.proofs.search.least_in.Goals as goal

pub returns-in-Many-clause-sound : goal.returns-in-Many-clause-sound
returns-in-Many-clause-sound c =
    subst (Sound (hinders c.args.search.standings.now c.args.search.task c.args.search.wants.now)) (sym c.least_of.ensures.first)
    (find_sound (hinders c.args.search.standings.now c.args.search.task c.args.search.wants.now) c.in-Many.tasks.keys)

pub returns-in-Many-clause-found : goal.returns-in-Many-clause-found
returns-in-Many-clause-found c = λ q there good.
    subst (λ least. AtMost least q) (sym c.least_of.ensures.first)
    (find_least (hinders c.args.search.standings.now c.args.search.task c.args.search.wants.now) c.in-Many.tasks.keys q c.least_of.ensures.ordered
    (subst (λ set. holds set q ≡ true) c.in-Many.is there) good)
