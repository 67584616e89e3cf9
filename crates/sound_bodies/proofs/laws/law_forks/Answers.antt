use Rattle.sound_bodies.proofs.reach.ForksReported.{forks_reported}
use Rattle.sound_bodies.proofs.reach.Unmarked.{none_forks}
use Rattle.sound_bodies.proofs.laws.law_forks.Goals as goal

pub returns : goal.returns
returns c = record {
  forks = λ program table bodies written accepted start fresh method number class stands params made u d reached.
      forks_reported program table bodies written accepted start fresh method number class stands params made u d reached;
  none = λ program table bodies accepted none n. none_forks program table bodies accepted none n;
}
