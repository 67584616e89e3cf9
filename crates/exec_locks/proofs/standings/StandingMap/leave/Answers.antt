-- An entry less in the map.
use Rattle.std.proofs.Common.{sym, ◌∙◌}
use Rattle.exec_locks.proofs.Changes.{entry_less, entry_same, outermost, no_entry}
use Rattle.exec_locks.proofs.standings.StandingMap.leave.Goals as goal

pub unreachable-requires : goal.unreachable-requires
unreachable-requires c = no_entry c.self.inside.map c.args.task c.args.self.now c.in_default.ensures.value c.self.view_is c.requires

pub returns-clause-left : goal.returns-clause-left
returns-clause-left c = λ did.
    entry_less c.self.inside.map c.get_mut.follows.lender c.args.task c.leave.new.self c.in-Some.standing.now c.args.self.now c.in-Some.ensures.value
    c.get_mut.follows.holds
    (c.leave.ensures.left did) (sym c.leave.ensures.inner ∙ did) c.self.view_is

pub returns-clause-outermost : goal.returns-clause-outermost
returns-clause-outermost c = λ did. (
  entry_same c.self.inside.map c.get_mut.follows.lender c.args.task c.leave.new.self c.in-Some.standing.now c.args.self.now c.in-Some.ensures.value
      c.get_mut.follows.holds
      (c.leave.ensures.outermost did) c.self.view_is,
  outermost c.self.inside.map c.args.task c.in-Some.standing.now c.args.self.now c.in-Some.ensures.value (sym c.leave.ensures.inner ∙ did) c.self.view_is,
)
