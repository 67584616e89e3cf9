-- An entry more in the map.
use Rattle.std.proofs.Common.{ap, sym, ◌∙◌, is_some, None, Some}
use Rattle.exec_locks.specs.Locks.{deepened_from}
use Rattle.exec_locks.proofs.Maps.{seen}
use Rattle.exec_locks.proofs.Changes.{at_key, entry_more}
use Rattle.exec_locks.proofs.standings.StandingMap.deepen.Goals as goal

pub returns-in_default-clause-inside : goal.returns-in_default-clause-inside
returns-in_default-clause-inside c = sym (ap is_some (at_key c.self.inside.map c.args.task None c.args.self.now c.in_default.ensures.value c.self.view_is))

pub returns-in_default-clause-deeper : goal.returns-in_default-clause-deeper
returns-in_default-clause-deeper c =
    ap seen c.get_mut.follows.holds-at-none ∙ c.self.view_is
    ∙ ap (deepened_from c.args.self.now c.args.task) (sym (at_key c.self.inside.map c.args.task None c.args.self.now c.in_default.ensures.value c.self.view_is))

pub returns-clause-inside : goal.returns-clause-inside
returns-clause-inside c = sym (ap is_some (at_key c.self.inside.map c.args.task
    (Some c.in-Some.standing.now) c.args.self.now c.in-Some.ensures.value c.self.view_is))

pub returns-clause-deeper : goal.returns-clause-deeper
returns-clause-deeper c =
    entry_more c.self.inside.map c.get_mut.follows.lender c.args.task c.deepen.new.self c.in-Some.standing.now c.args.self.now c.in-Some.ensures.value
    c.get_mut.follows.holds
    c.deepen.ensures c.self.view_is
