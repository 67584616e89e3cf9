use Rattle.std.proofs.Common.{List, subst}
use Rattle.decl_resolve.specs.declared.scoped.Named.{Named}
use Rattle.decl_resolve.specs.Names.{KnowHidden, ShowsLast}
use Rattle.decl_resolve.proofs.Naming.{shown-left, hidden-left, last-shown}
use Rattle.decl_resolve.proofs.scoped.Kept.leave_last.Goals as goal

pub invariant_of-self-2-clause-hidden : goal.invariant_of-self-2-clause-hidden
invariant_of-self-2-clause-hidden g c =
    let Know : List Named → Type 0 = λ names. KnowHidden names in
    hidden-left c.pop.new.self c.in-Some.last (subst Know c.in-Some.ensures c.args.self.now.hidden)

pub invariant_of-self-2-clause-shown : goal.invariant_of-self-2-clause-shown
invariant_of-self-2-clause-shown g c =
    let Know : List Named → Type 0 = λ names. KnowHidden names in
    let Shown : List Named → Type 0 = λ names. ShowsLast names c.args.self.now.spots in
    let know = subst Know c.in-Some.ensures c.args.self.now.hidden in
    let shown = subst Shown c.in-Some.ensures c.args.self.now.shown in
    shown-left c.pop.new.self c.in-Some.last c.args.self.now.spots c.move_spot.new.spots know shown
    (c.move_spot.ensures (last-shown c.pop.new.self c.in-Some.last c.args.self.now.spots shown))
