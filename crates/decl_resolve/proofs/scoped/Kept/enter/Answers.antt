use Rattle.std.proofs.Common.{sym, subst, List, arith}
use Rattle.decl_resolve.specs.declared.scoped.Named.{Named}
use Rattle.decl_resolve.specs.Names.{KnowHidden, ShowsLast}
use Rattle.decl_resolve.proofs.Naming.{shown-entered, hidden-entered, taken}
use Rattle.decl_resolve.proofs.scoped.Kept.enter.Goals as goal

pub invariant_of-self-else-is_err-2-clause-hidden : goal.invariant_of-self-else-is_err-2-clause-hidden
invariant_of-self-else-is_err-2-clause-hidden g c =
    let grown = taken c.push-2.result c.if-is_err.ensures.value c.push-2.ensures.ok in
    let Know : List Named → Type 0 = λ names. KnowHidden names in
    subst Know (sym grown) (hidden-entered c.args.self.now.names (record { name = c.args.name; hidden = c.place-hidden.result }) c.args.self.now.hidden c.place-hidden.ensures)

pub invariant_of-self-else-is_err-2-clause-shown : goal.invariant_of-self-else-is_err-2-clause-shown
invariant_of-self-else-is_err-2-clause-shown g c =
    let grown = taken c.push-2.result c.if-is_err.ensures.value c.push-2.ensures.ok in
    let moved = taken c.put_spot.result c.if-is_err-2.ensures.value c.put_spot.ensures.put in
    let Shown : List Named → Type 0 = λ names. ShowsLast names c.put_spot.new.spots in
    subst Shown (sym grown)
    (shown-entered c.args.self.now.names (record { name = c.args.name; hidden = c.place-hidden.result }) c.args.self.now.spots c.put_spot.new.spots c.len-place.result
    (omega (arith, c.len-place.ensures, c.args.self.now.valued)) c.args.self.now.shown moved)
