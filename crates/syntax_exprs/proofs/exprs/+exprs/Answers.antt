use Rattle.std.proofs.Common.{◌≡◌, ◌∙◌, rules}
use Rattle.syntax_tokens.specs.declared.token.Symbol.{Symbol}
use Rattle.syntax_tokens.specs.declared.terminal.Terminal.TheVariants as terminal
use Rattle.syntax_exprs.specs.Counted.{counts}
use Rattle.syntax_grammar.specs.Taking.{Next}
use Rattle.syntax_exprs.proofs.parts.ExprParts.{element_reads, index_refused, index_close_refused}
use Rattle.syntax_exprs.proofs.parts.SelectionParts.{args_refused, call_read, call_refused, dot_read, field_read, name_refused}
use Rattle.syntax_exprs.proofs.Few.{still_few}
use Rattle.syntax_exprs.proofs.parts.OperatorParts.{climbs_first, climbs_on, operand_refused, operator_halts, operators_end}
use Rattle.syntax_grammar.proofs.Ops.{grouped_unary, grouped_operation}
use Rattle.syntax_exprs.proofs.Taken.{next-takes}
use Rattle.syntax_exprs.proofs.exprs.+exprs.Goals as goal
use Rattle.syntax_exprs.proofs.exprs.+exprs.Goals.{member-else-not-has_args-via-then-not-has_args+else-not-is_symbol, member-else-not-has_args-via-else-not-has_args}

pub operators-loop-op-init : goal.operators-loop-op-init
operators-loop-op-init t c = record {
  moves = c.in_ok-left.ensures.moves;
  few = search (rules, still_few);
  climbs = climbs_first c.args.least c.in_ok-left.ensures.reads;
  groups = grouped_unary c.args.least 5 c.in_ok-left.ensures.derives;
}

pub operators-loop-op-preserved : goal.operators-loop-op-preserved
operators-loop-op-preserved t c = record {
  moves = search rules;
  few = search (rules, still_few);
  climbs =
      climbs_on
      c.in-Some.op
      c.loop-op.invariant.climbs
      c.in-Some.ensures.within.0
      c.in-Some.ensures.within.1
      c.in-Some.ensures.next
      c.in_ok-place.ensures.takes
      c.in_ok-place.ensures.fits
      c.in_ok-place.ensures.counted
      c.binding.ensures.level
      c.in_ok-right.ensures.reads
      c.tightest_after-most.ensures.left
      c.tightest_after-most.ensures.own;
  groups =
      grouped_operation
      c.loop-op.invariant.groups
      c.in-Some.ensures.within.0
      c.in-Some.ensures.within.1
      (next-takes c.in_ok-place.ensures.takes c.in-Some.ensures.next)
      c.binding.ensures.level
      c.in_ok-right.ensures.derives
      c.tightest_after-most.ensures.left
      c.in_ok-left-2.ensures;
}

pub element-returns-in_err-expr-clause-stops : goal.element-returns-in_err-expr-clause-stops
element-returns-in_err-expr-clause-stops t c =
    let r = index_refused (counts c.args.cursor.now) c.args.cursor.now.end _ c.in_ok-place.ensures.reads c.in_ok-place.ensures.moves.end c.in_err-expr.ensures.stops in
    search (rules, r)

pub element-returns-in_err-close-clause-stops : goal.element-returns-in_err-close-clause-stops
element-returns-in_err-close-clause-stops t c =
    let same : c.expr.new.cursor.end ≡ c.args.cursor.now.end = c.in_ok-expr.ensures.moves.end ∙ c.in_ok-place.ensures.moves.end in
    let r =
    index_close_refused (counts c.args.cursor.now) c.args.cursor.now.end _ c.in_ok-place.ensures.reads c.in_ok-expr.ensures.reads same c.in_err-close.ensures.stops in
    search (rules, r)

pub element-returns-clause-reads : goal.element-returns-clause-reads
element-returns-clause-reads t c = element_reads c.in_ok-place.ensures.reads c.in_ok-expr.ensures.reads c.in_ok-close.ensures.reads

pub member-returns-in_err-regions-clause-stops : goal.member-returns-in_err-regions-clause-stops
member-returns-in_err-regions-clause-stops t c =
    let o = dot_read (counts c.args.cursor.now) _ c.requires.dot c.in_ok-join.ensures.takes c.in_ok-join.ensures.fits c.in_ok-join.ensures.counted in
    let r = args_refused c.args.cursor.now.end _ o c.in_ok-join.ensures.moves.end c.in_err-regions.ensures.stops in
    search (rules, r)

pub member-returns-in_err-named-clause-stops : goal.member-returns-in_err-named-clause-stops
member-returns-in_err-named-clause-stops t c =
    let o = dot_read (counts c.args.cursor.now) _ c.requires.dot c.in_ok-join.ensures.takes c.in_ok-join.ensures.fits c.in_ok-join.ensures.counted in
    let same : c.args_if.new.cursor.end ≡ c.args.cursor.now.end = c.in_ok-regions.ensures.moves.end ∙ c.in_ok-join.ensures.moves.end in
    let r = name_refused c.args.cursor.now.end _ o c.in_ok-regions.ensures.reads same c.in_err-named.ensures.stops in
    search (rules, r)

pub member-returns-then-not-is_symbol-clause-reads : goal.member-returns-then-not-is_symbol-clause-reads
member-returns-then-not-is_symbol-clause-reads t c =
    let o = dot_read (counts c.args.cursor.now) _ c.requires.dot c.in_ok-join.ensures.takes c.in_ok-join.ensures.fits c.in_ok-join.ensures.counted in
    let bare : Next (terminal.Symbol Symbol.Less) c.join.new.self.rest.now → ⊥ = search rules in
    let away : Next (terminal.Symbol Symbol.OpenParen) c.name.new.self.rest.now → ⊥ = search rules in
    field_read o c.in_ok-regions.ensures.reads bare c.in_ok-named.ensures.reads away

pub member-returns-in_err-actuals-clause-stops : goal.member-returns-in_err-actuals-clause-stops
member-returns-in_err-actuals-clause-stops t c =
    let o = dot_read (counts c.args.cursor.now) _ c.requires.dot c.in_ok-join.ensures.takes c.in_ok-join.ensures.fits c.in_ok-join.ensures.counted in
    let calls : (Next (terminal.Symbol Symbol.Less) c.join.new.self.rest.now → ⊥) → Next (terminal.Symbol Symbol.OpenParen) c.name.new.self.rest.now = λ bare. elim c.else-not-has_args.branch [
      | member-else-not-has_args-via-then-not-has_args+else-not-is_symbol w ↦ search rules
      | member-else-not-has_args-via-else-not-has_args w ↦ absurd (search (rules, bare))
    ] in
    let named : c.name.new.self.end ≡ c.args_if.new.cursor.end = c.in_ok-named.ensures.moves.end in
    let same : c.name.new.self.end ≡ c.args.cursor.now.end = named ∙ c.in_ok-regions.ensures.moves.end ∙ c.in_ok-join.ensures.moves.end in
    let r = call_refused c.args.cursor.now.end _ o c.in_ok-regions.ensures.reads c.in_ok-named.ensures.reads calls same c.in_err-actuals.ensures.stops in
    search (rules, r)

pub member-returns-clause-reads : goal.member-returns-clause-reads
member-returns-clause-reads t c =
    let o = dot_read (counts c.args.cursor.now) _ c.requires.dot c.in_ok-join.ensures.takes c.in_ok-join.ensures.fits c.in_ok-join.ensures.counted in
    let calls : (Next (terminal.Symbol Symbol.Less) c.join.new.self.rest.now → ⊥) → Next (terminal.Symbol Symbol.OpenParen) c.name.new.self.rest.now = λ bare. elim c.else-not-has_args.branch [
      | member-else-not-has_args-via-then-not-has_args+else-not-is_symbol w ↦ search rules
      | member-else-not-has_args-via-else-not-has_args w ↦ absurd (search (rules, bare))
    ] in
    call_read o c.in_ok-regions.ensures.reads c.in_ok-named.ensures.reads calls c.in_ok-actuals.ensures.reads

pub operators-returns-in_err-place-clause-stops : goal.operators-returns-in_err-place-clause-stops
operators-returns-in_err-place-clause-stops t c =
    let r =
    operator_halts
    c.in-Some.op
    c.args.cursor.now.end
    _
    c.loop-op.invariant.climbs
    c.in-Some.ensures.within.0
    c.in-Some.ensures.within.1
    c.in-Some.ensures.next
    c.loop-op.invariant.moves.end
    c.in_err-place.ensures.halts in
    search (rules, r)

pub operators-returns-in_err-right-clause-stops : goal.operators-returns-in_err-right-clause-stops
operators-returns-in_err-right-clause-stops t c =
    let same : c.join.new.self.end ≡ c.args.cursor.now.end = c.in_ok-place.ensures.moves.end ∙ c.loop-op.invariant.moves.end in
    let r =
    operand_refused
    c.in-Some.op
    c.args.cursor.now.end
    _
    c.loop-op.invariant.climbs
    c.in-Some.ensures.within.0
    c.in-Some.ensures.within.1
    c.in-Some.ensures.next
    c.in_ok-place.ensures.takes
    c.in_ok-place.ensures.fits
    c.in_ok-place.ensures.counted
    c.binding.ensures.level
    same
    c.in_err-right.ensures.stops in
    search (rules, r)

pub operators-returns-clause-reads : goal.operators-returns-clause-reads
operators-returns-clause-reads t c = operators_end c.loop-op.invariant.climbs c.in_default.ensures.otherwise
