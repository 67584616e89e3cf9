use Rattle.std.proofs.Common.{arith, sym, true, false}
use Rattle.syntax_tokens.proofs.Texts.{inside-plain, inside-escape, ends-otherwise, escape-following, escape-long}
use Rattle.syntax_tokens.proofs.piece.part_len.Goals as goal
use Rattle.syntax_tokens.proofs.piece.part_len.Goals.{else-first-eq92-via-then-first-eq92+else-begins_escape, else-first-eq92-via-else-first-eq92}

pub returns-then-is_plain-clause-part : goal.returns-then-is_plain-clause-part
returns-then-is_plain-clause-part c = λ _ tail inside. inside-plain c.args.bytes.now tail (omega arith) (sym c.if-is_plain.ensures) inside

pub returns-then-begins_escape-clause-within : goal.returns-then-begins_escape-clause-within
returns-then-begins_escape-clause-within c = escape-long c.args.bytes.now (escape-following c.args.bytes.now c.begins_escape.result true c.begins_escape.ensures c.if-begins_escape.true)

pub returns-then-begins_escape-clause-part : goal.returns-then-begins_escape-clause-part
returns-then-begins_escape-clause-part c = λ _ tail inside.
    let e = escape-following c.args.bytes.now c.begins_escape.result true c.begins_escape.ensures c.if-begins_escape.true in
    inside-escape c.args.bytes.now tail (escape-long c.args.bytes.now e) c.if-first-eq92.true e inside

pub returns-else-first-eq92-clause-none : goal.returns-else-first-eq92-clause-none
returns-else-first-eq92-clause-none c = λ _. ends-otherwise c.args.bytes.now (sym c.if-is_plain.ensures) (elim c.else-first-eq92.branch [
  | else-first-eq92-via-then-first-eq92+else-begins_escape w ↦ λ _. escape-following c.args.bytes.now w.begins_escape.result false w.begins_escape.ensures w.if-begins_escape.false
  | else-first-eq92-via-else-first-eq92 w ↦ λ e. absurd (w.if-first-eq92.false e)
])
