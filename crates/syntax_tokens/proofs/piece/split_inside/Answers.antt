use Rattle.std.proofs.Common.{[], arith, take, subst, sym, ◌∙◌, ap, length}
use Rattle.std.proofs.lemmas.List.{append-nil, take_rest, length-drop}
use Rattle.syntax_tokens.specs.Piece.{IsInside, nothing}
use Rattle.syntax_tokens.proofs.Texts.{inside-more}
use Rattle.syntax_tokens.proofs.piece.split_inside.Goals as goal

pub returns-then-len-eq0-clause-inside : goal.returns-then-len-eq0-clause-inside
returns-then-len-eq0-clause-inside c =
    subst IsInside (append-nil (take c.loop-at.at c.args.bytes.now) ∙ sym c.split_at.ensures.front) (c.loop-at.invariant.1 [] nothing)

pub loop-at-preserved : goal.loop-at-preserved
loop-at-preserved c = (omega (arith, c.part_len-len.ensures.within, ap length (take_rest c.args.bytes.now c.loop-at.at), length-drop c.loop-at.at c.args.bytes.now), λ tail inside. inside-more c.args.bytes.now _ tail c.loop-at.at c.part_len-len.result (take_rest c.args.bytes.now c.loop-at.at) c.loop-at.invariant.1 (c.part_len-len.ensures.part (omega arith) tail inside))
