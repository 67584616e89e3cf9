use Rattle.std.proofs.Common.{refl, length-append, length, List, ap, sym, subst, arith}
use Rattle.syntax_tokens.specs.declared.token.Token.{Token}
use Rattle.syntax_tokens.specs.Cutting.{StandInOrder}
use Rattle.syntax_tokens.proofs.Order.{order-count, order-stands}
use Rattle.syntax_tokens.proofs.Meaning.{turn-noted, turn-said}
use Rattle.syntax_tokens.proofs.say.terminals.Goals as goal

pub text_at-text-requires : goal.text_at-text-requires
text_at-text-requires c =
    let P : List Token → Type 0 = λ tokens. StandInOrder c.args.bytes.now 0 tokens in
    order-stands c.args.bytes.now 0 c.as_slice-token-items.result.now c.loop-token.token-index _ (omega arith) (subst P (sym c.as_slice-token-items.ensures) c.requires.stand)

pub said-requires-clause-room : goal.said-requires-clause-room
said-requires-clause-room c =
    let few = order-count c.args.bytes.now 0 c.args.tokens.now.list (omega arith) c.requires.stand in
    omega (arith, few, c.loop-token.invariant.named, c.requires.small, ap length c.as_slice-token-items.ensures)

pub returns-clause-small : goal.returns-clause-small
returns-clause-small c =
    let few = order-count c.args.bytes.now 0 c.args.tokens.now.list (omega arith) c.requires.stand in
    grind (arith, few, c.loop-token.invariant.counted, ap length c.as_slice-token-items.ensures)

pub loop-token-preserved : goal.loop-token-preserved
loop-token-preserved c = record {
  named = omega (arith, c.loop-token.invariant.named, c.in_ok-terminal.ensures.count);
  counted = grind (arith, c.loop-token.invariant.counted, c.in_ok-push.ensures.ok, length-append c.loop-token.list);
  noted = turn-noted c.loop-token.names c.said.new.names c.args.bytes.now c.text_at-text.result.now c.as_slice-token-items.result.now c.loop-token.token-index _ _
      (omega arith) c.text_at-text.ensures.text c.in_ok-terminal.ensures.noted c.loop-token.invariant.noted;
  said = turn-said c.loop-token.names c.said.new.names c.args.bytes.now c.text_at-text.result.now c.as_slice-token-items.result.now c.loop-token.list c.push.new.self c.loop-token.token-index _ _
      (omega arith) c.text_at-text.ensures.text c.in_ok-terminal.ensures.noted c.in_ok-terminal.ensures.means refl c.in_ok-push.ensures.ok c.loop-token.invariant.said;
}
