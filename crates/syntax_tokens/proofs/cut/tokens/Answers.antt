use Rattle.std.proofs.Common.{arith, ◌+◌, List, length, sym, subst, ap}
use Rattle.std.proofs.lemmas.List.{take_rest, length-drop, length-take-le}
use Rattle.syntax_tokens.specs.declared.token.Token.{Token}
use Rattle.syntax_tokens.proofs.Faults.{fault-within}
use Rattle.syntax_tokens.proofs.Steps.{ReadsTo, read-found, cut-all}
use Rattle.syntax_tokens.proofs.Spans.{cuts-stand}
use Rattle.syntax_tokens.proofs.cut.tokens.Goals as goal

pub refused-requires-clause-within : goal.refused-requires-clause-within
refused-requires-clause-within c = fault-within _ _ _ c.in-Err.ensures

pub loop-at-preserved : goal.loop-at-preserved
loop-at-preserved c =
    let bytes = c.args.bytes.now in
    let at = c.loop-at.at in
    let left = take_rest bytes at in
    let finds = c.in-Ok.ensures in
    record {
      within = omega (arith, finds.within, ap length left, length-drop at bytes);
      column = c.following-place.ensures.column;
      room = omega (arith, c.loop-at.invariant.room, c.following-place.ensures.room, length-take-le c.in-Ok.found.len _ finds.within);
      read = subst (λ (tokens : List Token). ReadsTo bytes (at + c.in-Ok.found.len) tokens c.following-place.result) (sym c.in_ok-put.ensures)
          (read-found bytes _ at c.loop-at.list c.loop-at.place c.following-place.result c.in-Ok.found c.loop-at.invariant.within left c.loop-at.invariant.read finds c.following-place.ensures.place);
    }

pub returns-clause-spans : goal.returns-clause-spans
returns-clause-spans c = cuts-stand c.args.bytes.now c.loop-at.list c.loop-at.place (cut-all c.args.bytes.now c.loop-at.at c.loop-at.list c.loop-at.place (omega arith) c.loop-at.invariant.read)
