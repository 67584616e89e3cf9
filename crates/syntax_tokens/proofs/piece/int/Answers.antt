use Rattle.std.proofs.Common.{refl, inl, inr}
use Rattle.syntax_tokens.proofs.Faults.{digits-prefix_len, fault-bad_int}
use Rattle.std.proofs.lemmas.Bool.{false≢true}
use Rattle.syntax_tokens.proofs.Found.{found-int}
use Rattle.syntax_tokens.proofs.piece.int.Goals as goal
use Rattle.syntax_tokens.proofs.piece.int.Goals.{then-has_leading_zero-via-then-has_leading_zero, then-has_leading_zero-via-else-has_leading_zero+then-is_too_great}

pub returns-then-has_leading_zero : goal.returns-then-has_leading_zero
returns-then-has_leading_zero c =
    let digits = digits-prefix_len c.args.bytes.now c.digits-len.result c.requires c.digits-len.ensures.run in
    fault-bad_int _ c.args.bytes.now c.digits-len.result refl digits (elim c.then-has_leading_zero.branch [
      | then-has_leading_zero-via-then-has_leading_zero w ↦ inl (w.if-has_leading_zero.ensures.0 refl)
      | then-has_leading_zero-via-else-has_leading_zero+then-is_too_great w ↦ inr (w.if-is_too_great.ensures.0 refl)
    ])

pub returns : goal.returns
returns c = found-int c.args.bytes.now c.digits-len.result c.requires c.digits-len.ensures.run (λ zero_first. false≢true (c.if-has_leading_zero.ensures.1 zero_first)) (λ over. false≢true (c.if-is_too_great.ensures.1 over))
