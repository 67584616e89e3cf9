use Rattle.std.proofs.Common.{◌∙◌, ap, sym, ◌++◌, ◌+◌}
use Rattle.std.proofs.lemmas.List.{append-nil}
use Rattle.syntax_tokens.proofs.Faults.{fault-byte_in_text, fault-open_text, fault-bad_in_text, utf8-none}
use Rattle.syntax_tokens.proofs.Found.{found-text}
use Rattle.syntax_tokens.proofs.Texts.{nothing-left, bad-no_quote}
use Rattle.syntax_tokens.proofs.piece.text.Goals as goal

pub returns-in-Some : goal.returns-in-Some
returns-in-Some c = fault-byte_in_text _ c.args.following.now c.split_inside.result.0.now c.split_inside.result.1.now _ c.syntax.ensures.kind (c.syntax.ensures.at ∙ ap (λ n. 1 + n) c.in-Some.ensures.some.1) c.split_inside.ensures.whole c.split_inside.ensures.inside c.split_inside.ensures.ends c.in-Some.ensures.some.0

pub returns-in-None : goal.returns-in-None
returns-in-None c =
    let inside = c.split_inside.result.0.now in
    let whole = c.split_inside.ensures.whole ∙ ap (λ bs. inside ++ bs) (nothing-left c.split_inside.result.1.now c.in-None.ensures.value) ∙ append-nil inside in
    fault-open_text _ c.args.following.now inside _ c.syntax-in-None.ensures.kind c.syntax-in-None.ensures.at whole c.split_inside.ensures.inside (utf8-none c.split_inside.result.0.now c.utf8_fault.result c.in_default.not-Some c.utf8_fault.ensures.none)

pub returns-in-Some-eq34 : goal.returns-in-Some-eq34
returns-in-Some-eq34 c = found-text c.args.following.now c.split_inside.result.0.now c.split_inside.result.1.now c.in-Some-eq34.field-0.now c.split_inside.ensures.whole c.in-Some-eq34.ensures.value c.in-Some-eq34.field-0-test c.split_inside.ensures.inside (utf8-none c.split_inside.result.0.now c.utf8_fault.result c.in_default.not-Some c.utf8_fault.ensures.none)

pub returns-in-Some-first : goal.returns-in-Some-first
returns-in-Some-first c = fault-bad_in_text _ c.args.following.now c.split_inside.result.0.now c.split_inside.result.1.now _ c.syntax-in-Some-first.ensures.kind c.syntax-in-Some-first.ensures.at c.split_inside.ensures.whole c.split_inside.ensures.inside (bad-no_quote c.split_inside.result.1.now c.in-Some-first.field-0.now c.split_inside.ensures.ends (sym c.in-Some-first.ensures.value) c.in-Some-first.field-0-test.1) (utf8-none c.split_inside.result.0.now c.utf8_fault.result c.in_default.not-Some c.utf8_fault.ensures.none)
