use Rattle.std.proofs.Common.{◌+◌, map, is_some, sym, ap, ◌∙◌, arith}
use Rattle.std.specs.String.{string_bytes}
use Rattle.std.proofs.lemmas.List.{take_all}
use Rattle.tool_words.specs.Words.{values_for}
use Rattle.tool_words.proofs.Values.{texts, values_more, length-values_front, two_values, first_value, same_value}
use Rattle.tool_words.proofs.setting.value_set.Goals.{in-Some+else-is_some, in_default}
use Rattle.tool_words.proofs.setting.value_set.Goals as goal

pub returns-then-is_some : goal.returns-then-is_some
returns-then-is_some c =
    let words = c.args.settings.now in
    let more = values_more c.args.key words c.loop-word.word-index c.word-item.result c.as_str.result.now c.loop-word.value c.value_in.result (omega arith) c.loop-word.invariant c.word-item.is c.as_str.ensures.value c.value_in.ensures in
    let two = two_values _ c.loop-word.value c.value_in.result more (sym c.is_some.ensures ∙ c.if-is_some.true) (ap is_some c.in-Some.is) in
    omega (arith, two, length-values_front c.args.key words (c.loop-word.word-index + 1))

pub loop-word-preserved : goal.loop-word-preserved
loop-word-preserved c =
    let more = values_more c.args.key c.args.settings.now c.loop-word.word-index c.word-item.result c.as_str.result.now c.loop-word.value c.value_in.result (omega arith) c.loop-word.invariant c.word-item.is c.as_str.ensures.value c.value_in.ensures in
    elim c.match-value_in.branch [
      | in-Some+else-is_some w ↦ first_value _ c.loop-word.value c.value_in.result more (sym w.is_some.ensures ∙ w.if-is_some.false) ∙ ap texts (w.in-Some.is ∙ sym w.value-is)
      | in_default w ↦ same_value _ c.loop-word.value c.value_in.result more (ap is_some w.in_default.is) ∙ ap texts (sym w.value-is)
    ]

pub returns : goal.returns
returns c =
    ap (λ l. values_for c.args.key (map string_bytes l)) (sym (take_all c.loop-word.word-index c.args.settings.now (omega arith)))
    ∙ c.loop-word.invariant
