use Rattle.std.proofs.Common.{◌≡◌, get_or, false, true, String, Global, sym, ap, ◌∙◌, arith}
use Rattle.std.specs.List.{list_all}
use Rattle.std.specs.String.{string_bytes}
use Rattle.std.proofs.lemmas.List.{take_all}
use Rattle.std.proofs.lemmas.List.Folds.{list_all-map, list_all_at, list_all_more}
use Rattle.std.proofs.lemmas.Bool.{and_from}
use Rattle.tool_words.specs.Words.{sets_key_of}
use Rattle.tool_words.proofs.job.all_set_keys.Goals as goal

pub returns-then-not-sets_key : goal.returns-then-not-sets_key
returns-then-not-sets_key c =
    let test = λ (word : String Global). sets_key_of c.args.command (string_bytes word) in
    let at : test (get_or c.args.settings.now c.loop-word.word-index c.word-item.result) ≡ false
    = ap test (sym c.word-item.is) ∙ ap (sets_key_of c.args.command) (sym c.as_str.ensures.value) ∙ sym c.sets_key.ensures ∙ c.if-not-sets_key.true in
    sym (list_all-map (sets_key_of c.args.command) string_bytes c.args.settings.now ∙ list_all_at test c.args.settings.now c.loop-word.word-index c.word-item.result (omega arith) at)

pub loop-word-preserved : goal.loop-word-preserved
loop-word-preserved c =
    let test = λ (word : String Global). sets_key_of c.args.command (string_bytes word) in
    let at : test (get_or c.args.settings.now c.loop-word.word-index c.word-item.result) ≡ true
    = ap test (sym c.word-item.is) ∙ ap (sets_key_of c.args.command) (sym c.as_str.ensures.value) ∙ sym c.sets_key.ensures ∙ c.if-not-sets_key.false in
    list_all_more test c.args.settings.now c.loop-word.word-index c.word-item.result (omega arith) ∙ and_from _ _ c.loop-word.invariant at

pub returns : goal.returns
returns c =
    let test = λ (word : String Global). sets_key_of c.args.command (string_bytes word) in
    sym (list_all-map (sets_key_of c.args.command) string_bytes c.args.settings.now
    ∙ ap (list_all test) (sym (take_all c.loop-word.word-index c.args.settings.now (omega arith)))
    ∙ c.loop-word.invariant)
