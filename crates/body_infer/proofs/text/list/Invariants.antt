use Rattle.std.proofs.Common.{◌≡◌, ◌++◌, drop, map}
use Rattle.lang_typed.specs.Names.{names_of}
use Rattle.body_infer.specs.Lines.{all_params, item_text, listed}
use Rattle.body_infer.proofs.text.list.Given as goal

abbrev pub invariant-loop-item : goal.invariant-loop-item
invariant-loop-item l =
    (let text = item_text (names_of l.program) (all_params l.of_class l.own) in
    l.out ++ listed l.between (map text (drop l.item-index l.item-items)) ≡ l.fn.out ++ listed l.word (map text l.item-items))
