use Rattle.std.proofs.Common.{◌≡◌, ◌++◌, codes, drop}
use Rattle.std.specs.List.{flat_map}
use Rattle.lang_typed.specs.Names.{names_of}
use Rattle.body_infer.specs.Lines.{all_params, elem_text, path_text}
use Rattle.body_infer.proofs.text.path.Given as goal

abbrev pub invariant-loop-elem : goal.invariant-loop-elem
invariant-loop-elem l =
    (let names = names_of l.program in
    l.out ++ flat_map (λ elem. codes ":" ++ elem_text names elem) (drop l.elem-index l.elem-items) ≡ l.fn.out ++ path_text names (all_params l.of_class l.own) l.rpl)
