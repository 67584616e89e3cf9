use Rattle.lang_typed.specs.Names.{names_of}
use Rattle.lang_typed.specs.Plain.{plain_program}
use Rattle.tool_front.specs.Judging.{names_of_passed, typed_of}
use Rattle.tool_top.proofs.Verdicts.{effects-so}
use Rattle.tool_top.proofs.carrying.inferred.Goals as goal

pub returns : goal.returns
returns c =
    effects-so c.args.text.now (plain_program c.in_ok-typed.typed) (typed_of c.args.passed) (names_of c.in_ok-typed.typed) (names_of_passed c.args.passed) c.in_ok-kept.kept _ _
    c.in_ok-typed.ensures.typed c.in_ok-typed.ensures.named c.requires c.in_ok-kept.ensures.inferred c.in_ok-lines.ensures c.only.ensures
