use Rattle.lang_typed.specs.Names.{names_of}
use Rattle.lang_typed.specs.Plain.{plain_program}
use Rattle.tool_front.specs.Judging.{names_of_passed, typed_of}
use Rattle.tool_top.proofs.Verdicts.{listing-so}
use Rattle.tool_top.proofs.carrying.listed.Goals as goal

pub returns : goal.returns
returns c =
    listing-so c.args.text.now (plain_program c.in_ok-typed.typed) (typed_of c.args.passed) (names_of c.in_ok-typed.typed) (names_of_passed c.args.passed) c.in_ok-code.code _ _
    c.law_plain.ensures c.in_ok-typed.ensures.typed c.in_ok-typed.ensures.named c.requires c.in_ok-code.ensures.code c.in_ok-code.ensures.titles c.in_ok-code.ensures.placed
    c.in_ok-listing.ensures c.only.ensures
