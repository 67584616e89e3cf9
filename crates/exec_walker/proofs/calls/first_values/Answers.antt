use Rattle.std.proofs.Common.{◌∙◌, ap, map, sym}
use Rattle.std.proofs.lemmas.Result.{IfOk-weaker}
use Rattle.lang_base.specs.FirstValues.{constant_of}
use Rattle.exec_frames.specs.Names.{plain_value}
use Rattle.exec_walker.proofs.Programs.{first_values, no_values}
use Rattle.exec_walker.proofs.calls.first_values.Goals as goal

pub returns-in-None : goal.returns-in-None
returns-in-None c = ap (λ vs. map plain_value (map constant_of vs)) c.new.ensures ∙ no_values c.args.program.now c.args.class (sym c.in-None.ensures.value)

pub returns-in-Some : goal.returns-in-Some
returns-in-Some c =
    IfOk-weaker c.first_values.result _ _ (λ values is. ap (λ vs. map plain_value (map constant_of vs)) is ∙ first_values c.args.program.now c.args.class c.in-Some.row.now c.in-Some.ensures.value) c.first_values.ensures
