use Rattle.std.proofs.Common.{◌∙◌, ap, sym, unwrap_or, option_map}
use Rattle.std.proofs.lemmas.Option.{slice_get-map, unwrap_or-slice_get}
use Rattle.std.specs.Option.{option_copied}
use Rattle.code_instrs.specs.declared.code.MethodCode.{MethodCode}
use Rattle.code_compile.specs.Classes.{numbers_of}
use Rattle.code_compile.proofs.classes.number_of.Goals as goal

pub returns-in-None : goal.returns-in-None
returns-in-None c =
    ap (λ o. unwrap_or (option_map (λ (m : MethodCode). m.body) o) 0) (ap option_copied (sym c.in-None.is) ∙ c.get.ensures.value)
    ∙ ap (λ o. unwrap_or o 0) (sym (slice_get-map (λ (m : MethodCode). m.body) c.args.members.now c.args.member.number)) ∙ unwrap_or-slice_get (numbers_of c.args.members.now) c.args.member.number 0

pub returns-in-Some : goal.returns-in-Some
returns-in-Some c =
    ap (λ o. unwrap_or (option_map (λ (m : MethodCode). m.body) o) 0) (ap option_copied (sym c.in-Some.is) ∙ c.get.ensures.value)
    ∙ ap (λ o. unwrap_or o 0) (sym (slice_get-map (λ (m : MethodCode). m.body) c.args.members.now c.args.member.number)) ∙ unwrap_or-slice_get (numbers_of c.args.members.now) c.args.member.number 0
