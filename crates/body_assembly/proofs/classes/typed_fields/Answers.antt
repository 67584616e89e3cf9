use Rattle.std.proofs.Common.{◌∙◌, ap, sym, map, []}
use Rattle.std.specs.Option.{option_copied}
use Rattle.lang_typed.specs.Plain.{plain_field as typed_field}
use Rattle.decl_table.specs.Plain.{plain_field}
use Rattle.body_assembly.specs.Assembled.{field_of}
use Rattle.body_assembly.proofs.Lists.{if_ok, found_or}
use Rattle.body_assembly.proofs.classes.typed_fields.Goals as goal

pub returns-in-None : goal.returns-in-None
returns-in-None c =
    ap (map typed_field) c.new.ensures
    ∙ sym (ap (λ rows. map field_of (map plain_field rows)) (found_or c.args.all.now c.args.at _ [] (ap option_copied (sym c.in-None.is) ∙ c.get.ensures.value)))

pub returns-in-Some : goal.returns-in-Some
returns-in-Some c =
    if_ok c.fields_of.result (λ made is. is
    ∙ sym (ap (λ rows. map field_of (map plain_field rows)) (found_or c.args.all.now c.args.at _ [] (ap option_copied (sym c.in-Some.is) ∙ c.get.ensures.value)))) c.fields_of.ensures
