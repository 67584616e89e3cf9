use Rattle.std.proofs.Common.{◌∙◌, ap, sym, map, []}
use Rattle.std.specs.Option.{option_copied}
use Rattle.body_assembly.proofs.Lists.{if_ok, found_or}
use Rattle.body_assembly.proofs.classes.typed_rows.Goals as goal

pub returns-in-None : goal.returns-in-None
returns-in-None c =
    ap (map (λ row. row.number)) c.new.ensures ∙ sym (found_or c.args.all.now c.args.at _ [] (ap option_copied (sym c.in-None.is) ∙ c.get.ensures.value))

pub returns-in-Some : goal.returns-in-Some
returns-in-Some c =
    if_ok c.rows_of.result (λ made is. is ∙ sym (found_or c.args.all.now c.args.at _ [] (ap option_copied (sym c.in-Some.is) ∙ c.get.ensures.value))) c.rows_of.ensures
