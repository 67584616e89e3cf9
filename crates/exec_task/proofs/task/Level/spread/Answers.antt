use Rattle.std.proofs.Common.{sym, ap, ◌∙◌, Some}
use Rattle.code_instrs.specs.declared.code.Site.TheVariants as site
use Rattle.code_instrs.specs.Plain.{plain_code}
use Rattle.exec_task.proofs.BySite.{site_found}
use Rattle.exec_task.proofs.task.Level.spread.Goals as goal

pub returns : goal.returns
returns c = λ task fs.
    rw (site_found c.args.code.now.sites c.args.site (site.Spread c.in-Some-Spread.forking c.in-Some-Spread.field-0-1 c.in-Some-Spread.field-0-2)
    (sym c.in-Some-Spread.ensures.value ∙ ap Some c.in-Some-Spread.field-0-is))
    (c.spread_out.ensures (plain_code c.args.code.now) c.in-Some-Spread.field-0-1 c.in-Some-Spread.field-0-2 fs)
