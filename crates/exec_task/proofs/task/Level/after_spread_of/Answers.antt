use Rattle.std.proofs.Common.{sym, ap, ◌∙◌, Some, map, subst}
use Rattle.std.proofs.lemmas.Result.{IfOk-weaker}
use Rattle.code_instrs.specs.declared.code.Site.TheVariants as site
use Rattle.code_instrs.specs.Machine.{spread}
use Rattle.exec_task.specs.Answers.{LeadsTo}
use Rattle.exec_task.specs.Tasks.{plain_level, state_in}
use Rattle.exec_task.proofs.BySite.{site_found}
use Rattle.exec_task.proofs.task.Level.after_spread_of.Goals as goal

pub returns-clause-ok : goal.returns-clause-ok
returns-clause-ok c =
    IfOk-weaker c.after_spread.result _ _ (λ s l place a fs. subst (λ o. LeadsTo (spread place o (plain_level c.args.self.now) (map plain_level fs)) a (state_in s c.after_spread.new.self fs))
    (sym (site_found c.args.code.now.sites c.args.site (site.Spread c.in-Some-Spread.field-0-0 c.in-Some-Spread.field-0-1 c.in-Some-Spread.field-0-2)
    (sym c.in-Some-Spread.ensures.value ∙ ap Some c.in-Some-Spread.field-0-is)))
    (l place c.in-Some-Spread.field-0-0 c.in-Some-Spread.field-0-1 c.in-Some-Spread.field-0-2 a fs)) c.after_spread.ensures.ok
