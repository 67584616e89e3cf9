use Rattle.std.proofs.Common.{sym}
use Rattle.code_instrs.specs.Plain.{plain_code}
use Rattle.exec_task.proofs.BySite.{site_found}
use Rattle.exec_task.proofs.task.Level.join.Goals as goal

pub returns : goal.returns
returns c = λ task fs.
    rw (← c.in-Some.ensures, site_found c.args.code.now.sites c.in-Some.site c.in-Some-get.site.now (sym c.in-Some-get.ensures.value))
    (c.join_at.ensures (plain_code c.args.code.now) task fs)
