use Rattle.std.proofs.Common.{◌∙◌, ap, map, sym}
use Rattle.std.proofs.lemmas.List.{map-append, length-map}
use Rattle.lang_typed.specs.Plain.{plain_stmt}
use Rattle.code_instrs.specs.Plain.{plain_site, of_branch}
use Rattle.code_compile.specs.Emitted.{emitted_of, plain_pending}
use Rattle.code_compile.proofs.Emits.{on_ok_of, branch_pushed}
use Rattle.code_compile.proofs.emitter.Emitter.branch.Goals as goal

pub returns : goal.returns
returns c =
    on_ok_of c.push.result c.push.ensures.ok (λ e. branch_pushed (emitted_of c.args.self.now) (map plain_pending c.push.new.self)
    (λ n. record { title = of_branch n c.args.number; takes = c.args.takes; stmt = plain_stmt c.args.stmt.now }) c.len-site.result
    (ap (map plain_pending) e ∙ map-append plain_pending _ _) (c.len-site.ensures ∙ sym (length-map c.args.self.now.sites plain_site)))
