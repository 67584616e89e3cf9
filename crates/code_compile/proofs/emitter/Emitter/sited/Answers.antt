use Rattle.std.proofs.Common.{◌∙◌, ap, map, sym}
use Rattle.std.proofs.lemmas.List.{map-append, length-map}
use Rattle.code_instrs.specs.Plain.{plain_site}
use Rattle.code_compile.specs.Emitted.{emitted_of, instr_at}
use Rattle.code_compile.proofs.Emits.{on_ok, sited_pushed}
use Rattle.code_compile.proofs.emitter.Emitter.sited.Goals as goal

pub returns : goal.returns
returns c =
    on_ok c.line.result
    (sited_pushed (emitted_of c.args.self.now) (emitted_of c.line.new.self) (map plain_site c.push.new.self) (plain_site c.args.site) (instr_at c.args.kind) c.at.result c.args.place
    (ap (map plain_site) c.in_ok-push.ensures.ok ∙ map-append plain_site _ _)
    (c.at.ensures ∙ ap (instr_at c.args.kind) (c.len-number.ensures ∙ sym (length-map c.args.self.now.sites plain_site))))
    c.line.ensures
