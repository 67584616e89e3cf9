use Rattle.std.proofs.Common.{◌∙◌, ap, map}
use Rattle.std.proofs.lemmas.List.{map-append}
use Rattle.code_compile.specs.Emitted.{emitted_of, plain_line}
use Rattle.code_compile.proofs.Emits.{on_ok_of, line_pushed}
use Rattle.code_compile.proofs.emitter.Emitter.line.Goals as goal

pub returns : goal.returns
returns c =
    on_ok_of c.push.result c.push.ensures.ok (λ e. line_pushed (emitted_of c.args.self.now) c.args.instr c.args.place (map plain_line c.push.new.self)
    (ap (map plain_line) e ∙ map-append plain_line _ _))
