use Rattle.std.proofs.Common.{ap}
use Rattle.code_instrs.specs.declared.instr.Instr.TheVariants as i
use Rattle.code_compile.specs.Emitted.{emitted_of}
use Rattle.code_compile.proofs.Emits.{on_ok, texted_pushed}
use Rattle.code_compile.proofs.emitter.Emitter.text.Goals as goal

pub returns : goal.returns
returns c =
    on_ok c.line.result
    (texted_pushed (emitted_of c.args.self.now) (emitted_of c.line.new.self) c.push.new.self c.args.text (λ n. i.Text n) _ c.args.place
    c.in_ok-push.ensures.ok (ap (λ n. i.Text n) c.len-number.ensures))
    c.line.ensures
