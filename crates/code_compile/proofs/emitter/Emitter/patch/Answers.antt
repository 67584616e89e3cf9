use Rattle.std.proofs.Common.{◌∙◌, ap, map}
use Rattle.std.proofs.lemmas.List.{map-set}
use Rattle.code_compile.specs.Emitted.{emitted_of, plain_line}
use Rattle.code_compile.proofs.emitter.Emitter.patch.Goals as goal

pub returns : goal.returns
returns c =
    ap (λ l. record (emitted_of c.args.self.now) { piece = record (emitted_of c.args.self.now).piece { lines = l } })
    (ap (map plain_line) c.set.ensures ∙ map-set plain_line c.args.self.now.lines c.args.at _)
