use Rattle.std.proofs.Common.{◌∙◌, ap, suc, arith}
use Rattle.code_compile.specs.Emitted.{emitted_of}
use Rattle.code_compile.proofs.Emits.{one_longer, either_opened}
use Rattle.code_compile.proofs.emitter.Emitter.open_either.Goals as goal

pub unless_here-requires : goal.unless_here-requires
unless_here-requires c =
    let first = one_longer _ _ c.in_ok-test.ensures.ok in let second = one_longer _ _ c.in_ok-line.ensures in let third = one_longer _ _ c.in_ok-jump.ensures.ok in
    let at = c.in_ok-test.ensures.at in omega arith

pub returns-clause-at : goal.returns-clause-at
returns-clause-at c = c.in_ok-jump.ensures.at ∙ one_longer _ _ c.in_ok-line.ensures ∙ ap suc (one_longer _ _ c.in_ok-test.ensures.ok)

pub returns-clause-ok : goal.returns-clause-ok
returns-clause-ok c =
    either_opened (emitted_of c.args.self.now) (emitted_of c.hole.new.self) (emitted_of c.line.new.self) (emitted_of c.jump.new.self) (emitted_of c.unless_here.new.self)
    c.args.place c.in_ok-test.test c.in_ok-test.ensures.at c.in_ok-test.ensures.ok c.in_ok-line.ensures c.in_ok-jump.ensures.ok c.unless_here.ensures
