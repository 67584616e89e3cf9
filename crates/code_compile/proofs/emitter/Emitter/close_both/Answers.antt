use Rattle.std.proofs.Common.{arith}
use Rattle.code_compile.specs.Emitted.{emitted_of}
use Rattle.code_compile.proofs.Emits.{one_longer, below_patched, both_closed}
use Rattle.code_compile.proofs.emitter.Emitter.close_both.Goals as goal

pub jump_here-requires : goal.jump_here-requires
jump_here-requires c =
    let first = one_longer _ _ c.in_ok-jump.ensures.ok in let second = one_longer _ _ c.in_ok-line.ensures in let at = c.in_ok-jump.ensures.at in omega arith

pub patch-requires : goal.patch-requires
patch-requires c =
    let first = one_longer _ _ c.in_ok-jump.ensures.ok in let second = one_longer _ _ c.in_ok-line.ensures in let below = c.requires in
    below_patched (emitted_of c.line.new.self) (emitted_of c.jump_here.new.self) _ _ _ c.jump_here.ensures (omega arith)

pub returns : goal.returns
returns c =
    both_closed (emitted_of c.args.self.now) (emitted_of c.jump.new.self) (emitted_of c.line.new.self) (emitted_of c.jump_here.new.self) (emitted_of c.patch.new.self)
    c.args.place c.in_ok-jump.jump c.here-other.result c.args.test c.in_ok-jump.ensures.at c.in_ok-jump.ensures.ok c.here-other.ensures c.in_ok-line.ensures
    c.jump_here.ensures c.patch.ensures
