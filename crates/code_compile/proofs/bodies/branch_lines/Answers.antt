use Rattle.code_compile.specs.Emitted.{emitted_of}
use Rattle.code_compile.proofs.Emits.{on_ok}
use Rattle.code_compile.proofs.Generating.{whole_branch, part_branch}
use Rattle.code_compile.proofs.bodies.branch_lines.Goals as goal

pub returns-in_ok-stmt-in-None : goal.returns-in_ok-stmt-in-None
returns-in_ok-stmt-in-None c =
    on_ok c.line.result (λ h. whole_branch (emitted_of c.args.out.now) _ _ c.args.body.now c.args.takes c.requires c.in-None.is c.in_ok-stmt-in-None.ensures h) c.line.ensures

pub returns-in_ok-stmt-in-Some : goal.returns-in_ok-stmt-in-Some
returns-in_ok-stmt-in-Some c =
    on_ok c.line-in-Some-2.result (λ h. part_branch (emitted_of c.args.out.now) _ _ _ c.args.body.now c.args.takes c.in-Some.part c.requires c.in-Some.is c.in_ok-line-in-Some.ensures
    c.in_ok-stmt-in-Some.ensures h) c.line-in-Some-2.ensures
