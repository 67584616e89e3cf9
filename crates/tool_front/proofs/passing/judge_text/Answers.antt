use Rattle.std.proofs.Common.{◌<◌, ◌≤◌, ℕ, length, arith}
use Rattle.decl_headers.proofs.Shaped.{counted_when_named}
use Rattle.syntax_tree.specs.Size.{program_size}
use Rattle.syntax_tree.proofs.Sizes.{classes_counted}
use Rattle.tool_front.specs.Front.{IsTokenFault, of_program}
use Rattle.tool_front.specs.Judging.{IsFaulty}
use Rattle.tool_front.proofs.Reported.{reported-so}
use Rattle.tool_front.proofs.passing.judge_text.Goals as goal

few : (classes size bytes : ℕ) → classes ≤ size → size ≤ bytes → bytes ≤ 1048576 → classes < 4294967295
few classes size bytes h k l = omega (arith, h, k, l)

pub judge_program-requires : goal.judge_program-requires
judge_program-requires c = record {
  counted =
      counted_when_named c.in_ok-tree.tree
      (few (length c.in_ok-tree.tree.classes) (program_size c.in_ok-tree.tree) (length c.args.text.now) (classes_counted c.in_ok-tree.tree) c.in_ok-tree.ensures.sized
      c.requires.short)
      c.in_ok-tree.ensures.named;
}

pub returns-clause-fault : goal.returns-clause-fault
returns-clause-fault c =
    reported-so (IsFaulty c.in_ok-tree.tree) (IsTokenFault c.args.text.now c.args.tokens.now.list c.args.tokens.now.end) c.judge_program.result
    (λ refusal fault. of_program c.in_ok-tree.tree c.in_ok-tree.ensures.derived fault) c.judge_program.ensures.fault
