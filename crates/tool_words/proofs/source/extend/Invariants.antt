use Rattle.std.proofs.Common.{◌≡◌, ◌++◌}
use Rattle.tool_words.specs.Demo.{class_lines}
use Rattle.tool_words.proofs.source.extend.Given as goal

abbrev pub invariant-loop-class : goal.invariant-loop-class
invariant-loop-class l = l.text ≡ l.fn.text ++ class_lines l.line l.class
