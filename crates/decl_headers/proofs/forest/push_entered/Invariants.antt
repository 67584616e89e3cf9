use Rattle.std.proofs.Common.{◌≡◌, ◌++◌, take}
use Rattle.decl_headers.specs.Way.{entered_below}
use Rattle.decl_headers.proofs.forest.push_entered.Given as goal

abbrev pub invariant-loop-class : goal.invariant-loop-class
invariant-loop-class l = l.pending ≡ l.initial.pending ++ entered_below (take l.class-index l.classes)
