use Rattle.std.proofs.Common.{◌≡◌, take, map}
use Rattle.decl_headers.specs.Passes.{has_constructor}
use Rattle.decl_headers.proofs.supers.with_constructors.Given as goal

abbrev pub invariant-loop-class : goal.invariant-loop-class
invariant-loop-class l = l.closed ≡ map has_constructor (take l.class-index l.classes)
