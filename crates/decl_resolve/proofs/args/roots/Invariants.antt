use Rattle.std.proofs.Common.{◌≡◌, take}
use Rattle.decl_resolve.specs.Args.{roots}
use Rattle.decl_resolve.proofs.args.roots.Given as goal

abbrev pub invariant-loop-param : goal.invariant-loop-param
invariant-loop-param l = l.made ≡ roots (take l._param-index l.params)
