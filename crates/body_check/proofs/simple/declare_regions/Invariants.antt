use Rattle.std.proofs.Common.{◌≡◌, ◌++◌, drop, map}
use Rattle.body_check.specs.Simple.{regions_made, regions_noted, with_regions}
use Rattle.body_exprs.specs.Env.{bare}
use Rattle.body_check.proofs.simple.declare_regions.Given as goal

abbrev pub invariant-loop-named : goal.invariant-loop-named
invariant-loop-named l = record {
  home : bare l.env ≡ bare l.fn.env;
  noted : regions_noted l.env l.node (drop l.named-index l.names) ≡ regions_noted l.fn.env l.fn.node l.names;
  scope : with_regions l.env (drop l.named-index l.names) ≡ with_regions l.fn.env l.names;
  made : map (λ region. region.number) l.regions ++ regions_made l.env (drop l.named-index l.names) ≡ regions_made l.fn.env l.names;
}
