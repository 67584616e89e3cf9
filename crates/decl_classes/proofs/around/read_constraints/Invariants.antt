use Rattle.std.proofs.Common.{◌≡◌, ◌++◌, drop}
use Rattle.decl_headers.specs.Faults.{all_noted}
use Rattle.decl_resolve.specs.Scopes.{plain_scope}
use Rattle.decl_classes.specs.Signatures.{constraints_meant, constraints_faults}
use Rattle.decl_classes.proofs.around.read_constraints.Given as goal

abbrev pub invariant-loop-tree : goal.invariant-loop-tree
invariant-loop-tree l =
    let scope = plain_scope l.scope in
    record {
      given : l.given ++ constraints_meant scope (drop l.tree-index l.trees) ≡ constraints_meant scope l.trees;
      noted : all_noted l.faults (constraints_faults scope (drop l.tree-index l.trees)) ≡ all_noted l.initial.faults (constraints_faults scope l.trees);
    }
