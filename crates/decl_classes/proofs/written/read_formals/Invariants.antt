use Rattle.std.proofs.Common.{◌≡◌, ◌++◌, drop, map}
use Rattle.lang_base.specs.Types.{plain_type}
use Rattle.decl_headers.specs.Faults.{all_noted}
use Rattle.decl_resolve.specs.Scopes.{plain_scope}
use Rattle.decl_classes.specs.Signatures.{formal_types, formal_faults}
use Rattle.decl_classes.proofs.written.read_formals.Given as goal

abbrev pub invariant-loop-formal : goal.invariant-loop-formal
invariant-loop-formal l =
    let scope = plain_scope l.scope in
    record {
      params : map plain_type l.params ++ formal_types scope (drop l.formal-index l.formals) ≡ formal_types scope l.formals;
      noted : all_noted l.faults (formal_faults scope (drop l.formal-index l.formals)) ≡ all_noted l.initial.faults (formal_faults scope l.formals);
    }
