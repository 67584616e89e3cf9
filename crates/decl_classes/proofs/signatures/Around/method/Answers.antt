use Rattle.std.proofs.Common.{◌≡◌, ◌∙◌, ◌++◌, List, ap}
use Rattle.lang_base.specs.declared.effect.Constraint.{Constraint}
use Rattle.decl_headers.specs.Faults.{all_noted}
use Rattle.decl_classes.specs.Around.{with_names, method_names}
use Rattle.decl_classes.specs.Reading.{scope_with}
use Rattle.decl_classes.specs.Rows.{method_scope, method_given, said_scope, said_faults}
use Rattle.decl_classes.specs.Signatures.{constraints_meant, constraints_faults}
use Rattle.decl_classes.proofs.Parts.{noted_twice}
use Rattle.decl_classes.proofs.signatures.Around.method.Goals as goal

pub returns-clause-noted : goal.returns-clause-noted
returns-clause-noted c =
    let self = c.args.self.now in
    let method = c.args.method.now in
    let scope = scope_with self c.args.in_force.now in
    let given : c.as_slice.result.now ≡ c.args.in_force.now ++ method_given scope method =
    c.as_slice.ensures ∙ c.in_ok-given.ensures.in_force
    ∙ ap (λ g. c.args.in_force.now ++ g) (c.in_ok-given.ensures.meant ∙ ap (λ names. constraints_meant (with_names names scope) method.params.given) c.in_ok-names.ensures) in
    noted_twice c.args.faults.now c.own_constraints.new.faults c.said.new.faults (constraints_faults (method_scope scope method) method.params.given) (said_faults (said_scope scope method) method)
    (c.in_ok-given.ensures.noted ∙ ap (λ names. all_noted c.args.faults.now (constraints_faults (with_names names scope) method.params.given)) c.in_ok-names.ensures)
    (c.in_ok-said.ensures.noted
    ∙ ap (λ names. all_noted c.own_constraints.new.faults (said_faults (with_names names (scope_with self c.as_slice.result.now)) method)) c.in_ok-names.ensures
    ∙ ap (λ (g : List Constraint). all_noted c.own_constraints.new.faults (said_faults (with_names (method_names method) (scope_with self g)) method)) given)
