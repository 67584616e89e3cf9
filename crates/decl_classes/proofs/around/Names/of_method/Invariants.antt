use Rattle.std.proofs.Common.{◌≡◌, None, drop, fold}
use Rattle.decl_resolve.specs.Scoped.{no_names, with_name}
use Rattle.decl_classes.specs.Around.{param_names, formal_names}
use Rattle.decl_classes.proofs.around.Names.of_method.Given as goal

abbrev pub invariant-loop-param : goal.invariant-loop-param
invariant-loop-param l = record {
  params : fold (λ names param. with_name names param.name param.atomic) l.names.params (drop l.param-index l.param-items) ≡ param_names l.param-items;
  formals : l.names.formals ≡ no_names;
  regions : l.names.regions ≡ no_names;
}

abbrev pub invariant-loop-formal : goal.invariant-loop-formal
invariant-loop-formal l = record {
  params : l.names.params ≡ l.initial.names.params;
  formals : fold (λ names formal. with_name names formal.name None) l.names.formals (drop l.formal-index l.formal-items) ≡ formal_names l.formal-items;
  regions : l.names.regions ≡ no_names;
}
