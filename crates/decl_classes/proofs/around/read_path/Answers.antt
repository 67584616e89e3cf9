use Rattle.std.proofs.Common.{◌∙◌, false, ap}
use Rattle.decl_headers.specs.Faults.{all_noted}
use Rattle.decl_resolve.specs.Reading.{path_faults}
use Rattle.decl_resolve.specs.Scopes.{plain_scope}
use Rattle.decl_classes.proofs.around.read_path.Goals as goal

pub returns-in-Ok-clause-noted : goal.returns-in-Ok-clause-noted
returns-in-Ok-clause-noted c =
    c.in-Ok.ensures.noted
    ∙ ap (λ around. all_noted c.args.faults.now (path_faults (plain_scope c.args.scope.now) around (record { full = c.args.full; atomic = false }) c.args.tree.now)) c.none.ensures
