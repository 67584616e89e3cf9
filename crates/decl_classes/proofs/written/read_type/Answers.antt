use Rattle.decl_resolve.specs.Scopes.{plain_scope}
use Rattle.decl_resolve.specs.Written.{type_faults}
use Rattle.decl_classes.proofs.Parts.{never_reported}
use Rattle.decl_classes.proofs.written.read_type.Goals as goal

pub unreachable-requires : goal.unreachable-requires
unreachable-requires c =
    never_reported c.args.scope.now.site c.in-Err-Refused.field-0 c.in-Err-Refused.field-0-0 c.args.faults.now (type_faults (plain_scope c.args.scope.now) c.args.tree.now)
    c.requires c.in-Err-Refused.field-0-is c.in-Err-Refused.ensures.reported
