use Rattle.std.proofs.Common.{true}
use Rattle.decl_resolve.specs.Reading.{arg_faults}
use Rattle.decl_resolve.specs.Scopes.{plain_scope}
use Rattle.decl_resolve.specs.Index.{plain_index}
use Rattle.decl_classes.proofs.Parts.{never_reported}
use Rattle.decl_classes.proofs.written.read_parent_args.Goals as goal

pub unreachable-requires : goal.unreachable-requires
unreachable-requires c =
    never_reported c.args.scope.now.site c.in-Err-Refused.field-0 c.in-Err-Refused.field-0-0 c.args.faults.now (arg_faults (plain_scope c.args.scope.now) (plain_index c.none.result) c.class_params-params.result.now true c.args.trees.now)
    c.requires c.in-Err-Refused.field-0-is c.in-Err-Refused.ensures.reported
