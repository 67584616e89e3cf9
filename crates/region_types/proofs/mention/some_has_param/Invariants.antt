use Rattle.std.proofs.Common.{◌≡◌, drop}
use Rattle.std.specs.List.{list_any}
use Rattle.lang_base.specs.Types.{has_param}
use Rattle.region_types.proofs.mention.some_has_param.Given as goal

abbrev pub invariant-loop-path : goal.invariant-loop-path
invariant-loop-path l = list_any (has_param l.param) (drop l.path-index l.paths) ≡ list_any (has_param l.param) l.paths
