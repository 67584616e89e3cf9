use Rattle.std.proofs.Common.{◌≡◌, ◌++◌, None, length, drop, fold}
use Rattle.std.specs.List.{filter_map}
use Rattle.decl_resolve.specs.Reading.{path_meant, local_with, arg_need, each_faults}
use Rattle.decl_resolve.specs.Index.{plain_index}
use Rattle.decl_resolve.specs.Scopes.{plain_scope}
use Rattle.decl_resolve.specs.Telling.{parts_noted, parts_reported}
use Rattle.decl_resolve.proofs.args.read_args.Given as goal

abbrev pub invariant-loop-at : goal.invariant-loop-at
invariant-loop-at l =
    let scope = plain_scope l.scope in
    let around = plain_index l.around in
    let need = arg_need l.params l.full (length l.trees) in
    record {
      paths : l.read.paths ++ filter_map (path_meant scope around) (drop l.at l.trees) ≡ filter_map (path_meant scope around) l.trees;
      local : fold (local_with scope around) l.read.local (drop l.at l.trees) ≡ fold (local_with scope around) None l.trees;
      noted : parts_noted l.faults (each_faults scope around need l.at (drop l.at l.trees)) ≡ parts_noted l.initial.faults (each_faults scope around need 0 l.trees);
      reported : parts_reported l.scope.site l.faults (each_faults scope around need l.at (drop l.at l.trees)) ≡ parts_reported l.scope.site l.initial.faults (each_faults scope around need 0 l.trees);
    }
