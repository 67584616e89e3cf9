use Rattle.std.proofs.Common.{◌≡◌, ◌++◌, None, drop}
use Rattle.decl_resolve.specs.Index.{plain_index}
use Rattle.decl_resolve.specs.Scopes.{plain_scope}
use Rattle.decl_resolve.specs.Telling.{parts_noted, parts_reported}
use Rattle.decl_resolve.specs.Written.{paths_from, local_from, parts_from}
use Rattle.decl_resolve.proofs.types.read_suffixes.Given as goal

abbrev pub invariant-loop-at : goal.invariant-loop-at
invariant-loop-at l =
    let scope = plain_scope l.scope in
    let around = plain_index l.around in
    let suffixes = l.around.suffixes.now in
    record {
      paths : l.read.paths ++ paths_from scope around l.at (drop l.at suffixes) ≡ paths_from scope around 0 suffixes;
      local : local_from scope around l.at l.read.local (drop l.at suffixes) ≡ local_from scope around 0 None suffixes;
      noted : parts_noted l.faults (parts_from scope around l.at (drop l.at suffixes)) ≡ parts_noted l.initial.faults (parts_from scope around 0 suffixes);
      reported : parts_reported l.scope.site l.faults (parts_from scope around l.at (drop l.at suffixes)) ≡ parts_reported l.scope.site l.initial.faults (parts_from scope around 0 suffixes);
    }
