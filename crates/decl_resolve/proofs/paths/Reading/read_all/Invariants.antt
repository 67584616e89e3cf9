use Rattle.std.proofs.Common.{◌≡◌, ◌||◌, drop, fold}
use Rattle.std.specs.List.{list_any, flat_map}
use Rattle.decl_headers.specs.Faults.{all_noted}
use Rattle.decl_resolve.specs.Begun.{meant}
use Rattle.decl_resolve.specs.Reading.{atomic_with, is_misplaced, elem_faults, goes_on}
use Rattle.decl_resolve.specs.Index.{plain_index}
use Rattle.decl_resolve.specs.Scopes.{plain_scope}
use Rattle.decl_resolve.proofs.paths.Reading.read_all.Given as goal

abbrev pub invariant-loop-elem : goal.invariant-loop-elem
invariant-loop-elem l =
    let scope = plain_scope l.scope in
    let around = plain_index l.around in
    record {
      meant : goes_on scope around (meant l.self) (drop l.elem-index l.elems) ≡ goes_on scope around (meant l.initial.self) l.elems;
      atomic : fold (atomic_with scope) l.self.atomic (drop l.elem-index l.elems) ≡ fold (atomic_with scope) l.initial.self.atomic l.elems;
      misplaced : (l.self.misplaced || list_any (is_misplaced scope around) (drop l.elem-index l.elems)) ≡ (l.initial.self.misplaced || list_any (is_misplaced scope around) l.elems);
      faults : all_noted l.faults (flat_map (elem_faults scope around) (drop l.elem-index l.elems)) ≡ all_noted l.initial.faults (flat_map (elem_faults scope around) l.elems);
    }
