use Rattle.std.proofs.Common.{◌≡◌, ◌++◌, drop, map, length}
use Rattle.std.specs.List.{flat_map}
use Rattle.decl_headers.specs.Faults.{all_noted}
use Rattle.decl_resolve.specs.Classes.{constraints_in}
use Rattle.decl_classes.specs.Reading.{scope_around}
use Rattle.decl_table.specs.Plain.{plain_field, plain_method}
use Rattle.decl_classes.specs.Rows.{member_faults, fields_from, methods_from}
use Rattle.decl_classes.proofs.signatures.Around.members.Given as goal

abbrev pub invariant-loop-member : goal.invariant-loop-member
invariant-loop-member l =
    let scope = scope_around l.self in
    let left = drop l.member-index l.members in
    record {
      in_force : l.in_force ≡ constraints_in l.self.classes_given.now l.self.class;
      supers : l.made.supers ≡ l.initial.made.supers;
      fields : map plain_field l.made.fields ++ fields_from scope l.slot left ≡ map plain_field l.initial.made.fields ++ fields_from scope l.initial.slot l.members;
      methods : map plain_method l.made.methods ++ methods_from scope (length l.made.methods) left ≡ map plain_method l.initial.made.methods ++ methods_from scope (length l.initial.made.methods) l.members;
      noted : all_noted l.faults (flat_map (member_faults scope) left) ≡ all_noted l.initial.faults (flat_map (member_faults scope) l.members);
    }
