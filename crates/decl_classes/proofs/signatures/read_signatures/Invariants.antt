use Rattle.std.proofs.Common.{◌≡◌, ◌++◌, drop, map, length}
use Rattle.decl_headers.specs.Faults.{all_noted}
use Rattle.decl_table.specs.Plain.{plain_super, plain_field, plain_method}
use Rattle.decl_classes.specs.Rows.{supers_meant, fields_meant, methods_meant, signature_faults}
use Rattle.decl_classes.specs.Supers.{classes_in, all_extending}
use Rattle.decl_classes.proofs.signatures.read_signatures.Given as goal

abbrev pub invariant-loop-at : goal.invariant-loop-at
invariant-loop-at l =
    let left = drop l.at l.classes in
    record {
      extending : classes_in l.made.supers ++ all_extending l.headers l.at left ≡ all_extending l.headers 0 l.classes;
      supers : map plain_super l.made.supers ++ supers_meant l.headers l.given l.at left ≡ supers_meant l.headers l.given 0 l.classes;
      fields : map plain_field l.made.fields ++ fields_meant l.headers l.given l.at left ≡ fields_meant l.headers l.given 0 l.classes;
      methods : map plain_method l.made.methods ++ methods_meant l.headers l.given l.at (length l.made.methods) left ≡ methods_meant l.headers l.given 0 0 l.classes;
      noted : all_noted l.faults (signature_faults l.headers l.given l.at left) ≡ all_noted l.initial.faults (signature_faults l.headers l.given 0 l.classes);
    }
