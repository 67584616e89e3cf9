use Rattle.std.proofs.Common.{◌≡◌, ◌+◌, ◌∷◌, drop, ap, arith}
use Rattle.std.proofs.lemmas.Grind.{common_steps}
use Rattle.decl_headers.specs.Faults.{all_noted}
use Rattle.decl_headers.specs.Numbers.{as_number}
use Rattle.decl_classes.specs.Around.{class_scope}
use Rattle.decl_classes.specs.Rows.{class_faults, methods_meant, signature_faults}
use Rattle.decl_classes.proofs.Counted.{methods_step}
use Rattle.decl_classes.proofs.Parts.{noted_next}
use Rattle.decl_classes.proofs.signatures.read_signatures.Goals as goal

pub loop-at-preserved : goal.loop-at-preserved
loop-at-preserved c =
    let headers = c.args.headers.now in
    let given = c.args.given.now in
    let classes = c.args.classes.now in
    let at = c.loop-at.at in
    let class = c.index-classes-at.result in
    let left : drop at classes ≡ class ∷ drop (at + 1) classes = grind (arith, common_steps) in
    record {
      extending = grind (arith, common_steps);
      supers = grind (arith, common_steps);
      fields = grind (arith, common_steps);
      methods =
          methods_step headers given at c.loop-at.made.methods c.class.new.made.methods class (drop at classes) (drop (at + 1) classes)
          (methods_meant headers given 0 0 classes) left (cc c.in_ok-class.ensures.methods) c.loop-at.invariant.methods;
      noted =
          noted_next c.loop-at.faults c.class.new.faults (all_noted c.args.faults.now (signature_faults headers given 0 classes)) (signature_faults headers given at (drop at classes))
          (class_faults (class_scope headers given (as_number at)) class) (signature_faults headers given (at + 1) (drop (at + 1) classes))
          (ap (signature_faults headers given at) left) (cc c.in_ok-class.ensures.noted) c.loop-at.invariant.noted;
    }
