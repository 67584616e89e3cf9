use Rattle.std.proofs.Common.{◌≡◌, ◌+◌, ◌==◌, true, false, cond, Some, is_some, take, drop, length, length-take, sym, ap, ◌∙◌, arith}
use Rattle.lang_base.specs.declared.refusal.Kind.TheVariants as kind
use Rattle.decl_headers.specs.Faults.{all_noted}
use Rattle.decl_headers.specs.Numbers.{as_number, number_of}
use Rattle.decl_headers.specs.Passes.{first_named, second_classes}
use Rattle.decl_headers.proofs.Named.{named_again, named_new, none_from, take_class, second_step}
use Rattle.decl_headers.proofs.Noting.{noted_if, none_if}
use Rattle.decl_headers.proofs.supers.number_classes.Goals.{then-is_some, else-is_some+in_ok-set}
use Rattle.decl_headers.proofs.supers.number_classes.Goals as goal

pub loop-at-preserved : goal.loop-at-preserved
loop-at-preserved c =
    let classes = c.args.classes.now in
    let i = c.loop-at.at in
    let class = c.index-classes-at.result in
    let rest = second_classes (take (i + 1) classes) (drop (i + 1) classes) in
    let step = second_step c.loop-at.faults classes i class (omega arith) c.index-classes-at.is in
    let known : is_some (first_named class.name 0 (take i classes)) ≡ c.is_some.result =
    sym (ap is_some (c.get.ensures ∙ c.loop-at.invariant.first class.name)) ∙ sym c.is_some.ensures in
    elim c.if-is_some.branch [
      | then-is_some w ↦
          let some : is_some (first_named class.name 0 (take i classes)) ≡ true = known ∙ w.if-is_some.true in
          let note = noted_if c.loop-at.faults _ kind.Duplicate class.place rest some in
          record {
            faults = ap (λ f. all_noted f rest) (w.faults-is ∙ w.note.ensures) ∙ sym note ∙ sym step ∙ c.loop-at.invariant.faults;
            first = λ name. ap (λ m. number_of m name) w.numbers-is ∙ c.loop-at.invariant.first name
                ∙ sym (named_again name 0 (take i classes) class some)
                ∙ ap (λ z. first_named name 0 z) (sym (take_class classes i class (omega arith) c.index-classes-at.is));
          }
      | else-is_some+in_ok-set w ↦
          let none : is_some (first_named class.name 0 (take i classes)) ≡ false = known ∙ w.if-is_some.false in
          let here : i ≡ 0 + length (take i classes) = simp length-take (omega arith) in
          let note = none_if c.loop-at.faults _ kind.Duplicate class.place rest none in
          record {
            faults = ap (λ f. all_noted f rest) w.faults-is ∙ sym note ∙ sym step ∙ c.loop-at.invariant.faults;
            first = λ name. ap (λ m. number_of m name) w.numbers-is ∙ w.in_ok-set.ensures name
                ∙ ap (λ k. cond (class.name == name) (Some k) (number_of c.loop-at.numbers name)) w.number_at.ensures
                ∙ ap (λ z. cond (class.name == name) (Some (as_number i)) z) (c.loop-at.invariant.first name)
                ∙ ap (λ k. cond (class.name == name) (Some (as_number k)) (first_named name 0 (take i classes))) here
                ∙ sym (named_new name 0 (take i classes) class (none_from _ none))
                ∙ ap (λ z. first_named name 0 z) (sym (take_class classes i class (omega arith) c.index-classes-at.is));
          }
    ]
