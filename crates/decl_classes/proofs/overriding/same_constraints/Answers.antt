use Rattle.std.proofs.Common.{◌&&◌, refl, sym}
use Rattle.region_types.proofs.Equal.{unequal}
use Rattle.decl_classes.specs.Overriding.{same_path_with, same_constraints}
use Rattle.decl_classes.proofs.overriding.same_constraints.Goals as goal

pub returns-then-own-others : goal.returns-then-own-others
returns-then-own-others c =
    sym (unequal (same_constraints c.args.args.now) (λ a b. same_path_with c.args.args.now a.left b.left && same_path_with c.args.args.now a.right b.right) (λ _ _. refl) (λ _ _. refl) (λ _ _ _ _. refl) c.args.own.now c.args.others.now c.if-own-others.true)
