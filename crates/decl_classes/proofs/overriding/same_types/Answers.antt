use Rattle.std.proofs.Common.{refl, sym}
use Rattle.region_types.proofs.Equal.{unequal}
use Rattle.decl_classes.specs.Overriding.{same_with, same_types}
use Rattle.decl_classes.proofs.overriding.same_types.Goals as goal

pub returns-then-own-others : goal.returns-then-own-others
returns-then-own-others c =
    sym (unequal (same_types c.args.args.now) (same_with c.args.args.now) (λ _ _. refl) (λ _ _. refl) (λ _ _ _ _. refl) c.args.own.now c.args.others.now c.if-own-others.true)
