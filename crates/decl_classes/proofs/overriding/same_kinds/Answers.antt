use Rattle.std.proofs.Common.{refl, sym}
use Rattle.lang_base.specs.Effects.{same_bool}
use Rattle.region_types.proofs.Equal.{unequal}
use Rattle.decl_classes.specs.Overriding.{same_kinds}
use Rattle.decl_classes.proofs.overriding.same_kinds.Goals as goal

pub returns-then-own-others : goal.returns-then-own-others
returns-then-own-others c =
    sym (unequal same_kinds (λ a b. same_bool a.atomic b.atomic) (λ _ _. refl) (λ _ _. refl) (λ _ _ _ _. refl) c.args.own.now c.args.others.now c.if-own-others.true)
