use Rattle.std.proofs.Common.{◌≡◌, ◌∙◌, [], ap, sym, subst}
use Rattle.std.specs.List.{IsDistinct}
use Rattle.lang_base.specs.Effects.{gathered}
use Rattle.region_effects.specs.Listed.{listed, effect_eq}
use Rattle.region_effects.proofs.Sets.{gathered-distinct}
use Rattle.region_effects.proofs.set.EffectSetPlain.copy.Goals as goal
use Rattle.region_effects.proofs.set.EffectSetPlain.copy.Goals.{in-Few+in_ok-copy-in-Few, in-Many+in_ok-hashed-in-Many}

-- either way the copy has the same effects
copied : (c : goal.Joined-self) → listed c.match-self.effects ≡ listed c.self.inside.effects
copied c =
    elim c.match-self.branch [
      | in-Few+in_ok-copy-in-Few w ↦ ap listed w.effects-is ∙ w.in_ok-copy-in-Few.ensures ∙ ap listed (sym w.in-Few.is)
      | in-Many+in_ok-hashed-in-Many w ↦
          let there = w.as_slice.ensures in
          ap listed w.effects-is ∙ w.in_ok-hashed-in-Many.ensures ∙ ap (gathered []) there.keys ∙ gathered-distinct w.in-Many.effects.keys there.unique
          ∙ ap listed (sym w.in-Many.is)
    ]

pub invariant_of-result : goal.invariant_of-result
invariant_of-result c = subst (IsDistinct effect_eq) (sym (copied c)) c.self.invariant

pub returns : goal.returns
returns c = copied c ∙ c.self.view_is
