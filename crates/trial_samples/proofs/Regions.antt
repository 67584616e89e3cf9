-- Of two local regions of the root the one that it made before its block isn't made inside.
use Rattle.std.proofs.Common.{◌≡◌, ◌∙◌, ◌≤◌, inl, inr, ℕ, [], ◌∷◌, ◌++◌, refl, sym, subst, arith}
use Rattle.lang_base.specs.declared.elems.Elem.TheVariants.{Local}
use Rattle.lang_meaning.specs.Asking.{ask, meaning, most_ticks}
use Rattle.runs_sound.specs.Counting.{regions_made}
use Rattle.runs_sound.specs.Settings.{local_code}
use Rattle.runs_sound.specs.Soundness.{InBlockRegion}
use Rattle.runs_sound.proofs.scopes.Codes.{code_one}
use Rattle.runs_theory.specs.Actions.{Do, Enter, Next, Rest, Went}
use Rattle.runs_theory.specs.Objects.{LocalRegion, Made, Path}
use Rattle.runs_program.specs.Steps.{named_by}
use Rattle.trial_samples.specs.Regions.{OnlyLaterAreInside, entered, made_by_root, makes_two, region_of_root, root}

one_made : made_by_root (Went ∷ []) ≡ 1
unfolding regions_made meaning most_ticks
one_made = refl

rests : ask (named_by []) makes_two root [] ≡ Next 1 (Do Rest)
unfolding ask meaning most_ticks
rests = refl

enters : ask (named_by []) makes_two root (Went ∷ []) ≡ Next 0 (Do (Enter []))
unfolding ask meaning most_ticks
enters = refl

not_below : (below : Path) (u : ℕ × ℕ) → [] ≡ below ++ u ∷ [] → ⊥
not_below [] u e = cc
not_below (v ∷ below) u e = cc

first_is_before : InBlockRegion made_by_root entered [] (region_of_root 0) → ⊥
first_is_before o = elim o.inside [ inl k ↦ late (subst (λ n. n ≤ o.count) one_made k.1) | inr k ↦ not_below k.0 k.1 (maker_is ∙ k.2) ]
  where
    same : local_code (Made [] 0) ≡ local_code (Made o.maker o.count)
    same = let e : Local (local_code (Made [] 0)).0 (local_code (Made [] 0)).1 ∷ [] ≡ Local (local_code (Made o.maker o.count)).0 (local_code (Made o.maker o.count)).1 ∷ o.rest = o.is in
        let a : (local_code (Made [] 0)).0 ≡ (local_code (Made o.maker o.count)).0 = cc in
        let b : (local_code (Made [] 0)).1 ≡ (local_code (Made o.maker o.count)).1 = cc in λ i. (a i, b i)

    region_is : ◌≡◌ {A = LocalRegion} (Made [] 0) (Made o.maker o.count)
    region_is = code_one (Made [] 0) (Made o.maker o.count) same

    maker_is : [] ≡ o.maker
    maker_is = let e = region_is in cc

    late : 1 ≤ o.count → ⊥
    late l = let e = region_is in let c : 0 ≡ o.count = cc in omega (arith, l, c)

second_is_inside : InBlockRegion made_by_root entered [] (region_of_root 1)
second_is_inside = record { maker = []; count = 1; inside = inl (refl, subst (λ n. n ≤ 1) (sym one_made) (omega arith)); rest = []; is = refl }

pub only_later_are_inside : OnlyLaterAreInside
only_later_are_inside = (rests, enters, first_is_before, second_is_inside)
