-- What calls and creations come to, by their sites.
use Rattle.std.proofs.Common.{◌≡◌, ◌∷◌, ℕ, pos, refl, false, suc, ◌<◌, ◌≤◌, List, map, length, reverse, take, drop, sym, ap, ◌∙◌, subst, Some, None}
use Rattle.std.specs.Prelude.{slice_get, option_map}
use Rattle.std.proofs.lemmas.Option.{slice_get-map}
use Rattle.lang_base.specs.declared.place.Place.{Place}
use Rattle.lang_base.specs.declared.region.Region.{Region}
use Rattle.lang_base.specs.declared.region.Rpl.{Rpl}
use Rattle.lang_base.specs.declared.value.FirstValue.{FirstValue}
use Rattle.lang_base.specs.declared.value.Value.{Value as Constant}
use Rattle.lang_base.specs.FirstValues.{constant_of}
use Rattle.lang_meaning.specs.Actions as meaning
use Rattle.lang_meaning.specs.Actions.{Do, New}
use Rattle.lang_meaning.specs.Counts.{name_made, number}
use Rattle.lang_meaning.specs.Regions.{around, concrete, is_long, some_long}
use Rattle.lang_meaning.specs.Values.{An_array}
use Rattle.lang_meaning.specs.Values.{Region as Regions}
use Rattle.code_instrs.specs.declared.code.Site.{Site}
use Rattle.code_instrs.specs.declared.code.Site.TheVariants as site
use Rattle.code_instrs.specs.Machine.{State, Waits, Stuck, one, next, unless_null, unless_long, calls, creates, called, created, held_first, array_of, makes_array}
use Rattle.code_instrs.specs.Plain.{PlainCode, plain_site, constructor_of}
use Rattle.exec_task.specs.declared.action.Action.TheVariants as action
use Rattle.exec_task.specs.declared.action.Own.TheVariants as own
use Rattle.exec_task.specs.declared.step.Step.{Step}
use Rattle.exec_task.specs.declared.step.Step.TheVariants as step
use Rattle.exec_task.specs.declared.task.Level.{Level}
use Rattle.exec_frames.specs.Names.{plain_value}
use Rattle.exec_task.specs.Names.{names_of, plain_region}
use Rattle.exec_task.specs.Steps.{Comes, Acts, Looks, Creates}
use Rattle.exec_task.specs.Tasks.{plain_frame, plain_level}
use Rattle.exec_task.proofs.FirstValues.{held_is}
use Rattle.exec_task.proofs.Taken.{taken_short, taken_all, taken_none, taken_one}

pub site_found : (sites : List Site) (i : ℕ) (x : Site) → slice_get sites i ≡ Some x → slice_get (map plain_site sites) i ≡ Some (plain_site x)
site_found sites i x e = slice_get-map plain_site sites i ∙ ap (option_map plain_site) e

module _ (C : PlainCode) (at : Place) (sites : List Site) (i : ℕ) (g : Level) where
  pub call_short : (c r n : ℕ) (regions : List Rpl) → slice_get sites i ≡ Some (site.Call c r n regions) → slice_get g.stack n ≡ None
      → (task : ℕ) (fs : List Level) → called (names_of task) C at (slice_get (map plain_site sites) i) (plain_level g) (map plain_level fs) ≡ Stuck
  call_short c r n regions e h task fs =
      ap (λ o. called (names_of task) C at o (plain_level g) (map plain_level fs)) (site_found sites i (site.Call c r n regions) e)
      ∙ taken_none n g.stack (λ vs v st. unless_null at v (λ m.
      calls (names_of task) C at c r (map (concrete (names_of task) (around (plain_frame g.frame))) regions) m (reverse vs) (plain_level g) st (map plain_level fs))) h

  pub call_looks : (c r n : ℕ) (regions : List Rpl) (v : Constant) (s : Step) → slice_get sites i ≡ Some (site.Call c r n regions) → slice_get g.stack n ≡ Some v
      → Looks at v regions g s → Acts C (λ names fs. called names C at (slice_get (map plain_site sites) i) (plain_level g) fs) g s
  call_looks c r n regions v s e h l task fs =
      let is = ap (λ o. called (names_of task) C at o (plain_level g) (map plain_level fs)) (site_found sites i (site.Call c r n regions) e)
      ∙ taken_one n g.stack v (λ vs v st. unless_null at v (λ m.
      calls (names_of task) C at c r (map (concrete (names_of task) (around (plain_frame g.frame))) regions) m (reverse vs) (plain_level g) st (map plain_level fs))) h in
      subst (λ o. Comes C o g fs s g fs) (sym is)
      (l task C c r (reverse (take n (map plain_value g.stack))) (map plain_value (drop (suc n) g.stack)) fs)

  pub create_short : (c n : ℕ) (regions : List Rpl) → slice_get sites i ≡ Some (site.New c n regions) → length (map plain_value g.stack) < n
      → (task : ℕ) (fs : List Level) → created (names_of task) C at (slice_get (map plain_site sites) i) (plain_level g) (map plain_level fs) ≡ Stuck
  create_short c n regions e h task fs =
      ap (λ o. created (names_of task) C at o (plain_level g) (map plain_level fs)) (site_found sites i (site.New c n regions) e)
      ∙ taken_short n (map plain_value g.stack) _ h

  pub create_makes : (c n : ℕ) (regions : List Rpl) (s : Step) → slice_get sites i ≡ Some (site.New c n regions) → n ≤ length (map plain_value g.stack)
      → Creates C at c regions g s → Acts C (λ names fs. created names C at (slice_get (map plain_site sites) i) (plain_level g) fs) g s
  create_makes c n regions s e h m task fs =
      let is = ap (λ o. created (names_of task) C at o (plain_level g) (map plain_level fs)) (site_found sites i (site.New c n regions) e)
      ∙ taken_all n (map plain_value g.stack) (λ vs st. unless_long (some_long (map (concrete (names_of task) (around (plain_frame g.frame))) regions)) at
      (creates (names_of task) C at c (map (concrete (names_of task) (around (plain_frame g.frame))) regions) (reverse vs) (constructor_of C c) (plain_level g) st
      (map plain_level fs))) h in
      subst (λ o. Comes C o g fs s g fs) (sym is) (m task (reverse (take n (map plain_value g.stack))) (drop n (map plain_value g.stack)) fs)

  pub array_made : (region : Rpl) (first : FirstValue) (v u : Constant) (rest : List Constant) (made : Region) (k : ℕ) → slice_get sites i ≡ Some (site.Array region first)
      → g.stack ≡ v ∷ rest → number (plain_value v) ≡ pos k → plain_region made ≡ concrete (names_of 0) (around (plain_frame g.frame)) region
      → u ≡ constant_of first → is_long (plain_region made) ≡ false
      → Acts C (λ names fs. makes_array names at (slice_get (map plain_site sites) i) (plain_level g) fs) g (step.Waits (action.Do (own.NewArray made k u)))
  array_made region first v u rest made k e stack len is from short task fs =
      let value : plain_value u ≡ held_first first = ap plain_value from ∙ held_is first in
      let there : Regions (ℕ × ℕ) = concrete (names_of task) (around (plain_frame g.frame)) region in
      let on : meaning.Answer ℕ (ℕ × ℕ) → State ℕ (ℕ × ℕ) = λ a. next (plain_level g) (name_made a ∷ map plain_value rest) (map plain_level fs) in (
        record {
          does = Do (New (An_array (plain_region made) k (plain_value u)) false);
          then_on = on;
          waits = ap (λ o. makes_array (names_of task) at o (plain_level g) (map plain_level fs)) (site_found sites i (site.Array region first) e)
              ∙ ap (λ st. one (map plain_value st) (λ w more. array_of at there first (number w) (plain_level g) more (map plain_level fs))) stack
              ∙ ap (λ z. array_of at there first z (plain_level g) (map plain_value rest) (map plain_level fs)) len
              ∙ ap (λ r. unless_long (is_long r) at (Waits (Do (New (An_array r k (held_first first)) false)) on)) (sym is)
              ∙ ap (λ b. unless_long b at (Waits (Do (New (An_array (plain_region made) k (held_first first)) false)) on)) short
              ∙ ap (λ y. Waits (Do (New (An_array (plain_region made) k y) false)) on) (sym value);
          says = refl;
        },
        refl,
        refl,
      )
