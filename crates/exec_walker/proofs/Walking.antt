-- A walk goes on by a step.
use Rattle.std.proofs.Common.{◌≡◌, ◌∙◌, ℕ, zero, suc, map, refl, sym, ap, subst, Option, Result}
use Rattle.lang_typed.specs.Plain.{PlainProgram}
use Rattle.lang_meaning.specs.Elision.{Store}
use Rattle.exec_walker.specs.Walk.{State, At, Off, step, walk}
use Rattle.exec_walker.specs.declared.halt.Halt.{Halt}
use Rattle.exec_walker.specs.Stores.{Holds}
use Rattle.exec_walker.specs.declared.walker.Over.{Over}
use Rattle.exec_walker.specs.declared.walker.Walker.{Walker}
use Rattle.exec_walker.specs.States.{ComesTo, StandsAt, plain_level, plain_waiting}
use Rattle.lang_base.specs.declared.outcome.Limits.{Limits}

pub stands_is : (L : Limits) (k : Walker) (s : State) → StandsAt L k s
    → (w : Store) × (s ≡ At (plain_level k.level) (map plain_waiting k.waiting) w) × Holds L k.store w
stands_is L k (At g ws w) x = (w, ap (λ h. At h ws w) (sym x.0) ∙ ap (λ us. At (plain_level k.level) us w) (sym x.1), x.2)
stands_is L k (Off o) x = absurd x

module _ (P : PlainProgram) where
  walk_more : (n : ℕ) (s : State) → walk P (suc n) s ≡ step P (walk P n s)
  walk_more zero s = refl
  walk_more (suc n) s = walk_more n (step P s)

  pub walks_more : (L : Limits) (r : Result (Option Over) Halt) (k j : Walker) (n : ℕ) (s : State) → StandsAt L k (walk P n s)
      → ((v : Store) → Holds L k.store v → ComesTo L r j (step P (At (plain_level k.level) (map plain_waiting k.waiting) v))) → ComesTo L r j (walk P (suc n) s)
  walks_more L r k j n s h f =
      let at = stands_is L k (walk P n s) h in subst (λ x. ComesTo L r j x) (sym (walk_more n s ∙ ap (step P) at.1)) (f at.0 at.2)
