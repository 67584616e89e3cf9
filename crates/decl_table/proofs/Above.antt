-- The region arguments of a supertype, step by step.
use Rattle.std.proofs.Common.{◌≡◌, ◌≢◌, ℕ, suc, ◌+◌, ◌-◌, ◌<◌, ◌==◌, true, false, cond, List, map, Option, Some, option_map, inl, inr, ap, ◌∙◌, arith}
use Rattle.std.specs.Option.{option_and_then}
use Rattle.std.proofs.lemmas.Bool.Decides.{eqb_tells}
use Rattle.lang_base.specs.declared.region.Rpl.{Rpl}
use Rattle.lang_base.specs.Regions.{substituted}
use Rattle.lang_base.specs.Types.{PlainType, plain_type}
use Rattle.decl_table.specs.declared.table.Table.{Table}
use Rattle.decl_table.specs.Table.{of_class_type, parent_type_of, args_above}

-- what one step asks, where so many are left
above_step : (table : Table) (n i at : ℕ) (args : List Rpl) (owner : ℕ) → i < n → args_above table (n - i) at args owner ≡ cond (at == owner) (Some args) (option_and_then (of_class_type (λ above paths. args_above table (n - (i + 1)) above (map (substituted args) paths) owner)) (option_map plain_type (parent_type_of table at)))
above_step table n i at args owner below =
    let e : n - i ≡ suc (n - (i + 1)) = omega arith in
    ap (λ k. args_above table k at args owner) e

-- the class is the owner
pub above_here : (table : Table) (n i at : ℕ) (args : List Rpl) (owner : ℕ) → i < n → at ≡ owner → args_above table (n - i) at args owner ≡ Some args
above_here table n i at args owner below same =
    let is : (at == owner) ≡ true = elim (eqb_tells at owner) [ inl p ↦ p.0 | inr q ↦ absurd (q.1 same) ] in
    above_step table n i at args owner below
    ∙ ap (λ b. cond b (Some args) (option_and_then (of_class_type (λ above paths. args_above table (n - (i + 1)) above (map (substituted args) paths) owner)) (option_map plain_type (parent_type_of table at)))) is

-- it isn't, and what is above it says the rest
pub above_next : (table : Table) (n i at : ℕ) (args : List Rpl) (owner : ℕ) (parent : Option PlainType) → i < n → at ≢ owner → option_map plain_type (parent_type_of table at) ≡ parent → args_above table (n - i) at args owner ≡ option_and_then (of_class_type (λ above paths. args_above table (n - (i + 1)) above (map (substituted args) paths) owner)) parent
above_next table n i at args owner parent below differ up =
    let is : (at == owner) ≡ false = elim (eqb_tells at owner) [ inl p ↦ absurd (differ p.1) | inr q ↦ q.0 ] in
    let next : Option PlainType → Option (List Rpl) = λ o. option_and_then (of_class_type (λ above paths. args_above table (n - (i + 1)) above (map (substituted args) paths) owner)) o in
    above_step table n i at args owner below
    ∙ ap (λ b. cond b (Some args) (next (option_map plain_type (parent_type_of table at)))) is
    ∙ ap next up
