-- Going up from a class, step by step.
use Rattle.std.proofs.Common.{◌≡◌, ◌≢◌, inl, inr, ℕ, suc, ◌+◌, ◌-◌, ◌<◌, ◌==◌, false, ◌||◌, [], ◌∷◌, Option, None, Some, ap, ◌∙◌, arith}
use Rattle.std.proofs.lemmas.Bool.Decides.{eqb_tells}
use Rattle.std.specs.List.{list_any}
use Rattle.std.specs.Option.{option_map_or}
use Rattle.decl_headers.specs.Headers.{chain, nearest}

-- the class where so many steps are left begins the chain, and its superclass goes on
pub chain_step : (parent : ℕ → Option ℕ) (n i class : ℕ) → i < n → chain parent (n - i) class ≡ class ∷ option_map_or (λ above. chain parent (n - (i + 1)) above) (parent class) []
chain_step parent n i class below =
    let e : n - i ≡ suc (n - (i + 1)) = omega arith in
    ap (λ k. chain parent k class) e

-- the class has nothing, and its superclass goes on
pub nearest_up : (parent found : ℕ → Option ℕ) (n i class above : ℕ) → i < n → found class ≡ None → parent class ≡ Some above → nearest found (chain parent (n - i) class) ≡ nearest found (chain parent (n - (i + 1)) above)
nearest_up parent found n i class above below none up =
    let more = n - (i + 1) in
    ap (nearest found) (chain_step parent n i class below)
    ∙ ap (λ o. option_map_or (λ number. Some number) o (nearest found (option_map_or (λ a. chain parent more a) (parent class) []))) none
    ∙ ap (λ o. nearest found (option_map_or (λ a. chain parent more a) o [])) up

-- the class isn't the other one, and its superclass goes on
pub below_up : (parent : ℕ → Option ℕ) (other n i class above : ℕ) → i < n → class ≢ other → parent class ≡ Some above → list_any (λ a. a == other) (chain parent (n - i) class) ≡ list_any (λ a. a == other) (chain parent (n - (i + 1)) above)
below_up parent other n i class above below differ up =
    let more = n - (i + 1) in
    let apart : (class == other) ≡ false = elim (eqb_tells class other) [ inl p ↦ absurd (differ p.1) | inr q ↦ q.0 ] in
    ap (list_any (λ a. a == other)) (chain_step parent n i class below)
    ∙ ap (λ b. b || list_any (λ a. a == other) (option_map_or (λ a. chain parent more a) (parent class) [])) apart
    ∙ ap (λ o. list_any (λ a. a == other) (option_map_or (λ a. chain parent more a) o [])) up
