-- A slot that stands among those of a branch is copied back.
use Rattle.std.proofs.Common.{◌≡◌, ◌==◌, ◌||◌, ◌<◌, ℕ, zero, suc, List, [], ◌∷◌, length, get_or, map, Option, Some, None, Bool, true, false, refl, sym, ap, ◌∙◌, arith}
use Rattle.std.specs.Prelude.{slice_get}
use Rattle.std.specs.List.{list_any}
use Rattle.std.proofs.lemmas.List.Folds.{list_any-append}
use Rattle.code_instrs.specs.Machine.{all_copied}
use Rattle.code_instrs.specs.declared.code.BranchCopies.{BranchCopies}

or_true : (b : Bool) → (b || true) ≡ true
or_true true = refl
or_true false = refl

abbrev is_this : ℕ → Option ℕ → Bool
is_this slot None = true
is_this slot (Some y) = slot == y

among : (xs : List ℕ) (i slot y : ℕ) → slice_get xs i ≡ Some y → (slot == y) ≡ true → list_any (λ z. slot == z) xs ≡ true
among [] i slot y at is = absurd (cc)
among (x ∷ xs) zero slot y at is = ap (λ b. b || list_any (λ z. slot == z) xs) (ap (is_this slot) at ∙ is)
among (x ∷ xs) (suc i) slot y at is = ap (λ b. (slot == x) || b) (among xs i slot y at is) ∙ or_true (slot == x)

pub copied_there : (cs : List BranchCopies) (b i slot y : ℕ) (c : BranchCopies) → b < length cs → c ≡ get_or cs b c → slice_get c.slots i ≡ Some y → (slot == y) ≡ true
    → list_any (λ z. slot == z) (all_copied (map (λ d. d.slots) cs)) ≡ true
copied_there [] b i slot y c lt at there is = absurd (omega arith)
copied_there (d ∷ cs) zero i slot y c lt at there is =
    list_any-append (λ z. slot == z) d.slots (all_copied (map (λ e. e.slots) cs))
    ∙ ap (λ b. b || list_any (λ z. slot == z) (all_copied (map (λ e. e.slots) cs))) (among d.slots i slot y (ap (λ e. slice_get e.slots i) (sym at) ∙ there) is)
copied_there (d ∷ cs) (suc b) i slot y c lt at there is =
    list_any-append (λ z. slot == z) d.slots (all_copied (map (λ e. e.slots) cs))
    ∙ ap (λ t. list_any (λ z. slot == z) d.slots || t) (copied_there cs b i slot y c (omega arith) at there is) ∙ or_true (list_any (λ z. slot == z) d.slots)
