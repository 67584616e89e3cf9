-- The steps of putting outputs together and of looking for the first trap.
use Rattle.std.proofs.Common.{◌≡◌, ℕ, ◌+◌, ◌<◌, List, ◌∷◌, ◌++◌, length, drop, get_or, refl, sym, ap, ◌∙◌, Option, Some, None, append_assoc, true, false, is_some}
use Rattle.std.proofs.lemmas.List.{drop_more}
use Rattle.lang_base.specs.declared.place.Place.{Place}
use Rattle.lang_base.specs.declared.value.Trap.{Trap}
use Rattle.exec_tasks.specs.Join.{joined_out, unless_trapped, or_else}
use Rattle.exec_tasks.specs.declared.end.TaskEnd.{TaskEnd}

without_trap : (t : Option (Trap × Place)) (more : List ℕ) → is_some t ≡ false → unless_trapped t more ≡ more
without_trap None more is = refl
without_trap (Some t) more is = cc

-- the output from a branch on begins with that branch
split_out : (out all : List ℕ) (ends : List (Option TaskEnd)) (i : ℕ) (x : Option TaskEnd) → i < length ends → x ≡ get_or ends i x
    → out ++ joined_out (drop i ends) ≡ all → out ++ joined_out (x ∷ drop (i + 1) ends) ≡ all
split_out out all ends i x lt at inv =
    ap (λ e. out ++ joined_out (e ∷ drop (i + 1) ends)) at ∙ ap (λ es. out ++ joined_out es) (sym (drop_more ends i x lt)) ∙ inv

step_out : (out all : List ℕ) (ends : List (Option TaskEnd)) (i : ℕ) (x : Option TaskEnd) (e : TaskEnd) → i < length ends → x ≡ get_or ends i x → x ≡ Some e
    → out ++ joined_out (drop i ends) ≡ all → (out ++ e.out) ++ unless_trapped e.trap (joined_out (drop (i + 1) ends)) ≡ all
step_out out all ends i x e lt at is inv =
    append_assoc out e.out _ ∙ ap (λ o. out ++ joined_out (o ∷ drop (i + 1) ends)) (sym is) ∙ split_out out all ends i x lt at inv

-- a branch that ended without a trap
pub out_more : (out all : List ℕ) (ends : List (Option TaskEnd)) (i : ℕ) (x : Option TaskEnd) (e : TaskEnd) → i < length ends → x ≡ get_or ends i x → x ≡ Some e
    → is_some e.trap ≡ false → out ++ joined_out (drop i ends) ≡ all → (out ++ e.out) ++ joined_out (drop (i + 1) ends) ≡ all
out_more out all ends i x e lt at is none inv =
    ap (λ o. (out ++ e.out) ++ o) (sym (without_trap e.trap _ none)) ∙ step_out out all ends i x e lt at is inv

here : (t other : Option (Trap × Place)) → is_some t ≡ true → t ≡ or_else t other
here None other is = cc
here (Some t) other is = refl

elsewhere : (t other : Option (Trap × Place)) → is_some t ≡ false → other ≡ or_else t other
elsewhere None other is = refl
elsewhere (Some t) other is = cc
