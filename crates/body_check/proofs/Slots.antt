-- The slots that the join of a `cobegin` copies back, name by name.
use Rattle.std.proofs.Common.{◌≡◌, ◌∙◌, ℕ, suc, ◌+◌, ◌<◌, List, [], ◌∷◌, ◌++◌, append_assoc, append-nil, map, length, get_or, drop, drop-cons, add-one, Option, Some, None, refl, sym, ap}
use Rattle.std.specs.Option.{option_map_or}
use Rattle.lang_typed.specs.declared.ids.Slot.{Slot}
use Rattle.body_exprs.specs.declared.env.Env.{Env}
use Rattle.body_exprs.specs.declared.env.LocalRow.{LocalRow}
use Rattle.body_exprs.specs.Env.{local_of}
use Rattle.body_check.specs.Checking.{slots_of}
use Rattle.body_check.proofs.Orders.{map_pushed}

abbrev numbers : List Slot → List ℕ
numbers slots = map (λ slot. slot.number) slots

one_slot : (o : Option LocalRow) (rest : List ℕ) →
    option_map_or (λ row. row.slot ∷ rest) o rest ≡ option_map_or (λ row. row.slot ∷ []) o [] ++ rest
one_slot None rest = refl
one_slot (Some row) rest = refl

-- a name whose local is in scope, and one without
pub slot_added : (env : Env) (name : ℕ) (row : LocalRow) (before after : List Slot) → local_of env name ≡ Some row →
    after ≡ before ++ (record { number = row.slot }) ∷ [] → numbers after ≡ numbers before ++ slots_of env (name ∷ [])
slot_added env name row before after is more =
    map_pushed (λ slot. slot.number) before after (record { number = row.slot }) more
    ∙ ap (λ (z : Option LocalRow). numbers before ++ option_map_or (λ r. r.slot ∷ []) z []) (sym is)

pub slot_missing : (env : Env) (name : ℕ) (slots : List Slot) → local_of env name ≡ None → numbers slots ≡ numbers slots ++ slots_of env (name ∷ [])
slot_missing env name slots is =
    sym (append-nil (numbers slots)) ∙ ap (λ (z : Option LocalRow). numbers slots ++ option_map_or (λ r. r.slot ∷ []) z []) (sym is)

pub slots_step : (env : Env) (names : List ℕ) (i name : ℕ) (before after : List Slot) → i < length names → name ≡ get_or names i 0 →
    numbers after ≡ numbers before ++ slots_of env (name ∷ []) →
    numbers before ++ slots_of env (drop i names) ≡ slots_of env names → numbers after ++ slots_of env (drop (i + 1) names) ≡ slots_of env names
slots_step env names i name before after below is more so_far =
    let next : drop i names ≡ name ∷ drop (i + 1) names =
    drop-cons names i 0 below ∙ ap (λ x. x ∷ drop (suc i) names) (sym is) ∙ ap (λ k. name ∷ drop k names) (sym (add-one i)) in
    ap (λ (z : List ℕ). z ++ slots_of env (drop (i + 1) names)) more
    ∙ append_assoc (numbers before) (slots_of env (name ∷ [])) (slots_of env (drop (i + 1) names))
    ∙ ap (λ (z : List ℕ). numbers before ++ z) (sym (one_slot (local_of env name) (slots_of env (drop (i + 1) names))))
    ∙ ap (λ (z : List ℕ). numbers before ++ slots_of env z) (sym next) ∙ so_far

pub slots_begin : (env : Env) (names : List ℕ) (slots : List Slot) → slots ≡ [] → numbers slots ++ slots_of env names ≡ slots_of env names
slots_begin env names slots none = ap (λ (z : List Slot). numbers z ++ slots_of env names) none

pub slots_end : (env : Env) (names : List ℕ) (i : ℕ) (slots : List Slot) → drop i names ≡ [] →
    numbers slots ++ slots_of env (drop i names) ≡ slots_of env names → numbers slots ≡ slots_of env names
slots_end env names i slots none so_far =
    sym (append-nil (numbers slots)) ∙ ap (λ (z : List ℕ). numbers slots ++ slots_of env z) (sym none) ∙ so_far
