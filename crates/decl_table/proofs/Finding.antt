-- Rows that are looked at one after the other, where the last that is meant is found.
use Rattle.std.proofs.Common.{◌≡◌, ◌∙◌, ℕ, zero, suc, ◌+◌, ◌<◌, ◌==◌, Bool, cond, List, [], ◌∷◌, length, slice_set, Option, Some, refl, ap, sym, ⊎_elim, arith}
use Rattle.std.proofs.lemmas.Bool.{eq-eqb, ne_eqb}
use Rattle.std.proofs.lemmas.Bool.Decides.{eqb_tells}
use Rattle.decl_table.specs.Places.{last_from}
use Rattle.decl_table.specs.Places.{entry_at}

-- one row more
pub last_step : {A : Type 0} (is_meant : A → Bool) (number : ℕ → A → ℕ) (at : ℕ) (old new whole : Option ℕ) (row : A) (left rest : List A)
    → left ≡ row ∷ rest → new ≡ cond (is_meant row) (Some (number at row)) old → last_from is_meant number at old left ≡ whole → last_from is_meant number (at + 1) new rest ≡ whole
last_step is_meant number at old new whole row left rest is step before =
    ap (λ found. last_from is_meant number (at + 1) found rest) step ∙ ap (last_from is_meant number at old) (sym is) ∙ before

-- another number is meant
other_entry : (a b : ℕ) (found : Option ℕ) (number : ℕ) → (a ≡ b → ⊥) → found ≡ cond (a == b) (Some number) found
other_entry a b found number apart = ap (λ same. cond same (Some number) found) (sym (ne_eqb a b apart))

further : (a b : ℕ) → (a == b) ≡ (suc a == suc b)
further a b =
    ⊎_elim
    (λ same. same.0 ∙ sym (eq-eqb (suc a) (suc b) (ap suc same.1)))
    (λ apart. apart.0 ∙ sym (ne_eqb (suc a) (suc b) (λ e. apart.1 (omega (arith, e)))))
    (eqb_tells a b)

-- an entry is another one
pub entered_at : (entries : List (Option ℕ)) (at number other : ℕ) → at < length entries → entry_at (slice_set entries at (Some number)) other ≡ cond (at == other) (Some number) (entry_at entries other)
entered_at [] at number other within = absurd (omega arith)
entered_at (entry ∷ entries) zero number zero within = refl
entered_at (entry ∷ entries) zero number (suc other) within = other_entry 0 (suc other) (entry_at entries other) number (λ e. omega arith)
entered_at (entry ∷ entries) (suc at) number zero within = other_entry (suc at) 0 entry number (λ e. omega arith)
entered_at (entry ∷ entries) (suc at) number (suc other) within =
    entered_at entries at number other (omega arith) ∙ ap (λ same. cond same (Some number) (entry_at entries other)) (further at other)

pub ruleset entering = (entered_at)
