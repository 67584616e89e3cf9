-- The lines of a trace, over plain variables.
use Rattle.std.proofs.Common.{◌≡◌, ℕ, ℤ, ◌<◌, ◌≤◌, ◌^◌, List, [], ◌∷◌, ◌++◌, Option, Some, None, MatchOption, codes, FitsSigned, sym, ap, ◌∙◌, arith, append_assoc}
use Rattle.std.specs.Int.{w32}
use Rattle.std.specs.Fmt.{decimal, signed_decimal}
use Rattle.std.proofs.lemmas.List.{append_cancel_left}
use Rattle.lang_base.specs.declared.outcome.Limits.{Limits}
use Rattle.tool_trace.specs.Pieces.{IsCut}
use Rattle.tool_trace.specs.Text.{line, limits_text, settings_text, run_text}
use Rattle.tool_trace.specs.declared.runs.Run.{Run}
use Rattle.tool_trace.specs.Reading.{AreLimits, IsSettings, IsEvents, IsRunLine}
use Rattle.tool_trace.proofs.Cutting.{cut-unique, decimal-without, signed-without}

limits-shape : (L : Limits) → limits_text L ≡ codes "steps " ++ (decimal L.steps ++ 32 ∷ (codes "cells " ++ decimal L.cells))
limits-shape L = simp append_assoc

settings-shape : (arg : ℤ) (L : Limits) → settings_text arg L ≡ codes "arg " ++ (signed_decimal arg ++ 32 ∷ limits_text L)
settings-shape arg L =
    append_assoc (codes "arg " ++ signed_decimal arg) (codes " ") (limits_text L) ∙ append_assoc (codes "arg ") (signed_decimal arg) (codes " " ++ limits_text L)

-- the second part of the line of the settings
module _ (text x : List ℕ) (L : Limits) (allowed : AreLimits L) (is : text ≡ limits_text L) where
  pub limits-begins : text ≡ codes "steps " ++ (decimal L.steps ++ 32 ∷ (codes "cells " ++ decimal L.cells))
  limits-begins = is ∙ limits-shape L

  pub limits-cut : text ≡ codes "steps " ++ x → IsCut 32 x (decimal L.steps) (codes "cells " ++ decimal L.cells)
  limits-cut begins =
      let most : L.steps ≤ 20000000 = allowed.steps_most in record {
        is = append_cancel_left (codes "steps ") x _ (sym begins ∙ limits-begins);
        first = decimal-without 32 L.steps (omega arith) (omega (arith, most));
      }

  pub limits-pieces : text ≡ codes "steps " ++ x → (s r : List ℕ) → IsCut 32 x s r → (s ≡ decimal L.steps) × (r ≡ codes "cells " ++ decimal L.cells)
  limits-pieces begins s r cut = cut-unique 32 x s r _ _ cut (limits-cut begins)

  pub limits-cells : text ≡ codes "steps " ++ x → (s r y : List ℕ) → IsCut 32 x s r → r ≡ codes "cells " ++ y → y ≡ decimal L.cells
  limits-cells begins s r y cut cells = append_cancel_left (codes "cells ") y _ (sym cells ∙ (limits-pieces begins s r cut).1)

pub limits-are : (text x s r y : List ℕ) (L : Limits) → text ≡ codes "steps " ++ x → IsCut 32 x s r → r ≡ codes "cells " ++ y → s ≡ decimal L.steps → y ≡ decimal L.cells
    → text ≡ limits_text L
limits-are text x s r y L begins cut following steps cells = begins ∙ rw (cut.is, following, steps, cells) (sym (limits-shape L))

-- the line of the settings
module _ (text x : List ℕ) (arg : ℤ) (L : Limits) (reported : IsSettings text arg L) where
  pub settings-begins : text ≡ codes "arg " ++ (signed_decimal arg ++ 32 ∷ limits_text L)
  settings-begins = reported.is ∙ settings-shape arg L

  pub settings-cut : text ≡ codes "arg " ++ x → IsCut 32 x (signed_decimal arg) (limits_text L)
  settings-cut begins = record {
    is = append_cancel_left (codes "arg ") x _ (sym begins ∙ settings-begins);
    first = signed-without 32 arg (omega arith) reported.arg_allowed;
  }

  pub settings-pieces : text ≡ codes "arg " ++ x → (s r : List ℕ) → IsCut 32 x s r → (s ≡ signed_decimal arg) × (r ≡ limits_text L)
  settings-pieces begins s r cut = cut-unique 32 x s r _ _ cut (settings-cut begins)

pub settings-are : (text x s r : List ℕ) (arg : ℤ) (L : Limits) → text ≡ codes "arg " ++ x → IsCut 32 x s r → s ≡ signed_decimal arg → FitsSigned w32 arg
    → AreLimits L → r ≡ limits_text L → IsSettings text arg L
settings-are text x s r arg L begins cut number fits allowed limits = record {
  limits_allowed = allowed;
  arg_allowed = fits;
  is = begins ∙ rw (cut.is, number, limits) (sym (settings-shape arg L));
}

-- the line of the number of events
pub events-reported : (text x : List ℕ) (most : ℕ) (r : Option ℕ) → text ≡ codes "events " ++ x
    → MatchOption r ((n : ℕ) → 0 ≤ n → n ≤ most → x ≡ decimal n → ⊥) (λ n. (0 ≤ n) × (n ≤ most) × (x ≡ decimal n))
    → MatchOption r ((events : ℕ) → IsEvents text most events → ⊥) (IsEvents text most)
events-reported text x most None begins h = λ n e. h n (omega arith) e.few (append_cancel_left (codes "events ") x _ (sym begins ∙ e.is))
events-reported text x most (Some n) begins h = record { few = h.1; is = begins ∙ ap (λ t. codes "events " ++ t) h.2 }

-- a line of a run
pub run-cut : (text : List ℕ) (task : ℕ) (many : List ℕ) → IsRunLine text task many → IsCut 32 text (decimal task) many
run-cut text task many is_line =
    let small : task < 2 ^ 32 = is_line.task_allowed in record {
      is = is_line.is ∙ append_assoc (decimal task) (32 ∷ []) many;
      first = decimal-without 32 task (omega arith) (omega (arith, small));
    }

pub run-pieces : (text s r : List ℕ) (task : ℕ) (many : List ℕ) → IsCut 32 text s r → IsRunLine text task many → (s ≡ decimal task) × (r ≡ many)
run-pieces text s r task many cut is_line = cut-unique 32 text s r (decimal task) many cut (run-cut text task many is_line)

-- the pieces of a line as they are written
settings-flat : (a s c : List ℕ) → (codes "arg " ++ (a ++ 32 ∷ (codes "steps " ++ (s ++ 32 ∷ (codes "cells " ++ c))))) ++ 10 ∷ []
    ≡ codes "arg " ++ (a ++ (codes " steps " ++ (s ++ (codes " cells " ++ (c ++ codes "\n")))))
settings-flat a s c = simp append_assoc

pub settings-written : (z arg : ℤ) (L : Limits) → z ≡ arg
    → codes "arg " ++ (signed_decimal z ++ (codes " steps " ++ (decimal L.steps ++ (codes " cells " ++ (decimal L.cells ++ codes "\n"))))) ≡ line (settings_text arg L)
settings-written z arg L same =
    rw same (sym (ap line (settings-shape arg L ∙ ap (λ t. codes "arg " ++ (signed_decimal arg ++ 32 ∷ t)) (limits-shape L))
    ∙ settings-flat (signed_decimal arg) (decimal L.steps) (decimal L.cells)))

pub run-written : (run : Run) → decimal run.task ++ (codes " " ++ (decimal run.many ++ codes "\n")) ≡ line (run_text run)
run-written run = simp append_assoc
