-- How rules go on from one step to the next: a step that refuses is the answer of the whole.
use Rattle.std.specs.Prelude.{Option, Result, Ok, Err}
use Rattle.std.specs.Option.{option_map_or}
use Rattle.lang_base.specs.declared.refusal.Refusal.{Refusal}
use Rattle.lang_typed.specs.Plain.{TypedExpr}
use Rattle.body_exprs.specs.declared.found.Found.{Found}
use Rattle.body_exprs.specs.Answer.{Answer, gives, refused}

-- goes on with what an expression gives and with what is found then; where it is refused, so is the whole
abbrev pub after : {A : Type 0} → (Refusal → A) → Answer → (Option TypedExpr → Found → A) → A
after refuse (gives t found) next = next t found
after refuse (refused refusal) next = refuse refusal

infixl 10 ◌>>=◌
abbrev pub ◌>>=◌ : Answer → (Option TypedExpr × Found → Answer) → Answer
first >>= next = after refused first (λ t found. next (t, found))

-- goes on unless a fault is reported
infixl 10 ◌>>◌
abbrev pub ◌>>◌ : Option Refusal → Answer → Answer
reported_one >> rest = option_map_or refused reported_one rest

-- goes on with what there is, or else otherwise
abbrev pub given : {X A : Type 0} → Option X → (X → A) → A → A
given there next otherwise = option_map_or next there otherwise

-- goes on with what was looked up
abbrev pub looked_up : {A : Type 0} → Result A Refusal → (A → Answer) → Answer
looked_up (Ok seen) next = next seen
looked_up (Err refusal) next = refused refusal
