-- A text passes or has a fault.
use Rattle.std.proofs.Common.{◌≡◌, ◌⊎◌, ◌≤◌, ℕ, List, length, Result, Ok, Err, inl, inr, refl, ap}
use Rattle.lang_base.specs.declared.place.Place.{Place}
use Rattle.lang_base.specs.declared.refusal.Refusal.{Refusal}
use Rattle.syntax_tokens.specs.declared.token.Token.{Token}
use Rattle.syntax_tokens.specs.Cutting.{Cuts}
use Rattle.syntax_tree.specs.declared.class.Program.{Program}
use Rattle.lang_typed.specs.Plain.{PlainProgram}
use Rattle.body_check.specs.Methods.{after_ok}
use Rattle.tool_front.specs.Front.{first_place, of_grammar, of_program}
use Rattle.tool_front.specs.Judging.{Judged, IsAccepted, IsFaulty, judge}
use Rattle.sound_text.specs.Laws.{HasVerdict}
use Rattle.syntax_grammar.specs.Texts.{EachText, EachReading}

-- a program is accepted, or it has a fault
abbrev IsJudged : Program → Type 0
IsJudged program = ((typed : PlainProgram) × IsAccepted program typed) ⊎ ((refusal : Refusal) × IsFaulty program refusal)

each_judged : (program : Program) → IsJudged program
each_judged program = by (judge program) refl
  where
    by : (r : Result Judged Refusal) → judge program ≡ r → IsJudged program
    by (Ok made) is = inl (made.typed, ap (after_ok (λ (j : Judged). j.typed)) is)
    by (Err refusal) is = inr (refusal, is)

module _ (each_text : EachText) (each_reading : EachReading) where
  read : (text : List ℕ) (tokens : List Token) (end : Place) → Cuts text tokens end → HasVerdict text
  read text tokens end cut = elim (each_reading text tokens end) [
    | inr refused ↦ inr (refused.0, inr (record { tokens = tokens; end = end; cut = cut; fault = of_grammar refused.1 }))
    | inl derived ↦ elim (each_judged derived.0) [
      | inl accepted ↦ inl (
        first_place tokens end,
        accepted.0,
        record {
          tokens = tokens;
          end = end;
          cut = cut;
          first = refl;
          has_program = record { program = derived.0; derived = derived.1; accepted = accepted.1 };
        },
      )
      | inr faulty ↦ inr (faulty.0, inr (record { tokens = tokens; end = end; cut = cut; fault = of_program derived.0 derived.1 faulty.1 }))
    ]
  ]

  pub some_verdict : (text : List ℕ) → length text ≤ 1048576 → HasVerdict text
  some_verdict text short = elim (each_text text) [
    | inl cut ↦ read text cut.0 cut.1 cut.2
    | inr fault ↦ inr (fault.0, inl fault.1)
  ]
