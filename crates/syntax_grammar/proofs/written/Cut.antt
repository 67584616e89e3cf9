-- A text is cut, piece by piece, to its end or to its first fault.
use Rattle.std.proofs.Common.{◌⊎◌, ◌≤◌, ◌<◌, ◌+◌, ℕ, zero, suc, List, [], ◌∷◌, ◌++◌, length, take, drop, Result, Ok, Err, inl, inr, refl, arith}
use Rattle.std.specs.List.{fold}
use Rattle.std.proofs.lemmas.Bool.{cases_lt}
use Rattle.std.proofs.lemmas.List.{length-drop}
use Rattle.lang_base.specs.declared.place.Place.{Place}
use Rattle.lang_base.specs.declared.refusal.Refusal.{Refusal}
use Rattle.syntax_tokens.specs.declared.piece.Fault.{Fault}
use Rattle.syntax_tokens.specs.declared.piece.Found.{Found}
use Rattle.syntax_tokens.specs.declared.token.Token.{Token}
use Rattle.syntax_tokens.specs.Cutting.{Cuts, FaultsAt, token_at}
use Rattle.syntax_tokens.specs.Place.{next_place, first_place}
use Rattle.syntax_tokens.specs.Reading.{Reads}
use Rattle.syntax_tokens.proofs.Steps.{ReadsTo, read-found, cut-all, fault-following}
use Rattle.syntax_grammar.specs.Texts.{EachText}
use Rattle.syntax_grammar.proofs.written.Parts.{Answers}
use Rattle.syntax_grammar.proofs.written.Fronts.{front}

abbrev HasCut : List ℕ → Type 0
HasCut bytes = ((tokens : List Token) × (end : Place) × Cuts bytes tokens end) ⊎ ((refusal : Refusal) × FaultsAt bytes refusal)

front_of : (bytes : List ℕ) → 0 < length bytes → Answers bytes
front_of [] some = absurd (omega arith)
front_of (b ∷ bs) some = front b bs

-- so many bytes are left at most
cut_on : (n : ℕ) (bytes : List ℕ) (at : ℕ) (tokens : List Token) (place : Place) → at ≤ length bytes → length bytes ≤ at + n → ReadsTo bytes at tokens place → HasCut bytes
cut_on zero bytes at tokens place within enough read = inl (tokens, place, cut-all bytes at tokens place (omega arith) read)
cut_on (suc n) bytes at tokens place within enough read = elim (cases_lt at (length bytes)) [
  | inr all ↦ inl (tokens, place, cut-all bytes at tokens place all read)
  | inl more ↦
      let next = front_of (drop at bytes) (omega (arith, length-drop at bytes)) in
      by next.answer next.reads (λ further others following. cut_on n bytes further others following)
]
  where
    by : (answer : Result Found Fault) → Reads (drop at bytes) answer
        → ((further : ℕ) (others : List Token) (following : Place) → further ≤ length bytes → length bytes ≤ further + n → ReadsTo bytes further others following → HasCut bytes) → HasCut bytes
    by (Err fault) is on =
        let refusal : Refusal = record { kind = fault.kind; place = fold next_place place (take fault.at (drop at bytes)) } in
        inr (refusal, fault-following bytes (drop at bytes) at tokens place fault refusal refl read is refl refl)
    by (Ok found) is on =
        let next = fold next_place place (take found.len (drop at bytes)) in
        on (at + found.len) (tokens ++ token_at at found.len place found.token) next
        (omega (arith, is.within, length-drop at bytes)) (omega (arith, is.some))
        (read-found bytes (drop at bytes) at tokens place next found within refl read is refl)

pub each_text : EachText
each_text bytes =
    cut_on (length bytes) bytes 0 [] first_place (omega arith) (omega arith)
    (record { pieces = []; front = refl; each = tt; reported = refl; placed = refl })
