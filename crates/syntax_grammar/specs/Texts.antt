-- That each text has an answer, and that each tree of a text is as texts have it.
use Rattle.std.specs.Prelude.{◌⊎◌, ℕ, List, ◌≤◌, length}
use Rattle.lang_base.specs.declared.place.Place.{Place}
use Rattle.lang_base.specs.declared.refusal.Refusal.{Refusal}
use Rattle.syntax_tokens.specs.declared.token.Token.{Token}
use Rattle.syntax_tokens.specs.Cutting.{Cuts, FaultsAt}
use Rattle.syntax_tree.specs.declared.class.Program.{Program}
use Rattle.syntax_grammar.specs.Program.{IsProgram, IsGrammarFault}
use Rattle.syntax_grammar.specs.Written.{IsWritten}

-- a text is cut into tokens, or it has a first fault
abbrev pub EachText : Type 0
EachText = (bytes : List ℕ) → ((tokens : List Token) × (end : Place) × Cuts bytes tokens end) ⊎ ((refusal : Refusal) × FaultsAt bytes refusal)

-- tokens of a text that ends at a place derive a program within the limits, or they are refused
abbrev pub EachReading : Type 0
EachReading = (bytes : List ℕ) (tokens : List Token) (end : Place) → ((program : Program) × IsProgram bytes tokens program) ⊎ ((refusal : Refusal) × IsGrammarFault bytes tokens end refusal)

-- a program that a text derives, of no more than 1048576 bytes, is as texts have it
abbrev pub TextsAreWritten : Type 0
TextsAreWritten =
    (text : List ℕ) (tokens : List Token) (end : Place) (program : Program) → length text ≤ 1048576 → Cuts text tokens end → IsProgram text tokens program → IsWritten program
