-- What becomes of a text: its tokens derive a program that is accepted as a typed program, or it has a first fault.
use Rattle.std.specs.Prelude.{ℕ, ◌≡◌, ◌⊎◌, List, [], ◌∷◌}
use Rattle.lang_base.specs.declared.place.Place.{Place}
use Rattle.lang_base.specs.declared.refusal.Refusal.{Refusal}
use Rattle.syntax_tokens.specs.declared.token.Token.{Token}
use Rattle.syntax_tokens.specs.Cutting.{Cuts, FaultsAt}
use Rattle.syntax_tree.specs.declared.class.Program.{Program}
use Rattle.syntax_grammar.specs.Program.{IsProgram, IsGrammarFault}
use Rattle.lang_typed.specs.Names.{ProgramNames}
use Rattle.lang_typed.specs.Plain.{PlainProgram}
use Rattle.tool_front.specs.Judging.{HasNames, IsAccepted, IsFaulty, field_names_in}

-- the tokens of a text derive a program, and it is accepted as this typed program
pub record HasProgram (text : List ℕ) (tokens : List Token) (typed : PlainProgram) : Type 0 where
  pub program : Program
  pub derived : IsProgram text tokens program
  pub accepted : IsAccepted program typed

-- where the first token stands, or the end of a text without one
abbrev pub first_place : List Token → Place → Place
first_place [] end = end
first_place (token ∷ tokens) end = token.place

-- the text is cut into tokens, which derive a program that is accepted as this typed program; the first of them stands at the place
pub record IsPassed (text : List ℕ) (place : Place) (typed : PlainProgram) : Type 0 where
  pub tokens : List Token
  pub end : Place
  pub cut : Cuts text tokens end
  pub first : place ≡ first_place tokens end
  pub has_program : HasProgram text tokens typed

-- the tokens of a text derive a program, and its typed program has these names
pub record HasNamed (text : List ℕ) (tokens : List Token) (names : ProgramNames) : Type 0 where
  pub program : Program
  pub derived : IsProgram text tokens program
  pub has_names : HasNames program names

-- the names of the typed program of a text that passes
pub record AreNames (text : List ℕ) (names : ProgramNames) : Type 0 where
  pub tokens : List Token
  pub end : Place
  pub cut : Cuts text tokens end
  pub has_named : HasNamed text tokens names

-- the tokens of a text derive a program, and these are the names of the fields that each of its classes declares itself
pub record HasFieldNames (text : List ℕ) (tokens : List Token) (fields : List (List (List ℕ))) : Type 0 where
  pub program : Program
  pub derived : IsProgram text tokens program
  pub named_so : fields ≡ field_names_in program

pub record AreFieldNames (text : List ℕ) (fields : List (List (List ℕ))) : Type 0 where
  pub tokens : List Token
  pub end : Place
  pub cut : Cuts text tokens end
  pub has_names : HasFieldNames text tokens fields

-- the fault that is reported of the tokens of a text: that of their grammar, or that of the program that they derive
pub data IsTokenFault (text : List ℕ) (tokens : List Token) (end : Place) (refusal : Refusal) : Type 0 where
  of_grammar : IsGrammarFault text tokens end refusal → IsTokenFault text tokens end refusal
  of_program : (program : Program) → IsProgram text tokens program → IsFaulty program refusal → IsTokenFault text tokens end refusal

-- the text is cut into tokens, and the fault is theirs
pub record IsLaterFault (text : List ℕ) (refusal : Refusal) : Type 0 where
  pub tokens : List Token
  pub end : Place
  pub cut : Cuts text tokens end
  pub fault : IsTokenFault text tokens end refusal

-- the first fault of the text's tokens, or where it is cut into tokens, theirs
abbrev pub IsFault : List ℕ → Refusal → Type 0
IsFault text refusal = FaultsAt text refusal ⊎ IsLaterFault text refusal
