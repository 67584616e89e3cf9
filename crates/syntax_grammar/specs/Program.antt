-- A whole program, from the bytes of its text.
use Rattle.std.specs.Prelude.{◌≡◌, ℕ, List}
use Rattle.lang_base.specs.declared.place.Place.{Place}
use Rattle.lang_base.specs.declared.refusal.Refusal.{Refusal}
use Rattle.syntax_tokens.specs.declared.token.Token.{Token}
use Rattle.syntax_tokens.specs.declared.terminal.Placed.{Placed}
use Rattle.syntax_tokens.specs.Says.{MeanAll, distinct_names}
use Rattle.syntax_tree.specs.declared.class.Program.{Program}
use Rattle.syntax_grammar.specs.Classes.{DerivesProgram}
use Rattle.syntax_grammar.specs.Refusing.{IsWithin, IsRefusedIn}

-- the terminals that these tokens of a text say derive the program within the limits, which has the distinct names among them
pub record IsProgram (bytes : List ℕ) (tokens : List Token) (program : Program) : Type 0 where
  pub list : List Placed
  pub names : program.names ≡ distinct_names bytes tokens
  pub said : MeanAll program.names bytes tokens list
  pub derived : DerivesProgram list program.classes
  pub within : IsWithin list

-- the terminals that these tokens of a text say are refused, the text ending at a place
pub record IsGrammarFault (bytes : List ℕ) (tokens : List Token) (end : Place) (refusal : Refusal) : Type 0 where
  pub list : List Placed
  pub said : MeanAll (distinct_names bytes tokens) bytes tokens list
  pub reported : IsRefusedIn list end refusal
