-- Which programs a text means, and is accepted for.
use Rattle.std.specs.Prelude.{◌≡◌, ℕ, List}
use Rattle.lang_base.specs.declared.place.Place.{Place}
use Rattle.syntax_tokens.specs.declared.token.Token.{Token}
use Rattle.syntax_tokens.specs.Cutting.{Cuts}
use Rattle.syntax_tokens.specs.declared.terminal.Placed.{Placed}
use Rattle.syntax_tokens.specs.Says.{MeanAll, distinct_names}
use Rattle.syntax_tree.specs.declared.class.Program.{Program}
use Rattle.syntax_grammar.specs.Classes.{DerivesProgram}
use Rattle.lang_typed.specs.Plain.{PlainProgram}
use Rattle.lang_typed.specs.WellTyped.{WellTyped}
use Rattle.syntax_means.specs.Means.{Means}
use Rattle.syntax_means.specs.Unambiguous.{IsUnambiguous}

-- the text is cut into tokens, the terminals that they say derive the tree, and it has the distinct names among them
pub record HasTree (text : List ℕ) (tree : Program) : Type 0 where
  pub tokens : List Token
  pub end : Place
  pub cut : Cuts text tokens end
  pub list : List Placed
  pub names : tree.names ≡ distinct_names text tokens
  pub said : MeanAll tree.names text tokens list
  pub derived : DerivesProgram list tree.classes

-- the text has a tree, in which no name is declared twice, this is what it means, and it keeps the rules of the language
pub record Accepts (text : List ℕ) (tree : Program) (P : PlainProgram) : Type 0 where
  pub has_tree : HasTree text tree
  pub means : Means tree P
  pub well_typed : WellTyped P
  pub unambiguous : IsUnambiguous tree P
