-- A text has one answer: it derives a program within the limits, or it is refused at one place.
use Rattle.std.specs.Prelude.{◌≡◌, ◌⊎◌, ℕ, List}
use Rattle.lang_base.specs.declared.place.Place.{Place}
use Rattle.lang_base.specs.declared.refusal.Kind.TheVariants as kind
use Rattle.lang_base.specs.declared.refusal.Refusal.{Refusal}
use Rattle.syntax_tokens.specs.declared.terminal.Placed.{Placed}
use Rattle.syntax_tree.specs.declared.class.Class.{Class}
use Rattle.syntax_tree.specs.declared.class.Program.{Program}
use Rattle.syntax_tokens.specs.declared.token.Token.{Token}
use Rattle.syntax_grammar.specs.Classes.{DerivesProgram}
use Rattle.syntax_grammar.specs.Program.{IsProgram, IsGrammarFault}
use Rattle.syntax_grammar.specs.Refusing.{IsWithin, IsRefusedIn, IsSyntaxFault, CanGoOn}

pub record OneRefusal : Type 0 where
  pub some : (list : List Placed) (end : Place) → (((classes : List Class) × DerivesProgram list classes) × IsWithin list) ⊎ ((refusal : Refusal) × IsRefusedIn list end refusal)
  pub one : (list : List Placed) (end : Place) (left right : Refusal) → IsRefusedIn list end left → IsRefusedIn list end right → left ≡ right
  pub none : (list : List Placed) (end : Place) (refusal : Refusal) → IsRefusedIn list end refusal → IsWithin list → ⊥
  -- for its syntax only where it has its fault of syntax
  pub syntax : (list : List Placed) (end place : Place) → IsRefusedIn list end (record { kind = kind.Syntax; place = place }) → IsSyntaxFault list end place
  -- for its nesting only where the terminal at which it is refused could still come
  pub nest : (list : List Placed) (end place : Place) → IsRefusedIn list end (record { kind = kind.Nest; place = place }) → CanGoOn list place
  -- and so it is of the tokens of a text
  pub reported_once : (bytes : List ℕ) (tokens : List Token) (end : Place) (left right : Refusal) → IsGrammarFault bytes tokens end left → IsGrammarFault bytes tokens end right → left ≡ right
  pub no_program : (bytes : List ℕ) (tokens : List Token) (end : Place) (refusal : Refusal) (program : Program) → IsGrammarFault bytes tokens end refusal → IsProgram bytes tokens program → ⊥
