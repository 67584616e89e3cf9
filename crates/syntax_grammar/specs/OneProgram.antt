-- A text says one program at most.
use Rattle.std.specs.Prelude.{◌≡◌, ℕ, List}
use Rattle.syntax_tokens.specs.declared.token.Token.{Token}
use Rattle.syntax_tree.specs.declared.class.Program.{Program}
use Rattle.syntax_grammar.specs.Program.{IsProgram}

-- the tokens of a text say one program at most
abbrev pub OneProgram : Type 0
OneProgram = (bytes : List ℕ) (tokens : List Token) (left right : Program) → IsProgram bytes tokens left → IsProgram bytes tokens right → left ≡ right
