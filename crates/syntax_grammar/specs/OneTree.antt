-- The grammar leaves no choice.
use Rattle.std.specs.Prelude.{◌≡◌, List}
use Rattle.syntax_tokens.specs.declared.terminal.Placed.{Placed}
use Rattle.syntax_tree.specs.declared.class.Class.{Class}
use Rattle.syntax_grammar.specs.Classes.{DerivesProgram}

-- a list of terminals derives one program at most
abbrev pub OneTree : Type 0
OneTree = (list : List Placed) (left right : List Class) → DerivesProgram list left → DerivesProgram list right → left ≡ right
