-- What is expected of a text is what the grammar says of it.
use Rattle.std.specs.Prelude.{List, [], ◌∷◌, ◌++◌}
use Rattle.syntax_tokens.specs.declared.terminal.Placed.{Placed}
use Rattle.syntax_tree.specs.declared.class.Class.{Class}
use Rattle.syntax_grammar.specs.Classes.{DerivesProgram}
use Rattle.syntax_grammar.specs.Expecting.{Part, Expected, part, Steps, IsLost}
use Rattle.syntax_grammar.specs.Viable.{HasSyntaxFault}

pub record ExpectedText : Type 0 where
  -- what derives a program is read to its end
  pub read : (list : List Placed) (classes : List Class) → DerivesProgram list classes → Steps [] [] (part Part.program ∷ []) list
  -- and what is read to its end derives a program
  pub derives : (list : List Placed) → Steps [] [] (part Part.program ∷ []) list → (classes : List Class) × DerivesProgram list classes
  -- where a text is lost, it has its fault of syntax
  pub fault : (read here : List Placed) (to : List Expected) → Steps to here (part Part.program ∷ []) (read ++ here) → IsLost to here → HasSyntaxFault (read ++ here) read here
