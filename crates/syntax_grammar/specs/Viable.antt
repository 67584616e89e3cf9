-- How far a text can still become a program.
use Rattle.std.specs.Prelude.{◌≡◌, ◌⊎◌, List, ◌++◌}
use Rattle.syntax_tokens.specs.declared.terminal.Placed.{Placed}
use Rattle.syntax_tree.specs.declared.class.Class.{Class}
use Rattle.syntax_grammar.specs.Classes.{DerivesProgram}
use Rattle.syntax_grammar.specs.Expecting.{next_of}

-- with some terminals after them, these make a program
pub record IsViable (list : List Placed) : Type 0 where
  pub others : List Placed
  pub classes : List Class
  pub derived : DerivesProgram (list ++ others) classes

-- these make none with any terminals that begin as the second list does, or end where it ends
abbrev pub IsLostBefore : List Placed → List Placed → Type 0
IsLostBefore read here = (other : List Placed) (classes : List Class) → next_of other ≡ next_of here → DerivesProgram (read ++ other) classes → ⊥

-- where a text has its fault of syntax: what stands in front can still become a program, but not with the next terminal,
-- or not at the end of the text
pub record HasSyntaxFault (list read here : List Placed) : Type 0 where
  pub is : list ≡ read ++ here
  pub viable : IsViable read
  pub lost : IsLostBefore read here

-- a text has its fault of syntax somewhere
pub record IsFaulty (list : List Placed) : Type 0 where
  pub read : List Placed
  pub here : List Placed
  pub fault : HasSyntaxFault list read here

-- each text derives a program or has such a place, and not both, and it has one such place at most
pub record OneFault : Type 0 where
  pub some : (list : List Placed) → ((classes : List Class) × DerivesProgram list classes) ⊎ IsFaulty list
  pub one : (list read here first there : List Placed) → HasSyntaxFault list read here → HasSyntaxFault list first there → read ≡ first
  pub none : (list read here : List Placed) (classes : List Class) → HasSyntaxFault list read here → DerivesProgram list classes → ⊥
