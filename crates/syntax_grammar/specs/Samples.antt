-- Samples of reading within the limits: a small program, and texts that are just within the limits or one beyond them.
use Rattle.std.specs.Prelude.{◌≡◌, ℕ, zero, suc, pos, List, [], ◌∷◌, ◌++◌, length}
use Rattle.lang_base.specs.declared.place.Place.{Place}
use Rattle.lang_base.specs.declared.refusal.Kind.{Kind}
use Rattle.lang_base.specs.declared.refusal.Kind.TheVariants as kind
use Rattle.lang_base.specs.declared.refusal.Refusal.{Refusal}
use Rattle.syntax_tokens.specs.declared.token.Keyword.{Keyword}
use Rattle.syntax_tokens.specs.declared.token.Symbol.{Symbol}
use Rattle.syntax_tokens.specs.declared.terminal.Placed.{Placed}
use Rattle.syntax_tokens.specs.declared.terminal.Terminal.{Terminal}
use Rattle.syntax_tokens.specs.declared.terminal.Terminal.TheVariants as terminal
use Rattle.syntax_tree.specs.declared.class.Class.{Class}
use Rattle.syntax_grammar.specs.Classes.{DerivesProgram}
use Rattle.syntax_grammar.specs.Refusing.{IsWithin, IsRefusedIn}
use Rattle.syntax_grammar.specs.Taking.{place_of}

-- a text of one line, in which the n-th terminal stands in column n
abbrev pub at : ℕ → Terminal → Placed
at n t = record { terminal = t; place = record { line = 1; col = n } }

abbrev pub line_from : ℕ → List Terminal → List Placed
line_from n [] = []
line_from n (t ∷ ts) = at n t ∷ line_from (suc n) ts

abbrev pub line : List Terminal → List Placed
line ts = line_from 1 ts

-- the text is read within the limits, and derives a program
pub record IsRead (text : List Terminal) : Type 0 where
  pub within : IsWithin (line text)
  pub derives : (classes : List Class) × DerivesProgram (line text) classes

-- where the second of two parts of a text begins, or the end
abbrev pub start_after : List Terminal → List Terminal → Place → Place
start_after front back end = place_of (line_from (suc (length front)) back) end

-- a text of two parts is refused where the second begins, and not otherwise
pub record IsRefusedAfter (front back : List Terminal) (why : Kind) : Type 0 where
  pub refused : (end : Place) → IsRefusedIn (line (front ++ back)) end (record { kind = why; place = start_after front back end })
  pub once : (end : Place) (refusal : Refusal) → IsRefusedIn (line (front ++ back)) end refusal → refusal ≡ record { kind = why; place = start_after front back end }
  pub not_read : IsWithin (line (front ++ back)) → ⊥

-- the first terminals are read with the last ones, but refused at the next ones, which are one thing more
pub record IsMost (front next ending : List Terminal) : Type 0 where
  pub read : IsRead (front ++ ending)
  pub refused : IsRefusedAfter front (next ++ ending) kind.Nest

abbrev pub repeat : ℕ → List Terminal → List Terminal
repeat zero part = []
repeat (suc n) part = part ++ repeat n part

abbrev pub symbol : Symbol → Terminal
symbol s = terminal.Symbol s

abbrev pub word : Keyword → Terminal
word k = terminal.Keyword k

abbrev pub name : ℕ → Terminal
name n = terminal.Name n

-- 1
abbrev pub digit : Terminal
digit = terminal.Int (pos 1)

-- class Main { int
abbrev pub declaring : List Terminal
declaring = word Keyword.Class ∷ name 0 ∷ symbol Symbol.OpenBrace ∷ word Keyword.Int ∷ []

-- class Main { int main ( int n ) {
abbrev pub opened : List Terminal
opened = declaring ++ (name 1 ∷ symbol Symbol.OpenParen ∷ word Keyword.Int ∷ name 2 ∷ symbol Symbol.CloseParen ∷ symbol Symbol.OpenBrace ∷ [])

-- return, in the method
abbrev pub returning : List Terminal
returning = opened ++ (word Keyword.Return ∷ [])

-- ; } }
abbrev pub closed : List Terminal
closed = symbol Symbol.Semicolon ∷ symbol Symbol.CloseBrace ∷ symbol Symbol.CloseBrace ∷ []

-- return 1 ; } }
abbrev pub ending : List Terminal
ending = word Keyword.Return ∷ digit ∷ closed

-- ( ( ..
abbrev pub opens : ℕ → List Terminal
opens n = repeat n (symbol Symbol.OpenParen ∷ [])

-- ) ) ..
abbrev pub closes : ℕ → List Terminal
closes n = repeat n (symbol Symbol.CloseParen ∷ [])

-- n [ n [ ..
abbrev pub indexed : ℕ → List Terminal
indexed n = repeat n (name 2 ∷ symbol Symbol.OpenBracket ∷ [])

-- ] ] ..
abbrev pub brackets : ℕ → List Terminal
brackets n = repeat n (symbol Symbol.CloseBracket ∷ [])

-- { }
abbrev pub empty_block : List Terminal
empty_block = symbol Symbol.OpenBrace ∷ symbol Symbol.CloseBrace ∷ []

-- if (
abbrev pub testing : List Terminal
testing = word Keyword.If ∷ symbol Symbol.OpenParen ∷ []

-- true )
abbrev pub tested : List Terminal
tested = word Keyword.True ∷ symbol Symbol.CloseParen ∷ []

-- if ( true )
abbrev pub if_true : List Terminal
if_true = testing ++ tested

-- return 1 ;
abbrev pub returned : List Terminal
returned = word Keyword.Return ∷ digit ∷ symbol Symbol.Semicolon ∷ []

-- if ( true ) return 1 ; else
abbrev pub or_else : List Terminal
or_else = if_true ++ (returned ++ (word Keyword.Else ∷ []))

-- + 1
abbrev pub plus_one : List Terminal
plus_one = symbol Symbol.Plus ∷ digit ∷ []

-- 1 + 1 + ..
abbrev pub sum_of : ℕ → List Terminal
sum_of n = digit ∷ repeat n plus_one

-- 1 + 1 + .. + ( 1 + 1 + .. ) + 1 + .., with 17 operators in front and 15 after
abbrev pub with_inner : List Terminal
with_inner = sum_of 16 ++ (symbol Symbol.Plus ∷ symbol Symbol.OpenParen ∷ sum_of 32 ++ (symbol Symbol.CloseParen ∷ repeat 15 plus_one))

-- . n
abbrev pub dot_name : List Terminal
dot_name = symbol Symbol.Dot ∷ name 2 ∷ []

-- [ 1 ]
abbrev pub element : List Terminal
element = symbol Symbol.OpenBracket ∷ digit ∷ symbol Symbol.CloseBracket ∷ []

-- [ ]
abbrev pub suffix : List Terminal
suffix = symbol Symbol.OpenBracket ∷ symbol Symbol.CloseBracket ∷ []

-- = 1 ;
abbrev pub assigned : List Terminal
assigned = symbol Symbol.Assign ∷ digit ∷ symbol Symbol.Semicolon ∷ []

-- new int [ ] [ ] ..
abbrev pub created : ℕ → List Terminal
created n = word Keyword.New ∷ word Keyword.Int ∷ repeat n suffix

-- Root : * : * ..
abbrev pub path : ℕ → List Terminal
path n = word Keyword.Root ∷ repeat n (symbol Symbol.Colon ∷ symbol Symbol.Star ∷ [])

-- class Main { int n in Root : * : * ..
abbrev pub placed : ℕ → List Terminal
placed n = declaring ++ (name 2 ∷ word Keyword.In ∷ path n)

-- ; }
abbrev pub declared : List Terminal
declared = symbol Symbol.Semicolon ∷ symbol Symbol.CloseBrace ∷ []

pub record Samples : Type 0 where
  -- return ( 1 ) ; whole, without its ) and cut off
  pub whole : IsRead (returning ++ (symbol Symbol.OpenParen ∷ digit ∷ symbol Symbol.CloseParen ∷ closed))
  pub unclosed : IsRefusedAfter (returning ++ (symbol Symbol.OpenParen ∷ digit ∷ [])) closed kind.Syntax
  pub cut_off : IsRefusedAfter (returning ++ (symbol Symbol.OpenParen ∷ digit ∷ [])) [] kind.Syntax
  -- 30 parentheses within the two braces, and one more, whose number is too deep
  pub deep : IsRead (returning ++ (opens 30 ++ (digit ∷ closes 30 ++ closed)))
  pub too_deep : IsRefusedAfter (returning ++ opens 31) (digit ∷ closes 31 ++ closed) kind.Nest
  -- likewise with brackets
  pub deep_index : IsRead (returning ++ (indexed 30 ++ (digit ∷ brackets 30 ++ closed)))
  pub too_deep_index : IsRefusedAfter (returning ++ indexed 31) (digit ∷ brackets 31 ++ closed) kind.Nest
  -- 30 bodies without braces, and one more, whose condition is too deep
  pub bare : IsRead (opened ++ (repeat 30 if_true ++ ending))
  pub too_bare : IsRefusedAfter (opened ++ (repeat 30 if_true ++ testing)) (tested ++ ending) kind.Nest
  -- likewise where each follows an else
  pub otherwise : IsRead (opened ++ (repeat 30 or_else ++ ending))
  pub too_often_otherwise : IsRefusedAfter (opened ++ (repeat 30 or_else ++ testing)) (tested ++ ending) kind.Nest
  -- blocks and bodies that have ended don't count
  pub blocks_in_order : IsRead (opened ++ (repeat 40 empty_block ++ ending))
  pub bodies_in_order : IsRead (opened ++ (repeat 40 (if_true ++ returned) ++ ending))
  -- operators: those within parentheses count for themselves
  pub operators : IsMost (returning ++ sum_of 32) plus_one closed
  pub inner_operators : IsMost (returning ++ with_inner) plus_one closed
  pub signs : IsMost (returning ++ repeat 32 (symbol Symbol.Minus ∷ [])) (symbol Symbol.Minus ∷ []) (digit ∷ closed)
  -- dots and brackets, also of what is assigned to
  pub dots : IsMost (returning ++ (name 2 ∷ repeat 32 dot_name)) dot_name closed
  pub elements : IsMost (returning ++ (name 2 ∷ repeat 32 element)) element closed
  pub assigned_field : IsMost (opened ++ (name 2 ∷ repeat 32 dot_name)) dot_name (assigned ++ ending)
  pub assigned_element : IsMost (opened ++ (name 2 ∷ repeat 32 element)) element (assigned ++ ending)
  -- suffixes of a field's type and of a local's
  pub field_type : IsMost (declaring ++ repeat 32 suffix) suffix (name 2 ∷ declared)
  pub local_type : IsMost (opened ++ (name 0 ∷ repeat 32 suffix)) suffix (name 3 ∷ assigned ++ ending)
  -- and after a region argument, whose elements count for themselves
  pub type_of_path : IsMost (opened ++ (name 0 ∷ symbol Symbol.Less ∷ path 32 ++ (symbol Symbol.Greater ∷ repeat 32 suffix))) suffix (name 3 ∷ assigned ++ ending)
  -- 32 brackets of an array that is created, and one more
  pub array : IsRead (returning ++ (created 31 ++ (element ++ closed)))
  pub too_long_array : IsRefusedAfter (returning ++ created 32) (element ++ closed) kind.Nest
  -- 32 elements of a region path, and one more
  pub long_path : IsRead (placed 32 ++ declared)
  pub too_long_path : IsRefusedAfter (placed 32 ++ (symbol Symbol.Colon ∷ [])) (symbol Symbol.Star ∷ declared) kind.Nest
