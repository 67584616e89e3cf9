-- What members begin with.
use Rattle.std.specs.Prelude.{◌≡◌, ◌⊎◌, List, [], ◌∷◌, Bool, false, cond, ◌&&◌, ◌||◌}
use Rattle.syntax_tokens.specs.declared.token.Symbol.{Symbol}
use Rattle.syntax_tokens.specs.declared.token.Keyword.{Keyword}
use Rattle.syntax_tokens.specs.declared.terminal.Placed.{Placed}
use Rattle.syntax_tokens.specs.declared.terminal.Terminal.TheVariants as terminal
use Rattle.syntax_grammar.specs.Words.{is_atomic, is_name, is_open_paren, is_region}
use Rattle.syntax_grammar.specs.Taking.{Next}
use Rattle.syntax_grammar.specs.Expecting.{Expected, Part, one, part, next_of, next_is, with_next, member_parts}
use Rattle.syntax_exprs.specs.Targets.{rest_of}

-- what a member begins with
abbrev pub member_begins : List Placed → List Expected
member_begins here = with_next (part Part.type ∷ one is_name ∷ part Part.field_or_method ∷ []) member_parts (next_of here)

-- whether Kind comes next
abbrev pub kind_comes : List Placed → Bool
kind_comes here = next_is is_atomic (next_of here) || next_is is_region (next_of here)

-- region parameters or `void` come next
abbrev pub BeginsAnswering : List Placed → Type 0
BeginsAnswering here = Next (terminal.Symbol Symbol.Less) here ⊎ Next (terminal.Keyword Keyword.Void) here

-- whether a constructor comes next: a name, and `(` after it
abbrev pub constructor_comes : List Placed → Bool
constructor_comes here = next_is is_name (next_of here) && next_is is_open_paren (next_of (rest_of here))

-- a type comes next: its name isn't a constructor's, and without a name nothing else can come
pub record BeginsTyped (here : List Placed) : Type 0 where
  pub other : constructor_comes here ≡ false
  pub unnamed : next_is is_name (next_of here) ≡ false → member_begins here ≡ part Part.type ∷ one is_name ∷ part Part.field_or_method ∷ []

-- how the type of a member is read: a name may still be a constructor's, so what follows it counts on
abbrev pub type_begins : List Placed → List Expected
type_begins here = cond (next_is is_name (next_of here)) (one is_name ∷ part Part.args_if ∷ part Part.suffixes ∷ []) (part Part.type ∷ [])

-- the part of a summary that begins with a keyword
pub data IsItemsPart : Keyword → Part → Type 0 where
  reads : IsItemsPart Keyword.Reads Part.reads_if
  writes : IsItemsPart Keyword.Writes Part.writes_if
