-- The limits of a text: brackets and bodies without braces that are open, and operators, elements and suffixes that follow
-- each other, are at most 32 each. A text is read as is expected (`Expecting`), and its terminals are counted on the way.
use Rattle.std.specs.Prelude.{◌≡◌, ◌+◌, ◌-◌, ◌≤◌, ℕ, zero, List, [], ◌∷◌, Bool, true, false, cond, ◌||◌, Option, Some, None}
use Rattle.lang_base.specs.declared.place.Place.{Place}
use Rattle.lang_base.specs.declared.refusal.Kind.{Kind}
use Rattle.lang_base.specs.declared.refusal.Kind.TheVariants as kind
use Rattle.lang_base.specs.declared.refusal.Refusal.{Refusal}
use Rattle.syntax_tokens.specs.declared.token.Symbol.{Symbol}
use Rattle.syntax_tokens.specs.declared.terminal.Placed.{Placed}
use Rattle.syntax_tokens.specs.declared.terminal.Terminal.{Terminal}
use Rattle.syntax_tokens.specs.declared.terminal.Terminal.TheVariants as terminal
use Rattle.syntax_grammar.specs.Words.{is_dot, is_minus, is_not, is_open_brace, is_open_bracket}
use Rattle.syntax_grammar.specs.Taking.{place_of}
use Rattle.syntax_grammar.specs.Expecting.{Part, expr, Expected, one, part, choose, next_of, next_is, op_of, climb_parts}

-- how many brackets are open and bodies without braces entered, and how many operators, elements or suffixes there were so far
-- of the expression, the region path or the type that is read
pub record Counts : Type 0 where
  pub level : ℕ
  pub joined : ℕ

-- a terminal may stand here
pub record Fits (c : Counts) : Type 0 where
  pub level : c.level ≤ 32
  pub joined : c.joined ≤ 32

abbrev pub deeper : Counts → Counts
deeper c = record { level = c.level + 1; joined = c.joined }

abbrev pub higher : Counts → Counts
higher c = record { level = c.level - 1; joined = c.joined }

abbrev pub more : Counts → Counts
more c = record { level = c.level; joined = c.joined + 1 }

abbrev pub anew : Counts → Counts
anew c = record { level = c.level; joined = 0 }

-- after a terminal: a bracket opens or closes a level
abbrev pub past : Terminal → Counts → Counts
past (terminal.Symbol Symbol.OpenParen) c = deeper c
past (terminal.Symbol Symbol.OpenBracket) c = deeper c
past (terminal.Symbol Symbol.OpenBrace) c = deeper c
past (terminal.Symbol Symbol.CloseParen) c = higher c
past (terminal.Symbol Symbol.CloseBracket) c = higher c
past (terminal.Symbol Symbol.CloseBrace) c = higher c
past _ c = c

-- one more is counted where this holds
abbrev pub more_if : Bool → Counts → Counts
more_if b c = cond b (more c) c

abbrev pub more_joined : List Expected → Counts → Counts
more_joined [] c = c
more_joined (x ∷ xs) c = more c

-- at the first terminal of a part: an expression, a path, a type, a statement and a member count anew; a body without braces is a level
-- deeper; an operator, a dot, a bracket, an element or a suffix is one more
abbrev pub inside : Part → Option Placed → Counts → Counts
inside (expr zero) next c = anew c
inside Part.path next c = anew c
inside Part.type next c = anew c
inside Part.stmt next c = anew c
inside Part.member next c = anew c
inside Part.body next c = cond (next_is is_open_brace next) c (deeper c)
inside (Part.climb level top) next c = more_joined (climb_parts level top (op_of next)) c
inside Part.unary next c = more_if (next_is is_minus next || next_is is_not next) c
inside Part.array next c = more c
inside Part.element next c = more c
inside Part.selection next c = more_if (next_is is_dot next) c
inside Part.elem next c = more c
inside Part.suffixes next c = more_if (next_is is_open_bracket next) c
inside Part.after_name next c = more_if (next_is is_dot next || next_is is_open_bracket next) c
inside (Part.selected_then ending) next c = more_if (next_is is_dot next) c
inside Part.selection_then next c = more_if (next_is is_dot next) c
inside _ next c = c

-- after a part that began with the first counts and ended with the second ones
abbrev pub outside : Part → Counts → Counts → Counts
outside (expr zero) c d = c
outside Part.path c d = c
outside Part.type c d = c
outside Part.stmt c d = c
outside Part.member c d = c
outside Part.body c d = c
outside _ c d = d

-- between two places of a text all that is expected is read, within the limits
pub data Within : Counts → List Expected → List Placed → Counts → List Placed → Type 0 where
  nothing : {c : Counts} {here : List Placed} → Within c [] here c here
  begins : {n : Part} {xs others : List Expected} {before between after : List Placed} {c d e : Counts} →
      choose n (next_of before) ≡ Some xs → Within (inside n (next_of before) c) xs before d between → Within (outside n c d) others between e after →
      Within c (part n ∷ others) before e after
  passes : {test : Terminal → Bool} {others : List Expected} {next : Placed} {between after : List Placed} {c e : Counts} →
      test next.terminal ≡ true → Fits c → Within (past next.terminal c) others between e after → Within c (one test ∷ others) (next ∷ between) e after

-- the reading of what is expected stops here: at a terminal that can't come, or that is one too many
pub data Stops : Counts → List Expected → List Placed → Kind → List Placed → Type 0 where
  no_part : {n : Part} {others : List Expected} {here : List Placed} {c : Counts} → choose n (next_of here) ≡ None → Stops c (part n ∷ others) here kind.Syntax here
  no_terminal : {test : Terminal → Bool} {others : List Expected} {here : List Placed} {c : Counts} → next_is test (next_of here) ≡ false →
      Stops c (one test ∷ others) here kind.Syntax here
  too_many : {test : Terminal → Bool} {others : List Expected} {next : Placed} {after : List Placed} {c : Counts} →
      test next.terminal ≡ true → (Fits c → ⊥) → Stops c (one test ∷ others) (next ∷ after) kind.Nest (next ∷ after)
  in_part : {n : Part} {xs others : List Expected} {before here : List Placed} {c : Counts} {k : Kind} →
      choose n (next_of before) ≡ Some xs → Stops (inside n (next_of before) c) xs before k here → Stops c (part n ∷ others) before k here
  after_part : {n : Part} {xs others : List Expected} {before between here : List Placed} {c d : Counts} {k : Kind} →
      choose n (next_of before) ≡ Some xs → Within (inside n (next_of before) c) xs before d between → Stops (outside n c d) others between k here →
      Stops c (part n ∷ others) before k here
  after_terminal : {test : Terminal → Bool} {others : List Expected} {next : Placed} {between here : List Placed} {c : Counts} {k : Kind} →
      test next.terminal ≡ true → Fits c → Stops (past next.terminal c) others between k here → Stops c (one test ∷ others) (next ∷ between) k here

-- a refusal where the reading stops, the text ending at a place
pub record Refuses (c : Counts) (xs : List Expected) (before : List Placed) (end : Place) (refusal : Refusal) : Type 0 where
  pub here : List Placed
  pub stops : Stops c xs before refusal.kind here
  pub place : refusal.place ≡ place_of here end
