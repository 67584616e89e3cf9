-- What every production of the grammar is made of: one terminal, something that may be left out, and lists.
-- Each relation says that the terminals `before` begin with a part of the text, after which `after` is left.
use Rattle.std.specs.Prelude.{◌≡◌, List, [], ◌∷◌, Bool, true, false}
use Rattle.lang_base.specs.declared.place.Place.{Place}
use Rattle.syntax_tokens.specs.declared.token.Symbol.{Symbol}
use Rattle.syntax_tokens.specs.declared.token.Keyword.{Keyword}
use Rattle.syntax_tokens.specs.declared.terminal.Placed.{Placed}
use Rattle.syntax_tokens.specs.declared.terminal.Terminal.{Terminal}
use Rattle.syntax_tokens.specs.declared.terminal.Terminal.TheVariants as terminal
use Rattle.syntax_tree.specs.declared.region.Named.{Named}

-- one terminal, at a place
pub record Takes (wanted : Terminal) (before after : List Placed) (place : Place) : Type 0 where
  pub first : before ≡ record { terminal = wanted; place = place } ∷ after

abbrev pub TakesSymbol : Symbol → List Placed → List Placed → Place → Type 0
TakesSymbol symbol before after place = Takes (terminal.Symbol symbol) before after place

abbrev pub TakesKeyword : Keyword → List Placed → List Placed → Place → Type 0
TakesKeyword keyword before after place = Takes (terminal.Keyword keyword) before after place

abbrev pub TakesName : List Placed → List Placed → Named → Type 0
TakesName before after named = Takes (terminal.Name named.name) before after named.place

-- this terminal, wherever it stands
pub record TakesOne (wanted : Terminal) (before after : List Placed) : Type 0 where
  pub place : Place
  pub takes : Takes wanted before after place

-- the next terminal, whatever it is, at a place
pub record TakesNext (before after : List Placed) (place : Place) : Type 0 where
  pub terminal : Terminal
  pub takes : Takes terminal before after place

-- this terminal comes next
pub record Next (wanted : Terminal) (before : List Placed) : Type 0 where
  pub after : List Placed
  pub takes : TakesOne wanted before after

-- it doesn't
abbrev pub NoNext : Terminal → List Placed → Type 0
NoNext unwanted before = ¬ (Next unwanted before)

-- a terminal was taken exactly where it came next
abbrev pub TakesIf : Terminal → Bool → List Placed → List Placed → Type 0
TakesIf wanted true before after = TakesOne wanted before after
TakesIf wanted false before after = NoNext wanted before × (after ≡ before)

-- where the next terminal stands, if there is one
pub record StandsAt (before : List Placed) (place : Place) : Type 0 where
  pub first : (next : Placed) (after : List Placed) → before ≡ next ∷ after → place ≡ next.place

-- the place of the next terminal, or the end
abbrev pub place_of : List Placed → Place → Place
place_of [] end = end
place_of (next ∷ after) end = next.place

-- X { "," X }
pub data Listed {A : Type 0} (Derives : List Placed → List Placed → A → Type 0) : List Placed → List Placed → List A → Type 0 where
  last : {before after : List Placed} {item : A} → Derives before after item → Listed Derives before after (item ∷ [])
  more : {before one two after : List Placed} {item : A} {items : List A} {comma : Place} →
      Derives before one item → TakesSymbol Symbol.Comma one two comma → Listed Derives two after items → Listed Derives before after (item ∷ items)

-- { X }
pub data Many {A : Type 0} (Derives : List Placed → List Placed → A → Type 0) : List Placed → List Placed → List A → Type 0 where
  none : {here : List Placed} → Many Derives here here []
  some : {before one after : List Placed} {item : A} {items : List A} →
      Derives before one item → Many Derives one after items → Many Derives before after (item ∷ items)
