-- Where a text is refused: where its reading stops.
use Rattle.std.specs.Prelude.{◌≡◌, List, [], ◌∷◌, ◌++◌}
use Rattle.lang_base.specs.declared.place.Place.{Place}
use Rattle.lang_base.specs.declared.refusal.Refusal.{Refusal}
use Rattle.syntax_tokens.specs.declared.terminal.Placed.{Placed}
use Rattle.syntax_grammar.specs.Expecting.{Part, part}
use Rattle.syntax_grammar.specs.Limits.{Counts, Within, Refuses}
use Rattle.syntax_grammar.specs.Taking.{place_of}
use Rattle.syntax_grammar.specs.Viable.{IsViable, HasSyntaxFault}

abbrev pub at_start : Counts
at_start = record { level = 0; joined = 0 }

-- the whole text is read within the limits
abbrev pub IsWithin : List Placed → Type 0
IsWithin list = (counts : Counts) × Within at_start (part Part.program ∷ []) list counts []

-- a text is refused at the first terminal that can't come or is one too many, or at its end
abbrev pub IsRefusedIn : List Placed → Place → Refusal → Type 0
IsRefusedIn list end refusal = Refuses at_start (part Part.program ∷ []) list end refusal

-- the place of a text's fault of syntax: that of the first terminal with which no program goes on, or the end
pub record IsSyntaxFault (list : List Placed) (end place : Place) : Type 0 where
  pub read : List Placed
  pub here : List Placed
  pub fault : HasSyntaxFault list read here
  pub is : place ≡ place_of here end

-- a place of a text where a terminal stands with which it can still become a program
pub record CanGoOn (list : List Placed) (place : Place) : Type 0 where
  pub read : List Placed
  pub next : Placed
  pub after : List Placed
  pub is : list ≡ read ++ (next ∷ after)
  pub viable : IsViable (read ++ (next ∷ []))
  pub stands : place ≡ next.place
