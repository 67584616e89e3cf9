-- What a cursor has read, counted against the limits.
use Rattle.std.specs.Prelude.{◌≡◌, List, [], ◌∷◌, Bool, true}
use Rattle.lang_base.specs.Refused.{IfRefused}
use Rattle.lang_base.specs.declared.place.Place.{Place}
use Rattle.lang_base.specs.declared.refusal.Refusal.{Refusal}
use Rattle.lang_base.specs.declared.refusal.Stop.{Stop}
use Rattle.syntax_tokens.specs.declared.terminal.Placed.{Placed}
use Rattle.syntax_tokens.specs.declared.terminal.Terminal.{Terminal}
use Rattle.syntax_exprs.specs.declared.cursor.Cursor.{Cursor}
use Rattle.syntax_grammar.specs.Expecting.{Expected, one}
use Rattle.syntax_grammar.specs.Limits.{Counts, Fits, past, Within, Refuses}

abbrev pub counts : Cursor → Counts
counts cursor = record { level = cursor.level; joined = cursor.joined }

-- what is expected was read
abbrev pub Reading : List Expected → Cursor → Cursor → Type 0
Reading xs old new = Within (counts old) xs old.rest.now (counts new) new.rest.now

-- it was, whatever the counts came to
pub record Completes (c : Counts) (xs : List Expected) (before after : List Placed) : Type 0 where
  pub last : Counts
  pub reads : Within c xs before last after

abbrev pub Completed : List Expected → Cursor → Cursor → Type 0
Completed xs old new = Completes (counts old) xs old.rest.now new.rest.now

-- the reading of what is expected stops so
abbrev pub StopsAt : List Expected → Cursor → Stop → Type 0
StopsAt xs old stop = IfRefused stop (Refuses (counts old) xs old.rest.now old.end)

-- the next terminal was taken, which may stand here
pub record Took (old new : Cursor) : Type 0 where
  pub next : Placed
  pub is : old.rest.now ≡ next ∷ new.rest.now
  pub fits : Fits (counts old)
  pub same : counts new ≡ counts old

-- what comes next passes a test
abbrev pub MayCome : (Terminal → Bool) → List Placed → Type 0
MayCome test here = (next : Placed) (after : List Placed) → here ≡ next ∷ after → test next.terminal ≡ true

-- a terminal that is no bracket
abbrev pub IsPlain : Terminal → Type 0
IsPlain terminal = (c : Counts) → past terminal c ≡ c

-- the reading stops here, whichever terminal is expected that may come
pub record Halts (c : Counts) (here : List Placed) (end : Place) (refusal : Refusal) : Type 0 where
  pub stops : (test : Terminal → Bool) → MayCome test here → Refuses c (one test ∷ []) here end refusal

abbrev pub HaltsAt : Counts → Cursor → Stop → Type 0
HaltsAt c old stop = IfRefused stop (Halts c old.rest.now old.end)
