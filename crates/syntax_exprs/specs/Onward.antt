-- What is read after a place of a text, and what of a text is read before it.
use Rattle.std.specs.Prelude.{List}
use Rattle.lang_base.specs.declared.refusal.Kind.{Kind}
use Rattle.syntax_tokens.specs.declared.terminal.Placed.{Placed}
use Rattle.syntax_exprs.specs.declared.cursor.Cursor.{Cursor}
use Rattle.syntax_grammar.specs.Expecting.{Expected}
use Rattle.syntax_grammar.specs.Limits.{Counts, Within, Stops}
use Rattle.syntax_exprs.specs.Counted.{counts}

-- whoever expects these at the second place, and reads them or stops there, so reads those from the first place on, or stops
pub record Onward (c : Counts) (xs : List Expected) (before : List Placed) (d : Counts) (ys : List Expected) (between : List Placed) : Type 0 where
  pub reads : (e : Counts) (after : List Placed) → Within d ys between e after → Within c xs before e after
  pub stops : (k : Kind) (here : List Placed) → Stops d ys between k here → Stops c xs before k here

-- the same of cursors
abbrev pub ReadsOn : List Expected → Cursor → List Expected → Cursor → Type 0
ReadsOn xs old ys new = Onward (counts old) xs old.rest.now (counts new) ys new.rest.now
