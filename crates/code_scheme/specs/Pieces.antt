-- Pieces of generated code: lines, and what belongs to them.
use Rattle.std.specs.Prelude.{ℕ, ◌+◌, List, [], ◌∷◌, ◌++◌, length, Option}
use Rattle.lang_base.specs.declared.place.Place.{Place}
use Rattle.lang_typed.specs.Plain.{TypedStmt}
use Rattle.code_instrs.specs.declared.instr.Instr.{Instr}
use Rattle.code_instrs.specs.Plain.{Line, Title, Site}

-- a branch whose body is still to be generated: what a construct over parts begins with, and its statement
pub record Branch : Type 0 where
  pub title : Title
  pub takes : Option ℕ
  pub stmt : TypedStmt

-- lines, the sites and texts that they name, and the branches that they start, in the order of the lines
pub record Piece : Type 0 where
  pub lines : List Line
  pub sites : List Site
  pub texts : List (List ℕ)
  pub branches : List Branch

-- the next site, text and body are numbered so
pub record Next : Type 0 where
  pub site : ℕ
  pub text : ℕ
  pub body : ℕ

abbrev pub past : Next → Piece → Next
past k a = record { site = k.site + length a.sites; text = k.text + length a.texts; body = k.body + length a.branches }

abbrev pub nothing : Piece
nothing = record { lines = []; sites = []; texts = []; branches = [] }

-- an instruction in front of a piece; the last with its site, or its text
unfoldable pub line : Instr → Place → Piece → Piece
line x at a = record a { lines = record { instr = x; place = at } ∷ a.lines }

unfoldable pub with_site : Site → Piece → Piece
with_site s a = record a { sites = s ∷ [] }

unfoldable pub with_text : List ℕ → Piece → Piece
with_text text a = record a { texts = text ∷ [] }

unfoldable pub with_branches : List Branch → Piece → Piece
with_branches bs a = record a { branches = bs }

unfoldable pub beside : Piece → Piece → Piece
beside a b = record { lines = a.lines ++ b.lines; sites = a.sites ++ b.sites; texts = a.texts ++ b.texts; branches = a.branches ++ b.branches }

-- a piece, and what follows it with the numbers that are next then
abbrev pub then_next : Next → Piece → (Next → Piece) → Piece
then_next k a f = beside a (f (past k a))
