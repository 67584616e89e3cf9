-- What is emitted so far, and when a construct has been emitted.
use Rattle.std.specs.Prelude.{◌≡◌, ℕ, suc, ◌+◌, false, [], map, length, slice_set}
use Rattle.lang_base.specs.declared.place.Place.{Place}
use Rattle.lang_typed.specs.Plain.{plain_stmt}
use Rattle.code_instrs.specs.declared.instr.Instr.{Instr}
use Rattle.code_instrs.specs.declared.instr.Instr.TheVariants as i
use Rattle.code_instrs.specs.Plain.{of_branch, plain_site}
use Rattle.code_instrs.specs.Plain.{Line as PlainLine}
use Rattle.code_scheme.specs.Pieces.{Branch, Piece, Next, nothing, line, beside}
use Rattle.code_compile.specs.declared.line.Line.{Line}
use Rattle.code_compile.specs.declared.line.Sited.{Sited}
use Rattle.code_compile.specs.declared.line.Sited.TheVariants as sited
use Rattle.code_compile.specs.declared.emitter.Emitter.{Emitter}
use Rattle.code_compile.specs.declared.pending.Pending.{Pending}

-- the lines of the body at work, and the sites and texts of all bodies so far; the branches of the member at work, of which
-- the first is this body
pub record Emitted : Type 0 where
  pub first : ℕ
  pub piece : Piece

abbrev pub next_of : Emitted → Next
next_of s = record { site = length s.piece.sites; text = length s.piece.texts; body = s.first + length s.piece.branches }

-- after so much, this piece is emitted: it may depend on what is next, and on the place
abbrev pub after : Emitted → (Next → ℕ → Piece) → Emitted
after s f = record s { piece = beside s.piece (f (next_of s) (length s.piece.lines)) }

pub record Emits (s : Emitted) (f : Next → ℕ → Piece) (t : Emitted) : Type 0 where
  pub is : t ≡ after s f

-- another instruction at a place
abbrev pub patched : Emitted → ℕ → PlainLine → Emitted
patched s at l = record s { piece = record s.piece { lines = slice_set s.piece.lines at l } }

-- a member begins, whose body has this number; and a body is done
abbrev pub member_begun : Emitted → ℕ → Emitted
member_begun s body = record { first = body + 1; piece = record s.piece { branches = [] } }

abbrev pub without_lines : Emitted → Emitted
without_lines s = record s { piece = record s.piece { lines = [] } }

-- a jump past a `false`, which is where the test at a place leads
abbrev pub jump_past : Place → Next → ℕ → Piece
jump_past at k p = line (i.Jump (suc (suc p))) at (line (i.Bool false) at nothing)

abbrev pub BothClosed : Emitted → ℕ → Place → Emitted → Type 0
BothClosed s test at t = t ≡ patched (after s (jump_past at)) test (record { instr = i.Unless (suc (length s.piece.lines)); place = at })

abbrev pub plain_line : Line → PlainLine
plain_line l = record { instr = l.instr; place = l.place }

abbrev pub plain_pending : Pending → Branch
plain_pending b = record { title = of_branch b.site b.number; takes = b.takes; stmt = plain_stmt b.stmt.now }

abbrev pub emitted_of : Emitter → Emitted
emitted_of e = record {
  first = e.first;
  piece = record {
    lines = map plain_line e.lines;
    sites = map plain_site e.sites;
    texts = e.texts;
    branches = map plain_pending e.branches;
  };
}

abbrev pub instr_at : Sited → ℕ → Instr
instr_at sited.Call s = i.Call s
instr_at sited.New s = i.New s
instr_at sited.Array s = i.Array s
instr_at sited.Fork s = i.Fork s
instr_at sited.Spread s = i.Spread s
instr_at sited.Enter s = i.Enter s
