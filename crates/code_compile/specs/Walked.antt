-- Parts of the scheme by names of their own.
use Rattle.std.specs.Prelude.{ℕ, ◌+◌, map, pos, Some}
use Rattle.lang_base.specs.declared.place.Place.{Place}
use Rattle.lang_typed.specs.declared.stmt.Branch.{Branch}
use Rattle.lang_typed.specs.declared.stmt.Forking.{Forking}
use Rattle.lang_typed.specs.declared.stmt.Forking.TheVariants.{Deterministic}
use Rattle.lang_typed.specs.Plain.{TypedStmt, statement, TypedBranch, TypedBranches, plain_stmt}
use Rattle.lang_typed.specs.Plain.{StmtForm as stmt_form}
use Rattle.code_instrs.specs.declared.instr.Instr.TheVariants as i
use Rattle.code_scheme.specs.Pieces.{Next, Piece, nothing, line, with_branches}
use Rattle.code_scheme.specs.Scheme.{stmt_piece, branches_of, spread_piece}

abbrev pub plain_branch : Branch → TypedBranch
plain_branch b = record { copies = map (λ slot. slot.number) b.copies; body = plain_stmt b.body }

-- a `cobegin` at a place
abbrev pub fork_piece : Next → Place → Forking → TypedBranches → Piece
fork_piece k at forking bs = stmt_piece k 0 (statement at (stmt_form.cobegin forking bs))

-- branches that wait for their bodies
abbrev pub queued_piece : ℕ → ℕ → TypedBranches → Piece
queued_piece site number bs = with_branches (branches_of site number bs) nothing

-- a branch for each part
abbrev pub parts_piece : Next → Place → ℕ → TypedStmt → Piece
parts_piece k at x s = line (i.Int (pos 0)) at (line (i.Load (x + 3)) at (spread_piece k at Deterministic (x + 4) (Some x) s))
