-- Bodies that are done.
use Rattle.std.specs.Prelude.{◌≡◌, ℕ, List, [], ◌∷◌, ◌++◌, map, length, Some, slice_get}
use Rattle.lang_typed.specs.Plain.{PlainMember}
use Rattle.code_instrs.specs.declared.code.Body.{Body}
use Rattle.code_instrs.specs.Plain.{Line, Title, PlainBody, plain_body}
use Rattle.code_scheme.specs.Pieces.{Branch, Next}
use Rattle.code_scheme.specs.Whole.{Output, no_output, then_output, branch_piece}
use Rattle.code_compile.specs.Emitted.{Emitted, next_of, after, without_lines}

-- a body of these lines, in the frame of a member
abbrev pub body_from : Title → List Line → PlainMember → PlainBody
body_from title lines m = record { title = title; lines = lines; slots = m.slots; local_regions = m.local_regions }

-- bodies, with the sites and texts that were emitted
abbrev pub output_of : Emitted → List Body → Output
output_of s bodies = record { bodies = map plain_body bodies; sites = s.piece.sites; texts = s.piece.texts }

-- what is next before a member begins
abbrev pub next_member : Emitted → List Body → Next
next_member s bodies = record { site = length s.piece.sites; text = length s.piece.texts; body = length bodies }

-- so much output follows
abbrev pub Finished : Emitted → List Body → (Next → Output) → Emitted → List Body → Type 0
Finished s bodies f t after = output_of t after ≡ then_output (output_of s bodies) (f (next_member s bodies))

-- the body of the branch at a place of the queue follows, and its own branches stand last in the queue
pub record BranchDone (s : Emitted) (bodies : List Body) (m : PlainMember) (at : ℕ) (t : Emitted) (after_it : List Body) : Type 0 where
  pub branch : Branch
  pub there : slice_get s.piece.branches at ≡ Some branch
  pub emitted : t ≡ without_lines (after s (λ k p. branch_piece k branch))
  pub body : map plain_body after_it ≡ map plain_body bodies ++ body_from branch.title (branch_piece (next_of s) branch).lines m ∷ []

-- nothing is emitted yet
pub record IsNew (s : Emitted) (bodies : List Body) : Type 0 where
  pub lines : s.piece.lines ≡ []
  pub output : output_of s bodies ≡ no_output
