-- The whole code of a program: each member in their order, and after it its branches, through a queue.
use Rattle.std.specs.Prelude.{ℕ, zero, suc, ◌+◌, Bool, true, false, List, [], ◌∷◌, ◌++◌, length, map, Option, Some, None, slice_index_or}
use Rattle.lang_base.specs.declared.place.Place.{Place}
use Rattle.lang_typed.specs.Plain.{TypedStmt, statement, TypedStmts, no_stmts, more_stmts, TypedBranches, no_branches, more_branches, PlainMember, PlainProgram}
use Rattle.lang_typed.specs.Plain.{StmtForm as form}
use Rattle.code_instrs.specs.declared.instr.Instr.TheVariants as i
use Rattle.code_instrs.specs.Plain.{Title, of_member, PlainBody, Site, PlainCode}
use Rattle.code_scheme.specs.Pieces.{Branch, Piece, Next, past, nothing, line, then_next}
use Rattle.code_scheme.specs.Scheme.{closes, stmt_piece, stmts_piece, class_code}

-- how many branches there are in a statement, with those in branches
abbrev mutual
  pub weight : TypedStmt → ℕ
  weight (statement at (form.block ss)) = weight_all ss
  weight (statement at (form.choice e s)) = weight s
  weight (statement at (form.choice_else e s t)) = weight s + weight t
  weight (statement at (form.while_loop e s)) = weight s
  weight (statement at (form.atomic effects ss)) = weight_all ss
  weight (statement at (form.cobegin forking bs)) = weight_branches bs
  weight (statement at (form.foreach forking x start count s)) = suc (weight s)
  weight (statement at (form.foreach_parts x source count s)) = suc (weight s)
  weight s = 0

  pub weight_all : TypedStmts → ℕ
  weight_all no_stmts = 0
  weight_all (more_stmts s ss) = weight s + weight_all ss

  pub weight_branches : TypedBranches → ℕ
  weight_branches no_branches = 0
  weight_branches (more_branches copies s bs) = suc (weight s) + weight_branches bs

-- what no place of the text stands for
abbrev pub no_place : Place
no_place = record { line = 0; col = 0 }

abbrev pub place_of : TypedStmt → Place
place_of (statement at s) = at

-- the body of a branch: its part is taken first, where it has one
abbrev pub branch_piece_of : Next → Place → TypedStmt → Option ℕ → Piece
branch_piece_of k at s None = then_next k (stmt_piece k 0 s) (λ k. line i.End at nothing)
branch_piece_of k at s (Some x) = line (i.Part x) at (then_next k (stmt_piece k 1 s) (λ k. line i.End at nothing))

abbrev pub branch_piece : Next → Branch → Piece
branch_piece k b = branch_piece_of k (place_of b.stmt) b.stmt b.takes

-- what stands at the end of the body of a member
abbrev pub closing : Bool → Piece
closing true = line i.Leave no_place nothing
closing false = nothing

abbrev pub member_piece : Next → PlainMember → Piece
member_piece k m = then_next k (stmts_piece k 0 m.body) (λ k. closing (closes m))

abbrev pub body_of : Title → PlainMember → Piece → PlainBody
body_of title m a = record { title = title; lines = a.lines; slots = m.slots; local_regions = m.local_regions }

-- bodies with their sites and texts
pub record Output : Type 0 where
  pub bodies : List PlainBody
  pub sites : List Site
  pub texts : List (List ℕ)

abbrev pub no_output : Output
no_output = record { bodies = []; sites = []; texts = [] }

-- a body, and what is generated after it
abbrev pub followed_by : PlainBody → Piece → Output → Output
followed_by b a rest = record { bodies = b ∷ rest.bodies; sites = a.sites ++ rest.sites; texts = a.texts ++ rest.texts }

abbrev pub then_output : Output → Output → Output
then_output a b = record { bodies = a.bodies ++ b.bodies; sites = a.sites ++ b.sites; texts = a.texts ++ b.texts }

-- the branches in the queue, so many at most: each puts its own branches after the others
abbrev pub generate : ℕ → PlainMember → Next → List Branch → Output
generate zero m k todo = no_output
generate (suc n) m k [] = no_output
generate (suc n) m k (b ∷ todo) =
    (let a = branch_piece k b in followed_by (body_of b.title m a) a (generate n m (past k a) (todo ++ a.branches)))

-- a member, and its branches
abbrev pub in_member : Next → Next
in_member k = record k { body = suc k.body }

abbrev pub member_output : Next → PlainMember → Output
member_output k m =
    (let a = member_piece (in_member k) m in followed_by (body_of of_member m a) a (generate (weight_all m.body) m (past (in_member k) a) a.branches))

abbrev pub past_output : Next → Output → Next
past_output k a = record { site = k.site + length a.sites; text = k.text + length a.texts; body = k.body + length a.bodies }

abbrev pub members_output : Next → List PlainMember → Output
members_output k [] = no_output
members_output k (m ∷ ms) = then_output (member_output k m) (members_output (past_output k (member_output k m)) ms)

-- the numbers of the bodies of the members
abbrev pub member_numbers : Next → List PlainMember → List ℕ
member_numbers k [] = []
member_numbers k (m ∷ ms) = k.body ∷ member_numbers (past_output k (member_output k m)) ms

abbrev pub first : Next
first = record { site = 0; text = 0; body = 0 }

unfoldable pub number_in : PlainProgram → ℕ → ℕ
number_in P n = slice_index_or (member_numbers first P.members) n 0

unfoldable pub compiled : PlainProgram → PlainCode
compiled P = record {
  classes = map (class_code P (number_in P)) P.classes;
  bodies = (members_output first P.members).bodies;
  sites = (members_output first P.members).sites;
  texts = (members_output first P.members).texts;
  main_class = P.main_class;
  main_body = number_in P P.main_member;
}
