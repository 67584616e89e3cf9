-- What is so of each branch of a piece of code.
use Rattle.std.proofs.Common.{ℕ, List, [], ◌∷◌, ◌++◌}
use Rattle.lang_base.specs.declared.place.Place.{Place}
use Rattle.code_instrs.specs.declared.instr.Instr.{Instr}
use Rattle.code_instrs.specs.Plain.{Site}
use Rattle.code_scheme.specs.Pieces.{Branch, Piece, nothing, line, with_site, with_text, with_branches, beside}

abbrev pub AllAre : (Branch → Type 0) → List Branch → Type 0
AllAre Q [] = Unit {0}
AllAre Q (b ∷ bs) = Q b × AllAre Q bs

pub record Branches (Q : Branch → Type 0) (a : Piece) : Type 0 where
  pub is : AllAre Q a.branches

pub all_on : (Q : Branch → Type 0) (xs ys : List Branch) → AllAre Q xs → AllAre Q ys → AllAre Q (xs ++ ys)
all_on Q [] ys f g = g
all_on Q (x ∷ xs) ys f g = (f.0, all_on Q xs ys f.1 g)

module _ {Q : Branch → Type 0} where
  pub branches_none : Branches Q nothing
  branches_none = record { is = tt }

  pub branches_line : {a : Piece} (x : Instr) (at : Place) → Branches Q a → Branches Q (line x at a)
  unfolding line
  branches_line x at f = record { is = f.is }

  pub branches_both : {a b : Piece} → Branches Q a → Branches Q b → Branches Q (beside a b)
  unfolding beside
  branches_both {a} {b} f g = record { is = all_on Q a.branches b.branches f.is g.is }

  pub branches_site : (s : Site) (a : Piece) → Branches Q a → Branches Q (with_site s a)
  unfolding with_site
  branches_site s a f = record { is = f.is }

  pub branches_text : {a : Piece} (t : List ℕ) → Branches Q a → Branches Q (with_text t a)
  unfolding with_text
  branches_text t f = record { is = f.is }

  pub branches_start : (bs : List Branch) (a : Piece) → AllAre Q bs → Branches Q (with_branches bs a)
  unfolding with_branches
  branches_start bs a f = record { is = f }
