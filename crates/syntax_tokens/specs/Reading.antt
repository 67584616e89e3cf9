-- What the reading of one piece answers.
use Rattle.std.specs.Prelude.{◌≡◌, ◌≢◌, ◌<◌, ◌≤◌, ℕ, false, List, [], ◌∷◌, length, take, drop, Result, Ok, Err}
use Rattle.lang_base.specs.Lexical.{is_blank, is_letter, is_digit}
use Rattle.syntax_tokens.specs.declared.piece.Found.{Found}
use Rattle.syntax_tokens.specs.declared.piece.Fault.{Fault}
use Rattle.syntax_tokens.specs.Fault.{IsFault}
use Rattle.syntax_tokens.specs.Piece.{IsPiece, BeginsComment}

-- the piece that the bytes begin with
pub record IsFound (bytes : List ℕ) (found : Found) : Type 0 where
  pub some : 0 < found.len
  pub within : found.len ≤ length bytes
  pub is : IsPiece found.token (take found.len bytes) (drop found.len bytes)

-- a piece, or why there is none
abbrev pub Reads : List ℕ → Result Found Fault → Type 0
Reads bytes (Ok found) = IsFound bytes found
Reads bytes (Err fault) = IsFault fault.kind bytes fault.at

-- no blank, word, int, text or comment begins here
abbrev pub BeginsOtherwise : List ℕ → Type 0
BeginsOtherwise [] = ⊥
BeginsOtherwise (b ∷ bs) = (is_blank b ≡ false) × (is_letter b ≡ false) × (is_digit b ≡ false) × (b ≢ 34) × ¬ (BeginsComment (b ∷ bs))
