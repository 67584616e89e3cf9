-- The lines that tell the summaries of a program, read as summaries.
use Rattle.std.specs.Prelude.{◌≡◌, ℕ, List, [], ◌++◌, Some, slice_get}
use Rattle.lang_base.specs.Lexical.{is_name_byte}
use Rattle.lang_typed.specs.Names.{Named}
use Rattle.lang_typed.specs.Plain.{PlainProgram, PlainMember}
use Rattle.lang_typed.specs.Scope.{member_at}
use Rattle.syntax_tokens.specs.Cutting.{Pieces, StandBefore, text_of, tokens_of}
use Rattle.syntax_tokens.specs.Piece.{StopsAt}
use Rattle.syntax_tokens.specs.Says.{MeanAll}
use Rattle.syntax_tokens.specs.declared.terminal.Placed.{Placed}
use Rattle.syntax_tree.specs.declared.class.Program.{Program}
use Rattle.syntax_tree.specs.declared.class.SummaryTree.{SummaryTree}
use Rattle.syntax_grammar.specs.Classes.{DerivesSummary}
use Rattle.syntax_means.specs.Accepts.{Accepts, HasTree}
use Rattle.syntax_means.specs.Declares.{OwnMethod, all_methods, names_in}
use Rattle.body_infer.specs.declared.kept.Kept.{Kept}
use Rattle.body_infer.specs.Kept.{Keeping, SaysOfEach, summary_kept}
use Rattle.body_infer.specs.Lines.{params_of, summary_text}
use Rattle.body_infer.specs.PostFixpoint.{IsPostFixpoint}
use Rattle.sound_infer.specs.Laws.{program_inferred}
use Rattle.sound_infer.specs.Written.{SaysWhatIsKept, tree_without}

-- The bytes are pieces wherever no byte follows that a name goes on with, and what the tokens among them say by the names of a tree derives the summary, whatever
-- terminals come after it.
pub record ReadsAs (names : List (List ℕ)) (bytes : List ℕ) (summary : SummaryTree) : Type 0 where
  pub pieces : Pieces
  pub whole : bytes ≡ text_of pieces
  pub each : (left : List ℕ) → StopsAt is_name_byte left → StandBefore left pieces
  pub list : List Placed
  pub said : MeanAll names bytes (tokens_of [] pieces) list
  pub derived : (after : List Placed) → DerivesSummary (list ++ after) after (Some summary)

-- what the line of a member has behind its name
abbrev pub words_of : Program → PlainMember → Named → List ℕ
words_of tree m named = summary_text (names_in tree) (params_of (names_in tree) m.class named) m.summary

-- the second tree is the first but for its summaries: each is one that the words of a line are read as, that of the member with what is kept of its summary
pub record HasSummariesOfLines (tree new : Program) (P : PlainProgram) (S : Keeping) : Type 0 where
  pub same : tree_without new ≡ tree_without tree
  pub reads : (n : ℕ) (other : OwnMethod) (m : PlainMember) (named : Named) (ks : List Kept) → slice_get (all_methods new) n ≡ Some other → member_at P n ≡ Some m →
      slice_get (names_in tree).members n ≡ Some named → slice_get S n ≡ Some ks →
      (summary : SummaryTree) × (other.method.summary ≡ Some summary) × ReadsAs tree.names (words_of tree (record m { summary = summary_kept ks m.summary }) named) summary

-- of an accepted text each line can be read so, whatever is kept
abbrev pub LinesCanBeRead : Type 0
LinesCanBeRead = (text : List ℕ) (tree : Program) (P : PlainProgram) (S : Keeping) → Accepts text tree P → (new : Program) × HasSummariesOfLines tree new P S

-- and however they are read, they say what is kept
abbrev pub LinesSayWhatIsKept : Type 0
LinesSayWhatIsKept =
    (text : List ℕ) (tree new : Program) (P : PlainProgram) (S : Keeping) → Accepts text tree P → HasSummariesOfLines tree new P S → SaysWhatIsKept tree new P S

-- so a text of such a tree is accepted, where what is kept covers what is done
abbrev pub LinesAreAccepted : Type 0
LinesAreAccepted =
    (text other : List ℕ) (tree new : Program) (P : PlainProgram) (S : Keeping) → Accepts text tree P → SaysOfEach P S → IsPostFixpoint P S →
    HasSummariesOfLines tree new P S → HasTree other new → Accepts other new (program_inferred S P)
