-- The tree of a program with other summaries, and what it means.
use Rattle.std.specs.Prelude.{◌≡◌, ℕ, false, List, [], ◌∷◌, ◌++◌, Contains, map, Option, None, Some, slice_get}
use Rattle.syntax_tree.specs.declared.class.Class.{Class}
use Rattle.syntax_tree.specs.declared.class.Item.{Item}
use Rattle.syntax_tree.specs.declared.class.Member.{Member}
use Rattle.syntax_tree.specs.declared.class.Member.TheVariants as member
use Rattle.syntax_tree.specs.declared.class.Method.{Method}
use Rattle.syntax_tree.specs.declared.class.Program.{Program}
use Rattle.syntax_tree.specs.declared.class.SummaryTree.{SummaryTree}
use Rattle.syntax_tree.specs.declared.region.ElemTree.TheVariants as elem
use Rattle.syntax_tree.specs.declared.region.RplHead.TheVariants as head
use Rattle.lang_typed.specs.Plain.{PlainProgram, PlainMember}
use Rattle.lang_typed.specs.Scope.{member_at}
use Rattle.syntax_means.specs.Accepts.{Accepts, HasTree}
use Rattle.syntax_means.specs.Declares.{OwnMethod, all_methods}
use Rattle.syntax_means.specs.Means.{Means, SummaryMeans, in_method}
use Rattle.body_infer.specs.declared.kept.Kept.{Kept}
use Rattle.body_infer.specs.Kept.{Keeping, SaysOfEach, summary_kept}
use Rattle.body_infer.specs.PostFixpoint.{IsPostFixpoint}
use Rattle.sound_infer.specs.Laws.{program_inferred}

-- a tree without what its methods and constructors say of their effects
abbrev pub without_summary : Method → Method
without_summary method = record method { summary = None }

abbrev pub member_without : Member → Member
member_without (member.Method method) = member.Method (without_summary method)
member_without (member.Regions is_atomic names) = member.Regions is_atomic names
member_without (member.Field field) = member.Field field

abbrev pub class_without : Class → Class
class_without class = record class { members = map member_without class.members }

abbrev pub tree_without : Program → Program
tree_without tree = record tree { classes = map class_without tree.classes }

-- the second tree is the first but for its summaries: each says, where it stands, what is kept of the one in the first
pub record SaysWhatIsKept (tree new : Program) (P : PlainProgram) (S : Keeping) : Type 0 where
  pub same : tree_without new ≡ tree_without tree
  pub says : (n : ℕ) (own other : OwnMethod) (class : Class) (m : PlainMember) (ks : List Kept) → slice_get (all_methods tree) n ≡ Some own →
      slice_get (all_methods new) n ≡ Some other → slice_get tree.classes own.class ≡ Some class → member_at P n ≡ Some m → slice_get S n ≡ Some ks →
      SummaryMeans (in_method tree P class own) other.method.summary (summary_kept ks m.summary)

-- an item of a summary, or `Root:*` where none is written
abbrev pub IsItemOf : Option SummaryTree → Item → Type 0
IsItemOf None item = (item.atomic ≡ false) × (item.rpl.head ≡ head.Root) × (item.rpl.elems ≡ elem.Star ∷ [])
IsItemOf (Some summary) item = Contains (summary.reads ++ summary.writes) item

abbrev pub HasItemsOf : Option SummaryTree → Option SummaryTree → Type 0
HasItemsOf old new = (summary : SummaryTree) → new ≡ Some summary → (item : Item) → Contains (summary.reads ++ summary.writes) item → IsItemOf old item

-- each summary has items of the one in the first tree alone, though it may read what that one writes
abbrev pub HasWrittenItems : Program → Program → Type 0
HasWrittenItems tree new =
    (n : ℕ) (own other : OwnMethod) → slice_get (all_methods tree) n ≡ Some own → slice_get (all_methods new) n ≡ Some other →
    HasItemsOf own.method.summary other.method.summary

-- such a tree means the program with what is kept of its summaries
abbrev pub KeptMeans : Type 0
KeptMeans = (tree new : Program) (P : PlainProgram) (S : Keeping) → SaysOfEach P S → SaysWhatIsKept tree new P S → Means tree P → Means new (program_inferred S P)

-- where a text is accepted, so is each with such a tree, where what is kept covers what is done
abbrev pub KeptIsAccepted : Type 0
KeptIsAccepted =
    (text other : List ℕ) (tree new : Program) (P : PlainProgram) (S : Keeping) → SaysOfEach P S → IsPostFixpoint P S → SaysWhatIsKept tree new P S →
    Accepts text tree P → HasTree other new → Accepts other new (program_inferred S P)

-- there is such a tree of the written items, whatever is kept
abbrev pub KeptCanBeWritten : Type 0
KeptCanBeWritten = (tree : Program) (P : PlainProgram) (S : Keeping) → SaysOfEach P S → Means tree P → (new : Program) × SaysWhatIsKept tree new P S × HasWrittenItems tree new
