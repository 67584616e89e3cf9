-- The productions of region parameters, as their functions read them.
use Rattle.std.proofs.Common.{List, [], ◌∷◌, ◌++◌, Bool, true, false, sym, subst, append_assoc, append-nil}
use Rattle.lang_base.specs.declared.place.Place.{Place}
use Rattle.syntax_tokens.specs.declared.token.Symbol.TheVariants as symbol
use Rattle.syntax_tokens.specs.declared.token.Keyword.TheVariants as keyword
use Rattle.syntax_tokens.specs.declared.terminal.Placed.{Placed}
use Rattle.syntax_tokens.specs.declared.terminal.Terminal.TheVariants as terminal
use Rattle.syntax_tree.specs.declared.region.ConstrTree.{ConstrTree}
use Rattle.syntax_tree.specs.declared.region.ParamTree.{ParamTree}
use Rattle.syntax_grammar.specs.Taking.{TakesOne, TakesIf, TakesKeyword, Listed}
use Rattle.syntax_grammar.specs.Classes.{DerivesAtomic, DerivesKind, kind, DerivesKindOr, same, DerivesParam, DerivesParamsAfter, no_more, following, DerivesDeclared, declared, DerivesConstr, DerivesGiven, given}

pub atomic_if : {before after : List Placed} {found : Bool} → TakesIf (terminal.Keyword keyword.Atomic) found before after → DerivesAtomic before after found
atomic_if {found = true} t = DerivesAtomic.atomic t.takes
atomic_if {before} {after} {found = false} t = subst (λ here. DerivesAtomic before here false) (sym t.1) DerivesAtomic.plain

pub kind_of : {before one after : List Placed} {is_atomic : Bool} {place : Place} →
    TakesIf (terminal.Keyword keyword.Atomic) is_atomic before one → TakesKeyword keyword.Region one after place → DerivesKind before after is_atomic
kind_of t r = kind (atomic_if t) r

-- the parameters that were read so far, the last of which is of a kind
pub record Declares (before here : List Placed) (is_atomic : Bool) (list : List ParamTree) : Type 0 where
  pub goes_on : (after : List Placed) (others : List ParamTree) → DerivesParamsAfter is_atomic here after others → DerivesDeclared before after (list ++ others)

pub declares_first : {before one here : List Placed} {is_atomic : Bool} {tree : ParamTree} →
    DerivesKind before one is_atomic → DerivesParam is_atomic one here tree → Declares before here is_atomic (tree ∷ [])
declares_first k p = record { goes_on = λ after others d. declared k p d }

pub declares_more : {before here one two after : List Placed} {earlier is_atomic : Bool} {list : List ParamTree} {tree : ParamTree} →
    Declares before here earlier list → TakesOne (terminal.Symbol symbol.Comma) here one → DerivesKindOr earlier one two is_atomic → DerivesParam is_atomic two after tree →
    Declares before after is_atomic (list ++ tree ∷ [])
declares_more {list} {tree} so_far comma k p = record {
  goes_on = λ after_it others d. rw append_assoc (so_far.goes_on after_it (tree ∷ others) (following comma.takes k p d));
}

pub declares_done : {before after : List Placed} {is_atomic : Bool} {list : List ParamTree} → Declares before after is_atomic list → DerivesDeclared before after list
declares_done {before} {after} {list} so_far = rw append-nil at (so_far.goes_on after [] no_more)

pub kind_same : {here : List Placed} {earlier : Bool} → DerivesKindOr earlier here here earlier
kind_same = same

pub given_after : {before one after : List Placed} {all : List ConstrTree} →
    TakesOne (terminal.Symbol symbol.Bar) before one → Listed DerivesConstr one after all → DerivesGiven before after all
given_after bar l = given bar.takes l
