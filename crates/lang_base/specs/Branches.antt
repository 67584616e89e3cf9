-- Effects of branches that run side by side: when those of two branches interfere, the renamed copy of a loop
-- variable, atomic paths, and what atomic blocks order.
use Rattle.std.specs.Prelude.{ℕ, Bool, true, false, not, ◌&&◌, ◌||◌, ◌==◌, cond, List, [], ◌∷◌, map, Option, Some, None, slice_index_or}
use Rattle.lang_base.specs.declared.elems.Elem.{Elem}
use Rattle.lang_base.specs.declared.elems.Elem.TheVariants.{Name, At}
use Rattle.lang_base.specs.declared.elems.Index.TheVariants.{Variable, Renamed}
use Rattle.lang_base.specs.declared.region.Head.{Head}
use Rattle.lang_base.specs.declared.region.Head.TheVariants.{Root, Param}
use Rattle.lang_base.specs.declared.region.Rpl.{Rpl}
use Rattle.lang_base.specs.declared.effect.Effect.{Effect}
use Rattle.lang_base.specs.declared.effect.Constraint.{Constraint}
use Rattle.lang_base.specs.Regions.{is_index}
use Rattle.lang_base.specs.Effects.{interferes}

-- what is declared atomic: of each region name, and of each region parameter in scope
pub record Atomic : Type 0 where
  pub names : List Bool
  pub params : List Bool

abbrev pub is_atomic_name : List Bool → Elem → Bool
is_atomic_name names (Name n) = slice_index_or names n false
is_atomic_name names _ = false

abbrev pub all_index : List Elem → Bool
all_index [] = true
all_index (x ∷ r) = is_index x && all_index r

-- the last element, leaving off indices at the end, is a name that is declared atomic
abbrev pub ends_atomic : List Bool → List Elem → Bool
ends_atomic names [] = false
ends_atomic names (x ∷ r) = (is_atomic_name names x && all_index r) || ends_atomic names r

abbrev pub atomic_head : List Bool → Head → Bool
atomic_head params Root = false
atomic_head params (Param p) = slice_index_or params p false

-- an atomic path: it ends by an atomic name and indices, or has nothing but indices after an atomic parameter
unfoldable pub atomic_path : Atomic → Rpl → Bool
atomic_path atomic a = ends_atomic atomic.names a.elems || (all_index a.elems && atomic_head atomic.params a.head)

-- both effects are marked, and both paths are atomic
abbrev pub both_atomic : Atomic → Effect → Effect → Bool
both_atomic atomic e f = (e.atomic && f.atomic) && (atomic_path atomic e.rpl && atomic_path atomic f.rpl)

-- atomic blocks order the two effects: they do so between the branches of an nd construct alone, for which it is said
-- what is declared atomic
abbrev pub ordered_by_blocks : Option Atomic → Effect → Effect → Bool
ordered_by_blocks None e f = false
ordered_by_blocks (Some atomic) e f = both_atomic atomic e f

-- two effects of different branches interfere, and atomic blocks don't order them
unfoldable pub clashes : List Constraint → Option Atomic → Effect → Effect → Bool
clashes given nd e f = interferes given e f && not (ordered_by_blocks nd e f)

-- the effect clashes with some of the list
abbrev pub some_clashes : List Constraint → Option Atomic → Effect → List Effect → Bool
some_clashes given nd e [] = false
some_clashes given nd e (f ∷ fs) = clashes given nd e f || some_clashes given nd e fs

-- some effect of the first list clashes with some of the second
abbrev pub lists_clash : List Constraint → Option Atomic → List Effect → List Effect → Bool
lists_clash given nd [] fs = false
lists_clash given nd (e ∷ es) fs = some_clashes given nd e fs || lists_clash given nd es fs

-- the copy of the variable in place of the variable
abbrev pub renamed_elem : ℕ → Elem → Elem
renamed_elem v (At (Variable w)) = cond (v == w) (At (Renamed w)) (At (Variable w))
renamed_elem v x = x

abbrev pub renamed_rpl : ℕ → Rpl → Rpl
renamed_rpl v a = record { head = a.head; elems = map (renamed_elem v) a.elems }

abbrev pub renamed_effect : ℕ → Effect → Effect
renamed_effect v e = record { access = e.access; atomic = e.atomic; rpl = renamed_rpl v e.rpl }

-- an effect of the body clashes with one of another iteration of it
abbrev pub iterations_clash : List Constraint → Option Atomic → ℕ → List Effect → Bool
iterations_clash given nd v body = lists_clash given nd body (map (renamed_effect v) body)
