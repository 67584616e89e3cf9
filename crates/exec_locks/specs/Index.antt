-- How the blocks are found that may interfere: by numbers of the fixed elements at the front of a path.
use Rattle.std.specs.Prelude.{◌≡◌, ℕ, ◌++◌, ◌≤◌, ◌≢◌, ◌⊎◌, ◌||◌, ◌==◌, nat_eq, cond, fold, nat_lt, Bool, true, false, List, [], ◌∷◌, Option, Some, None, MatchBool}
use Rattle.std.specs.Ordering.{nat_cmp}
use Rattle.std.specs.HashMap.{HashMap, get}
use Rattle.std.specs.BTreeSet.{contains}
use Rattle.std.specs.declared.hash.BuildHasherDefault.{BuildHasherDefault}
use Rattle.std.specs.declared.hash.FoldHasher.{FoldHasher}
use Rattle.lang_base.specs.declared.elems.Elem.{Elem}
use Rattle.lang_base.specs.declared.effect.Access.{Access}
use Rattle.lang_base.specs.declared.effect.Access.TheVariants.{Read, Write}
use Rattle.lang_base.specs.declared.effect.Effect.{Effect}
use Rattle.lang_base.specs.Matching.{is_concrete}
use Rattle.exec_locks.specs.declared.index.Index.{Index}
use Rattle.exec_locks.specs.declared.standing.Standing.{Standing}
use Rattle.exec_locks.specs.declared.standing.Standing.TheVariants.{Opener}
use Rattle.exec_locks.specs.declared.task_set.TaskSet.{TaskSet}
use Rattle.exec_locks.specs.declared.task_set.TaskSet.TheVariants.{One, Two, Many}
use Rattle.exec_locks.specs.Locks.{Standings, AllRoot, hinders}
use Rattle.std.specs.FinMap as map
use Rattle.std.specs.Hash as fed
use Rattle.std.specs.Hash.FoldHasher as folding
use Rattle.lang_base.specs.contracts.elems.ElemHash.TheImpl as hashed

-- the task is one of these
abbrev pub holds : TaskSet → ℕ → Bool
holds (One one) q = one == q
holds (Two one other) q = one == q || other == q
holds (Many set) q = contains nat_cmp set q

-- sets of tasks under numbers
abbrev pub Sets : Type 0
Sets = HashMap ℕ TaskSet (BuildHasherDefault FoldHasher)

abbrev pub has_in : Option TaskSet → ℕ → Bool
has_in None q = false
has_in (Some set) q = holds set q

-- the task is in the set under the number
abbrev pub has : Sets → ℕ → ℕ → Bool
has sets number q = has_in (get nat_eq sets number) q

abbrev pub first_number : ℕ
first_number = 7

-- the number of a path that is longer by one element: a hash of the number before and the element
unfoldable pub mixed : ℕ → Elem → ℕ
mixed number x = folding.finish (fold folding.write folding.initial (fed.u64 number ++ (hashed.ghosts).hash_input x))

-- the task is found under the numbers of the fixed fronts of its path, and as ending there under that of the longest
abbrev pub NotedFrom : Sets → Sets → ℕ → ℕ → List Elem → Type 0
NotedFrom under ending q number [] = has ending number q ≡ true
NotedFrom under ending q number (x ∷ xs) =
    MatchBool (is_concrete x) ((has under number q ≡ true) × NotedFrom under ending q (mixed number x) xs) (has ending number q ≡ true)

-- a search for a path meets the task: among those that end at some fixed front of it, or among those that go on after the longest
abbrev pub Met : Sets → Sets → ℕ → ℕ → List Elem → Type 0
Met under ending q number [] = (has ending number q ≡ true) ⊎ (has under number q ≡ true)
Met under ending q number (x ∷ xs) =
    (has ending number q ≡ true) ⊎ MatchBool (is_concrete x) (Met under ending q (mixed number x) xs) (has under number q ≡ true)

-- the index under which an effect is noted, by its access
abbrev pub NotedBy : Index → Index → ℕ → Access → List Elem → Type 0
NotedBy reads writes q Read elems = NotedFrom reads.under reads.ending q first_number elems
NotedBy reads writes q Write elems = NotedFrom writes.under writes.ending q first_number elems

-- the task is found by each of these effects
abbrev pub AllNoted : Index → Index → ℕ → List Effect → Type 0
AllNoted reads writes q [] = Unit {0}
AllNoted reads writes q (f ∷ fs) = NotedBy reads writes q f.access f.rpl.elems × AllNoted reads writes q fs

-- a search for an effect meets the task: a read looks among the writes, a write among both
abbrev pub MetBy : Index → Index → ℕ → Access → List Elem → Type 0
MetBy reads writes q Read elems = Met writes.under writes.ending q first_number elems
MetBy reads writes q Write elems = Met reads.under reads.ending q first_number elems ⊎ Met writes.under writes.ending q first_number elems

abbrev pub MetAny : Index → Index → ℕ → List Effect → Type 0
MetAny reads writes q [] = ⊥
MetAny reads writes q (e ∷ es) = MetBy reads writes q e.access e.rpl.elems ⊎ MetAny reads writes q es

-- an index with nothing less
pub record IsGrown (old new : Index) : Type 0 where
  pub under : (k q : ℕ) → has old.under k q ≡ true → has new.under k q ≡ true
  pub ending : (k q : ℕ) → has old.ending k q ≡ true → has new.ending k q ≡ true

-- an index with nothing less of other tasks
pub record KeepsOthers (task : ℕ) (old new : Index) : Type 0 where
  pub under : (k q : ℕ) → q ≢ task → has old.under k q ≡ true → has new.under k q ≡ true
  pub ending : (k q : ℕ) → q ≢ task → has old.ending k q ≡ true → has new.ending k q ≡ true

-- the task, if it hinders
abbrev pub hindering : Standings → ℕ → List Effect → ℕ → Option ℕ
hindering locks task wants q = cond (hinders locks task wants q) (Some q) None

-- the lesser of two numbers, as far as there are any
abbrev pub lesser : Option ℕ → Option ℕ → Option ℕ
lesser None other = other
lesser (Some a) None = Some a
lesser (Some a) (Some b) = cond (nat_lt b a) (Some b) (Some a)

abbrev pub AtMost : Option ℕ → ℕ → Type 0
AtMost None q = ⊥
AtMost (Some h) q = h ≤ q

-- the block of an opener begins its paths at the root, and is found by its effects
abbrev pub IsFound : Index → Index → ℕ → Option Standing → Type 0
IsFound reads writes q (Some (Opener effects depth)) = AllRoot effects × AllNoted reads writes q effects
IsFound reads writes q standing = Unit {0}

-- what the locks keep: every block is found
abbrev pub IsIndexed : Index → Index → Standings → Type 0
IsIndexed reads writes locks = (q : ℕ) → IsFound reads writes q (map.get locks q)
