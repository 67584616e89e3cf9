-- What region paths mean: environments, and the concrete regions that a path matches.
use Rattle.std.specs.Prelude.{◌≡◌, ◌≢◌, ℕ, ℤ, Bool, true, false, ◌&&◌, cond, ◌==◌, IsTrue, List, [], ◌∷◌, ◌++◌, map, All}
use Rattle.lang_base.specs.declared.elems.Elem.{Elem}
use Rattle.lang_base.specs.declared.elems.Elem.TheVariants.{Name, At, Any, Star, Local}
use Rattle.lang_base.specs.declared.elems.Index.{Index}
use Rattle.lang_base.specs.declared.elems.Index.TheVariants.{Literal, Variable, Renamed, Own}
use Rattle.lang_base.specs.declared.region.Head.{Head}
use Rattle.lang_base.specs.declared.region.Head.TheVariants.{Root, Param}
use Rattle.lang_base.specs.declared.region.Rpl.{Rpl}
use Rattle.lang_base.specs.declared.effect.Constraint.{Constraint}
use Rattle.lang_base.specs.Apart.{apart}

-- a name or a whole number: it stands for itself, and is no local region
abbrev pub is_plain : Elem → Bool
is_plain (Name _) = true
is_plain (At (Literal _)) = true
is_plain _ = false

abbrev pub all_plain : List Elem → Bool
all_plain [] = true
all_plain (x ∷ r) = is_plain x && all_plain r

-- a concrete region is a list of names, whole numbers and made local regions
abbrev pub is_concrete : Elem → Bool
is_concrete (Local _ _) = true
is_concrete x = is_plain x

abbrev pub all_concrete : List Elem → Bool
all_concrete [] = true
all_concrete (x ∷ r) = is_concrete x && all_concrete r

-- what the parameters, the indices and the local regions of a text stand for in a run
pub record Env : Type 0 where
  -- the elements of a parameter's region
  pub region : ℕ → List Elem
  -- the index variables, by their slots; the copies of loop variables; and the own indices of array types around
  pub index : ℕ → ℤ
  pub renamed : ℕ → ℤ
  pub own : ℕ → ℤ
  pub made : ℕ → ℕ → ℕ × ℕ

-- the number that an index is
abbrev pub number_of : Env → Index → ℤ
number_of env (Literal k) = k
number_of env (Variable v) = env.index v
number_of env (Renamed v) = env.renamed v
number_of env (Own d) = env.own d

-- an element with the environment put in
abbrev pub put_elem : Env → Elem → Elem
put_elem env (At x) = At (Literal (number_of env x))
put_elem env (Local a b) = Local (env.made a b).0 (env.made a b).1
put_elem env x = x

abbrev pub head_region : Env → Head → List Elem
head_region env Root = []
head_region env (Param p) = env.region p

-- a path with the environment put in: names, numbers, made local regions, `[?]` and `*` after `Root`
unfoldable pub put_in : Env → Rpl → Rpl
put_in env a = record { head = Root; elems = head_region env a.head ++ map (put_elem env) a.elems }

-- which elements of a region one element of a path fits
abbrev pub Fits : Env → Elem → List Elem → Type 0
Fits env (Name n) r = r ≡ Name n ∷ []
Fits env (At x) r = r ≡ At (Literal (number_of env x)) ∷ []
Fits env Any r = (k : ℤ) × (r ≡ At (Literal k) ∷ [])
Fits env Star r = IsTrue (all_plain r)
Fits env (Local a b) r = r ≡ Local (env.made a b).0 (env.made a b).1 ∷ []

-- the elements of a path fit the region piece by piece
abbrev pub FitsAll : Env → List Elem → List Elem → Type 0
FitsAll env [] r = r ≡ []
FitsAll env (x ∷ a) r = (piece rest : List Elem) × (r ≡ piece ++ rest) × Fits env x piece × FitsAll env a rest

-- the region is that of the path's head and then one that its elements fit
unfoldable pub Matches : Env → Rpl → List Elem → Type 0
Matches env a r = (rest : List Elem) × (r ≡ head_region env a.head ++ rest) × FitsAll env a.elems rest

-- the constraint holds: with the environment put in, its sides are apart
abbrev pub Holds : Env → Constraint → Type 0
Holds env c = IsTrue (apart [] (put_in env c.left) (put_in env c.right))

-- an environment of a text in which these constraints are in force
pub record IsEnv (given : List Constraint) (env : Env) : Type 0 where
  pub regions : (p : ℕ) → IsTrue (all_plain (env.region p))
  pub copies : (v : ℕ) → env.index v ≢ env.renamed v
  pub locals : (a b c d : ℕ) → env.made a b ≡ env.made c d → (a ≡ c) × (b ≡ d)
  pub constraints : All (Holds env) given

-- every region that the first path matches the second matches too
abbrev pub MatchesMore : Env → Rpl → Rpl → Type 0
MatchesMore env a b = (r : List Elem) → Matches env a r → Matches env b r

-- no region is matched by both paths
abbrev pub MatchNoCommon : Env → Rpl → Rpl → Type 0
MatchNoCommon env a b = (r : List Elem) → Matches env a r → Matches env b r → ⊥

-- the environment with other regions for the parameters
abbrev pub with_regions : Env → (ℕ → List Elem) → Env
with_regions env regions = record env { region = regions }

-- the environment with another number for one variable
abbrev pub with_index : Env → ℕ → ℤ → Env
with_index env v k = record env { index = λ w. cond (v == w) k (env.index w) }
