-- The laws of region paths and of disjoint paths, as statements.
use Rattle.std.specs.Prelude.{◌↔◌, List, [], IsTrue, ◌≡◌, ◌≢◌, ◌≤◌, ◌==◌, ◌&&◌, ℕ, ℤ, zero, pos, Bool, true, false, cond, ◌∷◌, All, count_by}
use Rattle.lang_base.specs.declared.elems.Elem.{Elem}
use Rattle.lang_base.specs.declared.region.Head.TheVariants.{Root, Param}
use Rattle.lang_base.specs.declared.region.Rpl.{Rpl}
use Rattle.lang_base.specs.declared.effect.Constraint.{Constraint}
use Rattle.lang_base.specs.Regions.{within, argument, substituted, same_elem, fully_specified, generalised}
use Rattle.lang_base.specs.Apart.{apart}
use Rattle.lang_base.specs.Matching.{all_concrete, Env, IsEnv, Holds, put_in, Matches, MatchNoCommon, with_regions, all_plain, number_of, put_elem, head_region, Fits, MatchesMore, with_index}
use Rattle.lang_base.specs.declared.elems.Elem.TheVariants.{At}
use Rattle.lang_base.specs.declared.elems.Index.{Index}
use Rattle.lang_base.specs.declared.elems.Index.TheVariants.{Literal, Variable, Renamed}
use Rattle.lang_base.specs.Branches.{renamed_rpl}
use Rattle.lang_base.specs.Types.{path_at}

-- paths that are apart match no common region, in any environment
abbrev pub ApartMatchNoCommon : Type 0
ApartMatchNoCommon = (given : List Constraint) (env : Env) → IsEnv given env → (a b : Rpl) → IsTrue (apart given a b) → MatchNoCommon env a b

-- whatever lies in two paths that are apart, with an environment put in, is apart without constraints
abbrev pub PatternsStayApart : Type 0
PatternsStayApart = (given : List Constraint) (env : Env) → IsEnv given env → (a b p q : Rpl) → IsTrue (apart given a b) → IsTrue (within p (put_in env a)) →
    IsTrue (within q (put_in env b)) → IsTrue (apart [] p q)

-- what lies in two paths that are apart is apart
abbrev pub IncludedStayApart : Type 0
IncludedStayApart = (given : List Constraint) (a b c d : Rpl) → IsTrue (within a b) → IsTrue (within c d) → IsTrue (apart given b d) → IsTrue (apart given a c)

-- if one path is apart from another, that one is from it
abbrev pub ApartIsSymmetric : Type 0
ApartIsSymmetric = (given : List Constraint) (a b : Rpl) → IsTrue (apart given a b) → IsTrue (apart given b a)

-- a path matches exactly the concrete regions that, as paths, lie in it with the environment put in
abbrev pub MatchingIsInclusion : Type 0
MatchingIsInclusion = (given : List Constraint) (env : Env) → IsEnv given env → (a : Rpl) (r : List Elem) →
    Matches env a r ↔ (IsTrue (all_concrete r) × IsTrue (within (record { head = Root; elems = r }) (put_in env a)))

-- a constraint that the rules find to hold with arguments put in holds where the parameters stand for the arguments
abbrev pub ConstraintCarried : Type 0
ConstraintCarried = (given : List Constraint) (env : Env) → IsEnv given env → (args : List Rpl) (c : Constraint) →
    IsTrue (apart given (substituted args c.left) (substituted args c.right)) → Holds (with_regions env (λ p. (put_in env (argument args p)).elems)) c

-- what lies in a path matches only regions that the path matches, in every environment
abbrev pub IncludedMatchesLess : Type 0
IncludedMatchesLess = (given : List Constraint) (env : Env) → IsEnv given env → (a b : Rpl) → IsTrue (within a b) → MatchesMore env a b

-- a path lies in itself
abbrev pub InclusionIsReflexive : Type 0
InclusionIsReflexive = (a : Rpl) → IsTrue (within a a)

-- what lies in a path that lies in a third lies in the third
abbrev pub InclusionIsTransitive : Type 0
InclusionIsTransitive = (a b c : Rpl) → IsTrue (within a b) → IsTrue (within b c) → IsTrue (within a c)

-- a fully specified path matches one region: that of its elements with the environment put in
abbrev pub SpecifiedMatchesOne : Type 0
SpecifiedMatchesOne = (env : Env) (a : Rpl) → IsTrue (fully_specified a) → (r : List Elem) → Matches env a r ↔ (r ≡ (put_in env a).elems)

-- what a path matches is a concrete region
abbrev pub MatchedIsConcrete : Type 0
MatchedIsConcrete = (given : List Constraint) (env : Env) → IsEnv given env → (a : Rpl) (r : List Elem) → Matches env a r → IsTrue (all_concrete r)

-- there are environments
abbrev pub EnvironmentsExist : Type 0
EnvironmentsExist = (env : Env) × IsEnv [] env

-- a path with its argument put in matches what the path matches where its parameter stands for some region
-- that the argument matches
abbrev pub SubstitutionMatches : Type 0
SubstitutionMatches = (env : Env) (args : List Rpl) (a : Rpl) (r : List Elem) →
    Matches env (substituted args a) r ↔ ((regions : ℕ → List Elem) × ((p : ℕ) → Matches env (argument args p) (regions p)) × Matches (with_regions env regions) a r)

-- the environment put in after the arguments is the environment in which the parameters stand for them
abbrev pub SubstitutionPutsIn : Type 0
SubstitutionPutsIn = (env : Env) (args : List Rpl) (a : Rpl) →
    put_in env (substituted args a) ≡ put_in (with_regions env (λ p. (put_in env (argument args p)).elems)) a

-- a general path matches what the path matches, whatever number the variable has
abbrev pub GeneralMatchesMore : Type 0
GeneralMatchesMore = (env : Env) (a : Rpl) (v : ℕ) (k : ℤ) (r : List Elem) → Matches (with_index env v k) a r → Matches env (generalised v a) r

-- where the variable occurs at most once, the general path matches nothing else
abbrev pub GeneralMatchesNoMore : Type 0
GeneralMatchesNoMore = (env : Env) (a : Rpl) (v : ℕ) → count_by (λ x. same_elem x (At (Variable v))) a.elems ≤ 1 → (r : List Elem) →
    Matches env (generalised v a) r → (k : ℤ) × Matches (with_index env v k) a r

-- what a general path matches doesn't depend on the variable
abbrev pub GeneralForgets : Type 0
GeneralForgets = (env : Env) (a : Rpl) (v : ℕ) (k : ℤ) (r : List Elem) → Matches env (generalised v a) r ↔ Matches (with_index env v k) (generalised v a) r

-- a path lies in the general one
abbrev pub IncludedInGeneral : Type 0
IncludedInGeneral = (a : Rpl) (v : ℕ) → IsTrue (within a (generalised v a))

-- two environments agree on what occurs in a path: on the region of its head, and on each element with them put in
pub record AgreeOn (env other : Env) (a : Rpl) : Type 0 where
  pub head : head_region env a.head ≡ head_region other a.head
  pub elems : All (λ x. put_elem env x ≡ put_elem other x) a.elems

-- what a path matches depends on nothing but what occurs in it
abbrev pub MatchesByWhatOccurs : Type 0
MatchesByWhatOccurs = (env other : Env) (a : Rpl) → AgreeOn env other a → (r : List Elem) → Matches env a r ↔ Matches other a r

-- the environment with another number for the own index of an array type around
abbrev pub with_own : Env → ℕ → ℤ → Env
with_own env d k = record env { own = λ e. cond (d == e) k (env.own e) }

-- an element that may be the number k, put in for an own index, matches what the path matches where that index is k
abbrev pub OwnIndexMatchesMore : Type 0
OwnIndexMatchesMore = (env : Env) (a : Rpl) (d : ℕ) (x : Elem) (k : ℤ) → Fits env x (At (Literal k) ∷ []) → (r : List Elem) → Matches (with_own env d k) a r →
    Matches env (path_at d x a) r

-- an index put in for an own index matches exactly what the path matches where the own index is its number
abbrev pub OwnIndexPutsIn : Type 0
OwnIndexPutsIn = (env : Env) (a : Rpl) (d : ℕ) (x : Index) (r : List Elem) → Matches env (path_at d (At x) a) r ↔ Matches (with_own env d (number_of env x)) a r

-- the renamed copy of a path matches exactly what the path matches where the variable has the copy's number
abbrev pub RenamedMatches : Type 0
RenamedMatches = (env : Env) (a : Rpl) (v : ℕ) (r : List Elem) → Matches env (renamed_rpl v a) r ↔ Matches (with_index env v (env.renamed v)) a r

-- where the argument for the parameter at the path's head is fully specified and matches its region, the path matches
-- what it matches with the argument put in
abbrev pub KnownArgumentMatches : Type 0
KnownArgumentMatches = (env : Env) (args : List Rpl) (a : Rpl) (regions : ℕ → List Elem) →
    ((p : ℕ) → a.head ≡ Param p → IsTrue (fully_specified (argument args p)) × Matches env (argument args p) (regions p)) →
    (r : List Elem) → Matches env (substituted args a) r → Matches (with_regions env regions) a r

-- a parameter by itself
abbrev pub parameter : ℕ → Rpl
parameter p = record { head = Param p; elems = [] }

-- a parameter by itself matches its region alone
abbrev pub ParameterMatchesItself : Type 0
ParameterMatchesItself = (env : Env) (p : ℕ) (r : List Elem) → Matches env (parameter p) r ↔ (r ≡ env.region p)

-- parameters put in for themselves leave a path as it is
abbrev pub OwnParametersPutIn : Type 0
OwnParametersPutIn = (args : List Rpl) (a : Rpl) → ((p : ℕ) → argument args p ≡ parameter p) → substituted args a ≡ a

-- the element is no renamed copy; the constraint has none
abbrev pub is_no_copy : Elem → Bool
is_no_copy (At (Renamed _)) = false
is_no_copy x = true

abbrev pub no_copies : List Elem → Bool
no_copies [] = true
no_copies (x ∷ a) = is_no_copy x && no_copies a

abbrev pub HasNoCopies : Constraint → Type 0
HasNoCopies c = IsTrue (no_copies c.left.elems && no_copies c.right.elems)

-- another number than this
abbrev pub another : ℤ → ℤ
another (pos zero) = pos 1
another k = pos 0

-- the environment with a number for the copy of one variable, and another than the variable's own for those of the rest
abbrev pub with_copy : Env → ℕ → ℤ → Env
with_copy env v j = record env { renamed = λ w. cond (v == w) j (another (env.index w)) }

-- what holds in a run, where copies have no numbers, is an environment for two different iterations of a loop
abbrev pub CopiesExist : Type 0
CopiesExist = (given : List Constraint) (env : Env) → ((p : ℕ) → IsTrue (all_plain (env.region p))) →
    ((a b c d : ℕ) → env.made a b ≡ env.made c d → (a ≡ c) × (b ≡ d)) → All (Holds env) given → All HasNoCopies given →
    (v : ℕ) (j : ℤ) → env.index v ≢ j → IsEnv given (with_copy env v j)
