-- The way through all classes: a class is entered after its superclass, and left after all that extends it.
use Rattle.std.specs.Prelude.{◌≡◌, ℕ, zero, suc, ◌+◌, ◌<◌, false, List, [], ◌∷◌, ◌++◌, map, length, replicate, slice_set, slice_index_or, Option, None, Some}
use Rattle.decl_headers.specs.declared.forest.Step.{Step}
use Rattle.decl_headers.specs.declared.forest.Step.TheVariants as step
use Rattle.decl_headers.specs.Numbers.{as_number}
use Rattle.decl_headers.specs.Rounds.{entry_of, is_round}

-- a further class stands under its superclass
abbrev pub with_filed : List (List ℕ) → ℕ → ℕ → List (List ℕ)
with_filed lists at number = slice_set lists at (slice_index_or lists at [] ++ number ∷ [])

abbrev pub filed : List (List ℕ) → ℕ → List (Option ℕ) → List (List ℕ)
filed lists at [] = lists
filed lists at (None ∷ parents) = filed lists (at + 1) parents
filed lists at (Some above ∷ parents) = filed (with_filed lists above (as_number at)) (at + 1) parents

-- of each class, the classes that extend it
abbrev pub extensions : List (Option ℕ) → List (List ℕ)
extensions parents = filed (replicate (length parents) []) 0 parents

abbrev pub extending : List (List ℕ) → ℕ → List ℕ
extending lists class = slice_index_or lists class []

-- the classes without a superclass, counted on from a number
abbrev pub roots : ℕ → List (Option ℕ) → List ℕ
roots at [] = []
roots at (None ∷ parents) = as_number at ∷ roots (at + 1) parents
roots at (Some above ∷ parents) = roots (at + 1) parents

-- what each of the classes gives, the last first
abbrev pub last_first : {A : Type 0} → (ℕ → List A) → List ℕ → List A
last_first f [] = []
last_first f (class ∷ classes) = last_first f classes ++ f class

-- into a class, through all that extends it, and out again, so many classes deep at most
abbrev pub walk : List (List ℕ) → ℕ → ℕ → List Step
walk lists zero class = []
walk lists (suc n) class = step.Enter class ∷ (last_first (λ below. walk lists n below) (extending lists class) ++ step.Leave class ∷ [])

-- through each of the classes
abbrev pub walks : List (List ℕ) → ℕ → List ℕ → List Step
walks lists n [] = []
walks lists n (class ∷ classes) = walk lists n class ++ walks lists n classes

-- each of the classes has the fact
abbrev pub Each : (ℕ → Type 0) → List ℕ → Type 0
Each P [] = Unit {0}
Each P (class ∷ classes) = P class × Each P classes

-- the walk has an end, so many classes deep
abbrev pub IsEnded : List (List ℕ) → ℕ → ℕ → Type 0
IsEnded lists zero class = ⊥
IsEnded lists (suc n) class = Each (λ below. IsEnded lists n below) (extending lists class)

-- no way goes deeper
abbrev pub deep : List (Option ℕ) → ℕ
deep parents = suc (suc (length parents))

-- there are fewer of them than numbers
abbrev pub IsCounted : {A : Type 0} → List A → Type 0
IsCounted list = length list < 4294967295

abbrev pub way_of : List (Option ℕ) → List Step
way_of parents = walks (extensions parents) (deep parents) (roots 0 parents)

-- the steps into the classes
abbrev pub entered_below : List ℕ → List Step
entered_below classes = map (λ class. step.Enter class) classes

-- what comes after a step, the last first
abbrev pub following : List (List ℕ) → Step → List Step
following lists (step.Enter class) = step.Leave class ∷ entered_below (extending lists class)
following lists (step.Leave class) = []

-- the superclasses of classes: there are fewer classes than numbers, each superclass is there, and no class is its own
pub record IsForest (parents : List (Option ℕ)) : Type 0 where
  pub counted : IsCounted parents
  pub straight : (at : ℕ) → is_round parents at ≡ false
  pub within : (at above : ℕ) → entry_of parents at ≡ Some above → above < length parents

-- what each class has, where it is made on entering the class from what other classes have
abbrev pub entered : {A : Type 0} → (List A → ℕ → A) → List A → Step → List A
entered make made (step.Enter class) = slice_set made class (make made class)
entered make made (step.Leave class) = made

abbrev pub entered_on : {A : Type 0} → (List A → ℕ → A) → List A → List Step → List A
entered_on make made [] = made
entered_on make made (s ∷ steps) = entered_on make (entered make made s) steps
