-- Sets of names, told by what they have.
use Rattle.std.specs.Prelude.{◌≡◌, ℕ, Bool, not, ◌&&◌, ◌||◌, ◌==◌, List}
use Rattle.std.specs.List.{list_any}
use Rattle.std.specs.Ordering.{nat_cmp}
use Rattle.std.specs.BTreeSet.{BTreeSet, contains}

abbrev pub has : BTreeSet ℕ → ℕ → Bool
has names x = contains nat_cmp names x

-- both sets have the same names
abbrev pub Same : BTreeSet ℕ → BTreeSet ℕ → Type 0
Same before after = (x : ℕ) → has after x ≡ has before x

-- the name is in the set, or isn't inside and is asked for
abbrev pub gained : BTreeSet ℕ → BTreeSet ℕ → (ℕ → Bool) → ℕ → Bool
gained inside before reported x = has before x || (not (has inside x) && reported x)

-- the set gains the names that are asked for and aren't inside
abbrev pub Gains : BTreeSet ℕ → BTreeSet ℕ → BTreeSet ℕ → (ℕ → Bool) → Type 0
Gains inside before after reported = (x : ℕ) → has after x ≡ gained inside before reported x

-- one of the names is this
abbrev pub is_noted : List ℕ → ℕ → Bool
is_noted noted x = list_any (λ y. y == x) noted

-- the first scope is the second one without the noted names
abbrev pub Scoped : BTreeSet ℕ → BTreeSet ℕ → List ℕ → Type 0
Scoped outer inner noted = (x : ℕ) → has outer x ≡ (has inner x && not (is_noted noted x))
