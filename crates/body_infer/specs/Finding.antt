-- What a set of numbers finds: what a list has.
use Rattle.std.specs.Prelude.{◌≡◌, ℕ, ◌==◌, nat_eq, List}
use Rattle.std.specs.List.{list_any}
use Rattle.indexmap.specs.IndexSet.{IndexSet, contains}

abbrev pub Finds : {S : Type 0} → IndexSet ℕ S → List ℕ → Type 0
Finds set list = (number : ℕ) → contains nat_eq set number ≡ list_any (λ n. n == number) list
