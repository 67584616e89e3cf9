-- Tasks noted under the fronts of a path, and a search that meets them.
use Rattle.std.proofs.Common.{◌≡◌, ℕ, ◌+◌, ◌<◌, List, ◌∷◌, ◌∙◌, true}
use Rattle.lang_base.specs.declared.elems.Elem.{Elem}
use Rattle.exec_locks.specs.Index.{Sets, has, first_number, NotedFrom}

-- whatever is noted of the rest of the elements from here on is noted of all
abbrev pub Leads : Sets → ℕ → ℕ → List Elem → List Elem → Type 0
Leads now task number rest all =
    (under ending : Sets) → ((k : ℕ) → has now k task ≡ true → has under k task ≡ true) → NotedFrom under ending task number rest
    → NotedFrom under ending task first_number all
