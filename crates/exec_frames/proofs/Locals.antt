-- Local regions, whosever names they have.
use Rattle.std.proofs.Common.{◌≡◌, ℕ, List, [], ◌∷◌, ◌++◌, get_or, refl, Some, None}
use Rattle.std.specs.Prelude.{slice_get}
use Rattle.std.proofs.lemmas.List.{map-append}
use Rattle.exec_frames.specs.Names.{Reading, Of_task, In_order, local_by, locals_by, unmade_by}
use Rattle.exec_frames.proofs.Lists.{none_there, some_there, none_at, some_at}

pub none_local : (k : Reading) (ls : List (ℕ × ℕ)) (r : ℕ) → slice_get ls r ≡ None → get_or (locals_by k ls) r (unmade_by k r) ≡ local_by k (r, 0)
none_local (Of_task task) ls r e = none_at ls r (r, 0) e
none_local In_order ls r e = none_there (local_by In_order) ls r (local_by In_order (r, 0)) e

pub some_local : (k : Reading) (ls : List (ℕ × ℕ)) (r : ℕ) (l : ℕ × ℕ) → slice_get ls r ≡ Some l → get_or (locals_by k ls) r (unmade_by k r) ≡ local_by k l
some_local (Of_task task) ls r l e = some_at ls r (r, 0) l e
some_local In_order ls r l e = some_there (local_by In_order) ls r (local_by In_order (r, 0)) l e

pub no_locals : (k : Reading) → locals_by k [] ≡ []
no_locals (Of_task task) = refl
no_locals In_order = refl

pub one_local : (k : Reading) (ls : List (ℕ × ℕ)) (r : ℕ) → locals_by k (ls ++ (r, 0) ∷ []) ≡ locals_by k ls ++ unmade_by k r ∷ []
one_local (Of_task task) ls r = refl
one_local In_order ls r = map-append (local_by In_order) ls ((r, 0) ∷ [])
