-- Members without bodies.
use Rattle.std.proofs.Common.{◌≡◌, ℕ, List, [], ◌∷◌, refl}
use Rattle.decl_table.specs.declared.rows.MethodRow.{MethodRow}
use Rattle.body_assembly.specs.Assembled.{members_of}
use Rattle.body_assembly.specs.Named.{members_named}

pub no_bodies : (rows : List MethodRow) → members_of rows [] ≡ []
no_bodies [] = refl
no_bodies (row ∷ rows) = refl

pub no_names : (names : List (List ℕ)) (rows : List MethodRow) → members_named names rows [] ≡ []
no_names names [] = refl
no_names names (row ∷ rows) = refl
