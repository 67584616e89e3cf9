-- `Root` for the parameters that are written no argument.
use Rattle.std.proofs.Common.{◌≡◌, ℕ, ◌+◌, ◌<◌, false, List, [], ◌∷◌, ◌++◌, take, length}
use Rattle.std.proofs.lemmas.List.{map_more}
use Rattle.decl_headers.specs.declared.header.ParamRow.{ParamRow}
use Rattle.decl_resolve.specs.Args.{root_path, roots}

-- `Root` for one parameter more
pub roots_more : (params : List ParamRow) (i : ℕ) → i < length params → roots (take (i + 1) params) ≡ roots (take i params) ++ root_path ∷ []
roots_more params i below = map_more (λ param. root_path) params i (record { name = 0; atomic = false }) below
