-- One region parameter more.
use Rattle.std.proofs.Common.{◌≡◌, ℕ, ◌+◌, [], ◌∷◌, ◌++◌, ap, add-one}
use Rattle.decl_headers.specs.Numbers.{as_number}
use Rattle.decl_classes.specs.Overriding.{param_path, params_from}

pub params_more : (from n : ℕ) → params_from from (n + 1) ≡ params_from from n ++ param_path (as_number (from + n)) ∷ []
params_more from n = ap (params_from from) (add-one n)
