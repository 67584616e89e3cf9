use Rattle.std.proofs.Common.{◌≡◌, drop, codes}
use Rattle.std.specs.Option.{option_map}
use Rattle.std.specs.List.{position_from}
use Rattle.std.specs.Str.{bytes_eq}
use Rattle.decl_headers.specs.Numbers.{as_number}
use Rattle.decl_headers.specs.Gathered.{name_number}
use Rattle.body_exprs.proofs.env.length_name.Given as goal

abbrev pub invariant-loop-at : goal.invariant-loop-at
invariant-loop-at l = option_map as_number (position_from (λ name. bytes_eq name (codes "length")) l.at (drop l.at l.names)) ≡ name_number l.names (codes "length")
