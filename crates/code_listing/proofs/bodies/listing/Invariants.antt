use Rattle.std.proofs.Common.{◌≡◌, ◌++◌, drop}
use Rattle.std.specs.List.{flat_map}
use Rattle.code_listing.specs.Listing.{body_text}
use Rattle.code_listing.proofs.bodies.listing.Given as goal

abbrev pub invariant-loop-body : goal.invariant-loop-body
invariant-loop-body l = l.text ++ flat_map body_text (drop l.body-index l.body-items) ≡ flat_map body_text l.body-items
