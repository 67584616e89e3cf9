use Rattle.std.proofs.Common.{◌≡◌, ◌++◌, drop}
use Rattle.std.specs.List.{flat_map}
use Rattle.decl_headers.specs.Gathered.{member_regions}
use Rattle.decl_headers.proofs.regions.add_regions.Given as goal

abbrev pub invariant-loop-member : goal.invariant-loop-member
invariant-loop-member l = l.rows ++ flat_map (member_regions l.class) (drop l.member-index l.members) ≡ l.initial.rows ++ flat_map (member_regions l.class) l.members
