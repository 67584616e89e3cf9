use Rattle.std.proofs.Common.{◌≡◌, ◌++◌, drop, map}
use Rattle.std.specs.List.{flat_map}
use Rattle.syntax_means.specs.Declares.{member_fields, own_fields, spelled}
use Rattle.tool_front.proofs.fields.own_names.Given as goal

abbrev pub invariant-loop-member : goal.invariant-loop-member
invariant-loop-member l =
    l.own ++ map (λ field. spelled l.tree field.name) (flat_map member_fields (drop l.member-index l.member-items))
    ≡ map (λ field. spelled l.tree field.name) (own_fields l.class)
