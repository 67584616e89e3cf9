use Rattle.std.proofs.Common.{◌++◌, ap, ◌∙◌}
use Rattle.std.specs.List.{flat_map}
use Rattle.decl_headers.specs.Gathered.{member_regions}
use Rattle.decl_headers.proofs.Declared.{regions_more}
use Rattle.decl_headers.proofs.regions.all_regions.Goals as goal

pub loop-at-preserved : goal.loop-at-preserved
loop-at-preserved c =
    regions_more c.args.classes.now c.loop-at.at c.number_at.result c.index-classes-at.result c.loop-at.rows c.add_regions.new.rows c.loop-at-test.true c.index-classes-at.is c.number_at.ensures
    (c.in_ok-add_regions.ensures ∙ ap (λ members. c.loop-at.rows ++ flat_map (member_regions c.number_at.result) members) c.as_slice.ensures)
    c.loop-at.invariant
