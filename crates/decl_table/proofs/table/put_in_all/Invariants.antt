use Rattle.std.proofs.Common.{◌≡◌, take, map}
use Rattle.lang_base.specs.Regions.{substituted}
use Rattle.decl_table.proofs.table.put_in_all.Given as goal

abbrev pub invariant-loop-path : goal.invariant-loop-path
invariant-loop-path l = l.made ≡ map (substituted l.args) (take l.path-index l.paths)
