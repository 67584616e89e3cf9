use Rattle.std.proofs.Common.{◌≡◌, ◌++◌, map, drop}
use Rattle.lang_base.specs.Regions.{substituted}
use Rattle.body_infer.proofs.classes.all_subst.Given as goal

abbrev pub invariant-loop-path : goal.invariant-loop-path
invariant-loop-path l = l.all ++ map (substituted l.args) (drop l.path-index l.path-items) ≡ map (substituted l.args) l.path-items
