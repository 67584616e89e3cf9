use Rattle.std.proofs.Common.{◌≡◌, ℕ, ◌&&◌, drop}
use Rattle.std.specs.List.{list_any}
use Rattle.body_locals.specs.Gains.{gained}
use Rattle.body_locals.specs.Touches.{path_reads, is_outer}
use Rattle.body_locals.proofs.reads.read_paths.Given as goal

abbrev pub invariant-loop-path : goal.invariant-loop-path
invariant-loop-path l =
    (x : ℕ) → gained l.inside l.reads (λ x. is_outer x l.suffixes l.own && list_any (path_reads x) (drop l.path-index l.paths)) x ≡ gained l.fn.inside l.fn.reads (λ x. is_outer x l.suffixes l.own && list_any (path_reads x) l.paths) x
