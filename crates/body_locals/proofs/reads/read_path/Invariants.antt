use Rattle.std.proofs.Common.{◌≡◌, ℕ, ◌&&◌, drop}
use Rattle.std.specs.List.{list_any}
use Rattle.body_locals.specs.Gains.{gained}
use Rattle.body_locals.specs.Touches.{elem_reads, is_outer}
use Rattle.body_locals.proofs.reads.read_path.Given as goal

abbrev pub invariant-loop-elem : goal.invariant-loop-elem
invariant-loop-elem l =
    (x : ℕ) → gained l.inside l.reads (λ x. is_outer x l.suffixes l.own && list_any (elem_reads x) (drop l.elem-index l.elem-items)) x ≡ gained l.fn.inside l.fn.reads (λ x. is_outer x l.suffixes l.own && list_any (elem_reads x) l.elem-items) x
