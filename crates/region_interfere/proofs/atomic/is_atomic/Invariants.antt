use Rattle.std.proofs.Common.{◌≡◌, drop}
use Rattle.lang_base.specs.Branches.{atomic_path}
use Rattle.region_interfere.specs.Nd.{plain_atomic}
use Rattle.region_interfere.proofs.Ends.{atomic_from}
use Rattle.region_interfere.proofs.atomic.is_atomic.Given as goal

abbrev pub invariant-loop-elem : goal.invariant-loop-elem
invariant-loop-elem l = atomic_from l.atomic.names.now (drop l.elem-index l.elem-items) l.ends_atomic ≡ atomic_path (plain_atomic l.atomic) l.rpl
