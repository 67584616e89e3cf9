use Rattle.std.proofs.Common.{arith}
use Rattle.region_paths.proofs.Missing.{substituted_missing}
use Rattle.region_paths.proofs.path.subst.Goals as goal

pub returns-in-Param : goal.returns-in-Param
returns-in-Param c = rw (substituted_missing c.args.args.now c.args.rpl.now c.in-Param.p c.in-Param.is (omega arith)) c.copy.ensures
