use Rattle.std.proofs.Common.{◌≡◌, ◌<◌, ◌-◌, take}
use Rattle.decl_resolve.specs.Names.{plain_names}
use Rattle.decl_resolve.proofs.scoped.Kept.leave.Given as goal

abbrev pub invariant-loop : goal.invariant-loop
invariant-loop g l = record {
  names : plain_names l.self.names ≡ take (l.end - (l.counter - l.len)) (plain_names l.fn.self.names);
  values : l.self.values ≡ take (l.end - (l.counter - l.len)) l.fn.self.values;
  over : l.end < l.counter → l.counter ≡ l.len;
}
