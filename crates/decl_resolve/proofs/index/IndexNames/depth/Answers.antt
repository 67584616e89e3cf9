use Rattle.std.proofs.Common.{◌∙◌, true, false, Some, sym, ap}
use Rattle.decl_resolve.specs.Index.{plain_index}
use Rattle.decl_resolve.proofs.Around.{depth_of_suffix, depth_of_made}
use Rattle.decl_resolve.proofs.index.IndexNames.depth.Goals as goal

pub returns-in-Some : goal.returns-in-Some
returns-in-Some c = depth_of_suffix (plain_index c.args.self.now) c.args.name c.in-Some.depth c.suffix_named.result c.suffix_named.ensures c.in-Some.is

pub returns-then-is_named : goal.returns-then-is_named
returns-then-is_named c =
    ap (λ n. Some n) c.saturating_sub.ensures
    ∙ depth_of_made (plain_index c.args.self.now) c.args.name c.suffix_named.result true c.suffix_named.ensures c.in_default.is (sym c.is_named.ensures ∙ c.if-is_named.true)

pub returns : goal.returns
returns c =
    depth_of_made (plain_index c.args.self.now) c.args.name c.suffix_named.result false c.suffix_named.ensures c.in_default.is (sym c.is_named.ensures ∙ c.if-is_named.false)
