use Rattle.std.proofs.Common.{rules, arith}
use Rattle.std.specs.Result.{is_ok}
use Rattle.std.proofs.lemmas.Grind.{common_steps}
use Rattle.tool_io.proofs.Reported.{Took-all, Took-more, extended}
use Rattle.tool_io.proofs.read.read_all.Goals as goal

pub loop-piece-preserved : goal.loop-piece-preserved
loop-piece-preserved g c =
    let was = c.loop-piece.invariant in
    let fill = c.in_ok-count.ensures in
    let count = c.in_ok-count.count in
    record {
      bound = grind (arith, common_steps);
      never_falls = omega (arith, was.never_falls, fill.never_falls);
      took = Took-more _ _ _ _ _ _ count was.took fill.filled fill.taken (extended (is_ok c.extend_from_slice.result) _ _ _ c.fill.new.buf count c.extend_from_slice.ensures.items (search rules) (search rules));
    }

pub returns-then-count-eq0-clause-all : goal.returns-then-count-eq0-clause-all
returns-then-count-eq0-clause-all g c =
    Took-all (g.S.Source.left c.args.source.now) _ _ _ c.in_ok-count.count c.if-count-eq0.true c.loop-piece.invariant.took c.in_ok-count.ensures.filled
