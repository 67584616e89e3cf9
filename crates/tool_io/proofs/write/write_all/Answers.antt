use Rattle.std.proofs.Common.{rules, arith}
use Rattle.tool_io.proofs.Reported.{rest_of, Wrote-more, UsedRoom-more, untroubled_more}
use Rattle.tool_io.proofs.write.write_all.Goals as goal

pub loop-done-preserved : goal.loop-done-preserved
loop-done-preserved g c =
    let was = c.loop-done.invariant in
    let put = c.in_ok-done.ensures in
    let count = c.in_ok-done.field-0 in
    let bytes = c.args.bytes.now in
    record {
      within = search rules;
      never_falls = omega (arith, was.never_falls, put.never_falls);
      held = Wrote-more _ _ _ bytes _ c.loop-done.done count (rest_of c.loop-done.done bytes) was.held put.appended;
      room = UsedRoom-more _ _ _ _ _ was.room put.room;
      untroubled = untroubled_more _ _ _ _ _ _ _ _ was.room put.room put.bound.0 was.untroubled put.untroubled;
    }
