use Rattle.std.proofs.Common.{drop, map, Bool}
use Rattle.std.proofs.lemmas.Result.{err_from_is_err_and}
use Rattle.exec_frames.specs.Names.{plain_value}
use Rattle.exec_walker.specs.Stores.{Holds}
use Rattle.exec_walker.specs.States.{plain_level, plain_waiting}
use Rattle.exec_walker.proofs.Reading.{write_refused}
use Rattle.exec_walker.proofs.walker.Walker.write.Goals as goal

pub returns-in_err-write : goal.returns-in_err-write
returns-in_err-write c = λ L w h.
    let out = err_from_is_err_and c.from_residual.result c.from_residual.ensures.1 in
    let g = plain_level c.args.self.now.level in
    rw (out.1, out.2) (write_refused g (λ v. drop c.args.many g.operands) (map plain_waiting c.args.self.now.waiting) c.args.place (plain_value c.args.of)
    c.in-Some.object c.args.index _ g.frame w Bool L c.in_err-write.field-0.0 _ (Holds L c.write.new.self) (plain_value c.args.value) c.in-Some.ensures
    (c.in_err-write.ensures.store L w h))
