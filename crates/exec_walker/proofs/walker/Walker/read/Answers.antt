use Rattle.std.proofs.Common.{◌∷◌, drop, map, subst, Option}
use Rattle.std.specs.Int.{w64}
use Rattle.lang_base.specs.declared.value.Value.{Value as Constant}
use Rattle.exec_walker.specs.Stores.{Holds}
use Rattle.std.proofs.lemmas.Int.{to_z-of_z}
use Rattle.std.proofs.lemmas.Result.{err_from_is_err_and}
use Rattle.exec_frames.specs.Names.{plain_value}
use Rattle.exec_walker.specs.States.{ComesTo, plain_level, plain_waiting}
use Rattle.exec_walker.proofs.Reading.{read_refused, read_lands}
use Rattle.exec_walker.proofs.walker.Walker.read.Goals as goal

pub returns-in_err-value : goal.returns-in_err-value
returns-in_err-value c = λ L w h.
    let out = err_from_is_err_and c.from_residual.result c.from_residual.ensures.1 in
    let g = plain_level c.args.self.now.level in
    rw (out.1, out.2) (read_refused g (λ v. v ∷ drop c.args.many g.operands) (map plain_waiting c.args.self.now.waiting) c.args.place (plain_value c.args.of)
    c.in-Some.object c.args.index c.args.index g.frame w (Option Constant) L c.in_err-value.field-0.0 _ (Holds L c.read.new.self) c.in-Some.ensures (c.in_err-value.ensures.store L w h))

pub returns-in-Some-2 : goal.returns-in-Some-2
returns-in-Some-2 c = λ L w h.
    let g = plain_level c.args.self.now.level in
    let again = to_z-of_z w64 c.args.index c.ranges.index in
    let value = rw c.in-Some-2.is at (c.in_ok-value.ensures.value L w h) in
    subst (λ s. ComesTo L c.give.result c.give.new.self s)
    (read_lands g (λ v. v ∷ drop c.args.many g.operands) (map plain_waiting c.args.self.now.waiting) c.args.place (plain_value c.args.of) c.in-Some.object c.args.index _
    g.frame w (plain_value c.in-Some-2.value) c.in-Some.ensures again value)
    (c.give.ensures L _ (c.in_ok-value.ensures.store L w h))
