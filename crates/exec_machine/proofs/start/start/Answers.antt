-- The root has begun, and the object of `main` is made.
use mir.Val.{SFits}
use Rattle.std.proofs.Common.{rules, ◌≡◌, sym, subst, ap, ◌∙◌}
use Rattle.std.specs.FinMap.{empty, insert}
use Rattle.std.proofs.lemmas.Int.{to_z-of_z}
use Rattle.std.specs.Int.{w32}
use Rattle.code_instrs.specs.Machine.{root_start}
use Rattle.exec_task.specs.Names.{names_of}
use Rattle.code_instrs.specs.Plain.{plain_code}
use Rattle.exec_machine.specs.Keeping.{Keeps, MakesMain}
use Rattle.exec_world.specs.World.{with_heap}
use Rattle.exec_machine.proofs.Opening.{opens}
use Rattle.exec_machine.proofs.start.start.Goals as goal

pub returns-clause-opens : goal.returns-clause-opens
returns-clause-opens c =
    let main = subst (λ w. MakesMain c.args.code.now c.args.limits w.heap c.make_main.new.heap c.in_ok-outcome.outcome) c.in_ok-world.ensures c.in_ok-outcome.ensures in
    let fits : SFits w32 c.args.argument = search rules in
    let starts = c.in_ok-root.ensures ∙ ap (root_start (names_of 0) (plain_code c.args.code.now) 0) (to_z-of_z w32 c.args.argument fits) in
    let slots_are : c.insert.new.self ≡ insert empty 0 c.start.result = c.in_ok-insert.ensures.ok ∙ ap (λ ss. insert ss 0 c.start.result) c.new-slots.ensures in
    let o = opens c.args.code.now c.args.limits c.args.argument c.in_ok-root.root c.start.result c.insert.new.self c.make_main.new.heap c.new.result c.in_ok-outcome.outcome
    main slots_are c.start.ensures starts in (
      o.0,
      o.1,
      λ go. subst (λ w. Keeps (plain_code c.args.code.now) (record { world = w; slots = c.insert.new.self; schedule = c.new.result; outcome = c.in_ok-outcome.outcome }) o.0)
          (sym c.in_ok-queued.ensures)
          (subst (λ w. Keeps (plain_code c.args.code.now) (record { world = with_heap w c.make_main.new.heap; slots = c.insert.new.self; schedule = c.new.result; outcome = c.in_ok-outcome.outcome }) o.0)
          (sym c.in_ok-world.ensures) (o.2 go)),
    )
