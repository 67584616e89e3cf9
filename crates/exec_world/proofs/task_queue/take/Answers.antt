-- A number taken out of its word.
use Rattle.std.proofs.Common.{arith, sym, subst, ◌/◌}
use Rattle.exec_world.specs.Words.{Words, Without}
use Rattle.exec_world.proofs.Sets.{AllFull, take_from, take_last, full_put, full_taken}
use Rattle.exec_world.proofs.task_queue.take.Goals as goal

pub returns-then-rest-eq0-clause-without : goal.returns-then-rest-eq0-clause-without
returns-then-rest-eq0-clause-without c =
    subst (λ (ws : Words). Without c.args.words.now ws c.args.number) (sym c.remove.ensures.removed)
    (take_last c.args.words.now c.args.number c.in-Some.word.now c.without_place-rest.result c.in-Some.ensures.value c.if-rest-eq0.true
    c.without_place-rest.ensures.others)

pub returns-then-rest-eq0-clause-full : goal.returns-then-rest-eq0-clause-full
returns-then-rest-eq0-clause-full c =
    subst AllFull (sym c.remove.ensures.removed) (full_taken c.args.words.now (c.args.number / 64) c.without_place-rest.result c.requires)

pub returns-else-rest-eq0-clause-without : goal.returns-else-rest-eq0-clause-without
returns-else-rest-eq0-clause-without c =
    take_from c.args.words.now c.args.number c.in-Some.word.now c.without_place-rest.result c.in-Some.ensures.value c.without_place-rest.ensures.gone
    c.without_place-rest.ensures.others

pub returns-else-rest-eq0-clause-full : goal.returns-else-rest-eq0-clause-full
returns-else-rest-eq0-clause-full c =
    full_put c.args.words.now (c.args.number / 64) c.without_place-rest.result c.requires (
      omega (arith, c.if-rest-eq0.false),
      c.without_place-rest.type_inv,
    )
