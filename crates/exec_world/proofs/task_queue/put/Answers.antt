-- A number put into its word.
use Rattle.std.proofs.Common.{sym, subst, ◌/◌}
use Rattle.std.proofs.lemmas.Result.{on_ok_weaker}
use Rattle.exec_world.specs.Words.{Words, With}
use Rattle.exec_world.proofs.Sets.{put_in, put_first, full_put, full_either}
use Rattle.exec_world.proofs.task_queue.put.Goals as goal

pub returns-in_default-clause-ok : goal.returns-in_default-clause-ok
returns-in_default-clause-ok c =
    on_ok_weaker c.insert.result (λ is. subst (λ (ws : Words). With c.args.words.now ws c.args.number) (sym is)
    (put_first c.args.words.now c.args.number 0 c.with_place.result (sym c.in_default.ensures.value) c.with_place.ensures.there c.with_place.ensures.others))
    c.insert.ensures.ok

pub returns-in_default-clause-full : goal.returns-in_default-clause-full
returns-in_default-clause-full c =
    full_either c.args.words.now c.insert.new.self (c.args.number / 64) c.with_place.result c.insert.result c.requires c.with_place.ensures.word
    c.insert.ensures.ok c.insert.ensures.err

pub returns-clause-ok : goal.returns-clause-ok
returns-clause-ok c =
    put_in c.args.words.now c.args.number c.in-Some.word.now c.with_place-2.result c.in-Some.ensures.value c.with_place-2.ensures.there
    c.with_place-2.ensures.others

pub returns-clause-full : goal.returns-clause-full
returns-clause-full c = full_put c.args.words.now (c.args.number / 64) c.with_place-2.result c.requires c.with_place-2.ensures.word
