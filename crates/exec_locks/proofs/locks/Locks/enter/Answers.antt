-- The block is found once it is noted, and nothing is left of one that couldn't be.
use Rattle.std.proofs.Common.{◌≡◌, sym, subst, ap, ◌∙◌, None}
use Rattle.std.specs.FinMap.{get, insert, remove}
use Rattle.exec_locks.specs.Index.{IsIndexed}
use Rattle.exec_locks.specs.Locks.{Standings, deepened_from, effects_of}
use Rattle.exec_locks.specs.declared.standing.Standing.TheVariants.{Opener}
use Rattle.exec_locks.proofs.Indexed.{indexed_deepened, indexed_back, indexed_block, taken_back, none_inside, get_inserted}
use Rattle.exec_locks.proofs.locks.Locks.enter.Goals as goal

pub invariant_of-self : goal.invariant_of-self
invariant_of-self c =
    subst (IsIndexed c.self.inside.reads c.self.inside.writes) (sym c.deepen.ensures.deeper)
    (indexed_deepened c.self.inside.reads c.self.inside.writes c.self.inside.standings c.args.task c.self.invariant)

pub invariant_of-self-in-Err : goal.invariant_of-self-in-Err
invariant_of-self-in-Err c =
    let absent : get c.self.inside.standings c.args.task ≡ None = none_inside _ (sym c.deepen.ensures.inside ∙ c.if-deepen.false) in
    let same = c.deepen.ensures.deeper ∙ ap (deepened_from c.self.inside.standings c.args.task) absent in
    let back = c.remove.ensures ∙ ap (λ (locks : Standings). remove locks c.args.task) (c.in_ok-insert.ensures.ok
    ∙ ap (λ (locks : Standings). insert locks c.args.task (Opener c.args.wants 1)) same)
    ∙ taken_back c.self.inside.standings c.args.task (Opener c.args.wants 1) absent in
    subst (IsIndexed c.forget_all.new.reads c.forget_all.new.writes) (sym back)
    (indexed_back c.self.inside.reads c.self.inside.writes c.note_all.new.reads c.note_all.new.writes c.forget_all.new.reads c.forget_all.new.writes
    c.self.inside.standings c.args.task absent c.note_all.ensures.reads c.note_all.ensures.writes c.forget_all.ensures.reads
    c.forget_all.ensures.writes c.self.invariant)

pub returns-in-Err-clause-err : goal.returns-in-Err-clause-err
returns-in-Err-clause-err c =
    let absent : get c.self.inside.standings c.args.task ≡ None = none_inside _ (sym c.deepen.ensures.inside ∙ c.if-deepen.false) in
    let same = c.deepen.ensures.deeper ∙ ap (deepened_from c.self.inside.standings c.args.task) absent in
    c.remove.ensures ∙ ap (λ (locks : Standings). remove locks c.args.task) (c.in_ok-insert.ensures.ok
    ∙ ap (λ (locks : Standings). insert locks c.args.task (Opener c.args.wants 1)) same)
    ∙ taken_back c.self.inside.standings c.args.task (Opener c.args.wants 1) absent ∙ c.self.view_is

pub invariant_of-self-in_default : goal.invariant_of-self-in_default
invariant_of-self-in_default c =
    let absent : get c.self.inside.standings c.args.task ≡ None = none_inside _ (sym c.deepen.ensures.inside ∙ c.if-deepen.false) in
    let same = c.deepen.ensures.deeper ∙ ap (deepened_from c.self.inside.standings c.args.task) absent in
    let block = c.in_ok-insert.ensures.ok ∙ ap (λ (locks : Standings). insert locks c.args.task (Opener c.args.wants 1)) same in
    let held = c.effects_of-effects.ensures ∙ ap (λ (locks : Standings). effects_of (get locks c.args.task)) block
    ∙ ap effects_of (get_inserted c.self.inside.standings c.args.task (Opener c.args.wants 1)) in
    subst (IsIndexed c.note_all.new.reads c.note_all.new.writes) (sym block)
    (indexed_block c.self.inside.reads c.self.inside.writes c.note_all.new.reads c.note_all.new.writes c.self.inside.standings c.args.task c.args.wants
    c.effects_of-effects.result.now c.requires.roots held c.in_default.ensures.there c.note_all.ensures.reads c.note_all.ensures.writes c.self.invariant)
