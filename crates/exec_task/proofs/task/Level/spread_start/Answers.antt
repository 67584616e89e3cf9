use Rattle.std.proofs.Common.{rules, arith, ◌<◌, ◌-◌, ◌∙◌, ap, subst, pos, drop, Some, length, map}
use Rattle.std.specs.Prelude.{slice_get, slice_set}
use Rattle.std.proofs.lemmas.Int.{to_z-of_z}
use mir.Val.{SFits}
use Rattle.std.specs.Int.{w32, int_wrapping_add, int_wrapping_sub}
use Rattle.lang_meaning.specs.Counts.{number, how_many}
use Rattle.lang_meaning.specs.Values.{Int}
use Rattle.exec_task.specs.Branches.{spread_starts}
use Rattle.exec_frames.specs.Names.{plain_value}
use Rattle.exec_task.specs.Tasks.{plain_frame}
use Rattle.exec_task.proofs.Starting.{numbered_there, spread_there, spread_count}
use Rattle.exec_task.proofs.task.Level.spread_start.Goals as goal

pub plus-requires : goal.plus-requires
plus-requires c =
    let h = subst (λ l. c.args.branch < length (spread_starts c.args.body c.args.slot (plain_frame c.args.self.now.frame) (map plain_value l))) c.in-Some.ensures c.requires in
    let k = spread_count c.args.body c.args.slot (plain_frame c.args.self.now.frame) (plain_value c.in-Some.left) (plain_value c.in-Some.next) (plain_value c.in-Some.total) (map plain_value (drop 3 c.args.self.now.stack)) in
    omega (arith, h, k, c.first_number-first.ensures.few)

pub returns : goal.returns
returns c =
    let fits : SFits w32 c.plus.result = search rules in
    let first_fits : SFits w32 c.first_number-first.result = search rules in
    let added = simp to_z-of_z at c.plus.ensures in
    let is_set = simp to_z-of_z at c.set_slot.ensures in
    let h = subst (λ l. c.args.branch < length (spread_starts c.args.body c.args.slot (plain_frame c.args.self.now.frame) (map plain_value l))) c.in-Some.ensures c.requires in
    let k = spread_count c.args.body c.args.slot (plain_frame c.args.self.now.frame) (plain_value c.in-Some.left) (plain_value c.in-Some.next) (plain_value c.in-Some.total) (map plain_value (drop 3 c.args.self.now.stack)) in
    ap (λ l. slice_get (spread_starts c.args.body c.args.slot (plain_frame c.args.self.now.frame) (map plain_value l)) c.args.branch) c.in-Some.ensures
    ∙ spread_there c.args.body c.args.slot c.args.branch (plain_frame c.args.self.now.frame) (plain_value c.in-Some.left) (plain_value c.in-Some.next) (plain_value c.in-Some.total)
    (map plain_value (drop 3 c.args.self.now.stack)) (omega (arith, h, k))
    ∙ ap (λ f. Some (record { body = c.args.body; frame = f })) (numbered_there c.in_ok-frame.frame (plain_frame c.args.self.now.frame) (map plain_value c.set_slot.new.values) c.args.slot c.args.branch
    (int_wrapping_sub w32 (number (plain_value c.in-Some.next)) (pos (how_many (number (plain_value c.in-Some.total)) - how_many (number (plain_value c.in-Some.left))))) (ap plain_frame c.in_ok-frame.ensures)
    (is_set ∙ ap (λ k. slice_set (map plain_value c.in_ok-frame.frame.values) c.args.slot (Int k)) (added ∙ ap (λ z. int_wrapping_add w32 z (pos c.args.branch)) c.first_number-first.ensures.first)))
