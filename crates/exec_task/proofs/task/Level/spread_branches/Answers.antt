-- So many branches as are counted on the stack.
use mir.Val.{SFits}
use Rattle.std.proofs.Common.{rules, sym, ap, ◌∙◌, drop, length, map}
use Rattle.std.proofs.lemmas.Int.{to_z-of_z}
use Rattle.std.specs.Int.{w32}
use Rattle.lang_meaning.specs.Counts.{how_many}
use Rattle.exec_task.specs.Branches.{spread_starts}
use Rattle.exec_frames.specs.Names.{plain_value}
use Rattle.exec_task.specs.Tasks.{plain_frame}
use Rattle.exec_task.proofs.Starting.{spread_count}
use Rattle.exec_task.proofs.task.Level.spread_branches.Goals as goal

pub returns-in-Some : goal.returns-in-Some
returns-in-Some c = λ body slot.
    let fits : SFits w32 c.number.result = search rules in
    let counted = simp to_z-of_z at c.how_many.ensures.count in
    counted ∙ ap how_many c.number.ensures
    ∙ sym (spread_count body slot (plain_frame c.args.self.now.frame) (plain_value c.in-Some.left) (plain_value c.in-Some.next) (plain_value c.in-Some.total) (map plain_value (drop 3 c.args.self.now.stack)))
    ∙ sym (ap (λ l. length (spread_starts body slot (plain_frame c.args.self.now.frame) (map plain_value l))) c.in-Some.ensures)
