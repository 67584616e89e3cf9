use mir.Val.{SFits}
use Rattle.std.proofs.Common.{◌∙◌, drop, sym, ap, rules, w32, to_z, of_z, Some}
use Rattle.std.proofs.Math.IntN.{nat_abs}
use Rattle.std.proofs.lemmas.Int.{to_z-of_z}
use Rattle.code_instrs.specs.Plain.{plain_code}
use Rattle.exec_frames.proofs.Counting.{counts_len}
use Rattle.exec_task.proofs.BySite.{array_made}
use Rattle.exec_task.proofs.task.Level.create_array.Goals as goal

pub returns : goal.returns
returns c =
    let fits : SFits w32 c.number-len.result = search rules in
    let len = sym c.number-len.ensures ∙ counts_len c.number-len.result _ (to_z-of_z w32 c.number-len.result fits) c.if-len-lt0.false in
    array_made (plain_code c.args.code.now) c.args.place c.args.code.now.sites c.args.site c.args.self.now c.in-Some-Array.region c.in-Some-Array.first
    c.in-Some.len c.value.result (drop 1 c.args.self.now.stack) c.in_ok-region.region (nat_abs (to_z w32 (of_z w32 c.number-len.result)))
    (sym c.in-Some-Array.ensures.value ∙ ap Some c.in-Some-Array.field-0-is) c.in-Some.ensures len c.in_ok-region.ensures c.value.ensures
    (sym c.is_long.ensures ∙ c.if-is_long.false)
