use Rattle.std.proofs.Common.{◌≡◌, ◌∙◌, Ok, Err, ap, map, sym}
use Rattle.body_assembly.specs.Assembled.{plain_body, program_of}
use Rattle.body_check.specs.Methods.{BodiesChecking, after_ok}
use Rattle.decl_classes.specs.Build.{check_table}
use Rattle.tool_front.specs.Judging.{Judged, IsFaulty}
use Rattle.lang_base.specs.declared.refusal.Stop.TheVariants.{NoMemory}
use Rattle.tool_front.proofs.Judged.{judged_from, faulty_table, faulty_bodies}
use Rattle.tool_front.proofs.Reported.{handed-so}
use Rattle.tool_front.proofs.passing.judge_program.Goals as goal

pub returns-in_err-table-clause-fault : goal.returns-in_err-table-clause-fault
returns-in_err-table-clause-fault c =
    handed-so (λ refusal. check_table c.args.tree ≡ Err refusal) (IsFaulty c.args.tree)
    c.from_residual.result c.in_err-table.field-0.0 c.from_residual.ensures.1 (faulty_table c.args.tree) c.in_err-table.ensures.refused

pub returns-in_err-checked-clause-fault : goal.returns-in_err-checked-clause-fault
returns-in_err-checked-clause-fault c =
    handed-so (λ refusal. BodiesChecking c.args.tree c.in_ok-table.table (Err refusal)) (IsFaulty c.args.tree)
    c.from_residual-in_err-checked.result c.in_err-checked.field-0.0 c.from_residual-in_err-checked.ensures.1
    (λ refusal checked. faulty_bodies c.args.tree c.in_ok-table.table refusal c.in_ok-table.ensures.made checked)
    c.in_err-checked.ensures.checks

pub returns-clause-accepted : goal.returns-clause-accepted
returns-clause-accepted c =
    let bodies = map plain_body c.in_ok-checked.checked.bodies in
    ap (after_ok (λ (j : Judged). j.typed)) (judged_from c.args.tree c.in_ok-table.table bodies c.in_ok-table.ensures.made c.in_ok-checked.ensures.checks)
    ∙ ap (λ nd. Ok (program_of c.in_ok-table.table c.args.tree.names nd bodies)) (sym c.in_ok-checked.ensures.nd)

pub returns-clause-named : goal.returns-clause-named
returns-clause-named c =
    ap (after_ok (λ (j : Judged). j.names))
    (judged_from c.args.tree c.in_ok-table.table (map plain_body c.in_ok-checked.checked.bodies) c.in_ok-table.ensures.made c.in_ok-checked.ensures.checks)

pub returns-in_err-fields-clause-fault : goal.returns-in_err-fields-clause-fault
returns-in_err-fields-clause-fault c =
    handed-so (λ refusal. ⊥) (IsFaulty c.args.tree) c.from_residual-in_err-fields.result NoMemory c.from_residual-in_err-fields.ensures.1 (λ refusal none. absurd none) tt
