use Rattle.std.proofs.Common.{Some, subst, sym}
use Rattle.lang_typed.specs.Plain.{plain_source}
use Rattle.body_infer.specs.Doing.{part_of}
use Rattle.body_infer.specs.Walked.{SameUse, local_of, scope_of}
use Rattle.body_infer.proofs.Reading.{part_use}
use Rattle.body_infer.proofs.stmts.cut_part.Goals as goal

pub returns-in_ok-known-in-Part-clause-known : goal.returns-in_ok-known-in-Part-clause-known
returns-in_ok-known-in-Part-clause-known c =
    let kept = c.in_ok-known-in-Part.known in
    subst (λ source. SameUse (Some (local_of kept)) (Some (part_of (scope_of c.args.scope.now) (plain_source source)))) (sym c.in-Part.is)
    (part_use c.in-Part.part.number c.args.scope.now kept c.in_ok-known-in-Part.ensures)
