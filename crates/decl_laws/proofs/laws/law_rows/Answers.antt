use Rattle.decl_laws.proofs.Given.{rows_given}
use Rattle.decl_laws.proofs.Stand.{methods_stand, rows_kept}
use Rattle.decl_laws.proofs.laws.law_rows.Goals as goal

pub returns : goal.returns
returns c = record { given = rows_given; stand = methods_stand; kept = rows_kept }
