-- What is judged of a program, by its parts.
use Rattle.std.proofs.Common.{◌≡◌, ◌∙◌, List, Result, Ok, Err, refl, ap, sym}
use Rattle.lang_base.specs.declared.refusal.Refusal.{Refusal}
use Rattle.syntax_tree.specs.declared.class.Program.{Program}
use Rattle.decl_table.specs.declared.table.Table.{Table}
use Rattle.decl_classes.specs.Build.{check_table}
use Rattle.body_assembly.specs.Assembled.{PlainBody}
use Rattle.body_assembly.specs.Named.{names_in}
use Rattle.body_check.specs.Methods.{BodiesChecking, after_ok, check_bodies, then_ok}
use Rattle.tool_front.specs.Judging.{Judged, HasNames, judged_of, judge}

-- the parts of which something of a program that is accepted is made
pub record Parts {X : Type 0} (part : Judged → X) (program : Program) (x : X) : Type 0 where
  pub table : Table
  pub has_table : check_table program ≡ Ok table
  pub bodies : List PlainBody
  pub checked : BodiesChecking program table (Ok bodies)
  pub so : x ≡ part (judged_of program table bodies)

pub parts : {X : Type 0} (part : Judged → X) (program : Program) (x : X) → after_ok part (judge program) ≡ Ok x → Parts part program x
parts {X} part program x h = by (check_table program) refl h
  where
    by : (r : Result Table Refusal) → check_table program ≡ r → after_ok part (then_ok r (λ table. after_ok (judged_of program table) (check_bodies program table))) ≡ Ok x → Parts part program x
    by (Err refusal) e k = cc
    by (Ok table) e k = over (check_bodies program table) refl k
      where
        over : (r : Result (List PlainBody) Refusal) → check_bodies program table ≡ r → after_ok part (after_ok (judged_of program table) r) ≡ Ok x → Parts part program x
        over (Err refusal) f l = cc
        over (Ok bodies) f l = let is : part (judged_of program table bodies) ≡ x = cc in record { table = table; has_table = e; bodies = bodies; checked = f; so = sym is }

-- a class table and bodies over it that pass are all that is asked
pub judged_from : (program : Program) (table : Table) (bodies : List PlainBody) → check_table program ≡ Ok table → BodiesChecking program table (Ok bodies) → judge program ≡ Ok (judged_of program table bodies)
judged_from program table bodies has checked =
    ap (λ r. then_ok r (λ t. after_ok (judged_of program t) (check_bodies program t))) has ∙ ap (after_ok (judged_of program table)) checked

-- and the names are theirs
pub names_there : {X : Type 0} {part : Judged → X} {x : X} (program : Program) (p : Parts part program x) → HasNames program (names_in p.table program.names p.bodies)
names_there program p = ap (after_ok (λ (j : Judged). j.names)) (judged_from program p.table p.bodies p.has_table p.checked)

pub faulty_table : (program : Program) (refusal : Refusal) → check_table program ≡ Err refusal → judge program ≡ Err refusal
faulty_table program refusal reported = ap (λ r. then_ok r (λ t. after_ok (judged_of program t) (check_bodies program t))) reported

pub faulty_bodies : (program : Program) (table : Table) (refusal : Refusal) → check_table program ≡ Ok table → BodiesChecking program table (Err refusal) → judge program ≡ Err refusal
faulty_bodies program table refusal has checked =
    ap (λ r. then_ok r (λ t. after_ok (judged_of program t) (check_bodies program t))) has ∙ ap (after_ok (judged_of program table)) checked
