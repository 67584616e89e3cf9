-- The program with its inferred summaries, and what is said of it.
use Rattle.std.specs.Prelude.{◌≡◌, false, List, map, Option, Some, None}
use Rattle.lang_base.specs.Types.{int}
use Rattle.lang_typed.specs.Plain.{PlainProgram, PlainClass, PlainMember, TypedStmt, statement, TypedStmts, no_stmts, more_stmts, TypedBranches, no_branches, more_branches}
use Rattle.lang_typed.specs.Plain.{StmtForm as form}
use Rattle.lang_typed.specs.Scope.{Scope, constant, class_at, with_local}
use Rattle.lang_typed.specs.Effects.{Own, as_effects, after_block}
use Rattle.lang_typed.specs.Statements.{AllPass, declared_as}
use Rattle.lang_typed.specs.Table.{body_scope}
use Rattle.lang_typed.specs.WellTyped.{WellTyped}
use Rattle.body_infer.specs.Kept.{Keeping, SaysOfEach, program_kept}
use Rattle.body_infer.specs.Doing.{effects_of_all, part_of, with_parts}
use Rattle.body_infer.specs.PostFixpoint.{IsInferred, IsPostFixpoint}

-- with each atomic block entered by what it does in this program
abbrev mutual
  pub entered : PlainProgram → Scope → TypedStmt → TypedStmt
  entered P L (statement at (form.block ss)) = statement at (form.block (entered_all P L ss))
  entered P L (statement at (form.choice e s)) = statement at (form.choice e (entered P L s))
  entered P L (statement at (form.choice_else e s t)) = statement at (form.choice_else e (entered P L s) (entered P L t))
  entered P L (statement at (form.while_loop e s)) = statement at (form.while_loop e (entered P L s))
  entered P L (statement at (form.atomic entry ss)) = statement at (form.atomic (as_effects (after_block (effects_of_all P L ss))) (entered_all P L ss))
  entered P L (statement at (form.cobegin forking bs)) = statement at (form.cobegin forking (entered_branches P L bs))
  entered P L (statement at (form.foreach forking x start count s)) = statement at (form.foreach forking x start count (entered P (with_local x (constant int) L) s))
  entered P L (statement at (form.foreach_parts k source count s)) =
      statement at (form.foreach_parts k source count (entered P (with_parts k (part_of L source) L) s))
  entered P L s = s

  pub entered_all : PlainProgram → Scope → TypedStmts → TypedStmts
  entered_all P L no_stmts = no_stmts
  entered_all P L (more_stmts (statement at (form.declare x t is_final e)) ss) =
      more_stmts (statement at (form.declare x t is_final e)) (entered_all P (with_local x (declared_as is_final t) L) ss)
  entered_all P L (more_stmts s ss) = more_stmts (entered P L s) (entered_all P L ss)

  pub entered_branches : PlainProgram → Scope → TypedBranches → TypedBranches
  entered_branches P L no_branches = no_branches
  entered_branches P L (more_branches copies s bs) = more_branches copies (entered P L s) (entered_branches P L bs)

abbrev pub member_entered : PlainProgram → Option PlainClass → PlainMember → PlainMember
member_entered P (Some k) m = record m { body = entered_all P (body_scope k (λ x. false) 0 m) m.body }
member_entered P None m = m

abbrev pub program_entered : PlainProgram → PlainProgram
program_entered P = record P { members = map (λ m. member_entered P (class_at P m.class) m) P.members }

-- the program with what is kept of its summaries, each atomic block entered by what it does then
abbrev pub program_inferred : Keeping → PlainProgram → PlainProgram
program_inferred S P = program_entered (program_kept S P)

-- what statements do by the judgement is what the inference takes them to do
abbrev pub EffectsAreThose : Type 0
EffectsAreThose = (P : PlainProgram) → WellTyped P → (L : Scope) (ss : TypedStmts) (effects : List Own) → AllPass P L ss effects → effects_of_all P L ss ≡ effects

-- a well-typed program is well typed with whatever summaries, of those that it has, cover what is done by them
abbrev pub PostFixpointsAreWellTyped : Type 0
PostFixpointsAreWellTyped = (P : PlainProgram) (S : Keeping) → WellTyped P → SaysOfEach P S → IsPostFixpoint P S → WellTyped (program_inferred S P)

-- so it is with its inferred summaries, which are the least of these
abbrev pub InferredIsWellTyped : Type 0
InferredIsWellTyped = (P : PlainProgram) (S : Keeping) → WellTyped P → IsInferred P S → WellTyped (program_inferred S P)
