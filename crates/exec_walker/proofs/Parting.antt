-- A loop over parts: before its count, and after it.
use Rattle.std.proofs.Common.{◌≡◌, ◌+◌, ℕ, List, refl}
use Rattle.lang_base.specs.declared.place.Place.{Place}
use Rattle.lang_typed.specs.declared.stmt.PartSource.{PartSource}
use Rattle.lang_typed.specs.declared.stmt.PartSource.TheVariants as source
use Rattle.lang_typed.specs.Plain.{PlainProgram, TypedExpr, TypedStmt, plain_source, statement}
use Rattle.lang_typed.specs.Plain.{StmtForm as form}
use Rattle.lang_meaning.specs.Counts.{slot_value}
use Rattle.lang_meaning.specs.Elision.{Store}
use Rattle.lang_meaning.specs.Statements.{with_value}
use Rattle.exec_walker.specs.Agenda.{counted, evaluate}
use Rattle.exec_walker.specs.Walk.{At, Level, Waiting, does_item, doing, finishes, without}
use Rattle.exec_walker.specs.Forms.{parts_begun, parts_from}

module _ (P : PlainProgram) (at : Place) (k : ℕ) (many : TypedExpr) (s : TypedStmt) (g : Level) (ws : List Waiting) (w : Store) where
  pub begins_at : (from : PartSource) →
      At (doing (evaluate many) (doing (counted (statement at (form.foreach_parts k (plain_source from) many s))) (parts_begun k from g))) ws w
      ≡ finishes P (statement at (form.foreach_parts k (plain_source from) many s)) g ws w
  begins_at (source.Array a) = refl
  begins_at (source.Part j) = refl

  pub counts_at : (from : PartSource) →
      parts_from at k from s (record (without 1 g) { frame = with_value g.frame (k + 3) (slot_value g.operands 0) }) ws w
      ≡ does_item P (counted (statement at (form.foreach_parts k (plain_source from) many s))) g ws w
  counts_at (source.Array a) = refl
  counts_at (source.Part j) = refl
