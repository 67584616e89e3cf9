-- The body of a task of compiled code is there.
use Rattle.std.proofs.Common.{◌≡◌, ◌≤◌, ◌<◌, inl, inr, ⊎_elim, ℕ, zero, suc, Bool, true, false, ◌&&◌, List, [], ◌∷◌, length, refl, sym, ap, ◌∙◌, subst, Option, Some, None, slice_get, arith}
use Rattle.std.proofs.lemmas.Bool.{cases_lt}
use Rattle.lang_typed.specs.Plain.{PlainProgram, TypedStmt, statement, TypedStmts, no_stmts, more_stmts}
use Rattle.lang_typed.specs.Plain.{StmtForm as form}
use Rattle.lang_typed.specs.Statements.{all_complete, completes}
use Rattle.lang_meaning.specs.Actions.{Work}
use Rattle.code_instrs.specs.Machine.{Start}
use Rattle.code_instrs.specs.Plain.{Line, PlainBody, PlainCode, body_at, body_or_none}
use Rattle.code_scheme.specs.Compiled.{Compiled}
use Rattle.code_scheme.specs.Scheme.{after_stmt, after_stmts}
use Rattle.code_scheme.specs.Stands.{BodyIs, EndsAt, StmtAt, StmtsAt, first_place}
use Rattle.runs_theory.specs.Actions.{Task}
use Rattle.runs_theory.specs.Objects.{LocalRegion, Name}

no_line : {l : Line} → ◌≡◌ {A = Option Line} None (Some l) → ⊥
no_line e = cc

one_left : (a b : Bool) → (a ≡ false → ⊥) → (b ≡ false → ⊥) → (a && b) ≡ false → ⊥
one_left true b f g e = g e
one_left false b f g e = f refl

module _ (C : PlainCode) where
  -- statements that don't complete stand somewhere
  mutual
    none_left : (p : ℕ) (s : TypedStmt) → completes s ≡ false → StmtAt C [] p s → ⊥
    none_left p (statement at form.return_nothing) e h = no_line h
    none_left p (statement at (form.return_value x)) e h = no_line h.1
    none_left p (statement at (form.block ss)) e h = nones_left p ss e h
    none_left p (statement at (form.choice_else x s t)) e h = no_line h.1
    none_left p s e h = absurd (cc)

    nones_left : (p : ℕ) (ss : TypedStmts) → all_complete ss ≡ false → StmtsAt C [] p ss → ⊥
    nones_left p no_stmts e h = absurd (cc)
    nones_left p (more_stmts s ss) e h = one_left (completes s) (all_complete ss) (λ i. none_left p s i h.0) (λ i. nones_left (after_stmt p s) ss i h.1) e

  no_line_in : {ls : List Line} {l : Line} (p : ℕ) → ls ≡ [] → slice_get ls p ≡ Some l → ⊥
  no_line_in {ls} {l} p none e = no_line (sym (ap (λ ls. slice_get ls p) none) ∙ e)

  lines_there : (b : PlainBody) (w : Work) → BodyIs C b w → b.lines ≡ [] → ⊥
  lines_there b w h none = go w.is_root h.ends
    where
      go : (root : Bool) → EndsAt C b (after_stmts (first_place w.takes) w.stmts) w root → ⊥
      go true (inl l) = no_line_in (after_stmts (first_place w.takes) w.stmts) none l.1
      go true (inr e) = nones_left (first_place w.takes) w.stmts e (subst (λ ls. StmtsAt C ls (first_place w.takes) w.stmts) none h.stmts)
      go false e = no_line_in (after_stmts (first_place w.takes) w.stmts) none e.stands

  past : {A : Type 0} (xs : List A) (n : ℕ) → length xs ≤ n → slice_get xs n ≡ None
  past [] n l = refl
  past (x ∷ xs) zero l = absurd (omega (arith, l))
  past (x ∷ xs) (suc n) l = past xs n (omega (arith, l))

  pub body_there : (P : PlainProgram) (b : Start Name LocalRegion) (t : Task) → Compiled C P b t → b.body < length C.bodies
  body_there P b t h = ⊎_elim (λ l. l)
      (λ l. absurd (lines_there (body_at C b.body) t.work h.body (ap (λ o. (body_or_none o).lines) (past C.bodies b.body l)))) (cases_lt b.body (length C.bodies))
