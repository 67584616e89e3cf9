-- Tasks are in order to their end, at each depth of calls, by the meaning that looks at kinds.
use Rattle.std.proofs.Common.{ℕ, Some, None, zero, suc}
use Rattle.lang_typed.specs.Plain.{PlainProgram}
use Rattle.lang_typed.specs.WellTyped.{WellTyped}
use Rattle.runs_program.specs.Steps.{named_by}
use Rattle.runs_sound.proofs.work.Entering.{body_good}
use Rattle.runs_sound.specs.Accesses.{Bounds}
use Rattle.runs_sound.specs.Laws.{DeeperInOrder, scope_of}
use Rattle.runs_sound.proofs.kinds.Statements.{strict_statements_in_order}
use Rattle.runs_theory.specs.Objects.{Name, LocalRegion}
use Rattle.runs_sound.specs.Kinds.{Wrong, strict_meaning}
use Rattle.std.proofs.Common.{List, ℕ}
use Rattle.lang_typed.specs.Effects.{Own}
use Rattle.lang_typed.specs.Plain.{TypedStmts}
use Rattle.lang_typed.specs.Scope.{Scope}
use Rattle.lang_typed.specs.Statements.{AllPass}
use Rattle.runs_sound.specs.Accesses.{Within}
use Rattle.runs_sound.specs.Frames.{Frame, State, FrameFits}
use Rattle.runs_sound.specs.Laws.{Leaves}
use Rattle.runs_sound.specs.Scopes.{GoodScope}
use Rattle.runs_sound.specs.Settings.{Setting}
use Rattle.runs_sound.specs.Work.{InOrder}

-- at each depth of calls, by recursion on it
module _ (wrong : Wrong Name LocalRegion) (P : PlainProgram) (wt : WellTyped P) (b : Bounds) where
  strict_bodies_in_order : (left : ℕ) → DeeperInOrder P wt b (Some (strict_meaning wrong (named_by b.path) P left))
  unfolding strict_meaning
  strict_bodies_in_order zero n m there g st f ff w =
      strict_statements_in_order wrong P wt b None tt (scope_of P wt n m there) m.body (wt.members n m there).effects (wt.members n m there).passes
      (body_good P wt n m there) g st f ff w
  strict_bodies_in_order (suc left) n m there g st f ff w =
      strict_statements_in_order wrong P wt b (Some (strict_meaning wrong (named_by b.path) P left)) (strict_bodies_in_order left) (scope_of P wt n m there) m.body (wt.members n m there).effects
      (wt.members n m there).passes (body_good P wt n m there) g st f ff w

pub strict_tasks_in_order : (wrong : Wrong Name LocalRegion) (P : PlainProgram) (wt : WellTyped P) → (b : Bounds) →
    (L : Scope) (ss : TypedStmts) (E : List Own) → AllPass P L ss E → GoodScope L → (left : ℕ) (g : Setting) (st : State) (f : Frame) →
    FrameFits P b.path st g L f → Within b st.entries g E → InOrder P b (Leaves P b L g ss st) st (strict_meaning wrong (named_by b.path) P left ss f)
unfolding strict_meaning
strict_tasks_in_order wrong P wt b L ss E p good zero g st f ff w = strict_statements_in_order wrong P wt b None tt L ss E p good g st f ff w
strict_tasks_in_order wrong P wt b L ss E p good (suc left) g st f ff w =
    strict_statements_in_order wrong P wt b (Some (strict_meaning wrong (named_by b.path) P left)) (strict_bodies_in_order wrong P wt b left) L ss E p good g st f ff w
