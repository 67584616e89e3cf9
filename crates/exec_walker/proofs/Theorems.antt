-- The laws of the walk.
use Rattle.std.proofs.Common.{◌≡◌, ℕ, suc, ℤ, true, [], refl, ap, ◌∙◌, sym, Option, Some, None}
use Rattle.lang_typed.specs.Plain.{PlainProgram, PlainMember, TypedStmts, no_stmts}
use Rattle.lang_typed.specs.Scope.{member_at}
use Rattle.lang_meaning.specs.Actions.{Task, Work}
use Rattle.lang_meaning.specs.Asking.{meaning, does}
use Rattle.lang_meaning.specs.Core.{Goes_on, Returns, Done, Stopped, Lost, run}
use Rattle.lang_meaning.specs.Core.{Out as out}
use Rattle.lang_meaning.specs.Elision.{LocalRegion, in_order, Store, at_end, at_start, sequential, enters_main, ran_through, elided, judged}
use Rattle.lang_meaning.specs.Statements.{of_stmts}
use Rattle.exec_walker.specs.Agenda.{deeper_at}
use Rattle.exec_walker.specs.Laws.{EndsAsElision, StaysOver}
use Rattle.exec_walker.specs.Walk.{At, root_work, root_level, start}
use Rattle.exec_walker.proofs.Residual.{Ran, state_run}
use Rattle.exec_walker.proofs.WalkEnds.{meaning_is, end_same}
use Rattle.exec_walker.proofs.Keeps.{walk_kept}
use Rattle.exec_walker.proofs.Costs.{state_over}

abbrev main_work : TypedStmts → Work
main_work ss = record { is_root = true; takes = None; copies = []; stmts = ss }

roots_end_alike : (ss : TypedStmts) (o : Ran) → at_end (main_work ss) o ≡ at_end root_work o
roots_end_alike ss (Done (Goes_on v f) w) = refl
roots_end_alike ss (Done (Returns v) w) = refl
roots_end_alike ss (out.Trapped t p w) = refl
roots_end_alike ss (Stopped n a) = refl
roots_end_alike ss (Lost w) = refl

module _ (P : PlainProgram) (arg : ℤ) where
  from_task : (t : Task ℕ LocalRegion) (ss : TypedStmts) → t.work ≡ main_work ss → (w : Store)
      → at_end t.work (run sequential (meaning in_order P t.frame.left t.work.stmts t.frame) w) ≡ state_run P (At (root_level t) [] w)
  from_task t ss e w =
      ap (λ k. at_end k (run sequential (meaning in_order P t.frame.left t.work.stmts t.frame) w)) e
      ∙ roots_end_alike ss (run sequential (meaning in_order P t.frame.left t.work.stmts t.frame) w)
      ∙ ap (λ p. at_end root_work (run sequential p w)) (meaning_is P t.frame.left t.work.stmts t.frame)
      ∙ sym (end_same root_work (run sequential (of_stmts in_order P (deeper_at P t.frame.left) t.work.stmts t.frame) w))

  -- a task that begins is what is left of the meaning there
  root_begins : (o : Option PlainMember) (w : Store) → (let t : Task ℕ LocalRegion = enters_main in_order 0 arg o in
      at_end t.work (run sequential (does in_order P t) w) ≡ state_run P (At (root_level t) [] w))
  root_begins None w = from_task (enters_main in_order 0 arg None) no_stmts refl w
  root_begins (Some m) w = from_task (enters_main in_order 0 arg (Some m)) m.body refl w

  runs_to : (n : ℕ) → ran_through P arg n ≡ state_run P (start P arg n)
  unfolding ran_through
  runs_to n = root_begins (member_at P P.main_member) (at_start P n)

pub ends : EndsAsElision
unfolding elided
ends P arg L n o e = ap (judged L) (runs_to P arg (suc L.steps) ∙ walk_kept P n (start P arg (suc L.steps)) ∙ ap (state_run P) e)

pub stays_over : StaysOver
unfolding elided
stays_over P arg L n g ws w e k =
    ap (judged L) (runs_to P arg (suc L.steps) ∙ walk_kept P n (start P arg (suc L.steps)) ∙ ap (state_run P) e) ∙ state_over P L g ws w k
