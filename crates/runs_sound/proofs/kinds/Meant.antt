-- The meaning is that which looks at kinds and does at a wrong one what it does, so it is in order too.
use Rattle.std.proofs.Common.{inl, [], ◌∷◌, sym, subst, arith}
use Rattle.lang_meaning.specs.Elision.{root_task}
use Rattle.lang_meaning.specs.Statements.{begun}
use Rattle.runs_program.specs.Steps.{first_name, named_by}
use Rattle.runs_sound.specs.Accesses.{InEachEntry}
use Rattle.runs_sound.specs.Laws.{BranchesInOrder, ExpressionsInOrder, ForkingInOrder, Leaves, RootInOrder, TasksInOrder, Yields, branch_bounds, main_bounds, main_scope, start}
use Rattle.runs_sound.specs.Settings.{class_setting}
use Rattle.runs_sound.specs.Work.{InOrder}
use Rattle.runs_theory.specs.Actions.{Task}
use Rattle.runs_sound.proofs.kinds.Expressions.{strict_order}
use Rattle.runs_sound.proofs.kinds.Meaning.{same_expr, same_meaning, same_stmts}
use Rattle.runs_sound.proofs.kinds.Root.{strict_root_in_order}
use Rattle.runs_sound.proofs.kinds.Statements.{strict_statements_in_order}
use Rattle.runs_sound.proofs.kinds.Tasks.{strict_tasks_in_order}
use Rattle.runs_sound.proofs.work.Blocks.{frame_later}
use Rattle.runs_sound.proofs.work.Typed.{yields}

pub expressions_in_order : ExpressionsInOrder
expressions_in_order P wt b dp dd L e E h good g st f ff w =
    subst (InOrder P b (Yields P L g e st f) st) (same_expr (named_by b.path) P dp e f)
    (strict_order (λ q. q) P wt b dp dd L good g h (Yields P L g e st f) st f ff w (yields P L g e st f))

pub forking_in_order : ForkingInOrder
forking_in_order P wt b dp dd L ss E p good g st f ff w =
    subst (InOrder P b (Leaves P b L g ss st) st) (same_stmts (named_by b.path) P dp ss f) (strict_statements_in_order (λ q. q) P wt b dp dd L ss E p good g st f ff w)

pub tasks_in_order : TasksInOrder
tasks_in_order P wt b L ss E p good left g st f ff w =
    subst (InOrder P b (Leaves P b L g ss st) st) (same_meaning (named_by b.path) P left ss f) (strict_tasks_in_order (λ q. q) P wt b L ss E p good left g st f ff w)

pub branches_in_order : BranchesInOrder
branches_in_order P wt b st forking ts forks u t e h grows none =
    let fits = forks.branch u.1 t e in
    tasks_in_order P wt (branch_bounds b st forks u) (forks.scope u.1) t.work.stmts (forks.effects u.1) fits.passes fits.scope t.frame.left
    (forks.setting u.1) h (begun t.work.takes t.frame) (frame_later grows (omega arith) (fits.fits u.0))
    (λ a gu l. record { effects = inl l; blocks = subst (λ z. InEachEntry (u ∷ b.path) z a) (sym none) tt })

pub root_in_order : RootInOrder
root_in_order P wt arg small =
    let root : Task = root_task (named_by []) P first_name arg in
    subst (InOrder P (main_bounds P wt) (Leaves P (main_bounds P wt) (main_scope P wt) (class_setting []) wt.main.member.body (start P)) (start P))
    (same_meaning (named_by []) P root.frame.left root.work.stmts (begun root.work.takes root.frame)) (strict_root_in_order (λ q. q) P wt arg small)
