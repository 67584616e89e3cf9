-- The body of a branch that begins.
use Rattle.std.proofs.Common.{◌≡◌, ◌∙◌, ℕ, zero, suc, ◌+◌, ◌-◌, ◌<◌, List, [], ◌∷◌, map, length, drop, get_or, drop-cons, add-one, refl, sym, ap, arith, Option, Some, None, ℤ}
use Rattle.lang_typed.specs.declared.stmt.Branch.{Branch}
use Rattle.lang_typed.specs.declared.stmt.Stmt.{Stmt}
use Rattle.lang_typed.specs.Plain.{TypedStmt, plain_stmt, stmts_of, more_stmts, no_stmts, branches_of}
use Rattle.lang_meaning.specs.Actions.{Frame}
use Rattle.lang_meaning.specs.Elision.{LocalRegion}
use Rattle.lang_meaning.specs.Statements.{branch_of, tasks_of, iterations, numbered_frame, begun}
use Rattle.exec_frames.specs.declared.frame.Frame.{Frame as CodeFrame}
use Rattle.exec_frames.specs.Names.{plain_frame}
use Rattle.exec_walker.specs.Walk.{beginning}
use Rattle.exec_walker.specs.declared.level.Level.{Level}
use Rattle.exec_walker.specs.States.{plain_level, plain_branch}

pub level_is : (g : Level) (ss : List Stmt) (f : CodeFrame) (s : Stmt) (h : Frame ℕ LocalRegion)
    → plain_level g ≡ beginning (stmts_of (map plain_stmt ss)) (plain_frame f) f.left → ss ≡ s ∷ [] → plain_frame f ≡ h
    → plain_level g ≡ beginning (more_stmts (plain_stmt s) no_stmts) h h.left
level_is g ss f s h e is same =
    e ∙ ap (λ xs. beginning (stmts_of (map plain_stmt xs)) (plain_frame f) f.left) is ∙ ap (λ k. beginning (more_stmts (plain_stmt s) no_stmts) k k.left) same

pub begun_left : (takes : Option ℕ) (f : Frame ℕ LocalRegion) → (begun takes f).left ≡ f.left
begun_left None f = refl
begun_left (Some k) f = refl

pub next_branch : (bs : List Branch) (at : ℕ) (b : Branch) (f : Frame ℕ LocalRegion) → at < length bs → b ≡ get_or bs at b
    → tasks_of (branches_of (map plain_branch (drop at bs))) f
    ≡ branch_of None (map (λ slot. slot.number) b.copies) (plain_stmt b.body) f ∷ tasks_of (branches_of (map plain_branch (drop (at + 1) bs))) f
next_branch bs at b f l is =
    ap (λ xs. tasks_of (branches_of (map plain_branch xs)) f) (drop-cons bs at b l ∙ ap (λ x. x ∷ drop (suc at) bs) (sym is))
    ∙ ap (λ n. branch_of None (map (λ slot. slot.number) b.copies) (plain_stmt b.body) f ∷ tasks_of (branches_of (map plain_branch (drop n bs))) f) (sym (add-one at))

pub next_number : (takes : Option ℕ) (x : ℕ) (s : TypedStmt) (f : Frame ℕ LocalRegion) (start : ℤ) (i n : ℕ) → 0 < n
    → iterations takes x s f start i n ≡ branch_of takes [] s (numbered_frame x start i f) ∷ iterations takes x s f start (suc i) (n - 1)
next_number takes x s f start i zero h = absurd (omega arith)
next_number takes x s f start i (suc n) h =
    let e : n ≡ suc n - 1 = omega arith in ap (λ k. branch_of takes [] s (numbered_frame x start i f) ∷ iterations takes x s f start (suc i) k) e
