-- The code of each statement does what its meaning says.
use Rattle.std.proofs.Common.{◌≡◌, ◌⊎◌, inl, inr, ℕ, zero, suc, ◌+◌, ◌-◌, ℤ, pos, Bool, true, false, cond, ◌||◌, ◌&&◌, IsTrue, List, [], ◌∷◌, ◌++◌, length, refl, sym, ap, ◌∙◌, subst, arith, Option, Some, None, slice_get, slice_set}
use Rattle.std.specs.Int.{w32, int_wrapping_add}
use Rattle.lang_base.specs.declared.place.Place.{Place}
use Rattle.lang_base.specs.declared.value.Trap.TheVariants as trap
use Rattle.lang_typed.specs.declared.stmt.Forking.{Forking}
use Rattle.lang_typed.specs.declared.stmt.Forking.TheVariants.{Deterministic}
use Rattle.lang_typed.specs.Plain.{PlainProgram, TypedExpr, typed, type_of, of_array, of_part, TypedStmt, statement, TypedStmts, no_stmts, more_stmts, TypedBranches, no_branches, more_branches}
use Rattle.lang_typed.specs.Plain.{ExprForm as expr}
use Rattle.lang_typed.specs.Plain.{StmtForm as form}
use Rattle.lang_typed.specs.Resolved.{is_void, ExprFits, PerformFits, StmtFits, StmtsFit, BranchesFit, Resolved}
use Rattle.lang_typed.specs.Statements.{completes, all_complete}
use Rattle.lang_meaning.specs.Values.{Value, Int, Naming}
use Rattle.lang_meaning.specs.Actions.{Frame, Print, Do, Begin}
use Rattle.lang_meaning.specs.Core.{and_then}
use Rattle.lang_meaning.specs.Counts.{number, truth, reference, slot_value, part_place, length_seen, line, how_many, Brought, Back, Trap_of_branch, copied}
use Rattle.lang_meaning.specs.Expressions.{Deeper, gives, none, of_expr}
use Rattle.lang_meaning.specs.Statements.{with_value, with_values, makes, joined, branch_of, tasks_of, all_copies, numbered_frame, iterations, forks, part_begun, part_taken_over, parts, of_stmt, of_stmts}
use Rattle.code_instrs.specs.declared.instr.Instr.{Instr}
use Rattle.code_instrs.specs.declared.instr.Instr.TheVariants as i
use Rattle.code_instrs.specs.Plain.{PlainCode, body_at, Site, fork_site, spread_site}
use Rattle.code_instrs.specs.Machine.{State, Level, Goes, Waits, Rested, spot, exec, step, all_copied, forked, spread, started, each_started, below, waiting, joins, joins_site, site_of, enters_block, rested_line}
use Rattle.code_instrs.specs.Machine as machine
use Rattle.code_scheme.specs.Scheme.{after_expr, after_stmt, after_stmts, after_regions, copy_lists}
use Rattle.code_scheme.specs.Stands.{LineAt, SitedAt, ExprAt, PoppedAt, RegionsAt, first_place, BeginsAt, BranchEnds, SpreadAt, ForkAt, PartsAt, StmtAt, StmtsAt, BranchesAt, LaidOut}
use Rattle.code_scheme.specs.Compiled.{Compiled, AllCompiled}
use Rattle.code_scheme.proofs.Sim.{Sim, sim_here, sim_step, sim_last, sim_value, sim_return, sim_off, sim_then, sim_act, sim_make, sim_loop, sim_split}
use Rattle.code_scheme.proofs.Right as right
use Rattle.code_scheme.proofs.Right.{lvl, gone, sim_or, sim_test, sim_deepest, deep_enough, sim_write}

copies_are : (bs : TypedBranches) → all_copied (copy_lists bs) ≡ all_copies bs
copies_are no_branches = refl
copies_are (more_branches copies s bs) = ap (λ x. copies ++ x) (copies_are bs)

-- the number for the branch that is next
abbrev pub risen : ℤ → ℕ → ℤ
risen start zero = start
risen start (suc k) = int_wrapping_add w32 (risen start k) (pos 1)

begin_number : (n k m : ℕ) → k + suc m ≡ n → n - suc m ≡ k
begin_number n k m e = omega arith

iterations_many : {N M : Type 0} (takes : Option ℕ) (x : ℕ) (s : TypedStmt) (f : Frame N M) (start : ℤ) (k n : ℕ) →
    length (iterations takes x s f start k n) ≡ n
iterations_many takes x s f start k zero = refl
iterations_many takes x s f start k (suc n) = ap suc (iterations_many takes x s f start (suc k) n)

neither : (a b : Bool) → a || b ≡ false → (a ≡ false) × (b ≡ false)
neither true b e = absurd (cc)
neither false b e = (refl, e)

alone : (a : Bool) → a && true ≡ false → a ≡ false
alone true e = absurd (cc)
alone false e = refl

second : (a b : Bool) → a ≡ true → a && b ≡ false → b ≡ false
second true b q e = e
second false b q e = absurd (cc)

goes_on : (a : Bool) (t : TypedStmt) (ts : TypedStmts) → IsTrue a ⊎ (more_stmts t ts ≡ no_stmts) → a ≡ true
goes_on true t ts h = refl
goes_on false t ts (inl h) = absurd (cc)
goes_on false t ts (inr h) = absurd (cc)

module _ {N M : Type 0} (names : Naming N M) (C : PlainCode) (P : PlainProgram) (body_of : ℕ → ℕ) (laid : LaidOut C P body_of) (resolved : Resolved P) where
  abbrev pub Right_deeper : ℕ → Option (Deeper N M) → Type 0
  Right_deeper d dp = right.Right_deeper names C P body_of laid resolved d dp

  at_line : (b p : ℕ) {x : Instr} {q : Place} (fs : List (Level N M)) (st : List (Value N)) (f : Frame N M) → LineAt (body_at C b).lines p x q →
      step names C (spot b fs p st f) ≡ exec names C q x (lvl b p st f) fs
  at_line = right.at_line names C P body_of laid resolved

  at_rested : (b p : ℕ) {s : ℕ} {q : Place} (fs : List (Level N M)) (st : List (Value N)) (f : Frame N M) → LineAt (body_at C b).lines p (i.Enter s) q →
      step names C (Rested (lvl b p st f) fs) ≡ enters_block names (slice_get C.sites s) (lvl b p st f) fs
  unfolding step
  at_rested b p fs st f h = ap (λ o. rested_line names C o (lvl b p st f) fs) h

  -- the body of a branch
  pub record BranchIs (j : ℕ) (takes : Option ℕ) (copies : List ℕ) (s : TypedStmt) : Type 0 where
    pub begins : BeginsAt C (body_at C j).lines takes
    pub stmt : StmtAt C (body_at C j).lines (first_place takes) s
    pub ends : BranchEnds C (body_at C j) (after_stmt (first_place takes) s) copies

  compiled_branch : (y : Bool) (j : ℕ) (takes : Option ℕ) (copies : List ℕ) (s : TypedStmt) → BranchIs j takes copies s → StmtFits P y s → (f : Frame N M) →
      Compiled C P (record { body = j; frame = below f }) (branch_of takes copies s f)
  compiled_branch y j takes copies s is ok f = record {
    body = record { begins = is.begins; stmts = (is.stmt, tt); ends = is.ends };
    frame = refl;
    gives = y;
    fits = (ok, inr refl, tt);
  }

  compiled_iterations : (y : Bool) (j : ℕ) (takes : Option ℕ) (x : ℕ) (s : TypedStmt) → BranchIs j takes [] s → StmtFits P y s →
      (f : Frame N M) (start : ℤ) (k n : ℕ) → AllCompiled C P (each_started j x f start k n) (iterations takes x s f start k n)
  compiled_iterations y j takes x s is ok f start k zero = tt
  compiled_iterations y j takes x s is ok f start k (suc n) =
      (compiled_branch y j takes [] s is ok (numbered_frame x start k f), compiled_iterations y j takes x s is ok f start (suc k) n)

  compiled_branches : (y : Bool) (bs : TypedBranches) (js : List ℕ) → BranchesAt C bs js → BranchesFit P y bs → (f : Frame N M) →
      AllCompiled C P (started js f) (tasks_of bs f)
  compiled_branches y no_branches js h ok f = subst (λ z. AllCompiled C P (started z f) []) (sym h) tt
  compiled_branches y (more_branches copies s bs) js h ok f =
      subst (λ z. AllCompiled C P (started z f) (tasks_of (more_branches copies s bs) f)) (sym h.2)
      (compiled_branch y h.0 None copies s (record { begins = tt; stmt = h.3.0; ends = h.3.1 }) ok.0 f, compiled_branches y bs h.1 h.4 ok.1 f)

  branches_many : (bs : TypedBranches) (js : List ℕ) → BranchesAt C bs js → (f : Frame N M) → length (tasks_of bs f) ≡ length js
  branches_many no_branches js h f = sym (ap length h)
  branches_many (more_branches copies s bs) js h f = ap suc (branches_many bs h.1 h.4 f) ∙ sym (ap length h.2)

  module _ (d : ℕ) (y : Bool) (b : ℕ) (fs : List (Level N M)) where
    right_expr : (dp : Option (Deeper N M)) → Right_deeper d dp → (e : TypedExpr) → ExprFits P e → (p : ℕ) (st : List (Value N)) →
        ExprAt C (body_at C b).lines p e → (f : Frame N M) → f.left ≡ d →
        Sim names C P d (spot b fs p st f) (λ v g. spot b fs (after_expr p e) (v ∷ st) g) (λ v. gone y v fs) (of_expr names P dp e f)
    right_expr dp dh e ok p st h f l = right.right_expr names C P body_of laid resolved d y b fs dp dh e ok p st h f l

    abbrev Right_stmt : Option (Deeper N M) → ℕ → List (Value N) → TypedStmt → Type 0
    Right_stmt dp p st s = (f : Frame N M) → f.left ≡ d →
        Sim names C P d (spot b fs p st f) (λ v g. spot b fs (after_stmt p s) st g) (λ v. gone y v fs) (of_stmt names P dp s f)

    -- after a join
    right_joined : (p : ℕ) (st : List (Value N)) (copies all : List ℕ) → copies ≡ all → (f : Frame N M) → f.left ≡ d → (x : Brought N) →
        Sim names C P d (machine.joined copies x (lvl b p st f) fs) (λ v g. spot b fs (suc p) st g) (λ v. gone y v fs) (joined all f x)
    right_joined p st copies all e f l (Back ls) =
        subst (λ z. Sim names C P d (machine.joined copies (Back ls) (lvl b p st f) fs) (λ v g. spot b fs (suc p) st g) (λ v. gone y v fs)
        (joined z f (Back ls))) e (sim_here none (with_values f (copied copies ls f.values)) l)
    right_joined p st copies all e f l (Trap_of_branch t at) = sim_off t at

    -- a join stands directly after its site
    at_join : (p : ℕ) (x : ℕ → Instr) (q : Place) (site : Site) (h : SitedAt C (body_at C b).lines p x q site) → LineAt (body_at C b).lines (suc p) i.Join q →
        site_of (Some (record { instr = x h.number; place = q })) ≡ Some h.number → (st : List (Value N)) (f : Frame N M) →
        step names C (spot b fs (suc p) st f) ≡ joins_site (Some site) (lvl b (suc p) st f) fs
    at_join p x q site h j e st f =
        at_line b (suc p) fs st f j ∙
        (ap (λ o. joins C (site_of o) (lvl b (suc p) st f) fs) h.stands ∙
        (ap (λ o. joins C o (lvl b (suc p) st f) fs) e ∙ ap (λ o. joins_site o (lvl b (suc p) st f) fs) h.site_is))

    -- a branch for each number
    right_forks : (dp : Option (Deeper N M)) → Right_deeper d dp → (at : Place) (forking : Forking) (takes : Option ℕ) (x j : ℕ) (s : TypedStmt) →
        BranchIs j takes [] s → StmtFits P y s → (p : ℕ) (st : List (Value N)) → SpreadAt C (body_at C b).lines p at (spread_site forking j x) →
        (v u : Value N) (f : Frame N M) → f.left ≡ d →
        Sim names C P d (spot b fs p (u ∷ v ∷ st) f) (λ v g. spot b fs (suc (suc p)) st g) (λ v. gone y v fs)
        (forks dp at forking takes x s (number v) (number u) f)
    right_forks None dh at forking takes x j s is ok p st h v u f l =
        sim_deepest at _ f.left (l ∙ dh) (at_line b p fs (u ∷ v ∷ st) f h.spreads.stands ∙ ap (λ o. spread at o (lvl b p (u ∷ v ∷ st) f) fs) h.spreads.site_is)
    right_forks (Some deep) dh at forking takes x j s is ok p st h v u f l =
        sim_split forking (iterations takes x s f (number v) 0 n) (each_started j x f (number v) 0 n) _ (joined [] f)
        (λ k m. spot b fs (suc p) (waiting m (risen (number v) k) n st) f)
        (λ z. machine.joined [] z (lvl b (suc p) st f) fs)
        n (iterations_many takes x s f (number v) 0 n) (compiled_iterations y j takes x s is ok f (number v) 0 n)
        (deep_enough at _ f.left dh.0 (l ∙ dh.1) (at_line b p fs (u ∷ v ∷ st) f h.spreads.stands ∙
        ap (λ o. spread at o (lvl b p (u ∷ v ∷ st) f) fs) h.spreads.site_is))
        (λ k m e. stands (waiting (suc m) (risen (number v) k) n st) ∙
        ap (λ z. Waits (Begin z) (λ a. spot b fs (suc p) (waiting m (risen (number v) (suc k)) n st) f)) (begin_number n k m e))
        (λ k. stands (waiting 0 (risen (number v) k) n st))
        (right_joined (suc p) st [] [] refl f l)
      where
        n : ℕ
        n = how_many (number u)

        stands : (more : List (Value N)) → step names C (spot b fs (suc p) more f) ≡ joins_site (Some (spread_site forking j x)) (lvl b (suc p) more f) fs
        stands more = at_join p i.Spread at (spread_site forking j x) h.spreads h.joins refl more f

    right_cobegin : (dp : Option (Deeper N M)) → Right_deeper d dp → (at : Place) (forking : Forking) (bs : TypedBranches) → BranchesFit P y bs →
        (js : List ℕ) (p : ℕ) (st : List (Value N)) → ForkAt C (body_at C b).lines p at (fork_site forking js (copy_lists bs)) → BranchesAt C bs js →
        (f : Frame N M) → f.left ≡ d →
        Sim names C P d (spot b fs p st f) (λ v g. spot b fs (suc (suc p)) st g) (λ v. gone y v fs)
        (of_stmt names P dp (statement at (form.cobegin forking bs)) f)
    right_cobegin None dh at forking bs ok js p st h r f l =
        sim_deepest at _ f.left (l ∙ dh) (at_line b p fs st f h.forks.stands ∙ ap (λ o. forked at o (lvl b p st f) fs) h.forks.site_is)
    right_cobegin (Some deep) dh at forking bs ok js p st h r f l =
        sim_split forking (tasks_of bs f) (started js f) _ (joined (all_copies bs) f)
        (λ k m. spot b fs (suc p) (Int (pos m) ∷ st) f)
        (λ z. machine.joined (all_copied (copy_lists bs)) z (lvl b (suc p) st f) fs)
        (length js) (branches_many bs js r f) (compiled_branches y bs js r ok f)
        (deep_enough at _ f.left dh.0 (l ∙ dh.1) (at_line b p fs st f h.forks.stands ∙ ap (λ o. forked at o (lvl b p st f) fs) h.forks.site_is))
        (λ k m e. stands (Int (pos (suc m)) ∷ st) ∙ ap (λ z. Waits (Begin z) (λ a. spot b fs (suc p) (Int (pos m) ∷ st) f)) (begin_number (length js) k m e))
        (λ k. stands (Int (pos 0) ∷ st))
        (right_joined (suc p) st (all_copied (copy_lists bs)) (all_copies bs) (copies_are bs) f l)
      where
        stands : (more : List (Value N)) →
            step names C (spot b fs (suc p) more f) ≡ joins_site (Some (fork_site forking js (copy_lists bs))) (lvl b (suc p) more f) fs
        stands more = at_join p i.Fork at (fork_site forking js (copy_lists bs)) h.forks h.joins refl more f

    right_regions : (at : Place) (rs : List ℕ) (p : ℕ) (st : List (Value N)) → RegionsAt C (body_at C b).lines p at rs → (f : Frame N M) → f.left ≡ d →
        Sim names C P d (spot b fs p st f) (λ v g. spot b fs (after_regions p rs) st g) (λ v. gone y v fs) (makes rs f)
    right_regions at [] p st h f l = sim_here none f l
    right_regions at (r ∷ rs) p st h f l =
        sim_make (at_line b p fs st f h.0) (λ m. right_regions at rs (suc p) st h.1 (record f { locals = slice_set f.locals r m }) l)

    -- what stands as a statement, and gives a value or none
    right_perform : (dp : Option (Deeper N M)) → Right_deeper d dp → (at : Place) (e : TypedExpr) (z : Bool) → PerformFits P e z →
        (p : ℕ) (st : List (Value N)) → ExprAt C (body_at C b).lines p e → PoppedAt C (body_at C b).lines (after_expr p e) z at → (f : Frame N M) →
        f.left ≡ d → Sim names C P d (spot b fs p st f) (λ v g. spot b fs (cond z (after_expr p e) (suc (after_expr p e))) st g) (λ v. gone y v fs)
        (and_then (of_expr names P dp e f) (λ v g. gives none g))
    right_perform dp dh at e false ok p st h k f l = sim_then (right_expr dp dh e ok p st h f l) (λ v g m. sim_value none g m (at_line b _ fs (v ∷ st) g k))
    right_perform dp dh at (typed q t (expr.call e c r regions es)) true ok p st h k f l =
        sim_then (right.right_call names C P body_of laid resolved d y b fs dp dh false q t e c r regions es ok.2 p st h.2 (right_expr dp dh e ok.0 p st h.0)
        (λ v. right.right_exprs names C P body_of laid resolved d y b fs dp dh es ok.1 _ (v ∷ st) [] h.1) f l)
        (λ v g m. sim_here none g m)
    right_perform dp dh at e true ok p st h k f l = absurd ok

    -- a branch for each part, whose slots are filled
    right_parts : (dp : Option (Deeper N M)) → Right_deeper d dp → (at : Place) (x j : ℕ) (s : TypedStmt) → BranchIs j (Some x) [] s → StmtFits P y s →
        (p : ℕ) (st : List (Value N)) → PartsAt C (body_at C b).lines p at x j → (f : Frame N M) → f.left ≡ d →
        Sim names C P d (spot b fs p st f) (λ v g. spot b fs (suc (suc (suc (suc p)))) st g) (λ v. gone y v fs) (parts dp at x s f)
    right_parts dp dh at x j s is ok p st h f l =
        sim_step (at_line b p fs st f h.0) (sim_step (at_line b (suc p) fs (Int (pos 0) ∷ st) f h.1)
        (right_forks dp dh at Deterministic (Some x) (x + 4) j s is ok (suc (suc p)) st h.2 (Int (pos 0)) (slot_value f.values (x + 3)) f l))

    mutual
      pub right_stmt : (dp : Option (Deeper N M)) → Right_deeper d dp → (s : TypedStmt) → StmtFits P y s → (p : ℕ) (st : List (Value N)) →
          StmtAt C (body_at C b).lines p s → Right_stmt dp p st s
      right_stmt dp dh (statement at (form.declare x t is_final e)) ok p st h f l =
          sim_then (right_expr dp dh e ok p st h.0 f l) (λ v g m. sim_value none (with_value g x v) m (at_line b _ fs (v ∷ st) g h.1))
      right_stmt dp dh (statement at (form.store x e)) ok p st h f l =
          sim_then (right_expr dp dh e ok p st h.0 f l) (λ v g m. sim_value none (with_value g x v) m (at_line b _ fs (v ∷ st) g h.1))
      right_stmt dp dh (statement at (form.store_field o c k e)) ok p st h f l =
          sim_then (right_expr dp dh o ok.0 p st h.0 f l) (λ v g m. sim_then (right_expr dp dh e ok.1 _ (v ∷ st) h.1 g m) (λ u g m.
          sim_write at v (pos k) u b _ fs (u ∷ v ∷ st) st g m (at_line b _ fs (u ∷ v ∷ st) g h.2)))
      right_stmt dp dh (statement at (form.store_element a j e)) ok p st h f l =
          sim_then (right_expr dp dh a ok.0 p st h.0 f l) (λ v g m. sim_then (right_expr dp dh j ok.1 _ (v ∷ st) h.1 g m) (λ w g m.
          sim_then (right_expr dp dh e ok.2 _ (w ∷ v ∷ st) h.2 g m) (λ u g m.
          sim_write at v (number w) u b _ fs (u ∷ w ∷ v ∷ st) st g m (at_line b _ fs (u ∷ w ∷ v ∷ st) g h.3))))
      right_stmt dp dh (statement at (form.store_part k j e)) ok p st h f l =
          sim_then (right_expr dp dh j ok.0 p st h.0 f l) (λ w g m. sim_then (right_expr dp dh e ok.1 _ (w ∷ st) h.1 g m) (λ u g m.
          sim_or trap.Index at (part_place k (number w) g.values) (at_line b _ fs (u ∷ w ∷ st) g h.2) (λ q e.
          sim_step e (sim_write at (slot_value g.values k) q u b _ fs (u ∷ Int q ∷ slot_value g.values k ∷ st) st g m
          (at_line b _ fs (u ∷ Int q ∷ slot_value g.values k ∷ st) g h.3)))))
      right_stmt dp dh (statement at (form.perform e)) ok p st h f l = right_perform dp dh at e (is_void (type_of e)) ok p st h.0 h.1 f l
      right_stmt dp dh (statement at (form.block ss)) ok p st h f l = right_stmts dp dh ss ok p st h f l
      right_stmt dp dh (statement at (form.choice e s)) ok p st h f l =
          sim_then (right_expr dp dh e ok.0 p st h.0 f l) (λ v g m. sim_test b _ _ fs st g (truth v) (at_line b _ fs (v ∷ st) g h.1)
          (sim_here none g m) (right_stmt dp dh s ok.1 _ st h.2 g m))
      right_stmt dp dh (statement at (form.choice_else e s t)) ok p st h f l =
          sim_then (right_expr dp dh e ok.0 p st h.0 f l) (λ v g m. sim_test b _ _ fs st g (truth v) (at_line b _ fs (v ∷ st) g h.1)
          (right_stmt dp dh t ok.2 _ st h.4 g m) (sim_last (λ u g. at_line b _ fs st g h.3) (right_stmt dp dh s ok.1 _ st h.2 g m)))
      right_stmt dp dh (statement at (form.while_loop e s)) ok p st h f l =
          sim_loop _ _ _ _ _ _ _ _ (right_expr dp dh e ok.0 p st h.0) (right_stmt dp dh s ok.1 _ st h.3) (spot b fs (suc (after_expr p e)) st)
          (λ v g q. at_line b _ fs (v ∷ st) g h.1 ∙
          ap (λ c. Goes (spot b fs (cond c (suc (after_expr p e)) (after_stmt p (statement at (form.while_loop e s)))) st g)) q)
          (λ v g q. at_line b _ fs (v ∷ st) g h.1 ∙
          ap (λ c. Goes (spot b fs (cond c (suc (after_expr p e)) (after_stmt p (statement at (form.while_loop e s)))) st g)) q)
          (λ g. at_line b _ fs st g h.2) (λ v g. at_line b _ fs st g h.4) f l
      right_stmt dp dh (statement at form.return_nothing) ok p st h f l = sim_return none (at_line b p fs st f h ∙ ap (λ z. Goes (gone z none fs)) (sym ok))
      right_stmt dp dh (statement at (form.return_value e)) ok p st h f l =
          sim_then (right_expr dp dh e ok.1 p st h.0 f l) (λ v g m. sim_return v (at_line b _ fs (v ∷ st) g h.1 ∙ ap (λ z. Goes (gone z v fs)) (sym ok.0)))
      right_stmt dp dh (statement at (form.print_int e)) ok p st h f l =
          sim_then (right_expr dp dh e ok p st h.0 f l) (λ v g m. sim_act (at_line b _ fs (v ∷ st) g h.1) (λ a. sim_here none g m))
      right_stmt dp dh (statement at (form.print_boolean e)) ok p st h f l =
          sim_then (right_expr dp dh e ok p st h.0 f l) (λ v g m. sim_act (at_line b _ fs (v ∷ st) g h.1) (λ a. sim_here none g m))
      right_stmt dp dh (statement at (form.print_text text)) ok p st h f l =
          sim_act (at_line b p fs st f h.1 ∙ ap (λ z. Waits (Do (Print (line z))) (λ a. spot b fs (suc p) st f)) h.2) (λ a. sim_here none f l)
      right_stmt dp dh (statement at (form.local_regions rs)) ok p st h f l = right_regions at rs p st h f l
      right_stmt dp dh (statement at (form.atomic effects ss)) ok p st h f l =
          sim_act (at_line b p fs st f h.0.stands)
          (λ a. sim_act (at_rested b p fs st f h.0.stands ∙ ap (λ o. enters_block names o (lvl b p st f) fs) h.0.site_is) (λ c.
          sim_then (right_stmts dp dh ss ok _ st h.1 f l) (λ v g m. sim_act (at_line b _ fs st g h.2) (λ z. sim_here none g m))))
      right_stmt dp dh (statement at (form.cobegin forking bs)) ok p st h f l = right_cobegin dp dh at forking bs ok h.0 p st h.1 h.2 f l
      right_stmt dp dh (statement at (form.foreach forking x start count s)) ok p st h f l =
          sim_then (right_expr dp dh start ok.0 p st h.1 f l) (λ v g m. sim_then (right_expr dp dh count ok.1 _ (v ∷ st) h.2 g m) (λ u g m.
          right_forks dp dh at forking None x h.0 s (record { begins = tt; stmt = h.4.0; ends = h.4.1 }) ok.2 _ st h.3 v u g m))
      right_stmt dp dh (statement at (form.foreach_parts x (of_array a) count s)) ok p st h f l =
          sim_then (right_expr dp dh a ok.0 p st h.1 f l) (λ v g m.
          sim_step (at_line b _ fs (v ∷ st) g h.2)
          (sim_step (at_line b _ fs st (with_value g x v) h.3) (sim_step (at_line b _ fs (Int (pos 0) ∷ st) (with_value g x v) h.4)
          (sim_then (right_expr dp dh count ok.1 _ st h.5 (part_begun x v g) m) (λ u g m.
          sim_step (at_line b _ fs (u ∷ st) g h.6.0) (sim_step (at_line b _ fs st (with_value g (x + 3) u) h.6.1)
          (sim_or trap.Null at (reference (slot_value (with_value g (x + 3) u).values x))
          (at_line b _ fs (slot_value (with_value g (x + 3) u).values x ∷ st) (with_value g (x + 3) u) h.6.2) (λ n e. sim_act e (λ c.
          sim_step (at_line b _ fs (Int (pos (length_seen c)) ∷ st) (with_value g (x + 3) u) h.6.3)
          (right_parts dp dh at x h.0 s (record { begins = h.8.0; stmt = h.8.1; ends = h.8.2 }) ok.2 _ st h.7
          (with_value (with_value g (x + 3) u) (x + 2) (Int (pos (length_seen c)))) m))))))))))
      right_stmt dp dh (statement at (form.foreach_parts x (of_part z) count s)) ok p st h f l =
          sim_step (at_line b p fs st f h.1) (sim_step (at_line b _ fs (slot_value f.values z ∷ st) f h.2)
          (sim_step (at_line b _ fs st (with_value f x (slot_value f.values z)) h.3)
          (sim_step (at_line b _ fs (slot_value (with_value f x (slot_value f.values z)).values (z + 1) ∷ st) (with_value f x (slot_value f.values z)) h.4)
          (sim_then (right_expr dp dh count ok.0 _ st h.5 (part_taken_over x z f) l) (λ u g m.
          sim_step (at_line b _ fs (u ∷ st) g h.6) (sim_step (at_line b _ fs st (with_value g (x + 3) u) h.7)
          (sim_step (at_line b _ fs (slot_value (with_value g (x + 3) u).values (z + 2) ∷ st) (with_value g (x + 3) u) h.8)
          (right_parts dp dh at x h.0 s (record { begins = h.10.0; stmt = h.10.1; ends = h.10.2 }) ok.1 _ st h.9
          (with_value (with_value g (x + 3) u) (x + 2) (slot_value (with_value g (x + 3) u).values (z + 2))) m))))))))

      pub right_stmts : (dp : Option (Deeper N M)) → Right_deeper d dp → (ss : TypedStmts) → StmtsFit P y ss → (p : ℕ) (st : List (Value N)) →
          StmtsAt C (body_at C b).lines p ss → (f : Frame N M) → f.left ≡ d →
          Sim names C P d (spot b fs p st f) (λ v g. spot b fs (after_stmts p ss) st g) (λ v. gone y v fs) (of_stmts names P dp ss f)
      right_stmts dp dh no_stmts ok p st h f l = sim_here none f l
      right_stmts dp dh (more_stmts s ss) ok p st h f l = sim_then (right_stmt dp dh s ok.0 p st h.0 f l) (λ v g m. right_stmts dp dh ss ok.2 _ st h.1 g m)

    -- a statement that doesn't complete goes on nowhere
    mutual
      pub right_never : (dp : Option (Deeper N M)) → Right_deeper d dp → (s : TypedStmt) → StmtFits P y s → completes s ≡ false →
          (p : ℕ) (st : List (Value N)) → StmtAt C (body_at C b).lines p s → (B : Value N → Frame N M → State N M) (f : Frame N M) → f.left ≡ d →
          Sim names C P d (spot b fs p st f) B (λ v. gone y v fs) (of_stmt names P dp s f)
      right_never dp dh (statement at form.return_nothing) ok e p st h B f l =
          sim_return none (at_line b p fs st f h ∙ ap (λ z. Goes (gone z none fs)) (sym ok))
      right_never dp dh (statement at (form.return_value x)) ok e p st h B f l =
          sim_then (right_expr dp dh x ok.1 p st h.0 f l) (λ v g m. sim_return v (at_line b _ fs (v ∷ st) g h.1 ∙ ap (λ z. Goes (gone z v fs)) (sym ok.0)))
      right_never dp dh (statement at (form.block ss)) ok e p st h B f l = right_none dp dh ss ok e p st h B f l
      right_never dp dh (statement at (form.choice_else x s t)) ok e p st h B f l =
          sim_then (right_expr dp dh x ok.0 p st h.0 f l) (λ v g m. sim_test b _ _ fs st g (truth v) (at_line b _ fs (v ∷ st) g h.1)
          (right_never dp dh t ok.2 (neither (completes s) (completes t) e).1 _ st h.4 B g m)
          (right_never dp dh s ok.1 (neither (completes s) (completes t) e).0 _ st h.2 B g m))
      right_never dp dh s ok e p st h B f l = absurd (cc)

      pub right_none : (dp : Option (Deeper N M)) → Right_deeper d dp → (ss : TypedStmts) → StmtsFit P y ss → all_complete ss ≡ false →
          (p : ℕ) (st : List (Value N)) → StmtsAt C (body_at C b).lines p ss → (B : Value N → Frame N M → State N M) (f : Frame N M) → f.left ≡ d →
          Sim names C P d (spot b fs p st f) B (λ v. gone y v fs) (of_stmts names P dp ss f)
      right_none dp dh no_stmts ok e p st h B f l = absurd (cc)
      right_none dp dh (more_stmts s no_stmts) ok e p st h B f l =
          sim_then (right_never dp dh s ok.0 (alone (completes s) e) p st h.0 (λ v g. B none g) f l) (λ v g m. sim_here none g m)
      right_none dp dh (more_stmts s (more_stmts t ts)) ok e p st h B f l =
          sim_then (right_stmt dp dh s ok.0 p st h.0 f l)
          (λ v g m. right_none dp dh (more_stmts t ts) ok.2 (second (completes s) (all_complete (more_stmts t ts)) (goes_on (completes s) t ts ok.1) e) _
          st h.1 B g m)
