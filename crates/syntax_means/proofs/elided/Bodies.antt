-- Alike bodies that pass run alike.
use Rattle.std.proofs.Common.{◌≡◌, ℕ, zero, suc, ◌+◌, ◌-◌, ◌==◌, ℤ, Bool, true, false, cond, List, [], ◌∷◌, Option, Some, None, refl, sym, ap, ◌∙◌}
use Rattle.std.specs.Prelude.{slice_set, option_map}
use Rattle.lang_base.specs.declared.place.Place.{Place}
use Rattle.lang_base.specs.declared.region.Rpl.{Rpl}
use Rattle.lang_base.specs.Types.{PlainType, int}
use Rattle.lang_typed.specs.declared.stmt.Forking.{Forking}
use Rattle.lang_typed.specs.Plain.{PlainProgram, of_array, of_part, TypedExpr, TypedStmt, statement, TypedStmts, no_stmts, more_stmts, TypedBranches}
use Rattle.lang_typed.specs.Plain.{StmtForm as stmt}
use Rattle.lang_typed.specs.Scope.{Scope, Local, constant, part, reserved, with_local, read_alone, in_loop_branch, member_at}
use Rattle.lang_typed.specs.Effects.{Own}
use Rattle.lang_typed.specs.Statements.{Passes, AllPass, BranchesPass, with_part}
use Rattle.lang_typed.specs.Statements.{Passes as passes}
use Rattle.lang_typed.specs.Statements.{AllPass as all}
use Rattle.lang_meaning.specs.Actions.{Ending}
use Rattle.lang_meaning.specs.Asking.{meaning}
use Rattle.lang_meaning.specs.Core.{Result, Goes_on, Returns, Out, Done, Stopped, Lost, bind, each_from, run}
use Rattle.lang_meaning.specs.Core.{Out as out}
use Rattle.lang_meaning.specs.Counts.{number, truth, reference, slot_value, brought, how_many}
use Rattle.lang_meaning.specs.Elision.{LocalRegion, Store, Steps, in_order, at_end, one_by_one, one_step, sequential}
use Rattle.lang_meaning.specs.Expressions.{Deeper}
use Rattle.lang_meaning.specs.Outcomes.{joined as join}
use Rattle.lang_meaning.specs.Statements.{joined, all_copies, branch_of, tasks_of, iterations, numbered_frame, begun, forks, part_begun, part_taken_over}
use Rattle.lang_meaning.specs.Statements.{of_stmt, of_stmts}
use Rattle.syntax_means.proofs.Alike.{StmtAlike, same, blocks, choices, choices_else, whiles, atomics, cobegins, foreaches, foreaches_parts, StmtsAlike, none_alike}
use Rattle.syntax_means.proofs.Alike.{more_alike, BranchesAlike}
use Rattle.syntax_means.proofs.elided.Branches.{runs_of_branches, EndsAlike, OutsAlike, both_done, both_trapped, both_stopped, both_lost, branches_run, same_join}
use Rattle.syntax_means.proofs.elided.Forms.{sharing, used, SameUse, BodiesAlike, DeeperAlike, Deepers, deepest, deeper, MembersAlike, same_expr, same_stmt, same_stmts}
use Rattle.syntax_means.proofs.elided.Runs.{Slots, Same, same_again, same_then, same_act, same_entry, same_loop, same_or, same_by}
use Rattle.syntax_means.proofs.elided.Untouched.{keeps_meaning}

-- what follows branches, that have run so
abbrev after_join : TypedBranches → Slots → Out ℕ LocalRegion (List (Ending ℕ)) Store → Out ℕ LocalRegion (Result ℕ LocalRegion) Store
after_join bs f o = bind (bind o (λ xs v. Done (brought {M = LocalRegion} (join xs)) (one_step v))) (λ x v. run sequential (joined (all_copies bs) f x) v)

same_after_join : {L : Scope} {g : Slots} {bs cs : TypedBranches} {o q : Out ℕ LocalRegion (List (Ending ℕ)) Store} → (f : Slots) → OutsAlike L g bs cs o q
    → ((xs ys : List (Ending ℕ)) → EndsAlike L g bs cs xs ys → (w : Store) → run sequential (joined (all_copies bs) f (brought {M = LocalRegion} (join xs))) w
    ≡ run sequential (joined (all_copies cs) f (brought {M = LocalRegion} (join ys))) w) → after_join bs f o ≡ after_join cs f q
same_after_join f (both_done {xs = xs} {ys = ys} {w = w} e) h = h xs ys e (one_step w)
same_after_join f both_trapped h = refl
same_after_join f both_stopped h = refl
same_after_join f both_lost h = refl

-- the end of a branch doesn't look at its statements
same_end : (takes : Option ℕ) (copies : List ℕ) (s t : TypedStmt) (f : Slots) (o : Out ℕ LocalRegion (Result ℕ LocalRegion) Store)
    → at_end (branch_of takes copies s f).work o ≡ at_end (branch_of takes copies t f).work o
same_end takes copies s t f (Done (Goes_on v g) w) = refl
same_end takes copies s t f (Done (Returns v) w) = refl
same_end takes copies s t f (out.Trapped tr p w) = refl
same_end takes copies s t f (Stopped n a) = refl
same_end takes copies s t f (Lost w) = refl

module _ (takes : Option ℕ) (x : ℕ) (s t : TypedStmt) (f : Slots) (start : ℤ) where
  each_iteration : {B : Type 0} (b : ℕ → B) (i j n : ℕ) → each_from b j (iterations takes x s f start i n) ≡ each_from b j (iterations takes x t f start i n)
  each_iteration b i j zero = refl
  each_iteration b i j (suc n) = ap (λ bs. b j ∷ bs) (each_iteration b (suc i) (suc j) n)

  same_iterations : (n i : ℕ) (ms : List (Steps (Result ℕ LocalRegion))) (w : Store)
      → one_by_one (iterations takes x s f start i n) ms w ≡ one_by_one (iterations takes x t f start i n) ms w
  same_iterations zero i ms w = refl
  same_iterations (suc n) i [] w = refl
  same_iterations (suc n) i (m ∷ ms) w =
      let g : Slots = numbered_frame x start i f in
      ap (λ o. bind o (λ y v. bind (one_by_one (iterations takes x s f start (suc i) n) ms v) (λ ys u. Done (y ∷ ys) u)))
      (same_end takes [] s t g (m (one_step w)))
      ∙ ap (λ (rest : Steps (List (Ending ℕ))). bind (at_end (branch_of takes [] t g).work (m (one_step w))) (λ y v. bind (rest v) (λ ys u. Done (y ∷ ys) u)))
      (λ k v. same_iterations n (suc i) ms v k)

used_alone : (l : Option Local) → used (option_map read_alone l) ≡ used l
used_alone None = refl
used_alone (Some k) = refl

uses_in_loop : {L M : Scope} → SameUse L M → SameUse (in_loop_branch L) (in_loop_branch M)
uses_in_loop {L} {M} uses = record { at = λ x. used_alone (L.local x) ∙ uses.at x ∙ sym (used_alone (M.local x)) }

uses_with : {L M : Scope} → SameUse L M → (x : ℕ) (k l : Local) → SameUse (with_local x k L) (with_local x l M)
uses_with {L} {M} uses x k l = record { at = λ y. at y (y == x) }
  where
    at : (y : ℕ) (b : Bool) → used (cond b (Some k) (L.local y)) ≡ used (cond b (Some l) (M.local y))
    at y true = refl
    at y false = uses.at y

module _ (P Q : PlainProgram) where
  alike_cobegin : {dp dq : Option (Deeper ℕ LocalRegion)} → Deepers (sharing P Q) Q dp dq → (L M : Scope) → SameUse L M → {bs cs : TypedBranches}
      → BranchesAlike bs cs → {Es Fs : List (List Own)} → BranchesPass (sharing P Q) L [] bs Es → BranchesPass Q M [] cs Fs → (at : Place) (forking : Forking)
      (f : Slots) → Same (of_stmt in_order (sharing P Q) dp (statement at (stmt.cobegin forking bs)) f)
      (of_stmt in_order Q dq (statement at (stmt.cobegin forking cs)) f)
  alike_cobegin deepest L M uses a d e at forking f = same_again
  alike_cobegin (deeper {dp = dp} {dq = dq} h) L M uses {bs} {cs} a d e at forking f =
      let g : Slots = record f { left = f.left - 1 } in record {
        from = λ w. ap (λ ms. after_join bs f (one_by_one (tasks_of bs f) ms (one_step w))) (runs_of_branches dp bs f g)
            ∙ same_after_join f (branches_run h uses f g a d e (one_step w)) (λ xs ys ends v. same_join uses d e f g refl ends v)
            ∙ sym (ap (λ ms. after_join cs f (one_by_one (tasks_of cs f) ms (one_step w))) (runs_of_branches dq cs f g));
      }

  alike_forks : {dp dq : Option (Deeper ℕ LocalRegion)} → Deepers (sharing P Q) Q dp dq → {s t : TypedStmt}
      → BodiesAlike (sharing P Q) Q (more_stmts s no_stmts) (more_stmts t no_stmts) → (at : Place) (forking : Forking) (takes : Option ℕ) (x : ℕ) (start count : ℤ)
      (f : Slots) → Same (forks dp at forking takes x s start count f) (forks dq at forking takes x t start count f)
  alike_forks deepest b at forking takes x start count f = same_again
  alike_forks (deeper {dp = dp} {dq = dq} h) {s} {t} b at forking takes x start count f =
      let n : ℕ = how_many count in
      let frame : ℕ → Slots = λ i. begun takes (record (numbered_frame x start i f) { left = f.left - 1 }) in
      let G : ℕ → Steps (Result ℕ LocalRegion) = λ i v. run sequential (dq (more_stmts t no_stmts) (frame i)) v in
      let after : Out ℕ LocalRegion (List (Ending ℕ)) Store → Out ℕ LocalRegion (Result ℕ LocalRegion) Store = λ o.
      bind (bind o (λ xs v. Done (brought {M = LocalRegion} (join xs)) (one_step v))) (λ y v. run sequential (joined [] f y) v) in record {
        from = λ w.
            ap (λ (F : ℕ → Steps (Result ℕ LocalRegion)).
            after (one_by_one (iterations takes x s f start 0 n) (each_from F 0 (iterations takes x s f start 0 n)) (one_step w)))
            (λ k i v. (h.alike (more_stmts s no_stmts) (more_stmts t no_stmts) b (frame i)).from v k)
            ∙ ap (λ ms. after (one_by_one (iterations takes x s f start 0 n) ms (one_step w))) (each_iteration takes x s t f start G 0 0 n)
            ∙ ap after (same_iterations takes x s t f start n 0 (each_from G 0 (iterations takes x t f start 0 n)) (one_step w));
      }

-- the body of a loop over parts
part_bodies : {P Q : PlainProgram} (L M : Scope) (k : ℕ) (t u : PlainType) (r q : Rpl) → SameUse L M → {s v : TypedStmt} {E F : List Own}
    → AllPass P (with_part k t r (in_loop_branch L)) (more_stmts s no_stmts) E → StmtAlike s v
    → AllPass Q (with_part k u q (in_loop_branch M)) (more_stmts v no_stmts) F → BodiesAlike P Q (more_stmts s no_stmts) (more_stmts v no_stmts)
part_bodies L M k t u r q uses {E = E} {F = F} d a e = record {
  left = with_part k t r (in_loop_branch L);
  right = with_part k u q (in_loop_branch M);
  does = E;
  other = F;
  left_passes = d;
  right_passes = e;
  alike = more_alike a none_alike;
  uses = uses_with (uses_with (uses_with (uses_with (uses_with (uses_in_loop uses) k (part t r) (part u q)) (k + 1) reserved reserved) (k + 2) reserved reserved)
      (k + 3) reserved reserved) (k + 4) (constant int) (constant int);
}

no_declare : {P : PlainProgram} {L : Scope} {at : Place} {x : ℕ} {t : PlainType} {is_final : Bool} {e : TypedExpr} {E : List Own}
    → Passes P L (statement at (stmt.declare x t is_final e)) E → ⊥
no_declare d = elim d [ ]

no_regions : {P : PlainProgram} {L : Scope} {at : Place} {rs : List ℕ} {E : List Own} → Passes P L (statement at (stmt.local_regions rs)) E → ⊥
no_regions d = elim d [ ]

module _ (P Q : PlainProgram) (members : (n : ℕ) → MembersAlike (sharing P Q) Q (member_at P n) (member_at Q n)) {dp dq : Option (Deeper ℕ LocalRegion)}
    (h : Deepers (sharing P Q) Q dp dq) where
  mutual
    alike_stmt : {L M : Scope} {s t : TypedStmt} {E F : List Own} → Passes (sharing P Q) L s E → StmtAlike s t → Passes Q M t F → SameUse L M → (f : Slots)
        → Same (of_stmt in_order (sharing P Q) dp s f) (of_stmt in_order Q dq t f)
    alike_stmt {s = s} d same e uses f = same_stmt P Q members h s f
    alike_stmt (passes.nested d) (blocks a) (passes.nested e) uses f = alike_stmts d a e uses f
    alike_stmt (passes.choice {e = test} has is d) (choices a) (passes.choice has' is' e) uses f =
        same_then (same_expr P Q members h test f) (λ v g. same_by (truth v) same_again (alike_alone d a e uses g))
    alike_stmt (passes.choice_else {e = test} has is d d') (choices_else a b) (passes.choice_else has' is' e e') uses f =
        same_then (same_expr P Q members h test f) (λ v g. same_by (truth v) (alike_alone d' b e' uses g) (alike_alone d a e uses g))
    alike_stmt (passes.while_loop {e = test} has is d) (whiles a) (passes.while_loop has' is' e) uses f =
        same_loop (λ g. same_expr P Q members h test g) (λ g. alike_alone d a e uses g)
    alike_stmt (passes.atomic d is) (atomics a) (passes.atomic e is') uses f =
        same_act (λ x. same_entry (λ y. same_then (alike_stmts d a e (record { at = uses.at }) f) (λ v g. same_again)))
    alike_stmt {L = L} {M = M} (passes.cobegin {at = at} {forking = forking} nd d apart) (cobegins a) (passes.cobegin nd' e apart') uses f =
        alike_cobegin P Q h L M uses a d e at forking f
    alike_stmt {L = L} {M = M} (passes.foreach {at = at} {forking = forking} {x = x} {start = start} {count = count} {G = E} nd has is counts whole free d apart)
        (foreaches a) (passes.foreach {G = F} nd' has' is' counts' whole' free' e apart') uses f =
        let bodies : BodiesAlike (sharing P Q) Q _ _ = record {
          left = with_local x (constant int) (in_loop_branch L);
          right = with_local x (constant int) (in_loop_branch M);
          does = E;
          other = F;
          left_passes = d;
          right_passes = e;
          alike = more_alike a none_alike;
          uses = uses_with (uses_in_loop uses) x (constant int) (constant int);
        } in
        same_then (same_expr P Q members h start f) (λ v g. same_then (same_expr P Q members h count g) (λ u l.
        alike_forks P Q h bodies at forking None x (number v) (number u) l))
    alike_stmt {L = L} {M = M} (passes.foreach_parts {at = at} {k = k} {source = of_array array} {count = count} {t = t} {a = r} {G = E} cuts counts whole free d apart clash)
        (foreaches_parts a) (passes.foreach_parts {t = u} {a = q} {G = F} cuts' counts' whole' free' e apart' clash') uses f =
        same_then (same_expr P Q members h array f) (λ v g. same_then (same_expr P Q members h count (part_begun k v g)) (λ n l.
        same_or (reference (slot_value (slice_set l.values (k + 3) n) k)) same_again (λ o. same_act (λ x.
        alike_forks P Q h (part_bodies L M k t u r q uses d a e) at _ _ _ _ _ _))))
    alike_stmt {L = L} {M = M} (passes.foreach_parts {at = at} {k = k} {source = of_part j} {count = count} {t = t} {a = r} {G = E} cuts counts whole free d apart clash)
        (foreaches_parts a) (passes.foreach_parts {t = u} {a = q} {G = F} cuts' counts' whole' free' e apart' clash') uses f =
        same_then (same_expr P Q members h count (part_taken_over k j f)) (λ n g.
        alike_forks P Q h (part_bodies L M k t u r q uses d a e) at _ _ _ _ _ _)

    -- the statement alone that a part of a construct holds
    alike_alone : {L M : Scope} {s t : TypedStmt} {E F : List Own} → AllPass (sharing P Q) L (more_stmts s no_stmts) E → StmtAlike s t
        → AllPass Q M (more_stmts t no_stmts) F → SameUse L M → (f : Slots) → Same (of_stmt in_order (sharing P Q) dp s f) (of_stmt in_order Q dq t f)
    alike_alone {s = s} d same e uses f = same_stmt P Q members h s f
    alike_alone (all.then' d completes more) a (all.then' e completes' more') uses f = alike_stmt d a e uses f

    pub alike_stmts : {L M : Scope} {ss ts : TypedStmts} {E F : List Own} → AllPass (sharing P Q) L ss E → StmtsAlike ss ts → AllPass Q M ts F → SameUse L M
        → (f : Slots) → Same (of_stmts in_order (sharing P Q) dp ss f) (of_stmts in_order Q dq ts f)
    alike_stmts all.no_more none_alike e uses f = same_again
    alike_stmts (all.then' d completes more) (more_alike a as') (all.then' e completes' more') uses f =
        same_then (alike_stmt d a e uses f) (λ v g. alike_stmts more as' more' uses g)
    alike_stmts (all.declare {at = at} {x = x} {t = t} {is_final = is_final} {e = e} free good has sub more) (more_alike same as')
        (all.declare free' good' has' sub' more') uses f =
        same_then (same_stmt P Q members h (statement at (stmt.declare x t is_final e)) f)
        (λ v g. alike_stmts more as' more' (uses_with uses x _ _) g)
    alike_stmts (all.declare_regions {at = at} {rs = rs} fresh more) (more_alike same as') (all.declare_regions fresh' more') uses f =
        same_then (same_stmt P Q members h (statement at (stmt.local_regions rs)) f)
        (λ v g. alike_stmts more as' more' (record { at = uses.at }) g)
    alike_stmts (all.then' d completes more) (more_alike same as') (all.declare free' good' has' sub' more') uses f = absurd (no_declare d)
    alike_stmts (all.then' d completes more) (more_alike same as') (all.declare_regions fresh' more') uses f = absurd (no_regions d)
    alike_stmts (all.declare free good has sub more) (more_alike same as') (all.then' e completes' more') uses f = absurd (no_declare e)
    alike_stmts (all.declare_regions fresh more) (more_alike same as') (all.then' e completes' more') uses f = absurd (no_regions e)

module _ (P Q : PlainProgram) (members : (n : ℕ) → MembersAlike (sharing P Q) Q (member_at P n) (member_at Q n)) where
  pub deeper_alike : (d : ℕ) → DeeperAlike (sharing P Q) Q (meaning in_order (sharing P Q) d) (meaning in_order Q d)
  unfolding meaning
  deeper_alike zero = record {
    same = λ ss f. same_stmts P Q members deepest ss f;
    alike = λ ss ts b f. alike_stmts P Q members deepest b.left_passes b.alike b.right_passes b.uses f;
    left = λ L ss E d f. keeps_meaning (sharing P Q) 0 d f;
    right = λ L ss E d f. keeps_meaning Q 0 d f;
  }
  deeper_alike (suc n) = record {
    same = λ ss f. same_stmts P Q members (deeper (deeper_alike n)) ss f;
    alike = λ ss ts b f. alike_stmts P Q members (deeper (deeper_alike n)) b.left_passes b.alike b.right_passes b.uses f;
    left = λ L ss E d f. keeps_meaning (sharing P Q) (suc n) d f;
    right = λ L ss E d f. keeps_meaning Q (suc n) d f;
  }
