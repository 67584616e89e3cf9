-- What is done grows with what members do by their summaries.
use Rattle.std.proofs.Common.{◌≡◌, ◌+◌, ◌==◌, ℕ, Bool, true, false, not, cond, List, ◌++◌, map, refl, ap}
use Rattle.lang_base.specs.declared.effect.Access.{Access}
use Rattle.lang_base.specs.declared.effect.Effect.{Effect}
use Rattle.lang_base.specs.declared.region.Rpl.{Rpl}
use Rattle.lang_base.specs.Regions.{generalised}
use Rattle.lang_base.specs.Types.{PlainType, int}
use Rattle.lang_typed.specs.declared.stmt.Forking.{Forking}
use Rattle.lang_typed.specs.declared.stmt.Forking.TheVariants.{Deterministic, Nondeterministic}
use Rattle.lang_typed.specs.Plain.{PlainProgram, TypedExpr, typed, type_of, TypedExprs, no_exprs, more_exprs, Source, of_array, of_part, TypedStmt, statement, TypedStmts, no_stmts, more_stmts, TypedBranches, no_branches, more_branches}
use Rattle.lang_typed.specs.Plain.{ExprForm as expr}
use Rattle.lang_typed.specs.Plain.{StmtForm as form}
use Rattle.lang_typed.specs.Scope.{Scope, constant, row_at, field_at, with_local}
use Rattle.lang_typed.specs.Effects.{Own, does, uses, reads, writes, effect_of, as_effects, begins_in, handed_on, own_after, marked, mapped, after_branches, outside_variable, outside_regions, after_parts}
use Rattle.lang_typed.specs.Statements.{declared_as}
use Rattle.body_infer.specs.Doing.{of_field, of_element, of_local, of_callee, of_constructor, member_in, constructed, done_by, done_by_all, done_by_source, part_of, with_parts, effects_of, effects_of_all, effects_of_branches}
use Rattle.body_infer.proofs.Fewer.{Fewer, fewer_both, fewer_same, fewer_mapped, fewer_filtered, effect_by, own_by, Weaker, Less, less_same, less_effect, less_by}

-- of two programs, in the first each call and each creation does less
pub record Grows (P Q : PlainProgram) : Type 0 where
  pub field : (t : PlainType) (c k : ℕ) (access : Rpl → Own) → of_field P t (field_at P c k) access ≡ of_field Q t (field_at Q c k) access
  pub callee : (t : PlainType) (c r : ℕ) (regions : List Rpl) → Fewer Less (of_callee P t (member_in P (row_at P c r)) regions) (of_callee Q t (member_in Q (row_at Q c r)) regions)
  pub constructor : (t : PlainType) → Fewer Less (of_constructor t (constructed P t)) (of_constructor t (constructed Q t))

same : (E : List Own) → Fewer Less E E
same E = fewer_same Less less_same E

both : (E F G H : List Own) → Fewer Less E F → Fewer Less G H → Fewer Less (E ++ G) (F ++ H)
both E F G H h g = fewer_both Less E G F H h g

equal : {E F : List Own} → E ≡ F → Fewer Less E F
equal {E} {F} e = rw e (same F)

-- what becomes of an effect doesn't depend on its access

marked_by : (mark : Bool) (a : Access) (o : Own) → marked mark (own_by a o) ≡ own_by a (marked mark o)
marked_by mark a (does e) = refl
marked_by mark a (uses k e) = refl

marked_access : (mark : Bool) (o : Own) → (effect_of (marked mark o)).access ≡ (effect_of o).access
marked_access mark (does e) = refl
marked_access mark (uses k e) = refl

marked_fewer : (mark : Bool) (E F : List Own) → Fewer Less E F → Fewer Less (map (marked mark) E) (map (marked mark) F)
marked_fewer mark E F h = fewer_mapped Less Less (marked mark) (less_by (marked mark) (marked_by mark) (marked_access mark)) E F h

branches_less : (forking : Forking) (E F : List Own) → Fewer Less E F → Fewer Less (after_branches forking E) (after_branches forking F)
branches_less Deterministic E F h = marked_fewer false E F h
branches_less Nondeterministic E F h = h

placed_by : (f : Rpl → Rpl) (a : Access) (o : Own) → mapped (λ e. record e { rpl = f e.rpl }) (own_by a o) ≡ own_by a (mapped (λ e. record e { rpl = f e.rpl }) o)
placed_by f a (does e) = refl
placed_by f a (uses k e) = refl

placed_access : (f : Rpl → Rpl) (o : Own) → (effect_of (mapped (λ e. record e { rpl = f e.rpl }) o)).access ≡ (effect_of o).access
placed_access f (does e) = refl
placed_access f (uses k e) = refl

variable_less : (x : ℕ) (E F : List Own) → Fewer Less E F → Fewer Less (outside_variable x E) (outside_variable x F)
variable_less x E F h =
    fewer_mapped Less Less (mapped (λ e. record e { rpl = generalised x e.rpl })) (less_by (mapped (λ e. record e { rpl = generalised x e.rpl })) (placed_by (generalised x)) (placed_access (generalised x))) E F h

seen_alike : (rs : List ℕ) (o p : Own) → Less o p → not (begins_in rs (effect_of p).rpl.elems) ≡ not (begins_in rs (effect_of o).rpl.elems)
seen_alike rs o p h = ap (λ e. not (begins_in rs e.rpl.elems)) (Weaker.is (less_effect o p h))

regions_less : (rs : List ℕ) (E F : List Own) → Fewer Less E F → Fewer Less (outside_regions rs E) (outside_regions rs F)
regions_less rs E F h = fewer_filtered Less (λ o. not (begins_in rs (effect_of o).rpl.elems)) (seen_alike rs) E F h

handed_by : (source : Source) (a : Access) (e : Effect) → handed_on source (effect_by a e) ≡ own_by a (handed_on source e)
handed_by (of_array e) a d = refl
handed_by (of_part k) a d = refl

handed_access : (source : Source) (e : Effect) → (effect_of (handed_on source e)).access ≡ e.access
handed_access (of_array e) d = refl
handed_access (of_part k) d = refl

after_by : (k : ℕ) (source : Source) (a : Access) (o : Own) → own_after k source (own_by a o) ≡ own_by a (own_after k source o)
after_by k source a (does e) = refl
after_by k source a (uses j e) = by (j == k)
  where
    by : (b : Bool) → cond b (handed_on source (effect_by a e)) (uses j (effect_by a e)) ≡ own_by a (cond b (handed_on source e) (uses j e))
    by true = handed_by source a e
    by false = refl

after_access : (k : ℕ) (source : Source) (o : Own) → (effect_of (own_after k source o)).access ≡ (effect_of o).access
after_access k source (does e) = refl
after_access k source (uses j e) = by (j == k)
  where
    by : (b : Bool) → (effect_of (cond b (handed_on source e) (uses j e))).access ≡ e.access
    by true = handed_access source e
    by false = refl

parts_less : (k : ℕ) (source : Source) (E F : List Own) → Fewer Less E F → Fewer Less (after_parts k source E) (after_parts k source F)
parts_less k source E F h = fewer_mapped Less Less (own_after k source) (less_by (own_after k source) (after_by k source) (after_access k source)) E F h

pub effects_less : (E F : List Own) → Fewer Less E F → Fewer Weaker (as_effects E) (as_effects F)
effects_less E F h = fewer_mapped Less Weaker effect_of less_effect E F h

-- each form of expressions and statements

mutual
  done_less : (P Q : PlainProgram) (L : Scope) → Grows P Q → (e : TypedExpr) → Fewer Less (done_by P L e) (done_by Q L e)
  done_less P Q L h (typed place t (expr.int k)) = tt
  done_less P Q L h (typed place t (expr.boolean b)) = tt
  done_less P Q L h (typed place t expr.null) = tt
  done_less P Q L h (typed place t (expr.local x)) = tt
  done_less P Q L h (typed place t (expr.field of c k)) = both _ _ _ _ (done_less P Q L h of) (equal (Grows.field h (type_of of) c k (λ a. does (reads a))))
  done_less P Q L h (typed place t (expr.element a i)) = both _ _ _ _ (done_less P Q L h a) (both _ _ _ _ (done_less P Q L h i) (same (of_element L (type_of a) i (λ b. does (reads b)))))
  done_less P Q L h (typed place t (expr.array_length a)) = done_less P Q L h a
  done_less P Q L h (typed place t (expr.call of c r regions es)) = both _ _ _ _ (done_less P Q L h of) (both _ _ _ _ (all_done_less P Q L h es) (Grows.callee h (type_of of) c r regions))
  done_less P Q L h (typed place t (expr.create es)) = both _ _ _ _ (all_done_less P Q L h es) (Grows.constructor h t)
  done_less P Q L h (typed place t (expr.create_array n)) = done_less P Q L h n
  done_less P Q L h (typed place t (expr.unary op e)) = done_less P Q L h e
  done_less P Q L h (typed place t (expr.binary op a b)) = both _ _ _ _ (done_less P Q L h a) (done_less P Q L h b)
  done_less P Q L h (typed place t (expr.both a b)) = both _ _ _ _ (done_less P Q L h a) (done_less P Q L h b)
  done_less P Q L h (typed place t (expr.either a b)) = both _ _ _ _ (done_less P Q L h a) (done_less P Q L h b)
  done_less P Q L h (typed place t (expr.part_length k)) = tt
  done_less P Q L h (typed place t (expr.part_element k i)) = both _ _ _ _ (done_less P Q L h i) (same (of_local (L.local k) (λ a. uses k (reads a))))

  all_done_less : (P Q : PlainProgram) (L : Scope) → Grows P Q → (es : TypedExprs) → Fewer Less (done_by_all P L es) (done_by_all Q L es)
  all_done_less P Q L h no_exprs = tt
  all_done_less P Q L h (more_exprs e es) = both _ _ _ _ (done_less P Q L h e) (all_done_less P Q L h es)

source_less : (P Q : PlainProgram) (L : Scope) → Grows P Q → (s : Source) → Fewer Less (done_by_source P L s) (done_by_source Q L s)
source_less P Q L h (of_array e) = done_less P Q L h e
source_less P Q L h (of_part k) = tt

mutual
  statement_less : (P Q : PlainProgram) (L : Scope) → Grows P Q → (s : TypedStmt) → Fewer Less (effects_of P L s) (effects_of Q L s)
  statement_less P Q L h (statement at (form.declare x t is_final e)) = done_less P Q L h e
  statement_less P Q L h (statement at (form.store x e)) = done_less P Q L h e
  statement_less P Q L h (statement at (form.store_field o c k e)) = both _ _ _ _ (done_less P Q L h o) (both _ _ _ _ (done_less P Q L h e) (equal (Grows.field h (type_of o) c k (λ a. does (writes a)))))
  statement_less P Q L h (statement at (form.store_element a i e)) =
      both _ _ _ _ (done_less P Q L h a) (both _ _ _ _ (done_less P Q L h i) (both _ _ _ _ (done_less P Q L h e) (same (of_element L (type_of a) i (λ b. does (writes b))))))
  statement_less P Q L h (statement at (form.store_part k i e)) = both _ _ _ _ (done_less P Q L h i) (both _ _ _ _ (done_less P Q L h e) (same (of_local (L.local k) (λ a. uses k (writes a)))))
  statement_less P Q L h (statement at (form.perform e)) = done_less P Q L h e
  statement_less P Q L h (statement at (form.block ss)) = block_less P Q L h ss
  statement_less P Q L h (statement at (form.choice e s)) = both _ _ _ _ (done_less P Q L h e) (statement_less P Q L h s)
  statement_less P Q L h (statement at (form.choice_else e s t)) = both _ _ _ _ (done_less P Q L h e) (both _ _ _ _ (statement_less P Q L h s) (statement_less P Q L h t))
  statement_less P Q L h (statement at (form.while_loop e s)) = both _ _ _ _ (done_less P Q L h e) (statement_less P Q L h s)
  statement_less P Q L h (statement at form.return_nothing) = tt
  statement_less P Q L h (statement at (form.return_value e)) = done_less P Q L h e
  statement_less P Q L h (statement at (form.print_int e)) = done_less P Q L h e
  statement_less P Q L h (statement at (form.print_boolean e)) = done_less P Q L h e
  statement_less P Q L h (statement at (form.print_text text)) = tt
  statement_less P Q L h (statement at (form.local_regions rs)) = tt
  statement_less P Q L h (statement at (form.atomic entry ss)) = marked_fewer true (effects_of_all P L ss) (effects_of_all Q L ss) (block_less P Q L h ss)
  statement_less P Q L h (statement at (form.cobegin forking bs)) = branches_less forking (effects_of_branches P L bs) (effects_of_branches Q L bs) (each_branch_less P Q L h bs)
  statement_less P Q L h (statement at (form.foreach forking x start count s)) =
      let K = with_local x (constant int) L in
      both _ _ _ _ (done_less P Q L h start) (both _ _ _ _ (done_less P Q L h count)
      (variable_less x (after_branches forking (effects_of P K s)) (after_branches forking (effects_of Q K s)) (branches_less forking (effects_of P K s) (effects_of Q K s) (statement_less P Q K h s))))
  statement_less P Q L h (statement at (form.foreach_parts k source count s)) =
      let K = with_parts k (part_of L source) L in
      both _ _ _ _ (source_less P Q L h source) (both _ _ _ _ (done_less P Q L h count)
      (variable_less (k + 4) (after_branches Deterministic (after_parts k source (effects_of P K s))) (after_branches Deterministic (after_parts k source (effects_of Q K s)))
      (branches_less Deterministic (after_parts k source (effects_of P K s)) (after_parts k source (effects_of Q K s)) (parts_less k source (effects_of P K s) (effects_of Q K s) (statement_less P Q K h s)))))

  pub block_less : (P Q : PlainProgram) (L : Scope) → Grows P Q → (ss : TypedStmts) → Fewer Less (effects_of_all P L ss) (effects_of_all Q L ss)
  block_less P Q L h no_stmts = tt
  block_less P Q L h (more_stmts (statement at (form.declare x t is_final e)) ss) =
      let K = with_local x (declared_as is_final t) L in
      both _ _ _ _ (done_less P Q L h e) (variable_less x (effects_of_all P K ss) (effects_of_all Q K ss) (block_less P Q K h ss))
  block_less P Q L h (more_stmts (statement at (form.local_regions rs)) ss) = regions_less rs (effects_of_all P L ss) (effects_of_all Q L ss) (block_less P Q L h ss)
  block_less P Q L h (more_stmts (statement at (form.store x e)) ss) = both _ _ _ _ (statement_less P Q L h (statement at (form.store x e))) (block_less P Q L h ss)
  block_less P Q L h (more_stmts (statement at (form.store_field o c k e)) ss) = both _ _ _ _ (statement_less P Q L h (statement at (form.store_field o c k e))) (block_less P Q L h ss)
  block_less P Q L h (more_stmts (statement at (form.store_element a i e)) ss) = both _ _ _ _ (statement_less P Q L h (statement at (form.store_element a i e))) (block_less P Q L h ss)
  block_less P Q L h (more_stmts (statement at (form.store_part k i e)) ss) = both _ _ _ _ (statement_less P Q L h (statement at (form.store_part k i e))) (block_less P Q L h ss)
  block_less P Q L h (more_stmts (statement at (form.perform e)) ss) = both _ _ _ _ (statement_less P Q L h (statement at (form.perform e))) (block_less P Q L h ss)
  block_less P Q L h (more_stmts (statement at (form.block ts)) ss) = both _ _ _ _ (statement_less P Q L h (statement at (form.block ts))) (block_less P Q L h ss)
  block_less P Q L h (more_stmts (statement at (form.choice e s)) ss) = both _ _ _ _ (statement_less P Q L h (statement at (form.choice e s))) (block_less P Q L h ss)
  block_less P Q L h (more_stmts (statement at (form.choice_else e s t)) ss) = both _ _ _ _ (statement_less P Q L h (statement at (form.choice_else e s t))) (block_less P Q L h ss)
  block_less P Q L h (more_stmts (statement at (form.while_loop e s)) ss) = both _ _ _ _ (statement_less P Q L h (statement at (form.while_loop e s))) (block_less P Q L h ss)
  block_less P Q L h (more_stmts (statement at form.return_nothing) ss) = block_less P Q L h ss
  block_less P Q L h (more_stmts (statement at (form.return_value e)) ss) = both _ _ _ _ (statement_less P Q L h (statement at (form.return_value e))) (block_less P Q L h ss)
  block_less P Q L h (more_stmts (statement at (form.print_int e)) ss) = both _ _ _ _ (statement_less P Q L h (statement at (form.print_int e))) (block_less P Q L h ss)
  block_less P Q L h (more_stmts (statement at (form.print_boolean e)) ss) = both _ _ _ _ (statement_less P Q L h (statement at (form.print_boolean e))) (block_less P Q L h ss)
  block_less P Q L h (more_stmts (statement at (form.print_text text)) ss) = block_less P Q L h ss
  block_less P Q L h (more_stmts (statement at (form.atomic entry ts)) ss) = both _ _ _ _ (statement_less P Q L h (statement at (form.atomic entry ts))) (block_less P Q L h ss)
  block_less P Q L h (more_stmts (statement at (form.cobegin forking bs)) ss) = both _ _ _ _ (statement_less P Q L h (statement at (form.cobegin forking bs))) (block_less P Q L h ss)
  block_less P Q L h (more_stmts (statement at (form.foreach forking x start count s)) ss) = both _ _ _ _ (statement_less P Q L h (statement at (form.foreach forking x start count s))) (block_less P Q L h ss)
  block_less P Q L h (more_stmts (statement at (form.foreach_parts k source count s)) ss) = both _ _ _ _ (statement_less P Q L h (statement at (form.foreach_parts k source count s))) (block_less P Q L h ss)

  each_branch_less : (P Q : PlainProgram) (L : Scope) → Grows P Q → (bs : TypedBranches) → Fewer Less (effects_of_branches P L bs) (effects_of_branches Q L bs)
  each_branch_less P Q L h no_branches = tt
  each_branch_less P Q L h (more_branches copies s bs) = both _ _ _ _ (statement_less P Q L h s) (each_branch_less P Q L h bs)
