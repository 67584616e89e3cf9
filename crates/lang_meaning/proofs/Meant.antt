-- What is so of the meaning of each statement because of how it is put together.
use Rattle.std.proofs.Common.{◌≡◌, ℕ, ◌-◌, ℤ, pos, negsuc, Bool, true, false, cond, List, [], ◌∷◌, map, length, reverse, refl, Option, Some, None}
use Rattle.std.specs.Prelude.{slice_set}
use Rattle.lang_base.specs.declared.place.Place.{Place}
use Rattle.lang_base.specs.declared.value.Trap.{Trap}
use Rattle.lang_base.specs.declared.value.Trap.TheVariants as trap
use Rattle.lang_base.specs.Types.{PlainType}
use Rattle.lang_base.specs.Types.{PlainType as ty}
use Rattle.lang_typed.specs.declared.stmt.Forking.{Forking}
use Rattle.lang_typed.specs.Plain.{PlainProgram, of_array, of_part, TypedExpr, typed, TypedExprs, no_exprs, more_exprs, TypedStmt, statement, TypedStmts}
use Rattle.lang_typed.specs.Plain.{no_stmts, more_stmts, TypedBranches}
use Rattle.lang_typed.specs.Plain.{ExprForm as form}
use Rattle.lang_typed.specs.Plain.{StmtForm as stmt}
use Rattle.lang_typed.specs.Scope.{row_at, member_at, constructor_of, parent_of}
use Rattle.lang_meaning.specs.Values.{Value, Region, Naming}
use Rattle.lang_meaning.specs.Actions.{Frame, Own, Rest, Read, Write, Look, New, Print, Enter, Exit, Answer, Effect}
use Rattle.lang_meaning.specs.Counts.{number, truth, reference, value_read, is_out, name_made, class_seen, class_entered, operated, slot_value, part_place}
use Rattle.lang_meaning.specs.Core.{Result, Goes_on, Returns, Prog, Ret, Traps, Act, Makes, Again, on, and_then}
use Rattle.lang_meaning.specs.Regions.{around, concrete, some_long, is_long}
use Rattle.lang_meaning.specs.Expressions.{Deeper, gives, none, unless_null, read_cell, entered, back, called, created, new_object, made_array, class_in, part_element, of_expr, of_exprs}
use Rattle.lang_meaning.specs.Statements.{write_cell, makes, forks, part_begun, part_taken_over, of_stmt, of_stmts}

abbrev pub IsNoRest : {N M : Type 0} → Own N M → Type 0
IsNoRest Rest = ⊥
IsNoRest o = Unit {0}

-- Q: of what is done, where Fits is so of the frame. It is so of each form, and of what is put together of such; of a body one call deeper
-- with what follows it, and of forks.
pub record Meant {N M : Type 0} (names : Naming N M) (P : PlainProgram) (dp : Option (Deeper N M)) (Fits : Frame N M → Type 0) (Q : Prog N M → Type 0) : Type 0 where
  pub moves : (f g : Frame N M) → g.left ≡ f.left → Fits f → Fits g
  pub goes_on : (v : Value N) (f : Frame N M) → Fits f → Q (Ret (Goes_on v f))
  pub returns : (v : Value N) → Q (Ret (Returns v))
  pub traps : (t : Trap) (at : Place) → Q (Traps t at)
  pub then' : (p : Prog N M) (j : Value N → Frame N M → Prog N M) → Q p → ((v : Value N) (f : Frame N M) → Fits f → Q (j v f)) → Q (and_then p j)
  pub act : (o : Own N M) (k : Answer N M → Prog N M) → IsNoRest o → ((x : Answer N M) → Q (k x)) → Q (Act o k)
  pub enters : {effects : List (Effect M)} (k : Answer N M → Prog N M) → ((x : Answer N M) → Q (k x)) → Q (Act Rest (λ a. Act (Enter effects) k))
  pub makes : (k : M → Prog N M) → ((m : M) → Q (k m)) → Q (Makes k)
  pub again : (t b : Frame N M → Prog N M) (f : Frame N M) → Fits f → ((g : Frame N M) → Fits g → Q (t g)) → ((g : Frame N M) → Fits g → Q (b g)) → Q (Again t b f (λ r. Ret r))
  pub body : (deeper : Deeper N M) → dp ≡ Some deeper → (ss : TypedStmts) (f g : Frame N M) (j : Result N M → Prog N M) → Fits f → g.left ≡ f.left - 1 →
      ((r : Result N M) → Q (j r)) → Q (on (deeper ss g) j)
  pub forks : (at : Place) (forking : Forking) (takes : Option ℕ) (x : ℕ) (s : TypedStmt) (start count : ℤ) (f : Frame N M) → Fits f →
      Q (forks dp at forking takes x s start count f)
  pub cobegin : (at : Place) (forking : Forking) (bs : TypedBranches) (f : Frame N M) → Fits f → Q (of_stmt names P dp (statement at (stmt.cobegin forking bs)) f)

module _ {N M : Type 0} (names : Naming N M) (P : PlainProgram) (dp : Option (Deeper N M)) (Fits : Frame N M → Type 0) (Q : Prog N M → Type 0)
    (w : Meant names P dp Fits Q) where
  -- of one or the other
  or : {A : Type 0} (o : Option A) (p : Prog N M) (k : A → Prog N M) → Q p → ((x : A) → Q (k x)) → Q (elim o as (λ o. Prog N M) [ None ↦ p | Some x ↦ k x ])
  or None p k s h = s
  or (Some x) p k s h = h x

  choose : (b : Bool) (p q : Prog N M) → Q p → Q q → Q (cond b p q)
  choose true p q s t = s
  choose false p q s t = t

  tested : (b : Bool) (p q : Prog N M) → Q p → Q q → Q (elim b as (λ b. Prog N M) [ false ↦ p | true ↦ q ])
  tested false p q s t = s
  tested true p q s t = t

  unless : (at : Place) (v : Value N) (k : N → Prog N M) → ((n : N) → Q (k n)) → Q (unless_null at v k)
  unless at v k h = or (reference v) _ _ (w.traps _ at) h

  reads : (at : Place) (n : N) (i : ℤ) (f : Frame N M) → Fits f → Q (read_cell at n i f)
  reads at n i f l = w.act (Read n i) _ tt (λ a. or (value_read a) _ _ (w.traps _ at) (λ v. w.goes_on v f l))

  writes : (at : Place) (n : N) (i : ℤ) (v : Value N) (f : Frame N M) → Fits f → Q (write_cell at n i v f)
  writes at n i v f l = w.act (Write n i v) _ tt (λ a. choose (is_out a) _ _ (w.traps _ at) (w.goes_on none f l))

  in_part : (at : Place) (k : ℕ) (i : ℤ) (f : Frame N M) (j : N → ℤ → Prog N M) → ((n : N) (p : ℤ) → Q (j n p)) → Q (part_element at k i f j)
  in_part at k i f j h = or (part_place k i f.values) _ _ (w.traps _ at) (λ p. unless at (slot_value f.values k) _ (λ n. h n p))

  comes_back : (f : Frame N M) → Fits f → (r : Result N M) → Q (back f r)
  comes_back f l (Goes_on v g) = w.goes_on none f l
  comes_back f l (Returns v) = w.goes_on v f l

  call : (o : Option (Deeper N M)) → dp ≡ o → (at : Place) (c r : ℕ) (own : List (Region M)) (n : N) (vs : List (Value N)) (f : Frame N M) → Fits f →
      Q (called names P o at c r own n vs f)
  call None e at c r own n vs f l = w.traps trap.Stack at
  call (Some deeper) e at c r own n vs f l =
      choose (some_long own) _ _ (w.traps trap.Stack at) (w.act (Look n) _ tt (λ a.
      or (row_at P (class_entered (parent_of P) (length P.classes) c (class_seen a)).0 r) _ _ (w.goes_on none f l) (λ n. or (member_at P n) _ _ (w.goes_on none f l)
      (λ m. w.body deeper e m.body f _ (back f) l refl (comes_back f l)))))

  make : (o : Option (Deeper N M)) → dp ≡ o → (at : Place) (c n : ℕ) (regions : List (Region M)) (vs : List (Value N)) (f : Frame N M) → Fits f →
      Q (elim o as (λ o. Prog N M) [
        | None ↦ Traps trap.Stack at
        | Some deeper ↦ Act (New (new_object P c regions) true) (λ a. elim (member_at P n) [
          | None ↦ gives (name_made a) f
          | Some m ↦ on (deeper m.body (entered names m (name_made a ∷ vs) regions (f.left - 1))) (λ r. gives (name_made a) f)
        ])
      ])
  make None e at c n regions vs f l = w.traps trap.Stack at
  make (Some deeper) e at c n regions vs f l =
      w.act (New (new_object P c regions) true) _ tt (λ a. or (member_at P n) _ _ (w.goes_on (name_made a) f l)
      (λ m. w.body deeper e m.body f _ (λ r. gives (name_made a) f) l refl (λ r. w.goes_on (name_made a) f l)))

  create : (at : Place) (c : ℕ) (regions : List (Region M)) (vs : List (Value N)) (f : Frame N M) → Fits f → Q (created names P dp at c regions vs f)
  create at c regions vs f l =
      choose (some_long regions) _ _ (w.traps trap.Stack at) (or (constructor_of P c) _ _
      (w.act (New (new_object P c regions) false) _ tt (λ a. w.goes_on (name_made a) f l)) (λ n. make dp refl at c n regions vs f l))

  array : (at : Place) (t : PlainType) (k : ℤ) (f : Frame N M) → Fits f → Q (made_array names at t k f)
  array at (ty.array t a named) (negsuc k) f l = w.traps trap.Size at
  array at (ty.array t a named) (pos k) f l =
      choose (is_long (concrete names (around f) a)) _ _ (w.traps trap.Stack at) (w.act (New _ false) _ tt (λ x. w.goes_on (name_made x) f l))
  array at t k f l = w.goes_on none f l

  all_make : (rs : List ℕ) (f : Frame N M) → Fits f → Q (makes rs f)
  all_make [] f l = w.goes_on none f l
  all_make (r ∷ rs) f l = w.makes _ (λ m. all_make rs _ (w.moves f (record f { locals = slice_set f.locals r m }) refl l))

  mutual
    expr_meant : (e : TypedExpr) (f : Frame N M) → Fits f → Q (of_expr names P dp e f)
    expr_meant (typed at t (form.field e k i)) f l = w.then' _ _ (expr_meant e f l) (λ v g m. unless at v _ (λ n. reads at n (pos i) g m))
    expr_meant (typed at t (form.element a i)) f l =
        w.then' _ _ (expr_meant a f l) (λ v g m. w.then' _ _ (expr_meant i g m) (λ u h o. unless at v _ (λ n. reads at n (number u) h o)))
    expr_meant (typed at t (form.array_length a)) f l = w.then' _ _ (expr_meant a f l) (λ v g m. unless at v _ (λ n. w.act (Look n) _ tt (λ x. w.goes_on _ g m)))
    expr_meant (typed at t (form.call e k r regions es)) f l =
        w.then' _ _ (expr_meant e f l) (λ v g m. exprs_meant es g m [] _ (λ vs h o.
        unless at v _ (λ n. call dp refl at k r (map (concrete names (around h)) regions) n (reverse vs) h o)))
    expr_meant (typed at t (form.create es)) f l =
        exprs_meant es f l [] _ (λ vs g m. create at (class_in t).0 (map (concrete names (around g)) (class_in t).1) (reverse vs) g m)
    expr_meant (typed at t (form.create_array n)) f l = w.then' _ _ (expr_meant n f l) (λ v g m. array at t (number v) g m)
    expr_meant (typed at t (form.unary o e)) f l = w.then' _ _ (expr_meant e f l) (λ v g m. w.goes_on _ g m)
    expr_meant (typed at t (form.binary o a b)) f l =
        w.then' _ _ (expr_meant a f l) (λ v g m. w.then' _ _ (expr_meant b g m) (λ u h q. or (operated names.same o v u) _ _ (w.traps _ at) (λ x. w.goes_on x h q)))
    expr_meant (typed at t (form.both a b)) f l = w.then' _ _ (expr_meant a f l) (λ v g m. tested (truth v) _ _ (w.goes_on _ g m) (expr_meant b g m))
    expr_meant (typed at t (form.either a b)) f l = w.then' _ _ (expr_meant a f l) (λ v g m. tested (truth v) _ _ (expr_meant b g m) (w.goes_on _ g m))
    expr_meant (typed at t (form.part_element k i)) f l =
        w.then' _ _ (expr_meant i f l) (λ v g m. in_part at k (number v) g _ (λ n j. reads at n j g m))
    expr_meant e f l = w.goes_on _ f l

    exprs_meant : (es : TypedExprs) (f : Frame N M) → Fits f → (vs : List (Value N)) (j : List (Value N) → Frame N M → Prog N M) →
        ((ws : List (Value N)) (g : Frame N M) → Fits g → Q (j ws g)) → Q (of_exprs names P dp es f vs j)
    exprs_meant no_exprs f l vs j more = more vs f l
    exprs_meant (more_exprs e es) f l vs j more = w.then' _ _ (expr_meant e f l) (λ v g m. exprs_meant es g m (v ∷ vs) j more)

  mutual
    stmt_meant : (s : TypedStmt) (f : Frame N M) → Fits f → Q (of_stmt names P dp s f)
    stmt_meant (statement at (stmt.declare x t is_final e)) f l = w.then' _ _ (expr_meant e f l) (λ v g m. w.goes_on none _ (w.moves g _ refl m))
    stmt_meant (statement at (stmt.store x e)) f l = w.then' _ _ (expr_meant e f l) (λ v g m. w.goes_on none _ (w.moves g _ refl m))
    stmt_meant (statement at (stmt.store_field o d k e)) f l =
        w.then' _ _ (expr_meant o f l) (λ v g m. w.then' _ _ (expr_meant e g m) (λ u h q. unless at v _ (λ n. writes at n (pos k) u h q)))
    stmt_meant (statement at (stmt.store_element a i e)) f l =
        w.then' _ _ (expr_meant a f l) (λ v g m. w.then' _ _ (expr_meant i g m) (λ j h q. w.then' _ _ (expr_meant e h q) (λ u y z.
        unless at v _ (λ n. writes at n (number j) u y z))))
    stmt_meant (statement at (stmt.store_part k i e)) f l =
        w.then' _ _ (expr_meant i f l) (λ j g m. w.then' _ _ (expr_meant e g m) (λ u h q. in_part at k (number j) h _ (λ n y. writes at n y u h q)))
    stmt_meant (statement at (stmt.perform e)) f l = w.then' _ _ (expr_meant e f l) (λ v g m. w.goes_on none g m)
    stmt_meant (statement at (stmt.block ss)) f l = stmts_meant ss f l
    stmt_meant (statement at (stmt.choice e s)) f l = w.then' _ _ (expr_meant e f l) (λ v g m. tested (truth v) _ _ (w.goes_on none g m) (stmt_meant s g m))
    stmt_meant (statement at (stmt.choice_else e s t)) f l = w.then' _ _ (expr_meant e f l) (λ v g m. tested (truth v) _ _ (stmt_meant t g m) (stmt_meant s g m))
    stmt_meant (statement at (stmt.while_loop e s)) f l = w.again _ _ f l (λ g m. expr_meant e g m) (λ g m. stmt_meant s g m)
    stmt_meant (statement at stmt.return_nothing) f l = w.returns none
    stmt_meant (statement at (stmt.return_value e)) f l = w.then' _ _ (expr_meant e f l) (λ v g m. w.returns v)
    stmt_meant (statement at (stmt.print_int e)) f l = w.then' _ _ (expr_meant e f l) (λ v g m. w.act (Print _) _ tt (λ a. w.goes_on none g m))
    stmt_meant (statement at (stmt.print_boolean e)) f l = w.then' _ _ (expr_meant e f l) (λ v g m. w.act (Print _) _ tt (λ a. w.goes_on none g m))
    stmt_meant (statement at (stmt.print_text text)) f l = w.act (Print _) _ tt (λ a. w.goes_on none f l)
    stmt_meant (statement at (stmt.local_regions rs)) f l = all_make rs f l
    stmt_meant (statement at (stmt.atomic effects ss)) f l =
        w.enters _ (λ b. w.then' _ _ (stmts_meant ss f l) (λ v g m. w.act Exit _ tt (λ c. w.goes_on none g m)))
    stmt_meant (statement at (stmt.cobegin forking bs)) f l = w.cobegin at forking bs f l
    stmt_meant (statement at (stmt.foreach forking x start count s)) f l =
        w.then' _ _ (expr_meant start f l) (λ v g m. w.then' _ _ (expr_meant count g m) (λ u h q. w.forks at forking None x s (number v) (number u) h q))
    stmt_meant (statement at (stmt.foreach_parts k (of_array a) count s)) f l =
        w.then' _ _ (expr_meant a f l) (λ v g m. w.then' _ _ (expr_meant count (part_begun k v g) (w.moves g _ refl m)) (λ u h q.
        unless at _ _ (λ n. w.act (Look n) _ tt (λ a. w.forks at _ _ _ s _ _ _ (w.moves h _ refl q)))))
    stmt_meant (statement at (stmt.foreach_parts k (of_part j) count s)) f l =
        w.then' _ _ (expr_meant count (part_taken_over k j f) (w.moves f _ refl l)) (λ u g m. w.forks at _ _ _ s _ _ _ (w.moves g _ refl m))

    pub stmts_meant : (ss : TypedStmts) (f : Frame N M) → Fits f → Q (of_stmts names P dp ss f)
    stmts_meant no_stmts f l = w.goes_on none f l
    stmts_meant (more_stmts s ss) f l = w.then' _ _ (stmt_meant s f l) (λ v g m. stmts_meant ss g m)
