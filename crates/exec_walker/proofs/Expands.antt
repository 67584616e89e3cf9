-- An item that wants operands is its operands and then the operation over them.
use Rattle.std.proofs.Common.{◌≡◌, ℕ, suc, ◌+◌, List, [], ◌∷◌, ◌++◌, map, reverse, length, take, drop, refl, ap, ◌∙◌, sym, arith}
use Rattle.lang_base.specs.declared.place.Place.{Place}
use Rattle.lang_base.specs.Types.{PlainType}
use Rattle.lang_base.specs.declared.region.Rpl.{Rpl}
use Rattle.lang_typed.specs.Plain.{PlainProgram, of_array, of_part, TypedExpr, typed, TypedExprs, no_exprs, more_exprs, TypedStmt, statement}
use Rattle.lang_typed.specs.Plain.{ExprForm as form}
use Rattle.lang_typed.specs.Plain.{StmtForm as stmt}
use Rattle.lang_meaning.specs.Values.{Value}
use Rattle.lang_meaning.specs.Actions.{Frame}
use Rattle.lang_meaning.specs.Core.{Prog, and_then, bind, run}
use Rattle.lang_meaning.specs.Counts.{slot_value}
use Rattle.lang_meaning.specs.Elision.{LocalRegion, in_order, Store, sequential}
use Rattle.lang_meaning.specs.Expressions.{unless_null, called, created, class_in, of_expr, of_exprs}
use Rattle.lang_meaning.specs.Regions.{around, concrete}
use Rattle.exec_walker.specs.Agenda.{Item, evaluate, operate, carry_out, finish, deeper_at, operands_of, count, needs}
use Rattle.exec_walker.specs.Walk.{each}
use Rattle.exec_walker.proofs.Runs.{proceeds, following, then_run}
use Rattle.exec_walker.proofs.Residual.{Ran, items_run}

-- operands above others
slot_above : (us vs : List (Value ℕ)) (v : Value ℕ) → slot_value (us ++ v ∷ vs) (length us) ≡ v
slot_above [] vs v = refl
slot_above (u ∷ us) vs v = slot_above us vs v

take_above : (us vs : List (Value ℕ)) → take (length us) (us ++ vs) ≡ us
take_above [] vs = refl
take_above (u ∷ us) vs = ap (λ xs. u ∷ xs) (take_above us vs)

drop_above : (us vs : List (Value ℕ)) → drop (length us) (us ++ vs) ≡ vs
drop_above [] vs = refl
drop_above (u ∷ us) vs = drop_above us vs

drop_more : (us vs : List (Value ℕ)) (v : Value ℕ) → drop (suc (length us)) (us ++ v ∷ vs) ≡ vs
drop_more [] vs v = refl
drop_more (u ∷ us) vs v = drop_more us vs v

module _ (P : PlainProgram) (d : ℕ) where
  abbrev expr : TypedExpr → Frame ℕ LocalRegion → Prog ℕ LocalRegion
  expr e f = of_expr in_order P (deeper_at P d) e f

  abbrev Follows : Type 0
  Follows = Value ℕ → Frame ℕ LocalRegion → Store → Ran

  -- one operand, two, three
  one_operand : (a : TypedExpr) (j : Value ℕ → Frame ℕ LocalRegion → Prog ℕ LocalRegion) (K : Follows) (L : Follows) (f : Frame ℕ LocalRegion) (w : Store)
      → ((v : Value ℕ) (g : Frame ℕ LocalRegion) (x : Store) → bind (run sequential (j v g) x) (λ s y. proceeds K s y) ≡ L v g x)
      → bind (run sequential (and_then (expr a f) j) w) (λ r u. proceeds K r u) ≡ bind (run sequential (expr a f) w) (λ r u. proceeds L r u)
  one_operand a j K L f w h = then_run sequential (expr a f) j K w ∙ following (run sequential (expr a f) w) _ L h

  -- actuals, after those that have these values, above other operands
  actuals : (es : TypedExprs) (i : Item) (is : List Item) (J : List (Value ℕ) → Frame ℕ LocalRegion → Prog ℕ LocalRegion) (K : Follows) (us vs : List (Value ℕ)) (f : Frame ℕ LocalRegion) (w : Store)
      → ((xs : List (Value ℕ)) (g : Frame ℕ LocalRegion) (x : Store) → length xs ≡ count es + length us
      → bind (run sequential (J xs g) x) (λ r u. proceeds K r u) ≡ items_run P d (i ∷ is) (xs ++ vs) g x)
      → bind (run sequential (of_exprs in_order P (deeper_at P d) es f us J) w) (λ r u. proceeds K r u) ≡ items_run P d (each es (i ∷ is)) (us ++ vs) f w
  actuals no_exprs i is J K us vs f w h = h us f w (omega arith)
  actuals (more_exprs e es) i is J K us vs f w h =
      one_operand e (λ v g. of_exprs in_order P (deeper_at P d) es g (v ∷ us) J) K (λ v g x. items_run P d (each es (i ∷ is)) (v ∷ us ++ vs) g x) f w
      (λ v g x. actuals es i is J K (v ∷ us) vs g x (λ xs h' y e'. h xs h' y (omega arith)))

  expands_call : (at : Place) (t : PlainType) (e : TypedExpr) (c r : ℕ) (regions : List Rpl) (es : TypedExprs) (is : List Item) (vs : List (Value ℕ)) (f : Frame ℕ LocalRegion) (w : Store)
      → items_run P d (evaluate (typed at t (form.call e c r regions es)) ∷ is) vs f w
      ≡ items_run P d (each (more_exprs e es) (operate (typed at t (form.call e c r regions es)) ∷ is)) vs f w
  expands_call at t e c r regions es is vs f w =
      one_operand e (λ v g. of_exprs in_order P (deeper_at P d) es g [] (J v)) (λ v g x. items_run P d is (v ∷ vs) g x)
      (λ v g x. items_run P d (each es (E ∷ is)) (v ∷ vs) g x) f w
      (λ v g x. actuals es E is (J v) (λ v g x. items_run P d is (v ∷ vs) g x) [] (v ∷ vs) g x (λ us h y n. same v us h y (n ∙ zero_more (count es))))
    where
      E : Item
      E = operate (typed at t (form.call e c r regions es))

      J : Value ℕ → List (Value ℕ) → Frame ℕ LocalRegion → Prog ℕ LocalRegion
      J v us h = unless_null at v (λ n. called in_order P (deeper_at P d) at c r (map (concrete in_order (around h)) regions) n (reverse us) h)

      G : Frame ℕ LocalRegion → Store → Value ℕ → List (Value ℕ) → List (Value ℕ) → Ran
      G h y x xs rest =
          bind (run sequential (unless_null at x (λ n. called in_order P (deeper_at P d) at c r (map (concrete in_order (around h)) regions) n (reverse xs) h)) y)
          (λ r u. proceeds (λ v g x. items_run P d is (v ∷ rest) g x) r u)

      zero_more : (n : ℕ) → n + 0 ≡ n
      zero_more n = omega arith

      same : (v : Value ℕ) (us : List (Value ℕ)) (h : Frame ℕ LocalRegion) (y : Store) → length us ≡ count es
          → bind (run sequential (J v us h) y) (λ r u. proceeds (λ v g x. items_run P d is (v ∷ vs) g x) r u) ≡ items_run P d (E ∷ is) (us ++ v ∷ vs) h y
      same v us h y n = sym (
          ap (λ x. G h y x (take (count es) (us ++ v ∷ vs)) (drop (suc (count es)) (us ++ v ∷ vs))) (ap (λ k. slot_value (us ++ v ∷ vs) k) (sym n) ∙ slot_above us vs v)
          ∙ ap (λ xs. G h y v xs (drop (suc (count es)) (us ++ v ∷ vs))) (ap (λ k. take k (us ++ v ∷ vs)) (sym n) ∙ take_above us (v ∷ vs))
          ∙ ap (λ rest. G h y v us rest) (ap (λ k. drop (suc k) (us ++ v ∷ vs)) (sym n) ∙ drop_more us vs v))

  expands_creation : (at : Place) (t : PlainType) (es : TypedExprs) (is : List Item) (vs : List (Value ℕ)) (f : Frame ℕ LocalRegion) (w : Store)
      → items_run P d (evaluate (typed at t (form.create es)) ∷ is) vs f w ≡ items_run P d (each es (operate (typed at t (form.create es)) ∷ is)) vs f w
  expands_creation at t es is vs f w =
      actuals es E is J (λ v g x. items_run P d is (v ∷ vs) g x) [] vs f w (λ us h y n. same us h y (n ∙ zero_more (count es)))
    where
      E : Item
      E = operate (typed at t (form.create es))

      J : List (Value ℕ) → Frame ℕ LocalRegion → Prog ℕ LocalRegion
      J us g = created in_order P (deeper_at P d) at (class_in t).0 (map (concrete in_order (around g)) (class_in t).1) (reverse us) g

      G : Frame ℕ LocalRegion → Store → List (Value ℕ) → List (Value ℕ) → Ran
      G h y xs rest =
          bind (run sequential (created in_order P (deeper_at P d) at (class_in t).0 (map (concrete in_order (around h)) (class_in t).1) (reverse xs) h) y)
          (λ r u. proceeds (λ v g x. items_run P d is (v ∷ rest) g x) r u)

      zero_more : (n : ℕ) → n + 0 ≡ n
      zero_more n = omega arith

      same : (us : List (Value ℕ)) (h : Frame ℕ LocalRegion) (y : Store) → length us ≡ count es
          → bind (run sequential (J us h) y) (λ r u. proceeds (λ v g x. items_run P d is (v ∷ vs) g x) r u) ≡ items_run P d (E ∷ is) (us ++ vs) h y
      same us h y n = sym (
          ap (λ xs. G h y xs (drop (count es) (us ++ vs))) (ap (λ k. take k (us ++ vs)) (sym n) ∙ take_above us vs)
          ∙ ap (λ rest. G h y us rest) (ap (λ k. drop k (us ++ vs)) (sym n) ∙ drop_above us vs))

  pub expands : (e : TypedExpr) (is : List Item) (vs : List (Value ℕ)) (f : Frame ℕ LocalRegion) (w : Store)
      → items_run P d (evaluate e ∷ is) vs f w ≡ items_run P d (each (operands_of e) (operate e ∷ is)) vs f w
  expands (typed at t (form.field e c k)) is vs f w = one_operand e _ _ _ f w (λ v g x. refl)
  expands (typed at t (form.element a i)) is vs f w = one_operand a _ _ _ f w (λ v g x. one_operand i _ _ _ g x (λ u h y. refl))
  expands (typed at t (form.array_length a)) is vs f w = one_operand a _ _ _ f w (λ v g x. refl)
  expands (typed at t (form.call e c r regions es)) is vs f w = expands_call at t e c r regions es is vs f w
  expands (typed at t (form.create es)) is vs f w = expands_creation at t es is vs f w
  expands (typed at t (form.create_array n)) is vs f w = one_operand n _ _ _ f w (λ v g x. refl)
  expands (typed at t (form.unary o e)) is vs f w = one_operand e _ _ _ f w (λ v g x. refl)
  expands (typed at t (form.binary o a b)) is vs f w = one_operand a _ _ _ f w (λ v g x. one_operand b _ _ _ g x (λ u h y. refl))
  expands (typed at t (form.both a b)) is vs f w = one_operand a _ _ _ f w (λ v g x. refl)
  expands (typed at t (form.either a b)) is vs f w = one_operand a _ _ _ f w (λ v g x. refl)
  expands (typed at t (form.part_element k i)) is vs f w = one_operand i _ _ _ f w (λ v g x. refl)
  expands e is vs f w = refl

  pub expands_stmt : (s : TypedStmt) (is : List Item) (vs : List (Value ℕ)) (f : Frame ℕ LocalRegion) (w : Store)
      → items_run P d (carry_out s ∷ is) vs f w ≡ items_run P d (each (needs s) (finish s ∷ is)) vs f w
  expands_stmt (statement at (stmt.declare x t is_final e)) is vs f w = one_operand e _ _ _ f w (λ v g y. refl)
  expands_stmt (statement at (stmt.store x e)) is vs f w = one_operand e _ _ _ f w (λ v g y. refl)
  expands_stmt (statement at (stmt.store_field o c k e)) is vs f w = one_operand o _ _ _ f w (λ v g x. one_operand e _ _ _ g x (λ u h y. refl))
  expands_stmt (statement at (stmt.store_element a i e)) is vs f w =
      one_operand a _ _ _ f w (λ v g x. one_operand i _ _ _ g x (λ j h y. one_operand e _ _ _ h y (λ u l z. refl)))
  expands_stmt (statement at (stmt.store_part k i e)) is vs f w = one_operand i _ _ _ f w (λ v g x. one_operand e _ _ _ g x (λ u h y. refl))
  expands_stmt (statement at (stmt.perform e)) is vs f w = one_operand e _ _ _ f w (λ v g y. refl)
  expands_stmt (statement at (stmt.choice e s)) is vs f w = one_operand e _ _ _ f w (λ v g y. refl)
  expands_stmt (statement at (stmt.choice_else e s t)) is vs f w = one_operand e _ _ _ f w (λ v g y. refl)
  expands_stmt (statement at (stmt.return_value e)) is vs f w = one_operand e _ _ _ f w (λ v g y. refl)
  expands_stmt (statement at (stmt.print_int e)) is vs f w = one_operand e _ _ _ f w (λ v g y. refl)
  expands_stmt (statement at (stmt.print_boolean e)) is vs f w = one_operand e _ _ _ f w (λ v g y. refl)
  expands_stmt (statement at (stmt.foreach forking x start many s)) is vs f w =
      one_operand start _ _ _ f w (λ v g x. one_operand many _ _ _ g x (λ u h y. refl))
  expands_stmt (statement at (stmt.foreach_parts k (of_array a) many s)) is vs f w = one_operand a _ _ _ f w (λ v g y. refl)
  expands_stmt (statement at (stmt.foreach_parts k (of_part j) many s)) is vs f w = refl
  expands_stmt s is vs f w = refl
