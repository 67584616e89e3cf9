-- A well-typed program gives what the code asks of it.
use Rattle.std.proofs.Common.{◌≡◌, ◌⊎◌, inl, inr, ℕ, Bool, true, false, not, List, refl, sym, ap, ◌∙◌, Option, Some, None, slice_get, option_and_then}
use Rattle.lang_base.specs.declared.region.Rpl.{Rpl}
use Rattle.lang_base.specs.Types.{PlainType, int, boolean, void, null, class, array, type_with, unnamed, SameType}
use Rattle.lang_typed.specs.Plain.{PlainProgram, PlainClass, PlainParent, PlainMember, TypedExpr, type_of, form_of, ExprForm, TypedExprs, of_array, of_part, TypedStmt, statement, TypedStmts, no_stmts, more_stmts, TypedBranches, no_branches, more_branches}
use Rattle.lang_typed.specs.Plain.{ExprForm as form}
use Rattle.lang_typed.specs.Plain.{StmtForm as stmt}
use Rattle.lang_typed.proofs.Parts.{each_stmt, each_branch, substatements, Each}
use Rattle.lang_typed.specs.Resolved.{is_void, gives_value, RowGives, ExprFits, ExprsFit, VoidCall, PerformFits, StmtFits, StmtsFit, BranchesFit, Resolved}
use Rattle.lang_typed.specs.Scope.{Scope, class_at, member_at, constructor_of, parent_of}
use Rattle.lang_typed.specs.Types.{Subtype, ints, booleans, null_object, null_array, objects, arrays, inherits}
use Rattle.lang_typed.specs.Effects.{Own}
use Rattle.lang_base.specs.declared.op.Operands.{Operands}
use Rattle.lang_base.specs.declared.op.Operands.TheVariants.{Ints, Same}
use Rattle.lang_base.specs.Operators.{operands_of}
use Rattle.lang_typed.specs.Typing.{Has, Fit, IsReference, Comparable, Takes}
use Rattle.lang_typed.specs.Typing.{Has as has}
use Rattle.lang_typed.specs.Typing.{Fit as fit}
use Rattle.lang_typed.specs.Statements.{all_complete, IsPerformed, cuts_array, cuts_part, Passes, AllPass, BranchesPass}
use Rattle.lang_typed.specs.Statements.{Passes as passes}
use Rattle.lang_typed.specs.Statements.{AllPass as all}
use Rattle.lang_typed.specs.Statements.{BranchesPass as branches}
use Rattle.lang_typed.specs.Table.{KeepsRow}
use Rattle.lang_typed.specs.WellTyped.{WellTyped}

with_void : (args : List Rpl) (t : PlainType) → is_void (type_with args t) ≡ is_void t
with_void args int = refl
with_void args boolean = refl
with_void args void = refl
with_void args null = refl
with_void args (class c rs) = refl
with_void args (array t a named) = refl

unnamed_void : (t : PlainType) → is_void (unnamed t) ≡ is_void t
unnamed_void int = refl
unnamed_void boolean = refl
unnamed_void void = refl
unnamed_void null = refl
unnamed_void (class c rs) = refl
unnamed_void (array t a named) = refl

same_void : (a b : PlainType) → SameType a b → is_void a ≡ is_void b
same_void a b e = sym (unnamed_void a) ∙ (ap is_void e ∙ unnamed_void b)

sub_left : {P : PlainProgram} {a b : PlainType} → Subtype P a b → is_void a ≡ false
sub_left ints = refl
sub_left booleans = refl
sub_left null_object = refl
sub_left null_array = refl
sub_left (objects w) = refl
sub_left (arrays w s) = refl
sub_left (inherits e s) = refl

sub_right : {P : PlainProgram} {a b : PlainType} → Subtype P a b → is_void b ≡ false
sub_right ints = refl
sub_right booleans = refl
sub_right null_object = refl
sub_right null_array = refl
sub_right (objects w) = refl
sub_right (arrays w s) = refl
sub_right (inherits e s) = sub_right s

reference_void : (t : PlainType) → IsReference t → is_void t ≡ false
reference_void int h = absurd h
reference_void boolean h = absurd h
reference_void void h = absurd h
reference_void null h = refl
reference_void (class c rs) h = refl
reference_void (array t a named) h = refl

comparable_types : (t u : PlainType) → Comparable t u → (is_void t ≡ false) × (is_void u ≡ false)
comparable_types t u (inl h) = (ap is_void h.0, ap is_void h.1)
comparable_types t u (inr (inl h)) = (ap is_void h.0, ap is_void h.1)
comparable_types t u (inr (inr h)) = (reference_void t h.0, reference_void u h.1)

operand_types : (o : Operands) (t u : PlainType) → Takes o t u → (is_void t ≡ false) × (is_void u ≡ false)
operand_types Ints t u h = (ap is_void h.0, ap is_void h.1)
operand_types Same t u h = comparable_types t u h

abbrev is_performed : ExprForm → Bool
is_performed (form.call e c r regions es) = true
is_performed (form.create es) = true
is_performed f = false

performed_is : (e : TypedExpr) → IsPerformed e → is_performed (form_of e) ≡ true
performed_is e (inl h) = ap is_performed h.5
performed_is e (inr h) = ap is_performed h.1

nothing_given : (y : Bool) → true ≡ not y → y ≡ false
nothing_given true e = absurd (cc)
nothing_given false e = refl

something_given : (y : Bool) → false ≡ not y → y ≡ true
something_given true e = refl
something_given false e = absurd (cc)

module _ (P : PlainProgram) where
  mutual
    expr_fits : {L : Scope} {e : TypedExpr} {E : List Own} → Has P L e E → is_void (type_of e) ≡ false → ExprFits P e
    expr_fits (has.literal_int s) z = tt
    expr_fits has.literal_boolean z = tt
    expr_fits has.literal_null z = tt
    expr_fits (has.read_local h) z = tt
    expr_fits (has.read_field h q f r t) z = expr_fits h (ap is_void q)
    expr_fits (has.read_element h q i s r t) z = (expr_fits h (ap is_void q), expr_fits i (ap is_void s))
    expr_fits (has.length_of_array h q) z = expr_fits h (ap is_void q)
    expr_fits (has.call_method {n = n} {m = m} h q row member above good full known readable actuals nd_free t) z = (
      expr_fits h (ap is_void q),
      exprs_fit actuals,
      record {
        number = n;
        member = m;
        row = row;
        is_there = member;
        kind =
            ap not (sym (with_void _ m.result) ∙ (sym (ap is_void t) ∙ z));
      },
    )
    expr_fits (has.create_object k g a n) z = tt
    expr_fits (has.construct_object k g a n m f c) z = exprs_fit f
    expr_fits (has.make_array g a h q) z = (expr_fits h (ap is_void q), tt)
    expr_fits (has.negative h q) z = expr_fits h (ap is_void q)
    expr_fits (has.negation h q) z = expr_fits h (ap is_void q)
    expr_fits (has.operation {o = op} {a = x} {b = y} h i o t) z = let v = operand_types (operands_of op) (type_of x) (type_of y) o in (expr_fits h v.0, expr_fits i v.1)
    expr_fits (has.conjunction h q i r) z = (expr_fits h (ap is_void q), expr_fits i (ap is_void r))
    expr_fits (has.disjunction h q i r) z = (expr_fits h (ap is_void q), expr_fits i (ap is_void r))
    expr_fits (has.length_of_part l) z = tt
    expr_fits (has.read_part l i q) z = expr_fits i (ap is_void q)

    exprs_fit : {L : Scope} {es : TypedExprs} {ts : List PlainType} {F : List Own} → Fit P L es ts F → ExprsFit P es
    exprs_fit fit.none = tt
    exprs_fit (fit.one_more h s f) = (expr_fits h (sub_left s), exprs_fit f)

  perform_void : {L : Scope} {e : TypedExpr} {E : List Own} → Has P L e E → is_performed (form_of e) ≡ true → is_void (type_of e) ≡ true → VoidCall P e
  perform_void (has.call_method {n = n} {m = m} h q row member above good full known readable actuals nd_free t) p z = (
    expr_fits h (ap is_void q),
    exprs_fit actuals,
    record {
      number = n;
      member = m;
      row = row;
      is_there = member;
      kind =
          ap not (sym (with_void _ m.result) ∙ (sym (ap is_void t) ∙ z));
    },
  )
  perform_void h p z = absurd (cc)

  perform_fits : {L : Scope} {e : TypedExpr} {E : List Own} → Has P L e E → IsPerformed e → (z : Bool) → is_void (type_of e) ≡ z → PerformFits P e z
  perform_fits {e = x} h p true q = perform_void h (performed_is x p) q
  perform_fits h p false q = expr_fits h q

  module _ (y : Bool) where
    -- what a `return` here gives
    abbrev ResultFits : Scope → Type 0
    ResultFits L = (t : PlainType) → L.result ≡ Some t → is_void t ≡ not y

    no_result : {A : Type 0} (t : PlainType) → None ≡ Some t → A
    no_result t e = absurd (cc)

    mutual
      passes_fit : {L : Scope} {s : TypedStmt} {E : List Own} → Passes P L s E → ResultFits L → StmtFits P y s
      passes_fit (passes.store l h t) r = expr_fits h (sub_left t)
      passes_fit (passes.store_field h q f k i t) r = (expr_fits h (ap is_void q), expr_fits i (sub_left t))
      passes_fit (passes.store_element h q i s m j t) r = (expr_fits h (ap is_void q), expr_fits i (ap is_void s), expr_fits j (sub_left t))
      passes_fit (passes.store_part l i q j t) r = (expr_fits i (ap is_void q), expr_fits j (sub_left t))
      passes_fit (passes.perform {e = e} p h) r = perform_fits h p (is_void (type_of e)) refl
      passes_fit (passes.nested a) r = all_fit a r
      passes_fit (passes.choice h q a) r = (expr_fits h (ap is_void q), (all_fit a r).0)
      passes_fit (passes.choice_else h q a b) r = (expr_fits h (ap is_void q), (all_fit a r).0, (all_fit b r).0)
      passes_fit (passes.while_loop h q a) r = (expr_fits h (ap is_void q), (all_fit a r).0)
      passes_fit (passes.return_nothing q) r = nothing_given y (r void q)
      passes_fit (passes.return_value {t = t} q h s) r = (something_given y (sym (sub_right s) ∙ r t q), expr_fits h (sub_left s))
      passes_fit (passes.print_int h q) r = expr_fits h (ap is_void q)
      passes_fit (passes.print_boolean h q) r = expr_fits h (ap is_void q)
      passes_fit passes.print_text r = tt
      passes_fit (passes.atomic a s) r = all_fit a (λ t q. no_result t q)
      passes_fit (passes.cobegin n b c) r = branches_fit b
      passes_fit (passes.foreach n h q i s f a c) r = (expr_fits h (ap is_void q), expr_fits i (ap is_void s), (all_fit a (λ t q. no_result t q)).0)
      passes_fit (passes.foreach_parts (cuts_array h q w) i s f a c d) r =
          (expr_fits h (ap is_void q), expr_fits i (ap is_void s), (all_fit a (λ t q. no_result t q)).0)
      passes_fit (passes.foreach_parts (cuts_part l) i s f a c d) r = (expr_fits i (ap is_void s), (all_fit a (λ t q. no_result t q)).0)

      all_fit : {L : Scope} {ss : TypedStmts} {E : List Own} → AllPass P L ss E → ResultFits L → StmtsFit P y ss
      all_fit all.no_more r = tt
      all_fit (all.then' p c a) r = (passes_fit p r, c, all_fit a r)
      all_fit (all.declare f g h s a) r = (expr_fits h (sub_left s), inl refl, all_fit a r)
      all_fit (all.declare_regions f a) r = (tt, inl refl, all_fit a r)

      branches_fit : {L : Scope} {others : List ℕ} {bs : TypedBranches} {Es : List (List Own)} → BranchesPass P L others bs Es → BranchesFit P y bs
      branches_fit branches.no_branch = tt
      branches_fit (branches.one_branch c d a b) = ((all_fit a (λ t q. no_result t q)).0, branches_fit b)

-- the parts of a statement that fits fit
module _ (P : PlainProgram) (y : Bool) where
  pub each_fits : (ss : TypedStmts) → StmtsFit P y ss → Each (StmtFits P y) (each_stmt ss)
  each_fits no_stmts h = tt
  each_fits (more_stmts s ss) h = (h.0, each_fits ss h.2)

  branch_fits : (bs : TypedBranches) → BranchesFit P y bs → Each (StmtFits P y) (each_branch bs)
  branch_fits no_branches h = tt
  branch_fits (more_branches copies s bs) h = (h.0, branch_fits bs h.1)

  pub parts_fit : (s : TypedStmt) → StmtFits P y s → Each (StmtFits P y) (substatements s)
  parts_fit (statement at (stmt.block ss)) h = each_fits ss h
  parts_fit (statement at (stmt.choice e s)) h = (h.1, tt)
  parts_fit (statement at (stmt.choice_else e s t)) h = (h.1, (h.2, tt))
  parts_fit (statement at (stmt.while_loop e s)) h = (h.1, tt)
  parts_fit (statement at (stmt.atomic effects ss)) h = each_fits ss h
  parts_fit (statement at (stmt.cobegin forking bs)) h = branch_fits bs h
  parts_fit (statement at (stmt.foreach forking x start count s)) h = (h.2, tt)
  parts_fit (statement at (stmt.foreach_parts x (of_array a) count s)) h = (h.2, tt)
  parts_fit (statement at (stmt.foreach_parts x (of_part z) count s)) h = (h.1, tt)
  parts_fit s h = tt

some_is : {A : Type 0} {x y : A} → Some x ≡ Some y → x ≡ y
some_is e = cc

twice : (b : Bool) → b ≡ not (not b)
twice true = refl
twice false = refl

-- what a class has that is found through its number
through : {A : Type 0} (k : Option PlainClass) (f : PlainClass → Option A) (x : A) → option_and_then f k ≡ Some x →
    (c : PlainClass) × (k ≡ Some c) × (f c ≡ Some x)
through None f x e = absurd (cc)
through (Some c) f x e = (c, refl, e)

module _ (P : PlainProgram) (W : WellTyped P) where
  kept_row : (c r n m : ℕ) (k : PlainClass) (gives : Bool) (member : PlainMember) → class_at P c ≡ Some k → slice_get k.rows r ≡ Some m →
      member_at P n ≡ Some member → gives_value member ≡ gives → KeepsRow P c k n m → RowGives P c r gives
  kept_row c r n m k gives member e row there kind (inl same) =
      record {
        number = m;
        member = member;
        row = ap (λ z. option_and_then (λ x. slice_get x.rows r) z) e ∙ row;
        is_there =
            ap (λ z. member_at P z) same ∙ there;
        kind = kind;
      }
  kept_row c r n m k gives member e row there kind (inr own) =
      let o = own.4 in
      let same : own.1 ≡ member = let a = own.3 in cc in
      record {
        number = m;
        member = own.0;
        row = ap (λ z. option_and_then (λ x. slice_get x.rows r) z) e ∙ row;
        is_there = own.2;
        kind = ap not (same_void own.0.result _ o.result ∙ with_void _ own.1.result) ∙ (ap gives_value same ∙ kind);
      }

  pub below_is : (c r : ℕ) (p : PlainParent) (gives : Bool) → parent_of P c ≡ Some p → RowGives P p.class r gives → RowGives P c r gives
  below_is c r p gives q g =
      let k = through (class_at P c) (λ k. k.parent) p q in
      let x = (W.classes c k.0 k.1).parent p k.2 in
      let a = through (class_at P p.class) (λ k. slice_get k.rows r) g.number g.row in
      let same : a.0 ≡ x.above = let u = a.1 in let v = x.is in cc in
      let row = x.rows r g.number (ap (λ z. slice_get z.rows r) (sym same) ∙ a.2) in
      kept_row c r g.number row.0 k.0 gives g.member k.1 row.1 g.is_there g.kind row.2

  pub constructor_fits : (c n : ℕ) → constructor_of P c ≡ Some n → (m : PlainMember) × (member_at P n ≡ Some m) × (gives_value m ≡ false)
  constructor_fits c n q =
      let k = through (class_at P c) (λ k. k.constructor) n q in
      let x = (W.classes c k.0 k.1).constructor n k.2 in
      (x.member, x.is, ap (λ t. not (is_void t)) x.result)

  ends_by : (m : PlainMember) → (m.result ≡ void) ⊎ (all_complete m.body ≡ false) → gives_value m ≡ true → all_complete m.body ≡ false
  ends_by m (inl v) g = let e : gives_value m ≡ false = ap (λ t. not (is_void t)) v in absurd (cc)
  ends_by m (inr e) g = e

  -- a well-typed program is resolved
  pub typed_is_resolved : Resolved P
  typed_is_resolved = record {
    below = below_is;
    constructors = constructor_fits;
    bodies = λ n m e. all_fit P (gives_value m) (W.members n m e).passes (λ t q. result_is m t q);
    ends = λ n m e g. ends_by m (W.members n m e).ends g;
  }
    where
      result_is : (m : PlainMember) (t : PlainType) → Some m.result ≡ Some t → is_void t ≡ not (gives_value m)
      result_is m t q = ap is_void (sym (some_is q)) ∙ twice (is_void m.result)
