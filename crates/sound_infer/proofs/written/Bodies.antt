-- What bodies mean is so with another tree and program that say the same of names, and with each atomic block entered anew.
use Rattle.std.proofs.Common.{◌≡◌, ◌∙◌, ◌++◌, ℕ, List, [], ◌∷◌, option_and_then, slice_get, refl, ap, sym, subst}
use Rattle.syntax_tree.specs.declared.class.Program.{Program}
use Rattle.syntax_tree.specs.declared.region.Named.{Named}
use Rattle.syntax_tree.specs.Plain.{PlainExpr, PlainExprs, PlainStmt, PlainStmts}
use Rattle.syntax_tree.specs.Plain as tree
use Rattle.lang_base.specs.Types.{int}
use Rattle.lang_typed.specs.declared.stmt.Forking.{Forking}
use Rattle.lang_base.specs.declared.effect.Effect.{Effect}
use Rattle.lang_typed.specs.Plain.{PlainProgram, TypedExpr, TypedExprs, Source, TypedStmt, statement, StmtForm, TypedStmts, no_stmts, more_stmts, TypedBranches, no_branches, more_branches}
use Rattle.lang_typed.specs.Plain.{StmtForm as form}
use Rattle.lang_typed.specs.Scope.{Scope, constant}
use Rattle.lang_typed.specs.Scope.{with_local as scope_with}
use Rattle.lang_typed.specs.Statements.{declared_as}
use Rattle.syntax_means.specs.Bodies.{AllMean, BranchesMean, ExprMeans, ExprsMean, PartMeans, SourceMeans, StmtMeans, with_regions}
use Rattle.syntax_means.specs.Numbered.{given_in, given_in_all, given_in_branches, own_regions, own_slots}
use Rattle.syntax_means.specs.Paths.{Around, ArgsMean}
use Rattle.body_infer.specs.Doing.{part_of, with_parts}
use Rattle.sound_infer.specs.Laws.{entered, entered_all, entered_branches}
use Rattle.sound_infer.proofs.Entered.{first_entered, alone_entered}
use Rattle.sound_infer.proofs.Forms.{scope_behind}
use Rattle.sound_infer.proofs.written.Declared.{Alike}
use Rattle.sound_infer.proofs.written.Paths.{around, args_there, class_names, form_there, path_or_root}

-- expressions

module _ (new : Program) (Q : PlainProgram) (A : Around) (h : Alike A.tree A.typed new Q) where
  abbrev B : Around
  B = around new Q A

  mutual
    pub expr_there : {d : PlainExpr} {e : TypedExpr} → ExprMeans A d e → ExprMeans B d e
    expr_there ExprMeans.an_int = ExprMeans.an_int
    expr_there ExprMeans.a_boolean = ExprMeans.a_boolean
    expr_there ExprMeans.a_null = ExprMeans.a_null
    expr_there ExprMeans.itself = ExprMeans.itself
    expr_there (ExprMeans.a_local e) = ExprMeans.a_local e
    expr_there (ExprMeans.a_field {name = name} {c = c} {slot = slot} o f) = ExprMeans.a_field (expr_there o) (h.fields name c slot f)
    expr_there (ExprMeans.array_length {name = name} a l) = ExprMeans.array_length (expr_there a) (h.spells name ∙ l)
    expr_there (ExprMeans.an_element a i) = ExprMeans.an_element (expr_there a) (expr_there i)
    expr_there (ExprMeans.part_length {name = name} e l) = ExprMeans.part_length e (h.spells name ∙ l)
    expr_there (ExprMeans.part_element e i) = ExprMeans.part_element e (expr_there i)
    expr_there (ExprMeans.a_call {paths = paths} {regions = regions} {name = name} {c = c} {r = r} {n = n} {m = m} o row called is given es) =
        let w = h.members n m is in
        ExprMeans.a_call {m = w.0} (expr_there o) (ap (λ classes. option_and_then (λ class. slice_get class.rows r) (slice_get classes c)) h.same_classes ∙ row) (h.names n name called) w.1 (subst (λ ps. ArgsMean B [] ps paths regions) (sym w.2) (args_there new Q A h given)) (exprs_there es)
    expr_there (ExprMeans.a_creation n es) = ExprMeans.a_creation (class_names new Q A h n) (exprs_there es)
    expr_there (ExprMeans.an_array f p named n) = ExprMeans.an_array (form_there new Q A h f) (path_or_root new Q A h p) named (expr_there n)
    expr_there (ExprMeans.one_operand a) = ExprMeans.one_operand (expr_there a)
    expr_there (ExprMeans.two_operands a b) = ExprMeans.two_operands (expr_there a) (expr_there b)
    expr_there (ExprMeans.conjunction a b) = ExprMeans.conjunction (expr_there a) (expr_there b)
    expr_there (ExprMeans.disjunction a b) = ExprMeans.disjunction (expr_there a) (expr_there b)

    pub exprs_there : {ds : PlainExprs} {es : TypedExprs} → ExprsMean A ds es → ExprsMean B ds es
    exprs_there ExprsMean.no_exprs = ExprsMean.no_exprs
    exprs_there (ExprsMean.more_exprs e es) = ExprsMean.more_exprs (expr_there e) (exprs_there es)

  pub source_there : {d : PlainExpr} {s : Source} → SourceMeans A d s → SourceMeans B d s
  source_there (SourceMeans.an_array a) = SourceMeans.an_array (expr_there a)
  source_there (SourceMeans.a_part e) = SourceMeans.a_part e

-- statements, with each atomic block entered by what it does in the program K

module _ (new : Program) (Q K : PlainProgram) where
  abbrev Says : Around → Type 0
  Says A = Alike A.tree A.typed new Q

  regions_around : (A : Around) (names : List Named) (rs : List ℕ) → with_regions names rs (around new Q A) ≡ around new Q (with_regions names rs A)
  regions_around A [] rs = refl
  regions_around A (named ∷ names) [] = refl
  regions_around A (named ∷ names) (r ∷ rs) = regions_around (record A { regions = (named.name, r) ∷ A.regions }) names rs

  says_regions : (A : Around) (names : List Named) (rs : List ℕ) → Says A → Says (with_regions names rs A)
  says_regions A [] rs h = h
  says_regions A (named ∷ names) [] h = h
  says_regions A (named ∷ names) (r ∷ rs) h = says_regions (record A { regions = (named.name, r) ∷ A.regions }) names rs h

  mutual
    pub stmt_there : {A : Around} {d : PlainStmt} {s : TypedStmt} → StmtMeans A d s → Says A → (L : Scope) → StmtMeans (around new Q A) d (entered K L s)
    stmt_there (StmtMeans.a_block m) h L = StmtMeans.a_block (all_there m h L)
    stmt_there {A} (StmtMeans.to_local e m) h L = StmtMeans.to_local e (expr_there new Q A h m)
    stmt_there {A} (StmtMeans.to_field {name = name} {c = c} {slot = slot} o f m) h L = StmtMeans.to_field (expr_there new Q A h o) (h.fields name c slot f) (expr_there new Q A h m)
    stmt_there {A} (StmtMeans.to_element a i m) h L = StmtMeans.to_element (expr_there new Q A h a) (expr_there new Q A h i) (expr_there new Q A h m)
    stmt_there {A} (StmtMeans.to_part e i m) h L = StmtMeans.to_part e (expr_there new Q A h i) (expr_there new Q A h m)
    stmt_there {A} (StmtMeans.performed m) h L = StmtMeans.performed (expr_there new Q A h m)
    stmt_there {A} (StmtMeans.a_choice m p) h L = StmtMeans.a_choice (expr_there new Q A h m) (part_there p h L)
    stmt_there {A} (StmtMeans.a_choice_else m p q) h L = StmtMeans.a_choice_else (expr_there new Q A h m) (part_there p h L) (part_there q h L)
    stmt_there {A} (StmtMeans.a_while m p) h L = StmtMeans.a_while (expr_there new Q A h m) (part_there p h L)
    stmt_there StmtMeans.a_return h L = StmtMeans.a_return
    stmt_there {A} (StmtMeans.a_return_value m) h L = StmtMeans.a_return_value (expr_there new Q A h m)
    stmt_there {A} (StmtMeans.print_int m) h L = StmtMeans.print_int (expr_there new Q A h m)
    stmt_there {A} (StmtMeans.print_boolean m) h L = StmtMeans.print_boolean (expr_there new Q A h m)
    stmt_there StmtMeans.print_text h L = StmtMeans.print_text
    stmt_there (StmtMeans.an_atomic m) h L = StmtMeans.an_atomic (all_there m h L)
    stmt_there (StmtMeans.a_cobegin e m) h L = StmtMeans.a_cobegin e (branches_there m h L)
    stmt_there {A} (StmtMeans.a_foreach {x = x} e m n p) h L = StmtMeans.a_foreach e (expr_there new Q A h m) (expr_there new Q A h n) (part_there p h (scope_with x (constant int) L))
    stmt_there {A} (StmtMeans.a_foreach_parts {k = k} {source = source} m n p) h L =
        StmtMeans.a_foreach_parts (source_there new Q A h m) (expr_there new Q A h n) (part_there p h (with_parts k (part_of L source) L))

    pub part_there : {A : Around} {d : PlainStmt} {s : TypedStmt} → PartMeans A d s → Says A → (L : Scope) → PartMeans (around new Q A) d (entered K L s)
    part_there {A} {d} {s} (PartMeans.a_part m) h L = PartMeans.a_part (subst (AllMean (around new Q A) (tree.more_stmts d tree.no_stmts)) (alone_entered K L s) (all_there m h L))

    pub all_there : {A : Around} {ds : PlainStmts} {ss : TypedStmts} → AllMean A ds ss → Says A → (L : Scope) → AllMean (around new Q A) ds (entered_all K L ss)
    all_there AllMean.no_stmts h L = AllMean.no_stmts
    all_there {A} (AllMean.more_stmts {d = d} {s = s} {ds = ds} {ss = ss} m ms) h L =
        subst (AllMean (around new Q A) (tree.more_stmts d ds)) (sym (first_entered K L s ss)) (AllMean.more_stmts (stmt_there m h L) (all_there ms h (scope_behind s L)))
    all_there {A} (AllMean.a_declaration {is_final = is_final} {t = t} {x = x} ty m ms) h L =
        AllMean.a_declaration (form_there new Q A h ty) (expr_there new Q A h m) (all_there ms h (scope_with x (declared_as is_final t) L))
    all_there {A} (AllMean.new_regions {names = names} {rs = rs} {ds = ds} {ss = ss} long ms) h L =
        AllMean.new_regions long (subst (λ X. AllMean X ds (entered_all K L ss)) (sym (regions_around A names rs)) (all_there ms (says_regions A names rs h) L))

    pub branches_there : {A : Around} {ds : PlainStmts} {bs : TypedBranches} → BranchesMean A ds bs → Says A → (L : Scope) → BranchesMean (around new Q A) ds (entered_branches K L bs)
    branches_there BranchesMean.no_branches h L = BranchesMean.no_branches
    branches_there (BranchesMean.more_branches p ms) h L = BranchesMean.more_branches (part_there p h L) (branches_there ms h L)

-- numbers are given by the same statements

-- what doesn't depend on the statements in a statement
record Outside (own : StmtForm → List ℕ) : Type 0 where
  blocks : (ss ts : TypedStmts) → own (form.block ss) ≡ own (form.block ts)
  choices : (e : TypedExpr) (s t : TypedStmt) → own (form.choice e s) ≡ own (form.choice e t)
  choices_else : (e : TypedExpr) (s t u v : TypedStmt) → own (form.choice_else e s t) ≡ own (form.choice_else e u v)
  whiles : (e : TypedExpr) (s t : TypedStmt) → own (form.while_loop e s) ≡ own (form.while_loop e t)
  atomics : (entry other : List Effect) (ss ts : TypedStmts) → own (form.atomic entry ss) ≡ own (form.atomic other ts)
  cobegins : (forking : Forking) (bs cs : TypedBranches) → own (form.cobegin forking bs) ≡ own (form.cobegin forking cs)
  foreaches : (forking : Forking) (x : ℕ) (start count : TypedExpr) (s t : TypedStmt) → own (form.foreach forking x start count s) ≡ own (form.foreach forking x start count t)
  parts : (k : ℕ) (source : Source) (count : TypedExpr) (s t : TypedStmt) → own (form.foreach_parts k source count s) ≡ own (form.foreach_parts k source count t)

joined : {a b c d : List ℕ} → a ≡ b → c ≡ d → a ++ c ≡ b ++ d
joined {a} {b} {c} {d} e h = ap (λ x. x ++ c) e ∙ ap (λ x. b ++ x) h

module _ (own : StmtForm → List ℕ) (o : Outside own) (K : PlainProgram) where
  mutual
    given_there : (L : Scope) (s : TypedStmt) → given_in own (entered K L s) ≡ given_in own s
    given_there L (statement at (form.declare x t is_final e)) = refl
    given_there L (statement at (form.store x e)) = refl
    given_there L (statement at (form.store_field of c k e)) = refl
    given_there L (statement at (form.store_element a i e)) = refl
    given_there L (statement at (form.store_part k i e)) = refl
    given_there L (statement at (form.perform e)) = refl
    given_there L (statement at (form.block ss)) = joined (o.blocks _ _) (all_given_there L ss)
    given_there L (statement at (form.choice e s)) = joined (o.choices e _ _) (given_there L s)
    given_there L (statement at (form.choice_else e s t)) = joined (o.choices_else e _ _ _ _) (joined (given_there L s) (given_there L t))
    given_there L (statement at (form.while_loop e s)) = joined (o.whiles e _ _) (given_there L s)
    given_there L (statement at form.return_nothing) = refl
    given_there L (statement at (form.return_value e)) = refl
    given_there L (statement at (form.print_int e)) = refl
    given_there L (statement at (form.print_boolean e)) = refl
    given_there L (statement at (form.print_text text)) = refl
    given_there L (statement at (form.local_regions rs)) = refl
    given_there L (statement at (form.atomic entry ss)) = joined (o.atomics _ _ _ _) (all_given_there L ss)
    given_there L (statement at (form.cobegin forking bs)) = joined (o.cobegins forking _ _) (branches_given_there L bs)
    given_there L (statement at (form.foreach forking x start count s)) = joined (o.foreaches forking x start count _ _) (given_there (scope_with x (constant int) L) s)
    given_there L (statement at (form.foreach_parts k source count s)) = joined (o.parts k source count _ _) (given_there (with_parts k (part_of L source) L) s)

    all_given_there : (L : Scope) (ss : TypedStmts) → given_in_all own (entered_all K L ss) ≡ given_in_all own ss
    all_given_there L no_stmts = refl
    all_given_there L (more_stmts s ss) = ap (given_in_all own) (first_entered K L s ss) ∙ joined (given_there L s) (all_given_there (scope_behind s L) ss)

    branches_given_there : (L : Scope) (bs : TypedBranches) → given_in_branches own (entered_branches K L bs) ≡ given_in_branches own bs
    branches_given_there L no_branches = refl
    branches_given_there L (more_branches copies s bs) = joined (given_there L s) (branches_given_there L bs)

pub same_slots : (K : PlainProgram) (L : Scope) (ss : TypedStmts) → given_in_all own_slots (entered_all K L ss) ≡ given_in_all own_slots ss
same_slots K = all_given_there own_slots (record {
  blocks = λ ss ts. refl;
  choices = λ e s t. refl;
  choices_else = λ e s t u v. refl;
  whiles = λ e s t. refl;
  atomics = λ entry other ss ts. refl;
  cobegins = λ forking bs cs. refl;
  foreaches = λ forking x start count s t. refl;
  parts = λ k source count s t. refl;
}) K

pub same_local_regions : (K : PlainProgram) (L : Scope) (ss : TypedStmts) → given_in_all own_regions (entered_all K L ss) ≡ given_in_all own_regions ss
same_local_regions K = all_given_there own_regions (record {
  blocks = λ ss ts. refl;
  choices = λ e s t. refl;
  choices_else = λ e s t u v. refl;
  whiles = λ e s t. refl;
  atomics = λ entry other ss ts. refl;
  cobegins = λ forking bs cs. refl;
  foreaches = λ forking x start count s t. refl;
  parts = λ k source count s t. refl;
}) K
