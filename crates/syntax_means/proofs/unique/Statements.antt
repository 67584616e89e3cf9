-- The statements of a body mean statements that are alike, in two programs that agree, where both pass and are counted alike.
use Rattle.std.proofs.Common.{◌≡◌, ◌∙◌, ℕ, ◌+◌, ◌==◌, ◌||◌, Bool, true, false, List, [], ◌∷◌, ◌++◌, length, Some, refl, ap, sym, subst}
use Rattle.std.proofs.lemmas.Bool.{eqb-true}
use Rattle.std.proofs.lemmas.List.Elements.{All-head, All-tail}
use Rattle.std.proofs.lemmas.List.Folds.{list_any-append}
use Rattle.std.specs.List.{list_any}
use Rattle.std.specs.Prelude.{All}
use Rattle.lang_base.specs.declared.place.Place.{Place}
use Rattle.lang_base.specs.declared.region.Rpl.{Rpl}
use Rattle.lang_base.specs.Types.{PlainType, int}
use Rattle.lang_base.specs.Types.{PlainType as ty}
use Rattle.syntax_tree.specs.declared.region.Named.{Named}
use Rattle.syntax_tree.specs.declared.region.TypeTree.{TypeTree}
use Rattle.syntax_tree.specs.Plain.{PlainExpr, PlainStmt, PlainStmts}
use Rattle.syntax_tree.specs.Plain as tree
use Rattle.lang_typed.specs.declared.stmt.Forking.{Forking}
use Rattle.lang_typed.specs.Effects.{Own}
use Rattle.lang_typed.specs.Plain.{PlainProgram, TypedExpr, type_of, Source, of_array, of_part, TypedStmt, statement, TypedStmts, no_stmts, more_stmts, TypedBranches}
use Rattle.lang_typed.specs.Plain.{StmtForm as form}
use Rattle.lang_typed.specs.Scope.{Scope, constant, part, reserved, with_local, with_regions, in_atomic_block, in_branch, in_loop_branch}
use Rattle.lang_typed.specs.Statements.{AllPass, BranchesPass, Cuts, IsVariable, Passes, all_copies, declared_as, with_part}
use Rattle.lang_typed.specs.Typing.{Has}
use Rattle.syntax_means.specs.Bodies.{AllMean, BranchesMean, ExprMeans, PartMeans, SourceMeans, StmtMeans}
use Rattle.syntax_means.specs.Bodies.{with_regions as around_regions}
use Rattle.syntax_means.specs.Numbered.{given_in, given_in_all, given_in_branches, own_regions, own_slots}
use Rattle.syntax_means.specs.Paths.{Around}
use Rattle.syntax_means.proofs.Alike.{StmtAlike, StmtsAlike, BranchesAlike}
use Rattle.syntax_means.proofs.unique.Agreed.{Agreed}
use Rattle.syntax_means.proofs.unique.Counting.{Counted, CountedAll, CountedBranches, CountedStmt, alone, declared, goes_on, in_else, in_first, in_more_branches, in_one_branch, in_rest, in_then, part_declared, regions_declared, same_numbers}
use Rattle.syntax_means.proofs.unique.Expressions.{expr_one, no_held_part, no_part_held, slot_same}
use Rattle.syntax_means.proofs.unique.Lists.{both_some}
use Rattle.syntax_means.proofs.unique.Paths.{OneNumber, type_one}
use Rattle.syntax_means.proofs.unique.Scopes.{ScopesAlike, alone_alike, branch_alike, part_one, with_alike}

-- statements that are made of the same

same_alike : {s t : TypedStmt} → s ≡ t → StmtAlike s t
same_alike {s} e = subst (StmtAlike s) e StmtAlike.same

alike_to : {s t u : TypedStmt} → t ≡ u → StmtAlike s t → StmtAlike s u
alike_to {s} e a = subst (StmtAlike s) e a

choice_alike : {at : Place} {e f : TypedExpr} {s t : TypedStmt} → e ≡ f → StmtAlike s t → StmtAlike (statement at (form.choice e s)) (statement at (form.choice f t))
choice_alike {at} {t = t} e a = alike_to (ap (λ z. statement at (form.choice z t)) e) (StmtAlike.choices a)

choice_else_alike : {at : Place} {e f : TypedExpr} {s t u v : TypedStmt} → e ≡ f → StmtAlike s t → StmtAlike u v → StmtAlike (statement at (form.choice_else e s u)) (statement at (form.choice_else f t v))
choice_else_alike {at} {t = t} {v = v} e a b = alike_to (ap (λ z. statement at (form.choice_else z t v)) e) (StmtAlike.choices_else a b)

while_alike : {at : Place} {e f : TypedExpr} {s t : TypedStmt} → e ≡ f → StmtAlike s t → StmtAlike (statement at (form.while_loop e s)) (statement at (form.while_loop f t))
while_alike {at} {t = t} e a = alike_to (ap (λ z. statement at (form.while_loop z t)) e) (StmtAlike.whiles a)

cobegin_alike : {at : Place} {f g : Forking} {bs cs : TypedBranches} → f ≡ g → BranchesAlike bs cs → StmtAlike (statement at (form.cobegin f bs)) (statement at (form.cobegin g cs))
cobegin_alike {at} {cs = cs} e a = alike_to (ap (λ z. statement at (form.cobegin z cs)) e) (StmtAlike.cobegins a)

foreach_alike : {at : Place} {f g : Forking} {x y : ℕ} {start begin count many : TypedExpr} {s t : TypedStmt} → f ≡ g → x ≡ y → start ≡ begin → count ≡ many → StmtAlike s t →
    StmtAlike (statement at (form.foreach f x start count s)) (statement at (form.foreach g y begin many t))
foreach_alike {at} {f} {g} {x} {y} {start} {begin} {count} {many} {s} {t} a b c d alike =
    let same : statement at (form.foreach f x start count t) ≡ statement at (form.foreach g y begin many t) = cc in
    alike_to same (StmtAlike.foreaches alike)

parts_alike : {at : Place} {j k : ℕ} {x y : Source} {count many : TypedExpr} {s t : TypedStmt} → j ≡ k → x ≡ y → count ≡ many → StmtAlike s t →
    StmtAlike (statement at (form.foreach_parts j x count s)) (statement at (form.foreach_parts k y many t))
parts_alike {at} {j} {k} {x} {y} {count} {many} {s} {t} a b c alike =
    let same : statement at (form.foreach_parts j x count t) ≡ statement at (form.foreach_parts k y many t) = cc in
    alike_to same (StmtAlike.foreaches_parts alike)

one_alike : {s t : TypedStmt} → StmtsAlike (more_stmts s no_stmts) (more_stmts t no_stmts) → StmtAlike s t
one_alike (StmtsAlike.more_alike a StmtsAlike.none_alike) = a

-- statements that declare nothing, and those that do, in a list that passes

abbrev IsPlain : TypedStmt → Type 0
IsPlain (statement at (form.declare x t is_final e)) = ⊥
IsPlain (statement at (form.local_regions rs)) = ⊥
IsPlain s = Unit {0}

means_plain : {A : Around} {d : PlainStmt} {s : TypedStmt} → StmtMeans A d s → IsPlain s
means_plain (StmtMeans.a_block m) = tt
means_plain m = tt

no_declaration : {A : Around} {at : Place} {is_final : Bool} {kind : TypeTree} {name : ℕ} {e : PlainExpr} {s : TypedStmt} → StmtMeans A (tree.statement at (tree.declare is_final kind name e)) s → ⊥
no_declaration m = elim m [ ]

no_regions : {A : Around} {at : Place} {names : List Named} {s : TypedStmt} → StmtMeans A (tree.statement at (tree.local_regions names)) s → ⊥
no_regions m = elim m [ ]

record PassesFirst (P : PlainProgram) (L : Scope) (s : TypedStmt) (ss : TypedStmts) : Type 0 where
  effects : List Own
  more : List Own
  here : Passes P L s effects
  behind : AllPass P L ss more

plain_passes : {P : PlainProgram} {L : Scope} {s : TypedStmt} {ss : TypedStmts} {F : List Own} → IsPlain s → AllPass P L (more_stmts s ss) F → PassesFirst P L s ss
plain_passes plain (AllPass.then' {E = E} {F = F} p c rest) = record { effects = E; more = F; here = p; behind = rest }
plain_passes plain (AllPass.declare free good h sub rest) = absurd plain
plain_passes plain (AllPass.declare_regions free rest) = absurd plain

record PassesDeclared (P : PlainProgram) (L : Scope) (x : ℕ) (t : PlainType) (is_final : Bool) (e : TypedExpr) (ss : TypedStmts) : Type 0 where
  effects : List Own
  more : List Own
  has : Has P L e effects
  behind : AllPass P (with_local x (declared_as is_final t) L) ss more

declared_passes : {P : PlainProgram} {L : Scope} {at : Place} {x : ℕ} {t : PlainType} {is_final : Bool} {e : TypedExpr} {ss : TypedStmts} {F : List Own} →
    AllPass P L (more_stmts (statement at (form.declare x t is_final e)) ss) F → PassesDeclared P L x t is_final e ss
declared_passes (AllPass.then' p c rest) = elim p [ ]
declared_passes (AllPass.declare {E = E} {F = F} free good h sub rest) = record { effects = E; more = F; has = h; behind = rest }

record PassesBehind (P : PlainProgram) (L : Scope) (rs : List ℕ) (ss : TypedStmts) : Type 0 where
  more : List Own
  behind : AllPass P (with_regions rs L) ss more

regions_pass : {P : PlainProgram} {L : Scope} {at : Place} {rs : List ℕ} {ss : TypedStmts} {F : List Own} → AllPass P L (more_stmts (statement at (form.local_regions rs)) ss) F → PassesBehind P L rs ss
regions_pass (AllPass.then' p c rest) = elim p [ ]
regions_pass (AllPass.declare_regions {F = F} free rest) = record { more = F; behind = rest }

-- outer locals that branches copy are variables

abbrev AreVariables : Scope → List ℕ → Type 0
AreVariables L xs = (x : ℕ) → list_any (λ y. x == y) xs ≡ true → IsVariable L x

are_variables : (L : Scope) (xs : List ℕ) → All (IsVariable L) xs → AreVariables L xs
are_variables L [] all x e = cc
are_variables L (y ∷ ys) all x e = by (x == y) refl e (are_variables L ys (All-tail (IsVariable L) y ys all) x)
  where
    by : (b : Bool) → (x == y) ≡ b → (b || list_any (λ z. x == z) ys) ≡ true → (list_any (λ z. x == z) ys ≡ true → IsVariable L x) → IsVariable L x
    by true is h more = subst (IsVariable L) (sym (eqb-true x y is)) (All-head (IsVariable L) y ys all)
    by false is h more = more h

both_variables : (L : Scope) (xs ys : List ℕ) → AreVariables L xs → AreVariables L ys → AreVariables L (xs ++ ys)
both_variables L xs ys first second x e = by (list_any (λ y. x == y) xs) refl (sym (list_any-append (λ y. x == y) xs ys) ∙ e)
  where
    by : (b : Bool) → list_any (λ y. x == y) xs ≡ b → (b || list_any (λ y. x == y) ys) ≡ true → IsVariable L x
    by true is h = first x is
    by false is h = second x h

copies_variables : {P : PlainProgram} {L : Scope} {others : List ℕ} {bs : TypedBranches} {Es : List (List Own)} → BranchesPass P L others bs Es → AreVariables L (all_copies bs)
copies_variables BranchesPass.no_branch = λ x e. cc
copies_variables {L = L} (BranchesPass.one_branch {copies = copies} {bs = bs} variables apart h rest) =
    both_variables L copies (all_copies bs) (are_variables L copies variables) (copies_variables rest)

-- scopes inside

loop_alike : {L M : Scope} → ScopesAlike L M → ScopesAlike (in_loop_branch L) (in_loop_branch M)
loop_alike seen = record { local = λ x. alone_alike (seen.local x) }

part_alike : {L M : Scope} (k : ℕ) (t : PlainType) (a : Rpl) → ScopesAlike L M → ScopesAlike (with_part k t a L) (with_part k t a M)
part_alike k t a seen = with_alike (k + 4) (constant int) (with_alike (k + 3) reserved (with_alike (k + 2) reserved (with_alike (k + 1) reserved (with_alike k (part t a) seen))))

abbrev noted : List Named → List ℕ → List (ℕ × ℕ) → List (ℕ × ℕ)
noted [] rs regions = regions
noted (named ∷ names) [] regions = regions
noted (named ∷ names) (r ∷ rs) regions = noted names rs ((named.name, r) ∷ regions)

-- local regions around a place
abbrev with_noted : Around → List Named → List ℕ → Around
with_noted A names rs = record A { regions = noted names rs A.regions }

regions_around : (names : List Named) (rs : List ℕ) (A : Around) → around_regions names rs A ≡ with_noted A names rs
regions_around [] rs A = refl
regions_around (named ∷ names) [] A = refl
regions_around (named ∷ names) (r ∷ rs) A = regions_around names rs (record A { regions = (named.name, r) ∷ A.regions })

-- the same around a place, in the other program
abbrev other : PlainProgram → Around → Around
other Q A = record A { typed = Q }

record SameCut (x y : Source) (t u : PlainType) (a b : Rpl) : Type 0 where
  source : x ≡ y
  type : t ≡ u
  region : a ≡ b

module _ {Q : PlainProgram}
  where
    expr_here : (A : Around) → Agreed A.tree A.typed Q → OneNumber A.tree A.params → {L M : Scope} → ScopesAlike L M → {e : PlainExpr} {v w : TypedExpr} {E F : List Own} →
        ExprMeans A e v → ExprMeans (other Q A) e w → Has A.typed L v E → Has Q M w F → v ≡ w
    expr_here A agreed one seen m n h i = expr_one agreed A.class A.params one A.locals A.regions seen m n h i

    source_one : {A : Around} {L M : Scope} (agreed : Agreed A.tree A.typed Q) (one : OneNumber A.tree A.params) (seen : ScopesAlike L M) {d : PlainExpr} {x y : Source} {t u : PlainType} {a b : Rpl} {E F : List Own} →
        SourceMeans A d x → SourceMeans (other Q A) d y → Cuts A.typed L x t a E → Cuts Q M y u b F → SameCut x y t u a b
    source_one {A} agreed one seen {t = t} {u = u} {a = a} {b = b} (SourceMeans.an_array m) (SourceMeans.an_array n) (Cuts.cuts_array h e f) (Cuts.cuts_array h' e' f') =
        let same = expr_here A agreed one seen m n h h' in
        let types : ty.array t a false ≡ ty.array u b false = sym e ∙ ap type_of same ∙ e' in
        record { source = ap of_array same; type = cc types; region = cc types }
    source_one {A} agreed one seen (SourceMeans.an_array (ExprMeans.a_local c)) (SourceMeans.a_part d) (Cuts.cuts_array (Has.read_local h) e f) (Cuts.cuts_part k) =
        absurd (no_held_part agreed A.class A.params one A.locals A.regions seen (both_some c d) h k)
    source_one {A} agreed one seen (SourceMeans.a_part d) (SourceMeans.an_array (ExprMeans.a_local c)) (Cuts.cuts_part k) (Cuts.cuts_array (Has.read_local h) e f) =
        absurd (no_part_held agreed A.class A.params one A.locals A.regions seen (both_some d c) k h)
    source_one {A} {L} {M} agreed one seen {t = t} {u = u} {a = a} {b = b} (SourceMeans.a_part {k = j} c) (SourceMeans.a_part {k = k} d) (Cuts.cuts_part e) (Cuts.cuts_part f) =
        let same : j ≡ k = both_some c d in
        let w = part_one (seen.local j) e (subst (λ z. M.local z ≡ Some (part u b)) (sym same) f) in
        record { source = ap of_part same; type = w.0; region = w.1 }

    mutual
      stmt_one : {A : Around} {L M : Scope} (agreed : Agreed A.tree A.typed Q) (one : OneNumber A.tree A.params) (seen : ScopesAlike L M) {d : PlainStmt} {s t : TypedStmt} {E F : List Own} {n r : ℕ} →
          StmtMeans A d s → StmtMeans (other Q A) d t → Passes A.typed L s E → Passes Q M t F → CountedStmt n r s → CountedStmt n r t → StmtAlike s t
      stmt_one agreed one seen (StmtMeans.a_block m) (StmtMeans.a_block m') (Passes.nested h) (Passes.nested h') c c' = StmtAlike.blocks (all_one agreed one seen m m' h h' c c')
      stmt_one {A} agreed one seen (StmtMeans.to_local {x = x} e m) (StmtMeans.to_local {x = y} e' m') (Passes.store l h f) (Passes.store l' h' f') c c' =
          let slot : x ≡ y = both_some e e' in
          let value = expr_here A agreed one seen m m' h h' in
          same_alike (cc (slot, value))
      stmt_one {A} agreed one seen (StmtMeans.to_field {name = name} m f v) (StmtMeans.to_field m' f' v') (Passes.store_field {c = i} {k = k} {args = args} h a b g w e) (Passes.store_field {c = j} {k = l} {args = others} h' a' b' g' w' e') c c' =
          let object = expr_here A agreed one seen m m' h h' in
          let classes : ty.class i args ≡ ty.class j others = sym a ∙ ap type_of object ∙ a' in
          let number : i ≡ j = cc classes in
          let slot : k ≡ l = slot_same agreed A.class A.params one A.locals A.regions seen name i j k l number f f' in
          let value = expr_here A agreed one seen v v' w w' in
          same_alike (cc (object, number, slot, value))
      stmt_one {A} agreed one seen (StmtMeans.to_element m i v) (StmtMeans.to_element m' i' v') (Passes.store_element h a g b k w e) (Passes.store_element h' a' g' b' k' w' e') c c' =
          let array = expr_here A agreed one seen m m' h h' in
          let index = expr_here A agreed one seen i i' g g' in
          let value = expr_here A agreed one seen v v' w w' in
          same_alike (cc (array, index, value))
      stmt_one {A} agreed one seen (StmtMeans.to_element (ExprMeans.a_local d) i v) (StmtMeans.to_part d' i' v') (Passes.store_element (Has.read_local h) a g b k w e) (Passes.store_part l g' b' w' e') c c' =
          absurd (no_held_part agreed A.class A.params one A.locals A.regions seen (both_some d d') h l)
      stmt_one {A} agreed one seen (StmtMeans.to_part d i v) (StmtMeans.to_element (ExprMeans.a_local d') i' v') (Passes.store_part l g b w e) (Passes.store_element (Has.read_local h) a g' b' k w' e') c c' =
          absurd (no_part_held agreed A.class A.params one A.locals A.regions seen (both_some d d') l h)
      stmt_one {A} agreed one seen (StmtMeans.to_part {k = j} d i v) (StmtMeans.to_part {k = k} d' i' v') (Passes.store_part l g b w e) (Passes.store_part l' g' b' w' e') c c' =
          let slot : j ≡ k = both_some d d' in
          let index = expr_here A agreed one seen i i' g g' in
          let value = expr_here A agreed one seen v v' w w' in
          same_alike (cc (slot, index, value))
      stmt_one {A} agreed one seen (StmtMeans.performed m) (StmtMeans.performed m') (Passes.perform a h) (Passes.perform a' h') c c' =
          let value = expr_here A agreed one seen m m' h h' in
          same_alike (cc value)
      stmt_one {A} agreed one seen (StmtMeans.a_choice m p) (StmtMeans.a_choice m' p') (Passes.choice h a q) (Passes.choice h' a' q') c c' =
          choice_alike (expr_here A agreed one seen m m' h h') (part_alike_one agreed one seen p p' q q' c c')
      stmt_one {A} agreed one seen {n = n} {r = r} (StmtMeans.a_choice_else {s = s} {t = t} m p u) (StmtMeans.a_choice_else {s = s'} {t = t'} m' p' u') (Passes.choice_else h a q w) (Passes.choice_else h' a' q' w') c c' =
          let first = part_alike_one agreed one seen p p' q q' (in_then s t c) (in_then s' t' c') in
          choice_else_alike (expr_here A agreed one seen m m' h h') first
          (part_alike_one agreed one seen u u' w w' (in_else s t c) (goes_on n r s s' (given_in own_slots t') (given_in own_regions t') first (in_else s' t' c')))
      stmt_one {A} agreed one seen (StmtMeans.a_while m p) (StmtMeans.a_while m' p') (Passes.while_loop h a q) (Passes.while_loop h' a' q') c c' =
          while_alike (expr_here A agreed one seen m m' h h') (part_alike_one agreed one seen p p' q q' c c')
      stmt_one agreed one seen StmtMeans.a_return StmtMeans.a_return (Passes.return_nothing a) (Passes.return_nothing a') c c' = StmtAlike.same
      stmt_one {A} agreed one seen (StmtMeans.a_return_value m) (StmtMeans.a_return_value m') (Passes.return_value a h f) (Passes.return_value a' h' f') c c' =
          let value = expr_here A agreed one seen m m' h h' in
          same_alike (cc value)
      stmt_one {A} agreed one seen (StmtMeans.print_int m) (StmtMeans.print_int m') (Passes.print_int h a) (Passes.print_int h' a') c c' =
          let value = expr_here A agreed one seen m m' h h' in
          same_alike (cc value)
      stmt_one {A} agreed one seen (StmtMeans.print_int m) (StmtMeans.print_boolean m') (Passes.print_int h a) (Passes.print_boolean h' a') c c' =
          let types : int ≡ ty.boolean = sym a ∙ ap type_of (expr_here A agreed one seen m m' h h') ∙ a' in
          cc types
      stmt_one {A} agreed one seen (StmtMeans.print_boolean m) (StmtMeans.print_int m') (Passes.print_boolean h a) (Passes.print_int h' a') c c' =
          let types : ty.boolean ≡ int = sym a ∙ ap type_of (expr_here A agreed one seen m m' h h') ∙ a' in
          cc types
      stmt_one {A} agreed one seen (StmtMeans.print_boolean m) (StmtMeans.print_boolean m') (Passes.print_boolean h a) (Passes.print_boolean h' a') c c' =
          let value = expr_here A agreed one seen m m' h h' in
          same_alike (cc value)
      stmt_one agreed one seen StmtMeans.print_text StmtMeans.print_text Passes.print_text Passes.print_text c c' = StmtAlike.same
      stmt_one {L = L} {M = M} agreed one seen (StmtMeans.an_atomic m) (StmtMeans.an_atomic m') (Passes.atomic h a) (Passes.atomic h' a') c c' =
          let inside : ScopesAlike (in_atomic_block L) (in_atomic_block M) = record { local = seen.local } in
          StmtAlike.atomics (all_one agreed one inside m m' h h' c c')
      stmt_one agreed one seen (StmtMeans.a_cobegin f m) (StmtMeans.a_cobegin f' m') (Passes.cobegin a h b) (Passes.cobegin a' h' b') c c' =
          cobegin_alike (f ∙ sym f') (branches_one agreed one seen (λ x e. cc) (λ x e. cc) m m' h h' c c')
      stmt_one {A} {L} {M} agreed one seen (StmtMeans.a_foreach {var = var} {x = x} {b = b} {s = s} f m o p) (StmtMeans.a_foreach {x = y} {s = t} f' m' o' p')
          (Passes.foreach nd h a g e free q clash) (Passes.foreach {G = G'} nd' h' a' g' e' free' q' clash') c c' =
          let first = declared x (given_in own_slots s) (given_in own_regions s) c in
          let second = declared y (given_in own_slots t) (given_in own_regions t) c' in
          let slot : x ≡ y = first.0 ∙ sym second.0 in
          let body = subst (λ z. PartMeans (record A { typed = Q; locals = (var.name, z) ∷ A.locals }) b t) (sym slot) p' in
          let passing = subst (λ z. AllPass Q (with_local z (constant int) (in_loop_branch M)) (more_stmts t no_stmts) G') (sym slot) q' in
          foreach_alike (f ∙ sym f') slot (expr_here A agreed one seen m m' h h') (expr_here A agreed one seen o o' g g')
          (part_alike_one agreed one (with_alike x (constant int) (loop_alike seen)) p body q passing first.1 second.1)
      stmt_one {A} {L} {M} agreed one seen (StmtMeans.a_foreach_parts {view = view} {var = var} {k = j} {b = body} {s = s} m o p) (StmtMeans.a_foreach_parts {k = k} {s = t} m' o' p')
          (Passes.foreach_parts {t = kind} {a = a} h g e free q clash others) (Passes.foreach_parts {t = kind'} {a = a'} {G = G'} h' g' e' free' q' clash' others') c c' =
          let first = part_declared j (given_in own_slots s) (given_in own_regions s) c in
          let second = part_declared k (given_in own_slots t) (given_in own_regions t) c' in
          let slot : j ≡ k = first.0 ∙ sym second.0 in
          let cut = source_one agreed one seen m m' h h' in
          let inner = subst (λ z. PartMeans (record A { typed = Q; locals = (var.name, z + 4) ∷ (view.name, z) ∷ A.locals }) body t) (sym slot) p' in
          let passing = subst (λ z. AllPass Q (with_part z kind' a' (in_loop_branch M)) (more_stmts t no_stmts) G') (sym slot) q' in
          let typed_so = subst (λ z. AllPass Q (with_part j z a' (in_loop_branch M)) (more_stmts t no_stmts) G') (sym cut.type) passing in
          let placed_so = subst (λ z. AllPass Q (with_part j kind z (in_loop_branch M)) (more_stmts t no_stmts) G') (sym cut.region) typed_so in
          parts_alike slot cut.source (expr_here A agreed one seen o o' g g')
          (part_alike_one agreed one (part_alike j kind a (loop_alike seen)) p inner q placed_so first.1 second.1)

      part_alike_one : {A : Around} {L M : Scope} (agreed : Agreed A.tree A.typed Q) (one : OneNumber A.tree A.params) (seen : ScopesAlike L M) {d : PlainStmt} {s t : TypedStmt} {E F : List Own} {n r : ℕ} →
          PartMeans A d s → PartMeans (other Q A) d t → AllPass A.typed L (more_stmts s no_stmts) E → AllPass Q M (more_stmts t no_stmts) F →
          CountedStmt n r s → CountedStmt n r t → StmtAlike s t
      part_alike_one agreed one seen {s = s} {t = t} (PartMeans.a_part m) (PartMeans.a_part m') h h' c c' = one_alike (all_one agreed one seen m m' h h' (alone s c) (alone t c'))

      pub all_one : {A : Around} {L M : Scope} (agreed : Agreed A.tree A.typed Q) (one : OneNumber A.tree A.params) (seen : ScopesAlike L M) {ds : PlainStmts} {ss ts : TypedStmts} {E F : List Own} {n r : ℕ} →
          AllMean A ds ss → AllMean (other Q A) ds ts → AllPass A.typed L ss E → AllPass Q M ts F → CountedAll n r ss → CountedAll n r ts → StmtsAlike ss ts
      all_one agreed one seen AllMean.no_stmts AllMean.no_stmts h h' c c' = StmtsAlike.none_alike
      all_one agreed one seen {n = n} {r = r} (AllMean.more_stmts {s = s} {ss = ss} m ms) (AllMean.more_stmts {s = t} {ss = ts} m' ms') h h' c c' =
          let p = plain_passes (means_plain m) h in
          let p' = plain_passes (means_plain m') h' in
          let first = stmt_one agreed one seen m m' p.here p'.here (in_first s ss c) (in_first t ts c') in
          StmtsAlike.more_alike first (all_one agreed one seen ms ms' p.behind p'.behind (in_rest s ss c) (goes_on n r s t (given_in_all own_slots ts) (given_in_all own_regions ts) first (in_rest t ts c')))
      all_one agreed one seen (AllMean.more_stmts m ms) (AllMean.a_declaration k' m' ms') h h' c c' = absurd (no_declaration m)
      all_one agreed one seen (AllMean.more_stmts m ms) (AllMean.new_regions long ms') h h' c c' = absurd (no_regions m)
      all_one agreed one seen (AllMean.a_declaration k m ms) (AllMean.more_stmts m' ms') h h' c c' = absurd (no_declaration m')
      all_one {A} {L} {M} agreed one seen (AllMean.a_declaration {is_final = is_final} {kind = kind} {t = t} {name = name} {x = x} {ds = ds} {ss = ss} k m ms) (AllMean.a_declaration {t = u} {x = y} {ss = ts} k' m' ms') h h' c c' =
          let p = declared_passes h in
          let p' = declared_passes h' in
          let first = declared x (given_in_all own_slots ss) (given_in_all own_regions ss) c in
          let second = declared y (given_in_all own_slots ts) (given_in_all own_regions ts) c' in
          let slot : x ≡ y = first.0 ∙ sym second.0 in
          let type : t ≡ u = type_one A Q agreed.same one kind t u k k' in
          let value = expr_here A agreed one seen m m' p.has p'.has in
          let behind = subst (λ z. AllMean (record A { typed = Q; locals = (name, z) ∷ A.locals }) ds ts) (sym slot) ms' in
          let passing = subst (λ z. AllPass Q (with_local z (declared_as is_final u) M) ts p'.more) (sym slot) p'.behind in
          let typed_so = subst (λ z. AllPass Q (with_local x (declared_as is_final z) M) ts p'.more) (sym type) passing in
          StmtsAlike.more_alike (same_alike (cc (slot, type, value))) (all_one agreed one (with_alike x (declared_as is_final t) seen) ms behind p.behind typed_so first.1 second.1)
      all_one agreed one seen (AllMean.new_regions long ms) (AllMean.more_stmts m' ms') h h' c c' = absurd (no_regions m')
      all_one {A} {L} {M} agreed one seen {F = F} {n = n} {r = r} (AllMean.new_regions {names = names} {rs = rs} {ds = ds} {ss = ss} long ms) (AllMean.new_regions {rs = qs} {ss = ts} long' ms') h h' c c' =
          let p = regions_pass h in
          let p' = regions_pass h' in
          let first = regions_declared rs (given_in_all own_slots ss) (given_in_all own_regions ss) c in
          let second = regions_declared qs (given_in_all own_slots ts) (given_in_all own_regions ts) c' in
          let numbers : rs ≡ qs = same_numbers rs qs r _ _ (long ∙ sym long') first.0 second.0 in
          let inside : ScopesAlike (with_regions rs L) (with_regions qs M) = record { local = seen.local } in
          let counted = subst (λ z. Counted n (r + length z) (given_in_all own_slots ts) (given_in_all own_regions ts)) (sym numbers) second.1 in
          let same = sym (regions_around names rs A) in
          let behind = subst (λ (B : Around). AllPass B.typed (with_regions rs L) ss p.more) same p.behind in
          let still_agreed = subst (λ (B : Around). Agreed B.tree B.typed Q) same agreed in
          let still_one = subst (λ (B : Around). OneNumber B.tree B.params) same one in
          let moved = subst (λ z. AllMean (around_regions names z (other Q A)) ds ts) (sym numbers) ms' in
          let means = subst (λ (B : Around). AllMean B ds ts) (regions_around names rs (other Q A) ∙ ap (other Q) same) moved in
          StmtsAlike.more_alike (same_alike (cc numbers)) (all_one still_agreed still_one inside ms means behind p'.behind first.1 counted)

      branches_one : {A : Around} {L M : Scope} (agreed : Agreed A.tree A.typed Q) (one : OneNumber A.tree A.params) (seen : ScopesAlike L M) {ds : PlainStmts} {bs cs : TypedBranches} {us vs : List ℕ} {Es Fs : List (List Own)} {n r : ℕ} →
          AreVariables L us → AreVariables M vs → BranchesMean A ds bs → BranchesMean (other Q A) ds cs → BranchesPass A.typed L us bs Es → BranchesPass Q M vs cs Fs →
          CountedBranches n r bs → CountedBranches n r cs → BranchesAlike bs cs
      branches_one agreed one seen before before' BranchesMean.no_branches BranchesMean.no_branches h h' c c' = BranchesAlike.no_branch_alike
      branches_one {L = L} {M = M} agreed one seen {us = us} {vs = vs} {n = n} {r = r} before before' (BranchesMean.more_branches {copies = copies} {s = s} {bs = bs} p ps) (BranchesMean.more_branches {copies = copies'} {s = t} {bs = cs} p' ps')
          (BranchesPass.one_branch variables apart h rest) (BranchesPass.one_branch variables' apart' h' rest') c c' =
          let others = both_variables L us (all_copies bs) before (copies_variables rest) in
          let others' = both_variables M vs (all_copies cs) before' (copies_variables rest') in
          let inside : ScopesAlike (in_branch copies (us ++ all_copies bs) L) (in_branch copies' (vs ++ all_copies cs) M) =
          record { local = λ x. branch_alike copies (us ++ all_copies bs) copies' (vs ++ all_copies cs) x (seen.local x) (others x) (others' x) } in
          let first = part_alike_one agreed one inside p p' h h' (in_one_branch copies s bs c) (in_one_branch copies' t cs c') in
          let after = both_variables L us copies before (are_variables L copies variables) in
          let after' = both_variables M vs copies' before' (are_variables M copies' variables') in
          BranchesAlike.branch_alike first (branches_one agreed one seen after after' ps ps' rest rest' (in_more_branches copies s bs c)
          (goes_on n r s t (given_in_branches own_slots cs) (given_in_branches own_regions cs) first (in_more_branches copies' t cs c')))
