-- Statements that hold no other pass: what they hold has its types.
use Rattle.std.proofs.Common.{◌≡◌, ◌∙◌, ℕ, Bool, true, false, not, ◌||◌, cond, IsTrue, List, inl, inr, Option, Some, None, Result, refl, sym, ap, subst}
use Rattle.std.proofs.lemmas.Bool.{or_parts}
use Rattle.lang_base.specs.declared.refusal.Kind.{Kind}
use Rattle.lang_base.specs.declared.refusal.Kind.TheVariants as kind
use Rattle.lang_base.specs.declared.refusal.Refusal.{Refusal}
use Rattle.lang_base.specs.Effects.{same_bool}
use Rattle.lang_base.specs.Types.{plain_type}
use Rattle.body_locals.specs.Touches.{expr_reads}
use Rattle.syntax_tree.specs.declared.region.Named.{Named}
use Rattle.syntax_tree.specs.Plain as tree
use Rattle.syntax_tree.specs.Targets.{IsPerformed}
use Rattle.decl_table.specs.declared.rows.MethodRow.{MethodRow}
use Rattle.decl_table.specs.Table.{numbered}
use Rattle.lang_typed.specs.Plain.{PlainProgram, TypedExpr, type_of, TypedStmt, statement}
use Rattle.lang_typed.specs.Plain.{StmtForm as stmt}
use Rattle.lang_typed.specs.Scope.{Scope, Local, variable}
use Rattle.lang_typed.specs.Effects.{Own}
use Rattle.lang_typed.specs.Typing.{Has}
use Rattle.lang_typed.specs.Statements.{Passes}
use Rattle.lang_typed.specs.Statements.{IsPerformed as PerformedForm}
use Rattle.body_exprs.specs.declared.env.Env.{Env}
use Rattle.body_exprs.specs.declared.env.LocalRow.{LocalRow}
use Rattle.body_exprs.specs.declared.found.Found.{Found}
use Rattle.body_exprs.specs.Answer.{Answer, gives, refused}
use Rattle.body_exprs.specs.Env.{table_of, supers_of}
use Rattle.body_exprs.specs.Typed.{type_in, is_int, is_boolean, FitsAs}
use Rattle.body_exprs.specs.Typing.{Typing}
use Rattle.body_exprs.proofs.Fitted.{fits_is}
use Rattle.body_check.specs.declared.node.Around.{Around}
use Rattle.body_check.specs.declared.node.Node.{Node}
use Rattle.body_check.specs.Deciding.{is_misplaced, local_fault, may_return}
use Rattle.body_check.specs.Noting.{with_found, with_fault_if, fault_of}
use Rattle.body_check.specs.Simple.{node_of, may_print, printed_form}
use Rattle.body_check.specs.Walks.{Walk, passes, judged, found_so}
use Rattle.sound_lemmas.proofs.StatementRules.{AssigningLocal, Performing, Returning, Printing}
use Rattle.sound_lemmas.proofs.Free.{noted_reported, not_false}
use Rattle.sound_lemmas.proofs.Rules.{leaf_typed, CallOf, Call, CreationOf, Creation, Rules, rules}
use Rattle.sound_bodies.specs.Laws.{Stands, Passing}
use Rattle.sound_bodies.specs.Seen.{RowIs, Tells, Sees, Returns}
use Rattle.syntax_grammar.specs.Written.{Fitting}
use Rattle.sound_bodies.proofs.statements.Expressions.{int_is, boolean_is, expression_agrees}
use Rattle.sound_bodies.proofs.table.Subtypes.{fits_subtype}

-- a node of which no fault is reported

pub free_if : (node : Node) (reason : Kind) (b : Bool) → fault_of (with_fault_if node reason b) ≡ None → (fault_of node ≡ None) × (b ≡ false)
free_if node reason true h =
    let clash = sym (noted_reported node.faults (record { kind = reason; place = node.place })) ∙ h in cc
free_if node reason false h = (h, refl)

pub free_found : (node : Node) (o : Option Kind) → fault_of (with_found node o) ≡ None → (fault_of node ≡ None) × (o ≡ None)
free_found node (Some reason) h =
    let clash = sym (noted_reported node.faults (record { kind = reason; place = node.place })) ∙ h in cc
free_found node None h = (h, refl)

pub judged_passes : {T : Type 0} (o : Option Refusal) (made x : T) (w u : Walk) → judged o made w ≡ passes x u → (o ≡ None) × (made ≡ x) × (w ≡ u)
judged_passes None made x w u h =
    let first : made ≡ x = cc in
    let second : w ≡ u = cc in
    (refl, first, second)
judged_passes (Some refusal) made x w u h = cc

assigned_fit : (fit is_final : Bool) → local_fault fit is_final ≡ None → (fit ≡ true) × (is_final ≡ false)
assigned_fit true false h = (refl, refl)
assigned_fit true true h = cc
assigned_fit false is_final h = cc

pub variable_slot : (r a : Bool) (row : LocalRow) (o : Option Local) → RowIs r a row o → row.is_final ≡ false → a ≡ true → o ≡ Some (variable (plain_type row.ty))
variable_slot r a row o (RowIs.is_part p q same) f t = let no : true ≡ false = sym q ∙ f in cc
variable_slot r a row o (RowIs.is_constant p g) f t = let no : true ≡ false = sym g ∙ f in cc
variable_slot r a row o (RowIs.is_variable p g) f t = refl
variable_slot r a row o (RowIs.is_frozen p g u) f t = let no : false ≡ true = sym u ∙ t in cc
variable_slot r a row o (RowIs.is_reserved p g u v) f t = let no : false ≡ true = sym v ∙ t in cc

-- what is made of a call or a creation is one
abbrev AnswerPerformed : Answer → Type 0
AnswerPerformed (gives None g) = Unit {0}
AnswerPerformed (gives (Some t) g) = PerformedForm t
AnswerPerformed (refused refusal) = Unit {0}

module _ (env : Env)
  where
    call_of_form : {e : TypedExpr} {class : ℕ} {row : _} {owned : _} {args : _} {actuals : List (Option TypedExpr)} {place : _} {f : Found} {a : Answer} →
        CallOf env e class row owned args actuals place f a → AnswerPerformed a
    call_of_form CallOf.call_refused = tt
    call_of_form (CallOf.fitting_call given right) = inl (_, _, _, _, _, refl)

    creation_of_form : {at : ℕ} {args : _} {actuals : List (Option TypedExpr)} {place : _} {f : Found} {a : Answer} → CreationOf env at args actuals place f a → AnswerPerformed a
    creation_of_form CreationOf.creation_refused = tt
    creation_of_form (CreationOf.created given right) = inr (_, refl)

    creation_form : {class : _} {args : _} {actuals : List (Option TypedExpr)} {place : _} {f : Found} {a : Answer} → Creation env class args actuals place f a → AnswerPerformed a
    creation_form Creation.object_refused = tt
    creation_form (Creation.of_class is d) = creation_of_form d

    no_leaf : (place : _) (e : tree.ExprForm) (r : Result TypedExpr Refusal) → leaf_typed env place e ≡ Some r → IsPerformed (tree.expression place e) → ⊥
    no_leaf place (tree.int k) r is p = p
    no_leaf place (tree.boolean b) r is p = p
    no_leaf place tree.null r is p = p
    no_leaf place tree.this r is p = p
    no_leaf place (tree.local name) r is p = p
    no_leaf place (tree.field of name) r is p = p
    no_leaf place (tree.element array index) r is p = p
    no_leaf place (tree.call of regions name actuals) r is p = cc
    no_leaf place (tree.create class regions actuals) r is p = cc
    no_leaf place (tree.create_array base suffixes len rpl index) r is p = p
    no_leaf place (tree.unary op arg) r is p = p
    no_leaf place (tree.binary op left right) r is p = p

    performed_form : {e : tree.PlainExpr} {f : Found} {a : Answer} → Rules env e f a → IsPerformed e → AnswerPerformed a
    performed_form (Rules.no_parts {place = place} {form = leaf} {r = r} l s) p = absurd (no_leaf place leaf r l p)
    performed_form (Rules.part_length l) p = absurd p
    performed_form (Rules.field_read l d r) p = absurd p
    performed_form (Rules.part_element_read l d r) p = absurd p
    performed_form (Rules.element_read l d i r) p = absurd p
    performed_form (Rules.operation d r) p = absurd p
    performed_form (Rules.both_operands d i r) p = absurd p
    performed_form (Rules.method_call d l i (Call.of_method is r)) p = call_of_form r
    performed_form (Rules.method_call d l i Call.on_anything) p = tt
    performed_form (Rules.method_call d l i Call.use_refused) p = tt
    performed_form (Rules.new_object l i r) p = creation_form r
    performed_form (Rules.new_array l d r) p = absurd p
    performed_form Rules.is_refused p = tt

module _ (P : PlainProgram) (L : Scope) (w : Walk) (may_read may_assign : ℕ → Bool) (tells : Tells P (table_of w.env) L.member_nd_free) (sees : Sees P L w.env may_read may_assign)
  where
    abbrev Reads : tree.PlainExpr → Type 0
    Reads e = (x : ℕ) → IsTrue (expr_reads x e) → IsTrue (may_read x)

    -- a statement without effects beside those of its expression
    passing_on : (f g : Found) (e : TypedExpr) (s : TypedStmt) → Stands P L f e g → ((E : List Own) → Has P L e E → Passes P L s E) → Passing P L f s g
    passing_on f g e s stands make = record { effects = stands.effects; does_so = λ c. make stands.effects (stands.has c); gathers = stands.gathers; nd_free = stands.nd_free }

    -- an expression of the statement, and where the walk has come
    with_value : (value : tree.PlainExpr) (g : Found) (t : Option TypedExpr) (s : TypedStmt) (u : Walk) → Fitting value → Reads value → Typing w.env value w.found (gives t g) → found_so w g ≡ u →
        ((e : TypedExpr) → t ≡ Some e → Stands P L w.found e g → Passing P L w.found s g) → Passing P L w.found s u.found
    with_value value g t s u fits all d same make =
        let x = expression_agrees P L w.env may_read may_assign tells sees value w.found g t fits all d in
        subst (λ (z : Walk). Passing P L w.found s z.found) same (make x.0 x.1 x.2)

    pub performing : (node : Node) (value : tree.PlainExpr) (u : Walk) (s : TypedStmt) → Fitting value → Reads value → IsPerformed value → Performing node value w (passes s u) → Passing P L w.found s u.found
    performing node value u s fits all p (Performing.performed {t = t} {g = g} d j) =
        let r = judged_passes (fault_of node) (statement node.place (stmt.perform (node_of value t))) s (found_so w g) u j in
        with_value value g t s u fits all d r.2 (λ e is stands.
        passing_on w.found g e s stands
        (λ E h. subst (λ z. Passes P L z E) (ap (λ z. statement node.place (stmt.perform (node_of value z))) (sym is) ∙ r.1)
        (Passes.perform (subst (λ z. AnswerPerformed (gives z g)) is (performed_form w.env (rules w.env value w.found d) p)) h)))

    pub printing : (node : Node) (value : tree.PlainExpr) (u : Walk) (s : TypedStmt) → Fitting value → Reads value → Printing node value w (passes s u) → Passing P L w.found s u.found
    printing node value u s fits all (Printing.printed {t = t} {g = g} d j) =
        let r = judged_passes _ (statement node.place (printed_form (node_of value t))) s (found_so w g) u j in
        let may = not_false (may_print (type_in t)) (free_if node _ (not (may_print (type_in t))) r.0).1 in
        with_value value g t s u fits all d r.2 (λ e is stands.
        passing_on w.found g e s stands
        (λ E h. subst (λ z. Passes P L z E) (ap (λ z. statement node.place (printed_form (node_of value z))) (sym is) ∙ r.1)
        (by node e (is_boolean (type_of e)) refl (subst (λ z. may_print (type_in z) ≡ true) is may) h)))
      where
        or_first : (a b : Bool) → (a || b) ≡ true → b ≡ false → a ≡ true
        or_first true b h k = refl
        or_first false true h k = cc
        or_first false false h k = h

        by : (node : Node) (e : TypedExpr) (b : Bool) → is_boolean (type_of e) ≡ b → may_print (Some (type_of e)) ≡ true → {E : List Own} → Has P L e E →
            Passes P L (statement node.place (cond b (stmt.print_boolean e) (stmt.print_int e))) E
        by node e true at may h = Passes.print_boolean h (boolean_is (type_of e) at)
        by node e false at may h = Passes.print_int h (int_is (type_of e) (or_first (is_int (type_of e)) (is_boolean (type_of e)) may at))

    pub assigning : (node : Node) (target : Named) (value : tree.PlainExpr) (u : Walk) (s : TypedStmt) → Fitting value → Reads value → IsTrue (may_assign target.name) →
        AssigningLocal node target value w (passes s u) → Passing P L w.found s u.found
    assigning node target value u s fits all may (AssigningLocal.assigned {t = t} {g = g} {row = row} {fit = fit} d l fits_so j) =
        let r = judged_passes _ (statement target.place (stmt.store row.slot (node_of value t))) s (found_so w g) u j in
        let q = assigned_fit fit row.is_final (free_found node (local_fault fit row.is_final) r.0).1 in
        with_value value g t s u fits all d r.2 (λ e is stands.
        passing_on w.found g e s stands
        (λ E h. subst (λ z. Passes P L z E) (ap (λ z. statement target.place (stmt.store row.slot (node_of value z))) (sym is) ∙ r.1)
        (Passes.store (variable_slot (may_read target.name) (may_assign target.name) row (L.local row.slot) (sees.locals target.name row l) q.1 may) h
        (fits_subtype P (supers_of w.env) sees.supers (type_of e) (plain_type row.ty) (sees.declared target.name row l q.1)
        (subst (λ z. FitsAs (supers_of w.env) (type_in z) (plain_type row.ty)) is ((fits_is (supers_of w.env) (type_in t) (plain_type row.ty)).0 (fits_so ∙ q.0)))))))

    pub returning : (around : Around) (node : Node) (value : tree.PlainExpr) (u : Walk) (s : TypedStmt) → Fitting value → Reads value → Returns L w.env around →
        Returning around node value w (passes s u) → Passing P L w.found s u.found
    returning around node value u s fits all returns (Returning.returned {t = t} {g = g} {fit = fit} d fits_so j) =
        let r = judged_passes _ (statement node.place (stmt.return_value (node_of value t))) s (found_so w g) u j in
        let first = free_if (with_fault_if node kind.Return (is_misplaced around true)) _ (not fit) r.0 in
        let placed = or_parts around.enclosed (not (same_bool true around.has_result)) (free_if node _ (is_misplaced around true) first.0).1 in
        let has = not_false (same_bool true around.has_result) placed.1 in
        let row = returns.value placed.0 has in
        with_value value g t s u fits all d r.2 (λ e is stands.
        passing_on w.found g e s stands
        (λ E h. subst (λ z. Passes P L z E) (ap (λ z. statement node.place (stmt.return_value (node_of value z))) (sym is) ∙ r.1)
        (Passes.return_value row.2 h
        (fits_subtype P (supers_of w.env) sees.supers (type_of e) (plain_type row.0.result) row.3
        (subst (λ z. FitsAs (supers_of w.env) (type_in z) (plain_type row.0.result)) is
        (right around.has_result (numbered (table_of w.env) w.env.method) row.0 has row.1 (fits_so ∙ not_false fit first.1)))))))
      where
        right : (b : Bool) (o : Option MethodRow) (row : MethodRow) → b ≡ true → o ≡ Some row → may_return (supers_of w.env) b o (type_in t) ≡ true → FitsAs (supers_of w.env) (type_in t) (plain_type row.result)
        right b o row at is h =
            (fits_is (supers_of w.env) (type_in t) (plain_type row.result)).0
            (subst (λ z. may_return (supers_of w.env) true z (type_in t) ≡ true) is (subst (λ z. may_return (supers_of w.env) z o (type_in t) ≡ true) at h))
