-- Where at a wrong kind is done what the meaning does there, the meaning that looks at kinds is the meaning.
use Rattle.std.proofs.Common.{◌≡◌, ℕ, ◌+◌, ℤ, pos, zero, suc, Bool, true, false, ◌&&◌, List, [], ◌∷◌, map, reverse, refl, ◌∙◌, Option, Some, None}
use Rattle.lang_base.specs.declared.place.Place.{Place}
use Rattle.lang_base.specs.Operators.{operands_of, unary_type}
use Rattle.lang_typed.specs.Plain.{PlainProgram, TypedExpr, typed, TypedExprs, no_exprs, more_exprs, of_array, of_part, TypedStmt, statement, TypedStmts, no_stmts, more_stmts}
use Rattle.lang_typed.specs.Plain.{ExprForm as form}
use Rattle.lang_typed.specs.Plain.{StmtForm as stmt}
use Rattle.lang_meaning.specs.Values.{Value, Int, Boolean, Naming}
use Rattle.lang_meaning.specs.Actions.{Frame, Rest, Look, Enter, Exit, Answer}
use Rattle.lang_meaning.specs.Core.{Goes_on, Returns, Prog, Ret, Traps, Act, Makes, Again, Split, and_then, run}
use Rattle.lang_meaning.specs.Counts.{number, truth, length_seen, unary, slot_value, text_of}
use Rattle.lang_meaning.specs.Regions.{around, concrete, concrete_effect}
use Rattle.lang_meaning.specs.Expressions.{Deeper, gives, none, operation, unless_null, read_cell, called, created, made_array, class_in, part_element, of_expr, of_exprs}
use Rattle.lang_meaning.specs.Statements.{with_value, write_cell, prints, begun, forks, part_begun, part_taken_over, parts, parts_of_array, of_stmt, of_stmts}
use Rattle.lang_meaning.specs.Asking.{meaning, reported, replied, ask}
use Rattle.runs_program.specs.Steps.{named_by}
use Rattle.runs_sound.specs.KindLaws.{KindsAreLookedAtAlone}
use Rattle.runs_sound.specs.Kinds.{is_int, is_boolean, is_reference, is_of, are_operands, is_part, is_read, is_written, is_length, is_class, is_name, needs, answered, strict_use, strict_use_at, strict_expr, strict_exprs, strict_stmt, strict_stmts, strict_meaning, strict_ask}

module _ {N M : Type 0} where
  same_needs : (c : Bool) (p : Prog N M) → needs (λ q. q) c p ≡ p
  same_needs true p = refl
  same_needs false p = refl

  same_answered : (right : Answer N M → Bool) (p : Prog N M) → answered (λ q. q) right p ≡ p
  same_answered right (Act o k) = λ i. Act o (λ x. same_needs (right x) (k x) i)
  same_answered right (Ret r) = refl
  same_answered right (Traps trap p) = refl
  same_answered right (Makes k) = refl
  same_answered right (Again t b f k) = refl
  same_answered right (Split forking ts bs k) = refl

  same_both : (c : Bool) (right : Answer N M → Bool) (p : Prog N M) → needs (λ q. q) c (answered (λ q. q) right p) ≡ p
  same_both c right p = same_needs c (answered (λ q. q) right p) ∙ same_answered right p

  same_at : (right : Answer N M → Bool) (at : Place) (v i : Value N) (k : N → ℤ → Prog N M) → strict_use_at (λ q. q) right at v i k ≡ unless_null at v (λ n. k n (number i))
  same_at right at v i k = same_needs _ (strict_use (λ q. q) right at v (λ n. k n (number i))) ∙ same_both _ right (unless_null at v (λ n. k n (number i)))

  same_choice : (b c : Bool) (p p' q q' : Prog N M) → p ≡ p' → q ≡ q' →
      needs (λ r. r) b (elim c as (λ z. Prog N M) [ false ↦ p | true ↦ q ]) ≡ elim c as (λ z. Prog N M) [ false ↦ p' | true ↦ q' ]
  same_choice b false p p' q q' d e = same_needs b p ∙ d
  same_choice b true p p' q q' d e = same_needs b q ∙ e

  goes_on : (p : Prog N M) → and_then p (λ v f. gives v f) ≡ p
  goes_on (Ret (Goes_on v f)) = refl
  goes_on (Ret (Returns v)) = refl
  goes_on (Traps trap p) = refl
  goes_on (Act o k) = λ i. Act o (λ x. goes_on (k x) i)
  goes_on (Makes k) = λ i. Makes (λ m. goes_on (k m) i)
  goes_on (Again t b f k) = λ i. Again t b f (λ r. goes_on (k r) i)
  goes_on (Split forking ts bs k) = λ i. Split forking ts bs (λ x. goes_on (k x) i)

module _ {N M : Type 0} (names : Naming N M) (P : PlainProgram) (dp : Option (Deeper N M)) where
  mutual
    pub same_expr : (e : TypedExpr) (f : Frame N M) → strict_expr (λ q. q) names P dp e f ≡ of_expr names P dp e f
    same_expr (typed at t (form.int k)) f = refl
    same_expr (typed at t (form.boolean b)) f = refl
    same_expr (typed at t form.null) f = refl
    same_expr (typed at t (form.local x)) f = same_needs _ _
    same_expr (typed at t (form.field e c k)) f = λ i. and_then (same_expr e f i) (λ v g. same_both (is_reference v) is_read (unless_null at v (λ n. read_cell at n (pos k) g)) i)
    same_expr (typed at t (form.element a j)) f =
        λ i. and_then (same_expr a f i) (λ v g. and_then (same_expr j g i) (λ u h. same_at is_read at v u (λ n k. read_cell at n k h) i))
    same_expr (typed at t (form.array_length a)) f =
        λ i. and_then (same_expr a f i) (λ v g. same_both (is_reference v) is_length (unless_null at v (λ n. Act (Look n) (λ x. gives (Int (pos (length_seen x))) g))) i)
    same_expr (typed at t (form.call e c r regions es)) f = λ i. and_then (same_expr e f i) (λ v g. same_exprs es g [] _ _ (λ vs h.
        same_both (is_reference v) is_class (unless_null at v (λ n. called names P dp at c r (map (concrete names (around h)) regions) n (reverse vs) h))) i)
    same_expr (typed at t (form.create es)) f = same_exprs es f [] _ _ (λ vs g.
        same_answered is_name (created names P dp at (class_in t).0 (map (concrete names (around g)) (class_in t).1) (reverse vs) g))
    same_expr (typed at t (form.create_array n)) f = λ i. and_then (same_expr n f i) (λ v g. same_both (is_int v) is_name (made_array names at t (number v) g) i)
    same_expr (typed at t (form.unary o e)) f = λ i. and_then (same_expr e f i) (λ v g. same_needs (is_of (unary_type o) v) (gives (unary o v) g) i)
    same_expr (typed at t (form.binary o a b)) f =
        λ i. and_then (same_expr a f i) (λ v g. and_then (same_expr b g i) (λ u h. same_needs (are_operands (operands_of o) v u) (operation names.same at o v u h) i))
    same_expr (typed at t (form.both a b)) f = λ i. and_then (same_expr a f i) (λ v g. same_choice (is_boolean v) (truth v) (gives (Boolean false) g) _ _ _ refl (same_expr b g) i)
    same_expr (typed at t (form.either a b)) f = λ i. and_then (same_expr a f i) (λ v g. same_choice (is_boolean v) (truth v) _ _ (gives (Boolean true) g) _ (same_expr b g) refl i)
    same_expr (typed at t (form.part_length k)) f = same_needs _ _
    same_expr (typed at t (form.part_element k j)) f =
        λ i. and_then (same_expr j f i) (λ v g. same_both (is_int v && is_part k g.values) is_read (part_element at k (number v) g (λ n p. read_cell at n p g)) i)

    same_exprs : (es : TypedExprs) (f : Frame N M) (vs : List (Value N)) (j k : List (Value N) → Frame N M → Prog N M) → ((us : List (Value N)) (g : Frame N M) → j us g ≡ k us g) →
        strict_exprs (λ q. q) names P dp es f vs j ≡ of_exprs names P dp es f vs k
    same_exprs no_exprs f vs j k e = e vs f
    same_exprs (more_exprs e es) f vs j k same = λ i. and_then (same_expr e f i) (λ v g. same_exprs es g (v ∷ vs) j k same i)

  mutual
    same_stmt : (s : TypedStmt) (f : Frame N M) → strict_stmt (λ q. q) names P dp s f ≡ of_stmt names P dp s f
    same_stmt (statement at (stmt.declare x t is_final e)) f = λ i. and_then (same_expr e f i) (λ v g. gives none (with_value g x v))
    same_stmt (statement at (stmt.store x e)) f = λ i. and_then (same_expr e f i) (λ v g. gives none (with_value g x v))
    same_stmt (statement at (stmt.store_field o c k e)) f =
        λ i. and_then (same_expr o f i) (λ v g. and_then (same_expr e g i) (λ u h. same_both (is_reference v) is_written (unless_null at v (λ n. write_cell at n (pos k) u h)) i))
    same_stmt (statement at (stmt.store_element a j e)) f =
        λ i. and_then (same_expr a f i) (λ v g. and_then (same_expr j g i) (λ u h. and_then (same_expr e h i) (λ w l.
        same_at is_written at v u (λ n k. write_cell at n k w l) i)))
    same_stmt (statement at (stmt.store_part k j e)) f =
        λ i. and_then (same_expr j f i) (λ v g. and_then (same_expr e g i) (λ u h. same_both (is_int v && is_part k h.values) is_written (part_element at k (number v) h (λ n l. write_cell at n l u h)) i))
    same_stmt (statement at (stmt.perform e)) f = λ i. and_then (same_expr e f i) (λ v g. gives none g)
    same_stmt (statement at (stmt.block ss)) f = same_stmts ss f
    same_stmt (statement at (stmt.choice e s)) f = λ i. and_then (same_expr e f i) (λ v g. same_choice (is_boolean v) (truth v) (gives none g) _ _ _ refl (same_stmt s g) i)
    same_stmt (statement at (stmt.choice_else e s t)) f =
        λ i. and_then (same_expr e f i) (λ v g. same_choice (is_boolean v) (truth v) _ _ _ _ (same_stmt t g) (same_stmt s g) i)
    same_stmt (statement at (stmt.while_loop e s)) f =
        λ i. Again (λ g. ((λ j. and_then (same_expr e g j) (λ v h. same_needs (is_boolean v) (gives v h) j)) ∙ goes_on (of_expr names P dp e g)) i) (λ g. same_stmt s g i) f (λ r. Ret r)
    same_stmt (statement at (stmt.return_value e)) f = λ i. and_then (same_expr e f i) (λ v g. Ret (Returns v))
    same_stmt (statement at (stmt.print_int e)) f = λ i. and_then (same_expr e f i) (λ v g. same_needs (is_int v) (prints (text_of v) g) i)
    same_stmt (statement at (stmt.print_boolean e)) f = λ i. and_then (same_expr e f i) (λ v g. same_needs (is_boolean v) (prints (text_of v) g) i)
    same_stmt (statement at (stmt.atomic effects ss)) f =
        λ i. Act Rest (λ a. Act (Enter (map (concrete_effect names (around f)) effects)) (λ b. and_then (same_stmts ss f i) (λ v g. Act Exit (λ c. gives none g))))
    same_stmt (statement at (stmt.foreach forking x start count s)) f =
        λ i. and_then (same_expr start f i) (λ v g. and_then (same_expr count g i) (λ u h. same_needs (is_int v && is_int u) (forks dp at forking None x s (number v) (number u) h) i))
    same_stmt (statement at (stmt.foreach_parts k (of_array a) count s)) f =
        λ i. and_then (same_expr a f i) (λ v g. and_then (same_expr count (part_begun k v g) i) (λ u h. same_both (is_reference v && is_int u) is_length (parts_of_array dp at k s (with_value h (k + 3) u)) i))
    same_stmt (statement at (stmt.foreach_parts k (of_part j) count s)) f =
        λ i. and_then (same_expr count (part_taken_over k j f) i) (λ u g. same_needs (is_int u && is_part j (with_value g (k + 3) u).values) (parts dp at k s
        (with_value (with_value g (k + 3) u) (k + 2) (slot_value (with_value g (k + 3) u).values (j + 2)))) i)
    same_stmt (statement at stmt.return_nothing) f = refl
    same_stmt (statement at (stmt.print_text text)) f = refl
    same_stmt (statement at (stmt.local_regions rs)) f = refl
    same_stmt (statement at (stmt.cobegin forking bs)) f = refl

    pub same_stmts : (ss : TypedStmts) (f : Frame N M) → strict_stmts (λ q. q) names P dp ss f ≡ of_stmts names P dp ss f
    same_stmts no_stmts f = refl
    same_stmts (more_stmts s ss) f = λ i. and_then (same_stmt s f i) (λ v g. same_stmts ss g i)

pub same_meaning : {N M : Type 0} (names : Naming N M) (P : PlainProgram) (d : ℕ) (ss : TypedStmts) (f : Frame N M) → strict_meaning (λ q. q) names P d ss f ≡ meaning names P d ss f
unfolding strict_meaning meaning
same_meaning names P zero ss f = same_stmts names P None ss f
same_meaning names P (suc d) ss f = (λ i. strict_stmts (λ q. q) names P (Some (λ rs g. same_meaning names P d rs g i)) ss f) ∙ same_stmts names P (Some (meaning names P d)) ss f

pub kinds_are_looked_at_alone : KindsAreLookedAtAlone
unfolding strict_ask ask
kinds_are_looked_at_alone p P t got =
    λ i. replied t.work (run (reported (named_by p)) (same_meaning (named_by p) P t.frame.left t.work.stmts (begun t.work.takes t.frame) i) (record { since = 0; made = 0; to_come = reverse got }))
