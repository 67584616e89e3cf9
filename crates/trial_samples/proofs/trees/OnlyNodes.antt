-- The other small tree means one program of its form alone.
use Rattle.std.proofs.Common.{◌≡◌, ◌∙◌, ℕ, zero, suc, Bool, true, false, List, [], ◌∷◌, Option, Some, None, refl, sym, subst, ap, arith, map, slice_get}
use Rattle.std.specs.List.{AllZip}
use Rattle.lang_base.specs.declared.elems.Elem.{Elem}
use Rattle.lang_base.specs.declared.region.Rpl.{Rpl}
use Rattle.lang_base.specs.Regions.{following}
use Rattle.lang_base.specs.Types.{PlainType}
use Rattle.lang_base.specs.Types.{PlainType as ty}
use Rattle.lang_base.specs.declared.op.BinaryOp.TheVariants.{Subtract}
use Rattle.lang_base.specs.declared.op.UnaryOp.TheVariants.{Negate}
use Rattle.syntax_tree.specs.declared.expr.InfixOp.TheVariants.{Binary}
use Rattle.syntax_tree.specs.declared.class.Class.{Class}
use Rattle.syntax_tree.specs.declared.class.MethodResult.TheVariants as outcome
use Rattle.syntax_tree.specs.declared.region.Named.{Named}
use Rattle.syntax_tree.specs.declared.region.RplHead.{RplHead}
use Rattle.syntax_tree.specs.declared.region.TypeTree.{TypeTree}
use Rattle.syntax_tree.specs.Plain.{PlainExpr, PlainExprs, PlainStmt, PlainStmts, assign_element, assign_field, block, call, choice, choice_else, cobegin, declare, element, foreach, foreach_parts, local, more_stmts, no_stmts, plain_stmt, plain_stmts, print, unary, while_loop}
use Rattle.lang_typed.specs.Plain.{PlainProgram, PlainMember, TypedExpr, TypedExprs, TypedStmt, TypedStmts, typed}
use Rattle.lang_typed.specs.Plain as made
use Rattle.lang_typed.specs.Scope.{parent_of, row_at}
use Rattle.syntax_means.specs.Bodies.{AllMean, ExprMeans, PartMeans, StmtMeans, with_local}
use Rattle.syntax_means.specs.Declares.{DeclaresField, DeclaresRegion, MeansIn, all_methods, all_regions, inherited_fields, its_own, inherited, method_name, own_fields}
use Rattle.trial_samples.specs.trees.Laws.{WrongOthersAreRefused}
use Rattle.syntax_means.specs.Means.{ConstructorMeans, Means, MemberMeans, in_method}
use Rattle.syntax_means.specs.Paths.{ArgsMean, Around, ElemMeans, HeadMeans, PathMeans, RegionMeans, beside}
use Rattle.trial_samples.specs.trees.Cells.{name_at, path, region_at, makes, number, int_local, an_int, anything}
use Rattle.trial_samples.specs.trees.Nodes.{makes_node, array_made, OtherPicks, a_boolean, in_region, main_body, main_does, main_tree, member_made, node_made, node_tree, other_program, other_right, tree, x_made}
use Rattle.trial_samples.proofs.trees.Each.{some_is, nothing_there, each_of}
use Rattle.trial_samples.proofs.trees.CellBodies.{at, does}
use Rattle.trial_samples.proofs.trees.NodeBodies.{an_int as plain_int, field_at, named, other_is, other_plain, two}
use Rattle.trial_samples.proofs.trees.NodesMean.{own_main, uses_nd}

-- the statements, one after the other
past_declaration : {A : Around} {f g : Bool} {k : TypeTree} {t : PlainType} {name x : ℕ} {e : PlainExpr} {v : TypedExpr} {ds : PlainStmts} {ss : TypedStmts} →
    AllMean A (more_stmts (does (declare f k name e)) ds) (made.more_stmts (makes (made.declare x t g v)) ss) → AllMean (with_local name x A) ds ss
past_declaration (AllMean.more_stmts x r) = elim x [ ]
past_declaration (AllMean.a_declaration t e r) = r

past_else : {A : Around} {e : PlainExpr} {c d : PlainStmt} {s : TypedStmt} {ds : PlainStmts} {ss : TypedStmts} →
    AllMean A (more_stmts (does (choice_else e c d)) ds) (made.more_stmts s ss) → StmtMeans A (does (choice_else e c d)) s × AllMean A ds ss
past_else (AllMean.more_stmts x r) = (x, r)

past_choice : {A : Around} {e : PlainExpr} {c : PlainStmt} {s : TypedStmt} {ds : PlainStmts} {ss : TypedStmts} →
    AllMean A (more_stmts (does (choice e c)) ds) (made.more_stmts s ss) → AllMean A ds ss
past_choice (AllMean.more_stmts x r) = r

past_while : {A : Around} {e : PlainExpr} {c : PlainStmt} {s : TypedStmt} {ds : PlainStmts} {ss : TypedStmts} →
    AllMean A (more_stmts (does (while_loop e c)) ds) (made.more_stmts s ss) → StmtMeans A (does (while_loop e c)) s × AllMean A ds ss
past_while (AllMean.more_stmts x r) = (x, r)

past_cobegin : {A : Around} {nd : Bool} {b : PlainStmts} {s : TypedStmt} {ds : PlainStmts} {ss : TypedStmts} →
    AllMean A (more_stmts (does (cobegin nd b)) ds) (made.more_stmts s ss) → AllMean A ds ss
past_cobegin (AllMean.more_stmts x r) = r

past_foreach : {A : Around} {nd : Bool} {v : Named} {d e : PlainExpr} {b : PlainStmt} {s : TypedStmt} {ds : PlainStmts} {ss : TypedStmts} →
    AllMean A (more_stmts (does (foreach nd v d e b)) ds) (made.more_stmts s ss) → AllMean A ds ss
past_foreach (AllMean.more_stmts x r) = r

past_parts : {A : Around} {v w : Named} {d e : PlainExpr} {b : PlainStmt} {s : TypedStmt} {ds : PlainStmts} {ss : TypedStmts} →
    AllMean A (more_stmts (does (foreach_parts v w d e b)) ds) (made.more_stmts s ss) → StmtMeans A (does (foreach_parts v w d e b)) s
past_parts (AllMean.more_stmts x r) = x

-- the method that is called, with its region argument
row_is : (P : PlainProgram) (r n : ℕ) → row_at P 0 0 ≡ Some 1 → row_at P 0 1 ≡ Some 2 → ((s : ℕ) → row_at P 0 (suc (suc s)) ≡ None) → row_at P 0 r ≡ Some n →
    method_name tree n ≡ Some 7 → r ≡ 0
row_is P zero n e f g is name = refl
row_is P (suc zero) n e f g is name =
    absurd (let z : Some 10 ≡ Some 7 = subst (λ k. method_name tree k ≡ Some 7) (sym (some_is 2 n (sym f ∙ is))) name in let y : 10 ≡ 7 = some_is 10 7 z in omega arith)
row_is P (suc (suc s)) n e f g is name = nothing_there n (sym (g s) ∙ is)

region_u : {P : PlainProgram} (n : ℕ) → parent_of P 1 ≡ None → MeansIn P (DeclaresRegion tree 13) 1 n → n ≡ 2
region_u n e (its_own (is_atomic, is)) =
    each_of (λ m own. own.name ≡ 13 → m ≡ 2) (all_regions tree) ((λ z. absurd (let y : 2 ≡ 13 = z in omega arith)), ((λ z. absurd (let y : 12 ≡ 13 = z in omega arith)), ((λ z. refl), tt)))
    n (record { class = 1; name = 13; is_atomic = is_atomic }) is refl
region_u n e (inherited {p = p} never above h) = nothing_there p (sym e ∙ above)

head_u : {A : Around} {start : Rpl} → A.params ≡ [] → A.regions ≡ [] → A.class ≡ 1 → A.tree ≡ tree → parent_of A.typed 1 ≡ None →
    HeadMeans A (RplHead.Name (region_at 13)) start → start ≡ in_region 2
head_u o l c t e (HeadMeans.at_param {p = p} h) = nothing_there 13 (subst (λ z. slice_get z p ≡ Some 13) o h.1)
head_u o l c t e (HeadMeans.at_local {r = r} never h) = nothing_there r (subst (λ z. beside z 13 ≡ Some r) l h.1)
head_u {A = A} o l c t e (HeadMeans.at_region {n = n} never other (RegionMeans.in_class flat h)) =
    ap in_region (region_u {P = A.typed} n e (subst (λ z. MeansIn A.typed (DeclaresRegion z 13) 1 n) t (subst (λ z. MeansIn A.typed (DeclaresRegion A.tree 13) z n) c h)))
head_u o l c t e (HeadMeans.at_region never other (RegionMeans.in_other {second = second} both named h)) = nothing_there second both

path_u : {A : Around} {a : Rpl} → A.params ≡ [] → A.regions ≡ [] → A.class ≡ 1 → A.tree ≡ tree → parent_of A.typed 1 ≡ None → PathMeans A [] (path 13 []) a → a ≡ in_region 2
path_u {A = A} {a = a} o l c t e h = goes h.elems h.goes_on h.is ∙ ap (λ s. following s []) (head_u o l c t e h.begins)
  where
    goes : (elems : List Elem) → AllZip (ElemMeans A []) [] elems → a ≡ following h.start elems → a ≡ following h.start []
    goes [] g i = i
    goes (x ∷ xs) g i = absurd g

args_u : (A : Around) (args : List Rpl) → A.params ≡ [] → A.regions ≡ [] → A.class ≡ 1 → A.tree ≡ tree → parent_of A.typed 1 ≡ None →
    AllZip (PathMeans A []) (path 13 [] ∷ []) args → args ≡ in_region 2 ∷ []
args_u A [] o l c t e g = absurd g
args_u A (a ∷ []) o l c t e g = ap (λ z. z ∷ []) (path_u o l c t e g.0)
args_u A (a ∷ b ∷ more) o l c t e g = absurd g.1

given_u : (A : Around) (params : List Bool) (args : List Rpl) → A.params ≡ [] → A.regions ≡ [] → A.class ≡ 1 → A.tree ≡ tree → parent_of A.typed 1 ≡ None →
    ArgsMean A [] params (path 13 [] ∷ []) args → args ≡ in_region 2 ∷ []
given_u A params args o l c t e (ArgsMean.all_written g) = args_u A args o l c t e g

abbrev RowsOf : PlainProgram → Type 0
RowsOf P = (row_at P 0 0 ≡ Some 1) × (row_at P 0 1 ≡ Some 2) × ((s : ℕ) → row_at P 0 (suc (suc s)) ≡ None)

call_is : {A : Around} {r : ℕ} {regions : List Rpl} {c d : PlainStmt} {s u : TypedStmt} {ds : PlainExprs} {es : TypedExprs} →
    A.params ≡ [] → A.regions ≡ [] → A.class ≡ 1 → A.tree ≡ tree → parent_of A.typed 1 ≡ None → RowsOf A.typed →
    StmtMeans A (does (choice_else (at (call (named 15) (path 13 [] ∷ []) 7 ds)) c d)) (makes (made.choice_else (a_boolean (made.call x_made 0 r regions es)) s u)) →
    (r ≡ 0) × (regions ≡ in_region 2 ∷ [])
call_is {A = A} {r = r} {regions = regions} o l c t e rows (StmtMeans.a_choice_else (ExprMeans.a_call {n = n} {m = m} x row name is args all) p q) =
    (row_is A.typed r n rows.0 rows.1 rows.2 row (subst (λ z. method_name z n ≡ Some 7) t name), given_u A m.params regions o l c t e args)

-- the slot of the field named as the length of arrays
slot_is : {P : PlainProgram} (slot : ℕ) → parent_of P 0 ≡ None → inherited_fields P 0 ≡ 0 → MeansIn P (DeclaresField tree P 4) 0 slot → slot ≡ 1
slot_is {P = P} slot e z (its_own (class, field, i, stands, there, name, is)) =
    let there' : slice_get (own_fields node_tree) i ≡ Some field = subst (λ (k : Class). slice_get (own_fields k) i ≡ Some field) (sym (some_is node_tree class stands)) there in
    let one : i ≡ 1 = each_of (λ m f. f.name ≡ 4 → m ≡ 1) (own_fields node_tree) ((λ e. absurd (let z : 3 ≡ 4 = e in omega arith)), ((λ e. refl), tt)) i field there' name in
    grind arith
slot_is {P = P} slot e z (inherited {p = p} never above h) = nothing_there p (sym e ∙ above)

loop_is : {A : Around} {slot : ℕ} {test : PlainExpr} {s : TypedStmt} {v : TypedExpr} → A.tree ≡ tree → parent_of A.typed 0 ≡ None → inherited_fields A.typed 0 ≡ 0 →
    StmtMeans A (does (while_loop test (does (block (more_stmts (does (assign_field (field_at (named 15) 3) (at (unary Negate (field_at (named 15) 3)))))
    (more_stmts (does (assign_field (field_at (named 15) 4) (plain_int 1))) no_stmts))))))
    (makes (made.while_loop v (makes (made.block (made.more_stmts s (made.more_stmts (makes (made.store_field x_made 0 slot (number 1))) made.no_stmts)))))) → slot ≡ 1
loop_is {A = A} {slot = slot} t e z (StmtMeans.a_while x (PartMeans.a_part (AllMean.more_stmts (StmtMeans.a_block (AllMean.more_stmts a (AllMean.more_stmts (StmtMeans.to_field o h v) n))) m))) =
    slot_is {P = A.typed} slot e z (subst (λ k. MeansIn A.typed (DeclaresField k A.typed 4) 0 slot) t h)

-- the part that is written, and what is subtracted
abbrev pub inner_plain : PlainStmt
inner_plain = does (foreach_parts (name_at 19) (name_at 9) (named 17) (plain_int 2) (does (print (two (Binary Subtract) (at (element (named 17) (plain_int 0))) (named 18)))))

abbrev pub inner_made : ℕ → TypedStmt
inner_made x =
    makes (made.foreach_parts 10 (made.of_part 5) (number 2) (makes (made.print_int (an_int (made.binary Subtract (an_int (made.part_element 5 (number 0))) (int_local x))))))

local_is : {A : Around} {name x : ℕ} → ExprMeans A (at (local name)) (int_local x) → beside A.locals name ≡ Some x
local_is (ExprMeans.a_local h) = h

subtracted_is : {A : Around} {x : ℕ} → beside A.locals 18 ≡ Some 9 → StmtMeans A inner_plain (inner_made x) → x ≡ 9
subtracted_is {A = A} {x = x} e (StmtMeans.a_foreach_parts s c (PartMeans.a_part (AllMean.more_stmts (StmtMeans.print_int (ExprMeans.two_operands p h)) n))) =
    sym (some_is 9 _ (sym e ∙ local_is h))

part_is : {A : Around} {k : ℕ} {e : PlainExpr} {i v : TypedExpr} → beside A.locals 17 ≡ Some 5 →
    StmtMeans A (does (assign_element (at (element (named 17) (plain_int 0))) e)) (makes (made.store_part k i v)) → k ≡ 5
part_is e (StmtMeans.to_part h i v) = sym (some_is 5 _ (sym e ∙ h))

parts_are : {A : Around} {k x : ℕ} {v : TypedExpr} {e : PlainExpr} →
    StmtMeans A (does (foreach_parts (name_at 17) (name_at 18) (named 8) (plain_int 2) (does (block (
    more_stmts (does (assign_element (at (element (named 17) (plain_int 0))) e)) (more_stmts inner_plain no_stmts))))))
    (makes (made.foreach_parts 5 (made.of_array array_made) (number 2) (makes (made.block (made.more_stmts (makes (made.store_part k (number 0) v)) (made.more_stmts (inner_made x) made.no_stmts)))))) →
    (k ≡ 5) × (x ≡ 9)
parts_are (StmtMeans.a_foreach_parts s c (PartMeans.a_part (AllMean.more_stmts (StmtMeans.a_block (AllMean.more_stmts h (AllMean.more_stmts g n))) m))) = (part_is refl h, subtracted_is refl g)

-- the constructor is the one that the class declares
constructor_is : (c : Option ℕ) → ConstructorMeans tree 0 c → c ≡ Some 0
constructor_is None h = absurd (h 0 (makes_node, refl, refl))
constructor_is (Some n) (method, is, flat) =
    ap (λ k. Some k) (each_of (λ m own. own.method.result ≡ outcome.Constructor → m ≡ 0) (all_methods tree)
    ((λ e. refl), ((λ e. absurd (cc)), ((λ e. absurd (cc)), ((λ e. absurd (cc)), tt)))) n (record { class = 0; method = method }) is flat)

abbrev around : OtherPicks → Around
around q = in_method tree (other_program q) main_tree own_main

abbrev main_made_of : OtherPicks → PlainMember
main_made_of q = member_made [] (ty.int ∷ []) ty.int (anything ∷ []) 1 15 (main_does q)

body_of : (q : OtherPicks) → Means tree (other_program q) → AllMean (around q) other_plain (main_does q)
body_of q m =
    let k : MemberMeans tree (other_program q) own_main (main_made_of q) = m.members 3 own_main (main_made_of q) refl refl in
    let b : AllMean (around q) (plain_stmts (map plain_stmt main_body)) (main_does q) =
    subst (λ (class : Class). AllMean (in_method tree (other_program q) class own_main) (plain_stmts (map plain_stmt main_body)) (main_does q)) (sym (some_is main_tree k.class k.stands)) k.body in
    subst (λ z. AllMean (around q) z (main_does q)) other_is b

abbrev make : Option ℕ → ℕ → List Rpl → ℕ → ℕ → ℕ → Bool → OtherPicks
make constructor row regions part slot subtracted uses_nd =
    record { constructor = constructor; row = row; regions = regions; part = part; slot = slot; subtracted = subtracted; uses_nd = uses_nd }

same_made : (a0 b0 : Option ℕ) (a1 b1 : ℕ) (a2 b2 : List Rpl) (a3 b3 a4 b4 a5 b5 : ℕ) (a6 b6 : Bool) → a0 ≡ b0 → a1 ≡ b1 → a2 ≡ b2 → a3 ≡ b3 → a4 ≡ b4 → a5 ≡ b5 → a6 ≡ b6 →
    make a0 a1 a2 a3 a4 a5 a6 ≡ make b0 b1 b2 b3 b4 b5 b6
same_made a0 b0 a1 b1 a2 b2 a3 b3 a4 b4 a5 b5 a6 b6 e0 e1 e2 e3 e4 e5 e6 = cc

from_body : (q : OtherPicks) → q.constructor ≡ Some 0 → q.uses_nd ≡ true → AllMean (around q) other_plain (main_does q) → q ≡ other_right
from_body q c u h =
    let a = past_else (past_declaration (past_declaration h)) in
    let call = call_is refl refl refl refl refl (refl, refl, (λ s. refl)) a.0 in
    let w = past_while a.1 in
    let parts = parts_are (past_parts (past_cobegin (past_foreach (past_choice w.1)))) in
    same_made q.constructor (Some 0) q.row other_right.row q.regions (in_region 2 ∷ []) q.part 5 q.slot 1 q.subtracted 9 q.uses_nd true c call.0 call.1 parts.0 (loop_is refl refl refl w.0) parts.1 u

pub other_only : (q : OtherPicks) → Means tree (other_program q) → q ≡ other_right
other_only q m = from_body q (constructor_is q.constructor (m.classes 0 node_tree (node_made q) refl refl).constructor) (m.uses_nd ∙ sym uses_nd) (body_of q m)

-- two programs that differ in a pick aren't both meant
none_some : {A : Type 0} (x : A) → None ≡ Some x → ⊥
none_some x e = absurd (cc)

no_args : (a : Rpl) → [] ≡ a ∷ [] → ⊥
no_args a e = absurd (cc)

false_true : false ≡ true → ⊥
false_true e = absurd (cc)

pub others_refused : WrongOthersAreRefused
others_refused = record {
  constructor = λ m. none_some 0 (ap (λ (q : OtherPicks). q.constructor) (other_only (record other_right { constructor = None }) m));
  row = λ m. absurd (let e : 1 ≡ 0 = ap (λ (q : OtherPicks). q.row) (other_only (record other_right { row = 1 }) m) in omega arith);
  no_regions = λ m. no_args (in_region 2) (ap (λ (q : OtherPicks). q.regions) (other_only (record other_right { regions = [] }) m));
  part = λ m. absurd (let e : 3 ≡ 5 = ap (λ (q : OtherPicks). q.part) (other_only (record other_right { part = 3 }) m) in omega arith);
  slot = λ m. absurd (let e : 0 ≡ 1 = ap (λ (q : OtherPicks). q.slot) (other_only (record other_right { slot = 0 }) m) in omega arith);
  subtracted = λ m. absurd (let e : 14 ≡ 9 = ap (λ (q : OtherPicks). q.subtracted) (other_only (record other_right { subtracted = 14 }) m) in omega arith);
  uses_nd = λ m. false_true (ap (λ (q : OtherPicks). q.uses_nd) (other_only (record other_right { uses_nd = false }) m));
}
