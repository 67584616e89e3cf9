-- What is picked in the bodies of a typed program that the small tree means.
use Rattle.std.proofs.Common.{◌≡◌, ◌∙◌, ℕ, Bool, false, List, [], ◌∷◌, ◌++◌, Some, None, refl, sym, subst, ap, arith, map, slice_get}
use Rattle.std.specs.List.{AllZip}
use Rattle.lang_base.specs.declared.elems.Elem.{Elem}
use Rattle.lang_base.specs.declared.elems.Elem.TheVariants.{Name, Local}
use Rattle.lang_base.specs.declared.region.Head.TheVariants.{Root}
use Rattle.lang_base.specs.declared.region.Rpl.{Rpl}
use Rattle.lang_base.specs.Regions.{following}
use Rattle.lang_base.specs.Types.{PlainType}
use Rattle.lang_base.specs.Types.{PlainType as ty}
use Rattle.syntax_tree.specs.declared.class.Class.{Class}
use Rattle.syntax_tree.specs.declared.region.BaseTree.TheVariants as base
use Rattle.syntax_tree.specs.declared.region.Named.{Named}
use Rattle.syntax_tree.specs.declared.region.RplHead.{RplHead}
use Rattle.syntax_tree.specs.declared.region.TypeTree.{TypeTree}
use Rattle.syntax_tree.specs.Plain.{PlainExpr, PlainStmt, PlainStmts, atomic, block, call, cobegin, create, create_array, declare, element, foreach, local, local_regions, no_exprs, more_exprs, no_stmts, more_stmts, assign_element, plain_stmt, plain_stmts, return_value}
use Rattle.lang_typed.specs.Plain.{PlainProgram, TypedExpr, TypedStmt, TypedStmts, typed}
use Rattle.lang_typed.specs.declared.stmt.Forking.TheVariants.{Deterministic}
use Rattle.lang_typed.specs.Plain as made
use Rattle.lang_typed.specs.Scope.{parent_of}
use Rattle.syntax_means.specs.Bodies.{AllMean, BranchesMean, ExprMeans, ExprsMean, PartMeans, StmtMeans, with_local, with_regions}
use Rattle.syntax_means.specs.Declares.{DeclaresField, DeclaresRegion, MeansIn, all_regions, inherited_fields, its_own, inherited, own_fields}
use Rattle.syntax_means.specs.Means.{Means, MemberMeans, in_method}
use Rattle.syntax_means.specs.Paths.{ArgsMean, Around, ElemMeans, HeadMeans, PathMeans, PathOrRoot, RegionMeans, TypeMeans, beside}
use Rattle.trial_samples.specs.trees.Cells.{Picks, right, program, tree, cell_tree, main_tree, main_body, main_member, main_does, in_b, region_at, path, name_at, by_index, arrays_in, here, makes, int_local, prints, stores, the_cell}
use Rattle.trial_samples.proofs.trees.Each.{some_is, nothing_there, each_of}
use Rattle.trial_samples.proofs.trees.CellBodies.{at, does, main_is, main_plain, prints_plain, sets_plain}
use Rattle.trial_samples.proofs.trees.CellsMean.{main_of_main}

-- the statements, one after the other
past_regions : {A : Around} {names : List Named} {rs : List ℕ} {ds : PlainStmts} {ss : TypedStmts} →
    AllMean A (more_stmts (does (local_regions names)) ds) (made.more_stmts (makes (made.local_regions rs)) ss) → AllMean (with_regions names rs A) ds ss
past_regions (AllMean.more_stmts x r) = elim x [ ]
past_regions (AllMean.new_regions e r) = r

past_declaration : {A : Around} {f g : Bool} {k : TypeTree} {t : PlainType} {name x : ℕ} {e : PlainExpr} {v : TypedExpr} {ds : PlainStmts} {ss : TypedStmts} →
    AllMean A (more_stmts (does (declare f k name e)) ds) (made.more_stmts (makes (made.declare x t g v)) ss) →
    TypeMeans A k t × ExprMeans A e v × AllMean (with_local name x A) ds ss
past_declaration (AllMean.more_stmts x r) = elim x [ ]
past_declaration (AllMean.a_declaration t e r) = (t, e, r)

past_block : {A : Around} {b : PlainStmts} {s : TypedStmt} {ds : PlainStmts} {ss : TypedStmts} →
    AllMean A (more_stmts (does (block b)) ds) (made.more_stmts s ss) → StmtMeans A (does (block b)) s × AllMean A ds ss
past_block (AllMean.more_stmts x r) = (x, r)

past_cobegin : {A : Around} {nd : Bool} {b : PlainStmts} {s : TypedStmt} {ds : PlainStmts} {ss : TypedStmts} →
    AllMean A (more_stmts (does (cobegin nd b)) ds) (made.more_stmts s ss) → StmtMeans A (does (cobegin nd b)) s × AllMean A ds ss
past_cobegin (AllMean.more_stmts x r) = (x, r)

past_foreach : {A : Around} {nd : Bool} {v : Named} {d e : PlainExpr} {b : PlainStmt} {s : TypedStmt} {ds : PlainStmts} {ss : TypedStmts} →
    AllMean A (more_stmts (does (foreach nd v d e b)) ds) (made.more_stmts s ss) → StmtMeans A (does (foreach nd v d e b)) s × AllMean A ds ss
past_foreach (AllMean.more_stmts x r) = (x, r)

past_atomic : {A : Around} {b : PlainStmts} {s : TypedStmt} {ds : PlainStmts} {ss : TypedStmts} →
    AllMean A (more_stmts (does (atomic b)) ds) (made.more_stmts s ss) → AllMean A ds ss
past_atomic (AllMean.more_stmts x r) = r

-- a local
local_is : {A : Around} {name x : ℕ} → ExprMeans A (at (local name)) (int_local x) → beside A.locals name ≡ Some x
local_is (ExprMeans.a_local h) = h

print_is : {A : Around} {x n p : ℕ} → StmtMeans A (prints_plain n) (prints x n p) → p ≡ x
print_is (StmtMeans.a_block (AllMean.more_stmts x r)) = elim x [ ]
print_is (StmtMeans.a_block (AllMean.a_declaration t e (AllMean.more_stmts (StmtMeans.print_int g) r))) = sym (some_is _ _ (local_is g))

-- the class after new
region_b : {P : PlainProgram} (n : ℕ) → parent_of P 2 ≡ None → MeansIn P (DeclaresRegion tree 11) 2 n → n ≡ 1
region_b n e (its_own (is_atomic, is)) =
    each_of (λ m own. own.class ≡ 2 → m ≡ 1) (all_regions tree) ((λ z. absurd (omega arith)), ((λ z. refl), tt)) n (record { class = 2; name = 11; is_atomic = is_atomic }) is refl
region_b n e (inherited {p = p} never above h) = nothing_there p (sym e ∙ above)

head_b : {A : Around} {start : Rpl} → A.params ≡ [] → beside A.regions 11 ≡ None → A.class ≡ 2 → A.tree ≡ tree → parent_of A.typed 2 ≡ None →
    HeadMeans A (RplHead.Name (region_at 11)) start → start ≡ in_b
head_b o l c t e (HeadMeans.at_param {p = p} h) = nothing_there 11 (subst (λ z. slice_get z p ≡ Some 11) o h.1)
head_b o l c t e (HeadMeans.at_local {r = r} never h) = nothing_there r (subst (λ z. z ≡ Some r) l h.1)
head_b {A = A} o l c t e (HeadMeans.at_region {n = n} never other (RegionMeans.in_class flat h)) =
    ap (λ m. record { head = Root; elems = Name m ∷ [] })
    (region_b {P = A.typed} n e (subst (λ z. MeansIn A.typed (DeclaresRegion z 11) 2 n) t (subst (λ z. MeansIn A.typed (DeclaresRegion A.tree 11) z n) c h)))
head_b o l c t e (HeadMeans.at_region never other (RegionMeans.in_other {second = second} both named h)) = nothing_there second both

path_b : {A : Around} {a : Rpl} → A.params ≡ [] → beside A.regions 11 ≡ None → A.class ≡ 2 → A.tree ≡ tree → parent_of A.typed 2 ≡ None →
    PathMeans A [] (path 11 []) a → a ≡ in_b
path_b {A = A} {a = a} o l c t e h = goes h.elems h.goes_on h.is ∙ ap (λ s. following s []) (head_b o l c t e h.begins)
  where
    goes : (elems : List Elem) → AllZip (ElemMeans A []) [] elems → a ≡ following h.start elems → a ≡ following h.start []
    goes [] g i = i
    goes (x ∷ xs) g i = absurd g

args_b : (A : Around) (args : List Rpl) → A.params ≡ [] → beside A.regions 11 ≡ None → A.class ≡ 2 → A.tree ≡ tree → parent_of A.typed 2 ≡ None →
    AllZip (PathMeans A []) (path 11 [] ∷ []) args → args ≡ in_b ∷ []
args_b A [] o l c t e g = absurd g
args_b A (a ∷ []) o l c t e g = ap (λ z. z ∷ []) (path_b o l c t e g.0)
args_b A (a ∷ b ∷ more) o l c t e g = absurd g.1

new_is : {A : Around} {args : List Rpl} → A.params ≡ [] → beside A.regions 11 ≡ None → A.class ≡ 2 → A.tree ≡ tree → parent_of A.typed 2 ≡ None →
    ExprMeans A (at (create (name_at 7) (path 11 [] ∷ []) no_exprs)) (typed here (ty.class 1 args) (made.create made.no_exprs)) → args ≡ in_b ∷ []
new_is {A = A} {args = args} o l c t e (ExprMeans.a_creation h n) = given h.given
  where
    given : ArgsMean A [] h.class.params (path 11 [] ∷ []) args → args ≡ in_b ∷ []
    given (ArgsMean.all_written g) = args_b A args o l c t e g

-- the region of the array
local_eq : (r s : ℕ) (xs ys : List Elem) → Local r 0 ∷ xs ≡ Local s 0 ∷ ys → r ≡ s
local_eq r s xs ys e = cc

elems_of : (a b : Rpl) → a ≡ b → a.elems ≡ b.elems
elems_of a b e = ap (λ (z : Rpl). z.elems) e

head_r : {A : Around} {start : Rpl} → A.params ≡ [] → A.regions ≡ (13, 0) ∷ [] → HeadMeans A (RplHead.Name (region_at 13)) start →
    start ≡ record { head = Root; elems = Local 0 0 ∷ [] }
head_r o l (HeadMeans.at_param {p = p} h) = nothing_there 13 (subst (λ z. slice_get z p ≡ Some 13) o h.1)
head_r o l (HeadMeans.at_local {r = r} never h) = ap (λ z. record { head = Root; elems = Local z 0 ∷ [] }) (sym (some_is 0 r (subst (λ z. beside z 13 ≡ Some r) l h.1)))
head_r o l (HeadMeans.at_region never other h) = absurd (other 0 (refl, subst (λ z. beside z 13 ≡ Some 0) (sym l) refl))

array_is : {A : Around} {r : ℕ} {n : TypedExpr} → A.params ≡ [] → A.regions ≡ (13, 0) ∷ [] →
    ExprMeans A (at (create_array base.Int [] (at (local 6)) (Some by_index) (Some (name_at 17)))) (typed here (arrays_in r) (made.create_array n)) → r ≡ 0
array_is {r = r} o l (ExprMeans.an_array f (PathOrRoot.written h) is e) =
    local_eq r 0 _ _ (elems_of _ _ h.is ∙ ap (λ (s : Rpl). s.elems ++ h.elems) (head_r o l h.begins))

-- the slot of y
slot_is : {P : PlainProgram} (slot : ℕ) → parent_of P 0 ≡ None → inherited_fields P 0 ≡ 0 → MeansIn P (DeclaresField tree P 4) 0 slot → slot ≡ 1
slot_is {P = P} slot e z (its_own (class, field, i, stands, there, named, is)) =
    let there' : slice_get (own_fields cell_tree) i ≡ Some field = subst (λ (k : Class). slice_get (own_fields k) i ≡ Some field) (sym (some_is cell_tree class stands)) there in
    let one : i ≡ 1 = each_of (λ m f. f.name ≡ 4 → m ≡ 1) (own_fields cell_tree) ((λ e. absurd (let z : 3 ≡ 4 = e in omega arith)), ((λ e. refl), tt)) i field there' named in
    grind arith
slot_is {P = P} slot e z (inherited {p = p} never above h) = nothing_there p (sym e ∙ above)

stores_is : {A : Around} {slot : ℕ} → A.tree ≡ tree → parent_of A.typed 0 ≡ None → inherited_fields A.typed 0 ≡ 0 → StmtMeans A (sets_plain 4 2) (stores slot 2) → slot ≡ 1
stores_is {A = A} {slot = slot} t e z (StmtMeans.to_field o h v) = slot_is {P = A.typed} slot e z (subst (λ k. MeansIn A.typed (DeclaresField k A.typed 4) 0 slot) t h)

second_is : {A : Around} {slot : ℕ} → A.tree ≡ tree → parent_of A.typed 0 ≡ None → inherited_fields A.typed 0 ≡ 0 →
    StmtMeans A (does (cobegin false (more_stmts (sets_plain 3 1) (more_stmts (sets_plain 4 2) no_stmts))))
    (makes (made.cobegin Deterministic (made.more_branches [] (stores 0 1) (made.more_branches [] (stores slot 2) made.no_branches)))) → slot ≡ 1
second_is t e z (StmtMeans.a_cobegin f (BranchesMean.more_branches p (BranchesMean.more_branches (PartMeans.a_part (AllMean.more_stmts h r)) n))) = stores_is t e z h

-- the index
index_is : {A : Around} {x index : ℕ} {t : PlainType} {d e : PlainExpr} {start count : TypedExpr} →
    StmtMeans A (does (foreach false (name_at 18) d e (does (block (more_stmts (does (assign_element (at (element (at (local 16)) (at (local 18)))) (at (local 18)))) no_stmts)))))
    (makes (made.foreach Deterministic x start count
    (makes (made.block (made.more_stmts (makes (made.store_element (typed here t (made.local 5)) (int_local index) (int_local x))) made.no_stmts))))) → index ≡ x
index_is (StmtMeans.a_foreach f s c (PartMeans.a_part (AllMean.more_stmts (StmtMeans.a_block (AllMean.more_stmts (StmtMeans.to_element b i v) n)) m))) = sym (some_is _ _ (local_is i))

-- the actual
actual_is : {A : Around} {x : ℕ} → AllMean A (more_stmts (does (return_value (at (call (at (local 14)) [] 5 (more_exprs (at (local 6)) no_exprs))))) no_stmts)
    (made.more_stmts (makes (made.return_value (typed here ty.int (made.call the_cell 0 0 [] (made.more_exprs (int_local x) made.no_exprs))))) made.no_stmts) →
    beside A.locals 6 ≡ Some x
actual_is (AllMean.more_stmts (StmtMeans.a_return_value (ExprMeans.a_call e row name m args (ExprsMean.more_exprs h n))) r) = local_is h

-- the slots of the locals of the two blocks
pub slots_are : (q : Picks) → Means tree (program q) → (q.first ≡ right.first) × (q.second ≡ right.second)
slots_are q m =
    let k : MemberMeans tree (program q) main_of_main (main_member q) = m.members 2 main_of_main (main_member q) refl refl in
    let counted = k.slots in
    (counted.1.0, counted.1.1.0)

-- the body of `main`
pub body_of : (q : Picks) → Means tree (program q) → AllMean (in_method tree (program q) main_tree main_of_main) main_plain (main_does q)
body_of q m =
    let k : MemberMeans tree (program q) main_of_main (main_member q) = m.members 2 main_of_main (main_member q) refl refl in
    let b : AllMean (in_method tree (program q) main_tree main_of_main) (plain_stmts (map plain_stmt main_body)) (main_does q) =
    subst (λ (class : Class). AllMean (in_method tree (program q) class main_of_main) (plain_stmts (map plain_stmt main_body)) (main_does q)) (sym (some_is main_tree k.class k.stands)) k.body in
    subst (λ z. AllMean (in_method tree (program q) main_tree main_of_main) z (main_does q)) main_is b

pub record BodyIs (q : Picks) : Type 0 where
  pub args : q.args ≡ right.args
  pub printed : q.printed ≡ q.second
  pub local_region : q.local_region ≡ right.local_region
  pub slot : q.slot ≡ right.slot
  pub index : q.index ≡ right.index
  pub actual : q.actual ≡ right.actual

pub body_is : (q : Picks) → AllMean (in_method tree (program q) main_tree main_of_main) main_plain (main_does q) → BodyIs q
body_is q h =
    let b = past_declaration (past_regions h) in
    let c = past_block b.2 in
    let d = past_block c.1 in
    let e = past_declaration d.1 in
    let f = past_cobegin e.2 in
    let g = past_foreach f.1 in
    let r = past_atomic g.1 in
    record {
      args = new_is refl refl refl refl refl b.1;
      printed = print_is d.0;
      local_region = array_is refl refl e.1;
      slot = second_is refl refl refl f.0;
      index = index_is g.0;
      actual = sym (some_is 1 q.actual (actual_is r));
    }
