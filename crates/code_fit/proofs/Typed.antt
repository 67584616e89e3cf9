-- The bodies of a well-typed program keep to their slots and local regions, and its rows are members.
use Rattle.std.proofs.Common.{◌≡◌, ◌⊎◌, inl, inr, ◌<◌, ℕ, zero, suc, ◌+◌, ◌==◌, Bool, true, false, IsTrue, cond, List, [], ◌∷◌, All, map, length, slice_index_or, refl, ap, subst, arith, Option, Some, None, slice_get, option_map, option_and_then, sym, ◌∙◌}
use Rattle.std.proofs.lemmas.Bool.{eqb-true}
use Rattle.std.proofs.lemmas.List.{length-map}
use Rattle.std.proofs.lemmas.List.Elements.{length_all_zip}
use Rattle.std.proofs.lemmas.Option.{slice_get_within}
use Rattle.std.specs.List.{list_any}
use Rattle.lang_base.specs.declared.elems.Elem.{Elem}
use Rattle.lang_base.specs.declared.elems.Elem.TheVariants.{Name, At, Any, Star, Local as LocalRegion}
use Rattle.lang_base.specs.declared.elems.Index.TheVariants.{Literal, Variable, Renamed, Own as OwnIndex}
use Rattle.lang_base.specs.Regions.{fully_specified}
use Rattle.lang_base.specs.Types.{type_with, PlainType, int, array}
use Rattle.lang_base.specs.declared.region.Rpl.{Rpl}
use Rattle.lang_typed.specs.Plain.{PlainProgram, PlainClass, PlainParent, PlainMember, TypedExpr, TypedExprs, Source, TypedStmt, statement, TypedStmts, no_stmts, more_stmts, TypedBranches, no_branches, more_branches}
use Rattle.lang_typed.specs.Plain.{StmtForm as stmt}
use Rattle.lang_typed.proofs.Parts.{each_stmt, each_branch, substatements, Each}
use Rattle.lang_typed.specs.Scope.{Scope, Local, variable, frozen, constant, part, reserved, with_local, in_loop_branch, read_alone, seen_in_branch, class_at, row_at, member_at, parent_of, constructor_of}
use Rattle.lang_typed.specs.Effects.{Own}
use Rattle.lang_typed.specs.Typing.{Holds, Has, Fit}
use Rattle.lang_typed.specs.Typing.{Has as has}
use Rattle.lang_typed.specs.Typing.{Fit as fit}
use Rattle.lang_typed.specs.Statements.{declared_as, with_part, IsFree, Cuts, cuts_array, cuts_part, Passes, AllPass, BranchesPass}
use Rattle.lang_typed.specs.Statements.{Passes as passes}
use Rattle.lang_typed.specs.Statements.{AllPass as all}
use Rattle.lang_typed.specs.Statements.{BranchesPass as branches}
use Rattle.lang_typed.specs.Table.{KeepsRow, RowIsThere, class_scope, first_locals}
use Rattle.lang_typed.specs.Types.{GoodElem, GoodPath, LocalPath, IsFlat, GoodType}
use Rattle.lang_typed.specs.WellTyped.{WellTyped}
use Rattle.code_scheme.specs.Scheme.{many}
use Rattle.code_fit.proofs.Lists.{some_is, index_is}
use Rattle.code_fit.specs.Room.{IndexWithin, IsFull, AllFull, RowTakes, ExprWithin, ExprsWithin, SourceWithin, StmtWithin, StmtsWithin, BranchesWithin, Roomy}

-- the parts of a statement within bounds are within them, whether or not a `return` may stand there
module _ (P : PlainProgram) (n r : ℕ) where
  abbrev pub Within : TypedStmt → Type 0
  Within s = (may : Bool) × StmtWithin P n r may s

  pub each_within : (may : Bool) (ss : TypedStmts) → StmtsWithin P n r may ss → Each Within (each_stmt ss)
  each_within may no_stmts w = tt
  each_within may (more_stmts s ss) w = ((may, w.0), each_within may ss w.1)

  branch_within : (bs : TypedBranches) → BranchesWithin P n r bs → Each Within (each_branch bs)
  branch_within no_branches w = tt
  branch_within (more_branches copies s bs) w = ((false, w.1), branch_within bs w.2)

  pub parts_within : (s : TypedStmt) → Within s → Each Within (substatements s)
  parts_within (statement at (stmt.block ss)) w = each_within w.0 ss w.1
  parts_within (statement at (stmt.choice e s)) w = ((w.0, w.1.1), tt)
  parts_within (statement at (stmt.choice_else e s t)) w = ((w.0, w.1.1), ((w.0, w.1.2), tt))
  parts_within (statement at (stmt.while_loop e s)) w = ((w.0, w.1.1), tt)
  parts_within (statement at (stmt.atomic effects ss)) w = each_within false ss w.1
  parts_within (statement at (stmt.cobegin forking bs)) w = branch_within bs w.1
  parts_within (statement at (stmt.foreach forking x start count s)) w = ((false, w.1.3), tt)
  parts_within (statement at (stmt.foreach_parts x source count s)) w = ((false, w.1.3), tt)
  parts_within s w = tt

-- how many slots a local needs beside its own
abbrev beside : Local → ℕ
beside (part t a) = 4
beside l = 0

-- each local in scope has its slots
abbrev LocalsFit : ℕ → (ℕ → Option Local) → Type 0
LocalsFit n local = (x : ℕ) (l : Local) → local x ≡ Some l → x + beside l < n

record Room (n r : ℕ) (may : Bool) (L : Scope) : Type 0 where
  slots : L.slots ≡ n
  returns : (t : PlainType) → L.result ≡ Some t → may ≡ true
  local_regions : L.local_regions ≡ r
  locals : LocalsFit n L.local

declare_fits : {n : ℕ} (x : ℕ) (l : Local) (local : ℕ → Option Local) → x + beside l < n → LocalsFit n local →
    LocalsFit n (λ y. cond (y == x) (Some l) (local y))
declare_fits {n} x l local k h y m e = go (y == x) refl e
  where
    go : (t : Bool) → (y == x) ≡ t → cond t (Some l) (local y) ≡ Some m → y + beside m < n
    go true q f = let a = eqb-true y x q in let b = ap beside (some_is f) in omega arith
    go false q f = h y m f

read_fits : {n : ℕ} (local : ℕ → Option Local) → LocalsFit n local → LocalsFit n (λ y. option_map read_alone (local y))
read_fits {n} local h y m e = go (local y) refl e
  where
    same : (l : Local) → beside (read_alone l) ≡ beside l
    same (variable t) = refl
    same (frozen t) = refl
    same (constant t) = refl
    same (part t a) = refl
    same reserved = refl

    go : (o : Option Local) → local y ≡ o → option_map read_alone o ≡ Some m → y + beside m < n
    go None q f = absurd (cc)
    go (Some l) q f = let a = h y l q in let b = same l in let c = ap beside (some_is f) in omega arith

branch_fits : {n : ℕ} (own others : List ℕ) (local : ℕ → Option Local) → LocalsFit n local → LocalsFit n (λ y. seen_in_branch own others y (local y))
branch_fits {n} own others local h y m e = go (list_any (λ z. y == z) others) e
  where
    hidden : (o : Option Local) → local y ≡ o → option_map (λ k. reserved) o ≡ Some m → y + beside m < n
    hidden None q f = absurd (cc)
    hidden (Some l) q f = let a = h y l q in let c = ap beside (some_is f) in omega arith

    seen : (t : Bool) → cond t (local y) (option_map read_alone (local y)) ≡ Some m → y + beside m < n
    seen true f = h y m f
    seen false f = read_fits local h y m f

    go : (t : Bool) → cond t (option_map (λ k. reserved) (local y)) (cond (list_any (λ z. y == z) own) (local y) (option_map read_alone (local y))) ≡ Some m →
        y + beside m < n
    go true f = hidden (local y) refl f
    go false f = seen (list_any (λ z. y == z) own) f

first_fit : (k : PlainClass) (m : PlainMember) → length m.formals < m.slots → LocalsFit m.slots (first_locals k m)
first_fit k m room zero l e = let b = ap beside (some_is e) in omega arith
first_fit k m room (suc x) l e = go (slice_get m.formals x) refl e
  where
    go : (o : Option PlainType) → slice_get m.formals x ≡ o → option_map variable o ≡ Some l → suc x + beside l < m.slots
    go None q f = absurd (cc)
    go (Some t) q f = let b = ap beside (some_is f) in let c = slice_get_within m.formals x t q in omega arith

all_free : {n : ℕ} (k : ℕ) (L : Scope) → L.slots ≡ n → All (λ i. IsFree L (k + i)) (0 ∷ 1 ∷ 2 ∷ 3 ∷ 4 ∷ []) → k + 4 < n
all_free {n} k L e free = let a = (free 4 0 (omega arith)).1 in omega arith

-- a good path names variables by slots of the locals in scope
module _ (P : PlainProgram) (L : Scope) {n : ℕ} (fit : LocalsFit n L.local) where
  index_within : (own : ℕ) (k : Elem) → GoodElem P L own k → IndexWithin n own k
  index_within own (Name m) g = tt
  index_within own (At (Literal m)) g = tt
  index_within own (At (Variable x)) g = let l = fit x _ g in omega arith
  index_within own (At (Renamed x)) g = g
  index_within own (At (OwnIndex d)) g = g
  index_within own Any g = tt
  index_within own Star g = tt
  index_within own (LocalRegion x m) g = tt

  pub args_full : (args : List Rpl) → All (GoodPath P L 0) args → All (λ a. IsTrue (fully_specified a)) args → AllFull n args
  args_full args paths full k d l = (full k d l, λ q e m. index_within 0 _ ((paths k d l).elems q e m))

  in_local : (r : ℕ) (rest : List Elem) → All (GoodElem P L 1) rest → All (IndexWithin n 1) (LocalRegion r 0 ∷ rest)
  in_local r rest g zero d l = tt
  in_local r rest g (suc k) d l = index_within 1 _ (g k d (omega arith))

  array_full : {t : PlainType} {a : Rpl} {named : Bool} → GoodType P L 0 (array t a named) → IsTrue (fully_specified a) → IsFull n 1 a
  array_full {t} {a} g full = (full, go g.0)
    where
      go : GoodPath P L 1 a ⊎ (LocalPath P L 1 a × IsFlat t × ◌≡◌ {A = ℕ} 0 0) → All (IndexWithin n 1) a.elems
      go (inl p) = λ k d l. index_within 1 _ (p.elems k d l)
      go (inr p) = subst (λ z. All (IndexWithin n 1) z.elems) (sym p.0.is) (in_local p.0.region p.0.rest p.0.elems)

module _ (P : PlainProgram) (n r : ℕ) where
  readable : {L : Scope} {may : Bool} → Room n r may L → (x : ℕ) (t : PlainType) → Holds (L.local x) t → x < n
  readable room x t (inl h) = let a = room.locals x _ h in omega arith
  readable room x t (inr (inl h)) = let a = room.locals x _ h in omega arith
  readable room x t (inr (inr h)) = let a = room.locals x _ h in omega arith

  fit_many : {L : Scope} {es : TypedExprs} {ts : List PlainType} {F : List Own} → Fit P L es ts F → many es ≡ length ts
  fit_many fit.none = refl
  fit_many (fit.one_more h s f) = ap suc (fit_many f)

  constructor_is : (c : ℕ) (k : PlainClass) → class_at P c ≡ Some k → constructor_of P c ≡ k.constructor
  constructor_is c k e = ap (λ o. option_and_then (λ k. k.constructor) o) e

  none_made : (c : ℕ) (k : PlainClass) → class_at P c ≡ Some k → k.constructor ≡ None → (q : ℕ) → constructor_of P c ≡ Some q → ⊥
  none_made c k e z q h = let i = constructor_is c k e in cc

  made : {L : Scope} {n : ℕ} {es : TypedExprs} {m : PlainMember} {F : List Own} (c : ℕ) (args : List Rpl) (k : PlainClass) → class_at P c ≡ Some k →
      k.constructor ≡ Some n → member_at P n ≡ Some m → Fit P L es (map (type_with args) m.formals) F → (q : ℕ) → constructor_of P c ≡ Some q →
      (x : PlainMember) × (member_at P q ≡ Some x) × (length x.formals ≡ many es)
  made {m = m} c args k e z there f q h =
      let same = some_is (sym h ∙ (constructor_is c k e ∙ z)) in (m, ap (λ i. member_at P i) same ∙ there, sym (length-map _ _) ∙ sym (fit_many f))

  mutual
    expr_within : {L : Scope} {may : Bool} {e : TypedExpr} {E : List Own} → Room n r may L → Has P L e E → ExprWithin P n e
    expr_within u (has.literal_int s) = tt
    expr_within u has.literal_boolean = tt
    expr_within u has.literal_null = tt
    expr_within u (has.read_local {x = x} {t = t} h) = readable u x t h
    expr_within u (has.read_field h q f k t) = expr_within u h
    expr_within u (has.read_element h q i s k t) = (expr_within u h, expr_within u i)
    expr_within u (has.length_of_array h q) = expr_within u h
    expr_within {L} u (has.call_method h q row member above good full known readable actuals nd_free t) = (
      expr_within u h,
      exprs_within u actuals,
      args_full P L u.locals _ good.paths full,
      record { number = _; member = _; row = row; is_there = member; many = sym (length-map _ _) ∙ sym (fit_many actuals) },
    )
    expr_within {L} u (has.create_object {c = c} {k = class} k g a z) = (tt, (class, k, args_full P L u.locals _ g.paths a), λ n e. absurd (none_made c class k z n e))
    expr_within {L} u (has.construct_object {c = c} {args = args} {k = class} k g a z m f nd_free) =
        (exprs_within u f, (class, k, args_full P L u.locals _ g.paths a), λ q e. made c args class k z m f q e)
    expr_within {L} u (has.make_array g a h q) = (expr_within u h, array_full P L u.locals g a)
    expr_within u (has.negative h q) = expr_within u h
    expr_within u (has.negation h q) = expr_within u h
    expr_within u (has.operation h i o t) = (expr_within u h, expr_within u i)
    expr_within u (has.conjunction h q i k) = (expr_within u h, expr_within u i)
    expr_within u (has.disjunction h q i k) = (expr_within u h, expr_within u i)
    expr_within u (has.length_of_part {k = k} l) = u.locals k _ l
    expr_within u (has.read_part {k = k} l i q) = (u.locals k _ l, expr_within u i)

    exprs_within : {L : Scope} {may : Bool} {es : TypedExprs} {ts : List PlainType} {F : List Own} → Room n r may L → Fit P L es ts F → ExprsWithin P n es
    exprs_within u fit.none = tt
    exprs_within u (fit.one_more h s f) = (expr_within u h, exprs_within u f)

  source_within : {L : Scope} {may : Bool} {s : Source} {t : PlainType} {a : Rpl} {E : List Own} → Room n r may L → Cuts P L s t a E → SourceWithin P n s
  source_within u (cuts_array h q w) = expr_within u h
  source_within u (cuts_part {k = k} l) = u.locals k _ l

  declared_room : (is_final : Bool) (t : PlainType) → beside (declared_as is_final t) ≡ 0
  declared_room true t = refl
  declared_room false t = refl

  in_loop : {L : Scope} {may : Bool} → Room n r may L → Room n r false (in_loop_branch L)
  in_loop {L} u = record { slots = u.slots; returns = λ t e. absurd (cc); local_regions = u.local_regions; locals = read_fits L.local u.locals }

  with_one : {L : Scope} {may : Bool} (x : ℕ) (l : Local) → x + beside l < n → Room n r may L → Room n r may (with_local x l L)
  with_one {L} x l k u = record { slots = u.slots; returns = u.returns; local_regions = u.local_regions; locals = declare_fits x l L.local k u.locals }

  part_room : {L : Scope} {may : Bool} (k : ℕ) (t : PlainType) (a : Rpl) → k + 4 < n → Room n r may L → Room n r may (with_part k t a L)
  part_room k t a l u =
      with_one (k + 4) (constant int) (omega arith) (with_one (k + 3) reserved (omega arith) (with_one (k + 2) reserved (omega arith)
      (with_one (k + 1) reserved (omega arith) (with_one k (part t a) l u))))

  mutual
    passes_within : {L : Scope} {may : Bool} {s : TypedStmt} {E : List Own} → Room n r may L → Passes P L s E → StmtWithin P n r may s
    passes_within u (passes.store {x = x} l h t) = (let a = u.locals x _ l in omega arith, expr_within u h)
    passes_within u (passes.store_field h q f k i t) = (expr_within u h, expr_within u i)
    passes_within u (passes.store_element h q i s m j t) = (expr_within u h, expr_within u i, expr_within u j)
    passes_within u (passes.store_part {k = k} l i q j t) = (u.locals k _ l, expr_within u i, expr_within u j)
    passes_within u (passes.perform p h) = expr_within u h
    passes_within u (passes.nested a) = all_within u a
    passes_within u (passes.choice h q a) = (expr_within u h, (all_within u a).0)
    passes_within u (passes.choice_else h q a b) = (expr_within u h, (all_within u a).0, (all_within u b).0)
    passes_within u (passes.while_loop h q a) = (expr_within u h, (all_within u a).0)
    passes_within u (passes.return_nothing q) = u.returns _ q
    passes_within u (passes.return_value q h s) = (u.returns _ q, expr_within u h)
    passes_within u (passes.print_int h q) = expr_within u h
    passes_within u (passes.print_boolean h q) = expr_within u h
    passes_within u passes.print_text = tt
    passes_within u (passes.atomic a s) = all_within (record { slots = u.slots; returns = λ t e. absurd (cc); local_regions = u.local_regions; locals = u.locals }) a
    passes_within u (passes.cobegin c b d) = branches_within u b
    passes_within {L} u (passes.foreach {x = x} c h q i s f a d) =
        let l : x < n = let e = u.slots in let g = f.1 in omega arith in
        (l, expr_within u h, expr_within u i, (all_within (with_one x (constant int) (omega arith) (in_loop u)) a).0)
    passes_within {L} u (passes.foreach_parts {k = k} {t = t} {a = rpl} c i s f a d g) =
        let l = all_free k L u.slots f in (l, source_within u c, expr_within u i, (all_within (part_room k t rpl l (in_loop u)) a).0)

    all_within : {L : Scope} {may : Bool} {ss : TypedStmts} {E : List Own} → Room n r may L → AllPass P L ss E → StmtsWithin P n r may ss
    all_within u all.no_more = tt
    all_within u (all.then' p c a) = (passes_within u p, all_within u a)
    all_within u (all.declare {x = x} {t = t} {is_final = is_final} f g h s a) =
        let e = u.slots in let l = f.1 in let d = declared_room is_final t in
        ((omega arith, expr_within u h), all_within (with_one x (declared_as is_final t) (omega arith) u) a)
    all_within u (all.declare_regions f a) = (
      λ k d l. (let e = u.local_regions in let v = (f k d l).1 in omega arith),
      all_within (record { slots = u.slots; returns = u.returns; local_regions = u.local_regions; locals = u.locals }) a,
    )

    branches_within : {L : Scope} {may : Bool} {others : List ℕ} {bs : TypedBranches} {Es : List (List Own)} → Room n r may L → BranchesPass P L others bs Es →
        BranchesWithin P n r bs
    branches_within u branches.no_branch = tt
    branches_within {L} u (branches.one_branch {copies = copies} c d a b) = (
      λ k e l. (let v = c k e l in let w = u.locals (slice_index_or copies k e) _ v.1 in omega arith),
      (all_within (record { slots = u.slots; local_regions = u.local_regions; returns = λ t e. absurd (cc); locals = branch_fits _ _ L.local u.locals }) a).0,
      branches_within u b,
    )

-- what a class has that is found through its number
pub through : {A : Type 0} (k : Option PlainClass) (f : PlainClass → Option A) (x : A) → option_and_then f k ≡ Some x →
    (c : PlainClass) × (k ≡ Some c) × (f c ≡ Some x)
through None f x e = absurd (cc)
through (Some c) f x e = (c, refl, e)

-- a row is a member of the class or one above it
pub row_there : (P : PlainProgram) → WellTyped P → (c r n : ℕ) → row_at P c r ≡ Some n → RowIsThere P c n
row_there P W c r n e =
    let k = through (class_at P c) (λ k. slice_get k.rows r) n e in
    subst (λ z. RowIsThere P c z) (index_is k.0.rows r 0 n k.2) ((W.classes c k.0 k.1).rows r 0 (slice_get_within k.0.rows r n k.2))

-- a class below keeps how many arguments a row takes
kept_takes : (P : PlainProgram) (c r q m n : ℕ) (k : PlainClass) (member : PlainMember) → class_at P c ≡ Some k → slice_get k.rows r ≡ Some m →
    member_at P q ≡ Some member → length member.formals ≡ n → KeepsRow P c k q m → RowTakes P c r n
kept_takes P c r q m n k member e row there many (inl same) = record {
  number = m;
  member = member;
  row = ap (λ z. option_and_then (λ x. slice_get x.rows r) z) e ∙ row;
  is_there = ap (λ z. member_at P z) same ∙ there;
  many = many;
}
kept_takes P c r q m n k member e row there many (inr own) =
    let o = own.4 in
    let same : own.1 ≡ member = some_is (sym own.3 ∙ there) in
    record {
      number = m;
      member = own.0;
      row = ap (λ z. option_and_then (λ x. slice_get x.rows r) z) e ∙ row;
      is_there = own.2;
      many = length_all_zip _ _ _ o.formals ∙ (length-map _ _ ∙ (ap (λ z. length z.formals) same ∙ many));
    }

below_takes : (P : PlainProgram) → WellTyped P → (c r n : ℕ) (p : PlainParent) → parent_of P c ≡ Some p → RowTakes P p.class r n → RowTakes P c r n
below_takes P W c r n p e g =
    let k = through (class_at P c) (λ k. k.parent) p e in
    let x = (W.classes c k.0 k.1).parent p k.2 in
    let a = through (class_at P p.class) (λ k. slice_get k.rows r) g.number g.row in
    let same : a.0 ≡ x.above = some_is (sym a.1 ∙ x.is) in
    let row = x.rows r g.number (ap (λ z. slice_get z.rows r) (sym same) ∙ a.2) in
    kept_takes P c r g.number row.0 n k.0 g.member k.1 row.1 g.is_there g.many row.2

-- the regions that a superclass is extended by name no variable
pub parent_full : (P : PlainProgram) (k : PlainClass) (args : List Rpl) → All (GoodPath P (class_scope k) 0) args →
    All (λ a. IsTrue (fully_specified a)) args → AllFull 0 args
parent_full P k args paths full = args_full P (class_scope k) (λ x l e. absurd (cc)) args paths full

pub typed_is_roomy : (P : PlainProgram) → WellTyped P → Roomy P
typed_is_roomy P W = record {
  bodies = λ n m e. (let g = W.members n m e in
      all_within P m.slots m.local_regions
      (record { slots = refl; returns = λ t q. refl; local_regions = refl; locals = first_fit g.class m g.room }) g.passes);
  rows = λ c r n e. (let x = row_there P W c r n e in (x.0, x.1));
  takes = λ c r n p e g. below_takes P W c r n p e g;
  room = λ n m e. (W.members n m e).room;
}
