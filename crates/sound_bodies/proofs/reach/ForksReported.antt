-- A method in whose body an nd construct is reached is one of which the class table tells so.
use Rattle.std.proofs.Common.{◌≡◌, ◌∙◌, ◌≤◌, ◌<◌, ◌+◌, ℕ, suc, Bool, true, false, ◌&&◌, cond, List, [], ◌∷◌, ◌++◌, map, length, flat_map, fold, inl, inr, Option, Some, None, refl, sym, ap, subst, sum_by, arith}
use Rattle.std.proofs.lemmas.Bool.{false≢true, lt-ltb}
use Rattle.std.proofs.lemmas.List.Sums.{sum_by-cons}
use Rattle.std.proofs.lemmas.Option.{slice_get_within}
use Rattle.std.specs.Prelude.{nat_lt}
use Rattle.lang_base.specs.declared.ty.Ty.{Ty}
use Rattle.lang_base.specs.Types.{plain_type}
use Rattle.decl_headers.specs.Numbers.{as_number}
use Rattle.syntax_tree.specs.declared.class.Class.{Class}
use Rattle.syntax_tree.specs.declared.class.Formal.{Formal}
use Rattle.syntax_tree.specs.declared.class.Member.{Member}
use Rattle.syntax_tree.specs.declared.class.Member.TheVariants as member
use Rattle.syntax_tree.specs.declared.class.Method.{Method}
use Rattle.syntax_tree.specs.Nd.{some_holds_nd}
use Rattle.syntax_tree.specs.Plain.{plain_stmt, plain_stmts}
use Rattle.syntax_tree.specs.Size.{type_size, method_size, member_size, class_size}
use Rattle.decl_resolve.specs.Names.{Names}
use Rattle.decl_resolve.specs.Scoped.{no_names, with_name}
use Rattle.decl_resolve.specs.Scopes.{PlainScope}
use Rattle.decl_table.specs.declared.rows.MethodRow.{MethodRow}
use Rattle.decl_reach.specs.declared.shape.Shape.{Shape}
use Rattle.decl_table.specs.declared.table.Table.{Table}
use Rattle.decl_classes.specs.Around.{class_scope}
use Rattle.decl_reach.specs.Bodies.{class_marks, override_edges}
use Rattle.decl_reach.specs.Calls.{body_calls, formal_shapes}
use Rattle.decl_reach.specs.Edges.{call_edges, without_forks}
use Rattle.decl_reach.proofs.Reaching.{IsAfter}
use Rattle.decl_classes.specs.Rows.{said_scope}
use Rattle.decl_reach.specs.Shapes.{tree_shape}
use Rattle.decl_classes.specs.Signatures.{known_type}
use Rattle.decl_table.specs.Table.{headers_of, methods_of, numbered}
use Rattle.decl_laws.proofs.Granted.{granted}
use Rattle.body_exprs.specs.declared.env.Env.{Env}
use Rattle.body_exprs.specs.Env.{table_of, at_class, at_members, with_row, with_local, has_room}
use Rattle.body_check.specs.Deciding.{has_value}
use Rattle.body_check.specs.Around.{method_around}
use Rattle.body_check.specs.Methods.{formals_declared, formal_types, body_begun}
use Rattle.sound_lemmas.proofs.StatementSteps.{in_block_of}
use Rattle.sound_lemmas.proofs.Lists.{some_same}
use Rattle.sound_bodies.specs.Whole.{StandsIn, StandsAmong, ForksAreReported}
use Rattle.sound_bodies.proofs.reach.ForkEdges.{mark_there, leads_first, edge_there}
use Rattle.sound_bodies.proofs.reach.Reached.{Why}
use Rattle.sound_bodies.proofs.reach.ReachedStatements.{block_reaches}
use Rattle.sound_bodies.proofs.table.RowShapes.{rows_shallow, HasRow, row_there}
use Rattle.sound_bodies.proofs.reach.ShapedLocals.{Shaped, local_added}
use Rattle.sound_bodies.proofs.reach.TypeShapes.{IsShape, known_shaped}

-- there are few formals

formals_few : (formals : List Formal) → length formals + length formals ≤ sum_by (λ (formal : Formal). suc (type_size formal.ty)) formals
formals_few [] = omega arith
formals_few (formal ∷ formals) = omega (arith, formals_few formals, sum_by-cons (λ (one : Formal). suc (type_size one.ty)) formal formals)

method_few : (method : Method) → length method.formals + length method.formals ≤ method_size method
method_few method = let few = formals_few method.formals in omega (arith, few)

member_few : {method : Method} {number : ℕ} {members : List Member} {count : ℕ} → StandsIn method number members count → method_size method ≤ sum_by member_size members
member_few {method} (StandsIn.here {members = members}) = omega (arith, sum_by-cons member_size (member.Method method) members)
member_few (StandsIn.later {m = m} {members = members} d) = let few = member_few d in omega (arith, few, sum_by-cons member_size m members)

class_few : {method : Method} {number class : ℕ} {classes : List Class} {at count : ℕ} → StandsAmong method number class classes at count → method_size method ≤ sum_by class_size classes
class_few (StandsAmong.in_class {k = one} {classes = classes} d) = let few = member_few d in omega (arith, few, sum_by-cons class_size one classes)
class_few (StandsAmong.in_later {k = one} {classes = classes} d) = let few = class_few d in omega (arith, few, sum_by-cons class_size one classes)

-- the formals are in scope with their shapes

room : (env : Env) → env.slots + 4 < 4294967295 → env.declared < 4294967295 → has_room env ≡ true
room env slots declared = ap (λ b. b && nat_lt env.declared 4294967295) (lt-ltb (env.slots + 4) 4294967295 slots) ∙ lt-ltb env.declared 4294967295 declared

formals_shaped : (table : Table) (class : ℕ) (scope : PlainScope) → scope.headers ≡ headers_of table → (env : Env) (locals : Names Shape) (formals : List Formal) (types : List Ty) →
    map plain_type types ≡ map (λ (formal : Formal). known_type scope formal.ty) formals → env.slots + length formals + 4 < 4294967295 → env.declared < 4294967295 → Shaped table class locals env →
    Shaped table class (fold (λ (names : Names Shape) (formal : Formal). with_name names formal.name (tree_shape (headers_of table) formal.ty)) locals formals) (formals_declared env formals types)
formals_shaped table class scope same env locals [] types is slots declared at = at
formals_shaped table class scope same env locals (formal ∷ formals) [] is slots declared at = cc
formals_shaped table class scope same env locals (formal ∷ formals) (t ∷ types) is slots declared at =
    let first : plain_type t ≡ known_type scope formal.ty = cc in
    let others : map plain_type types ≡ map (λ (one : Formal). known_type scope one.ty) formals = cc in
    let shown = subst (λ z. IsShape (tree_shape z formal.ty) (plain_type t)) same (subst (IsShape (tree_shape scope.headers formal.ty)) (sym first) (known_shaped scope formal.ty).0) in
    let there = room env (omega (arith, slots)) declared in
    subst (λ b. Shaped table class (fold (λ (names : Names Shape) (one : Formal). with_name names one.name (tree_shape (headers_of table) one.ty)) (with_name locals formal.name (tree_shape (headers_of table) formal.ty)) formals)
    (formals_declared (cond b (with_local env formal.name t false) env) formals types)) (sym there)
    (formals_shaped table class scope same (with_local env formal.name t false) (with_name locals formal.name (tree_shape (headers_of table) formal.ty)) formals types others (omega (arith, slots)) declared
    (subst (λ b. Shaped table class (with_name locals formal.name (tree_shape (headers_of table) formal.ty)) (cond b (with_local env formal.name t false) env)) there
    (local_added formal.name t false (tree_shape (headers_of table) formal.ty) there shown at)))

begun_shaped : (table : Table) (start : Env) (class number : ℕ) (method : Method) → table_of start ≡ table → HasRow table number class method → length method.formals + 5 < 4294967295 →
    Shaped table class (formal_shapes (headers_of table) method.formals) (body_begun (at_class start class) number method).env
begun_shaped table start class number method same has few = by (numbered (table_of start) number) (ap (λ (t : Table). numbered t number) same ∙ has.there)
  where
    scope : PlainScope
    scope = said_scope (class_scope (headers_of table) table.given (as_number class)) method

    by : (o : Option MethodRow) → o ≡ Some has.row →
        Shaped table class (formal_shapes (headers_of table) method.formals) (formals_declared (with_row (record (at_members (at_class start class)) { method = number }) o) method.formals (formal_types o))
    by None is = cc
    by (Some row) is =
        formals_shaped table class scope refl (with_row (record (at_members (at_class start class)) { method = number }) (Some row)) no_names method.formals row.params
        (ap (λ (r : MethodRow). map plain_type r.params) (some_same is) ∙ has.formals) (omega (arith, few)) (omega arith)
        (record { table_is = same; class_is = refl; names = refl; rows = tt; paired = refl })

pub forks_reported : ForksAreReported
forks_reported program table bodies written accepted start fresh method number class stands params made u d reached =
    ((granted accepted.rows).reached.each number).1
    (by ((block_reaches table class (rows_shallow program.classes table (granted accepted.rows).read written.small) (formal_shapes (headers_of table) method.formals) (begun_shaped table start class number method fresh.table_is has few) (in_block_of {params = params} {around = method_around (has_value method.result)} {all = plain_stmts (map plain_stmt method.body)} {w = body_begun (at_class start class) number method} d)).adds reached))
  where
    marks : List Bool
    marks = flat_map class_marks program.classes

    calls : Table
    calls = without_forks table

    has : HasRow table number class method
    has = row_there program.classes table method number class (granted accepted.rows).read stands

    few : length method.formals + 5 < 4294967295
    few = let all = method_few method in let one = class_few stands in let small = written.small in omega (arith, all, one, small)

    within : number ≤ 4294967295
    within = let l = slice_get_within (methods_of table) number has.row has.there in let most = accepted.rows.few in omega (arith, l, most)

    by : Why table false (some_holds_nd (plain_stmts (map plain_stmt method.body))) (body_calls calls class method) → IsAfter marks (call_edges calls 0 0 program.classes ++ override_edges table (methods_of table)) number
    by (inl h) = absurd (false≢true h)
    by (inr (inl h)) = IsAfter.itself number ((mark_there stands).1 ∙ h)
    by (inr (inr h)) =
        let e = edge_there table calls within accepted.rows.counted.0 stands h in
        IsAfter.before number e.0 (mark_there stands).0 (leads_first (call_edges calls 0 0 program.classes) (override_edges table (methods_of table)) number e.0 e.2) (((granted accepted.rows).reached.each e.0).0 e.1)
