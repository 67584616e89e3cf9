-- The bodies of methods, member by member and class by class: what is said of each way through the code.
use Rattle.std.proofs.Common.{◌≡◌, ◌∙◌, ℕ, List, [], ◌∷◌, ◌++◌, ◌+◌, ◌⊎◌, inl, inr, ◌<◌, get_or, drop, append_assoc, append-nil, Bool, Option, Some, None, option_map, Result, Ok, Err, map, take, length, refl, sym, ap, subst}
use Rattle.std.specs.Option.{option_map_or}
use Rattle.std.specs.Result.{IsErrAnd}
use Rattle.std.proofs.lemmas.List.{drop_more}
use Rattle.std.proofs.Common.{add-one}
use Rattle.std.proofs.Math.Seq.{take-length}
use Rattle.lang_base.specs.declared.effect.Effect.{Effect}
use Rattle.lang_base.specs.declared.place.Place.{Place}
use Rattle.lang_base.specs.declared.refusal.Kind.{Kind}
use Rattle.lang_base.specs.Effects.{set_covers}
use Rattle.lang_base.specs.declared.refusal.Refusal.{Refusal}
use Rattle.lang_base.specs.declared.refusal.Stop.{Stop}
use Rattle.lang_base.specs.declared.ty.Ty.{Ty}
use Rattle.lang_base.specs.Refused.{IfRefused}
use Rattle.decl_headers.specs.Numbers.{as_number}
use Rattle.decl_headers.specs.Faults.{settled}
use Rattle.decl_headers.specs.Passes.{fault}
use Rattle.syntax_tree.specs.declared.class.Class.{Class}
use Rattle.syntax_tree.specs.declared.class.Field.{Field}
use Rattle.syntax_tree.specs.declared.class.Formal.{Formal}
use Rattle.syntax_tree.specs.declared.region.Named.{Named}
use Rattle.syntax_tree.specs.declared.class.Member.{Member}
use Rattle.syntax_tree.specs.declared.class.Member.TheVariants as member
use Rattle.syntax_tree.specs.declared.class.Method.{Method}
use Rattle.syntax_tree.specs.Plain.{PlainStmts, plain_stmt, plain_stmts}
use Rattle.decl_table.specs.declared.rows.MethodRow.{MethodRow}
use Rattle.decl_table.specs.declared.table.Table.{Table}
use Rattle.decl_table.specs.Table.{given_of, numbered}
use Rattle.lang_typed.specs.Plain.{TypedStmt, stmts_of}
use Rattle.body_assembly.specs.declared.body.MemberBody.{MemberBody}
use Rattle.body_assembly.specs.Assembled.{PlainBody, plain_body}
use Rattle.body_exprs.specs.declared.env.Env.{Env}
use Rattle.body_exprs.specs.Answer.{Says}
use Rattle.body_exprs.specs.declared.found.Found.{Found}
use Rattle.body_exprs.specs.Env.{bare, table_of, atomic_of, at_class, at_members, at_method, declared_in, slots_in, with_row, has_room, class_params}
use Rattle.body_check.specs.declared.node.Around.{Around}
use Rattle.body_check.specs.Checking.{check_block}
use Rattle.body_check.specs.Completes.{all_complete}
use Rattle.body_check.specs.Deciding.{has_value, method_fault, reported_at}
use Rattle.body_check.specs.Around.{method_around}
use Rattle.body_check.specs.Methods.{own_params, formals_declared, formal_types, summary_of, body_begun, method_reported, method_judged, after_ok, reported, number_after, bodies_of, PlainBodies, after_bodies, check_method, check_member, check_members, check_classes, atomic_params}
use Rattle.body_check.specs.Walks.{Walk, Verdict, nothing_found, passes, walk_of}
use Rattle.body_check.proofs.Passing.{said_of, settled_stop, walk_from}

-- at the exit of a `?`, for what is made of a body, of several or of a program
pub stopped_at : {T M : Type 0} (P : Refusal → Type 0) (Q : Result M Refusal → Type 0) (r : Result T Stop) (made : T → Result M Refusal) (s : Stop) →
    IsErrAnd r (λ z. z ≡ s) → ((q : Refusal) → P q → Q (Err q)) → IfRefused s P → Says r made Err Q
stopped_at P Q (Ok x) made s is next h = absurd is
stopped_at P Q (Err x) made s is next h = said_of P (λ q. Q (Err q)) x next (subst (λ (z : Stop). IfRefused z P) (sym is) h)

-- the members of a class
abbrev pub members_in : Env → ℕ → List Member → ℕ → Result PlainBodies Refusal
members_in start class = check_members (at_class start class) (class_params (table_of start) class)

-- a class begins alike after any other
pub class_from : (start env : Env) (at number k : ℕ) (ms : List Member) (v : Result PlainBodies Refusal) →
    ((other : ℕ) → at_class env other ≡ at_class start other) → k ≡ as_number at → members_in env k ms number ≡ v →
    members_in start (as_number at) ms number ≡ v
class_from start env at number k ms v same is d =
    subst (λ (e : Env). check_members e (class_params (table_of e) (as_number at)) ms number ≡ v) (same (as_number at))
    (subst (λ (n : ℕ). members_in env n ms number ≡ v) is d)

-- what is around the members of a class, by what is around them after one
abbrev methods_at : Env → ℕ → Env
methods_at around method = with_row (record around { method = method }) (numbered (table_of around) method)

members_begun : (start : Env) (class : ℕ) → at_members (at_class start class) ≡ at_class start class
members_begun start class =
    ap (λ (z : _). record (at_members (at_class start class)) { given = z }) (take-length (given_of (table_of start) class))
    ∙ ap (λ (z : List Bool). record (at_class start class) { atomic_params = z }) (take-length (class_params (table_of start) class))

pub class_entered : (start : Env) (class : ℕ) (b : Env) → b ≡ at_class start class → at_members b ≡ at_class start class
class_entered start class b is = ap at_members is ∙ members_begun start class

method_begun : (start env : Env) (class number : ℕ) → at_members env ≡ at_class start class → at_method env number ≡ at_method (at_class start class) number
method_begun start env class number is = ap (λ (z : Env). methods_at z number) (is ∙ sym (members_begun start class))

pub begun_in : (start : Env) (class number : ℕ) (b e : Env) → at_members b ≡ at_class start class → e ≡ at_method b number →
    e ≡ at_method (at_class start class) number
begun_in start class number b e within is = is ∙ method_begun start b class number within

row_params : (env : Env) (row : Option MethodRow) → atomic_params (with_row env row) ≡ atomic_params env ++ option_map_or (λ r. atomic_of r.regions) row []
row_params env None = sym (append-nil (atomic_params env))
row_params env (Some row) = refl

-- which region parameters are declared atomic in a method
params_at : (start : Env) (class number : ℕ) →
    atomic_params (at_method (at_class start class) number) ≡ class_params (table_of start) class ++ own_params (table_of start) number
params_at start class number =
    ap (λ (z : Env). atomic_params (methods_at z number)) (members_begun start class)
    ∙ row_params (record (at_class start class) { method = number }) (numbered (table_of start) number)

-- a member of the code that is a method
pub member_so : (start : Env) (class number : ℕ) (e : Env) (m : Member) (method : Method) (r : Result PlainBody Refusal) →
    m ≡ member.Method method → e ≡ at_method (at_class start class) number → check_method (at_class start class) (atomic_params e) number method ≡ r →
    check_member (at_class start class) (class_params (table_of start) class) m number ≡ after_ok Some r
member_so start class number e m method r is e_is d =
    let here : check_method (at_class start class) (class_params (table_of start) class ++ own_params (table_of start) number) number method ≡ r =
    subst (λ (ps : List Bool). check_method (at_class start class) ps number method ≡ r)
    (ap atomic_params e_is ∙ params_at start class number) d in
    subst (λ (z : Member). check_member (at_class start class) (class_params (table_of start) class) z number ≡ after_ok Some r) (sym is)
    (ap (after_ok Some) here)

row_table : (env : Env) (row : Option MethodRow) → table_of (with_row env row) ≡ table_of env
row_table env None = refl
row_table env (Some row) = refl

table_at : (around env : Env) (number : ℕ) → env ≡ at_method around number → table_of env ≡ table_of around
table_at around env number is = ap table_of is ∙ row_table (record (at_members around) { method = number }) (numbered (table_of around) number)

row_at : (around env : Env) (number : ℕ) (row : Option MethodRow) → env ≡ at_method around number → row ≡ numbered (table_of env) number →
    row ≡ numbered (table_of around) number
row_at around env number row is row_is = row_is ∙ ap (λ (t : Table). numbered t number) (table_at around env number is)

abbrev pub method_stmts : Method → PlainStmts
method_stmts method = plain_stmts (map plain_stmt method.body)

abbrev pub around_of : Method → Around
around_of method = method_around (has_value method.result)

-- what is in scope as the statements of a method begin
abbrev env_begun : Env → ℕ → Method → Env
env_begun around number method = formals_declared (at_method around number) method.formals (formal_types (numbered (table_of around) number))

-- the formals of a method that was entered are in scope
pub record Begun (around : Env) (number : ℕ) (method : Method) (row : Option MethodRow) (types : List Ty) (b d : Env) : Type 0 where
  pub env_is : b ≡ at_method around number
  pub row_is : row ≡ numbered (table_of b) number
  pub types_are : types ≡ formal_types row
  pub body_is : d ≡ formals_declared b method.formals types
  pub home : bare d ≡ bare b

begun_so : (around : Env) (number : ℕ) (method : Method) (row : Option MethodRow) (types : List Ty) (b d : Env) →
    Begun around number method row types b d → d ≡ env_begun around number method
begun_so around number method row types b d begun =
    let all_types = begun.types_are ∙ ap formal_types (row_at around b number row begun.env_is begun.row_is) in
    begun.body_is ∙ ap (λ (z : List Ty). formals_declared b method.formals z) all_types
    ∙ ap (λ (z : Env). formals_declared z method.formals (formal_types (numbered (table_of around) number))) begun.env_is

pub body_from : (around : Env) (number : ℕ) (method : Method) (row : Option MethodRow) (types : List Ty) (b d : Env) (done : Found)
    (v : Verdict (List TypedStmt)) → Begun around number method row types b d → done ≡ nothing_found →
    check_block (atomic_params d) (around_of method) (method_stmts method) (walk_of d done) ≡ v →
    check_block (atomic_params b) (around_of method) (method_stmts method) (body_begun around number method) ≡ v
body_from around number method row types b d done v begun none h =
    let params : atomic_params d ≡ atomic_params b = ap atomic_params begun.home in
    let walk : walk_of d done ≡ body_begun around number method =
    ap (λ (z : Env). walk_from z done) (begun_so around number method row types b d begun)
    ∙ ap (λ (z : Found). walk_from (env_begun around number method) z) none in
    subst (λ (w : Walk). check_block (atomic_params b) (around_of method) (method_stmts method) w ≡ v) walk
    (subst (λ (z : List Bool). check_block z (around_of method) (method_stmts method) (walk_of d done) ≡ v) params h)

reported_settled : (place : Place) (reason : Option Kind) → reported_at place reason ≡ settled (option_map (λ k. fault k place) reason)
reported_settled place None = refl
reported_settled place (Some k) = refl

-- what is found of the body of a method
pub record BodyMet (around : Env) (number : ℕ) (method : Method) (row : Option MethodRow) (types : List Ty) (summary : List Effect) (b d s : Env)
    (done : Found) (completes covered room : Bool) (ss : List TypedStmt) : Type 0 where
  pub begun : Begun around number method row types b d
  pub summary_is : summary ≡ summary_of row
  pub completes_is : completes ≡ all_complete (method_stmts method)
  pub covered_is : covered ≡ set_covers summary done.effects
  pub room_is : room ≡ has_room d
  pub in_block : check_block (atomic_params b) (around_of method) (method_stmts method) (body_begun around number method) ≡ passes ss (walk_of s done)

reported_so : (around : Env) (number : ℕ) (method : Method) (row : Option MethodRow) (types : List Ty) (summary : List Effect) (b d s : Env)
    (done : Found) (completes covered room : Bool) (ss : List TypedStmt) →
    BodyMet around number method row types summary b d s done completes covered room ss →
    reported_at method.place (method_fault (has_value method.result) completes covered room) ≡ settled (method_reported around number method done.effects)
reported_so around number method row types summary b d s done completes covered room ss m =
    let summary_at = m.summary_is ∙ ap summary_of (row_at around b number row m.begun.env_is m.begun.row_is) in
    let covered_at : covered ≡ set_covers (summary_of (numbered (table_of around) number)) done.effects =
    m.covered_is ∙ ap (λ (z : List Effect). set_covers z done.effects) summary_at in
    let room_at : room ≡ has_room (env_begun around number method) = m.room_is ∙ ap has_room (begun_so around number method row types b d m.begun) in
    ap (λ (z : Bool). reported_at method.place (method_fault (has_value method.result) z covered room)) m.completes_is
    ∙ ap (λ (z : Bool). reported_at method.place (method_fault (has_value method.result) (all_complete (method_stmts method)) z room)) covered_at
    ∙ ap
    (λ (z : Bool).
    reported_at method.place
    (method_fault (has_value method.result) (all_complete (method_stmts method)) (set_covers (summary_of (numbered (table_of around) number)) done.effects) z))
    room_at
    ∙ reported_settled method.place _

abbrev body_with : ℕ → ℕ → List TypedStmt → PlainBody
body_with slots regions ss = record { slots = slots; local_regions = regions; stmts = stmts_of ss }

reported_some : {M : Type 0} (stated : Option Refusal) (made : M) (q : Refusal) → stated ≡ Some q → reported stated made ≡ Err q
reported_some stated made q is = ap (λ (z : Option Refusal). reported z made) is

reported_none : {M : Type 0} (stated : Option Refusal) (made : M) → stated ≡ None → reported stated made ≡ Ok made
reported_none stated made is = ap (λ (z : Option Refusal). reported z made) is

nothing_reported : (stated : Option Refusal) → settled stated ≡ Ok tt → stated ≡ None
nothing_reported None is = refl
nothing_reported (Some q) is = absurd (cc)

pub method_stops : {T : Type 0} (around : Env) (number : ℕ) (method : Method) (row : Option MethodRow) (types : List Ty) (summary : List Effect)
    (b d s : Env) (done : Found) (completes covered room : Bool) (ss : List TypedStmt) (r : Result T Stop) (made : T → Result PlainBody Refusal) (p : Stop) →
    IsErrAnd r (λ z. z ≡ p) → BodyMet around number method row types summary b d s done completes covered room ss →
    Err p ≡ reported_at method.place (method_fault (has_value method.result) completes covered room) →
    Says r made Err (λ v. check_method around (atomic_params b) number method ≡ v)
method_stops around number method row types summary b d s done completes covered room ss r made p is m stated =
    stopped_at (λ q. method_reported around number method done.effects ≡ Some q) (λ v. check_method around (atomic_params b) number method ≡ v) r made p is
    (λ q t. ap (method_judged around number method) m.in_block ∙ reported_some _ _ q t)
    (settled_stop (method_reported around number method done.effects) p
    (sym (stated ∙ reported_so around number method row types summary b d s done completes covered room ss m)))

pub method_passes : (around : Env) (number : ℕ) (method : Method) (row : Option MethodRow) (types : List Ty) (summary : List Effect)
    (b d s : Env) (done : Found) (completes covered room : Bool) (ss : List TypedStmt) (slots regions : ℕ) →
    BodyMet around number method row types summary b d s done completes covered room ss →
    reported_at method.place (method_fault (has_value method.result) completes covered room) ≡ Ok tt →
    slots ≡ slots_in s → regions ≡ declared_in s →
    check_method around (atomic_params b) number method ≡ Ok (record { slots = slots; local_regions = regions; stmts = stmts_of ss })
method_passes around number method row types summary b d s done completes covered room ss slots regions m stated slots_are regions_are =
    ap (method_judged around number method) m.in_block
    ∙ reported_none _ _
    (nothing_reported (method_reported around number method done.effects)
    (sym (reported_so around number method row types summary b d s done completes covered room ss m) ∙ stated))
    ∙ ap (λ (z : ℕ). Ok (body_with z (declared_in s) ss)) (sym slots_are) ∙ ap (λ (z : ℕ). Ok (body_with slots z ss)) (sym regions_are)

-- the members that are left
pub left_is : {X : Type 0} (xs all : List X) (i : ℕ) (x : X) → xs ≡ all → i < length xs → x ≡ get_or xs i x → x ∷ drop (i + 1) all ≡ drop i all
left_is xs all i x same below is =
    ap (λ z. x ∷ drop (i + 1) z) (sym same) ∙ sym (drop_more xs i x below ∙ ap (λ z. z ∷ drop (i + 1) xs) (sym is)) ∙ ap (λ z. drop i z) same

-- the bodies so far, in front of those of the others
abbrev pub after_all : List PlainBody → Result PlainBodies Refusal → Result PlainBodies Refusal
after_all before v = after_ok (after_bodies before) v

abbrev bodies_with : ℕ → List PlainBody → PlainBodies
bodies_with next bodies = record { next = next; bodies = bodies }

after_none : (v : Result PlainBodies Refusal) → after_all [] v ≡ v
after_none (Ok all) = refl
after_none (Err q) = refl

after_more : (before more : List PlainBody) (v : Result PlainBodies Refusal) → after_all before (after_all more v) ≡ after_all (before ++ more) v
after_more before more (Ok all) = ap (λ (z : List PlainBody). Ok (bodies_with all.next z)) (sym (append_assoc before more all.bodies))
after_more before more (Err q) = refl

-- the members so far passed, and the others are looked at from there
pub record MembersSoFar (start : Env) (class first next i : ℕ) (items : List Member) (made : List PlainBody) : Type 0 where
  pub goes_on : members_in start class items first ≡ after_all made (members_in start class (drop i items) next)

pub members_none : (start : Env) (class first : ℕ) (items : List Member) (made : List PlainBody) → made ≡ [] →
    MembersSoFar start class first first 0 items made
members_none start class first items made none = record {
  goes_on = sym (after_none (members_in start class items first)) ∙ ap (λ (z : List PlainBody). after_all z (members_in start class items first)) (sym none);
}

members_from : (start : Env) (class next i : ℕ) (items : List Member) (m : Member) → i < length items → m ≡ get_or items i m →
    members_in start class (drop i items) next ≡ members_in start class (m ∷ drop (i + 1) items) next
members_from start class next i items m below is = ap (λ ms. members_in start class ms next) (sym (left_is items items i m refl below is))

pub members_stop : (start : Env) (class first next i : ℕ) (items : List Member) (m : Member) (made : List PlainBody) (q : Refusal) →
    i < length items → m ≡ get_or items i m → MembersSoFar start class first next i items made →
    check_member (at_class start class) (class_params (table_of start) class) m next ≡ Err q → members_in start class items first ≡ Err q
members_stop start class first next i items m made q below is so_far d =
    let step : members_in start class (m ∷ drop (i + 1) items) next ≡ Err q = rw d in
    so_far.goes_on ∙ ap (after_all made) (members_from start class next i items m below is ∙ step)

pub members_more : (start : Env) (class first next after i : ℕ) (items : List Member) (m : Member) (made more : List PlainBody) (one : Option PlainBody) →
    i < length items → m ≡ get_or items i m → MembersSoFar start class first next i items made →
    check_member (at_class start class) (class_params (table_of start) class) m next ≡ Ok one → after ≡ number_after one next →
    more ≡ made ++ bodies_of one → MembersSoFar start class first after (i + 1) items more
members_more start class first next after i items m made more one below is so_far d after_is more_is = record {
  goes_on =
      let rest : ℕ → Result PlainBodies Refusal = members_in start class (drop (i + 1) items) in
      let step : members_in start class (m ∷ drop (i + 1) items) next ≡ after_all (bodies_of one) (rest (number_after one next)) = rw d in
      so_far.goes_on
      ∙ ap (after_all made)
      (members_from start class next i items m below is ∙ step ∙ ap (λ (n : ℕ). after_all (bodies_of one) (rest n)) (sym after_is))
      ∙ after_more made (bodies_of one) (rest after) ∙ ap (λ (z : List PlainBody). after_all z (rest after)) (sym more_is);
}

pub members_all : (start : Env) (class first next i : ℕ) (items : List Member) (made : List PlainBody) → drop i items ≡ [] →
    MembersSoFar start class first next i items made → members_in start class items first ≡ Ok (bodies_with next made)
members_all start class first next i items made none so_far =
    so_far.goes_on ∙ ap (λ ms. after_all made (members_in start class ms next)) none
    ∙ ap (λ (z : List PlainBody). Ok (bodies_with next z)) (append-nil made)

-- lists of bodies, one after the other
map_append : {X Y : Type 0} (f : X → Y) (xs ys : List X) → map f (xs ++ ys) ≡ map f xs ++ map f ys
map_append f [] ys = refl
map_append f (x ∷ xs) ys = ap (λ zs. f x ∷ zs) (map_append f xs ys)

pub map_both : {X Y : Type 0} (f : X → Y) (xs ys all : List X) → all ≡ xs ++ ys → map f all ≡ map f xs ++ map f ys
map_both f xs ys all is = ap (map f) is ∙ map_append f xs ys

-- the bodies of the classes so far, in front of those of the others
abbrev pub classes_after : List PlainBody → Result (List PlainBody) Refusal → Result (List PlainBody) Refusal
classes_after before v = after_ok (λ bodies. before ++ bodies) v

classes_none : (v : Result (List PlainBody) Refusal) → classes_after [] v ≡ v
classes_none (Ok all) = refl
classes_none (Err q) = refl

classes_more : (before more : List PlainBody) (v : Result (List PlainBody) Refusal) →
    classes_after before (classes_after more v) ≡ classes_after (before ++ more) v
classes_more before more (Ok all) = ap Ok (sym (append_assoc before more all))
classes_more before more (Err q) = refl

-- the classes so far passed, and the others are looked at from there
pub record ClassesSoFar (start env : Env) (i number : ℕ) (all : List Class) (made : List PlainBody) : Type 0 where
  pub around : (other : ℕ) → at_class env other ≡ at_class start other
  pub goes_on : check_classes start 0 all 0 ≡ classes_after made (check_classes start i (drop i all) number)

pub classes_begin : (start : Env) (all : List Class) (made : List PlainBody) → made ≡ [] → ClassesSoFar start start 0 0 all made
classes_begin start all made none = record {
  around = λ other. refl;
  goes_on = sym (classes_none (check_classes start 0 all 0)) ∙ ap (λ (z : List PlainBody). classes_after z (check_classes start 0 all 0)) (sym none);
}

classes_from : (start : Env) (i number : ℕ) (all : List Class) (c : Class) → i < length all → c ≡ get_or all i c →
    check_classes start i (drop i all) number ≡ check_classes start i (c ∷ drop (i + 1) all) number
classes_from start i number all c below is = ap (λ cs. check_classes start i cs number) (sym (left_is all all i c refl below is))

pub classes_stop : (start env : Env) (i number k : ℕ) (all : List Class) (c : Class) (made : List PlainBody) (q : Refusal) → i < length all →
    c ≡ get_or all i c → k ≡ as_number i → ClassesSoFar start env i number all made → members_in env k c.members number ≡ Err q →
    check_classes start 0 all 0 ≡ Err q
classes_stop start env i number k all c made q below is k_is so_far d =
    let step : check_classes start i (c ∷ drop (i + 1) all) number ≡ Err q = rw (class_from start env i number k c.members (Err q) so_far.around k_is d) in
    so_far.goes_on ∙ ap (classes_after made) (classes_from start i number all c below is ∙ step)

pub classes_go_on : (start env next_env : Env) (i number next k : ℕ) (all : List Class) (c : Class) (made more one : List PlainBody) → i < length all →
    c ≡ get_or all i c → k ≡ as_number i → ClassesSoFar start env i number all made →
    ((other : ℕ) → at_class next_env other ≡ at_class env other) → members_in env k c.members number ≡ Ok (bodies_with next one) → more ≡ made ++ one →
    ClassesSoFar start next_env (i + 1) next all more
classes_go_on start env next_env i number next k all c made more one below is k_is so_far same d more_is = record {
  around = λ other. same other ∙ so_far.around other;
  goes_on =
      let rest : Result (List PlainBody) Refusal = check_classes start (i + 1) (drop (i + 1) all) next in
      let step : check_classes start i (c ∷ drop (i + 1) all) number ≡ classes_after one rest =
      rw (class_from start env i number k c.members (Ok (bodies_with next one)) so_far.around k_is d) in
      so_far.goes_on ∙ ap (classes_after made) (classes_from start i number all c below is ∙ step) ∙ classes_more made one rest
      ∙ ap (λ (z : List PlainBody). classes_after z rest) (sym more_is);
}

pub classes_all : (start env : Env) (i number : ℕ) (all : List Class) (made : List PlainBody) → drop i all ≡ [] →
    ClassesSoFar start env i number all made → check_classes start 0 all 0 ≡ Ok made
classes_all start env i number all made none so_far =
    so_far.goes_on ∙ ap (λ cs. classes_after made (check_classes start i cs number)) none ∙ ap Ok (append-nil made)

-- a member with no body
pub no_body : (env : Env) (params : List Bool) (m : Member) (number : ℕ) →
    ((is_atomic : Bool) × (names : List Named) × (m ≡ member.Regions is_atomic names)) ⊎ ((declared : Field) × (m ≡ member.Field declared)) →
    check_member env params m number ≡ Ok None
no_body env params m number (inl (is_atomic, names, is)) = ap (λ (z : Member). check_member env params z number) is
no_body env params m number (inr (declared, is)) = ap (λ (z : Member). check_member env params z number) is

-- the formals, of which one that has no type isn't in scope
empty : {X : Type 0} (xs : List X) → length xs ≡ 0 → xs ≡ []
empty [] is = refl
empty (x ∷ xs) is = cc

no_types : (env : Env) (formals : List Formal) → formals_declared env formals [] ≡ env
no_types env [] = refl
no_types env (formal ∷ formals) = refl

no_more : (env : Env) (formals : List Formal) (types : List Ty) → (length formals ≡ 0) ⊎ (length types ≡ 0) → formals_declared env formals types ≡ env
no_more env formals types (inl none) = ap (λ (z : List Formal). formals_declared env z types) (empty formals none)
no_more env formals types (inr none) = ap (λ (z : List Ty). formals_declared env formals z) (empty types none) ∙ no_types env formals

pub formals_end : (c : Env) (formals : List Formal) (types : List Ty) (all : Env) → formals_declared c formals types ≡ all →
    (length formals ≡ 0) ⊎ (length types ≡ 0) → c ≡ all
formals_end c formals types all rest none = sym (no_more c formals types none) ∙ rest

-- the body that a member has or hasn't
pub body_next : (made : Option MemberBody) (body : MemberBody) (number next : ℕ) → made ≡ Some body → next ≡ as_number (number + 1) →
    next ≡ number_after (option_map plain_body made) number
body_next made body number next is next_is =
    next_is ∙ ap as_number (add-one number) ∙ ap (λ (z : Option MemberBody). number_after (option_map plain_body z) number) (sym is)

pub body_pushed : (made : Option MemberBody) (body : MemberBody) (before after : List MemberBody) → made ≡ Some body → after ≡ before ++ body ∷ [] →
    map plain_body after ≡ map plain_body before ++ bodies_of (option_map plain_body made)
body_pushed made body before after is more =
    map_both plain_body before (body ∷ []) after more
    ∙ ap (λ (z : Option MemberBody). map plain_body before ++ bodies_of (option_map plain_body z)) (sym is)

pub no_body_next : (made : Option MemberBody) (number : ℕ) → made ≡ None → number ≡ number_after (option_map plain_body made) number
no_body_next made number is = ap (λ (z : Option MemberBody). number_after (option_map plain_body z) number) (sym is)

pub no_body_pushed : (made : Option MemberBody) (before : List MemberBody) → made ≡ None →
    map plain_body before ≡ map plain_body before ++ bodies_of (option_map plain_body made)
no_body_pushed made before is =
    sym (append-nil (map plain_body before))
    ∙ ap (λ (z : Option MemberBody). map plain_body before ++ bodies_of (option_map plain_body z)) (sym is)
