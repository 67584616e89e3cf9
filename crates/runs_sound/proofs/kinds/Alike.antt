-- Two meanings that look at kinds do the same but where the first asks for the impossible.
use Rattle.std.proofs.Common.{◌≤◌, ◌^◌, arith, ℕ, zero, suc, ◌+◌, ◌-◌, ℤ, pos, Bool, true, false, cond, ◌&&◌, List, [], ◌∷◌, ◌++◌, map, length, reverse, Option, Some, None}
use Rattle.lang_base.specs.declared.place.Place.{Place}
use Rattle.lang_base.specs.declared.value.Trap.TheVariants as trap
use Rattle.lang_typed.specs.declared.stmt.Forking.{Forking}
use Rattle.lang_typed.specs.declared.stmt.Forking.TheVariants.{Deterministic}
use Rattle.lang_base.specs.Operators.{operands_of, unary_type}
use Rattle.lang_typed.specs.Plain.{PlainProgram, PlainMember, TypedExpr, typed, TypedExprs, no_exprs, more_exprs, of_array, of_part, TypedStmt, statement, TypedStmts, no_stmts, more_stmts, TypedBranches}
use Rattle.lang_typed.specs.Plain.{ExprForm as form}
use Rattle.lang_typed.specs.Plain.{StmtForm as stmt}
use Rattle.lang_typed.specs.Scope.{row_at, member_at, constructor_of, parent_of}
use Rattle.lang_meaning.specs.Values.{Naming}
use Rattle.lang_meaning.specs.Core.{Goes_on, Returns, Ret, Traps, Act, Makes, Again, Split, on, next_of, and_then}
use Rattle.lang_meaning.specs.Counts.{Brought, number, truth, length_seen, slot_value, class_entered, class_seen, name_made}
use Rattle.lang_meaning.specs.Expressions.{gives, none, unless_null, back, entered, enter, called, created, new_object, class_in}
use Rattle.lang_meaning.specs.Regions.{around, concrete, regions_above, some_long}
use Rattle.lang_meaning.specs.Statements.{all_copies, forks, parts, part_begun, part_taken_over, with_value, joined, of_stmt}
use Rattle.runs_theory.specs.Actions.{Answer, Own, Look, New, Task}
use Rattle.runs_theory.specs.Objects.{Name, LocalRegion, Region, Value, Int, Boolean, Null, Object, An_array}
use Rattle.runs_sound.specs.Shapes.{Shape, object, elements, Describes}
use Rattle.runs_sound.specs.Accesses.{Bounds}
use Rattle.runs_sound.specs.Frames.{Frame, State}
use Rattle.runs_sound.specs.Laws.{Deeper}
use Rattle.runs_sound.specs.Work.{Result, Prog, Moves}
use Rattle.runs_sound.specs.Kinds.{Wrong, is_int, is_boolean, is_reference, is_of, are_operands, is_part, is_read, is_written, is_length, is_class, is_name, needs, answered, strict_expr, strict_exprs, strict_stmt, strict_stmts, strict_meaning}
use Rattle.runs_sound.proofs.work.NdFree.{Entries, IsNdFree}

-- an array that is too long
abbrev pub IsImpossible : Own → Type 0
IsImpossible (New (An_array r len v) c) = 2 ^ 31 ≤ len
IsImpossible _ = ⊥

abbrev pub impossible : Prog
impossible = Act (New (An_array [] (2 ^ 31) Null) false) (λ x. Traps trap.Null (record { line = 0; col = 0 }))

pub impossible_moves : (P : PlainProgram) (b : Bounds) (st : State) (o : Own) → IsImpossible o → Moves P b st o → ⊥
impossible_moves P b st (New (An_array r len v) c) h m = go m.0 m.1
  where
    go : (s : Shape) → Describes P s (An_array r len v) → ⊥
    go (elements g t a) d = let l = d.1 in omega (arith, l, h)
    go (object d rs) e = e
impossible_moves P b st _ h m = absurd h

pub data Alike : Prog → Prog → Type 0 where
  stops : {q : Prog} → Alike impossible q
  ret : {r : Result} → Alike (Ret r) (Ret r)
  traps : {t : _} {p : Place} → Alike (Traps t p) (Traps t p)
  act : {o : Own} {k l : Answer → Prog} → ((x : Answer) → Alike (k x) (l x)) → Alike (Act o k) (Act o l)
  makes : {k l : LocalRegion → Prog} → ((m : LocalRegion) → Alike (k m) (l m)) → Alike (Makes k) (Makes l)
  again : {t u s v : Frame → Prog} {f : Frame} {k l : Result → Prog} → ((g : Frame) → Alike (t g) (u g)) → ((g : Frame) → Alike (s g) (v g)) → ((r : Result) → Alike (k r) (l r)) →
      Alike (Again t s f k) (Again u v f l)
  split : {forking : Forking} {ts : List Task} {does doing : ℕ → Prog} {k l : Brought Name → Prog} → ((x : Brought Name) → Alike (k x) (l x)) → Alike (Split forking ts does k) (Split forking ts doing l)

pub alike_self : (p : Prog) → Alike p p
alike_self (Ret r) = ret
alike_self (Traps t p) = traps
alike_self (Act o k) = act (λ x. alike_self (k x))
alike_self (Makes k) = makes (λ m. alike_self (k m))
alike_self (Again t s f k) = again (λ g. alike_self (t g)) (λ g. alike_self (s g)) (λ r. alike_self (k r))
alike_self (Split forking ts does k) = split (λ x. alike_self (k x))

alike_on : {p q : Prog} {j k : Result → Prog} → Alike p q → ((r : Result) → Alike (j r) (k r)) → Alike (on p j) (on q k)
alike_on stops h = stops
alike_on {j = j} {k = k} (ret {r}) h = h r
alike_on traps h = traps
alike_on (act a) h = act (λ x. alike_on (a x) h)
alike_on (makes a) h = makes (λ m. alike_on (a m) h)
alike_on (again a b c) h = again a b (λ r. alike_on (c r) h)
alike_on (split a) h = split (λ x. alike_on (a x) h)

alike_then : {p q : Prog} {j k : Value → Frame → Prog} → Alike p q → ((v : Value) (f : Frame) → Alike (j v f) (k v f)) → Alike (and_then p j) (and_then q k)
alike_then {j = j} {k = k} a h = alike_on a go
  where
    go : (r : Result) → Alike (next_of j r) (next_of k r)
    go (Goes_on v f) = h v f
    go (Returns v) = ret

-- a program without forks where none may be stays so
pub alike_nd_free : (P : PlainProgram) (b : Bounds) (E : Entries) (Q : Entries → Result → Type 0) {p q : Prog} → Alike p q → IsNdFree P b E Q q → IsNdFree P b E Q p
alike_nd_free P b E Q stops c = (tt, λ m x s. tt)
alike_nd_free P b E Q ret c = c
alike_nd_free P b E Q traps c = tt
alike_nd_free P b E Q (act a) c = (c.0, λ m x s. alike_nd_free P b _ Q (a x) (c.1 m x s))
alike_nd_free P b E Q (makes a) c = λ m. alike_nd_free P b E Q (a m) (c m)
alike_nd_free P b E Q (again t s k) c =
    (c.0, λ g small. alike_nd_free P b E _ (t g) (c.1 g small), λ g small. alike_nd_free P b E _ (s g) (c.2 g small), λ r may small. alike_nd_free P b E Q (k r) (c.3 r may small), c.4)
alike_nd_free P b E Q (split a) c = (c.0, λ x s. alike_nd_free P b E Q (a x) (c.1 x s))

-- what is done first isn't the impossible
data Starts : Prog → Prog → Type 0 where
  same : {p : Prog} → Starts p p
  acts : {o : Own} {k l : Answer → Prog} → ((x : Answer) → Alike (k x) (l x)) → Starts (Act o k) (Act o l)

-- bodies one call deeper
pub record Bodies : Type 0 where
  pub left : Deeper
  pub right : Deeper
  pub alike : (ss : TypedStmts) (f : Frame) → Alike (left ss f) (right ss f)

abbrev pub lefts : Option Bodies → Option Deeper
lefts None = None
lefts (Some d) = Some d.left

abbrev pub rights : Option Bodies → Option Deeper
rights None = None
rights (Some d) = Some d.right

abbrev pub to_the_impossible : Wrong Name LocalRegion
to_the_impossible q = impossible

module _ (wrong : Wrong Name LocalRegion) where
  alike_needs : (c : Bool) {p q : Prog} → Alike p q → Alike (needs to_the_impossible c p) (needs wrong c q)
  alike_needs true a = a
  alike_needs false a = stops

  self_answered : (right : Answer → Bool) (p : Prog) → Alike (answered to_the_impossible right p) (answered wrong right p)
  self_answered right (Act o k) = act (λ x. alike_needs (right x) (alike_self (k x)))
  self_answered right (Ret r) = ret
  self_answered right (Traps t p) = traps
  self_answered right (Makes k) = alike_self (Makes k)
  self_answered right (Again t s f k) = alike_self (Again t s f k)
  self_answered right (Split forking ts does k) = alike_self (Split forking ts does k)

  starts_answered : (right : Answer → Bool) {p q : Prog} → Starts p q → Alike (answered to_the_impossible right p) (answered wrong right q)
  starts_answered right (same {p = p}) = self_answered right p
  starts_answered right (acts a) = act (λ x. alike_needs (right x) (a x))

  alike_both : (c : Bool) (right : Answer → Bool) {p q : Prog} → Starts p q → Alike (needs to_the_impossible c (answered to_the_impossible right p)) (needs wrong c (answered wrong right q))
  alike_both c right s = alike_needs c (starts_answered right s)

  alike_at : (b c : Bool) (right : Answer → Bool) (p : Prog) →
      Alike (needs to_the_impossible b (needs to_the_impossible c (answered to_the_impossible right p))) (needs wrong b (needs wrong c (answered wrong right p)))
  alike_at b c right p = alike_needs b (alike_both c right (same {p = p}))

  alike_choice : (b c : Bool) {p p' q q' : Prog} → Alike p p' → Alike q q' →
      Alike (needs to_the_impossible b (elim c as (λ z. Prog) [ false ↦ p | true ↦ q ])) (needs wrong b (elim c as (λ z. Prog) [ false ↦ p' | true ↦ q' ]))
  alike_choice b false d e = alike_needs b d
  alike_choice b true d e = alike_needs b e

module _ (names : Naming Name LocalRegion) (P : PlainProgram) where
  starts_unless : (at : Place) (v : Value) (j k : Name → Prog) → ((n : Name) → Starts (j n) (k n)) → Starts (unless_null at v j) (unless_null at v k)
  starts_unless at Null j k h = same
  starts_unless at (Object n) j k h = h n
  starts_unless at (Int i) j k h = same
  starts_unless at (Boolean c) j k h = same

  module _ (d : Bodies) (vs : List Value) (own : List Region) (f : Frame) where
    abbrev body : Deeper → ℕ × List Region → Option PlainMember → Prog
    body deeper seen o = elim o as (λ z. Prog) [
      | None ↦ gives none f
      | Some m ↦ on (deeper m.body (entered names m vs (regions_above names (parent_of P) (length P.classes) seen.0 seen.1 m.class ++ own) (f.left - 1))) (back f)
    ]

    alike_enter : (seen : ℕ × List Region) (r : ℕ) → Alike (enter names P d.left seen r vs own f) (enter names P d.right seen r vs own f)
    alike_enter seen r = row (row_at P seen.0 r)
      where
        member : (o : Option PlainMember) → Alike (body d.left seen o) (body d.right seen o)
        member None = ret
        member (Some m) = alike_on (d.alike m.body _) (λ r. alike_self (back f r))

        row : (o : Option ℕ) →
            Alike (elim o as (λ z. Prog) [ None ↦ gives none f | Some n ↦ body d.left seen (member_at P n) ]) (elim o as (λ z. Prog) [ None ↦ gives none f | Some n ↦ body d.right seen (member_at P n) ])
        row None = ret
        row (Some n) = member (member_at P n)

  starts_called : (ds : Option Bodies) (at : Place) (c r : ℕ) (own : List Region) (n : Name) (vs : List Value) (f : Frame) →
      Starts (called names P (lefts ds) at c r own n vs f) (called names P (rights ds) at c r own n vs f)
  starts_called None at c r own n vs f = same
  starts_called (Some d) at c r own n vs f = go (some_long own) _ _ (λ a. alike_enter d (Object n ∷ vs) own f (class_entered (parent_of P) (length P.classes) c (class_seen a)) r)
    where
      go : (z : Bool) (k l : Answer → Prog) → ((a : Answer) → Alike (k a) (l a)) → Starts (cond z (Traps trap.Stack at) (Act (Look n) k)) (cond z (Traps trap.Stack at) (Act (Look n) l))
      go true k l h = same
      go false k l h = acts h

  module _ (at : Place) (c : ℕ) (own : List Region) (vs : List Value) (f : Frame) where
    abbrev built : Deeper → Answer → Option PlainMember → Prog
    built deeper a o = elim o as (λ z. Prog) [
      | None ↦ gives (name_made a) f
      | Some m ↦ on (deeper m.body (entered names m (name_made a ∷ vs) own (f.left - 1))) (λ r. gives (name_made a) f)
    ]

    abbrev made : Option Deeper → Option ℕ → Prog
    made dp o = elim o as (λ z. Prog) [
      | None ↦ Act (New (new_object P c own) false) (λ a. gives (name_made a) f)
      | Some n ↦ elim dp as (λ z. Prog) [ None ↦ Traps trap.Stack at | Some deeper ↦ Act (New (new_object P c own) true) (λ a. built deeper a (member_at P n)) ]
    ]

    starts_created : (ds : Option Bodies) → Starts (created names P (lefts ds) at c own vs f) (created names P (rights ds) at c own vs f)
    starts_created ds = go (some_long own) (constructor_of P c) ds
      where
        member : (d : Bodies) (a : Answer) (o : Option PlainMember) → Alike (built d.left a o) (built d.right a o)
        member d a None = ret
        member d a (Some m) = alike_on (d.alike m.body _) (λ r. ret)

        go : (z : Bool) (o : Option ℕ) (ds : Option Bodies) → Starts (cond z (Traps trap.Stack at) (made (lefts ds) o)) (cond z (Traps trap.Stack at) (made (rights ds) o))
        go true o ds = same
        go false None ds = same
        go false (Some n) None = same
        go false (Some n) (Some d) = acts (λ a. member d a (member_at P n))

alike_forks : (ds : Option Bodies) (at : Place) (forking : Forking) (takes : Option ℕ) (x : ℕ) (s : TypedStmt) (start count : ℤ) (f : Frame) →
    Alike (forks (lefts ds) at forking takes x s start count f) (forks (rights ds) at forking takes x s start count f)
alike_forks None at forking takes x s start count f = traps
alike_forks (Some d) at forking takes x s start count f = split (λ y. alike_self (joined [] f y))

module _ (wrong : Wrong Name LocalRegion) (names : Naming Name LocalRegion) (P : PlainProgram) (ds : Option Bodies) where
  mutual
    alike_expr : (e : TypedExpr) (f : Frame) → Alike (strict_expr to_the_impossible names P (lefts ds) e f) (strict_expr wrong names P (rights ds) e f)
    alike_expr (typed at t (form.int k)) f = ret
    alike_expr (typed at t (form.boolean b)) f = ret
    alike_expr (typed at t form.null) f = ret
    alike_expr (typed at t (form.local x)) f = alike_needs wrong (is_of t (slot_value f.values x)) ret
    alike_expr (typed at t (form.field e c k)) f = alike_then (alike_expr e f) (λ v g. alike_both wrong (is_reference v) is_read same)
    alike_expr (typed at t (form.element a j)) f = alike_then (alike_expr a f) (λ v g. alike_then (alike_expr j g) (λ u h. alike_at wrong (is_int u) (is_reference v) is_read _))
    alike_expr (typed at t (form.array_length a)) f = alike_then (alike_expr a f) (λ v g. alike_both wrong (is_reference v) is_length same)
    alike_expr (typed at t (form.call e c r regions es)) f = alike_then (alike_expr e f) (λ v g. alike_exprs es g [] _ _ (λ vs h.
        alike_both wrong (is_reference v) is_class (starts_unless names P at v _ _ (λ n. starts_called names P ds at c r (map (concrete names (around h)) regions) n (reverse vs) h))))
    alike_expr (typed at t (form.create es)) f = alike_exprs es f [] _ _ (λ vs g.
        starts_answered wrong is_name (starts_created names P at (class_in t).0 (map (concrete names (around g)) (class_in t).1) (reverse vs) g ds))
    alike_expr (typed at t (form.create_array n)) f = alike_then (alike_expr n f) (λ v g. alike_both wrong (is_int v) is_name same)
    alike_expr (typed at t (form.unary o e)) f = alike_then (alike_expr e f) (λ v g. alike_needs wrong (is_of (unary_type o) v) ret)
    alike_expr (typed at t (form.binary o a b)) f =
        alike_then (alike_expr a f) (λ v g. alike_then (alike_expr b g) (λ u h. alike_needs wrong (are_operands (operands_of o) v u) (alike_self _)))
    alike_expr (typed at t (form.both a b)) f = alike_then (alike_expr a f) (λ v g. alike_choice wrong (is_boolean v) (truth v) ret (alike_expr b g))
    alike_expr (typed at t (form.either a b)) f = alike_then (alike_expr a f) (λ v g. alike_choice wrong (is_boolean v) (truth v) (alike_expr b g) ret)
    alike_expr (typed at t (form.part_length k)) f = alike_needs wrong (is_int (slot_value f.values (k + 2))) ret
    alike_expr (typed at t (form.part_element k j)) f = alike_then (alike_expr j f) (λ v g. alike_both wrong (is_int v && is_part k g.values) is_read same)

    alike_exprs : (es : TypedExprs) (f : Frame) (vs : List Value) (j k : List Value → Frame → Prog) → ((us : List Value) (g : Frame) → Alike (j us g) (k us g)) →
        Alike (strict_exprs to_the_impossible names P (lefts ds) es f vs j) (strict_exprs wrong names P (rights ds) es f vs k)
    alike_exprs no_exprs f vs j k h = h vs f
    alike_exprs (more_exprs e es) f vs j k h = alike_then (alike_expr e f) (λ v g. alike_exprs es g (v ∷ vs) j k h)

  alike_parts : (at : Place) (k : ℕ) (s : TypedStmt) (f : Frame) (v : Value) →
      Starts (unless_null at v (λ n. Act (Look n) (λ a. parts (lefts ds) at k s (with_value f (k + 2) (Int (pos (length_seen a)))))))
      (unless_null at v (λ n. Act (Look n) (λ a. parts (rights ds) at k s (with_value f (k + 2) (Int (pos (length_seen a)))))))
  alike_parts at k s f v = starts_unless names P at v _ _ (λ n. acts (λ a. alike_forks ds at Deterministic (Some k) (k + 4) s (pos 0) _ _))

  alike_cobegin : (ds : Option Bodies) (at : Place) (forking : Forking) (bs : TypedBranches) (f : Frame) →
      Alike (of_stmt names P (lefts ds) (statement at (stmt.cobegin forking bs)) f) (of_stmt names P (rights ds) (statement at (stmt.cobegin forking bs)) f)
  alike_cobegin None at forking bs f = traps
  alike_cobegin (Some d) at forking bs f = split (λ y. alike_self (joined (all_copies bs) f y))

  mutual
    alike_stmt : (s : TypedStmt) (f : Frame) → Alike (strict_stmt to_the_impossible names P (lefts ds) s f) (strict_stmt wrong names P (rights ds) s f)
    alike_stmt (statement at (stmt.declare x t is_final e)) f = alike_then (alike_expr e f) (λ v g. ret)
    alike_stmt (statement at (stmt.store x e)) f = alike_then (alike_expr e f) (λ v g. ret)
    alike_stmt (statement at (stmt.store_field o c k e)) f =
        alike_then (alike_expr o f) (λ v g. alike_then (alike_expr e g) (λ u h. alike_both wrong (is_reference v) is_written same))
    alike_stmt (statement at (stmt.store_element a j e)) f =
        alike_then (alike_expr a f) (λ v g. alike_then (alike_expr j g) (λ u h. alike_then (alike_expr e h) (λ x l. alike_at wrong (is_int u) (is_reference v) is_written _)))
    alike_stmt (statement at (stmt.store_part k j e)) f =
        alike_then (alike_expr j f) (λ v g. alike_then (alike_expr e g) (λ u h. alike_both wrong (is_int v && is_part k h.values) is_written same))
    alike_stmt (statement at (stmt.perform e)) f = alike_then (alike_expr e f) (λ v g. ret)
    alike_stmt (statement at (stmt.block ss)) f = alike_stmts ss f
    alike_stmt (statement at (stmt.choice e s)) f = alike_then (alike_expr e f) (λ v g. alike_choice wrong (is_boolean v) (truth v) ret (alike_stmt s g))
    alike_stmt (statement at (stmt.choice_else e s t)) f = alike_then (alike_expr e f) (λ v g. alike_choice wrong (is_boolean v) (truth v) (alike_stmt t g) (alike_stmt s g))
    alike_stmt (statement at (stmt.while_loop e s)) f =
        again (λ g. alike_then (alike_expr e g) (λ v h. alike_needs wrong (is_boolean v) ret)) (λ g. alike_stmt s g) (λ r. ret)
    alike_stmt (statement at (stmt.return_value e)) f = alike_then (alike_expr e f) (λ v g. ret)
    alike_stmt (statement at (stmt.print_int e)) f = alike_then (alike_expr e f) (λ v g. alike_needs wrong (is_int v) (alike_self _))
    alike_stmt (statement at (stmt.print_boolean e)) f = alike_then (alike_expr e f) (λ v g. alike_needs wrong (is_boolean v) (alike_self _))
    alike_stmt (statement at (stmt.atomic effects ss)) f = act (λ a. act (λ b. alike_then (alike_stmts ss f) (λ v g. act (λ c. ret))))
    alike_stmt (statement at (stmt.foreach forking x start count s)) f =
        alike_then (alike_expr start f) (λ v g. alike_then (alike_expr count g) (λ u h. alike_needs wrong (is_int v && is_int u)
        (alike_forks ds at forking None x s (number v) (number u) h)))
    alike_stmt (statement at (stmt.foreach_parts k (of_array a) count s)) f =
        alike_then (alike_expr a f) (λ v g. alike_then (alike_expr count (part_begun k v g)) (λ u h. alike_both wrong (is_reference v && is_int u) is_length
        (alike_parts at k s (with_value h (k + 3) u) (slot_value (with_value h (k + 3) u).values k))))
    alike_stmt (statement at (stmt.foreach_parts k (of_part j) count s)) f =
        alike_then (alike_expr count (part_taken_over k j f)) (λ u g. alike_needs wrong (is_int u && is_part j (with_value g (k + 3) u).values)
        (alike_forks ds at Deterministic (Some k) (k + 4) s (pos 0) _ _))
    alike_stmt (statement at stmt.return_nothing) f = ret
    alike_stmt (statement at (stmt.print_text text)) f = alike_self _
    alike_stmt (statement at (stmt.local_regions rs)) f = alike_self _
    alike_stmt (statement at (stmt.cobegin forking bs)) f = alike_cobegin ds at forking bs f

    alike_stmts : (ss : TypedStmts) (f : Frame) → Alike (strict_stmts to_the_impossible names P (lefts ds) ss f) (strict_stmts wrong names P (rights ds) ss f)
    alike_stmts no_stmts f = ret
    alike_stmts (more_stmts s ss) f = alike_then (alike_stmt s f) (λ v g. alike_stmts ss g)

pub alike_meaning : (wrong : Wrong Name LocalRegion) (names : Naming Name LocalRegion) (P : PlainProgram) (d : ℕ) (ss : TypedStmts) (f : Frame) →
    Alike (strict_meaning to_the_impossible names P d ss f) (strict_meaning wrong names P d ss f)
unfolding strict_meaning
alike_meaning wrong names P zero ss f = alike_stmts wrong names P None ss f
alike_meaning wrong names P (suc d) ss f =
    alike_stmts wrong names P (Some (record { left = strict_meaning to_the_impossible names P d; right = strict_meaning wrong names P d; alike = λ rs g. alike_meaning wrong names P d rs g })) ss f
