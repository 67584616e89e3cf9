-- The same expressions and statements run alike in two programs whose members do.
use Rattle.std.proofs.Common.{◌≡◌, ℕ, ◌+◌, ◌-◌, ℤ, Bool, true, false, List, [], ◌∷◌, ◌++◌, map, length, reverse, Option, Some, None}
use Rattle.std.proofs.Common.{refl, ap, ◌∙◌}
use Rattle.std.specs.Prelude.{slice_set}
use Rattle.lang_base.specs.declared.place.Place.{Place}
use Rattle.lang_base.specs.declared.value.Trap.TheVariants as trap
use Rattle.lang_typed.specs.declared.stmt.Forking.{Forking}
use Rattle.lang_typed.specs.Plain.{PlainProgram, PlainMember, of_array, of_part, TypedExpr, typed, TypedExprs, no_exprs, more_exprs, TypedStmt, statement, TypedStmts}
use Rattle.lang_typed.specs.Plain.{no_stmts, more_stmts, TypedBranches}
use Rattle.lang_typed.specs.Plain.{ExprForm as form}
use Rattle.lang_typed.specs.Plain.{StmtForm as stmt}
use Rattle.lang_typed.specs.Scope.{Scope, Local, row_at, member_at, constructor_of, parent_of}
use Rattle.lang_typed.specs.Effects.{Own}
use Rattle.lang_typed.specs.Statements.{AllPass}
use Rattle.lang_meaning.specs.Values.{Value, Region, Object}
use Rattle.lang_meaning.specs.Actions.{New}
use Rattle.lang_meaning.specs.Counts.{number, truth, reference, name_made, class_seen, class_entered, slot_value}
use Rattle.lang_meaning.specs.Core.{Result, Traps, Act, on}
use Rattle.lang_meaning.specs.Elision.{LocalRegion, in_order}
use Rattle.lang_meaning.specs.Regions.{around, concrete, some_long, regions_above}
use Rattle.lang_meaning.specs.Expressions.{Deeper, gives, entered, enter, called, created, new_object, class_in, of_expr, of_exprs}
use Rattle.lang_meaning.specs.Statements.{forks, part_begun, part_taken_over, of_stmt, of_stmts}
use Rattle.syntax_means.proofs.Alike.{StmtsAlike}
use Rattle.syntax_means.proofs.elided.Frames.{Keeps}
use Rattle.syntax_means.proofs.elided.Runs.{Slots, Tree, Same, same_again, same_after, same_path, same_on, same_then, same_act, same_loop, same_split, same_or}
use Rattle.syntax_means.proofs.elided.Runs.{same_if, same_by}

-- the first program with the classes and the start of the second
abbrev pub sharing : PlainProgram → PlainProgram → PlainProgram
sharing P Q = record P { classes = Q.classes; main_class = Q.main_class; main_member = Q.main_member }

-- a local that is in use
abbrev pub used : Option Local → Bool
used None = false
used (Some l) = true

-- two scopes in which the same locals are in use
pub record SameUse (L M : Scope) : Type 0 where
  pub at : (x : ℕ) → used (L.local x) ≡ used (M.local x)

-- alike bodies that both pass
pub record BodiesAlike (P Q : PlainProgram) (ss ts : TypedStmts) : Type 0 where
  pub left : Scope
  pub right : Scope
  pub does : List Own
  pub other : List Own
  pub left_passes : AllPass P left ss does
  pub right_passes : AllPass Q right ts other
  pub alike : StmtsAlike ss ts
  pub uses : SameUse left right

-- what bodies do one call deeper: it is alike, and leaves alone what it should
pub record DeeperAlike (P Q : PlainProgram) (dp dq : Deeper ℕ LocalRegion) : Type 0 where
  pub same : (ss : TypedStmts) (f : Slots) → Same (dp ss f) (dq ss f)
  pub alike : (ss ts : TypedStmts) → BodiesAlike P Q ss ts → (f : Slots) → Same (dp ss f) (dq ts f)
  pub left : (L : Scope) (ss : TypedStmts) (E : List Own) → AllPass P L ss E → (f : Slots) → Keeps L f (dp ss f)
  pub right : (L : Scope) (ss : TypedStmts) (E : List Own) → AllPass Q L ss E → (f : Slots) → Keeps L f (dq ss f)

pub data Deepers (P Q : PlainProgram) : Option (Deeper ℕ LocalRegion) → Option (Deeper ℕ LocalRegion) → Type 0 where
  deepest : Deepers P Q None None
  deeper : {dp dq : Deeper ℕ LocalRegion} → DeeperAlike P Q dp dq → Deepers P Q (Some dp) (Some dq)

pub record EnteredAlike (P Q : PlainProgram) (m k : PlainMember) : Type 0 where
  pub class : m.class ≡ k.class
  pub slots : m.slots ≡ k.slots
  pub local_regions : m.local_regions ≡ k.local_regions
  pub bodies : BodiesAlike P Q m.body k.body

pub data MembersAlike (P Q : PlainProgram) : Option PlainMember → Option PlainMember → Type 0 where
  no_member : MembersAlike P Q None None
  a_member : {m k : PlainMember} → EnteredAlike P Q m k → MembersAlike P Q (Some m) (Some k)

same_member : {P Q : PlainProgram} {m k : Option PlainMember} {p q : Tree} {i j : PlainMember → Tree} → MembersAlike P Q m k → Same p q
    → ((x y : PlainMember) → EnteredAlike P Q x y → Same (i x) (j y))
    → Same (elim m as (λ o. Tree) [ None ↦ p | Some x ↦ i x ]) (elim k as (λ o. Tree) [ None ↦ q | Some x ↦ j x ])
same_member no_member h e = h
same_member (a_member {m = m} {k = k} a) h e = e m k a

pub entered_alike : {P Q : PlainProgram} {m k : PlainMember} → EnteredAlike P Q m k → (vs : List (Value ℕ)) {own other : List (Region LocalRegion)} → own ≡ other
    → (left : ℕ) → entered in_order m vs own left ≡ entered in_order k vs other left
entered_alike {m = m} {k = k} a vs {own} {other} e left =
    ap (λ n. entered in_order (record m { slots = n }) vs own left) a.slots
    ∙ ap (λ n. entered in_order (record m { slots = k.slots; local_regions = n }) vs own left) a.local_regions
    ∙ ap (λ rs. entered in_order k vs rs left) e

same_body : {P Q : PlainProgram} {dp dq : Deeper ℕ LocalRegion} {m k : PlainMember} {i j : Result ℕ LocalRegion → Tree} → DeeperAlike P Q dp dq → EnteredAlike P Q m k
    → (vs : List (Value ℕ)) {own other : List (Region LocalRegion)} → own ≡ other → (left : ℕ) → ((r : Result ℕ LocalRegion) → Same (i r) (j r))
    → Same (on (dp m.body (entered in_order m vs own left)) i) (on (dq k.body (entered in_order k vs other left)) j)
same_body {dq = dq} {m = m} {k = k} h a vs e left next =
    same_on (same_after (h.alike m.body k.body a.bodies _) (same_path (ap (λ f. dq k.body f) (entered_alike a vs e left)))) next

module _ (P Q : PlainProgram) (members : (n : ℕ) → MembersAlike (sharing P Q) Q (member_at P n) (member_at Q n)) where
  same_enter : {dp dq : Deeper ℕ LocalRegion} → DeeperAlike (sharing P Q) Q dp dq → (seen : ℕ × List (Region LocalRegion)) (r : ℕ) (vs : List (Value ℕ))
      (own : List (Region LocalRegion)) (f : Slots) → Same (enter in_order (sharing P Q) dp seen r vs own f) (enter in_order Q dq seen r vs own f)
  same_enter h seen r vs own f =
      same_or (row_at Q seen.0 r) same_again (λ n. same_member (members n) same_again (λ m k a.
      same_body h a vs (ap (λ c. regions_above in_order (parent_of Q) (length Q.classes) seen.0 seen.1 c ++ own) a.class) (f.left - 1) (λ r. same_again)))

  same_called : {dp dq : Option (Deeper ℕ LocalRegion)} → Deepers (sharing P Q) Q dp dq → (at : Place) (c r : ℕ) (own : List (Region LocalRegion)) (n : ℕ)
      (vs : List (Value ℕ)) (f : Slots) → Same (called in_order (sharing P Q) dp at c r own n vs f) (called in_order Q dq at c r own n vs f)
  same_called deepest at c r own n vs f = same_again
  same_called (deeper h) at c r own n vs f =
      same_if (some_long own) same_again
      (same_act (λ a. same_enter h (class_entered (parent_of Q) (length Q.classes) c (class_seen a)) r (Object n ∷ vs) own f))

  same_made : {dp dq : Option (Deeper ℕ LocalRegion)} → Deepers (sharing P Q) Q dp dq → (at : Place) (c n : ℕ) (regions : List (Region LocalRegion))
      (vs : List (Value ℕ)) (f : Slots)
      → Same (elim dp as (λ o. Tree) [
        | None ↦ Traps trap.Stack at
        | Some body ↦ Act (New (new_object Q c regions) true) (λ a. elim (member_at P n) [
          | None ↦ gives (name_made a) f
          | Some m ↦ on (body m.body (entered in_order m (name_made a ∷ vs) regions (f.left - 1))) (λ r. gives (name_made a) f)
        ])
      ]) (elim dq as (λ o. Tree) [
        | None ↦ Traps trap.Stack at
        | Some body ↦ Act (New (new_object Q c regions) true) (λ a. elim (member_at Q n) [
          | None ↦ gives (name_made a) f
          | Some m ↦ on (body m.body (entered in_order m (name_made a ∷ vs) regions (f.left - 1))) (λ r. gives (name_made a) f)
        ])
      ])
  same_made deepest at c n regions vs f = same_again
  same_made (deeper h) at c n regions vs f =
      same_act (λ a. same_member (members n) same_again (λ m k e. same_body h e (name_made a ∷ vs) refl (f.left - 1) (λ r. same_again)))

  same_created : {dp dq : Option (Deeper ℕ LocalRegion)} → Deepers (sharing P Q) Q dp dq → (at : Place) (c : ℕ) (regions : List (Region LocalRegion))
      (vs : List (Value ℕ)) (f : Slots) → Same (created in_order (sharing P Q) dp at c regions vs f) (created in_order Q dq at c regions vs f)
  same_created h at c regions vs f =
      same_if (some_long regions) same_again (same_or (constructor_of Q c) same_again (λ n. same_made h at c n regions vs f))

  module _ {dp dq : Option (Deeper ℕ LocalRegion)} (h : Deepers (sharing P Q) Q dp dq) where
    mutual
      pub same_expr : (e : TypedExpr) (f : Slots) → Same (of_expr in_order (sharing P Q) dp e f) (of_expr in_order Q dq e f)
      same_expr (typed at t (form.int k)) f = same_again
      same_expr (typed at t (form.boolean b)) f = same_again
      same_expr (typed at t form.null) f = same_again
      same_expr (typed at t (form.local x)) f = same_again
      same_expr (typed at t (form.field e c k)) f = same_then (same_expr e f) (λ v g. same_again)
      same_expr (typed at t (form.element a i)) f = same_then (same_expr a f) (λ v g. same_then (same_expr i g) (λ u l. same_again))
      same_expr (typed at t (form.array_length a)) f = same_then (same_expr a f) (λ v g. same_again)
      same_expr (typed at t (form.call e c r regions es)) f =
          same_then (same_expr e f) (λ v g. same_exprs es g [] _ _ (λ vs l.
          same_or (reference v) same_again (λ n. same_called h at c r (map (concrete in_order (around l)) regions) n (reverse vs) l)))
      same_expr (typed at t (form.create es)) f =
          same_exprs es f [] _ _ (λ vs g. same_created h at (class_in t).0 (map (concrete in_order (around g)) (class_in t).1) (reverse vs) g)
      same_expr (typed at t (form.create_array n)) f = same_then (same_expr n f) (λ v g. same_again)
      same_expr (typed at t (form.unary o e)) f = same_then (same_expr e f) (λ v g. same_again)
      same_expr (typed at t (form.binary o a b)) f = same_then (same_expr a f) (λ v g. same_then (same_expr b g) (λ u l. same_again))
      same_expr (typed at t (form.both a b)) f = same_then (same_expr a f) (λ v g. same_by (truth v) same_again (same_expr b g))
      same_expr (typed at t (form.either a b)) f = same_then (same_expr a f) (λ v g. same_by (truth v) (same_expr b g) same_again)
      same_expr (typed at t (form.part_length k)) f = same_again
      same_expr (typed at t (form.part_element k i)) f = same_then (same_expr i f) (λ v g. same_again)

      same_exprs : (es : TypedExprs) (f : Slots) (vs : List (Value ℕ)) (i j : List (Value ℕ) → Slots → Tree)
          → ((ws : List (Value ℕ)) (g : Slots) → Same (i ws g) (j ws g))
          → Same (of_exprs in_order (sharing P Q) dp es f vs i) (of_exprs in_order Q dq es f vs j)
      same_exprs no_exprs f vs i j e = e vs f
      same_exprs (more_exprs x es) f vs i j e = same_then (same_expr x f) (λ v g. same_exprs es g (v ∷ vs) i j e)

  same_forks : {dp dq : Option (Deeper ℕ LocalRegion)} → Deepers (sharing P Q) Q dp dq → (at : Place) (forking : Forking) (takes : Option ℕ) (x : ℕ) (s : TypedStmt)
      (start count : ℤ) (f : Slots) → Same (forks dp at forking takes x s start count f) (forks dq at forking takes x s start count f)
  same_forks deepest at forking takes x s start count f = same_again
  same_forks (deeper h) at forking takes x s start count f = same_split (λ i. h.same _ _)

  same_cobegin : {dp dq : Option (Deeper ℕ LocalRegion)} → Deepers (sharing P Q) Q dp dq → (at : Place) (forking : Forking) (bs : TypedBranches) (f : Slots)
      → Same (of_stmt in_order (sharing P Q) dp (statement at (stmt.cobegin forking bs)) f) (of_stmt in_order Q dq (statement at (stmt.cobegin forking bs)) f)
  same_cobegin deepest at forking bs f = same_again
  same_cobegin (deeper h) at forking bs f = same_split (λ i. h.same _ _)

  module _ {dp dq : Option (Deeper ℕ LocalRegion)} (h : Deepers (sharing P Q) Q dp dq) where
    mutual
      pub same_stmt : (s : TypedStmt) (f : Slots) → Same (of_stmt in_order (sharing P Q) dp s f) (of_stmt in_order Q dq s f)
      same_stmt (statement at (stmt.declare x t is_final e)) f = same_then (same_expr h e f) (λ v g. same_again)
      same_stmt (statement at (stmt.store x e)) f = same_then (same_expr h e f) (λ v g. same_again)
      same_stmt (statement at (stmt.store_field o c k e)) f = same_then (same_expr h o f) (λ v g. same_then (same_expr h e g) (λ u l. same_again))
      same_stmt (statement at (stmt.store_element a i e)) f =
          same_then (same_expr h a f) (λ v g. same_then (same_expr h i g) (λ j l. same_then (same_expr h e l) (λ u w. same_again)))
      same_stmt (statement at (stmt.store_part k i e)) f = same_then (same_expr h i f) (λ j g. same_then (same_expr h e g) (λ u l. same_again))
      same_stmt (statement at (stmt.perform e)) f = same_then (same_expr h e f) (λ v g. same_again)
      same_stmt (statement at (stmt.block ss)) f = same_stmts ss f
      same_stmt (statement at (stmt.choice e s)) f = same_then (same_expr h e f) (λ v g. same_by (truth v) same_again (same_stmt s g))
      same_stmt (statement at (stmt.choice_else e s t)) f = same_then (same_expr h e f) (λ v g. same_by (truth v) (same_stmt t g) (same_stmt s g))
      same_stmt (statement at (stmt.while_loop e s)) f = same_loop (λ g. same_expr h e g) (λ g. same_stmt s g)
      same_stmt (statement at stmt.return_nothing) f = same_again
      same_stmt (statement at (stmt.return_value e)) f = same_then (same_expr h e f) (λ v g. same_again)
      same_stmt (statement at (stmt.print_int e)) f = same_then (same_expr h e f) (λ v g. same_again)
      same_stmt (statement at (stmt.print_boolean e)) f = same_then (same_expr h e f) (λ v g. same_again)
      same_stmt (statement at (stmt.print_text text)) f = same_again
      same_stmt (statement at (stmt.local_regions rs)) f = same_again
      same_stmt (statement at (stmt.atomic effects ss)) f =
          same_act (λ a. same_act (λ b. same_then (same_stmts ss f) (λ v g. same_again)))
      same_stmt (statement at (stmt.cobegin forking bs)) f = same_cobegin h at forking bs f
      same_stmt (statement at (stmt.foreach forking x start count s)) f =
          same_then (same_expr h start f) (λ v g. same_then (same_expr h count g) (λ u l. same_forks h at forking None x s (number v) (number u) l))
      same_stmt (statement at (stmt.foreach_parts k (of_array a) count s)) f =
          same_then (same_expr h a f) (λ v g. same_then (same_expr h count (part_begun k v g)) (λ u l.
          same_or (reference (slot_value (slice_set l.values (k + 3) u) k)) same_again (λ n. same_act (λ x. same_forks h at _ _ _ s _ _ _))))
      same_stmt (statement at (stmt.foreach_parts k (of_part j) count s)) f =
          same_then (same_expr h count (part_taken_over k j f)) (λ u g. same_forks h at _ _ _ s _ _ _)

      pub same_stmts : (ss : TypedStmts) (f : Slots) → Same (of_stmts in_order (sharing P Q) dp ss f) (of_stmts in_order Q dq ss f)
      same_stmts no_stmts f = same_again
      same_stmts (more_stmts s ss) f = same_then (same_stmt s f) (λ v g. same_stmts ss g)
