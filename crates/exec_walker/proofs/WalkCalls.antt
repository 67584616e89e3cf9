-- A call and a creation enter a body, and what called waits for it.
use Rattle.std.proofs.Common.{◌≡◌, ℕ, zero, suc, ◌-◌, Bool, true, false, cond, length, List, ◌∷◌, ◌++◌, refl, ap, ◌∙◌, sym, Option, Some, None}
use Rattle.lang_base.specs.declared.place.Place.{Place}
use Rattle.lang_base.specs.declared.value.Trap.TheVariants as trap
use Rattle.lang_typed.specs.Plain.{PlainProgram, PlainMember}
use Rattle.lang_typed.specs.Scope.{row_at, member_at, constructor_of, parent_of}
use Rattle.lang_meaning.specs.Values.{Value, Object, Region}
use Rattle.lang_meaning.specs.Actions.{Frame, Ending, Look, New}
use Rattle.lang_meaning.specs.Asking.{meaning}
use Rattle.lang_meaning.specs.Core.{Result, Goes_on, Returns, Prog, Traps, Act, Done, on, bind, run}
use Rattle.lang_meaning.specs.Core.{Out as out}
use Rattle.lang_meaning.specs.Counts.{reference, name_made}
use Rattle.lang_meaning.specs.Elision.{LocalRegion, in_order, Store, answer, after, sequential}
use Rattle.lang_meaning.specs.Expressions.{gives, none, unless_null, entered, back, called, created, new_object}
use Rattle.lang_meaning.specs.Regions.{some_long, regions_above}
use Rattle.lang_meaning.specs.Statements.{of_stmts}
use Rattle.exec_walker.specs.Agenda.{deeper_at}
use Rattle.exec_walker.specs.Walk.{Level, Waiting, State, value_of, beginning, falls, enters, row_member, seen_at, calls, constructs, creates, or_null}
use Rattle.exec_walker.proofs.Runs.{proceeds, bind_assoc, bind_same, run_on}
use Rattle.exec_walker.proofs.Residual.{Ran, items_run, level_run, with_operand, whole, state_run}
use Rattle.exec_walker.proofs.WalkEnds.{meaning_is, fell_kept}

module _ (P : PlainProgram) where
  -- after an operation of a level its value stands on top
  abbrev pub onto : Level → Value ℕ → Frame ℕ LocalRegion → Store → Ran
  onto g v f x = items_run P g.left g.items (v ∷ g.operands) f x

  abbrev pub Following : Level → List Waiting → Prog ℕ LocalRegion → Store → out ℕ LocalRegion (Ending ℕ) Store
  Following g ws p w = whole P ws (bind (run sequential p w) (λ r u. proceeds (onto g) r u))

  -- a body whose result goes on so
  body_kept : (d : ℕ) (m : PlainMember) (fr : Frame ℕ LocalRegion) (k : Result ℕ LocalRegion → Prog ℕ LocalRegion) (next : Result ℕ LocalRegion → Value ℕ) (g : Level) (w : Store)
      → ((r : Result ℕ LocalRegion) (u : Store) → bind (run sequential (k r) u) (λ r u. proceeds (onto g) r u) ≡ with_operand P (next r) g u)
      → ((v : Value ℕ) (f h : Frame ℕ LocalRegion) → next (Goes_on v f) ≡ next (Goes_on none h))
      → bind (run sequential (on (meaning in_order P d m.body fr) k) w) (λ r u. proceeds (onto g) r u)
      ≡ bind (level_run P (beginning m.body fr d) w) (λ r u. with_operand P (next r) g u)
  body_kept d m fr k next g w h same =
      ap (λ o. bind o (λ r u. proceeds (onto g) r u)) (run_on sequential (meaning in_order P d m.body fr) k w)
      ∙ bind_assoc (run sequential (meaning in_order P d m.body fr) w) (λ r v. run sequential (k r) v) (λ r u. proceeds (onto g) r u)
      ∙ ap (λ p. bind (run sequential p w) (λ r v. bind (run sequential (k r) v) (λ r u. proceeds (onto g) r u))) (meaning_is P d m.body fr)
      ∙ bind_same (run sequential (of_stmts in_order P (deeper_at P d) m.body fr) w) _ _ each
      ∙ sym (bind_assoc (run sequential (of_stmts in_order P (deeper_at P d) m.body fr) w) (λ r u. proceeds (λ v g x. Done (Goes_on none g) x) r u) (λ r u. with_operand P (next r) g u))
    where
      each : (r : Result ℕ LocalRegion) (u : Store) → bind (run sequential (k r) u) (λ r u. proceeds (onto g) r u)
          ≡ bind {N = ℕ} {M = LocalRegion} (proceeds (λ v g x. Done (Goes_on none g) x) r u) (λ r u. with_operand P (next r) g u)
      each (Goes_on v f) u = h (Goes_on v f) u ∙ ap (λ y. with_operand P y g u) (same v f f)
      each (Returns v) u = h (Returns v) u

  back_to : (g : Level) (r : Result ℕ LocalRegion) (u : Store) → bind (run sequential (back g.frame r) u) (λ r u. proceeds (onto g) r u) ≡ with_operand P (value_of r) g u
  back_to g (Goes_on v f) u = refl
  back_to g (Returns v) u = refl

  member_entered : (d : ℕ) (o : Option PlainMember) (seen : ℕ × List (Region LocalRegion)) (vs : List (Value ℕ)) (own : List (Region LocalRegion)) (g : Level) (ws : List Waiting) (w : Store)
      → Following g ws (elim o as (λ o. Prog ℕ LocalRegion) [
        | None ↦ gives none g.frame
        | Some m ↦ on (meaning in_order P d m.body (entered in_order m vs (regions_above in_order (parent_of P) (length P.classes) seen.0 seen.1 m.class ++ own) (g.frame.left - 1))) (back g.frame)
      ]) w ≡ state_run P (enters P d o seen vs own g ws w)
  member_entered d None seen vs own g ws w = refl
  member_entered d (Some m) seen vs own g ws w =
      ap (whole P ws) (body_kept d m (entered in_order m vs (regions_above in_order (parent_of P) (length P.classes) seen.0 seen.1 m.class ++ own) (g.frame.left - 1))
      (back g.frame) value_of g w (back_to g) (λ v f h. refl))

  row_entered : (d : ℕ) (o : Option ℕ) (seen : ℕ × List (Region LocalRegion)) (vs : List (Value ℕ)) (own : List (Region LocalRegion)) (g : Level) (ws : List Waiting) (w : Store)
      → Following g ws (elim o as (λ o. Prog ℕ LocalRegion) [
        | None ↦ gives none g.frame
        | Some n ↦ elim (member_at P n) as (λ o. Prog ℕ LocalRegion) [
          | None ↦ gives none g.frame
          | Some m ↦ on (meaning in_order P d m.body (entered in_order m vs (regions_above in_order (parent_of P) (length P.classes) seen.0 seen.1 m.class ++ own) (g.frame.left - 1))) (back g.frame)
        ]
      ]) w ≡ state_run P (enters P d (row_member P o) seen vs own g ws w)
  row_entered d None seen vs own g ws w = refl
  row_entered d (Some n) seen vs own g ws w = member_entered d (member_at P n) seen vs own g ws w

  -- a choice
  either_kept : (b : Bool) (p q : Prog ℕ LocalRegion) (s t : State) (g : Level) (ws : List Waiting) (w : Store)
      → Following g ws p w ≡ state_run P s → Following g ws q w ≡ state_run P t → Following g ws (cond b p q) w ≡ state_run P (cond b s t)
  either_kept true p q s t g ws w h k = h
  either_kept false p q s t g ws w h k = k

  call_kept : (d : ℕ) (at : Place) (c r : ℕ) (own : List (Region LocalRegion)) (n : ℕ) (vs : List (Value ℕ)) (g : Level) (ws : List Waiting) (w : Store)
      → Following g ws (called in_order P (deeper_at P d) at c r own n vs g.frame) w ≡ state_run P (calls P d at c r own n vs g ws w)
  call_kept zero at c r own n vs g ws w = fell_kept P ws trap.Stack at w
  call_kept (suc d) at c r own n vs g ws w =
      either_kept (some_long own) _ _ _ _ g ws w (fell_kept P ws trap.Stack at w)
      (row_entered d (row_at P (seen_at P c n w).0 r) (seen_at P c n w) (Object n ∷ vs) own g ws (after (Look n) w))

  pub null_kept : (at : Place) (o : Option ℕ) (p : ℕ → Prog ℕ LocalRegion) (k : ℕ → State) (J : Value ℕ → Frame ℕ LocalRegion → Store → Ran) (ws : List Waiting) (w : Store)
      → ((n : ℕ) → whole P ws (bind (run sequential (p n) w) (λ r u. proceeds J r u)) ≡ state_run P (k n))
      → whole P ws (bind (run sequential (elim o as (λ o. Prog ℕ LocalRegion) [ None ↦ Traps trap.Null at | Some n ↦ p n ]) w) (λ r u. proceeds J r u)) ≡ state_run P (or_null at o ws w k)
  null_kept at None p k J ws w h = fell_kept P ws trap.Null at w
  null_kept at (Some n) p k J ws w h = h n

  pub calls_kept : (d : ℕ) (at : Place) (v : Value ℕ) (c r : ℕ) (own : List (Region LocalRegion)) (vs : List (Value ℕ)) (g : Level) (ws : List Waiting) (w : Store)
      → Following g ws (unless_null at v (λ n. called in_order P (deeper_at P d) at c r own n vs g.frame)) w
      ≡ state_run P (or_null at (reference v) ws w (λ n. calls P d at c r own n vs g ws w))
  calls_kept d at v c r own vs g ws w = null_kept at (reference v) _ _ (onto g) ws w (λ n. call_kept d at c r own n vs g ws w)

  constructor_entered : (d : ℕ) (o : Option PlainMember) (own : List (Region LocalRegion)) (object : Value ℕ) (vs : List (Value ℕ)) (g : Level) (ws : List Waiting) (w : Store)
      → Following g ws (elim o as (λ o. Prog ℕ LocalRegion) [
        | None ↦ gives object g.frame
        | Some m ↦ on (meaning in_order P d m.body (entered in_order m (object ∷ vs) own (g.frame.left - 1))) (λ r. gives object g.frame)
      ]) w ≡ state_run P (constructs P d o own object vs g ws w)
  constructor_entered d None own object vs g ws w = refl
  constructor_entered d (Some m) own object vs g ws w =
      ap (whole P ws) (body_kept d m (entered in_order m (object ∷ vs) own (g.frame.left - 1)) (λ r. gives object g.frame) (λ r. object) g w (λ r u. refl) (λ v f h. refl))

  constructor_kept : (d : ℕ) (at : Place) (c : ℕ) (o : Option ℕ) (own : List (Region LocalRegion)) (vs : List (Value ℕ)) (g : Level) (ws : List Waiting) (w : Store)
      → Following g ws (elim o as (λ o. Prog ℕ LocalRegion) [
        | None ↦ Act (New (new_object P c own) false) (λ a. gives (name_made a) g.frame)
        | Some n ↦ elim (deeper_at P d) as (λ o. Prog ℕ LocalRegion) [
          | None ↦ Traps trap.Stack at
          | Some deeper ↦ Act (New (new_object P c own) true) (λ a. elim (member_at P n) as (λ o. Prog ℕ LocalRegion) [
            | None ↦ gives (name_made a) g.frame
            | Some m ↦ on (deeper m.body (entered in_order m (name_made a ∷ vs) own (g.frame.left - 1))) (λ r. gives (name_made a) g.frame)
          ])
        ]
      ]) w ≡ state_run P (creates P d at c o own vs g ws w)
  constructor_kept d at c None own vs g ws w = refl
  constructor_kept zero at c (Some n) own vs g ws w = fell_kept P ws trap.Stack at w
  constructor_kept (suc d) at c (Some n) own vs g ws w =
      constructor_entered d (member_at P n) own (name_made {M = LocalRegion} (answer w.heap (New (new_object P c own) true))) vs g ws (after (New (new_object P c own) true) w)

  pub creates_kept : (d : ℕ) (at : Place) (c : ℕ) (own : List (Region LocalRegion)) (vs : List (Value ℕ)) (g : Level) (ws : List Waiting) (w : Store)
      → Following g ws (created in_order P (deeper_at P d) at c own vs g.frame) w
      ≡ state_run P (cond (some_long own) (falls ws trap.Stack at w) (creates P d at c (constructor_of P c) own vs g ws w))
  creates_kept d at c own vs g ws w =
      either_kept (some_long own) _ _ _ _ g ws w (fell_kept P ws trap.Stack at w) (constructor_kept d at c (constructor_of P c) own vs g ws w)
