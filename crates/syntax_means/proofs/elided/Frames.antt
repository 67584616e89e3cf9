-- What passes leaves each local alone that isn't a variable in its scope.
use Rattle.std.proofs.Common.{◌≡◌, ℕ, zero, suc, ◌-◌, ℤ, pos, negsuc, Bool, true, false, cond, List, [], ◌∷◌, ◌++◌, map, length, reverse, Option, Some, None}
use Rattle.std.proofs.Common.{refl, sym, ap, ◌∙◌, subst, get_or-set_other}
use Rattle.std.specs.Prelude.{slice_set}
use Rattle.lang_base.specs.declared.place.Place.{Place}
use Rattle.lang_base.specs.declared.value.Trap.{Trap}
use Rattle.lang_base.specs.declared.value.Trap.TheVariants as trap
use Rattle.lang_base.specs.Types.{PlainType}
use Rattle.lang_base.specs.Types.{PlainType as ty}
use Rattle.lang_typed.specs.declared.stmt.Forking.{Forking}
use Rattle.lang_typed.specs.Plain.{PlainProgram, TypedExpr, typed, TypedExprs, no_exprs, more_exprs}
use Rattle.lang_typed.specs.Plain.{ExprForm as form}
use Rattle.lang_typed.specs.Scope.{Scope, Local, variable, frozen, constant, part, reserved, row_at, member_at, constructor_of, parent_of}
use Rattle.lang_meaning.specs.Values.{Value, Region, Object}
use Rattle.lang_meaning.specs.Actions.{Task, Own as Deed, New, Answer}
use Rattle.lang_meaning.specs.Core.{Result, Goes_on, Returns, Ret, Traps, Act, Again, Split, on, next_of, and_then, Out, Done, Stopped, Lost}
use Rattle.lang_meaning.specs.Core.{bind, loop, tested, rounded, each_from, run}
use Rattle.lang_meaning.specs.Core.{Out as out}
use Rattle.lang_meaning.specs.Counts.{number, truth, reference, value_read, is_out, name_made, class_seen, class_entered, operated, slot_value}
use Rattle.lang_meaning.specs.Counts.{part_place, Brought, Back, Trap_of_branch}
use Rattle.lang_meaning.specs.Elision.{LocalRegion, Store, in_order, one_tick, sequential}
use Rattle.lang_meaning.specs.Regions.{around, concrete, some_long, is_long, regions_above}
use Rattle.lang_meaning.specs.Expressions.{Deeper, gives, none, unless_null, read_cell, entered, back, enter, called, created, new_object, made_array}
use Rattle.lang_meaning.specs.Expressions.{class_in, part_element, of_expr, of_exprs}
use Rattle.lang_meaning.specs.Statements.{with_value, write_cell, makes, joined}
use Rattle.syntax_means.proofs.elided.Copies.{among, copied_out}
use Rattle.syntax_means.proofs.elided.Runs.{Slots, Tree, run_on}

-- a local that is in use and no variable
abbrev pub settled : Option Local → Bool
settled None = false
settled (Some (variable t)) = false
settled (Some (frozen t)) = true
settled (Some (constant t)) = true
settled (Some (part t a)) = true
settled (Some reserved) = true

-- the second frame holds in each settled local what the first does
pub record Still (L : Scope) (f g : Slots) : Type 0 where
  pub holds : (x : ℕ) → settled (L.local x) ≡ true → slot_value g.values x ≡ slot_value f.values x

still : {L : Scope} {f : Slots} → Still L f f
still = record { holds = λ x e. refl }

pub still_then : {L : Scope} {f g h : Slots} → Still L f g → Still L g h → Still L f h
still_then s t = record { holds = λ x e. t.holds x e ∙ s.holds x e }

-- a slot that isn't settled is written
pub still_set : {L : Scope} {f : Slots} (x : ℕ) (v : Value ℕ) → settled (L.local x) ≡ false → Still L f (with_value f x v)
still_set {L} {f} x v free = record {
  holds = λ y e. get_or-set_other f.values x y v _ (λ same. (let i : settled (L.local y) ≡ false = ap (λ z. settled (L.local z)) same ∙ free in cc));
}

abbrev pub Kept : Scope → Slots → Result ℕ LocalRegion → Type 0
Kept L f (Goes_on v g) = Still L f g
Kept L f (Returns v) = Unit {0}

abbrev pub AtDone : {V : Type 0} → (V → Type 0) → Out ℕ LocalRegion V Store → Type 0
AtDone P (Done v w) = P v
AtDone P (out.Trapped t p w) = Unit {0}
AtDone P (Stopped n a) = Unit {0}
AtDone P (Lost w) = Unit {0}

done_then : {V U : Type 0} (P : V → Type 0) (R : U → Type 0) (o : Out ℕ LocalRegion V Store) (k : V → Store → Out ℕ LocalRegion U Store)
    → AtDone P o → ((v : V) (w : Store) → P v → AtDone R (k v w)) → AtDone R (bind o k)
done_then P R (Done v w) k h e = e v w h
done_then P R (out.Trapped t p w) k h e = tt
done_then P R (Stopped n a) k h e = tt
done_then P R (Lost w) k h e = tt

done_any : {V U : Type 0} (R : U → Type 0) (o : Out ℕ LocalRegion V Store) (k : V → Store → Out ℕ LocalRegion U Store)
    → ((v : V) (w : Store) → AtDone R (k v w)) → AtDone R (bind o k)
done_any R (Done v w) k e = e v w
done_any R (out.Trapped t p w) k e = tt
done_any R (Stopped n a) k e = tt
done_any R (Lost w) k e = tt

-- a tree that goes on, if at all, in such a frame
pub record Keeps (L : Scope) (f : Slots) (p : Tree) : Type 0 where
  pub from : (w : Store) → AtDone (Kept L f) (run sequential p w)

kept_then : {L : Scope} {f g : Slots} → Still L f g → (r : Result ℕ LocalRegion) → Kept L g r → Kept L f r
kept_then s (Goes_on v h) t = still_then s t
kept_then s (Returns v) t = tt

done_kept : {L : Scope} {f g : Slots} → Still L f g → (o : Out ℕ LocalRegion (Result ℕ LocalRegion) Store) → AtDone (Kept L g) o → AtDone (Kept L f) o
done_kept s (Done r w) t = kept_then s r t
done_kept s (out.Trapped t p w) h = tt
done_kept s (Stopped n a) h = tt
done_kept s (Lost w) h = tt

pub keeps_from : {L : Scope} {f g : Slots} {p : Tree} → Still L f g → Keeps L g p → Keeps L f p
keeps_from {p = p} s h = record { from = λ w. done_kept s (run sequential p w) (h.from w) }

pub keeps_ret : {L : Scope} {f g : Slots} {v : Value ℕ} → Still L f g → Keeps L f (Ret (Goes_on v g))
keeps_ret s = record { from = λ w. s }

pub keeps_same : {L : Scope} {f : Slots} {v : Value ℕ} → Keeps L f (Ret (Goes_on v f))
keeps_same = record { from = λ w. still }

pub keeps_back : {L : Scope} {f : Slots} {v : Value ℕ} → Keeps L f (Ret (Returns v))
keeps_back = record { from = λ w. tt }

pub keeps_trap : {L : Scope} {f : Slots} {t : Trap} {at : Place} → Keeps L f (Traps t at)
keeps_trap = record { from = λ w. tt }

pub keeps_act : {L : Scope} {f : Slots} {o : Deed ℕ LocalRegion} {k : Answer ℕ LocalRegion → Tree} → ((x : Answer ℕ LocalRegion) → Keeps L f (k x)) → Keeps L f (Act o k)
keeps_act {L} {f} {o} h = record { from = λ w. done_any (Kept L f) (sequential.act o w) _ (λ x v. (h x).from v) }

pub keeps_then : {L : Scope} {f : Slots} {p : Tree} {j : Value ℕ → Slots → Tree} → Keeps L f p → ((v : Value ℕ) (g : Slots) → Keeps L g (j v g))
    → Keeps L f (and_then p j)
keeps_then {L} {f} {p} {j} h e = record {
  from = λ w. subst (AtDone (Kept L f)) (sym (run_on sequential p (next_of j) w)) (done_then (Kept L f) (Kept L f) (run sequential p w) _ (h.from w) next);
}
  where
    next : (r : Result ℕ LocalRegion) (v : Store) → Kept L f r → AtDone (Kept L f) (run sequential (next_of j r) v)
    next (Goes_on u g) v s = done_kept s (run sequential (j u g) v) ((e u g).from v)
    next (Returns u) v s = tt

-- what follows a body doesn't look at the body's frame
keeps_on : {L : Scope} {f : Slots} (p : Tree) {j : Result ℕ LocalRegion → Tree} → ((r : Result ℕ LocalRegion) → Keeps L f (j r)) → Keeps L f (on p j)
keeps_on {L} {f} p {j} h = record {
  from = λ w. subst (AtDone (Kept L f)) (sym (run_on sequential p j w)) (done_any (Kept L f) (run sequential p w) _ (λ r v. (h r).from v));
}

keeps_or : {L : Scope} {f : Slots} {A : Type 0} {p : Tree} {k : A → Tree} (o : Option A) → Keeps L f p → ((x : A) → Keeps L f (k x))
    → Keeps L f (elim o as (λ o. Tree) [ None ↦ p | Some x ↦ k x ])
keeps_or None h e = h
keeps_or (Some x) h e = e x

keeps_if : {L : Scope} {f : Slots} {p q : Tree} (b : Bool) → Keeps L f p → Keeps L f q → Keeps L f (cond b p q)
keeps_if true h k = h
keeps_if false h k = k

pub keeps_by : {L : Scope} {f : Slots} {p q : Tree} (b : Bool) → Keeps L f p → Keeps L f q → Keeps L f (elim b as (λ b. Tree) [ false ↦ p | true ↦ q ])
keeps_by false h k = h
keeps_by true h k = k

-- of the statement alone that a block holds
pub keeps_alone : {L : Scope} {f : Slots} {p : Tree} → Keeps L f (and_then p (λ v g. gives none g)) → Keeps L f p
keeps_alone {L} {f} {p} h = record {
  from = λ w. at (run sequential p w) (subst (AtDone (Kept L f)) (run_on sequential p (next_of (λ v g. gives none g)) w) (h.from w));
}
  where
    at : (o : Out ℕ LocalRegion (Result ℕ LocalRegion) Store)
        → AtDone (Kept L f) (bind o (λ r v. run sequential (next_of (λ v g. gives none g) r) v)) → AtDone (Kept L f) o
    at (Done (Goes_on v g) w) s = s
    at (Done (Returns v) w) s = s
    at (out.Trapped t p w) s = tt
    at (Stopped n a) s = tt
    at (Lost w) s = tt

-- in a scope that settles what this one does
pub keeps_less : {L M : Scope} {f : Slots} {p : Tree} → ((x : ℕ) → settled (L.local x) ≡ true → settled (M.local x) ≡ true) → Keeps M f p → Keeps L f p
keeps_less {L} {M} {f} {p} more h = record { from = λ w. at (run sequential p w) (h.from w) }
  where
    at : (o : Out ℕ LocalRegion (Result ℕ LocalRegion) Store) → AtDone (Kept M f) o → AtDone (Kept L f) o
    at (Done (Goes_on v g) w) s = record { holds = λ x e. s.holds x (more x e) }
    at (Done (Returns v) w) s = tt
    at (out.Trapped t p w) s = tt
    at (Stopped n a) s = tt
    at (Lost w) s = tt

module _ (L : Scope) (test body : Slots → Tree) (kt : (g : Slots) → Keeps L g (test g)) (kb : (g : Slots) → Keeps L g (body g)) where
  abbrev ticks : ℕ → Slots → Store → Out ℕ LocalRegion (Result ℕ LocalRegion) Store
  ticks n f w = loop (λ v. one_tick v.ticks v) (λ g v. run sequential (test g) v) (λ g v. run sequential (body g) v) n f w

  past_kept : (again : Slots → Store → Out ℕ LocalRegion (Result ℕ LocalRegion) Store) → ((g : Slots) (w : Store) → AtDone (Kept L g) (again g w))
      → (f : Slots) (v : Value ℕ) (w : Store) (b : Bool)
      → AtDone (Kept L f) (elim b as (λ b. Out ℕ LocalRegion (Result ℕ LocalRegion) Store) [
        | false ↦ Done (Goes_on v f) w
        | true ↦ bind (one_tick w.ticks w) (λ u w'. bind (run sequential (body f) w') (λ r w''. rounded again r w''))
      ])
  past_kept again h f v w false = still
  past_kept again h f v w true =
      done_any (Kept L f) (one_tick w.ticks w) _ (λ u w'. done_then (Kept L f) (Kept L f) (run sequential (body f) w') _ ((kb f).from w') round)
    where
      round : (r : Result ℕ LocalRegion) (w'' : Store) → Kept L f r → AtDone (Kept L f) (rounded again r w'')
      round (Goes_on u g) w'' s = done_kept s (again g w'') (h g w'')
      round (Returns u) w'' s = tt

  loop_kept : (n : ℕ) (f : Slots) (w : Store) → AtDone (Kept L f) (ticks n f w)
  loop_kept zero f w = tt
  loop_kept (suc n) f w = done_then (Kept L f) (Kept L f) (run sequential (test f) w) _ ((kt f).from w) (after (loop_kept n))
    where
      after : ((g : Slots) (v : Store) → AtDone (Kept L g) (ticks n g v)) → (r : Result ℕ LocalRegion) (v : Store) → Kept L f r
          → AtDone (Kept L f) (tested (λ v. one_tick v.ticks v) (λ g v. run sequential (body g) v) (λ g u. ticks n g u) r v)
      after h (Goes_on u g) v s = done_kept s _ (past_kept (ticks n) h g u v (truth u))
      after h (Returns u) v s = tt

  pub keeps_loop : (f : Slots) → Keeps L f (Again test body f (λ r. Ret r))
  keeps_loop f = record { from = λ w. done_then (Kept L f) (Kept L f) (ticks (suc w.ticks) f w) _ (loop_kept (suc w.ticks) f w) (λ r v s. s) }

-- a cell is read or written, and a body that is entered leaves the caller's frame
module _ {L : Scope} where
  pub keeps_unless : {f : Slots} {k : ℕ → Tree} (at : Place) (v : Value ℕ) → ((n : ℕ) → Keeps L f (k n)) → Keeps L f (unless_null at v k)
  keeps_unless at v h = keeps_or (reference v) keeps_trap h

  keeps_read : (at : Place) (n : ℕ) (i : ℤ) (f : Slots) → Keeps L f (read_cell at n i f)
  keeps_read at n i f = keeps_act (λ a. keeps_or (value_read a) keeps_trap (λ v. keeps_same))

  pub keeps_write : (at : Place) (n : ℕ) (i : ℤ) (v : Value ℕ) (f : Slots) → Keeps L f (write_cell at n i v f)
  keeps_write at n i v f = keeps_act (λ a. keeps_if (is_out a) keeps_trap keeps_same)

  pub keeps_part : {f : Slots} {j : ℕ → ℤ → Tree} (at : Place) (k : ℕ) (i : ℤ) → ((n : ℕ) (p : ℤ) → Keeps L f (j n p)) → Keeps L f (part_element at k i f j)
  keeps_part {f} at k i h = keeps_or (part_place k i f.values) keeps_trap (λ p. keeps_unless at (slot_value f.values k) (λ n. h n p))

  keeps_backed : (f : Slots) (r : Result ℕ LocalRegion) → Keeps L f (back f r)
  keeps_backed f (Goes_on v g) = keeps_same
  keeps_backed f (Returns v) = keeps_same

  pub keeps_makes : (rs : List ℕ) (f : Slots) → Keeps L f (makes rs f)
  keeps_makes [] f = keeps_same
  keeps_makes (r ∷ rs) f = record {
    from = λ w. done_any (Kept L f) (sequential.make w) _
        (λ m v. done_kept (record { holds = λ x e. refl }) _ ((keeps_makes rs (record f { locals = slice_set f.locals r m })).from v));
  }

  keeps_array : (at : Place) (t : PlainType) (k : ℤ) (f : Slots) → Keeps L f (made_array in_order at t k f)
  keeps_array at (ty.array t a named) (negsuc k) f = keeps_trap
  keeps_array at (ty.array t a named) (pos k) f = keeps_if (is_long (concrete in_order (around f) a)) keeps_trap (keeps_act (λ x. keeps_same))
  keeps_array at ty.int k f = keeps_same
  keeps_array at ty.boolean k f = keeps_same
  keeps_array at ty.void k f = keeps_same
  keeps_array at ty.null k f = keeps_same
  keeps_array at (ty.class d args) k f = keeps_same

  -- what a join copies back is no settled local
  pub keeps_split : {forking : Forking} {ts : List (Task ℕ LocalRegion)} {b : ℕ → Tree} (slots : List ℕ) (f : Slots) → ((x : ℕ) → settled (L.local x) ≡ true → among x slots ≡ false)
      → Keeps L f (Split forking ts b (joined slots f))
  keeps_split {forking} {ts} {b} slots f apart = record {
    from = λ w. done_any (Kept L f) (sequential.fork forking ts (each_from (λ i v. run sequential (b i) v) 0 ts) w) _ (λ x v. at x v);
  }
    where
      at : (x : Brought ℕ) (v : Store) → AtDone (Kept L f) (run sequential (joined slots f x) v)
      at (Back ls) v = record { holds = λ y e. copied_out y slots ls f.values (apart y e) }
      at (Trap_of_branch t p) v = tt

  module _ (P : PlainProgram) where
    keeps_enter : (dp : Deeper ℕ LocalRegion) (seen : ℕ × List (Region LocalRegion)) (r : ℕ) (vs : List (Value ℕ)) (own : List (Region LocalRegion)) (f : Slots)
        → Keeps L f (enter in_order P dp seen r vs own f)
    keeps_enter dp seen r vs own f =
        keeps_or (row_at P seen.0 r) keeps_same (λ n. keeps_or (member_at P n) keeps_same (λ m.
        keeps_on (dp m.body (entered in_order m vs (regions_above in_order (parent_of P) (length P.classes) seen.0 seen.1 m.class ++ own) (f.left - 1)))
        (keeps_backed f)))

    keeps_called : (dp : Option (Deeper ℕ LocalRegion)) (at : Place) (c r : ℕ) (own : List (Region LocalRegion)) (n : ℕ) (vs : List (Value ℕ)) (f : Slots)
        → Keeps L f (called in_order P dp at c r own n vs f)
    keeps_called None at c r own n vs f = keeps_trap
    keeps_called (Some dp) at c r own n vs f =
        keeps_if (some_long own) keeps_trap
        (keeps_act (λ a. keeps_enter dp (class_entered (parent_of P) (length P.classes) c (class_seen a)) r (Object n ∷ vs) own f))

    keeps_made : (dp : Option (Deeper ℕ LocalRegion)) (at : Place) (c n : ℕ) (regions : List (Region LocalRegion)) (vs : List (Value ℕ)) (f : Slots)
        → Keeps L f (elim dp as (λ o. Tree) [
          | None ↦ Traps trap.Stack at
          | Some deeper ↦ Act (New (new_object P c regions) true) (λ a. elim (member_at P n) [
            | None ↦ gives (name_made a) f
            | Some m ↦ on (deeper m.body (entered in_order m (name_made a ∷ vs) regions (f.left - 1))) (λ r. gives (name_made a) f)
          ])
        ])
    keeps_made None at c n regions vs f = keeps_trap
    keeps_made (Some dp) at c n regions vs f = keeps_act (λ a. keeps_or (member_at P n) keeps_same (λ m.
        keeps_on (dp m.body (entered in_order m (name_made a ∷ vs) regions (f.left - 1))) (λ r. keeps_same)))

    keeps_created : (dp : Option (Deeper ℕ LocalRegion)) (at : Place) (c : ℕ) (regions : List (Region LocalRegion)) (vs : List (Value ℕ)) (f : Slots)
        → Keeps L f (created in_order P dp at c regions vs f)
    keeps_created dp at c regions vs f =
        keeps_if (some_long regions) keeps_trap (keeps_or (constructor_of P c) (keeps_act (λ a. keeps_same)) (λ n. keeps_made dp at c n regions vs f))

    module _ (dp : Option (Deeper ℕ LocalRegion)) where
      mutual
        pub keeps_expr : (e : TypedExpr) (f : Slots) → Keeps L f (of_expr in_order P dp e f)
        keeps_expr (typed at t (form.int k)) f = keeps_same
        keeps_expr (typed at t (form.boolean b)) f = keeps_same
        keeps_expr (typed at t form.null) f = keeps_same
        keeps_expr (typed at t (form.local x)) f = keeps_same
        keeps_expr (typed at t (form.field e c k)) f = keeps_then (keeps_expr e f) (λ v g. keeps_unless at v (λ n. keeps_read at n (pos k) g))
        keeps_expr (typed at t (form.element a i)) f =
            keeps_then (keeps_expr a f) (λ v g. keeps_then (keeps_expr i g) (λ u h. keeps_unless at v (λ n. keeps_read at n (number u) h)))
        keeps_expr (typed at t (form.array_length a)) f = keeps_then (keeps_expr a f) (λ v g. keeps_unless at v (λ n. keeps_act (λ x. keeps_same)))
        keeps_expr (typed at t (form.call e c r regions es)) f =
            keeps_then (keeps_expr e f) (λ v g. keeps_exprs es g [] _ (λ vs h.
            keeps_unless at v (λ n. keeps_called dp at c r (map (concrete in_order (around h)) regions) n (reverse vs) h)))
        keeps_expr (typed at t (form.create es)) f =
            keeps_exprs es f [] _ (λ vs g. keeps_created dp at (class_in t).0 (map (concrete in_order (around g)) (class_in t).1) (reverse vs) g)
        keeps_expr (typed at t (form.create_array n)) f = keeps_then (keeps_expr n f) (λ v g. keeps_array at t (number v) g)
        keeps_expr (typed at t (form.unary o e)) f = keeps_then (keeps_expr e f) (λ v g. keeps_same)
        keeps_expr (typed at t (form.binary o a b)) f =
            keeps_then (keeps_expr a f) (λ v g. keeps_then (keeps_expr b g) (λ u h. keeps_or (operated in_order.same o v u) keeps_trap (λ w. keeps_same)))
        keeps_expr (typed at t (form.both a b)) f = keeps_then (keeps_expr a f) (λ v g. keeps_by (truth v) keeps_same (keeps_expr b g))
        keeps_expr (typed at t (form.either a b)) f = keeps_then (keeps_expr a f) (λ v g. keeps_by (truth v) (keeps_expr b g) keeps_same)
        keeps_expr (typed at t (form.part_length k)) f = keeps_same
        keeps_expr (typed at t (form.part_element k i)) f =
            keeps_then (keeps_expr i f) (λ v g. keeps_part at k (number v) (λ n j. keeps_read at n j g))

        keeps_exprs : (es : TypedExprs) (f : Slots) (vs : List (Value ℕ)) (j : List (Value ℕ) → Slots → Tree)
            → ((ws : List (Value ℕ)) (g : Slots) → Keeps L g (j ws g)) → Keeps L f (of_exprs in_order P dp es f vs j)
        keeps_exprs no_exprs f vs j h = h vs f
        keeps_exprs (more_exprs e es) f vs j h = keeps_then (keeps_expr e f) (λ v g. keeps_exprs es g (v ∷ vs) j h)
