-- What passes leaves each local alone that isn't a variable in its scope: its statements.
use Rattle.std.proofs.Common.{◌≡◌, ℕ, zero, suc, ◌+◌, ◌==◌, ℤ, pos, Bool, true, false, cond, List, [], ◌∷◌, Option, Some, None, refl, ap, ap₂, ◌∙◌, lit<, arith, ◌||◌}
use Rattle.std.proofs.lemmas.Bool.{eqb-true}
use Rattle.std.proofs.lemmas.List.Folds.{list_any-append}
use Rattle.std.specs.Prelude.{All}
use Rattle.lang_base.specs.declared.place.Place.{Place}
use Rattle.lang_typed.specs.declared.stmt.Forking.{Forking}
use Rattle.lang_typed.specs.Plain.{PlainProgram, TypedStmt, statement, TypedStmts, TypedBranches}
use Rattle.lang_typed.specs.Plain.{StmtForm as stmt}
use Rattle.lang_typed.specs.Scope.{Scope, Local, with_local}
use Rattle.lang_typed.specs.Effects.{Own}
use Rattle.lang_typed.specs.Statements.{Passes, AllPass, BranchesPass, no_branch, one_branch, IsVariable, IsFree, cuts_array, cuts_part}
use Rattle.lang_typed.specs.Statements.{Passes as passes}
use Rattle.lang_typed.specs.Statements.{AllPass as all}
use Rattle.lang_meaning.specs.Values.{Value, Int}
use Rattle.lang_meaning.specs.Asking.{meaning}
use Rattle.lang_meaning.specs.Counts.{number, truth, slot_value}
use Rattle.lang_meaning.specs.Elision.{LocalRegion, in_order}
use Rattle.lang_meaning.specs.Expressions.{Deeper, of_expr}
use Rattle.lang_meaning.specs.Statements.{with_value, all_copies, forks, part_begun, part_taken_over, parts_of_array, of_stmt, of_stmts}
use Rattle.syntax_means.proofs.elided.Copies.{among, of_all_among}
use Rattle.syntax_means.proofs.elided.Frames.{settled, Still, still_then, still_set, Keeps, keeps_from, keeps_ret, keeps_same, keeps_back, keeps_trap, keeps_act}
use Rattle.syntax_means.proofs.elided.Frames.{keeps_then, keeps_by, keeps_alone, keeps_less, keeps_loop, keeps_unless, keeps_write, keeps_part, keeps_makes}
use Rattle.syntax_means.proofs.elided.Frames.{keeps_split, keeps_expr}
use Rattle.syntax_means.proofs.elided.Runs.{Slots}

-- a local more
more_settled : (L : Scope) (x : ℕ) (l : Local) → settled (L.local x) ≡ false → (y : ℕ) → settled (L.local y) ≡ true
    → settled ((with_local x l L).local y) ≡ true
more_settled L x l free y e = at (y == x) refl
  where
    at : (b : Bool) → (y == x) ≡ b → settled (cond b (Some l) (L.local y)) ≡ true
    at true i = let k : settled (L.local y) ≡ false = ap (λ z. settled (L.local z)) (eqb-true y x i) ∙ free in absurd (cc)
    at false i = e

-- what branches copy back is variable
pub copies_are_variable : {P : PlainProgram} {L : Scope} {others : List ℕ} {bs : TypedBranches} {Es : List (List Own)} → BranchesPass P L others bs Es
    → (x : ℕ) → (IsVariable L x → ⊥) → among x (all_copies bs) ≡ false
copies_are_variable no_branch x other = refl
copies_are_variable {L = L} (one_branch {copies = copies} {bs = bs} vars apart d more) x other =
    list_any-append (λ z. x == z) copies (all_copies bs) ∙ ap₂ (λ a b. a || b) (at (among x copies) refl) (copies_are_variable more x other)
  where
    at : (b : Bool) → among x copies ≡ b → b ≡ false
    at true i = absurd (other (of_all_among (IsVariable L) copies x vars i))
    at false i = refl

settled_other : (L : Scope) (x : ℕ) → settled (L.local x) ≡ true → IsVariable L x → ⊥
settled_other L x e h = let k : settled (L.local x) ≡ false = ap settled h.1 in cc

module _ (P : PlainProgram) (L : Scope) where
  keeps_cobegin : (dp : Option (Deeper ℕ LocalRegion)) (at : Place) (forking : Forking) (bs : TypedBranches) (f : Slots)
      → ((x : ℕ) → settled (L.local x) ≡ true → among x (all_copies bs) ≡ false) → Keeps L f (of_stmt in_order P dp (statement at (stmt.cobegin forking bs)) f)
  keeps_cobegin None at forking bs f apart = keeps_trap
  keeps_cobegin (Some dp) at forking bs f apart = keeps_split (all_copies bs) f apart

  keeps_forks : (dp : Option (Deeper ℕ LocalRegion)) (at : Place) (forking : Forking) (takes : Option ℕ) (x : ℕ) (s : TypedStmt) (start count : ℤ) (f : Slots)
      → Keeps L f (forks dp at forking takes x s start count f)
  keeps_forks None at forking takes x s start count f = keeps_trap
  keeps_forks (Some dp) at forking takes x s start count f = keeps_split [] f (λ y e. refl)

  keeps_parts : (dp : Option (Deeper ℕ LocalRegion)) (at : Place) (k : ℕ) (s : TypedStmt) (f : Slots) → settled (L.local (k + 2)) ≡ false
      → Keeps L f (parts_of_array dp at k s f)
  keeps_parts dp at k s f free =
      keeps_unless at (slot_value f.values k) (λ n. keeps_act (λ a. keeps_from (still_set (k + 2) _ free) (keeps_forks dp at _ _ _ s _ _ _)))

-- the slots of a part are free
module _ (L : Scope) (k : ℕ) (free : All (λ i. IsFree L (k + i)) (0 ∷ 1 ∷ 2 ∷ 3 ∷ 4 ∷ [])) where
  free_first : settled (L.local k) ≡ false
  free_first = let e : k ≡ k + 0 = omega arith in ap (λ z. settled (L.local z)) e ∙ ap settled (free 0 0 (lit< tt)).0

  free_second : settled (L.local (k + 1)) ≡ false
  free_second = ap settled (free 1 0 (lit< tt)).0

  free_third : settled (L.local (k + 2)) ≡ false
  free_third = ap settled (free 2 0 (lit< tt)).0

  free_fourth : settled (L.local (k + 3)) ≡ false
  free_fourth = ap settled (free 3 0 (lit< tt)).0

  -- the array, or the part that is cut, is written into the first two
  still_begun : (f : Slots) (v u : Value ℕ) → Still L f (with_value (with_value f k v) (k + 1) u)
  still_begun f v u = still_then (still_set k v free_first) (still_set (k + 1) u free_second)

module _ (P : PlainProgram) (dp : Option (Deeper ℕ LocalRegion)) where
  mutual
    pub keeps_stmt : {L : Scope} {s : TypedStmt} {E : List Own} → Passes P L s E → (f : Slots) → Keeps L f (of_stmt in_order P dp s f)
    keeps_stmt (passes.store {x = x} {e = e} is has sub) f = keeps_then (keeps_expr P dp e f) (λ v g. keeps_ret (still_set x v (ap settled is)))
    keeps_stmt (passes.store_field {at = at} {o = o} {e = e} has_object class field known has sub) f =
        keeps_then (keeps_expr P dp o f) (λ v g. keeps_then (keeps_expr P dp e g) (λ u h. keeps_unless at v (λ n. keeps_write at n _ u h)))
    keeps_stmt (passes.store_element {at = at} {a = a} {i = i} {e = e} has_array is_array has_index is_int rigid has sub) f =
        keeps_then (keeps_expr P dp a f) (λ v g. keeps_then (keeps_expr P dp i g) (λ j h. keeps_then (keeps_expr P dp e h) (λ u l.
        keeps_unless at v (λ n. keeps_write at n _ u l))))
    keeps_stmt (passes.store_part {at = at} {k = k} {i = i} {e = e} is has_index is_int has sub) f =
        keeps_then (keeps_expr P dp i f) (λ j g. keeps_then (keeps_expr P dp e g) (λ u h. keeps_part at k (number j) (λ n l. keeps_write at n l u h)))
    keeps_stmt (passes.perform {e = e} is has) f = keeps_then (keeps_expr P dp e f) (λ v g. keeps_same)
    keeps_stmt (passes.nested d) f = keeps_stmts d f
    keeps_stmt (passes.choice {e = e} has is d) f =
        keeps_then (keeps_expr P dp e f) (λ v g. keeps_by (truth v) keeps_same (keeps_alone (keeps_stmts d g)))
    keeps_stmt (passes.choice_else {e = e} has is d others) f =
        keeps_then (keeps_expr P dp e f) (λ v g. keeps_by (truth v) (keeps_alone (keeps_stmts others g)) (keeps_alone (keeps_stmts d g)))
    keeps_stmt {L = L} (passes.while_loop {e = e} {s = s} has is d) f =
        keeps_loop L (λ g. of_expr in_order P dp e g) (λ g. of_stmt in_order P dp s g) (λ g. keeps_expr P dp e g) (λ g. keeps_alone (keeps_stmts d g)) f
    keeps_stmt (passes.return_nothing is) f = keeps_back
    keeps_stmt (passes.return_value {e = e} is has sub) f = keeps_then (keeps_expr P dp e f) (λ v g. keeps_back)
    keeps_stmt (passes.print_int {e = e} has is) f = keeps_then (keeps_expr P dp e f) (λ v g. keeps_act (λ a. keeps_same))
    keeps_stmt (passes.print_boolean {e = e} has is) f = keeps_then (keeps_expr P dp e f) (λ v g. keeps_act (λ a. keeps_same))
    keeps_stmt passes.print_text f = keeps_act (λ a. keeps_same)
    keeps_stmt (passes.atomic d is) f =
        keeps_act (λ a. keeps_act (λ b. keeps_then (keeps_less (λ x e. e) (keeps_stmts d f)) (λ v g. keeps_act (λ c. keeps_same))))
    keeps_stmt {L = L} (passes.cobegin {at = at} {forking = forking} {bs = bs} nd d apart) f =
        keeps_cobegin P L dp at forking bs f (λ x e. copies_are_variable d x (settled_other L x e))
    keeps_stmt {L = L} (passes.foreach {at = at} {forking = forking} {x = x} {start = start} {count = count} {s = s} nd has is counts int free d apart) f =
        keeps_then (keeps_expr P dp start f)
        (λ v g. keeps_then (keeps_expr P dp count g) (λ u h. keeps_forks P L dp at forking None x s (number v) (number u) h))
    keeps_stmt {L = L} (passes.foreach_parts {at = at} {k = k} {count = count} {s = s} (cuts_array {e = e} has is full) counts int free d apart clash) f =
        keeps_then (keeps_expr P dp e f) (λ v g. keeps_from (still_begun L k free g v (Int (pos 0))) (keeps_then (keeps_expr P dp count (part_begun k v g)) (λ u h.
        keeps_from (still_set (k + 3) u (free_fourth L k free)) (keeps_parts P L dp at k s (with_value h (k + 3) u) (free_third L k free)))))
    keeps_stmt {L = L} (passes.foreach_parts {at = at} {k = k} {count = count} {s = s} (cuts_part {k = j} is) counts int free d apart clash) f =
        keeps_from (still_begun L k free f (slot_value f.values j) _) (keeps_then (keeps_expr P dp count (part_taken_over k j f)) (λ u g.
        keeps_from (still_then (still_set (k + 3) u (free_fourth L k free)) (still_set (k + 2) _ (free_third L k free))) (keeps_forks P L dp at _ _ _ s _ _ _)))

    pub keeps_stmts : {L : Scope} {ss : TypedStmts} {E : List Own} → AllPass P L ss E → (f : Slots) → Keeps L f (of_stmts in_order P dp ss f)
    keeps_stmts all.no_more f = keeps_same
    keeps_stmts (all.then' d completes more) f = keeps_then (keeps_stmt d f) (λ v g. keeps_stmts more g)
    keeps_stmts {L = L} (all.declare {x = x} {e = e} free good has sub more) f =
        keeps_then (keeps_then (keeps_expr P dp e f) (λ v g. keeps_ret (still_set x v (ap settled free.0))))
        (λ v g. keeps_less (more_settled L x _ (ap settled free.0)) (keeps_stmts more g))
    keeps_stmts (all.declare_regions {rs = rs} fresh more) f = keeps_then (keeps_makes rs f) (λ v g. keeps_less (λ x e. e) (keeps_stmts more g))

-- one call deeper
pub keeps_meaning : (P : PlainProgram) (d : ℕ) {L : Scope} {ss : TypedStmts} {E : List Own} → AllPass P L ss E → (f : Slots)
    → Keeps L f (meaning in_order P d ss f)
unfolding meaning
keeps_meaning P zero d f = keeps_stmts P None d f
keeps_meaning P (suc n) d f = keeps_stmts P (Some (meaning in_order P n)) d f
