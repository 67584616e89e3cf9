-- The outer locals that a branch touches, as the code lists them.
use Rattle.std.proofs.Common.{◌≡◌, ◌∙◌, ◌↔◌, ◌⊎◌, ℕ, zero, suc, ◌+◌, ◌<◌, ◌≤◌, Bool, true, false, not, cond, max, fold, nat_lt, length, ◌||◌, ◌&&◌, ◌==◌, IsTrue, Contains, List, [], ◌∷◌, ◌++◌, Less, Equal, Greater, Ordering, inl, inr, ⊎_elim, refl, sym, ap, subst, arith}
use Rattle.std.proofs.lemmas.Bool.{false≢true, and_parts, or_cases, cases_eq, eqb-true}
use Rattle.std.proofs.lemmas.Bool.Decides.{nat_tests, Decides-eqb, Decides-or, same_from_decides}
use Rattle.std.proofs.lemmas.Cmp.{ranked}
use Rattle.std.proofs.lemmas.List.Elements.{All-contains, Contains-append_left, Contains-append_right}
use Rattle.std.proofs.lemmas.Map.Keys.{sorted_tail}
use Rattle.std.proofs.lemmas.Map.Made.{Contains-tail, is_member-Decides}
use Rattle.std.proofs.lemmas.Map.Views.{All-after_first}
use Rattle.std.specs.Bool.{Decides}
use Rattle.std.specs.List.{list_any, AllByRecursion}
use Rattle.std.specs.List.Sorted.{IsStrictlySortedBy}
use Rattle.std.specs.Ordering.{nat_cmp}
use Rattle.std.specs.Set.{is_member}
use Rattle.lang_base.specs.Pairs.{NoPair}
use Rattle.syntax_tree.specs.Names.{expr_names, stmt_names, stmt_form_names, stmts_names}
use Rattle.syntax_tree.specs.Plain.{PlainStmt, statement, StmtForm, block, assign_local, choice, choice_else, while_loop, cobegin, foreach, foreach_parts, atomic, PlainStmts, no_stmts, more_stmts}
use Rattle.body_locals.specs.declared.branch.Touched.{Touched}
use Rattle.body_locals.specs.Clash.{Uses, Disturbs, Clash}
use Rattle.body_locals.specs.Touches.{declares, stmt_reads, stmt_assigns, stmt_form_assigns, stmts_assign, branches_assign}
use Rattle.body_check.specs.Touching.{passing, bound_of, assigned, assigns_outer, disturbs, disturbs_some, some_disturb}
use Rattle.body_check.proofs.Pairs.{some_pair, met_is}

-- what is assigned is one of the names
mutual
  named : (x : ℕ) (s : PlainStmt) → stmt_assigns x s ≡ true → Contains (stmt_names s) x
  named x (statement place f) t = form_named x f t

  form_named : (x : ℕ) (f : StmtForm) → stmt_form_assigns x f ≡ true → Contains (stmt_form_names f) x
  form_named x (block all) t = all_named x all t
  form_named x (assign_local target value) t = (0, omega arith, eqb-true target.name x t)
  form_named x (choice test s) t = Contains-append_right (expr_names test) (stmt_names s) x (named x s t)
  form_named x (choice_else test s u) t =
      ⊎_elim
      (λ h.
      Contains-append_left (expr_names test ++ stmt_names s) (stmt_names u) x (Contains-append_right (expr_names test) (stmt_names s) x (named x s h)))
      (λ h. Contains-append_right (expr_names test ++ stmt_names s) (stmt_names u) x (named x u h)) (or_cases (stmt_assigns x s) (stmt_assigns x u) t)
  form_named x (while_loop test body) t = Contains-append_right (expr_names test) (stmt_names body) x (named x body t)
  form_named x (cobegin nd branches) t = branches_named x branches t
  form_named x (foreach nd var start count body) t =
      Contains-append_right (var.name ∷ []) (expr_names start ++ expr_names count ++ stmt_names body) x
      (Contains-append_right (expr_names start ++ expr_names count) (stmt_names body) x
      (named x body (and_parts (not (var.name == x)) (stmt_assigns x body) t).1))
  form_named x (foreach_parts view var array count body) t =
      Contains-append_right (view.name ∷ var.name ∷ []) (expr_names array ++ expr_names count ++ stmt_names body) x
      (Contains-append_right (expr_names array ++ expr_names count) (stmt_names body) x
      (named x body
      (and_parts (not (var.name == x)) (stmt_assigns x body)
      (and_parts (not (view.name == x)) (not (var.name == x) && stmt_assigns x body) t).1).1))
  form_named x (atomic all) t = all_named x all t
  form_named x f t = absurd (false≢true t)

  all_named : (x : ℕ) (ss : PlainStmts) → stmts_assign x ss ≡ true → Contains (stmts_names ss) x
  all_named x no_stmts t = absurd (false≢true t)
  all_named x (more_stmts s ss) t =
      ⊎_elim (λ h. Contains-append_left (stmt_names s) (stmts_names ss) x (named x s h))
      (λ h. Contains-append_right (stmt_names s) (stmts_names ss) x (all_named x ss (and_parts (not (declares x s)) (stmts_assign x ss) h).1))
      (or_cases (stmt_assigns x s) (not (declares x s) && stmts_assign x ss) t)

  branches_named : (x : ℕ) (ss : PlainStmts) → branches_assign x ss ≡ true → Contains (stmts_names ss) x
  branches_named x no_stmts t = absurd (false≢true t)
  branches_named x (more_stmts s ss) t =
      ⊎_elim (λ h. Contains-append_left (stmt_names s) (stmts_names ss) x (named x s h))
      (λ h. Contains-append_right (stmt_names s) (stmts_names ss) x (branches_named x ss h))
      (or_cases (stmt_assigns x s) (branches_assign x ss) t)

-- each name is below the bound
within : (b : ℕ) (xs : List ℕ) (x : ℕ) → x < b → x < fold (λ bound name. max bound (suc name)) b xs
within b [] x lt = lt
within b (y ∷ ys) x lt = within (max b (suc y)) ys x (omega (arith, lt))

below : (b : ℕ) (xs : List ℕ) (x : ℕ) → Contains xs x → x < fold (λ bound name. max bound (suc name)) b xs
below b [] x h = absurd (omega (arith, h.1))
below b (y ∷ ys) x (zero, lt, is) = within (max b (suc y)) ys x (let e : y ≡ x = is in omega (arith, e))
below b (y ∷ ys) x (suc k, lt, is) = below (max b (suc y)) ys x (k, omega (arith, lt), is)

-- the numbers that pass a test, in order
kept_first : (b : Bool) (k : ℕ) (xs : List ℕ) → b ≡ true → Contains (cond b (k ∷ xs) xs) k
kept_first true k xs t = (0, omega arith, refl)
kept_first false k xs t = absurd (false≢true t)

kept_later : (b : Bool) (k : ℕ) (xs : List ℕ) (x : ℕ) → Contains xs x → Contains (cond b (k ∷ xs) xs) x
kept_later true k xs x h = Contains-append_right (k ∷ []) xs x h
kept_later false k xs x h = h

first_or_later : (k : ℕ) (xs : List ℕ) (x : ℕ) → Contains (k ∷ xs) x → (k ≡ x) ⊎ Contains xs x
first_or_later k xs x (zero, lt, is) = inl is
first_or_later k xs x (suc i, lt, is) = inr (i, omega (arith, lt), is)

kept_cases : (b : Bool) (k : ℕ) (xs : List ℕ) (x : ℕ) → Contains (cond b (k ∷ xs) xs) x → ((b ≡ true) × (k ≡ x)) ⊎ Contains xs x
kept_cases true k xs x h = ⊎_elim (λ (e : k ≡ x). inl (refl, e)) (λ (c : Contains xs x). inr c) (first_or_later k xs x h)
kept_cases false k xs x h = inr h

passing_has : (test : ℕ → Bool) (k n x : ℕ) → k ≤ x → x < k + n → test x ≡ true → Contains (passing test k n) x
passing_has test k zero x low high t = absurd (omega (arith, low, high))
passing_has test k (suc n) x low high t =
    ⊎_elim
    (λ (same : k ≡ x). subst (λ (z : ℕ). Contains (cond (test k) (k ∷ passing test (suc k) n) (passing test (suc k) n)) z) same (kept_first (test k) k _ (ap test same ∙ t)))
    (λ (other : k ≡ x → ⊥). kept_later (test k) k _ x (passing_has test (suc k) n x (omega (arith, low, other)) (omega (arith, high)) t))
    (cases_eq k x)

passing_only : (test : ℕ → Bool) (k n x : ℕ) → Contains (passing test k n) x → (k ≤ x) × (test x ≡ true)
passing_only test k zero x h = absurd (omega (arith, h.1))
passing_only test k (suc n) x h =
    ⊎_elim
    (λ (first : (test k ≡ true) × (k ≡ x)). (omega (arith, first.1), sym (ap test first.1) ∙ first.0))
    (λ (later : Contains (passing test (suc k) n) x). let p = passing_only test (suc k) n x later in (omega (arith, p.0), p.1))
    (kept_cases (test k) k _ x h)

below_less : (k x : ℕ) → k < x → nat_cmp k x ≡ Less
below_less k x lt = grind (arith, nat_tests)

kept_above : (j : ℕ) (b : Bool) (k : ℕ) (xs : List ℕ) → j < k → AllByRecursion (λ y. nat_cmp j y ≡ Less) xs → AllByRecursion (λ y. nat_cmp j y ≡ Less) (cond b (k ∷ xs) xs)
kept_above j true k xs lt h = (below_less j k lt, h)
kept_above j false k xs lt h = h

all_above : (test : ℕ → Bool) (j k n : ℕ) → j < k → AllByRecursion (λ y. nat_cmp j y ≡ Less) (passing test k n)
all_above test j k zero lt = tt
all_above test j k (suc n) lt = kept_above j (test k) k _ lt (all_above test j (suc k) n (omega (arith, lt)))

kept_sorted : (b : Bool) (k : ℕ) (xs : List ℕ) → AllByRecursion (λ y. nat_cmp k y ≡ Less) xs → IsStrictlySortedBy nat_cmp xs → IsStrictlySortedBy nat_cmp (cond b (k ∷ xs) xs)
unfolding IsStrictlySortedBy
kept_sorted true k xs h s = (h, s)
kept_sorted false k xs h s = s

none_sorted : IsStrictlySortedBy nat_cmp []
unfolding IsStrictlySortedBy
none_sorted = tt

passing_sorted : (test : ℕ → Bool) (k n : ℕ) → IsStrictlySortedBy nat_cmp (passing test k n)
passing_sorted test k zero = none_sorted
passing_sorted test k (suc n) = kept_sorted (test k) k _ (all_above test k (suc k) n (omega arith)) (passing_sorted test (suc k) n)

-- two lists in order that hold the same numbers are the same
nothing_inside : (x : ℕ) → Contains [] x → ⊥
nothing_inside x (k, lt, e) = omega arith

first_inside : (x : ℕ) (xs : List ℕ) → Contains (x ∷ xs) x
first_inside x xs = (0, omega arith, refl)

later_inside : (x : ℕ) (xs : List ℕ) (z : ℕ) → Contains xs z → Contains (x ∷ xs) z
later_inside x xs z held = Contains-append_right (x ∷ []) xs z held

above_first : (y : ℕ) (ys : List ℕ) (x : ℕ) → IsStrictlySortedBy nat_cmp (y ∷ ys) → Contains ys x → y < x
above_first y ys x sorted held = ranked y x Less (sym (All-contains (λ q. nat_cmp y q ≡ Less) ys x (All-after_first nat_cmp y ys sorted) held))

not_below : (x y : ℕ) (r : Ordering) → r ≡ nat_cmp x y → (x < y → ⊥) → y ≤ x
not_below x y Less is never = absurd (never (ranked x y Less is))
not_below x y Equal is never = let e : x ≡ y = ranked x y Equal is in omega (arith, e)
not_below x y Greater is never = let g : y < x = ranked x y Greater is in omega (arith, g)

at_least : (y : ℕ) (ys : List ℕ) (x : ℕ) → IsStrictlySortedBy nat_cmp (y ∷ ys) → Contains (y ∷ ys) x → y ≤ x
at_least y ys x sorted held =
    not_below x y (nat_cmp x y) refl
    (λ below. let above : y < x = above_first y ys x sorted (Contains-tail y ys x (λ e. omega (arith, below, e)) held) in omega (arith, below, above))

same_sorted : (xs ys : List ℕ) → IsStrictlySortedBy nat_cmp xs → IsStrictlySortedBy nat_cmp ys → ((x : ℕ) → Contains xs x → Contains ys x) →
    ((x : ℕ) → Contains ys x → Contains xs x) → xs ≡ ys
same_sorted [] [] p q f g = refl
same_sorted [] (y ∷ ys) p q f g = absurd (nothing_inside y (g y (first_inside y ys)))
same_sorted (x ∷ xs) [] p q f g = absurd (nothing_inside x (f x (first_inside x xs)))
same_sorted (x ∷ xs) (y ∷ ys) p q f g =
    let low : y ≤ x = at_least y ys x q (f x (first_inside x xs)) in
    let high : x ≤ y = at_least x xs y p (g y (first_inside y ys)) in
    let e : x ≡ y = omega (arith, low, high) in
    ap (λ z. z ∷ xs) e
    ∙ ap (λ zs. y ∷ zs)
    (same_sorted xs ys (sorted_tail nat_cmp x xs p) (sorted_tail nat_cmp y ys q)
    (λ z held.
    Contains-tail y ys z (λ d. let above : x < z = above_first x xs z p held in omega (arith, e, d, above)) (f z (later_inside x xs z held)))
    (λ z held.
    Contains-tail x xs z (λ d. let above : y < z = above_first y ys z q held in omega (arith, e, d, above)) (g z (later_inside y ys z held))))

-- the list of what is assigned
pub assigned_is : (s : PlainStmt) (writes : List ℕ) → ((x : ℕ) → IsTrue (stmt_assigns x s) ↔ Contains writes x) → IsStrictlySortedBy nat_cmp writes → writes ≡ assigned s
assigned_is s writes each sorted =
    same_sorted writes (assigned s) sorted (passing_sorted (λ x. stmt_assigns x s) 0 (bound_of (stmt_names s)))
    (λ x held.
    let t : stmt_assigns x s ≡ true = (each x).1 held in
    let lt : x < bound_of (stmt_names s) = below 0 (stmt_names s) x (named x s t) in
    passing_has (λ x. stmt_assigns x s) 0 (bound_of (stmt_names s)) x (omega arith) (omega (arith, lt)) t)
    (λ x held. (each x).0 (passing_only (λ x. stmt_assigns x s) 0 (bound_of (stmt_names s)) x held).1)

above_none : (n : ℕ) → nat_lt 0 (suc n) ≡ true
above_none n = grind (arith, nat_tests)

some_or_none : (xs : List ℕ) (empty : Bool) → IsTrue empty ↔ (xs ≡ []) → not empty ≡ nat_lt 0 (length xs)
some_or_none [] true e = refl
some_or_none [] false e = absurd (false≢true (e.1 refl))
some_or_none (x ∷ xs) true e = let none : x ∷ xs ≡ [] = e.0 refl in absurd (cc)
some_or_none (x ∷ xs) false e = sym (above_none (length xs))

pub assigns_is : (s : PlainStmt) (writes : List ℕ) (empty : Bool) → ((x : ℕ) → IsTrue (stmt_assigns x s) ↔ Contains writes x) → IsStrictlySortedBy nat_cmp writes →
    IsTrue empty ↔ (writes ≡ []) → not empty ≡ assigns_outer s
assigns_is s writes empty each sorted e = some_or_none writes empty e ∙ ap (λ (z : List ℕ). nat_lt 0 (length z)) (assigned_is s writes each sorted)

-- a branch touches these
pub record TouchedBy (branch : PlainStmt) (touched : Touched) : Type 0 where
  pub reads : (x : ℕ) → IsTrue (stmt_reads x branch) ↔ Contains touched.reads x
  pub assigns : (x : ℕ) → IsTrue (stmt_assigns x branch) ↔ Contains touched.writes x
  pub once : IsStrictlySortedBy nat_cmp touched.reads × IsStrictlySortedBy nat_cmp touched.writes

-- the branches touch these, one after the other
abbrev pub AllTouched : PlainStmts → List Touched → Type 0
AllTouched no_stmts [] = Unit {0}
AllTouched no_stmts (t ∷ ts) = ⊥
AllTouched (more_stmts s ss) [] = ⊥
AllTouched (more_stmts s ss) (t ∷ ts) = TouchedBy s t × AllTouched ss ts

-- whether two clash, by the lists
abbrev uses_by : Touched → ℕ → Bool
uses_by b x = is_member ◌==◌ b.reads x || is_member ◌==◌ b.writes x

abbrev disturbs_by : Touched → Touched → Bool
disturbs_by a b = list_any (uses_by b) a.writes

abbrev clash_by : Touched → Touched → Bool
clash_by a b = disturbs_by a b || disturbs_by b a

uses_is : (b : Touched) (x : ℕ) → Decides (uses_by b x) (Uses b x)
uses_is b x = Decides-or (is_member ◌==◌ b.reads x) (is_member ◌==◌ b.writes x) (is_member-Decides Decides-eqb b.reads x) (is_member-Decides Decides-eqb b.writes x)

abbrev SomeOf : (ℕ → Type 0) → List ℕ → Type 0
SomeOf P xs = (x : ℕ) × Contains xs x × P x

some_to : (P : ℕ → Type 0) (test : ℕ → Bool) (xs : List ℕ) → ((x : ℕ) → Decides (test x) (P x)) → list_any test xs ≡ true → SomeOf P xs
some_to P test [] each t = absurd (false≢true t)
some_to P test (x ∷ xs) each t =
    ⊎_elim (λ (h : test x ≡ true). (x, first_inside x xs, (each x).0 h))
    (λ (h : list_any test xs ≡ true). let rest = some_to P test xs each h in (rest.0, later_inside x xs rest.0 rest.1, rest.2))
    (or_cases (test x) (list_any test xs) t)

or_left : (a b : Bool) → a ≡ true → (a || b) ≡ true
or_left true b t = refl
or_left false b t = absurd (false≢true t)

or_right : (a b : Bool) → b ≡ true → (a || b) ≡ true
or_right true b t = refl
or_right false b t = t

some_from : (P : ℕ → Type 0) (test : ℕ → Bool) (xs : List ℕ) (x : ℕ) → ((x : ℕ) → Decides (test x) (P x)) → Contains xs x → P x → list_any test xs ≡ true
some_from P test [] x each held p = absurd (nothing_inside x held)
some_from P test (y ∷ ys) x each held p =
    ⊎_elim (λ (same : y ≡ x). or_left (test y) (list_any test ys) ((each y).1 (subst P (sym same) p)))
    (λ (later : Contains ys x). or_right (test y) (list_any test ys) (some_from P test ys x each later p))
    (first_or_later y ys x held)

disturbs_is : (a b : Touched) → Decides (disturbs_by a b) (Disturbs a b)
disturbs_is a b = (some_to (Uses b) (uses_by b) a.writes (uses_is b), λ h. some_from (Uses b) (uses_by b) a.writes h.0 (uses_is b) h.1 h.2)

clash_is : (a b : Touched) → Decides (clash_by a b) (Clash a b)
clash_is a b = Decides-or (disturbs_by a b) (disturbs_by b a) (disturbs_is a b) (disturbs_is b a)

any_same : (p q : ℕ → Bool) (xs : List ℕ) → ((x : ℕ) → p x ≡ q x) → list_any p xs ≡ list_any q xs
any_same p q [] same = refl
any_same p q (x ∷ xs) same = ap (λ z. z || list_any p xs) (same x) ∙ ap (λ z. q x || z) (any_same p q xs same)

disturbs_so : (s u : PlainStmt) (a b : Touched) → TouchedBy s a → TouchedBy u b → disturbs s u ≡ disturbs_by a b
disturbs_so s u a b p q =
    any_same (λ x. stmt_reads x u || stmt_assigns x u) (uses_by b) (assigned s)
    (λ x. ap (λ z. z || stmt_assigns x u) (same_from_decides (stmt_reads x u) (is_member ◌==◌ b.reads x) (q.reads x) (is_member-Decides Decides-eqb b.reads x))
    ∙ ap (λ z. is_member ◌==◌ b.reads x || z) (same_from_decides (stmt_assigns x u) (is_member ◌==◌ b.writes x) (q.assigns x) (is_member-Decides Decides-eqb b.writes x)))
    ∙ ap (list_any (uses_by b)) (sym (assigned_is s a.writes p.assigns p.once.1))

some_so : (s : PlainStmt) (a : Touched) (ss : PlainStmts) (ts : List Touched) → TouchedBy s a → AllTouched ss ts → disturbs_some s ss ≡ list_any (clash_by a) ts
some_so s a no_stmts [] p all = refl
some_so s a no_stmts (t ∷ ts) p all = absurd all
some_so s a (more_stmts u us) [] p all = absurd all
some_so s a (more_stmts u us) (t ∷ ts) p all =
    ap (λ z. (z || disturbs u s) || disturbs_some s us) (disturbs_so s u a t p all.0)
    ∙ ap (λ z. (disturbs_by a t || z) || disturbs_some s us) (disturbs_so u s t a all.0 p)
    ∙ ap (λ z. clash_by a t || z) (some_so s a us ts p all.1)

disturb_so : (ss : PlainStmts) (ts : List Touched) → AllTouched ss ts → some_disturb ss ≡ some_pair clash_by ts
disturb_so no_stmts [] all = refl
disturb_so no_stmts (t ∷ ts) all = absurd all
disturb_so (more_stmts s ss) [] all = absurd all
disturb_so (more_stmts s ss) (t ∷ ts) all =
    ap (λ z. z || some_disturb ss) (some_so s t ss ts all.0 all.1) ∙ ap (λ z. list_any (clash_by t) ts || z) (disturb_so ss ts all.1)

-- whether two branches clash
pub clashing_is : (ss : PlainStmts) (ts : List Touched) (met : Bool) → AllTouched ss ts → (met ≡ false → NoPair Clash ts) → (met ≡ true → ¬ NoPair Clash ts) →
    met ≡ some_disturb ss
clashing_is ss ts met all none some = met_is Clash clash_by ts met clash_is none some ∙ sym (disturb_so ss ts all)

-- it has just the locals that are assigned (the laws of `sound_bodies` cite these two)
pub assigned_has : (s : PlainStmt) (x : ℕ) → stmt_assigns x s ≡ true → Contains (assigned s) x
assigned_has s x t =
    let lt : x < bound_of (stmt_names s) = below 0 (stmt_names s) x (named x s t) in
    passing_has (λ y. stmt_assigns y s) 0 (bound_of (stmt_names s)) x (omega arith) (omega (arith, lt)) t

pub assigned_only : (s : PlainStmt) (x : ℕ) → Contains (assigned s) x → stmt_assigns x s ≡ true
assigned_only s x held = (passing_only (λ y. stmt_assigns y s) 0 (bound_of (stmt_names s)) x held).1

some_in : (x : ℕ) (xs : List ℕ) → Contains xs x → nat_lt 0 (length xs) ≡ true
some_in x [] held = absurd (nothing_inside x held)
some_in x (y ∷ ys) held = above_none (length ys)

pub assigns_some : (s : PlainStmt) (x : ℕ) → stmt_assigns x s ≡ true → assigns_outer s ≡ true
assigns_some s x t = some_in x (assigned s) (assigned_has s x t)
