-- How what is counted in the parts of a body is counted on from one to the next, and that statements that are alike give the same.
use Rattle.std.proofs.Common.{◌≡◌, ◌∙◌, ℕ, suc, ◌+◌, List, [], ◌∷◌, ◌++◌, length, append-nil, refl, ap, sym, subst, arith}
use Rattle.lang_base.specs.declared.effect.Effect.{Effect}
use Rattle.lang_typed.specs.declared.stmt.Forking.{Forking}
use Rattle.lang_typed.specs.Plain.{TypedExpr, Source, TypedStmt, StmtForm, TypedStmts, no_stmts, more_stmts, TypedBranches, more_branches}
use Rattle.lang_typed.specs.Plain.{StmtForm as form}
use Rattle.syntax_means.specs.Numbered.{Counts, given_in, given_in_all, given_in_branches, own_regions, own_slots}
use Rattle.syntax_means.proofs.Alike.{StmtAlike, StmtsAlike, BranchesAlike}

split : (xs ys : List ℕ) (n end : ℕ) → Counts n end (xs ++ ys) → Counts n (n + length xs) xs × Counts (n + length xs) end ys
split [] ys n end h = let same : n ≡ n + 0 = omega arith in (same, subst (λ k. Counts k end ys) same h)
split (x ∷ xs) ys n end h =
    let w = split xs ys (suc n) end h.1 in
    let same : suc n + length xs ≡ n + suc (length xs) = omega arith in
    ((h.0, subst (λ k. Counts (suc n) k xs) same w.0), subst (λ k. Counts k end ys) same w.1)

pub one_end : (xs : List ℕ) (n i j : ℕ) → Counts n i xs → Counts n j xs → i ≡ j
one_end [] n i j h g = sym h ∙ g
one_end (x ∷ xs) n i j h g = one_end xs (suc n) i j h.1 g.1

pub same_numbers : (xs ys : List ℕ) (n i j : ℕ) → length xs ≡ length ys → Counts n i xs → Counts n j ys → xs ≡ ys
same_numbers [] [] n i j long h g = refl
same_numbers [] (y ∷ ys) n i j long h g = absurd (omega (arith, long))
same_numbers (x ∷ xs) [] n i j long h g = absurd (omega (arith, long))
same_numbers (x ∷ xs) (y ∷ ys) n i j long h g =
    let here : x ≡ y = h.0 ∙ sym g.0 in
    let more = same_numbers xs ys (suc n) i j (omega (arith, long)) h.1 g.1 in
    cc (here, more)

-- slots that are counted from one number on, and local regions from another
pub record Counted (n r : ℕ) (slots regions : List ℕ) : Type 0 where
  pub slots_end : ℕ
  pub regions_end : ℕ
  pub of_slots : Counts n slots_end slots
  pub of_regions : Counts r regions_end regions

abbrev pub CountedStmt : ℕ → ℕ → TypedStmt → Type 0
CountedStmt n r s = Counted n r (given_in own_slots s) (given_in own_regions s)

abbrev pub CountedAll : ℕ → ℕ → TypedStmts → Type 0
CountedAll n r ss = Counted n r (given_in_all own_slots ss) (given_in_all own_regions ss)

abbrev pub CountedBranches : ℕ → ℕ → TypedBranches → Type 0
CountedBranches n r bs = Counted n r (given_in_branches own_slots bs) (given_in_branches own_regions bs)

-- where it goes on behind a statement
abbrev pub slot_after : ℕ → TypedStmt → ℕ
slot_after n s = n + length (given_in own_slots s)

abbrev pub region_after : ℕ → TypedStmt → ℕ
region_after r s = r + length (given_in own_regions s)

first : {n r : ℕ} (xs ys us vs : List ℕ) → Counted n r (xs ++ ys) (us ++ vs) → Counted n r xs us
first {n} {r} xs ys us vs c =
    record { slots_end = n + length xs; regions_end = r + length us; of_slots = (split xs ys n c.slots_end c.of_slots).0; of_regions = (split us vs r c.regions_end c.of_regions).0 }

rest : {n r : ℕ} (xs ys us vs : List ℕ) → Counted n r (xs ++ ys) (us ++ vs) → Counted (n + length xs) (r + length us) ys vs
rest {n} {r} xs ys us vs c =
    record { slots_end = c.slots_end; regions_end = c.regions_end; of_slots = (split xs ys n c.slots_end c.of_slots).1; of_regions = (split us vs r c.regions_end c.of_regions).1 }

-- of a statement and more of them
pub in_first : {n r : ℕ} (s : TypedStmt) (ss : TypedStmts) → CountedAll n r (more_stmts s ss) → CountedStmt n r s
in_first s ss c = first (given_in own_slots s) (given_in_all own_slots ss) (given_in own_regions s) (given_in_all own_regions ss) c

pub in_rest : {n r : ℕ} (s : TypedStmt) (ss : TypedStmts) → CountedAll n r (more_stmts s ss) → CountedAll (slot_after n s) (region_after r s) ss
in_rest s ss c = rest (given_in own_slots s) (given_in_all own_slots ss) (given_in own_regions s) (given_in_all own_regions ss) c

pub in_one_branch : {n r : ℕ} (copies : List ℕ) (s : TypedStmt) (bs : TypedBranches) → CountedBranches n r (more_branches copies s bs) → CountedStmt n r s
in_one_branch copies s bs c = first (given_in own_slots s) (given_in_branches own_slots bs) (given_in own_regions s) (given_in_branches own_regions bs) c

pub in_more_branches : {n r : ℕ} (copies : List ℕ) (s : TypedStmt) (bs : TypedBranches) → CountedBranches n r (more_branches copies s bs) → CountedBranches (slot_after n s) (region_after r s) bs
in_more_branches copies s bs c = rest (given_in own_slots s) (given_in_branches own_slots bs) (given_in own_regions s) (given_in_branches own_regions bs) c

-- of the two parts of a choice
pub in_then : {n r : ℕ} (s t : TypedStmt) → Counted n r (given_in own_slots s ++ given_in own_slots t) (given_in own_regions s ++ given_in own_regions t) → CountedStmt n r s
in_then s t c = first (given_in own_slots s) (given_in own_slots t) (given_in own_regions s) (given_in own_regions t) c

pub in_else : {n r : ℕ} (s t : TypedStmt) → Counted n r (given_in own_slots s ++ given_in own_slots t) (given_in own_regions s ++ given_in own_regions t) →
    CountedStmt (slot_after n s) (region_after r s) t
in_else s t c = rest (given_in own_slots s) (given_in own_slots t) (given_in own_regions s) (given_in own_regions t) c

-- of a statement alone
pub alone : {n r : ℕ} (s : TypedStmt) → CountedStmt n r s → CountedAll n r (more_stmts s no_stmts)
alone {n} {r} s c = record {
  slots_end = c.slots_end;
  regions_end = c.regions_end;
  of_slots = subst (Counts n c.slots_end) (sym (append-nil (given_in own_slots s))) c.of_slots;
  of_regions = subst (Counts r c.regions_end) (sym (append-nil (given_in own_regions s))) c.of_regions;
}

-- of a declaration and what follows, of local regions, and of the loops
pub declared : {n r : ℕ} (x : ℕ) (xs ys : List ℕ) → Counted n r (x ∷ xs) ys → (x ≡ n) × Counted (suc n) r xs ys
declared x xs ys c = (c.of_slots.0, record { slots_end = c.slots_end; regions_end = c.regions_end; of_slots = c.of_slots.1; of_regions = c.of_regions })

pub part_declared : {n r : ℕ} (k : ℕ) (xs ys : List ℕ) → Counted n r (k ∷ (k + 1) ∷ (k + 2) ∷ (k + 3) ∷ (k + 4) ∷ xs) ys → (k ≡ n) × Counted (suc (suc (suc (suc (suc n))))) r xs ys
part_declared k xs ys c = (c.of_slots.0, record { slots_end = c.slots_end; regions_end = c.regions_end; of_slots = c.of_slots.1.1.1.1.1; of_regions = c.of_regions })

pub regions_declared : {n r : ℕ} (rs : List ℕ) (xs ys : List ℕ) → Counted n r xs ((rs ++ []) ++ ys) → Counts r (r + length rs) rs × Counted n (r + length rs) xs ys
regions_declared {n} {r} rs xs ys c =
    let moved = subst (λ (z : List ℕ). Counts r c.regions_end (z ++ ys)) (append-nil rs) c.of_regions in
    let w = split rs ys r c.regions_end moved in
    (w.0, record { slots_end = c.slots_end; regions_end = c.regions_end; of_slots = c.of_slots; of_regions = w.1 })

-- the own numbers of a statement don't depend on the statements in it, nor on effects and copies
record Ignores (own : StmtForm → List ℕ) : Type 0 where
  blocks : (ss ts : TypedStmts) → own (form.block ss) ≡ own (form.block ts)
  choices : (e : TypedExpr) (s t : TypedStmt) → own (form.choice e s) ≡ own (form.choice e t)
  choices_else : (e : TypedExpr) (s t u v : TypedStmt) → own (form.choice_else e s u) ≡ own (form.choice_else e t v)
  whiles : (e : TypedExpr) (s t : TypedStmt) → own (form.while_loop e s) ≡ own (form.while_loop e t)
  atomics : (entry other : List Effect) (ss ts : TypedStmts) → own (form.atomic entry ss) ≡ own (form.atomic other ts)
  cobegins : (forking : Forking) (bs cs : TypedBranches) → own (form.cobegin forking bs) ≡ own (form.cobegin forking cs)
  foreaches : (forking : Forking) (x : ℕ) (start count : TypedExpr) (s t : TypedStmt) → own (form.foreach forking x start count s) ≡ own (form.foreach forking x start count t)
  foreaches_parts : (k : ℕ) (source : Source) (count : TypedExpr) (s t : TypedStmt) → own (form.foreach_parts k source count s) ≡ own (form.foreach_parts k source count t)

slots_ignore : Ignores own_slots
slots_ignore = record {
  blocks = λ ss ts. refl;
  choices = λ e s t. refl;
  choices_else = λ e s t u v. refl;
  whiles = λ e s t. refl;
  atomics = λ entry other ss ts. refl;
  cobegins = λ forking bs cs. refl;
  foreaches = λ forking x start count s t. refl;
  foreaches_parts = λ k source count s t. refl;
}

regions_ignore : Ignores own_regions
regions_ignore = record {
  blocks = λ ss ts. refl;
  choices = λ e s t. refl;
  choices_else = λ e s t u v. refl;
  whiles = λ e s t. refl;
  atomics = λ entry other ss ts. refl;
  cobegins = λ forking bs cs. refl;
  foreaches = λ forking x start count s t. refl;
  foreaches_parts = λ k source count s t. refl;
}

both_same : {us vs xs ys : List ℕ} → us ≡ vs → xs ≡ ys → us ++ xs ≡ vs ++ ys
both_same e d = cc

module _ (own : StmtForm → List ℕ) (ignores : Ignores own)
  where
    mutual
      given_same : {s t : TypedStmt} → StmtAlike s t → given_in own s ≡ given_in own t
      given_same StmtAlike.same = refl
      given_same (StmtAlike.blocks a) = both_same (ignores.blocks _ _) (all_given a)
      given_same (StmtAlike.choices a) = both_same (ignores.choices _ _ _) (given_same a)
      given_same (StmtAlike.choices_else a b) = both_same (ignores.choices_else _ _ _ _ _) (both_same (given_same a) (given_same b))
      given_same (StmtAlike.whiles a) = both_same (ignores.whiles _ _ _) (given_same a)
      given_same (StmtAlike.atomics a) = both_same (ignores.atomics _ _ _ _) (all_given a)
      given_same (StmtAlike.cobegins a) = both_same (ignores.cobegins _ _ _) (branches_given a)
      given_same (StmtAlike.foreaches a) = both_same (ignores.foreaches _ _ _ _ _ _) (given_same a)
      given_same (StmtAlike.foreaches_parts a) = both_same (ignores.foreaches_parts _ _ _ _ _) (given_same a)

      all_given : {ss ts : TypedStmts} → StmtsAlike ss ts → given_in_all own ss ≡ given_in_all own ts
      all_given StmtsAlike.none_alike = refl
      all_given (StmtsAlike.more_alike a more) = both_same (given_same a) (all_given more)

      branches_given : {bs cs : TypedBranches} → BranchesAlike bs cs → given_in_branches own bs ≡ given_in_branches own cs
      branches_given BranchesAlike.no_branch_alike = refl
      branches_given (BranchesAlike.branch_alike a more) = both_same (given_same a) (branches_given more)

pub slots_same : {ss ts : TypedStmts} → StmtsAlike ss ts → given_in_all own_slots ss ≡ given_in_all own_slots ts
slots_same a = all_given own_slots slots_ignore a

pub regions_same : {ss ts : TypedStmts} → StmtsAlike ss ts → given_in_all own_regions ss ≡ given_in_all own_regions ts
regions_same a = all_given own_regions regions_ignore a

-- behind statements that are alike it goes on from the same numbers
pub goes_on : (n r : ℕ) (s t : TypedStmt) (xs ys : List ℕ) → StmtAlike s t → Counted (slot_after n t) (region_after r t) xs ys → Counted (slot_after n s) (region_after r s) xs ys
goes_on n r s t xs ys a c =
    let slots : slot_after n t ≡ slot_after n s = ap (λ (z : List ℕ). n + length z) (sym (given_same own_slots slots_ignore a)) in
    let regions : region_after r t ≡ region_after r s = ap (λ (z : List ℕ). r + length z) (sym (given_same own_regions regions_ignore a)) in
    subst (λ k. Counted k (region_after r s) xs ys) slots (subst (λ k. Counted (slot_after n t) k xs ys) regions c)
