-- Branches of a `cobegin`: their scopes and frames, that they are in order at their fork, and the locals after their join.
use Rattle.std.proofs.Common.{◌≡◌, ◌≢◌, ◌<◌, ◌-◌, ⊎_elim, ℕ, zero, suc, ◌+◌, Bool, true, false, cond, ◌==◌, ◌||◌, ◌&&◌, List, [], ◌∷◌, ◌++◌, length, refl, sym, ap, ◌∙◌, subst, arith, Option, Some, None, slice_get, slice_set, slice_index_or}
use Rattle.std.specs.Prelude.{All, Contains, option_map}
use Rattle.std.specs.List.{list_any}
use Rattle.std.proofs.lemmas.List.Elements.{All-head, All-tail, All-append}
use Rattle.std.proofs.lemmas.Bool.{cases_Bool, cases_order, eqb-true, eq-eqb, false≢true, or_left, or_right}
use Rattle.lang_base.specs.Branches.{ends_atomic}
use Rattle.lang_base.specs.Types.{PlainType, int}
use Rattle.lang_typed.specs.declared.stmt.Forking.{Forking}
use Rattle.lang_typed.specs.declared.stmt.Forking.TheVariants.{Deterministic, Nondeterministic}
use Rattle.lang_typed.specs.Effects.{Own as EffectOwn, after_branches}
use Rattle.lang_typed.specs.Plain.{PlainProgram, TypedBranches, no_branches, more_branches}
use Rattle.lang_typed.specs.Scope.{Scope, variable, frozen, constant, part, reserved, read_alone, seen_in_branch, in_branch}
use Rattle.lang_typed.specs.Scope.{Local as ScopeLocal}
use Rattle.lang_typed.specs.Statements.{IsVariable, BranchesPass, no_branch, one_branch, NoClash, joined, all_copies}
use Rattle.lang_meaning.specs.Counts.{copied, copied_one}
use Rattle.lang_meaning.specs.Statements.{branch_of, tasks_of, with_values}
use Rattle.runs_theory.specs.Actions.{Task}
use Rattle.runs_theory.specs.Objects.{Path, Value}
use Rattle.runs_sound.specs.Settings.{Setting, env_of}
use Rattle.runs_sound.specs.Shapes.{FitsIn}
use Rattle.runs_sound.specs.Accesses.{Access, unguarded, at_root, LiesIn, Bounds, Within}
use Rattle.runs_sound.specs.Branches.{MayMeet, Quiet, Separate, BranchFits, Forks}
use Rattle.runs_sound.specs.Frames.{Frame, State, LocalFits, FrameFits}
use Rattle.runs_sound.specs.Scopes.{LocalInScope, GoodScope}
use Rattle.region_paths.proofs.Envs.{apart_swap}
use Rattle.runs_sound.proofs.work.Forks.{seen_constant, seen_local, seen_part, alone_in, alone_placed, alone_fits, frame_below, HasNoMark, lies_branches, lies_unguarded, outside_alone}
use Rattle.runs_sound.proofs.scopes.Frames.{frame_env, lies_left, lies_right}
use Rattle.runs_sound.proofs.scopes.Locals.{frame_store}
use Rattle.runs_sound.proofs.scopes.Placed.{LocalPlaced, PlacedScope, placed_wider}
use Rattle.runs_sound.proofs.paths.Quiet.{branches_quiet_of, branches_separate_of}
use Rattle.runs_sound.proofs.scopes.Wider.{Wider, wider_path, wider_local}

-- in one of three ways a local is seen from a branch
seen_cases : (own others : List ℕ) (x : ℕ) (o : Option ScopeLocal) (C : Option ScopeLocal → Type 0) →
    (list_any (λ y. x == y) others ≡ true → C (option_map (λ k. reserved) o)) →
    (list_any (λ y. x == y) others ≡ false → list_any (λ y. x == y) own ≡ true → C o) → (list_any (λ y. x == y) others ≡ false → C (option_map read_alone o)) →
    C (seen_in_branch own others x o)
seen_cases own others x o C r k a = go (list_any (λ y. x == y) others) (list_any (λ y. x == y) own) r k a
  where
    go : (b c : Bool) → (b ≡ true → C (option_map (λ k. reserved) o)) → (b ≡ false → c ≡ true → C o) → (b ≡ false → C (option_map read_alone o)) →
        C (cond b (option_map (λ k. reserved) o) (cond c o (option_map read_alone o)))
    go true c r k a = r refl
    go false true r k a = k refl refl
    go false false r k a = a refl

some_reserved : (o : Option ScopeLocal) (l : ScopeLocal) → option_map (λ k. reserved) o ≡ Some l → (reserved ≡ l) × ((m : ScopeLocal) × (o ≡ Some m))
some_reserved (Some m) l e = (cc, (m, refl))
some_reserved None l e = absurd (cc)

module _ (L : Scope) (own others : List ℕ) where
  -- what holds of a local that is seen as it is, read alone or reserved
  seen_each : (Q : ScopeLocal → Type 0) → ((m : ScopeLocal) → Q m → Q (read_alone m)) → Q reserved → (x : ℕ) →
      ((m : ScopeLocal) → L.local x ≡ Some m → Q m) → (l : ScopeLocal) → (in_branch own others L).local x ≡ Some l → Q l
  seen_each Q alone held x each l = seen_cases own others x (L.local x) (λ o. o ≡ Some l → Q l)
      (λ h e. subst Q (some_reserved (L.local x) l e).0 held)
      (λ h k e. each l e)
      (λ h e. (let z = seen_local (L.local x) l e in subst Q z.2 (alone z.0 (each z.0 z.1))))

  seen_there : (x : ℕ) (l : ScopeLocal) → (in_branch own others L).local x ≡ Some l → (m : ScopeLocal) × (L.local x ≡ Some m)
  seen_there x l = seen_cases own others x (L.local x) (λ o. o ≡ Some l → (m : ScopeLocal) × (L.local x ≡ Some m))
      (λ h e. (some_reserved (L.local x) l e).1) (λ h k e. (l, e)) (λ h e. (let z = seen_local (L.local x) l e in (z.0, z.1)))

  seen_index : (x : ℕ) → (in_branch own others L).local x ≡ Some (constant int) → L.local x ≡ Some (constant int)
  seen_index x = seen_cases own others x (L.local x) (λ o. o ≡ Some (constant int) → L.local x ≡ Some (constant int))
      (λ h e. absurd (let z = (some_reserved (L.local x) (constant int) e).0 in cc)) (λ h k e. e) (λ h e. seen_constant (L.local x) e)

  pub seen_as_part : (x : ℕ) (t : PlainType) (a : _) → (in_branch own others L).local x ≡ Some (part t a) → L.local x ≡ Some (part t a)
  seen_as_part x t a = seen_cases own others x (L.local x) (λ o. o ≡ Some (part t a) → L.local x ≡ Some (part t a))
      (λ h e. absurd (let z = (some_reserved (L.local x) (part t a) e).0 in cc)) (λ h k e. e)
      (λ h e. (let z = seen_local (L.local x) (part t a) e in z.1 ∙ ap (λ y. Some y) (seen_part z.0 t a z.2)))

  -- only its own slots are variables for it
  seen_variable : (x : ℕ) (t : PlainType) → (in_branch own others L).local x ≡ Some (variable t) → L.local x ≡ Some (variable t)
  seen_variable x t = seen_cases own others x (L.local x) (λ o. o ≡ Some (variable t) → L.local x ≡ Some (variable t))
      (λ h e. absurd (let z = (some_reserved (L.local x) (variable t) e).0 in cc)) (λ h k e. e)
      (λ h e. (let z = seen_local (L.local x) (variable t) e in absurd (alone_never z.0 t z.2)))
    where
      alone_never : (m : ScopeLocal) (t : PlainType) → read_alone m ≡ variable t → ⊥
      alone_never (variable u) t e = let z : frozen u ≡ variable t = e in cc
      alone_never (frozen u) t e = let z : frozen u ≡ variable t = e in cc
      alone_never (constant u) t e = let z : constant u ≡ variable t = e in cc
      alone_never (part u a) t e = let z : part u a ≡ variable t = e in cc
      alone_never reserved t e = let z : reserved ≡ variable t = e in cc

  pub branch_narrower : Wider (in_branch own others L) L
  branch_narrower = record { index = seen_index; regions = λ r i. i }

  frame_seen : {P : PlainProgram} {p : Path} {s : State} {g : Setting} {f : Frame} → FrameFits P p s g L f → FrameFits P p s g (in_branch own others L) f
  frame_seen {P} {p} {s} {g} {f} ff = record {
    regions = ff.regions;
    plain = ff.plain;
    atomic = ff.atomic;
    given = ff.given;
    index = λ x e. ff.index x (seen_index x e);
    made = ff.made;
    distinct = ff.distinct;
    old = ff.old;
    slots = ff.slots;
    local_regions = ff.local_regions;
    each = λ x l e. seen_each (LocalFits P s.shapes g f.values x) (alone_fits P s.shapes g f.values x) tt x (ff.each x) l e;
  }

  -- what others copy back are variables, which stand in no path
  module _ (variables : All (IsVariable L) others) where
    still : (x : ℕ) → L.local x ≡ Some (constant int) → (in_branch own others L).local x ≡ Some (constant int)
    still x e = seen_cases own others x (L.local x) (λ o. o ≡ Some (constant int))
        (λ h. absurd (let z = found others x variables h in let k : Some (variable z.0) ≡ Some (constant int) = sym z.1 ∙ e in cc))
        (λ h k. e) (λ h. ap (option_map read_alone) e)
      where
        found : (others : List ℕ) (x : ℕ) → All (IsVariable L) others → list_any (λ y. x == y) others ≡ true → IsVariable L x
        found [] x v h = absurd (false≢true h)
        found (y ∷ others) x v h = ⊎_elim (λ t. subst (IsVariable L) (sym (eqb-true x y t)) (All-head (IsVariable L) y others v))
            (λ f. found others x (All-tail (IsVariable L) y others v) (sym (ap (λ z. z || list_any (λ y. x == y) others) f) ∙ h)) (cases_Bool (x == y))

    branch_wider : Wider L (in_branch own others L)
    branch_wider = record { index = still; regions = λ r i. i }

    pub good_branch : GoodScope L → GoodScope (in_branch own others L)
    good_branch good = record {
      each = λ x l e. seen_each (LocalInScope (in_branch own others L)) (alone_in (in_branch own others L)) tt x
          (λ m k. wider_local L (in_branch own others L) branch_wider m (good.each x m k)) l e;
      slots = λ x l e. (let z = seen_there x l e in good.slots x z.0 z.1);
      parts = λ k t a e. (let r = good.parts k t a (seen_as_part k t a e) in (kept (k + 1) r.0, kept (k + 2) r.1));
      result = λ t e. absurd (cc);
      given = λ k c l. (let z = good.given k c l in (
        wider_path L (in_branch own others L) branch_wider 0 (slice_index_or L.given k c).left z.0,
        wider_path L (in_branch own others L) branch_wider 0 (slice_index_or L.given k c).right z.1,
      ));
    }
      where
        kept : (x : ℕ) → L.local x ≡ Some reserved → (in_branch own others L).local x ≡ Some reserved
        kept x e = seen_cases own others x (L.local x) (λ o. o ≡ Some reserved) (λ h. ap (option_map (λ k. reserved)) e) (λ h k. e) (λ h. ap (option_map read_alone) e)

    pub placed_branch : (outer : ℕ → Bool) → PlacedScope outer L → PlacedScope outer (in_branch own others L)
    placed_branch outer placed = record {
      each = λ x l e. seen_each (LocalPlaced outer (in_branch own others L)) (alone_placed outer (in_branch own others L)) tt x
          (λ m k. placed_wider outer L (in_branch own others L) branch_wider m (placed.each x m k)) l e;
      below = placed.below;
    }

-- all copies of branches that pass are variables
pub copies_variables : {P : PlainProgram} {L : Scope} {others : List ℕ} {bs : TypedBranches} {Es : List (List EffectOwn)} → BranchesPass P L others bs Es →
    All (IsVariable L) (all_copies bs)
copies_variables no_branch = λ k d l. absurd (omega (arith, l))
copies_variables {L = L} (one_branch {copies = copies} {bs = bs} v a p rest) = All-append (IsVariable L) copies (all_copies bs) v (copies_variables rest)

-- the scope of the branch of a number
abbrev scope_at : Scope → List ℕ → TypedBranches → ℕ → Scope
scope_at L others no_branches i = L
scope_at L others (more_branches copies s bs) zero = in_branch copies (others ++ all_copies bs) L
scope_at L others (more_branches copies s bs) (suc i) = scope_at L (others ++ copies) bs i

module _ (P : PlainProgram) (b : Bounds) (st : State) (L : Scope) (good : GoodScope L) (g : Setting) (f : Frame) (ff : FrameFits P b.path st g L f) where
  own_variables : (copies others : List ℕ) → All (IsVariable L) copies → All (λ x. list_any (λ y. x == y) others ≡ false) copies →
      All (IsVariable (in_branch copies others L)) copies
  own_variables copies others v h = λ k d l.
      (let z = v k d l in
      let x = slice_index_or copies k d in (
        z.0,
        ap (λ c. cond c (option_map (λ k. reserved) (L.local x)) (cond (list_any (λ y. x == y) copies) (L.local x) (option_map read_alone (L.local x)))) (h k d l)
            ∙ ap (λ c. cond c (L.local x) (option_map read_alone (L.local x))) (itself copies k d l) ∙ z.1,
      ))
    where
      itself : (xs : List ℕ) (k d : ℕ) → k < length xs → list_any (λ y. slice_index_or xs k d == y) xs ≡ true
      itself [] k d l = absurd (omega (arith, l))
      itself (x ∷ xs) zero d l = or_left (x == x) (list_any (λ y. x == y) xs) (eq-eqb x x refl)
      itself (x ∷ xs) (suc k) d l = or_right (slice_index_or xs k d == x) (list_any (λ y. slice_index_or xs k d == y) xs) (itself xs k d (omega (arith, l)))

  -- each is in order at the fork
  branch_at : {others : List ℕ} {bs : TypedBranches} {Es : List (List EffectOwn)} → BranchesPass P L others bs Es → All (IsVariable L) others → Within b st.entries g (joined Es) → (j i : ℕ) (t : Task) → slice_get (tasks_of bs f) i ≡ Some t →
      BranchFits P b st (j + i) t (scope_at L others bs i) g (slice_index_or Es i [])
  branch_at no_branch v w j i t e = absurd (cc)
  branch_at {others} (one_branch {copies = copies} {s = s} {bs = bs} {E = E} {Es = Es} cv ca p rest) v w j zero t e =
      let z : branch_of None copies s f ≡ t = cc in
      subst (λ y. BranchFits P b st (j + 0) y (in_branch copies (others ++ all_copies bs) L) g E) z (record {
        is_branch = refl;
        no_return = refl;
        passes = p;
        scope = good_branch L copies (others ++ all_copies bs) (All-append (IsVariable L) others (all_copies bs) v (copies_variables rest)) good;
        fits = λ u. frame_below (u, j + 0) (f.left - 1) (frame_seen L copies (others ++ all_copies bs) ff);
        copies = own_variables copies (others ++ all_copies bs) cv ca;
        within = λ a gu l. w a gu (lies_left g E (joined Es) a l);
      })
  branch_at {others} (one_branch {copies = copies} {s = s} {bs = bs} {E = E} {Es = Es} cv ca p rest) v w j (suc i) t e =
      let k : suc j + i ≡ j + suc i = omega arith in
      subst (λ y. BranchFits P b st y t (scope_at L (others ++ copies) bs i) g (slice_index_or Es i [])) k
      (branch_at rest (All-append (IsVariable L) others copies v cv) (λ a gu l. w a gu (lies_right g E (joined Es) a l)) (suc j) i t e)

  tasks_length : {others : List ℕ} {bs : TypedBranches} {Es : List (List EffectOwn)} → BranchesPass P L others bs Es → length (tasks_of bs f) ≡ length Es
  tasks_length no_branch = refl
  tasks_length (one_branch v a p rest) = ap (λ n. suc n) (tasks_length rest)

  quiet_back : (forking : Forking) (E F : List EffectOwn) → Quiet P forking g E g F → Quiet P forking g F g E
  quiet_back forking E F h a c m x y =
      back forking (h c a (record { cells = (m.cells.1, m.cells.0); object = sym m.object; index = sym m.index; region = sym m.region; write = either a.write c.write m.write }) y x)
    where
      either : (x y : Bool) → (x || y) ≡ true → (y || x) ≡ true
      either true y h = or_right y true refl
      either false y h = or_left y false h

      back : (forking : Forking) → MayMeet P forking c a → MayMeet P forking a c
      back Deterministic k = k
      back Nondeterministic k = (k.1, k.0, subst (λ z. ends_atomic P.region_names z ≡ true) (sym m.region) k.2)

  separate_back : (E F : List EffectOwn) → Separate g E g F → Separate g F g E
  separate_back E F h a c w u x y = apart_swap [] (at_root c.region) (at_root a.region) (h c a (or_back a.write c.write ∙ w) (and_back a.guarded c.guarded ∙ u) y x)
    where
      or_back : (x y : Bool) → (y || x) ≡ (x || y)
      or_back true true = refl
      or_back true false = refl
      or_back false true = refl
      or_back false false = refl

      and_back : (x y : Bool) → (y && x) ≡ (x && y)
      and_back true true = refl
      and_back true false = refl
      and_back false true = refl
      and_back false false = refl

  scope_variable : (others : List ℕ) (bs : TypedBranches) (i x : ℕ) (t : PlainType) → (scope_at L others bs i).local x ≡ Some (variable t) → L.local x ≡ Some (variable t)
  scope_variable others no_branches i x t e = e
  scope_variable others (more_branches copies s bs) zero x t e = seen_variable L copies (others ++ all_copies bs) x t e
  scope_variable others (more_branches copies s bs) (suc i) x t e = scope_variable (others ++ copies) bs i x t e

  -- what is a variable for a branch is one outside, of the same values
  pub cobegin_forks : (forking : Forking) {bs : TypedBranches} {Es : List (List EffectOwn)} → BranchesPass P L [] bs Es → NoClash P forking L Es →
      All HasNoMark (joined Es) → Within b st.entries g (after_branches forking (joined Es)) →
      (forks : Forks P b st forking (tasks_of bs f)) × ((i : ℕ) → forks.setting i ≡ g)
      × ((i x : ℕ) (t : PlainType) → (forks.scope i).local x ≡ Some (variable t) → L.local x ≡ Some (variable t))
  cobegin_forks forking {bs} {Es} p nc plain w = (
    record {
      scope = scope_at L [] bs;
      setting = λ i. g;
      effects = λ i. slice_index_or Es i [];
      branch = λ i t e. (let k : 0 + i ≡ i = omega arith in subst (λ y. BranchFits P b st y t (scope_at L [] bs i) g (slice_index_or Es i [])) k
          (branch_at p (λ k d l. absurd (omega (arith, l))) (λ a gu l. w a gu (lies_branches forking g (joined Es) a l)) 0 i t e));
      quiet = apart;
      unmarked = λ kind out i t e a l. w (unguarded a) (outside_alone out)
          (subst (λ z. LiesIn g (after_branches z (joined Es)) (unguarded a)) (sym kind) (lies_unguarded g (joined Es) a plain (lies_one Es i a l)));
      separate = λ kind i j ne l m. separate kind i j ne l m;
    },
    λ i. refl,
    scope_variable [] bs,
  )
    where
      one : (i j : ℕ) → i < j → j < length (tasks_of bs f) → Quiet P forking g (slice_index_or Es i []) g (slice_index_or Es j [])
      one i j l m = branches_quiet_of P forking L g (frame_env ff) ff.atomic (slice_index_or Es i []) (slice_index_or Es j []) (nc i j [] l (subst (λ n. j < n) (tasks_length p) m))

      lies_one : (Es : List (List EffectOwn)) (i : ℕ) (a : Access) → LiesIn g (slice_index_or Es i []) a → LiesIn g (joined Es) a
      lies_one [] i a l = absurd l
      lies_one (E ∷ Es) zero a l = lies_left g E (joined Es) a l
      lies_one (E ∷ Es) (suc i) a l = lies_right g E (joined Es) a (lies_one Es i a l)

      one_separate : forking ≡ Nondeterministic → (i j : ℕ) → i < j → j < length (tasks_of bs f) → Separate g (slice_index_or Es i []) g (slice_index_or Es j [])
      one_separate kind i j l m =
          branches_separate_of P forking L g (frame_env ff) ff.atomic (slice_index_or Es i []) (slice_index_or Es j []) (nc i j [] l (subst (λ n. j < n) (tasks_length p) m)) kind

      separate : forking ≡ Nondeterministic → (i j : ℕ) → i ≢ j → i < length (tasks_of bs f) → j < length (tasks_of bs f) →
          Separate g (slice_index_or Es i []) g (slice_index_or Es j [])
      separate kind i j ne l m = ⊎_elim (λ h. absurd (ne h))
          (λ r. ⊎_elim (λ h. one_separate kind i j h m) (λ h. separate_back (slice_index_or Es j []) (slice_index_or Es i []) (one_separate kind j i h l)) r) (cases_order i j)

      apart : (i j : ℕ) → i ≢ j → i < length (tasks_of bs f) → j < length (tasks_of bs f) → Quiet P forking g (slice_index_or Es i []) g (slice_index_or Es j [])
      apart i j ne l m = ⊎_elim (λ h. absurd (ne h)) (λ r. ⊎_elim (λ h. one i j h m) (λ h. quiet_back forking (slice_index_or Es j []) (slice_index_or Es i []) (one j i h l)) r) (cases_order i j)

-- after the join
pub copied_fits : (P : PlainProgram) (p : Path) (h : State) (L : Scope) → GoodScope L → (g : Setting) (slots : List ℕ) (ls : List (ℕ × Value)) (f : Frame) →
    ((x : ℕ) (v : Value) → Contains ls (x, v) → (t : PlainType) × (L.local x ≡ Some (variable t)) × FitsIn P h.shapes (env_of g) t v) → FrameFits P p h g L f →
    FrameFits P p h g L (with_values f (copied slots ls f.values))
copied_fits P p h L good g slots [] f i ff = ff
copied_fits P p h L good g slots (l ∷ ls) f i ff =
    copied_fits P p h L good g slots ls (with_values f (copied_one slots l.0 l.1 f.values)) (λ x v c. i x v (suc c.0, (let k = c.1 in omega (arith, k)), c.2))
    (one (list_any (λ y. l.0 == y) slots))
  where
    one : (c : Bool) → FrameFits P p h g L (with_values f (cond c (slice_set f.values l.0 l.1) f.values))
    one false = ff
    one true = let z = i l.0 l.1 (0, omega arith, refl) in frame_store P p h g L good f l.0 z.0 l.1 z.1 z.2 ff
