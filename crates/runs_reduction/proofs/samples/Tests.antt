-- Whether the conflicts of a closed run are guarded, by computing.
use Rattle.std.proofs.Common.{◌≡◌, ℕ, zero, suc, ◌⊎◌, inl, inr, Bool, true, false, true≢false, not, ◌&&◌, ◌||◌, List, [], ◌∷◌, refl, sym, ap, ◌∙◌}
use Rattle.std.proofs.Common.{subst}
use Rattle.std.proofs.lemmas.Bool.{and_from, and_parts}
use Rattle.runs_theory.specs.Actions.{Action, Do, Enter, Rule}
use Rattle.runs_theory.specs.Objects.{Effect, Path, same_path}
use Rattle.runs_theory.specs.Order.{Conflict, Unordered}
use Rattle.runs_theory.specs.Runs.{Event, Run, Upto, later, now}
use Rattle.runs_theory.specs.Standing.{Inside, Outside, Standing, standing}
use Rattle.runs_reduction.specs.Guarded.{AccessesLevelled, Barred, ConflictsGuarded, Guarded, LetBy, Levelled, LevelsGuarded}
use Rattle.runs_reduction.specs.Insertion.{All_of, Branch_of, Spot}
use Rattle.runs_reduction.specs.Moved.{inner}
use Rattle.runs_theory.proofs.events.Upto.{upto_split, upto_none}
use Rattle.runs_theory.proofs.events.Mine.{same_path_eq, test_same}
use Rattle.runs_theory.proofs.samples.Tests.{clash, clashes, may_part, parts}

-- a test of each two events of a run, with the runs before them, the later first
abbrev Test : Type 0
Test = Run → Event → Run → Event → Bool

abbrev each_under : Test → Run → Event → Run → Bool
each_under f Y y [] = true
each_under f Y y (x ∷ X) = f Y y X x && each_under f Y y X

abbrev pub each_pair : Test → Run → Bool
each_pair f [] = true
each_pair f (y ∷ Y) = each_under f Y y Y && each_pair f Y

under_at : (f : Test) (Y : Run) (y : Event) (W X : Run) (x : Event) → each_under f Y y W ≡ true → Upto (x ∷ X) W → f Y y X x ≡ true
under_at f Y y [] X x e h = absurd (upto_none h)
under_at f Y y (w ∷ W) X x e h = go (and_parts _ _ e) (upto_split h) (λ k u. under_at f Y y W X x k u)
  where
    go : (f Y y W w ≡ true) × (each_under f Y y W ≡ true) → ((x ≡ w) × (X ≡ W)) ⊎ Upto (x ∷ X) W
        → (each_under f Y y W ≡ true → Upto (x ∷ X) W → f Y y X x ≡ true) → f Y y X x ≡ true
    go p (inl k) rec = (λ i. f Y y (k.1 i) (k.0 i)) ∙ p.0
    go p (inr k) rec = rec p.1 k

pair_at : (f : Test) (R Y X : Run) (y x : Event) → each_pair f R ≡ true → Upto (y ∷ Y) R → Upto (x ∷ X) Y → f Y y X x ≡ true
pair_at f [] Y X y x e hy hx = absurd (upto_none hy)
pair_at f (w ∷ R) Y X y x e hy hx = go (and_parts _ _ e) (upto_split hy) (λ k u. pair_at f R Y X y x k u hx)
  where
    go : (each_under f R w R ≡ true) × (each_pair f R ≡ true) → ((y ≡ w) × (Y ≡ R)) ⊎ Upto (y ∷ Y) R
        → (each_pair f R ≡ true → Upto (y ∷ Y) R → f Y y X x ≡ true) → f Y y X x ≡ true
    go p (inl k) rec = (λ i. f (k.1 i) (k.0 i) X x) ∙ under_at f R w R X x p.0 (subst (λ Z. Upto (x ∷ X) Z) k.1 hx)
    go p (inr k) rec = rec p.1 k

-- a test that need hold only where another does
abbrev only_if : Bool → Bool → Bool
only_if true t = t
only_if false t = true

only_so : (s t : Bool) → only_if s t ≡ true → s ≡ true → t ≡ true
only_so true t e h = e
only_so false t e h = absurd (true≢false (sym h))

not_true : (t : Bool) → not t ≡ true → t ≡ false
not_true true e = absurd (true≢false (sym e))
not_true false e = refl

abbrev barred_test : Rule → List Effect → List Effect → Bool
barred_test rule E F = not (rule E F) && not (rule F E)

barred_is : (rule : Rule) (E F : List Effect) → barred_test rule E F ≡ true → Barred rule E F
barred_is rule E F e = let p = and_parts (not (rule E F)) (not (rule F E)) e in (not_true (rule E F) p.0, not_true (rule F E) p.1)

abbrev guarded_by : Rule → Standing → Standing → Bool
guarded_by rule (Inside o E) (Inside q F) = barred_test rule E F
guarded_by rule s t = false

-- where both stand inside blocks
record TwoBlocks (rule : Rule) (s t : Standing) : Type 0 where
  o : Path
  E : List Effect
  q : Path
  F : List Effect
  first_is : s ≡ Inside o E
  second_is : t ≡ Inside q F
  barred : Barred rule E F

two_blocks : (rule : Rule) (s t : Standing) → guarded_by rule s t ≡ true → TwoBlocks rule s t
two_blocks rule (Inside o E) (Inside q F) e = record { o = o; E = E; q = q; F = F; first_is = refl; second_is = refl; barred = barred_is rule E F e }
two_blocks rule (Inside o E) Outside e = absurd (true≢false (sym e))
two_blocks rule Outside t e = absurd (true≢false (sym e))

abbrev may_meet : Event → Event → Bool
may_meet y x = may_part x.path y.path && clash x.act y.act

abbrev pub conflict_test : Rule → Test
conflict_test rule Y y X x = only_if (may_meet y x) (guarded_by rule (standing X x.path) (standing Y y.path))

pub conflicts_guarded : (rule : Rule) (R : Run) → each_pair (conflict_test rule) R ≡ true → ConflictsGuarded rule R
conflicts_guarded rule R e = record { each = each }
  where
    each : (Y X : Run) (y x : Event) → Upto (y ∷ Y) R → Upto (x ∷ X) Y → Unordered x.path y.path → Conflict x y → Guarded rule X x Y y
    each Y X y x hy hx u c =
        let t = pair_at (conflict_test rule) R Y X y x e hy hx in
        let b = two_blocks rule (standing X x.path) (standing Y y.path)
        (only_so (may_meet y x) (guarded_by rule (standing X x.path) (standing Y y.path)) t (and_from _ _ (parts u) (clashes c))) in
        record {
          former = record { opener = b.o; effects = b.E; stands = b.first_is };
          latter = record { opener = b.q; effects = b.F; stands = b.second_is };
          barred = λ n. b.barred;
        }

abbrev same_spot : Spot → Spot → Bool
same_spot (Branch_of u q) (Branch_of v r) = same_path (u ∷ q) (v ∷ r)
same_spot (All_of q) (All_of r) = same_path q r
same_spot s t = false

same_spot_is : (s t : Spot) → same_spot s t ≡ true → s ≡ t
same_spot_is (Branch_of u q) (Branch_of v r) e = let k = same_path_eq (u ∷ q) (v ∷ r) e in let a : u ≡ v = cc in let b : q ≡ r =
    cc in λ i. Branch_of (a i) (b i)
same_spot_is (All_of q) (All_of r) e = ap All_of (same_path_eq q r e)
same_spot_is (Branch_of u q) (All_of r) e = absurd (true≢false (sym e))
same_spot_is (All_of q) (Branch_of v r) e = absurd (true≢false (sym e))

abbrev levelled_by : Rule → Run → Run → Standing → Standing → Bool
levelled_by rule X Y (Inside o E) (Inside q F) = not (same_path o q) && (same_spot (inner X o) (inner Y q) && barred_test rule E F)
levelled_by rule X Y s t = false

record TwoLevels (rule : Rule) (X Y : Run) (s t : Standing) : Type 0 where
  o : Path
  E : List Effect
  q : Path
  F : List Effect
  first_is : s ≡ Inside o E
  second_is : t ≡ Inside q F
  differ : o ≡ q → ⊥
  level : inner X o ≡ inner Y q
  barred : Barred rule E F

two_levels : (rule : Rule) (X Y : Run) (s t : Standing) → levelled_by rule X Y s t ≡ true → TwoLevels rule X Y s t
two_levels rule X Y (Inside o E) (Inside q F) e =
    let p = and_parts (not (same_path o q)) _ e in
    let r = and_parts (same_spot (inner X o) (inner Y q)) (barred_test rule E F) p.1 in
    record {
      o = o;
      E = E;
      q = q;
      F = F;
      first_is = refl;
      second_is = refl;
      differ = λ k. true≢false (sym (test_same o q k) ∙ not_true (same_path o q) p.0);
      level = same_spot_is (inner X o) (inner Y q) r.0;
      barred = barred_is rule E F r.1;
    }
two_levels rule X Y (Inside o E) Outside e = absurd (true≢false (sym e))
two_levels rule X Y Outside t e = absurd (true≢false (sym e))

-- an entry from outside all blocks
abbrev entry_of : Standing → Action → Bool
entry_of Outside (Do (Enter E)) = true
entry_of s a = false

entry_so : (s : Standing) (a : Action) (E : List Effect) → s ≡ Outside → a ≡ Do (Enter E) → entry_of s a ≡ true
entry_so s a E h k = λ i. entry_of (h i) (k i)

abbrev entered : Action → List Effect
entered (Do (Enter E)) = E
entered a = []

abbrev let_by_test : Rule → List Effect → List Effect → Bool
let_by_test rule E F = rule E F && rule F E

-- of two entries of unordered tasks: one level, or the rule lets them by
abbrev entry_test : Rule → Test
entry_test rule Y y X x =
    only_if (may_part x.path y.path && (entry_of (standing X x.path) x.act && entry_of (standing Y y.path) y.act))
    (same_spot (inner X x.path) (inner Y y.path) || let_by_test rule (entered x.act) (entered y.act))

or_else_so : (s t : Bool) → (s || t) ≡ true → (s ≡ true → ⊥) → t ≡ true
or_else_so true t e n = absurd (n refl)
or_else_so false t e n = e

abbrev pub access_test : Rule → Test
access_test rule Y y X x = only_if (may_meet y x) (levelled_by rule X Y (standing X x.path) (standing Y y.path))

abbrev pub level_test : Rule → Test
level_test rule Y y X x = access_test rule Y y X x && entry_test rule Y y X x

levelled_at : (rule : Rule) (Y X : Run) (y x : Event) → access_test rule Y y X x ≡ true → Unordered x.path y.path → Conflict x y → Levelled rule X x Y y
levelled_at rule Y X y x t u c =
    let b = two_levels rule X Y (standing X x.path) (standing Y y.path)
    (only_so (may_meet y x) (levelled_by rule X Y (standing X x.path) (standing Y y.path)) t (and_from _ _ (parts u) (clashes c))) in
    record {
      former = record { opener = b.o; effects = b.E; stands = b.first_is };
      latter = record { opener = b.q; effects = b.F; stands = b.second_is };
      differ = b.differ;
      level = b.level;
      barred = b.barred;
    }

pub accesses_levelled : (rule : Rule) (R : Run) → each_pair (access_test rule) R ≡ true → AccessesLevelled rule R
accesses_levelled rule R e = record { each = λ Y X y x hy hx u c. levelled_at rule Y X y x (pair_at (access_test rule) R Y X y x e hy hx) u c }

pub levels_guarded : (rule : Rule) (R : Run) → each_pair (level_test rule) R ≡ true → LevelsGuarded rule R
levels_guarded rule R e = record { accesses = accesses; entries = entries }
  where
    both : (Y X : Run) (y x : Event) → Upto (y ∷ Y) R → Upto (x ∷ X) Y → (access_test rule Y y X x ≡ true) × (entry_test rule Y y X x ≡ true)
    both Y X y x hy hx = and_parts (access_test rule Y y X x) (entry_test rule Y y X x) (pair_at (level_test rule) R Y X y x e hy hx)

    accesses : (Y X : Run) (y x : Event) → Upto (y ∷ Y) R → Upto (x ∷ X) Y → Unordered x.path y.path → Conflict x y → Levelled rule X x Y y
    accesses Y X y x hy hx u c = levelled_at rule Y X y x (both Y X y x hy hx).0 u c

    entries : (Y X : Run) (y x : Event) (E F : List Effect) → Upto (y ∷ Y) R → Upto (x ∷ X) Y → Unordered x.path y.path → x.act ≡ Do (Enter E)
        → y.act ≡ Do (Enter F)
        → standing X x.path ≡ Outside → standing Y y.path ≡ Outside → (inner X x.path ≡ inner Y y.path → ⊥) → LetBy rule E F
    entries Y X y x E F hy hx u a b c d n =
        let when_both = and_from _ _ (parts u) (and_from _ _ (entry_so (standing X x.path) x.act E c a) (entry_so (standing Y y.path) y.act F d b)) in
        let t = only_so _ _ (both Y X y x hy hx).1 when_both in
        let l = or_else_so (same_spot (inner X x.path) (inner Y y.path)) (let_by_test rule (entered x.act) (entered y.act)) t
        (λ k. n (same_spot_is (inner X x.path) (inner Y y.path) k)) in
        let m : let_by_test rule E F ≡ true = (λ i. let_by_test rule (entered (a' i)) (entered (b' i))) ∙ l in
        and_parts (rule E F) (rule F E) m
      where
        a' : Do (Enter E) ≡ x.act
        a' = sym a

        b' : Do (Enter F) ≡ y.act
        b' = sym b

-- a run without its latest events
abbrev pub without : ℕ → Run → Run
without zero R = R
without (suc n) [] = []
without (suc n) (e ∷ R) = without n R

pub upto_without : (n : ℕ) (R : Run) → Upto (without n R) R
upto_without zero R = now
upto_without (suc n) [] = now
upto_without (suc n) (e ∷ R) = later (upto_without n R)
