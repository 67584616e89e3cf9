-- Whether a closed run is free of conflicts, and whether its program knows its objects, by computing.
use Rattle.std.proofs.Common.{◌≡◌, ℕ, ℤ, pos, negsuc, zero, suc, ◌⊎◌, inl, inr, Bool, true, false, true≢false, not, ◌&&◌, ◌==◌, List, [], ◌∷◌}
use Rattle.std.proofs.Common.{◌++◌, length, length-append, refl, sym, ap, ◌∙◌, subst, arith, eq-eqb, Some, None, slice_get}
use Rattle.std.proofs.lemmas.Bool.{and_from, and_parts}
use Rattle.std.proofs.lemmas.Option.{slice_get_past}
use Rattle.runs_theory.specs.Actions.{Action, Answer, Branches, Do, Ending, Enter, Exit, Fork, Look, Named, New, Next, Own, Print, Program, Read, Reply, Rest}
use Rattle.runs_theory.specs.Actions.{Rule, Task, Went, Write}
use Rattle.runs_theory.specs.Laws.{AllFree}
use Rattle.runs_theory.specs.Meaning.{Known}
use Rattle.runs_theory.specs.Objects.{Cell, Name, Path, Value, same_name, same_path, size, slot_of}
use Rattle.runs_theory.specs.Order.{Conflict, Free, Unordered, read_write, write_read, write_write}
use Rattle.runs_theory.specs.Runs.{Begun, Event, Faithful, Follows, Run, Upto, answered_by, answers, branch, made, mine, read_at, reply, root, seen}
use Rattle.runs_theory.specs.Runs.{thing_of, wrote_at}
use Rattle.runs_theory.proofs.events.Upto.{upto_tail, upto_trans, upto_split, upto_none}
use Rattle.runs_theory.proofs.events.Mine.{test_same, test_other}
use Rattle.runs_theory.proofs.runs.Faithful.{follows_at}
use Rattle.runs_theory.proofs.runs.Written.{legal_faithful}
use Rattle.runs_theory.proofs.events.Cells.{same_name_eq}
use Rattle.runs_theory.proofs.samples.Scripts.{number_of, Item, does, forks, Body, body_of, after, after_fork, scripted}

abbrev same_index : ℤ → ℤ → Bool
same_index (pos a) (pos b) = a == b
same_index (pos a) (negsuc b) = false
same_index (negsuc a) j = false

-- whether two actions access one index of one object, and one writes
abbrev own_clash : Own → Own → Bool
own_clash (Read n i) (Write m j v) = same_name n m && same_index i j
own_clash (Write n i v) (Read m j) = same_name n m && same_index i j
own_clash (Write n i v) (Write m j w) = same_name n m && same_index i j
own_clash o c = false

abbrev pub clash : Action → Action → Bool
clash (Do o) (Do c) = own_clash o c
clash a b = false

same_cell : (c : Cell) → (same_name c.object c.object && same_index (pos c.slot) (pos c.slot)) ≡ true
same_cell c = and_from _ _ (and_from _ _ (test_same c.object.maker c.object.maker refl) (eq-eqb c.object.count c.object.count refl)) (eq-eqb c.slot c.slot refl)

pub clashes : {x y : Event} → Conflict x y → clash x.act y.act ≡ true
clashes (read_write c a b) = (λ i. clash (a.act i) (b.act i)) ∙ same_cell c
clashes (write_read c a b) = (λ i. clash (a.act i) (b.act i)) ∙ same_cell c
clashes (write_write c a b) = (λ i. clash (a.act i) (b.act i)) ∙ same_cell c

abbrev below_root : Path → Bool
below_root [] = false
below_root (u ∷ p) = true

-- whether paths may part at one fork: they differ, and none is the root's
abbrev pub may_part : Path → Path → Bool
may_part p q = below_root p && (below_root q && not (same_path p q))

below_is : (xs a : Path) (u : ℕ × ℕ) → below_root (xs ++ u ∷ a) ≡ true
below_is [] a u = refl
below_is (x ∷ xs) a u = refl

one_place : (xs ys a : Path) (u v : ℕ × ℕ) → xs ++ u ∷ a ≡ ys ++ v ∷ a → u ≡ v
one_place [] [] a u v e = cc
one_place [] (y ∷ ys) a u v e = absurd (let n = ap length e in let k = length-append ys (v ∷ a) in omega arith)
one_place (x ∷ xs) [] a u v e = absurd (let n = ap length e in let k = length-append xs (u ∷ a) in omega arith)
one_place (x ∷ xs) (y ∷ ys) a u v e = one_place xs ys a u v (let t : xs ++ u ∷ a ≡ ys ++ v ∷ a = cc in t)

pub parts : {p q : Path} → Unordered p q → may_part p q ≡ true
parts {p} {q} n = and_from _ _ (ap below_root n.p_is ∙ below_is n.below_p n.above n.u)
    (and_from _ _ (ap below_root n.q_is ∙ below_is n.below_q n.above n.v) (ap not (test_other p q differ)))
  where
    differ : p ≡ q → ⊥
    differ k = n.apart (ap (λ w. w.1) (one_place n.below_p n.below_q n.above n.u n.v (sym n.p_is ∙ k ∙ n.q_is)))

-- a test of each two events of a run, the later first
abbrev pub each_before : (Event → Event → Bool) → Event → Run → Bool
each_before f y [] = true
each_before f y (x ∷ X) = f y x && each_before f y X

abbrev pub each_two : (Event → Event → Bool) → Run → Bool
each_two f [] = true
each_two f (y ∷ Y) = each_before f y Y && each_two f Y

before_at : (f : Event → Event → Bool) (y : Event) (Y X : Run) (x : Event) → each_before f y Y ≡ true → Upto (x ∷ X) Y → f y x ≡ true
before_at f y [] X x e h = absurd (upto_none h)
before_at f y (w ∷ Y) X x e h = go (and_parts _ _ e) (upto_split h) (λ k u. before_at f y Y X x k u)
  where
    go : (f y w ≡ true) × (each_before f y Y ≡ true) → ((x ≡ w) × (X ≡ Y)) ⊎ Upto (x ∷ X) Y → (each_before f y Y ≡ true → Upto (x ∷ X) Y → f y x ≡ true)
        → f y x ≡ true
    go p (inl k) rec = ap (λ z. f y z) k.0 ∙ p.0
    go p (inr k) rec = rec p.1 k

pub two_at : (f : Event → Event → Bool) (R Y X : Run) (y x : Event) → each_two f R ≡ true → Upto (y ∷ Y) R → Upto (x ∷ X) Y → f y x ≡ true
two_at f [] Y X y x e hy hx = absurd (upto_none hy)
two_at f (w ∷ R) Y X y x e hy hx = go (and_parts _ _ e) (upto_split hy) (λ k u. two_at f R Y X y x k u hx)
  where
    go : (each_before f w R ≡ true) × (each_two f R ≡ true) → ((y ≡ w) × (Y ≡ R)) ⊎ Upto (y ∷ Y) R → (each_two f R ≡ true → Upto (y ∷ Y) R → f y x ≡ true)
        → f y x ≡ true
    go p (inl k) rec = ap (λ z. f z x) k.0 ∙ before_at f w R X x p.0 (subst (λ Z. Upto (x ∷ X) Z) k.1 hx)
    go p (inr k) rec = rec p.1 k

abbrev pub no_conflict : Event → Event → Bool
no_conflict y x = not (may_part x.path y.path && clash x.act y.act)

pub is_free : (R : Run) → each_two no_conflict R ≡ true → Free R
is_free R e = record { no = λ Y X y x hy hx u c. true≢false (sym (two_at no_conflict R Y X y x e hy hx) ∙ ap not (and_from _ _ (parts u) (clashes c))) }

-- whether a script acts on no object but the one that stands at the start
abbrev is_main : Name → Bool
is_main n = same_name n (record { maker = []; count = 0 })

abbrev own_main : Own → Bool
own_main (Read n i) = is_main n
own_main (Write n i v) = is_main n
own_main (Look n) = is_main n
own_main o = true

abbrev items_main : List Item → Bool
items_main [] = true
items_main (does t o ∷ is) = own_main o && items_main is
items_main (forks t ts ∷ is) = items_main is

abbrev pub bodies_main : List Body → Bool
bodies_main [] = true
bodies_main (b ∷ bs) = items_main b.items && bodies_main bs

main_is : (P : Program) (R : Run) → thing_of P R (record { maker = []; count = 0 }) ≡ Some P.object
main_is P R = refl

own_known : (P : Program) (R : Run) (p : Path) (o : Own) → own_main o ≡ true → (a : Answer) × (reply P R p o ≡ Some a)
own_known P R p Rest e = (Went, refl)
own_known P R p (Print l) e = (Went, refl)
own_known P R p (Enter E) e = (Went, refl)
own_known P R p Exit e = (Went, refl)
own_known P R p (New t c) e = (Named (record { maker = p; count = length (made P R p) }), refl)
own_known P R p (Look n) e = (seen P.object, ap (λ m. answered_by (thing_of P R m) seen) (same_name_eq n _ e))
own_known P R p (Write n i v) e = (
  wrote_at (slot_of i (size P.object)),
  ap (λ m. answered_by (thing_of P R m) (λ t. wrote_at (slot_of i (size t)))) (same_name_eq n _ e),
)
own_known P R p (Read n i) e =
    let main : Name = record { maker = []; count = 0 } in (
      read_at R P.object main (slot_of i (size P.object)),
      ap (λ m. answered_by (thing_of P R m) (λ t. read_at R t m (slot_of i (size t))))
          (same_name_eq n main e),
    )

fork_main : (rest : ℕ → Reply) → ((n t : ℕ) (o : Own) → rest n ≡ Next t (Do o) → own_main o ≡ true) → (b k n t : ℕ) (o : Own)
    → after_fork b k rest n ≡ Next t (Do o) → own_main o ≡ true
fork_main rest f b zero zero t o e = absurd (cc)
fork_main rest f b zero (suc n) t o e = f n t o e
fork_main rest f b (suc k) zero t o e = absurd (cc)
fork_main rest f b (suc k) (suc n) t o e = fork_main rest f (suc b) k n t o e

after_main : (is : List Item) (x : Ending) → items_main is ≡ true → (n t : ℕ) (o : Own) → after is x n ≡ Next t (Do o) → own_main o ≡ true
after_main [] x h zero t o e = absurd (cc)
after_main [] x h (suc n) t o e = absurd (cc)
after_main (does s c ∷ is) x h zero t o e = let k : c ≡ o = cc in ap own_main (sym k) ∙ (and_parts (own_main c) (items_main is) h).0
after_main (does s c ∷ is) x h (suc n) t o e = after_main is x (and_parts (own_main c) (items_main is) h).1 n t o e
after_main (forks s ts ∷ is) x h zero t o e = absurd (cc)
after_main (forks s ts ∷ is) x h (suc n) t o e = fork_main (λ m. after is x m) (λ m u c k. after_main is x h m u c k) 0 (length ts.tasks) n t o e

body_main : (bodies : List Body) (i : ℕ) → bodies_main bodies ≡ true → items_main (body_of (slice_get bodies i)).items ≡ true
body_main [] i h = ap (λ b. items_main (body_of b).items) (slice_get_past [] i (omega arith))
body_main (b ∷ bs) zero h = (and_parts (items_main b.items) (bodies_main bs) h).0
body_main (b ∷ bs) (suc i) h = body_main bs i (and_parts (items_main b.items) (bodies_main bs) h).1

pub script_known : (bodies : List Body) (fields : List Value) (rule : Rule) → bodies_main bodies ≡ true → Known (scripted bodies fields rule)
script_known bodies fields rule h = record {
  replies = λ R l p t b o e. own_known (scripted bodies fields rule) R p o
      (after_main (body_of (slice_get bodies (number_of t))).items (body_of (slice_get bodies (number_of t))).ending (body_main bodies (number_of t) h)
      (length (answers (mine R p))) e.0 o e.1);
}

-- whether only the root of a script accesses objects, and it never begins again as a branch
abbrev no_access : Own → Bool
no_access (Read n i) = false
no_access (Write n i v) = false
no_access o = true

abbrev items_quiet : List Item → Bool
items_quiet [] = true
items_quiet (does t o ∷ is) = no_access o && items_quiet is
items_quiet (forks t ts ∷ is) = items_quiet is

abbrev no_roots : List Task → Bool
no_roots [] = true
no_roots (t ∷ ts) = not ((number_of t) == 0) && no_roots ts

abbrev items_below : List Item → Bool
items_below [] = true
items_below (does t o ∷ is) = items_below is
items_below (forks t ts ∷ is) = no_roots ts.tasks && items_below is

abbrev all_below : List Body → Bool
all_below [] = true
all_below (b ∷ bs) = items_below b.items && all_below bs

abbrev all_quiet : List Body → Bool
all_quiet [] = true
all_quiet (b ∷ bs) = items_quiet b.items && all_quiet bs

abbrev pub root_alone : List Body → Bool
root_alone [] = true
root_alone (b ∷ bs) = (items_below b.items && all_below bs) && all_quiet bs

quiet_fork : (rest : ℕ → Reply) → ((n t : ℕ) (o : Own) → rest n ≡ Next t (Do o) → no_access o ≡ true) → (b k n t : ℕ) (o : Own)
    → after_fork b k rest n ≡ Next t (Do o) → no_access o ≡ true
quiet_fork rest f b zero zero t o e = absurd (cc)
quiet_fork rest f b zero (suc n) t o e = f n t o e
quiet_fork rest f b (suc k) zero t o e = absurd (cc)
quiet_fork rest f b (suc k) (suc n) t o e = quiet_fork rest f (suc b) k n t o e

after_quiet : (is : List Item) (x : Ending) → items_quiet is ≡ true → (n t : ℕ) (o : Own) → after is x n ≡ Next t (Do o) → no_access o ≡ true
after_quiet [] x h zero t o e = absurd (cc)
after_quiet [] x h (suc n) t o e = absurd (cc)
after_quiet (does s c ∷ is) x h zero t o e = let k : c ≡ o = cc in ap no_access (sym k) ∙ (and_parts (no_access c) (items_quiet is) h).0
after_quiet (does s c ∷ is) x h (suc n) t o e = after_quiet is x (and_parts (no_access c) (items_quiet is) h).1 n t o e
after_quiet (forks s ts ∷ is) x h zero t o e = absurd (cc)
after_quiet (forks s ts ∷ is) x h (suc n) t o e = quiet_fork (λ m. after is x m) (λ m u c k. after_quiet is x h m u c k) 0 (length ts.tasks) n t o e

below_fork : (rest : ℕ → Reply) → ((n t : ℕ) (us : Branches) → rest n ≡ Next t (Fork us) → no_roots us.tasks ≡ true) → (b k n t : ℕ) (us : Branches)
    → after_fork b k rest n ≡ Next t (Fork us) → no_roots us.tasks ≡ true
below_fork rest f b zero zero t us e = absurd (cc)
below_fork rest f b zero (suc n) t us e = f n t us e
below_fork rest f b (suc k) zero t us e = absurd (cc)
below_fork rest f b (suc k) (suc n) t us e = below_fork rest f (suc b) k n t us e

after_below : (is : List Item) (x : Ending) → items_below is ≡ true → (n t : ℕ) (us : Branches) → after is x n ≡ Next t (Fork us) → no_roots us.tasks ≡ true
after_below [] x h zero t us e = absurd (cc)
after_below [] x h (suc n) t us e = absurd (cc)
after_below (does s c ∷ is) x h zero t us e = absurd (cc)
after_below (does s c ∷ is) x h (suc n) t us e = after_below is x h n t us e
after_below (forks s ts ∷ is) x h zero t us e = let k : ts ≡ us =
    cc in ap (λ (b : Branches). no_roots b.tasks) (sym k) ∙ (and_parts (no_roots ts.tasks) (items_below is) h).0
after_below (forks s ts ∷ is) x h (suc n) t us e = below_fork (λ m. after is x m)
    (λ m u c k. after_below is x (and_parts (no_roots ts.tasks) (items_below is) h).1 m u c k) 0 (length ts.tasks) n t us e

not_root : (ts : List Task) (i : ℕ) (t : Task) → no_roots ts ≡ true → slice_get ts i ≡ Some t → (m : ℕ) × ((number_of t) ≡ suc m)
not_root [] i t h e = absurd (let k : None ≡ Some t = sym (slice_get_past [] i (omega arith)) ∙ e in cc)
not_root (s ∷ ts) zero t h e = let k : s ≡ t = cc in by (number_of t)
    (ap (λ (w : Task). not ((number_of w) == 0)) (sym k) ∙ (and_parts (not ((number_of s) == 0)) (no_roots ts) h).0)
  where
    by : (b : ℕ) → not (b == 0) ≡ true → (m : ℕ) × (b ≡ suc m)
    by zero n = absurd (true≢false (sym n))
    by (suc m) n = (m, refl)
not_root (s ∷ ts) (suc i) t h e = not_root ts i t (and_parts (not ((number_of s) == 0)) (no_roots ts) h).1 e

all_below_at : (bodies : List Body) (i : ℕ) → all_below bodies ≡ true → items_below (body_of (slice_get bodies i)).items ≡ true
all_below_at [] i h = ap (λ b. items_below (body_of b).items) (slice_get_past [] i (omega arith))
all_below_at (b ∷ bs) zero h = (and_parts (items_below b.items) (all_below bs) h).0
all_below_at (b ∷ bs) (suc i) h = all_below_at bs i (and_parts (items_below b.items) (all_below bs) h).1

all_quiet_at : (bodies : List Body) (i : ℕ) → all_quiet bodies ≡ true → items_quiet (body_of (slice_get bodies i)).items ≡ true
all_quiet_at [] i h = ap (λ b. items_quiet (body_of b).items) (slice_get_past [] i (omega arith))
all_quiet_at (b ∷ bs) zero h = (and_parts (items_quiet b.items) (all_quiet bs) h).0
all_quiet_at (b ∷ bs) (suc i) h = all_quiet_at bs i (and_parts (items_quiet b.items) (all_quiet bs) h).1

accesses : {x y : Event} → Conflict x y → (o : Own) × (y.act ≡ Do o) × (no_access o ≡ false)
accesses (read_write c a b) = (Write c.object (pos c.slot) b.value, b.act, refl)
accesses (write_read c a b) = (Read c.object (pos c.slot), b.act, refl)
accesses (write_write c a b) = (Write c.object (pos c.slot) b.value, b.act, refl)

module _ (body : Body) (bodies : List Body) (fields : List Value) (rule : Rule) (h : root_alone (body ∷ bodies) ≡ true) where
  abbrev its : Program
  its = scripted (body ∷ bodies) fields rule

  parts_of : (items_below body.items && all_below bodies ≡ true) × (all_quiet bodies ≡ true)
  parts_of = and_parts (items_below body.items && all_below bodies) (all_quiet bodies) h

  -- a branch accesses nothing
  branch_quiet : {R Y : Run} {y : Event} → Faithful its R → Upto (y ∷ Y) R → below_root y.path ≡ true → (o : Own) → y.act ≡ Do o → no_access o ≡ true
  branch_quiet {R} {Y} {y} l hy b o k = go (follows_at its hy l).begun
    where
      a : Follows its Y y
      a = follows_at its hy l

      go : Begun its Y y.path a.task → no_access o ≡ true
      go (root p t) = absurd (true≢false (sym b ∙ ap below_root p))
      go (branch q u F f ts B g p hf fq fn fa there hg gq ga gn) =
          let s = follows_at its (upto_trans hf (upto_tail hy)) l in
          let asks : after (body_of (slice_get (body ∷ bodies) (number_of s.task))).items (body_of (slice_get (body ∷ bodies) (number_of s.task))).ending
          (length (answers (mine F f.path))) ≡ Next f.ticks (Fork ts) = s.asks ∙ ap (λ c. Next f.ticks c) fa in
          let none = after_below (body_of (slice_get (body ∷ bodies) (number_of s.task))).items (body_of (slice_get (body ∷ bodies) (number_of s.task))).ending
          (all_below_at (body ∷ bodies) (number_of s.task) parts_of.0) (length (answers (mine F f.path))) f.ticks ts asks in
          let m = not_root ts.tasks u.1 a.task none there in
          let quiet : items_quiet (body_of (slice_get (body ∷ bodies) (number_of a.task))).items ≡ true =
          ap (λ n. items_quiet (body_of (slice_get (body ∷ bodies) n)).items) m.1 ∙ all_quiet_at bodies m.0 parts_of.1 in
          after_quiet (body_of (slice_get (body ∷ bodies) (number_of a.task))).items (body_of (slice_get (body ∷ bodies) (number_of a.task))).ending quiet
          (length (answers (mine Y y.path))) y.ticks o (a.asks ∙ ap (λ c. Next y.ticks c) k)

  pub script_free : AllFree its
  script_free R l = record { no = no }
    where
      no : (Y X : Run) (y x : Event) → Upto (y ∷ Y) R → Upto (x ∷ X) Y → Unordered x.path y.path → Conflict x y → ⊥
      no Y X y x hy hx u c =
          let a = accesses c in
          let b : below_root y.path ≡ true = ap below_root u.q_is ∙ below_is u.below_q u.above u.v in
          true≢false (sym (branch_quiet (legal_faithful its R l) hy b a.0 a.1) ∙ a.2)
