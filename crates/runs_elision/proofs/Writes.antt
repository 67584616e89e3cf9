-- A write, in the heap of the elision and in the run.
use Rattle.std.proofs.Common.{◌≡◌, ℕ, zero, suc, ◌⊎◌, inl, inr, ⊎_elim, ℤ, pos, negsuc, Bool, true, false, cond, List, [], ◌∷◌, ◌++◌, length}
use Rattle.std.proofs.Common.{refl, sym, ap, ◌∙◌, subst, Option, Some, None, slice_get, nat_lt, ◌&&◌}
use Rattle.std.proofs.Common.{true≢false, eq-eqb, eqb-true}
use Rattle.std.specs.Prelude.{slice_set}
use Rattle.std.proofs.lemmas.Bool.{cond-true, cond-false, false_from_ne_true, cases_eq, and_parts, and_from}
use Rattle.lang_meaning.specs.Elision.{Heap, set_at}
use Rattle.runs_theory.specs.Actions.{Do}
use Rattle.runs_theory.specs.Actions.{Program, Went, Write}
use Rattle.runs_theory.specs.Objects.{Cell, Name, Path, Thing, Value, first_value, is_cell, is_slot, or_else, size, slot_of}
use Rattle.runs_theory.specs.Runs.{Event, Run, first_some, last_written, later, now}
use Rattle.runs_theory.specs.Runs.{thing_of, unless_out, wrote_at}
use Rattle.runs_theory.proofs.events.Cells.{last_step, same_name_eq, slot_is}
use Rattle.runs_theory.proofs.events.Mine.{test_same}
use Rattle.runs_theory.proofs.events.Things.{thing_later}
use Rattle.runs_elision.proofs.Worlds.{Names, Distinct, ValueLike}
use Rattle.runs_elision.proofs.Counts.{MaybeLike, none_like, some_like}
use Rattle.runs_elision.proofs.Memory.{ValueIn, Stands, cell_value, last_quiet, cell_same, still_none}

-- lists with one element set
set_there : {A : Type 0} (xs : List A) (n : ℕ) (x y : A) → slice_get xs n ≡ Some x → slice_get (slice_set xs n y) n ≡ Some y
set_there [] n x y h = absurd (let k : None ≡ Some x = h in cc)
set_there (w ∷ xs) zero x y h = refl
set_there (w ∷ xs) (suc n) x y h = set_there xs n x y h

set_other : {A : Type 0} (xs : List A) (n m : ℕ) (y : A) → (n ≡ m → ⊥) → slice_get (slice_set xs n y) m ≡ slice_get xs m
set_other [] n m y h = refl
set_other (w ∷ xs) zero zero y h = absurd (h refl)
set_other (w ∷ xs) zero (suc m) y h = refl
set_other (w ∷ xs) (suc n) zero y h = refl
set_other (w ∷ xs) (suc n) (suc m) y h = set_other xs n m y (λ e. h (ap (λ k. suc k) e))

set_past : {A : Type 0} (xs : List A) (n : ℕ) (y : A) → slice_get xs n ≡ None → slice_get (slice_set xs n y) n ≡ None
set_past [] n y h = refl
set_past (w ∷ xs) zero y h = absurd (let k : Some w ≡ None = h in cc)
set_past (w ∷ xs) (suc n) y h = set_past xs n y h

pub set_length : {A : Type 0} (xs : List A) (n : ℕ) (y : A) → length (slice_set xs n y) ≡ length xs
set_length [] n y = refl
set_length (w ∷ xs) zero y = refl
set_length (w ∷ xs) (suc n) y = ap (λ k. suc k) (set_length xs n y)

pub last_there : {A : Type 0} (xs : List A) (x : A) → slice_get (xs ++ x ∷ []) (length xs) ≡ Some x
last_there [] x = refl
last_there (y ∷ xs) x = last_there xs x

pub snoc_cases : {A : Type 0} (xs : List A) (x y : A) (n : ℕ) → slice_get (xs ++ x ∷ []) n ≡ Some y → (slice_get xs n ≡ Some y) ⊎ ((n ≡ length xs) × (x ≡ y))
snoc_cases [] x y zero h = inr (refl, (let k : Some x ≡ Some y = h in cc))
snoc_cases [] x y (suc n) h = absurd (let k : None ≡ Some y = h in cc)
snoc_cases (z ∷ xs) x y zero h = inl h
snoc_cases (z ∷ xs) x y (suc n) h = ⊎_elim (λ k. inl k) (λ k. inr (ap (λ m. suc m) k.0, k.1)) (snoc_cases xs x y n h)

some_same : {A : Type 0} {x y : A} {o : Option A} → o ≡ Some x → o ≡ Some y → x ≡ y
some_same {A} {x} {y} a b = let k : Some x ≡ Some y = sym a ∙ b in cc

is_its_cell : (c : Cell) → is_cell c.object (pos c.slot) c ≡ true
is_its_cell c = and_from _ _ (and_from _ _ (test_same c.object.maker c.object.maker refl) (eq-eqb c.object.count c.object.count refl))
    (eq-eqb c.slot c.slot refl)

-- a write
module _ (P : Program) {R : Run} {ns : Names} {heap : Heap} (d : Distinct ns) {n : ℕ} {x : Name} (at : slice_get ns n ≡ Some x) (h : Stands P R ns heap n x)
    (i : ℤ) {v : ValueIn} {u : Value} (like : ValueLike ns v u) (p : Path) (ticks : ℕ) where
  abbrev wrote : Event
  wrote = record { path = p; ticks = ticks; act = Do (Write x i u); ans = wrote_at (slot_of i (size h.thing)) }

  abbrev heap_now : Heap
  heap_now = slice_set heap n (record h.held { values = set_at h.held.values i v })

  last_not : (c : Cell) → is_cell x i c ≡ false → last_written (wrote ∷ R) c ≡ last_written R c
  last_not c e = last_quiet wrote R c (cond-false (is_cell x i c) _ _ e)

  cell_not : (y : Name) → (x ≡ y → ⊥) → (k : ℕ) → is_cell x i (record { object = y; slot = k }) ≡ false
  cell_not y ne k = ap (λ b. b && is_slot i k) (false_from_ne_true _ (λ t. ne (same_name_eq x y t)))

  slot_not : (i : ℤ) (k : ℕ) → is_slot i k ≡ false → is_cell x i (record { object = x; slot = k }) ≡ false
  slot_not i k e = false_from_ne_true _ (λ t. true≢false (sym (and_parts _ _ t).1 ∙ e))

  other_value : (t : Thing) (y : Name) (s : Option ℕ) → ((k : ℕ) → is_cell x i (record { object = y; slot = k }) ≡ false)
      → cell_value R t y s ≡ cell_value (wrote ∷ R) t y s
  other_value t y s f = cell_same wrote R t y s (λ k. last_not (record { object = y; slot = k }) (f k))

  -- where the index is that of the cell, and where it isn't
  own_value : (k : ℕ) → MaybeLike ns (slice_get (set_at h.held.values i v) k) (cell_value (wrote ∷ R) h.thing x (slot_of (pos k) (size h.thing)))
  own_value k = go i refl
    where
      unchanged : (j : ℤ) → i ≡ j → is_slot j k ≡ false → slice_get (set_at h.held.values j v) k ≡ slice_get h.held.values k
          → MaybeLike ns (slice_get (set_at h.held.values i v) k) (cell_value (wrote ∷ R) h.thing x (slot_of (pos k) (size h.thing)))
      unchanged j ij e g =
          subst (λ (o : Option ValueIn). MaybeLike ns o (cell_value (wrote ∷ R) h.thing x (slot_of (pos k) (size h.thing))))
          (sym (ap (λ z. slice_get (set_at h.held.values z v) k) ij ∙ g))
          (subst (λ (r : Option Value). MaybeLike ns (slice_get h.held.values k) r) (same (slot_of (pos k) (size h.thing)) (slot_here (nat_lt k
          (size h.thing)))) (h.values k))
        where
          slot_here : (b : Bool) → (s : ℕ) → cond b (Some k) None ≡ Some s → s ≡ k
          slot_here true s e = let z : Some k ≡ Some s = e in let y : k ≡ s = cc in sym y
          slot_here false s e = absurd (let z : None ≡ Some s = e in cc)

          same : (s : Option ℕ) → ((m : ℕ) → s ≡ Some m → m ≡ k) → cell_value R h.thing x s ≡ cell_value (wrote ∷ R) h.thing x s
          same None f = refl
          same (Some m) f =
              let mk : m ≡ k = f m refl in
              ap (λ o. Some (or_else o (first_value h.thing m))) (sym (last_not (record { object = x; slot = m })
              (ap (λ z. is_cell x z (record { object = x; slot = m })) ij ∙ slot_not j m (ap (λ z. is_slot j z) mk ∙ e))))

      changed : (s : Option ℕ) → slot_of (pos k) (size h.thing) ≡ s → i ≡ pos k → MaybeLike ns (slice_get h.held.values k) (cell_value R h.thing x s)
          → MaybeLike ns (slice_get (slice_set h.held.values k v) k) (cell_value (wrote ∷ R) h.thing x s)
      changed None e ik m = subst (λ (o : Option ValueIn). MaybeLike ns o None) (sym (set_past h.held.values k v (nothing m))) none_like
        where
          nothing : {o : Option ValueIn} → MaybeLike ns o None → o ≡ None
          nothing none_like = refl
      changed (Some s) e ik m =
          subst (λ (o : Option ValueIn). MaybeLike ns o (cell_value (wrote ∷ R) h.thing x (Some s))) (sym (set_there h.held.values k (there m).0 v (there m).1))
          (subst (λ (r : Option Value). MaybeLike ns (Some v) r) (sym now_it) (some_like like))
        where
          there : {o : Option ValueIn} {w : Value} → MaybeLike ns o (Some w) → (z : ValueIn) × (o ≡ Some z)
          there (some_like {v = z} a) = (z, refl)

          ks : k ≡ s
          ks = let z : pos k ≡ pos s = slot_is (pos k) (size h.thing) s e in cc

          went : wrote_at (slot_of i (size h.thing)) ≡ Went
          went = ap (λ j. wrote_at (slot_of j (size h.thing))) ik ∙ ap wrote_at e

          here : is_cell x i (record { object = x; slot = s }) ≡ true
          here = ap (λ j. is_cell x j (record { object = x; slot = s })) (ik ∙ ap pos ks) ∙ is_its_cell (record { object = x; slot = s })

          last_is : last_written (wrote ∷ R) (record { object = x; slot = s }) ≡ Some u
          last_is = last_step wrote R (record { object = x; slot = s })
              ∙ (λ z. first_some (unless_out (went z) (cond-true (is_cell x i (record { object = x; slot = s })) (Some u) None here z)) (last_written R
              (record { object = x; slot = s })))

          now_it : cell_value (wrote ∷ R) h.thing x (Some s) ≡ Some u
          now_it = ap (λ o. Some (or_else o (first_value h.thing s))) last_is

      go : (j : ℤ) → i ≡ j → MaybeLike ns (slice_get (set_at h.held.values i v) k) (cell_value (wrote ∷ R) h.thing x (slot_of (pos k) (size h.thing)))
      go (negsuc j) e = unchanged (negsuc j) e refl refl
      go (pos j) e = ⊎_elim
          (λ jk. (let ik : i ≡ pos k = e ∙ ap pos jk in
          subst (λ (z : ℤ). MaybeLike ns (slice_get (set_at h.held.values z v) k) (cell_value (wrote ∷ R) h.thing x (slot_of (pos k) (size h.thing)))) (sym ik)
          (changed (slot_of (pos k) (size h.thing)) refl ik (h.values k))))
          (λ ne. unchanged (pos j) e (false_from_ne_true _ (λ t. ne (eqb-true j k t))) (set_other h.held.values j k v ne)) (cases_eq j k)

  pub stands_written : (m : ℕ) (y : Name) → slice_get ns m ≡ Some y → Stands P R ns heap m y → Stands P (wrote ∷ R) ns heap_now m y
  stands_written m y my g = ⊎_elim same other (cases_eq n m)
    where
      same : n ≡ m → Stands P (wrote ∷ R) ns heap_now m y
      same nm =
          let xy : x ≡ y = some_same at (ap (λ z. slice_get ns z) nm ∙ my) in
          subst (λ (z : ℕ). Stands P (wrote ∷ R) ns heap_now z y) nm (subst (λ (z : Name). Stands P (wrote ∷ R) ns heap_now n z) xy (record {
            held = record h.held { values = set_at h.held.values i v };
            is_held = set_there heap n h.held _ h.is_held;
            thing = h.thing;
            is_thing = thing_later P x h.thing (later now) h.is_thing;
            like = h.like;
            values = own_value;
          }))

      other : (n ≡ m → ⊥) → Stands P (wrote ∷ R) ns heap_now m y
      other ne = record {
        held = g.held;
        is_held = set_other heap n m _ ne ∙ g.is_held;
        thing = g.thing;
        is_thing = thing_later P y g.thing (later now) g.is_thing;
        like = g.like;
        values = λ k. subst (λ (r : Option Value). MaybeLike ns (slice_get g.held.values k) r)
            (other_value g.thing y (slot_of (pos k) (size g.thing)) (λ j. cell_not y (λ xy. ne (d.one n m x at (my
            ∙ ap (λ z. Some z) (sym xy)))) j)) (g.values k);
      }

  pub unwritten_still : ((c : Cell) → thing_of P R c.object ≡ None → last_written R c ≡ None) → (c : Cell) → thing_of P (wrote ∷ R) c.object ≡ None
      → last_written (wrote ∷ R) c ≡ None
  unwritten_still f c e =
      last_not c (cell_is c (λ xy. (let z : None ≡ Some h.thing = sym e ∙ ap (λ z. thing_of P (wrote ∷ R) z) (sym xy)
      ∙ thing_later P x h.thing (later now) h.is_thing in cc)))
      ∙ f c (still_none P wrote R c.object e)
    where
      cell_is : (c : Cell) → (x ≡ c.object → ⊥) → is_cell x i c ≡ false
      cell_is c ne = ap (λ b. b && is_slot i c.slot) (false_from_ne_true _ (λ t. ne (same_name_eq x c.object t)))
