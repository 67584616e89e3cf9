-- Which events write to a cell, and the last that does.
use Rattle.std.proofs.Common.{◌≡◌, ◌≢◌, ℕ, ℤ, pos, negsuc, Bool, true, false, [], ◌∷◌, refl, sym, ap, ap₂, ◌∙◌}
use Rattle.std.proofs.Common.{subst, arith, Option, Some, None, eq-eqb, eqb-true, true≢false, nat_lt}
use Rattle.std.proofs.lemmas.Bool.{and_from, and_parts, cond-true, cond-false}
use Rattle.runs_theory.specs.Actions.{Action, Answer, Begin, Class, Do, End, Enter, Exit, Fell, Fork, Got, Join, Joined, Length, Look, Named, New, Out, Own, Print}
use Rattle.runs_theory.specs.Actions.{Read, Rest, Went, Write}
use Rattle.runs_theory.specs.Objects.{Cell, Name, Value, is_cell, is_slot, same_name, slot_of}
use Rattle.runs_theory.specs.Order.{Conflict, IsPlain, Writes, read_write, write_read, write_write}
use Rattle.runs_theory.specs.Runs.{Event, Run, Upto, first_some, last_written, later, now, unless_out, written, written_by}
use Rattle.runs_theory.proofs.events.Upto.{upto_length}
use Rattle.runs_theory.proofs.events.Mine.{same_path_eq, test_same}

-- the action that writes this value to a cell
abbrev pub write_of : Cell → Value → Action
write_of c v = Do (Write c.object (pos c.slot) v)

name_eq : (n m : Name) → n.maker ≡ m.maker → n.count ≡ m.count → n ≡ m
name_eq n m a b = λ i. record { maker = a i; count = b i }

pub same_name_eq : (n m : Name) → same_name n m ≡ true → n ≡ m
same_name_eq n m e = let a = and_parts _ _ e in name_eq n m (same_path_eq n.maker m.maker a.0) (eqb-true _ _ a.1)

is_slot_eq : (i : ℤ) (k : ℕ) → is_slot i k ≡ true → i ≡ pos k
is_slot_eq (pos j) k e = ap pos (eqb-true j k e)
is_slot_eq (negsuc j) k e = absurd (true≢false (sym e))

is_cell_eq : (n : Name) (i : ℤ) (c : Cell) → is_cell n i c ≡ true → (n ≡ c.object) × (i ≡ pos c.slot)
is_cell_eq n i c e = let a = and_parts _ _ e in (same_name_eq n c.object a.0, is_slot_eq i c.slot a.1)

is_its_cell : (c : Cell) → is_cell c.object (pos c.slot) c ≡ true
is_its_cell c = and_from _ _ (and_from _ _ (test_same c.object.maker c.object.maker refl) (eq-eqb c.object.count c.object.count refl))
    (eq-eqb c.slot c.slot refl)

-- whether an event writes to a cell
pub data Written (c : Cell) (e : Event) : Type 0 where
  it_does : (w : Writes c e) → written c e ≡ Some w.value → Written c e
  it_does_not : (Writes c e → ⊥) → written c e ≡ None → Written c e

-- what an action would write to a cell
data WouldWrite (c : Cell) (a : Action) : Type 0 where
  would : (v : Value) → a ≡ write_of c v → written_by c a ≡ Some v → WouldWrite c a
  would_not : ((v : Value) → a ≡ write_of c v → ⊥) → written_by c a ≡ None → WouldWrite c a

own_not : (o : Own) (c : Cell) (v : Value) → (o ≡ Write c.object (pos c.slot) v → ⊥) → Do o ≡ write_of c v → ⊥
own_not o c v n e = n (let k : o ≡ Write c.object (pos c.slot) v = cc in k)

write_written : (c : Cell) (n : Name) (i : ℤ) (v : Value) (b : Bool) → is_cell n i c ≡ b → WouldWrite c (Do (Write n i v))
write_written c n i v true e =
    let k = is_cell_eq n i c e in
    would v (λ j. Do (Write (k.0 j) (k.1 j) v)) (cond-true (is_cell n i c) _ _ e)
write_written c n i v false e = would_not (λ w h. true≢false (sym (found w h) ∙ e)) (cond-false (is_cell n i c) _ _ e)
  where
    found : (w : Value) → Do (Write n i v) ≡ write_of c w → is_cell n i c ≡ true
    found w h =
        let a : n ≡ c.object = cc in
        let b : i ≡ pos c.slot = cc in
        ap₂ (λ m j. is_cell m j c) a b ∙ is_its_cell c

writing : (c : Cell) (a : Action) → WouldWrite c a
writing c (Do Rest) = would_not (λ v e. own_not Rest c v (λ k. cc) e) refl
writing c (Do (Read n i)) = would_not (λ v e. own_not (Read n i) c v (λ k. cc) e) refl
writing c (Do (Write n i v)) = write_written c n i v (is_cell n i c) refl
writing c (Do (Look n)) = would_not (λ v e. own_not (Look n) c v (λ k. cc) e) refl
writing c (Do (New t b)) = would_not (λ v e. own_not (New t b) c v (λ k. cc) e) refl
writing c (Do (Print l)) = would_not (λ v e. own_not (Print l) c v (λ k. cc) e) refl
writing c (Do (Enter E)) = would_not (λ v e. own_not (Enter E) c v (λ k. cc) e) refl
writing c (Do Exit) = would_not (λ v e. own_not Exit c v (λ k. cc) e) refl
writing c (Fork ts) = would_not (λ v e. cc) refl
writing c (Begin b) = would_not (λ v e. cc) refl
writing c Join = would_not (λ v e. cc) refl
writing c (End x) = would_not (λ v e. cc) refl

data IsOut (a : Answer) : Type 0 where
  it_is : a ≡ Out → ((o : Option Value) → unless_out a o ≡ None) → IsOut a
  it_is_not : (a ≡ Out → ⊥) → ((o : Option Value) → unless_out a o ≡ o) → IsOut a

is_out : (a : Answer) → IsOut a
is_out Out = it_is refl (λ o. refl)
is_out Went = it_is_not (λ e. cc) (λ o. refl)
is_out (Got v) = it_is_not (λ e. cc) (λ o. refl)
is_out (Class k rs) = it_is_not (λ e. cc) (λ o. refl)
is_out (Length n) = it_is_not (λ e. cc) (λ o. refl)
is_out (Named n) = it_is_not (λ e. cc) (λ o. refl)
is_out (Joined ls) = it_is_not (λ e. cc) (λ o. refl)
is_out (Fell t p) = it_is_not (λ e. cc) (λ o. refl)

pub writes : (c : Cell) (e : Event) → Written c e
writes c e = go (is_out e.ans) (writing c e.act)
  where
    go : IsOut e.ans → WouldWrite c e.act → Written c e
    go (it_is k f) w = it_does_not (λ h. h.in_bounds k) (f _)
    go (it_is_not n f) (would v k i) = it_does (record { value = v; act = k; in_bounds = n }) (f _ ∙ i)
    go (it_is_not n f) (would_not k i) = it_does_not (λ h. k h.value h.act) (f _ ∙ i)

pub last_nil : (c : Cell) → last_written [] c ≡ None
unfolding last_written
last_nil c = refl

pub last_step : (e : Event) (R : Run) (c : Cell) → last_written (e ∷ R) c ≡ first_some (written c e) (last_written R c)
unfolding last_written
last_step e R c = refl

-- the last write to a cell, or none
pub data LastWrite (R : Run) (c : Cell) : Type 0 where
  none : ((w : Event) (W : Run) → Upto (w ∷ W) R → Writes c w → ⊥) → last_written R c ≡ None → LastWrite R c
  some : (w : Event) (W : Run) → Upto (w ∷ W) R → (wr : Writes c w) → last_written R c ≡ Some wr.value
      → ((x : Event) (X : Run) → Upto (x ∷ X) R → Writes c x → Upto (x ∷ X) (w ∷ W)) → LastWrite R c

pub last_write : (R : Run) (c : Cell) → LastWrite R c
last_write [] c = none (λ w W h e. (let n = upto_length h in absurd (omega arith))) (last_nil c)
last_write (e ∷ R) c = go (last_write R c) (writes c e)
  where
    old : (Writes c e → ⊥) → (x : Event) (X B : Run) → Upto (x ∷ X) (e ∷ R) → Writes c x → Upto (x ∷ X) R
    old ne x X B now k = absurd (ne k)
    old ne x X B (later h) k = h

    step : {o : Option Value} → written c e ≡ o → last_written (e ∷ R) c ≡ first_some o (last_written R c)
    step i = last_step e R c ∙ ap (λ o. first_some o (last_written R c)) i

    go : LastWrite R c → Written c e → LastWrite (e ∷ R) c
    go l (it_does w i) = some e R now w (step i) (λ x X h k. h)
    go (none f z) (it_does_not ne i) = none (λ w W h k. f w W (old ne w W R h k) k) (step i ∙ z)
    go (some w W h k z f) (it_does_not ne i) = some w W (later h) k (step i ∙ z) (λ x X g m. f x X (old ne x X R g m) m)

-- an index that means a slot is that slot's number
pub slot_is : (i : ℤ) (n k : ℕ) → slot_of i n ≡ Some k → i ≡ pos k
slot_is (pos j) n k e = go (nat_lt j n) refl
  where
    go : (b : Bool) → nat_lt j n ≡ b → pos j ≡ pos k
    go true h = let s : Some j ≡ Some k = sym (cond-true (nat_lt j n) (Some j) None h) ∙ e in let m : j ≡ k = cc in ap pos m
    go false h = absurd (let s : None ≡ Some k = sym (cond-false (nat_lt j n) (Some j) None h) ∙ e in cc)
slot_is (negsuc j) n k e = absurd (let s : None ≡ Some k = e in cc)

pub got_in : (v : Value) → ◌≢◌ {A = Answer} (Got v) Out
got_in v e = cc

-- conflicts are of plain actions
pub left_plain : {x y : Event} → Conflict x y → IsPlain x.act
left_plain (read_write c a b) = subst IsPlain (sym a.act) tt
left_plain (write_read c a b) = subst IsPlain (sym a.act) tt
left_plain (write_write c a b) = subst IsPlain (sym a.act) tt

pub right_plain : {x y : Event} → Conflict x y → IsPlain y.act
right_plain (read_write c a b) = subst IsPlain (sym b.act) tt
right_plain (write_read c a b) = subst IsPlain (sym b.act) tt
right_plain (write_write c a b) = subst IsPlain (sym b.act) tt
