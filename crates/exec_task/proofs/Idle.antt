-- Instructions that wait for nothing.
use Rattle.std.proofs.Common.{◌≡◌, ℕ, ℤ, List, [], ◌∷◌, refl, Option, Some, None}
use Rattle.lang_base.specs.declared.place.Place.{Place}
use Rattle.lang_base.specs.declared.value.Trap.{Trap}
use Rattle.lang_base.specs.declared.value.Trap.TheVariants as trap
use Rattle.lang_base.specs.declared.op.BinaryOp.{BinaryOp}
use Rattle.lang_meaning.specs.Counts.{number, operated, part_place, slot_value}
use Rattle.lang_meaning.specs.Values.{Value, Int}
use Rattle.lang_meaning.specs.Actions as meaning
use Rattle.code_instrs.specs.Machine.{Level, State, Stand, Goes, next, one, two, or_trap, operates, in_part, ends_branch, exec}
use Rattle.code_instrs.specs.Plain.{PlainCode}
use Rattle.code_instrs.specs.declared.instr.Instr.{Instr}
use Rattle.code_instrs.specs.declared.instr.Instr.TheVariants as i
use Rattle.exec_task.specs.Answers.{LeadsTo}
use Rattle.exec_frames.specs.Names.{same_object}
use Rattle.exec_task.specs.Names.{names_of}

module _ (x : meaning.Answer ℕ (ℕ × ℕ)) (s : State ℕ (ℕ × ℕ)) where
  one_idle : (st : List (Value ℕ)) (k : Value ℕ → List (Value ℕ) → Stand ℕ (ℕ × ℕ)) → ((v : Value ℕ) (rest : List (Value ℕ)) → LeadsTo (k v rest) x s) → LeadsTo (one st k) x s
  one_idle [] k h = tt
  one_idle (v ∷ st) k h = h v st

  two_idle : (st : List (Value ℕ)) (k : Value ℕ → Value ℕ → List (Value ℕ) → Stand ℕ (ℕ × ℕ)) → ((v u : Value ℕ) (rest : List (Value ℕ)) → LeadsTo (k v u rest) x s)
      → LeadsTo (two st k) x s
  two_idle [] k h = tt
  two_idle (u ∷ []) k h = tt
  two_idle (u ∷ v ∷ st) k h = h v u st

  trap_idle : {A : Type 0} (t : Trap) (at : Place) (o : Option A) (k : A → Stand ℕ (ℕ × ℕ)) → ((y : A) → LeadsTo (k y) x s) → LeadsTo (or_trap t at o k) x s
  trap_idle t at None k h = tt
  trap_idle t at (Some y) k h = h y

  operates_idle : (task : ℕ) (at : Place) (o : BinaryOp) (g : Level ℕ (ℕ × ℕ)) (fs : List (Level ℕ (ℕ × ℕ))) → LeadsTo (operates (names_of task) at o g fs) x s
  operates_idle task at o g fs =
      two_idle g.stack (λ v u st. or_trap trap.Divide at (operated same_object o v u) (λ w. Goes (next g (w ∷ st) fs)))
      (λ v u st. trap_idle trap.Divide at (operated same_object o v u) (λ w. Goes (next g (w ∷ st) fs)) (λ w. tt {0}))

  part_idle : (at : Place) (k : ℕ) (v : Value ℕ) (g : Level ℕ (ℕ × ℕ)) (j : ℤ → Value ℕ → Stand ℕ (ℕ × ℕ)) → ((p : ℤ) (a : Value ℕ) → LeadsTo (j p a) x s)
      → LeadsTo (in_part at k v g j) x s
  part_idle at k v g j h =
      trap_idle trap.Index at (part_place k (number v) g.frame.values) (λ p. j p (slot_value g.frame.values k)) (λ p. h p (slot_value g.frame.values k))

  end_idle : (C : PlainCode) (g : Level ℕ (ℕ × ℕ)) (fs : List (Level ℕ (ℕ × ℕ))) → LeadsTo (ends_branch C g fs) x s
  end_idle C g [] = tt
  end_idle C g (f ∷ fs) = tt

  pub idle : (C : PlainCode) (task : ℕ) (at : Place) (g : Level ℕ (ℕ × ℕ)) (fs : List (Level ℕ (ℕ × ℕ))) (y : Instr)
      → ((k : ℕ) → y ≡ i.Get k → ⊥)
      → ((k : ℕ) → y ≡ i.Put k → ⊥)
      → (y ≡ i.Elem → ⊥)
      → (y ≡ i.PutElem → ⊥)
      → (y ≡ i.Length → ⊥)
      → ((k : ℕ) → y ≡ i.Call k → ⊥)
      → ((k : ℕ) → y ≡ i.New k → ⊥)
      → ((k : ℕ) → y ≡ i.Array k → ⊥)
      → (y ≡ i.Print → ⊥)
      → ((k : ℕ) → y ≡ i.Text k → ⊥)
      → ((k : ℕ) → y ≡ i.Fork k → ⊥)
      → ((k : ℕ) → y ≡ i.Spread k → ⊥)
      → (y ≡ i.Join → ⊥)
      → ((k : ℕ) → y ≡ i.Enter k → ⊥)
      → (y ≡ i.Exit → ⊥)
      → LeadsTo (exec (names_of task) C at y g fs) x s
  idle C task at g fs (i.Int k) h0 h1 h2 h3 h4 h5 h6 h7 h8 h9 h10 h11 h12 h13 h14 = tt
  idle C task at g fs (i.Bool k) h0 h1 h2 h3 h4 h5 h6 h7 h8 h9 h10 h11 h12 h13 h14 = tt
  idle C task at g fs i.Null h0 h1 h2 h3 h4 h5 h6 h7 h8 h9 h10 h11 h12 h13 h14 = tt
  idle C task at g fs (i.Load k) h0 h1 h2 h3 h4 h5 h6 h7 h8 h9 h10 h11 h12 h13 h14 = tt
  idle C task at g fs (i.Store k) h0 h1 h2 h3 h4 h5 h6 h7 h8 h9 h10 h11 h12 h13 h14 = one_idle g.stack _ (λ v rest. tt)
  idle C task at g fs i.Pop h0 h1 h2 h3 h4 h5 h6 h7 h8 h9 h10 h11 h12 h13 h14 = one_idle g.stack _ (λ v rest. tt)
  idle C task at g fs (i.Unary o) h0 h1 h2 h3 h4 h5 h6 h7 h8 h9 h10 h11 h12 h13 h14 = one_idle g.stack _ (λ v rest. tt)
  idle C task at g fs (i.Binary o) h0 h1 h2 h3 h4 h5 h6 h7 h8 h9 h10 h11 h12 h13 h14 = operates_idle task at o g fs
  idle C task at g fs (i.Jump k) h0 h1 h2 h3 h4 h5 h6 h7 h8 h9 h10 h11 h12 h13 h14 = tt
  idle C task at g fs (i.Unless k) h0 h1 h2 h3 h4 h5 h6 h7 h8 h9 h10 h11 h12 h13 h14 = one_idle g.stack _ (λ v rest. tt)
  idle C task at g fs i.Turn h0 h1 h2 h3 h4 h5 h6 h7 h8 h9 h10 h11 h12 h13 h14 = tt
  idle C task at g fs (i.Get k) h0 h1 h2 h3 h4 h5 h6 h7 h8 h9 h10 h11 h12 h13 h14 = absurd (h0 k refl)
  idle C task at g fs (i.Put k) h0 h1 h2 h3 h4 h5 h6 h7 h8 h9 h10 h11 h12 h13 h14 = absurd (h1 k refl)
  idle C task at g fs i.Elem h0 h1 h2 h3 h4 h5 h6 h7 h8 h9 h10 h11 h12 h13 h14 = absurd (h2 refl)
  idle C task at g fs i.PutElem h0 h1 h2 h3 h4 h5 h6 h7 h8 h9 h10 h11 h12 h13 h14 = absurd (h3 refl)
  idle C task at g fs i.Length h0 h1 h2 h3 h4 h5 h6 h7 h8 h9 h10 h11 h12 h13 h14 = absurd (h4 refl)
  idle C task at g fs (i.Call k) h0 h1 h2 h3 h4 h5 h6 h7 h8 h9 h10 h11 h12 h13 h14 = absurd (h5 k refl)
  idle C task at g fs (i.New k) h0 h1 h2 h3 h4 h5 h6 h7 h8 h9 h10 h11 h12 h13 h14 = absurd (h6 k refl)
  idle C task at g fs (i.Array k) h0 h1 h2 h3 h4 h5 h6 h7 h8 h9 h10 h11 h12 h13 h14 = absurd (h7 k refl)
  idle C task at g fs i.Return h0 h1 h2 h3 h4 h5 h6 h7 h8 h9 h10 h11 h12 h13 h14 = one_idle g.stack _ (λ v rest. tt)
  idle C task at g fs i.Leave h0 h1 h2 h3 h4 h5 h6 h7 h8 h9 h10 h11 h12 h13 h14 = tt
  idle C task at g fs i.Print h0 h1 h2 h3 h4 h5 h6 h7 h8 h9 h10 h11 h12 h13 h14 = absurd (h8 refl)
  idle C task at g fs (i.Text k) h0 h1 h2 h3 h4 h5 h6 h7 h8 h9 h10 h11 h12 h13 h14 = absurd (h9 k refl)
  idle C task at g fs (i.Fork k) h0 h1 h2 h3 h4 h5 h6 h7 h8 h9 h10 h11 h12 h13 h14 = absurd (h10 k refl)
  idle C task at g fs (i.Spread k) h0 h1 h2 h3 h4 h5 h6 h7 h8 h9 h10 h11 h12 h13 h14 = absurd (h11 k refl)
  idle C task at g fs i.Join h0 h1 h2 h3 h4 h5 h6 h7 h8 h9 h10 h11 h12 h13 h14 = absurd (h12 refl)
  idle C task at g fs (i.Enter k) h0 h1 h2 h3 h4 h5 h6 h7 h8 h9 h10 h11 h12 h13 h14 = absurd (h13 k refl)
  idle C task at g fs i.Exit h0 h1 h2 h3 h4 h5 h6 h7 h8 h9 h10 h11 h12 h13 h14 = absurd (h14 refl)
  idle C task at g fs i.End h0 h1 h2 h3 h4 h5 h6 h7 h8 h9 h10 h11 h12 h13 h14 = end_idle C g fs
  idle C task at g fs (i.Region k) h0 h1 h2 h3 h4 h5 h6 h7 h8 h9 h10 h11 h12 h13 h14 = tt
  idle C task at g fs (i.Part k) h0 h1 h2 h3 h4 h5 h6 h7 h8 h9 h10 h11 h12 h13 h14 = tt
  idle C task at g fs (i.InPart k) h0 h1 h2 h3 h4 h5 h6 h7 h8 h9 h10 h11 h12 h13 h14 = one_idle g.stack (λ v st. in_part at k v g (λ p a. Goes (next g (Int p ∷ a ∷ st) fs))) (λ v st. part_idle at k v g (λ p a. Goes (next g (Int p ∷ a ∷ st) fs)) (λ p a. tt {0}))
  idle C task at g fs (i.InParts k) h0 h1 h2 h3 h4 h5 h6 h7 h8 h9 h10 h11 h12 h13 h14 = two_idle g.stack (λ v u st. in_part at k v g (λ p a. Goes (next g (u ∷ Int p ∷ a ∷ st) fs))) (λ v u st. part_idle at k v g (λ p a. Goes (next g (u ∷ Int p ∷ a ∷ st) fs)) (λ p a. tt {0}))
