-- A read of a cell, and where its value lands; and a write.
use Rattle.std.proofs.Common.{◌≡◌, ◌∙◌, ℕ, ℤ, List, ap, subst, Err, Some, None}
use Rattle.lang_base.specs.declared.place.Place.{Place}
use Rattle.lang_base.specs.declared.value.Trap.TheVariants as trap
use Rattle.lang_base.specs.declared.outcome.Limits.{Limits}
use Rattle.lang_meaning.specs.Values.{Value}
use Rattle.lang_meaning.specs.Actions.{Frame, Read, Write}
use Rattle.lang_meaning.specs.Core.{Traps, run}
use Rattle.lang_meaning.specs.Counts.{reference, value_read, is_out}
use Rattle.lang_meaning.specs.Elision.{LocalRegion, Store, sequential, answer, after}
use Rattle.lang_meaning.specs.Expressions.{gives, unless_null, read_cell}
use Rattle.lang_meaning.specs.Statements.{write_cell}
use Rattle.exec_walker.specs.Walk.{Level, Waiting, At, lands}
use Rattle.exec_walker.specs.declared.halt.Halt.{Halt}
use Rattle.exec_walker.specs.Halts.{After}
use Rattle.exec_walker.specs.declared.walker.Walker.{Walker}
use Rattle.exec_walker.specs.States.{IsOverAt, ComesTo}
use Rattle.exec_walker.proofs.OverLimit.{landed_over, written_over}
use Rattle.exec_walker.proofs.Halting.{refused}

module _ (g : Level) (push : Value ℕ → List (Value ℕ)) (ws : List Waiting) (at : Place) (of : Value ℕ) (n : ℕ) (i j : ℤ) (f : Frame ℕ LocalRegion) (w : Store) where
  pub read_refused : (A : Type 0) (L : Limits) (x : Halt) (k : Walker) (P : Store → Type 0) → Some n ≡ reference of → After {A = A} L (Err x) P (after (Read n j) w)
      → ComesTo L (Err x) k (lands g push ws (run sequential (unless_null at of (λ m. read_cell at m i f)) w))
  read_refused A L x k P e h =
      refused A L x k _ P (after (Read n j) w) h
      (λ over. subst (λ o. IsOverAt L (lands g push ws (run sequential (elim o [ None ↦ Traps trap.Null at | Some m ↦ read_cell at m i f ]) w))) e
      (landed_over L g push ws trap.Index at f (value_read {M = LocalRegion} (answer w.heap (Read n i))) (after (Read n i) w) over))

  pub read_lands : (u : Value ℕ) → Some n ≡ reference of → j ≡ i → Some u ≡ value_read {M = LocalRegion} (answer w.heap (Read n j))
      → At (record g { operands = push u; frame = f }) ws (after (Read n j) w) ≡ lands g push ws (run sequential (unless_null at of (λ m. read_cell at m i f)) w)
  read_lands u e same is =
      ap (λ k. At (record g { operands = push u; frame = f }) ws (after (Read n k) w)) same
      ∙ ap (λ o. lands g push ws (run sequential (elim o [ None ↦ Traps trap.Index at | Some v ↦ gives v f ]) (after (Read n i) w)))
      (is ∙ ap (λ k. value_read {M = LocalRegion} (answer w.heap (Read n k))) same)
      ∙ ap (λ o. lands g push ws (run sequential (elim o [ None ↦ Traps trap.Null at | Some m ↦ read_cell at m i f ]) w)) e

  pub write_refused : (A : Type 0) (L : Limits) (x : Halt) (k : Walker) (P : Store → Type 0) (v : Value ℕ) → Some n ≡ reference of
      → After {A = A} L (Err x) P (after (Write n j v) w) → ComesTo L (Err x) k (lands g push ws (run sequential (unless_null at of (λ m. write_cell at m i v f)) w))
  write_refused A L x k P v e h =
      refused A L x k _ P (after (Write n j v) w) h
      (λ over. subst (λ o. IsOverAt L (lands g push ws (run sequential (elim o [ None ↦ Traps trap.Null at | Some m ↦ write_cell at m i v f ]) w))) e
      (written_over L g push ws trap.Index at f (is_out {M = LocalRegion} (answer w.heap (Write n i v))) (after (Write n i v) w) over))
