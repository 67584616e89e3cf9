-- What the judgement gives; and on small programs, what it refuses, and the mended form of that.
use Rattle.lang_typed.specs.Plain.{PlainProgram}
use Rattle.lang_typed.specs.Resolved.{Resolved, HasMain}
use Rattle.lang_typed.specs.Samples.{two_writes, filled, linked, in_a, any_below_a}
use Rattle.lang_typed.specs.WellTyped.{WellTyped}

-- a well-typed program is what a run asks for
abbrev pub WellTypedIsResolved : Type 0
WellTypedIsResolved = (P : PlainProgram) → WellTyped P → Resolved P × HasMain P

-- two branches of a `cobegin` write one field: a race; two fields in regions of their own: none
pub record OneFieldTwice : Type 0 where
  pub refused : WellTyped (two_writes 0) → ⊥
  pub mended : WellTyped (two_writes 1)

-- each iteration writes the element at one index: a race. It is none where the index is the loop's variable. And no loop
-- has a variable that is in scope already, by which the race would look like that
pub record OneElementOften : Type 0 where
  pub refused : WellTyped (filled 4 3) → ⊥
  pub same_variable : WellTyped (filled 3 3) → ⊥
  pub mended : WellTyped (filled 4 4)

-- through a path that is known in part nothing is written that depends on it
pub record PartialWrite : Type 0 where
  pub refused : WellTyped (linked any_below_a) → ⊥
  pub mended : WellTyped (linked in_a)
