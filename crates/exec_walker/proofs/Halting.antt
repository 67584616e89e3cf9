-- A step that is broken off.
use Rattle.std.proofs.Common.{Err}
use Rattle.lang_meaning.specs.Elision.{Store}
use Rattle.exec_walker.specs.Walk.{State}
use Rattle.exec_walker.specs.declared.halt.Halt.{Halt}
use Rattle.exec_walker.specs.declared.halt.Halt.TheVariants as halt
use Rattle.exec_walker.specs.Halts.{IsOver, After}
use Rattle.exec_walker.specs.declared.walker.Walker.{Walker}
use Rattle.exec_walker.specs.States.{IsOverAt, ComesTo}
use Rattle.lang_base.specs.declared.outcome.Limits.{Limits}

-- a refused step, where what is over a limit leads to such states alone
pub refused : (A : Type 0) (L : Limits) (x : Halt) (k : Walker) (s : State) (P : Store → Type 0) (w : Store)
    → After {A = A} L (Err x) P w → (IsOver L w → IsOverAt L s) → ComesTo L (Err x) k s
refused A L halt.Limited k s P w h over = over h
refused A L halt.NoMemory k s P w h over = tt
