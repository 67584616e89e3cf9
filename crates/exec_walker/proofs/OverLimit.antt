-- A state of the walk that has cost more than a limit allows leads to such states alone.
use Rattle.std.proofs.Common.{◌≤◌, ℕ, zero, suc, List, [], ◌∷◌, arith, inl, inr, Option, Some, None, Bool, true, false, cond}
use Rattle.lang_base.specs.declared.place.Place.{Place}
use Rattle.lang_base.specs.declared.value.Trap.{Trap}
use Rattle.lang_base.specs.declared.value.Trap.TheVariants as trap
use Rattle.lang_base.specs.declared.outcome.Limits.{Limits}
use Rattle.lang_typed.specs.Plain.{TypedStmt}
use Rattle.lang_meaning.specs.Actions.{Frame, Task, Work}
use Rattle.lang_meaning.specs.Counts.{Brought, Back, Trap_of_branch}
use Rattle.lang_meaning.specs.Elision.{LocalRegion, Store, one_step, sequential}
use Rattle.lang_meaning.specs.Core.{Traps, run}
use Rattle.lang_meaning.specs.Expressions.{gives, none}
use Rattle.lang_meaning.specs.Values.{Value}
use Rattle.exec_walker.specs.Walk.{Construct, Level, Waiting, forks_at, parts_at, lands, for_value, for_object, for_branch, falls, fallen, earlier, rejoins, branches}
use Rattle.exec_walker.specs.Halts.{IsOver}
use Rattle.exec_walker.specs.States.{IsOverAt}

module _ (L : Limits) where
  pub over_later : (w v : Store) → w.steps ≤ v.steps → w.cells ≤ v.cells → IsOver L w → IsOver L v
  over_later w v more wide (inl h) = inl (omega arith)
  over_later w v more wide (inr h) = inr (omega arith)

  pub over_step : (w : Store) → IsOver L w → IsOver L (one_step w)
  over_step w h = over_later w (one_step w) (omega arith) (omega arith) h

  pub falls_over : (ws : List Waiting) (t : Trap) (p : Place) (w : Store) → IsOver L w → IsOverAt L (falls ws t p w)
  falls_over [] t p w h = h
  falls_over (for_value g ∷ ws) t p w h = falls_over ws t p w h
  falls_over (for_object n g ∷ ws) t p w h = falls_over ws t p w h
  falls_over (for_branch c k [] ∷ ws) t p w h =
      falls_over ws (earlier c.fell (t, p)).0 (earlier c.fell (t, p)).1 (one_step (fallen t p w)) (over_step (fallen t p w) h)
  falls_over (for_branch c k (b ∷ rest) ∷ ws) t p w h = over_step (fallen t p w) h

  pub rejoins_over : (c : Construct) (ws : List Waiting) (b : Brought ℕ) (w : Store) → IsOver L w → IsOverAt L (rejoins c ws b w)
  rejoins_over c ws (Back ls) w h = h
  rejoins_over c ws (Trap_of_branch t p) w h = falls_over ws t p w h

  pub branches_over : (c : Construct) (ts : List (Task ℕ LocalRegion)) (ws : List Waiting) (w : Store) → IsOver L (one_step w) → IsOverAt L (branches c ts ws w)
  branches_over c [] ws w h = rejoins_over c ws _ (one_step w) h
  branches_over c (t ∷ ts) ws w h = h

  pub forks_over : (n : ℕ) (at : Place) (g : Level) (copies : List ℕ) (ts : List (Task ℕ LocalRegion)) (ws : List Waiting) (w : Store)
      → IsOver L w → IsOverAt L (forks_at n at g copies ts ws w)
  forks_over zero at g copies ts ws w h = falls_over ws trap.Stack at w h
  forks_over (suc d) at g copies ts ws w h = branches_over (record { outer = g; back = []; fell = None; copies = copies; left = d }) ts ws (one_step w) (over_step (one_step w) (over_step w h))

  pub parts_over : (at : Place) (k : ℕ) (s : TypedStmt) (g : Level) (ws : List Waiting) (w : Store) → IsOver L w → IsOverAt L (parts_at at k s g ws w)
  parts_over at k s g ws w h = forks_over g.left at g [] _ ws w h

  -- a trap that ends a branch
  pub branch_over : (c : Construct) (k : Work) (rest : List (Task ℕ LocalRegion)) (ws : List Waiting) (t : Trap) (p : Place) (w : Store)
      → IsOver L (one_step (fallen t p w)) → IsOverAt L (falls (for_branch c k rest ∷ ws) t p w)
  branch_over c k [] ws t p w h = falls_over ws (earlier c.fell (t, p)).0 (earlier c.fell (t, p)).1 (one_step (fallen t p w)) h
  branch_over c k (b ∷ rest) ws t p w h = h

  -- where a value lands, or a trap
  pub landed_over : (g : Level) (push : Value ℕ → List (Value ℕ)) (ws : List Waiting) (t : Trap) (p : Place) (f : Frame ℕ LocalRegion) (o : Option (Value ℕ))
      (w : Store) → IsOver L w → IsOverAt L (lands g push ws (run sequential (elim o [ None ↦ Traps t p | Some v ↦ gives v f ]) w))
  landed_over g push ws t p f None w h = falls_over ws t p w h
  landed_over g push ws t p f (Some v) w h = h

  pub written_over : (g : Level) (push : Value ℕ → List (Value ℕ)) (ws : List Waiting) (t : Trap) (p : Place) (f : Frame ℕ LocalRegion) (b : Bool)
      (w : Store) → IsOver L w → IsOverAt L (lands g push ws (run sequential (cond b (Traps t p) (gives none f)) w))
  written_over g push ws t p f true w h = falls_over ws t p w h
  written_over g push ws t p f false w h = h

pub ruleset overs = (falls_over, rejoins_over, branches_over, branch_over, landed_over, written_over)
