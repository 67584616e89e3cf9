-- Branches that stand one call deeper.
use Rattle.std.proofs.Common.{◌≡◌, ℕ, zero, suc, ◌-◌, ◌<◌, List, [], ap, arith, None}
use Rattle.lang_base.specs.declared.place.Place.{Place}
use Rattle.lang_meaning.specs.Actions.{Task}
use Rattle.lang_meaning.specs.Elision.{LocalRegion, Store, one_step}
use Rattle.exec_walker.specs.Walk.{Level, Waiting, forks_at, branches}

pub forks_here : (n : ℕ) (at : Place) (g : Level) (copies : List ℕ) (ts : List (Task ℕ LocalRegion)) (ws : List Waiting) (w : Store) → 0 < n
    → branches (record { outer = g; back = []; fell = None; copies = copies; left = n - 1 }) ts ws (one_step w) ≡ forks_at n at g copies ts ws w
forks_here zero at g copies ts ws w h = absurd (omega arith)
forks_here (suc d) at g copies ts ws w h =
    let e : suc d - 1 ≡ d = omega arith in
    ap (λ k. branches (record { outer = g; back = []; fell = None; copies = copies; left = k }) ts ws (one_step w)) e

pub ruleset forkings = (forks_here)
