-- A run put together anew: each event in turn is put directly after the latest one that is near its spot.
use Rattle.std.specs.Prelude.{ℕ, ◌≡◌, ◌<◌, Bool, true, false, ◌&&◌, ◌==◌, if◌then◌else◌, [], ◌∷◌}
use Rattle.runs_theory.specs.Objects.{Path, same_path}
use Rattle.runs_theory.specs.Actions.{Action, Do, Fork, Begin, Join, End}
use Rattle.runs_theory.specs.Runs.{Event, Run, Upto, count}

-- whether the one path is the other or below it
abbrev pub is_under : Path → Path → Bool
is_under [] o = same_path [] o
is_under (u ∷ p) o = if same_path (u ∷ p) o then true else is_under p o

-- where an event belongs: in a branch, after all that was made below it and after its begin; or after all that was made by
-- a task and below it. All that was made by the root and below it is all
pub data Spot : Type 0 where
  Branch_of : (u : ℕ × ℕ) (q : Path) → Spot
  All_of : (q : Path) → Spot

-- whether an action begins the branch of this number
abbrev pub begins_branch : ℕ → Action → Bool
begins_branch n (Begin b) = n == b
begins_branch n (Do o) = false
begins_branch n (Fork ts) = false
begins_branch n Join = false
begins_branch n (End x) = false

abbrev pub near : Spot → Event → Bool
near (Branch_of u q) x = if is_under x.path (u ∷ q) then true else (same_path x.path q && begins_branch u.1 x.act)
near (All_of q) x = is_under x.path q

abbrev pub put_after : Spot → Event → Run → Run
put_after s e [] = e ∷ []
put_after s e (x ∷ G) = if near s x then e ∷ (x ∷ G) else x ∷ put_after s e G

-- with each event at the spot that it has in the run before it
unfoldable pub rearranged : (Run → Event → Spot) → Run → Run
rearranged spot [] = []
rearranged spot (e ∷ R) = put_after (spot R e) e (rearranged spot R)

-- the event numbered k of the one task stands before that numbered l of the other
pub record Earlier (G : Run) (p : Path) (k : ℕ) (q : Path) (l : ℕ) : Type 0 where
  pub before : Run
  pub event : Event
  pub stands : Upto (event ∷ before) G
  pub path : event.path ≡ q
  pub number : count before q ≡ l
  pub more : k < count before p
