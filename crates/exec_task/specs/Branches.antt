-- How the branches of a task start that stands in front of their join.
use Rattle.std.specs.Int.{w32, int_wrapping_sub}
use Rattle.std.specs.Prelude.{ℕ, ◌-◌, pos, List, [], ◌∷◌, Option, Some}
use Rattle.lang_meaning.specs.Values.{Value}
use Rattle.lang_meaning.specs.Actions.{Frame}
use Rattle.lang_meaning.specs.Counts.{number, how_many}
use Rattle.code_instrs.specs.Fit.{site_at}
use Rattle.code_instrs.specs.Machine.{Level, Start, State, On, Rested, Off, Nowhere, site_of, line_before, started, each_started}
use Rattle.code_instrs.specs.Plain.{Site, fork_site, spread_site, PlainCode, body_at}

-- of a spread with this stack: so many are left, the next has this number, and there are so many in all
abbrev pub spread_starts : {N M : Type 0} → ℕ → ℕ → Frame N M → List (Value N) → List (Start N M)
spread_starts j x f (left ∷ next ∷ total ∷ st) =
    each_started j x f (int_wrapping_sub w32 (number next) (pos (how_many (number total) - how_many (number left)))) 0 (how_many (number total))
spread_starts j x f st = []

abbrev pub starts_of : {N M : Type 0} → Option Site → Level N M → List (Start N M)
starts_of (Some (fork_site forking js copies)) g = started js g.frame
starts_of (Some (spread_site forking j x)) g = spread_starts j x g.frame g.stack
starts_of site g = []

abbrev pub starts_at : {N M : Type 0} → PlainCode → State N M → List (Start N M)
starts_at C (On g fs) = starts_of (site_at C (site_of (line_before (body_at C g.body).lines g.at))) g
starts_at C (Rested g fs) = []
starts_at C (Off e) = []
starts_at C Nowhere = []
