-- Which effects are kept of branches, by groups of three kinds.
use Rattle.std.specs.Prelude.{◌≡◌, ℕ, ◌<◌, Bool, not, ◌||◌, List, length, filter, slice_index_or}
use Rattle.lang_base.specs.declared.effect.Effect.{Effect}
use Rattle.region_interfere.specs.declared.thin.Kinds.{Kinds}
use Rattle.region_interfere.specs.Groups.{ShowsAll, alone}

pub record Grouped (g : Kinds) (branches : List (List Effect)) : Type 0 where
  pub first : ShowsAll g.first branches
  pub last : ShowsAll g.last branches
  pub whole : ShowsAll g.whole branches

abbrev pub kept : Kinds → ℕ → Effect → Bool
kept g j e = not (alone g.first j e || alone g.last j e || alone g.whole j e)

-- each of the first branches without the effects that aren't kept
abbrev pub FirstThinned : (ℕ → Effect → Bool) → List (List Effect) → List (List Effect) → ℕ → Type 0
FirstThinned keeps branches left n = (length left ≡ n) × ((j : ℕ) (d : List Effect) → j < n → slice_index_or left j d ≡ filter (keeps j) (slice_index_or branches j d))

abbrev pub ThinnedBy : (ℕ → Effect → Bool) → List (List Effect) → List (List Effect) → Type 0
ThinnedBy keeps branches left = FirstThinned keeps branches left (length branches)
