-- How much is asked of an item, and kept of it.
use Rattle.std.specs.Prelude.{ℕ, suc, Bool, true, false, List, [], ◌∷◌, map, fold, Option, Some, None, slice_get, slice_set}
use Rattle.lang_base.specs.declared.effect.Access.{Access}
use Rattle.lang_base.specs.declared.effect.Access.TheVariants.{Read, Write}
use Rattle.lang_base.specs.declared.effect.Effect.{Effect}
use Rattle.lang_base.specs.declared.region.Rpl.{Rpl}
use Rattle.lang_typed.specs.Plain.{PlainProgram, PlainMember}
use Rattle.lang_typed.specs.Scope.{member_at}
use Rattle.body_infer.specs.declared.kept.Kept.{Kept}
use Rattle.body_infer.specs.declared.kept.Kept.TheVariants as kept
use Rattle.body_infer.specs.Kept.{Keeping, summary_kept}
use Rattle.body_infer.specs.PostFixpoint.{takes}

-- nothing of each item of these, and of each member
abbrev pub nothing_of : List Effect → List Kept
nothing_of es = map (λ e. kept.Nothing) es

abbrev pub nothing_kept : PlainProgram → Keeping
nothing_kept P = map (λ m. nothing_of m.summary) P.members

abbrev pub asked_by : Bool → Access → Kept
asked_by false access = kept.Nothing
asked_by true Read = kept.Read
asked_by true Write = kept.Whole

-- how much of an item that lies in the place a demand asks for
abbrev pub asked : Effect → Rpl → Effect → Kept
asked item place demand = asked_by (takes (record item { rpl = place }) demand) demand.access

abbrev pub more : Kept → Kept → Kept
more kept.Whole b = kept.Whole
more kept.Read kept.Whole = kept.Whole
more kept.Read b = kept.Read
more kept.Nothing b = b

abbrev pub raised : Effect → Rpl → List Effect → Kept → Kept
raised item place demands old = fold (λ kept demand. more kept (asked item place demand)) old demands

-- what is kept of the summary of a member
abbrev pub kept_of_each : Option (List Kept) → Option PlainMember → List Effect
kept_of_each (Some ks) (Some m) = summary_kept ks m.summary
kept_of_each ks m = []

abbrev pub all_kept : Keeping → PlainProgram → ℕ → List Effect
all_kept S P n = kept_of_each (slice_get S n) (member_at P n)

abbrev pub raised_here : Option Effect → Option Rpl → List Effect → Kept → Kept
raised_here (Some item) (Some place) demands old = raised item place demands old
raised_here item place demands old = old

-- what is kept of the items from one on, where these lie in these places
abbrev pub raised_from : ℕ → List Effect → List Rpl → List Effect → List Kept → List Kept
raised_from at items places demands [] = []
raised_from at items places demands (k ∷ ks) = raised_here (slice_get items at) (slice_get places at) demands k ∷ raised_from (suc at) items places demands ks

abbrev pub raised_of : Keeping → ℕ → List Effect → List Rpl → List Effect → Option (List Kept) → Keeping
raised_of S n items places demands None = S
raised_of S n items places demands (Some ks) = slice_set S n (raised_from 0 items places demands ks)

-- the items of one member are raised to these demands
abbrev pub raised_in : Keeping → ℕ → List Effect → List Rpl → List Effect → Keeping
raised_in S n items places demands = raised_of S n items places demands (slice_get S n)
