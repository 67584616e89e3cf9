-- The effects of a piece of a body, and what becomes of them where it is left.
use Rattle.std.specs.Prelude.{ℕ, ◌==◌, Bool, true, false, not, cond, List, ◌∷◌, map}
use Rattle.std.specs.List.{list_any, filter}
use Rattle.lang_base.specs.declared.effect.Access.TheVariants.{Read, Write}
use Rattle.lang_base.specs.declared.effect.Effect.{Effect}
use Rattle.lang_base.specs.declared.elems.Elem.{Elem}
use Rattle.lang_base.specs.declared.elems.Elem.TheVariants.{Local}
use Rattle.lang_base.specs.declared.region.Rpl.{Rpl}
use Rattle.lang_base.specs.Effects.{with_mark}
use Rattle.lang_base.specs.Regions.{substituted, generalised}
use Rattle.lang_typed.specs.declared.stmt.Forking.{Forking}
use Rattle.lang_typed.specs.declared.stmt.Forking.TheVariants.{Deterministic, Nondeterministic}
use Rattle.lang_typed.specs.Plain.{Source, of_array, of_part}

-- an effect, or one that an access through a part of an array has, by the part's slot
pub data Own : Type 0 where
  does : Effect → Own
  uses : ℕ → Effect → Own

abbrev pub reads : Rpl → Effect
reads a = record { access = Read; atomic = false; rpl = a }

abbrev pub writes : Rpl → Effect
writes a = record { access = Write; atomic = false; rpl = a }

-- an effect with arguments put in
abbrev pub effect_with : List Rpl → Effect → Effect
effect_with args e = record e { rpl = substituted args e.rpl }

-- what a callee does, by its summary
abbrev pub summary_with : List Rpl → List Effect → List Own
summary_with args summary = map (λ e. does (effect_with args e)) summary

abbrev pub effect_of : Own → Effect
effect_of (does e) = e
effect_of (uses k e) = e

-- all of them as effects
abbrev pub as_effects : List Own → List Effect
as_effects E = map effect_of E

abbrev pub is_through : ℕ → Own → Bool
is_through k (does e) = false
is_through k (uses j e) = j == k

-- those through the part of that slot, and all others, as effects
abbrev pub through_part : ℕ → List Own → List Effect
through_part k E = as_effects (filter (is_through k) E)

abbrev pub besides_part : ℕ → List Own → List Effect
besides_part k E = as_effects (filter (λ o. not (is_through k o)) E)

abbrev pub mapped : (Effect → Effect) → Own → Own
mapped f (does e) = does (f e)
mapped f (uses k e) = uses k (f e)

-- an atomic block marks its effects, but none through a part; what is behind a deterministic construct has no marks
abbrev pub marked : Bool → Own → Own
marked mark (does e) = does (with_mark mark e)
marked mark (uses k e) = uses k e

abbrev pub after_block : List Own → List Own
after_block E = map (marked true) E

abbrev pub after_branches : Forking → List Own → List Own
after_branches Deterministic E = map (marked false) E
after_branches Nondeterministic E = E

-- outside the scope of an index variable it may be any index
abbrev pub outside_variable : ℕ → List Own → List Own
outside_variable x E = map (mapped (λ e. record e { rpl = generalised x e.rpl })) E

-- outside the scope of local regions nobody sees an access to them
abbrev pub begins_in : List ℕ → List Elem → Bool
begins_in rs (Local r n ∷ elems) = list_any (λ q. r == q) rs
begins_in rs _ = false

abbrev pub outside_regions : List ℕ → List Own → List Own
outside_regions rs E = filter (λ o. not (begins_in rs (effect_of o).rpl.elems)) E

-- after a construct over parts, what its part was used for is done to the array, or to the part that was cut
abbrev pub handed_on : Source → Effect → Own
handed_on (of_array a) e = does e
handed_on (of_part k) e = uses k e

abbrev pub own_after : ℕ → Source → Own → Own
own_after k source o = cond (is_through k o) (handed_on source (effect_of o)) o

abbrev pub after_parts : ℕ → Source → List Own → List Own
after_parts k source E = map (own_after k source) E
