-- Reading what is expected one after another, and where that stops.
use Rattle.std.proofs.Common.{◌≡◌, List, [], ◌∷◌, Some}
use Rattle.lang_base.specs.Refused.{IfRefused}
use Rattle.lang_base.specs.declared.place.Place.{Place}
use Rattle.lang_base.specs.declared.refusal.Kind.{Kind}
use Rattle.lang_base.specs.declared.refusal.Stop.{Stop}
use Rattle.syntax_tokens.specs.declared.terminal.Placed.{Placed}
use Rattle.syntax_grammar.specs.Expecting.{Part, Expected, part, choose, next_of}
use Rattle.syntax_grammar.specs.Limits.{Counts, inside, outside, Within, nothing, begins, passes, Stops, no_part, no_terminal, too_many, in_part, after_part, after_terminal, Refuses}

-- of two lists, the second after the first
pub seq : {c d e : Counts} {x : Expected} {ys : List Expected} {before between after : List Placed} → Within c (x ∷ []) before d between → Within d ys between e after → Within c (x ∷ ys) before e after
seq (begins chosen within nothing) w = begins chosen within w
seq (passes test fits nothing) w = passes test fits w

pub stops_after : {c d : Counts} {x : Expected} {ys : List Expected} {before between here : List Placed} {k : Kind} → Within c (x ∷ []) before d between → Stops d ys between k here → Stops c (x ∷ ys) before k here
stops_after (begins chosen within nothing) s = after_part chosen within s
stops_after (passes test fits nothing) s = after_terminal test fits s

pub stops_first : {c : Counts} {x : Expected} (ys : List Expected) {before here : List Placed} {k : Kind} → Stops c (x ∷ []) before k here → Stops c (x ∷ ys) before k here
stops_first ys (no_part none) = no_part none
stops_first ys (no_terminal none) = no_terminal none
stops_first ys (too_many test over) = too_many test over
stops_first ys (in_part chosen s) = in_part chosen s
stops_first ys (after_part chosen w s) = elim s [ ]
stops_first ys (after_terminal test fits s) = elim s [ ]

-- a refusal of what is expected
abbrev pub Refused : Counts → List Expected → List Placed → Place → Stop → Type 0
Refused c xs before end stop = IfRefused stop (Refuses c xs before end)

pub on_refused : {c d : Counts} {xs ys : List Expected} {before between : List Placed} (end : Place) (stop : Stop) →
    ((k : Kind) (here : List Placed) → Stops c xs before k here → Stops d ys between k here) → IfRefused stop (Refuses c xs before end) → IfRefused stop (Refuses d ys between end)
on_refused end (Stop.Refused refusal) f r = record { here = r.here; stops = f _ _ r.stops; place = r.place }
on_refused end Stop.NoMemory f r = r

pub refused_first : (c : Counts) (x : Expected) (ys : List Expected) (before : List Placed) (end : Place) (stop : Stop) →
    IfRefused stop (Refuses c (x ∷ []) before end) → IfRefused stop (Refuses c (x ∷ ys) before end)
refused_first c x ys before end stop r = on_refused end stop (λ k here s. stops_first ys s) r

pub refused_after : (c d : Counts) (x : Expected) (ys : List Expected) (before between : List Placed) (end : Place) (stop : Stop) → Within c (x ∷ []) before d between →
    IfRefused stop (Refuses d ys between end) → IfRefused stop (Refuses c (x ∷ ys) before end)
refused_after c d x ys before between end stop w r = on_refused end stop (λ k here s. stops_after w s) r

-- a part, by what it begins with
pub read_part : (c d : Counts) (n : Part) (xs : List Expected) (before after : List Placed) → choose n (next_of before) ≡ Some xs → Within (inside n (next_of before) c) xs before d after →
    Within c (part n ∷ []) before (outside n c d) after
read_part c d n xs before after chosen w = begins chosen w nothing

pub refused_part : (c : Counts) (n : Part) (xs : List Expected) (before : List Placed) (end : Place) (stop : Stop) → choose n (next_of before) ≡ Some xs →
    IfRefused stop (Refuses (inside n (next_of before) c) xs before end) → IfRefused stop (Refuses c (part n ∷ []) before end)
refused_part c n xs before end stop chosen r = on_refused end stop (λ k here s. in_part chosen s) r
