-- Reading on from a place of a text to the next one.
use Rattle.std.proofs.Common.{◌≡◌, ◌∙◌, List, [], ◌∷◌, ◌++◌, Some, refl, sym, subst}
use Rattle.lang_base.specs.Refused.{IfRefused}
use Rattle.lang_base.specs.declared.place.Place.{Place}
use Rattle.lang_base.specs.declared.refusal.Kind.{Kind}
use Rattle.lang_base.specs.declared.refusal.Stop.{Stop}
use Rattle.syntax_tokens.specs.declared.terminal.Placed.{Placed}
use Rattle.syntax_grammar.specs.Expecting.{Part, Expected, part, choose, next_of}
use Rattle.syntax_grammar.specs.Limits.{Counts, inside, outside, Within, nothing, begins, passes, Stops, no_part, no_terminal, too_many, in_part, after_part, after_terminal, Refuses}
use Rattle.syntax_exprs.specs.Onward.{Onward}
use Rattle.syntax_exprs.proofs.Composed.{seq, stops_after, stops_first, on_refused}

pub stay : {c : Counts} {xs : List Expected} {here : List Placed} → Onward c xs here c xs here
stay = record { reads = λ e after w. w; stops = λ k here s. s }

-- one place after another
pub over : {c d e : Counts} {xs ys zs : List Expected} {before between following : List Placed} →
    Onward c xs before d ys between → Onward d ys between e zs following → Onward c xs before e zs following
over a b = record { reads = λ f after w. a.reads f after (b.reads f after w); stops = λ k here s. a.stops k here (b.stops k here s) }

-- after the first of what is expected
pub step : {c d : Counts} {x : Expected} (ys : List Expected) {before between : List Placed} → Within c (x ∷ []) before d between → Onward c (x ∷ ys) before d ys between
step ys w = record { reads = λ e after v. seq w v; stops = λ k here s. stops_after w s }

-- at what a part begins with, whose counts go on after it
pub enter : (n : Part) {c : Counts} {xs : List Expected} {here : List Placed} → choose n (next_of here) ≡ Some xs → ((d : Counts) → outside n c d ≡ d) →
    Onward c (part n ∷ []) here (inside n (next_of here) c) xs here
enter n {c} {here = here} chosen same = record {
  reads = λ e after w. subst (λ f. Within c (part n ∷ []) here f after) (same e) (begins chosen w nothing);
  stops = λ k at s. in_part chosen s;
}

-- nothing is expected any more
pub ends : {c d : Counts} {xs : List Expected} {before after : List Placed} → Onward c xs before d [] after → Within c xs before d after
ends o = o.reads _ _ nothing

-- and where the first of it is refused
pub refused_on : {c d : Counts} {xs : List Expected} {x : Expected} (ys : List Expected) {before between : List Placed} {end last : Place} (stop : Stop) →
    Onward c xs before d (x ∷ ys) between → last ≡ end → IfRefused stop (Refuses d (x ∷ []) between last) → IfRefused stop (Refuses c xs before end)
refused_on {c} {d} {xs} {x} ys {before} {between} {end} {last} stop o same r =
    let there : IfRefused stop (Refuses c xs before last) = on_refused last stop (λ k here s. o.stops k here (stops_first ys s)) r in
    subst (λ place. IfRefused stop (Refuses c xs before place)) same there

-- of two lists, the second after the first
append : {c d e : Counts} {xs ys : List Expected} {before between after : List Placed} → Within c xs before d between → Within d ys between e after → Within c (xs ++ ys) before e after
append nothing v = v
append (begins chosen w r) v = begins chosen w (append r v)
append (passes test fits w) v = passes test fits (append w v)

append_stops : {c d : Counts} {xs ys : List Expected} {before between here : List Placed} {k : Kind} → Within c xs before d between → Stops d ys between k here → Stops c (xs ++ ys) before k here
append_stops nothing s = s
append_stops (begins chosen w r) s = after_part chosen w (append_stops r s)
append_stops (passes test fits w) s = after_terminal test fits (append_stops w s)

pub steps : {c d : Counts} {xs : List Expected} (ys : List Expected) {before between : List Placed} → Within c xs before d between → Onward c (xs ++ ys) before d ys between
steps ys w = record { reads = λ e after v. append w v; stops = λ k here s. append_stops w s }

pub extend_stops : {c : Counts} {xs : List Expected} (ys : List Expected) {before here : List Placed} {k : Kind} → Stops c xs before k here → Stops c (xs ++ ys) before k here
extend_stops ys (no_part none) = no_part none
extend_stops ys (no_terminal none) = no_terminal none
extend_stops ys (too_many test over_most) = too_many test over_most
extend_stops ys (in_part chosen s) = in_part chosen s
extend_stops ys (after_part chosen w s) = after_part chosen w (extend_stops ys s)
extend_stops ys (after_terminal test fits s) = after_terminal test fits (extend_stops ys s)

-- a part that was read, by what it begins with
pub record Inner (n : Part) (c : Counts) (xs : List Expected) (before : List Placed) (d : Counts) (after : List Placed) : Type 0 where
  pub last : Counts
  pub is : outside n c last ≡ d
  pub within : Within (inside n (next_of before) c) xs before last after

pub part_inside : {n : Part} {c d : Counts} {xs : List Expected} {before after : List Placed} → Within c (part n ∷ []) before d after → choose n (next_of before) ≡ Some xs → Inner n c xs before d after
part_inside {n} {c} {xs = xs} {before} {after} (begins {xs = ys} {d = last} chosen w nothing) e =
    let same : ys ≡ xs = cc in
    record { last = last; is = refl; within = subst (λ zs. Within (inside n (next_of before) c) zs before last after) same w }

pub part_stops : {n : Part} {c : Counts} {xs : List Expected} {before here : List Placed} {k : Kind} → Stops c (part n ∷ []) before k here → choose n (next_of before) ≡ Some xs →
    Stops (inside n (next_of before) c) xs before k here
part_stops (no_part none) e = cc
part_stops {n} {c} {xs} {before} {here} {k} (in_part {xs = ys} chosen s) e =
    let same : ys ≡ xs = cc in
    subst (λ zs. Stops (inside n (next_of before) c) zs before k here) same s
part_stops (after_part chosen w s) e = elim s [ ]

-- a part of which nothing was to be read
pub skip : {n : Part} {c d : Counts} {ys : List Expected} {before after : List Placed} → Within c (part n ∷ []) before d after → choose n (next_of before) ≡ Some [] →
    inside n (next_of before) c ≡ c → ((e : Counts) → outside n c e ≡ e) → Onward c ys before d ys after
skip {n} {c} {d} {ys} {before} {after} w e begun same =
    let i = part_inside w e in
    let v : Within c [] before d after =
    subst (λ f. Within f [] before d after) begun (subst (λ f. Within (inside n (next_of before) c) [] before f after) (sym (same i.last) ∙ i.is) i.within) in
    steps ys v
