-- Faults that are reported, and parts that are read one after the other.
use Rattle.std.proofs.Common.{◌≡◌, ◌∙◌, ◌++◌, List, [], ◌∷◌, Option, None, Some, Result, Ok, Err, IfErr, IsErrAnd, refl, ap, sym, subst}
use Rattle.std.specs.Option.{option_or}
use Rattle.lang_base.specs.declared.refusal.Refusal.{Refusal}
use Rattle.lang_base.specs.declared.refusal.Stop.{Stop}
use Rattle.lang_base.specs.declared.refusal.Stop.TheVariants as stop
use Rattle.lang_base.specs.Refused.{IfRefused}
use Rattle.decl_headers.specs.declared.faults.Faults.{Faults}
use Rattle.decl_headers.specs.Faults.{reported, forgotten, settled, all_noted}
use Rattle.decl_resolve.specs.declared.scope.Site.{Site}
use Rattle.decl_resolve.specs.Telling.{reported_at, parts_reported, parts_noted}

-- where none is noted, nothing is forgotten
pub forgotten_same : (faults : Faults) → reported faults ≡ None → forgotten faults ≡ faults
forgotten_same faults none = ap (λ kept. record faults { kept = kept }) (sym none)

pub settled_ok : (fault : Option Refusal) (u : Unit {0}) → settled fault ≡ Ok u → fault ≡ None
settled_ok None u is = refl
settled_ok (Some fault) u is = cc

pub settled_err : (fault : Option Refusal) (e : Stop) → settled fault ≡ Err e → IfRefused e (λ refusal. fault ≡ Some refusal)
settled_err None e is = cc
settled_err (Some fault) (stop.Refused refusal) is = cc
settled_err (Some fault) stop.NoMemory is = tt

-- what a part tells
pub refused_map : (e : Stop) {P Q : Refusal → Type 0} → IfRefused e P → ((refusal : Refusal) → P refusal → Q refusal) → IfRefused e Q
refused_map (stop.Refused refusal) p to = to refusal p
refused_map stop.NoMemory p to = tt

-- the first part tells none
pub reported_later : (at : Site) (faults : Faults) (part : List Refusal) (parts : List (List Refusal)) → reported_at at (all_noted faults part) ≡ None → parts_reported at faults (part ∷ parts) ≡ parts_reported at (all_noted faults part) parts
reported_later at faults part parts none = ap (λ o. option_or o (parts_reported at (all_noted faults part) parts)) none

-- one part alone
pub reported_one : (at : Site) (faults : Faults) (part : List Refusal) → parts_reported at faults (part ∷ []) ≡ reported_at at (all_noted faults part)
reported_one at faults part = or_none (reported_at at (all_noted faults part))
  where
    or_none : (o : Option Refusal) → option_or o None ≡ o
    or_none None = refl
    or_none (Some refusal) = refl

or_else : (o p : Option Refusal) → option_or o p ≡ None → (o ≡ None) × (p ≡ None)
or_else None p is = (refl, is)
or_else (Some refusal) p is = cc

-- the first parts tell none
pub parts_later : (at : Site) (faults : Faults) (parts more : List (List Refusal)) → parts_reported at faults parts ≡ None → parts_reported at faults (parts ++ more) ≡ parts_reported at (parts_noted faults parts) more
parts_later at faults [] more none = refl
parts_later at faults (part ∷ parts) more none =
    let both = or_else (reported_at at (all_noted faults part)) (parts_reported at (all_noted faults part) parts) none in
    reported_later at faults part (parts ++ more) both.0 ∙ parts_later at (all_noted faults part) parts more both.1

or_same : {p q : Option Refusal} (o : Option Refusal) (refusal : Refusal) → (p ≡ Some refusal → q ≡ Some refusal) → option_or o p ≡ Some refusal → option_or o q ≡ Some refusal
or_same None refusal to is = to is
or_same (Some r) refusal to is = is

-- they tell one
pub parts_first : (at : Site) (faults : Faults) (parts more : List (List Refusal)) (refusal : Refusal) → parts_reported at faults parts ≡ Some refusal → parts_reported at faults (parts ++ more) ≡ Some refusal
parts_first at faults [] more refusal is = cc
parts_first at faults (part ∷ parts) more refusal is =
    or_same (reported_at at (all_noted faults part)) refusal (λ rest. parts_first at (all_noted faults part) parts more refusal rest) is

-- a refusal of the first parts is one of all
pub refused_first : (e : Stop) (at : Site) (faults : Faults) (parts more : List (List Refusal)) → IfRefused e (λ refusal. parts_reported at faults parts ≡ Some refusal) → IfRefused e (λ refusal. parts_reported at faults (parts ++ more) ≡ Some refusal)
refused_first e at faults parts more tells = refused_map e tells (λ refusal here. parts_first at faults parts more refusal here)

-- so is one of the later parts, where the first ones tell none
pub refused_later : (e : Stop) (at : Site) (faults new : Faults) (parts more : List (List Refusal)) → parts_reported at faults parts ≡ None → new ≡ parts_noted faults parts → IfRefused e (λ refusal. parts_reported at new more ≡ Some refusal) → IfRefused e (λ refusal. parts_reported at faults (parts ++ more) ≡ Some refusal)
refused_later e at faults new parts more none is tells =
    refused_map e tells (λ refusal here. parts_later at faults parts more none ∙ ap (λ z. parts_reported at z more) (sym is) ∙ here)

-- what holds of the fault of a step holds of that of the whole
pub passed_on : {T : Type 0} (r : Result T Stop) (e : Stop) (Q : Stop → Type 0) → IsErrAnd r (λ x. x ≡ e) → Q e → IfErr r Q
passed_on (Ok x) e Q is q = tt
passed_on (Err x) e Q is q = subst Q (sym is) q

-- the first parts tell none, nor do the later ones
pub unreported_parts : (at : Site) (faults new : Faults) (parts more : List (List Refusal)) → parts_reported at faults parts ≡ None → new ≡ parts_noted faults parts → parts_reported at new more ≡ None → parts_reported at faults (parts ++ more) ≡ None
unreported_parts at faults new parts more none is later = parts_later at faults parts more none ∙ ap (λ z. parts_reported at z more) (sym is) ∙ later

pub ruleset settling = (forgotten_same, settled_ok, settled_err)
