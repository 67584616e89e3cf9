-- Where the first pass finds nothing, the way through the classes tells what is wrong in their members.
use Rattle.std.proofs.Common.{◌≡◌, ℕ, zero, suc, ◌+◌, ◌<◌, Bool, true, false, ◌&&◌, ◌==◌, cond, ltb, List, [], ◌∷◌, ◌++◌, length, map, inl, inr, Option, Some, None, refl, sym, ap, subst, ◌∙◌, arith}
use Rattle.std.proofs.lemmas.Bool.{false≢true, cases_Bool}
use Rattle.std.proofs.lemmas.Bool.Decides.{Decides-ltb}
use Rattle.std.proofs.lemmas.List.{length-map}
use Rattle.std.proofs.lemmas.Option.{none-some}
use Rattle.std.specs.List.{flat_map}
use Rattle.std.specs.Option.{option_and_then}
use Rattle.std.specs.Prelude.{slice_get}
use Rattle.lang_base.specs.declared.place.Place.{Place}
use Rattle.lang_base.specs.declared.refusal.Kind.{Kind}
use Rattle.lang_base.specs.declared.refusal.Kind.TheVariants as kind
use Rattle.lang_base.specs.declared.refusal.Refusal.{Refusal}
use Rattle.syntax_tree.specs.declared.class.Class.{Class}
use Rattle.syntax_tree.specs.declared.class.Method.{Method}
use Rattle.syntax_tree.specs.declared.class.Parent.{Parent}
use Rattle.syntax_tree.specs.declared.region.Named.{Named}
use Rattle.decl_headers.specs.declared.faults.Faults.{Faults}
use Rattle.decl_headers.specs.declared.faults.Order.TheVariants as order
use Rattle.decl_headers.specs.Around.{reported_on_way}
use Rattle.decl_headers.specs.Faults.{noted, all_noted, reported, none_by}
use Rattle.decl_headers.specs.First.{class_named, parents_in, first_faults}
use Rattle.decl_headers.specs.Members.{param_names, formal_names}
use Rattle.decl_headers.specs.Numbers.{as_number}
use Rattle.decl_headers.specs.Passes.{fault_if, first_of, first_named, second_classes, named_parent, unknown_parents, extends_place, cycles, is_constructor_result}
use Rattle.decl_headers.specs.Rounds.{entry_of, is_round}
use Rattle.decl_headers.specs.Second.{own_params, own_regions, own_fields, own_methods, method_name, method_names, constructor_names, are_below, declared_in_method, declared_in, AreNamed, AreCounted, second_faults}
use Rattle.decl_headers.specs.Way.{IsForest, IsCounted, way_of}
use Rattle.decl_headers.proofs.Cycles.{up_within, told_round}
use Rattle.decl_headers.proofs.Inside.{InnerBelow, Below}
use Rattle.decl_headers.proofs.Marks.{AllBelow}
use Rattle.decl_headers.proofs.Walks.{way_second}

-- where no fault is reported none is noted
one_kept : (faults : Faults) (one : Refusal) → reported (noted faults one) ≡ None → ⊥
unfolding noted
one_kept faults one h = none-some _ (sym h)

kept_reported : (faults : Faults) (found : List Refusal) → reported (all_noted faults found) ≡ None → reported faults ≡ None
kept_reported faults [] h = h
kept_reported faults (one ∷ found) h = absurd (one_kept faults one (kept_reported (noted faults one) found h))

none_reported : (faults : Faults) (found : List Refusal) → reported (all_noted faults found) ≡ None → found ≡ []
none_reported faults [] h = refl
none_reported faults (one ∷ found) h = absurd (one_kept faults one (kept_reported (noted faults one) found h))

append_none : {A : Type 0} (xs ys : List A) → xs ++ ys ≡ [] → (xs ≡ []) × (ys ≡ [])
append_none [] ys h = (refl, h)
append_none (x ∷ xs) ys h = cc

fault_none : (b : Bool) (reason : Kind) (place : Place) → fault_if b reason place ≡ [] → b ≡ false
fault_none true reason place h = cc
fault_none false reason place h = refl

no_cycle : (is_own : ℕ → Bool) (at j : ℕ) (classes : List Class) → cycles is_own at classes ≡ [] → j < length classes → is_own (at + j) ≡ false
no_cycle is_own at j [] h l = absurd (omega arith)
no_cycle is_own at zero (class ∷ classes) h l =
    let none : at + 0 ≡ at = omega arith in
    ap is_own none ∙ fault_none (is_own at) kind.Cycle (extends_place class) (append_none (fault_if (is_own at) kind.Cycle (extends_place class)) _ h).0
no_cycle is_own at (suc j) (class ∷ classes) h l =
    let next : at + suc j ≡ at + 1 + j = omega arith in
    ap is_own next ∙ no_cycle is_own (at + 1) j classes (append_none (fault_if (is_own at) kind.Cycle (extends_place class)) _ h).1 (omega arith)

pub length_parents : (classes : List Class) → length (parents_in classes) ≡ length classes
length_parents classes = length-map classes (named_parent (class_named classes))

-- where the first pass finds nothing no class is its own superclass
straight_from : (classes : List Class) → first_of (first_faults classes) ≡ None → (at : ℕ) → is_round (parents_in classes) at ≡ false
straight_from classes h at =
    elim (cases_Bool (is_round parents at)) [
      | inl own ↦ let round = told_round parents at own in here (omega (arith, up_within parents round.0 at at round.1, length_parents classes))
      | inr none ↦ none
    ]
  where
    parents : List (Option ℕ)
    parents = parents_in classes

    cycling : cycles (is_round parents) 0 classes ≡ []
    cycling =
        let none = none_reported (none_by order.Place) (first_faults classes) h in
        (append_none (cycles (is_round parents) 0 classes) _ (append_none (unknown_parents (class_named classes) classes) _ (append_none (second_classes [] classes) _ none).1).1).0

    here : at < length classes → is_round parents at ≡ false
    here l = let zero_on : at ≡ 0 + at = omega arith in ap (is_round parents) zero_on ∙ no_cycle (is_round parents) 0 at classes cycling l

-- a superclass is one of the classes
named_within : (name at above : ℕ) (classes : List Class) → first_named name at classes ≡ Some above → above < at + length classes
named_within name at above [] h = cc
named_within name at above (class ∷ classes) h = by (class.name == name) h (named_within name (at + 1) above classes)
  where
    by : (b : Bool) → cond b (Some (as_number at)) (first_named name (at + 1) classes) ≡ Some above → (first_named name (at + 1) classes ≡ Some above → above < at + 1 + length classes) → above < at + length (class ∷ classes)
    by true k more = let same : as_number at ≡ above = cc in omega arith
    by false k more = let l = more k in omega arith

parent_within : (named : ℕ → Option ℕ) (n : ℕ) (classes : List Class) (at above : ℕ) → ((name one : ℕ) → named name ≡ Some one → one < n) → entry_of (map (named_parent named) classes) at ≡ Some above → above < n
parent_within named n [] at above within h = cc
parent_within named n (class ∷ classes) zero above within h = by class.parent h
  where
    by : (o : Option Parent) → option_and_then (λ parent. named parent.name.name) o ≡ Some above → above < n
    by None k = cc
    by (Some parent) k = within parent.name.name above k
parent_within named n (class ∷ classes) (suc at) above within h = parent_within named n classes at above within h

pub sound_from : (classes : List Class) → IsCounted classes → first_of (first_faults classes) ≡ None → IsForest (parents_in classes)
sound_from classes counted h = record {
  counted = omega (arith, length_parents classes);
  straight = straight_from classes h;
  within = λ at above e.
      let l = parent_within (class_named classes) (length classes) classes at above (λ name one k. let w = named_within name 0 one classes k in omega arith) e in
      omega (arith, length_parents classes);
}

-- names below a count
pub and_true : (a b : Bool) → (a && b) ≡ true → (a ≡ true) × (b ≡ true)
and_true true b h = (refl, h)
and_true false b h = absurd (false≢true h)

all_below : (count : ℕ) (names : List Named) → are_below count names ≡ true → AllBelow count names
all_below count [] h = tt
all_below count (named ∷ names) h =
    let w = and_true (ltb named.name count) _ h in
    ((Decides-ltb named.name count).0 w.0, all_below count names w.1)

pub below_split : (count : ℕ) (xs ys : List Named) → are_below count (xs ++ ys) ≡ true → (are_below count xs ≡ true) × (are_below count ys ≡ true)
below_split count [] ys h = (refl, h)
below_split count (x ∷ xs) ys h =
    let w = and_true (ltb x.name count) _ h in
    let r = below_split count xs ys w.1 in
    (ap (λ b. b && are_below count xs) w.0 ∙ r.0, r.1)

inner_below : (count : ℕ) (methods : List Method) → are_below count (flat_map declared_in_method methods) ≡ true → InnerBelow count methods
inner_below count [] h = tt
inner_below count (method ∷ methods) h =
    let w = below_split count (declared_in_method method) (flat_map declared_in_method methods) h in
    let own = and_true (ltb method.name count) _ w.0 in
    let parts = below_split count (param_names method.params.list) (formal_names method.formals) own.1 in
    (all_below count (param_names method.params.list) parts.0, all_below count (formal_names method.formals) parts.1, inner_below count methods w.1)

named_below : (count : ℕ) (methods : List Method) → are_below count (flat_map declared_in_method methods) ≡ true → AllBelow count (method_names methods) × AllBelow count (constructor_names methods)
named_below count [] h = (tt, tt)
named_below count (method ∷ methods) h = by (is_constructor_result method.result) (named_below count methods w.1)
  where
    w : (are_below count (declared_in_method method) ≡ true) × (are_below count (flat_map declared_in_method methods) ≡ true)
    w = below_split count (declared_in_method method) (flat_map declared_in_method methods) h

    here : method.name < count
    here = (Decides-ltb method.name count).0 (and_true (ltb method.name count) _ w.0).0

    by : (b : Bool) → AllBelow count (method_names methods) × AllBelow count (constructor_names methods) →
        AllBelow count (cond b [] (method_name method ∷ []) ++ method_names methods) × AllBelow count (cond b (method_name method ∷ []) [] ++ constructor_names methods)
    by true more = (more.0, (here, more.1))
    by false more = ((here, more.0), more.1)

class_below : (count : ℕ) (class : Class) → are_below count (declared_in class) ≡ true → Below count class
class_below count class h =
    let a = below_split count (own_params class) _ h in
    let b = below_split count (own_regions class) _ a.1 in
    let c = below_split count (own_fields class) _ b.1 in
    let m = named_below count (own_methods class) c.1 in
    record {
      params = all_below count (own_params class) a.0;
      regions = all_below count (own_regions class) b.0;
      fields = all_below count (own_fields class) c.0;
      methods = m.0;
      constructors = m.1;
      inner = inner_below count (own_methods class) c.1;
    }

classes_below : (count : ℕ) (classes : List Class) → AreNamed count classes → (at : ℕ) (class : Class) → slice_get classes at ≡ Some class → Below count class
classes_below count [] h at class is = cc
classes_below count (one ∷ classes) h zero class is =
    let same : one ≡ class = cc in
    class_below count class (subst (λ c. are_below count (declared_in c) ≡ true) same (and_true (are_below count (declared_in one)) _ h).0)
classes_below count (one ∷ classes) h (suc at) class is = classes_below count classes (and_true (are_below count (declared_in one)) _ h).1 at class is

-- what the way tells is what is reported of the members
pub reported_way : (count : ℕ) (classes : List Class) → AreCounted count classes → first_of (first_faults classes) ≡ None → reported_on_way count classes (way_of (parents_in classes)) ≡ first_of (second_faults classes (parents_in classes))
reported_way count classes fits first =
    ap reported ((way_second count classes (parents_in classes) (sound_from classes fits.0 first) (length_parents classes) (classes_below count classes fits.1)).noted (none_by order.Place))

-- as many superclasses as classes
pub parents_counted : (classes : List Class) → IsCounted classes → IsCounted (parents_in classes)
parents_counted classes fits = omega (arith, fits, length_parents classes)
