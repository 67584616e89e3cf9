-- What is wrong in the classes of a program by names alone: the faults of each pass, in the order of the text.
use Rattle.std.specs.Prelude.{ℕ, ◌+◌, Bool, true, false, ◌==◌, cond, List, [], ◌∷◌, ◌++◌, slice_index_or, is_some, is_none, Option, Some, None, option_and_then, Result, Err}
use Rattle.std.specs.List.{list_any}
use Rattle.std.specs.Option.{option_map_or}
use Rattle.lang_base.specs.declared.place.Place.{Place}
use Rattle.lang_base.specs.declared.refusal.Kind.{Kind}
use Rattle.lang_base.specs.declared.refusal.Kind.TheVariants as kind
use Rattle.lang_base.specs.declared.refusal.Refusal.{Refusal}
use Rattle.syntax_tree.specs.declared.class.Class.{Class}
use Rattle.syntax_tree.specs.declared.class.Member.{Member}
use Rattle.syntax_tree.specs.declared.class.Member.TheVariants as member
use Rattle.syntax_tree.specs.declared.class.MethodResult.{MethodResult}
use Rattle.syntax_tree.specs.declared.class.MethodResult.TheVariants as outcome
use Rattle.decl_headers.specs.declared.faults.Order.TheVariants as order
use Rattle.decl_headers.specs.Faults.{all_noted, reported, none_by}
use Rattle.decl_headers.specs.Numbers.{as_number}

abbrev pub fault : Kind → Place → Refusal
fault reason place = record { kind = reason; place = place }

-- one fault where something is so, and none else
abbrev pub fault_if : Bool → Kind → Place → List Refusal
fault_if is_so reason place = cond is_so (fault reason place ∷ []) []

-- the fault that is reported of these: that with the least place
abbrev pub first_of : List Refusal → Option Refusal
first_of found = reported (all_noted (none_by order.Place) found)

-- a fault is refused, and where there is none it goes on
abbrev pub refused_or : {T : Type 0} → Option Refusal → Result T Refusal → Result T Refusal
refused_or None next = next
refused_or (Some found) next = Err found

-- the first of the classes, counted on from a number, that has the name
abbrev pub first_named : ℕ → ℕ → List Class → Option ℕ
first_named name at [] = None
first_named name at (class ∷ classes) = cond (class.name == name) (Some (as_number at)) (first_named name (at + 1) classes)

-- each class with the name of one that stands before it
abbrev pub second_classes : List Class → List Class → List Refusal
second_classes before [] = []
second_classes before (class ∷ classes) =
    fault_if (is_some (first_named class.name 0 before)) kind.Duplicate class.place ++ second_classes (before ++ class ∷ []) classes

-- the superclass of a class: the class of the name after `extends`
abbrev pub named_parent : (ℕ → Option ℕ) → Class → Option ℕ
named_parent named class = option_and_then (λ parent. named parent.name.name) class.parent

-- a superclass that isn't there
abbrev pub unknown_parent : (ℕ → Option ℕ) → Class → List Refusal
unknown_parent named class =
    option_map_or (λ parent. fault_if (is_none (named parent.name.name)) kind.Unknown parent.name.place) class.parent []

abbrev pub unknown_parents : (ℕ → Option ℕ) → List Class → List Refusal
unknown_parents named [] = []
unknown_parents named (class ∷ classes) = unknown_parent named class ++ unknown_parents named classes

abbrev pub is_constructor_result : MethodResult → Bool
is_constructor_result outcome.Constructor = true
is_constructor_result outcome.Void = false
is_constructor_result (outcome.Value ty) = false

abbrev pub is_constructor : Member → Bool
is_constructor (member.Regions is_atomic names) = false
is_constructor (member.Field declared) = false
is_constructor (member.Method method) = is_constructor_result method.result

abbrev pub has_constructor : Class → Bool
has_constructor class = list_any is_constructor class.members

-- the place of the name after `extends`; of the class, where it extends none
abbrev pub extends_place : Class → Place
extends_place class = option_map_or (λ parent. parent.name.place) class.parent class.place

-- each class that is its own superclass, counted on from a number
abbrev pub cycles : (ℕ → Bool) → ℕ → List Class → List Refusal
cycles is_own at [] = []
cycles is_own at (class ∷ classes) = fault_if (is_own at) kind.Cycle (extends_place class) ++ cycles is_own (at + 1) classes

-- the superclass is one of these
abbrev pub is_among : List Bool → Option ℕ → Bool
is_among closed parent = option_map_or (λ number. slice_index_or closed number false) parent false

-- each class whose superclass may not be extended
abbrev pub closed_parents : List Bool → List Class → List (Option ℕ) → List Refusal
closed_parents closed [] parents = []
closed_parents closed (class ∷ classes) [] = []
closed_parents closed (class ∷ classes) (parent ∷ parents) =
    fault_if (is_among closed parent) kind.Override (extends_place class) ++ closed_parents closed classes parents
