-- An accepted program declares no name twice where it is seen.
use Rattle.std.proofs.Common.{◌≡◌, ◌∙◌, ◌⊎◌, ℕ, zero, suc, ◌+◌, ◌==◌, not, Bool, true, false, cond, List, [], ◌∷◌, ◌++◌, length, flat_map, map, inl, inr, Some, refl, sym, ap, subst, arith}
use Rattle.std.proofs.lemmas.Bool.{eq-eqb, eqb-true}
use Rattle.std.proofs.lemmas.List.{map-append}
use Rattle.std.proofs.lemmas.Option.{slice_get_within}
use Rattle.std.specs.List.{range_with_len}
use Rattle.std.specs.Option.{option_map_or}
use Rattle.std.specs.Prelude.{is_some, slice_get}
use Rattle.lang_base.specs.declared.refusal.Kind.TheVariants as kind
use Rattle.syntax_tree.specs.declared.class.Class.{Class}
use Rattle.syntax_tree.specs.declared.class.Field.{Field}
use Rattle.syntax_tree.specs.declared.class.Formal.{Formal}
use Rattle.syntax_tree.specs.declared.class.Member.{Member}
use Rattle.syntax_tree.specs.declared.class.Member.TheVariants as member
use Rattle.syntax_tree.specs.declared.class.Method.{Method}
use Rattle.syntax_tree.specs.declared.class.MethodResult.{MethodResult}
use Rattle.syntax_tree.specs.declared.class.MethodResult.TheVariants as outcome
use Rattle.syntax_tree.specs.declared.class.Program.{Program}
use Rattle.syntax_tree.specs.declared.region.Named.{Named}
use Rattle.syntax_tree.specs.declared.region.ParamTree.{ParamTree}
use Rattle.decl_headers.specs.declared.faults.Order.TheVariants as order
use Rattle.decl_headers.specs.Faults.{none_by}
use Rattle.decl_headers.specs.First.{first_faults, parents_in}
use Rattle.decl_headers.specs.Members.{param_names, misnamed}
use Rattle.decl_headers.specs.Numbers.{as_number}
use Rattle.decl_headers.specs.Passes.{fault_if, first_named, second_classes, is_constructor_result}
use Rattle.decl_headers.specs.Rounds.{superclasses}
use Rattle.decl_headers.specs.Second.{constructor_names, fields_in, is_known, method_in, method_names, names_in, names_of, own_fields, own_methods, own_params, own_regions, regions_in, second_faults, second_of, wrong_at, wrong_in_class, wrong_in_method}
use Rattle.decl_table.specs.declared.table.Table.{Table}
use Rattle.decl_laws.specs.Rows.{HasRows}
use Rattle.decl_laws.proofs.Facts.{got_either}
use Rattle.decl_laws.proofs.Granted.{granted}
use Rattle.lang_typed.specs.Plain.{PlainProgram}
use Rattle.syntax_means.specs.Bodies.{with_local}
use Rattle.syntax_means.specs.Declares.{ClassNamed, DeclaresConstructor, DeclaresField, DeclaresMethod, DeclaresRegion, OwnMethod, OwnRegion, all_methods, all_regions, inherited_fields, member_fields, member_methods, member_regions, methods_from, regions_from}
use Rattle.syntax_means.specs.Declares.{own_fields as fields_of}
use Rattle.syntax_means.specs.Means.{in_class, in_method, with_formals}
use Rattle.syntax_means.specs.Means.{param_names as params_of}
use Rattle.syntax_means.specs.Paths.{Around}
use Rattle.syntax_means.specs.Unambiguous.{IsUnambiguous}
use Rattle.sound_lemmas.proofs.Free.{append_none, fault_none, none_reported, not_false, or_false}
use Rattle.sound_lemmas.proofs.Lists.{some_same, got_later, got_mapped}
use Rattle.sound_decls.proofs.table.Text.{flat_free}
use Rattle.sound_means.proofs.Methods.{one_name, range_there}

-- names of which none stands a second time

known_there : (known : List ℕ) (i n : ℕ) → slice_get known i ≡ Some n → is_known known n ≡ false → ⊥
known_there [] i n e free = cc
known_there (one ∷ known) zero n e free =
    let apart = (or_false (one == n) (is_known known n) free).0 in
    let same = eq-eqb one n (some_same e) in
    cc (apart, same)
known_there (one ∷ known) (suc i) n e free = known_there known i n e (or_false (one == n) (is_known known n) free).1

none_known : (known : List ℕ) (found : List Named) (i n : ℕ) → second_of known found ≡ [] → slice_get (names_of found) i ≡ Some n → is_known known n ≡ false
none_known known [] i n free e = cc
none_known known (named ∷ found) zero n free e =
    let f = append_none (fault_if (is_known known named.name) kind.Duplicate named.place) _ free in
    ap (is_known known) (sym (some_same e)) ∙ fault_none (is_known known named.name) kind.Duplicate named.place f.0
none_known known (named ∷ found) (suc i) n free e =
    let f = append_none (fault_if (is_known known named.name) kind.Duplicate named.place) _ free in
    (or_false (named.name == n) (is_known known n) (none_known (named.name ∷ known) found i n f.1 e)).1

once : (known : List ℕ) (found : List Named) (i j n : ℕ) → second_of known found ≡ [] → slice_get (names_of found) i ≡ Some n → slice_get (names_of found) j ≡ Some n → i ≡ j
once known [] i j n free e d = cc
once known (named ∷ found) zero zero n free e d = refl
once known (named ∷ found) zero (suc j) n free e d =
    let f = append_none (fault_if (is_known known named.name) kind.Duplicate named.place) _ free in
    absurd (known_there (named.name ∷ known) 0 n e (none_known (named.name ∷ known) found j n f.1 d))
once known (named ∷ found) (suc i) zero n free e d =
    let f = append_none (fault_if (is_known known named.name) kind.Duplicate named.place) _ free in
    absurd (known_there (named.name ∷ known) 0 n d (none_known (named.name ∷ known) found i n f.1 e))
once known (named ∷ found) (suc i) (suc j) n free e d =
    let f = append_none (fault_if (is_known known named.name) kind.Duplicate named.place) _ free in
    ap suc (once (named.name ∷ known) found i j n f.1 e d)

-- of the names before it and of its own
both_once : (before found : List Named) (i j n : ℕ) → second_of [] before ≡ [] → second_of (names_of before) found ≡ [] → slice_get (names_of before ++ names_of found) i ≡ Some n →
    slice_get (names_of before ++ names_of found) j ≡ Some n → i ≡ j
both_once before found i j n first free e d = by (got_either (names_of before) (names_of found) i n e) (got_either (names_of before) (names_of found) j n d)
  where
    by : (slice_get (names_of before) i ≡ Some n) ⊎ ((x : ℕ) × (i ≡ length (names_of before) + x) × (slice_get (names_of found) x ≡ Some n)) →
        (slice_get (names_of before) j ≡ Some n) ⊎ ((y : ℕ) × (j ≡ length (names_of before) + y) × (slice_get (names_of found) y ≡ Some n)) → i ≡ j
    by (inl h) (inl k) = once [] before i j n first h k
    by (inl h) (inr k) = absurd (known_there (names_of before) i n h (none_known (names_of before) found k.0 n free k.2))
    by (inr h) (inl k) = absurd (known_there (names_of before) j n k (none_known (names_of before) found h.0 n free h.2))
    by (inr h) (inr k) = let same = once (names_of before) found h.0 k.0 n free h.2 k.2 in omega (arith, same, h.1, k.1)

-- classes

named_none : (name at : ℕ) (classes : List Class) (j : ℕ) (class : Class) → is_some (first_named name at classes) ≡ false → slice_get classes j ≡ Some class → class.name ≡ name → ⊥
named_none name at [] j class none e same = cc
named_none name at (one ∷ classes) j class none e same = by (one.name == name) refl none j e (named_none name (at + 1) classes)
  where
    by : (b : Bool) → (one.name == name) ≡ b → is_some (cond b (Some (as_number at)) (first_named name (at + 1) classes)) ≡ false → (j : ℕ) → slice_get (one ∷ classes) j ≡ Some class →
        ((k : ℕ) (other : Class) → is_some (first_named name (at + 1) classes) ≡ false → slice_get classes k ≡ Some other → other.name ≡ name → ⊥) → ⊥
    by true is none j e more = cc
    by false is none zero e more =
        let equal = eq-eqb one.name name (ap (λ (c : Class). c.name) (some_same e) ∙ same) in
        cc (is, equal)
    by false is none (suc j) e more = more j class none e same

first_none : (name at : ℕ) (xs ys : List Class) → is_some (first_named name at (xs ++ ys)) ≡ false → is_some (first_named name at xs) ≡ false
first_none name at [] ys none = refl
first_none name at (class ∷ xs) ys none = by (class.name == name) (first_none name (at + 1) xs ys) none
  where
    by : (b : Bool) → (is_some (first_named name (at + 1) (xs ++ ys)) ≡ false → is_some (first_named name (at + 1) xs) ≡ false) →
        is_some (cond b (Some (as_number at)) (first_named name (at + 1) (xs ++ ys))) ≡ false → is_some (cond b (Some (as_number at)) (first_named name (at + 1) xs)) ≡ false
    by true more h = h
    by false more h = more h

none_before : (before classes : List Class) (i : ℕ) (class : Class) → second_classes before classes ≡ [] → slice_get classes i ≡ Some class → is_some (first_named class.name 0 before) ≡ false
none_before before [] i class free e = cc
none_before before (one ∷ classes) zero class free e =
    let f = append_none (fault_if (is_some (first_named one.name 0 before)) kind.Duplicate one.place) _ free in
    ap (λ (c : Class). is_some (first_named c.name 0 before)) (sym (some_same e)) ∙ fault_none (is_some (first_named one.name 0 before)) kind.Duplicate one.place f.0
none_before before (one ∷ classes) (suc i) class free e =
    let f = append_none (fault_if (is_some (first_named one.name 0 before)) kind.Duplicate one.place) _ free in
    first_none class.name 0 before (one ∷ []) (none_before (before ++ one ∷ []) classes i class f.1 e)

last_there : (before : List Class) (one : Class) → slice_get (before ++ one ∷ []) (length before) ≡ Some one
last_there before one =
    let same : length before ≡ length before + 0 = omega arith in
    got_later before (one ∷ []) (length before) 0 one same refl

classes_once : (before classes : List Class) (i j : ℕ) (a b : Class) → second_classes before classes ≡ [] → slice_get classes i ≡ Some a → slice_get classes j ≡ Some b → a.name ≡ b.name → i ≡ j
classes_once before [] i j a b free e d same = cc
classes_once before (one ∷ classes) zero zero a b free e d same = refl
classes_once before (one ∷ classes) zero (suc j) a b free e d same =
    let f = append_none (fault_if (is_some (first_named one.name 0 before)) kind.Duplicate one.place) _ free in
    absurd (named_none b.name 0 (before ++ one ∷ []) (length before) one (none_before (before ++ one ∷ []) classes j b f.1 d) (last_there before one) (ap (λ (c : Class). c.name) (some_same e) ∙ same))
classes_once before (one ∷ classes) (suc i) zero a b free e d same =
    let f = append_none (fault_if (is_some (first_named one.name 0 before)) kind.Duplicate one.place) _ free in
    absurd (named_none a.name 0 (before ++ one ∷ []) (length before) one (none_before (before ++ one ∷ []) classes i a f.1 e) (last_there before one) (ap (λ (c : Class). c.name) (some_same d) ∙ sym same))
classes_once before (one ∷ classes) (suc i) (suc j) a b free e d same =
    let f = append_none (fault_if (is_some (first_named one.name 0 before)) kind.Duplicate one.place) _ free in
    ap suc (classes_once (before ++ one ∷ []) classes i j a b f.1 e d same)

-- what all classes declare, one after the other

abbrev from : {A : Type 0} → (ℕ → Class → List A) → ℕ → List Class → List A
from own at [] = []
from own at (class ∷ classes) = own at class ++ from own (suc at) classes

-- how many of these stand in the classes before one
abbrev count_before : {A : Type 0} → (ℕ → Class → List A) → ℕ → List Class → ℕ → ℕ
count_before own at classes zero = 0
count_before own at [] (suc n) = 0
count_before own at (class ∷ classes) (suc n) = length (own at class) + count_before own (suc at) classes n

-- where one of these stands
record Placed {A : Type 0} (own : ℕ → Class → List A) (at : ℕ) (classes : List Class) (i : ℕ) (x : A) : Type 0 where
  number : ℕ
  class : Class
  there : slice_get classes number ≡ Some class
  place : ℕ
  stands : slice_get (own (at + number) class) place ≡ Some x
  so : i ≡ count_before own at classes number + place

placed : {A : Type 0} (own : ℕ → Class → List A) (at : ℕ) (classes : List Class) (i : ℕ) (x : A) → slice_get (from own at classes) i ≡ Some x → Placed own at classes i x
placed own at [] i x e = cc
placed own at (class ∷ classes) i x e =
    elim (got_either (own at class) (from own (suc at) classes) i x e) [
      | inl here ↦
          let same : at ≡ at + 0 = omega arith in
          record { number = 0; class = class; there = refl; place = i; stands = subst (λ k. slice_get (own k class) i ≡ Some x) same here; so = omega arith }
      | inr more ↦
          let w = placed own (suc at) classes more.0 x more.2 in
          let next : suc at + w.number ≡ at + suc w.number = omega arith in
          record {
            number = suc w.number;
            class = w.class;
            there = w.there;
            place = w.place;
            stands = subst (λ k. slice_get (own k w.class) w.place ≡ Some x) next w.stands;
            so = let on = more.1 in let rest = w.so in omega (arith, on, rest);
          }
    ]

-- where in the class that declares it
record Within {A : Type 0} (own : ℕ → Class → List A) (classes : List Class) (c i : ℕ) (x : A) : Type 0 where
  class : Class
  there : slice_get classes c ≡ Some class
  place : ℕ
  stands : slice_get (own c class) place ≡ Some x
  so : i ≡ count_before own 0 classes c + place

within : {A : Type 0} (own : ℕ → Class → List A) (owner : A → ℕ) → ((c : ℕ) (class : Class) (p : ℕ) (z : A) → slice_get (own c class) p ≡ Some z → owner z ≡ c) →
    (classes : List Class) (c i : ℕ) (x : A) → slice_get (from own 0 classes) i ≡ Some x → owner x ≡ c → Within own classes c i x
within {A} own owner owned classes c i x e is =
    let w = placed own 0 classes i x e in
    let first = owned (0 + w.number) w.class w.place x w.stands in
    let number : w.number ≡ c = omega (arith, first, is) in
    let plain : 0 + w.number ≡ c = omega (arith, number) in
    record {
      class = w.class;
      there = subst (λ k. slice_get classes k ≡ Some w.class) number w.there;
      place = w.place;
      stands = subst (λ k. slice_get (own k w.class) w.place ≡ Some x) plain w.stands;
      so = w.so ∙ ap (λ k. count_before own 0 classes k + w.place) number;
    }

-- two in one class are one, where they stand at one place there
apart : {A : Type 0} (own : ℕ → Class → List A) (classes : List Class) (c i j : ℕ) (x y : A) → (u : Within own classes c i x) → (w : Within own classes c j y) →
    ((class : Class) (p q : ℕ) → slice_get classes c ≡ Some class → slice_get (own c class) p ≡ Some x → slice_get (own c class) q ≡ Some y → p ≡ q) → i ≡ j
apart own classes c i j x y u w one =
    let class : w.class ≡ u.class = some_same (sym w.there ∙ u.there) in
    let same = one u.class u.place w.place u.there u.stands (subst (λ k. slice_get (own c k) w.place ≡ Some y) class w.stands) in
    u.so ∙ ap (λ k. count_before own 0 classes c + k) same ∙ sym w.so

-- region names

abbrev own_regions_of : ℕ → Class → List OwnRegion
own_regions_of c class = flat_map (member_regions c) class.members

regions_are : (at : ℕ) (classes : List Class) → regions_from at classes ≡ from own_regions_of at classes
regions_are at [] = refl
regions_are at (class ∷ classes) = ap (λ z. own_regions_of at class ++ z) (regions_are (suc at) classes)

names_owned : (c : ℕ) (is_atomic : Bool) (names : List Named) (i : ℕ) (r : OwnRegion) →
    slice_get (map (λ (named : Named). record { class = c; name = named.name; is_atomic = is_atomic }) names) i ≡ Some r → r.class ≡ c
names_owned c is_atomic [] i r e = cc
names_owned c is_atomic (named ∷ names) zero r e = ap (λ (o : OwnRegion). o.class) (sym (some_same e))
names_owned c is_atomic (named ∷ names) (suc i) r e = names_owned c is_atomic names i r e

region_owned : (c : ℕ) (members : List Member) (i : ℕ) (r : OwnRegion) → slice_get (flat_map (member_regions c) members) i ≡ Some r → r.class ≡ c
region_owned c [] i r e = cc
region_owned c (member.Regions is_atomic names ∷ members) i r e =
    elim (got_either (member_regions c (member.Regions is_atomic names)) (flat_map (member_regions c) members) i r e) [
      | inl here ↦ names_owned c is_atomic names i r here
      | inr more ↦ region_owned c members more.0 r more.2
    ]
region_owned c (member.Field field ∷ members) i r e = region_owned c members i r e
region_owned c (member.Method method ∷ members) i r e = region_owned c members i r e

names_kept : (c : ℕ) (is_atomic : Bool) (names : List Named) →
    map (λ (r : OwnRegion). r.name) (map (λ (named : Named). record { class = c; name = named.name; is_atomic = is_atomic }) names) ≡ names_of names
names_kept c is_atomic [] = refl
names_kept c is_atomic (named ∷ names) = ap (λ z. named.name ∷ z) (names_kept c is_atomic names)

region_names : (c : ℕ) (members : List Member) → map (λ (r : OwnRegion). r.name) (flat_map (member_regions c) members) ≡ names_of (flat_map regions_in members)
region_names c [] = refl
region_names c (member.Regions is_atomic names ∷ members) =
    map-append (λ (r : OwnRegion). r.name) (member_regions c (member.Regions is_atomic names)) (flat_map (member_regions c) members)
    ∙ ap (λ z. z ++ map (λ (r : OwnRegion). r.name) (flat_map (member_regions c) members)) (names_kept c is_atomic names)
    ∙ ap (λ z. names_of names ++ z) (region_names c members)
    ∙ sym (map-append (λ (named : Named). named.name) names (flat_map regions_in members))
region_names c (member.Field field ∷ members) = region_names c members
region_names c (member.Method method ∷ members) = region_names c members

-- fields

field_names : (members : List Member) → map (λ (field : Field). field.name) (flat_map member_fields members) ≡ names_of (flat_map fields_in members)
field_names [] = refl
field_names (member.Regions is_atomic names ∷ members) = field_names members
field_names (member.Field field ∷ members) = ap (λ z. field.name ∷ z) (field_names members)
field_names (member.Method method ∷ members) = field_names members

-- methods and constructors

abbrev own_methods_of : ℕ → Class → List OwnMethod
own_methods_of c class = flat_map (member_methods c) class.members

methods_are : (at : ℕ) (classes : List Class) → methods_from at classes ≡ from own_methods_of at classes
methods_are at [] = refl
methods_are at (class ∷ classes) = ap (λ z. own_methods_of at class ++ z) (methods_are (suc at) classes)

method_owned : (c : ℕ) (members : List Member) (i : ℕ) (own : OwnMethod) → slice_get (flat_map (member_methods c) members) i ≡ Some own →
    (own.class ≡ c) × (slice_get (flat_map method_in members) i ≡ Some own.method)
method_owned c [] i own e = cc
method_owned c (member.Regions is_atomic names ∷ members) i own e = method_owned c members i own e
method_owned c (member.Field field ∷ members) i own e = method_owned c members i own e
method_owned c (member.Method method ∷ members) zero own e =
    let same = some_same e in (ap (λ (o : OwnMethod). o.class) (sym same), ap (λ (o : OwnMethod). Some o.method) same)
method_owned c (member.Method method ∷ members) (suc i) own e = method_owned c members i own e

constructor_free : (known : List ℕ) (methods : List Method) (i : ℕ) (m : Method) → second_of known (constructor_names methods) ≡ [] → slice_get methods i ≡ Some m →
    is_constructor_result m.result ≡ true → is_known known m.name ≡ false
constructor_free known [] i m free e made = cc
constructor_free known (method ∷ methods) i m free e made = by (is_constructor_result method.result) refl free i e (λ k j. constructor_free k methods j m)
  where
    by : (b : Bool) → is_constructor_result method.result ≡ b → second_of known (cond b (record { name = method.name; place = method.place } ∷ []) [] ++ constructor_names methods) ≡ [] →
        (i : ℕ) → slice_get (method ∷ methods) i ≡ Some m →
        ((k : List ℕ) (j : ℕ) → second_of k (constructor_names methods) ≡ [] → slice_get methods j ≡ Some m → is_constructor_result m.result ≡ true → is_known k m.name ≡ false) →
        is_known known m.name ≡ false
    by true is free zero e more =
        let f = append_none (fault_if (is_known known method.name) kind.Duplicate method.place) _ free in
        ap (λ (o : Method). is_known known o.name) (sym (some_same e)) ∙ fault_none (is_known known method.name) kind.Duplicate method.place f.0
    by true is free (suc i) e more =
        let f = append_none (fault_if (is_known known method.name) kind.Duplicate method.place) _ free in
        (or_false (method.name == m.name) (is_known known m.name) (more (method.name ∷ known) i f.1 e made)).1
    by false is free zero e more =
        let plain : is_constructor_result m.result ≡ false = ap (λ (o : Method). is_constructor_result o.result) (sym (some_same e)) ∙ is in
        cc (plain, made)
    by false is free (suc i) e more = more known i free e made

-- two constructors of one name
constructors_once : (known : List ℕ) (methods : List Method) (i j : ℕ) (a b : Method) → second_of known (constructor_names methods) ≡ [] → slice_get methods i ≡ Some a → slice_get methods j ≡ Some b →
    is_constructor_result a.result ≡ true → is_constructor_result b.result ≡ true → a.name ≡ b.name → i ≡ j
constructors_once known [] i j a b free e d first second same = cc
constructors_once known (method ∷ methods) i j a b free e d first second same =
    by (is_constructor_result method.result) refl free i j e d (λ k x y f h g. constructors_once k methods x y a b f h g first second same)
  where
    by : (c : Bool) → is_constructor_result method.result ≡ c → second_of known (cond c (record { name = method.name; place = method.place } ∷ []) [] ++ constructor_names methods) ≡ [] →
        (i j : ℕ) → slice_get (method ∷ methods) i ≡ Some a → slice_get (method ∷ methods) j ≡ Some b →
        ((k : List ℕ) (x y : ℕ) → second_of k (constructor_names methods) ≡ [] → slice_get methods x ≡ Some a → slice_get methods y ≡ Some b → x ≡ y) → i ≡ j
    by c is free zero zero e d more = refl
    by true is free zero (suc j) e d more =
        let f = append_none (fault_if (is_known known method.name) kind.Duplicate method.place) _ free in
        let name : Some method.name ≡ Some b.name = ap (λ (o : Method). Some o.name) (some_same e) ∙ ap Some same in
        absurd (known_there (method.name ∷ known) 0 b.name name (constructor_free (method.name ∷ known) methods j b f.1 d second))
    by true is free (suc i) zero e d more =
        let f = append_none (fault_if (is_known known method.name) kind.Duplicate method.place) _ free in
        let name : Some method.name ≡ Some a.name = ap (λ (o : Method). Some o.name) (some_same d) ∙ ap Some (sym same) in
        absurd (known_there (method.name ∷ known) 0 a.name name (constructor_free (method.name ∷ known) methods i a f.1 e first))
    by true is free (suc i) (suc j) e d more =
        let f = append_none (fault_if (is_known known method.name) kind.Duplicate method.place) _ free in
        ap suc (more (method.name ∷ known) i j f.1 e d)
    by false is free zero (suc j) e d more =
        let plain : is_constructor_result a.result ≡ false = ap (λ (o : Method). is_constructor_result o.result) (sym (some_same e)) ∙ is in
        cc (plain, first)
    by false is free (suc i) zero e d more =
        let plain : is_constructor_result b.result ≡ false = ap (λ (o : Method). is_constructor_result o.result) (sym (some_same d)) ∙ is in
        cc (plain, second)
    by false is free (suc i) (suc j) e d more = ap suc (more known i j free e d)

-- a constructor has the name of its class
named_as : (class : Class) (method : Method) → misnamed class method ≡ [] → is_constructor_result method.result ≡ true → method.name ≡ class.name
named_as class method free made = eqb-true method.name class.name (not_false (method.name == class.name) (by (is_constructor_result method.result) made none))
  where
    none : cond (is_constructor_result method.result) (not (method.name == class.name)) false ≡ false
    none = fault_none (cond (is_constructor_result method.result) (not (method.name == class.name)) false) kind.Unknown method.place free

    by : (b : Bool) → b ≡ true → cond b (not (method.name == class.name)) false ≡ false → not (method.name == class.name) ≡ false
    by true is h = h
    by false is h = cc

-- region parameters

params_are : (params : List ParamTree) → names_of (param_names params) ≡ map (λ (param : ParamTree). param.name) params
params_are [] = refl
params_are (param ∷ params) = ap (λ z. param.name ∷ z) (params_are params)

params_kept : (x : ℕ) (formals : List Formal) (A : Around) → (with_formals x formals A).params ≡ A.params
params_kept x [] A = refl
params_kept x (formal ∷ formals) A = params_kept (suc x) formals (with_local formal.name x A)

params_around : (tree : Program) (P : PlainProgram) (class : Class) (own : OwnMethod) →
    (in_method tree P class own).params ≡ names_of (param_names class.params.list) ++ names_of (param_names own.method.params.list)
params_around tree P class own =
    params_kept 1 own.method.formals (record (in_class tree P own.class class) { params = params_of class.params ++ params_of own.method.params })
    ∙ ap (λ z. z ++ params_of own.method.params) (sym (params_are class.params.list))
    ∙ ap (λ z. names_of (param_names class.params.list) ++ z) (sym (params_are own.method.params.list))

-- what is free of faults in a class
record ClassFree (class : Class) : Type 0 where
  params : second_of [] (own_params class) ≡ []
  regions : (known : List ℕ) × (second_of known (own_regions class) ≡ [])
  fields : (known : List ℕ) × (second_of known (own_fields class) ≡ [])
  constructors : second_of [] (constructor_names (own_methods class)) ≡ []
  members : flat_map (wrong_in_method class) (own_methods class) ≡ []

class_free : (regions fields : List ℕ) (class : Class) → wrong_in_class regions fields class ≡ [] → ClassFree class
class_free regions fields class free =
    let a = append_none (second_of [] (own_params class)) _ free in
    let b = append_none (second_of regions (own_regions class)) _ a.1 in
    let c = append_none (second_of fields (own_fields class)) _ b.1 in
    let d = append_none (second_of [] (method_names (own_methods class))) _ c.1 in
    let e = append_none (second_of [] (constructor_names (own_methods class))) _ d.1 in
    record { params = a.0; regions = (regions, b.0); fields = (fields, c.0); constructors = e.0; members = e.1 }

record MethodFree (class : Class) (method : Method) : Type 0 where
  named : misnamed class method ≡ []
  params : second_of (names_of (own_params class)) (param_names method.params.list) ≡ []

method_free : (class : Class) → ClassFree class → (i : ℕ) (method : Method) → slice_get (own_methods class) i ≡ Some method → MethodFree class method
method_free class free i method e =
    let all = flat_free (wrong_in_method class) (own_methods class) i method free.members e in
    let a = append_none (misnamed class method) _ all in
    record { named = a.0; params = (append_none (second_of (names_of (own_params class)) (param_names method.params.list)) _ a.1).0 }

module _ (program : Program) (table : Table) (has : HasRows program table)
  where
    abbrev classes : List Class
    classes = program.classes

    free : (c : ℕ) (class : Class) → slice_get classes c ≡ Some class → ClassFree class
    free c class e =
        let all = none_reported (none_by order.Place) (second_faults classes (parents_in classes)) (granted has).second in
        let l = slice_get_within classes c class e in
        let one = flat_free (wrong_at classes (parents_in classes)) (range_with_len 0 (length classes)) c c all (range_there (length classes) c l) in
        let above = superclasses (parents_in classes) c in
        class_free (names_in own_regions classes above) (names_in own_fields classes above) class
        (sym (ap (λ o. option_map_or (λ (k : Class). wrong_in_class (names_in own_regions classes above) (names_in own_fields classes above) k) o []) e) ∙ one)

    one_class : (name c d : ℕ) → ClassNamed program name c → ClassNamed program name d → c ≡ d
    one_class name c d u w =
        let none = none_reported (none_by order.Place) (first_faults classes) (granted has).first in
        classes_once [] classes c d u.0 w.0 (append_none (second_classes [] classes) _ none).0 u.1 w.1 (u.2 ∙ sym w.2)

    one_region : (name c m n : ℕ) → DeclaresRegion program name c m → DeclaresRegion program name c n → m ≡ n
    one_region name c m n u w = apart own_regions_of classes c m n (region u.0) (region w.0) (place m u.0 u.1) (place n w.0 w.1) same
      where
        region : Bool → OwnRegion
        region is_atomic = record { class = c; name = name; is_atomic = is_atomic }

        place : (i : ℕ) (is_atomic : Bool) → slice_get (all_regions program) i ≡ Some (region is_atomic) → Within own_regions_of classes c i (region is_atomic)
        place i is_atomic e =
            within own_regions_of (λ (r : OwnRegion). r.class) (λ k class p z. region_owned k class.members p z) classes c i (region is_atomic)
            (subst (λ rs. slice_get rs i ≡ Some (region is_atomic)) (regions_are 0 classes) e) refl

        named : (class : Class) (p : ℕ) (r : OwnRegion) → slice_get (own_regions_of c class) p ≡ Some r → slice_get (names_of (own_regions class)) p ≡ Some r.name
        named class p r e = subst (λ names. slice_get names p ≡ Some r.name) (region_names c class.members) (got_mapped (λ (r : OwnRegion). r.name) (own_regions_of c class) p r e)

        same : (class : Class) (p q : ℕ) → slice_get classes c ≡ Some class → slice_get (own_regions_of c class) p ≡ Some (region u.0) → slice_get (own_regions_of c class) q ≡ Some (region w.0) → p ≡ q
        same class p q e h k = let f = (free c class e).regions in once f.0 (own_regions class) p q name f.1 (named class p (region u.0) h) (named class q (region w.0) k)

    one_field : (P : PlainProgram) (name c j k : ℕ) → DeclaresField program P name c j → DeclaresField program P name c k → j ≡ k
    one_field P name c j k u w =
        let f = (free c u.0 u.3).fields in
        let class : w.0 ≡ u.0 = some_same (sym w.3 ∙ u.3) in
        let same = once f.0 (own_fields u.0) u.2 w.2 name f.1 (named u.0 u.2 u.1 u.4 u.5) (named u.0 w.2 w.1 (subst (λ one. slice_get (fields_of one) w.2 ≡ Some w.1) class w.4) w.5) in
        u.6 ∙ ap (λ i. inherited_fields P c + i) same ∙ sym w.6
      where
        named : (class : Class) (i : ℕ) (field : Field) → slice_get (fields_of class) i ≡ Some field → field.name ≡ name → slice_get (names_of (own_fields class)) i ≡ Some name
        named class i field e is = subst (λ names. slice_get names i ≡ Some field.name) (field_names class.members) (got_mapped (λ (f : Field). f.name) (fields_of class) i field e) ∙ ap Some is

    method_place : (i : ℕ) (own : OwnMethod) → slice_get (all_methods program) i ≡ Some own → Within own_methods_of classes own.class i own
    method_place i own e =
        within own_methods_of (λ (o : OwnMethod). o.class) (λ k class p z h. (method_owned k class.members p z h).0) classes own.class i own
        (subst (λ ms. slice_get ms i ≡ Some own) (methods_are 0 classes) e) refl

    not_made : (result : MethodResult) → (result ≡ outcome.Constructor → ⊥) → is_constructor_result result ≡ false
    not_made outcome.Constructor h = absurd (h refl)
    not_made outcome.Void h = refl
    not_made (outcome.Value kind) h = refl

    one_method : (name c m n : ℕ) → DeclaresMethod program name c m → DeclaresMethod program name c n → m ≡ n
    one_method name c m n u w =
        one_name program table has m n (record { class = c; method = u.0 }) (record { class = c; method = w.0 }) u.1 w.1 refl (not_made u.0.result u.2) (not_made w.0.result w.2) (u.3 ∙ sym w.3)

    one_constructor : (c m n : ℕ) → DeclaresConstructor program c m → DeclaresConstructor program c n → m ≡ n
    one_constructor c m n u w = apart own_methods_of classes c m n (own u.0) (own w.0) (method_place m (own u.0) u.1) (method_place n (own w.0) w.1) same
      where
        own : Method → OwnMethod
        own method = record { class = c; method = method }

        same : (class : Class) (p q : ℕ) → slice_get classes c ≡ Some class → slice_get (own_methods_of c class) p ≡ Some (own u.0) → slice_get (own_methods_of c class) q ≡ Some (own w.0) → p ≡ q
        same class p q e h k =
            let f = free c class e in
            let a = (method_owned c class.members p (own u.0) h).1 in
            let b = (method_owned c class.members q (own w.0) k).1 in
            let first : is_constructor_result u.0.result ≡ true = ap is_constructor_result u.2 in
            let second : is_constructor_result w.0.result ≡ true = ap is_constructor_result w.2 in
            let named_first = named_as class u.0 (method_free class f p u.0 a).named first in
            let named_second = named_as class w.0 (method_free class f q w.0 b).named second in
            constructors_once [] (own_methods class) p q u.0 w.0 f.constructors a b first second (named_first ∙ sym named_second)

    one_param : (P : PlainProgram) (n p q name : ℕ) (own : OwnMethod) (class : Class) → slice_get (all_methods program) n ≡ Some own → slice_get classes own.class ≡ Some class →
        slice_get (in_method program P class own).params p ≡ Some name → slice_get (in_method program P class own).params q ≡ Some name → p ≡ q
    one_param P n p q name own class is e h k =
        let w = method_place n own is in
        let same : w.class ≡ class = some_same (sym w.there ∙ e) in
        let stands = subst (λ (one : Class). slice_get (own_methods_of own.class one) w.place ≡ Some own) same w.stands in
        let f = free own.class class e in
        let m = method_free class f w.place own.method (method_owned own.class class.members w.place own stands).1 in
        let around = params_around program P class own in
        both_once (own_params class) (param_names own.method.params.list) p q name f.params m.params
        (subst (λ names. slice_get names p ≡ Some name) around h) (subst (λ names. slice_get names q ≡ Some name) around k)

    one_class_param : (c p q name : ℕ) (class : Class) → slice_get classes c ≡ Some class → slice_get (params_of class.params) p ≡ Some name
        → slice_get (params_of class.params) q ≡ Some name → p ≡ q
    one_class_param c p q name class e h k =
        let names = sym (params_are class.params.list) in
        once [] (own_params class) p q name (free c class e).params (subst (λ ns. slice_get ns p ≡ Some name) names h) (subst (λ ns. slice_get ns q ≡ Some name) names k)

    pub unambiguous : (P : PlainProgram) → IsUnambiguous program P
    unambiguous P =
        record {
          classes = one_class;
          regions = one_region;
          fields = one_field P;
          methods = one_method;
          constructors = one_constructor;
          params = one_param P;
          class_params = one_class_param;
        }
