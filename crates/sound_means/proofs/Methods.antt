-- The methods and constructors of a text by their numbers, and the rows that a class table has for them.
use Rattle.std.proofs.Common.{◌≡◌, ◌∙◌, ◌⊎◌, ℕ, zero, suc, ◌+◌, ◌<◌, ◌==◌, Bool, true, false, cond, List, [], ◌∷◌, ◌++◌, length, flat_map, map, inl, inr, Some, refl, sym, ap, subst, arith}
use Rattle.std.proofs.lemmas.Bool.{eq-eqb}
use Rattle.std.proofs.lemmas.List.{length-map}
use Rattle.std.proofs.lemmas.List.FromFn.{get_or-range_with_len, length-range_with_len}
use Rattle.std.proofs.lemmas.Option.{slice_get_within, slice_get-get_or}
use Rattle.std.specs.List.{range_with_len}
use Rattle.std.specs.Option.{option_map_or}
use Rattle.std.specs.Prelude.{slice_get}
use Rattle.lang_base.specs.declared.effect.Constraint.{Constraint}
use Rattle.lang_base.specs.declared.refusal.Kind.TheVariants as kind
use Rattle.syntax_tree.specs.declared.class.Class.{Class}
use Rattle.syntax_tree.specs.declared.class.Member.{Member}
use Rattle.syntax_tree.specs.declared.class.Member.TheVariants as member
use Rattle.syntax_tree.specs.declared.class.Program.{Program}
use Rattle.syntax_means.specs.Declares.{OwnMethod, member_methods, methods_from, all_methods}
use Rattle.decl_headers.specs.declared.faults.Order.TheVariants as order
use Rattle.decl_headers.specs.declared.header.Headers.{Headers}
use Rattle.decl_headers.specs.Faults.{none_by}
use Rattle.decl_headers.specs.First.{parents_in}
use Rattle.decl_headers.specs.Numbers.{as_number}
use Rattle.decl_headers.specs.Passes.{fault_if, is_constructor_result}
use Rattle.decl_headers.specs.Rounds.{superclasses}
use Rattle.decl_headers.specs.Second.{method_in, method_names, own_methods, own_params, own_regions, own_fields, names_in, is_known, second_of, second_faults, wrong_at, wrong_in_class}
use Rattle.decl_table.specs.declared.rows.MethodRow.{MethodRow}
use Rattle.decl_table.specs.declared.table.Table.{Table}
use Rattle.decl_table.specs.Plain.{PlainMethod, plain_method}
use Rattle.decl_table.specs.Table.{headers_of, methods_of}
use Rattle.decl_classes.specs.Around.{class_scope}
use Rattle.decl_classes.specs.Rows.{method_row, methods_meant}
use Rattle.decl_classes.specs.Rows.{methods_from as rows_from}
use Rattle.decl_laws.specs.Rows.{HasRows}
use Rattle.decl_laws.proofs.Facts.{got_either}
use Rattle.decl_laws.proofs.Granted.{granted}
use Rattle.sound_lemmas.proofs.Free.{append_none, fault_none, none_reported, or_false}
use Rattle.sound_lemmas.proofs.Lists.{some_same, got_mapped, there}
use Rattle.sound_decls.proofs.table.Text.{flat_free}

-- the rows of methods and constructors, where so many stand before them in the text
abbrev rows_of : Headers → List (List Constraint) → ℕ → List OwnMethod → List PlainMethod
rows_of headers all count [] = []
rows_of headers all count (own ∷ more) = method_row (class_scope headers all (as_number own.class)) (as_number count) own.method ∷ rows_of headers all (count + 1) more

rows_append : (headers : Headers) (all : List (List Constraint)) (count : ℕ) (xs ys : List OwnMethod) → rows_of headers all count (xs ++ ys) ≡ rows_of headers all count xs ++ rows_of headers all (count + length xs) ys
rows_append headers all count [] ys =
    let here : count ≡ count + 0 = omega arith in
    ap (λ k. rows_of headers all k ys) here
rows_append headers all count (x ∷ xs) ys =
    let on : count + 1 + length xs ≡ count + suc (length xs) = omega arith in
    let first = method_row (class_scope headers all (as_number x.class)) (as_number count) x.method in
    ap (λ z. first ∷ z) (rows_append headers all (count + 1) xs ys ∙ ap (λ k. rows_of headers all (count + 1) xs ++ rows_of headers all k ys) on)

class_rows : (headers : Headers) (all : List (List Constraint)) (at count : ℕ) (members : List Member) → rows_from (class_scope headers all (as_number at)) count members ≡ rows_of headers all count (flat_map (member_methods at) members)
class_rows headers all at count [] = refl
class_rows headers all at count (member.Regions is_atomic names ∷ members) =
    let here : count + 0 ≡ count = omega arith in
    class_rows headers all at (count + 0) members ∙ ap (λ k. rows_of headers all k (flat_map (member_methods at) members)) here
class_rows headers all at count (member.Field field ∷ members) =
    let here : count + 0 ≡ count = omega arith in
    class_rows headers all at (count + 0) members ∙ ap (λ k. rows_of headers all k (flat_map (member_methods at) members)) here
class_rows headers all at count (member.Method method ∷ members) =
    ap (λ z. method_row (class_scope headers all (as_number at)) (as_number count) method ∷ z) (class_rows headers all at (count + 1) members)

rows_long : (headers : Headers) (all : List (List Constraint)) (count : ℕ) (owns : List OwnMethod) → length (rows_of headers all count owns) ≡ length owns
rows_long headers all count [] = refl
rows_long headers all count (own ∷ owns) = ap suc (rows_long headers all (count + 1) owns)

all_rows : (headers : Headers) (all : List (List Constraint)) (at count : ℕ) (classes : List Class) → methods_meant headers all at count classes ≡ rows_of headers all count (methods_from at classes)
all_rows headers all at count [] = refl
all_rows headers all at count (class ∷ classes) =
    let own = rows_from (class_scope headers all (as_number at)) count class.members in
    let mine = flat_map (member_methods at) class.members in
    let next : at + 1 ≡ suc at = omega arith in
    let here = class_rows headers all at count class.members in
    ap (λ z. z ++ methods_meant headers all (at + 1) (count + length own) classes) here
    ∙ ap (λ z. rows_of headers all count mine ++ z)
    (all_rows headers all (at + 1) (count + length own) classes ∙ ap (λ k. rows_of headers all (count + length own) (methods_from k classes)) next
    ∙ ap (λ k. rows_of headers all (count + k) (methods_from (suc at) classes)) (ap length here ∙ rows_long headers all count mine))
    ∙ sym (rows_append headers all count mine (methods_from (suc at) classes))

got_row : (headers : Headers) (all : List (List Constraint)) (count : ℕ) (owns : List OwnMethod) (i : ℕ) (own : OwnMethod) → slice_get owns i ≡ Some own →
    slice_get (rows_of headers all count owns) i ≡ Some (method_row (class_scope headers all (as_number own.class)) (as_number (count + i)) own.method)
got_row headers all count [] i own e = cc
got_row headers all count (one ∷ owns) zero own e =
    let here : count ≡ count + 0 = omega arith in
    ap (λ k. Some (method_row (class_scope headers all (as_number one.class)) (as_number k) one.method)) here
    ∙ ap (λ (o : OwnMethod). Some (method_row (class_scope headers all (as_number o.class)) (as_number (count + 0)) o.method)) (some_same e)
got_row headers all count (one ∷ owns) (suc i) own e =
    let on : count + 1 + i ≡ count + suc i = omega arith in
    got_row headers all (count + 1) owns i own e
    ∙ ap (λ k. Some (method_row (class_scope headers all (as_number own.class)) (as_number k) own.method)) on

-- where a method or a constructor stands
pub record Stands (classes : List Class) (at : ℕ) (own : OwnMethod) : Type 0 where
  pub number : ℕ
  pub is : own.class ≡ at + number
  pub class : Class
  pub there : slice_get classes number ≡ Some class
  pub place : ℕ
  pub stands : slice_get class.members place ≡ Some (member.Method own.method)

in_members : (at : ℕ) (members : List Member) (i : ℕ) (own : OwnMethod) → slice_get (flat_map (member_methods at) members) i ≡ Some own →
    (own.class ≡ at) × (place : ℕ) × (slice_get members place ≡ Some (member.Method own.method))
in_members at [] i own e = cc
in_members at (member.Regions is_atomic names ∷ members) i own e = let w = in_members at members i own e in (w.0, suc w.1, w.2)
in_members at (member.Field field ∷ members) i own e = let w = in_members at members i own e in (w.0, suc w.1, w.2)
in_members at (member.Method method ∷ members) zero own e =
    let same = some_same e in
    (ap (λ (o : OwnMethod). o.class) (sym same), 0, ap (λ (o : OwnMethod). Some (member.Method o.method)) same)
in_members at (member.Method method ∷ members) (suc i) own e = let w = in_members at members i own e in (w.0, suc w.1, w.2)

pub stands_in : (at : ℕ) (classes : List Class) (i : ℕ) (own : OwnMethod) → slice_get (methods_from at classes) i ≡ Some own → Stands classes at own
stands_in at [] i own e = cc
stands_in at (class ∷ classes) i own e =
    elim (got_either (flat_map (member_methods at) class.members) (methods_from (suc at) classes) i own e) [
      | inl here ↦
          let w = in_members at class.members i own here in
          let same : at ≡ at + 0 = omega arith in
          record { number = 0; is = w.0 ∙ same; class = class; there = refl; place = w.1; stands = w.2 }
      | inr more ↦
          let w = stands_in (suc at) classes more.0 own more.2 in
          let next : suc at + w.number ≡ at + suc w.number = omega arith in
          record { number = suc w.number; is = w.is ∙ next; class = w.class; there = w.there; place = w.place; stands = w.stands }
    ]

-- no method has the name of one that is known, or of another one
known_free : (at : ℕ) (known : List ℕ) (members : List Member) (i : ℕ) (own : OwnMethod) → second_of known (method_names (flat_map method_in members)) ≡ [] →
    slice_get (flat_map (member_methods at) members) i ≡ Some own → is_constructor_result own.method.result ≡ false → is_known known own.method.name ≡ false
known_free at known [] i own free e plain = cc
known_free at known (member.Regions is_atomic names ∷ members) i own free e plain = known_free at known members i own free e plain
known_free at known (member.Field field ∷ members) i own free e plain = known_free at known members i own free e plain
known_free at known (member.Method method ∷ members) i own free e plain = by (is_constructor_result method.result) refl free i e (λ k. known_free at k members)
  where
    by : (b : Bool) → is_constructor_result method.result ≡ b → second_of known (cond b [] (record { name = method.name; place = method.place } ∷ []) ++ method_names (flat_map method_in members)) ≡ [] →
        (i : ℕ) → slice_get (record { class = at; method = method } ∷ flat_map (member_methods at) members) i ≡ Some own →
        ((k : List ℕ) (j : ℕ) (one : OwnMethod) → second_of k (method_names (flat_map method_in members)) ≡ [] → slice_get (flat_map (member_methods at) members) j ≡ Some one → is_constructor_result one.method.result ≡ false → is_known k one.method.name ≡ false) →
        is_known known own.method.name ≡ false
    by true is free zero e more =
        let same : is_constructor_result own.method.result ≡ true = ap (λ (o : OwnMethod). is_constructor_result o.method.result) (sym (some_same e)) ∙ is in
        cc (same, plain)
    by true is free (suc i) e more = more known i own free e plain
    by false is free zero e more =
        let f = append_none (fault_if (is_known known method.name) kind.Duplicate method.place) _ free in
        ap (λ (o : OwnMethod). is_known known o.method.name) (sym (some_same e)) ∙ fault_none (is_known known method.name) kind.Duplicate method.place f.0
    by false is free (suc i) e more =
        let f = append_none (fault_if (is_known known method.name) kind.Duplicate method.place) _ free in
        (or_false (method.name == own.method.name) (is_known known own.method.name) (more (method.name ∷ known) i own f.1 e plain)).1

known_apart : (known : List ℕ) (name other : ℕ) → name ≡ other → is_known (name ∷ known) other ≡ false → ⊥
known_apart known name other same free =
    let apart = (or_false (name == other) (is_known known other) free).0 in
    let equal = eq-eqb name other same in
    cc (apart, equal)

-- two methods
abbrev AreSame : (a b : OwnMethod) → Type 0
AreSame a b = (is_constructor_result a.method.result ≡ false) × (is_constructor_result b.method.result ≡ false) × (a.method.name ≡ b.method.name)

own_once : (at : ℕ) (known : List ℕ) (members : List Member) (i j : ℕ) (a b : OwnMethod) → second_of known (method_names (flat_map method_in members)) ≡ [] →
    slice_get (flat_map (member_methods at) members) i ≡ Some a → slice_get (flat_map (member_methods at) members) j ≡ Some b → AreSame a b → i ≡ j
own_once at known [] i j a b free e d same = cc
own_once at known (member.Regions is_atomic names ∷ members) i j a b free e d same = own_once at known members i j a b free e d same
own_once at known (member.Field field ∷ members) i j a b free e d same = own_once at known members i j a b free e d same
own_once at known (member.Method method ∷ members) i j a b free e d same =
    by (is_constructor_result method.result) refl free i j e d (λ k x y f. own_once at k members x y a b f)
  where
    rest : List OwnMethod
    rest = flat_map (member_methods at) members

    by : (c : Bool) → is_constructor_result method.result ≡ c → second_of known (cond c [] (record { name = method.name; place = method.place } ∷ []) ++ method_names (flat_map method_in members)) ≡ [] →
        (i j : ℕ) → slice_get (record { class = at; method = method } ∷ rest) i ≡ Some a → slice_get (record { class = at; method = method } ∷ rest) j ≡ Some b →
        ((k : List ℕ) (x y : ℕ) → second_of k (method_names (flat_map method_in members)) ≡ [] → slice_get rest x ≡ Some a → slice_get rest y ≡ Some b → AreSame a b → x ≡ y) → i ≡ j
    by c is free zero zero e d more = refl
    by true is free zero (suc j) e d more =
        let made : is_constructor_result a.method.result ≡ true = ap (λ (o : OwnMethod). is_constructor_result o.method.result) (sym (some_same e)) ∙ is in
        let plain = same.0 in
        cc (made, plain)
    by true is free (suc i) zero e d more =
        let made : is_constructor_result b.method.result ≡ true = ap (λ (o : OwnMethod). is_constructor_result o.method.result) (sym (some_same d)) ∙ is in
        let plain = same.1 in
        cc (made, plain)
    by true is free (suc i) (suc j) e d more = ap suc (more known i j free e d same)
    by false is free zero (suc j) e d more =
        let f = append_none (fault_if (is_known known method.name) kind.Duplicate method.place) _ free in
        let first : method.name ≡ a.method.name = ap (λ (o : OwnMethod). o.method.name) (some_same e) in
        absurd (known_apart known method.name b.method.name (first ∙ same.2) (known_free at (method.name ∷ known) members j b f.1 d same.1))
    by false is free (suc i) zero e d more =
        let f = append_none (fault_if (is_known known method.name) kind.Duplicate method.place) _ free in
        let first : method.name ≡ b.method.name = ap (λ (o : OwnMethod). o.method.name) (some_same d) in
        absurd (known_apart known method.name a.method.name (first ∙ sym same.2) (known_free at (method.name ∷ known) members i a f.1 e same.0))
    by false is free (suc i) (suc j) e d more =
        let f = append_none (fault_if (is_known known method.name) kind.Duplicate method.place) _ free in
        ap suc (more (method.name ∷ known) i j f.1 e d same)

-- nor in a program
abbrev AreFree : List Class → Type 0
AreFree classes = (j : ℕ) (class : Class) → slice_get classes j ≡ Some class → second_of [] (method_names (own_methods class)) ≡ []

apart_in : (at : ℕ) (classes : List Class) → AreFree classes → (i j : ℕ) (a b : OwnMethod) → slice_get (methods_from at classes) i ≡ Some a → slice_get (methods_from at classes) j ≡ Some b → a.class ≡ b.class → AreSame a b → i ≡ j
apart_in at [] free i j a b e d owner same = cc
apart_in at (class ∷ classes) free i j a b e d owner same =
    by (got_either mine rest i a e) (got_either mine rest j b d)
    (λ x y h k. apart_in (suc at) classes (λ n one is. free (suc n) one is) x y a b h k owner same)
  where
    mine : List OwnMethod
    mine = flat_map (member_methods at) class.members

    rest : List OwnMethod
    rest = methods_from (suc at) classes

    differ : (x y : ℕ) (one other : OwnMethod) → slice_get mine x ≡ Some one → slice_get rest y ≡ Some other → one.class ≡ other.class → ⊥
    differ x y one other h k alike =
        let first = (in_members at class.members x one h).0 in
        let second = (stands_in (suc at) classes y other k).is in
        omega (arith, first, second, alike)

    by : (slice_get mine i ≡ Some a) ⊎ ((x : ℕ) × (i ≡ length mine + x) × (slice_get rest x ≡ Some a)) → (slice_get mine j ≡ Some b) ⊎ ((y : ℕ) × (j ≡ length mine + y) × (slice_get rest y ≡ Some b)) →
        ((x y : ℕ) → slice_get rest x ≡ Some a → slice_get rest y ≡ Some b → x ≡ y) → i ≡ j
    by (inl h) (inl k) more = own_once at [] class.members i j a b (free 0 class refl) h k same
    by (inl h) (inr k) more = absurd (differ i k.0 a b h k.2 owner)
    by (inr h) (inl k) more = absurd (differ j h.0 b a k h.2 (sym owner))
    by (inr h) (inr k) more = let one = more h.0 k.0 h.2 k.2 in omega (arith, one, h.1, k.1)

pub range_there : (n i : ℕ) → i < n → slice_get (range_with_len 0 n) i ≡ Some i
range_there n i l =
    let long : i < length (range_with_len 0 n) = subst (λ k. i < k) (sym (length-range_with_len 0 n)) l in
    let plain : 0 + i ≡ i = omega arith in
    slice_get-get_or (range_with_len 0 n) i 0 long ∙ ap Some (get_or-range_with_len 0 n i 0 l ∙ plain)

class_wrong : (regions fields : List ℕ) (class : Class) → wrong_in_class regions fields class ≡ [] → second_of [] (method_names (own_methods class)) ≡ []
class_wrong regions fields class free =
    let a = append_none (second_of [] (own_params class)) _ free in
    let b = append_none (second_of regions (own_regions class)) _ a.1 in
    let c = append_none (second_of fields (own_fields class)) _ b.1 in
    (append_none (second_of [] (method_names (own_methods class))) _ c.1).0

-- a method or a constructor, and its row
pub record Row (program : Program) (table : Table) (n : ℕ) (own : OwnMethod) (row : MethodRow) : Type 0 where
  pub own_there : slice_get (all_methods program) n ≡ Some own
  pub row_there : slice_get (methods_of table) n ≡ Some row
  pub is : plain_method row ≡ method_row (class_scope (headers_of table) table.given own.class) n own.method
  pub class : Class
  pub class_there : slice_get program.classes own.class ≡ Some class
  pub place : ℕ
  pub stands : slice_get class.members place ≡ Some (member.Method own.method)

module _ (program : Program) (table : Table) (has : HasRows program table)
  where
    free : AreFree program.classes
    free j class e =
        let all = none_reported (none_by order.Place) (second_faults program.classes (parents_in program.classes)) (granted has).second in
        let l = slice_get_within program.classes j class e in
        let one = flat_free (wrong_at program.classes (parents_in program.classes)) (range_with_len 0 (length program.classes)) j j all (range_there (length program.classes) j l) in
        let above = superclasses (parents_in program.classes) j in
        class_wrong (names_in own_regions program.classes above) (names_in own_fields program.classes above) class
        (sym (ap (λ o. option_map_or (λ (k : Class). wrong_in_class (names_in own_regions program.classes above) (names_in own_fields program.classes above) k) o []) e) ∙ one)

    -- a class has one method of a name at most
    pub one_name : (i j : ℕ) (a b : OwnMethod) → slice_get (all_methods program) i ≡ Some a → slice_get (all_methods program) j ≡ Some b → a.class ≡ b.class →
        is_constructor_result a.method.result ≡ false → is_constructor_result b.method.result ≡ false → a.method.name ≡ b.method.name → i ≡ j
    one_name i j a b e d owner first second names = apart_in 0 program.classes free i j a b e d owner (first, second, names)

    rows_are : map plain_method (methods_of table) ≡ rows_of (headers_of table) table.given 0 (all_methods program)
    rows_are = (granted has).read.methods ∙ all_rows (headers_of table) table.given 0 0 program.classes

    -- as many rows as methods and constructors
    pub rows_many : length (methods_of table) ≡ length (all_methods program)
    rows_many = sym (length-map (methods_of table) plain_method) ∙ ap length rows_are ∙ rows_long (headers_of table) table.given 0 (all_methods program)

    pub both : (n : ℕ) (own : OwnMethod) (row : MethodRow) → slice_get (all_methods program) n ≡ Some own → slice_get (methods_of table) n ≡ Some row → Row program table n own row
    both n own row e d =
        let w = stands_in 0 program.classes n own e in
        let plain : 0 + w.number ≡ w.number = omega arith in
        let number : own.class ≡ w.number = w.is ∙ plain in
        let here = subst (λ k. slice_get program.classes k ≡ Some w.class) (sym number) w.there in
        let l = slice_get_within program.classes own.class w.class here in
        let few = has.counted.0 in
        let class_so : as_number own.class ≡ own.class = omega (arith, l, few) in
        let m = slice_get_within (methods_of table) n row d in
        let most = has.few in
        let number_so : as_number (0 + n) ≡ n = omega (arith, m, most) in
        record {
          own_there = e;
          row_there = d;
          is =
              some_same (sym (got_mapped plain_method (methods_of table) n row d) ∙ ap (λ rows. slice_get rows n) rows_are ∙ got_row (headers_of table) table.given 0 (all_methods program) n own e)
              ∙ ap (λ k. method_row (class_scope (headers_of table) table.given k) (as_number (0 + n)) own.method) class_so
              ∙ ap (λ k. method_row (class_scope (headers_of table) table.given own.class) k own.method) number_so;
          class = w.class;
          class_there = here;
          place = w.place;
          stands = w.stands;
        }

    pub own_row : (n : ℕ) (own : OwnMethod) → slice_get (all_methods program) n ≡ Some own → (row : MethodRow) × Row program table n own row
    own_row n own e =
        let l = slice_get_within (all_methods program) n own e in
        let many = rows_many in
        let w = there (methods_of table) n (omega (arith, l, many)) in
        (w.0, both n own w.0 e w.1)

    pub row_own : (n : ℕ) (row : MethodRow) → slice_get (methods_of table) n ≡ Some row → (own : OwnMethod) × Row program table n own row
    row_own n row e =
        let l = slice_get_within (methods_of table) n row e in
        let many = rows_many in
        let w = there (all_methods program) n (omega (arith, l, many)) in
        (w.0, both n w.0 row w.1 e)
