-- Each body that is made is that of a method of the text, which stands in a class of this number, and has its row there.
use Rattle.std.proofs.Common.{◌≡◌, ◌∙◌, ℕ, zero, suc, ◌+◌, ◌≤◌, Bool, false, List, [], ◌∷◌, ◌++◌, All, length, inl, inr, Option, Some, None, Result, Ok, Err, sum_by, refl, ap, sym, subst, arith}
use Rattle.std.proofs.lemmas.List.{length-append}
use Rattle.std.proofs.lemmas.List.Elements.{All-head, All-tail}
use Rattle.std.proofs.lemmas.List.Sums.{sum_by-cons}
use Rattle.std.specs.List.{flat_map}
use Rattle.std.specs.Prelude.{slice_get}
use Rattle.lang_base.specs.declared.effect.Constraint.{Constraint}
use Rattle.lang_base.specs.declared.refusal.Refusal.{Refusal}
use Rattle.decl_headers.specs.declared.header.Headers.{Headers}
use Rattle.decl_headers.specs.Numbers.{as_number}
use Rattle.syntax_tree.specs.declared.class.Class.{Class}
use Rattle.syntax_tree.specs.declared.class.Member.{Member}
use Rattle.syntax_tree.specs.declared.class.Member.TheVariants as member
use Rattle.syntax_tree.specs.declared.class.Method.{Method}
use Rattle.syntax_tree.specs.Size.{method_size, member_size, class_size}
use Rattle.decl_resolve.specs.Scopes.{PlainScope}
use Rattle.decl_classes.specs.Around.{class_scope}
use Rattle.decl_reach.specs.Bodies.{own_marks, class_marks}
use Rattle.decl_classes.specs.Rows.{method_row, method_faults, member_faults, own_methods, methods_from, methods_meant, super_faults, class_faults, signature_faults}
use Rattle.body_assembly.specs.Assembled.{PlainBody}
use Rattle.body_exprs.specs.declared.env.Env.{Env}
use Rattle.body_exprs.specs.Env.{table_of, at_class, class_params}
use Rattle.body_check.specs.Methods.{number_after, bodies_of, PlainBodies, after_bodies, after_ok, own_params}
use Rattle.sound_lemmas.proofs.BodyRules.{MethodChecking, is_method, MemberChecking, MembersChecking, ClassesChecking}
use Rattle.decl_laws.proofs.Facts.{got_either}
use Rattle.sound_lemmas.proofs.Free.{append_none}
use Rattle.sound_lemmas.proofs.Lists.{some_same, got_first, got_later}
use Rattle.syntax_grammar.specs.Written.{MethodIsWritten, MemberIsWritten, ClassIsWritten}
use Rattle.sound_bodies.specs.Whole.{StandsIn, StandsAmong}

-- what a member makes: a method its body, and nothing else one
abbrev IsMade : Env → List Bool → ℕ → Member → Result (Option PlainBody) Refusal → Type 0
IsMade env params number (member.Regions is_atomic names) (Ok made) = made ≡ None
IsMade env params number (member.Field field) (Ok made) = made ≡ None
IsMade env params number (member.Method method) (Ok made) =
    (body : PlainBody) × (made ≡ Some body) × MethodChecking env (params ++ own_params (table_of env) number) number method (Ok body)
IsMade env params number m (Err refusal) = Unit {0}

member_made : {env : Env} {params : List Bool} {m : Member} {number : ℕ} {r : Result (Option PlainBody) Refusal} → MemberChecking env params m number r → IsMade env params number m r
member_made {env} {params} {m} {number} (MemberChecking.no_method none) = by m none
  where
    by : (one : Member) → is_method one ≡ false → IsMade env params number one (Ok None)
    by (member.Regions is_atomic names) h = refl
    by (member.Field field) h = refl
    by (member.Method method) h = cc
member_made {env} {params} {m} {number} (MemberChecking.a_method {method = method} {r = r} d j) = subst (IsMade env params number (member.Method method)) j (by r d)
  where
    by : (r : Result PlainBody Refusal) → MethodChecking env (params ++ own_params (table_of env) number) number method r → IsMade env params number (member.Method method) (after_ok Some r)
    by (Ok body) d = (body, refl, d)
    by (Err refusal) d = tt

-- a body is that of the method with a number among these members, before which so many methods stand in the text
record InMembers (env : Env) (params : List Bool) (scope : PlainScope) (members : List Member) (count n : ℕ) (body : PlainBody) : Type 0 where
  method : Method
  stands : StandsIn method n members count
  place : ℕ
  at : n ≡ count + place
  row : slice_get (methods_from scope count members) place ≡ Some (method_row scope (as_number n) method)
  free : method_faults scope method ≡ []
  written : MethodIsWritten method
  small : method_size method ≤ sum_by member_size members
  checked : MethodChecking env (params ++ own_params (table_of env) (as_number n)) (as_number n) method (Ok body)

-- what members make
record AreMade (env : Env) (params : List Bool) (scope : PlainScope) (members : List Member) (count : ℕ) (made : PlainBodies) : Type 0 where
  next : made.next ≡ as_number (count + length (flat_map own_marks members))
  many : length made.bodies ≡ length (flat_map own_marks members)
  each : (i n : ℕ) (body : PlainBody) → n ≡ count + i → slice_get made.bodies i ≡ Some body → InMembers env params scope members count n body

abbrev IfMade : Env → List Bool → PlainScope → List Member → ℕ → Result PlainBodies Refusal → Type 0
IfMade env params scope members count (Ok made) = AreMade env params scope members count made
IfMade env params scope members count (Err refusal) = Unit {0}

module _ (env : Env) (params : List Bool) (scope : PlainScope)
  where
    later : (m : Member) (ms : List Member) (count n : ℕ) (body : PlainBody) → length (own_methods scope (as_number count) m) ≡ length (own_marks m) →
        InMembers env params scope ms (count + length (own_marks m)) n body → InMembers env params scope (m ∷ ms) count n body
    later m ms count n body many h =
        let own = own_methods scope (as_number count) m in
        let on = h.at in
        let less = h.small in
        record {
          method = h.method;
          stands = StandsIn.later h.stands;
          place = length own + h.place;
          at = omega (arith, on, many);
          row =
              got_later own (methods_from scope (count + length own) ms) (length own + h.place) h.place (method_row scope (as_number n) h.method) refl
              (subst (λ k. slice_get (methods_from scope (count + k) ms) h.place ≡ Some (method_row scope (as_number n) h.method)) (sym many) h.row);
          free = h.free;
          written = h.written;
          small = omega (arith, less, sum_by-cons member_size m ms);
          checked = h.checked;
        }

    -- a member that has no body
    none_more : (m : Member) (ms : List Member) (count : ℕ) (r : Result PlainBodies Refusal) → length (own_methods scope (as_number count) m) ≡ length (own_marks m) → length (own_marks m) ≡ 0 →
        IfMade env params scope ms (count + length (own_marks m)) r → IfMade env params scope (m ∷ ms) count (after_ok (after_bodies []) r)
    none_more m ms count (Err refusal) many none h = tt
    none_more m ms count (Ok made) many none h = record {
      next =
          h.next ∙ ap as_number (let long = length-append (own_marks m) (flat_map own_marks ms) in
          let same : count + length (own_marks m) + length (flat_map own_marks ms) ≡ count + length (own_marks m ++ flat_map own_marks ms) = omega (arith, long) in same);
      many = (let long = length-append (own_marks m) (flat_map own_marks ms) in let so = h.many in omega (arith, long, so, none));
      each = λ i n body on e. later m ms count n body many (h.each i n body (omega (arith, on, none)) e);
    }

    -- a method
    method_more : (method : Method) (ms : List Member) (count : ℕ) (body : PlainBody) (r : Result PlainBodies Refusal) → MethodChecking env (params ++ own_params (table_of env) (as_number count)) (as_number count) method (Ok body) →
        MethodIsWritten method → method_faults scope method ≡ [] → IfMade env params scope ms (count + 1) r → IfMade env params scope (member.Method method ∷ ms) count (after_ok (after_bodies (body ∷ [])) r)
    method_more method ms count body (Err refusal) d written free h = tt
    method_more method ms count body (Ok made) d written free h = record {
      next = h.next ∙ ap as_number (let same : count + 1 + length (flat_map own_marks ms) ≡ count + suc (length (flat_map own_marks ms)) = omega arith in same);
      many = ap suc h.many;
      each = each;
    }
      where
        here : InMembers env params scope (member.Method method ∷ ms) count count body
        here = record {
          method = method;
          stands = StandsIn.here;
          place = 0;
          at = omega arith;
          row = refl;
          free = free;
          written = written;
          small = omega (arith, sum_by-cons member_size (member.Method method) ms);
          checked = d;
        }

        each : (i n : ℕ) (one : PlainBody) → n ≡ count + i → slice_get (body ∷ made.bodies) i ≡ Some one → InMembers env params scope (member.Method method ∷ ms) count n one
        each zero n one on e =
            let same : count ≡ n = omega (arith, on) in
            subst (λ k. InMembers env params scope (member.Method method ∷ ms) count k one) same (subst (InMembers env params scope (member.Method method ∷ ms) count count) (some_same e) here)
        each (suc i) n one on e = later (member.Method method) ms count n one refl (h.each i n one (omega (arith, on)) e)

    member_more : (m : Member) (ms : List Member) (count number : ℕ) (made : Option PlainBody) (r : Result PlainBodies Refusal) → number ≡ as_number count → IsMade env params number m (Ok made) → MemberIsWritten m →
        member_faults scope m ≡ [] → (number_after made number ≡ as_number (count + length (own_marks m)) → IfMade env params scope ms (count + length (own_marks m)) r) →
        IfMade env params scope (m ∷ ms) count (after_ok (after_bodies (bodies_of made)) r)
    member_more (member.Regions is_atomic names) ms count number made r is h written free rest =
        let on : as_number count ≡ as_number (count + 0) = omega arith in
        subst (λ o. IfMade env params scope (member.Regions is_atomic names ∷ ms) count (after_ok (after_bodies (bodies_of o)) r)) (sym h)
        (none_more (member.Regions is_atomic names) ms count r refl refl (rest (ap (λ o. number_after o number) h ∙ is ∙ on)))
    member_more (member.Field field) ms count number made r is h written free rest =
        let on : as_number count ≡ as_number (count + 0) = omega arith in
        subst (λ o. IfMade env params scope (member.Field field ∷ ms) count (after_ok (after_bodies (bodies_of o)) r)) (sym h)
        (none_more (member.Field field) ms count r refl refl (rest (ap (λ o. number_after o number) h ∙ is ∙ on)))
    member_more (member.Method method) ms count number made r is h written free rest =
        let on : as_number (suc (as_number count)) ≡ as_number (count + 1) = omega arith in
        subst (λ o. IfMade env params scope (member.Method method ∷ ms) count (after_ok (after_bodies (bodies_of o)) r)) (sym h.1)
        (method_more method ms count h.0 r (subst (λ k. MethodChecking env (params ++ own_params (table_of env) k) k method (Ok h.0)) is h.2) written free
        (rest (ap (λ o. number_after o number) h.1 ∙ ap (λ k. as_number (suc k)) is ∙ on)))

members_made : {env : Env} {params : List Bool} {ms : List Member} {number : ℕ} {r : Result PlainBodies Refusal} (scope : PlainScope) (count : ℕ) → number ≡ as_number count → All MemberIsWritten ms →
    flat_map (member_faults scope) ms ≡ [] → MembersChecking env params ms number r → IfMade env params scope ms count r
members_made scope count is written free MembersChecking.no_members =
    let on : as_number count ≡ as_number (count + 0) = omega arith in
    record { next = is ∙ on; many = refl; each = λ i n body on e. cc }
members_made scope count is written free MembersChecking.is_refused = tt
members_made {env} {params} scope count is written free (MembersChecking.then_members {m = m} {ms = ms} {number = number} {made = made} {u = u} d rest j) =
    let f = append_none (member_faults scope m) (flat_map (member_faults scope) ms) free in
    subst (IfMade env params scope (m ∷ ms) count) j
    (member_more env params scope m ms count number made u is (member_made d) (All-head MemberIsWritten m ms written) f.0
    (λ next. members_made scope (count + length (own_marks m)) next (All-tail MemberIsWritten m ms written) f.1 rest))

pub rows_many : (scope : PlainScope) (count : ℕ) (members : List Member) → length (methods_from scope count members) ≡ length (flat_map own_marks members)
rows_many scope count [] = refl
rows_many scope count (member.Regions is_atomic declared ∷ members) = rows_many scope (count + 0) members
rows_many scope count (member.Field field ∷ members) = rows_many scope (count + 0) members
rows_many scope count (member.Method method ∷ members) = ap suc (rows_many scope (count + 1) members)

-- a body is that of the method with a number among these classes, which are counted on from one
pub record InClasses (start : Env) (headers : Headers) (all : List (List Constraint)) (classes : List Class) (at count n : ℕ) (body : PlainBody) : Type 0 where
  pub method : Method
  pub class : ℕ
  pub text : Class
  pub stands : StandsAmong method n class classes at count
  -- where the class stands, and the row of the method
  pub class_place : ℕ
  pub class_at : class ≡ at + class_place
  pub class_there : slice_get classes class_place ≡ Some text
  pub place : ℕ
  pub place_at : n ≡ count + place
  pub row : slice_get (methods_meant headers all at count classes) place ≡ Some (method_row (class_scope headers all (as_number class)) (as_number n) method)
  pub free : method_faults (class_scope headers all (as_number class)) method ≡ []
  pub written : MethodIsWritten method
  pub small : length text.params.list + method_size method ≤ sum_by class_size classes
  pub checked : MethodChecking (at_class start (as_number class)) (class_params (table_of start) (as_number class) ++ own_params (table_of start) (as_number n)) (as_number n) method (Ok body)

abbrev AllMade : Env → Headers → List (List Constraint) → List Class → ℕ → ℕ → Result (List PlainBody) Refusal → Type 0
AllMade start headers all classes at count (Ok bodies) = (i n : ℕ) (body : PlainBody) → n ≡ count + i → slice_get bodies i ≡ Some body → InClasses start headers all classes at count n body
AllMade start headers all classes at count (Err refusal) = Unit {0}

module _ (start : Env) (headers : Headers) (all : List (List Constraint))
  where
    in_class : (class : Class) (classes : List Class) (at count n : ℕ) (body : PlainBody) →
        InMembers (at_class start (as_number at)) (class_params (table_of start) (as_number at)) (class_scope headers all (as_number at)) class.members count n body → InClasses start headers all (class ∷ classes) at count n body
    in_class class classes at count n body h =
        let own = methods_from (class_scope headers all (as_number at)) count class.members in
        let less = h.small in
        record {
          method = h.method;
          class = at;
          text = class;
          stands = StandsAmong.in_class h.stands;
          class_place = 0;
          class_at = omega arith;
          class_there = refl;
          place = h.place;
          place_at = h.at;
          row = got_first own (methods_meant headers all (at + 1) (count + length own) classes) h.place (method_row (class_scope headers all (as_number at)) (as_number n) h.method) h.row;
          free = h.free;
          written = h.written;
          small = omega (arith, less, sum_by-cons class_size class classes);
          checked = h.checked;
        }

    in_later : (class : Class) (classes : List Class) (at count n : ℕ) (body : PlainBody) → InClasses start headers all classes (at + 1) (count + length (class_marks class)) n body → InClasses start headers all (class ∷ classes) at count n body
    in_later class classes at count n body h =
        let own = methods_from (class_scope headers all (as_number at)) count class.members in
        let many : length own ≡ length (class_marks class) = rows_many (class_scope headers all (as_number at)) count class.members in
        let less = h.small in
        let on = h.place_at in
        let class_on = h.class_at in
        let row = method_row (class_scope headers all (as_number h.class)) (as_number n) h.method in
        record {
          method = h.method;
          class = h.class;
          text = h.text;
          stands = StandsAmong.in_later h.stands;
          class_place = suc h.class_place;
          class_at = omega (arith, class_on);
          class_there = h.class_there;
          place = length own + h.place;
          place_at = omega (arith, on, many);
          row =
              got_later own (methods_meant headers all (at + 1) (count + length own) classes) (length own + h.place) h.place row refl
              (subst (λ k. slice_get (methods_meant headers all (at + 1) (count + k) classes) h.place ≡ Some row) (sym many) h.row);
          free = h.free;
          written = h.written;
          small = omega (arith, less, sum_by-cons class_size class classes);
          checked = h.checked;
        }

    pub all_made : {at number : ℕ} {classes : List Class} {r : Result (List PlainBody) Refusal} (count : ℕ) → number ≡ as_number count → All ClassIsWritten classes → signature_faults headers all at classes ≡ [] →
        ClassesChecking start at classes number r → AllMade start headers all classes at count r
    all_made count is written free ClassesChecking.no_classes = λ i n body on e. cc
    all_made count is written free ClassesChecking.is_refused = tt
    all_made count is written free (ClassesChecking.then_classes {at = at} {class = class} {classes = classes} {made = made} {u = u} d rest j) =
        let scope = class_scope headers all (as_number at) in
        let f = append_none (class_faults scope class) (signature_faults headers all (at + 1) classes) free in
        let g = append_none (super_faults scope class) (flat_map (member_faults scope) class.members) f.0 in
        let own = members_made scope count is (All-head ClassIsWritten class classes written).members g.1 d in
        subst (AllMade start headers all (class ∷ classes) at count) j
        (by u own (all_made (count + length (class_marks class)) own.next (All-tail ClassIsWritten class classes written) f.1 rest))
      where
        by : (r : Result (List PlainBody) Refusal) → AreMade (at_class start (as_number at)) (class_params (table_of start) (as_number at)) (class_scope headers all (as_number at)) class.members count made →
            AllMade start headers all classes (at + 1) (count + length (class_marks class)) r → AllMade start headers all (class ∷ classes) at count (after_ok (λ bodies. made.bodies ++ bodies) r)
        by (Err refusal) own more = tt
        by (Ok bodies) own more = λ i n body on e. elim (got_either made.bodies bodies i body e) [
          | inl here ↦ in_class class classes at count n body (own.each i n body on here)
          | inr w ↦
              let place = w.1 in
              let many = own.many in
              in_later class classes at count n body (more w.0 n body (omega (arith, on, place, many)) w.2)
        ]
