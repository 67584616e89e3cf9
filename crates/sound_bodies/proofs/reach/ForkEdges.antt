-- A method that stands in the text is marked where an nd construct is in its body, and leads to what its body calls.
use Rattle.std.proofs.Common.{◌≡◌, ◌∙◌, ◌≤◌, ◌<◌, ◌+◌, ◌==◌, ◌&&◌, ℕ, Bool, true, false, List, [], ◌∷◌, ◌++◌, map, length, flat_map, inl, inr, Some, refl, sym, ap, subst, arith}
use Rattle.std.proofs.lemmas.Bool.{false≢true, or_left, or_right, or_cases, eq-eqb}
use Rattle.std.proofs.lemmas.List.Folds.{list_any-append}
use Rattle.std.proofs.lemmas.Option.{slice_get_within, get_or_from_slice_get}
use Rattle.std.specs.Prelude.{slice_get}
use Rattle.decl_headers.specs.Numbers.{as_number}
use Rattle.syntax_tree.specs.declared.class.Class.{Class}
use Rattle.syntax_tree.specs.declared.class.Member.{Member}
use Rattle.syntax_tree.specs.declared.class.Method.{Method}
use Rattle.syntax_tree.specs.Nd.{some_holds_nd}
use Rattle.syntax_tree.specs.Plain.{plain_stmt, plain_stmts}
use Rattle.decl_reach.specs.declared.reach.Edge.{Edge}
use Rattle.decl_table.specs.declared.table.Table.{Table}
use Rattle.decl_reach.specs.Bodies.{own_marks, class_marks}
use Rattle.decl_reach.specs.Calls.{body_calls}
use Rattle.decl_reach.specs.Edges.{edges_from, member_edges, class_edges, call_edges}
use Rattle.decl_reach.specs.Reach.{is_marked}
use Rattle.decl_reach.proofs.Reaching.{leads}
use Rattle.decl_table.specs.Table.{is_forking}
use Rattle.sound_lemmas.proofs.Lists.{got_first, got_later}
use Rattle.sound_bodies.specs.Whole.{StandsIn, StandsAmong}
use Rattle.sound_bodies.proofs.reach.Reached.{some_forks}

abbrev body_mark : Method → Bool
body_mark method = some_holds_nd (plain_stmts (map plain_stmt method.body))

in_members : {method : Method} {number : ℕ} {members : List Member} {count : ℕ} → StandsIn method number members count →
    (k : ℕ) × (number ≡ count + k) × (slice_get (flat_map own_marks members) k ≡ Some (body_mark method))
in_members StandsIn.here = (0, omega arith, refl)
in_members {method} {number} (StandsIn.later {m = m} {members = members} {count = count} d) =
    let w = in_members d in
    let on = w.1 in
    (length (own_marks m) + w.0, omega (arith, on), got_later (own_marks m) (flat_map own_marks members) (length (own_marks m) + w.0) w.0 (body_mark method) refl w.2)

in_classes : {method : Method} {number class : ℕ} {classes : List Class} {at count : ℕ} → StandsAmong method number class classes at count →
    (k : ℕ) × (number ≡ count + k) × (slice_get (flat_map class_marks classes) k ≡ Some (body_mark method))
in_classes {method} (StandsAmong.in_class {k = one} {classes = classes} d) = let w = in_members d in (w.0, w.1, got_first (class_marks one) (flat_map class_marks classes) w.0 (body_mark method) w.2)
in_classes {method} (StandsAmong.in_later {k = one} {classes = classes} d) =
    let w = in_classes d in
    let on = w.1 in
    (length (class_marks one) + w.0, omega (arith, on), got_later (class_marks one) (flat_map class_marks classes) (length (class_marks one) + w.0) w.0 (body_mark method) refl w.2)

-- it has its mark at its number
pub mark_there : {method : Method} {number class : ℕ} {classes : List Class} → StandsAmong method number class classes 0 0 →
    (number < length (flat_map class_marks classes)) × (is_marked (flat_map class_marks classes) number ≡ some_holds_nd (plain_stmts (map plain_stmt method.body)))
mark_there {method} {number} {class} {classes} d =
    let w = in_classes d in
    let same : w.0 ≡ number = (let on = w.1 in omega (arith, on)) in
    let there = subst (λ k. slice_get (flat_map class_marks classes) k ≡ Some (body_mark method)) same w.2 in
    (slice_get_within (flat_map class_marks classes) number (body_mark method) there, get_or_from_slice_get (flat_map class_marks classes) number (body_mark method) false there)

-- the number of its class is that of one of the classes
class_within : {method : Method} {number class : ℕ} {classes : List Class} {at count : ℕ} → StandsAmong method number class classes at count → class < at + length classes
class_within (StandsAmong.in_class d) = omega arith
class_within (StandsAmong.in_later d) = let less = class_within d in omega (arith, less)

-- edges

pub leads_first : (xs ys : List Edge) (from to : ℕ) → leads xs from to ≡ true → leads (xs ++ ys) from to ≡ true
leads_first xs ys from to h = list_any-append (λ (edge : Edge). (edge.from == from) && (edge.to == to)) xs ys ∙ or_left (leads xs from to) (leads ys from to) h

leads_later : (xs ys : List Edge) (from to : ℕ) → leads ys from to ≡ true → leads (xs ++ ys) from to ≡ true
leads_later xs ys from to h = list_any-append (λ (edge : Edge). (edge.from == from) && (edge.to == to)) xs ys ∙ or_right (leads xs from to) (leads ys from to) h

number_same : (n : ℕ) → n ≤ 4294967295 → as_number n ≡ n
number_same n few = omega (arith, few)

edges_in : {method : Method} {number : ℕ} {members : List Member} {count : ℕ} (table : Table) (class to : ℕ) → number ≤ 4294967295 → StandsIn method number members count →
    leads (edges_from number (body_calls table class method)) number to ≡ true → leads (class_edges table class count members) number to ≡ true
edges_in {method} {number} table class to few (StandsIn.here {members = members}) h =
    leads_first (edges_from (as_number number) (body_calls table class method)) (class_edges table class (number + 1) members) number to
    (subst (λ n. leads (edges_from n (body_calls table class method)) number to ≡ true) (sym (number_same number few)) h)
edges_in {method} {number} table class to few (StandsIn.later {m = m} {members = members} {count = count} d) h =
    leads_later (member_edges table class count m) (class_edges table class (count + length (own_marks m)) members) number to (edges_in table class to few d h)

edges_among : {method : Method} {number class : ℕ} {classes : List Class} {at count : ℕ} (table : Table) (to : ℕ) → number ≤ 4294967295 → class ≤ 4294967295 → StandsAmong method number class classes at count →
    leads (edges_from number (body_calls table class method)) number to ≡ true → leads (call_edges table at count classes) number to ≡ true
edges_among {method} {number} {class} table to few fits (StandsAmong.in_class {k = one} {classes = classes} {count = count} d) h =
    leads_first (class_edges table (as_number class) count one.members) (call_edges table (class + 1) (count + length (class_marks one)) classes) number to
    (subst (λ c. leads (class_edges table c count one.members) number to ≡ true) (sym (number_same class fits)) (edges_in table class to few d h))
edges_among {method} {number} table to few fits (StandsAmong.in_later {k = one} {classes = classes} {at = at} {count = count} d) h =
    leads_later (class_edges table (as_number at) count one.members) (call_edges table (at + 1) (count + length (class_marks one)) classes) number to (edges_among table to few fits d h)

-- one of the called methods forks, and an edge leads there
called_forks : (table : Table) (from : ℕ) (ids : List ℕ) → some_forks table ids ≡ true → (to : ℕ) × (is_forking table to ≡ true) × (leads (edges_from from ids) from to ≡ true)
called_forks table from [] h = absurd (false≢true h)
called_forks table from (id ∷ ids) h =
    elim (or_cases (is_forking table id) (some_forks table ids) h) [
      | inl here ↦ (
        id,
        here,
        or_left ((from == from) && (id == id)) (leads (edges_from from ids) from id) (ap (λ b. b && (id == id)) (eq-eqb from from refl) ∙ eq-eqb id id refl),
      )
      | inr more ↦
          let w = called_forks table from ids more in
          (w.0, w.1, or_right ((from == from) && (id == w.0)) (leads (edges_from from ids) from w.0) w.2)
    ]

-- so an edge leads from a method in the text to one that forks, where its body calls one that does
pub edge_there : {method : Method} {number class : ℕ} {classes : List Class} (table calls : Table) → number ≤ 4294967295 → length classes < 4294967295 → StandsAmong method number class classes 0 0 →
    some_forks table (body_calls calls class method) ≡ true → (to : ℕ) × (is_forking table to ≡ true) × (leads (call_edges calls 0 0 classes) number to ≡ true)
edge_there {method} {number} {class} table calls few counted d h =
    let w = called_forks table number (body_calls calls class method) h in
    let less = class_within d in
    (w.0, w.1, edges_among calls w.0 few (omega (arith, less, counted)) d w.2)
