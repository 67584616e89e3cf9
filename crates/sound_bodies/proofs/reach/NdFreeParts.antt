-- Where no nd construct is reached through a method of an accepted text, none is through those that stand in its row below.
use Rattle.std.proofs.Common.{◌≡◌, ◌∙◌, ℕ, zero, suc, ◌<◌, ◌==◌, ◌&&◌, ◌||◌, Bool, true, false, not, IsTrue, List, [], ◌∷◌, ◌++◌, length, flat_map, inl, inr, Some, option_and_then, refl, sym, ap, subst, arith}
use Rattle.std.proofs.lemmas.Bool.{eq-eqb}
use Rattle.std.proofs.lemmas.List.{length-append}
use Rattle.std.proofs.lemmas.List.Folds.{list_any-append}
use Rattle.std.proofs.lemmas.Option.{slice_get-map, slice_get_within}
use Rattle.std.specs.List.{list_any}
use Rattle.std.specs.Option.{option_map_or}
use Rattle.std.specs.Prelude.{slice_get}
use Rattle.decl_headers.specs.Headers.{class_count}
use Rattle.syntax_tree.specs.declared.class.Class.{Class}
use Rattle.syntax_tree.specs.declared.class.Member.{Member}
use Rattle.syntax_tree.specs.declared.class.Member.TheVariants as member
use Rattle.syntax_tree.specs.declared.class.Program.{Program}
use Rattle.decl_reach.specs.declared.reach.Edge.{Edge}
use Rattle.decl_table.specs.declared.rows.MethodRow.{MethodRow}
use Rattle.decl_table.specs.declared.table.Table.{Table}
use Rattle.decl_reach.specs.Bodies.{own_marks, class_marks, override_edge, override_edges}
use Rattle.decl_reach.specs.Edges.{call_edges, without_forks}
use Rattle.decl_table.specs.Inherited.{members_in}
use Rattle.decl_table.specs.Overridden.{overridden_in}
use Rattle.decl_reach.proofs.Reaching.{leads, IsAfter}
use Rattle.decl_table.specs.Table.{headers_of, methods_of, overridden_by, is_forking}
use Rattle.lang_typed.specs.Plain.{PlainClass}
use Rattle.lang_typed.specs.Scope.{IsBelow, class_at, row_at}
use Rattle.body_assembly.specs.Assembled.{PlainBody}
use Rattle.decl_laws.proofs.Facts.{Facts, facts_of, named_is, over_is}
use Rattle.decl_laws.proofs.Stand.{rows_kept}
use Rattle.decl_laws.proofs.Granted.{TellsForking, granted}
use Rattle.sound_lemmas.specs.Accepted.{IsAccepted}
use Rattle.sound_lemmas.proofs.Lists.{some_same, and_then_there, map_there}
use Rattle.sound_lemmas.proofs.Signatures.{own_in, methods_in, all_methods, rows_many}
use Rattle.sound_bodies.proofs.table.Lineage.{P, class_there, class_is}
use Rattle.sound_bodies.proofs.table.Lineage.{parent_is as typed_parent}

-- an edge in one of two lists
any_first : {A : Type 0} (test : A → Bool) (xs ys : List A) → list_any test xs ≡ true → list_any test (xs ++ ys) ≡ true
any_first test xs ys h = list_any-append test xs ys ∙ ap (λ b. b || list_any test ys) h

any_later : {A : Type 0} (test : A → Bool) (xs ys : List A) → list_any test ys ≡ true → list_any test (xs ++ ys) ≡ true
any_later test xs ys h = list_any-append test xs ys ∙ by (list_any test xs) h
  where
    by : (b : Bool) → list_any test ys ≡ true → b || list_any test ys ≡ true
    by true h = refl
    by false h = h

-- from a method that is overridden to the one that overrides it
edge_there : (table : Table) (rows : List MethodRow) (i above : ℕ) (row : MethodRow) → slice_get rows i ≡ Some row → overridden_by table row.id ≡ Some above → leads (override_edges table rows) above row.id ≡ true
edge_there table [] i above row e over = cc
edge_there table (one ∷ rows) zero above row e over =
    any_first (λ edge. (edge.from == above) && (edge.to == row.id)) (override_edge table one) (override_edges table rows)
    (ap (λ (r : MethodRow). leads (override_edge table r) above row.id) (some_same e)
    ∙ ap (λ o. leads (option_map_or (λ above. record { from = above; to = row.id } ∷ []) o []) above row.id) over
    ∙ ap (λ b. (b && (row.id == row.id)) || false) (eq-eqb above above refl) ∙ ap (λ b. b || false) (eq-eqb row.id row.id refl))
edge_there table (one ∷ rows) (suc i) above row e over =
    any_later (λ edge. (edge.from == above) && (edge.to == row.id)) (override_edge table one) (override_edges table rows) (edge_there table rows i above row e over)

-- there are as many marks as methods
own_many : (m : Member) → length (own_marks m) ≡ length (own_in m)
own_many (member.Regions is_atomic names) = refl
own_many (member.Field field) = refl
own_many (member.Method method) = refl

members_many : (ms : List Member) → length (flat_map own_marks ms) ≡ length (methods_in ms)
members_many [] = refl
members_many (m ∷ ms) =
    let h = members_many ms in
    let own = own_many m in
    let left = length-append (own_marks m) (flat_map own_marks ms) in
    let right = length-append (own_in m) (methods_in ms) in
    omega (arith, h, own, left, right)

marks_many : (classes : List Class) → length (flat_map class_marks classes) ≡ length (all_methods classes)
marks_many [] = refl
marks_many (class ∷ classes) =
    let h = marks_many classes in
    let own = members_many class.members in
    let left = length-append (class_marks class) (flat_map class_marks classes) in
    let right = length-append (methods_in class.members) (all_methods classes) in
    omega (arith, h, own, left, right)

module _ (program : Program) (table : Table) (bodies : List PlainBody) (accepted : IsAccepted program table bodies)
  where
    facts : Facts table
    facts = facts_of program table accepted.rows

    -- the method that overrides another
    overriding : (other id : ℕ) → overridden_by table other ≡ Some id → (row : MethodRow) × (slice_get (methods_of table) other ≡ Some row)
    overriding other id over =
        let w = and_then_there (λ entry. entry) (slice_get table.overrides other) id over in
        let got = sym (slice_get-map (overridden_in table) (methods_of table) other) ∙ ap (λ os. slice_get os other) (sym (granted accepted.rows).overridden) ∙ w.1 in
        let r = map_there (overridden_in table) (slice_get (methods_of table) other) w.0 got in
        (r.0, r.1)

    -- what reaches an nd construct reaches it through the one that it overrides too
    fork_up : (other id : ℕ) → overridden_by table other ≡ Some id → is_forking table other ≡ true → is_forking table id ≡ true
    fork_up other id over forks = (reached.each id).1 (IsAfter.before id other within edge ((reached.each other).0 forks))
      where
        reached : TellsForking program.classes table
        reached = (granted accepted.rows).reached

        row : (row : MethodRow) × (slice_get (methods_of table) other ≡ Some row)
        row = overriding other id over

        number : row.0.id ≡ other
        number = facts.numbered other row.0 row.1

        within : id < length (flat_map class_marks program.classes)
        within =
            let o = over_is table facts other id row.0 row.1 over in
            let m = named_is table facts o.0 row.0.name id o.2 in
            let l = slice_get_within (methods_of table) id m.3.row m.3.there in
            omega (arith, l, marks_many program.classes, rows_many program table (granted accepted.rows).read)

        edge : leads (call_edges (without_forks table) 0 0 program.classes ++ override_edges table (methods_of table)) id other ≡ true
        edge =
            any_later (λ (edge : Edge). (edge.from == id) && (edge.to == other)) (call_edges (without_forks table) 0 0 program.classes) (override_edges table (methods_of table))
            (subst (λ k. leads (override_edges table (methods_of table)) id k ≡ true) number (edge_there table (methods_of table) other id row.0 row.1 (ap (overridden_by table) number ∙ over)))

    pub row_there : (c r n : ℕ) → c < class_count (headers_of table) → slice_get (members_in table c) r ≡ Some n → row_at (P program table bodies accepted) c r ≡ Some n
    row_there c r n l e = ap (option_and_then (λ (class : PlainClass). slice_get class.rows r)) (class_there program table bodies accepted c l) ∙ e

    row_is : (c r n : ℕ) → row_at (P program table bodies accepted) c r ≡ Some n → slice_get (members_in table c) r ≡ Some n
    row_is c r n e =
        let w = and_then_there (λ (class : PlainClass). slice_get class.rows r) (class_at (P program table bodies accepted) c) n e in
        let k = class_is program table bodies accepted c w.0 w.1 in
        ap (λ (class : PlainClass). slice_get class.rows r) k.1 ∙ w.2

    nd_free_below : {d class : ℕ} (r id : ℕ) → IsBelow (P program table bodies accepted) d class → row_at (P program table bodies accepted) class r ≡ Some id → is_forking table id ≡ false →
        (m : ℕ) × (row_at (P program table bodies accepted) d r ≡ Some m) × (is_forking table m ≡ false)
    nd_free_below r id IsBelow.same e nd_free = (id, e, nd_free)
    nd_free_below {d} r id (IsBelow.below {p = p} up b) e nd_free = by (nd_free_below r id b e nd_free)
      where
        by : (w : (m : ℕ) × (row_at (P program table bodies accepted) p.class r ≡ Some m) × (is_forking table m ≡ false)) → (m : ℕ) × (row_at (P program table bodies accepted) d r ≡ Some m) × (is_forking table m ≡ false)
        by w =
            let is = typed_parent program table bodies accepted d p up in
            let kept = rows_kept program table accepted.rows d p.class r w.0 is.1 (row_is p.class r w.0 w.1) in
            (kept.0, row_there d r kept.0 is.0 kept.1, elim kept.2 [ inl same ↦ ap (is_forking table) same ∙ w.2 | inr over ↦ stays kept.0 over (is_forking table kept.0) refl ])
          where
            stays : (other : ℕ) → overridden_by table other ≡ Some w.0 → (b : Bool) → is_forking table other ≡ b → is_forking table other ≡ false
            stays other over false is = is
            stays other over true is = let both = fork_up other w.0 over is in let no = w.2 in cc

    pub stays_nd_free : (d class r id m : ℕ) → IsBelow (P program table bodies accepted) d class → row_at (P program table bodies accepted) class r ≡ Some id → is_forking table id ≡ false →
        row_at (P program table bodies accepted) d r ≡ Some m → IsTrue (not (is_forking table m))
    stays_nd_free d class r id m b e nd_free there =
        let w = nd_free_below r id b e nd_free in
        ap not (ap (is_forking table) (some_same (sym there ∙ w.1)) ∙ w.2)
