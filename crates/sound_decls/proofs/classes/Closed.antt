-- Constructors: each is its class's own, as it should be, and a class that is extended has none.
use Rattle.std.proofs.Common.{◌≡◌, ◌∙◌, inl, inr, ℕ, zero, suc, ◌<◌, ◌==◌, Bool, true, false, List, [], ◌∷◌, map, length, Option, Some, None, refl, ap, sym, subst, arith}
use Rattle.std.proofs.lemmas.Bool.Decides.{Decides-eqb}
use Rattle.std.proofs.lemmas.List.Folds.{list_any_at}
use Rattle.std.proofs.lemmas.Option.{get_or_from_slice_get, slice_get_within}
use Rattle.std.specs.Option.{option_map}
use Rattle.std.specs.Prelude.{slice_get, slice_index_or}
use Rattle.lang_base.specs.declared.refusal.Kind.TheVariants as kind
use Rattle.decl_headers.specs.declared.faults.Order.TheVariants as order
use Rattle.decl_headers.specs.Faults.{none_by}
use Rattle.decl_headers.specs.First.{class_named, first_faults, parents_in}
use Rattle.decl_headers.specs.Headers.{parent_of}
use Rattle.decl_headers.specs.Passes.{closed_parents, cycles, extends_place, fault_if, has_constructor, is_among, is_constructor, second_classes, unknown_parents}
use Rattle.decl_headers.specs.Rounds.{entry_of, is_round}
use Rattle.decl_headers.proofs.Second.{length_parents}
use Rattle.syntax_tree.specs.declared.class.Class.{Class}
use Rattle.syntax_tree.specs.declared.class.Member.TheVariants as member
use Rattle.syntax_tree.specs.declared.class.Program.{Program}
use Rattle.syntax_tree.specs.Nd.{program_uses_nd}
use Rattle.lang_typed.specs.Table.{IsConstructor}
use Rattle.decl_table.specs.declared.rows.MethodRow.{MethodRow}
use Rattle.decl_table.specs.declared.table.Table.{Table}
use Rattle.decl_table.specs.Places.{by_id, constructor_number, is_constructor_of}
use Rattle.decl_table.specs.Plain.{PlainMethod}
use Rattle.decl_table.specs.Table.{headers_of, methods_of, numbered, constructor_of}
use Rattle.decl_laws.proofs.Granted.{granted}
use Rattle.body_assembly.specs.Assembled.{PlainBody, member_of}
use Rattle.sound_lemmas.specs.Accepted.{IsAccepted}
use Rattle.sound_lemmas.proofs.Assembled.{facts, has_member}
use Rattle.sound_lemmas.proofs.Free.{append_none, fault_none, none_reported, and_split}
use Rattle.sound_lemmas.proofs.Lists.{some_same, and_then_there, map_there, got_mapped}
use Rattle.syntax_grammar.specs.Written.{IsWritten}
use Rattle.sound_decls.proofs.table.Above.{P}
use Rattle.sound_decls.proofs.table.ClassesAndMethods.{comes, constructs}
use Rattle.sound_decls.proofs.table.Supers.{last_there, parent_entry}

-- without a fault no class extends one of those that are closed
open_parent : (closed : List Bool) (classes : List Class) (parents : List (Option ℕ)) (at above : ℕ) → closed_parents closed classes parents ≡ [] → at < length classes → entry_of parents at ≡ Some above →
    slice_index_or closed above false ≡ false
open_parent closed [] parents at above free l e = absurd (omega (arith, l))
open_parent closed (class ∷ classes) [] at above free l e = cc
open_parent closed (class ∷ classes) (parent ∷ parents) zero above free l e =
    let w = append_none (fault_if (is_among closed parent) kind.Override (extends_place class)) (closed_parents closed classes parents) free in
    ap (is_among closed) (sym e) ∙ fault_none (is_among closed parent) kind.Override (extends_place class) w.0
open_parent closed (class ∷ classes) (parent ∷ parents) (suc at) above free l e =
    open_parent closed classes parents at above (append_none (fault_if (is_among closed parent) kind.Override (extends_place class)) (closed_parents closed classes parents) free).1 (omega (arith, l)) e

module _ (program : Program) (table : Table) (bodies : List PlainBody) (written : IsWritten program) (accepted : IsAccepted program table bodies)
  where
    -- the row of the constructor of a class
    record Row (at : ℕ) (row : MethodRow) : Type 0 where
      stands : slice_get (methods_of table) row.id ≡ Some row
      is : row.is_constructor ≡ true
      owner : row.owner ≡ at

    row_there : (at : ℕ) (row : MethodRow) → constructor_of table at ≡ Some row → Row at row
    row_there at row e =
        let w = and_then_there (numbered table) (constructor_number (methods_of table) at) row e in
        elim (last_there (is_constructor_of at) by_id 0 None (methods_of table) w.0 w.1) [
          | inl none ↦ absurd (cc (none))
          | inr f ↦
              let f_numbered = (facts program table bodies accepted program.names (program_uses_nd program)).numbered f.0 f.1 f.2 in
              let same : f.1 ≡ row = some_same (sym f.2 ∙ ap (slice_get (methods_of table)) (sym f_numbered ∙ f.4) ∙ w.2) in
              let tests = and_split f.1.is_constructor (f.1.owner == at) f.3 in
              subst (Row at) same (record { stands = ap (slice_get (methods_of table)) f_numbered ∙ f.2; is = tests.0; owner = (Decides-eqb f.1.owner at).0 tests.1 })
        ]

    pub constructor_is : (c n : ℕ) → option_map (λ (row : MethodRow). row.id) (constructor_of table c) ≡ Some n → IsConstructor (P program table bodies accepted) c n
    constructor_is c n e =
        let r = map_there (λ (row : MethodRow). row.id) (constructor_of table c) n e in
        let w = row_there c r.0 r.1 in
        let m = has_member program table bodies accepted program.names (program_uses_nd program) r.0.id r.0 w.stands in
        let k = constructs program table bodies written accepted r.0.id r.0 w.stands w.is in
        record {
          member = member_of r.0 m.0;
          is = ap (slice_get (P program table bodies accepted).members) (sym r.2) ∙ m.2;
          own = w.owner;
          params = ap (map (λ param. param.atomic)) k.regions;
          given = k.given;
          result = k.result;
        }

    closed_free : closed_parents (map has_constructor program.classes) program.classes (parents_in program.classes) ≡ []
    closed_free =
        let classes = program.classes in
        let none = none_reported (none_by order.Place) (first_faults classes) (granted accepted.rows).first in
        let a = append_none (second_classes [] classes) _ none in
        let b = append_none (unknown_parents (class_named classes) classes) _ a.1 in
        (append_none (cycles (is_round (parents_in classes)) 0 classes) _ b.1).1

    -- the constructor of a class is declared in its text
    declared_there : (at : ℕ) (row : MethodRow) → constructor_of table at ≡ Some row → slice_index_or (map has_constructor program.classes) at false ≡ true
    declared_there at row e =
        let r = row_there at row e in
        let w = comes program table bodies written accepted row.id row r.stands in
        let place = slice_get_within program.classes w.place w.class w.stands in
        let counted = accepted.rows.counted.0 in
        let owner = w.owner in
        let own = r.owner in
        let here : w.place ≡ at = omega (arith, place, counted, owner, own) in
        let has : has_constructor w.class ≡ true =
        list_any_at is_constructor w.class.members w.spot (member.Method w.method) (slice_get_within w.class.members w.spot (member.Method w.method) w.declared)
        (ap is_constructor (get_or_from_slice_get w.class.members w.spot (member.Method w.method) (member.Method w.method) w.declared)
        ∙ sym (ap (λ (m : PlainMethod). m.is_constructor) w.is) ∙ r.is) in
        get_or_from_slice_get (map has_constructor program.classes) at true false
        (ap (slice_get (map has_constructor program.classes)) (sym here) ∙ got_mapped has_constructor program.classes w.place w.class w.stands ∙ ap Some has)

    pub extended_open : (c above : ℕ) → parent_of (headers_of table) c ≡ Some above → constructor_of table above ≡ None
    extended_open c above is = by (constructor_of table above) refl
      where
        entry : entry_of (parents_in program.classes) c ≡ Some above
        entry = sym (parent_entry program table bodies accepted c) ∙ is

        within : c < length program.classes
        within =
            let w = and_then_there (λ entry. entry) (slice_get (parents_in program.classes) c) above entry in
            let l = slice_get_within (parents_in program.classes) c w.0 w.1 in
            omega (arith, l, length_parents program.classes)

        by : (o : Option MethodRow) → constructor_of table above ≡ o → o ≡ None
        by None e = refl
        by (Some row) e =
            let not_so = open_parent (map has_constructor program.classes) program.classes (parents_in program.classes) c above closed_free within entry in
            let so = declared_there above row e in
            cc (so, not_so)
