-- Each class of an accepted program is what its text means.
use Rattle.std.proofs.Common.{◌≡◌, ◌∙◌, ℕ, suc, zero, ◌+◌, ◌==◌, true, List, [], ◌∷◌, ◌++◌, map, length, flat_map, filter_map, inl, inr, Option, None, Some, option_map, option_and_then, refl, sym, ap, subst, arith}
use Rattle.std.proofs.lemmas.Bool.{eqb-true}
use Rattle.std.proofs.lemmas.List.{append-nil, length-map, map-append}
use Rattle.std.proofs.lemmas.Option.{none-some, slice_get_within}
use Rattle.std.specs.List.{AllZip, filter}
use Rattle.std.specs.Option.{option_map_or}
use Rattle.std.specs.Prelude.{slice_get, unwrap_or, is_none}
use Rattle.lang_base.specs.declared.effect.Constraint.{Constraint}
use Rattle.lang_base.specs.declared.refusal.Kind.TheVariants as kind
use Rattle.lang_base.specs.declared.region.Rpl.{Rpl}
use Rattle.lang_base.specs.declared.ty.Super.{Super}
use Rattle.lang_base.specs.Types.{plain_type}
use Rattle.lang_base.specs.Types.{PlainType as ty}
use Rattle.syntax_tree.specs.declared.class.Class.{Class}
use Rattle.syntax_tree.specs.declared.class.Member.TheVariants as member
use Rattle.syntax_tree.specs.declared.class.Parent.{Parent}
use Rattle.syntax_tree.specs.declared.class.Program.{Program}
use Rattle.syntax_tree.specs.declared.region.ParamTree.{ParamTree}
use Rattle.syntax_tree.specs.Nd.{program_uses_nd}
use Rattle.syntax_means.specs.Declares.{ClassNamed, all_methods}
use Rattle.syntax_means.specs.Declares.{inherited_fields as inherited_many}
use Rattle.syntax_means.specs.Means.{ClassMeans, ConstructorMeans, ConstraintMeans, ParentMeans, in_class, rows_above, with_methods}
use Rattle.syntax_means.specs.Means.ParentMeans.{no_parent, a_parent}
use Rattle.syntax_means.specs.Paths.{ArgsMean}
use Rattle.decl_headers.specs.declared.faults.Order.TheVariants as order
use Rattle.decl_headers.specs.declared.header.Headers.{Headers}
use Rattle.decl_headers.specs.declared.header.ParamRow.{ParamRow}
use Rattle.decl_headers.specs.Faults.{none_by}
use Rattle.decl_headers.specs.First.{class_named, first_faults}
use Rattle.decl_headers.specs.Gathered.{param_row, headers_in}
use Rattle.decl_headers.specs.Headers.{parent_of, parents_of}
use Rattle.decl_headers.specs.Numbers.{as_number}
use Rattle.decl_headers.specs.Passes.{fault_if, named_parent, second_classes, unknown_parent, unknown_parents}
use Rattle.decl_headers.specs.Rounds.{entry_of}
use Rattle.decl_headers.proofs.Gathered.{parents_gathered}
use Rattle.decl_resolve.specs.Args.{args_faults, is_unfit}
use Rattle.decl_resolve.specs.Classes.{params_in}
use Rattle.decl_resolve.specs.Index.{no_index}
use Rattle.decl_resolve.specs.Reading.{arg_faults, arg_need, args_read, path_meant}
use Rattle.decl_resolve.specs.Scopes.{PlainScope}
use Rattle.decl_table.specs.declared.rows.MethodRow.{MethodRow}
use Rattle.decl_table.specs.declared.table.Table.{Table}
use Rattle.decl_table.specs.Inherited.{field_with, fields_in}
use Rattle.decl_table.specs.Places.{by_place, is_super_of, super_place}
use Rattle.decl_table.specs.Plain.{PlainField, PlainSuper, plain_super}
use Rattle.decl_table.specs.Table.{headers_of, supers_of, constructor_of, parent_args_of, parent_type_of, class_paths}
use Rattle.decl_classes.specs.Around.{class_scope}
use Rattle.decl_classes.specs.Build.{text_faults}
use Rattle.decl_classes.specs.Rows.{all_constraint_faults, class_faults, fields_from, fields_meant, first_slot, member_faults, super_faults}
use Rattle.decl_classes.specs.Signatures.{constraints_meant, constraints_faults, parent_args, parent_arg_faults, parent_faults, fit_faults}
use Rattle.decl_laws.proofs.Facts.{parent_is}
use Rattle.decl_laws.proofs.Granted.{IsReadOf, granted}
use Rattle.lang_typed.specs.Plain.{PlainProgram, PlainClass, PlainParent}
use Rattle.lang_typed.specs.Scope.{class_at}
use Rattle.body_assembly.specs.Assembled.{PlainBody, class_of, field_of, parent_at}
use Rattle.syntax_grammar.specs.Written.{IsWritten}
use Rattle.sound_lemmas.specs.Accepted.{IsAccepted}
use Rattle.sound_lemmas.proofs.Free.{append_none, fault_none, joined_free, none_reported}
use Rattle.sound_lemmas.proofs.Known.{args_known, given_known}
use Rattle.sound_lemmas.proofs.Lists.{some_same, and_then_there, map_there, got_mapped}
use Rattle.sound_decls.proofs.table.Above.{class_there, upper_there}
use Rattle.sound_decls.proofs.classes.Classes.{ClassText, class_text, class_small, member_small, none_wrong, plain_number, short_type}
use Rattle.sound_decls.proofs.table.Finding.{supers_few}
use Rattle.sound_decls.proofs.table.Supers.{last_there, parent_type}
use Rattle.sound_decls.proofs.table.Text.{class_constraints, super_text}
use Rattle.sound_bodies.specs.Whole.{made_of}
use Rattle.sound_bodies.proofs.table.Sizes.{inherited_fields, fields_step}
use Rattle.sound_bodies.proofs.table.Slots.{own_fields as fields_own}
use Rattle.sound_means.proofs.Around.{KnowsPaths}
use Rattle.sound_means.proofs.Finding.{constructor_found, headers_tell, no_constructor, parent_found}
use Rattle.sound_means.proofs.Rows.{rows_are}
use Rattle.sound_means.proofs.Scopes.{rows_atomic, Signed, signed_known}
use Rattle.sound_means.proofs.Signatures.{ShortFields, constraints_mean, fields_mean}
use Rattle.sound_means.proofs.Written.{args_here}

-- the constraints of a class have no faults, where none has
constraint_free : (headers : Headers) (at : ℕ) (classes : List Class) (i : ℕ) (class : Class) → slice_get classes i ≡ Some class → all_constraint_faults headers at classes ≡ [] →
    constraints_faults (class_scope headers [] (as_number (at + i))) class.params.given ≡ []
constraint_free headers at [] i class e free = cc
constraint_free headers at (one ∷ classes) zero class e free =
    let here : at + 0 ≡ at = omega arith in
    ap (λ k. constraints_faults (class_scope headers [] (as_number k)) class.params.given) here ∙ ap (λ (k : Class). constraints_faults (class_scope headers [] (as_number at)) k.params.given) (sym (some_same e))
    ∙ (append_none (constraints_faults (class_scope headers [] (as_number at)) one.params.given) (all_constraint_faults headers (at + 1) classes) free).0
constraint_free headers at (one ∷ classes) (suc i) class e free =
    let next : at + suc i ≡ at + 1 + i = omega arith in
    ap (λ k. constraints_faults (class_scope headers [] (as_number k)) class.params.given) next
    ∙ constraint_free headers (at + 1) classes i class e (append_none (constraints_faults (class_scope headers [] (as_number at)) one.params.given) (all_constraint_faults headers (at + 1) classes) free).1

-- a superclass that is written is there, where none is unknown
parent_known : (named : ℕ → Option ℕ) (classes : List Class) (i : ℕ) (class : Class) → slice_get classes i ≡ Some class → unknown_parents named classes ≡ [] → unknown_parent named class ≡ []
parent_known named [] i class e free = cc
parent_known named (one ∷ classes) zero class e free = ap (unknown_parent named) (sym (some_same e)) ∙ (append_none (unknown_parent named one) (unknown_parents named classes) free).0
parent_known named (one ∷ classes) (suc i) class e free = parent_known named classes i class e (append_none (unknown_parent named one) (unknown_parents named classes) free).1

none_extends : (named : ℕ → Option ℕ) (class : Class) → unknown_parent named class ≡ [] → named_parent named class ≡ None → class.parent ≡ None
none_extends named class free none = by class.parent free none
  where
    by : (o : Option Parent) → option_map_or (λ (parent : Parent). fault_if (is_none (named parent.name.name)) kind.Unknown parent.name.place) o [] ≡ [] → option_and_then (λ (parent : Parent). named parent.name.name) o ≡ None → o ≡ None
    by None free none = refl
    by (Some parent) free none =
        let some = fault_none (is_none (named parent.name.name)) kind.Unknown parent.name.place free in
        let nothing : is_none (named parent.name.name) ≡ true = ap is_none none in
        cc (some, nothing)

module _ (program : Program) (table : Table) (bodies : List PlainBody) (written : IsWritten program) (accepted : IsAccepted program table bodies)
  where
    abbrev P : PlainProgram
    P = made_of program table bodies

    abbrev headers : Headers
    headers = headers_of table

    read : IsReadOf program.classes table
    read = (granted accepted.rows).read

    -- the superclass that is written, with its region arguments
    record Extends (c above : ℕ) : Type 0 where
      class : Class
      stands : slice_get program.classes c ≡ Some class
      tree : Parent
      extends : class.parent ≡ Some tree
      args : parent_args_of table c ≡ unwrap_or (parent_args (class_scope headers table.given c) tree above) []

    extends_at : (c above : ℕ) → parent_of headers c ≡ Some above → Extends c above
    extends_at c above up =
        let p = parent_type program table bodies accepted c above up in
        let t = map_there plain_type (parent_type_of table c) (ty.class above (parent_args_of table c)) p in
        let r = map_there (λ (row : Super). row.parent) (option_and_then (λ place. slice_get (supers_of table) place) (super_place (supers_of table) c)) t.0 t.1 in
        let q = and_then_there (λ place. slice_get (supers_of table) place) (super_place (supers_of table) c) r.0 r.1 in
        elim (last_there (is_super_of c) by_place 0 None (supers_of table) q.0 q.1) [
          | inl none ↦ absurd (none-some q.0 none)
          | inr w ↦ of q.0 r.0 q.2 w.0 w.1 w.2 (eqb-true w.1.class c w.3) w.4 (ap plain_type r.2 ∙ t.2)
        ]
      where
        of : (place : ℕ) (row : Super) → slice_get (supers_of table) place ≡ Some row → (i : ℕ) (one : Super) → slice_get (supers_of table) i ≡ Some one → one.class ≡ c → as_number (0 + i) ≡ place → plain_type row.parent ≡ ty.class above (parent_args_of table c) → Extends c above
        of place row e i one d own at says =
            let l = slice_get_within (supers_of table) i one d in
            let rows = supers_few headers table.given 0 program.classes in
            let many = sym (length-map (supers_of table) plain_super) ∙ ap length read.supers in
            let few = accepted.rows.counted.0 in
            let here : i ≡ place = omega (arith, at, l, rows, many, few) in
            let same : one ≡ row = some_same (sym d ∙ ap (slice_get (supers_of table)) here ∙ e) in
            let w = super_text headers table.given 0 program.classes place (plain_super row) (ap (λ z. slice_get z place) (sym read.supers) ∙ got_mapped plain_super (supers_of table) place row e) in
            let m = slice_get_within program.classes w.number w.class w.stands in
            let number : as_number (0 + w.number) ≡ w.number = omega (arith, m, few) in
            let is_c : w.number ≡ c = sym number ∙ sym (ap (λ (z : PlainSuper). z.class) w.read.is) ∙ ap (λ (z : Super). z.class) (sym same) ∙ own in
            let above_is : w.read.above ≡ above = some_same (sym w.read.parent ∙ ap (parent_of headers) (number ∙ is_c) ∙ up) in
            record {
              class = w.class;
              stands = subst (λ k. slice_get program.classes k ≡ Some w.class) is_c w.stands;
              tree = w.read.tree;
              extends = w.read.extends;
              args =
                  sym (ap class_paths says) ∙ ap (λ (z : PlainSuper). class_paths z.parent) w.read.is
                  ∙ ap (λ k. unwrap_or (parent_args (class_scope headers table.given k) w.read.tree w.read.above) []) (number ∙ is_c)
                  ∙ ap (λ k. unwrap_or (parent_args (class_scope headers table.given c) w.read.tree k) []) above_is;
            }

    -- its region arguments are known
    args_there : (scope : PlainScope) (tree : Parent) (above : ℕ) → parent_faults scope tree above ≡ [] → (args : List Rpl) × (parent_args scope tree above ≡ Some args)
    args_there scope tree above free =
        let params = params_in scope.headers above in
        let f = append_none (parent_arg_faults scope tree.args above) (fit_faults scope (args_read scope no_index tree.args) tree above) free in
        let parts = joined_free (arg_faults scope no_index params true tree.args) f.0 in
        let g = append_none (args_faults (args_read scope no_index tree.args).local (length tree.args) params tree.name.place) _ f.1 in
        let l = append_none _ (fault_if (is_unfit (length tree.args) params) kind.RegionArgs tree.name.place) g.0 in
        let fit = fault_none (is_unfit (length tree.args) params) kind.RegionArgs tree.name.place l.1 in
        given_known (length tree.args) (filter_map (path_meant scope no_index) tree.args) params (args_known scope no_index (arg_need params true (length tree.args)) 0 tree.args parts) fit

    module _ (c : ℕ) (class : Class) (k : PlainClass) (stands : slice_get program.classes c ≡ Some class) (e : class_at P c ≡ Some k)
      where
        t : ClassText program table bodies written accepted (program_uses_nd program) c k
        t = class_text program table bodies written accepted (program_uses_nd program) c k e

        same : t.class ≡ class
        same = some_same (sym t.stands ∙ stands)

        plain : 0 + c ≡ c
        plain = omega arith

        declared : params_in headers c ≡ map param_row class.params.list
        declared = t.declared ∙ ap (λ (z : Class). map param_row z.params.list) same

        signed : (all : List (List Constraint)) → Signed (class_scope headers all c) class.params.list []
        signed all = record {
          class_params = declared;
          own_params = refl;
          few = (let small = class_small program table bodies written accepted (program_uses_nd program) c k t in let long = ap (λ (z : Class). length z.params.list) same in omega (arith, small, long));
          regions = refl;
          barred = λ name slot h. none-some (Some slot) h;
        }

        knows : (all : List (List Constraint)) → KnowsPaths (in_class program P c class) (class_scope headers all c)
        knows all =
            signed_known (class_scope headers all c) class.params.list [] (signed all) (in_class program P c class)
            (headers_tell program table bodies written accepted) refl (sym (append-nil (map (λ (param : ParamTree). param.name) class.params.list))) refl

        -- constraints
        constraints_free : constraints_faults (class_scope headers [] c) class.params.given ≡ []
        constraints_free =
            let all = none_reported (none_by order.Place) (text_faults headers program.classes) read.free in
            let w = append_none (all_constraint_faults headers 0 program.classes) _ all in
            let number = plain_number program table bodies written accepted (program_uses_nd program) c t.within in
            ap (λ z. constraints_faults (class_scope headers [] z) class.params.given) (sym number) ∙ constraint_free headers 0 program.classes c class stands w.0

        given_is : k.given ≡ constraints_meant (class_scope headers [] c) class.params.given
        given_is =
            let number = plain_number program table bodies written accepted (program_uses_nd program) c t.within in
            let listed : slice_get table.given c ≡ Some (constraints_meant (class_scope headers [] c) class.params.given) =
            ap (λ z. slice_get z c) read.given ∙ class_constraints headers 0 program.classes c class stands ∙ ap (λ z. Some (constraints_meant (class_scope headers [] z) class.params.given)) number in
            t.given ∙ ap (λ o. option_map_or (λ (given : List Constraint). given) o []) listed

        -- nothing is wrong in its signatures
        free : class_faults (class_scope headers table.given c) class ≡ []
        free = ap (class_faults (class_scope headers table.given c)) (sym same) ∙ none_wrong program table bodies written accepted (program_uses_nd program) c k t

        members_free : flat_map (member_faults (class_scope headers table.given c)) class.members ≡ []
        members_free = (append_none (super_faults (class_scope headers table.given c) class) (flat_map (member_faults (class_scope headers table.given c)) class.members) free).1

        parent_is_made : k.parent ≡ parent_at table c
        parent_is_made = ap (λ (z : PlainClass). z.parent) t.is

        -- the superclass
        entry : parent_of headers c ≡ named_parent (class_named program.classes) class
        entry =
            parent_is table c ∙ ap (λ ps. entry_of ps c) (ap parents_of (granted accepted.rows).headers ∙ parents_gathered program.classes (headers_in program).rows _ refl)
            ∙ ap (option_and_then (λ (o : Option ℕ). o)) (got_mapped (named_parent (class_named program.classes)) program.classes c class stands)

        none_above : parent_of headers c ≡ None → class.parent ≡ None
        none_above none =
            let all = none_reported (none_by order.Place) (first_faults program.classes) (granted accepted.rows).first in
            let rest = append_none (second_classes [] program.classes) _ all in
            let unknown = append_none (unknown_parents (class_named program.classes) program.classes) _ rest.1 in
            none_extends (class_named program.classes) class (parent_known (class_named program.classes) program.classes c class stands unknown.0) (sym entry ∙ none)

        above_means : (above : ℕ) → parent_of headers c ≡ Some above → ParentMeans (in_class program P c class) class.parent (Some (record { class = above; args = parent_args_of table c }))
        above_means above up =
            let x = extends_at c above up in
            let scope = class_scope headers table.given c in
            let here : x.class ≡ class = some_same (sym x.stands ∙ stands) in
            let extends : class.parent ≡ Some x.tree = ap (λ (z : Class). z.parent) (sym here) ∙ x.extends in
            let faults : super_faults scope class ≡ [] = (append_none (super_faults scope class) (flat_map (member_faults scope) class.members) free).0 in
            let free_one : parent_faults scope x.tree above ≡ [] =
            sym (ap (λ o. option_map_or (parent_faults scope x.tree) o []) up) ∙ sym (ap (λ o. option_map_or (λ tree. option_map_or (parent_faults scope tree) (parent_of headers c) []) o []) extends) ∙ faults in
            let a = args_there scope x.tree above free_one in
            let args : parent_args_of table c ≡ a.0 = x.args ∙ ap (λ o. unwrap_or o []) a.1 in
            let f = parent_found program table bodies written accepted c above up in
            let tree : f.parent ≡ x.tree = some_same (sym f.extends ∙ ap (λ (z : Class). z.parent) (some_same (sym f.stands ∙ stands)) ∙ extends) in
            let l = upper_there program table bodies accepted c above up in
            let there = class_there program table bodies accepted above l in
            let text = class_text program table bodies written accepted (program_uses_nd program) above (class_of table above) there in
            subst (λ o. ParentMeans (in_class program P c class) o (Some (record { class = above; args = parent_args_of table c }))) (sym extends)
            (a_parent (record {
              class = class_of table above;
              named = subst (λ (z : Parent). ClassNamed program z.name.name above) tree f.named;
              is = there;
              given = subst (λ ps. ArgsMean (in_class program P c class) [] ps x.tree.args (parent_args_of table c)) (sym text.params)
                  (args_here (in_class program P c class) scope (knows table.given) (params_in headers above) x.tree.args (parent_args_of table c) (a.1 ∙ ap Some (sym args)));
            }))

        parent_means : ParentMeans (in_class program P c class) class.parent k.parent
        parent_means = subst (ParentMeans (in_class program P c class) class.parent) (sym parent_is_made) (by (parent_of headers c) refl)
          where
            by : (o : Option ℕ) → parent_of headers c ≡ o → ParentMeans (in_class program P c class) class.parent (option_map (λ above. record { class = above; args = parent_args_of table c }) o)
            by None up = subst (λ o. ParentMeans (in_class program P c class) o None) (sym (none_above up)) no_parent
            by (Some above) up = above_means above up

        -- the fields: those of the superclass, and its own
        abbrev inherited : List PlainField
        inherited = inherited_fields program table accepted.rows c

        abbrev own : List PlainField
        own = fields_from (class_scope headers table.given c) (first_slot headers c) class.members

        own_are : filter (λ (row : PlainField). row.owner == c) (fields_meant headers table.given 0 program.classes) ≡ own
        own_are =
            let few = accepted.rows.counted.0 in
            subst (λ z. filter (λ (row : PlainField). row.owner == z) (fields_meant headers table.given 0 program.classes) ≡ fields_from (class_scope headers table.given z) (first_slot headers z) class.members) plain
            (fields_own headers table.given 0 program.classes c class stands (omega (arith, few)))

        fields_are : k.fields ≡ map field_of inherited ++ map field_of own
        fields_are =
            ap (λ (z : PlainClass). z.fields) t.is ∙ ap (map field_of) (fields_step program table accepted.rows c ∙ ap (λ z. inherited ++ z) own_are) ∙ map-append field_of inherited own

        above_many : length (map field_of inherited) ≡ inherited_many P c
        above_many =
            length-map inherited field_of ∙ by (parent_of headers c) refl
            ∙ sym (ap (λ p. option_map_or (λ (p : PlainParent). option_map_or (λ (z : PlainClass). length z.fields) (class_at P p.class) 0) p 0) (ap (option_and_then (λ (z : PlainClass). z.parent)) e ∙ parent_is_made))
          where
            by : (o : Option ℕ) → parent_of headers c ≡ o → length (option_map_or (map (field_with (parent_args_of table c))) (option_map (fields_in table) o) []) ≡
                option_map_or (λ (p : PlainParent). option_map_or (λ (z : PlainClass). length z.fields) (class_at P p.class) 0) (option_map (λ above. record { class = above; args = parent_args_of table c }) o) 0
            by None up = refl
            by (Some above) up =
                let there = class_there program table bodies accepted above (upper_there program table bodies accepted c above up) in
                length-map (fields_in table above) (field_with (parent_args_of table c)) ∙ sym (length-map (fields_in table above) field_of)
                ∙ sym (ap (λ o. option_map_or (λ (z : PlainClass). length z.fields) o 0) there)

        short : ShortFields class.members
        short i field h =
            let small = member_small program table bodies written accepted (program_uses_nd program) c k t i (member.Field field) (ap (λ (z : Class). slice_get z.members i) same ∙ h) in
            short_type field.ty (omega (arith, small))

        constructor_means : ConstructorMeans program c k.constructor
        constructor_means = subst (ConstructorMeans program c) (sym (ap (λ (z : PlainClass). z.constructor) t.is)) (by (constructor_of table c) refl)
          where
            by : (o : Option MethodRow) → constructor_of table c ≡ o → ConstructorMeans program c (option_map (λ (row : MethodRow). row.id) o)
            by None is = λ n d. no_constructor program table bodies written accepted c n is d
            by (Some row) is = constructor_found program table bodies written accepted c row is

        pub class_means : ClassMeans program P c class k
        class_means = record {
          params = t.params ∙ ap (map (λ (param : ParamRow). param.atomic)) declared ∙ rows_atomic class.params.list;
          given = subst (AllZip (ConstraintMeans (in_class program P c class)) class.params.given) (sym given_is)
              (constraints_mean (in_class program P c class) (class_scope headers [] c) (knows []) class.params.given constraints_free);
          parent = parent_means;
          above = map field_of inherited;
          own = map field_of own;
          fields = fields_are;
          inherited = above_many;
          declared = fields_mean (in_class program P c class) (class_scope headers table.given c) (knows table.given) (first_slot headers c) class.members short members_free;
          rows =
              ap (λ (z : PlainClass). z.rows) t.is ∙ rows_are program table bodies accepted c
              ∙ ap (λ p. with_methods program c 0 (all_methods program) (rows_above P p)) (sym parent_is_made);
          constructor = constructor_means;
        }
