-- Classes of an accepted program: their constraints, superclasses and fields are well formed.
use Rattle.std.proofs.Common.{◌≡◌, ◌∙◌, ℕ, zero, suc, ◌+◌, ◌<◌, ◌≤◌, ◌==◌, Bool, true, List, [], ◌∷◌, All, map, length, get_or, flat_map, sum_by, slice_get, Option, Some, None, option_map, option_and_then, refl, sym, ap, subst, arith}
use Rattle.std.proofs.lemmas.Bool.{eqb-true}
use Rattle.std.proofs.lemmas.List.{length-map, append-nil}
use Rattle.std.proofs.lemmas.List.Elements.{All-nil, All-append, All-weaker, All-map, All-filter, filter_passes}
use Rattle.std.proofs.lemmas.List.Sums.{sum_by-cons}
use Rattle.std.proofs.lemmas.Option.{none-some, slice_get-get_or, slice_get-map, slice_get_within}
use Rattle.std.specs.List.{filter}
use Rattle.std.specs.Option.{option_map_or}
use Rattle.std.specs.Prelude.{unwrap_or}
use Rattle.lang_base.specs.declared.effect.Constraint.{Constraint}
use Rattle.lang_base.specs.declared.elems.Elem.{Elem}
use Rattle.lang_base.specs.declared.elems.Elem.TheVariants.{Name, At, Any, Star, Local}
use Rattle.lang_base.specs.declared.elems.Index.TheVariants.{Literal, Variable, Renamed, Own}
use Rattle.lang_base.specs.declared.region.Head.{Head}
use Rattle.lang_base.specs.declared.region.Head.TheVariants.{Root, Param}
use Rattle.lang_base.specs.declared.region.Rpl.{Rpl}
use Rattle.lang_base.specs.declared.ty.Super.{Super}
use Rattle.lang_base.specs.Types.{plain_type}
use Rattle.decl_headers.specs.declared.faults.Order.TheVariants as order
use Rattle.decl_headers.specs.declared.header.Header.{Header}
use Rattle.decl_headers.specs.declared.header.Headers.{Headers}
use Rattle.decl_headers.specs.declared.header.ParamRow.{ParamRow}
use Rattle.decl_headers.specs.Faults.{none_by}
use Rattle.decl_headers.specs.First.{parents_in, class_named}
use Rattle.decl_headers.specs.Gathered.{param_row, object_fields, headers_in}
use Rattle.decl_headers.specs.Headers.{class_of as class_name}
use Rattle.decl_headers.specs.Headers.{header_of, parent_of, parents_of, class_count}
use Rattle.decl_headers.specs.Inheriting.{made_up}
use Rattle.decl_headers.specs.Numbers.{as_number}
use Rattle.decl_headers.specs.Passes.{named_parent}
use Rattle.decl_headers.specs.Rounds.{entry_of}
use Rattle.decl_headers.proofs.Gathered.{length_rows, parents_gathered}
use Rattle.syntax_tree.specs.declared.class.Class.{Class}
use Rattle.syntax_tree.specs.declared.class.Member.{Member}
use Rattle.syntax_tree.specs.declared.class.Member.TheVariants as member
use Rattle.syntax_tree.specs.declared.class.Parent.{Parent}
use Rattle.syntax_tree.specs.declared.class.Program.{Program}
use Rattle.syntax_tree.specs.declared.region.TypeTree.{TypeTree}
use Rattle.syntax_tree.specs.declared.region.Suffix.{Suffix}
use Rattle.syntax_tree.specs.Size.{class_size, member_size, suffix_size, type_size}
use Rattle.decl_resolve.specs.Classes.{params_in, constraints_in}
use Rattle.decl_resolve.specs.Scopes.{PlainScope}
use Rattle.decl_table.specs.declared.rows.FieldRow.{FieldRow}
use Rattle.decl_table.specs.declared.table.Table.{Table}
use Rattle.decl_classes.specs.Build.{text_faults}
use Rattle.decl_table.specs.Inherited.{declared_fields, fields_after, fields_in, members_in}
use Rattle.decl_table.specs.Inherited.{field_with as plain_with}
use Rattle.decl_table.specs.Plain.{PlainField, plain_field, plain_super, PlainSuper}
use Rattle.decl_classes.specs.Rows.{field_row, member_faults, class_faults, super_faults, all_constraint_faults, signature_faults}
use Rattle.decl_classes.specs.Signatures.{parent_args, parent_faults, parent_meant, constraints_meant, known_type_faults, field_region_faults}
use Rattle.decl_table.specs.Table.{headers_of, fields_of, supers_of, class_paths, parent_args_of}
use Rattle.decl_classes.specs.Around.{class_scope as text_scope}
use Rattle.lang_typed.specs.Plain.{PlainProgram, PlainClass, PlainParent}
use Rattle.lang_typed.specs.Scope.{Scope, class_at}
use Rattle.lang_typed.specs.Table.{GoodConstraint, GoodField, class_scope}
use Rattle.lang_typed.specs.Types.{GoodElem, GoodHead, GoodPath, GoodArgs}
use Rattle.body_assembly.specs.Assembled.{PlainBody, field_of, class_from, class_of, program_of}
use Rattle.syntax_grammar.specs.Written.{IsWritten}
use Rattle.decl_laws.proofs.Facts.{Facts, parent_is}
use Rattle.decl_laws.proofs.Granted.{IsReadOf, granted}
use Rattle.sound_lemmas.specs.Accepted.{IsAccepted}
use Rattle.sound_lemmas.proofs.Assembled.{facts, number_is}
use Rattle.sound_lemmas.proofs.Free.{append_none, none_reported}
use Rattle.sound_lemmas.proofs.Lists.{some_same, and_then_there, map_there, there, got_mapped, made_there, made_is}
use Rattle.sound_decls.specs.Laws.{GoodParent}
use Rattle.sound_decls.proofs.written.Around.{Surrounds, surrounds_mean}
use Rattle.sound_decls.proofs.written.Carried.{path_put, full_put, type_put}
use Rattle.sound_decls.proofs.table.Finding.{class_within, HasRow, has_row, supers_few}
use Rattle.sound_decls.proofs.written.Paths.{Meaning}
use Rattle.sound_decls.proofs.written.Signs.{Short, constraints_good, known_good, region_good, parent_good}
use Rattle.sound_decls.proofs.table.Text.{counted_in, flat_free, class_header, class_constraints, class_free, field_text, super_text, super_there}
use Rattle.sound_decls.proofs.written.Types.{ClassesMean}

-- what is good in a scope is good in one with other constraints
elem_moved : (P : PlainProgram) (L M : Scope) → L.local ≡ M.local → (x : Elem) → GoodElem P L 0 x → GoodElem P M 0 x
elem_moved P L M same (Name n) h = h
elem_moved P L M same (At (Literal k)) h = tt
elem_moved P L M same (At (Variable x)) h = ap (λ f. f x) (sym same) ∙ h
elem_moved P L M same (At (Renamed x)) h = h
elem_moved P L M same (At (Own d)) h = h
elem_moved P L M same Any h = tt
elem_moved P L M same Star h = tt
elem_moved P L M same (Local r n) h = h

path_moved : (P : PlainProgram) (L M : Scope) → L.local ≡ M.local → L.atomic ≡ M.atomic → (a : Rpl) → GoodPath P L 0 a → GoodPath P M 0 a
path_moved P L M local atomic a h = record {
  begins = by a.head h.begins;
  elems = All-weaker (GoodElem P L 0) (GoodElem P M 0) (elem_moved P L M local) a.elems h.elems;
}
  where
    by : (b : Head) → GoodHead L b → GoodHead M b
    by Root g = tt
    by (Param p) g = subst (λ z. p < length z) atomic g

pub constraints_moved : (P : PlainProgram) (L M : Scope) → L.local ≡ M.local → L.atomic ≡ M.atomic → (gs : List Constraint) → All (GoodConstraint P L) gs → All (GoodConstraint P M) gs
constraints_moved P L M local atomic gs all = All-weaker (GoodConstraint P L) (GoodConstraint P M) (λ g h. (path_moved P L M local atomic g.left h.0, path_moved P L M local atomic g.right h.1)) gs all

-- a type has no more suffixes than nodes
suffixes_small : (suffixes : List Suffix) → length suffixes ≤ sum_by suffix_size suffixes
suffixes_small [] = omega arith
suffixes_small (suffix ∷ suffixes) = let l = suffixes_small suffixes in let all = sum_by-cons suffix_size suffix suffixes in omega (arith, l, all)

pub short_type : (tree : TypeTree) → type_size tree ≤ 4294967295 → Short tree
short_type tree small = let l = suffixes_small tree.suffixes in omega (arith, l, small)

module _ (program : Program) (table : Table) (bodies : List PlainBody) (written : IsWritten program) (accepted : IsAccepted program table bodies) (uses_nd : Bool)
  where
    abbrev pub P : PlainProgram
    P = program_of table program.names uses_nd bodies

    abbrev headers : Headers
    headers = headers_of table

    known : Facts table
    known = facts program table bodies accepted program.names uses_nd

    read : IsReadOf program.classes table
    read = (granted accepted.rows).read

    headers_are : headers ≡ headers_in program
    headers_are = (granted accepted.rows).headers

    -- no signature has a fault
    found : (all_constraint_faults headers 0 program.classes ≡ []) × (signature_faults headers table.given 0 program.classes ≡ [])
    found =
        let all = none_reported (none_by order.Place) (text_faults headers program.classes) read.free in
        let w = append_none (all_constraint_faults headers 0 program.classes) _ all in
        (w.0, subst (λ given. signature_faults headers given 0 program.classes ≡ []) (sym read.given) w.1)

    many : class_count headers ≡ length program.classes
    many = ap class_count headers_are ∙ length_rows (parents_in program.classes) (object_fields program.classes (parents_in program.classes)) 0 program.classes

    few : length program.classes < 4294967295
    few = accepted.rows.counted.0

    pub plain_number : (n : ℕ) → n < length program.classes → as_number (0 + n) ≡ n
    plain_number n l = omega (arith, l, few)

    -- a class of the program, and that of the text
    pub record ClassText (c : ℕ) (k : PlainClass) : Type 0 where
      pub class : Class
      pub stands : slice_get program.classes c ≡ Some class
      pub within : c < length program.classes
      pub is : k ≡ class_from table c (map field_of (fields_in table c)) (members_in table c)
      pub declared : params_in headers c ≡ map param_row class.params.list
      pub params : k.params ≡ map (λ (param : ParamRow). param.atomic) (params_in headers c)
      pub given : k.given ≡ constraints_in table.given c

    pub class_text : (c : ℕ) (k : PlainClass) → class_at P c ≡ Some k → ClassText c k
    class_text c k e =
        let w = made_is (class_of table) (class_count headers) c k e in
        let within : c < length program.classes = subst (λ n. c < n) many w.0 in
        let t = there program.classes c within in
        let is : k ≡ class_from table c (map field_of (fields_in table c)) (members_in table c) =
        sym w.1 ∙ ap (λ n. class_from table n (map field_of (fields_in table c)) (members_in table c)) (number_is program table bodies accepted program.names uses_nd c w.0) in
        record {
          class = t.0;
          stands = t.1;
          within = within;
          is = is;
          declared = ap (λ h. params_in h c) headers_are
              ∙ ap (λ o. option_map_or (λ (header : Header). header.params) o []) (class_header (parents_in program.classes) (object_fields program.classes (parents_in program.classes)) 0 program.classes c t.0 t.1);
          params = ap (λ (z : PlainClass). z.params) is ∙ by (header_of headers c);
          given = ap (λ (z : PlainClass). z.given) is;
        }
      where
        by : (o : Option Header) → option_map_or (λ (header : Header). map (λ (param : ParamRow). param.atomic) header.params) o [] ≡ map (λ (param : ParamRow). param.atomic) (option_map_or (λ (header : Header). header.params) o [])
        by None = refl
        by (Some header) = refl

    pub class_there : (c : ℕ) → c < length program.classes → class_at P c ≡ Some (class_of table c)
    class_there c l = made_there (class_of table) (class_count headers) c (subst (λ n. c < n) (sym many) l)

    -- the class of a name is one of the program
    pub named_mean : (scope : PlainScope) → scope.headers ≡ headers → scope.classes_given ≡ table.given → ClassesMean P scope
    named_mean scope headers_same given_same = record {
      classes = λ name at h.
          let l = class_within headers name at (sym (ap (λ z. class_name z name) headers_same) ∙ h) in
          let k = class_there at (subst (λ n. at < n) many l) in
          let t = class_text at (class_of table at) k in
          (class_of table at, k, t.params ∙ ap (λ z. map (λ (param : ParamRow). param.atomic) (params_in z at)) (sym headers_same), t.given ∙ ap (λ z. constraints_in z at) (sym given_same));
    }

    -- a class is no larger than the program
    pub class_small : (c : ℕ) (k : PlainClass) (t : ClassText c k) → class_size t.class ≤ 4294967295
    class_small c k t = let l = counted_in class_size program.classes c t.class t.stands in let small = written.small in omega (arith, l, small)

    few_params : (c : ℕ) (k : PlainClass) (t : ClassText c k) → length (params_in headers c) + 0 ≤ 4294967295
    few_params c k t =
        let long = ap length t.declared ∙ length-map t.class.params.list param_row in
        let small = class_small c k t in
        omega (arith, long, small)

    -- the region parameters of a class alone are in scope around its signatures
    around_class : (c : ℕ) (k : PlainClass) (given : List Constraint) (all : List (List Constraint)) → ClassText c k → given ≡ constraints_in all c → Surrounds P (record (class_scope k) { given = given }) (text_scope headers all c)
    around_class c k given all t same = record {
      names = refl;
      params = t.params ∙ sym (append-nil (map (λ (param : ParamRow). param.atomic) (params_in headers c)));
      few = few_params c k t;
      variables = λ name slot e. none-some (Some slot) e;
      regions = λ name number e. none-some number e;
      given = same;
    }

    class_means : (c : ℕ) (k : PlainClass) → ClassText c k → Meaning P (class_scope k) (text_scope headers table.given c)
    class_means c k t = surrounds_mean P (class_scope k) (text_scope headers table.given c) (around_class c k k.given table.given t t.given)

    -- constraints
    pub given_good : (c : ℕ) (k : PlainClass) → class_at P c ≡ Some k → All (GoodConstraint P (class_scope k)) k.given
    given_good c k e =
        let t = class_text c k e in
        let number = plain_number c t.within in
        let listed : slice_get table.given c ≡ Some (constraints_meant (text_scope headers [] c) t.class.params.given) =
        ap (λ z. slice_get z c) read.given ∙ class_constraints headers 0 program.classes c t.class t.stands ∙ ap (λ z. Some (constraints_meant (text_scope headers [] z) t.class.params.given)) number in
        let is : k.given ≡ constraints_meant (text_scope headers [] c) t.class.params.given = t.given ∙ ap (λ o. option_map_or (λ (given : List Constraint). given) o []) listed in
        subst (All (GoodConstraint P (class_scope k))) (sym is)
        (constraints_moved P (record (class_scope k) { given = [] }) (class_scope k) refl refl (constraints_meant (text_scope headers [] c) t.class.params.given)
        (constraints_good P (record (class_scope k) { given = [] }) (text_scope headers [] c)
        (surrounds_mean P (record (class_scope k) { given = [] }) (text_scope headers [] c) (around_class c k [] [] t refl)) (λ r. refl) t.class.params.given))

    -- the signatures of a class have no faults
    pub none_wrong : (c : ℕ) (k : PlainClass) (t : ClassText c k) → class_faults (text_scope headers table.given c) t.class ≡ []
    none_wrong c k t = ap (λ z. class_faults (text_scope headers table.given z) t.class) (sym (plain_number c t.within)) ∙ class_free headers table.given 0 program.classes c t.class t.stands found.1

    pub member_free : (c : ℕ) (k : PlainClass) (t : ClassText c k) (i : ℕ) (m : Member) → slice_get t.class.members i ≡ Some m → member_faults (text_scope headers table.given c) m ≡ []
    member_free c k t i m e =
        flat_free (member_faults (text_scope headers table.given c)) t.class.members i m (append_none (super_faults (text_scope headers table.given c) t.class) _ (none_wrong c k t)).1 e

    pub member_small : (c : ℕ) (k : PlainClass) (t : ClassText c k) (i : ℕ) (m : Member) → slice_get t.class.members i ≡ Some m → length t.class.params.list + member_size m ≤ 4294967295
    member_small c k t i m e =
        let l = counted_in member_size t.class.members i m e in
        let small = class_small c k t in
        omega (arith, l, small)

    -- the superclass of a class, in the text
    record Extending (c : ℕ) (k : PlainClass) (t : ClassText c k) (above : ℕ) : Type 0 where
      tree : Parent
      extends : t.class.parent ≡ Some tree
      within : above < length program.classes

    extending : (c : ℕ) (k : PlainClass) (t : ClassText c k) (above : ℕ) → parent_of headers c ≡ Some above → Extending c k t above
    extending c k t above up =
        let entry : entry_of (parents_of headers) c ≡ Some above = sym (parent_is table c) ∙ up in
        let parents : parents_of headers ≡ parents_in program.classes = ap parents_of headers_are ∙ parents_gathered program.classes (headers_in program).rows _ refl in
        let w = and_then_there (λ entry. entry) (slice_get (parents_in program.classes) c) above (ap (λ z. entry_of z c) (sym parents) ∙ entry) in
        let named : named_parent (class_named program.classes) t.class ≡ Some above =
        some_same (sym (got_mapped (named_parent (class_named program.classes)) program.classes c t.class t.stands) ∙ w.1) ∙ w.2 in
        let tree = and_then_there (λ (parent : Parent). class_named program.classes parent.name.name) t.class.parent above named in
        let l = known.forest.within c above entry in
        let long = length-map headers.rows (λ (row : Header). row.parent) in
        record { tree = tree.0; extends = tree.1; within = omega (arith, l, long, many) }

    -- the region arguments that a class gives its superclass are those that are written
    parent_written : (c : ℕ) (k : PlainClass) (t : ClassText c k) (above : ℕ) → parent_of headers c ≡ Some above → (x : Extending c k t above) →
        parent_args_of table c ≡ unwrap_or (parent_args (text_scope headers table.given c) x.tree above) []
    parent_written c k t above up x =
        let number = plain_number c t.within in
        let s = super_there headers table.given 0 program.classes c t.class x.tree above t.stands x.extends (ap (parent_of headers) number ∙ up) in
        let listed : slice_get (map plain_super (supers_of table)) s.0 ≡ Some s.1 = ap (λ z. slice_get z s.0) read.supers ∙ s.2 in
        let r = map_there plain_super (slice_get (supers_of table) s.0) s.1 (sym (slice_get-map plain_super (supers_of table) s.0) ∙ listed) in
        let rows_few = supers_few headers table.given 0 program.classes in
        let as_many = sym (length-map (supers_of table) plain_super) ∙ ap length read.supers in
        let own : r.0.class ≡ c = ap (λ (z : PlainSuper). z.class) r.2 ∙ s.3 ∙ number in
        let h = has_row (supers_of table) c s.0 r.0 (omega (arith, rows_few, as_many, few)) r.1 own in
        of_row h
      where
        of_row : HasRow (supers_of table) c → parent_args_of table c ≡ unwrap_or (parent_args (text_scope headers table.given c) x.tree above) []
        of_row h =
            let w = super_text headers table.given 0 program.classes h.place (plain_super h.row) (ap (λ z. slice_get z h.place) (sym read.supers) ∙ got_mapped plain_super (supers_of table) h.place h.row h.there) in
            let l = slice_get_within program.classes w.number w.class w.stands in
            let other = plain_number w.number l in
            let same : w.number ≡ c = sym other ∙ sym (ap (λ (z : PlainSuper). z.class) w.read.is) ∙ h.own in
            let scope_is : text_scope headers table.given (as_number (0 + w.number)) ≡ text_scope headers table.given c = ap (text_scope headers table.given) (other ∙ same) in
            let class_is : w.class ≡ t.class = some_same (sym w.stands ∙ ap (slice_get program.classes) same ∙ t.stands) in
            let tree_is : w.read.tree ≡ x.tree = some_same (sym w.read.extends ∙ ap (λ (z : Class). z.parent) class_is ∙ x.extends) in
            let above_is : w.read.above ≡ above = some_same (sym w.read.parent ∙ ap (λ z. parent_of headers z) (other ∙ same) ∙ up) in
            let row_is : plain_type h.row.parent ≡ parent_meant (text_scope headers table.given c) x.tree above =
            ap (λ (z : PlainSuper). z.parent) w.read.is ∙ ap (λ z. parent_meant z w.read.tree w.read.above) scope_is
            ∙ ap (λ z. parent_meant (text_scope headers table.given c) z w.read.above) tree_is ∙ ap (parent_meant (text_scope headers table.given c) x.tree) above_is in
            ap (λ o. option_map_or (λ parent. class_paths (plain_type parent)) (option_map (λ (row : Super). row.parent) (option_and_then (λ place. slice_get (supers_of table) place) o)) []) h.is
            ∙ ap (λ o. option_map_or (λ parent. class_paths (plain_type parent)) (option_map (λ (row : Super). row.parent) o) []) h.there ∙ ap class_paths row_is

    pub parent_sound : (c : ℕ) (k : PlainClass) → class_at P c ≡ Some k → (above : ℕ) → parent_of headers c ≡ Some above → GoodParent P k (record { class = above; args = parent_args_of table c })
    parent_sound c k e above up =
        let t = class_text c k e in
        let x = extending c k t above up in
        let scope = text_scope headers table.given c in
        let faults = (append_none (super_faults scope t.class) (flat_map (member_faults scope) t.class.members) (none_wrong c k t)).0 in
        let free : parent_faults scope x.tree above ≡ [] =
        sym (ap (λ o. option_map_or (parent_faults scope x.tree) o []) up) ∙ sym (ap (λ o. option_map_or (λ tree. option_map_or (parent_faults scope tree) (parent_of headers c) []) o []) x.extends) ∙ faults in
        let p = parent_good P (class_scope k) scope (class_means c k t) (λ r. refl) x.tree above free in
        let args : parent_args_of table c ≡ p.args = parent_written c k t above up x ∙ ap (λ o. unwrap_or o []) p.is in
        let there = class_there above x.within in
        let a = class_text above (class_of table above) there in
        subst (λ z. GoodParent P k (record { class = above; args = z })) (sym args) (record {
          above = class_of table above;
          is = there;
          args = subst (λ z. GoodArgs P (class_scope k) 0 z (class_of table above).given [] p.args) (sym a.params)
              (subst (λ z. GoodArgs P (class_scope k) 0 (map (λ (param : ParamRow). param.atomic) (params_in headers above)) z [] p.args) (sym a.given) p.good);
          full = p.full;
        })

    pub parents_good : (c : ℕ) (k : PlainClass) (p : PlainParent) → class_at P c ≡ Some k → k.parent ≡ Some p → GoodParent P k p
    parents_good c k p e is =
        let t = class_text c k e in
        let up = map_there (λ (above : ℕ). record { class = above; args = parent_args_of table c }) (parent_of headers c) p (sym (ap (λ (z : PlainClass). z.parent) t.is) ∙ is) in
        subst (GoodParent P k) up.2 (parent_sound c k e up.0 up.1)

    -- a field that a class itself declares
    abbrev Fits : PlainClass → PlainField → Type 0
    Fits k f = GoodField P k (field_of f)

    own_field : (c : ℕ) (k : PlainClass) → class_at P c ≡ Some k → (i : ℕ) (row : FieldRow) → slice_get (fields_of table) i ≡ Some row → row.owner ≡ c → Fits k (plain_field row)
    own_field c k e i row at own =
        let t = class_text c k e in
        let w = field_text headers table.given 0 program.classes i (plain_field row) (ap (λ z. slice_get z i) (sym read.fields) ∙ got_mapped plain_field (fields_of table) i row at) in
        let l = slice_get_within program.classes w.number w.class w.stands in
        let other = plain_number w.number l in
        let same : w.number ≡ c = sym other ∙ sym (ap (λ (z : PlainField). z.owner) w.read.is) ∙ own in
        let class_is : w.class ≡ t.class = some_same (sym w.stands ∙ ap (slice_get program.classes) same ∙ t.stands) in
        let scope = text_scope headers table.given c in
        let stands : slice_get t.class.members w.read.place ≡ Some (member.Field w.read.field) = ap (λ (z : Class). slice_get z.members w.read.place) (sym class_is) ∙ w.read.there in
        let f = append_none (known_type_faults scope w.read.field.ty) (field_region_faults scope w.read.field.region) (member_free c k t w.read.place (member.Field w.read.field) stands) in
        let small = member_small c k t w.read.place (member.Field w.read.field) stands in
        let means = class_means c k t in
        let region = region_good P (class_scope k) scope means (λ r. refl) w.read.field.region f.1 in
        let scope_is = ap (text_scope headers table.given) (other ∙ same) in
        subst (Fits k) (sym (w.read.is ∙ ap (λ z. field_row z w.read.slot w.read.field) scope_is)) (record {
          ty = known_good P (class_scope k) scope means (λ r. refl) (named_mean scope refl refl) w.read.field.ty (short_type w.read.field.ty (omega (arith, small))) f.0;
          path = region.0;
          full = region.1;
        })

    own_fields : (c : ℕ) (k : PlainClass) → class_at P c ≡ Some k → All (Fits k) (declared_fields table c)
    own_fields c k e =
        let test = λ (row : FieldRow). row.owner == c in
        let Own = λ (row : FieldRow). (row.owner == c) ≡ true → Fits k (plain_field row) in
        let all : All Own (fields_of table) = λ i d l h. own_field c k e i (get_or (fields_of table) i d) (slice_get-get_or (fields_of table) i d l) (eqb-true (get_or (fields_of table) i d).owner c h) in
        let some : All Own (filter test (fields_of table)) = All-filter test Own (fields_of table) all in
        let passed = filter_passes test (fields_of table) in
        All-map (Fits k) plain_field (filter test (fields_of table)) (λ i d l. some i d l (passed i d l))

    -- an inherited one, as the class sees it
    seen_field : (k above : PlainClass) (p : PlainParent) → (g : GoodParent P k p) → g.above ≡ above → (f : PlainField) → Fits above f → Fits k (plain_with p.args f)
    seen_field k above p g same f h =
        let good = subst (λ (z : PlainClass). GoodArgs P (class_scope k) 0 z.params z.given [] p.args) same g.args in
        record {
          ty = type_put P (class_scope above) (class_scope k) p.args good g.full (λ x e. cc) (λ r. refl) given_good 0 f.ty h.ty;
          path = path_put P (class_scope above) (class_scope k) p.args good g.full (λ x e. cc) (λ r. refl) given_good 0 f.rpl h.path;
          full = full_put P (class_scope above) (class_scope k) p.args good g.full (λ x e. cc) (λ r. refl) given_good f.rpl h.path.begins h.full;
        }

    made_good : (n c : ℕ) (k : PlainClass) → class_at P c ≡ Some k → All (Fits k) (made_up (parent_of headers) [] (fields_after table) n c)
    made_good zero c k e = All-nil (Fits k)
    made_good (suc n) c k e =
        All-append (Fits k) (option_map_or (map (plain_with (parent_args_of table c))) (option_map (made_up (parent_of headers) [] (fields_after table) n) (parent_of headers c)) []) (declared_fields table c)
        (by (parent_of headers c) (parent_sound c k e) (λ above. made_good n above)) (own_fields c k e)
      where
        upper : ℕ → List PlainField
        upper = made_up (parent_of headers) [] (fields_after table) n

        by : (o : Option ℕ) → ((above : ℕ) → o ≡ Some above → GoodParent P k (record { class = above; args = parent_args_of table c })) → ((above : ℕ) (k : PlainClass) → class_at P above ≡ Some k → All (Fits k) (upper above)) →
            All (Fits k) (option_map_or (map (plain_with (parent_args_of table c))) (option_map upper o) [])
        by None parent more = All-nil (Fits k)
        by (Some above) parent more =
            let g = parent above refl in
            All-map (Fits k) (plain_with (parent_args_of table c)) (upper above)
            (All-weaker (Fits g.above) (λ f. Fits k (plain_with (parent_args_of table c) f)) (seen_field k g.above (record { class = above; args = parent_args_of table c }) g refl) (upper above) (more above g.above g.is))

    pub fields_good : (c : ℕ) (k : PlainClass) → class_at P c ≡ Some k → All (GoodField P k) k.fields
    fields_good c k e =
        let t = class_text c k e in
        subst (All (GoodField P k)) (sym (ap (λ (z : PlainClass). z.fields) t.is)) (All-map (GoodField P k) field_of (fields_in table c) (made_good (suc (class_count headers)) c k e))
