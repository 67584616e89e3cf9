-- At the begin of a body: what is around it is in scope, and stands there as it should.
use Rattle.std.proofs.Common.{◌≡◌, ◌∙◌, ◌<◌, ◌≤◌, ◌+◌, ℕ, zero, suc, Bool, true, false, List, [], ◌∷◌, ◌++◌, map, length, slice_get, slice_index_or, inl, inr, Option, Some, None, option_map, refl, sym, ap, subst, arith}
use Rattle.std.proofs.lemmas.List.{length-map, take_all}
use Rattle.std.proofs.lemmas.Option.{slice_get_within}
use Rattle.std.specs.Option.{option_map_or}
use Rattle.lang_base.specs.declared.ty.Super.{Super}
use Rattle.lang_base.specs.declared.ty.Ty.{Ty}
use Rattle.lang_base.specs.Types.{PlainType, plain_type}
use Rattle.lang_base.specs.Types.{PlainType as ty}
use Rattle.decl_headers.specs.declared.header.ParamRow.{ParamRow}
use Rattle.decl_headers.specs.Gathered.{param_row}
use Rattle.syntax_tree.specs.declared.class.Formal.{Formal}
use Rattle.syntax_tree.specs.declared.class.MethodResult.{MethodResult}
use Rattle.syntax_tree.specs.declared.class.MethodResult.TheVariants as outcome
use Rattle.syntax_tree.specs.declared.class.Program.{Program}
use Rattle.syntax_tree.specs.declared.region.ParamTree.{ParamTree}
use Rattle.decl_resolve.specs.Classes.{params_in}
use Rattle.decl_resolve.specs.Scoped.{no_names, values_in}
use Rattle.decl_resolve.specs.Scopes.{PlainScope}
use Rattle.lang_typed.specs.Plain.{PlainProgram, PlainClass, PlainMember}
use Rattle.lang_typed.specs.Scope.{Scope, variable, frozen}
use Rattle.lang_typed.specs.Scope.{Local as Slot}
use Rattle.lang_typed.specs.Table.{params_from, body_scope}
use Rattle.lang_typed.specs.Types.{GoodType}
use Rattle.body_assembly.specs.Assembled.{PlainBody, member_of}
use Rattle.decl_table.specs.declared.rows.MethodRow.{MethodRow}
use Rattle.decl_table.specs.declared.table.Table.{Table}
use Rattle.decl_classes.specs.Around.{class_scope, formal_names}
use Rattle.decl_table.specs.Plain.{PlainMethod}
use Rattle.decl_classes.specs.Rows.{said_scope, method_scope, said_faults}
use Rattle.decl_classes.specs.Signatures.{formal_faults, result_type, result_faults, summary_faults, constraints_faults}
use Rattle.decl_table.specs.Table.{headers_of, given_of, numbered}
use Rattle.decl_table.specs.Table.{supers_of as superclasses}
use Rattle.body_exprs.specs.declared.env.Env.{Env}
use Rattle.body_exprs.specs.Env.{table_of, supers_of, scope_of, at_class, at_members, with_row, param_paths, this_type_of, has_room, atomic_of, class_params}
use Rattle.body_exprs.specs.Typed.{AreTaken}
use Rattle.body_check.specs.declared.node.Around.{Around}
use Rattle.body_check.specs.Deciding.{has_value}
use Rattle.body_check.specs.Around.{method_around}
use Rattle.body_check.specs.Methods.{own_params, formals_declared, body_begun}
use Rattle.body_check.specs.Methods.{formal_types as types_of}
use Rattle.sound_lemmas.proofs.BodyRules.{start_in, fresh_start}
use Rattle.sound_lemmas.specs.Accepted.{IsAccepted}
use Rattle.sound_lemmas.proofs.Free.{append_none}
use Rattle.sound_lemmas.proofs.Lists.{some_same, got_mapped, map_there}
use Rattle.sound_bodies.specs.Naming.{PathsName, IsIndex, IsRegion, SlotNames, LocalsName}
use Rattle.sound_bodies.specs.Ready.{Ready}
use Rattle.sound_bodies.specs.Seen.{can_stand, AllStand, SupersAgree, Tells}
use Rattle.sound_bodies.specs.Whole.{made_of, never_forks}
use Rattle.sound_bodies.proofs.scope.Entering.{Entered, Begun, formals_entered}
use Rattle.sound_bodies.proofs.scope.InScope.{good_stands, good_type}
use Rattle.sound_bodies.proofs.table.Membership.{IsMember}
use Rattle.sound_bodies.proofs.scope.ParamNames.{values_folded, value_same, param_reported, paths_same}
use Rattle.sound_decls.proofs.written.Paths.{Meaning}
use Rattle.sound_bodies.proofs.table.SignatureTypes.{formals_good, result_good}
use Rattle.sound_decls.proofs.written.Types.{ClassesMean}

-- the superclasses that are taken of a table, which are none or all
supers_taken : (P : PlainProgram) (rows taken : List Super) → AreTaken rows taken → SupersAgree P rows → SupersAgree P taken
supers_taken P rows taken (inl all) agree = subst (SupersAgree P) (sym all.1) agree
supers_taken P rows taken (inr none) agree = subst (SupersAgree P) (sym none.1) (λ c t h. cc)

-- the region parameters of a method, as they are written and in its row
rows_atomic : (params : List ParamTree) → map (λ (row : ParamRow). row.atomic) (map param_row params) ≡ map (λ (param : ParamTree). param.atomic) params
rows_atomic [] = refl
rows_atomic (param ∷ params) = ap (λ rest. param.atomic ∷ rest) (rows_atomic params)

-- the own region parameters of a class name nothing
own_named : (V R : ℕ → Type 0) (p n : ℕ) → PathsName V R (params_from p n)
own_named V R p zero = tt
own_named V R p (suc n) = (tt, own_named V R (suc p) n)

all_stand : (types : List Ty) → ((i : ℕ) (t : PlainType) → slice_get (map plain_type types) i ≡ Some t → can_stand t ≡ true) → AllStand types
all_stand [] each = tt
all_stand (t ∷ types) each = (each 0 (plain_type t) refl, all_stand types (λ i u e. each (suc i) u e))

no_result : (scope : PlainScope) (r : MethodResult) → has_value r ≡ false → result_type scope r ≡ ty.void
no_result scope outcome.Constructor none = refl
no_result scope outcome.Void none = refl
no_result scope (outcome.Value tree) none = cc

module _ (program : Program) (table : Table) (bodies : List PlainBody) (accepted : IsAccepted program table bodies) (tells : Tells (made_of program table bodies) table (never_forks table))
    (supers : SupersAgree (made_of program table bodies) (superclasses table)) (n : ℕ) (one : PlainMember) (class : PlainClass) (k : IsMember program table (start_in program table) n one class)
  where
    abbrev P : PlainProgram
    P = made_of program table bodies

    abbrev start : Env
    start = start_in program table

    abbrev m : PlainMember
    m = member_of k.row k.body

    abbrev L : Scope
    L = body_scope class (never_forks table) n m

    abbrev scope : PlainScope
    scope = said_scope (class_scope (headers_of table) table.given k.number) k.method

    abbrev around : Around
    around = method_around (has_value k.method.result)

    abbrev params : List Bool
    params = class_params (table_of start) k.number ++ own_params (table_of start) n

    abbrev everything : ℕ → Bool
    everything x = true

    table_is : table_of start ≡ table
    table_is = (fresh_start program table).table_is

    numbered_is : Some k.row ≡ numbered (table_of start) n
    numbered_is = sym (ap (λ (t : Table). numbered t n) table_is ∙ k.row_there)

    few : length (params_in (headers_of table) k.number) + length (atomic_of k.row.regions) ≤ 4294967295
    few =
        let small = k.small in
        let rows = length-map k.row.regions (λ (row : ParamRow). row.atomic) in
        let regions = ap (λ (r : PlainMethod). length r.regions) k.row_is in
        let trees = length-map k.method.params.list param_row in
        omega (arith, small, rows, regions, trees)

    -- the types of its signature

    meaning : Meaning P L scope
    meaning = record {
      regions = tells.regions;
      atomic = tells.atomic;
      params = λ name param h.
          subst (λ z. (param.number < length z) × (slice_index_or z param.number false ≡ param.atomic)) (ap (λ z. z ++ atomic_of k.row.regions) (sym k.class_params_are))
          (param_reported scope (atomic_of k.row.regions) values few name param h);
      variables = λ name slot h. let none = value_same None (formal_names k.method.formals) k.method.formals formals_none name (Some slot) h in cc;
      locals = λ name number h. cc;
      given = ap (λ z. z ++ k.row.given) k.class_given_is ∙ ap (λ (r : PlainMethod). given_of table k.number ++ r.given) k.row_is;
    }
      where
        values : values_in scope.params ≡ atomic_of k.row.regions
        values =
            values_folded (λ (param : ParamTree). param.name) (λ (param : ParamTree). param.atomic) no_names k.method.params.list
            ∙ sym (rows_atomic k.method.params.list) ∙ ap (λ (r : PlainMethod). atomic_of r.regions) (sym k.row_is)

        formals_none : (formal_names k.method.formals).values ≡ map (λ formal. None) k.method.formals
        formals_none = values_folded (λ (formal : Formal). formal.name) (λ formal. None) no_names k.method.formals

    classes_mean : ClassesMean P scope
    classes_mean = record { classes = λ name at h. (let c = tells.classes name at h in (c.class, c.is, c.params, c.given)) }

    types_free : (formal_faults scope k.method.formals ≡ []) × (result_faults scope k.method.result ≡ [])
    types_free =
        let said = append_none (constraints_faults (method_scope (class_scope (headers_of table) table.given k.number) k.method) k.method.params.given) (said_faults scope k.method) k.free in
        let types = append_none (formal_faults scope k.method.formals ++ result_faults scope k.method.result) (summary_faults scope k.method.summary) said.1 in
        append_none (formal_faults scope k.method.formals) (result_faults scope k.method.result) types.0

    formal_good : (i : ℕ) (t : PlainType) → slice_get (map plain_type k.row.params) i ≡ Some t → GoodType P L 0 t
    formal_good i t e =
        let small = k.small in
        formals_good P L scope meaning classes_mean k.method.formals types_free.0 (omega (arith, small)) i t (ap (λ (r : PlainMethod). slice_get r.params i) (sym k.row_is) ∙ e)

    result_stands : has_value k.method.result ≡ true → can_stand (plain_type k.row.result) ≡ true
    result_stands valued =
        let small = k.small in
        ap (λ (r : PlainMethod). can_stand r.result) k.row_is
        ∙ good_stands P L 0 (result_type scope k.method.result) (result_good P L scope meaning classes_mean k.method.result types_free.1 (omega (arith, small)) valued)

    pub result_none : has_value k.method.result ≡ false → plain_type k.row.result ≡ ty.void
    result_none none = ap (λ (r : PlainMethod). r.result) k.row_is ∙ no_result scope k.method.result none

    locals_name : LocalsName L
    locals_name zero l h = subst (SlotNames (IsIndex L) (IsRegion L)) (some_same h) (own_named (IsIndex L) (IsRegion L) 0 (length class.params))
    locals_name (suc i) l h =
        let w = map_there variable (slice_get (map plain_type k.row.params) i) l h in
        subst (SlotNames (IsIndex L) (IsRegion L)) w.2 (good_type P L 0 w.0 (formal_good i w.0 w.1))

    -- before the formals are in scope

    abbrev entry : Env
    entry = with_row (record (at_members (at_class start k.number)) { method = n }) (Some k.row)

    class_atomic : class.params ≡ class_params (table_of start) k.number
    class_atomic = k.class_params_are ∙ ap (λ (t : Table). class_params t k.number) (sym table_is)

    given_so : class.given ≡ (at_members (at_class start k.number)).given
    given_so = k.class_given_is ∙ ap (λ (t : Table). given_of t k.number) (sym table_is) ∙ sym (take_all (length (given_of (table_of start) k.number)) (given_of (table_of start) k.number) (omega arith))

    self_is : L.local 0 ≡ Some (frozen (this_type_of entry))
    self_is =
        let small = k.small in
        let many = ap length k.class_params_are ∙ length-map (params_in (headers_of table) k.number) (λ (param : ParamRow). param.atomic) in
        ap (λ (r : PlainMethod). Some (frozen (ty.class r.owner (params_from 0 (length class.params))))) k.row_is
        ∙ ap (λ z. Some (frozen (ty.class k.number (params_from 0 z)))) many
        ∙ ap (λ z. Some (frozen (ty.class k.number z))) (sym (paths_same (length (params_in (headers_of table) k.number)) (omega (arith, small))))
        ∙ ap (λ (t : Table). Some (frozen (ty.class k.number (param_paths (length (params_in (headers_of t) k.number)))))) (sym table_is)

    entered : Entered P L entry around everything everything
    entered = record {
      tells = subst (λ t. Tells P t (never_forks table)) (sym table_is) tells;
      sees = record {
        given = ap (λ z. z ++ k.row.given) given_so;
        supers = supers_taken P (superclasses table) (supers_of start) (fresh_start program table).supers_are supers;
        self = self_is;
        locals = λ name row h. cc;
        declared = λ name row h final. cc;
        indices = λ name. refl;
        params = λ name param h.
            subst (λ z. (param.number < length z) × (slice_index_or z param.number false ≡ param.atomic)) (ap (λ z. z ++ atomic_of k.row.regions) (sym class_atomic))
            (param_reported (scope_of entry) (atomic_of k.row.regions) (values_folded (λ (row : ParamRow). row.name) (λ (row : ParamRow). row.atomic) no_names k.row.regions) few_here name param h);
        regions = λ name number h. cc;
      };
      step = record {
        names = refl;
        values = refl;
        some_slot = omega arith;
        slots = λ name row h. cc;
        apart = λ x y row other h. cc;
        regions = refl;
      };
      returns = record {
        value = λ open' valued. (k.row, sym numbered_is, refl, result_stands valued);
        nothing = λ open' none. ap Some (result_none none);
      };
    }
      where
        few_here : length (params_in (headers_of (table_of start)) k.number) + length (atomic_of k.row.regions) ≤ 4294967295
        few_here = subst (λ t. length (params_in (headers_of t) k.number) + length (atomic_of k.row.regions) ≤ 4294967295) (sym table_is) few

    -- and after them

    begun : has_room (formals_declared entry k.method.formals k.row.params) ≡ true → Begun P L around everything everything (formals_declared entry k.method.formals k.row.params) (1 + length k.row.params)
    begun room =
        let many = ap (λ (r : PlainMethod). length r.params) k.row_is in
        let rows = length-map k.row.params plain_type in
        let trees = length-map k.method.formals (λ (formal : Formal). result_type scope (outcome.Value formal.ty)) in
        formals_entered P L around everything everything entry k.method.formals k.row.params (omega (arith, many, rows, trees))
        (all_stand k.row.params (λ i t e. good_stands P L 0 t (formal_good i t e)))
        (λ i t e. (let on : suc i ≡ 1 + i = omega arith in subst (λ z. L.local z ≡ Some (variable (plain_type t))) on (ap (option_map variable) (got_mapped plain_type k.row.params i t e)))) room entered

    abbrev begin_of : Option MethodRow → Env
    begin_of o = formals_declared (with_row (record (at_members (at_class start k.number)) { method = n }) o) k.method.formals (types_of o)

    atomic_so : L.atomic ≡ params
    atomic_so = ap (λ z. z ++ atomic_of k.row.regions) class_atomic ∙ ap (λ o. class_params (table_of start) k.number ++ option_map_or (λ (row : MethodRow). atomic_of row.regions) o []) numbered_is

    ready_entry : has_room (begin_of (Some k.row)) ≡ true → Ready P L (begin_of (Some k.row)) params around everything everything × ((begin_of (Some k.row)).slots ≡ 1 + length k.row.params)
    ready_entry room = (
      record {
        tells = b.entered.tells;
        sees = b.entered.sees;
        step = b.entered.step;
        locals = locals_name;
        below = below;
        regions = λ r h. cc;
        returns = b.entered.returns;
        atomic = atomic_so;
      },
      b.slots_are,
    )
      where
        b : Begun P L around everything everything (begin_of (Some k.row)) (1 + length k.row.params)
        b = begun room

        below : (x : ℕ) (l : Slot) → L.local x ≡ Some l → x < (begin_of (Some k.row)).slots
        below zero l h = let are = b.slots_are in omega (arith, are)
        below (suc i) l h =
            let w = map_there variable (slice_get (map plain_type k.row.params) i) l h in
            let within = slice_get_within (map plain_type k.row.params) i w.0 w.1 in
            let rows = length-map k.row.params plain_type in
            let are = b.slots_are in
            omega (arith, are, within, rows)

    pub ready_begun : has_room (body_begun (at_class start k.number) n k.method).env ≡ true →
        Ready P L (body_begun (at_class start k.number) n k.method).env params around everything everything × ((body_begun (at_class start k.number) n k.method).env.slots ≡ 1 + length k.row.params)
    ready_begun room =
        subst (λ o. Ready P L (begin_of o) params around everything everything × ((begin_of o).slots ≡ 1 + length k.row.params)) numbered_is
        (ready_entry (subst (λ o. has_room (begin_of o) ≡ true) (sym numbered_is) room))
