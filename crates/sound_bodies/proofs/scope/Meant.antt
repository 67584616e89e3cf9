-- What names mean around a place of a body is what is in scope; so arrays that are created without a fault have good types.
use Rattle.std.proofs.Common.{◌≡◌, ◌∙◌, ◌⊎◌, ◌≤◌, ◌==◌, ◌+◌, ℕ, suc, Bool, true, false, not, ◌&&◌, cond, IsTrue, is_some, List, [], ◌∷◌, ◌++◌, drop, length, flat_map, inl, inr, Option, Some, None, option_and_then, Result, Ok, Err, refl, sym, ap, subst, arith}
use Rattle.std.proofs.lemmas.Bool.{and_parts, eqb-true}
use Rattle.std.proofs.lemmas.List.Elements.{All-nil}
use Rattle.std.specs.List.{list_any, list_all}
use Rattle.std.specs.Option.{option_map_or}
use Rattle.lang_base.specs.declared.place.Place.{Place}
use Rattle.lang_base.specs.declared.refusal.Kind.TheVariants as kind
use Rattle.lang_base.specs.declared.refusal.Refusal.{Refusal}
use Rattle.lang_base.specs.declared.region.Rpl.{Rpl}
use Rattle.lang_base.specs.Regions.{fully_specified}
use Rattle.lang_base.specs.Types.{PlainType, plain_type}
use Rattle.lang_base.specs.Types.{PlainType as ty}
use Rattle.decl_headers.specs.declared.faults.Order.TheVariants as order
use Rattle.decl_headers.specs.Faults.{none_by}
use Rattle.decl_headers.specs.Passes.{fault_if}
use Rattle.syntax_tree.specs.declared.region.BaseTree.{BaseTree}
use Rattle.syntax_tree.specs.declared.region.Named.{Named}
use Rattle.syntax_tree.specs.declared.region.RplTree.{RplTree}
use Rattle.syntax_tree.specs.declared.region.Suffix.{Suffix}
use Rattle.syntax_tree.specs.declared.region.TypeTree.{TypeTree}
use Rattle.decl_resolve.specs.Args.{begins_local, local_fault}
use Rattle.decl_resolve.specs.Index.{PlainIndex}
use Rattle.decl_resolve.specs.Paths.{is_specified, is_plain, misfits}
use Rattle.decl_resolve.specs.Reading.{elem_faults, is_misplaced, head_faults, path_atomic, path_meant, path_faults}
use Rattle.decl_resolve.specs.Written.{is_flat, base_read, base_faults, local_from, type_read, type_parts, judged_type, type_faults, array_meant, array_faults, own_fault}
use Rattle.lang_typed.specs.Plain.{PlainProgram}
use Rattle.lang_typed.specs.Scope.{Scope, Local, constant}
use Rattle.lang_typed.specs.Types.{GoodPath, LocalPath, GoodType, IsFlat}
use Rattle.body_exprs.specs.declared.env.Env.{Env}
use Rattle.body_exprs.specs.declared.env.LocalRow.{LocalRow}
use Rattle.body_exprs.specs.Arrays.{made_names, front_of, front_reported, full_path, around_own, path_reported, own_path, own_place, array_reported, type_reported, array_with, created_array}
use Rattle.body_exprs.specs.Env.{table_of, scope_of, local_of, index_slot, index_variable_of}
use Rattle.body_exprs.specs.Refusing.{reported_first}
use Rattle.body_exprs.specs.Typed.{may_be, is_int}
use Rattle.body_check.specs.Simple.{declared_type, declared_reported}
use Rattle.sound_lemmas.proofs.Free.{none_reported, parts_free, append_none, fault_none, not_false}
use Rattle.sound_lemmas.proofs.Known.{type_known}
use Rattle.sound_lemmas.proofs.Lists.{some_same, ok_same, and_then_there, map_there}
use Rattle.sound_bodies.specs.Seen.{RowIs, Tells, Sees}
use Rattle.sound_decls.proofs.written.Args.{three_false}
use Rattle.sound_decls.proofs.written.Indices.{AllSpeak, path_speaks}
use Rattle.sound_decls.proofs.written.Paths.{Meaning, own, path_begun, begun_either, path_full}
use Rattle.sound_decls.proofs.written.Types.{ClassesMean, names_of, few_written, array_good, not_in_local, judged_good, type_good}

int_is : (t : PlainType) → is_int t ≡ true → t ≡ ty.int
int_is ty.int h = refl
int_is ty.boolean h = cc
int_is ty.void h = cc
int_is ty.null h = cc
int_is (ty.class c args) h = cc
int_is (ty.array t a named) h = cc

pub constant_slot : (r a : Bool) (row : LocalRow) (o : Option Local) (slot : ℕ) → RowIs r a row o → index_slot row ≡ Some slot → (o ≡ Some (constant ty.int)) × (row.slot ≡ slot)
constant_slot r a row o slot is h = by row.is_final (is_int (plain_type row.ty)) refl refl h
  where
    array_int : (t : PlainType) (e : PlainType) (b : Rpl) → t ≡ ty.array e b false → is_int t ≡ true → ⊥
    array_int t e b same int_so = let no : false ≡ true = sym (ap is_int same) ∙ int_so in cc

    of_row : (o : Option Local) → RowIs r a row o → row.is_final ≡ true → is_int (plain_type row.ty) ≡ true → o ≡ Some (constant ty.int)
    of_row o (RowIs.is_part {t = t} {a = b} p q same) f int_so = absurd (array_int (plain_type row.ty) t b same int_so)
    of_row o (RowIs.is_constant p g) f int_so = ap (λ z. Some (constant z)) (int_is (plain_type row.ty) int_so)
    of_row o (RowIs.is_variable p g) f int_so = let no : false ≡ true = sym g ∙ f in cc
    of_row o (RowIs.is_frozen p g u) f int_so = let no : false ≡ true = sym g ∙ f in cc
    of_row o (RowIs.is_reserved p g u v) f int_so = let no : false ≡ true = sym g ∙ f in cc

    by : (f i : Bool) → row.is_final ≡ f → is_int (plain_type row.ty) ≡ i → cond (f && i) (Some row.slot) None ≡ Some slot → (o ≡ Some (constant ty.int)) × (row.slot ≡ slot)
    by true true at_f at_i h = (of_row o is at_f at_i, some_same h)
    by true false at_f at_i h = cc
    by false i at_f at_i h = cc

-- the type of an array that is created without a fault is good, and the path of its elements fully specified
abbrev pub ArraysAreGood : PlainProgram → Scope → Env → Type 0
ArraysAreGood P L env =
    (suffixes : List Suffix) (made : Option Named) (base : BaseTree) (rpl : Option RplTree) (len : Option PlainType) (place : Place) (t : PlainType) → length suffixes ≤ 4294967295 →
    front_reported env (made_names suffixes made) base ≡ None → created_array env (made_names suffixes made) (front_of env (made_names suffixes made) base) len rpl place ≡ Ok t →
    (elem : PlainType) × (a : Rpl) × (named : Bool) × (t ≡ ty.array elem a named) × GoodType P L 0 (ty.array elem a named) × IsTrue (fully_specified a) × (may_be is_int len ≡ true)

own_small : (made : Option Named) → own made ≤ 1
own_small None = omega arith
own_small (Some named) = omega arith

drop_all : {A : Type 0} (xs : List A) → drop (length xs) xs ≡ []
drop_all [] = refl
drop_all (x ∷ xs) = drop_all xs

type_reported_ok : (o : Option Refusal) (m : Option PlainType) (place : Place) (t : PlainType) → type_reported o m place ≡ Ok t → (o ≡ None) × (m ≡ Some t)
type_reported_ok (Some refusal) m place t h = cc
type_reported_ok None None place t h = cc
type_reported_ok None (Some u) place t h = (refl, ap Some (ok_same h))

path_reported_ok : (o : Option Refusal) (m : Option Rpl) (place : Place) (a : Rpl) → path_reported o m place ≡ Ok a → (o ≡ None) × (m ≡ Some a)
path_reported_ok (Some refusal) m place a h = cc
path_reported_ok None None place a h = cc
path_reported_ok None (Some b) place a h = (refl, ap Some (ok_same h))

module _ (P : PlainProgram) (L : Scope) (env : Env) (may_read may_assign : ℕ → Bool) (tells : Tells P (table_of env) L.member_nd_free) (sees : Sees P L env may_read may_assign)
  where
    variable_seen : (name slot : ℕ) → index_variable_of env name ≡ Some slot → L.local slot ≡ Some (constant ty.int)
    variable_seen name slot h =
        let w = and_then_there index_slot (local_of env name) slot (sym (sees.indices name) ∙ h) in
        let c = constant_slot (may_read name) (may_assign name) w.0 (L.local w.0.slot) slot (sees.locals name w.0 w.1) w.2 in
        subst (λ z. L.local z ≡ Some (constant ty.int)) c.1 c.0

    pub meant : Meaning P L (scope_of env)
    meant = record {
      regions = tells.regions;
      atomic = tells.atomic;
      params = sees.params;
      variables = λ name slot h. variable_seen name slot (ap (option_and_then (λ variable. variable)) h);
      locals = sees.regions;
      given = sees.given;
    }

    pub classes_meant : ClassesMean P (scope_of env)
    classes_meant = record { classes = λ name at h. (let k = tells.classes name at h in (k.class, k.is, k.params, k.given)) }

    -- the type that a declaration names
    pub declared_good : (tree : TypeTree) → length tree.suffixes ≤ 4294967295 → declared_reported env tree ≡ None → GoodType P L 0 (declared_type env tree)
    declared_good tree few unreported =
        let free = parts_free (none_by order.Kind) (type_faults (scope_of env) tree) unreported in
        let w = type_known (scope_of env) tree free in
        subst (GoodType P L 0) (sym (ap (λ o. option_map_or (λ t. t) o ty.void) w.1)) (type_good P L (scope_of env) meant classes_meant tree w.0 few free w.1)

    record OwnGood (made : Option Named) (a : Rpl) : Type 0 where
      path : GoodPath P L 1 a ⊎ LocalPath P L 1 a
      speaks : AllSpeak (made ∷ []) a.elems
      full : IsTrue (fully_specified a)

    -- the path of the elements
    own_good : (suffixes : List Suffix) (made : Option Named) (rpl : Option RplTree) (a : Rpl) → length suffixes ≤ 4294967295 → own_path env (made_names suffixes made) rpl ≡ Ok a → OwnGood made a
    own_good suffixes made None a few is = subst (OwnGood made) (ok_same is) (record { path = inl (record { begins = tt; elems = All-nil _ }); speaks = tt; full = refl })
    own_good suffixes made (Some tree) a few is =
        let around : PlainIndex = around_own (made_names suffixes made) in
        let w = path_reported_ok (reported_first (path_faults (scope_of env) around full_path tree)) (path_meant (scope_of env) around tree) tree.place a is in
        let unfit = misfits full_path tree.elems (path_atomic (scope_of env) tree) (list_any (is_misplaced (scope_of env) around) tree.elems) in
        let f = append_none (head_faults (scope_of env) tree.head ++ flat_map (elem_faults (scope_of env) around) tree.elems) (fault_if unfit kind.RegionArgs tree.place)
        (none_reported (none_by order.Kind) (path_faults (scope_of env) around full_path tree) w.0) in
        let m = three_false true (list_all is_specified tree.elems) false (is_plain (path_atomic (scope_of env) tree)) (list_any (is_misplaced (scope_of env) around) tree.elems) (fault_none unfit kind.RegionArgs tree.place f.1) in
        let none = ap length (drop_all suffixes) in
        let small = own_small made in
        let deep : length (drop (length suffixes) suffixes) + own made ≤ 1 = omega (arith, none, small) in
        record {
          path = begun_either P L (scope_of env) meant 1 a (path_begun P L (scope_of env) meant around 1 deep tree a w.1);
          speaks = subst (λ z. AllSpeak (names_of z made) a.elems) (drop_all suffixes) (path_speaks (scope_of env) around (few_written suffixes made few (length suffixes)) tree a w.1);
          full = path_full P L (scope_of env) meant around tree a (m.0 refl) w.1;
        }

    abbrev Outer : ℕ → PlainType → Rpl → Type 0
    Outer depth t a = GoodPath P L (suc depth) a ⊎ (LocalPath P L 1 a × IsFlat t × (depth ≡ 0))

    pub created_good : ArraysAreGood P L env
    created_good suffixes made base rpl len place t few unreported is = by (own_path env (made_names suffixes made) rpl) refl is
      where
        local_reported : (o : Option Place) → local_fault o false ≡ [] → o ≡ None
        local_reported None h = refl
        local_reported (Some p) h = cc

        outer : (a : Rpl) (elem : PlainType) (place : Place) → GoodPath P L 1 a ⊎ LocalPath P L 1 a → (is_flat (base_read (scope_of env) (made_names suffixes made) base) ≡ true → length suffixes ≡ 0 → IsFlat elem) →
            own_fault (base_read (scope_of env) (made_names suffixes made) base) (made_names suffixes made) a place ≡ [] → Outer 0 elem a
        outer a elem place path flat reported = at (begins_local a.elems) refl reported
          where
            at : (b : Bool) → begins_local a.elems ≡ b → cond b (local_fault (Some place) (is_flat (base_read (scope_of env) (made_names suffixes made) base) && (length suffixes == 0))) [] ≡ [] → Outer 0 elem a
            at false is h = inl (not_in_local P L 1 a path is)
            at true is h =
                let allowed = is_flat (base_read (scope_of env) (made_names suffixes made) base) && (length suffixes == 0) in
                let p = and_parts (is_flat (base_read (scope_of env) (made_names suffixes made) base)) (length suffixes == 0) (not_false allowed (fault_none (not allowed) kind.LocalRegion place h)) in
                elim path [ inl good ↦ inl good | inr in_local ↦ inr (in_local, flat p.0 (eqb-true (length suffixes) 0 p.1), refl) ]

        by : (r : Result Rpl Refusal) → own_path env (made_names suffixes made) rpl ≡ r →
            array_with env (made_names suffixes made) (front_of env (made_names suffixes made) base) (may_be is_int len) r (own_place rpl place) place ≡ Ok t →
            (elem : PlainType) × (a : Rpl) × (named : Bool) × (t ≡ ty.array elem a named) × GoodType P L 0 (ty.array elem a named) × IsTrue (fully_specified a) × (may_be is_int len ≡ true)
        by (Err refusal) own_is h = cc
        by (Ok a) own_is h =
            let around : PlainIndex = made_names suffixes made in
            let front = type_read (scope_of env) around base in
            let w = type_reported_ok (array_reported env around front (may_be is_int len) a (own_place rpl place) place) (array_meant (scope_of env) around front a) place t h in
            let f = append_none (fault_if (not (may_be is_int len)) kind.Type place) (array_faults (scope_of env) around front a (own_place rpl place) place)
            (none_reported (none_by order.Kind) (fault_if (not (may_be is_int len)) kind.Type place ++ array_faults (scope_of env) around front a (own_place rpl place) place) w.0) in
            let g = append_none (local_fault (local_from (scope_of env) around 0 None suffixes) false ++ own_fault (base_read (scope_of env) around base) around a (own_place rpl place)) (base_faults (scope_of env) (base_read (scope_of env) around base) place) f.1 in
            let k = append_none (local_fault (local_from (scope_of env) around 0 None suffixes) false) (own_fault (base_read (scope_of env) around base) around a (own_place rpl place)) g.0 in
            let e = map_there (λ elem. ty.array elem a (is_some made)) (judged_type (scope_of env) around front) t w.1 in
            let j = judged_good P L (scope_of env) meant classes_meant suffixes made 1 (own_small made) few base place e.0 (parts_free (none_by order.Kind) (type_parts (scope_of env) around base) unreported) g.1
            (inl (local_reported (local_from (scope_of env) around 0 None suffixes) k.0)) e.1 in
            let o = own_good suffixes made rpl a few own_is in (
              e.0,
              a,
              is_some made,
              sym e.2,
              (array_good P L 0 made [] e.0 a j.0.0 j.0.1 (outer a e.0 (own_place rpl place) o.path j.1 k.1) o.speaks).0,
              o.full,
              not_false (may_be is_int len) (fault_none (not (may_be is_int len)) kind.Type place f.0),
            )
