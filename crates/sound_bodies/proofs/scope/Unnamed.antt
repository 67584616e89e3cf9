-- The signatures of an accepted program name nothing of a body.
use Rattle.std.proofs.Common.{◌≡◌, ◌∙◌, ◌⊎◌, ℕ, zero, suc, ◌+◌, ◌==◌, Bool, true, false, cond, List, [], ◌∷◌, map, length, inl, inr, Option, None, Some, option_map, refl, sym, ap, subst, arith}
use Rattle.std.proofs.lemmas.Option.{slice_get-map}
use Rattle.std.specs.List.{filter}
use Rattle.std.specs.Option.{option_map_or}
use Rattle.std.specs.Prelude.{slice_get}
use Rattle.lang_base.specs.declared.region.Rpl.{Rpl}
use Rattle.lang_base.specs.Types.{PlainType, void, plain_type}
use Rattle.decl_headers.specs.Headers.{parent_of}
use Rattle.decl_headers.specs.Rounds.{up}
use Rattle.decl_headers.proofs.Cycles.{up-then}
use Rattle.syntax_tree.specs.declared.class.Program.{Program}
use Rattle.syntax_tree.specs.Nd.{program_uses_nd}
use Rattle.decl_resolve.specs.Classes.{params_in}
use Rattle.decl_table.specs.declared.table.Table.{Table}
use Rattle.decl_table.specs.Inherited.{field_with, fields_in}
use Rattle.decl_table.specs.Plain.{PlainField}
use Rattle.decl_table.specs.Table.{headers_of, parent_args_of}
use Rattle.lang_typed.specs.Plain.{PlainClass, PlainMember, PlainParent}
use Rattle.lang_typed.specs.Plain.{PlainField as TypedField}
use Rattle.lang_typed.specs.Scope.{class_at, field_at, member_at}
use Rattle.lang_typed.specs.Scope.{parent_of as parent_in}
use Rattle.body_assembly.specs.Assembled.{PlainBody, field_of}
use Rattle.decl_laws.specs.Rows.{HasRows}
use Rattle.decl_laws.proofs.Facts.{got_either, parent_is}
use Rattle.decl_laws.proofs.Granted.{granted}
use Rattle.sound_lemmas.specs.Accepted.{IsAccepted}
use Rattle.sound_lemmas.proofs.Assembled.{is_member}
use Rattle.sound_lemmas.proofs.Lists.{and_then_there, map_there}
use Rattle.sound_bodies.specs.Naming.{Nothing, PathNames, PathsName, TypeNames, EffectsName, Signed}
use Rattle.sound_bodies.proofs.table.Declarations.{row_said, signatures_free}
use Rattle.sound_bodies.proofs.table.Extending.{parents_over}
use Rattle.sound_bodies.proofs.scope.InParams.{PathsIn, TypeIn, paths_name, type_names}
use Rattle.sound_bodies.proofs.scope.InScope.{substituted_names, with_names}
use Rattle.sound_bodies.proofs.table.Lineage.{P, class_is}
use Rattle.sound_bodies.proofs.table.Lineage.{parent_is as typed_parent}
use Rattle.sound_bodies.proofs.table.Sizes.{parents, all_fields, inherited_fields, fields_step, none_higher}
use Rattle.sound_bodies.proofs.table.Slots.{FieldIn, field_said}

-- what is left of a list is of the list
pub filter_there : {A : Type 0} (test : A → Bool) (xs : List A) (j : ℕ) (x : A) → slice_get (filter test xs) j ≡ Some x → (i : ℕ) × (slice_get xs i ≡ Some x)
filter_there test [] j x e = cc
filter_there test (y ∷ xs) j x e = by (test y) j e (filter_there test xs)
  where
    by : (b : Bool) (j : ℕ) → slice_get (cond b (y ∷ filter test xs) (filter test xs)) j ≡ Some x → ((k : ℕ) (z : _) → slice_get (filter test xs) k ≡ Some z → (i : ℕ) × (slice_get xs i ≡ Some z)) → (i : ℕ) × (slice_get (y ∷ xs) i ≡ Some x)
    by true zero e more = (0, e)
    by true (suc j) e more = let w = more j x e in (suc w.0, w.1)
    by false j e more = let w = more j x e in (suc w.0, w.1)

-- a field names nothing
abbrev FieldNames : PlainField → Type 0
FieldNames f = TypeNames Nothing Nothing f.ty × PathNames Nothing Nothing f.rpl

field_names : (n : ℕ) (f : PlainField) → FieldIn n f → FieldNames f
field_names n f h = (type_names n f.ty h.0, h.1.1)

field_put : (n : ℕ) (args : List Rpl) (f : PlainField) → PathsIn n args → FieldNames f → FieldNames (field_with args f)
field_put n args f over h =
    let all = paths_name n args over in
    (with_names Nothing Nothing args all f.ty h.0, substituted_names Nothing Nothing args all f.rpl h.1)

module _ (program : Program) (table : Table) (has : HasRows program table)
  where
    fields_up : (n class : ℕ) → up (parents program table has) n class ≡ None → (k : ℕ) (f : PlainField) → slice_get (fields_in table class) k ≡ Some f → FieldNames f
    fields_up zero class e k f is = cc
    fields_up (suc n) class e k f is =
        elim (got_either (inherited_fields program table has class) (filter (λ (row : PlainField). row.owner == class) (all_fields program table has)) k f (ap (λ fs. slice_get fs k) (sym (fields_step program table has class)) ∙ is)) [
          | inl first ↦ by (parent_of (headers_of table) class) refl (fields_up n) first
          | inr later ↦
              let w = filter_there (λ (row : PlainField). row.owner == class) (all_fields program table has) later.0 f later.2 in
              let counted = has.counted.0 in
              let s = field_said (headers_of table) table.given program.classes w.0 f w.1 (omega (arith, counted)) (signatures_free program table (granted has).read) in
              field_names (length (params_in (headers_of table) f.owner)) f s.over
        ]
      where
        by : (o : Option ℕ) → parent_of (headers_of table) class ≡ o → ((above : ℕ) → up (parents program table has) n above ≡ None → (i : ℕ) (g : PlainField) → slice_get (fields_in table above) i ≡ Some g → FieldNames g) →
            slice_get (option_map_or (map (field_with (parent_args_of table class))) (option_map (fields_in table) o) []) k ≡ Some f → FieldNames f
        by None a more h = cc
        by (Some above) a more h =
            let on : n + 1 ≡ suc n = omega arith in
            let none = sym (up-then (parents program table has) n 1 class above (sym (parent_is table class) ∙ a)) ∙ ap (λ i. up (parents program table has) i class) on ∙ e in
            let m = map_there (field_with (parent_args_of table class)) (slice_get (fields_in table above) k) f (sym (slice_get-map (field_with (parent_args_of table class)) (fields_in table above) k) ∙ h) in
            subst FieldNames m.2 (field_put (length (params_in (headers_of table) class)) (parent_args_of table class) m.0 (parents_over program table has class) (more above none k m.0 m.1))

    all_named : (class k : ℕ) (f : PlainField) → slice_get (fields_in table class) k ≡ Some f → FieldNames f
    all_named class k f is = fields_up (suc (length (parents program table has))) class (none_higher program table has class) k f is

module _ (program : Program) (table : Table) (bodies : List PlainBody) (accepted : IsAccepted program table bodies)
  where
    fields_signed : (c k : ℕ) (f : TypedField) → field_at (P program table bodies accepted) c k ≡ Some f → TypeNames Nothing Nothing f.ty × PathNames Nothing Nothing f.region
    fields_signed c k f e =
        let w = and_then_there (λ (class : PlainClass). slice_get class.fields k) (class_at (P program table bodies accepted) c) f e in
        let is = class_is program table bodies accepted c w.0 w.1 in
        let got : slice_get (map field_of (fields_in table c)) k ≡ Some f = ap (λ (class : PlainClass). slice_get class.fields k) is.1 ∙ w.2 in
        let m = map_there field_of (slice_get (fields_in table c) k) f (sym (slice_get-map field_of (fields_in table c) k) ∙ got) in
        subst (λ (z : TypedField). TypeNames Nothing Nothing z.ty × PathNames Nothing Nothing z.region) m.2 (all_named program table accepted.rows c k m.0 m.1)

    parents_signed : (c : ℕ) (p : PlainParent) → parent_in (P program table bodies accepted) c ≡ Some p → PathsName Nothing Nothing p.args
    parents_signed c p e =
        let is = typed_parent program table bodies accepted c p e in
        subst (PathsName Nothing Nothing) (sym is.2) (paths_name (length (params_in (headers_of table) c)) (parent_args_of table c) (parents_over program table accepted.rows c))

    result_named : (n : ℕ) (t : PlainType) → (t ≡ void) ⊎ TypeIn n t → TypeNames Nothing Nothing t
    result_named n t (inl none) = subst (TypeNames Nothing Nothing) (sym none) tt
    result_named n t (inr h) = type_names n t h

    members_signed : (n : ℕ) (m : PlainMember) → member_at (P program table bodies accepted) n ≡ Some m → TypeNames Nothing Nothing m.result × EffectsName Nothing Nothing m.summary
    members_signed n m e =
        let w = is_member program table bodies accepted program.names (program_uses_nd program) n m e in
        let s = row_said program table (granted accepted.rows).read n w.row w.row_there in
        subst (λ (z : PlainMember). TypeNames Nothing Nothing z.result × EffectsName Nothing Nothing z.summary) w.is (result_named s.count (plain_type w.row.result) s.result, s.summary)

    pub all_signed : Signed (P program table bodies accepted)
    all_signed = record {
      fields = fields_signed;
      parents = parents_signed;
      results = λ n m e. (members_signed n m e).0;
      summaries = λ n m e. (members_signed n m e).1;
    }
