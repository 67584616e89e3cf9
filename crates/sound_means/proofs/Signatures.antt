-- What the parts of a signature say without faults is what their trees mean.
use Rattle.std.proofs.Common.{◌≡◌, ◌∙◌, ℕ, suc, ◌+◌, false, List, [], ◌∷◌, ◌++◌, All, map, flat_map, ⊎_elim, Option, None, Some, option_map, option_and_then, refl, sym, ap, subst}
use Rattle.std.proofs.lemmas.List.Elements.{All-head, All-tail, Contains-append_cases, Contains-append_left, Contains-append_right}
use Rattle.std.specs.List.{AllZip, cons_option}
use Rattle.std.specs.Prelude.{slice_get, unwrap_or}
use Rattle.lang_base.specs.declared.effect.Access.{Access}
use Rattle.lang_base.specs.declared.effect.Access.TheVariants.{Read, Write}
use Rattle.lang_base.specs.declared.effect.Effect.{Effect}
use Rattle.lang_base.specs.Effects.{gathered}
use Rattle.lang_base.specs.Types.{void}
use Rattle.syntax_tree.specs.declared.class.Field.{Field}
use Rattle.syntax_tree.specs.declared.class.Formal.{Formal}
use Rattle.syntax_tree.specs.declared.class.Item.{Item}
use Rattle.syntax_tree.specs.declared.class.Member.{Member}
use Rattle.syntax_tree.specs.declared.class.Member.TheVariants as member
use Rattle.syntax_tree.specs.declared.class.MethodResult.{MethodResult}
use Rattle.syntax_tree.specs.declared.class.MethodResult.TheVariants as outcome
use Rattle.syntax_tree.specs.declared.class.SummaryTree.{SummaryTree}
use Rattle.syntax_tree.specs.declared.region.ConstrTree.{ConstrTree}
use Rattle.syntax_tree.specs.declared.region.TypeTree.{TypeTree}
use Rattle.syntax_means.specs.Declares.{member_fields}
use Rattle.syntax_means.specs.Means.{ConstraintMeans, FieldMeans, ItemMeans, ResultMeans, SummaryMeans}
use Rattle.syntax_means.specs.Means.ResultMeans.{of_constructor, nothing, a_value}
use Rattle.syntax_means.specs.Means.SummaryMeans.{left_out, written}
use Rattle.syntax_means.specs.Paths.{Around, TypeMeans}
use Rattle.decl_headers.specs.Numbers.{as_number}
use Rattle.decl_resolve.specs.Index.{no_index}
use Rattle.decl_resolve.specs.Scopes.{PlainScope}
use Rattle.decl_resolve.specs.Written.{type_faults}
use Rattle.decl_classes.specs.Rows.{field_row, field_faults, fields_from, member_faults, method_faults}
use Rattle.decl_classes.specs.Signatures.{rpl_meant, rpl_faults, constraint_meant, constraint_faults, constraints_meant, constraints_faults, known_type, known_type_faults, field_region_faults, formal_types, formal_faults, result_type, result_faults, effect_meant, effects_meant, item_faults, summary_meant, summary_faults}
use Rattle.lang_typed.specs.Statements.{SameEffects}
use Rattle.body_assembly.specs.Assembled.{field_of}
use Rattle.sound_lemmas.proofs.Free.{append_none, joined_free}
use Rattle.sound_lemmas.proofs.Known.{path_known, type_known}
use Rattle.sound_decls.proofs.written.Signs.{Short}
use Rattle.sound_bodies.proofs.effects.Gathered.{nothing_in}
use Rattle.sound_bodies.proofs.effects.Left.{gathered_from, gathered_kept, gathered_new}
use Rattle.sound_means.proofs.Around.{KnowsPaths}
use Rattle.sound_means.proofs.Written.{path_here, region_here, type_here}

-- the effects of a list and of another one after it, each once
pub both_gathered : (xs ys : List Effect) → SameEffects (gathered (gathered [] xs) ys) (xs ++ ys)
both_gathered xs ys e = (
  λ c. ⊎_elim
      (λ first. ⊎_elim (λ none. absurd (nothing_in e none)) (λ mine. Contains-append_left xs ys e mine) (gathered_from [] xs e first))
      (λ later. Contains-append_right xs ys e later) (gathered_from (gathered [] xs) ys e c),
  λ c. ⊎_elim (λ first. gathered_kept (gathered [] xs) ys e (gathered_new [] xs e first)) (λ later. gathered_new (gathered [] xs) ys e later) (Contains-append_cases xs ys e c),
)

-- no type of a field has a number that isn't counted
abbrev pub ShortFields : List Member → Type 0
ShortFields members = (i : ℕ) (field : Field) → slice_get members i ≡ Some (member.Field field) → Short field.ty

module _ (A : Around) (scope : PlainScope) (knows : KnowsPaths A scope)
  where
    pub constraints_mean : (trees : List ConstrTree) → constraints_faults scope trees ≡ [] → AllZip (ConstraintMeans A) trees (constraints_meant scope trees)
    constraints_mean [] free = tt
    constraints_mean (tree ∷ trees) free =
        let f = append_none (constraint_faults scope tree) (constraints_faults scope trees) free in
        let g = append_none (rpl_faults scope false tree.left) (rpl_faults scope false tree.right) f.0 in
        let l = path_known scope no_index (record { full = false; atomic = false }) tree.left g.0 in
        let r = path_known scope no_index (record { full = false; atomic = false }) tree.right g.1 in
        let is : constraint_meant scope tree ≡ Some (record { left = l.0; right = r.0 }) =
        ap (λ o. option_and_then (λ left. option_map (λ right. record { left = left; right = right }) (rpl_meant scope tree.right)) o) l.1 ∙ ap (option_map (λ right. record { left = l.0; right = right })) r.1 in
        subst (λ o. AllZip (ConstraintMeans A) (tree ∷ trees) (cons_option o (constraints_meant scope trees))) (sym is)
        (record { left = path_here A scope knows tree.left l.0 l.1; right = path_here A scope knows tree.right r.0 r.1 }, constraints_mean trees f.1)

    -- types
    pub known_means : (tree : TypeTree) → Short tree → known_type_faults scope tree ≡ [] → TypeMeans A tree (known_type scope tree)
    known_means tree short free =
        let w = type_known scope tree (joined_free (type_faults scope tree) free) in
        subst (λ o. TypeMeans A tree (unwrap_or o void)) (sym w.1) (type_here A scope knows tree w.0 short w.1)

    pub formals_mean : (formals : List Formal) → All (λ (formal : Formal). Short formal.ty) formals → formal_faults scope formals ≡ [] → AllZip (λ (formal : Formal) t. TypeMeans A formal.ty t) formals (formal_types scope formals)
    formals_mean [] short free = tt
    formals_mean (formal ∷ formals) short free =
        let f = append_none (known_type_faults scope formal.ty) (formal_faults scope formals) free in
        (known_means formal.ty (All-head (λ (formal : Formal). Short formal.ty) formal formals short) f.0, formals_mean formals (All-tail (λ (formal : Formal). Short formal.ty) formal formals short) f.1)

    pub result_means : (r : MethodResult) → ((tree : TypeTree) → r ≡ outcome.Value tree → Short tree) → result_faults scope r ≡ [] → ResultMeans A r (result_type scope r)
    result_means outcome.Constructor short free = of_constructor
    result_means outcome.Void short free = nothing
    result_means (outcome.Value tree) short free = a_value (known_means tree (short tree refl) free)

    -- summaries
    effects_mean : (access : Access) (items : List Item) → item_faults scope items ≡ [] → AllZip (ItemMeans A access) items (effects_meant scope access items)
    effects_mean access [] free = tt
    effects_mean access (item ∷ items) free =
        let f = append_none (rpl_faults scope false item.rpl) (item_faults scope items) free in
        let w = path_known scope no_index (record { full = false; atomic = false }) item.rpl f.0 in
        let is : effect_meant scope access item ≡ Some (record { access = access; atomic = item.atomic; rpl = w.0 }) = ap (option_map (λ rpl. record { access = access; atomic = item.atomic; rpl = rpl })) w.1 in
        subst (λ o. AllZip (ItemMeans A access) (item ∷ items) (cons_option o (effects_meant scope access items))) (sym is)
        (record { path = path_here A scope knows item.rpl w.0 w.1; is = refl }, effects_mean access items f.1)

    pub summary_means : (tree : Option SummaryTree) → summary_faults scope tree ≡ [] → SummaryMeans A tree (summary_meant scope tree)
    summary_means None free = left_out
    summary_means (Some tree) free =
        let f = append_none (item_faults scope tree.reads) (item_faults scope tree.writes) free in
        let reads = effects_meant scope Read tree.reads in
        let writes = effects_meant scope Write tree.writes in
        written reads writes (effects_mean Read tree.reads f.0) (effects_mean Write tree.writes f.1) (both_gathered reads writes)

    -- the fields that a class declares
    field_means : (slot : ℕ) (field : Field) → Short field.ty → field_faults scope field ≡ [] → FieldMeans A field (field_of (field_row scope slot field))
    field_means slot field short free =
        let f = append_none (known_type_faults scope field.ty) (field_region_faults scope field.region) free in
        record { ty = known_means field.ty short f.0; region = region_here A scope knows field.region f.1 }

    pub fields_mean : (slot : ℕ) (members : List Member) → ShortFields members → flat_map (member_faults scope) members ≡ [] → AllZip (FieldMeans A) (flat_map member_fields members) (map field_of (fields_from scope slot members))
    fields_mean slot [] short free = tt
    fields_mean slot (member.Regions is_atomic names ∷ members) short free = fields_mean slot members (λ i field e. short (suc i) field e) free
    fields_mean slot (member.Field field ∷ members) short free =
        let f = append_none (field_faults scope field) (flat_map (member_faults scope) members) free in
        (field_means slot field (short 0 field refl) f.0, fields_mean (as_number (slot + 1)) members (λ i one e. short (suc i) one e) f.1)
    fields_mean slot (member.Method method ∷ members) short free =
        fields_mean slot members (λ i field e. short (suc i) field e) (append_none (method_faults scope method) (flat_map (member_faults scope) members) free).1
