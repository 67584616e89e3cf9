-- What a signature says without faults is good where it stands.
use Rattle.std.proofs.Common.{◌≡◌, ◌∙◌, ◌⊎◌, ℕ, suc, ◌+◌, ◌≤◌, ◌==◌, ◌&&◌, Bool, true, false, not, cond, IsTrue, List, [], ◌∷◌, ◌++◌, All, map, length, flat_map, filter_map, inl, inr, Option, Some, None, option_map, refl, sym, ap, subst, arith}
use Rattle.std.proofs.lemmas.Bool.{eq-eqb, false≢true}
use Rattle.std.proofs.lemmas.List.Elements.{All-nil, All-cons, All-head, All-tail, All-push}
use Rattle.std.specs.List.{list_any, list_all, cons_option}
use Rattle.std.specs.Option.{option_map_or}
use Rattle.std.specs.Prelude.{unwrap_or}
use Rattle.lang_base.specs.declared.effect.Access.{Access}
use Rattle.lang_base.specs.declared.effect.Access.TheVariants.{Read, Write}
use Rattle.lang_base.specs.declared.effect.Constraint.{Constraint}
use Rattle.lang_base.specs.declared.effect.Effect.{Effect}
use Rattle.lang_base.specs.declared.elems.Elem.TheVariants.{Star}
use Rattle.lang_base.specs.declared.refusal.Kind.TheVariants as kind
use Rattle.lang_base.specs.declared.region.Rpl.{Rpl}
use Rattle.lang_base.specs.Effects.{has_effect, added, gathered}
use Rattle.lang_base.specs.Regions.{fully_specified}
use Rattle.lang_base.specs.Types.{void}
use Rattle.decl_headers.specs.declared.header.ParamRow.{ParamRow}
use Rattle.decl_headers.specs.Passes.{fault_if}
use Rattle.syntax_tree.specs.declared.class.Formal.{Formal}
use Rattle.syntax_tree.specs.declared.class.Item.{Item}
use Rattle.syntax_tree.specs.declared.class.MethodResult.{MethodResult}
use Rattle.syntax_tree.specs.declared.class.MethodResult.TheVariants as outcome
use Rattle.syntax_tree.specs.declared.class.Parent.{Parent}
use Rattle.syntax_tree.specs.declared.class.SummaryTree.{SummaryTree}
use Rattle.syntax_tree.specs.declared.region.ConstrTree.{ConstrTree}
use Rattle.syntax_tree.specs.declared.region.RplTree.{RplTree}
use Rattle.syntax_tree.specs.declared.region.TypeTree.{TypeTree}
use Rattle.decl_resolve.specs.declared.paths.Need.{Need}
use Rattle.decl_resolve.specs.Args.{root_path, roots, args_given, args_faults, is_unfit}
use Rattle.decl_resolve.specs.Classes.{params_in, constraints_in, constraint_fault}
use Rattle.decl_resolve.specs.Constraints.{all_hold}
use Rattle.decl_resolve.specs.Index.{no_index}
use Rattle.decl_resolve.specs.Paths.{is_specified, is_plain, misfits}
use Rattle.decl_resolve.specs.Reading.{elem_faults, is_misplaced, head_faults, path_atomic, each_faults, arg_faults, arg_need, args_read}
use Rattle.decl_resolve.specs.Scopes.{PlainScope}
use Rattle.decl_resolve.specs.Written.{type_faults}
use Rattle.decl_classes.specs.Signatures.{rpl_meant, constraint_meant, constraints_meant, known_type, known_type_faults, region_of_field, field_region_faults, formal_types, formal_faults, result_type, result_faults, effect_meant, effects_meant, summary_meant, parent_args, parent_arg_faults, parent_faults, fit_faults}
use Rattle.decl_classes.specs.Summary.{anything}
use Rattle.lang_typed.specs.Plain.{PlainProgram}
use Rattle.lang_typed.specs.Scope.{Scope}
use Rattle.lang_typed.specs.Table.{GoodConstraint}
use Rattle.lang_typed.specs.Types.{GoodElem, GoodPath, LocalPath, GoodArgs, GoodType}
use Rattle.sound_lemmas.proofs.Free.{NoFaults, append_none, fault_none, joined_free, not_false}
use Rattle.sound_lemmas.proofs.Known.{path_known, type_known}
use Rattle.sound_lemmas.proofs.Lists.{and_then_there, map_there}
use Rattle.sound_decls.proofs.written.Args.{three_false, args_good}
use Rattle.sound_decls.proofs.written.Paths.{Meaning, path_begun, begun_either, path_full}
use Rattle.sound_decls.proofs.written.Types.{ClassesMean, type_good}

-- no suffix of a type has a number that isn't counted
abbrev pub Short : TypeTree → Type 0
Short tree = length tree.suffixes ≤ 4294967295

added_all : (G : Effect → Type 0) (es : List Effect) (f : Effect) → All G es → G f → All G (added es f)
added_all G es f all g = by (has_effect es f)
  where
    by : (b : Bool) → All G (cond b es (es ++ f ∷ []))
    by true = all
    by false = All-push G es f all g

gathered_all : (G : Effect → Type 0) (es fs : List Effect) → All G es → All G fs → All G (gathered es fs)
gathered_all G es [] all more = all
gathered_all G es (f ∷ fs) all more = gathered_all G (added es f) fs (added_all G es f all (All-head G f fs more)) (All-tail G f fs more)

-- with one more, where it is known
more_good : {A : Type 0} (G : A → Type 0) (o : Option A) (xs : List A) → ((x : A) → o ≡ Some x → G x) → All G xs → All G (cons_option o xs)
more_good G None xs good all = all
more_good G (Some x) xs good all = All-cons G x xs (good x refl) all

-- written arguments without faults are all known, and given
all_known : (scope : PlainScope) (need : ℕ → Need) (at : ℕ) (trees : List RplTree) → NoFaults (each_faults scope no_index need at trees) → length (filter_map (rpl_meant scope) trees) ≡ length trees
all_known scope need at [] free = refl
all_known scope need at (tree ∷ trees) free =
    ap (λ o. length (cons_option o (filter_map (rpl_meant scope) trees))) (path_known scope no_index (need at) tree free.0).1 ∙ ap suc (all_known scope need (at + 1) trees free.1)

args_there : (written : ℕ) (known : List Rpl) (params : List ParamRow) → length known ≡ written → is_unfit written params ≡ false → (rs : List Rpl) × (args_given written known params ≡ Some rs)
args_there written known params same fit = by (written == 0) (written == length params) (length known == written) (list_any (λ param. param.atomic) params) (eq-eqb (length known) written same) fit
  where
    by : (b c d any : Bool) → d ≡ true → cond b any (not c) ≡ false → (rs : List Rpl) × (cond b (Some (roots params)) (cond (c && d) (Some known) None) ≡ Some rs)
    by true c d any e fit = (roots params, refl)
    by false true true any e fit = (known, refl)
    by false true false any e fit = cc
    by false false d any e fit = cc

-- nothing is in scope but region parameters
module _ (P : PlainProgram) (L : Scope) (scope : PlainScope) (means : Meaning P L scope) (no_regions : (r : ℕ) → L.regions r ≡ false)
  where
    not_local : (a : Rpl) → LocalPath P L 0 a → ⊥
    not_local a h = let s = h.in_scope in false≢true (sym (no_regions h.region) ∙ s)

    pub path_good : (tree : RplTree) (a : Rpl) → rpl_meant scope tree ≡ Some a → GoodPath P L 0 a
    path_good tree a e = elim (begun_either P L scope means 0 a (path_begun P L scope means no_index 0 (omega arith) tree a e)) [ inl h ↦ h | inr h ↦ absurd (not_local a h) ]

    -- constraints
    constraint_good : (tree : ConstrTree) (g : Constraint) → constraint_meant scope tree ≡ Some g → GoodConstraint P L g
    constraint_good tree g e =
        let w = and_then_there (λ left. option_map (λ right. record { left = left; right = right }) (rpl_meant scope tree.right)) (rpl_meant scope tree.left) g e in
        let r = map_there (λ right. record { left = w.0; right = right }) (rpl_meant scope tree.right) g w.2 in
        subst (GoodConstraint P L) r.2 (path_good tree.left w.0 w.1, path_good tree.right r.0 r.1)

    pub constraints_good : (trees : List ConstrTree) → All (GoodConstraint P L) (constraints_meant scope trees)
    constraints_good [] = All-nil (GoodConstraint P L)
    constraints_good (tree ∷ trees) = more_good (GoodConstraint P L) (constraint_meant scope tree) (constraints_meant scope trees) (constraint_good tree) (constraints_good trees)

    -- the effects of a summary
    abbrev Stands : Effect → Type 0
    Stands e = GoodPath P L 0 e.rpl

    effect_good : (access : Access) (item : Item) (e : Effect) → effect_meant scope access item ≡ Some e → Stands e
    effect_good access item e h =
        let w = map_there (λ rpl. record { access = access; atomic = item.atomic; rpl = rpl }) (rpl_meant scope item.rpl) e h in
        subst Stands w.2 (path_good item.rpl w.0 w.1)

    effects_good : (access : Access) (items : List Item) → All Stands (effects_meant scope access items)
    effects_good access [] = All-nil Stands
    effects_good access (item ∷ items) = more_good Stands (effect_meant scope access item) (effects_meant scope access items) (effect_good access item) (effects_good access items)

    pub summary_good : (tree : Option SummaryTree) → All Stands (summary_meant scope tree)
    summary_good None = All-cons Stands anything [] (record { begins = tt; elems = All-cons (GoodElem P L 0) Star [] tt (All-nil (GoodElem P L 0)) }) (All-nil Stands)
    summary_good (Some tree) =
        gathered_all Stands (gathered [] (effects_meant scope Read tree.reads)) (effects_meant scope Write tree.writes)
        (gathered_all Stands [] (effects_meant scope Read tree.reads) (All-nil Stands) (effects_good Read tree.reads)) (effects_good Write tree.writes)

    -- the region of a field
    pub region_good : (tree : Option RplTree) → field_region_faults scope tree ≡ [] → GoodPath P L 0 (region_of_field scope tree) × IsTrue (fully_specified (region_of_field scope tree))
    region_good None free = (record { begins = tt; elems = All-nil _ }, refl)
    region_good (Some tree) free =
        let w = path_known scope no_index (record { full = true; atomic = false }) tree free in
        let unfit = misfits (record { full = true; atomic = false }) tree.elems (path_atomic scope tree) (list_any (is_misplaced scope no_index) tree.elems) in
        let f = append_none (head_faults scope tree.head ++ flat_map (elem_faults scope no_index) tree.elems) (fault_if unfit kind.RegionArgs tree.place) free in
        let m = three_false true (list_all is_specified tree.elems) false (is_plain (path_atomic scope tree)) (list_any (is_misplaced scope no_index) tree.elems) (fault_none unfit kind.RegionArgs tree.place f.1) in
        subst (λ o. GoodPath P L 0 (unwrap_or o root_path) × IsTrue (fully_specified (unwrap_or o root_path))) (sym w.1)
        (path_good tree w.0 w.1, path_full P L scope means no_index tree w.0 (m.0 refl) w.1)

    -- types
    module _ (classes : ClassesMean P scope) where
      pub known_good : (tree : TypeTree) → Short tree → known_type_faults scope tree ≡ [] → GoodType P L 0 (known_type scope tree)
      known_good tree few free =
          let parts = joined_free (type_faults scope tree) free in
          let w = type_known scope tree parts in
          subst (GoodType P L 0) (sym (ap (λ o. unwrap_or o void) w.1)) (type_good P L scope means classes tree w.0 few parts w.1)

      pub formals_good : (formals : List Formal) → All (λ (formal : Formal). Short formal.ty) formals → formal_faults scope formals ≡ [] → All (GoodType P L 0) (formal_types scope formals)
      formals_good [] few free = All-nil (GoodType P L 0)
      formals_good (formal ∷ formals) few free =
          let f = append_none (known_type_faults scope formal.ty) (formal_faults scope formals) free in
          All-cons (GoodType P L 0) (known_type scope formal.ty) (formal_types scope formals)
          (known_good formal.ty (All-head (λ (formal : Formal). Short formal.ty) formal formals few) f.0)
          (formals_good formals (All-tail (λ (formal : Formal). Short formal.ty) formal formals few) f.1)

      pub result_good : (r : MethodResult) → ((tree : TypeTree) → r ≡ outcome.Value tree → Short tree) → result_faults scope r ≡ [] → (result_type scope r ≡ void) ⊎ GoodType P L 0 (result_type scope r)
      result_good outcome.Constructor few free = inl refl
      result_good outcome.Void few free = inl refl
      result_good (outcome.Value tree) few free = inr (known_good tree (few tree refl) free)

    -- the region arguments of a superclass
    pub record ParentRead (tree : Parent) (above : ℕ) : Type 0 where
      pub args : List Rpl
      pub is : parent_args scope tree above ≡ Some args
      pub good : GoodArgs P L 0 (map (λ param. param.atomic) (params_in scope.headers above)) (constraints_in scope.classes_given above) [] args
      pub full : All (λ a. IsTrue (fully_specified a)) args

    pub parent_good : (tree : Parent) (above : ℕ) → parent_faults scope tree above ≡ [] → ParentRead tree above
    parent_good tree above free =
        let params = params_in scope.headers above in
        let f = append_none (parent_arg_faults scope tree.args above) (fit_faults scope (args_read scope no_index tree.args) tree above) free in
        let parts = joined_free (arg_faults scope no_index params true tree.args) f.0 in
        let g = append_none (args_faults (args_read scope no_index tree.args).local (length tree.args) params tree.name.place) _ f.1 in
        let l = append_none _ (fault_if (is_unfit (length tree.args) params) kind.RegionArgs tree.name.place) g.0 in
        let fit = fault_none (is_unfit (length tree.args) params) kind.RegionArgs tree.name.place l.1 in
        let w = args_there (length tree.args) (args_read scope no_index tree.args).paths params (all_known scope (arg_need params true (length tree.args)) 0 tree.args parts) fit in
        let hold = held w.0 (parent_args scope tree above) w.1 g.1 in
        let a = args_good P L scope means no_index 0 (omega arith) params true tree.name.place tree.args w.0 [] (constraints_in scope.classes_given above) parts g.0 w.1 hold in
        record { args = w.0; is = w.1; good = a.0; full = a.1 refl }
      where
        held : (rs : List Rpl) (o : Option (List Rpl)) → o ≡ Some rs → option_map_or (constraint_fault scope.given (constraints_in scope.classes_given above) tree.name.place) o [] ≡ [] →
            all_hold scope.given rs (constraints_in scope.classes_given above) ≡ true
        held rs o is h =
            not_false (all_hold scope.given rs (constraints_in scope.classes_given above))
            (fault_none (not (all_hold scope.given rs (constraints_in scope.classes_given above))) kind.Constraint tree.name.place
            (sym (ap (λ z. option_map_or (constraint_fault scope.given (constraints_in scope.classes_given above) tree.name.place) z []) is) ∙ h))
