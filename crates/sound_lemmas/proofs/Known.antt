-- A written type without faults is known.
use Rattle.std.proofs.Common.{◌≡◌, ◌∙◌, ℕ, suc, ◌+◌, ◌==◌, ◌&&◌, Bool, true, false, not, is_none, cond, List, [], ◌∷◌, ◌++◌, length, flat_map, filter_map, Option, None, Some, option_map, option_and_then, refl, ap}
use Rattle.std.proofs.lemmas.Bool.{eq-eqb}
use Rattle.std.specs.List.{list_any, list_all, cons_option}
use Rattle.std.specs.Option.{option_map_or, option_or, option_flatten}
use Rattle.lang_base.specs.declared.elems.Elem.{Elem}
use Rattle.lang_base.specs.declared.elems.Elem.TheVariants.{Name, At, Any, Star}
use Rattle.lang_base.specs.declared.elems.Index.{Index}
use Rattle.lang_base.specs.declared.elems.Index.TheVariants.{Literal, Variable}
use Rattle.lang_base.specs.declared.place.Place.{Place}
use Rattle.lang_base.specs.declared.refusal.Kind.{Kind}
use Rattle.lang_base.specs.declared.refusal.Kind.TheVariants as kind
use Rattle.lang_base.specs.declared.region.Rpl.{Rpl}
use Rattle.lang_base.specs.Types.{PlainType}
use Rattle.lang_base.specs.Types.PlainType.{int, boolean, class}
use Rattle.decl_headers.specs.declared.header.Headers.{Headers}
use Rattle.decl_headers.specs.declared.header.ParamRow.{ParamRow}
use Rattle.decl_headers.specs.Headers.{class_of, region_of}
use Rattle.decl_headers.specs.Passes.{fault_if}
use Rattle.syntax_tree.specs.declared.region.BaseTree.{BaseTree}
use Rattle.syntax_tree.specs.declared.region.BaseTree.TheVariants as base
use Rattle.syntax_tree.specs.declared.region.ElemTree.{ElemTree}
use Rattle.syntax_tree.specs.declared.region.ElemTree.TheVariants as elem
use Rattle.syntax_tree.specs.declared.region.Named.{Named}
use Rattle.syntax_tree.specs.declared.region.RName.{RName}
use Rattle.syntax_tree.specs.declared.region.RplHead.{RplHead}
use Rattle.syntax_tree.specs.declared.region.RplHead.TheVariants as head
use Rattle.syntax_tree.specs.declared.region.RplTree.{RplTree}
use Rattle.syntax_tree.specs.declared.region.Suffix.{Suffix}
use Rattle.syntax_tree.specs.declared.region.TypeTree.{TypeTree}
use Rattle.decl_resolve.specs.declared.paths.Need.{Need}
use Rattle.decl_resolve.specs.declared.scope.ParamFound.{ParamFound}
use Rattle.decl_resolve.specs.Args.{root_path, roots, args_given, args_faults, local_fault, is_unfit}
use Rattle.decl_resolve.specs.Classes.{params_in, class_faults, class_type}
use Rattle.decl_resolve.specs.Index.{PlainIndex, index_name}
use Rattle.decl_resolve.specs.Paths.{region_meant, region_faults, second_faults, is_specified, is_plain, misfits}
use Rattle.decl_resolve.specs.Reading.{elem_meant, elem_faults, is_barred, is_misplaced, head_param, head_local, below_root, begun, head_meant, head_faults, path_atomic, longer, longer_if, goes_on, path_meant, path_faults, arg_need, each_faults, arg_faults, args_read}
use Rattle.decl_resolve.specs.Scoped.{value_in}
use Rattle.decl_resolve.specs.Scopes.{PlainScope}
use Rattle.decl_resolve.specs.Written.{no_need, base_read, base_parts, at_suffix, suffix_meant, suffix_parts, paths_from, parts_from, type_read, type_parts, base_type, base_faults, arrays_from, judged_faults, type_index, type_meant, type_faults}
use Rattle.sound_lemmas.proofs.Free.{append_none, fault_none, NoFaults, free_split, or_false, last_false}

some_there : {A : Type 0} (o : Option A) (reason : Kind) (place : Place) → fault_if (is_none o) reason place ≡ [] → (x : A) × (o ≡ Some x)
some_there None reason place free = cc
some_there (Some x) reason place free = (x, refl)

region_known : (headers : Headers) (at : ℕ) (name : RName) → region_faults headers at name ≡ [] → (n : ℕ) × (region_meant headers at name ≡ Some n)
region_known headers at name free = by name.second free
  where
    of_class : (second : Named) (o : Option ℕ) → option_map_or (λ c. second_faults headers c second) o (fault_if true kind.Unknown name.first.place) ≡ []
        → (n : ℕ) × (option_and_then (λ c. region_of headers c second.name) o ≡ Some n)
    of_class second None free = cc
    of_class second (Some c) free = some_there (region_of headers c second.name) kind.Unknown second.place free

    by : (o : Option Named) → option_map_or (λ second. option_map_or (λ c. second_faults headers c second) (class_of headers name.first.name) (fault_if true kind.Unknown name.first.place)) o
        (fault_if (is_none (region_of headers at name.first.name)) kind.Unknown name.first.place) ≡ []
        → (n : ℕ) × (option_map_or (λ second. option_and_then (λ c. region_of headers c second.name) (class_of headers name.first.name)) o (region_of headers at name.first.name) ≡ Some n)
    by None free = some_there (region_of headers at name.first.name) kind.Unknown name.first.place free
    by (Some second) free = of_class second (class_of headers name.first.name) free

module _ (scope : PlainScope) (around : PlainIndex)
  where
    elem_known : (x : ElemTree) → elem_faults scope around x ≡ [] → is_misplaced scope around x ≡ false → (e : Elem) × (elem_meant scope around x ≡ Some e)
    elem_known (elem.Name name) free placed =
        let w = region_known scope.headers scope.class name free in
        (Name w.0, ap (option_map (λ number. Name number)) w.1)
    elem_known elem.Star free placed = (Star, refl)
    elem_known elem.Any free placed = (Any, refl)
    elem_known (elem.Lit k) free placed = (At (Literal k), refl)
    elem_known (elem.Index named) free placed = by (index_name around named.name) (value_in scope.variables named.name) free placed
      where
        by : (o : Option Index) (v : Option (Option ℕ)) → fault_if (is_none o && is_none v) kind.Unknown named.place ≡ [] → (is_none o && is_barred v) ≡ false
            → (e : Elem) × (option_map (λ index. At index) (option_or o (option_map (λ slot. Variable slot) (option_flatten v))) ≡ Some e)
        by (Some index) v free placed = (At index, refl)
        by None None free placed = cc
        by None (Some None) free placed = cc
        by None (Some (Some slot)) free placed = (At (Variable slot), refl)

    head_known : (h : RplHead) → head_faults scope h ≡ [] → (r : Rpl) × (head_meant scope h ≡ Some r)
    head_known head.Root free = (root_path, refl)
    head_known (head.Name name) free = by (head_param scope name) (head_local scope name) free
      where
        by : (p : Option ParamFound) (l : Option ℕ) → cond (is_none p && is_none l) (region_faults scope.headers scope.class name) [] ≡ []
            → (r : Rpl) × (begun p l (region_meant scope.headers scope.class name) ≡ Some r)
        by (Some param) l free = (_, refl)
        by None (Some decl) free = (_, refl)
        by None None free =
            let w = region_known scope.headers scope.class name free in
            (below_root (Name w.0), ap (option_map (λ n. below_root (Name n))) w.1)

    on_known : (elems : List ElemTree) (rpl : Rpl) → flat_map (elem_faults scope around) elems ≡ [] → list_any (is_misplaced scope around) elems ≡ false
        → (r : Rpl) × (goes_on scope around (Some rpl) elems ≡ Some r)
    on_known [] rpl free placed = (rpl, refl)
    on_known (x ∷ elems) rpl free placed =
        let f = append_none (elem_faults scope around x) (flat_map (elem_faults scope around) elems) free in
        let p = or_false (is_misplaced scope around x) (list_any (is_misplaced scope around) elems) placed in
        let e = elem_known x f.0 p.0 in
        let r = on_known elems (longer rpl e.0) f.1 p.1 in
        (r.0, ap (λ o. goes_on scope around (longer_if (Some rpl) o) elems) e.1 ∙ r.1)

    pub path_known : (need : Need) (tree : RplTree) → path_faults scope around need tree ≡ [] → (r : Rpl) × (path_meant scope around tree ≡ Some r)
    path_known need tree free =
        let unfit = misfits need tree.elems (path_atomic scope tree) (list_any (is_misplaced scope around) tree.elems) in
        let f = append_none (head_faults scope tree.head ++ flat_map (elem_faults scope around) tree.elems) (fault_if unfit kind.RegionArgs tree.place) free in
        let g = append_none (head_faults scope tree.head) (flat_map (elem_faults scope around) tree.elems) f.0 in
        let m = fault_none unfit kind.RegionArgs tree.place f.1 in
        let p = last_false (need.full && not (list_all is_specified tree.elems)) (need.atomic && is_plain (path_atomic scope tree)) (list_any (is_misplaced scope around) tree.elems) m in
        let h = head_known tree.head g.0 in
        let r = on_known tree.elems h.0 g.1 p in
        (r.0, ap (λ o. goes_on scope around o tree.elems) h.1 ∙ r.1)

    -- arguments without faults are known, and as many as are written
    pub args_known : (need : ℕ → Need) (at : ℕ) (trees : List RplTree) → NoFaults (each_faults scope around need at trees) → length (filter_map (path_meant scope around) trees) ≡ length trees
    args_known need at [] free = refl
    args_known need at (tree ∷ trees) free =
        let p = path_known (need at) tree free.0 in
        ap (λ o. length (cons_option o (filter_map (path_meant scope around) trees))) p.1 ∙ ap suc (args_known need (at + 1) trees free.1)

pub given_known : (written : ℕ) (known : List Rpl) (params : List ParamRow) → length known ≡ written → is_unfit written params ≡ false → (rs : List Rpl) × (args_given written known params ≡ Some rs)
given_known written known params same fit =
    by (written == 0) (written == length params) (length known == written) (list_any (λ param. param.atomic) params) (eq-eqb (length known) written same) fit
  where
    by : (b c d any : Bool) → d ≡ true → cond b any (not c) ≡ false → (rs : List Rpl) × (cond b (Some (roots params)) (cond (c && d) (Some known) None) ≡ Some rs)
    by true c d any e fit = (roots params, refl)
    by false true true any e fit = (known, refl)
    by false true false any e fit = cc
    by false false d any e fit = cc

suffix_known : (scope : PlainScope) (around : PlainIndex) (suffix : Suffix) → NoFaults (suffix_parts scope around suffix) → (r : Rpl) × (suffix_meant scope around suffix ≡ Some r)
suffix_known scope around suffix free = by suffix.rpl free
  where
    by : (o : Option RplTree) → NoFaults (option_map_or (λ tree. path_faults scope around no_need tree ∷ []) o []) → (r : Rpl) × (option_map_or (path_meant scope around) o (Some root_path) ≡ Some r)
    by None free = (root_path, refl)
    by (Some tree) free = path_known scope around no_need tree free.0

paths_known : (scope : PlainScope) (around : PlainIndex) (at : ℕ) (suffixes : List Suffix) → NoFaults (parts_from scope around at suffixes) → length (paths_from scope around at suffixes) ≡ length suffixes
paths_known scope around at [] free = refl
paths_known scope around at (suffix ∷ suffixes) free =
    let f = free_split (suffix_parts scope (at_suffix around at) suffix) (parts_from scope around (at + 1) suffixes) free in
    let s = suffix_known scope (at_suffix around at) suffix f.0 in
    ap (λ o. length (cons_option o (paths_from scope around (at + 1) suffixes))) s.1 ∙ ap suc (paths_known scope around (at + 1) suffixes f.1)

base_known : (scope : PlainScope) (around : PlainIndex) (tree : BaseTree) (place : Place) → NoFaults (base_parts scope around tree) → base_faults scope (base_read scope around tree) place ≡ []
    → (t : PlainType) × (base_type scope (base_read scope around tree) ≡ Some t)
base_known scope around base.Int place parts free = (int, refl)
base_known scope around base.Bool place parts free = (boolean, refl)
base_known scope around (base.Class name args) place parts free = by (class_of scope.headers name.name) parts free
  where
    by : (o : Option ℕ) → NoFaults (arg_faults scope around (option_map_or (params_in scope.headers) o []) false args) →
        class_faults scope.headers scope.classes_given scope.given name o (args_read scope around args) place ≡ [] → (t : PlainType) × (class_type scope.headers o (args_read scope around args) ≡ Some t)
    by None parts free = cc
    by (Some at) parts free =
        let params = params_in scope.headers at in
        let f = append_none (args_faults (args_read scope around args).local (length args) params place) _ free in
        let g = append_none (local_fault (args_read scope around args).local false) _ f.0 in
        let fit = fault_none (is_unfit (length args) params) kind.RegionArgs place g.1 in
        let w = given_known (length args) (filter_map (path_meant scope around) args) params (args_known scope around (arg_need params false (length args)) 0 args parts) fit in
        (class at w.0, ap (option_map (class at)) w.1)

-- a written type without faults is known
pub type_known : (scope : PlainScope) (tree : TypeTree) → NoFaults (type_faults scope tree) → (t : PlainType) × (type_meant scope tree ≡ Some t)
type_known scope tree free =
    let around = type_index tree in
    let f = free_split (type_parts scope around tree.base) (judged_faults scope around (type_read scope around tree.base) tree.place ∷ []) free in
    let g = free_split (base_parts scope around tree.base) (parts_from scope around 0 tree.suffixes) f.0 in
    let j = append_none _ (base_faults scope (base_read scope around tree.base) tree.place) f.1.0 in
    let b = base_known scope around tree.base tree.place g.0 j.1 in
    let n = paths_known scope around 0 tree.suffixes g.1 in (
      arrays_from around 0 b.0 (paths_from scope around 0 tree.suffixes),
      ap (λ z. cond z (option_map (λ elem. arrays_from around 0 elem (paths_from scope around 0 tree.suffixes)) (base_type scope (base_read scope around tree.base))) None)
          (eq-eqb (length (paths_from scope around 0 tree.suffixes)) (length tree.suffixes) n)
          ∙ ap (option_map (λ elem. arrays_from around 0 elem (paths_from scope around 0 tree.suffixes))) b.1,
    )
