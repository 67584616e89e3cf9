-- What is written where nothing is in scope but region parameters: paths and types over these.
use Rattle.std.proofs.Common.{◌≡◌, ◌∙◌, ◌⊎◌, ℕ, suc, ◌+◌, ◌<◌, ◌≤◌, ◌==◌, ◌&&◌, Bool, true, false, cond, List, [], ◌∷◌, length, filter_map, inl, inr, Option, None, Some, option_map, option_and_then, refl, ap, subst, arith}
use Rattle.std.proofs.lemmas.Bool.{eqb-true}
use Rattle.std.proofs.lemmas.List.{length-map}
use Rattle.std.proofs.lemmas.Option.{slice_get_within}
use Rattle.std.specs.List.{cons_option}
use Rattle.std.specs.Option.{option_map_or, option_or, option_flatten}
use Rattle.std.specs.Prelude.{slice_get}
use Rattle.lang_base.specs.declared.elems.Elem.{Elem}
use Rattle.lang_base.specs.declared.elems.Elem.TheVariants.{Name, At}
use Rattle.lang_base.specs.declared.elems.Index.{Index}
use Rattle.lang_base.specs.declared.elems.Index.TheVariants.{Variable, Own}
use Rattle.lang_base.specs.declared.region.Rpl.{Rpl}
use Rattle.lang_base.specs.Types.{PlainType}
use Rattle.lang_base.specs.Types.PlainType.{class, array}
use Rattle.decl_headers.specs.declared.header.Header.{Header}
use Rattle.decl_headers.specs.declared.header.Headers.{Headers}
use Rattle.decl_headers.specs.declared.header.ParamRow.{ParamRow}
use Rattle.decl_headers.specs.Headers.{class_of, param_of}
use Rattle.decl_headers.specs.Numbers.{as_number, last_place}
use Rattle.syntax_tree.specs.declared.region.BaseTree.{BaseTree}
use Rattle.syntax_tree.specs.declared.region.BaseTree.TheVariants as base
use Rattle.syntax_tree.specs.declared.region.ElemTree.{ElemTree}
use Rattle.syntax_tree.specs.declared.region.ElemTree.TheVariants as elem
use Rattle.syntax_tree.specs.declared.region.RplHead.{RplHead}
use Rattle.syntax_tree.specs.declared.region.RplHead.TheVariants as head
use Rattle.syntax_tree.specs.declared.region.RplTree.{RplTree}
use Rattle.syntax_tree.specs.declared.region.Named.{Named}
use Rattle.syntax_tree.specs.declared.region.Suffix.{Suffix}
use Rattle.syntax_tree.specs.declared.region.TypeTree.{TypeTree}
use Rattle.decl_resolve.specs.declared.scope.ParamFound.{ParamFound}
use Rattle.decl_resolve.specs.Args.{root_path, roots, args_given}
use Rattle.decl_resolve.specs.Classes.{params_in, class_args, class_type}
use Rattle.decl_resolve.specs.Index.{PlainIndex, index_name}
use Rattle.decl_resolve.specs.Paths.{region_meant}
use Rattle.decl_resolve.specs.Reading.{elem_meant, below_root, begun, head_meant, longer, goes_on, path_meant, args_read}
use Rattle.decl_resolve.specs.Scoped.{values_in, value_in, place_in}
use Rattle.decl_resolve.specs.Scopes.{PlainScope, class_param, after_class, method_param, param_meant}
use Rattle.decl_resolve.specs.Written.{base_read, suffix_meant, at_suffix, paths_from, is_indexed, arrays_from, base_type, type_index, type_meant}
use Rattle.sound_bodies.specs.Naming.{Nothing, ElemNames}
use Rattle.sound_bodies.proofs.scope.InParams.{PathIn, PathsIn, TypeIn}
use Rattle.sound_bodies.proofs.scope.InScope.{names_append}
use Rattle.sound_decls.proofs.written.Paths.{goes_step, none_goes_on}
use Rattle.sound_lemmas.proofs.Lists.{some_same, and_then_there, map_there}

-- nothing is in scope but so many region parameters
pub record Closed (n : ℕ) (scope : PlainScope) : Type 0 where
  pub params : (name : ℕ) (param : ParamFound) → param_meant scope name ≡ Some param → (param.number < n) × (param.number ≤ 4294967295)
  pub variables : (name slot : ℕ) → value_in scope.variables name ≡ Some (Some slot) → ⊥
  pub regions : (name number : ℕ) → value_in scope.regions name ≡ Some number → ⊥

-- the parameters of a class and of a method are so many
pub last_within : {A : Type 0} (test : A → Bool) (at : ℕ) (rows : List A) (found : Option ℕ) (number : ℕ) → last_place test at rows found ≡ Some number →
    (found ≡ Some number) ⊎ ((number < at + length rows) × (number ≤ 4294967295))
last_within test at [] found number e = inl e
last_within test at (row ∷ rows) found number e = by (test row) (last_within test (at + 1) rows (cond (test row) (Some (as_number at)) found) number e)
  where
    by : (b : Bool) → (cond b (Some (as_number at)) found ≡ Some number) ⊎ ((number < at + 1 + length rows) × (number ≤ 4294967295)) → (found ≡ Some number) ⊎ ((number < at + suc (length rows)) × (number ≤ 4294967295))
    by true (inl h) = let same = some_same h in inr (omega (arith, same), omega (arith, same))
    by false (inl h) = inl h
    by b (inr h) = inr (omega (arith, h.0), h.1)

class_number : (headers : Headers) (at name number : ℕ) → param_of headers at name ≡ Some number → (number < length (params_in headers at)) × (number ≤ 4294967295)
class_number headers at name number e = by (slice_get headers.rows at) e
  where
    by : (o : Option Header) → option_and_then (λ (header : Header). last_place (λ param. param.name == name) 0 header.params None) o ≡ Some number → (number < length (option_map_or (λ (header : Header). header.params) o [])) × (number ≤ 4294967295)
    by None e = cc
    by (Some header) e = elim (last_within (λ (param : ParamRow). param.name == name) 0 header.params None number e) [
      | inl none ↦ absurd (cc (none))
      | inr w ↦ (omega (arith, w.0), w.1)
    ]

pub params_number : (scope : PlainScope) (name : ℕ) (param : ParamFound) → param_meant scope name ≡ Some param → (param.number < length (params_in scope.headers scope.class) + length (values_in scope.params)) × (param.number ≤ 4294967295)
params_number scope name param e = by (param_of scope.headers scope.class name) refl e
  where
    own : List ParamRow
    own = params_in scope.headers scope.class

    by : (o : Option ℕ) → param_of scope.headers scope.class name ≡ o → option_map_or (λ number. Some (class_param own number)) o (method_param scope name) ≡ Some param → (param.number < length own + length (values_in scope.params)) × (param.number ≤ 4294967295)
    by (Some number) is e =
        let w = class_number scope.headers scope.class name number is in
        let same = ap (λ (p : ParamFound). p.number) (some_same e) in
        (omega (arith, w.0, same), omega (arith, w.1, same))
    by None is e =
        let w = and_then_there (λ place. after_class own (values_in scope.params) place) (place_in scope.params name) param e in
        let v = map_there (λ (atomic : Bool). record { number = as_number (length own + w.0); atomic = atomic }) (slice_get (values_in scope.params) w.0) param w.2 in
        let l = slice_get_within (values_in scope.params) w.0 v.0 v.1 in
        let same = ap (λ (p : ParamFound). p.number) v.2 in
        (omega (arith, l, same), omega (arith, same))

module _ (n : ℕ) (scope : PlainScope) (closed : Closed n scope)
  where
    elem_closed : (around : PlainIndex) (x : ElemTree) (e : Elem) → elem_meant scope around x ≡ Some e → ElemNames Nothing Nothing e
    elem_closed around (elem.Name name) e is =
        let w = map_there (λ number. Name number) (region_meant scope.headers scope.class name) e is in
        subst (ElemNames Nothing Nothing) w.2 tt
    elem_closed around elem.Star e is = subst (ElemNames Nothing Nothing) (some_same is) tt
    elem_closed around elem.Any e is = subst (ElemNames Nothing Nothing) (some_same is) tt
    elem_closed around (elem.Lit k) e is = subst (ElemNames Nothing Nothing) (some_same is) tt
    elem_closed around (elem.Index named) e is = by (index_name around named.name) refl (value_in scope.variables named.name) refl is
      where
        own_names : (o : Option ℕ) (index : Index) → option_map (λ depth. Own (as_number depth)) o ≡ Some index → ElemNames Nothing Nothing (At index)
        own_names None index h = cc
        own_names (Some depth) index h = subst (λ i. ElemNames Nothing Nothing (At i)) (some_same h) tt

        by : (o : Option Index) → index_name around named.name ≡ o → (v : Option (Option ℕ)) → value_in scope.variables named.name ≡ v →
            option_map (λ index. At index) (option_or o (option_map (λ slot. Variable slot) (option_flatten v))) ≡ Some e → ElemNames Nothing Nothing e
        by (Some index) own v value h = subst (ElemNames Nothing Nothing) (some_same h) (own_names _ index own)
        by None own None value h = cc
        by None own (Some None) value h = cc
        by None own (Some (Some slot)) value h = absurd (closed.variables named.name slot value)

    on_closed : (around : PlainIndex) (elems : List ElemTree) (b a : Rpl) → PathIn n b → goes_on scope around (Some b) elems ≡ Some a → PathIn n a
    on_closed around [] b a h is = subst (PathIn n) (some_same is) h
    on_closed around (x ∷ elems) b a h is =
        let w = goes_step scope around x elems b a is in
        on_closed around elems (longer b w.0) a (h.0, names_append Nothing Nothing b.elems (w.0 ∷ []) h.1 (elem_closed around x w.0 w.1, tt)) w.2

    head_closed : (h : RplHead) (a : Rpl) → head_meant scope h ≡ Some a → PathIn n a
    head_closed head.Root a is = subst (PathIn n) (some_same is) (tt, tt)
    head_closed (head.Name name) a is = by name.second (region_meant scope.headers scope.class name) is
      where
        begins : (o : Option ParamFound) → ((param : ParamFound) → o ≡ Some param → (param.number < n) × (param.number ≤ 4294967295)) → (l : Option ℕ) → ((number : ℕ) → l ≡ Some number → ⊥) → (r : Option ℕ) → begun o l r ≡ Some a → PathIn n a
        begins (Some param) known l local r h = subst (PathIn n) (some_same h) (known param refl, tt)
        begins None known (Some decl) local r h = absurd (local decl refl)
        begins None known None local r h = let w = map_there (λ m. below_root (Name m)) r a h in subst (PathIn n) w.2 (tt, (tt, tt))

        by : (second : Option Named) (r : Option ℕ) → begun (option_map_or (λ second. None) second (param_meant scope name.first.name)) (option_map_or (λ second. None) second (value_in scope.regions name.first.name)) r ≡ Some a → PathIn n a
        by None r h = begins (param_meant scope name.first.name) (closed.params name.first.name) (value_in scope.regions name.first.name) (closed.regions name.first.name) r h
        by (Some second) r h = begins None (λ param none. cc) None (λ number none. cc) r h

    pub path_closed : (around : PlainIndex) (tree : RplTree) (a : Rpl) → path_meant scope around tree ≡ Some a → PathIn n a
    path_closed around tree a is = by (head_meant scope tree.head) refl is
      where
        by : (o : Option Rpl) → head_meant scope tree.head ≡ o → goes_on scope around o tree.elems ≡ Some a → PathIn n a
        by None first h = absurd (none_goes_on scope around tree.elems a h)
        by (Some b) first h = on_closed around tree.elems b a (head_closed tree.head b first) h

    pub paths_closed : (around : PlainIndex) (trees : List RplTree) → PathsIn n (filter_map (path_meant scope around) trees)
    paths_closed around [] = tt
    paths_closed around (tree ∷ trees) = by (path_meant scope around tree) refl (paths_closed around trees)
      where
        by : (o : Option Rpl) → path_meant scope around tree ≡ o → PathsIn n (filter_map (path_meant scope around) trees) → PathsIn n (cons_option o (filter_map (path_meant scope around) trees))
        by None is more = more
        by (Some a) is more = (path_closed around tree a is, more)

    roots_closed : (params : List ParamRow) → PathsIn n (roots params)
    roots_closed [] = tt
    roots_closed (param ∷ params) = ((tt, tt), roots_closed params)

    -- region arguments that are read, as many as there are parameters
    pub args_closed : (around : PlainIndex) (trees : List RplTree) (params : List ParamRow) (rs : List Rpl) → args_given (length trees) (filter_map (path_meant scope around) trees) params ≡ Some rs →
        PathsIn n rs × (length rs ≡ length params)
    args_closed around trees params rs is = by (length trees == 0) (length trees == length params) refl (length known == length trees) refl is
      where
        known : List Rpl
        known = filter_map (path_meant scope around) trees

        by : (b c : Bool) → (length trees == length params) ≡ c → (d : Bool) → (length known == length trees) ≡ d → cond b (Some (roots params)) (cond (c && d) (Some known) None) ≡ Some rs → PathsIn n rs × (length rs ≡ length params)
        by true c fits d all h = subst (λ z. PathsIn n z × (length z ≡ length params)) (some_same h) (roots_closed params, length-map params (λ param. root_path))
        by false true fits true all h =
            subst (λ z. PathsIn n z × (length z ≡ length params)) (some_same h)
            (paths_closed around trees, eqb-true (length known) (length trees) all ∙ eqb-true (length trees) (length params) fits)
        by false true fits false all h = cc
        by false false fits d all h = cc

    class_closed : (around : PlainIndex) (trees : List RplTree) (o : Option ℕ) (t : PlainType) → class_type scope.headers o (args_read scope around trees) ≡ Some t → TypeIn n t
    class_closed around trees None t is = cc
    class_closed around trees (Some at) t is =
        let w = map_there (class at) (class_args scope.headers at (args_read scope around trees)) t is in
        subst (TypeIn n) w.2 (args_closed around trees (params_in scope.headers at) w.0 w.1).0

    suffixes_closed : (around : PlainIndex) (at : ℕ) (suffixes : List Suffix) → PathsIn n (paths_from scope around at suffixes)
    suffixes_closed around at [] = tt
    suffixes_closed around at (suffix ∷ suffixes) = by (suffix_meant scope (at_suffix around at) suffix) (own suffix.rpl) (suffixes_closed around (at + 1) suffixes)
      where
        own : (r : Option RplTree) (a : Rpl) → option_map_or (path_meant scope (at_suffix around at)) r (Some root_path) ≡ Some a → PathIn n a
        own None a h = subst (PathIn n) (some_same h) (tt, tt)
        own (Some tree) a h = path_closed (at_suffix around at) tree a h

        by : (o : Option Rpl) → ((a : Rpl) → o ≡ Some a → PathIn n a) → PathsIn n (paths_from scope around (at + 1) suffixes) → PathsIn n (cons_option o (paths_from scope around (at + 1) suffixes))
        by None known more = more
        by (Some a) known more = (known a refl, more)

    arrays_closed : (around : PlainIndex) (at : ℕ) (t : PlainType) (rpls : List Rpl) → TypeIn n t → PathsIn n rpls → TypeIn n (arrays_from around at t rpls)
    arrays_closed around at t [] h k = h
    arrays_closed around at t (a ∷ rpls) h k = arrays_closed around (at + 1) (array t a (is_indexed around at)) rpls (k.0, h) k.1

    -- a written type, where it is known
    pub type_closed : (tree : TypeTree) (t : PlainType) → type_meant scope tree ≡ Some t → TypeIn n t
    type_closed tree t is =
        by (length paths == length around.suffixes) (base_type scope (base_read scope around tree.base)) (base_closed tree.base) is
      where
        around : PlainIndex
        around = type_index tree

        paths : List Rpl
        paths = paths_from scope around 0 around.suffixes

        base_closed : (b : BaseTree) (u : PlainType) → base_type scope (base_read scope around b) ≡ Some u → TypeIn n u
        base_closed base.Int u h = subst (TypeIn n) (some_same h) tt
        base_closed base.Bool u h = subst (TypeIn n) (some_same h) tt
        base_closed (base.Class name args) u h = class_closed around args (class_of scope.headers name.name) u h

        by : (b : Bool) (o : Option PlainType) → ((u : PlainType) → o ≡ Some u → TypeIn n u) → cond b (option_map (λ elem. arrays_from around 0 elem paths) o) None ≡ Some t → TypeIn n t
        by false o known h = cc
        by true None known h = cc
        by true (Some u) known h = subst (TypeIn n) (some_same h) (arrays_closed around 0 u paths (known u refl) (suffixes_closed around 0 around.suffixes))
