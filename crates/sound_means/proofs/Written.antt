-- Written paths, region arguments and types mean what the checker takes them for.
use Rattle.std.proofs.Common.{◌≡◌, ◌∙◌, ℕ, zero, suc, ◌+◌, ◌<◌, ◌≤◌, ◌==◌, ◌&&◌, Bool, true, false, cond, is_some, List, [], ◌∷◌, ◌++◌, map, drop, length, filter_map, slice_get, append_assoc, Option, Some, None, option_map, Result, Ok, Err, refl, sym, ap, subst, arith}
use Rattle.std.proofs.lemmas.Bool.{eqb-true}
use Rattle.std.proofs.lemmas.List.{append-nil, length-append, length-map}
use Rattle.std.specs.List.{AllZip, cons_option, position_from}
use Rattle.std.specs.Option.{option_map_or, option_or, option_flatten}
use Rattle.std.specs.Prelude.{option_and_then}
use Rattle.lang_base.specs.declared.elems.Elem.{Elem}
use Rattle.lang_base.specs.declared.elems.Elem.TheVariants.{Name, At}
use Rattle.lang_base.specs.declared.elems.Index.{Index}
use Rattle.lang_base.specs.declared.elems.Index.TheVariants.{Variable, Own}
use Rattle.lang_base.specs.declared.place.Place.{Place}
use Rattle.lang_base.specs.declared.refusal.Refusal.{Refusal}
use Rattle.lang_base.specs.declared.region.Rpl.{Rpl}
use Rattle.lang_base.specs.Regions.{following}
use Rattle.lang_base.specs.Types.{PlainType, array}
use Rattle.lang_base.specs.Types.PlainType.{class}
use Rattle.syntax_tree.specs.declared.region.BaseTree.{BaseTree}
use Rattle.syntax_tree.specs.declared.region.BaseTree.TheVariants as base
use Rattle.syntax_tree.specs.declared.region.ElemTree.{ElemTree}
use Rattle.syntax_tree.specs.declared.region.ElemTree.TheVariants as elem
use Rattle.syntax_tree.specs.declared.region.Named.{Named}
use Rattle.syntax_tree.specs.declared.region.RName.{RName}
use Rattle.syntax_tree.specs.declared.region.RplHead.{RplHead}
use Rattle.syntax_tree.specs.declared.region.RplHead.TheVariants as head
use Rattle.syntax_tree.specs.declared.region.RplTree.{RplTree}
use Rattle.syntax_tree.specs.declared.region.Suffix.{Suffix}
use Rattle.syntax_tree.specs.declared.region.TypeTree.{TypeTree}
use Rattle.decl_headers.specs.declared.header.ParamRow.{ParamRow}
use Rattle.decl_headers.specs.Headers.{class_of, region_of}
use Rattle.decl_headers.specs.Numbers.{as_number}
use Rattle.decl_resolve.specs.declared.scope.ParamFound.{ParamFound}
use Rattle.decl_resolve.specs.Args.{root_path, roots, args_given}
use Rattle.decl_resolve.specs.Classes.{params_in, class_type}
use Rattle.decl_resolve.specs.Index.{PlainIndex, no_index, is_named, names_around}
use Rattle.decl_resolve.specs.Paths.{region_meant}
use Rattle.decl_resolve.specs.Reading.{index_meant, elem_meant, begun, head_meant, longer, goes_on, path_meant, path_faults, args_read}
use Rattle.decl_resolve.specs.Scoped.{value_in}
use Rattle.decl_resolve.specs.Scopes.{PlainScope, param_meant}
use Rattle.decl_resolve.specs.Written.{base_read, base_type, at_suffix, suffix_meant, paths_from, is_indexed, arrays_from, type_read, judged_type, type_meant}
use Rattle.decl_classes.specs.Signatures.{field_region_faults, region_of_field}
use Rattle.body_exprs.specs.declared.env.Env.{Env}
use Rattle.body_exprs.specs.Arrays.{made_names, front_of, around_own, path_reported, own_path, type_reported, array_reported, array_with, created_array, own_place, full_path}
use Rattle.body_exprs.specs.Env.{scope_of}
use Rattle.body_exprs.specs.Refusing.{reported_first}
use Rattle.body_exprs.specs.Typed.{may_be, is_int}
use Rattle.syntax_means.specs.Declares.{DeclaresRegion, MeansIn}
use Rattle.syntax_means.specs.Paths.{Around, RegionMeans, HeadMeans, ElemMeans, PathMeans, PathOrRoot, ArgsMean, NamesClass, BaseMeans, ArraysMean, FormMeans, TypeMeans, IsParam, IsLocalRegion, beside, index_of, index_names}
use Rattle.syntax_means.specs.Paths.{root_path as root}
use Rattle.sound_decls.proofs.written.Paths.{none_goes_on, goes_step}
use Rattle.sound_lemmas.proofs.Known.{path_known}
use Rattle.sound_lemmas.proofs.Lists.{some_same, and_then_there, map_there}
use Rattle.sound_means.proofs.Around.{KnowsPaths}

-- index names

position_within : {A : Type 0} (test : A → Bool) (at : ℕ) (xs : List A) (n : ℕ) → position_from test at xs ≡ Some n → n < at + length xs
position_within test at [] n e = cc
position_within test at (x ∷ xs) n e = by (test x) (position_within test (at + 1) xs n) e
  where
    by : (b : Bool) → (position_from test (at + 1) xs ≡ Some n → n < at + 1 + length xs) → cond b (Some at) (position_from test (at + 1) xs) ≡ Some n → n < at + suc (length xs)
    by true later h = let same = some_same h in omega (arith, same)
    by false later h = let l = later h in omega (arith, l)

-- an array type without an index name at the end is none that a name means
last_unnamed : (name at : ℕ) (names : List (Option Named)) → position_from (is_named name) at (names ++ None ∷ []) ≡ position_from (is_named name) at names
last_unnamed name at [] = refl
last_unnamed name at (index ∷ names) = ap (λ o. cond (is_named name index) (Some at) o) (last_unnamed name (at + 1) names)

-- the index names around a place are these, of which a name means the innermost
abbrev pub AreIndices : List (Option Named) → PlainIndex → Type 0
AreIndices indices around = (name : ℕ) → option_map (λ depth. Own (as_number depth)) (position_from (is_named name) 0 (names_around around)) ≡ option_map (λ depth. Own depth) (index_of indices name)

are_indices : (indices : List (Option Named)) (around : PlainIndex) → ((name : ℕ) → position_from (is_named name) 0 (names_around around) ≡ index_of indices name) →
    length (names_around around) ≤ 4294967296 → AreIndices indices around
are_indices indices around same few name =
    by (position_from (is_named name) 0 (names_around around)) (λ k is. position_within (is_named name) 0 (names_around around) k is)
    ∙ ap (option_map (λ depth. Own depth)) (same name)
  where
    by : (o : Option ℕ) → ((k : ℕ) → o ≡ Some k → k < 0 + length (names_around around)) → option_map (λ depth. Own (as_number depth)) o ≡ option_map (λ depth. Own depth) o
    by None below = refl
    by (Some k) below =
        let l = below k refl in
        let same : as_number k ≡ k = omega (arith, l, few) in
        ap (λ k. Some (Own k)) same

none_around : AreIndices [] no_index
none_around name = refl

module _ (A : Around) (scope : PlainScope) (knows : KnowsPaths A scope)
  where
    region_means : (written : RName) (n : ℕ) → region_meant scope.headers scope.class written ≡ Some n → RegionMeans A written n
    region_means written n is = by written.second refl is
      where
        by : (o : Option Named) → written.second ≡ o →
            option_map_or (λ second. option_and_then (λ class. region_of scope.headers class second.name) (class_of scope.headers written.first.name)) o (region_of scope.headers scope.class written.first.name) ≡ Some n → RegionMeans A written n
        by None none h =
            RegionMeans.in_class none (subst (λ c. MeansIn A.typed (DeclaresRegion A.tree written.first.name) c n) (sym knows.of_class) (knows.told.regions scope.class written.first.name n h))
        by (Some second) some h =
            let w = and_then_there (λ class. region_of scope.headers class second.name) (class_of scope.headers written.first.name) n h in
            RegionMeans.in_other some (knows.told.classes written.first.name w.0 w.1) (knows.told.regions w.0 second.name n w.2)

    head_means : (h : RplHead) (b : Rpl) → head_meant scope h ≡ Some b → HeadMeans A h b
    head_means head.Root b is = subst (HeadMeans A head.Root) (some_same is) HeadMeans.at_root
    head_means (head.Name written) b is = by written.second refl is
      where
        no_local : (o : Option ℕ) → o ≡ None → (r : ℕ) → o ≡ Some r → ⊥
        no_local o none r some = cc

        from : (second : Option Named) → written.second ≡ second → (p : Option ParamFound) (l r : Option ℕ) → ((found : ParamFound) → p ≡ Some found → IsParam A written found.number) →
            (p ≡ None → (q : ℕ) → IsParam A written q → ⊥) → ((d : ℕ) → l ≡ Some d → IsLocalRegion A written d) → (l ≡ None → (d : ℕ) → IsLocalRegion A written d → ⊥) →
            ((n : ℕ) → r ≡ Some n → RegionMeans A written n) → begun p l r ≡ Some b → HeadMeans A (head.Name written) b
        from second s (Some found) l r f f_none g g_none k h = subst (HeadMeans A (head.Name written)) (some_same h) (HeadMeans.at_param (f found refl))
        from second s None (Some d) r f f_none g g_none k h = subst (HeadMeans A (head.Name written)) (some_same h) (HeadMeans.at_local (f_none refl) (g d refl))
        from second s None None (Some n) f f_none g g_none k h = subst (HeadMeans A (head.Name written)) (some_same h) (HeadMeans.at_region (f_none refl) (g_none refl) (k n refl))
        from second s None None None f f_none g g_none k h = cc

        by : (o : Option Named) → written.second ≡ o → begun (option_map_or (λ second. None) o (param_meant scope written.first.name)) (option_map_or (λ second. None) o (value_in scope.regions written.first.name))
            (region_meant scope.headers scope.class written) ≡ Some b → HeadMeans A (head.Name written) b
        by None s h =
            from None s (param_meant scope written.first.name) (value_in scope.regions written.first.name) (region_meant scope.headers scope.class written)
            (λ found e. (s, knows.params written.first.name found e)) (λ none q e. knows.no_param written.first.name q none e.1)
            (λ d e. (s, sym (knows.regions written.first.name) ∙ e))
            (λ none d e. no_local (beside A.regions written.first.name) (sym (knows.regions written.first.name) ∙ none) d e.1) (region_means written) h
        by (Some second) s h =
            from (Some second) s None None (region_meant scope.headers scope.class written) (λ found e. cc) (λ none q e. let other = e.0 in cc) (λ d e. cc) (λ none d e. let other = e.0 in cc)
            (region_means written) h

    module _ (indices : List (Option Named)) (around : PlainIndex) (same : AreIndices indices around)
      where
        elem_means : (x : ElemTree) (e : Elem) → elem_meant scope around x ≡ Some e → ElemMeans A indices x e
        elem_means (elem.Name written) e h =
            let w = map_there (λ number. Name number) (region_meant scope.headers scope.class written) e h in
            subst (ElemMeans A indices (elem.Name written)) w.2 (ElemMeans.a_region (region_means written w.0 w.1))
        elem_means elem.Star e h = subst (ElemMeans A indices elem.Star) (some_same h) ElemMeans.a_star
        elem_means elem.Any e h = subst (ElemMeans A indices elem.Any) (some_same h) ElemMeans.any_index
        elem_means (elem.Lit k) e h = subst (ElemMeans A indices (elem.Lit k)) (some_same h) ElemMeans.a_literal
        elem_means (elem.Index named) e h =
            let w = map_there (λ index. At index) (index_meant scope around named.name) e h in
            subst (ElemMeans A indices (elem.Index named)) w.2
            (by (index_of indices named.name) refl (value_in scope.variables named.name) refl w.0
            (sym (ap (λ o. option_or o (option_map (λ slot. Variable slot) (option_flatten (value_in scope.variables named.name)))) (same named.name)) ∙ w.1))
          where
            by : (o : Option ℕ) → index_of indices named.name ≡ o → (v : Option (Option ℕ)) → value_in scope.variables named.name ≡ v → (i : Index) →
                option_or (option_map (λ depth. Own depth) o) (option_map (λ slot. Variable slot) (option_flatten v)) ≡ Some i → ElemMeans A indices (elem.Index named) (At i)
            by (Some k) there v held i h = subst (λ z. ElemMeans A indices (elem.Index named) (At z)) (some_same h) (ElemMeans.an_index there)
            by None none (Some (Some slot)) held i h =
                subst (λ z. ElemMeans A indices (elem.Index named) (At z)) (some_same h) (ElemMeans.a_variable none (knows.indices named.name slot held))
            by None none (Some None) held i h = cc
            by None none None held i h = cc

        -- what the elements of a path mean, one after the other
        record GoesOn (trees : List ElemTree) (b a : Rpl) : Type 0 where
          elems : List Elem
          each : AllZip (ElemMeans A indices) trees elems
          is : a ≡ following b elems

        goes_on_so : (trees : List ElemTree) (b a : Rpl) → goes_on scope around (Some b) trees ≡ Some a → GoesOn trees b a
        goes_on_so [] b a h = record { elems = []; each = tt; is = sym (some_same h) ∙ ap (λ es. record b { elems = es }) (sym (append-nil b.elems)) }
        goes_on_so (x ∷ trees) b a h =
            let w = goes_step scope around x trees b a h in
            let more = goes_on_so trees (longer b w.0) a w.2 in
            record { elems = w.0 ∷ more.elems; each = (elem_means x w.0 w.1, more.each); is = more.is ∙ ap (λ es. record b { elems = es }) (append_assoc b.elems (w.0 ∷ []) more.elems) }

        path_means : (tree : RplTree) (a : Rpl) → path_meant scope around tree ≡ Some a → PathMeans A indices tree a
        path_means tree a is = by (head_meant scope tree.head) refl is
          where
            by : (o : Option Rpl) → head_meant scope tree.head ≡ o → goes_on scope around o tree.elems ≡ Some a → PathMeans A indices tree a
            by None at_o h = absurd (none_goes_on scope around tree.elems a h)
            by (Some b) at_o h =
                let w = goes_on_so tree.elems b a h in
                record { start = b; begins = head_means tree.head b at_o; elems = w.elems; goes_on = w.each; is = w.is }

        known_short : (trees : List RplTree) → length (filter_map (path_meant scope around) trees) ≤ length trees
        known_short [] = omega arith
        known_short (tree ∷ trees) = by (path_meant scope around tree) (known_short trees)
          where
            by : (o : Option Rpl) → length (filter_map (path_meant scope around) trees) ≤ length trees → length (cons_option o (filter_map (path_meant scope around) trees)) ≤ suc (length trees)
            by None l = omega (arith, l)
            by (Some a) l = omega (arith, l)

        all_known : (trees : List RplTree) → length (filter_map (path_meant scope around) trees) ≡ length trees → AllZip (PathMeans A indices) trees (filter_map (path_meant scope around) trees)
        all_known [] e = tt
        all_known (tree ∷ trees) e = by (path_meant scope around tree) refl (λ rest. all_known trees rest) e
          where
            by : (o : Option Rpl) → path_meant scope around tree ≡ o →
                (length (filter_map (path_meant scope around) trees) ≡ length trees → AllZip (PathMeans A indices) trees (filter_map (path_meant scope around) trees)) →
                length (cons_option o (filter_map (path_meant scope around) trees)) ≡ suc (length trees) → AllZip (PathMeans A indices) (tree ∷ trees) (cons_option o (filter_map (path_meant scope around) trees))
            by None is more e = let l = known_short trees in absurd (omega (arith, l, e))
            by (Some a) is more e = let rest : length (filter_map (path_meant scope around) trees) ≡ length trees = omega (arith, e) in (path_means tree a is, more rest)

        all_roots : (params : List ParamRow) → roots params ≡ map (λ (param : Bool). root) (map (λ (param : ParamRow). param.atomic) params)
        all_roots [] = refl
        all_roots (param ∷ params) = ap (λ more. root ∷ more) (all_roots params)

        args_mean : (params : List ParamRow) (trees : List RplTree) (args : List Rpl) → args_given (length trees) (filter_map (path_meant scope around) trees) params ≡ Some args →
            ArgsMean A indices (map (λ param. param.atomic) params) trees args
        args_mean params [] args is = ArgsMean.all_left_out (sym (some_same is) ∙ all_roots params)
        args_mean params (tree ∷ trees) args is = by (suc (length trees) == 0) (suc (length trees) == length params) (length known == suc (length trees)) refl refl is
          where
            known : List Rpl
            known = filter_map (path_meant scope around) (tree ∷ trees)

            by : (z b c : Bool) → (suc (length trees) == 0) ≡ z → (length known == suc (length trees)) ≡ c → cond z (Some (roots params)) (cond (b && c) (Some known) None) ≡ Some args →
                ArgsMean A indices (map (λ param. param.atomic) params) (tree ∷ trees) args
            by true b c at_z at_c h = let none = eqb-true (suc (length trees)) 0 at_z in absurd (omega (arith, none))
            by false true true at_z at_c h =
                ArgsMean.all_written (subst (AllZip (PathMeans A indices) (tree ∷ trees)) (some_same h) (all_known (tree ∷ trees) (eqb-true (length known) (suc (length trees)) at_c)))
            by false true false at_z at_c h = cc
            by false false c at_z at_c h = cc

        class_means : (name : Named) (trees : List RplTree) (at : ℕ) (args : List Rpl) → class_of scope.headers name.name ≡ Some at →
            args_given (length trees) (filter_map (path_meant scope around) trees) (params_in scope.headers at) ≡ Some args → NamesClass A indices name trees at args
        class_means name trees at args there is =
            let k = knows.told.params name.name at there in
            record {
              class = k.0;
              named = knows.told.classes name.name at there;
              is = k.1;
              given = subst (λ params. ArgsMean A indices params trees args) (sym k.2) (args_mean (params_in scope.headers at) trees args is);
            }

        base_means : (tree : BaseTree) (t : PlainType) → base_type scope (base_read scope around tree) ≡ Some t → BaseMeans A indices tree t
        base_means base.Int t is = subst (BaseMeans A indices base.Int) (some_same is) BaseMeans.an_int
        base_means base.Bool t is = subst (BaseMeans A indices base.Bool) (some_same is) BaseMeans.a_boolean
        base_means (base.Class name trees) t is = by (class_of scope.headers name.name) refl is
          where
            by : (o : Option ℕ) → class_of scope.headers name.name ≡ o → class_type scope.headers o (args_read scope around trees) ≡ Some t → BaseMeans A indices (base.Class name trees) t
            by None none h = cc
            by (Some at) there h =
                let w = map_there (class at) (args_given (length trees) (filter_map (path_meant scope around) trees) (params_in scope.headers at)) t h in
                subst (BaseMeans A indices (base.Class name trees)) w.2 (BaseMeans.a_class (class_means name trees at w.0 there w.1))

        path_or_root : (tree : Option RplTree) (a : Rpl) → option_map_or (path_meant scope around) tree (Some root_path) ≡ Some a → PathOrRoot A indices tree a
        path_or_root None a is = subst (PathOrRoot A indices None) (some_same is) PathOrRoot.left_out
        path_or_root (Some tree) a is = PathOrRoot.written (path_means tree a is)

    -- array types, where these are the index names outside of them
    module _ (suffixes : List Suffix) (made : Option Named) (outside : List (Option Named))
        (same : (name : ℕ) (names : List (Option Named)) → position_from (is_named name) 0 (names ++ made ∷ []) ≡ index_of (names ++ outside) name) (few : length suffixes ≤ 4294967295)
      where
        abbrev around : PlainIndex
        around = record { suffixes = suffixes; inside = 0; made = made }

        indices_at : (at : ℕ) (rest : List Suffix) → drop at suffixes ≡ rest → length rest ≤ length suffixes → AreIndices (index_names rest ++ outside) (at_suffix around at)
        indices_at at rest is short =
            subst (λ z. AreIndices (index_names z ++ outside) (at_suffix around at)) is
            (are_indices (index_names (drop at suffixes) ++ outside) (at_suffix around at) (λ name. same name (index_names (drop at suffixes)))
            (let a = length-append (index_names (drop at suffixes)) (made ∷ []) in
            let m = length-map (drop at suffixes) (λ (suffix : Suffix). suffix.index) in
            let d = ap length is in
            omega (arith, few, short, a, m, d)))

        drop_tail : (n : ℕ) (xs ys : List Suffix) (y : Suffix) → drop n xs ≡ y ∷ ys → drop (n + 1) xs ≡ ys
        drop_tail n xs ys y h = let next : suc n ≡ n + 1 = omega arith in subst (λ k. drop k xs ≡ ys) next (by n xs h)
          where
            by : (n : ℕ) (xs : List Suffix) → drop n xs ≡ y ∷ ys → drop (suc n) xs ≡ ys
            by zero [] h = cc
            by zero (x ∷ xs) h = let same : xs ≡ ys = cc in same
            by (suc n) [] h = cc
            by (suc n) (x ∷ xs) h = by n xs h

        drop_head : (n : ℕ) (xs ys : List Suffix) (y : Suffix) → drop n xs ≡ y ∷ ys → slice_get xs n ≡ Some y
        drop_head zero [] ys y h = cc
        drop_head zero (x ∷ xs) ys y h = let same : x ≡ y = cc in ap Some same
        drop_head (suc n) [] ys y h = cc
        drop_head (suc n) (x ∷ xs) ys y h = drop_head n xs ys y h

        paths_short : (at : ℕ) (rest : List Suffix) → length (paths_from scope around at rest) ≤ length rest
        paths_short at [] = omega arith
        paths_short at (suffix ∷ rest) = by (suffix_meant scope (at_suffix around at) suffix) (paths_short (at + 1) rest)
          where
            by : (o : Option Rpl) → length (paths_from scope around (at + 1) rest) ≤ length rest → length (cons_option o (paths_from scope around (at + 1) rest)) ≤ suc (length rest)
            by None l = omega (arith, l)
            by (Some a) l = omega (arith, l)

        arrays_mean : (rest : List Suffix) (at : ℕ) (t : PlainType) → drop at suffixes ≡ rest → length rest ≤ length suffixes → length (paths_from scope around at rest) ≡ length rest →
            ArraysMean A outside rest t (arrays_from around at t (paths_from scope around at rest))
        arrays_mean [] at t is short e = ArraysMean.no_suffix
        arrays_mean (suffix ∷ rest) at t is short e =
            by (suffix_meant scope (at_suffix around at) suffix) refl (λ u long. arrays_mean rest (at + 1) u (drop_tail at suffixes rest suffix is) (omega (arith, short)) long) e
          where
            indexed : is_some suffix.index ≡ is_indexed around at
            indexed = sym (ap (λ o. option_map_or (λ (suffix : Suffix). is_some suffix.index) o false) (drop_head at suffixes rest suffix is))

            by : (o : Option Rpl) → suffix_meant scope (at_suffix around at) suffix ≡ o →
                ((u : PlainType) → length (paths_from scope around (at + 1) rest) ≡ length rest → ArraysMean A outside rest u (arrays_from around (at + 1) u (paths_from scope around (at + 1) rest))) →
                length (cons_option o (paths_from scope around (at + 1) rest)) ≡ suc (length rest) →
                ArraysMean A outside (suffix ∷ rest) t (arrays_from around at t (cons_option o (paths_from scope around (at + 1) rest)))
            by None meant more e = let l = paths_short (at + 1) rest in absurd (omega (arith, l, e))
            by (Some a) meant more e =
                ArraysMean.one_suffix (path_or_root (index_names (suffix ∷ rest) ++ outside) (at_suffix around at) (indices_at at (suffix ∷ rest) is short) suffix.rpl a meant)
                (subst (λ b. ArraysMean A outside rest (array t a b) (arrays_from around (at + 1) (array t a (is_indexed around at)) (paths_from scope around (at + 1) rest))) (sym indexed)
                (more (array t a (is_indexed around at)) (omega (arith, e))))

        form_means : (tree : BaseTree) (t : PlainType) → judged_type scope around (type_read scope around tree) ≡ Some t → FormMeans A outside tree suffixes t
        form_means tree t is = by (length (paths_from scope around 0 suffixes) == length suffixes) refl is
          where
            by : (b : Bool) → (length (paths_from scope around 0 suffixes) == length suffixes) ≡ b →
                cond b (option_map (λ elem. arrays_from around 0 elem (paths_from scope around 0 suffixes)) (base_type scope (base_read scope around tree))) None ≡ Some t → FormMeans A outside tree suffixes t
            by false at_b h = cc
            by true at_b h =
                let w = map_there (λ elem. arrays_from around 0 elem (paths_from scope around 0 suffixes)) (base_type scope (base_read scope around tree)) t h in
                let whole : length suffixes ≤ length suffixes = omega arith in
                record {
                  inside = w.0;
                  begins = base_means (index_names suffixes ++ outside) around (indices_at 0 suffixes refl whole) tree w.0 w.1;
                  arrays = subst (ArraysMean A outside suffixes w.0) w.2 (arrays_mean suffixes 0 w.0 refl whole (eqb-true (length (paths_from scope around 0 suffixes)) (length suffixes) at_b));
                }

-- a path outside of types
pub path_here : (A : Around) (scope : PlainScope) → KnowsPaths A scope → (tree : RplTree) (a : Rpl) → path_meant scope no_index tree ≡ Some a → PathMeans A [] tree a
path_here A scope knows tree a is = path_means A scope knows [] no_index none_around tree a is

-- the region of a field
pub region_here : (A : Around) (scope : PlainScope) → KnowsPaths A scope → (region : Option RplTree) → field_region_faults scope region ≡ [] → PathOrRoot A [] region (region_of_field scope region)
region_here A scope knows None free = PathOrRoot.left_out
region_here A scope knows (Some tree) free =
    let w = path_known scope no_index full_path tree free in
    subst (λ o. PathOrRoot A [] (Some tree) (option_map_or (λ a. a) o root_path)) (sym w.1) (PathOrRoot.written (path_here A scope knows tree w.0 w.1))

-- region arguments for these parameters
pub args_here : (A : Around) (scope : PlainScope) → KnowsPaths A scope → (params : List ParamRow) (trees : List RplTree) (args : List Rpl) →
    args_given (length trees) (filter_map (path_meant scope no_index) trees) params ≡ Some args → ArgsMean A [] (map (λ param. param.atomic) params) trees args
args_here A scope knows params trees args is = args_mean A scope knows [] no_index none_around params trees args is

-- a class with region arguments
pub class_here : (A : Around) (scope : PlainScope) → KnowsPaths A scope → (name : Named) (trees : List RplTree) (at : ℕ) (args : List Rpl) → class_of scope.headers name.name ≡ Some at →
    args_given (length trees) (filter_map (path_meant scope no_index) trees) (params_in scope.headers at) ≡ Some args → NamesClass A [] name trees at args
class_here A scope knows name trees at args there is = class_means A scope knows [] no_index none_around name trees at args there is

-- a type
pub type_here : (A : Around) (scope : PlainScope) → KnowsPaths A scope → (tree : TypeTree) (t : PlainType) → length tree.suffixes ≤ 4294967295 → type_meant scope tree ≡ Some t → TypeMeans A tree t
type_here A scope knows tree t few is =
    form_means A scope knows tree.suffixes None []
    (λ name names. last_unnamed name 0 names ∙ ap (position_from (is_named name) 0) (sym (append-nil names))) few tree.base t is

-- the creation of an array: the type of its elements, and their region
pub record ArrayCreated (A : Around) (base : BaseTree) (suffixes : List Suffix) (path : Option RplTree) (index : Option Named) (t : PlainType) : Type 0 where
  pub elem : PlainType
  pub region : Rpl
  pub is : t ≡ array elem region (is_some index)
  pub form : FormMeans A (index ∷ []) base suffixes elem
  pub own : PathOrRoot A (index ∷ []) path region

pub array_here : (A : Around) (env : Env) → KnowsPaths A (scope_of env) → (base : BaseTree) (suffixes : List Suffix) (path : Option RplTree) (index : Option Named) (len : Option PlainType) (place : Place) (t : PlainType) →
    length suffixes ≤ 4294967295 → created_array env (made_names suffixes index) (front_of env (made_names suffixes index) base) len path place ≡ Ok t → ArrayCreated A base suffixes path index t
array_here A env knows base suffixes path index len place t few is = by (own_path env around path) refl is
  where
    around : PlainIndex
    around = made_names suffixes index

    scope : PlainScope
    scope = scope_of env

    same : (name : ℕ) (names : List (Option Named)) → position_from (is_named name) 0 (names ++ index ∷ []) ≡ index_of (names ++ index ∷ []) name
    same name names = refl

    -- its own path
    own_means : (path : Option RplTree) (own : Rpl) → own_path env around path ≡ Ok own → PathOrRoot A (index ∷ []) path own
    own_means None own h = let root : root_path ≡ own = cc in subst (PathOrRoot A (index ∷ []) None) root PathOrRoot.left_out
    own_means (Some tree) own h = of (reported_first (path_faults scope (around_own around) full_path tree)) (path_meant scope (around_own around) tree) refl h
      where
        whole : (xs : List Suffix) → drop (length xs) xs ≡ []
        whole [] = refl
        whole (x ∷ xs) = whole xs

        of : (f : Option Refusal) (o : Option Rpl) → path_meant scope (around_own around) tree ≡ o → path_reported f o tree.place ≡ Ok own → PathOrRoot A (index ∷ []) (Some tree) own
        of (Some refusal) o at_o h = cc
        of None None at_o h = cc
        of None (Some a) at_o h =
            let is : a ≡ own = cc in
            PathOrRoot.written (path_means A scope knows (index ∷ []) (around_own around) (indices_at A scope knows suffixes index (index ∷ []) same few (length suffixes) [] (whole suffixes) (omega arith)) tree own
            (at_o ∙ ap Some is))

    by : (r : Result Rpl Refusal) → own_path env around path ≡ r → array_with env around (front_of env around base) (may_be is_int len) r (own_place path place) place ≡ Ok t → ArrayCreated A base suffixes path index t
    by (Err refusal) at_r h = cc
    by (Ok own) at_r h = of (array_reported env around (front_of env around base) (may_be is_int len) own (own_place path place) place) (judged_type scope around (type_read scope around base)) refl h
      where
        of : (f : Option Refusal) (o : Option PlainType) → judged_type scope around (type_read scope around base) ≡ o →
            type_reported f (option_map (λ elem. array elem own (is_some index)) o) place ≡ Ok t → ArrayCreated A base suffixes path index t
        of (Some refusal) o at_o h = cc
        of None None at_o h = cc
        of None (Some elem) at_o h =
            let is : array elem own (is_some index) ≡ t = cc in
            record {
              elem = elem;
              region = own;
              is = sym is;
              form = form_means A scope knows suffixes index (index ∷ []) same few base elem at_o;
              own = own_means path own at_r;
            }
