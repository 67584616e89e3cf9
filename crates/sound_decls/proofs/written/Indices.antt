-- A written path or class type has own indices of array types with index names alone.
use Rattle.std.proofs.Common.{◌≡◌, ◌∙◌, ◌⊎◌, ℕ, suc, ◌+◌, ◌≤◌, ◌==◌, min, Bool, true, false, ◌&&◌, ◌||◌, cond, is_some, List, [], ◌∷◌, ◌++◌, length, filter_map, slice_get, inl, inr, Option, None, Some, option_map, refl, ap, subst, arith}
use Rattle.std.proofs.lemmas.Bool.{eqb-true}
use Rattle.std.specs.List.{list_any, position_from, cons_option}
use Rattle.std.specs.Option.{option_map_or, option_or, option_flatten}
use Rattle.lang_base.specs.declared.elems.Elem.{Elem}
use Rattle.lang_base.specs.declared.elems.Elem.TheVariants.{Name, At, Any, Star, Local}
use Rattle.lang_base.specs.declared.elems.Index.{Index}
use Rattle.lang_base.specs.declared.elems.Index.TheVariants.{Literal, Variable, Renamed, Own}
use Rattle.lang_base.specs.declared.region.Rpl.{Rpl}
use Rattle.lang_base.specs.Regions.{same_elem}
use Rattle.lang_base.specs.Types.{PlainType, has_index, mentions_index}
use Rattle.lang_base.specs.Types.PlainType.{class, array}
use Rattle.decl_headers.specs.declared.header.ParamRow.{ParamRow}
use Rattle.syntax_tree.specs.declared.region.ElemTree.{ElemTree}
use Rattle.syntax_tree.specs.declared.region.ElemTree.TheVariants as elem
use Rattle.syntax_tree.specs.declared.region.Named.{Named}
use Rattle.syntax_tree.specs.declared.region.RplHead.{RplHead}
use Rattle.syntax_tree.specs.declared.region.RplHead.TheVariants as head
use Rattle.syntax_tree.specs.declared.region.RplTree.{RplTree}
use Rattle.decl_resolve.specs.declared.scope.ParamFound.{ParamFound}
use Rattle.decl_resolve.specs.Args.{roots, args_given}
use Rattle.decl_resolve.specs.Index.{PlainIndex, is_named, names_around}
use Rattle.decl_resolve.specs.Paths.{region_meant}
use Rattle.decl_resolve.specs.Reading.{index_meant, elem_meant, head_param, head_local, begun, head_meant, goes_on, path_meant, longer}
use Rattle.decl_resolve.specs.Scoped.{value_in}
use Rattle.decl_resolve.specs.Scopes.{PlainScope}
use Rattle.sound_lemmas.proofs.Lists.{some_same, map_there}

-- the name at a place is written
abbrev pub is_written : List (Option Named) → ℕ → Bool
is_written names k = option_map_or is_some (slice_get names k) false

named_written : (name : ℕ) (names : List (Option Named)) (base k : ℕ) → position_from (is_named name) base names ≡ Some k → (j : ℕ) × (k ≡ base + j) × (is_written names j ≡ true)
named_written name [] base k h = cc
named_written name (None ∷ names) base k h =
    let w = named_written name names (base + 1) k h in
    let same : k ≡ base + suc w.0 = omega (arith, w.1) in
    (suc w.0, same, w.2)
named_written name (Some named ∷ names) base k h = by (named_written name names (base + 1) k) (named.name == name) h
  where
    by : (position_from (is_named name) (base + 1) names ≡ Some k → (j : ℕ) × (k ≡ base + 1 + j) × (is_written names j ≡ true)) → (b : Bool) →
        cond b (Some base) (position_from (is_named name) (base + 1) names) ≡ Some k → (j : ℕ) × (k ≡ base + j) × (is_written (Some named ∷ names) j ≡ true)
    by next true h =
        let e = some_same h in
        let same : k ≡ base + 0 = omega (arith, e) in
        (0, same, refl)
    by next false h =
        let w = next h in
        let same : k ≡ base + suc w.0 = omega (arith, w.1) in
        (suc w.0, same, w.2)

-- each own index of a path is that of an array type with an index name
abbrev pub Speaks : List (Option Named) → Elem → Type 0
Speaks names (At (Own d)) = is_written names d ≡ true
Speaks names e = Unit {0}

abbrev pub AllSpeak : List (Option Named) → List Elem → Type 0
AllSpeak names [] = Unit {0}
AllSpeak names (e ∷ es) = Speaks names e × AllSpeak names es

speak_push : (names : List (Option Named)) (es : List Elem) (e : Elem) → AllSpeak names es → Speaks names e → AllSpeak names (es ++ e ∷ [])
speak_push names [] e all s = (s, tt)
speak_push names (x ∷ es) e all s = (all.0, speak_push names es e all.1 s)

same_own : (names : List (Option Named)) (d : ℕ) (e : Elem) → Speaks names e → same_elem e (At (Own d)) ≡ true → is_written names d ≡ true
same_own names d (At (Own k)) s h = subst (λ z. is_written names z ≡ true) (eqb-true k d h) s
same_own names d (At (Literal k)) s h = cc
same_own names d (At (Variable x)) s h = cc
same_own names d (At (Renamed x)) s h = cc
same_own names d (Name n) s h = cc
same_own names d Any s h = cc
same_own names d Star s h = cc
same_own names d (Local r n) s h = cc

or_split : (a b : Bool) → (a || b) ≡ true → (a ≡ true) ⊎ (b ≡ true)
or_split true b h = inl refl
or_split false b h = inr h

pub own_reported : (names : List (Option Named)) (d : ℕ) (es : List Elem) → AllSpeak names es → list_any (λ x. same_elem x (At (Own d))) es ≡ true → is_written names d ≡ true
own_reported names d [] all h = cc
own_reported names d (e ∷ es) all h = elim (or_split (same_elem e (At (Own d))) (list_any (λ x. same_elem x (At (Own d))) es) h) [
  | inl here ↦ same_own names d e all.0 here
  | inr later ↦ own_reported names d es all.1 later
]

-- a type mentions own indices of array types with index names alone
abbrev pub TypeSpeaks : List (Option Named) → PlainType → Type 0
TypeSpeaks names t = (k : ℕ) → mentions_index k t ≡ true → is_written names k ≡ true

-- with one array type more around, of which the index name is the first
pub array_speaks : (first : Option Named) (names : List (Option Named)) (t : PlainType) (a : Rpl) (named : Bool) → AllSpeak (first ∷ names) a.elems → TypeSpeaks (first ∷ names) t → TypeSpeaks names (array t a named)
array_speaks first names t a named path elem k h = elim (or_split (has_index (suc k) a) (mentions_index (suc k) t) h) [
  | inl here ↦ own_reported (first ∷ names) (suc k) a.elems path here
  | inr inside ↦ elem (suc k) inside
]

module _ (scope : PlainScope) (around : PlainIndex) (few : (j : ℕ) → is_written (names_around around) j ≡ true → j ≤ 4294967295)
  where
    elem_speaks : (x : ElemTree) (e : Elem) → elem_meant scope around x ≡ Some e → Speaks (names_around around) e
    elem_speaks (elem.Name name) e h = let w = map_there (λ number. Name number) (region_meant scope.headers scope.class name) e h in subst (Speaks (names_around around)) w.2 tt
    elem_speaks elem.Star e h = subst (Speaks (names_around around)) (some_same h) tt
    elem_speaks elem.Any e h = subst (Speaks (names_around around)) (some_same h) tt
    elem_speaks (elem.Lit k) e h = subst (Speaks (names_around around)) (some_same h) tt
    elem_speaks (elem.Index named) e h =
        let w = map_there (λ index. At index) (index_meant scope around named.name) e h in
        subst (Speaks (names_around around)) w.2
        (by (position_from (is_named named.name) 0 (names_around around)) (value_in scope.variables named.name) w.0 (λ k is. named_written named.name (names_around around) 0 k is) w.1)
      where
        by : (o : Option ℕ) (v : Option (Option ℕ)) (i : Index) → ((k : ℕ) → o ≡ Some k → (j : ℕ) × (k ≡ 0 + j) × (is_written (names_around around) j ≡ true)) →
            option_or (option_map (λ k. Own (min k 4294967295)) o) (option_map (λ slot. Variable slot) (option_flatten v)) ≡ Some i → Speaks (names_around around) (At i)
        by (Some k) v i found h =
            let w = found k refl in
            let l = few w.0 w.2 in
            let same : w.0 ≡ min k 4294967295 = omega (arith, l, w.1) in
            subst (λ z. Speaks (names_around around) (At z)) (some_same h) (subst (λ z. is_written (names_around around) z ≡ true) same w.2)
        by None (Some (Some slot)) i found h = subst (λ z. Speaks (names_around around) (At z)) (some_same h) tt
        by None (Some None) i found h = cc
        by None None i found h = cc

    no_more : (elems : List ElemTree) (a : Rpl) → goes_on scope around None elems ≡ Some a → ⊥
    no_more [] a h = cc
    no_more (x ∷ elems) a h = no_more elems a h

    on_speaks : (elems : List ElemTree) (b a : Rpl) → AllSpeak (names_around around) b.elems → goes_on scope around (Some b) elems ≡ Some a → AllSpeak (names_around around) a.elems
    on_speaks [] b a all h = subst (λ (z : Rpl). AllSpeak (names_around around) z.elems) (some_same h) all
    on_speaks (x ∷ elems) b a all h = by (elem_meant scope around x) (elem_speaks x) (λ e s k. on_speaks elems (longer b e) a s k) h
      where
        by : (o : Option Elem) → ((e : Elem) → o ≡ Some e → Speaks (names_around around) e) →
            ((e : Elem) → AllSpeak (names_around around) (b.elems ++ e ∷ []) → goes_on scope around (Some (longer b e)) elems ≡ Some a → AllSpeak (names_around around) a.elems) →
            goes_on scope around (option_map (longer b) o) elems ≡ Some a → AllSpeak (names_around around) a.elems
        by None speaks next h = absurd (no_more elems a h)
        by (Some e) speaks next h = next e (speak_push (names_around around) b.elems e all (speaks e refl)) h

    head_speaks : (h : RplHead) (b : Rpl) → head_meant scope h ≡ Some b → AllSpeak (names_around around) b.elems
    head_speaks head.Root b h = subst (λ (z : Rpl). AllSpeak (names_around around) z.elems) (some_same h) tt
    head_speaks (head.Name name) b h = by (head_param scope name) (head_local scope name) (region_meant scope.headers scope.class name) h
      where
        by : (p : Option ParamFound) (l r : Option ℕ) → begun p l r ≡ Some b → AllSpeak (names_around around) b.elems
        by (Some param) l r h = subst (λ (z : Rpl). AllSpeak (names_around around) z.elems) (some_same h) tt
        by None (Some number) r h = subst (λ (z : Rpl). AllSpeak (names_around around) z.elems) (some_same h) (tt, tt)
        by None None (Some number) h = subst (λ (z : Rpl). AllSpeak (names_around around) z.elems) (some_same h) (tt, tt)
        by None None None h = cc

    -- a path that is written has own indices of array types with index names alone
    pub path_speaks : (tree : RplTree) (a : Rpl) → path_meant scope around tree ≡ Some a → AllSpeak (names_around around) a.elems
    path_speaks tree a h = by (head_meant scope tree.head) (head_speaks tree.head) h
      where
        by : (o : Option Rpl) → ((b : Rpl) → o ≡ Some b → AllSpeak (names_around around) b.elems) → goes_on scope around o tree.elems ≡ Some a → AllSpeak (names_around around) a.elems
        by None speaks h = absurd (no_more tree.elems a h)
        by (Some b) speaks h = on_speaks tree.elems b a (speaks b refl) h

    known_speak : (trees : List RplTree) (k : ℕ) → list_any (has_index k) (filter_map (path_meant scope around) trees) ≡ true → is_written (names_around around) k ≡ true
    known_speak [] k h = cc
    known_speak (tree ∷ trees) k h = by (path_meant scope around tree) (path_speaks tree) (known_speak trees k) h
      where
        by : (o : Option Rpl) → ((a : Rpl) → o ≡ Some a → AllSpeak (names_around around) a.elems) →
            (list_any (has_index k) (filter_map (path_meant scope around) trees) ≡ true → is_written (names_around around) k ≡ true) →
            list_any (has_index k) (cons_option o (filter_map (path_meant scope around) trees)) ≡ true → is_written (names_around around) k ≡ true
        by None speaks next h = next h
        by (Some a) speaks next h = elim (or_split (has_index k a) (list_any (has_index k) (filter_map (path_meant scope around) trees)) h) [
          | inl here ↦ own_reported (names_around around) k a.elems (speaks a refl) here
          | inr later ↦ next later
        ]

    roots_silent : (params : List ParamRow) (k : ℕ) → list_any (has_index k) (roots params) ≡ true → ⊥
    roots_silent [] k h = cc
    roots_silent (param ∷ params) k h = roots_silent params k h

    -- so have region arguments
    pub args_speak : (at : ℕ) (trees : List RplTree) (params : List ParamRow) (args : List Rpl) → args_given (length trees) (filter_map (path_meant scope around) trees) params ≡ Some args →
        TypeSpeaks (names_around around) (class at args)
    args_speak at trees params args h k m =
        by (length trees == 0) ((length trees == length params) && (length (filter_map (path_meant scope around) trees) == length trees)) h
      where
        by : (b c : Bool) → cond b (Some (roots params)) (cond c (Some (filter_map (path_meant scope around) trees)) None) ≡ Some args → is_written (names_around around) k ≡ true
        by true c e = absurd (roots_silent params k (ap (list_any (has_index k)) (some_same e) ∙ m))
        by false true e = known_speak trees k (ap (list_any (has_index k)) (some_same e) ∙ m)
        by false false e = cc
