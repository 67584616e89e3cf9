-- The shape of a value tells the class of its type, and those of its elements.
use Rattle.std.proofs.Common.{◌≡◌, ◌≤◌, ◌<◌, ◌+◌, ◌==◌, ℕ, suc, min, Bool, true, false, cond, List, [], ◌∷◌, length, Option, Some, None, option_map, refl, sym, ap, subst, arith}
use Rattle.std.proofs.lemmas.Bool.{eqb-true}
use Rattle.std.specs.Option.{option_map_or}
use Rattle.std.specs.Prelude.{unwrap_or}
use Rattle.lang_base.specs.declared.elems.Elem.{Elem}
use Rattle.lang_base.specs.declared.region.Rpl.{Rpl}
use Rattle.lang_base.specs.Types.{PlainType, type_with, type_at}
use Rattle.lang_base.specs.Types.{PlainType as ty}
use Rattle.syntax_tree.specs.declared.region.BaseTree.{BaseTree}
use Rattle.syntax_tree.specs.declared.region.BaseTree.TheVariants as base
use Rattle.syntax_tree.specs.declared.region.TypeTree.{TypeTree}
use Rattle.decl_headers.specs.Headers.{class_of}
use Rattle.decl_resolve.specs.Classes.{class_args, class_type}
use Rattle.decl_resolve.specs.Index.{PlainIndex}
use Rattle.decl_resolve.specs.Reading.{args_read}
use Rattle.decl_resolve.specs.Scopes.{PlainScope}
use Rattle.decl_resolve.specs.Written.{base_read, base_type, is_indexed, arrays_from, paths_from, type_read, judged_type, type_index, type_meant}
use Rattle.decl_reach.specs.declared.shape.Shape.{Shape}
use Rattle.decl_reach.specs.Shapes.{base_class, written_shape, tree_shape, in_array, type_shape, element_in, element_of, object_of}
use Rattle.sound_lemmas.proofs.Lists.{some_same}

-- what is known of a value of this type: its class, or what is known of its elements; nothing is asked of any other
abbrev pub IsShape : Shape → PlainType → Type 0
IsShape s (ty.class c args) = object_of s ≡ Some c
IsShape s (ty.array elem rpl named) = IsShape (element_of s) elem
IsShape s ty.int = Unit {0}
IsShape s ty.boolean = Unit {0}
IsShape s ty.void = Unit {0}
IsShape s ty.null = Unit {0}

-- region arguments and indices that are put in change nothing

pub shape_with : (args : List Rpl) (s : Shape) (t : PlainType) → IsShape s t → IsShape s (type_with args t)
shape_with args s (ty.class c paths) h = h
shape_with args s (ty.array elem rpl named) h = shape_with args (element_of s) elem h
shape_with args s ty.int h = h
shape_with args s ty.boolean h = h
shape_with args s ty.void h = h
shape_with args s ty.null h = h

pub shape_at : (depth : ℕ) (k : Elem) (s : Shape) (t : PlainType) → IsShape s t → IsShape s (type_at depth k t)
shape_at depth k s (ty.class c paths) h = h
shape_at depth k s (ty.array elem rpl named) h = shape_at (suc depth) k (element_of s) elem h
shape_at depth k s ty.int h = h
shape_at depth k s ty.boolean h = h
shape_at depth k s ty.void h = h
shape_at depth k s ty.null h = h

-- how many arrays are around
abbrev pub depth_of : PlainType → ℕ
depth_of (ty.array elem rpl named) = suc (depth_of elem)
depth_of (ty.class c args) = 0
depth_of ty.int = 0
depth_of ty.boolean = 0
depth_of ty.void = 0
depth_of ty.null = 0

arrays_few : (t : PlainType) → (type_shape t).arrays ≤ depth_of t
arrays_few (ty.array elem rpl named) = let few = arrays_few elem in omega (arith, few)
arrays_few (ty.class c args) = omega arith
arrays_few ty.int = omega arith
arrays_few ty.boolean = omega arith
arrays_few ty.void = omega arith
arrays_few ty.null = omega arith

element_back : (s : Shape) → s.arrays < 18446744073709551615 → element_of (in_array s) ≡ s
element_back s few = let next : min (s.arrays + 1) 18446744073709551615 ≡ suc s.arrays = omega (arith, few) in ap (λ n. element_in n s.class) next

-- a type that isn't deeper than is counted has its shape
pub type_shaped : (t : PlainType) → depth_of t ≤ 18446744073709551615 → IsShape (type_shape t) t
type_shaped (ty.array elem rpl named) few =
    let first = arrays_few elem in
    subst (λ s. IsShape s elem) (sym (element_back (type_shape elem) (omega (arith, few, first)))) (type_shaped elem (omega (arith, few)))
type_shaped (ty.class c args) few = refl
type_shaped ty.int few = tt
type_shaped ty.boolean few = tt
type_shaped ty.void few = tt
type_shaped ty.null few = tt

-- written types

abbrev arrays_of : Option ℕ → ℕ → Shape
arrays_of found arrays = record { class = found; arrays = arrays }

arrays_shaped : (around : PlainIndex) (at n : ℕ) (found : Option ℕ) (elem : PlainType) (rpls : List Rpl) → IsShape (arrays_of found n) elem →
    IsShape (arrays_of found (n + length rpls)) (arrays_from around at elem rpls) × (depth_of (arrays_from around at elem rpls) ≡ depth_of elem + length rpls)
arrays_shaped around at n found elem [] h =
    let none : n ≡ n + 0 = omega arith in
    (subst (λ k. IsShape (arrays_of found k) elem) none h, omega arith)
arrays_shaped around at n found elem (rpl ∷ rpls) h =
    let more = arrays_shaped around (at + 1) (suc n) found (ty.array elem rpl (is_indexed around at)) rpls h in
    let on : suc n + length rpls ≡ n + suc (length rpls) = omega arith in
    let deep = more.1 in
    (subst (λ k. IsShape (arrays_of found k) (arrays_from around at elem (rpl ∷ rpls))) on more.0, omega (arith, deep))

base_shaped : (scope : PlainScope) (around : PlainIndex) (tree : BaseTree) (t : PlainType) → base_type scope (base_read scope around tree) ≡ Some t →
    IsShape (arrays_of (base_class scope.headers tree) 0) t × (depth_of t ≡ 0)
base_shaped scope around base.Int t is = let same : ty.int ≡ t = some_same is in subst (λ u. IsShape (arrays_of None 0) u × (depth_of u ≡ 0)) same (tt, refl)
base_shaped scope around base.Bool t is = let same : ty.boolean ≡ t = some_same is in subst (λ u. IsShape (arrays_of None 0) u × (depth_of u ≡ 0)) same (tt, refl)
base_shaped scope around (base.Class name trees) t is = by (class_of scope.headers name.name) is
  where
    with_args : (at : ℕ) (o : Option (List Rpl)) → option_map (ty.class at) o ≡ Some t → IsShape (arrays_of (Some at) 0) t × (depth_of t ≡ 0)
    with_args at None e = cc
    with_args at (Some args) e = let same : ty.class at args ≡ t = some_same e in subst (λ u. IsShape (arrays_of (Some at) 0) u × (depth_of u ≡ 0)) same (refl, refl)

    by : (o : Option ℕ) → class_type scope.headers o (args_read scope around trees) ≡ Some t → IsShape (arrays_of o 0) t × (depth_of t ≡ 0)
    by None e = cc
    by (Some at) e = with_args at (class_args scope.headers at (args_read scope around trees)) e

-- a type that is read has the shape of its base and its suffixes
pub judged_shaped : (scope : PlainScope) (around : PlainIndex) (tree : BaseTree) (t : PlainType) → judged_type scope around (type_read scope around tree) ≡ Some t →
    IsShape (written_shape scope.headers tree (length around.suffixes)) t × (depth_of t ≤ length around.suffixes)
judged_shaped scope around tree t is = by (length paths == length around.suffixes) refl (base_type scope (base_read scope around tree)) refl is
  where
    paths : List Rpl
    paths = paths_from scope around 0 around.suffixes

    found : Option ℕ
    found = base_class scope.headers tree

    by : (b : Bool) → (length paths == length around.suffixes) ≡ b → (o : Option PlainType) → base_type scope (base_read scope around tree) ≡ o → cond b (option_map (λ elem. arrays_from around 0 elem paths) o) None ≡ Some t →
        IsShape (arrays_of found (length around.suffixes)) t × (depth_of t ≤ length around.suffixes)
    by false many o known e = cc
    by true many None known e = cc
    by true many (Some elem) known e =
        let b = base_shaped scope around tree elem known in
        let w = arrays_shaped around 0 0 found elem paths b.0 in
        let same : arrays_from around 0 elem paths ≡ t = some_same e in
        let on : 0 + length paths ≡ length around.suffixes = (let m = eqb-true (length paths) (length around.suffixes) many in omega (arith, m)) in
        let deep = w.1 in
        let flat = b.1 in
        let few : depth_of (arrays_from around 0 elem paths) ≤ length around.suffixes = omega (arith, deep, flat, on) in
        subst (λ u. IsShape (arrays_of found (length around.suffixes)) u × (depth_of u ≤ length around.suffixes)) same
        (subst (λ k. IsShape (arrays_of found k) (arrays_from around 0 elem paths)) on w.0, few)

pub meant_shaped : (scope : PlainScope) (tree : TypeTree) (t : PlainType) → type_meant scope tree ≡ Some t → IsShape (tree_shape scope.headers tree) t × (depth_of t ≤ length tree.suffixes)
meant_shaped scope tree t is = judged_shaped scope (type_index tree) tree.base t is

-- and so where nothing is asked of a type that isn't known
pub known_shaped : (scope : PlainScope) (tree : TypeTree) → IsShape (tree_shape scope.headers tree) (unwrap_or (type_meant scope tree) ty.void) × (depth_of (unwrap_or (type_meant scope tree) ty.void) ≤ length tree.suffixes)
known_shaped scope tree = by (type_meant scope tree) (λ t e. meant_shaped scope tree t e)
  where
    by : (o : Option PlainType) → ((t : PlainType) → o ≡ Some t → IsShape (tree_shape scope.headers tree) t × (depth_of t ≤ length tree.suffixes)) →
        IsShape (tree_shape scope.headers tree) (unwrap_or o ty.void) × (depth_of (unwrap_or o ty.void) ≤ length tree.suffixes)
    by None h = (tt, omega arith)
    by (Some t) h = h t refl

pub declared_shaped : (scope : PlainScope) (tree : TypeTree) → IsShape (tree_shape scope.headers tree) (option_map_or (λ t. t) (type_meant scope tree) ty.void)
declared_shaped scope tree = by (type_meant scope tree) (λ t e. (meant_shaped scope tree t e).0)
  where
    by : (o : Option PlainType) → ((t : PlainType) → o ≡ Some t → IsShape (tree_shape scope.headers tree) t) → IsShape (tree_shape scope.headers tree) (option_map_or (λ t. t) o ty.void)
    by None h = tt
    by (Some t) h = h t refl
