-- Trees that are the same but for their summaries declare the same.
use Rattle.std.proofs.Common.{◌≡◌, ◌∙◌, ℕ, suc, List, [], ◌∷◌, ◌++◌, length, map, slice_get, Option, Some, None, option_map, ◌||◌, refl, ap, sym}
use Rattle.std.proofs.lemmas.List.{map-append, length-map}
use Rattle.std.proofs.lemmas.Option.{slice_get-map}
use Rattle.std.specs.List.{flat_map, list_any}
use Rattle.syntax_tree.specs.declared.class.Class.{Class}
use Rattle.syntax_tree.specs.declared.class.Member.{Member}
use Rattle.syntax_tree.specs.declared.class.Member.TheVariants as member
use Rattle.syntax_tree.specs.declared.class.Program.{Program}
use Rattle.syntax_tree.specs.Nd.{member_holds_nd, program_uses_nd}
use Rattle.syntax_means.specs.Declares.{OwnMethod, all_methods, all_regions, member_fields, member_methods, member_regions, method_name, methods_from, own_fields, regions_from}
use Rattle.sound_infer.specs.Written.{without_summary, member_without, class_without, tree_without}

-- what has an image in common with an element of one list stands at the same place in the other
pub there_too : {A B : Type 0} (f : A → B) (xs ys : List A) (i : ℕ) (x : A) → map f xs ≡ map f ys → slice_get xs i ≡ Some x → (y : A) × (slice_get ys i ≡ Some y) × (f y ≡ f x)
there_too {A} {B} f xs ys i x same is = by (slice_get ys i) refl
  where
    alike : option_map f (slice_get ys i) ≡ Some (f x)
    alike = sym (slice_get-map f ys i) ∙ ap (λ zs. slice_get zs i) (sym same) ∙ slice_get-map f xs i ∙ ap (option_map f) is

    by : (o : Option A) → slice_get ys i ≡ o → (y : A) × (slice_get ys i ≡ Some y) × (f y ≡ f x)
    by None e = let no : None ≡ Some (f x) = ap (option_map f) (sym e) ∙ alike in cc
    by (Some y) e = let yes : Some (f y) ≡ Some (f x) = ap (option_map f) (sym e) ∙ alike in (y, e, cc)

-- methods and constructors

abbrev pub bare : OwnMethod → OwnMethod
bare own = record own { method = without_summary own.method }

methods_in : (c : ℕ) (ms : List Member) → flat_map (member_methods c) (map member_without ms) ≡ map bare (flat_map (member_methods c) ms)
methods_in c [] = refl
methods_in c (member.Regions is_atomic names ∷ ms) = methods_in c ms
methods_in c (member.Field field ∷ ms) = methods_in c ms
methods_in c (member.Method method ∷ ms) = ap (λ rest. bare (record { class = c; method = method }) ∷ rest) (methods_in c ms)

pub bare_methods : (c : ℕ) (ks : List Class) → methods_from c (map class_without ks) ≡ map bare (methods_from c ks)
bare_methods c [] = refl
bare_methods c (k ∷ ks) =
    ap (λ here. here ++ methods_from (suc c) (map class_without ks)) (methods_in c k.members)
    ∙ ap (λ rest. map bare (flat_map (member_methods c) k.members) ++ rest) (bare_methods (suc c) ks)
    ∙ sym (map-append bare (flat_map (member_methods c) k.members) (methods_from (suc c) ks))

-- region names

regions_in : (c : ℕ) (ms : List Member) → flat_map (member_regions c) (map member_without ms) ≡ flat_map (member_regions c) ms
regions_in c [] = refl
regions_in c (member.Regions is_atomic names ∷ ms) = ap (λ rest. member_regions c (member.Regions is_atomic names) ++ rest) (regions_in c ms)
regions_in c (member.Field field ∷ ms) = regions_in c ms
regions_in c (member.Method method ∷ ms) = regions_in c ms

regions_still : (c : ℕ) (ks : List Class) → regions_from c (map class_without ks) ≡ regions_from c ks
regions_still c [] = refl
regions_still c (k ∷ ks) =
    ap (λ here. here ++ regions_from (suc c) (map class_without ks)) (regions_in c k.members)
    ∙ ap (λ rest. flat_map (member_regions c) k.members ++ rest) (regions_still (suc c) ks)

-- fields

fields_in : (ms : List Member) → flat_map member_fields (map member_without ms) ≡ flat_map member_fields ms
fields_in [] = refl
fields_in (member.Regions is_atomic names ∷ ms) = fields_in ms
fields_in (member.Field field ∷ ms) = ap (λ rest. field ∷ rest) (fields_in ms)
fields_in (member.Method method ∷ ms) = fields_in ms

pub same_fields : (k l : Class) → class_without k ≡ class_without l → own_fields k ≡ own_fields l
same_fields k l e = sym (fields_in k.members) ∙ ap (λ class. flat_map member_fields class.members) e ∙ fields_in l.members

-- nd constructs

nd_in : (ms : List Member) → list_any member_holds_nd (map member_without ms) ≡ list_any member_holds_nd ms
nd_in [] = refl
nd_in (member.Regions is_atomic names ∷ ms) = nd_in ms
nd_in (member.Field field ∷ ms) = nd_in ms
nd_in (member.Method method ∷ ms) = ap (λ b. member_holds_nd (member.Method method) || b) (nd_in ms)

nd_still : (ks : List Class) → list_any (λ class. list_any member_holds_nd class.members) (map class_without ks) ≡ list_any (λ class. list_any member_holds_nd class.members) ks
nd_still [] = refl
nd_still (k ∷ ks) =
    ap (λ b. b || list_any (λ class. list_any member_holds_nd class.members) (map class_without ks)) (nd_in k.members)
    ∙ ap (λ b. list_any member_holds_nd k.members || b) (nd_still ks)

-- a name by what is bare
name_of : (o : Option OwnMethod) → option_map (λ own. own.method.name) (option_map bare o) ≡ option_map (λ own. own.method.name) o
name_of None = refl
name_of (Some own) = refl

bare_name : (tree : Program) (n : ℕ) → option_map (λ own. own.method.name) (slice_get (map bare (all_methods tree)) n) ≡ method_name tree n
bare_name tree n = ap (option_map (λ own. own.method.name)) (slice_get-map bare (all_methods tree) n) ∙ name_of (slice_get (all_methods tree) n)

module _ (tree new : Program) (same : tree_without new ≡ tree_without tree) where
  pub same_classes : map class_without new.classes ≡ map class_without tree.classes
  same_classes = ap (λ t. t.classes) same

  pub same_names : new.names ≡ tree.names
  same_names = ap (λ t. t.names) same

  pub as_many_classes : length new.classes ≡ length tree.classes
  as_many_classes = sym (length-map new.classes class_without) ∙ ap length same_classes ∙ length-map tree.classes class_without

  pub same_methods : map bare (all_methods new) ≡ map bare (all_methods tree)
  same_methods = sym (bare_methods 0 new.classes) ∙ ap (methods_from 0) same_classes ∙ bare_methods 0 tree.classes

  pub as_many_methods : length (all_methods new) ≡ length (all_methods tree)
  as_many_methods = sym (length-map (all_methods new) bare) ∙ ap length same_methods ∙ length-map (all_methods tree) bare

  pub same_regions : all_regions new ≡ all_regions tree
  same_regions = sym (regions_still 0 new.classes) ∙ ap (regions_from 0) same_classes ∙ regions_still 0 tree.classes

  pub same_nd : program_uses_nd new ≡ program_uses_nd tree
  same_nd = sym (nd_still new.classes) ∙ ap (list_any (λ class. list_any member_holds_nd class.members)) same_classes ∙ nd_still tree.classes

  pub same_method_name : (n : ℕ) → method_name new n ≡ method_name tree n
  same_method_name n = sym (bare_name new n) ∙ ap (λ all. option_map (λ own. own.method.name) (slice_get all n)) same_methods ∙ bare_name tree n
