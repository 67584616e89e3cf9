-- What has a number in a text is spelled as names are, and so are the region parameters around a method.
use Rattle.std.proofs.Common.{◌≡◌, ◌∙◌, ◌+◌, ⊎_elim, ℕ, suc, Bool, List, [], ◌∷◌, ◌++◌, map, slice_get, Some, refl, ap, sym, subst, arith}
use Rattle.std.specs.Prelude.{Contains, option_map}
use Rattle.std.specs.List.{AllByRecursion, flat_map}
use Rattle.std.specs.Option.{option_map_or}
use Rattle.std.proofs.lemmas.List.{map-append}
use Rattle.std.proofs.lemmas.List.Elements.{Contains-append_cases}
use Rattle.std.proofs.lemmas.Option.{get_or_from_slice_get, same_Some, slice_get-map, slice_get_within}
use Rattle.lang_typed.specs.Names.{Named}
use Rattle.lang_typed.specs.Plain.{PlainProgram}
use Rattle.syntax_tree.specs.declared.class.Class.{Class}
use Rattle.syntax_tree.specs.declared.class.Member.{Member}
use Rattle.syntax_tree.specs.declared.class.Member.TheVariants as member
use Rattle.syntax_tree.specs.declared.class.Program.{Program}
use Rattle.syntax_tree.specs.declared.region.Named.{Named as Said}
use Rattle.syntax_tree.specs.declared.region.ParamTree.{ParamTree}
use Rattle.syntax_means.specs.Declares.{OwnMethod, OwnRegion, all_methods, all_regions, member_methods, member_regions, methods_from, names_in, regions_from, spelled}
use Rattle.syntax_means.specs.Means.{in_class, param_names}
use Rattle.syntax_means.specs.Paths.{Around}
use Rattle.body_infer.specs.Lines.{class_params, params_of}
use Rattle.sound_infer.proofs.written.Choosing.{first_or_later}
use Rattle.sound_infer.proofs.reading.Paths.{AllSpelled, IsSpelled, RegionIsSpelled}
use Rattle.sound_infer.proofs.reading.Spelled.{ClassSpelled, MemberSpelled, MethodSpelled, ParamsSpelled}

-- what is so of each element

pub nothing_in : {X : Type 0} (x : X) → Contains [] x → ⊥
nothing_in x c = let l = c.1 in omega (arith, l)

contained : {X : Type 0} (xs : List X) (i : ℕ) (x : X) → slice_get xs i ≡ Some x → Contains xs x
contained xs i x e = (i, slice_get_within xs i x e, get_or_from_slice_get xs i x x e)

pub each_in : {X : Type 0} (P : X → Type 0) (xs : List X) → AllByRecursion P xs → (x : X) → Contains xs x → P x
each_in P [] all x c = absurd (nothing_in x c)
each_in P (y ∷ xs) all x c = ⊎_elim (λ e. subst P e all.0) (λ more. each_in P xs all.1 x more) (first_or_later y xs x c)

each_at : {X : Type 0} (P : X → Type 0) (xs : List X) → AllByRecursion P xs → (i : ℕ) (x : X) → slice_get xs i ≡ Some x → P x
each_at P xs all i x e = each_in P xs all x (contained xs i x e)

both_all : {X : Type 0} (P : X → Type 0) (xs ys : List X) → AllByRecursion P xs → AllByRecursion P ys → AllByRecursion P (xs ++ ys)
both_all P [] ys a b = b
both_all P (x ∷ xs) ys a b = (a.0, both_all P xs ys a.1 b)

pub after_all : {X : Type 0} (P : X → Type 0) (xs ys : List X) → AllByRecursion P (xs ++ ys) → AllByRecursion P ys
after_all P [] ys a = a
after_all P (x ∷ xs) ys a = after_all P xs ys a.1

-- regions and methods by their numbers

module _ (tree : Program) where
  named_regions : (c : ℕ) (is_atomic : Bool) (names : List Said) → AllByRecursion (λ (named : Said). IsSpelled tree named.name) names → (r : OwnRegion) →
      Contains (member_regions c (member.Regions is_atomic names)) r → (r.class ≡ c) × IsSpelled tree r.name
  named_regions c is_atomic [] all r d = absurd (nothing_in r d)
  named_regions c is_atomic (named ∷ names) all r d =
      ⊎_elim (λ e. (ap (λ (o : OwnRegion). o.class) (sym e), subst (λ (o : OwnRegion). IsSpelled tree o.name) e all.0)) (λ more. named_regions c is_atomic names all.1 r more)
      (first_or_later _ (member_regions c (member.Regions is_atomic names)) r d)

  member_in : (c : ℕ) (m : Member) → MemberSpelled tree m → (r : OwnRegion) → Contains (member_regions c m) r → (r.class ≡ c) × IsSpelled tree r.name
  member_in c (member.Regions is_atomic names) all r d = named_regions c is_atomic names all r d
  member_in c (member.Field field) all r d = absurd (nothing_in r d)
  member_in c (member.Method method) all r d = absurd (nothing_in r d)

  members_in : (c : ℕ) (ms : List Member) → AllByRecursion (MemberSpelled tree) ms → (r : OwnRegion) → Contains (flat_map (member_regions c) ms) r → (r.class ≡ c) × IsSpelled tree r.name
  members_in c [] all r d = absurd (nothing_in r d)
  members_in c (m ∷ ms) all r d = ⊎_elim (λ own. member_in c m all.0 r own) (λ more. members_in c ms all.1 r more) (Contains-append_cases (member_regions c m) (flat_map (member_regions c) ms) r d)

  regions_in : (c : ℕ) (ks : List Class) → AllByRecursion (ClassSpelled tree) ks → (r : OwnRegion) → Contains (regions_from c ks) r →
      (i : ℕ) × (k : Class) × (r.class ≡ c + i) × (slice_get ks i ≡ Some k) × IsSpelled tree k.name × IsSpelled tree r.name
  regions_in c [] all r d = absurd (nothing_in r d)
  regions_in c (k ∷ ks) all r d =
      ⊎_elim (λ own. (let w = members_in c k.members all.0.2 r own in let at : c ≡ c + 0 = omega arith in (0, k, w.0 ∙ at, refl, all.0.0, w.1)))
      (λ more. (let w = regions_in (suc c) ks all.1 r more in let at : suc c + w.0 ≡ c + suc w.0 = omega arith in (suc w.0, w.1, w.2 ∙ at, w.3, w.4, w.5)))
      (Contains-append_cases (flat_map (member_regions c) k.members) (regions_from (suc c) ks) r d)

  method_in : (c : ℕ) (m : Member) → MemberSpelled tree m → (own : OwnMethod) → Contains (member_methods c m) own → MethodSpelled tree own.method
  method_in c (member.Regions is_atomic names) all own d = absurd (nothing_in own d)
  method_in c (member.Field field) all own d = absurd (nothing_in own d)
  method_in c (member.Method method) all own d =
      ⊎_elim (λ e. subst (λ (o : OwnMethod). MethodSpelled tree o.method) e all) (λ none. absurd (nothing_in own none)) (first_or_later _ [] own d)

  methods_of : (c : ℕ) (ms : List Member) → AllByRecursion (MemberSpelled tree) ms → (own : OwnMethod) → Contains (flat_map (member_methods c) ms) own → MethodSpelled tree own.method
  methods_of c [] all own d = absurd (nothing_in own d)
  methods_of c (m ∷ ms) all own d = ⊎_elim (λ first. method_in c m all.0 own first) (λ more. methods_of c ms all.1 own more) (Contains-append_cases (member_methods c m) (flat_map (member_methods c) ms) own d)

  methods_in : (c : ℕ) (ks : List Class) → AllByRecursion (ClassSpelled tree) ks → (own : OwnMethod) → Contains (methods_from c ks) own → MethodSpelled tree own.method
  methods_in c [] all own d = absurd (nothing_in own d)
  methods_in c (k ∷ ks) all own d =
      ⊎_elim (λ first. methods_of c k.members all.0.2 own first) (λ more. methods_in (suc c) ks all.1 own more)
      (Contains-append_cases (flat_map (member_methods c) k.members) (methods_from (suc c) ks) own d)

  -- the names of region parameters

  own_params : (list : List ParamTree) → ParamsSpelled tree list → AllByRecursion (IsSpelled tree) (map (λ param. param.name) list)
  own_params [] all = tt
  own_params (param ∷ list) all = (all.0, own_params list all.1)

  params_called : (list : List ParamTree) → map (λ param. spelled tree param.name) list ≡ map (spelled tree) (map (λ param. param.name) list)
  params_called [] = refl
  params_called (param ∷ list) = ap (λ rest. spelled tree param.name ∷ rest) (params_called list)

  module _ (P : PlainProgram) (ks : AllByRecursion (ClassSpelled tree) tree.classes) (n : ℕ) (own : OwnMethod) (class : Class) (named : Named) (is : slice_get (all_methods tree) n ≡ Some own)
      (stands : slice_get tree.classes own.class ≡ Some class) (called : slice_get (names_in tree).members n ≡ Some named) where
    pub the_method : MethodSpelled tree own.method
    the_method = methods_in 0 tree.classes ks own (contained (all_methods tree) n own is)

    params_are : params_of (names_in tree) own.class named ≡ map (spelled tree) (param_names class.params ++ param_names own.method.params)
    params_are =
        let first : class_params (names_in tree) own.class ≡ map (spelled tree) (param_names class.params) =
        ap (λ o. option_map_or (λ k. k.params) o []) (slice_get-map _ tree.classes own.class ∙ ap (option_map _) stands) ∙ params_called class.params.list in
        let second : named.params ≡ map (spelled tree) (param_names own.method.params) =
        ap (λ (k : Named). k.params) (same_Some named _ (sym called ∙ slice_get-map _ (all_methods tree) n ∙ ap (option_map _) is)) ∙ params_called own.method.params.list in
        ap (λ ps. ps ++ named.params) first ∙ ap (λ ps. map (spelled tree) (param_names class.params) ++ ps) second ∙ sym (map-append (spelled tree) (param_names class.params) (param_names own.method.params))

    region_spelled : (m : ℕ) (r : OwnRegion) → slice_get (all_regions tree) m ≡ Some r → RegionIsSpelled tree r
    region_spelled m r e =
        let w = regions_in 0 tree.classes ks r (contained (all_regions tree) m r e) in
        let at : w.0 ≡ r.class = omega (arith, w.2) in
        record { class = w.1; declares = subst (λ c. slice_get tree.classes c ≡ Some w.1) at w.3; of_class = w.4; own = w.5 }

    abbrev pub before_formals : Around
    before_formals = record (in_class tree P own.class class) { params = param_names class.params ++ param_names own.method.params }

    pub before_spelled : AllSpelled before_formals (params_of (names_in tree) own.class named)
    before_spelled = record {
      regions = region_spelled;
      named = λ p name e. each_at (IsSpelled tree) (param_names class.params ++ param_names own.method.params)
          (both_all (IsSpelled tree) (param_names class.params) (param_names own.method.params) (own_params class.params.list (each_at (ClassSpelled tree) tree.classes ks own.class class stands).1) (own_params own.method.params.list the_method.0))
          p name e;
      called = params_are;
    }
