-- Where every name of a program is a position among its names, so are those that its classes declare.
use Rattle.std.proofs.Common.{◌≡◌, ℕ, ◌<◌, ◌&&◌, true, List, [], ◌∷◌, ◌++◌, map, length, All, inl, inr, refl, sym, ap, subst, ◌∙◌}
use Rattle.std.proofs.lemmas.Bool.Decides.{Decides-ltb}
use Rattle.std.proofs.lemmas.List.Elements.{All-head, All-tail}
use Rattle.std.specs.List.{flat_map, list_all}
use Rattle.syntax_tree.specs.declared.class.Class.{Class}
use Rattle.syntax_tree.specs.declared.class.Formal.{Formal}
use Rattle.syntax_tree.specs.declared.class.Member.{Member}
use Rattle.syntax_tree.specs.declared.class.Member.TheVariants as member
use Rattle.syntax_tree.specs.declared.class.Method.{Method}
use Rattle.syntax_tree.specs.declared.class.Program.{Program}
use Rattle.syntax_tree.specs.declared.region.Named.{Named}
use Rattle.syntax_tree.specs.declared.region.Params.{Params}
use Rattle.syntax_tree.specs.declared.region.ParamTree.{ParamTree}
use Rattle.syntax_tree.specs.Names.{rpl_names, type_names, params_names, parent_names, result_names, member_names, class_names, program_names}
use Rattle.syntax_tree.specs.Names.{method_names as names_of_method}
use Rattle.decl_headers.specs.Members.{param_names, formal_names}
use Rattle.decl_headers.specs.Second.{regions_in, fields_in, method_in, own_params, own_regions, own_fields, own_methods, are_below, declared_in_method, declared_in, AreNamed, AreCounted}
use Rattle.decl_headers.proofs.Among.{among_left, among_right, among_either, among_flat, from_flat}
use Rattle.decl_headers.proofs.Order.{Among}

all_at : {A : Type 0} (P : A → Type 0) (x : A) (xs : List A) → All P xs → Among x xs → P x
all_at P x [] h k = absurd k
all_at P x (y ∷ xs) h (inl e) = subst P (sym e) (All-head P y xs h)
all_at P x (y ∷ xs) h (inr k) = all_at P x xs (All-tail P y xs h) k

-- the names of declarations are names of the class
named_params : (named : Named) (params : List ParamTree) → Among named (param_names params) → Among named.name (map (λ param. param.name) params)
named_params named [] h = absurd h
named_params named (param ∷ params) (inl e) = inl (ap (λ n. n.name) e)
named_params named (param ∷ params) (inr h) = inr (named_params named params h)

in_params : (named : Named) (params : Params) → Among named (param_names params.list) → Among named.name (params_names params)
in_params named params h = among_left named.name (map (λ param. param.name) params.list) (flat_map (λ given. rpl_names given.left ++ rpl_names given.right) params.given) (named_params named params.list h)

named_list : (named : Named) (names : List Named) → Among named names → Among named.name (map (λ n. n.name) names)
named_list named [] h = absurd h
named_list named (one ∷ names) (inl e) = inl (ap (λ n. n.name) e)
named_list named (one ∷ names) (inr h) = inr (named_list named names h)

named_formals : (named : Named) (formals : List Formal) → Among named (formal_names formals) → Among named.name (flat_map (λ formal. type_names formal.ty ++ formal.name ∷ []) formals)
named_formals named [] h = absurd h
named_formals named (formal ∷ formals) (inl e) =
    among_left named.name (type_names formal.ty ++ formal.name ∷ []) _ (among_right named.name (type_names formal.ty) (formal.name ∷ []) (inl (ap (λ n. n.name) e)))
named_formals named (formal ∷ formals) (inr h) = among_right named.name (type_names formal.ty ++ formal.name ∷ []) _ (named_formals named formals h)

named_method : (named : Named) (method : Method) → Among named (declared_in_method method) → Among named.name (names_of_method method)
named_method named method h =
    among_left named.name _ _ (among_left named.name _ _ (early h))
  where
    early : Among named (declared_in_method method) → Among named.name ((params_names method.params ++ result_names method.result) ++ method.name ∷ flat_map (λ formal. type_names formal.ty ++ formal.name ∷ []) method.formals)
    early (inl e) = among_right named.name (params_names method.params ++ result_names method.result) _ (inl (ap (λ n. n.name) e))
    early (inr more) =
        elim (among_either named (param_names method.params.list) (formal_names method.formals) more) [
          | inl p ↦ among_left named.name (params_names method.params ++ result_names method.result) _ (among_left named.name (params_names method.params) (result_names method.result) (in_params named method.params p))
          | inr f ↦ among_right named.name (params_names method.params ++ result_names method.result) _ (inr (named_formals named method.formals f))
        ]

named_region : (named : Named) (one : Member) → Among named (regions_in one) → Among named.name (member_names one)
named_region named (member.Regions is_atomic names) h = named_list named names h
named_region named (member.Field field) h = absurd h
named_region named (member.Method method) h = absurd h

named_field : (named : Named) (one : Member) → Among named (fields_in one) → Among named.name (member_names one)
named_field named (member.Regions is_atomic names) h = absurd h
named_field named (member.Field field) (inl e) = among_right named.name (type_names field.ty) _ (inl (ap (λ n. n.name) e))
named_field named (member.Field field) (inr none) = absurd none
named_field named (member.Method method) h = absurd h

named_inner : (named : Named) (one : Member) (method : Method) → Among method (method_in one) → Among named (declared_in_method method) → Among named.name (member_names one)
named_inner named (member.Regions is_atomic names) method h k = absurd h
named_inner named (member.Field field) method h k = absurd h
named_inner named (member.Method other) method (inl e) k = named_method named other (subst (λ m. Among named (declared_in_method m)) e k)
named_inner named (member.Method other) method (inr none) k = absurd none

named_class : (named : Named) (class : Class) → Among named (declared_in class) → Among named.name (class_names class)
named_class named class h =
    elim (among_either named (own_params class) _ h) [
      | inl p ↦ among_left named.name ((class.name ∷ params_names class.params) ++ parent_names class.parent) (flat_map member_names class.members)
          (among_left named.name (class.name ∷ params_names class.params) (parent_names class.parent) (inr (in_params named class.params p)))
      | inr a ↦ elim (among_either named (own_regions class) _ a) [
        | inl r ↦ let w = from_flat regions_in named class.members r in deep (among_flat member_names named.name w.0 class.members w.1 (named_region named w.0 w.2))
        | inr b ↦ elim (among_either named (own_fields class) _ b) [
          | inl f ↦ let w = from_flat fields_in named class.members f in deep (among_flat member_names named.name w.0 class.members w.1 (named_field named w.0 w.2))
          | inr m ↦
              let v = from_flat declared_in_method named (own_methods class) m in
              let w = from_flat method_in v.0 class.members v.1 in
              deep (among_flat member_names named.name w.0 class.members w.1 (named_inner named w.0 v.0 w.2 v.2))
        ]
      ]
    ]
  where
    deep : Among named.name (flat_map member_names class.members) → Among named.name (class_names class)
    deep k = among_right named.name ((class.name ∷ params_names class.params) ++ parent_names class.parent) (flat_map member_names class.members) k

below_when : (count : ℕ) (names : List Named) → ((named : Named) → Among named names → named.name < count) → are_below count names ≡ true
below_when count [] h = refl
below_when count (named ∷ names) h =
    ap (λ b. b && are_below count names) ((Decides-ltb named.name count).1 (h named (inl refl))) ∙ below_when count names (λ other k. h other (inr k))

named_when : (count : ℕ) (classes : List Class) → ((class : Class) → Among class classes → are_below count (declared_in class) ≡ true) → AreNamed count classes
named_when count [] h = refl
named_when count (class ∷ classes) h =
    ap (λ b. b && list_all (λ one. are_below count (declared_in one)) classes) (h class (inl refl)) ∙ named_when count classes (λ other k. h other (inr k))

-- fewer classes than numbers, and names that are positions among so many
pub counted_when_named : (program : Program) → length program.classes < 4294967295 → All (λ name. name < length program.names) (program_names program)
    → AreCounted (length program.names) program.classes
counted_when_named program few named = (
  few,
  named_when (length program.names) program.classes
      (λ class k. below_when (length program.names) (declared_in class)
      (λ one h. all_at (λ name. name < length program.names) one.name (program_names program) named (among_flat class_names one.name class program.classes k (named_class one class h)))),
)
