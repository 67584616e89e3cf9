-- What a class declares and says a second time, kind by kind.
use Rattle.std.proofs.Common.{◌≡◌, ℕ, Bool, true, false, not, cond, ◌==◌, ◌||◌, List, [], ◌∷◌, ◌++◌, map, replicate, refl, sym, ap, subst, ◌∙◌, append_assoc}
use Rattle.std.specs.List.{flat_map}
use Rattle.lang_base.specs.declared.refusal.Kind.TheVariants as kind
use Rattle.lang_base.specs.declared.refusal.Refusal.{Refusal}
use Rattle.syntax_tree.specs.declared.class.Class.{Class}
use Rattle.syntax_tree.specs.declared.class.Member.{Member}
use Rattle.syntax_tree.specs.declared.class.Member.TheVariants as member
use Rattle.syntax_tree.specs.declared.class.Method.{Method}
use Rattle.syntax_tree.specs.declared.region.Named.{Named}
use Rattle.decl_headers.specs.Around.{Around, passed, method_entered, members_entered, members_faults, methods_left, params_entered, class_entered, class_faults, class_left}
use Rattle.decl_headers.specs.Members.{is_free, all_entered, all_left, second_names, param_names, formal_names, misnamed}
use Rattle.decl_headers.specs.Passes.{fault_if, is_constructor_result}
use Rattle.decl_headers.specs.Second.{regions_in, field_name, fields_in, method_in, method_name, method_names, constructor_names, own_params, own_regions, own_fields, own_methods, names_of, is_known, second_of, wrong_in_method, wrong_in_class}
use Rattle.decl_headers.proofs.Marks.{IsNoOwner, entered_and_left, Says, says_all_entered, AllBelow, second_same, entered_append, left_append, second_append, none_owned, none_said, other_owner}
use Rattle.decl_headers.proofs.Same.{Same, same_list, same_then, same_append, same_after, same_moved, same_moved_two, same_moved_three, same_moved_four}

abbrev regs : List Member → List Named
regs members = flat_map regions_in members

abbrev flds : List Member → List Named
flds members = flat_map fields_in members

abbrev meths : List Member → List Method
meths members = flat_map method_in members

-- with everything that some members declare
abbrev all_declared : Around → ℕ → List Member → Around
all_declared seen number members = record {
  regions = all_entered seen.regions number (regs members);
  fields = all_entered seen.fields number (flds members);
  methods = all_entered seen.methods 0 (method_names (meths members));
  constructors = all_entered seen.constructors 0 (constructor_names (meths members));
  params = seen.params;
  formals = seen.formals;
}

-- with the method's name
abbrev one_declared : Around → Method → Bool → Around
one_declared seen method b = record seen {
  methods = all_entered seen.methods 0 (cond b [] (method_name method ∷ []));
  constructors = all_entered seen.constructors 0 (cond b (method_name method ∷ []) []);
}

same_passed : (owners : List ℕ) (names : List Named) → IsNoOwner owners 1 → passed owners names ≡ owners
same_passed owners names none = entered_and_left owners 1 names names none (λ x h. h)

method_declared : (seen : Around) (method : Method) → IsNoOwner seen.params 1 → IsNoOwner seen.formals 1 → method_entered seen method ≡ one_declared seen method (is_constructor_result method.result)
method_declared seen method params formals = by (is_constructor_result method.result)
  where
    by : (b : Bool) → (let named : Around = cond b (record seen { constructors = all_entered seen.constructors 0 (method_name method ∷ []) }) (record seen { methods = all_entered seen.methods 0 (method_name method ∷ []) }) in
        record named { params = passed named.params (param_names method.params.list); formals = passed named.formals (formal_names method.formals) }) ≡ one_declared seen method b
    by true =
        ap (λ p. record seen { constructors = all_entered seen.constructors 0 (method_name method ∷ []); params = p; formals = passed seen.formals (formal_names method.formals) }) (same_passed seen.params (param_names method.params.list) params)
        ∙ ap (λ f. record seen { constructors = all_entered seen.constructors 0 (method_name method ∷ []); formals = f }) (same_passed seen.formals (formal_names method.formals) formals)
    by false =
        ap (λ p. record seen { methods = all_entered seen.methods 0 (method_name method ∷ []); params = p; formals = passed seen.formals (formal_names method.formals) }) (same_passed seen.params (param_names method.params.list) params)
        ∙ ap (λ f. record seen { methods = all_entered seen.methods 0 (method_name method ∷ []); formals = f }) (same_passed seen.formals (formal_names method.formals) formals)

pub members_declared : (seen : Around) (number : ℕ) (members : List Member) → IsNoOwner seen.params 1 → IsNoOwner seen.formals 1 → members_entered seen number members ≡ all_declared seen number members
members_declared seen number [] params formals = refl
members_declared seen number (member.Regions is_atomic names ∷ members) params formals =
    members_declared (record seen { regions = all_entered seen.regions number names }) number members params formals
    ∙ ap (λ r. record (all_declared seen number members) { regions = r }) (sym (entered_append seen.regions number names (regs members)))
members_declared seen number (member.Field field ∷ members) params formals =
    members_declared (record seen { fields = all_entered seen.fields number (field_name field ∷ []) }) number members params formals
members_declared seen number (member.Method method ∷ members) params formals =
    let b = is_constructor_result method.result in
    ap (λ s. members_entered s number members) (method_declared seen method params formals)
    ∙ members_declared (one_declared seen method b) number members params formals
    ∙ ap (λ m. record (all_declared seen number members) { methods = m; constructors = all_entered (all_entered seen.constructors 0 (cond b (method_name method ∷ []) [])) 0 (constructor_names (meths members)) })
    (sym (entered_append seen.methods 0 (cond b [] (method_name method ∷ [])) (method_names (meths members))))
    ∙ ap (λ c. record (all_declared seen number members) { methods = all_entered seen.methods 0 (method_names (method ∷ meths members)); constructors = c })
    (sym (entered_append seen.constructors 0 (cond b (method_name method ∷ []) []) (constructor_names (meths members))))

-- all methods are declared no more
abbrev called : List Method → List Named
called methods = map method_name methods

pub methods_gone : (seen : Around) (members : List Member) → methods_left seen members ≡ record seen { methods = all_left seen.methods 0 (called (meths members)); constructors = all_left seen.constructors 0 (called (meths members)) }
methods_gone seen [] = refl
methods_gone seen (member.Regions is_atomic names ∷ members) = methods_gone seen members
methods_gone seen (member.Field field ∷ members) = methods_gone seen members
methods_gone seen (member.Method method ∷ members) =
    methods_gone (record seen { methods = all_left seen.methods 0 (method_name method ∷ []); constructors = all_left seen.constructors 0 (method_name method ∷ []) }) members

or_more : (e k l : Bool) → (k ≡ true → l ≡ true) → (e || k) ≡ true → (e || l) ≡ true
or_more true k l f h = refl
or_more false k l f h = f h

or_last : (e l : Bool) → l ≡ true → (e || l) ≡ true
or_last true l h = refl
or_last false l h = h

method_called : (methods : List Method) (x : ℕ) → is_known (names_of (method_names methods)) x ≡ true → is_known (names_of (called methods)) x ≡ true
method_called [] x h = h
method_called (method ∷ methods) x h = by (is_constructor_result method.result) (method_called methods x) h
  where
    by : (b : Bool) → (is_known (names_of (method_names methods)) x ≡ true → is_known (names_of (called methods)) x ≡ true) → is_known (names_of (cond b [] (method_name method ∷ []) ++ method_names methods)) x ≡ true → is_known (names_of (called (method ∷ methods))) x ≡ true
    by true more k = or_last (method.name == x) _ (more k)
    by false more k = or_more (method.name == x) _ _ more k

constructor_called : (methods : List Method) (x : ℕ) → is_known (names_of (constructor_names methods)) x ≡ true → is_known (names_of (called methods)) x ≡ true
constructor_called [] x h = h
constructor_called (method ∷ methods) x h = by (is_constructor_result method.result) (constructor_called methods x) h
  where
    by : (b : Bool) → (is_known (names_of (constructor_names methods)) x ≡ true → is_known (names_of (called methods)) x ≡ true) → is_known (names_of (cond b (method_name method ∷ []) [] ++ constructor_names methods)) x ≡ true → is_known (names_of (called (method ∷ methods))) x ≡ true
    by true more k = or_more (method.name == x) _ _ more k
    by false more k = or_last (method.name == x) _ (more k)

-- between classes no method, parameter or formal is declared
pub record Clean (count : ℕ) (seen : Around) : Type 0 where
  pub methods : seen.methods ≡ replicate count 0
  pub constructors : seen.constructors ≡ replicate count 0
  pub params : seen.params ≡ replicate count 0
  pub formals : seen.formals ≡ replicate count 0

no_owner : (count : ℕ) (owners : List ℕ) (owner : ℕ) → owners ≡ replicate count 0 → IsNoOwner owners owner
no_owner count owners owner e = subst (λ o. IsNoOwner o owner) (sym e) (none_owned count owner)

params_owner : (count : ℕ) (owners : List ℕ) (names : List Named) → owners ≡ replicate count 0 → IsNoOwner (all_entered owners 0 names) 1
params_owner count owners names e = subst (λ o. IsNoOwner (all_entered o 0 names) 1) (sym e) (other_owner count 0 1 names refl)

-- after a class its region names and its fields are declared
pub class_declared : (count : ℕ) (seen : Around) (number : ℕ) (class : Class) → Clean count seen → class_entered seen number class ≡ record seen { regions = all_entered seen.regions number (own_regions class); fields = all_entered seen.fields number (own_fields class) }
class_declared count seen number class clean =
    let members = class.members in
    let inner = params_entered seen class in
    let named = method_names (meths members) in
    let made = constructor_names (meths members) in
    let all = called (meths members) in
    let regions = all_entered seen.regions number (own_regions class) in
    let fields = all_entered seen.fields number (own_fields class) in
    let declared : members_entered inner number members ≡ all_declared inner number members =
    members_declared inner number members (params_owner count seen.params (own_params class) clean.params) (no_owner count seen.formals 1 clean.formals) in
    let methods : all_left (all_entered seen.methods 0 named) 0 all ≡ seen.methods = entered_and_left seen.methods 0 named all (no_owner count seen.methods 0 clean.methods) (method_called (meths members)) in
    let constructors : all_left (all_entered seen.constructors 0 made) 0 all ≡ seen.constructors = entered_and_left seen.constructors 0 made all (no_owner count seen.constructors 0 clean.constructors) (constructor_called (meths members)) in
    let params : all_left (all_entered seen.params 0 (own_params class)) 0 (own_params class) ≡ seen.params = entered_and_left seen.params 0 (own_params class) (own_params class) (no_owner count seen.params 0 clean.params) (λ x h. h) in
    let left : Around → Around = λ s. record s { params = all_left s.params 0 (own_params class) } in
    ap (λ s. left (methods_left s members)) declared
    ∙ ap left (methods_gone (all_declared inner number members) members)
    ∙ ap (λ m. left (record inner { regions = regions; fields = fields; methods = m; constructors = all_left (all_entered seen.constructors 0 made) 0 all })) methods
    ∙ ap (λ c. left (record inner { regions = regions; fields = fields; constructors = c })) constructors
    ∙ ap (λ p. record seen { regions = regions; fields = fields; params = p }) params

-- and then no more
pub class_gone : (seen : Around) (number : ℕ) (members : List Member) → class_left seen number members ≡ record seen { regions = all_left seen.regions number (regs members); fields = all_left seen.fields number (flds members) }
class_gone seen number [] = refl
class_gone seen number (member.Regions is_atomic names ∷ members) =
    class_gone (record seen { regions = all_left seen.regions number names }) number members
    ∙ ap (λ r. record seen { regions = r; fields = all_left seen.fields number (flds members) }) (sym (left_append seen.regions number names (regs members)))
class_gone seen number (member.Field field ∷ members) = class_gone (record seen { fields = all_left seen.fields number (field_name field ∷ []) }) number members
class_gone seen number (member.Method method ∷ members) = class_gone seen number members

pub class_passed : (count : ℕ) (seen : Around) (number : ℕ) (class : Class) → Clean count seen → IsNoOwner seen.regions number → IsNoOwner seen.fields number → class_left (class_entered seen number class) number class.members ≡ seen
class_passed count seen number class clean regions fields =
    ap (λ s. class_left s number class.members) (class_declared count seen number class clean)
    ∙ class_gone (record seen { regions = all_entered seen.regions number (own_regions class); fields = all_entered seen.fields number (own_fields class) }) number class.members
    ∙ ap (λ r. record seen { regions = r; fields = all_left (all_entered seen.fields number (own_fields class)) number (own_fields class) }) (entered_and_left seen.regions number (own_regions class) (own_regions class) regions (λ x h. h))
    ∙ ap (λ f. record seen { fields = f }) (entered_and_left seen.fields number (own_fields class) (own_fields class) fields (λ x h. h))

-- what is said a second time, kind by kind
abbrev in_method : Around → Class → Method → List Refusal
in_method seen class method =
    misnamed class method ++ (second_names seen.params 1 (param_names method.params.list) ++ second_names seen.formals 1 (formal_names method.formals))

abbrev by_kind : Around → Class → ℕ → List Member → List Refusal
by_kind seen class number members =
    second_names seen.regions number (regs members) ++ (second_names seen.fields number (flds members)
    ++ (second_names seen.methods 0 (method_names (meths members)) ++ (second_names seen.constructors 0 (constructor_names (meths members))
    ++ flat_map (in_method seen class) (meths members))))

-- a method, before what its class says a second time
abbrev second_at : Around → Method → Bool → List Refusal
second_at seen method b = fault_if (not (is_free (cond b seen.constructors seen.methods) method.name)) kind.Duplicate method.place

method_kinds : (seen : Around) (class : Class) (number : ℕ) (method : Method) (members : List Member) (b : Bool) → Same
    (second_at seen method b ++ (in_method seen class method ++ by_kind (one_declared seen method b) class number members))
    (second_names seen.regions number (regs members) ++ (second_names seen.fields number (flds members)
    ++ (second_names seen.methods 0 (cond b [] (method_name method ∷ []) ++ method_names (meths members)) ++ (second_names seen.constructors 0 (cond b (method_name method ∷ []) [] ++ constructor_names (meths members))
    ++ (in_method seen class method ++ flat_map (in_method seen class) (meths members))))))
method_kinds seen class number method members true =
    let a = second_names seen.regions number (regs members) in
    let f = second_names seen.fields number (flds members) in
    let m = second_names seen.methods 0 (method_names (meths members)) in
    let made = second_names (all_entered seen.constructors 0 (method_name method ∷ [])) 0 (constructor_names (meths members)) in
    let rest = flat_map (in_method seen class) (meths members) in
    let x = second_at seen method true in
    let w = in_method seen class method in
    same_then _ _ _ (same_after x _ _ (same_moved_four w a f m made rest))
    (same_then _ _ _ (same_moved_three x a f m (made ++ (w ++ rest)))
    (same_list _ _ (ap (λ z. a ++ (f ++ (m ++ z))) (sym (append_assoc x made (w ++ rest))))))
method_kinds seen class number method members false =
    let a = second_names seen.regions number (regs members) in
    let f = second_names seen.fields number (flds members) in
    let m = second_names (all_entered seen.methods 0 (method_name method ∷ [])) 0 (method_names (meths members)) in
    let made = second_names seen.constructors 0 (constructor_names (meths members)) in
    let rest = flat_map (in_method seen class) (meths members) in
    let x = second_at seen method false in
    let w = in_method seen class method in
    same_then _ _ _ (same_after x _ _ (same_moved_four w a f m made rest))
    (same_then _ _ _ (same_moved_two x a f (m ++ (made ++ (w ++ rest))))
    (same_list _ _ (ap (λ z. a ++ (f ++ z)) (sym (append_assoc x m (made ++ (w ++ rest)))))))

pub members_by_kind : (seen : Around) (class : Class) (number : ℕ) (members : List Member) → IsNoOwner seen.params 1 → IsNoOwner seen.formals 1 → Same (members_faults seen class number members) (by_kind seen class number members)
members_by_kind seen class number [] params formals = same_list _ _ refl
members_by_kind seen class number (member.Regions is_atomic names ∷ members) params formals =
    let here = second_names seen.regions number names in
    let next = record seen { regions = all_entered seen.regions number names } in
    let more = second_names next.regions number (regs members) in
    let rest = second_names seen.fields number (flds members) ++ (second_names seen.methods 0 (method_names (meths members)) ++ (second_names seen.constructors 0 (constructor_names (meths members)) ++ flat_map (in_method seen class) (meths members))) in
    same_then _ _ _ (same_after here _ _ (members_by_kind next class number members params formals))
    (same_list _ _ (sym (append_assoc here more rest) ∙ ap (λ z. z ++ rest) (sym (second_append seen.regions number names (regs members)))))
members_by_kind seen class number (member.Field field ∷ members) params formals =
    let here = fault_if (not (is_free seen.fields field.name)) kind.Duplicate field.place in
    let next = record seen { fields = all_entered seen.fields number (field_name field ∷ []) } in
    let regions = second_names seen.regions number (regs members) in
    let more = second_names next.fields number (flds members) in
    let rest = second_names seen.methods 0 (method_names (meths members)) ++ (second_names seen.constructors 0 (constructor_names (meths members)) ++ flat_map (in_method seen class) (meths members)) in
    same_then _ _ _ (same_after here _ _ (members_by_kind next class number members params formals))
    (same_then _ _ _ (same_moved here regions (more ++ rest)) (same_list _ _ (ap (λ z. regions ++ z) (sym (append_assoc here more rest)))))
members_by_kind seen class number (member.Method method ∷ members) params formals =
    let b = is_constructor_result method.result in
    let wrong = misnamed class method in
    let x = second_at seen method b in
    let inner = second_names seen.params 1 (param_names method.params.list) ++ second_names seen.formals 1 (formal_names method.formals) in
    let next = one_declared seen method b in
    same_then _ _ _
    (same_append _ _ _ _ (same_moved wrong x inner)
    (same_then _ _ _ (same_list _ _ (ap (λ s. members_faults s class number members) (method_declared seen method params formals))) (members_by_kind next class number members params formals)))
    (same_then _ _ _ (same_list _ _ (append_assoc x (wrong ++ inner) (by_kind next class number members))) (method_kinds seen class number method members b))

-- the names in the methods are below a count
abbrev pub InnerBelow : ℕ → List Method → Type 0
InnerBelow count [] = Unit {0}
InnerBelow count (method ∷ methods) = AllBelow count (param_names method.params.list) × AllBelow count (formal_names method.formals) × InnerBelow count methods

-- the names of a class are below a count
pub record Below (count : ℕ) (class : Class) : Type 0 where
  pub params : AllBelow count (own_params class)
  pub regions : AllBelow count (own_regions class)
  pub fields : AllBelow count (own_fields class)
  pub methods : AllBelow count (method_names (own_methods class))
  pub constructors : AllBelow count (constructor_names (own_methods class))
  pub inner : InnerBelow count (own_methods class)

says_none : (count : ℕ) (owners : List ℕ) → owners ≡ replicate count 0 → Says count owners []
says_none count owners e = subst (λ o. Says count o []) (sym e) (none_said count)

append_nil : (xs : List ℕ) → xs ++ [] ≡ xs
append_nil [] = refl
append_nil (x ∷ xs) = ap (λ z. x ∷ z) (append_nil xs)

same_inner : (count : ℕ) (seen : Around) (class : Class) (methods : List Method) → Says count seen.params (names_of (own_params class)) → Says count seen.formals [] → InnerBelow count methods → flat_map (in_method seen class) methods ≡ flat_map (wrong_in_method class) methods
same_inner count seen class [] params formals below = refl
same_inner count seen class (method ∷ methods) params formals below =
    ap (λ p. (misnamed class method ++ (p ++ second_names seen.formals 1 (formal_names method.formals))) ++ flat_map (in_method seen class) methods)
    (second_same count seen.params (names_of (own_params class)) 1 (param_names method.params.list) params below.0)
    ∙ ap (λ f. (misnamed class method ++ (second_of (names_of (own_params class)) (param_names method.params.list) ++ f)) ++ flat_map (in_method seen class) methods)
    (second_same count seen.formals [] 1 (formal_names method.formals) formals below.1)
    ∙ ap (λ rest. wrong_in_method class method ++ rest) (same_inner count seen class methods params formals below.2)

-- where the marks say what the class inherits, it says a second time what is wrong in it
pub class_second : (count : ℕ) (seen : Around) (number : ℕ) (class : Class) (regions fields : List ℕ) → Clean count seen → Says count seen.regions regions → Says count seen.fields fields → Below count class → Same (class_faults seen number class) (wrong_in_class regions fields class)
class_second count seen number class regions fields clean says_regions says_fields below =
    let inner = params_entered seen class in
    let members = class.members in
    let none : Says count seen.params [] = says_none count seen.params clean.params in
    let inner_params : Says count inner.params (names_of (own_params class)) =
    subst (λ known. Says count inner.params known) (append_nil (names_of (own_params class))) (says_all_entered count seen.params [] 0 (own_params class) none) in
    let p : second_names seen.params 0 (own_params class) ≡ second_of [] (own_params class) = second_same count seen.params [] 0 (own_params class) none below.params in
    let r : second_names seen.regions number (own_regions class) ≡ second_of regions (own_regions class) = second_same count seen.regions regions number (own_regions class) says_regions below.regions in
    let f : second_names seen.fields number (own_fields class) ≡ second_of fields (own_fields class) = second_same count seen.fields fields number (own_fields class) says_fields below.fields in
    let m : second_names seen.methods 0 (method_names (own_methods class)) ≡ second_of [] (method_names (own_methods class)) =
    second_same count seen.methods [] 0 (method_names (own_methods class)) (says_none count seen.methods clean.methods) below.methods in
    let c : second_names seen.constructors 0 (constructor_names (own_methods class)) ≡ second_of [] (constructor_names (own_methods class)) =
    second_same count seen.constructors [] 0 (constructor_names (own_methods class)) (says_none count seen.constructors clean.constructors) below.constructors in
    let i : flat_map (in_method inner class) (own_methods class) ≡ flat_map (wrong_in_method class) (own_methods class) =
    same_inner count inner class (own_methods class) inner_params (says_none count seen.formals clean.formals) below.inner in
    same_then _ _ _
    (same_after (second_names seen.params 0 (own_params class)) _ _
    (members_by_kind inner class number members (params_owner count seen.params (own_params class) clean.params) (no_owner count seen.formals 1 clean.formals)))
    (same_list _ _ (cc (p, r, f, m, c, i)))
