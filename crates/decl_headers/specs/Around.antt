-- What is declared around a member, each kind of name by itself, and what the classes' members and parameters do to
-- it and say of it a second time, on a way from class to class.
use Rattle.std.specs.Prelude.{ℕ, not, cond, List, [], ◌∷◌, ◌++◌, replicate, slice_get, Option}
use Rattle.std.specs.Option.{option_map_or}
use Rattle.lang_base.specs.declared.refusal.Kind.TheVariants as kind
use Rattle.lang_base.specs.declared.refusal.Refusal.{Refusal}
use Rattle.syntax_tree.specs.declared.class.Class.{Class}
use Rattle.syntax_tree.specs.declared.class.Member.{Member}
use Rattle.syntax_tree.specs.declared.class.Member.TheVariants as member
use Rattle.syntax_tree.specs.declared.class.Method.{Method}
use Rattle.syntax_tree.specs.declared.region.Named.{Named}
use Rattle.decl_headers.specs.declared.forest.Step.{Step}
use Rattle.decl_headers.specs.declared.forest.Step.TheVariants as step
use Rattle.decl_headers.specs.declared.members.Visible.{Visible}
use Rattle.decl_headers.specs.Members.{marks, is_free, entered, left, all_entered, all_left, second_names, param_names, formal_names, misnamed}
use Rattle.decl_headers.specs.Passes.{fault_if, first_of, is_constructor_result}

-- the marks of each kind of name
pub record Around : Type 0 where
  pub regions : List ℕ
  pub fields : List ℕ
  pub methods : List ℕ
  pub constructors : List ℕ
  pub params : List ℕ
  pub formals : List ℕ

abbrev pub around : Visible → Around
around visible = record {
  regions = marks visible.regions;
  fields = marks visible.fields;
  methods = marks visible.methods;
  constructors = marks visible.constructors;
  params = marks visible.params;
  formals = marks visible.formals;
}

-- no name of so many is declared
abbrev pub none_around : ℕ → Around
none_around names =
    let none = replicate names 0 in
    record { regions = none; fields = none; methods = none; constructors = none; params = none; formals = none }

-- the method's own name is declared
abbrev pub method_named : Around → Method → Around
method_named seen method =
    cond (is_constructor_result method.result)
    (record seen { constructors = entered seen.constructors method.name 0 })
    (record seen { methods = entered seen.methods method.name 0 })

-- the method's own name is declared already
abbrev pub second_method : Around → Method → List Refusal
second_method seen method =
    fault_if (not (is_free (cond (is_constructor_result method.result) seen.constructors seen.methods) method.name)) kind.Duplicate method.place

-- names are declared by a method, and no more after it
abbrev pub passed : List ℕ → List Named → List ℕ
passed owners names = all_left (all_entered owners 1 names) 1 names

abbrev pub method_entered : Around → Method → Around
method_entered seen method =
    let named = method_named seen method in
    record named {
      params = passed named.params (param_names method.params.list);
      formals = passed named.formals (formal_names method.formals);
    }

abbrev pub method_faults : Around → Class → Method → List Refusal
method_faults seen class method =
    misnamed class method ++ (second_method seen method
    ++ (second_names seen.params 1 (param_names method.params.list) ++ second_names seen.formals 1 (formal_names method.formals)))

abbrev pub member_entered : Around → ℕ → Member → Around
member_entered seen number (member.Regions is_atomic names) = record seen { regions = all_entered seen.regions number names }
member_entered seen number (member.Field field) = record seen { fields = entered seen.fields field.name number }
member_entered seen number (member.Method method) = method_entered seen method

abbrev pub member_faults : Around → Class → ℕ → Member → List Refusal
member_faults seen class number (member.Regions is_atomic names) = second_names seen.regions number names
member_faults seen class number (member.Field field) = fault_if (not (is_free seen.fields field.name)) kind.Duplicate field.place
member_faults seen class number (member.Method method) = method_faults seen class method

-- one member after the other
abbrev pub members_entered : Around → ℕ → List Member → Around
members_entered seen number [] = seen
members_entered seen number (m ∷ more) = members_entered (member_entered seen number m) number more

abbrev pub members_faults : Around → Class → ℕ → List Member → List Refusal
members_faults seen class number [] = []
members_faults seen class number (m ∷ more) =
    member_faults seen class number m ++ members_faults (member_entered seen number m) class number more

-- the method is declared no more
abbrev pub method_left : Around → Member → Around
method_left seen (member.Regions is_atomic names) = seen
method_left seen (member.Field field) = seen
method_left seen (member.Method method) =
    record seen { methods = left seen.methods method.name 0; constructors = left seen.constructors method.name 0 }

abbrev pub methods_left : Around → List Member → Around
methods_left seen [] = seen
methods_left seen (m ∷ more) = methods_left (method_left seen m) more

abbrev pub class_params : Class → List Named
class_params class = param_names class.params.list

abbrev pub params_entered : Around → Class → Around
params_entered seen class = record seen { params = all_entered seen.params 0 (class_params class) }

abbrev pub params_left : Around → Class → Around
params_left seen class = record seen { params = all_left seen.params 0 (class_params class) }

-- after the class its region names and fields are declared for what extends it
abbrev pub class_entered : Around → ℕ → Class → Around
class_entered seen number class =
    params_left (methods_left (members_entered (params_entered seen class) number class.members) class.members) class

abbrev pub class_faults : Around → ℕ → Class → List Refusal
class_faults seen number class =
    second_names seen.params 0 (class_params class) ++ members_faults (params_entered seen class) class number class.members

-- what the class handed down is declared no more
abbrev pub member_left : Around → ℕ → Member → Around
member_left seen number (member.Regions is_atomic names) = record seen { regions = all_left seen.regions number names }
member_left seen number (member.Field field) = record seen { fields = left seen.fields field.name number }
member_left seen number (member.Method method) = seen

abbrev pub class_left : Around → ℕ → List Member → Around
class_left seen number [] = seen
class_left seen number (m ∷ more) = class_left (member_left seen number m) number more

-- one step of the way through the classes
abbrev pub after_step : List Class → Around → Step → Around
after_step classes seen (step.Enter number) = option_map_or (λ class. class_entered seen number class) (slice_get classes number) seen
after_step classes seen (step.Leave number) = option_map_or (λ class. class_left seen number class.members) (slice_get classes number) seen

abbrev pub step_faults : List Class → Around → Step → List Refusal
step_faults classes seen (step.Enter number) = option_map_or (λ class. class_faults seen number class) (slice_get classes number) []
step_faults classes seen (step.Leave number) = []

-- what is said a second time on the way
abbrev pub way_faults : List Class → Around → List Step → List Refusal
way_faults classes seen [] = []
way_faults classes seen (s ∷ more) = step_faults classes seen s ++ way_faults classes (after_step classes seen s) more

-- the fault that is reported of these, if there is one
abbrev pub reported_on_way : ℕ → List Class → List Step → Option Refusal
reported_on_way names classes steps = first_of (way_faults classes (none_around names) steps)
