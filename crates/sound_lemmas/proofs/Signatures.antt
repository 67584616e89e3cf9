-- The methods and constructors of a text, and that a class table has a row for each.
use Rattle.std.proofs.Common.{◌≡◌, ◌∙◌, ℕ, suc, ◌+◌, List, [], ◌∷◌, ◌++◌, length, refl, ap, sym}
use Rattle.std.proofs.lemmas.List.{length-append, length-map}
use Rattle.lang_base.specs.declared.effect.Constraint.{Constraint}
use Rattle.decl_headers.specs.declared.header.Headers.{Headers}
use Rattle.decl_headers.specs.Numbers.{as_number}
use Rattle.decl_resolve.specs.Scopes.{PlainScope}
use Rattle.syntax_tree.specs.declared.class.Class.{Class}
use Rattle.syntax_tree.specs.declared.class.Member.{Member}
use Rattle.syntax_tree.specs.declared.class.Member.TheVariants as member
use Rattle.syntax_tree.specs.declared.class.Method.{Method}
use Rattle.syntax_tree.specs.declared.class.Program.{Program}
use Rattle.decl_table.specs.declared.table.Table.{Table}
use Rattle.decl_classes.specs.Around.{class_scope}
use Rattle.decl_table.specs.Plain.{plain_method}
use Rattle.decl_classes.specs.Rows.{methods_from, methods_meant}
use Rattle.decl_table.specs.Table.{headers_of, methods_of}
use Rattle.decl_laws.proofs.Granted.{IsReadOf}

-- the methods and constructors of members, and of classes, in the order of the text
abbrev pub own_in : Member → List Method
own_in (member.Regions is_atomic names) = []
own_in (member.Field field) = []
own_in (member.Method method) = method ∷ []

abbrev pub methods_in : List Member → List Method
methods_in [] = []
methods_in (m ∷ ms) = own_in m ++ methods_in ms

abbrev pub all_methods : List Class → List Method
all_methods [] = []
all_methods (class ∷ classes) = methods_in class.members ++ all_methods classes

as_many_from : (scope : PlainScope) (count : ℕ) (members : List Member) → length (methods_from scope count members) ≡ length (methods_in members)
as_many_from scope count [] = refl
as_many_from scope count (member.Regions is_atomic declared ∷ members) = as_many_from scope (count + 0) members
as_many_from scope count (member.Field field ∷ members) = as_many_from scope (count + 0) members
as_many_from scope count (member.Method method ∷ members) = ap suc (as_many_from scope (count + 1) members)

as_many_meant : (headers : Headers) (all : List (List Constraint)) (at count : ℕ) (classes : List Class) → length (methods_meant headers all at count classes) ≡ length (all_methods classes)
as_many_meant headers all at count [] = refl
as_many_meant headers all at count (class ∷ classes) =
    let scope = class_scope headers all (as_number at) in
    let own = methods_from scope count class.members in
    length-append own (methods_meant headers all (at + 1) (count + length own) classes)
    ∙ ap (λ n. n + length (methods_meant headers all (at + 1) (count + length own) classes)) (as_many_from scope count class.members)
    ∙ ap (λ n. length (methods_in class.members) + n) (as_many_meant headers all (at + 1) (count + length own) classes)
    ∙ sym (length-append (methods_in class.members) (all_methods classes))

pub rows_many : (program : Program) (table : Table) → IsReadOf program.classes table → length (methods_of table) ≡ length (all_methods program.classes)
rows_many program table read =
    sym (length-map (methods_of table) plain_method) ∙ ap length read.methods ∙ as_many_meant (headers_of table) table.given 0 0 program.classes
