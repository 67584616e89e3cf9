-- From which methods and constructors to which others calls, creations and overriding lead, and which of them reach an
-- nd construct.
use Rattle.std.specs.Prelude.{ℕ, ◌+◌, Bool, List, [], ◌∷◌, ◌++◌, map, length}
use Rattle.std.specs.List.{flat_map}
use Rattle.syntax_tree.specs.declared.class.Class.{Class}
use Rattle.syntax_tree.specs.declared.class.Member.{Member}
use Rattle.syntax_tree.specs.declared.class.Member.TheVariants as member
use Rattle.decl_headers.specs.Numbers.{as_number}
use Rattle.decl_reach.specs.declared.reach.Edge.{Edge}
use Rattle.decl_table.specs.declared.table.Table.{Table}
use Rattle.decl_table.specs.Table.{methods_of}
use Rattle.decl_reach.specs.Bodies.{own_marks, class_marks, override_edges}
use Rattle.decl_reach.specs.Calls.{body_calls}
use Rattle.decl_reach.specs.Reach.{reaching}

abbrev pub edges_from : ℕ → List ℕ → List Edge
edges_from from called = map (λ to. record { from = from; to = to }) called

-- from a member of a class that is a method, where so many stand before it in the text
abbrev pub member_edges : Table → ℕ → ℕ → Member → List Edge
member_edges table number count (member.Regions is_atomic names) = []
member_edges table number count (member.Field declared) = []
member_edges table number count (member.Method method) = edges_from (as_number count) (body_calls table number method)

abbrev pub class_edges : Table → ℕ → ℕ → List Member → List Edge
class_edges table number count [] = []
class_edges table number count (member ∷ members) =
    member_edges table number count member ++ class_edges table number (count + length (own_marks member)) members

-- from the methods of classes, which are counted on from a number
abbrev pub call_edges : Table → ℕ → ℕ → List Class → List Edge
call_edges table at count [] = []
call_edges table at count (class ∷ classes) =
    class_edges table (as_number at) count class.members ++ call_edges table (at + 1) (count + length (class_marks class)) classes

-- the table before it says what forks, in which calls are looked up
abbrev pub without_forks : Table → Table
without_forks table = record table { forks = [] }

-- of all classes, and from each method to those that override it
abbrev pub edges_in : Table → List Class → List Edge
edges_in table classes = call_edges table 0 0 classes ++ override_edges table (methods_of table)

-- of each method and constructor, whether an nd construct is reached through it: one is in its body, or a call, a creation
-- or an overriding method leads from it to one of which that is so
abbrev pub forks_in : Table → List Class → List Bool
forks_in table classes = reaching (edges_in table classes) (flat_map class_marks classes)
