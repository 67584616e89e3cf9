-- What bodies hold, and what leads from a method to those that override it.
use Rattle.std.specs.Prelude.{Bool, false, ◌||◌, List, [], ◌∷◌, map}
use Rattle.std.specs.List.{flat_map}
use Rattle.std.specs.Option.{option_map_or}
use Rattle.syntax_tree.specs.declared.class.Class.{Class}
use Rattle.syntax_tree.specs.declared.class.Member.{Member}
use Rattle.syntax_tree.specs.declared.class.Member.TheVariants as member
use Rattle.syntax_tree.specs.Nd.{holds_nd, some_holds_nd}
use Rattle.syntax_tree.specs.Plain.{PlainStmt, statement, foreach, foreach_parts, plain_stmt, plain_stmts}
use Rattle.decl_reach.specs.declared.reach.Edge.{Edge}
use Rattle.decl_table.specs.declared.rows.MethodRow.{MethodRow}
use Rattle.decl_table.specs.declared.table.Table.{Table}
use Rattle.decl_table.specs.Table.{overridden_by}

-- the statement is a `foreach_nd`, or a foreach or a `foreach_parts` in whose body nd is
abbrev pub foreach_holds_nd : PlainStmt → Bool
foreach_holds_nd (statement place (foreach nd var start count body)) = nd || holds_nd body
foreach_holds_nd (statement place (foreach_parts view var array count body)) = holds_nd body
foreach_holds_nd s = false

-- whether the body of a method or a constructor holds nd; what is neither has none
abbrev pub own_marks : Member → List Bool
own_marks (member.Regions is_atomic names) = []
own_marks (member.Field declared) = []
own_marks (member.Method method) = some_holds_nd (plain_stmts (map plain_stmt method.body)) ∷ []

-- the same of each method and constructor of a class
abbrev pub class_marks : Class → List Bool
class_marks class = flat_map own_marks class.members

-- from a method that is overridden to the one that overrides it
abbrev pub override_edge : Table → MethodRow → List Edge
override_edge table row = option_map_or (λ above. record { from = above; to = row.id } ∷ []) (overridden_by table row.id) []

abbrev pub override_edges : Table → List MethodRow → List Edge
override_edges table rows = flat_map (override_edge table) rows
