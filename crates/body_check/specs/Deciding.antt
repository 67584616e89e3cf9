-- When a node of a body is refused, by what was found of its parts.
use Rattle.std.specs.Prelude.{List, Bool, true, false, not, ◌&&◌, ◌||◌, cond, Option, Some, None, Result, Ok, Err}
use Rattle.lang_base.specs.declared.place.Place.{Place}
use Rattle.lang_base.specs.declared.refusal.Kind.{Kind}
use Rattle.lang_base.specs.declared.refusal.Kind.TheVariants as kind
use Rattle.lang_base.specs.declared.refusal.Stop.{Stop}
use Rattle.lang_base.specs.Effects.{same_bool}
use Rattle.lang_base.specs.Regions.{fully_specified}
use Rattle.lang_base.specs.Types.{PlainType, plain_type}
use Rattle.lang_base.specs.Types.PlainType.{array}
use Rattle.lang_base.specs.declared.ty.Super.{Super}
use Rattle.decl_table.specs.declared.rows.MethodRow.{MethodRow}
use Rattle.syntax_tree.specs.declared.class.MethodResult.{MethodResult}
use Rattle.syntax_tree.specs.declared.class.MethodResult.TheVariants as given
use Rattle.body_exprs.specs.Refusing.{refusal_at}
use Rattle.body_exprs.specs.Fits.{fits_as}
use Rattle.body_exprs.specs.Typed.{may_be, is_value}
use Rattle.body_check.specs.declared.node.Around.{Around}
use Rattle.body_check.specs.declared.leaving.Marks.{Marks}
use Rattle.body_check.specs.declared.leaving.Marks.TheVariants as marks

-- the fault that is reported at a place, if there is one
abbrev pub reported_at : Place → Option Kind → Result (Unit {0}) Stop
reported_at place None = Ok tt
reported_at place (Some k) = Err (refusal_at k place)

abbrev pub has_value : MethodResult → Bool
has_value (given.Value ty) = true
has_value r = false

-- after a body: one with a result completes, or its effects aren't covered by the summary, or it has more formals than
-- get a slot
abbrev pub method_fault : Bool → Bool → Bool → Bool → Option Kind
method_fault has_result completes covered has_slots =
    cond (has_result && completes) (Some kind.Return) (cond covered (cond has_slots None (Some kind.TooLong)) (Some kind.Summary))

-- a `return` stands in a branch or an atomic block, or has no value in a method with a result, or one in another
abbrev pub is_misplaced : Around → Bool → Bool
is_misplaced around valued = around.enclosed || not (same_bool valued around.has_result)

-- an assignment to a local: the value doesn't fit, or the local is final
abbrev pub local_fault : Bool → Bool → Option Kind
local_fault fit is_final = cond fit (cond is_final (Some kind.Assign) None) (Some kind.Type)

abbrev pub interference : Bool → Kind
interference nd = cond nd kind.InterferesNd kind.Interferes

-- after an nd construct marks are kept, and after any other they are dropped
abbrev pub marks_after : Bool → Marks
marks_after nd = cond nd marks.Kept marks.Dropped

-- a value may be returned: it fits the result of the method, or where the method has none it is a value at all
abbrev pub may_return : List Super → Bool → Option MethodRow → Option PlainType → Bool
may_return supers true (Some row) value = fits_as supers value (plain_type row.result)
may_return supers true None value = may_be is_value value
may_return supers false row value = may_be is_value value

-- what is wrong with what is cut into parts: it is no array, or one with an index name, or its path isn't fully
-- specified
abbrev pub whole_fault : PlainType → Option Kind
whole_fault (array elem rpl false) = cond (fully_specified rpl) None (Some kind.RegionArgs)
whole_fault (array elem rpl true) = Some kind.Type
whole_fault t = Some kind.Type
