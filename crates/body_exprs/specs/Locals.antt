-- Locals by their names, and the lengths of parts.
use Rattle.std.specs.Prelude.{ℕ, cond, Option, Some, None, Result, Ok, Err}
use Rattle.lang_base.specs.declared.place.Place.{Place}
use Rattle.lang_base.specs.declared.refusal.Kind.TheVariants as kind
use Rattle.lang_base.specs.declared.refusal.Refusal.{Refusal}
use Rattle.lang_base.specs.Types.{plain_type}
use Rattle.decl_headers.specs.Passes.{fault}
use Rattle.syntax_tree.specs.Plain.{PlainExpr}
use Rattle.lang_typed.specs.Plain.{TypedExpr, typed}
use Rattle.lang_typed.specs.Plain.{ExprForm as form}
use Rattle.body_exprs.specs.declared.env.Env.{Env}
use Rattle.body_exprs.specs.declared.env.LocalRow.{LocalRow}
use Rattle.body_exprs.specs.Env.{part_of, is_length_name}

-- a local by its name: it is in scope, and no part of an array
abbrev pub local_typed : Option LocalRow → Place → Result TypedExpr Refusal
local_typed None place = Err (fault kind.Unknown place)
local_typed (Some row) place = cond row.is_part (Err (fault kind.Type place)) (Ok (typed place (plain_type row.ty) (form.local row.slot)))

-- the part of an array whose length a field is
abbrev pub measured : Env → PlainExpr → ℕ → Option LocalRow
measured env of name = cond (is_length_name env name) (part_of env of) None
