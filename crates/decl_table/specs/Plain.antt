-- The rows of the class table with plain types.
use Rattle.std.specs.Prelude.{ℕ, Bool, List, map}
use Rattle.lang_base.specs.declared.effect.Constraint.{Constraint}
use Rattle.lang_base.specs.declared.effect.Effect.{Effect}
use Rattle.lang_base.specs.declared.place.Place.{Place}
use Rattle.lang_base.specs.declared.region.Rpl.{Rpl}
use Rattle.lang_base.specs.declared.ty.Super.{Super}
use Rattle.lang_base.specs.Types.{PlainType, plain_type}
use Rattle.decl_headers.specs.declared.header.ParamRow.{ParamRow}
use Rattle.decl_table.specs.declared.rows.FieldRow.{FieldRow}
use Rattle.decl_table.specs.declared.rows.MethodRow.{MethodRow}

-- a superclass with its region arguments, a field and a method, with plain types
pub record PlainSuper : Type 0 where
  pub class : ℕ
  pub parent : PlainType

pub record PlainField : Type 0 where
  pub name : ℕ
  pub slot : ℕ
  pub owner : ℕ
  pub ty : PlainType
  pub rpl : Rpl

pub record PlainMethod : Type 0 where
  pub id : ℕ
  pub owner : ℕ
  pub name : ℕ
  pub place : Place
  pub is_constructor : Bool
  pub regions : List ParamRow
  pub given : List Constraint
  pub params : List PlainType
  pub result : PlainType
  pub summary : List Effect

abbrev pub plain_super : Super → PlainSuper
plain_super row = record { class = row.class; parent = plain_type row.parent }

abbrev pub plain_field : FieldRow → PlainField
plain_field row = record { name = row.name; slot = row.slot; owner = row.owner; ty = plain_type row.ty; rpl = row.rpl }

abbrev pub plain_method : MethodRow → PlainMethod
plain_method row = record {
  id = row.id;
  owner = row.owner;
  name = row.name;
  place = row.place;
  is_constructor = row.is_constructor;
  regions = row.regions;
  given = row.given;
  params = map plain_type row.params;
  result = plain_type row.result;
  summary = row.summary;
}
