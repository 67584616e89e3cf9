-- Fields through a receiver.
use Rattle.std.specs.Prelude.{ℕ, Bool, not, ◌&&◌, cond, List, Option, Some, None, Result, Ok, Err}
use Rattle.lang_base.specs.declared.place.Place.{Place}
use Rattle.lang_base.specs.declared.refusal.Kind.TheVariants as kind
use Rattle.lang_base.specs.declared.refusal.Refusal.{Refusal}
use Rattle.lang_base.specs.declared.region.Rpl.{Rpl}
use Rattle.lang_base.specs.Regions.{substituted}
use Rattle.lang_base.specs.Types.{PlainType, plain_type, type_with}
use Rattle.lang_base.specs.Types.{PlainType as ty}
use Rattle.decl_headers.specs.Passes.{fault}
use Rattle.decl_table.specs.declared.rows.FieldRow.{FieldRow}
use Rattle.decl_table.specs.declared.table.Table.{Table}
use Rattle.decl_table.specs.Table.{field_of, args_at}
use Rattle.lang_typed.specs.Plain.{TypedExpr, typed, type_of, field, array_length}
use Rattle.body_exprs.specs.declared.env.Env.{Env}
use Rattle.body_exprs.specs.declared.fields.FieldAt.{FieldAt}
use Rattle.body_exprs.specs.declared.found.Found.{Found}
use Rattle.body_exprs.specs.Answer.{Answer, gives, refused, read}
use Rattle.body_exprs.specs.Env.{table_of, is_length_name}
use Rattle.body_exprs.specs.Partial.{mentions_partial, rigid_in_partial}
use Rattle.body_exprs.specs.Typed.{is_array}

-- a field as it is through a receiver of a class, with its slot in objects
pub record PlainField : Type 0 where
  pub class : ℕ
  pub slot : ℕ
  pub ty : PlainType
  pub rpl : Rpl
  pub may_read : Bool
  pub may_write : Bool

abbrev pub plain_field : FieldAt → PlainField
plain_field seen = record { class = seen.class; slot = seen.slot; ty = plain_type seen.ty; rpl = seen.rpl; may_read = seen.may_read; may_write = seen.may_write }

-- a field with region arguments put in. Where one of them isn't fully specified, the field isn't written if its type
-- mentions it, nor read if its type is rigid in it
abbrev pub field_with : ℕ → FieldRow → List Rpl → PlainField
field_with class row args =
    record {
      class = class;
      slot = row.slot;
      ty = type_with args (plain_type row.ty);
      rpl = substituted args row.rpl;
      may_read = not (rigid_in_partial (plain_type row.ty) 0 args);
      may_write = not (mentions_partial (plain_type row.ty) 0 args);
    }

-- with the region arguments of the class that declares it, which is the receiver's class or a superclass
abbrev pub owned_field : ℕ → FieldRow → Option (List Rpl) → Place → Result PlainField Refusal
owned_field class row None place = Err (fault kind.Type place)
owned_field class row (Some args) place = Ok (field_with class row args)

-- the name is that of a field
abbrev pub named_field : Table → ℕ → List Rpl → Option FieldRow → Place → Result PlainField Refusal
named_field table class args None place = Err (fault kind.Unknown place)
named_field table class args (Some row) place = owned_field class row (args_at table class args row.owner) place

-- the field of that name through a receiver, which has a class
abbrev pub field_through : Table → PlainType → ℕ → Place → Result PlainField Refusal
field_through table (ty.class class args) name place = named_field table class args (field_of table class name) place
field_through table t name place = Err (fault kind.Type place)

abbrev pub field_read : TypedExpr → Result PlainField Refusal → Place → Found → Answer
field_read e (Ok seen) place found = read seen.may_read (typed place seen.ty (field e seen.class seen.slot)) seen.rpl place found
field_read e (Err refusal) place found = refused refusal

-- a field, or the length of an array, of what a receiver gives
abbrev pub read_field : Env → Option TypedExpr → ℕ → Place → Found → Answer
read_field env None name place found = gives None found
read_field env (Some e) name place found =
    cond (is_array (type_of e) && is_length_name env name) (gives (Some (typed place ty.int (array_length e))) found)
    (field_read e (field_through (table_of env) (type_of e) name place) place found)
