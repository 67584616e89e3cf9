-- What a field or an element holds before it is assigned.
use Rattle.std.specs.Prelude.{pos, false}
use Rattle.lang_base.specs.declared.value.FirstValue.{FirstValue}
use Rattle.lang_base.specs.declared.value.FirstValue.TheVariants as first
use Rattle.lang_base.specs.declared.value.Value.{Value}
use Rattle.lang_base.specs.declared.value.Value.TheVariants as value
use Rattle.lang_base.specs.Types.{PlainType}
use Rattle.lang_base.specs.Types.{PlainType as ty}

-- by its type
abbrev pub first_value : PlainType → FirstValue
first_value ty.int = first.Zero
first_value ty.boolean = first.False
first_value t = first.Null

abbrev pub constant_of : FirstValue → Value
constant_of first.Zero = value.Int (pos 0)
constant_of first.False = value.Bool false
constant_of first.Null = value.Null
