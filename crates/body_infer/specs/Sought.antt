-- A field that is looked for by its slot, from the class at the top down.
use Rattle.std.specs.Prelude.{ℕ, ◌-◌, length, Option, None, Some, option_map, slice_get}
use Rattle.lang_typed.specs.declared.program.Class.{Class}
use Rattle.lang_typed.specs.Plain.{PlainField, field_with, plain_field, plain_parent}
use Rattle.body_infer.specs.declared.fields.Sought.{Sought}

-- the field, once it is found, and how many fields stand before it from here on
pub record PlainSought : Type 0 where
  pub found : Option PlainField
  pub further : ℕ

abbrev pub plain_sought : Sought → PlainSought
plain_sought s = record { found = option_map plain_field s.found; further = s.further }

abbrev pub found_in : Class → ℕ → Option PlainField → Option PlainField
found_in c at None = option_map plain_field (slice_get c.fields at)
found_in c at (Some f) = option_map (λ p. field_with p.args f) (option_map plain_parent c.parent)

-- what is known of it in a class, where this is known in its superclass: one that is found has the region arguments put in
abbrev pub sought_in : Class → PlainSought → PlainSought
sought_in c s = record { found = found_in c s.further s.found; further = s.further - length c.fields }
