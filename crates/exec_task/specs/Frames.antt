-- The frame with which a body is entered.
use Rattle.std.specs.Prelude.{ℕ, List, []}
use Rattle.lang_meaning.specs.Values.{Value, Region, Naming}
use Rattle.lang_meaning.specs.Actions.{Frame}
use Rattle.lang_meaning.specs.Counts.{padded}
use Rattle.lang_meaning.specs.Regions.{unmade_from}
use Rattle.code_instrs.specs.Machine.{Level}
use Rattle.code_instrs.specs.Plain.{PlainCode, body_at}

abbrev pub frame_of : {N M : Type 0} → Naming N M → PlainCode → ℕ → List (Value N) → List (Region M) → ℕ → Frame N M
frame_of names C j vs regions left = record {
  values = padded (body_at C j).slots vs;
  regions = regions;
  locals = unmade_from names 0 (body_at C j).local_regions;
  left = left;
}

abbrev pub first_level : {N M : Type 0} → Naming N M → PlainCode → ℕ → List (Value N) → List (Region M) → ℕ → Level N M
first_level names C j vs regions left = record { body = j; at = 0; frame = frame_of names C j vs regions left; stack = [] }
