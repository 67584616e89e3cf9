-- Uses through a receiver whose region arguments aren't all fully specified.
use Rattle.std.specs.Prelude.{ℕ, ◌+◌, min, Bool, false, not, ◌&&◌, ◌||◌, List, [], ◌∷◌}
use Rattle.lang_base.specs.declared.region.Rpl.{Rpl}
use Rattle.lang_base.specs.Regions.{fully_specified}
use Rattle.lang_base.specs.declared.ty.Ty.{Ty}
use Rattle.lang_base.specs.Types.{PlainType, plain_type, mentions_param, rigid_in_param}
use Rattle.decl_table.specs.declared.rows.MethodRow.{MethodRow}

-- parameters have numbers of 32 bits; no text has more of them
abbrev pub param_number : ℕ → ℕ
param_number p = min p 4294967295

-- an argument isn't fully specified, and the type mentions its parameter; the parameters are counted on from a number
abbrev pub mentions_partial : PlainType → ℕ → List Rpl → Bool
mentions_partial t p [] = false
mentions_partial t p (a ∷ args) = (not (fully_specified a) && mentions_param (param_number p) t) || mentions_partial t (p + 1) args

-- the same for a parameter in which the type is rigid
abbrev pub rigid_in_partial : PlainType → ℕ → List Rpl → Bool
rigid_in_partial t p [] = false
rigid_in_partial t p (a ∷ args) = (not (fully_specified a) && rigid_in_param (param_number p) t) || rigid_in_partial t (p + 1) args

abbrev pub some_mention_partial : List Rpl → List Ty → Bool
some_mention_partial owned [] = false
some_mention_partial owned (t ∷ ts) = mentions_partial (plain_type t) 0 owned || some_mention_partial owned ts

-- a call through a receiver: for the type of a formal, or for a result type that is rigid in it
abbrev pub is_partial_call : List Rpl → MethodRow → Bool
is_partial_call owned row = some_mention_partial owned row.params || rigid_in_partial (plain_type row.result) 0 owned
