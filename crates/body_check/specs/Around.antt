-- What a statement stands in.
use Rattle.std.specs.Prelude.{Bool, true, false}
use Rattle.body_check.specs.declared.node.Around.{Around}

-- what stands in the body of a method, with a result or without one
abbrev pub method_around : Bool → Around
method_around has_result = record { has_result = has_result; enclosed = false }

-- what stands in a branch or in an atomic block there
abbrev pub inside : Around → Around
inside around = record around { enclosed = true }
